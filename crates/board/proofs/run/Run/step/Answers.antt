use Rattle.std.proofs.Common.{refl, arith}
use Rattle.rating.specs.declared.verdict.Phase.TheVariants.{Memory, Processor}
use Rattle.board.specs.Rules.{slot_at}
use Rattle.board.proofs.Parts.{small, went}
use Rattle.board.proofs.run.Run.step.Goals as goal

pub serve_row-requires : goal.serve_row-requires
serve_row-requires g c = small c.admit.new.self Memory _ c.served-memory.ensures

pub serve_row-requires-2 : goal.serve_row-requires-2
serve_row-requires-2 g c = small c.admit.new.self Processor _ c.served-processor.ensures

pub returns : goal.returns
returns g c = (
  omega arith,
  went g.P.Pledge.view c.args.self.now c.admit.new.self _ _ record {
    entered = c.admit.ensures;
    step = refl;
    memory = c.served-memory.ensures;
    processor = c.served-processor.ensures;
    finishes = c.finishing-finished.ensures;
    middle = slot_at c.serve_row.new.places;
    loads = c.serve_row.ensures;
    computes = c.serve_row-2.ensures;
    advanced = c.advance.ensures;
    number = refl;
    rating = refl;
  },
)
