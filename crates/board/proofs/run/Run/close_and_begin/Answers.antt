use Rattle.std.proofs.Common.{◌≡◌, true, Decides, sym, ap, ◌∙◌, subst}
use Rattle.rating.specs.Bounds.{is_accepted}
use Rattle.rating.specs.Closing.{Accepts, BoundsRead, LateBy}
use Rattle.rating.specs.Ranked.{ranked}
use Rattle.rating.specs.Rankings.{Agrees}
use Rattle.rating.specs.Ratings.{bounds_at, draft_in, verdict_in}
use Rattle.rows.specs.Drafts.{rows_of}
use Rattle.board.proofs.Starts.{assured, serves}
use Rattle.board.proofs.run.Run.close_and_begin.Goals as goal

-- the run has the rating that closing made
pub returns : goal.returns
returns g c =
    let m = g.A.Order.sequence c.args.memory_order in
    let p = g.B.Order.sequence c.args.processor_order in
    let r = c.begin.result in
    let closed = c.close.ensures in
    let back = sym c.begin.ensures.new.1.0 in
    let kept = ap draft_in c.begin.ensures.new.1.0 ∙ closed.kept.0 in
    record {
      new = (
        c.begin.ensures.new.0,
        (
          kept,
          (
            ap (λ x. x.memory_order) c.begin.ensures.new.1.0 ∙ closed.kept.1.0,
            (ap (λ x. x.processor_order) c.begin.ensures.new.1.0 ∙ closed.kept.1.1, c.begin.ensures.new.1.1),
          ),
        ),
      );
      exact = subst (λ x. Decides (is_accepted (verdict_in x)) (Accepts (rows_of c.args.draft) m.before p.before)) back closed.exact;
      bounds = subst (λ x. is_accepted (verdict_in x) ≡ true → BoundsRead (rows_of c.args.draft) m.before p.before (bounds_at x)) back closed.bounds;
      late = subst (λ x. LateBy (rows_of c.args.draft) m.before p.before (verdict_in x)) back closed.late;
      serves =
          serves g.P.Pledge.view m p r (rows_of c.args.draft) (ap rows_of kept)
          (subst (λ x. Agrees m.before (rows_of c.args.draft) (ranked x.analysis.ranked.memory)) back closed.memory)
          (subst (λ x. Agrees p.before (rows_of c.args.draft) (ranked x.analysis.ranked.processor)) back closed.processor);
      assured = assured g.P.Pledge.view m p r (rows_of c.args.draft) (ap rows_of kept) c.begin.ensures.new.0;
    }
