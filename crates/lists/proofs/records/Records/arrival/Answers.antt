use Rattle.std.proofs.Common.{ℕ, List, ap, ◌∙◌}
use Rattle.lists.specs.ListRecords.{arrival_at}
use Rattle.lists.proofs.Slices.{arrival-of}
use Rattle.lists.proofs.records.Records.arrival.Goals as goal

pub returns : goal.returns
returns c = c.arrival.ensures ∙ ap (λ (r : List ℕ). arrival_at r 0) c.at.ensures ∙ arrival-of c.args.self.now.bytes.now c.args.number
