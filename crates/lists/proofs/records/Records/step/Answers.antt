use Rattle.std.proofs.Common.{ℕ, List, ap, ◌∙◌}
use Rattle.lists.specs.ListRecords.{step_at}
use Rattle.lists.proofs.Slices.{step-of}
use Rattle.lists.proofs.records.Records.step.Goals as goal

pub returns : goal.returns
returns c = c.step.ensures ∙ ap (λ (r : List ℕ). step_at r 0) c.at.ensures ∙ step-of c.args.self.now.bytes.now c.args.number
