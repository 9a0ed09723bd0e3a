use Rattle.std.proofs.Common.{ℕ, List, [], get_or, ap, ◌∙◌}
use Rattle.lists.proofs.Slices.{record-of}
use Rattle.lists.proofs.records.Records.at.Goals as goal

pub returns : goal.returns
returns c =
    let x = c.args.self.now
    in ap (λ (rs : List (List ℕ)). get_or rs c.args.number []) c.items.ensures.value ∙ record-of x.count c.args.number x.bytes.now [] c.requires
