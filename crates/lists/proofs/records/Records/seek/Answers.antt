use Rattle.std.proofs.Common.{◌≡◌, ℕ, ◌+◌, ◌-◌, drop, length, take, Some, None, sym, ap, ◌∙◌, subst, arith}
use Rattle.std.proofs.lemmas.List.{length-drop, take_rest}
use Rattle.lists.specs.ListRecords.{FirstOfRow}
use Rattle.lists.proofs.Seeking.{first-sought, found}
use Rattle.lists.proofs.records.Records.seek.Goals as goal

pub returns-in-Some : goal.returns-in-Some
returns-in-Some c =
    let x = c.args.self.now
    in let from = c.args.from
    in let later = take_rest c.items.result.now from ∙ ap (drop from) c.items.ensures.value
    in let first = found x.bytes.now x.count c.args.row from _ (Some c.in-Some.passed) c.requires later (sym c.in-Some.is ∙ c.first_of.ensures.value)
    in record { value = first-sought x.bytes.now x.count c.args.row from _ first; first = first }

pub returns-in-None : goal.returns-in-None
returns-in-None c =
    let x = c.args.self.now
    in let from = c.args.from
    in let later = take_rest c.items.result.now from ∙ ap (drop from) c.items.ensures.value
    in let end : from + length (take (length c.items.result.now - from) (drop from c.items.result.now)) ≡ x.count =
    ap (λ (n : ℕ). from + n) (ap length (take_rest c.items.result.now from) ∙ length-drop from c.items.result.now)
    ∙ omega (arith, c.items.ensures.length, c.requires)
    in let first = subst (FirstOfRow x.bytes.now x.count c.args.row from) end
    (found x.bytes.now x.count c.args.row from _ None c.requires later (sym c.in-None.is ∙ c.first_of.ensures.value))
    in record { value = first-sought x.bytes.now x.count c.args.row from _ first; first = first }
