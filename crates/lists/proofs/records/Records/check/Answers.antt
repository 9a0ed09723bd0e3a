use Rattle.std.proofs.Common.{◌≡◌, ℕ, List, [], get_or, Ok, sym, refl, ap, ◌∙◌, arith, below_more}
use Rattle.std.proofs.lemmas.Result.{err_from_is_err_and}
use Rattle.lists.specs.ListRecords.{checked_at, record_at}
use Rattle.lists.proofs.Sounding.{checked-of, faulty, numbered-bad, numbered-sound, step-on}
use Rattle.lists.proofs.Slices.{record-of}
use Rattle.lists.proofs.records.Records.check.Goals as goal

pub loop-number-init : goal.loop-number-init
loop-number-init c = (refl, λ j h. absurd (omega arith))

pub loop-number-preserved : goal.loop-number-preserved
loop-number-preserved c =
    let x = c.args.self.now
    in let i = c.loop-number.number
    in let here : get_or c.items-bytes-items.result.now i [] ≡ record_at x.bytes.now i =
    ap (λ (rs : List (List ℕ)). get_or rs i []) c.items-bytes-items.ensures.value ∙ record-of x.count i x.bytes.now [] (omega (arith, c.items-bytes-items.ensures.length))
    in let sound : checked_at x.bytes.now i ≡ Ok tt =
    sym (checked-of x.bytes.now i c.loop-number.earlier _ here c.loop-number.invariant.0)
    ∙ numbered-sound i _ (sym c.check_numbered.ensures ∙ c.in_ok-check_numbered.was)
    in (c.step-earlier.ensures ∙ step-on x.bytes.now i _ here, below_more _ _ c.loop-number.invariant.1 sound)

pub returns-in_err-check_numbered : goal.returns-in_err-check_numbered
returns-in_err-check_numbered c =
    let x = c.args.self.now
    in let i = c.loop-number.number
    in let here : get_or c.items-bytes-items.result.now i [] ≡ record_at x.bytes.now i =
    ap (λ (rs : List (List ℕ)). get_or rs i []) c.items-bytes-items.ensures.value ∙ record-of x.count i x.bytes.now [] (omega (arith, c.items-bytes-items.ensures.length))
    in let bad = numbered-bad i _ _ (sym c.check_numbered.ensures ∙ c.in_err-check_numbered.was)
    in let p = err_from_is_err_and c.from_residual.result c.from_residual.ensures.1
    in rw (p.1, p.2)
    (faulty x.bytes.now x.count i _ bad.0 (omega (arith, c.items-bytes-items.ensures.length))
    (sym (checked-of x.bytes.now i c.loop-number.earlier _ here c.loop-number.invariant.0) ∙ bad.1) c.loop-number.invariant.1)

pub returns : goal.returns
returns c = (refl, λ j h. c.loop-number.invariant.1 j (omega (arith, c.items-bytes-items.ensures.length)))
