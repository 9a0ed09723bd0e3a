use Rattle.std.proofs.Common.{◌≡◌, ℕ, set, ◌≢◌, sym, ap, ◌∙◌, subst, ⊎_elim, arith, below_more, rules}
use Rattle.std.proofs.lemmas.Bool.{cases_lt}
use Rattle.lists.specs.Places.{place_of}
use Rattle.lists.specs.ListRecords.{sought}
use Rattle.lists.specs.declared.list.places.Place.{Place}
use Rattle.feeds.specs.declared.mark.Mark.{Mark}
use Rattle.lists.proofs.Standing.{put-moved}
use Rattle.lists.proofs.list.places.first_places.Goals as goal

pub loop-k-init : goal.loop-k-init
loop-k-init c = ((λ k h. absurd (omega arith)), search rules)

pub loop-k-preserved : goal.loop-k-preserved
loop-k-preserved c =
    let x = c.args.records.now
    in let i = c.loop-k.k-index
    in let mark : c.k-item.result.value ≡ i = ap (λ (m : Mark). m.value) c.k-item.is ∙ c.all-k-items.ensures c.k-item.result i c.loop-k-test.true
    in let place : Place = record { cursor = c.seek-cursor.result; rest = 0 }
    in let moved = put-moved c.loop-k.places c.k-item.result.value place c.set.new.self (omega (arith, mark, c.loop-k-test.true))
    (c.set.ensures ∙ ap (λ (m : Mark). set c.loop-k.places.entries m.value place) (sym c.k-item.is))
    in let other : (k : ℕ) → (k ≢ i) → place_of c.set.new.self k ≡ place_of c.loop-k.places k = λ k ne. moved.others k (λ e. ne (e ∙ mark))
    in let cursor : c.seek-cursor.result ≡ sought x.bytes.now x.count i 0 =
    c.seek-cursor.ensures.value ∙ ap (λ k. sought x.bytes.now x.count k 0) (c.index.ensures.value ∙ sym (ap (λ (m : Mark). m.value) c.k-item.is) ∙ mark)
    in let here = subst (λ (k : ℕ). place_of c.set.new.self k ≡ place) mark moved.here
    in (
      below_more _ _ (λ k h. other k (λ e. absurd (omega (arith, e))) ∙ c.loop-k.invariant.0 k h) (here ∙ ap (λ (n : ℕ). record { cursor = n; rest = 0 }) cursor),
      (λ k h. other k (λ e. absurd (omega (arith, e))) ∙ c.loop-k.invariant.1 k (omega arith)),
    )

pub returns : goal.returns
returns c =
    let rest : Place → ℕ = λ place. place.rest
    in record {
      marks = λ k h. c.loop-k.invariant.0 k (omega (arith, c.loop-k-test.false));
      rests = λ k. ⊎_elim (λ h. ap rest (c.loop-k.invariant.0 k h)) (λ h. ap rest (c.loop-k.invariant.1 k h)) (cases_lt k c.loop-k.k-index);
    }
