use Rattle.std.proofs.Common.{set, length, get_or, get_or-set_other, get_or-set_same, arith, ◌≡◌, ℕ, ◌-◌, ◌<◌, false, eqb, ltb, List, Some, None, sym, refl, ap, ◌∙◌, subst, ⊎_elim}
use Rattle.std.proofs.lemmas.Bool.{and_parts, both_ways, cases_eq, cond_both, ltb-true}
use Rattle.std.specs.Option.{option_map}
use Rattle.lists.specs.ListRecords.{sought}
use Rattle.lists.specs.Lists.{OfMark, cursor_of, figures_of, is_due, next_of, offer_of, rest_of}
use Rattle.lists.specs.Places.{blank, Moved, Placed, place_of}
use Rattle.lists.specs.Walks.{seek_own, seek_stays}
use Rattle.lists.specs.declared.list.List.{List as Listed}
use Rattle.lists.specs.declared.list.places.Place.{Place}
use Rattle.feeds.specs.declared.per_mark.PerMark.{PerMark}

-- a mark stands at a record of its own, or at the end
abbrev pub Stands : List ℕ → ℕ → ℕ → Place → Type 0
Stands bs n k place = sought bs n k place.cursor ≡ place.cursor

abbrev pub Standing : List ℕ → ℕ → PerMark Place → Type 0
Standing bs n p = (k : ℕ) → k < 32 → Stands bs n k (place_of p k)

-- where a walk ends, the mark stands
sought-stands : (bs : List ℕ) (n k i cursor : ℕ) → cursor ≡ sought bs n k i → sought bs n k cursor ≡ cursor
sought-stands bs n k i cursor e = ap (sought bs n k) e ∙ seek_stays bs n k (n - i) i refl ∙ sym e

-- every mark stands at first
pub placed-standing : (bs : List ℕ) (n : ℕ) (p : PerMark Place) → Placed bs n p → Standing bs n p
placed-standing bs n p made k h = sought-stands bs n k 0 (place_of p k).cursor (ap (λ (place : Place). place.cursor) (made.marks k h))

-- one value is put in place of that of a mark
pub put-moved : (p : PerMark Place) (k : ℕ) (place : Place) (q : PerMark Place) → k < 32 → q.entries ≡ set p.entries k place → Moved p k place q
put-moved p k place q h e =
    let within : k < length p.entries = omega (arith, p.full)
    in record {
      here = ap (λ es. get_or es k blank) e ∙ rw get_or-set_same refl;
      others = λ j ne. ap (λ es. get_or es j blank) e ∙ rw get_or-set_other refl;
    }

-- and still does after one has gone on to its next record
pub moved-standing : (bs : List ℕ) (n : ℕ) (p : PerMark Place) (k i : ℕ) (place : Place) (q : PerMark Place) → place.cursor ≡ sought bs n k i → Moved p k place q → Standing bs n p → Standing bs n q
moved-standing bs n p k i place q e moved before j h =
    ⊎_elim (λ same. subst (λ j. Stands bs n j (place_of q j)) (sym same) (subst (Stands bs n k) (sym moved.here) (sought-stands bs n k i place.cursor e)))
    (λ other. subst (Stands bs n j) (sym (moved.others j other)) (before j h))
    (cases_eq j k)

-- what a list offers at a mark is of that mark
pub offer_own : (x : Listed) (k : ℕ) → OfMark x k (offer_of x k)
offer_own x k =
    cond_both (is_due x k) (Some (next_of x k)) None (λ o. OfMark x k (option_map (figures_of x) o))
    (λ e some.
    let p = and_parts (eqb (rest_of x k) 0) _ e
    in let q = and_parts (ltb (next_of x k) x.count) _ p.1
    in seek_own x.bytes.now x.count k (cursor_of x k) (ltb-true (next_of x k) x.count q.0))
    (λ e none. absurd (both_ways false refl none))
