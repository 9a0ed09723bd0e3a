-- The marks of the first rows.
use Rattle.std.proofs.Common.{◌≡◌, ℕ, ◌<◌, List, length, get_or, take, ap, ◌∙◌, arith}
use Rattle.std.proofs.lemmas.List.{get_or-take, length-take}
use Rattle.feeds.specs.declared.mark.Mark.{Mark}

-- the mark at a place among the first n of all marks has the number of the place
pub front_mark : (all : List Mark) (n i : ℕ) (m d : Mark) → m ≡ get_or (take n all) i d → i < length (take n all) → length all ≡ 32 → ((j : ℕ) → j < 32 → (get_or all j d).value ≡ j) → m.value ≡ i
front_mark all n i m d is within full numbered =
    let short : i < n = omega (arith, within, length-take n all) in
    ap (λ x. x.value) (is ∙ get_or-take n all i d short) ∙ numbered i (omega (arith, within, length-take n all, full))
