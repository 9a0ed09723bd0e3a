use Rattle.std.proofs.Common.{◌≡◌, ℕ, zero, suc, ◌+◌, ◌<◌, ◌≤◌, eqb, Some, None, Option, sym, refl, ap, subst, inl, inr, arith}
use Rattle.std.proofs.lemmas.Bool.{cond_both, eqb-true, eqb-false, cases_order}
use Rattle.rating.specs.Curves.{LeastAt, LeastSolution, Least, first_solution, least_within}

-- what is found among the n lengths from v on
abbrev First : (ℕ → ℕ) → ℕ → ℕ → Option ℕ → Type 0
First f v n (Some w) = (v ≤ w) × (w < v + n) × (f w ≡ w) × ((u : ℕ) → v ≤ u → u < w → f u ≡ u → ⊥)
First f v n None = (u : ℕ) → v ≤ u → u < v + n → f u ≡ u → ⊥

-- where v solves nothing, what is found from the next length on is found from v on
first-later : (f : ℕ → ℕ) (v n : ℕ) (r : Option ℕ) → (f v ≡ v → ⊥) → First f (v + 1) n r → First f v (suc n) r
first-later f v n (Some w) not h = (
  omega (arith, h.0),
  omega (arith, h.1),
  h.2,
  (λ u low high e.
      elim (cases_order u v) [
        | inl same ↦ not (subst (λ x. f x ≡ x) same e)
        | inr (inl less) ↦ absurd (omega arith)
        | inr (inr more) ↦ h.3 u (omega arith) high e
      ]),
)
first-later f v n None not h = λ u low high e.
    elim (cases_order u v) [
      | inl same ↦ not (subst (λ x. f x ≡ x) same e)
      | inr (inl less) ↦ absurd (omega arith)
      | inr (inr more) ↦ h u (omega arith) (omega arith) e
    ]

first_solution-first : (f : ℕ → ℕ) (v n : ℕ) → First f v n (first_solution f v n)
unfolding first_solution
first_solution-first f v zero = λ u low high e. omega arith
first_solution-first f v (suc n) =
    cond_both (eqb (f v) v) (Some v) (first_solution f (v + 1) n) (First f v (suc n))
    (λ yes. (omega arith, omega arith, eqb-true (f v) v yes, λ u low high e. omega arith))
    (λ not. first-later f v n (first_solution f (v + 1) n) (eqb-false (f v) v not) (first_solution-first f (v + 1) n))

first-least : (f : ℕ → ℕ) (c : ℕ) (r : Option ℕ) → First f 0 (c + 1) r → Least f c r
first-least f c (Some w) h = record { within = omega (arith, h.1); solves = h.2; first = λ v less e. h.3 v (omega arith) less e }
first-least f c None h = λ w low e. h w (omega arith) (omega arith) e

-- the definition finds the least solution up to the ceiling
pub least_within-least : (f : ℕ → ℕ) (c : ℕ) → Least f c (least_within f c)
least_within-least f c = first-least f c (least_within f c) (first_solution-first f 0 (c + 1))

-- of two answers that are least, neither is below the other
least_same : (f : ℕ → ℕ) (c : ℕ) (r s : Option ℕ) → Least f c r → Least f c s → r ≡ s
least_same f c (Some v) (Some w) g h =
    elim (cases_order v w) [
      | inl same ↦ ap Some same
      | inr (inl less) ↦ absurd (h.first v less g.solves)
      | inr (inr more) ↦ absurd (g.first w more h.solves)
    ]
least_same f c (Some v) None g h = absurd (h v g.within g.solves)
least_same f c None (Some w) g h = absurd (g w h.within h.solves)
least_same f c None None g h = refl

-- an answer that is least is the definition's
pub least_is : (f : ℕ → ℕ) (c : ℕ) (r : Option ℕ) → Least f c r → r ≡ least_within f c
least_is f c r h = least_same f c r (least_within f c) h (least_within-least f c)

first_solution-same : (f g : ℕ → ℕ) (v n : ℕ) → ((w : ℕ) → f w ≡ g w) → first_solution f v n ≡ first_solution g v n
unfolding first_solution
first_solution-same f g v zero same = refl
first_solution-same f g v (suc n) same = rw (same v, first_solution-same f g (v + 1) n same)

-- curves that ask the same at each length have the same least solution
pub least_within-same : (f g : ℕ → ℕ) (c : ℕ) → ((w : ℕ) → f w ≡ g w) → least_within f c ≡ least_within g c
least_within-same f g c same = first_solution-same f g 0 (c + 1) same

-- what the definition finds is the least solution
pub least_within-some : (f : ℕ → ℕ) (c w : ℕ) → least_within f c ≡ Some w → LeastAt f c w
least_within-some f c w e = subst (Least f c) e (least_within-least f c)

-- where the definition finds none, no length up to the ceiling is a solution
pub least_within-none : (f : ℕ → ℕ) (c : ℕ) → least_within f c ≡ None → (w : ℕ) → w ≤ c → f w ≡ w → ⊥
least_within-none f c e = subst (Least f c) e (least_within-least f c)

-- a curve has one least solution at most
pub least_unique : (f : ℕ → ℕ) (v w : ℕ) → LeastSolution f v → LeastSolution f w → v ≡ w
least_unique f v w g h =
    elim (cases_order v w) [
      | inl same ↦ same
      | inr (inl less) ↦ absurd (h.first v less g.solves)
      | inr (inr more) ↦ absurd (g.first w more h.solves)
    ]

-- a least solution that the ceiling admits is found
pub least_found : (f : ℕ → ℕ) (c w : ℕ) → LeastSolution f w → w ≤ c → least_within f c ≡ Some w
least_found f c w h low = sym (least_is f c (Some w) (record { within = low; solves = h.solves; first = h.first }))

-- what is found up to a ceiling is the least solution under no ceiling too
pub found_least : (f : ℕ → ℕ) (c w : ℕ) → least_within f c ≡ Some w → LeastSolution f w
found_least f c w e = let at = least_within-some f c w e in record { solves = at.solves; first = at.first }
