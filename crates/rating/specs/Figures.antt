use Rattle.std.specs.Prelude.{◌≡◌, ℕ, ◌<◌, Bool, true, false, not, ◌&&◌, ◌||◌, ◌⊎◌, ◌==◌, ◌≢◌, nat_lt, refl}
use Rattle.std.proofs.Common.{inl, inr, sym, ap, ◌∙◌, arith}
use Rattle.std.proofs.lemmas.Bool.{and_parts, and_from, and_left, and_right, or_cases, or_from, or_left, or_right, cases_order, lt-ltb, le-ltb, ltb-true, eq-eqb, ne_eqb, eqb-true}

-- the smaller figure first, at equal figures the smaller number
abbrev pub earlier : ℕ → ℕ → ℕ → ℕ → Bool
earlier x i y j = nat_lt x y || (x == y && nat_lt i j)

-- the same as a statement
abbrev First : ℕ → ℕ → ℕ → ℕ → Type 0
First x i y j = (x < y) ⊎ ((x ≡ y) × (i < j))

-- what the test says where it is true
says : (x i y j : ℕ) → earlier x i y j ≡ true → First x i y j
says x i y j e =
    elim (or_cases (nat_lt x y) (x == y && nat_lt i j) e) [
      | inl h ↦ inl (ltb-true x y h)
      | inr h ↦ (let p = and_parts (x == y) (nat_lt i j) h in inr (eqb-true x y p.0, ltb-true i j p.1))
    ]

-- where the test is true
holds : (x i y j : ℕ) → First x i y j → earlier x i y j ≡ true
holds x i y j (inl h) = or_left (nat_lt x y) (x == y && nat_lt i j) (lt-ltb x y h)
holds x i y j (inr h) = or_right (nat_lt x y) (x == y && nat_lt i j) (and_from (x == y) (nat_lt i j) (eq-eqb x y h.0) (lt-ltb i j h.1))

-- where the test is false
fails : (x i y j : ℕ) → First y j x i ⊎ ((x ≡ y) × (i ≡ j)) → earlier x i y j ≡ false
fails x i y j (inl (inl h)) =
    or_from (nat_lt x y) (x == y && nat_lt i j) (le-ltb x y (omega arith)) (and_left (x == y) (nat_lt i j) (ne_eqb x y (λ e. omega arith)))
fails x i y j (inl (inr h)) =
    or_from (nat_lt x y) (x == y && nat_lt i j) (le-ltb x y (omega arith)) (and_right (x == y) (nat_lt i j) (le-ltb i j (omega arith)))
fails x i y j (inr h) =
    or_from (nat_lt x y) (x == y && nat_lt i j) (le-ltb x y (omega arith)) (and_right (x == y) (nat_lt i j) (le-ltb i j (omega arith)))

-- no number goes before itself
pub earlier-never : (x i : ℕ) → earlier x i x i ≡ false
earlier-never x i = fails x i x i (inr (refl, refl))

-- of two numbers exactly one goes first
pub earlier-one : (x i y j : ℕ) → (i ≢ j) → earlier y j x i ≡ not (earlier x i y j)
earlier-one x i y j ne =
    elim (cases_order x y) [
      | inl e ↦
          elim (cases_order i j) [
            | inl same ↦ absurd (ne same)
            | inr (inl h) ↦ fails y j x i (inl (inr (e, h))) ∙ ap not (sym (holds x i y j (inr (e, h))))
            | inr (inr h) ↦ holds y j x i (inr (sym e, h)) ∙ ap not (sym (fails x i y j (inl (inr (sym e, h)))))
          ]
      | inr (inl h) ↦ fails y j x i (inl (inl h)) ∙ ap not (sym (holds x i y j (inl h)))
      | inr (inr h) ↦ holds y j x i (inl h) ∙ ap not (sym (fails x i y j (inl (inl h))))
    ]

-- the statement goes from one pair to the next
through : (x i y j z k : ℕ) → First x i y j → First y j z k → First x i z k
through x i y j z k (inl g) (inl h) = inl (omega arith)
through x i y j z k (inl g) (inr h) = inl (omega arith)
through x i y j z k (inr g) (inl h) = inl (omega arith)
through x i y j z k (inr g) (inr h) = inr (omega arith, omega arith)

-- what goes before a number that goes before a third goes before the third
pub earlier-through : (x i y j z k : ℕ) → earlier x i y j ≡ true → earlier y j z k ≡ true → earlier x i z k ≡ true
earlier-through x i y j z k g h = holds x i z k (through x i y j z k (says x i y j g) (says y j z k h))
