-- The past of a run as functions of the step.
use Rattle.std.proofs.Common.{◌≡◌, ℕ, suc, ◌+◌, ◌<◌, cond, ltb, List, [], ◌∷◌, ◌++◌, length, Option, sym, refl, ap, ◌∙◌, subst, inl, inr, arith, length-append}
use Rattle.std.proofs.lemmas.List.{append_assoc}
use Rattle.std.proofs.lemmas.Bool.{cases_lt, le-ltb, lt-ltb}
use Rattle.schedule.specs.Resources.{gets}
use Rattle.schedule.specs.Windows.{window}
use Rattle.board.specs.Chains.{Reached, new, served, stayed, stepped}

-- the state in which step t begins, and its answer; s is the state after all, and d stands for an answer where there is none
abbrev pub states : {S A : Type 0} → S → List (S × A) → ℕ → S
states s [] t = s
states s (e ∷ older) t = cond (ltb (length older) t) s (states e.0 older t)

abbrev pub answers : {S A : Type 0} → A → List (S × A) → ℕ → A
answers d [] t = d
answers d (e ∷ older) t = cond (ltb t (length older)) (answers d older t) e.1

module _ {S A : Type 0} where
  pub last_state : (s : S) (past : List (S × A)) → states s past (length past) ≡ s
  last_state s [] = refl
  last_state s (e ∷ older) = rw (lt-ltb (length older) (suc (length older)) (omega arith))

  pub state_at : (s : S) (newer : List (S × A)) (e : S × A) (older : List (S × A)) → states s (newer ++ (e ∷ older)) (length older) ≡ e.0
  state_at s [] e older = rw (le-ltb (length older) (length older) (omega arith)) (last_state e.0 older)
  state_at s (x ∷ newer) e older =
      rw (le-ltb (length (newer ++ (e ∷ older))) (length older) (omega (arith, length-append newer (e ∷ older)))) (state_at x.0 newer e older)

  answer_at : (d : A) (newer : List (S × A)) (e : S × A) (older : List (S × A)) → answers d (newer ++ (e ∷ older)) (length older) ≡ e.1
  answer_at d [] e older = rw (le-ltb (length older) (length older) (omega arith))
  answer_at d (x ∷ newer) e older =
      rw (lt-ltb (length older) (length (newer ++ (e ∷ older))) (omega (arith, length-append newer (e ∷ older)))) (answer_at d newer e older)

  -- what some consecutive past steps count is a sum over a window
  pub window_sum : (d : A) (of : A → Option ℕ) (k : ℕ) (past newer steps older : List (S × A)) → past ≡ newer ++ (steps ++ older)
      → window (λ t. gets (of (answers d past t)) k) (length older) (length steps) ≡ served of k steps
  window_sum d of k past newer [] older e = refl
  window_sum d of k past newer (x ∷ steps) older e =
      let rest = window_sum d of k past (newer ++ (x ∷ [])) steps older (e ∙ sym (append_assoc newer (x ∷ []) (steps ++ older))) in
      let q : length (steps ++ older) ≡ length older + length steps = omega (arith, length-append steps older) in
      let here : answers d past (length (steps ++ older)) ≡ x.1 = ap (λ l. answers d l (length (steps ++ older))) e ∙ answer_at d newer x (steps ++ older) in
      omega (arith, rest, ap (λ a. gets (of a) k) (rw q at here))

  module _ (Step : S → A → S → Type 0) (d : A) (r : S) where
    -- the steps of a past follow one another
    pub follow : {past : List (S × A)} {s : S} → Reached Step r past s → (t : ℕ) → t < length past
        → Step (states s past t) (answers d past t) (states s past (suc t))
    follow new t l = absurd (omega arith)
    follow (stepped {past} {s} {u} {answer} h m) t l =
        elim (cases_lt t (length past)) [
          | inl i ↦
              rw (le-ltb (length past) t (omega arith), lt-ltb t (length past) i, le-ltb (length past) (suc t) i) (follow h t i)
          | inr i ↦
              let e : t ≡ length past = omega arith in
              rw (e, le-ltb (length past) (length past) (omega arith), lt-ltb (length past) (suc (length past)) (omega arith), last_state s past) m
        ]
    follow (stayed {past} {s} {u} h e) t l =
        subst (λ z. Step (states z past t) (answers d past t) (states z past (suc t))) (sym e) (follow h t l)

    -- the first of them begins in the new run
    pub begins : {past : List (S × A)} {s : S} → Reached Step r past s → states s past 0 ≡ r
    begins new = refl
    begins (stepped {past} {s} {u} {answer} h m) = rw (le-ltb (length past) 0 (omega arith)) (begins h)
    begins (stayed {past} {s} {u} h e) = ap (λ z. states z past 0) e ∙ begins h

  -- Where each step of one kind is a step of another kind, in every state with a property that such steps keep, whatever is
  -- reached by the one is reached by the other.
  module _ (Step Step' : S → A → S → Type 0) (K : S → Type 0) (keeps : (s : S) (a : A) (u : S) → K s → Step s a u → K u × Step' s a u) (r : S) (begun : K r) where
    carried : {past : List (S × A)} {s : S} → Reached Step r past s → K s × Reached Step' r past s
    carried new = (begun, new)
    carried (stepped {past} {s} {u} {answer} h m) =
        let z = carried h in
        let y = keeps s answer u z.0 m in
        (y.0, stepped z.1 y.1)
    carried (stayed {past} {s} {u} h e) = let z = carried h in (subst K (sym e) z.0, stayed z.1 e)

    pub reached_too : {past : List (S × A)} {s : S} → Reached Step r past s → Reached Step' r past s
    reached_too h = (carried h).1
