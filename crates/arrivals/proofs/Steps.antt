use Rattle.std.proofs.Common.{◌≡◌, ℕ, ◌+◌, true, List, [], ◌++◌, is_some, None, Option, sym, refl, ap, ◌∙◌, subst, inl, inr, append_assoc, add-one, arith}
use Rattle.std.proofs.lemmas.Bool.{cases_eq}
use Rattle.feeds.specs.Meanings.{Taken, View}
use Rattle.arrivals.specs.Takings.{Runs, StepMade, TakenBelow, taking_of, takings_below}
use Rattle.arrivals.specs.declared.takings.Taking.{Taking}

pub none-taken : (v : View) → TakenBelow 0 v v
none-taken v = record {
  rested = λ k h s. absurd (omega arith);
  idle = λ k h s. absurd (omega arith);
  later = λ k h. (refl, refl);
  kept = record { distance = λ j. refl; memory = λ j. refl; processor = λ j. refl };
}

-- one more mark is taken
pub one_more : (n : ℕ) (v u : View) (r : Option (ℕ × ℕ)) (w : View) → TakenBelow n v u → Taken u n r w → (u.offer n ≡ None → w ≡ u) → TakenBelow (n + 1) v w
one_more n v u r w below taken same = record {
  rested = λ k h s. elim (cases_eq k n) [
    | inl e ↦ subst (λ (j : ℕ). w.rest j ≡ v.distance j) (sym e)
        (taken.rested (ap is_some (below.later n (omega arith)).1 ∙ subst (λ (j : ℕ). is_some (v.offer j) ≡ true) e s) ∙ below.kept.distance n)
    | inr e ↦ (taken.others k e).0 ∙ below.rested k (omega arith) s
  ];
  idle = λ k h s. elim (cases_eq k n) [
    | inl e ↦
        let none : u.offer n ≡ None = (below.later n (omega arith)).1 ∙ subst (λ (j : ℕ). v.offer j ≡ None) e s
        in let stays = same none
        in subst (λ (j : ℕ). (w.rest j ≡ v.rest j) × (w.offer j ≡ None)) (sym e)
        (ap (λ (x : View). x.rest n) stays ∙ (below.later n (omega arith)).0, ap (λ (x : View). x.offer n) stays ∙ none)
    | inr e ↦ ((taken.others k e).0 ∙ (below.idle k (omega arith) s).0, (taken.others k e).1 ∙ (below.idle k (omega arith) s).1)
  ];
  later = λ k h.
      ((taken.others k (λ e. absurd (omega arith))).0 ∙ (below.later k (omega arith)).0, (taken.others k (λ e. absurd (omega arith))).1 ∙ (below.later k (omega arith)).1);
  kept = record {
    distance = λ j. taken.kept.distance j ∙ below.kept.distance j;
    memory = λ j. taken.kept.memory j ∙ below.kept.memory j;
    processor = λ j. taken.kept.processor j ∙ below.kept.processor j;
  };
}

-- and its arrival, if there is one, stands behind those before
pub listed-on : (t : ℕ) (offer : ℕ → Option (ℕ × ℕ)) (n : ℕ) (r : Option (ℕ × ℕ)) (first before after : List Taking) → r ≡ offer n
    → before ≡ first ++ takings_below t offer n → after ≡ before ++ taking_of t n r → after ≡ first ++ takings_below t offer (n + 1)
unfolding takings_below
listed-on t offer n r first before after o b a =
    rw add-one
    (a ∙ ap (λ (l : List Taking). l ++ taking_of t n r) b ∙ append_assoc first (takings_below t offer n) (taking_of t n r)
    ∙ ap (λ (q : Option (ℕ × ℕ)). first ++ (takings_below t offer n ++ taking_of t n q)) o)

pub none-run : (wanted : ℕ) (v : View) (ts : List Taking) → ts ≡ [] → Runs wanted v 0 ts v
unfolding Runs
none-run wanted v ts e = (e, refl)

pub run_on : (wanted : ℕ) (v : View) (t : ℕ) (before : List Taking) (u : View) (ts : List Taking) (w : View) → Runs wanted v t before u → StepMade wanted t u before ts w
    → Runs wanted v (t + 1) ts w
unfolding Runs
run_on wanted v t before u ts w runs step = rw add-one (before, (u, (runs, step)))

-- what is offered at mark k, the next one, is taken
pub mark_on : (t n : ℕ) (v u w : View) (first before after : List Taking) → before ≡ first ++ takings_below t v.offer n → TakenBelow n v u → (k : ℕ) → k ≡ n
    → Taken u k (u.offer k) w → (u.offer k ≡ None → w ≡ u) → after ≡ before ++ taking_of t k (u.offer k)
    → (after ≡ first ++ takings_below t v.offer (n + 1)) × TakenBelow (n + 1) v w
mark_on t n v u w first before after listed below k e =
    subst (λ (j : ℕ). Taken u j (u.offer j) w → (u.offer j ≡ None → w ≡ u) → after ≡ before ++ taking_of t j (u.offer j) → (after ≡ first ++ takings_below t v.offer (n + 1)) × TakenBelow (n + 1) v w)
    (sym e)
    (λ taken same more. (listed-on t v.offer n (u.offer n) first before after (below.later n (omega arith)).1 listed more, one_more n v u (u.offer n) w below taken same))
