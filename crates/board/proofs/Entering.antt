-- The first rule, row by row.
use Rattle.std.proofs.Common.{◌≡◌, ℕ, suc, ◌+◌, ◌<◌, true, false, ap, ◌∙◌, subst, inl, inr, add-one, arith}
use Rattle.std.proofs.lemmas.Bool.{cases_lt}
use Rattle.feeds.specs.Meanings.{View}
use Rattle.schedule.specs.Places.{admitted, takes}
use Rattle.board.specs.Rules.{Entered, EnteredAt}
use Rattle.board.specs.Runs.{DrawnAt, offered, place, placed, taking}
use Rattle.board.specs.declared.run.Run.{Run}

module _ {A B P : Type 0} (view : P → View) (k : ℕ) (s v u : Run A B P) (e : Entered view k s v) (n : EnteredAt view k v u) where
  -- row k meets the offer and the place that it had before the rows below it took
  same_taking : taking view v k ≡ taking view s k
  same_taking = let a = e.ahead k (omega arith) in ap (λ o. takes o (place v k)) a.2 ∙ ap (takes (offered view s k)) a.0

  same_placed : placed view v k ≡ placed view s k
  same_placed =
      let a = e.ahead k (omega arith) in
      ap (λ t. admitted t (offered view v k) (place v k)) e.same.number ∙ ap (λ o. admitted s.number o (place v k)) a.2
      ∙ ap (admitted s.number (offered view s k)) a.0

  other : (j : ℕ) → j < k → j ≡ k → ⊥
  other j l q = omega arith

  done : (j : ℕ) → j < suc k → place u j ≡ placed view s j
  done j l =
      elim (cases_lt j k) [
        | inl m ↦ n.elsewhere j (other j m) ∙ e.done j m
        | inr m ↦ let q : k ≡ j = omega arith in subst (λ i. place u i ≡ placed view s i) q (n.here ∙ same_placed)
      ]

  taken : (j : ℕ) → j < suc k → taking view s j ≡ true → (view u.pile).rest j ≡ (view s.pile).distance j
  taken j l t =
      elim (cases_lt j k) [
        | inl m ↦ (n.others j (other j m)).0 ∙ e.taken j m t
        | inr m ↦
            let q : k ≡ j = omega arith in
            subst (λ i. taking view s i ≡ true → (view u.pile).rest i ≡ (view s.pile).distance i) q (λ y. n.taken (same_taking ∙ y) ∙ e.pledged.distance k) t
      ]

  left : (j : ℕ) → j < suc k → taking view s j ≡ false → (view u.pile).rest j ≡ (view s.pile).rest j
  left j l t =
      elim (cases_lt j k) [
        | inl m ↦ (n.others j (other j m)).0 ∙ e.left j m t
        | inr m ↦
            let q : k ≡ j = omega arith in
            subst (λ i. taking view s i ≡ false → (view u.pile).rest i ≡ (view s.pile).rest i) q
            (λ y. n.left (same_taking ∙ y) ∙ (e.ahead k (omega arith)).1) t
      ]

  next : Entered view (suc k) s u
  next = record {
    done = done;
    ahead = λ j l.
        let d : j ≡ k → ⊥ = λ q. omega arith in
        let a = e.ahead j (omega arith) in
        let o = n.others j d in
        (n.elsewhere j d ∙ a.0, o.0 ∙ a.1, o.1 ∙ a.2);
    drawn = (v.pile, (e.drawn, subst (λ b. DrawnAt view k b v.pile u.pile) same_taking n.drawn));
    pledged = record {
      distance = λ j. n.pledged.distance j ∙ e.pledged.distance j;
      memory = λ j. n.pledged.memory j ∙ e.pledged.memory j;
      processor = λ j. n.pledged.processor j ∙ e.pledged.processor j;
    };
    taken = taken;
    left = left;
    same = record { rating = n.same.rating ∙ e.same.rating; number = n.same.number ∙ e.same.number };
  }

  pub entered_more : Entered view (k + 1) s u
  entered_more = rw add-one next
