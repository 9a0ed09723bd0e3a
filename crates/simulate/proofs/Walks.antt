-- A step that is taken into a journal.
use Rattle.std.proofs.Common.{◌≡◌, ℕ, suc, ◌+◌, ◌-◌, ◌*◌, ◌/◌, ◌%◌, ◌<◌, ◌≤◌, Bool, false, List, ◌∷◌, length, get_or, sym, ap, ◌∙◌, subst, mul-suc, arith}
use native.Mathlib.Nat.{mod-add-div'}
use Rattle.feeds.specs.Meanings.{View}
use Rattle.board.specs.Chains.{stepped}
use Rattle.board.specs.Runs.{Along, Stepped, memory_ranking, place, processor_ranking, rows_in}
use Rattle.board.specs.declared.run.Answer.{Answer}
use Rattle.board.specs.declared.run.Run.{Run}
use Rattle.rows.specs.Drafts.{rows_of}
use Rattle.rating.specs.Ranked.{ranked}
use Rattle.rating.specs.Ratings.{draft_in, ranking_in}
use Rattle.rating.specs.declared.rating.Rating.{Rating}
use Rattle.rating.specs.declared.verdict.Phase.TheVariants.{Memory, Processor}
use Rattle.simulate.specs.Counts.{Noted, Simulated, Tells, counted, tally_at}
use Rattle.simulate.specs.Tallies.{is_free, noted}
use Rattle.simulate.specs.Timelines.{answers_in, joined}
use Rattle.simulate.specs.declared.journal.Journal.{Journal}
use Rattle.simulate.proofs.Entries.{noted_counted}

module _ {A B P : Type 0} (view : P → View) where
  -- what is noted from the places before and after a step is what the step did
  pub noted_step : (s u : Run A B P) (x y : Journal) (answer : Answer) (free : List Bool)
      → Stepped view (Along (memory_ranking s)) (Along (processor_ranking s)) s answer u
      → ((k : ℕ) → k < length (rows_in s) → get_or free k false ≡ is_free (place s k))
      → ((k : ℕ) → k < length (rows_in u) → tally_at y.tallies k ≡ noted k (get_or free k false) answer (place u k) (tally_at x.tallies k))
      → ((k : ℕ) → length (rows_in u) ≤ k → tally_at y.tallies k ≡ tally_at x.tallies k)
      → answers_in y.timeline ≡ joined (answers_in x.timeline) answer → Noted view s x u y
  noted_step s u x y answer free m before rows others line =
      let same : length (rows_in u) ≡ length (rows_in s) = ap (λ (z : Rating A B). length (rows_of (draft_in z))) m.rating in
      record {
        answer = answer;
        stepped = m;
        rows = λ k l.
            rows k (omega arith) ∙ ap (λ b. noted k b answer (place u k) (tally_at x.tallies k)) (before k l)
            ∙ noted_counted view s answer u m k l (tally_at x.tallies k);
        others = λ k l. others k (omega arith);
        line = line;
      }

  -- a journal that tells all steps up to s tells the next one too
  pub tells_on : (r s u : Run A B P) (x y : Journal) → Noted view s x u y → Tells view r s x → Tells view r u y
  tells_on r s u x y n t =
      let same : s.rating ≡ r.rating = t.rating in
      record {
        past = (s, n.answer) ∷ t.past;
        reached =
            stepped t.reached
            (subst (λ (z : Rating A B). Stepped view (Along (ranked (ranking_in z Memory))) (Along (ranked (ranking_in z Processor))) s n.answer u) same n.stepped);
        long = omega (arith, t.long, n.stepped.number);
        rating = n.stepped.rating ∙ same;
        rows = λ k l.
            n.rows k (subst (λ (z : Rating A B). k < length (rows_of (draft_in z))) (sym same) l)
            ∙ ap (counted view k s n.answer) (t.rows k l);
        line = n.line ∙ ap (λ z. joined z n.answer) t.line;
      }

-- stepping twice is stepping once, as many times as both together
module _ {A B P : Type 0} (view : P → View) where
  pub both : (m n : ℕ) (s t u : Run A B P) (x w y : Journal) → Simulated view m s x t w → Simulated view n t w u y → Simulated view (m + n) s x u y
  both m n s t u x w y p q = record { number = omega (arith, p.number, q.number); tells = λ r h. q.tells r (p.tells r h) }

  -- a tenth more
  pub tenth_more : (q c : ℕ) (s t u : Run A B P) (x w y : Journal) → 1 ≤ c → Simulated view (q * (c - 1)) s x t w → Simulated view q t w u y
      → Simulated view (q * (c + 1 - 1)) s x u y
  tenth_more q c s t u x w y h a b =
      let e : c + 1 - 1 ≡ suc (c - 1) = omega arith in
      subst (λ n. Simulated view n s x u y) (sym (ap (λ n. q * n) e ∙ mul-suc q (c - 1))) (both (q * (c - 1)) q s t u x w y a b)

  pub all_tenths : (n c : ℕ) (s t u : Run A B P) (x w y : Journal) → c ≡ 11 → Simulated view (n % 10) s x t w → Simulated view (n / 10 * (c - 1)) t w u y
      → Simulated view n s x u y
  all_tenths n c s t u x w y last a b =
      let e : n % 10 + n / 10 * 10 ≡ n = mod-add-div' n 10 in
      let ten : c - 1 ≡ 10 = omega arith in
      subst (λ k. Simulated view k s x u y) e (both (n % 10) (n / 10 * 10) s t u x w y a (subst (λ k. Simulated view (n / 10 * k) t w u y) ten b))
