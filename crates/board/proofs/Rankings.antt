-- The guarantee of a run whose resources choose along the rankings of its rating.
use Rattle.std.proofs.Common.{◌≡◌, ℕ, ◌<◌, true, ltb, List, length, Some, None, Option, sym, refl, ap, ◌∙◌, subst}
use Rattle.std.proofs.lemmas.Bool.{and_from, cond-true, lt-ltb}
use Rattle.rows.specs.Drafts.{rows_of}
use Rattle.rows.specs.declared.row.Row.{Row}
use Rattle.rating.specs.Bounds.{is_accepted, memory_figure_of, processor_figure_of}
use Rattle.rating.specs.Closing.{InTime}
use Rattle.rating.specs.Orders.{Sequence}
use Rattle.rating.specs.Ranked.{ranked}
use Rattle.rating.specs.Rankings.{Agrees, Permutes}
use Rattle.rating.specs.Ratings.{bounds_at, draft_in, verdict_in}
use Rattle.rating.specs.declared.ranking.Ranking.{Ranking}
use Rattle.rating.specs.declared.ranked.RankedDraft.{RankedDraft}
use Rattle.rating.specs.declared.rating.Rating.{Rating}
use Rattle.rating.proofs.Exact.{in_time}
use Rattle.rating.proofs.Rankings.{permutes, sum-ranked}
use Rattle.feeds.specs.Fits.{Fitting}
use Rattle.feeds.specs.Meanings.{View}
use Rattle.schedule.specs.Places.{is_computing, is_loading}
use Rattle.board.specs.Chains.{Reached}
use Rattle.board.specs.Guarantee.{BoundsOf, Guarantee, GuaranteeStands, Past}
use Rattle.board.specs.Runs.{Along, FirstBy, New, Stepped, memory_ranking, placed, processor_ranking, rows_in}
use Rattle.board.specs.declared.run.Answer.{Answer}
use Rattle.board.specs.declared.run.Run.{Run}
use Rattle.board.proofs.Chains.{reached_too}
use Rattle.board.proofs.Choices.{agrees_places, along_chosen, by_place}
use Rattle.board.proofs.Guarantees.{guarantee}

-- a ranking of n numbers agrees with the order in which it stands
pub agrees : (rows : List Row) (x : Ranking) → x.count ≡ length rows → Agrees (by_place (ranked x)).before rows (ranked x)
agrees rows x e = agrees_places rows (ranked x) (subst (λ n. Permutes n (ranked x)) e (permutes x))

-- the guarantee asks of the bounds only those of the rows
same-bounds : {A B P : Type 0} (view : P → View) (rows : List Row) (RM RC RM' RC' : ℕ → ℕ) (past : Past A B P) (s : Run A B P)
    → ((k : ℕ) → k < length rows → RM k ≡ RM' k) → ((k : ℕ) → k < length rows → RC k ≡ RC' k)
    → Guarantee view rows RM RC past s → Guarantee view rows RM' RC' past s
same-bounds view rows RM RC RM' RC' past s em ec g = record {
  admits = g.admits;
  loading = λ k l. rw (sym (em k l)) (g.loading k l);
  living = λ k l. rw (sym (em k l), sym (ec k l)) (g.living k l);
  memory_share = λ newer steps older is some k l. rw (sym (em k l)) (g.memory_share newer steps older is some k l);
  processor_share = λ newer steps older is some k l. rw (sym (em k l), sym (ec k l)) (g.processor_share newer steps older is some k l);
}

-- A step whose resources choose along rankings is one whose resources choose by orders that the rankings agree with.
module _ {A B P : Type 0} (view : P → View) (x : Rating A B) (m p : Sequence) (ms ps : List ℕ)
    (am : Agrees m.before (rows_of (draft_in x)) ms) (ap' : Agrees p.before (rows_of (draft_in x)) ps) where
  abbrev rows : List Row
  rows = rows_of (draft_in x)

  step_too : (s : Run A B P) (a : Answer) (u : Run A B P) → s.rating ≡ x → Stepped view (Along ms) (Along ps) s a u
      → (u.rating ≡ x) × Stepped view (FirstBy m.before rows) (FirstBy p.before rows) s a u
  step_too s a u e z = (
    z.rating ∙ e,
    record {
      step = z.step;
      memory = along_chosen m rows ms am (λ k. is_loading (placed view s k)) a.memory z.memory;
      processor = along_chosen p rows ps ap' (λ k. is_computing (placed view s k)) a.processor z.processor;
      finishes = z.finishes;
      places = z.places;
      number = z.number;
      rating = z.rating;
      drawn = z.drawn;
      pledged = z.pledged;
      taken = z.taken;
      others = z.others;
    },
  )

  pub reached_by : (r : Run A B P) → r.rating ≡ x → (past : Past A B P) (s : Run A B P) → Reached (Stepped view (Along ms) (Along ps)) r past s
      → Reached (Stepped view (FirstBy m.before rows) (FirstBy p.before rows)) r past s
  reached_by r e past s =
      reached_too (Stepped view (Along ms) (Along ps)) (Stepped view (FirstBy m.before rows) (FirstBy p.before rows)) (λ u. u.rating ≡ x) step_too r e

some_pair : (a b c d : ℕ) → ◌≡◌ {A = Option (ℕ × ℕ)} (Some (a, b)) (Some (c, d)) → (a ≡ c) × (b ≡ d)
some_pair a b c d e = let z : ◌≡◌ {A = ℕ × ℕ} (a, b) (c, d) = cc in (ap (λ q. q.0) z, ap (λ q. q.1) z)

-- the bounds that an accepted rating answers are those that its rankings give
bounds_are : {A B P : Type 0} (r : Run A B P) (RM RC : ℕ → ℕ) → is_accepted (verdict_in r.rating) ≡ true → BoundsOf r RM RC → (k : ℕ) → k < length (rows_in r)
    → (memory_figure_of (rows_in r) (memory_ranking r) k ≡ RM k) × (processor_figure_of (rows_in r) (memory_ranking r) (processor_ranking r) k ≡ RC k)
bounds_are r RM RC e b k l =
    let here : bounds_at r.rating k ≡ Some (memory_figure_of (rows_in r) (memory_ranking r) k, processor_figure_of (rows_in r) (memory_ranking r) (processor_ranking r) k) =
    cond-true _ (Some (_, _)) None (and_from (is_accepted (verdict_in r.rating)) (ltb k (length (rows_in r))) e (lt-ltb k (length (rows_in r)) l)) in
    some_pair _ _ _ _ (sym here ∙ b k l)

module _ {A B P : Type 0} (view : P → View) (r : Run A B P) (begun : New r) (accepted : is_accepted (verdict_in r.rating) ≡ true)
    (fits : Fitting (view r.pile) (rows_in r)) (RM RC : ℕ → ℕ) (bounds : BoundsOf r RM RC) where
  abbrev x : RankedDraft
  x = r.rating.analysis.ranked

  memory_agrees : Agrees (by_place (memory_ranking r)).before (rows_in r) (memory_ranking r)
  memory_agrees = agrees (rows_in r) x.memory x.memory_rows

  processor_agrees : Agrees (by_place (processor_ranking r)).before (rows_in r) (processor_ranking r)
  processor_agrees = agrees (rows_in r) x.processor x.processor_rows

  solutions : InTime (rows_in r) (by_place (memory_ranking r)).before (by_place (processor_ranking r)).before
      (memory_figure_of (rows_in r) (memory_ranking r)) (processor_figure_of (rows_in r) (memory_ranking r) (processor_ranking r))
  solutions =
      in_time (rows_in r) (by_place (memory_ranking r)) (by_place (processor_ranking r)) (memory_ranking r) (processor_ranking r) memory_agrees processor_agrees
      (sum-ranked x.memory (length (rows_in r)) x.memory_rows) (sum-ranked x.processor (length (rows_in r)) x.processor_rows)
      (subst (λ v. is_accepted v ≡ true) r.rating.analysis.rated accepted)

  pub ranked_guarantee : (past : Past A B P) (s : Run A B P) → Reached (Stepped view (Along (memory_ranking r)) (Along (processor_ranking r))) r past s
      → Guarantee view (rows_in r) RM RC past s
  ranked_guarantee past s reached =
      same-bounds view (rows_in r) _ _ RM RC past s (λ k l. (bounds_are r RM RC accepted bounds k l).0) (λ k l. (bounds_are r RM RC accepted bounds k l).1)
      (guarantee view r begun fits (by_place (memory_ranking r)) (by_place (processor_ranking r)) _ _ solutions past s
      (reached_by view r.rating (by_place (memory_ranking r)) (by_place (processor_ranking r)) (memory_ranking r) (processor_ranking r) memory_agrees processor_agrees r refl past s reached))

pub guarantee_stands : (A B P : Type 0) → GuaranteeStands A B P
guarantee_stands A B P view r begun accepted fits RM RC bounds past s reached =
    ranked_guarantee view r begun accepted fits RM RC bounds past s reached
