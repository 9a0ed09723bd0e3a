-- New runs, and what steps make of them.
use Rattle.std.proofs.Common.{◌≡◌, ℕ, zero, suc, ◌+◌, [], ◌∷◌, get_or, replicate, Ok, Err, Result, refl, ap, ◌∙◌, subst, arith}
use Rattle.rating.specs.Ranked.{ranked}
use Rattle.rating.specs.Ratings.{ranking_in}
use Rattle.rating.specs.declared.verdict.Phase.TheVariants.{Memory, Processor}
use Rattle.feeds.specs.Meanings.{View}
use Rattle.schedule.specs.declared.place.Slot.TheVariants.{Empty}
use Rattle.board.specs.Calls.{Went}
use Rattle.board.specs.Chains.{new, stayed, stepped}
use Rattle.board.specs.Example.{Gone}
use Rattle.board.specs.Runs.{Along, New, Stepped, memory_ranking, processor_ranking}
use Rattle.board.specs.declared.fault.StepFault.{StepFault}
use Rattle.board.specs.declared.run.Answer.{Answer}
use Rattle.board.specs.declared.run.Run.{Run}

-- a table of empty places has no other
pub none-placed : (n k : ℕ) → get_or (replicate n Empty) k Empty ≡ Empty
none-placed zero k = refl
none-placed (suc n) zero = refl
none-placed (suc n) (suc k) = none-placed n k

module _ {A B P : Type 0} (view : P → View) (r : Run A B P) where
  pub gone_none : New r → Gone view r 0 r
  gone_none begun = record { past = []; reached = new; long = refl; number = begun.number; rating = refl }

  -- a step more, or a refusal at the last number
  pub gone_on : (n : ℕ) (s u : Run A B P) (o : Result Answer StepFault) → Gone view r n s → Went view s o u → Gone view r (n + 1) u
  gone_on n s u (Ok answer) g w =
      let step : Stepped view (Along (memory_ranking r)) (Along (processor_ranking r)) s answer u =
      subst (λ x. Stepped view (Along (ranked (ranking_in x Memory))) (Along (ranked (ranking_in x Processor))) s answer u) g.rating w.1 in
      record {
        past = (s, answer) ∷ g.past;
        reached = stepped g.reached step;
        long = omega (arith, g.long, g.number, w.0);
        number = omega (arith, g.number, w.1.number);
        rating = w.1.rating ∙ g.rating;
      }
  gone_on n s u (Err fault) g w = record {
    past = g.past;
    reached = stayed g.reached w.1;
    long = omega (arith, g.long, g.number, w.0);
    number = ap (λ x. x.number) w.1 ∙ g.number;
    rating = ap (λ x. x.rating) w.1 ∙ g.rating;
  }
