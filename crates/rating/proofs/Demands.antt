use Rattle.std.proofs.Common.{◌≡◌, ℕ, ◌+◌, ◌*◌, ◌^◌, ◌<◌, ◌≤◌, true, List, [], ◌∷◌, ◌++◌, length, get_or, take, sym, ap, ◌∙◌, subst, mul-le-mul, arith}
use Rattle.std.proofs.lemmas.List.{take_more}
use Rattle.std.proofs.lemmas.Bool.Decides.{nat_tests}
use Rattle.rating.specs.Demands.{sources_of}
use Rattle.rating.specs.Quotients.{ceil}
use Rattle.rating.specs.Sources.{Sound, blank, is_sound, asks, asked}
use Rattle.rating.specs.declared.demand.Demand.{Demand}
use Rattle.rating.specs.declared.demand.Source.{Source}

-- lists of sources, one behind the other, ask for what each of them asks
pub asked-append : (xs ys : List Source) (w : ℕ) → asked (xs ++ ys) w ≡ asked xs w + asked ys w
unfolding asked
asked-append [] ys w = omega arith
asked-append (x ∷ xs) ys w = omega (arith, asked-append xs ys w)

-- one more source
pub asked-more : (xs : List Source) (i : ℕ) (d : Source) (w : ℕ) → i < length xs
    → asked (take (i + 1) xs) w ≡ asked (take i xs) w + asks (get_or xs i d) w
unfolding asked
asked-more xs i d w h =
    ap (λ ys. asked ys w) (take_more xs i d h) ∙ asked-append (take i xs) (get_or xs i d ∷ []) w ∙ omega arith

-- a source of which the test is true is sound
pub true_sound : (s : Source) → is_sound s ≡ true → Sound s
true_sound s e = record { cheap = grind (arith, nat_tests); apart = grind (arith, nat_tests) }

-- A loop over a demand's sources, which go by another name there.
module _ (d : Demand) (xs : List Source) (lent : xs ≡ sources_of d) (i : ℕ) (within : i < length xs) where
  pub sound_there : Sound (get_or xs i blank)
  sound_there = rw lent (true_sound (get_or (sources_of d) i blank) (d.sound i (subst (λ ys. i < length ys) lent within)))

  -- what the source there asks is what one more source adds
  pub asked-there : (w jobs : ℕ) → jobs ≡ ceil (w + (get_or xs i blank).delay) (get_or xs i blank).period
      → asked (take (i + 1) (sources_of d)) w ≡ asked (take i (sources_of d)) w + jobs * (get_or xs i blank).cost
  asked-there w jobs e =
      subst (λ ys. asked (take (i + 1) ys) w ≡ asked (take i ys) w + jobs * (get_or xs i blank).cost) lent
      (asked-more xs i blank w within ∙ ap (λ n. asked (take i xs) w + n * (get_or xs i blank).cost) (sym e))

-- what one source asks is far from 64 bits
pub jobs_small : (jobs cost : ℕ) → jobs < 2 ^ 33 → cost ≤ 1000000 → jobs * cost ≤ 2 ^ 33 * 1000000
jobs_small jobs cost h cheap = let few : jobs ≤ 2 ^ 33 = omega arith in mul-le-mul few cheap
