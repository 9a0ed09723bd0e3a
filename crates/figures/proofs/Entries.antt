use Rattle.std.proofs.Common.{◌≡◌, ℕ, ◌<◌, Bool, true, List, length, get_or}
use Rattle.std.proofs.lemmas.Bool.{both_ways, true_from_ne_false}
use Rattle.std.proofs.lemmas.List.Folds.{list_all_at}
use Rattle.std.specs.List.{list_all}

-- a test that passes at every entry of a table tells its rule at each of them
pub each : {A : Type 0} (test : A → Bool) (Rule : A → Type 0) (tells : (x : A) → test x ≡ true → Rule x) (blank : A) (xs : List A)
    → list_all test xs ≡ true → (i : ℕ) → i < length xs → Rule (get_or xs i blank)
each test Rule tells blank xs e i h =
    tells (get_or xs i blank) (true_from_ne_false (test (get_or xs i blank)) (λ n. both_ways (list_all test xs) (list_all_at test xs i blank h n) e))
