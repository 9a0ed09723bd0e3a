use Rattle.std.proofs.Common.{◌≡◌, ℕ, cond, nat_lt, replicate, get_or}
use Rattle.std.proofs.lemmas.Bool.{cond_both, ltb-true, ltb-false}
use Rattle.std.proofs.lemmas.List.{get_or_past, get_or-replicate, length-replicate}

-- a table of one value has it at each mark, and past the last mark there is the default
pub of_one : {T : Type 0} (n : ℕ) (e d : T) (k : ℕ) → get_or (replicate n e) k d ≡ cond (nat_lt k n) e d
of_one n e d k =
    cond_both (nat_lt k n) e d (λ x. get_or (replicate n e) k d ≡ x)
    (λ h. get_or-replicate n k e d (ltb-true k n h))
    (λ h. get_or_past (replicate n e) k d (rw length-replicate (ltb-false k n h)))
