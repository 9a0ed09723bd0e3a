use Rattle.std.proofs.Common.{ℕ, get_or, replicate, sym, subst, ⊎_elim}
use Rattle.std.proofs.lemmas.List.{get_or_past, get_or-replicate, length-replicate}
use Rattle.std.proofs.lemmas.Bool.{cases_lt}

-- what holds of the one entry of a table and of the default holds at every place
pub each : {A : Type 0} (P : A → Type 0) (n : ℕ) (e d : A) → P e → P d → (k : ℕ) → P (get_or (replicate n e) k d)
each P n e d p q k = ⊎_elim (λ h. subst P (sym (get_or-replicate n k e d h)) p) (λ h. subst P (sym (get_or_past (replicate n e) k d (rw length-replicate h))) q) (cases_lt k n)
