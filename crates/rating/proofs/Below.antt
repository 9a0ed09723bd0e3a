use Rattle.std.proofs.Common.{◌≡◌, ℕ, zero, suc, ◌<◌, ◌≤◌, Bool, List, [], ◌∷◌, ◌++◌, length, get_or, refl, arith}
use Rattle.std.proofs.lemmas.Bool.{cond_both}
use Rattle.rows.specs.declared.row.Row.{Row}
use Rattle.rating.specs.Orders.{Before, comes}
use Rattle.rating.specs.Rankings.{Permutes, front_of, keep, rows_before, sum_over, up_to}

-- Lists of numbers below n.
unfoldable pub Below : ℕ → List ℕ → Type 0
Below n [] = Unit {0}
Below n (x ∷ xs) = (x < n) × Below n xs

below-append : (n : ℕ) (xs ys : List ℕ) → Below n xs → Below n ys → Below n (xs ++ ys)
unfolding Below
below-append n [] ys a b = b
below-append n (x ∷ xs) ys a b = (a.0, below-append n xs ys a.1 b)

below_more : (n m : ℕ) (xs : List ℕ) → n ≤ m → Below n xs → Below m xs
unfolding Below
below_more n m [] h a = tt
below_more n m (x ∷ xs) h a = (omega (arith, a.0), below_more n m xs h a.1)

below-up_to : (n : ℕ) → Below n (up_to n)
unfolding Below up_to
below-up_to zero = tt
below-up_to (suc n) = below-append (suc n) (up_to n) (n ∷ []) (below_more n (suc n) (up_to n) (omega arith) (below-up_to n)) (omega arith, tt)

below-keep : (n : ℕ) (t : ℕ → Bool) (xs : List ℕ) → Below n xs → Below n (keep t xs)
unfolding Below keep
below-keep n t [] a = tt
below-keep n t (x ∷ xs) a = cond_both (t x) (x ∷ keep t xs) (keep t xs) (Below n) (λ _. (a.0, below-keep n t xs a.1)) (λ _. below-keep n t xs a.1)

pub below-before : (b : Before) (rows : List Row) (k : ℕ) → Below (length rows) (rows_before b rows k)
below-before b rows k = below-keep (length rows) (λ i. comes b rows i k) (up_to (length rows)) (below-up_to (length rows))

pub below-front : (n : ℕ) (rs : List ℕ) (k : ℕ) → Below n rs → Below n (front_of rs k)
unfolding Below front_of
below-front n [] k a = tt
below-front n (x ∷ xs) k a = cond_both _ [] (x ∷ front_of xs k) (Below n) (λ _. tt) (λ _. (a.0, below-front n xs k a.1))

below-places : (n : ℕ) (rs : List ℕ) → ((p : ℕ) → p < length rs → get_or rs p 0 < n) → Below n rs
unfolding Below
below-places n [] h = tt
below-places n (x ∷ xs) h = (h 0 (omega arith), below-places n xs (λ p g. h (suc p) (omega arith)))

pub below-permutes : (n : ℕ) (rs : List ℕ) → Permutes n rs → Below n rs
below-permutes n rs r = below-places n rs (λ p h. r.number p (omega (arith, r.long)))

pub sum_same : (n : ℕ) (f g : ℕ → ℕ) (xs : List ℕ) → Below n xs → ((i : ℕ) → i < n → f i ≡ g i) → sum_over f xs ≡ sum_over g xs
unfolding Below sum_over
sum_same n f g [] a h = refl
sum_same n f g (x ∷ xs) a h = omega (arith, h x a.0, sum_same n f g xs a.1 h)
