use Rattle.std.proofs.Common.{◌≡◌, ℕ, zero, suc, ◌<◌, true, false, List, [], ◌∷◌, length, get_or, is_some, Some, None, Option, unwrap_or, sym, refl, ap, ◌∙◌, subst, arith}
use Rattle.std.proofs.lemmas.Bool.{both_ways}
use Rattle.rating.specs.Bounds.{first_none, or_else}
use Rattle.rating.proofs.Below.{Below}

-- where there is a value, it is the value
pub some-value : (o : Option ℕ) → is_some o ≡ true → o ≡ Some (unwrap_or o 0)
some-value None e = absurd (let z : false ≡ true = e in search arith)
some-value (Some x) e = refl

-- a list without a none has a value at each of its places
pub none_first : (bound : ℕ → Option ℕ) (ks : List ℕ) → first_none bound ks ≡ None → (p : ℕ) → p < length ks → is_some (bound (get_or ks p 0)) ≡ true
unfolding first_none
none_first bound [] e p h = absurd (omega arith)
none_first bound (k ∷ ks) e p h = go (bound k) refl e p h (none_first bound ks)
  where
    go : (o : Option ℕ) → bound k ≡ o → or_else o k (first_none bound ks) ≡ None → (p : ℕ) → p < length (k ∷ ks)
        → (first_none bound ks ≡ None → (q : ℕ) → q < length ks → is_some (bound (get_or ks q 0)) ≡ true) → is_some (bound (get_or (k ∷ ks) p 0)) ≡ true
    go None b f p g later = absurd (let z : ◌≡◌ {A = ℕ} 0 1 = cc in omega arith)
    go (Some x) b f zero g later = ap is_some b
    go (Some x) b f (suc p) g later = later f p (omega arith)

-- the first none is at a place before which there is a value everywhere
pub first-none_at : (bound : ℕ → Option ℕ) (ks : List ℕ) (p : ℕ) → p < length ks → ((q : ℕ) → q < p → is_some (bound (get_or ks q 0)) ≡ true)
    → bound (get_or ks p 0) ≡ None → first_none bound ks ≡ Some (get_or ks p 0)
unfolding first_none
first-none_at bound [] p h before here = absurd (omega arith)
first-none_at bound (k ∷ ks) zero h before here = rw here refl
first-none_at bound (k ∷ ks) (suc p) h before here = go (bound k) refl (first-none_at bound ks p (omega arith) (λ q g. before (suc q) (omega arith)) here)
  where
    go : (o : Option ℕ) → bound k ≡ o → first_none bound ks ≡ Some (get_or ks p 0) → or_else (bound k) k (first_none bound ks) ≡ Some (get_or ks p 0)
    go None e later = absurd (let z : is_some (bound k) ≡ true = before 0 (omega arith) in let y : false ≡ true = sym (ap is_some e) ∙ z in search arith)
    go (Some x) e later = rw e later

pub first-same : (n : ℕ) (f g : ℕ → Option ℕ) (ks : List ℕ) → Below n ks → ((k : ℕ) → k < n → f k ≡ g k) → first_none f ks ≡ first_none g ks
unfolding Below first_none
first-same n f g [] a h = refl
first-same n f g (k ∷ ks) a h = ap (λ o. or_else o k (first_none f ks)) (h k a.0) ∙ ap (λ o. or_else (g k) k o) (first-same n f g ks a.1 h)

-- where the first none stands
pub record FirstAt (bound : ℕ → Option ℕ) (ks : List ℕ) (k : ℕ) : Type 0 where
  pub place : ℕ
  pub within : place < length ks
  pub here : get_or ks place 0 ≡ k
  pub none : bound k ≡ None
  pub before : (q : ℕ) → q < place → is_some (bound (get_or ks q 0)) ≡ true

pub first-at : (bound : ℕ → Option ℕ) (ks : List ℕ) (k : ℕ) → first_none bound ks ≡ Some k → FirstAt bound ks k
unfolding first_none
first-at bound [] k e = absurd (let z : ◌≡◌ {A = ℕ} 0 1 = cc in omega arith)
first-at bound (x ∷ xs) k e = go (bound x) refl e (first-at bound xs k)
  where
    go : (o : Option ℕ) → bound x ≡ o → or_else o x (first_none bound xs) ≡ Some k → (first_none bound xs ≡ Some k → FirstAt bound xs k) → FirstAt bound (x ∷ xs) k
    go None b f later =
        let same : x ≡ k = cc
        in record { place = 0; within = omega arith; here = same; none = subst (λ i. bound i ≡ None) same b; before = λ q h. absurd (omega arith) }
    go (Some y) b f later =
        let r = later f
        in record { place = suc r.place; within = omega (arith, r.within); here = r.here; none = r.none; before = pass r.place r.before }
      where
        pass : (p : ℕ) → ((q : ℕ) → q < p → is_some (bound (get_or xs q 0)) ≡ true) → (q : ℕ) → q < suc p → is_some (bound (get_or (x ∷ xs) q 0)) ≡ true
        pass p h zero l = ap is_some b
        pass p h (suc q) l = h q (omega arith)

-- the first number without a value is one of the list, so it is below what bounds the list
pub first_below : (bound : ℕ → Option ℕ) (ks : List ℕ) (n : ℕ) → ((p : ℕ) → p < length ks → get_or ks p 0 < n) → (k : ℕ) → first_none bound ks ≡ Some k → k < n
first_below bound ks n small k e = let r = first-at bound ks k e in omega (arith, r.here, small r.place r.within)

-- a list with a value at each of its places has no first none
pub all-some : (bound : ℕ → Option ℕ) (ks : List ℕ) → ((p : ℕ) → p < length ks → is_some (bound (get_or ks p 0)) ≡ true) → first_none bound ks ≡ None
all-some bound ks h = go (first_none bound ks) refl
  where
    go : (o : Option ℕ) → first_none bound ks ≡ o → o ≡ None
    go None e = refl
    go (Some k) e = absurd (let r = first-at bound ks k e in both_ways (is_some (bound k)) (ap is_some r.none) (subst (λ i. is_some (bound i) ≡ true) r.here (h r.place r.within)))
