-- Texts that are put together piece by piece.
use Rattle.std.proofs.Common.{◌≡◌, ℕ, ◌+◌, ◌<◌, ◌≤◌, max, List, [], ◌∷◌, ◌++◌, map, length, get_or, take, IfSome, Some, None, Option, sym, ap, ◌∙◌, append_assoc, add-one, arith}
use Rattle.std.proofs.lemmas.List.{append-nil, map-append, take_more}
use Rattle.simulate.specs.Tables.{in_turn, up_to, widest}

-- a text with x and then y behind it
pub then : {b c : List ℕ} (a x y : List ℕ) → b ≡ a ++ x → c ≡ b ++ y → c ≡ a ++ (x ++ y)
then a x y p q = q ∙ ap (λ z. z ++ y) p ∙ append_assoc a x y

-- three pieces, and so on
pub then3 : {b c d : List ℕ} (a x y z : List ℕ) → b ≡ a ++ x → c ≡ b ++ y → d ≡ c ++ z → d ≡ a ++ (x ++ (y ++ z))
then3 {b} a x y z p q r = then a x (y ++ z) p (then b y z q r)

pub then4 : {b c d e : List ℕ} (a w x y z : List ℕ) → b ≡ a ++ w → c ≡ b ++ x → d ≡ c ++ y → e ≡ d ++ z → e ≡ a ++ (w ++ (x ++ (y ++ z)))
then4 {b} a w x y z p q r s = then a w (x ++ (y ++ z)) p (then3 b x y z q r s)

pub then6 : {b c d e f g : List ℕ} (a u v w x y z : List ℕ) → b ≡ a ++ u → c ≡ b ++ v → d ≡ c ++ w → e ≡ d ++ x → f ≡ e ++ y → g ≡ f ++ z
    → g ≡ a ++ (u ++ (v ++ (w ++ (x ++ (y ++ z)))))
then6 {b} {c} a u v w x y z p q r s t h = then3 a u v (w ++ (x ++ (y ++ z))) p q (then4 c w x y z r s t h)

-- the texts of one more element
pub in_turn-push : {X : Type 0} (text : X → List ℕ) (xs : List X) (x : X) → in_turn text (xs ++ (x ∷ [])) ≡ in_turn text xs ++ text x
in_turn-push text [] x = append-nil (text x)
in_turn-push text (y ∷ ys) x = ap (λ z. text y ++ z) (in_turn-push text ys x) ∙ sym (append_assoc (text y) (in_turn text ys) (text x))

pub in_turn-more : {b c : List ℕ} {X : Type 0} (text : X → List ℕ) (a : List ℕ) (xs : List X) (i : ℕ) (d : X) → i < length xs
    → b ≡ a ++ in_turn text (take i xs) → c ≡ b ++ text (get_or xs i d) → c ≡ a ++ in_turn text (take (i + 1) xs)
in_turn-more text a xs i d l p q =
    then a (in_turn text (take i xs)) (text (get_or xs i d)) p q
    ∙ ap (λ z. a ++ z) (sym (in_turn-push text (take i xs) (get_or xs i d)) ∙ ap (in_turn text) (sym (take_more xs i d l)))

-- a character for one more element
pub mapped_push : {b c : List ℕ} {X : Type 0} (f : X → ℕ) (a : List ℕ) (xs : List X) (i : ℕ) (d : X) → i < length xs
    → b ≡ a ++ map f (take i xs) → c ≡ b ++ (f (get_or xs i d) ∷ []) → c ≡ a ++ map f (take (i + 1) xs)
mapped_push f a xs i d l p q =
    then a (map f (take i xs)) (f (get_or xs i d) ∷ []) p q
    ∙ ap (λ z. a ++ z) (sym (map-append f (take i xs) (get_or xs i d ∷ [])) ∙ ap (map f) (sym (take_more xs i d l)))

-- the line of one more row
pub up_to_more : {b c : List ℕ} (line : ℕ → List ℕ) (a : List ℕ) (n : ℕ) → b ≡ a ++ up_to line n → c ≡ b ++ line n → c ≡ a ++ up_to line (n + 1)
up_to_more line a n p q = then a (up_to line n) (line n) p q ∙ ap (λ k. a ++ up_to line k) (sym (add-one n))

-- one more word may be the longest
pub widest-more : (texts : ℕ → List ℕ) (w n v : ℕ) → v ≡ widest texts w n → max v (length (texts n)) ≡ widest texts w (n + 1)
widest-more texts w n v e = ap (λ k. max k (length (texts n))) e ∙ ap (widest texts w) (sym (add-one n))

-- bounds that keep a deadline are small
pub small_bounds : (o : Option (ℕ × ℕ)) (n : ℕ) → n ≤ 1000000 → IfSome o (λ b. b.0 + b.1 ≤ n) → IfSome o (λ b. b.0 + b.1 ≤ 1000000)
small_bounds None n h f = tt
small_bounds (Some b) n h f = omega (arith, f)
