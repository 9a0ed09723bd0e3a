use Rattle.std.proofs.Common.{◌≡◌, ℕ, zero, suc, ◌+◌, ◌-◌, ◌^◌, ◌<◌, Bool, true, false, not, ◌&&◌, List, [], ◌∷◌, ◌++◌, length, take, drop, replicate, decimal, refl, ap, ◌∙◌, append_assoc, one-add, arith}
use Rattle.std.proofs.lemmas.Fmt.{decimal_nonempty, digits_decimal}
use Rattle.std.proofs.lemmas.List.{drop_at, length-replicate, take_at}
use Rattle.std.proofs.lemmas.Bool.{and_from, and_parts, cond-false, cond-true, not-true}
use Rattle.std.proofs.lemmas.Bool.Decides.{nat_tests}
use Rattle.std.specs.Char.{is_ascii_digit}
use Rattle.std.specs.List.{prefix_len}
use Rattle.std.specs.Str.{all_ascii_digits}
use Rattle.lines.proofs.Fields.{own}
use Rattle.lines.specs.Prints.{column}
use Rattle.lines.specs.Words.{after_word, first_word, from_word, is_blank, is_solid}

-- no byte is a blank
abbrev pub solid : List ℕ → Bool
solid [] = true
solid (b ∷ bs) = not (is_blank b) && solid bs

-- a word ends here: nothing is left, or a blank comes first
abbrev pub parted : List ℕ → Bool
parted [] = true
parted (b ∷ bs) = is_blank b

lead_word : (ws rest : List ℕ) → solid ws ≡ true → parted rest ≡ true → prefix_len is_solid (ws ++ rest) ≡ length ws
lead_word [] [] s p = refl
lead_word [] (b ∷ bs) s p = rw p refl
lead_word (b ∷ ws) rest s p =
    let parts = and_parts (not (is_blank b)) (solid ws) s
    in cond-true _ _ 0 parts.0 ∙ ap (λ n. 1 + n) (lead_word ws rest parts.1 p) ∙ one-add (length ws)

lead_spaces : (k : ℕ) (b : ℕ) (bs : List ℕ) → is_blank b ≡ false → prefix_len is_blank (replicate k 32 ++ b ∷ bs) ≡ k
lead_spaces zero b bs e = cond-false _ _ 0 e
lead_spaces (suc k) b bs e = ap (λ n. 1 + n) (lead_spaces k b bs e) ∙ one-add k

from-word : (k : ℕ) (ws rest : List ℕ) → 0 < length ws → solid ws ≡ true → from_word (replicate k 32 ++ (ws ++ rest)) ≡ ws ++ rest
from-word k [] rest some s = absurd (omega arith)
from-word k (b ∷ ws) rest some s =
    let dark = not-true (is_blank b) (and_parts (not (is_blank b)) (solid ws) s).0
    in ap (λ n. drop n (replicate k 32 ++ (b ∷ ws ++ rest))) (lead_spaces k b (ws ++ rest) dark)
    ∙ drop_at (replicate k 32) (b ∷ ws ++ rest) k (length-replicate k 32)

-- spaces, a word and what stands behind it
pub first-is : (k : ℕ) (ws rest : List ℕ) → 0 < length ws → solid ws ≡ true → parted rest ≡ true → first_word (replicate k 32 ++ (ws ++ rest)) ≡ ws
first-is k ws rest some s p =
    ap (λ line. take (prefix_len is_solid line) line) (from-word k ws rest some s)
    ∙ ap (λ n. take n (ws ++ rest)) (lead_word ws rest s p)
    ∙ take_at ws rest (length ws) refl

pub after_is : (k : ℕ) (ws rest : List ℕ) → 0 < length ws → solid ws ≡ true → parted rest ≡ true → after_word (replicate k 32 ++ (ws ++ rest)) ≡ rest
after_is k ws rest some s p =
    ap (λ line. drop (prefix_len is_solid line) line) (from-word k ws rest some s)
    ∙ ap (λ n. drop n (ws ++ rest)) (lead_word ws rest s p)
    ∙ drop_at ws rest (length ws) refl

-- digits
dark_digit : (c : ℕ) → is_ascii_digit c ≡ true → not (is_blank c) ≡ true
dark_digit c e = grind (arith, nat_tests)

solid-digits : (ds : List ℕ) → all_ascii_digits ds ≡ true → solid ds ≡ true
solid-digits [] e = refl
solid-digits (c ∷ cs) e =
    let parts = and_parts (is_ascii_digit c) (all_ascii_digits cs) e
    in and_from _ _ (dark_digit c parts.0) (solid-digits cs parts.1)

pub solid-decimal : (n : ℕ) → n < 2 ^ 64 → solid (decimal n) ≡ true
solid-decimal n h = solid-digits (decimal n) (digits_decimal own n h)

-- a column's word is its number
pub column-first : (w n : ℕ) (rest : List ℕ) → n < 2 ^ 64 → parted rest ≡ true → first_word (column w n ++ rest) ≡ decimal n
column-first w n rest h p =
    ap first_word (append_assoc (replicate (suc (w - length (decimal n))) 32) (decimal n) rest)
    ∙ first-is (suc (w - length (decimal n))) (decimal n) rest (decimal_nonempty n h) (solid-decimal n h) p

pub column-after : (w n : ℕ) (rest : List ℕ) → n < 2 ^ 64 → parted rest ≡ true → after_word (column w n ++ rest) ≡ rest
column-after w n rest h p =
    ap after_word (append_assoc (replicate (suc (w - length (decimal n))) 32) (decimal n) rest)
    ∙ after_is (suc (w - length (decimal n))) (decimal n) rest (decimal_nonempty n h) (solid-decimal n h) p
