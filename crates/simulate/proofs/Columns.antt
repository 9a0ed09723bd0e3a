-- What is printed into a field of some width.
use Rattle.std.proofs.Common.{◌≡◌, ℕ, zero, suc, ◌+◌, ◌-◌, ◌*◌, ◌/◌, ◌%◌, ◌^◌, ◌<◌, ◌≤◌, false, eqb, List, [], ◌∷◌, ◌++◌, length, decimal, refl, ◌∙◌, pow-suc, inl, inr, arith, lit<}
use Rattle.std.proofs.lemmas.Bool.{cases_lt, ne_eqb}
use Rattle.std.proofs.lemmas.Fmt.{decimal_by_steps, decimal_digit, decimal_step}
use Rattle.std.proofs.lemmas.List.{append-nil, length_push}
use Rattle.std.proofs.Math.Nat.{one-le-pow}
use Rattle.std.proofs.Padding.{padded_integral_right, padded_integral_zeros, repeat_ascii, styled_decimal_is, take_chars_all}
use Rattle.std.specs.Fmt.{char_count, format_spec, padded, styled_decimal, styled_text}
use Rattle.listing.specs.Text.{two_digits}
use Rattle.simulate.specs.Tables.{at_right, head_of}
use Rattle.simulate.specs.declared.column.Column.{Column}
use Rattle.simulate.specs.declared.column.Column.TheVariants.{Admitted, Finished, Load, MemoryBound, Response, WholeBound, Memory, Processor}

-- a number from 10 ^ k on, and below the next power of ten, has k + 1 digits
abbrev HasDigits : ℕ → List ℕ → Type 0
HasDigits n ds = (k : ℕ) → 10 ^ k ≤ n → n < 10 * 10 ^ k → length ds ≡ k + 1

one_digit : (n : ℕ) → n < 10 → HasDigits n ((48 + n) ∷ [])
one_digit n small zero from below = refl
one_digit n small (suc k) from below = absurd (omega (arith, pow-suc 10 k, one-le-pow k 10 (omega arith)))

digit_more : (n : ℕ) (ds : List ℕ) → 10 ≤ n → HasDigits (n / 10) ds → HasDigits n (ds ++ ((48 + n % 10) ∷ []))
digit_more n ds large has zero from below = absurd (omega arith)
digit_more n ds large has (suc k) from below =
    omega (arith, length_push ds (48 + n % 10), has k (omega (arith, pow-suc 10 k)) (omega (arith, pow-suc 10 k)))

pub length-decimal : (n k : ℕ) → n < 2 ^ 64 → 10 ^ k ≤ n → n < 10 * 10 ^ k → length (decimal n) ≡ k + 1
length-decimal n k fits = decimal_by_steps HasDigits one_digit digit_more n fits k

-- `{n:02}`
pub number_two : (n : ℕ) → n < 100 → styled_decimal (format_spec 32 0 4 2 (2 ^ 64 - 1)) n ≡ two_digits n
number_two n small =
    let s = format_spec 32 0 4 2 (2 ^ 64 - 1) in
    styled_decimal_is s n ∙ padded_integral_zeros s (decimal n) refl refl
    ∙ elim (cases_lt n 10) [
      | inl l ↦
          let high : n / 10 ≡ 0 = omega arith in
          let low : n % 10 ≡ n = omega arith in
          rw (decimal_digit n l, high, low)
      | inr l ↦ rw (decimal_step n l (omega arith), decimal_digit (n / 10) (omega arith))
    ]

-- `{n:>w$}`
pub number_right : (w n : ℕ) → styled_decimal (format_spec 32 3 0 w (2 ^ 64 - 1)) n ≡ at_right w (decimal n)
number_right w n =
    let s = format_spec 32 3 0 w (2 ^ 64 - 1) in
    styled_decimal_is s n ∙ padded_integral_right s (decimal n) refl refl (λ e. cc) (λ e. cc) (lit< tt)

-- `{text:>w$}`, of a text with one byte to a character
pub text_right : (w : ℕ) (text : List ℕ) → char_count text ≡ length text → length text < 2 ^ 64
    → styled_text (format_spec 32 3 0 w (2 ^ 64 - 1)) text ≡ at_right w text
unfolding padded
text_right zero text ascii short = let none : 0 - length text ≡ 0 = omega arith in rw none
text_right (suc v) text ascii short =
    let p = suc v - length text in
    let none : p - p ≡ 0 = omega arith in
    let wide : eqb (suc v) 0 ≡ false = ne_eqb (suc v) 0 (omega arith) in
    let whole = take_chars_all (2 ^ 64 - 1) text (omega arith) in
    rw (wide, whole, ascii, none, repeat_ascii p 32 (lit< tt)) (simp append-nil)

-- the words above the columns, and the dash
head_ascii : (column : Column) → char_count (head_of column) ≡ length (head_of column)
unfolding char_count
head_ascii Admitted = refl
head_ascii Finished = refl
head_ascii Load = refl
head_ascii MemoryBound = refl
head_ascii Response = refl
head_ascii WholeBound = refl
head_ascii Memory = refl
head_ascii Processor = refl

head_short : (column : Column) → length (head_of column) < 2 ^ 64
head_short Admitted = lit< tt
head_short Finished = lit< tt
head_short Load = lit< tt
head_short MemoryBound = lit< tt
head_short Response = lit< tt
head_short WholeBound = lit< tt
head_short Memory = lit< tt
head_short Processor = lit< tt

pub head_right : (w : ℕ) (column : Column) → styled_text (format_spec 32 3 0 w (2 ^ 64 - 1)) (head_of column) ≡ at_right w (head_of column)
head_right w column = text_right w (head_of column) (head_ascii column) (head_short column)

pub dash_right : (w : ℕ) → styled_text (format_spec 32 3 0 w (2 ^ 64 - 1)) (45 ∷ []) ≡ at_right w (45 ∷ [])
unfolding char_count
dash_right w = text_right w (45 ∷ []) refl (lit< tt)
