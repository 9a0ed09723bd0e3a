-- A mark in two digits.
use Rattle.std.proofs.Common.{◌≡◌, ℕ, ◌+◌, ◌-◌, ◌/◌, ◌%◌, ◌^◌, ◌<◌, ◌≤◌, [], ◌∷◌, ◌++◌, length, decimal, refl, ◌∙◌, inl, inr, arith}
use Rattle.std.proofs.lemmas.Bool.{cases_lt}
use Rattle.std.proofs.lemmas.Fmt.{decimal_digit, decimal_step}
use Rattle.std.proofs.lemmas.List.{length_push}
use Rattle.std.proofs.Padding.{padded_integral_zeros, styled_decimal_is}
use Rattle.std.specs.Fmt.{format_spec, styled_decimal}

-- a number from 10 on has two digits at least
some_digit : (n : ℕ) → n < 256 → 1 ≤ length (decimal n)
some_digit n small =
    elim (cases_lt n 10) [
      | inl l ↦ rw (decimal_digit n l) (omega arith)
      | inr l ↦ rw (decimal_step n l (omega arith)) (omega (arith, length_push (decimal (n / 10)) (48 + n % 10)))
    ]

-- `{n:02}` writes the tens and the ones
pub tens_ones : (n : ℕ) → n < 256 → styled_decimal (format_spec 32 0 4 2 (2 ^ 64 - 1)) n ≡ decimal (n / 10) ++ decimal (n % 10)
tens_ones n small =
    let s = format_spec 32 0 4 2 (2 ^ 64 - 1) in
    styled_decimal_is s n ∙ padded_integral_zeros s (decimal n) refl refl
    ∙ elim (cases_lt n 10) [
      | inl l ↦
          let high : n / 10 ≡ 0 = omega arith in
          let low : n % 10 ≡ n = omega arith in
          rw (high, low, decimal_digit n l, decimal_digit 0 (omega arith))
      | inr l ↦
          let ones = decimal_digit (n % 10) (omega arith) in
          let none : 2 - length (decimal (n / 10) ++ ((48 + n % 10) ∷ [])) ≡ 0 =
          omega (arith, length_push (decimal (n / 10)) (48 + n % 10), some_digit (n / 10) (omega arith)) in
          rw (decimal_step n l (omega arith), ones, none)
    ]
