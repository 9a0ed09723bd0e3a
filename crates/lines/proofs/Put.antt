use Rattle.std.proofs.Common.{◌≡◌, ℕ, zero, suc, ◌-◌, ◌^◌, ◌<◌, ◌∷◌, length, replicate, decimal, refl, ap, arith}
use Rattle.std.proofs.lemmas.Bool.{ne_eqb}
use Rattle.std.proofs.lemmas.List.{append-nil}
use Rattle.std.specs.Char.{encode_utf8}
use Rattle.std.specs.Fmt.{char_count, format_spec, padded_integral, styled_decimal}
use Rattle.std.specs.List.{repeat}
use Rattle.lines.specs.Prints.{column}

repeat-space : (n : ℕ) → repeat n (encode_utf8 32) ≡ replicate n 32
unfolding encode_utf8
repeat-space zero = refl
repeat-space (suc n) = ap (λ bs. 32 ∷ bs) (repeat-space n)

-- what a hole of a format writes that puts a number to the right in a width
pub column-styled : (w n : ℕ) → 0 < w → 32 ∷ styled_decimal (format_spec 32 3 0 w (2 ^ 64 - 1)) n ≡ column w n
unfolding padded_integral char_count
column-styled w n h =
    let space = w - length (decimal n)
    in let short : space - 0 - 0 ≡ space = omega arith
    in let none : space - space ≡ 0 = omega arith
    in rw (ne_eqb w 0 (omega arith), short, none, repeat-space space) (simp append-nil)
