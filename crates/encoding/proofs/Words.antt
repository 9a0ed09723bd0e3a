use Rattle.std.proofs.Common.{◌≡◌, ℕ, ◌+◌, ◌*◌, ◌/◌, ◌%◌, ◌^◌, ◌<◌, [], ◌∷◌, sym, refl, ◌∙◌, mod-eq_of_lt, arith}
use native.Mathlib.Nat.{div-div-eq-div-mul}
use Rattle.encoding.specs.Records.{record_of, word_bytes}
use Rattle.rows.specs.Books.{row_at}
use Rattle.rows.specs.declared.row.Row.{Row}

-- the four bytes of a number of 32 bits are that number
pub word_back : (n : ℕ) → n < 2 ^ 32 → n / 16777216 % 256 * 16777216 + n / 65536 % 256 * 65536 + n / 256 % 256 * 256 + n % 256 ≡ n
word_back n h =
    let two : n / 65536 ≡ n / 256 / 256 = sym (div-div-eq-div-mul n 256 256)
    in let three : n / 16777216 ≡ n / 256 / 256 / 256 = sym (div-div-eq-div-mul n 256 65536) ∙ sym (div-div-eq-div-mul (n / 256) 256 256)
    in let small : n / 256 / 256 / 256 < 256 = omega arith
    in let top : n / 256 / 256 / 256 % 256 ≡ n / 256 / 256 / 256 = mod-eq_of_lt small
    in rw (two, three, top) (omega arith)

-- decoding the record of a row with figures of 32 bits gives the row back
pub row_back : (r : Row) → r.memory < 2 ^ 32 → r.compute < 2 ^ 32 → r.deadline < 2 ^ 32 → r.period < 2 ^ 32 → row_at (record_of r) 0 ≡ r
row_back r m c d t = rw (word_back r.memory m, word_back r.compute c, word_back r.deadline d, word_back r.period t) refl

-- and four bytes are those of their number
pub word_forth : (a b c d : ℕ) → a < 256 → b < 256 → c < 256 → d < 256 → word_bytes (a * 16777216 + b * 65536 + c * 256 + d) ≡ a ∷ b ∷ c ∷ d ∷ []
word_forth a b c d ha hb hc hd =
    let n = a * 16777216 + b * 65536 + c * 256 + d
    in let x1 : n / 256 ≡ a * 65536 + b * 256 + c = omega arith
    in let x2 : n / 65536 ≡ a * 256 + b = omega arith
    in let x3 : n / 16777216 ≡ a = omega arith
    in let y0 : n % 256 ≡ d = omega arith
    in let y1 : (a * 65536 + b * 256 + c) % 256 ≡ c = omega arith
    in let y2 : (a * 256 + b) % 256 ≡ b = omega arith
    in let y3 : a % 256 ≡ a = mod-eq_of_lt ha
    in rw (x1, x2, x3, y0, y1, y2, y3) refl
