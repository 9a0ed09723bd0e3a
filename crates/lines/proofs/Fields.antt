use Rattle.std.proofs.Common.{◌≡◌, ℕ, ◌<◌, Bool, true, false, cond, ◌&&◌, eqb, List, [], ◌∷◌, length, Ok, Err, Result, sym, refl, ap, ◌∙◌, arith, rules}
use Rattle.std.proofs.lemmas.Bool.{false≢true, cond-false, cond-true, le-ltb, lt-ltb}
use Rattle.std.proofs.lemmas.Fmt.{IsAscii-from_digits}
use Rattle.std.proofs.lemmas.Str.{IsUtf8-from_ascii}
use Rattle.std.proofs.lemmas.Str.Parse.{IsNumeralModel, numerals_by_fold, parse_digits}
use Rattle.std.specs.Char.{is_ascii_digit}
use Rattle.std.specs.List.{list_all}
use Rattle.std.specs.Result.{MatchResult}
use Rattle.std.specs.Str.{IsUtf8, all_ascii_digits}
use Rattle.std.specs.Str.Parse.{ParsesUnsigned}
use Rattle.lines.specs.Fields.{number_of, read_on, value_of}
use Rattle.lines.specs.declared.fault.Reason.{Reason}
use Rattle.lines.specs.declared.fault.Reason.TheVariants.{NotANumber, TooLarge}

pub digits-all : (ds : List ℕ) → list_all is_ascii_digit ds ≡ all_ascii_digits ds
digits-all [] = refl
digits-all (c ∷ cs) = ap (λ b. is_ascii_digit c && b) (digits-all cs)

-- the digits of a word, and the number that they write, are those that the library reads
pub own : IsNumeralModel (λ ds. all_ascii_digits ds ≡ true) (read_on 0)
own = numerals_by_fold _ (search rules) read_on (search rules)

-- the number of a word that is not empty
some-number : (bs : List ℕ) → eqb (length bs) 0 ≡ false → (b : Bool) → all_ascii_digits bs ≡ b → number_of bs ≡ cond b (value_of bs) (Err NotANumber)
some-number bs some b is = rw (some, is) refl

pub no-number : (bs : List ℕ) → eqb (length bs) 0 ≡ false → ¬ (IsUtf8 bs) → (b : Bool) → all_ascii_digits bs ≡ b → Err NotANumber ≡ number_of bs
no-number bs some not true is = absurd (not (IsUtf8-from_ascii bs (IsAscii-from_digits bs (own.to bs is))))
no-number bs some not false is = sym (some-number bs some false is)

some_of : (bs : List ℕ) → eqb (length bs) 0 ≡ false → 0 < length bs
some_of [] e = absurd (false≢true (sym e))
some_of (b ∷ bs) e = omega arith

pub number-read : {E : Type 0} (bs : List ℕ) (read : Result ℕ E) (out : Result ℕ Reason) → eqb (length bs) 0 ≡ false → all_ascii_digits bs ≡ true → ParsesUnsigned 32 10 bs read
    → MatchResult read (λ n. out ≡ Ok n) (λ _. out ≡ Err TooLarge) → out ≡ number_of bs
number-read {E} bs (Ok n) out some digits parsed told =
    let fits = parse_digits own {E = E} 32 bs (Ok n) parsed digits
    in told ∙ ap Ok fits.1 ∙ sym (some-number bs some true digits ∙ cond-true _ (Ok (read_on 0 bs)) (Err TooLarge) (lt-ltb (read_on 0 bs) 4294967296 (omega (arith, fits.0.1))))
number-read {E} bs (Err e) out some digits parsed told =
    let large : ¬ (read_on 0 bs < 4294967296) = λ small. parse_digits own {E = E} 32 bs (Err e) parsed digits (some_of bs some, omega arith)
    in told ∙ sym (some-number bs some true digits ∙ cond-false _ (Ok (read_on 0 bs)) (Err TooLarge) (le-ltb (read_on 0 bs) 4294967296 (omega (arith, large))))
