use Rattle.std.specs.Prelude.{ℕ, ◌+◌, ◌-◌, ◌*◌, cond, ◌&&◌, List, [], ◌∷◌, length, Ok, Err, Result, ◌==◌, nat_le, nat_lt}
use Rattle.std.specs.Str.{all_ascii_digits}
use Rattle.lines.specs.declared.fault.Reason.{Reason}
use Rattle.lines.specs.declared.fault.Reason.TheVariants.{Missing, NotALabel, NotANumber, TooLarge, RankAbove, Extra}
use Rattle.rows.specs.Rows.{is_labelled, label_of as label_in}
use Rattle.rows.specs.declared.row.Label.{Label}

-- the number that digits go on to write behind those of n; 48 is the code of the digit 0
abbrev pub read_on : ℕ → List ℕ → ℕ
read_on n [] = n
read_on n (c ∷ cs) = read_on (10 * n + (c - 48)) cs

-- the number of a word of digits, if it fits 32 bits
abbrev pub value_of : List ℕ → Result ℕ Reason
value_of word = cond (nat_lt (read_on 0 word) 4294967296) (Ok (read_on 0 word)) (Err TooLarge)

abbrev pub number_of : List ℕ → Result ℕ Reason
number_of word = cond (length word == 0) (Err Missing) (cond (all_ascii_digits word) (value_of word) (Err NotANumber))

-- a number that may be a rank
abbrev pub ranked : Result ℕ Reason → Result ℕ Reason
ranked (Err reason) = Err reason
ranked (Ok n) = cond (nat_le n 255) (Ok n) (Err RankAbove)

abbrev pub rank_of : List ℕ → Result ℕ Reason
rank_of word = ranked (number_of word)

abbrev pub label_of : List ℕ → Result Label Reason
label_of word =
    cond (length word == 0) (Err Missing)
    (cond (length word == 4 && is_labelled (label_in word)) (Ok (label_in word)) (Err NotALabel))

-- no word
abbrev pub end_of : List ℕ → Result Unit Reason
end_of word = cond (length word == 0) (Ok tt) (Err Extra)
