use Rattle.std.proofs.Common.{◌≡◌, ℕ, zero, suc, ◌+◌, ◌-◌, ◌<◌, ◌≤◌, Bool, true, false, not, Bor, List, [], ◌∷◌, length, get_or, take, drop, Option, Some, None, sym, refl, ap, ◌∙◌, one-add, arith}
use Rattle.std.specs.List.{AllWithin, HoldsAt, filter, onto_first, prefix_len, slice_get, slice_split}
use Rattle.std.proofs.lemmas.Bool.{ne_eqb}
use Rattle.std.proofs.lemmas.List.Sums.{prefix_len_is}
use Rattle.std.proofs.lemmas.Option.{unwrap_or-slice_get}
use Rattle.std.specs.Option.{MatchOption, UnwrapsOrElse, option_map, unwrap_or}
use Rattle.lines.specs.Words.{after_word, first_word, from_word, is_blank, is_solid, is_word, word_in, words}

-- the first piece of a line, and the words behind it
record Cut (line : List ℕ) : Type 0 where
  rest : List (List ℕ)
  pieces : slice_split is_blank line ≡ take (prefix_len is_solid line) line ∷ rest
  others : filter is_word rest ≡ words (drop (prefix_len is_solid line) line)

words_on : (b : ℕ) (bs : List ℕ) → is_blank b ≡ true → words (b ∷ bs) ≡ words bs
words_on b bs e = rw e refl

cut_on : (t : Bool) (b : ℕ) (bs : List ℕ) → is_blank b ≡ t → Cut bs → Cut (b ∷ bs)
cut_on true b bs e c =
    let none : drop (prefix_len is_solid (b ∷ bs)) (b ∷ bs) ≡ b ∷ bs = rw e refl
    in record { rest = slice_split is_blank bs; pieces = rw e refl; others = sym (ap words none ∙ words_on b bs e) }
cut_on false b bs e c = record { rest = c.rest; pieces = rw (e, one-add (prefix_len is_solid bs)) (ap (onto_first b) c.pieces); others = rw (e, one-add (prefix_len is_solid bs)) c.others }

cut : (line : List ℕ) → Cut line
cut [] = record { rest = []; pieces = refl; others = refl }
cut (b ∷ bs) = cut_on (is_blank b) b bs refl (cut bs)

-- the first word of a line is its first, and the others are those behind it
record Firsts (line : List ℕ) : Type 0 where
  first : first_word line ≡ get_or (words line) 0 []
  others : (n : ℕ) → get_or (words (after_word line)) n [] ≡ get_or (words line) (suc n) []

firsts_on : (t : Bool) (b : ℕ) (bs : List ℕ) → is_blank b ≡ t → Firsts bs → Firsts (b ∷ bs)
firsts_on true b bs e f =
    let same = words_on b bs e
    in let from : from_word (b ∷ bs) ≡ from_word bs = rw (e, one-add (prefix_len is_blank bs)) refl
    in record {
      first = ap (λ l. take (prefix_len is_solid l) l) from ∙ f.first ∙ sym (ap (λ ws. get_or ws 0 []) same);
      others = λ n. ap (λ l. get_or (words (drop (prefix_len is_solid l) l)) n []) from ∙ f.others n ∙ sym (ap (λ ws. get_or ws (suc n) []) same);
    }
firsts_on false b bs e f =
    let c = cut (b ∷ bs)
    in let from : from_word (b ∷ bs) ≡ b ∷ bs = rw e refl
    in let some : is_word (take (prefix_len is_solid (b ∷ bs)) (b ∷ bs)) ≡ true =
    ap not (ne_eqb _ 0 (rw (e, one-add (prefix_len is_solid bs)) (omega arith)))
    in let is : words (b ∷ bs) ≡ take (prefix_len is_solid (b ∷ bs)) (b ∷ bs) ∷ filter is_word c.rest = ap (filter is_word) c.pieces ∙ (rw some refl)
    in record {
      first = ap (λ l. take (prefix_len is_solid l) l) from ∙ sym (ap (λ ws. get_or ws 0 []) is);
      others = λ n. ap (λ l. get_or (words (drop (prefix_len is_solid l) l)) n []) from ∙ sym (ap (λ ws. get_or ws n []) c.others) ∙ sym (ap (λ ws. get_or ws (suc n) []) is);
    }

firsts : (line : List ℕ) → Firsts line
firsts [] = record { first = refl; others = λ n. refl }
firsts (b ∷ bs) = firsts_on (is_blank b) b bs refl (firsts bs)

-- the word of a number is the one of that place
pub word-words : (line : List ℕ) (n : ℕ) → get_or (words line) n [] ≡ word_in line n
unfolding word_in
word-words line zero = sym (firsts line).first
word-words line (suc n) = sym ((firsts line).others n) ∙ word-words (after_word line) n

-- what is taken of a place of a list, or the empty one
pub taken : (r : Option (Bor (List ℕ))) (x : Bor (List ℕ)) (ws : List (List ℕ)) (n : ℕ) → UnwrapsOrElse r (λ y. y.now ≡ []) x → option_map (λ y. y.now) r ≡ slice_get ws n
    → x.now ≡ get_or ws n []
taken None x ws n is at = is ∙ ap (λ o. unwrap_or o []) at ∙ unwrap_or-slice_get ws n []
taken (Some y) x ws n is at = ap (λ z. z.now) is ∙ ap (λ o. unwrap_or o []) at ∙ unwrap_or-slice_get ws n []

-- one word on
pub word_on : (line : List ℕ) (n i : ℕ) → i < n → word_in line (n - i) ≡ word_in (after_word line) (n - (i + 1))
unfolding word_in
word_on line n i h = let e : n - i ≡ suc (n - (i + 1)) = omega arith in ap (word_in line) e

pub word_here : (line : List ℕ) (n i : ℕ) → n ≤ i → word_in line (n - i) ≡ first_word line
unfolding word_in
word_here line n i h = let e : n - i ≡ 0 = omega arith in ap (word_in line) e

-- how far a search goes, which stops at the first that does not pass, or behind them all
pub prefix_found : (p : ℕ → Bool) (bs : List ℕ) (o : Option ℕ)
    → MatchOption o (AllWithin (λ b. p b ≡ true) bs 0 (length bs)) (λ n. (n < length bs) × HoldsAt (λ b. p b ≡ false) bs n × AllWithin (λ b. p b ≡ true) bs 0 n)
    → unwrap_or o (length bs) ≡ prefix_len p bs
prefix_found p bs None all = sym (prefix_len_is p bs (length bs) 0 (omega arith) (λ k l. all k 0 (omega arith) l) (λ l. absurd (omega arith)))
prefix_found p bs (Some n) found = sym (prefix_len_is p bs n 0 (omega (arith, found.0)) (λ k l. found.2 k 0 (omega arith) l) (λ l. found.1 0))
