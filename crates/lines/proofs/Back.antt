use Rattle.std.proofs.Common.{◌≡◌, ℕ, zero, suc, ◌-◌, ◌^◌, ◌<◌, true, cond, not, eqb, List, [], ◌∷◌, ◌++◌, length, replicate, Some, None, Ok, Err, decimal, sym, refl, ap, ◌∙◌, arith}
use Rattle.std.proofs.lemmas.Fmt.{decimal_nonempty, digits_decimal, digits_value-decimal}
use Rattle.std.proofs.lemmas.List.{append-nil}
use Rattle.std.proofs.lemmas.Bool.{and_from, and_parts, cond-false, cond-true, le-leb, lt-ltb, ne_eqb}
use Rattle.std.proofs.lemmas.Bool.Decides.{nat_tests}
use Rattle.std.specs.Char.{is_ascii_digit}
use Rattle.std.specs.Str.{all_ascii_digits}
use Rattle.lines.proofs.Fields.{own}
use Rattle.lines.proofs.Rows.{on}
use Rattle.lines.proofs.Split.{after_is, column-after, column-first, first-is, parted, solid}
use Rattle.lines.specs.Faults.{and_then, placed}
use Rattle.lines.specs.Fields.{end_of, label_of, number_of, rank_of, ranked, read_on, value_of}
use Rattle.lines.specs.Lines.{is_comment, line_of, row_in}
use Rattle.lines.specs.Prints.{ParsesBack, column, is_one_line, row_text}
use Rattle.lines.specs.Words.{after_word, first_word, word_in}
use Rattle.lines.specs.declared.fault.Reason.TheVariants.{Missing, NotANumber, TooLarge, RankAbove}
use Rattle.rows.specs.Rows.{is_labelled, label_bytes}
use Rattle.rows.specs.declared.row.Label.{Label}
use Rattle.rows.specs.declared.row.Row.{Row}

-- a number's digits read as the number
number_back : (n : ℕ) → n < 2 ^ 32 → number_of (decimal n) ≡ Ok n
number_back n h =
    let small : n < 2 ^ 64 = omega arith
    in let is = digits_value-decimal own n small
    in cond-false _ (Err Missing) _ (ne_eqb (length (decimal n)) 0 (omega (arith, decimal_nonempty n small)))
    ∙ cond-true _ (value_of (decimal n)) (Err NotANumber) (digits_decimal own n small)
    ∙ cond-true _ (Ok (read_on 0 (decimal n))) (Err TooLarge) (lt-ltb (read_on 0 (decimal n)) 4294967296 (omega arith))
    ∙ ap Ok is

rank-back : (n : ℕ) → n < 2 ^ 8 → rank_of (decimal n) ≡ Ok n
rank-back n h = ap ranked (number_back n (omega arith)) ∙ cond-true _ (Ok n) (Err RankAbove) (le-leb n 255 (omega arith))

label_back : (l : Label) → is_labelled l ≡ true → label_of (label_bytes l) ≡ Ok l
label_back l e = rw e refl

solid-label : (l : Label) → is_labelled l ≡ true → solid (label_bytes l) ≡ true
solid-label l e = grind (arith, nat_tests)

-- the words behind the first
next : (line rest : List ℕ) (n : ℕ) → after_word line ≡ rest → word_in line (suc n) ≡ word_in rest n
unfolding word_in
next line rest n e = ap (λ r. word_in r n) e

here : (line ws : List ℕ) → first_word line ≡ ws → word_in line 0 ≡ ws
unfolding word_in
here line ws e = e

-- what a line has behind its label
abbrev columns : List (ℕ × ℕ) → List ℕ
columns [] = []
columns (c ∷ cs) = column c.0 c.1 ++ columns cs

parted-columns : (cs : List (ℕ × ℕ)) → parted (columns cs) ≡ true
parted-columns [] = refl
parted-columns (c ∷ cs) = refl

col_here : (c : ℕ × ℕ) (cs : List (ℕ × ℕ)) → c.1 < 2 ^ 32 → word_in (columns (c ∷ cs)) 0 ≡ decimal c.1
col_here c cs h = here (columns (c ∷ cs)) (decimal c.1) (column-first c.0 c.1 (columns cs) (omega arith) (parted-columns cs))

col_next : (c : ℕ × ℕ) (cs : List (ℕ × ℕ)) (n : ℕ) → c.1 < 2 ^ 32 → word_in (columns (c ∷ cs)) (suc n) ≡ word_in (columns cs) n
col_next c cs n h = next (columns (c ∷ cs)) (columns cs) n (column-after c.0 c.1 (columns cs) (omega arith) (parted-columns cs))

no_word : word_in [] 0 ≡ []
unfolding word_in
no_word = refl

-- the words of the line of a row
module _ (r : Row) (labelled : is_labelled r.label ≡ true) (hm : r.memory < 2 ^ 32) (hc : r.compute < 2 ^ 32) (hd : r.deadline < 2 ^ 32) (ht : r.period < 2 ^ 32) (hp : r.memory_rank < 2 ^ 8) (hq : r.processor_rank < 2 ^ 8) where
  abbrev c6 : List (ℕ × ℕ)
  c6 = (14, r.processor_rank) ∷ []

  abbrev c5 : List (ℕ × ℕ)
  c5 = (11, r.memory_rank) ∷ c6

  abbrev c4 : List (ℕ × ℕ)
  c4 = (7, r.period) ∷ c5

  abbrev c3 : List (ℕ × ℕ)
  c3 = (7, r.deadline) ∷ c4

  abbrev c2 : List (ℕ × ℕ)
  c2 = (7, r.compute) ∷ c3

  abbrev c1 : List (ℕ × ℕ)
  c1 = (10, r.memory) ∷ c2

  abbrev line : List ℕ
  line = label_bytes r.label ++ columns c1

  hp' : r.memory_rank < 2 ^ 32
  hp' = omega arith

  hq' : r.processor_rank < 2 ^ 32
  hq' = omega arith

  on1 : (n : ℕ) → word_in line (suc n) ≡ word_in (columns c1) n
  on1 n = next line (columns c1) n (after_is 0 (label_bytes r.label) (columns c1) (omega arith) (solid-label r.label labelled) refl)

  on2 : (n : ℕ) → word_in line (suc (suc n)) ≡ word_in (columns c2) n
  on2 n = on1 (suc n) ∙ col_next (10, r.memory) c2 n hm

  on3 : (n : ℕ) → word_in line (suc (suc (suc n))) ≡ word_in (columns c3) n
  on3 n = on2 (suc n) ∙ col_next (7, r.compute) c3 n hc

  on4 : (n : ℕ) → word_in line (suc (suc (suc (suc n)))) ≡ word_in (columns c4) n
  on4 n = on3 (suc n) ∙ col_next (7, r.deadline) c4 n hd

  on5 : (n : ℕ) → word_in line (suc (suc (suc (suc (suc n))))) ≡ word_in (columns c5) n
  on5 n = on4 (suc n) ∙ col_next (7, r.period) c5 n ht

  on6 : (n : ℕ) → word_in line (suc (suc (suc (suc (suc (suc n)))))) ≡ word_in (columns c6) n
  on6 n = on5 (suc n) ∙ col_next (11, r.memory_rank) c6 n hp'

  w0 : word_in line 0 ≡ label_bytes r.label
  w0 = here line (label_bytes r.label) (first-is 0 (label_bytes r.label) (columns c1) (omega arith) (solid-label r.label labelled) refl)

  w7 : word_in line 7 ≡ []
  w7 = on6 1 ∙ col_next (14, r.processor_rank) [] 0 hq' ∙ no_word

  row_back : Ok r ≡ row_in line
  unfolding row_in
  row_back =
      on _ (sym (ap (λ w. placed 0 (label_of w)) w0 ∙ ap (placed 0) (label_back r.label labelled)))
      (on _ (sym (ap (λ w. placed 1 (number_of w)) (on1 0 ∙ col_here (10, r.memory) c2 hm) ∙ ap (placed 1) (number_back r.memory hm)))
      (on _ (sym (ap (λ w. placed 2 (number_of w)) (on2 0 ∙ col_here (7, r.compute) c3 hc) ∙ ap (placed 2) (number_back r.compute hc)))
      (on _ (sym (ap (λ w. placed 3 (number_of w)) (on3 0 ∙ col_here (7, r.deadline) c4 hd) ∙ ap (placed 3) (number_back r.deadline hd)))
      (on _ (sym (ap (λ w. placed 4 (number_of w)) (on4 0 ∙ col_here (7, r.period) c5 ht) ∙ ap (placed 4) (number_back r.period ht)))
      (on _ (sym (ap (λ w. placed 5 (rank_of w)) (on5 0 ∙ col_here (11, r.memory_rank) c6 hp') ∙ ap (placed 5) (rank-back r.memory_rank hp)))
      (on _ (sym (ap (λ w. placed 6 (rank_of w)) (on6 0 ∙ col_here (14, r.processor_rank) [] hq') ∙ ap (placed 6) (rank-back r.processor_rank hq)))
      (on _ (sym (ap (λ w. placed 7 (end_of w)) w7)) refl)))))))

  line_back : line_of line ≡ Ok (Some r)
  line_back =
      ap (λ w. cond (is_comment w) (Ok None) (and_then (row_in line) (λ row. Ok (Some row)))) w0
      ∙ ap (λ o. and_then o (λ row. Ok (Some row))) (sym row_back)

-- no line's end stands in a line
single_on : (xs ys : List ℕ) → is_one_line xs ≡ true → is_one_line ys ≡ true → is_one_line (xs ++ ys) ≡ true
single_on [] ys p q = q
single_on (x ∷ xs) ys p q = let parts = and_parts _ (is_one_line xs) p in and_from _ _ parts.0 (single_on xs ys parts.1 q)

single_spaces : (k : ℕ) → is_one_line (replicate k 32) ≡ true
single_spaces zero = refl
single_spaces (suc k) = single_spaces k

no_end_digit : (c : ℕ) → is_ascii_digit c ≡ true → not (eqb c 10) ≡ true
no_end_digit c e = grind (arith, nat_tests)

single_digits : (ds : List ℕ) → all_ascii_digits ds ≡ true → is_one_line ds ≡ true
single_digits [] e = refl
single_digits (c ∷ cs) e = let parts = and_parts (is_ascii_digit c) (all_ascii_digits cs) e in and_from _ _ (no_end_digit c parts.0) (single_digits cs parts.1)

single_column : (w n : ℕ) → n < 2 ^ 64 → is_one_line (column w n) ≡ true
single_column w n h =
    single_on (replicate (w - length (decimal n)) 32) (decimal n) (single_spaces (w - length (decimal n))) (single_digits (decimal n) (digits_decimal own n h))

single_label : (l : Label) → is_labelled l ≡ true → is_one_line (label_bytes l) ≡ true
single_label l e = grind (arith, nat_tests)

-- parsing the line of a row gives the row back
pub parses_back : (r : Row) → r.memory < 2 ^ 32 → r.compute < 2 ^ 32 → r.deadline < 2 ^ 32 → r.period < 2 ^ 32 → r.memory_rank < 2 ^ 8 → r.processor_rank < 2 ^ 8 → ParsesBack r
unfolding row_text
parses_back r hm hc hd ht hp hq labelled =
    let q = column 14 r.processor_rank
    in let p = column 11 r.memory_rank ++ q
    in let t = column 7 r.period ++ p
    in let d = column 7 r.deadline ++ t
    in let n = column 7 r.compute ++ d
    in let m = column 10 r.memory ++ n
    in let s5 = single_on (column 11 r.memory_rank) q (single_column 11 r.memory_rank (omega arith)) (single_column 14 r.processor_rank (omega arith))
    in let s4 = single_on (column 7 r.period) p (single_column 7 r.period (omega arith)) s5
    in let s3 = single_on (column 7 r.deadline) t (single_column 7 r.deadline (omega arith)) s4
    in let s2 = single_on (column 7 r.compute) d (single_column 7 r.compute (omega arith)) s3
    in let s1 = single_on (column 10 r.memory) n (single_column 10 r.memory (omega arith)) s2
    in record {
      single = single_on (label_bytes r.label) m (single_label r.label labelled) s1;
      parsed = ap line_of (simp (append-nil)) ∙ line_back r labelled hm hc hd ht hp hq;
    }
