use Rattle.std.proofs.Common.{◌≡◌, ℕ, ◌+◌, ◌<◌, ◌≤◌, Bool, true, false, List, [], ◌∷◌, ◌++◌, length, get_or, drop, None, Ok, Err, Result, sym, refl, ap, ◌∙◌, zero-add, arith}
use Rattle.std.proofs.lemmas.List.{append-nil, drop_all, drop_more, get_or_default}
use Rattle.std.proofs.lemmas.List.FromFn.{get_or-enumerate_from, length-enumerate_from}
use Rattle.std.specs.List.{enumerate_from}
use Rattle.lines.specs.Faults.{and_then}
use Rattle.lines.specs.Lines.{line_of}
use Rattle.lines.specs.Words.{word_in}
use Rattle.rows.specs.declared.row.Row.{Row}
use Rattle.tables.proofs.Texts.{lines, pieces, tail}
use Rattle.tables.specs.Tables.{after_line, in_line, table_from, table_of}
use Rattle.tables.specs.Texts.{lines_in}
use Rattle.tables.specs.declared.fault.BadLine.{BadLine}

-- an empty line has no word
pub empty_line : line_of [] ≡ Ok None
unfolding word_in
empty_line = refl

and_same : {A B E : Type 0} (o : Result A E) {f g : A → Result B E} → ((x : A) → f x ≡ g x) → and_then o f ≡ and_then o g
and_same (Ok x) same = same x
and_same (Err e) same = refl

-- an empty piece behind the last line writes no row
piece_behind : (t : Bool) (n : ℕ) (rows : List Row) (ls : List (List ℕ)) → table_from n rows (ls ++ tail t) ≡ table_from n rows ls
unfolding table_from
piece_behind false n rows ls = ap (table_from n rows) (append-nil ls)
piece_behind true n rows [] = ap (λ o. and_then (in_line n (after_line rows o)) Ok) empty_line
piece_behind true n rows (l ∷ ls) = and_same (in_line n (after_line rows (line_of l))) (λ more. piece_behind true (n + 1) more ls)

pub table_pieces : (text : List ℕ) → table_from 1 [] (pieces text) ≡ table_of text
table_pieces text = let l = lines text in ap (table_from 1 []) l.are ∙ piece_behind l.ended 1 [] (lines_in text)

-- the item of a turn is the number of those before it, and its piece
pub at_turn : (xs : List (List ℕ)) (k n : ℕ) (line : List ℕ) → (k < length (enumerate_from 0 xs)) × ((n, line) ≡ get_or (enumerate_from 0 xs) k (n, line))
    → (k < length xs) × (n ≡ k) × (line ≡ get_or xs k [])
at_turn xs k n line h =
    let within : k < length xs = omega (arith, h.0, length-enumerate_from 0 xs)
    in let is = h.1 ∙ get_or-enumerate_from 0 xs k (n, line) within
    in (within, ap (λ p. p.0) is ∙ zero-add k, ap (λ p. p.1) is ∙ get_or_default xs k line [] within)

-- one piece more decides, or those behind it
table_on : (k n : ℕ) (rows : List Row) (xs : List (List ℕ)) (line : List ℕ) → (k < length xs) × (n ≡ k) × (line ≡ get_or xs k [])
    → and_then (in_line (n + 1) (after_line rows (line_of line))) (λ more. table_from (k + 1 + 1) more (drop (k + 1) xs)) ≡ table_from (k + 1) rows (drop k xs)
unfolding table_from
table_on k n rows xs line h =
    ap (λ m. and_then (in_line (m + 1) (after_line rows (line_of line))) (λ more. table_from (k + 1 + 1) more (drop (k + 1) xs))) h.1
    ∙ ap (λ l. and_then (in_line (k + 1) (after_line rows (line_of l))) (λ more. table_from (k + 1 + 1) more (drop (k + 1) xs))) h.2
    ∙ sym (ap (table_from (k + 1) rows) (drop_more xs k [] h.0))

pub table_next : (k n : ℕ) (rows more : List Row) (xs : List (List ℕ)) (line : List ℕ) → (k < length xs) × (n ≡ k) × (line ≡ get_or xs k [])
    → Ok more ≡ in_line (n + 1) (after_line rows (line_of line)) → table_from (k + 1 + 1) more (drop (k + 1) xs) ≡ table_from (k + 1) rows (drop k xs)
table_next k n rows more xs line h read = ap (λ o. and_then o (λ rs. table_from (k + 1 + 1) rs (drop (k + 1) xs))) read ∙ table_on k n rows xs line h

pub table_stops : (k n : ℕ) (rows : List Row) (bad : BadLine) (xs : List (List ℕ)) (line : List ℕ) → (k < length xs) × (n ≡ k) × (line ≡ get_or xs k [])
    → Err bad ≡ in_line (n + 1) (after_line rows (line_of line)) → Err bad ≡ table_from (k + 1) rows (drop k xs)
table_stops k n rows bad xs line h read = ap (λ o. and_then o (λ rs. table_from (k + 1 + 1) rs (drop (k + 1) xs))) read ∙ table_on k n rows xs line h

pub table_ends : (n k : ℕ) (rows : List Row) (xs : List (List ℕ)) → length xs ≤ k → Ok rows ≡ table_from n rows (drop k xs)
unfolding table_from
table_ends n k rows xs h = sym (ap (table_from n rows) (drop_all k xs h))
