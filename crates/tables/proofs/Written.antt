use Rattle.std.proofs.Common.{◌≡◌, ℕ, suc, ◌+◌, ◌<◌, ◌≤◌, true, not, eqb, List, [], ◌∷◌, ◌++◌, length, get_or, take, None, Ok, Err, sym, refl, ap, ◌∙◌, append_assoc, arith}
use Rattle.std.proofs.lemmas.List.{append-nil, flat_map_more, length-append, take_more}
use Rattle.std.proofs.lemmas.Bool.{and_parts, cond-false, cond-true, lt-ltb, not-true}
use Rattle.std.proofs.lemmas.Bool.Decides.{nat_tests}
use Rattle.std.specs.List.{flat_map}
use Rattle.lines.specs.Faults.{and_then}
use Rattle.lines.specs.Lines.{line_of}
use Rattle.lines.specs.Prints.{ParsesBack, is_one_line, row_text}
use Rattle.lines.specs.Words.{word_in}
use Rattle.rows.specs.Drafts.{EachValid, has_room, permitted}
use Rattle.rows.specs.Rows.{Valid, blank, checked}
use Rattle.rows.specs.declared.fault.DraftFault.TheVariants.{Full}
use Rattle.rows.specs.declared.row.Row.{Row}
use Rattle.tables.specs.Tables.{added, after_line, in_line, table_from, table_of}
use Rattle.tables.specs.Texts.{lines_in, onto}
use Rattle.tables.specs.Written.{header, row_line, table_text}

-- a line with its end, and the lines behind it
lines_cut : (line rest : List ℕ) → is_one_line line ≡ true → lines_in (line ++ 10 ∷ rest) ≡ line ∷ lines_in rest
unfolding lines_in
lines_cut [] rest e = refl
lines_cut (b ∷ line) rest e =
    let parts = and_parts (not (eqb b 10)) (is_one_line line) e
    in cond-false _ _ _ (not-true (eqb b 10) parts.0) ∙ ap (onto b) (lines_cut line rest parts.1)

-- one row more
table_more : (rows : List Row) (i : ℕ) → i < length rows → table_text (take i rows) ++ row_line (get_or rows i blank) ≡ table_text (take (i + 1) rows)
unfolding table_text
table_more rows i h =
    flat_map_more row_line (header ++ 10 ∷ []) (take i rows) (get_or rows i blank) ∙ ap table_text (sym (take_more rows i blank h))

pub table_put : (rows : List Row) (i : ℕ) (a b e : List ℕ) → i < length rows → a ≡ table_text (take i rows) → b ≡ a ++ row_text (get_or rows i blank) → e ≡ b ++ 10 ∷ []
    → e ≡ table_text (take (i + 1) rows)
table_put rows i a b e h before row end =
    let t = row_text (get_or rows i blank)
    in end ∙ ap (λ ws. ws ++ 10 ∷ []) (row ∙ ap (λ ws. ws ++ t) before) ∙ append_assoc (table_text (take i rows)) t (10 ∷ []) ∙ table_more rows i h

pub table_none : header ++ 10 ∷ [] ≡ table_text []
unfolding table_text
table_none = refl

checked-valid : (r : Row) → Valid r → checked r ≡ Ok tt
checked-valid r v = grind (arith, nat_tests)

-- what the lines of rows write, behind the rows before
rows_back : (n : ℕ) (before rows : List Row) → length before + length rows ≤ 32 → EachValid rows → ((i : ℕ) → i < length rows → ParsesBack (get_or rows i blank))
    → table_from n before (lines_in (flat_map row_line rows)) ≡ Ok (before ++ rows)
unfolding table_from lines_in
rows_back n before [] few valid back = ap Ok (sym (append-nil before))
rows_back n before (r ∷ rows) few valid back =
    let v = valid 0 (omega arith)
    in let b = back 0 (omega arith) v.labelled
    in let room : has_room before ≡ Ok tt = cond-true _ (Ok tt) (Err Full) (lt-ltb (length before) 32 (omega arith))
    in let adds : after_line before (line_of (row_text r)) ≡ Ok (before ++ r ∷ []) =
    ap (after_line before) b.parsed ∙ ap (λ o. added before r (permitted o (checked r))) room ∙ ap (λ o. added before r (permitted (Ok tt) o)) (checked-valid r v)
    in ap (λ text. table_from n before (lines_in text)) (append_assoc (row_text r) (10 ∷ []) (flat_map row_line rows))
    ∙ ap (table_from n before) (lines_cut (row_text r) (flat_map row_line rows) b.single)
    ∙ ap (λ o. and_then (in_line n o) (λ more. table_from (n + 1) more (lines_in (flat_map row_line rows)))) adds
    ∙ rows_back (n + 1) (before ++ r ∷ []) rows (omega (arith, length-append before (r ∷ []))) (λ i h. valid (suc i) (omega arith)) (λ i h. back (suc i) (omega arith))
    ∙ ap Ok (append_assoc before (r ∷ []) rows)

header-line : line_of header ≡ Ok None
unfolding word_in
header-line = refl

-- reading the table of rows gives them back
pub table_back : (rows : List Row) → length rows ≤ 32 → EachValid rows → ((i : ℕ) → i < length rows → ParsesBack (get_or rows i blank)) → table_of (table_text rows) ≡ Ok rows
unfolding table_text table_from
table_back rows few valid back =
    ap (table_from 1 []) (lines_cut header (flat_map row_line rows) refl)
    ∙ ap (λ o. and_then (in_line 1 (after_line [] o)) (λ more. table_from (1 + 1) more (lines_in (flat_map row_line rows)))) header-line
    ∙ rows_back 2 [] rows (omega arith) valid back
