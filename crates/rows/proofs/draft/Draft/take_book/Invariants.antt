use Rattle.std.proofs.Common.{◌≡◌, ◌-◌, ◌++◌, ◌/◌, length}
use Rattle.rows.specs.Books.{first_rows, scanned}
use Rattle.rows.specs.Drafts.{rows_of}
use Rattle.rows.proofs.draft.Draft.take_book.Given as goal

-- the records passed stand in the draft, and what is left of the book decides
abbrev pub invariant-loop-number : goal.invariant-loop-number
invariant-loop-number l =
    (rows_of l.self ≡ rows_of l.initial.self ++ first_rows l.bytes l.number-counter)
    × (scanned (length (rows_of l.self)) l.bytes l.number-counter (length l.bytes / 24 - l.number-counter)
    ≡ scanned (length (rows_of l.initial.self)) l.bytes 0 (length l.bytes / 24))
