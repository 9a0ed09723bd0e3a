use Rattle.std.proofs.Common.{◌≡◌, ℕ, ◌+◌, ◌≤◌, length, decimal, arith, lit<}
use Rattle.listing.specs.Lines.{figure, line_of}
use Rattle.rows.specs.Rows.{Valid}
use Rattle.rows.specs.declared.row.Row.{Row}
use Rattle.std.proofs.lemmas.Fmt.{length-decimal-le}
use Rattle.std.proofs.lemmas.List.{length-append}

-- a figure of at most seven digits
pub length-figure : (n : ℕ) → n ≤ 1000000 → length (figure n) ≤ 8
length-figure n h =
    let digits : length (decimal n) ≤ 7 = length-decimal-le 7 n (lit< tt) (omega arith) (omega arith)
    in omega arith

-- a line's length is that of its parts
pub length-line_is : (i : ℕ) (row : Row) (m p : ℕ)
    → length (line_of i row (m, p)) ≡ 8 + length (figure m) + length (figure p) + length (figure (m + p)) + length (figure row.deadline)
length-line_is i row m p = simp length-append (omega arith)

-- a line takes at most 40 bytes
pub length-line : (i : ℕ) (row : Row) (m p : ℕ) → m + p ≤ 1000000 → row.deadline ≤ 1000000 → length (line_of i row (m, p)) ≤ 40
length-line i row m p both deadline =
    omega (
      arith,
      length-line_is i row m p,
      length-figure m (omega arith),
      length-figure p (omega arith),
      length-figure (m + p) both,
      length-figure row.deadline deadline,
    )

-- the line of a valid row whose bounds are together within its deadline takes at most 40 bytes
pub length_row : (i : ℕ) (row : Row) (b : ℕ × ℕ) → Valid row → b.0 + b.1 ≤ row.deadline → length (line_of i row b) ≤ 40
length_row i row b valid within =
    length-line i row b.0 b.1 (omega (arith, valid.in_time, valid.short_period)) (omega (arith, valid.in_time, valid.short_period))
