use Rattle.std.proofs.Common.{ℕ, ◌^◌, ◌<◌, ◌≤◌, length, decimal, arith, lit<}
use Rattle.std.proofs.lemmas.Fmt.{length-decimal-le}

-- a number of 64 bits takes at most 20 digits, one of 8 bits at most 3, a number below 100 at most 2, and so a count of rows
pub length_word : (n : ℕ) → n < 2 ^ 64 → length (decimal n) ≤ 20
length_word n h = length-decimal-le 20 n (lit< tt) (omega arith) h

pub length_byte : (n : ℕ) → n < 2 ^ 8 → length (decimal n) ≤ 3
length_byte n h = length-decimal-le 3 n (lit< tt) (omega arith) (omega arith)

pub length_two : (n : ℕ) → n < 100 → length (decimal n) ≤ 2
length_two n h = length-decimal-le 2 n (lit< tt) (omega arith) (omega arith)

pub length_count : (n : ℕ) → n ≤ 32 → length (decimal n) ≤ 2
length_count n h = length_two n (omega arith)
