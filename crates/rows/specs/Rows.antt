use Rattle.std.specs.Prelude.{◌≡◌, ℕ, ◌+◌, ◌≤◌, Bool, true, cond, ◌&&◌, List, [], ◌∷◌, ◌++◌, Ok, Err, Result, nat_le, slice_index}
use Rattle.std.specs.Char.{encode_utf8}
use Rattle.rows.specs.declared.fault.RowFault.{RowFault}
use Rattle.rows.specs.declared.fault.RowFault.TheVariants.{PeriodRange, DeadlineAbovePeriod, NoCompute, CostAboveDeadline, LabelByte}
use Rattle.rows.specs.declared.row.Label.{Label}
use Rattle.rows.specs.declared.row.Row.{Row}

-- a byte that shows and is no space
abbrev pub is_printable : ℕ → Bool
is_printable b = nat_le 33 b && nat_le b 126

abbrev pub is_labelled : Label → Bool
is_labelled l = is_printable l.first && (is_printable l.second && (is_printable l.third && is_printable l.fourth))

-- the label of four bytes
abbrev pub label_of : List ℕ → Label
label_of bytes = record { first = slice_index bytes 0; second = slice_index bytes 1; third = slice_index bytes 2; fourth = slice_index bytes 3 }

-- the four bytes of a label
abbrev pub label_bytes : Label → List ℕ
label_bytes l = l.first ∷ l.second ∷ l.third ∷ l.fourth ∷ []

-- the characters that a label's bytes number, as a text has them
abbrev pub label_text : Label → List ℕ
label_text l = encode_utf8 l.first ++ (encode_utf8 l.second ++ (encode_utf8 l.third ++ encode_utf8 l.fourth))

-- what every row of a draft keeps
pub record Valid (r : Row) : Type 0 where
  pub some_period : 1 ≤ r.period
  pub short_period : r.period ≤ 1000000
  pub in_time : r.deadline ≤ r.period
  pub some_compute : 1 ≤ r.compute
  pub fits : r.memory + r.compute ≤ r.deadline
  pub labelled : is_labelled r.label ≡ true

-- the same as a test
abbrev pub is_valid : Row → Bool
is_valid r =
    nat_le 1 r.period
    && (nat_le r.period 1000000 && (nat_le r.deadline r.period && (nat_le 1 r.compute && (nat_le (r.memory + r.compute) r.deadline && is_labelled r.label))))

-- the first fault of a row
abbrev pub checked : Row → Result Unit RowFault
checked r =
    cond (nat_le 1 r.period && nat_le r.period 1000000)
    (cond (nat_le r.deadline r.period)
    (cond (nat_le 1 r.compute)
    (cond (nat_le (r.memory + r.compute) r.deadline) (cond (is_labelled r.label) (Ok tt) (Err LabelByte)) (Err CostAboveDeadline))
    (Err NoCompute))
    (Err DeadlineAbovePeriod))
    (Err PeriodRange)

-- the row of zeros, which stands where none is written
abbrev pub blank : Row
blank = record {
  memory = 0;
  compute = 0;
  deadline = 0;
  period = 0;
  memory_rank = 0;
  processor_rank = 0;
  label = record { first = 0; second = 0; third = 0; fourth = 0 };
}
