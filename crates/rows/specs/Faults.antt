use Rattle.std.specs.Prelude.{ℕ}
use Rattle.rows.specs.declared.fault.RowFault.{RowFault}
use Rattle.rows.specs.declared.fault.RowFault.TheVariants.{PeriodRange, DeadlineAbovePeriod, NoCompute, CostAboveDeadline, LabelByte}
use Rattle.rows.specs.declared.fault.DraftFault.{DraftFault}
use Rattle.rows.specs.declared.fault.DraftFault.TheVariants.{Full, NoSuchRow}
use Rattle.rows.specs.declared.fault.EditFault.{EditFault}
use Rattle.rows.specs.declared.fault.EditFault.TheVariants as edit
use Rattle.rows.specs.declared.fault.RecordFault.{RecordFault}
use Rattle.rows.specs.declared.fault.RecordFault.TheVariants as bad
use Rattle.rows.specs.declared.fault.BookFault.{BookFault}
use Rattle.rows.specs.declared.fault.BookFault.TheVariants.{Length, Record}
use Rattle.rows.specs.declared.fault.LoadFault.{LoadFault}
use Rattle.rows.specs.declared.fault.LoadFault.TheVariants.{Book}

-- The number of each fault, by where it is found.

abbrev pub row_number : RowFault → ℕ
row_number PeriodRange = 11
row_number DeadlineAbovePeriod = 12
row_number NoCompute = 13
row_number CostAboveDeadline = 14
row_number LabelByte = 15

abbrev pub draft_number : DraftFault → ℕ
draft_number Full = 21
draft_number NoSuchRow = 22

abbrev pub edit_number : EditFault → ℕ
edit_number (edit.Draft fault) = draft_number fault
edit_number (edit.Row fault) = row_number fault

abbrev pub record_number : RecordFault → ℕ
record_number (bad.Draft fault) = draft_number fault
record_number (bad.Row fault) = row_number fault
record_number bad.Reserved = 16

abbrev pub book_number : BookFault → ℕ
book_number Length = 31
book_number (Record bad) = record_number bad.fault

abbrev pub load_number : LoadFault → ℕ
load_number (Book fault) = book_number fault
