use Rattle.std.specs.Prelude.{ℕ, Some, None, Option}
use Rattle.rows.specs.declared.fault.Refusal.{Refusal}
use Rattle.lists.specs.declared.records.fault.CheckFault.{CheckFault}
use Rattle.lists.specs.declared.records.fault.CheckFault.TheVariants.{List}
use Rattle.lists.specs.declared.records.fault.ListFault.{ListFault}
use Rattle.lists.specs.declared.records.fault.ListFault.TheVariants.{Length, Record}
use Rattle.lists.specs.declared.records.fault.ListRecordFault.{ListRecordFault}
use Rattle.lists.specs.declared.records.fault.ListRecordFault.TheVariants.{RowAbove, StepBack, ProcessorRange, MemoryAbove, Reserved}

-- The number of each fault of a list, by where it is found.

abbrev pub list_record_number : ListRecordFault → ℕ
list_record_number RowAbove = 42
list_record_number StepBack = 43
list_record_number ProcessorRange = 44
list_record_number MemoryAbove = 45
list_record_number Reserved = 46

abbrev pub list_number : ListFault → ℕ
list_number Length = 41
list_number (Record bad) = list_record_number bad.fault

abbrev pub check_number : CheckFault → ℕ
check_number (List fault) = list_number fault

-- the number of the record that a check's fault lies in, if it lies in one
abbrev pub check_record : CheckFault → Option ℕ
check_record (List Length) = None
check_record (List (Record bad)) = Some bad.number

-- what is told of a check's fault
abbrev pub check_refusal : CheckFault → Refusal
check_refusal fault = record { number = check_number fault; «record» = check_record fault }
