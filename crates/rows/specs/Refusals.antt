use Rattle.std.specs.Prelude.{ℕ, List, [], ◌++◌, Some, None, codes, decimal, Option}
use Rattle.rows.specs.Faults.{load_number}
use Rattle.rows.specs.declared.fault.BookFault.TheVariants.{Length, Record}
use Rattle.rows.specs.declared.fault.LoadFault.{LoadFault}
use Rattle.rows.specs.declared.fault.LoadFault.TheVariants.{Book}
use Rattle.rows.specs.declared.fault.Refusal.{Refusal}

-- the number of the record that a load's fault lies in, if it lies in one
abbrev pub record_in : LoadFault → Option ℕ
record_in (Book Length) = None
record_in (Book (Record bad)) = Some bad.number

-- what is told of a load's fault
abbrev pub refusal_of : LoadFault → Refusal
refusal_of fault = record { number = load_number fault; «record» = record_in fault }

-- the words for a record, if there is one
abbrev pub record_text : Option ℕ → List ℕ
record_text None = []
record_text (Some number) = codes " record " ++ decimal number

-- the text of a refusal, without a line's end
abbrev pub refusal_text : Refusal → List ℕ
refusal_text refusal = codes "turned down " ++ (decimal refusal.number ++ record_text refusal.«record»)
