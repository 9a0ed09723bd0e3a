use Rattle.std.specs.Prelude.{◌≡◌, ℕ, ◌/◌, ◌%◌, ◌<◌, List, [], ◌∷◌, ◌++◌, length, Ok, Err, codes, decimal, Result}
use Rattle.feeds.specs.Meanings.{View}
use Rattle.layers.specs.Gates.{Spaced, gate_view, spacing}
use Rattle.layers.specs.declared.gate.Gate.{Gate}
use Rattle.lists.specs.ListFaults.{check_refusal}
use Rattle.rows.specs.Refusals.{refusal_text}
use Rattle.lists.specs.ListRecords.{checked_list, sound_count}
use Rattle.lists.specs.Lists.{ListMade, listing}
use Rattle.lists.specs.declared.list.List.{List as Listed}
use Rattle.lists.specs.declared.records.fault.CheckFault.{CheckFault}
use Rattle.arrivals.specs.Takings.{Journal}
use Rattle.arrivals.specs.declared.takings.Taking.{Taking}

-- the end of a line
abbrev pub line_end : List ℕ
line_end = 10 ∷ []

abbrev pub faultless_text : ℕ → List ℕ
faultless_text n = codes "faultless " ++ (decimal n ++ line_end)

-- the word of the list check
abbrev pub word_text : Result ℕ CheckFault → List ℕ
word_text (Ok n) = faultless_text n
word_text (Err fault) = refusal_text (check_refusal fault) ++ line_end

-- the line of a taking: step, mark in two digits, memory and processor steps
abbrev pub line_text : Taking → List ℕ
line_text x =
    decimal x.step
    ++ (codes " " ++ ((decimal (x.mark / 10) ++ decimal (x.mark % 10)) ++ (codes " " ++ (decimal x.memory ++ (codes " " ++ (decimal x.processor ++ line_end))))))

abbrev pub lines_text : List Taking → List ℕ
lines_text [] = []
lines_text (x ∷ xs) = line_text x ++ lines_text xs

-- the last line
abbrev pub counts_text : ℕ → ℕ → List ℕ
counts_text taken count = codes "taken " ++ (decimal taken ++ (codes " of " ++ (decimal count ++ line_end)))

-- What the program makes of a list: the check's word, a line for each taking through a gate of distance d at every mark above
-- a new list of these bytes, and the counts of takings and of records that the list took in.
pub record ShowsArrivals (bs : List ℕ) (d : ℕ) (text : List ℕ) : Type 0 where
  pub gate : Gate Listed
  pub list : ListMade bs gate.below
  pub spacings : (k : ℕ) → k < 32 → Spaced (spacing gate k) d 0
  pub takings : List Taking
  pub after : View
  pub journal : Journal (sound_count bs) (gate_view listing gate) takings after
  pub shows : text ≡ word_text (checked_list bs) ++ (lines_text takings ++ counts_text (length takings) (sound_count bs))
