use Rattle.std.specs.Prelude.{ℕ}
use Rattle.board.specs.declared.fault.StepFault.{StepFault}
use Rattle.board.specs.declared.fault.StepFault.TheVariants.{LastNumber}

-- the number of a step's fault
abbrev pub step_number : StepFault → ℕ
step_number LastNumber = 61
