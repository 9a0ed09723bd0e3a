use Rattle.std.specs.Prelude.{◌≡◌, ℕ, ◌<◌, ◌≤◌, Ok, Err, Result}
use Rattle.feeds.specs.declared.fault.MarkFault.{MarkFault}
use Rattle.feeds.specs.declared.mark.Mark.{Mark}

-- a mark is made of each number below 32, and of no other
abbrev pub MarkMade : ℕ → Result Mark MarkFault → Type 0
MarkMade v (Ok k) = (v < 32) × (k.value ≡ v)
MarkMade v (Err _) = 32 ≤ v
