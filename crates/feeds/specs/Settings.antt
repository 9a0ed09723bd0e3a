use Rattle.std.specs.Prelude.{◌≡◌, ℕ, cond, ◌||◌, Ok, Err, Result, nat_lt}
use Rattle.feeds.specs.declared.fault.SettingFault.{SettingFault}
use Rattle.feeds.specs.declared.fault.SettingFault.TheVariants.{Offset, Distance as BadDistance, Memory, Processor}
use Rattle.feeds.specs.declared.terms.Ceilings.{Ceilings}
use Rattle.feeds.specs.declared.terms.Distance.{Distance}
use Rattle.feeds.specs.declared.terms.Terms.{Terms}

-- two checks, one after the other: the first fault decides
abbrev pub in_turn : Result Unit SettingFault → Result Unit SettingFault → Result Unit SettingFault
in_turn (Ok _) next = next
in_turn (Err e) next = Err e

-- an offset is at most 1,000,000
abbrev pub offset_checked : ℕ → Result Unit SettingFault
offset_checked offset = cond (nat_lt 1000000 offset) (Err Offset) (Ok tt)

-- a distance is from 1 to 1,000,000
abbrev pub distance_checked : ℕ → Result Unit SettingFault
distance_checked distance = cond (nat_lt distance 1 || nat_lt 1000000 distance) (Err BadDistance) (Ok tt)

-- a memory ceiling is at most 1,000,000, and then a processor ceiling is from 1 to 1,000,000
abbrev pub ceilings_checked : ℕ → ℕ → Result Unit SettingFault
ceilings_checked memory processor =
    cond (nat_lt 1000000 memory) (Err Memory)
    (cond (nat_lt processor 1 || nat_lt 1000000 processor) (Err Processor) (Ok tt))

-- what is wrong with the figures of a setting: the distance is checked before the ceilings
abbrev pub setting_checked : ℕ → ℕ → ℕ → Result Unit SettingFault
setting_checked distance memory processor = in_turn (distance_checked distance) (ceilings_checked memory processor)

-- the same for a setting that has an offset too, which is checked first
abbrev pub timing_checked : ℕ → ℕ → ℕ → ℕ → Result Unit SettingFault
timing_checked offset interval memory processor = in_turn (offset_checked offset) (setting_checked interval memory processor)

-- Figures are made into a value exactly if they have no fault, and it has these figures.

abbrev pub DistanceMade : ℕ → Result Distance SettingFault → Type 0
DistanceMade steps (Ok d) = (distance_checked steps ≡ Ok tt) × (d.steps ≡ steps)
DistanceMade steps (Err e) = distance_checked steps ≡ Err e

abbrev pub CeilingsMade : ℕ → ℕ → Result Ceilings SettingFault → Type 0
CeilingsMade memory processor (Ok c) = (ceilings_checked memory processor ≡ Ok tt) × (c.memory ≡ memory) × (c.processor ≡ processor)
CeilingsMade memory processor (Err e) = ceilings_checked memory processor ≡ Err e

-- terms have distance d and the ceilings m and c
pub record Figures (e : Terms) (d m c : ℕ) : Type 0 where
  pub distance : e.distance.steps ≡ d
  pub memory : e.ceilings.memory ≡ m
  pub processor : e.ceilings.processor ≡ c

abbrev pub TermsMade : ℕ → ℕ → ℕ → Result Terms SettingFault → Type 0
TermsMade distance memory processor (Ok e) = (setting_checked distance memory processor ≡ Ok tt) × Figures e distance memory processor
TermsMade distance memory processor (Err e) = setting_checked distance memory processor ≡ Err e
