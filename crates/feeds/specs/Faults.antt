use Rattle.std.specs.Prelude.{ℕ}
use Rattle.feeds.specs.declared.fault.MarkFault.{MarkFault}
use Rattle.feeds.specs.declared.fault.MarkFault.TheVariants.{Above}
use Rattle.feeds.specs.declared.fault.SettingFault.{SettingFault}
use Rattle.feeds.specs.declared.fault.SettingFault.TheVariants.{Offset, Distance, Memory, Processor}

-- The number of each fault, by where it is found.

abbrev pub mark_number : MarkFault → ℕ
mark_number Above = 23

abbrev pub setting_number : SettingFault → ℕ
setting_number Offset = 54
setting_number Distance = 51
setting_number Memory = 52
setting_number Processor = 53
