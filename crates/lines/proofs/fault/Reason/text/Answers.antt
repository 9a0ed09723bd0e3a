use Rattle.std.proofs.Common.{sym, ap}
use Rattle.lines.specs.Faults.{reason_text}
use Rattle.lines.proofs.fault.Reason.text.Goals as goal

pub returns-in-NotALabel : goal.returns-in-NotALabel
returns-in-NotALabel c = ap reason_text (sym c.in-NotALabel.is)

pub returns-in-NotANumber : goal.returns-in-NotANumber
returns-in-NotANumber c = ap reason_text (sym c.in-NotANumber.is)

pub returns-in-RankAbove : goal.returns-in-RankAbove
returns-in-RankAbove c = ap reason_text (sym c.in-RankAbove.is)
