use Rattle.std.proofs.Common.{sym, ap}
use Rattle.simulate.specs.Tables.{note_of}
use Rattle.simulate.proofs.table.note.Goals as goal

pub returns-in-Late : goal.returns-in-Late
returns-in-Late c = sym (ap note_of c.in-Late.is)
