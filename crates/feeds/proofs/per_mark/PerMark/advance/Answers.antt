use Rattle.std.proofs.Common.{rules}
use Rattle.std.proofs.lemmas.List.Edits.{map_over_more}
use Rattle.feeds.proofs.per_mark.PerMark.advance.Goals as goal

pub loop-own-preserved : goal.loop-own-preserved
loop-own-preserved g c = search (rules, map_over_more g.T.Timed.later)
