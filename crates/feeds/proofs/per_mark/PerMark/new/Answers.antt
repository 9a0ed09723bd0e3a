use Rattle.feeds.proofs.PerMarks.{of_one}
use Rattle.feeds.proofs.per_mark.PerMark.new.Goals as goal

pub returns : goal.returns
returns g c = λ d k. of_one 32 c.args.value d k
