use Rattle.std.specs.Prelude.{cond, List, [], ◌∷◌, ◌++◌, length, nat_lt}
use Rattle.board.specs.declared.run.Answer.{Answer}
use Rattle.simulate.specs.declared.timeline.Timeline.{Timeline}

-- the answers of the first steps, in their order
abbrev pub answers_in : Timeline → List Answer
answers_in x = x.answers.items

-- one more answer, up to 64
abbrev pub joined : List Answer → Answer → List Answer
joined answers answer = cond (nat_lt (length answers) 64) (answers ++ answer ∷ []) answers
