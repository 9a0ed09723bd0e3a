use Rattle.simulate.proofs.Walks.{noted_step}
use Rattle.simulate.proofs.stepping.Simulation.step.Goals as goal

pub returns : goal.returns
returns g c =
    noted_step g.P.Pledge.view c.args.self.now.run c.step.new.self c.args.self.now.journal c.note.new.self c.in_ok-answer.answer
    c.free_places-free.result c.in_ok-answer.ensures.1 c.free_places-free.ensures c.note.ensures.rows c.note.ensures.others
    c.note.ensures.line
