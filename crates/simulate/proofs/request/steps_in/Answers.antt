use Rattle.std.proofs.Common.{sym, ◌∙◌, lit<}
use Rattle.simulate.proofs.Requests.{no_plus}
use Rattle.simulate.proofs.request.steps_in.Goals as goal

pub returns-then-starts_with : goal.returns-then-starts_with
returns-then-starts_with c n less =
    no_plus c.args.text.now (sym (c.starts_with.ensures.byte (lit< tt) (lit< tt) (λ w o m. m)) ∙ c.if-starts_with.true) n
