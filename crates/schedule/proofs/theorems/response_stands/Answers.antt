use Rattle.schedule.proofs.Response.{response}
use Rattle.schedule.proofs.theorems.response_stands.Goals as goal

pub returns : goal.returns
returns c = response
