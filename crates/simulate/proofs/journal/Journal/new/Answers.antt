use Rattle.std.proofs.Common.{◌≡◌, refl, rules}
use Rattle.feeds.proofs.Tables.{each}
use Rattle.simulate.specs.Tallies.{unmarked}
use Rattle.simulate.proofs.journal.Journal.new.Goals as goal

pub returns : goal.returns
returns c =
    let blank : c.default.result ≡ unmarked = search rules in
    record { rows = λ k. each (λ x. x ≡ unmarked) 32 c.default.result unmarked blank refl k; line = c.new.ensures }
