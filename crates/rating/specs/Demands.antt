use Rattle.std.specs.Prelude.{◌+◌, List}
use Rattle.std.proofs.Common.{arith}
use Rattle.rating.specs.Curves.{Rising}
use Rattle.rating.specs.Sources.{asked, asked-rises}
use Rattle.rating.specs.declared.demand.Demand.{Demand}
use Rattle.rating.specs.declared.demand.Source.{Source}

-- the sources that a demand has taken up, in the order in which they came
abbrev pub sources_of : Demand → List Source
sources_of d = d.sources.items

-- the own cost, once, and what the sources ask
abbrev pub demanded : Demand → Rising
demanded d = record {
  work = λ w. d.own + asked (sources_of d) w;
  rises = λ v w h. omega (arith, asked-rises (sources_of d) v w h);
}
