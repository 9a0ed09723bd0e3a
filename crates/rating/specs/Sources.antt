use Rattle.std.specs.Prelude.{ℕ, ◌+◌, ◌*◌, ◌≤◌, Bool, ◌&&◌, List, [], ◌∷◌, nat_le}
use Rattle.std.proofs.Common.{mul-le-mul_right, arith}
use Rattle.rating.specs.Quotients.{ceil, ceil-rises}
use Rattle.rating.specs.declared.demand.Source.{Source}

-- what stands where no source is written
abbrev pub blank : Source
blank = record { cost = 0; period = 0; delay = 0 }

-- a source that a demand takes up: its cost is within the limit, and its jobs are some steps apart
pub record Sound (s : Source) : Type 0 where
  pub cheap : s.cost ≤ 1000000
  pub apart : 1 ≤ s.period

-- the same as a test: true exactly where the source is Sound
abbrev pub is_sound : Source → Bool
is_sound s = nat_le s.cost 1000000 && nat_le 1 s.period

-- what a source asks in w steps: its cost for each period that begins in them, with the delay counted as further steps
abbrev pub asks : Source → ℕ → ℕ
asks s w = ceil (w + s.delay) s.period * s.cost

-- what the sources ask together
unfoldable pub asked : List Source → ℕ → ℕ
asked [] w = 0
asked (s ∷ sources) w = asks s w + asked sources w

-- in more steps a source asks no less
asks-rises : (s : Source) (v w : ℕ) → v ≤ w → asks s v ≤ asks s w
asks-rises s v w h = mul-le-mul_right s.cost (ceil-rises (v + s.delay) (w + s.delay) s.period (omega arith))

-- nor do all of them
pub asked-rises : (sources : List Source) (v w : ℕ) → v ≤ w → asked sources v ≤ asked sources w
unfolding asked
asked-rises [] v w h = omega arith
asked-rises (s ∷ sources) v w h = omega (arith, asks-rises s v w h, asked-rises sources v w h)
