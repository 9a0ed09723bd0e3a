use Rattle.std.specs.Prelude.{◌≡◌, ℕ, ◌≤◌, List, Some, None, Option}
use Rattle.std.specs.Str.Parse.{IsNumeral, without_leading_plus, digits_value}

-- a distance that a gate takes
abbrev pub InRange : ℕ → Type 0
InRange d = (1 ≤ d) × (d ≤ 1000000)

-- a text of decimal digits, a plus before them or not, that writes a distance
abbrev pub WritesDistance : List ℕ → Type 0
WritesDistance bs = IsNumeral 10 (without_leading_plus bs) × InRange (digits_value 10 (without_leading_plus bs))

-- the distance that a text writes, or none if it writes none
abbrev pub DistanceRead : List ℕ → Option ℕ → Type 0
DistanceRead bs (Some d) = WritesDistance bs × (d ≡ digits_value 10 (without_leading_plus bs))
DistanceRead bs None = WritesDistance bs → ⊥
