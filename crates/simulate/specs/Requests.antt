use Rattle.std.specs.Prelude.{◌≡◌, ℕ, ◌≤◌, List, [], ◌∷◌, Some, None, string_bytes, Option, String, ◌≢◌}
use Rattle.std.specs.Str.Parse.{IsNumeral, digits_value}
use Rattle.std.specs.declared.alloc.Global.{Global}

-- What the arguments ask for.

-- a text writes the steps n if it has digits alone, and n is their number and at most 2,000,000,000; other texts write none
abbrev pub StepsIn : List ℕ → Option ℕ → Type 0
StepsIn bs (Some n) = IsNumeral 10 bs × (digits_value 10 bs ≡ n) × (n ≤ 2000000000)
StepsIn bs None = IsNumeral 10 bs → digits_value 10 bs ≤ 2000000000 → ⊥

-- the name of a list: none if there is no argument or it is a dash (45), else the argument
abbrev pub NamedAs : Option (String Global) → Option (String Global) → Type 0
NamedAs None o = o ≡ None
NamedAs (Some s) None = string_bytes s ≡ 45 ∷ []
NamedAs (Some s) (Some t) = (t ≡ s) × (string_bytes s ≢ 45 ∷ [])
