use Rattle.std.proofs.Common.{◌≡◌, ℕ, ◌+◌, List, ◌++◌, length, ap, ◌∙◌}
use Rattle.std.proofs.lemmas.List.{length-append}

-- what is put at the end makes a page longer by its own length
pub longer : (before text after : List ℕ) → after ≡ before ++ text → length after ≡ length before + length text
longer before text after e = ap length e ∙ length-append before text
