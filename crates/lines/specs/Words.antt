use Rattle.std.specs.Prelude.{ℕ, zero, suc, Bool, not, ◌||◌, List, length, take, drop, eqb, ◌==◌}
use Rattle.std.specs.List.{filter, prefix_len, slice_split}

-- a space, a tab or a carriage return
abbrev pub is_blank : ℕ → Bool
is_blank b = b == 32 || (b == 9 || b == 13)

-- none of them
abbrev pub is_solid : ℕ → Bool
is_solid b = not (is_blank b)

-- a line from its first word on
abbrev pub from_word : List ℕ → List ℕ
from_word line = drop (prefix_len is_blank line) line

-- the first word of a line, which is empty if there is none, and what stands behind it
abbrev pub first_word : List ℕ → List ℕ
first_word line = take (prefix_len is_solid (from_word line)) (from_word line)

abbrev pub after_word : List ℕ → List ℕ
after_word line = drop (prefix_len is_solid (from_word line)) (from_word line)

-- the word of a number, counted from 0, which is empty if there are fewer
unfoldable pub word_in : List ℕ → ℕ → List ℕ
word_in line zero = first_word line
word_in line (suc n) = word_in (after_word line) n

-- a piece between blanks that is a word
abbrev pub is_word : List ℕ → Bool
is_word piece = not (eqb (length piece) 0)

abbrev pub words : List ℕ → List (List ℕ)
words line = filter is_word (slice_split is_blank line)
