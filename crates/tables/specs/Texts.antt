use Rattle.std.specs.Prelude.{ℕ, zero, suc, ◌+◌, Bool, cond, not, List, [], ◌∷◌, take, drop, ◌==◌}
use Rattle.std.specs.List.{prefix_len}

-- no line's end, which is the byte 0A (10)
abbrev pub is_inside : ℕ → Bool
is_inside b = not (b == 10)

-- the first line of a text, and what stands behind its end
abbrev pub first_line : List ℕ → List ℕ
first_line text = take (prefix_len is_inside text) text

abbrev pub behind_line : List ℕ → List ℕ
behind_line text = drop (prefix_len is_inside text + 1) text

-- the line of a number, counted from 0, which is empty if there are fewer
unfoldable pub line_in : List ℕ → ℕ → List ℕ
line_in text zero = first_line text
line_in text (suc n) = line_in (behind_line text) n

-- a byte in front of the first line
abbrev pub onto : ℕ → List (List ℕ) → List (List ℕ)
onto b [] = (b ∷ []) ∷ []
onto b (line ∷ lines) = (b ∷ line) ∷ lines

-- the lines of a text; the last one may lack its end
unfoldable pub lines_in : List ℕ → List (List ℕ)
lines_in [] = []
lines_in (b ∷ bs) = cond (b == 10) ([] ∷ lines_in bs) (onto b (lines_in bs))
