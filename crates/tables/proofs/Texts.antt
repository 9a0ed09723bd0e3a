use Rattle.std.proofs.Common.{◌≡◌, ℕ, zero, suc, ◌+◌, Bool, true, false, cond, not, eqb, List, [], ◌∷◌, ◌++◌, take, drop, get_or, sym, refl, ap, ◌∙◌, one-add, arith}
use Rattle.std.specs.List.{onto_first, prefix_len, slice_split}
use Rattle.tables.specs.Texts.{behind_line, first_line, is_inside, line_in, lines_in, onto}

-- the pieces of a text between its lines' ends, the last of which may be empty
abbrev pub is_end : ℕ → Bool
is_end b = eqb b 10

abbrev pub pieces : List ℕ → List (List ℕ)
pieces text = slice_split is_end text

first_onto : (b : ℕ) (xs : List (List ℕ)) → get_or (onto_first b xs) 0 [] ≡ b ∷ get_or xs 0 []
first_onto b [] = refl
first_onto b (x ∷ xs) = refl

others_onto : (b : ℕ) (xs : List (List ℕ)) (n : ℕ) → get_or (onto_first b xs) (suc n) [] ≡ get_or xs (suc n) []
others_onto b [] n = refl
others_onto b (x ∷ xs) n = refl

-- the first piece of a text is its first line, and the others are those behind it
record Firsts (text : List ℕ) : Type 0 where
  first : get_or (pieces text) 0 [] ≡ first_line text
  others : (n : ℕ) → get_or (pieces text) (suc n) [] ≡ get_or (pieces (behind_line text)) n []

firsts_on : (t : Bool) (b : ℕ) (bs : List ℕ) → eqb b 10 ≡ t → Firsts bs → Firsts (b ∷ bs)
firsts_on true b bs e f =
    let behind : behind_line (b ∷ bs) ≡ bs = rw e refl
    in let is : pieces (b ∷ bs) ≡ [] ∷ pieces bs = rw e refl
    in record { first = rw e refl; others = λ n. ap (λ ps. get_or ps (suc n) []) is ∙ sym (ap (λ rest. get_or (pieces rest) n []) behind) }
firsts_on false b bs e f =
    let k = prefix_len is_inside bs
    in let next : 1 + k + 1 ≡ suc (k + 1) = omega arith
    in let behind : behind_line (b ∷ bs) ≡ behind_line bs = rw (e, next) refl
    in let is : pieces (b ∷ bs) ≡ onto_first b (pieces bs) = rw e refl
    in let front : first_line (b ∷ bs) ≡ b ∷ first_line bs = rw (e, one-add k) refl
    in record {
      first = ap (λ ps. get_or ps 0 []) is ∙ first_onto b (pieces bs) ∙ ap (λ bs. b ∷ bs) f.first ∙ sym front;
      others = λ n. ap (λ ps. get_or ps (suc n) []) is ∙ others_onto b (pieces bs) n ∙ f.others n ∙ sym (ap (λ rest. get_or (pieces rest) n []) behind);
    }

nothing : (n : ℕ) → get_or (pieces []) (suc n) [] ≡ get_or (pieces []) n []
nothing zero = refl
nothing (suc n) = refl

firsts : (text : List ℕ) → Firsts text
firsts [] = record { first = refl; others = nothing }
firsts (b ∷ bs) = firsts_on (eqb b 10) b bs refl (firsts bs)

-- the line of a number is the piece of that place
pub line-piece : (text : List ℕ) (n : ℕ) → get_or (pieces text) n [] ≡ line_in text n
unfolding line_in
line-piece text zero = (firsts text).first
line-piece text (suc n) = (firsts text).others n ∙ line-piece (behind_line text) n

-- the pieces are the lines, and one empty piece behind the last line's end
abbrev pub tail : Bool → List (List ℕ)
tail true = [] ∷ []
tail false = []

pub record Lines (text : List ℕ) : Type 0 where
  pub ended : Bool
  pub are : pieces text ≡ lines_in text ++ tail ended

onto_lines : (b : ℕ) (lines : List (List ℕ)) (t : Bool) → (u : Bool) × (onto_first b (lines ++ tail t) ≡ onto b lines ++ tail u)
onto_lines b [] true = (false, refl)
onto_lines b [] false = (false, refl)
onto_lines b (line ∷ lines) t = (t, refl)

lines_front : (t : Bool) (b : ℕ) (bs : List ℕ) → eqb b 10 ≡ t → Lines bs → Lines (b ∷ bs)
unfolding lines_in
lines_front true b bs e l = record { ended = l.ended; are = rw e (ap (λ ps. [] ∷ ps) l.are) }
lines_front false b bs e l =
    let o = onto_lines b (lines_in bs) l.ended
    in record { ended = o.0; are = rw e (ap (onto_first b) l.are ∙ o.1) }

pub lines : (text : List ℕ) → Lines text
unfolding lines_in
lines [] = record { ended = true; are = refl }
lines (b ∷ bs) = lines_front (eqb b 10) b bs refl (lines bs)

-- a byte that ends the line, or goes in front of it
one_on : (t : Bool) (b n : ℕ) (bs : List ℕ) → onto b (lines_in bs) ≡ (b ∷ take n bs) ∷ lines_in (drop (n + 1) bs)
    → cond t ([] ∷ lines_in bs) (onto b (lines_in bs)) ≡ take (cond (not t) (1 + n) 0) (b ∷ bs) ∷ lines_in (drop (cond (not t) (1 + n) 0 + 1) (b ∷ bs))
one_on true b n bs e = refl
one_on false b n bs e =
    let one : 1 + n ≡ suc n = one-add n
    in let two : 1 + n + 1 ≡ suc (n + 1) = omega arith
    in rw (two, one) e

-- a text that is not empty has a first line, and the others stand behind it
pub lines_on : (b : ℕ) (bs : List ℕ) → lines_in (b ∷ bs) ≡ first_line (b ∷ bs) ∷ lines_in (behind_line (b ∷ bs))
unfolding lines_in
lines_on b [] = one_on (eqb b 10) b 0 [] refl
lines_on b (c ∷ cs) = one_on (eqb b 10) b (prefix_len is_inside (c ∷ cs)) (c ∷ cs) (ap (onto b) (lines_on c cs))
