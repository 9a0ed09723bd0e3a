use Rattle.std.proofs.Common.{◌≡◌, ℕ, ◌+◌, ◌<◌, ◌≤◌, List, [], ◌++◌, length, get_or, drop, sym, ap, ◌∙◌, append_assoc, append-nil, add-one, drop-cons}
use Rattle.std.proofs.lemmas.List.{drop_all}
use Rattle.arrivals.specs.Texts.{line_text, lines_text}
use Rattle.arrivals.specs.declared.takings.Taking.{Taking}

-- a line more is written
pub line_on : (ts : List Taking) (i : ℕ) (blank : Taking) (before after whole : List ℕ) → i < length ts → after ≡ before ++ line_text (get_or ts i blank)
    → before ++ lines_text (drop i ts) ≡ whole → after ++ lines_text (drop (i + 1) ts) ≡ whole
line_on ts i blank before after whole h a e =
    let rest : line_text (get_or ts i blank) ++ lines_text (drop (i + 1) ts) ≡ lines_text (drop i ts) = rw (add-one, drop-cons ts i blank) in
    ap (λ (l : List ℕ). l ++ lines_text (drop (i + 1) ts)) a ∙ append_assoc before (line_text (get_or ts i blank)) (lines_text (drop (i + 1) ts))
    ∙ ap (λ (l : List ℕ). before ++ l) rest ∙ e

-- with no line to come, the text stands
pub lines_end : (ts : List Taking) (i : ℕ) (text whole : List ℕ) → length ts ≤ i → text ++ lines_text (drop i ts) ≡ whole → text ≡ whole
lines_end ts i text whole h e = sym (append-nil text) ∙ ap (λ (l : List Taking). text ++ lines_text l) (sym (drop_all i ts h)) ∙ e

-- three texts put behind one another
pub joined : (a b c start one two three : List ℕ) → start ≡ [] → one ≡ start ++ a → two ≡ one ++ b → three ≡ two ++ c → three ≡ a ++ (b ++ c)
joined a b c start one two three s p q r =
    r ∙ ap (λ (l : List ℕ). l ++ c) (q ∙ ap (λ (l : List ℕ). l ++ b) (p ∙ ap (λ (l : List ℕ). l ++ a) s)) ∙ append_assoc a b c
