use Rattle.std.proofs.Common.{◌≡◌, ℕ, Bor, List, Ok, Err, Result, ap, ◌∙◌}
use Rattle.std.specs.Result.{IsErrAnd}
use Rattle.lines.specs.Faults.{and_then, placed}
use Rattle.lines.specs.Words.{word_in}
use Rattle.lines.specs.declared.fault.BadWord.{BadWord}
use Rattle.lines.specs.declared.fault.Reason.{Reason}

-- what `field` tells of a word is what the word reads as
pub at : {A : Type 0} (read : List ℕ → Result A Reason) (line : List ℕ) (n : ℕ) {told : Result A BadWord}
    → (value : Result A Reason) × ((word : Bor (List ℕ)) × (value ≡ read word.now) × (word.now ≡ word_in line n)) × (told ≡ placed n value) → told ≡ placed n (read (word_in line n))
at read line n h = h.2 ∙ ap (placed n) (h.1.1 ∙ ap read h.1.2)

-- a word that is read passes on, and the first fault decides
pub on : {A B E : Type 0} {o : Result A E} (f : A → Result B E) {x : A} {r : Result B E} → Ok x ≡ o → r ≡ f x → r ≡ and_then o f
on f p q = q ∙ ap (λ o. and_then o f) p

pub stop : {A B E : Type 0} {o : Result A E} (f : A → Result B E) {e : E} → Err e ≡ o → Err e ≡ and_then o f
stop f p = ap (λ o. and_then o f) p

pub refused : {A E : Type 0} {e : E} (r : Result A E) → IsErrAnd r (λ y. y ≡ e) → r ≡ Err e
refused (Ok x) h = elim h [ ]
refused (Err y) h = ap Err h
