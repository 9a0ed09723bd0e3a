use Rattle.std.specs.Prelude.{ℕ, List, Ok, Err, codes, Result}
use Rattle.lines.specs.declared.fault.BadWord.{BadWord}
use Rattle.lines.specs.declared.fault.Reason.{Reason}
use Rattle.lines.specs.declared.fault.Reason.TheVariants.{Missing, NotALabel, NotANumber, TooLarge, RankAbove, Extra}

-- how each fault of a word is told
abbrev pub reason_text : Reason → List ℕ
reason_text Missing = codes "missing"
reason_text NotALabel = codes "not four characters from 21 to 7E hexadecimal"
reason_text NotANumber = codes "not a number"
reason_text TooLarge = codes "does not fit 32 bits"
reason_text RankAbove = codes "a rank above 255"
reason_text Extra = codes "one word too many"

-- what a word reads as, with its number beside its fault
abbrev pub placed : {A : Type 0} → ℕ → Result A Reason → Result A BadWord
placed n (Ok x) = Ok x
placed n (Err reason) = Err record { word = n; reason = reason }

-- the first fault decides
abbrev pub and_then : {A B E : Type 0} → Result A E → (A → Result B E) → Result B E
and_then (Ok x) f = f x
and_then (Err e) f = Err e
