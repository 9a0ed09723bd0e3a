-- Texts put into a buffer, one behind the other.
use Rattle.std.proofs.Common.{◌≡◌, ℕ, ◌+◌, ◌≤◌, List, ◌++◌, length, take, drop, sym, ap, ◌∙◌, arith}
use Rattle.listing.specs.Text.{written}
use Rattle.std.proofs.Math.Seq.{take-length}
use Rattle.std.proofs.lemmas.List.{take_at, drop_at, drop_all, drop-drop, append_assoc, append-nil, length-append, length-take-le}

-- a text put at the end
pub written_end : (out t : List ℕ) → written out (length out) t ≡ out ++ t
written_end out t = rw (take-length out, drop_all (length out + length t) out (omega arith), append-nil t)

-- what stands before the place behind a text that was put, and what stands from there on
pub take-written : (out : List ℕ) (at : ℕ) (t : List ℕ) (behind : ℕ) → behind ≡ at + length t → at ≤ length out → take behind (written out at t) ≡ take at out ++ t
take-written out at t behind e h =
    let long : length (take at out ++ t) ≡ behind = simp (length-append, length-take-le at out h) (sym e)
    in rw (← append_assoc (take at out) t (drop (at + length t) out)) (take_at (take at out ++ t) (drop (at + length t) out) behind long)

pub drop-written : (out : List ℕ) (at : ℕ) (t : List ℕ) (behind more : ℕ) → behind ≡ at + length t → at ≤ length out → drop (behind + more) (written out at t) ≡ drop (behind + more) out
drop-written out at t behind more e h =
    let long : length (take at out ++ t) ≡ behind = simp (length-append, length-take-le at out h) (sym e)
    in let rest : drop behind (written out at t) ≡ drop (at + length t) out = rw (← append_assoc (take at out) t (drop (at + length t) out)) (drop_at (take at out ++ t) (drop (at + length t) out) behind long)
    in sym (drop-drop more behind (written out at t)) ∙ ap (drop more) rest ∙ drop-drop more (at + length t) out ∙ ap (λ k. drop (k + more) out) (sym e)

-- a text put right behind another is the two put as one
pub written-written : (out : List ℕ) (at : ℕ) (s : List ℕ) (behind : ℕ) (t : List ℕ) → behind ≡ at + length s → at ≤ length out → written (written out at s) behind t ≡ written out at (s ++ t)
written-written out at s behind t e h =
    let ends : behind + length t ≡ at + length (s ++ t) = omega (arith, length-append s t)
    in rw (take-written out at s behind e h, drop-written out at s behind (length t) e h, append_assoc (take at out) s (t ++ drop (behind + length t) out), append_assoc s t (drop (at + length (s ++ t)) out), ends)

-- two puts in a row, the second right behind the first
pub written_on : (s t out mid end : List ℕ) (at behind : ℕ) → at ≤ length out → mid ≡ written out at s → behind ≡ at + length s → end ≡ written mid behind t → end ≡ written out at (s ++ t)
written_on s t out mid end at behind h first e second =
    second ∙ ap (λ b. written b behind t) first ∙ written-written out at s behind t e h

-- two puts in a row, each at the end of what stands then
pub put_on : (s t out mid end : List ℕ) → mid ≡ written out (length out) s → end ≡ written mid (length mid) t → end ≡ written out (length out) (s ++ t)
put_on s t out mid end first second =
    let behind : length mid ≡ length out + length s = ap length (first ∙ written_end out s) ∙ length-append out s
    in written_on s t out mid end (length out) (length mid) (omega arith) first behind second
