use Rattle.std.proofs.Common.{◌≡◌, ℕ, zero, suc, ◌+◌, ◌*◌, ◌<◌, ◌≤◌, List, [], ◌∷◌, length, get_or, take, drop, refl, ap, ◌∙◌, arith}
use Rattle.std.proofs.lemmas.List.{get_or-drop, get_or-take, drop-drop}
use Rattle.lists.specs.ListRecords.{arrival_at, is_padded, record_at, records_of, row_at, step_at}
use Rattle.rows.specs.Books.{word_at}
use Rattle.lists.specs.declared.records.record.Arrival.{Arrival}

-- What stands in the sixteens that a list is read by.

pub length-records : (n : ℕ) (bs : List ℕ) → length (records_of bs n) ≡ n
length-records zero bs = refl
length-records (suc n) bs = ap suc (length-records n (drop 16 bs))

-- the first of more are the first
pub take-records : (k n : ℕ) (bs : List ℕ) → k ≤ n → take k (records_of bs n) ≡ records_of bs k
take-records zero n bs h = refl
take-records (suc k) zero bs h = absurd (omega arith)
take-records (suc k) (suc n) bs h = ap (λ l. take 16 bs ∷ l) (take-records k n (drop 16 bs) (omega arith))

pub record-of : (n i : ℕ) (bs : List ℕ) (blank : List ℕ) → i < n → get_or (records_of bs n) i blank ≡ record_at bs i
record-of zero i bs blank h = absurd (omega arith)
record-of (suc n) zero bs blank h = refl
record-of (suc n) (suc i) bs blank h =
    let on : 16 + 16 * i ≡ 16 * suc i = omega arith
    in record-of n i (drop 16 bs) blank (omega arith) ∙ ap (take 16) (drop-drop (16 * i) 16 bs ∙ ap (λ a. drop a bs) on)

pub byte-of : (bs : List ℕ) (i j : ℕ) → j < 16 → get_or (record_at bs i) j 0 ≡ get_or bs (16 * i + j) 0
byte-of bs i j h = get_or-take 16 (drop (16 * i) bs) j 0 h ∙ get_or-drop (16 * i) bs j 0

word-of : (bs : List ℕ) (i at : ℕ) → at + 4 ≤ 16 → word_at (record_at bs i) at ≡ word_at bs (16 * i + at)
word-of bs i at h =
    let b : (k : ℕ) → k < 4 → get_or (record_at bs i) (at + k) 0 ≡ get_or bs (16 * i + at + k) 0 =
    λ k l. let e : 16 * i + (at + k) ≡ 16 * i + at + k = omega arith in byte-of bs i (at + k) (omega arith) ∙ ap (λ a. get_or bs a 0) e
    in rw (byte-of bs i at (omega arith), b 1 (omega arith), b 2 (omega arith), b 3 (omega arith)) refl

pub step-of : (bs : List ℕ) (i : ℕ) → step_at (record_at bs i) 0 ≡ step_at bs i
step-of bs i = let e : 16 * i + 0 ≡ 16 * i = omega arith in word-of bs i 0 (omega arith) ∙ ap (word_at bs) e

pub arrival-of : (bs : List ℕ) (i : ℕ) → arrival_at (record_at bs i) 0 ≡ arrival_at bs i
arrival-of bs i =
    let made : ℕ → ℕ → ℕ → ℕ → Arrival = λ s m p r. record { step = s; memory = m; processor = p; row = r }
    in let r = record_at bs i
    in ap (λ s. made s (word_at r 4) (word_at r 8) (get_or r 12 0)) (step-of bs i)
    ∙ ap (λ m. made (step_at bs i) m (word_at r 8) (get_or r 12 0)) (word-of bs i 4 (omega arith))
    ∙ ap (λ p. made (step_at bs i) (word_at bs (16 * i + 4)) p (get_or r 12 0)) (word-of bs i 8 (omega arith))
    ∙ ap (made (step_at bs i) (word_at bs (16 * i + 4)) (word_at bs (16 * i + 8))) (byte-of bs i 12 (omega arith))

pub padded-of : (bs : List ℕ) (i : ℕ) → is_padded (record_at bs i) 0 ≡ is_padded bs i
padded-of bs i = rw (byte-of bs i 13 (omega arith), byte-of bs i 14 (omega arith), byte-of bs i 15 (omega arith)) refl

-- the row of a record behind some others
pub row-of : (bs : List ℕ) (n from k : ℕ) → from + k < n → get_or (get_or (drop from (records_of bs n)) k []) 12 0 ≡ row_at bs (from + k)
row-of bs n from k h =
    ap (λ (r : List ℕ). get_or r 12 0) (get_or-drop from (records_of bs n) k [] ∙ record-of n (from + k) bs [] h) ∙ byte-of bs (from + k) 12 (omega arith)
