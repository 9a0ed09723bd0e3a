use Rattle.std.specs.Prelude.{◌≡◌, ℕ, ◌+◌, ◌<◌, min, Bool, true, cond, ◌&&◌, List, is_some, Some, None, Option, ◌==◌, ◌≢◌, nat_le, nat_lt}
use Rattle.std.proofs.Common.{lit≤, subst, arith}
use Rattle.std.proofs.lemmas.Bool.{and_parts, cond_both, eqb-true, ltb-true}
use Rattle.std.specs.Option.{option_map}
use Rattle.lists.specs.ListRecords.{FirstFaulty, arrival_at, row_at, sound_count, sought, step_at}
use Rattle.feeds.specs.Meanings.{Offered, View}
use Rattle.lists.specs.Places.{Placed, place_of}
use Rattle.lists.specs.Walks.{sound-before, sound-figures}
use Rattle.lists.specs.declared.list.List.{List as Listed}

-- where a mark stands, and how long it rests
abbrev pub cursor_of : Listed → ℕ → ℕ
cursor_of x k = (place_of x.places k).cursor

abbrev pub rest_of : Listed → ℕ → ℕ
rest_of x k = (place_of x.places k).rest

-- the number of a mark's first untaken record, or the count if there is none
abbrev pub next_of : Listed → ℕ → ℕ
next_of x k = sought x.bytes.now x.count k (cursor_of x k)

-- a mark is offered its first untaken record once its rest is 0, if there is one and its step is not above the clock
abbrev pub is_due : Listed → ℕ → Bool
is_due x k = rest_of x k == 0 && (nat_lt (next_of x k) x.count && nat_le (step_at x.bytes.now (next_of x k)) x.clock)

abbrev pub due_of : Listed → ℕ → Option ℕ
due_of x k = cond (is_due x k) (Some (next_of x k)) None

-- the memory and the processor steps of a record
abbrev pub figures_of : Listed → ℕ → ℕ × ℕ
figures_of x i = ((arrival_at x.bytes.now i).memory, (arrival_at x.bytes.now i).processor)

abbrev pub offer_of : Listed → ℕ → Option (ℕ × ℕ)
offer_of x k = option_map (figures_of x) (due_of x k)

-- every such record is without fault, so its figures are within the ceilings
pub offered : (x : Listed) (k : ℕ) → Offered (offer_of x k) (rest_of x k) 1000000 1000000
offered x k =
    cond_both (is_due x k) (Some (next_of x k)) None (λ o. Offered (option_map (figures_of x) o) (rest_of x k) 1000000 1000000)
    (λ e.
    let p = and_parts (rest_of x k == 0) _ e
    in let q = and_parts (nat_lt (next_of x k) x.count) _ p.1
    in let h : next_of x k < sound_count x.bytes.now = subst (λ n. next_of x k < n) x.counted (ltb-true (next_of x k) x.count q.0)
    in let f = sound-figures x.bytes.now (next_of x k) (sound-before x.bytes.now _ 0 (next_of x k) (omega arith) h)
    in (eqb-true (rest_of x k) 0 p.0, f.0, f.1, f.2))
    (λ e. tt)

-- what a list shows: it pledges distance 1 and the widest ceilings
abbrev pub listing : Listed → View
listing x = record {
  distance = λ k. 1;
  memory = λ k. 1000000;
  processor = λ k. 1000000;
  rest = rest_of x;
  offer = offer_of x;
  distances = λ k. (lit≤ tt, lit≤ tt);
  memories = λ k. lit≤ tt;
  processors = λ k. (lit≤ tt, lit≤ tt);
  offers = offered x;
}

-- a record that is offered at a mark is a record of that mark
abbrev pub OfMark : Listed → ℕ → Option (ℕ × ℕ) → Type 0
OfMark x k o = is_some o ≡ true → row_at x.bytes.now (next_of x k) ≡ k

-- a new list over some bytes
pub record ListMade (bs : List ℕ) (y : Listed) : Type 0 where
  pub bytes : y.bytes.now ≡ bs
  pub count : y.count ≡ sound_count bs
  pub first : FirstFaulty bs y.count
  pub clock : y.clock ≡ 0
  pub places : Placed bs (sound_count bs) y.places

-- the file of y is that of x
pub record SameFile (x y : Listed) : Type 0 where
  pub bytes : y.bytes ≡ x.bytes
  pub count : y.count ≡ x.count

-- after a take: the mark stands at its next record behind the one that was offered, and no other mark has moved
pub record Drawn (x : Listed) (k : ℕ) (y : Listed) : Type 0 where
  pub file : SameFile x y
  pub clock : y.clock ≡ x.clock
  pub cursor : is_some (due_of x k) ≡ true → cursor_of y k ≡ sought x.bytes.now x.count k (next_of x k + 1)
  pub others : (j : ℕ) → (j ≢ k) → place_of y.places j ≡ place_of x.places j

-- after an advance: the clock has gone on, up to its last number, and no mark has moved
pub record Later (x y : Listed) : Type 0 where
  pub file : SameFile x y
  pub clock : y.clock ≡ min (x.clock + 1) 4294967295
  pub cursors : (j : ℕ) → cursor_of y j ≡ cursor_of x j
