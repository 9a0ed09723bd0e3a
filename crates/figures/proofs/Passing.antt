use Rattle.std.proofs.Common.{◌≡◌, ℕ, zero, suc, ◌+◌, ◌-◌, ◌<◌, min, true, false, cond, ◌&&◌, eqb, ltb, leb, List, [], ◌∷◌, length, is_some, Some, None, Option, sym, refl, ap, ◌∙◌, subst}
use Rattle.std.proofs.lemmas.Bool.{both_ways}
use Rattle.std.specs.Option.{option_map}
use Rattle.layers.specs.Gates.{gate_view, passed, spacing}
use Rattle.layers.specs.declared.gate.Gate.{Gate}
use Rattle.lists.specs.ListRecords.{arrival_at, sound_count, sought, step_at}
use Rattle.lists.specs.Lists.{cursor_of, due_of, figures_of, listing, rest_of}
use Rattle.lists.specs.declared.list.List.{List as Listed}
use Rattle.lists.specs.declared.list.places.Place.{Place}
use Rattle.figures.specs.Passages.{Answers, NewPile, PileAdvanced, PileTaken}

-- What a gate above a list shows at one mark, as plain numbers: both rests, the clock and the mark's place in the list.
pub record State : Type 0 where
  pub own : ℕ
  pub rest : ℕ
  pub clock : ℕ
  pub cursor : ℕ

-- x shows s at mark k, over bytes bs, with distance d
pub record Showing (bs : List ℕ) (k d : ℕ) (x : Gate Listed) (s : State) : Type 0 where
  pub bytes : x.below.bytes.now ≡ bs
  pub count : x.below.count ≡ sound_count bs
  pub distance : (spacing x k).distance.steps ≡ d
  pub own : (spacing x k).rest ≡ s.own
  pub rest : rest_of x.below k ≡ s.rest
  pub clock : x.below.clock ≡ s.clock
  pub cursor : cursor_of x.below k ≡ s.cursor

-- whether the list offers anything, and what, by these numbers
abbrev pub due : List ℕ → ℕ → ℕ → ℕ → ℕ → ℕ → Option ℕ
due bs n k rest clock cursor =
    cond (eqb rest 0 && (ltb (sought bs n k cursor) n && leb (step_at bs (sought bs n k cursor)) clock)) (Some (sought bs n k cursor)) None

abbrev pub figures : List ℕ → ℕ → ℕ × ℕ
figures bs i = ((arrival_at bs i).memory, (arrival_at bs i).processor)

abbrev pub below : List ℕ → ℕ → ℕ → ℕ → ℕ → ℕ → Option (ℕ × ℕ)
below bs n k rest clock cursor = option_map (figures bs) (due bs n k rest clock cursor)

abbrev pub offered : List ℕ → ℕ → State → Option (ℕ × ℕ)
offered bs k s = passed s.own (below bs (sound_count bs) k s.rest s.clock s.cursor)

-- the numbers after a taking that answers r, and after an advance
abbrev pub after : List ℕ → ℕ → ℕ → Option (ℕ × ℕ) → State → State
after bs k d None s = s
after bs k d (Some p) s = record {
  own = d;
  rest = 1;
  clock = s.clock;
  cursor = sought bs (sound_count bs) k (sought bs (sound_count bs) k s.cursor + 1);
}

abbrev pub next : State → State
next s = record { own = s.own - 1; rest = s.rest - 1; clock = min (s.clock + 1) 4294967295; cursor = s.cursor }

-- the definitions give what is offered
below-is : (bs : List ℕ) (k d : ℕ) (x : Gate Listed) (s : State) → Showing bs k d x s
    → (listing x.below).offer k ≡ below bs (sound_count bs) k s.rest s.clock s.cursor
below-is bs k d x s h =
    ap (λ (b : List ℕ). below b x.below.count k (rest_of x.below k) x.below.clock (cursor_of x.below k)) h.bytes
    ∙ ap (λ (n : ℕ). below bs n k (rest_of x.below k) x.below.clock (cursor_of x.below k)) h.count
    ∙ ap (λ (r : ℕ). below bs (sound_count bs) k r x.below.clock (cursor_of x.below k)) h.rest
    ∙ ap (λ (c : ℕ). below bs (sound_count bs) k s.rest c (cursor_of x.below k)) h.clock
    ∙ ap (λ (c : ℕ). below bs (sound_count bs) k s.rest s.clock c) h.cursor

offered-is : (bs : List ℕ) (k d : ℕ) (x : Gate Listed) (s : State) → Showing bs k d x s → (gate_view listing x).offer k ≡ offered bs k s
offered-is bs k d x s h =
    ap (λ (o : ℕ). passed o ((listing x.below).offer k)) h.own ∙ ap (passed s.own) (below-is bs k d x s h)

mapped_some : (f : ℕ → ℕ × ℕ) (o : Option ℕ) (b : ℕ × ℕ) → option_map f o ≡ Some b → is_some o ≡ true
mapped_some f (Some a) b e = refl
mapped_some f None b e = absurd (both_ways false refl (ap is_some e))

-- where the mark stands after its record is taken
abbrev stands : List ℕ → ℕ → ℕ → ℕ → ℕ
stands bs n k cursor = sought bs n k (sought bs n k cursor + 1)

stands-is : (bs : List ℕ) (k d : ℕ) (x : Gate Listed) (s : State) → Showing bs k d x s
    → stands x.below.bytes.now x.below.count k (cursor_of x.below k) ≡ stands bs (sound_count bs) k s.cursor
stands-is bs k d x s h =
    ap (λ (b : List ℕ). stands b x.below.count k (cursor_of x.below k)) h.bytes
    ∙ ap (λ (n : ℕ). stands bs n k (cursor_of x.below k)) h.count
    ∙ ap (stands bs (sound_count bs) k) h.cursor

-- a taking moves the numbers on
taken-on : (bs : List ℕ) (k d : ℕ) (x : Gate Listed) (s : State) (r : Option (ℕ × ℕ)) (y : Gate Listed) → Showing bs k d x s → PileTaken x k r y → Showing bs k d y (after bs k d r s)
taken-on bs k d x s None y h t = subst (λ (z : Gate Listed). Showing bs k d z s) (sym t.gate) h
taken-on bs k d x s (Some p) y h t =
    let drawn = t.list refl
    in let due_some : is_some (due_of x.below k) ≡ true = mapped_some (figures_of x.below) (due_of x.below k) _ (sym t.gate.below.answered)
    in record {
      bytes = ap (λ b. b.now) drawn.file.bytes ∙ h.bytes;
      count = drawn.file.count ∙ h.count;
      distance = t.gate.here.distance ∙ h.distance;
      own = t.gate.here.rest ∙ h.distance;
      rest = t.gate.below.rested (ap is_some (sym t.gate.below.answered));
      clock = drawn.clock ∙ h.clock;
      cursor = drawn.cursor due_some ∙ stands-is bs k d x s h;
    }

advanced_on : (bs : List ℕ) (k d : ℕ) (x : Gate Listed) (s : State) (y : Gate Listed) → Showing bs k d x s → PileAdvanced x y → Showing bs k d y (next s)
advanced_on bs k d x s y h a = record {
  bytes = ap (λ b. b.now) a.list.file.bytes ∙ h.bytes;
  count = a.list.file.count ∙ h.count;
  distance = (a.gate.spacings k).distance ∙ h.distance;
  own = (a.gate.spacings k).rest ∙ ap (λ (n : ℕ). n - 1) h.own;
  rest = a.gate.below.rested k ∙ ap (λ (n : ℕ). n - 1) h.rest;
  clock = a.list.clock ∙ ap (λ (n : ℕ). min (n + 1) 4294967295) h.clock;
  cursor = a.list.cursors k ∙ h.cursor;
}

-- what n steps answer, by the numbers
abbrev pub answers : List ℕ → ℕ → ℕ → ℕ → State → List (Option (ℕ × ℕ))
answers bs k d zero s = []
answers bs k d (suc n) s = offered bs k s ∷ answers bs k d n (next (after bs k d (offered bs k s) s))

answers-are : (bs : List ℕ) (k d : ℕ) (rs : List (Option (ℕ × ℕ))) (x : Gate Listed) (s : State) → Showing bs k d x s → Answers k x rs → rs ≡ answers bs k d (length rs) s
answers-are bs k d [] x s h a = refl
answers-are bs k d (r ∷ rs) x s h a =
    let y = a.0
    in let z = a.1.0
    in let taken = a.1.1.0.0
    in let is : r ≡ offered bs k s = taken.whole.answered ∙ offered-is bs k d x s h
    in let moved = advanced_on bs k d y (after bs k d r s) z (taken-on bs k d x s r y h taken) a.1.1.0.1
    in ap (λ (l : List (Option (ℕ × ℕ))). r ∷ l) (answers-are bs k d rs z (next (after bs k d r s)) moved a.1.1.1)
    ∙ ap (λ (o : Option (ℕ × ℕ)). o ∷ answers bs k d (length rs) (next (after bs k d o s))) is

-- the numbers at first
abbrev pub first : List ℕ → ℕ → State
first bs k = record { own = 0; rest = 0; clock = 0; cursor = sought bs (sound_count bs) k 0 }

first-shown : (bs : List ℕ) (k d : ℕ) (x : Gate Listed) → k < 32 → NewPile bs k d x → Showing bs k d x (first bs k)
first-shown bs k d x small new =
    let place = new.list.places.marks k small
    in record {
      bytes = new.list.bytes;
      count = new.list.count;
      distance = new.spaced.distance;
      own = new.spaced.rest;
      rest = ap (λ (p : Place). p.rest) place;
      clock = new.list.clock;
      cursor = ap (λ (p : Place). p.cursor) place;
    }

-- what a new gate above a new list answers
pub passages : (bs : List ℕ) (k d n : ℕ) → k < 32 → (x : Gate Listed) (rs : List (Option (ℕ × ℕ))) → NewPile bs k d x → length rs ≡ n → Answers k x rs
    → rs ≡ answers bs k d n (first bs k)
passages bs k d n small x rs new e a = answers-are bs k d rs x (first bs k) (first-shown bs k d x small new) a ∙ ap (λ (m : ℕ). answers bs k d m (first bs k)) e
