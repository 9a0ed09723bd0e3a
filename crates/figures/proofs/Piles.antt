use Rattle.std.proofs.Common.{◌≡◌, ℕ, max, Bool, true, ◌&&◌, eqb, ltb, List, refl, ap, ◌∙◌}
use Rattle.std.proofs.lemmas.Bool.{and_parts, eqb-true, ltb-true}
use Rattle.std.proofs.lemmas.Slice.Eq.{bytes_eq-Decides}
use Rattle.std.specs.List.{list_all}
use Rattle.std.specs.Str.{bytes_eq}
use Rattle.figures.proofs.Entries.{each}
use Rattle.layers.specs.Gates.{spacing}
use Rattle.lists.specs.ListRecords.{checked_at, seek_from, sound_from}
use Rattle.figures.specs.Passages.{Gates, GatesRight, Passage, PassageRight, taken_from}
use Rattle.figures.specs.Piles.{Pile, gates, passage, PileRight, PilesStand, no_pile, piles}
use Rattle.figures.proofs.Passing.{answers, first, passages}

-- The rule of a figure of gates and lists as a test that is computed, and what the test tells.

-- a list pledges distance 1
abbrev is_pledged : Gates → Bool
is_pledged f = eqb (max f.upper (max f.lower 1)) f.pledged

gates_right : (f : Gates) → is_pledged f ≡ true → GatesRight f
gates_right f e = record {
  distance = λ x k l u.
      ap (λ (n : ℕ). max n (max (spacing x.below k).distance.steps 1)) u ∙ ap (λ (n : ℕ). max f.upper (max n 1)) l
      ∙ eqb-true (max f.upper (max f.lower 1)) f.pledged e;
}

-- the steps with a taking, by the definitions
abbrev takings : Passage → List ℕ
takings f = taken_from 0 (answers f.bytes f.mark f.distance f.steps (first f.bytes f.mark))

abbrev is_passed : Passage → Bool
is_passed f = ltb f.mark 32 && bytes_eq (takings f) f.taken

passage_right : (f : Passage) → is_passed f ≡ true → PassageRight f
passage_right f e =
    let parts = and_parts (ltb f.mark 32) (bytes_eq (takings f) f.taken) e
    in record {
      taken = λ x rs new n a.
          ap (taken_from 0) (passages f.bytes f.mark f.distance f.steps (ltb-true f.mark 32 parts.0) x rs new n a)
          ∙ (bytes_eq-Decides (takings f) f.taken).0 parts.1;
    }

abbrev is_right : Pile → Bool
is_right (gates f) = is_pledged f
is_right (passage f) = is_passed f

right : (f : Pile) → is_right f ≡ true → PileRight f
right (gates f) e = gates_right f e
right (passage f) e = passage_right f e

-- the test passes at every figure of the table
computed : list_all is_right piles ≡ true
unfolding checked_at seek_from sound_from
computed = refl

pub piles-stand : PilesStand
piles-stand = record { each = each is_right PileRight right no_pile piles computed }
