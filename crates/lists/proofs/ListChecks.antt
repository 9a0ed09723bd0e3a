use Rattle.std.proofs.Common.{◌≡◌, ℕ, ◌/◌, ◌%◌, ◌<◌, List, length, is_ok, Ok, Err, Result, refl, ap, inl, inr, arith}
use Rattle.std.proofs.lemmas.Bool.{both_ways, cases_lt, le-ltb, lt-ltb}
use Rattle.std.proofs.lemmas.Bool.Decides.{eqb_tells}
use Rattle.lists.specs.ListRecords.{Checks, checked_at, checked_list, ends_at, in_list, numbered, sound_count}
use Rattle.lists.specs.Walks.{sound-first}
use Rattle.lists.specs.declared.records.fault.ListRecordFault.{ListRecordFault}

-- a list of whole records that has a faulty one
stopped : (bs : List ℕ) → length bs % 16 ≡ 0 → sound_count bs < length bs / 16
    → Checks bs (in_list (ends_at (sound_count bs) (numbered (sound_count bs) (checked_at bs (sound_count bs)))))
stopped bs w h = go (checked_at bs (sound_count bs)) refl
  where
    go : (o : Result Unit ListRecordFault) → checked_at bs (sound_count bs) ≡ o → Checks bs (in_list (ends_at (sound_count bs) (numbered (sound_count bs) o)))
    go (Ok _) e = absurd (both_ways _ ((sound-first bs).here h) (ap is_ok e))
    go (Err fault) e = record { whole = w; within = h; here = e; before = (sound-first bs).before }

-- the definition of a check is the rule
pub checks : (bs : List ℕ) → Checks bs (checked_list bs)
checks bs =
    elim (eqb_tells (length bs % 16) 0) [
      | inl e ↦ rw e.0 (
          elim (cases_lt (sound_count bs) (length bs / 16)) [
            | inl h ↦ rw (lt-ltb (sound_count bs) (length bs / 16) h) (stopped bs e.1 h)
            | inr h ↦ rw (le-ltb (sound_count bs) (length bs / 16) h) (record { whole = omega (arith, e.1, (sound-first bs).within); each = (sound-first bs).before })
          ])
      | inr e ↦ rw e.0 e.1
    ]
