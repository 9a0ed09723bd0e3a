use Rattle.std.specs.Prelude.{◌≡◌, ℕ, None, Ok, Err, Result}
use Rattle.std.proofs.Common.{lit≤}
use Rattle.feeds.specs.Meanings.{View}
use Rattle.feeds.specs.PerMarks.{OthersKept, at_mark}
use Rattle.feeds.specs.Settings.{Figures}
use Rattle.feeds.specs.declared.fault.SettingFault.{SettingFault}
use Rattle.feeds.specs.declared.sheet.DataSheet.{DataSheet}
use Rattle.feeds.specs.declared.terms.Terms.{Terms}

-- the terms of a mark that was never set: arrivals at any time, of any cost
abbrev pub unset : Terms
unset = record {
  distance = record { steps = 1; range = (lit≤ tt, lit≤ tt) };
  ceilings = record { memory = 1000000; processor = 1000000; memories = lit≤ tt; processors = (lit≤ tt, lit≤ tt) };
}

-- the terms of a mark
abbrev pub entry_of : DataSheet → ℕ → Terms
entry_of x = at_mark unset x.entries

-- Setting mark k shows x before and y after: an accepted setting stands at its mark, and every other mark keeps its
-- entry; a refused one alters nothing.
abbrev pub SheetSet : DataSheet → ℕ → ℕ → ℕ → ℕ → Result Unit SettingFault → DataSheet → Type 0
SheetSet x k d m c (Ok _) y = Figures (entry_of y k) d m c × OthersKept unset x.entries k y.entries
SheetSet x k d m c (Err _) y = y ≡ x

-- What a data sheet shows. It is a pledge alone: it rests at 0 and offers nothing.
abbrev pub sheet_view : DataSheet → View
sheet_view x = record {
  distance = λ k. (entry_of x k).distance.steps;
  memory = λ k. (entry_of x k).ceilings.memory;
  processor = λ k. (entry_of x k).ceilings.processor;
  rest = λ _. 0;
  offer = λ _. None;
  distances = λ k. (entry_of x k).distance.range;
  memories = λ k. (entry_of x k).ceilings.memories;
  processors = λ k. (entry_of x k).ceilings.processors;
  offers = λ _. tt;
}
