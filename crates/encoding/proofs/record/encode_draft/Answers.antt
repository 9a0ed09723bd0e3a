use Rattle.std.proofs.Common.{◌≡◌, ◌≤◌, ◌++◌, length, take, vec_items, sym, ap, ◌∙◌, subst, arith}
use Rattle.std.proofs.lemmas.List.{take_all}
use Rattle.std.proofs.lemmas.Slice.{pushed}
use Rattle.rows.specs.Drafts.{EachValid, rows_of}
use Rattle.encoding.specs.Records.{LoadsAs, SameBook, bytes_of}
use Rattle.encoding.proofs.Loading.{bytes_more, bytes_none, loads-back}
use Rattle.encoding.proofs.Reading.{same-book}
use Rattle.encoding.proofs.record.encode_draft.Goals as goal

pub loop-row-init : goal.loop-row-init
loop-row-init c = c.new-book.ensures.items ∙ bytes_none

pub loop-row-preserved : goal.loop-row-preserved
loop-row-preserved c =
    pushed _ c.loop-row.invariant c.in_ok-extend_from_slice.was c.extend_from_slice.ensures.items
    ∙ ap (λ ws. bytes_of (take c.loop-row.row-index c.rows-row-items.result.now) ++ ws) c.encode_row.ensures.value
    ∙ bytes_more c.rows-row-items.result.now c.loop-row.row-index (omega arith)

pub returns : goal.returns
returns c =
    let rows = rows_of c.args.draft.now
    in let is = c.rows-row-items.ensures.value
    in let value : vec_items c.loop-row.book ≡ bytes_of rows =
    c.loop-row.invariant ∙ ap bytes_of (take_all c.loop-row.row-index c.rows-row-items.result.now (omega arith) ∙ is)
    in let few : length rows ≤ 32 = omega (arith, c.rows-row-items.ensures.few, ap length is)
    in let valid : EachValid rows = subst EachValid is c.rows-row-items.ensures.valid
    in record {
      value = value;
      loads = subst (λ bs. LoadsAs bs rows) (sym value) (loads-back rows few valid);
      same = subst (λ bs. SameBook bs rows) (sym value) (same-book rows);
    }
