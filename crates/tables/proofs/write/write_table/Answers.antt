use Rattle.std.proofs.Common.{◌≡◌, [], ◌∷◌, ◌++◌, get_or, Ok, vec_items, sym, ap, ◌∙◌, arith, below_more}
use Rattle.std.proofs.lemmas.List.{take_all}
use Rattle.lines.specs.Prints.{ParsesBack}
use Rattle.rows.specs.Drafts.{rows_of}
use Rattle.rows.specs.Rows.{blank}
use Rattle.tables.specs.Tables.{table_of}
use Rattle.tables.specs.Written.{header, table_text}
use Rattle.tables.proofs.Written.{table_back, table_none, table_put}
use Rattle.tables.proofs.write.write_table.Goals as goal

pub loop-row-init : goal.loop-row-init
loop-row-init c = (
  c.in_ok-extend_from_slice.ensures.items ∙ ap (λ ws. ws ++ (header ++ 10 ∷ [])) c.new-table.ensures.items ∙ table_none,
  (λ i h. absurd (omega arith)),
)

pub loop-row-preserved : goal.loop-row-preserved
loop-row-preserved c = (
  table_put c.rows-row-items.result.now c.loop-row.row-index (vec_items c.loop-row.table) (vec_items c.put_row.new.out) (vec_items c.push.new.self)
      c.loop-row-test.true c.loop-row.invariant.0 c.in_ok-put_row.ensures.text c.in_ok-push.ensures.items,
  below_more (λ i. ParsesBack (get_or c.rows-row-items.result.now i blank)) c.loop-row.row-index c.loop-row.invariant.1
      c.in_ok-put_row.ensures.back,
)

pub returns : goal.returns
returns c =
    let rows = rows_of c.args.draft.now
    in let is = c.rows-row-items.ensures.value
    in let value : vec_items c.loop-row.table ≡ table_text rows =
    c.loop-row.invariant.0 ∙ ap table_text (take_all c.loop-row.row-index c.rows-row-items.result.now (omega arith) ∙ is)
    in let items = c.rows-row-items.result.now
    in record {
      value = value;
      back =
          ap table_of (value ∙ ap table_text (sym is))
          ∙ table_back items c.rows-row-items.ensures.few c.rows-row-items.ensures.valid (λ i h. c.loop-row.invariant.1 i (omega arith)) ∙ ap Ok is;
    }
