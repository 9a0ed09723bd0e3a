use Rattle.std.proofs.Common.{[], ◌∷◌, ◌++◌, string_bytes, codes, ap, ◌∙◌}
use Rattle.listing.specs.Text.{two_digits}
use Rattle.rating.specs.Bounds.{row_of}
use Rattle.rating.specs.Ratings.{draft_in}
use Rattle.rows.specs.Drafts.{rows_of}
use Rattle.rows.specs.Rows.{label_bytes}
use Rattle.simulate.specs.Tables.{cell_in, columns, in_turn, row_text}
use Rattle.simulate.proofs.Texts.{then3, up_to_more}
use Rattle.simulate.proofs.table.Report.put_rows.Goals as goal

pub loop-k-preserved : goal.loop-k-preserved
unfolding row_text lib.Utf8.encode
loop-k-preserved g c =
    let r = c.args.self.now.rating.now in
    let y = c.args.self.now.journal.now in
    let k = c.loop-k.k in
    up_to_more (row_text r y) (string_bytes c.args.text.now) k c.loop-k.invariant
    (then3 (string_bytes c.loop-k.text) (two_digits k ++ (codes "  " ++ label_bytes (row_of (rows_of (draft_in r)) k).label)) (in_turn (cell_in r y k) columns) (10 ∷ [])
    (c.in_ok-put_row_head.ensures ∙ ap (λ rows. string_bytes c.loop-k.text ++ (two_digits k ++ (codes "  " ++ label_bytes (row_of rows k).label))) c.rows-rows.ensures.value) c.in_ok-put_cells.ensures c.in_ok-push.ensures.bytes)
