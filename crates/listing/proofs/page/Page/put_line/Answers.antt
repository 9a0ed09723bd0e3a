use Rattle.std.proofs.Common.{◌+◌, [], ◌∷◌, ◌++◌, ◌∙◌}
use Rattle.listing.proofs.Written.{put_on, written_end}
use Rattle.listing.proofs.page.Page.put_line.Goals as goal
use Rattle.listing.specs.Lines.{figure, line_of}
use Rattle.listing.specs.Text.{two_digits}
use Rattle.rows.specs.Rows.{label_bytes}

-- from the last put back to the first
pub returns-clause-at : goal.returns-clause-at
returns-clause-at c =
    let row = c.args.row.now
    in let m = c.args.bounds.0
    in let p = c.args.bounds.1
    in let t4 = figure row.deadline ++ (10 ∷ [])
    in let t3 = figure (m + p) ++ t4
    in let t2 = figure p ++ t3
    in let t1 = figure m ++ t2
    in let t0 = label_bytes row.label ++ t1
    in let e5 = put_on (figure row.deadline) (10 ∷ []) _ _ _ c.put_figure-4.ensures.at c.put-2.ensures.at
    in let e4 = put_on (figure (m + p)) t4 _ _ _ c.put_figure-3.ensures.at e5
    in let e3 = put_on (figure p) t3 _ _ _ c.put_figure-2.ensures.at e4
    in let e2 = put_on (figure m) t2 _ _ _ c.put_figure.ensures.at e3
    in let e1 = put_on (label_bytes row.label) t1 _ _ _ c.put_label.ensures.at e2
    in let e0 = put_on (32 ∷ []) t0 _ _ _ c.put.ensures.at e1
    in put_on (two_digits c.args.number) (32 ∷ t0) _ _ _ c.put_two_digits.ensures.at e0

pub returns-clause-text : goal.returns-clause-text
returns-clause-text c =
    returns-clause-at c
    ∙ written_end c.args.self.now.bytes.items (line_of c.args.number c.args.row.now c.args.bounds)
