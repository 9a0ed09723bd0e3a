use Rattle.std.proofs.Common.{[], ◌∷◌, ◌++◌, length, string_bytes, ap, ◌∙◌}
use Rattle.rating.specs.Ratings.{draft_in, verdict_in}
use Rattle.rating.specs.declared.verdict.Phase.TheVariants.{Memory, Processor}
use Rattle.rows.specs.Drafts.{rows_of}
use Rattle.simulate.specs.Tables.{header_text, line_of, note_of, row_text, up_to}
use Rattle.simulate.specs.Timelines.{answers_in}
use Rattle.simulate.proofs.Texts.{then6}
use Rattle.simulate.proofs.table.Report.text.Goals as goal

pub returns : goal.returns
unfolding lib.Utf8.encode
returns g c =
    let r = c.args.self.now.rating.now in
    let y = c.args.self.now.journal.now in
    then6 (10 ∷ []) (header_text r y) (up_to (row_text r y) (length (rows_of (draft_in r)))) (10 ∷ []) (line_of Memory (answers_in y.timeline))
    (line_of Processor (answers_in y.timeline)) (note_of (verdict_in r))
    (c.in_ok-put_header.ensures ∙ ap (λ z. z ++ header_text r y) c.in_ok-text.ensures.ok)
    c.in_ok-put_rows.ensures c.in_ok-push.ensures.bytes
    (c.in_ok-put_line.ensures ∙ ap (λ xs. string_bytes c.push.new.self ++ line_of Memory xs) c.answers-answers.ensures.value)
    (c.in_ok-put_line-2.ensures ∙ ap (λ xs. string_bytes c.put_line.new.text ++ line_of Processor xs) c.answers-answers.ensures.value)
    (c.in_ok-push_str.ensures.bytes ∙ ap (λ xs. string_bytes c.put_line-2.new.text ++ xs) (c.note.ensures ∙ ap note_of c.verdict.ensures.value))
