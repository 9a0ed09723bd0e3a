use Rattle.std.proofs.Common.{◌≡◌, ℕ, max, List, length, ap, ◌∙◌}
use Rattle.simulate.specs.Tables.{figure_at, head_of, word_of}
use Rattle.simulate.proofs.Texts.{widest-more}
use Rattle.simulate.proofs.table.Report.width.Goals as goal

pub loop-k-preserved : goal.loop-k-preserved
loop-k-preserved g c =
    let texts : ℕ → List ℕ = λ j. word_of (figure_at c.args.self.now.rating.now c.args.self.now.journal.now c.args.column j) in
    let long : c.word_width.result ≡ length (texts c.loop-k.k) = c.word_width.ensures ∙ ap (λ f. length (word_of f)) c.figure.ensures in
    c.max-widest.ensures ∙ ap (max c.loop-k.widest) long
    ∙ widest-more texts (length (head_of c.args.column)) c.loop-k.k c.loop-k.widest c.loop-k.invariant
