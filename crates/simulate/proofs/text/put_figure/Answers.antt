use Rattle.std.proofs.Common.{◌≡◌, [], ◌∷◌, ◌++◌, OnOk, string_bytes, sym, ap, ◌∙◌, subst}
use Rattle.std.specs.Fmt.{styled_decimal, styled_text}
use Rattle.simulate.specs.Tables.{at_right, word_of}
use Rattle.simulate.proofs.Columns.{dash_right, number_right}
use Rattle.simulate.proofs.text.put_figure.Goals as goal

pub returns-in-Some : goal.returns-in-Some
returns-in-Some c =
    subst (λ z. OnOk c.write.result (string_bytes c.write.new.self ≡ string_bytes c.args.text.now ++ (32 ∷ z)))
    (ap (λ s. styled_decimal s c.in-Some.n) c.laid_out.ensures ∙ number_right c.args.width c.in-Some.n ∙ ap (λ f. at_right c.args.width (word_of f)) (sym c.in-Some.is)) c.write.ensures.bytes

pub returns-in-None : goal.returns-in-None
returns-in-None c =
    subst (λ z. OnOk c.write-in-None.result (string_bytes c.write-in-None.new.self ≡ string_bytes c.args.text.now ++ (32 ∷ z)))
    (ap (λ s. styled_text s (45 ∷ [])) c.laid_out-in-None.ensures ∙ dash_right c.args.width ∙ ap (λ f. at_right c.args.width (word_of f)) (sym c.in-None.is)) c.write-in-None.ensures.bytes
