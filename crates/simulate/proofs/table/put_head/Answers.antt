use Rattle.std.proofs.Common.{◌≡◌, ◌++◌, ◌∷◌, ◌-◌, ◌^◌, OnOk, string_bytes, ap, ◌∙◌, subst}
use Rattle.std.specs.Fmt.{format_spec, styled_text}
use Rattle.simulate.proofs.Columns.{head_right}
use Rattle.simulate.proofs.table.put_head.Goals as goal

pub returns : goal.returns
returns c =
    subst (λ z. OnOk c.write.result (string_bytes c.write.new.self ≡ string_bytes c.args.text.now ++ (32 ∷ z)))
    (ap (λ s. styled_text s c.head-head.result.now) c.laid_out.ensures ∙ ap (styled_text (format_spec 32 3 0 c.args.width (2 ^ 64 - 1))) c.head-head.ensures ∙ head_right c.args.width c.args.column) c.write.ensures.bytes
