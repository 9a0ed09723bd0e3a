use Rattle.std.proofs.Common.{◌≡◌, ◌++◌, OnOk, string_bytes, codes, ap, ◌∙◌, subst}
use Rattle.std.specs.Fmt.{styled_decimal}
use Rattle.listing.specs.Text.{two_digits}
use Rattle.rows.specs.Rows.{label_text}
use Rattle.rows.proofs.Labels.{label_shows}
use Rattle.simulate.proofs.Columns.{number_two}
use Rattle.simulate.proofs.text.put_row_head.Goals as goal

pub returns : goal.returns
returns c =
    subst (λ z. OnOk c.write.result (string_bytes c.write.new.self ≡ string_bytes c.args.text.now ++ (two_digits c.args.k ++ (codes "  " ++ z))))
    (label_shows c.args.label c.requires.1)
    (subst (λ z. OnOk c.write.result (string_bytes c.write.new.self ≡ string_bytes c.args.text.now ++ (z ++ (codes "  " ++ label_text c.args.label))))
    (ap (λ s. styled_decimal s c.args.k) c.laid_out.ensures ∙ number_two c.args.k c.requires.0) c.write.ensures.bytes)
