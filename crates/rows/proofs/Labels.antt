use Rattle.std.proofs.Common.{◌≡◌, true, refl, arith}
use Rattle.std.proofs.lemmas.Bool.Decides.{nat_tests}
use Rattle.std.proofs.lemmas.Str.{encode_ascii}
use Rattle.rows.specs.Rows.{is_labelled, label_bytes, label_text}
use Rattle.rows.specs.declared.row.Label.{Label}

-- a label that is printable shows as its four bytes
pub label_shows : (l : Label) → is_labelled l ≡ true → label_text l ≡ label_bytes l
label_shows l e =
    rw (
      encode_ascii l.first (grind (arith, nat_tests)),
      encode_ascii l.second (grind (arith, nat_tests)),
      encode_ascii l.third (grind (arith, nat_tests)),
      encode_ascii l.fourth (grind (arith, nat_tests)),
    ) refl
