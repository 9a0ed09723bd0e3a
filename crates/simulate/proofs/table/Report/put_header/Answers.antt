use Rattle.std.proofs.Common.{[], ◌∷◌, string_bytes, codes}
use Rattle.simulate.specs.Tables.{columns, head_in, header_text, in_turn}
use Rattle.simulate.proofs.Texts.{then3}
use Rattle.simulate.proofs.table.Report.put_header.Goals as goal

pub returns : goal.returns
unfolding header_text lib.Utf8.encode
returns g c =
    then3 (string_bytes c.args.text.now) (codes "no label") (in_turn (head_in c.args.self.now.rating.now c.args.self.now.journal.now) columns) (10 ∷ [])
    c.in_ok-push_str.ensures.bytes c.in_ok-put_heads.ensures c.in_ok-push.ensures.bytes
