use Rattle.std.proofs.Common.{◌≡◌, ◌∙◌, arith}
use Rattle.encoding.specs.Records.{word_bytes}
use Rattle.rows.specs.Rows.{label_bytes}
use Rattle.encoding.proofs.Loading.{loads-back}
use Rattle.encoding.proofs.Words.{row_back}
use Rattle.encoding.proofs.record.encode_row.Goals as goal

pub returns : goal.returns
returns c =
    let m : c.copy_from_slice.new.self ≡ word_bytes c.args.row.memory = c.copy_from_slice.ensures.after ∙ c.to_be_bytes.ensures
    in let p : c.copy_from_slice-2.new.self ≡ word_bytes c.args.row.compute = c.copy_from_slice-2.ensures.after ∙ c.to_be_bytes-2.ensures
    in let d : c.copy_from_slice-3.new.self ≡ word_bytes c.args.row.deadline = c.copy_from_slice-3.ensures.after ∙ c.to_be_bytes-3.ensures
    in let t : c.copy_from_slice-4.new.self ≡ word_bytes c.args.row.period = c.copy_from_slice-4.ensures.after ∙ c.to_be_bytes-4.ensures
    in let l : c.copy_from_slice-5.new.self ≡ label_bytes c.args.row.label = c.copy_from_slice-5.ensures.after ∙ c.from.ensures
    in record {
      value = simp (m, p, d, t, l);
      back = simp (m, p, d, t, l) (row_back c.args.row (omega arith) (omega arith) (omega arith) (omega arith));
      any = loads-back;
    }
