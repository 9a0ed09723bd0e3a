use Rattle.std.proofs.Common.{◌++◌, vec_items, ap, ◌∙◌, append_assoc, arith}
use Rattle.lines.specs.Prints.{numbers_text, row_text}
use Rattle.rows.specs.Rows.{label_bytes}
use Rattle.lines.proofs.Back.{parses_back}
use Rattle.lines.proofs.print.put_row.Goals as goal

pub returns : goal.returns
unfolding row_text
returns c =
    let out = vec_items c.args.out.now
    in let label = c.in_ok-extend_from_slice.ensures.items ∙ ap (λ bs. out ++ bs) c.from.ensures
    in let numbers = c.as_bytes.ensures.value ∙ c.in_ok-numbers.ensures
    in let h = c.well_formed
    in record {
      text =
          c.in_ok-extend_from_slice-2.ensures.items ∙ ap (λ bs. vec_items c.extend_from_slice.new.self ++ bs) numbers
          ∙ ap (λ bs. bs ++ numbers_text c.args.row) label ∙ append_assoc out (label_bytes c.args.row.label) (numbers_text c.args.row);
      back = parses_back c.args.row (omega (arith, h)) (omega (arith, h)) (omega (arith, h)) (omega (arith, h)) (omega (arith, h)) (omega (arith, h));
    }
