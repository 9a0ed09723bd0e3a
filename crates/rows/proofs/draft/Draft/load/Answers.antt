use Rattle.std.proofs.Common.{◌≡◌, length, Ok, sym, ap, ◌∙◌, subst, rules}
use Rattle.rows.specs.Books.{Loads, book_of, load_of}
use Rattle.rows.specs.Drafts.{rows_of}
use Rattle.rows.proofs.Scans.{load_ends, loads}
use Rattle.std.proofs.lemmas.Result.{err_from_is_err_and}
use Rattle.rows.proofs.draft.Draft.load.Goals as goal

pub returns : goal.returns
returns c =
    let n = length (rows_of c.args.self.now)
    in let value : Ok tt ≡ load_of n c.args.bytes.now = search rules
    in record {
      value = value;
      first = subst (Loads n c.args.bytes.now) (sym value) (loads n c.args.bytes.now);
      rows = search rules;
      refused = search rules;
    }

pub returns-in_err-take_book : goal.returns-in_err-take_book
returns-in_err-take_book c =
    let n = length (rows_of c.args.self.now)
    in let p = err_from_is_err_and c.from_residual.result c.from_residual.ensures.1
    in let same : length (rows_of c.copied-trial.result) ≡ n = ap length c.copied-trial.ensures
    in let value = p.1 ∙ load_ends n c.args.bytes.now c.in_err-take_book.field-0.0 p.0
    (c.in_err-take_book.ensures.value ∙ ap (λ m. book_of m c.args.bytes.now) same) p.2
    in record {
      value = value;
      first = subst (Loads n c.args.bytes.now) (sym value) (loads n c.args.bytes.now);
      rows = search rules;
      refused = search rules;
    }
