use Rattle.std.proofs.Common.{◌≡◌, ◌*◌, ◌/◌, ◌<◌, length, sym, ap, ◌∙◌, arith, rules}
use Rattle.std.proofs.lemmas.Result.{err_from_is_err_and}
use Rattle.std.proofs.lemmas.List.{length_push}
use Rattle.std.specs.Result.{IsErrAnd}
use Rattle.rows.specs.Books.{row_at, numbered}
use Rattle.rows.specs.Drafts.{rows_of}
use Rattle.rows.proofs.Chunks.{pushed_chunk, taken_chunk}
use Rattle.rows.proofs.Scans.{book_done, book_ends, first_rows-none, numbered_err, numbered_ok, rows_on, scan_on}
use Rattle.rows.proofs.draft.Draft.take_book.Goals as goal

pub loop-number-init : goal.loop-number-init
loop-number-init c = (sym (first_rows-none (rows_of c.args.self.now) c.args.bytes.now), search rules)

pub loop-number-preserved : goal.loop-number-preserved
loop-number-preserved c =
    let bytes = c.args.bytes.now
    in let i = c.loop-number.number-counter
    in let before = rows_of c.loop-number.self
    in let more : i < length bytes / 24 = omega (arith, c.as_chunks.ensures.front_len)
    in let value = taken_chunk before bytes (length bytes / 24) i c.as_chunks.result.0.now c.take_record.result c.as_chunks.ensures.front more c.take_record.ensures.value
    in let here = pushed_chunk before (rows_of c.take_record.new.self) bytes (length bytes / 24) i c.as_chunks.result.0.now c.as_chunks.ensures.front more (search rules)
    in (
      rows_on (rows_of c.args.self.now) before (rows_of c.take_record.new.self) bytes i here c.loop-number.invariant.0,
      scan_on (length (rows_of c.args.self.now)) (length before) (length (rows_of c.take_record.new.self)) bytes i
          (ap length here ∙ length_push before (row_at bytes (24 * i))) more (numbered_ok i c.take_record.result c.in_ok-map_err.ensures.variant ∙ ap (numbered i) value) c.loop-number.invariant.1,
    )

pub returns-in_err-map_err-clause-value : goal.returns-in_err-map_err-clause-value
returns-in_err-map_err-clause-value c =
    let bytes = c.args.bytes.now
    in let i = c.loop-number.number-counter
    in let before = rows_of c.loop-number.self
    in let more : i < length bytes / 24 = omega (arith, c.as_chunks.ensures.front_len)
    in let value = taken_chunk before bytes (length bytes / 24) i c.as_chunks.result.0.now c.take_record.result c.as_chunks.ensures.front more c.take_record.ensures.value
    in let is : IsErrAnd c.take_record.result (λ fault. c.in_err-map_err.field-0.0 ≡ record { number = i; fault = fault }) = search (rules, c.in_err-map_err.ensures.cases)
    in let p = err_from_is_err_and c.from_residual.result c.from_residual.ensures.1
    in p.1
    ∙ book_ends (length (rows_of c.args.self.now)) (length before) bytes i c.in_err-map_err.field-0.0 p.0 (search (rules, arith)) more c.loop-number.invariant.1
    (numbered_err i c.take_record.result c.in_err-map_err.field-0.0 is ∙ ap (numbered i) value) p.2

pub returns-clause-value : goal.returns-clause-value
returns-clause-value c =
    book_done (length (rows_of c.args.self.now)) (length (rows_of c.loop-number.self)) c.args.bytes.now c.loop-number.number-counter
    (search (rules, arith)) (omega (arith, c.as_chunks.ensures.front_len)) c.loop-number.invariant.1
