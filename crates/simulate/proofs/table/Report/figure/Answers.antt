use Rattle.std.proofs.Common.{◌≡◌, length, refl, ap, inl, inr, arith}
use Rattle.std.proofs.lemmas.Bool.{cases_lt}
use Rattle.std.proofs.lemmas.List.{get_or_past}
use Rattle.rating.specs.Bounds.{row_of}
use Rattle.rating.specs.Ratings.{draft_in}
use Rattle.rows.specs.Drafts.{rows_of}
use Rattle.rows.proofs.RowLists.{rows-valid}
use Rattle.simulate.proofs.Texts.{small_bounds}
use Rattle.simulate.proofs.table.Report.figure.Goals as goal

pub figure-requires : goal.figure-requires
figure-requires g c =
    let d = draft_in c.args.self.now.rating.now in
    let row = row_of (rows_of d) c.args.k in
    elim (cases_lt c.args.k (length (rows_of d))) [
      | inl l ↦
          let valid = rows-valid d (rows_of d) refl c.args.k l in
          small_bounds c.bounds.result row.deadline (omega (arith, valid.in_time, valid.short_period)) c.bounds.ensures.within
      | inr l ↦
          let none : row.deadline ≡ 0 = ap (λ r. r.deadline) (get_or_past (rows_of d) c.args.k _ l) in
          small_bounds c.bounds.result row.deadline (omega (arith, none)) c.bounds.ensures.within
    ]
