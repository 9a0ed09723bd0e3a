use Rattle.std.proofs.Common.{◌≡◌, true, arith}
use Rattle.std.proofs.lemmas.Bool.Decides.{nat_tests}
use Rattle.rows.specs.Rows.{Valid, is_valid}
use Rattle.rows.specs.declared.row.Row.{Row}

-- the record and the test say the same
pub valid_true : (r : Row) → Valid r → is_valid r ≡ true
valid_true r v = grind (arith, nat_tests)

pub true_valid : (r : Row) → is_valid r ≡ true → Valid r
true_valid r e = record {
  some_period = grind (arith, nat_tests);
  short_period = grind (arith, nat_tests);
  in_time = grind (arith, nat_tests);
  some_compute = grind (arith, nat_tests);
  fits = grind (arith, nat_tests);
  labelled = grind (arith, nat_tests);
}
