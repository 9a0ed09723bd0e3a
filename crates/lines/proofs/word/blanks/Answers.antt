use Rattle.std.proofs.Common.{rules, tests, true, false, ◌≡◌, ◌∙◌, arith}
use Rattle.std.proofs.lemmas.Iterator.{IsFirst-from_position, YieldsList-from_slice}
use Rattle.std.proofs.lemmas.List.Sums.{prefix_len-le-length}
use Rattle.std.specs.List.{prefix_len}
use Rattle.lines.specs.Words.{is_blank}
use Rattle.lines.proofs.Words.{prefix_found}
use Rattle.lines.proofs.word.blanks.Goals as goal

pub returns : goal.returns
returns c =
    let line = c.args.line.now
    in let found = IsFirst-from_position _ _ _ (λ b. is_blank b ≡ false) (λ b. is_blank b ≡ true)
    c.position.ensures.ran (YieldsList-from_slice line c.iter.ensures.rest) (λ x q k. search (rules, tests)) (λ x q k. search (rules, tests))
    in let value : c.unwrap_or.result ≡ prefix_len is_blank line = c.unwrap_or.ensures ∙ prefix_found is_blank line c.position.result found
    in record { value = value; within = omega (arith, value, prefix_len-le-length is_blank line) }
