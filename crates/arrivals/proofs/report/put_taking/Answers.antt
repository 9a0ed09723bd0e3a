use Rattle.std.proofs.Common.{rules, ◌≡◌, ◌++◌, OnOk, string_bytes, decimal, codes, ap, ◌∙◌, subst}
use Rattle.std.specs.Fmt.{styled_decimal}
use Rattle.arrivals.proofs.Marks.{tens_ones}
use Rattle.arrivals.proofs.report.put_taking.Goals as goal

pub returns : goal.returns
returns c =
    let t = c.args.taking in
    subst (λ z. OnOk c.writeln.result (string_bytes c.writeln.new.self ≡ string_bytes c.args.text.now
    ++ (decimal t.step ++ (codes " " ++ (z ++ (codes " " ++ (decimal t.memory ++ (codes " " ++ (decimal t.processor ++ codes "\n")))))))))
    (ap (λ s. styled_decimal s t.mark) c.laid_out.ensures ∙ tens_ones t.mark (search rules)) c.writeln.ensures.bytes
