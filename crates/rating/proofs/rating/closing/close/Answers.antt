use Rattle.std.proofs.Common.{sym, refl, ap, subst}
use Rattle.rows.specs.Drafts.{rows_of}
use Rattle.rating.specs.Ranked.{ranked}
use Rattle.rating.specs.Rankings.{Agrees}
use Rattle.rating.proofs.Rated.{Rates, rates}
use Rattle.rating.proofs.rating.closing.close.Goals as goal

pub returns : goal.returns
returns g c =
    let x = c.analyse.result
    in let s = g.A.Order.sequence c.args.memory_order
    in let t = g.B.Order.sequence c.args.processor_order
    in let same = c.analyse.ensures
    in let m = subst (λ d. Agrees s.before (rows_of c.args.draft) (ranked d.memory)) (sym same) c.rank-memory.ensures.agrees
    in let p = subst (λ d. Agrees t.before (rows_of c.args.draft) (ranked d.processor)) (sym same) c.rank-processor.ensures.agrees
    in let all = subst (λ d. Rates x (rows_of d.draft) s.before t.before) same
    (rates x s t (subst (λ d. Agrees s.before (rows_of d.draft) (ranked x.ranked.memory)) (sym same) m) (subst (λ d. Agrees t.before (rows_of d.draft) (ranked x.ranked.processor)) (sym same) p))
    in record { kept = (ap (λ d. d.draft) same, (refl, refl)); memory = m; processor = p; exact = all.exact; bounds = all.bounds; late = all.late }
