use Rattle.std.proofs.Common.{◌≡◌, ◌≤◌, [], ◌∷◌, ◌++◌, get_or, take, Some, Ok, Err, refl, rules, sym, ap, ◌∙◌, subst, arith, length-set}
use Rattle.rating.specs.Bounds.{bound_of, figure_at}
use Rattle.rating.specs.Curves.{least_within}
use Rattle.rating.specs.Demands.{demanded, sources_of}
use Rattle.rating.specs.Ranked.{ranked}
use Rattle.rating.specs.Rankings.{front_of}
use Rattle.rating.proofs.Bases.{Base, ceiling_small, demand_more, raised_small, source_cost}
use Rattle.rating.proofs.Phases.{bound_here, bounds_more, found-lent, none_here, source_sound, sources_more, sources_for, turn}
use Rattle.rating.proofs.Rankings.{permutes-lent}
use Rattle.rating.proofs.ranked.RankedDraft.phase_bounds.Goals as goal

pub loop-k-init : goal.loop-k-init
loop-k-init c = (
  refl,
  search rules,
  search (rules, arith),
  search (rules, arith),
  omega arith,
  permutes-lent c.args.self.now c.args.phase _ _ c.rows-rows.ensures.value (c.rows-order.ensures ∙ ap ranked c.ranking.ensures),
)

-- the bound found is written down, and the row joins the sources
pub loop-k-preserved : goal.loop-k-preserved
loop-k-preserved c =
    let rs = c.rows-order.result.now
    in let p = c.loop-k.k-index
    in let t = turn _ _ _ c.loop-k.invariant.5 c.loop-k-test.true
    in let late = figure_at c.args.late.now
    in let d = c.own_cost.new.self
    in let own = c.own_cost.ensures.own ∙ c.cost-own.ensures
    in let sources = c.own_cost.ensures.sources ∙ c.loop-k.invariant.1
    in let here = sym (bound_here c.args.phase c.rows-rows.result.now late rs p t d own sources) ∙ ap (least_within (demanded d).work) (sym c.ceiling.ensures)
    ∙ sym c.in-Some.ensures.value
    in (
      length-set c.loop-k.found (get_or rs p 0) c.in-Some.w ∙ c.loop-k.invariant.0,
      c.add.ensures.sources ∙ ap (λ xs. xs ++ c.source.result ∷ []) sources ∙ ap (λ s. sources_for c.args.phase c.rows-rows.result.now late (take p rs) ++ s ∷ []) c.source.ensures
          ∙ sources_more c.args.phase c.rows-rows.result.now late rs p t,
      bounds_more c.args.phase c.rows-rows.result.now late rs p t c.loop-k.found c.in-Some.w c.loop-k.invariant.0 c.rows-rows.ensures.few c.loop-k.invariant.2 here,
      subst (λ xs. Base xs c.raised-base.result) (sym (c.add.ensures.sources ∙ ap (λ xs. xs ++ c.source.result ∷ []) c.own_cost.ensures.sources))
          (demand_more d (sources_of c.loop-k.demand) c.cost-own.result c.loop-k.base c.own_cost.ensures.own c.own_cost.ensures.sources c.loop-k.invariant.3
          c.source.result _ c.in-Some.w c.raised-base.result
          (ap (λ s. s.cost) c.source.ensures ∙ source_cost c.args.phase _ _ ∙ sym c.cost-own.ensures)
          (subst (λ s. 1 ≤ s.period) (sym c.source.ensures) (source_sound c.args.phase _ _ (c.rows-rows.ensures.valid _ t.within)).apart)
          c.in-Some.ensures.least c.raised-base.ensures),
      raised_small c.cost-own.result c.loop-k.base c.in-Some.w c.raised-base.result c.raised-base.ensures c.loop-k.invariant.4
          (omega (arith, c.in-Some.ensures.least.within, c.ceiling.ensures, ceiling_small c.args.phase _ (late (get_or rs p 0)) (c.rows-rows.ensures.valid _ t.within))),
      t.permutes,
    )

pub returns-in_default : goal.returns-in_default
returns-in_default c =
    let rs = c.rows-order.result.now
    in let p = c.loop-k.k-index
    in let t = turn _ _ _ c.loop-k.invariant.5 c.loop-k-test.true
    in let late = figure_at c.args.late.now
    in let d = c.own_cost.new.self
    in let own = c.own_cost.ensures.own ∙ c.cost-own.ensures
    in let sources = c.own_cost.ensures.sources ∙ c.loop-k.invariant.1
    in let here = sym (bound_here c.args.phase c.rows-rows.result.now late rs p t d own sources) ∙ ap (least_within (demanded d).work) (sym c.ceiling.ensures)
    ∙ sym c.in_default.ensures.value
    in found-lent c.args.self.now c.args.phase late c.rows-rows.result.now rs c.rows-rows.ensures.value (c.rows-order.ensures ∙ ap ranked c.ranking.ensures)
    (Err _) (refl, none_here c.args.phase c.rows-rows.result.now late rs p t c.loop-k.found c.loop-k.invariant.2 here)

pub returns : goal.returns
returns c =
    let late = figure_at c.args.late.now
    in let rs = c.rows-order.result.now
    in let is = c.rows-order.ensures ∙ ap ranked c.ranking.ensures
    in let r = c.loop-k.invariant.5
    in found-lent c.args.self.now c.args.phase late c.rows-rows.result.now rs c.rows-rows.ensures.value is (Ok c.loop-k.found) (
      c.loop-k.invariant.0,
      (λ k h.
          let place = r.each k h
          in subst (λ i. bound_of c.args.phase c.rows-rows.result.now late (front_of rs) i ≡ Some (figure_at c.loop-k.found i)) place.1.1
          (c.loop-k.invariant.2 place.0 (omega (arith, place.1.0, r.long)))),
    )
