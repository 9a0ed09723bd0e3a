use Rattle.std.proofs.Common.{◌≡◌, ℕ, zero, suc, ◌+◌, ◌*◌, ◌<◌, ◌≤◌, List, [], ◌∷◌, ◌++◌, sym, refl, ap, ◌∙◌, inl, inr, mul-le-mul_right, arith}
use Rattle.std.proofs.lemmas.Bool.{cases_lt}
use Rattle.std.proofs.lemmas.Bool.Decides.{eqb_tells}
use Rattle.rows.specs.Rows.{Valid}
use Rattle.rows.specs.declared.row.Row.{Row}
use Rattle.rating.specs.Bounds.{ceiling_of, cost_of, raised_to, source_of}
use Rattle.rating.specs.Curves.{LeastAt, LeastSolution}
use Rattle.rating.specs.Demands.{demanded, sources_of}
use Rattle.rating.specs.Quotients.{ceil}
use Rattle.rating.specs.Sources.{asked, asked-rises, asks}
use Rattle.rating.specs.declared.demand.Demand.{Demand}
use Rattle.rating.specs.declared.demand.Source.{Source}
use Rattle.rating.specs.declared.verdict.Phase.{Phase}
use Rattle.rating.specs.declared.verdict.Phase.TheVariants.{Memory, Processor}
use Rattle.rating.proofs.Demands.{asked-append}
use Rattle.rating.proofs.Quotients.{ceil-law}

-- b is a base of some sources: in any length but 0 they ask for more than the length, or for b at least
pub record Base (sources : List Source) (b : ℕ) : Type 0 where
  pub below : (v : ℕ) → 1 ≤ v → v < b → v < asked sources v
  pub above : (v : ℕ) → 1 ≤ v → b ≤ v → b ≤ asked sources v

-- a curve is above each length that is below its least solution: one at or below it would bring down a smaller solution
below-least : (f : ℕ → ℕ) → ((v w : ℕ) → v ≤ w → f v ≤ f w) → (r : ℕ) → LeastSolution f r → (fuel v : ℕ) → v < fuel → v < r → v < f v
below-least f rises r l zero v small h = absurd (omega arith)
below-least f rises r l (suc fuel) v small h =
    elim (cases_lt v (f v)) [
      | inl more ↦ more
      | inr less ↦
          elim (eqb_tells (f v) v) [
            | inl same ↦ absurd (l.first v h same.1)
            | inr other ↦
                (let next : f v < v = omega (arith, other.1)
                in let falls = rises (f v) v (omega arith)
                in let up = below-least f rises r l fuel (f v) (omega arith) (omega arith)
                in absurd (omega arith))
          ]
    ]

-- in any length but 0 a source asks for its cost at least
asks-once : (s : Source) (v : ℕ) → 1 ≤ s.period → 1 ≤ v → s.cost ≤ asks s v
asks-once s v apart some =
    let law = ceil-law (v + s.delay) s.period apart
    in let one : 1 ≤ ceil (v + s.delay) s.period = some_piece (ceil (v + s.delay) s.period) law.enough
    in let more = mul-le-mul_right s.cost one
    in omega (arith, more)
  where
    some_piece : (q : ℕ) → v + s.delay ≤ q * s.period → 1 ≤ q
    some_piece zero h = absurd (omega (arith, h, some))
    some_piece (suc q) h = omega arith

-- The base once a row with the bound w has joined the sources.
module _ (sources : List Source) (s : Source) (own b w : ℕ) (cost : s.cost ≡ own) (apart : 1 ≤ s.period) (base : Base sources b)
    (least : LeastSolution (λ v. own + asked sources v) w) where
  more : (v : ℕ) → asked (sources ++ s ∷ []) v ≡ asked sources v + asks s v
  unfolding asked
  more v = let e = asked-append sources (s ∷ []) v in omega (arith, e)

  with_row : (v : ℕ) → 1 ≤ v → own + asked sources v ≤ asked (sources ++ s ∷ []) v
  with_row v h = omega (arith, more v, asks-once s v apart h, cost)

  joined : Base (sources ++ s ∷ []) w
  joined = record {
    below = λ v a h.
        omega (
          arith,
          with_row v a,
          below-least (λ x. own + asked sources x) (λ x y l. omega (arith, asked-rises sources x y l)) w least (suc v) v (omega arith) h,
        );
    above = λ v a h. omega (arith, with_row v a, least.solves, asked-rises sources w v h);
  }

  kept : Base (sources ++ s ∷ []) b
  kept = record {
    below = λ v a h. omega (arith, more v, base.below v a h);
    above = λ v a h. omega (arith, more v, base.above v a h);
  }

  pub base_more : Base (sources ++ s ∷ []) (raised_to own b w)
  base_more = elim (eqb_tells own 0) [ inl none ↦ rw none.0 kept | inr some ↦ rw some.0 joined ]

-- The same over a demand whose own cost and sources are known.
module _ (d : Demand) (sources : List Source) (own b : ℕ) (costs : d.own ≡ own) (has : sources_of d ≡ sources) (base : Base sources b) where
  work_is : (v : ℕ) → (demanded d).work v ≡ own + asked sources v
  work_is v = ap (λ x. x + asked (sources_of d) v) costs ∙ ap (λ xs. own + asked xs v) has

  pub demand_more : (s : Source) (top w raised : ℕ) → s.cost ≡ own → 1 ≤ s.period → LeastAt (demanded d).work top w → raised ≡ raised_to own b w
      → Base (sources ++ s ∷ []) raised
  demand_more s top w raised cost apart least is =
      rw is
      (base_more sources s own b w cost apart base record {
        solves = sym (work_is w) ∙ least.solves;
        first = λ v h e. least.first v h (work_is v ∙ e);
      })

-- figures stay within the limit
pub cost_small : (phase : Phase) (row : Row) → Valid row → cost_of phase row ≤ 1000000
cost_small Memory row v = omega (arith, v.fits, v.in_time, v.short_period)
cost_small Processor row v = omega (arith, v.fits, v.in_time, v.short_period)

pub ceiling_small : (phase : Phase) (row : Row) (late : ℕ) → Valid row → ceiling_of phase row late ≤ 1000000
ceiling_small Memory row late v = omega (arith, v.in_time, v.short_period)
ceiling_small Processor row late v = omega (arith, v.in_time, v.short_period)

pub raised_small : (own b w raised : ℕ) → raised ≡ raised_to own b w → b ≤ 1000000 → w ≤ 1000000 → raised ≤ 1000000
raised_small own b w raised is hb hw = rw is (elim (eqb_tells own 0) [ inl none ↦ rw none.0 hb | inr some ↦ rw some.0 hw ])

pub source_cost : (phase : Phase) (row : Row) (late : ℕ) → (source_of phase row late).cost ≡ cost_of phase row
source_cost Memory row late = refl
source_cost Processor row late = refl
