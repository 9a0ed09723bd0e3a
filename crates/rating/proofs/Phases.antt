use Rattle.std.proofs.Common.{◌≡◌, ℕ, ◌+◌, ◌*◌, ◌<◌, ◌≤◌, List, [], ◌∷◌, ◌++◌, map, length, get_or, take, set, is_some, Some, None, Result, sym, refl, ap, ◌∙◌, add-zero, arith, below_more}
use Rattle.std.proofs.lemmas.List.{get_or-set_other, get_or-set_same, map_more}
use Rattle.rows.specs.Rows.{Valid}
use Rattle.rows.specs.declared.row.Row.{Row}
use Rattle.rating.specs.Bounds.{Found, bound_of, ceiling_of, cost_of, figure_at, first_none, memory_asked, processor_asked, row_of, source_of, work_of}
use Rattle.rating.specs.Curves.{least_within}
use Rattle.rating.specs.Demands.{demanded, sources_of}
use Rattle.rating.specs.Quotients.{ceil}
use Rattle.rating.specs.Rankings.{Permutes, front_of, sum_over}
use Rattle.rating.specs.Sources.{Sound, asked}
use Rattle.rating.specs.Ratings.{ranking_of}
use Rattle.rating.specs.Ranked.{ranked}
use Rattle.rows.specs.Drafts.{rows_of}
use Rattle.rating.specs.declared.ranked.RankedDraft.{RankedDraft}
use Rattle.rating.specs.declared.verdict.NoBound.{NoBound}
use Rattle.rating.specs.declared.demand.Demand.{Demand}
use Rattle.rating.specs.declared.demand.Source.{Source}
use Rattle.rating.specs.declared.verdict.Phase.{Phase}
use Rattle.rating.specs.declared.verdict.Phase.TheVariants.{Memory, Processor}
use Rattle.rating.proofs.Curves.{least_within-same}
use Rattle.rating.proofs.Firsts.{first-none_at}
use Rattle.rating.proofs.Fronts.{front_at}

-- what row i asks of later rows
abbrev pub source_for : Phase → List Row → (ℕ → ℕ) → ℕ → Source
source_for phase rows late i = source_of phase (row_of rows i) (late i)

abbrev pub sources_for : Phase → List Row → (ℕ → ℕ) → List ℕ → List Source
sources_for phase rows late ks = map (source_for phase rows late) ks

-- what the sources of some rows ask is the sum of what these rows ask
asked-memory : (rows : List Row) (late : ℕ → ℕ) (ks : List ℕ) (w : ℕ) → asked (sources_for Memory rows late ks) w ≡ sum_over (memory_asked rows w) ks
unfolding asked sum_over
asked-memory rows late [] w = refl
asked-memory rows late (k ∷ ks) w =
    let here : ceil (w + 0) (row_of rows k).period * (row_of rows k).memory ≡ memory_asked rows w k = ap (λ v. ceil v (row_of rows k).period * (row_of rows k).memory) (add-zero w)
    in ap (λ x. x + asked (sources_for Memory rows late ks) w) here ∙ ap (λ x. memory_asked rows w k + x) (asked-memory rows late ks w)

asked-processor : (rows : List Row) (late : ℕ → ℕ) (ks : List ℕ) (w : ℕ) → asked (sources_for Processor rows late ks) w ≡ sum_over (processor_asked rows late w) ks
unfolding asked sum_over
asked-processor rows late [] w = refl
asked-processor rows late (k ∷ ks) w = ap (λ x. processor_asked rows late w k + x) (asked-processor rows late ks w)

pub work_asked : (phase : Phase) (rows : List Row) (late : ℕ → ℕ) (ks : List ℕ) (k w : ℕ)
    → cost_of phase (row_of rows k) + asked (sources_for phase rows late ks) w ≡ work_of phase rows late ks k w
work_asked Memory rows late ks k w = ap (λ x. (row_of rows k).memory + x) (asked-memory rows late ks w)
work_asked Processor rows late ks k w = ap (λ x. (row_of rows k).compute + x) (asked-processor rows late ks w)

-- a valid row's source is one that a demand takes up
pub source_sound : (phase : Phase) (row : Row) (late : ℕ) → Valid row → Sound (source_of phase row late)
source_sound Memory row late v = record { cheap = omega (arith, v.fits, v.in_time, v.short_period); apart = v.some_period }
source_sound Processor row late v = record { cheap = omega (arith, v.fits, v.in_time, v.short_period); apart = v.some_period }

-- a turn of a loop over a ranking's numbers: the place, and the row that the number there names
pub record Turn (rows : List Row) (rs : List ℕ) (p : ℕ) : Type 0 where
  pub permutes : Permutes (length rows) rs
  pub place : p < length rows
  pub within : get_or rs p 0 < length rows

pub turn : (rows : List Row) (rs : List ℕ) (p : ℕ) → Permutes (length rows) rs → p < length rs → Turn rows rs p
turn rows rs p each h =
    let place : p < length rows = omega (arith, each.long) in record { permutes = each; place = place; within = each.number p place }

-- One turn, where the rows passed are the demand's sources.
module _ (phase : Phase) (rows : List Row) (late : ℕ → ℕ) (rs : List ℕ) (p : ℕ) (t : Turn rows rs p) where
  once : (q s : ℕ) → q < s → s < length rs → get_or rs q 0 ≡ get_or rs s 0 → ⊥
  once q s a b = t.permutes.once q s a (omega (arith, t.permutes.long))

  front : front_of rs (get_or rs p 0) ≡ take p rs
  front = front_at rs once p (omega (arith, t.place, t.permutes.long))

  -- the search answers the bound of the row there
  pub bound_here : (d : Demand) → d.own ≡ cost_of phase (row_of rows (get_or rs p 0)) → sources_of d ≡ sources_for phase rows late (take p rs)
      → least_within (demanded d).work (ceiling_of phase (row_of rows (get_or rs p 0)) (late (get_or rs p 0))) ≡ bound_of phase rows late (front_of rs) (get_or rs p 0)
  bound_here d own sources =
      least_within-same (demanded d).work (work_of phase rows late (front_of rs (get_or rs p 0)) (get_or rs p 0)) _
      (λ w.
      ap (λ x. x + asked (sources_of d) w) own ∙ ap (λ xs. cost_of phase (row_of rows (get_or rs p 0)) + asked xs w) sources ∙ work_asked phase rows late (take p rs) (get_or rs p 0) w
      ∙ ap (λ (xs : List ℕ). work_of phase rows late xs (get_or rs p 0) w) (sym front))

  pub sources_more : sources_for phase rows late (take p rs) ++ source_for phase rows late (get_or rs p 0) ∷ [] ≡ sources_for phase rows late (take (p + 1) rs)
  sources_more = sym (map_more (source_for phase rows late) rs p 0 (omega (arith, t.place, t.permutes.long)))

  -- the bounds found stay, and one comes to them
  pub bounds_more : (found : List ℕ) (w : ℕ) → length found ≡ 32 → length rows ≤ 32
      → ((q : ℕ) → q < p → bound_of phase rows late (front_of rs) (get_or rs q 0) ≡ Some (figure_at found (get_or rs q 0)))
      → bound_of phase rows late (front_of rs) (get_or rs p 0) ≡ Some w
      → (q : ℕ) → q < p + 1 → bound_of phase rows late (front_of rs) (get_or rs q 0) ≡ Some (figure_at (set found (get_or rs p 0) w) (get_or rs q 0))
  bounds_more found w full few before here =
      below_more (λ q. bound_of phase rows late (front_of rs) (get_or rs q 0) ≡ Some (figure_at (set found (get_or rs p 0) w) (get_or rs q 0))) p
      (λ q g.
      before q g ∙ ap Some (sym (get_or-set_other found (get_or rs p 0) (get_or rs q 0) w 0 (t.permutes.once q p g t.place))))
      (here ∙ ap Some (sym (get_or-set_same found (get_or rs p 0) w 0 (omega (arith, t.within)))))

  -- the row there has no bound, and is the first without
  pub none_here : (found : List ℕ) → ((q : ℕ) → q < p → bound_of phase rows late (front_of rs) (get_or rs q 0) ≡ Some (figure_at found (get_or rs q 0)))
      → bound_of phase rows late (front_of rs) (get_or rs p 0) ≡ None → first_none (bound_of phase rows late (front_of rs)) rs ≡ Some (get_or rs p 0)
  none_here found before here =
      first-none_at (bound_of phase rows late (front_of rs)) rs p (omega (arith, t.place, t.permutes.long)) (λ q g. ap is_some (before q g))
      here

-- what is found of rows and a ranking that go by other names is found of a ranked draft
pub found-lent : (d : RankedDraft) (phase : Phase) (late : ℕ → ℕ) (rows : List Row) (rs : List ℕ) → rows ≡ rows_of d.draft → rs ≡ ranked (ranking_of d phase)
    → (r : Result (List ℕ) NoBound) → Found phase rows late rs r → Found phase (rows_of d.draft) late (ranked (ranking_of d phase)) r
found-lent d phase late rows rs e f r h = rw (sym e, sym f) h
