use Rattle.std.proofs.Common.{◌≡◌, ℕ, ◌+◌, ◌<◌, ◌≤◌, true, false, List, length, is_some, Some, None, Option, unwrap_or, sym, refl, ap, subst, arith}
use Rattle.rows.specs.Drafts.{rows_of}
use Rattle.rows.specs.declared.row.Row.{Row}
use Rattle.rating.specs.Bounds.{first_none, is_accepted, judged, memory_bound, memory_figure_of, processor_bound, processor_figure_of, row_of, verdict_of}
use Rattle.rating.specs.Found.{verdict_found}
use Rattle.rating.specs.Ranked.{ranked}
use Rattle.rating.specs.Ratings.{LateRow}
use Rattle.rating.specs.Rankings.{Permutes}
use Rattle.rating.specs.declared.rating.Analysis.{Analysis}
use Rattle.rating.specs.declared.verdict.Phase.TheVariants.{Memory, Processor}
use Rattle.rating.proofs.Curves.{least_within-some}
use Rattle.rating.proofs.Firsts.{first_below, none_first, some-value}
use Rattle.rating.proofs.Rankings.{permutes-rows}

-- an accepted verdict leaves no row out
pub accepted_none : (a b : Option ℕ) → is_accepted (judged a b) ≡ true → (a ≡ None) × (b ≡ None)
accepted_none None None e = (refl, refl)
accepted_none None (Some k) e = absurd (let z : false ≡ true = e in search arith)
accepted_none (Some k) b e = absurd (let z : false ≡ true = e in search arith)

-- what two rankings of an accepted table bound
pub record Bounded (rows : List Row) (ms ps : List ℕ) (k : ℕ) : Type 0 where
  pub memory : memory_bound rows ms k ≡ Some (memory_figure_of rows ms k)
  pub processor : processor_bound rows ms ps k ≡ Some (processor_figure_of rows ms ps k)

-- where the rows of a ranking all have a value, each row has
pub each-some : (bound : ℕ → Option ℕ) (n : ℕ) (rs : List ℕ) → Permutes n rs → first_none bound rs ≡ None → (k : ℕ) → k < n → bound k ≡ Some (unwrap_or (bound k) 0)
each-some bound n rs r none k h =
    let z = r.each k h
    in some-value (bound k) (subst (λ i. is_some (bound i) ≡ true) z.1.1 (none_first bound rs none z.0 (omega (arith, r.long, z.1.0))))

pub all-bounded : (rows : List Row) (ms ps : List ℕ) → Permutes (length rows) ms → Permutes (length rows) ps → is_accepted (verdict_of rows ms ps) ≡ true
    → (k : ℕ) → k < length rows → Bounded rows ms ps k
all-bounded rows ms ps am ap e k h =
    let nones = accepted_none (first_none (memory_bound rows ms) ms) (first_none (processor_bound rows ms ps) ps) e
    in record {
      memory = each-some (memory_bound rows ms) (length rows) ms am nones.0 k h;
      processor = each-some (processor_bound rows ms ps) (length rows) ps ap nones.1 k h;
    }

-- the two bounds of a row are together within its deadline
pub within-deadline : (rows : List Row) (ms ps : List ℕ) (k m p : ℕ) → memory_bound rows ms k ≡ Some m → processor_bound rows ms ps k ≡ Some p → m + p ≤ (row_of rows k).deadline
within-deadline rows ms ps k m p e f =
    omega (arith, (least_within-some _ _ _ e).within, (least_within-some _ _ _ f).within, ap (λ o. unwrap_or o 0) e)

-- a verdict over numbers of rows names a row
pub judged-row : (rows : List Row) (a b : Option ℕ) → ((k : ℕ) → a ≡ Some k → k < length rows) → ((k : ℕ) → b ≡ Some k → k < length rows) → LateRow rows (judged a b)
judged-row rows (Some k) b first second = first k refl
judged-row rows None (Some k) first second = second k refl
judged-row rows None None first second = tt

pub late-row : (x : Analysis) → LateRow (rows_of x.ranked.draft) (verdict_found x.found)
late-row x =
    let ms = permutes-rows x.ranked Memory
    in let ps = permutes-rows x.ranked Processor
    in subst (LateRow (rows_of x.ranked.draft)) (sym x.rated)
    (judged-row (rows_of x.ranked.draft) _ _
    (first_below _ (ranked x.ranked.memory) _ (λ p h. ms.number p (omega (arith, ms.long))))
    (first_below _ (ranked x.ranked.processor) _ (λ p h. ps.number p (omega (arith, ps.long)))))
