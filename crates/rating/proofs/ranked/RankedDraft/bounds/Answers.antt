use Rattle.std.proofs.Common.{◌≡◌, length, Some, sym, ◌∙◌, subst, rules}
use Rattle.rows.specs.Drafts.{rows_of}
use Rattle.rating.specs.Bounds.{bound_of, figure_at, memory_bound, processor_bound, verdict_of}
use Rattle.rating.specs.Ranked.{ranked}
use Rattle.rating.specs.Rankings.{front_of}
use Rattle.rating.specs.declared.rating.Bounds.{Bounds}
use Rattle.rating.specs.declared.verdict.Phase.TheVariants.{Memory, Processor}
use Rattle.rating.specs.declared.verdict.Verdict.TheVariants.{Late}
use Rattle.rating.proofs.Below.{below-permutes}
use Rattle.rating.proofs.Exact.{accepted_by, late-at_processor, processor_late}
use Rattle.rating.proofs.Firsts.{first-same}
use Rattle.rating.proofs.Rankings.{permutes-rows}
use Rattle.rating.proofs.ranked.RankedDraft.bounds.Goals as goal

pub returns-in_err-processor-clause-rated : goal.returns-in_err-processor-clause-rated
returns-in_err-processor-clause-rated c =
    let d = c.args.self.now
    in let rows = rows_of d.draft
    in let ps = permutes-rows d Processor
    in let m = c.in_ok-memory.ensures
    in let p = c.in_err-processor.ensures
    in let late = processor_late rows (ranked d.memory) (ranked d.processor) ps (figure_at c.in_ok-memory.memory) m.1
    in let first = sym (first-same (length rows) (bound_of Processor rows (figure_at c.in_ok-memory.memory) (front_of (ranked d.processor)))
    (processor_bound rows (ranked d.memory) (ranked d.processor)) (ranked d.processor) (below-permutes (length rows) (ranked d.processor) ps) late)
    ∙ p.1
    in let is : verdict_of rows (ranked d.memory) (ranked d.processor) ≡ Late Processor c.in_err-processor.field-0.0.row =
    late-at_processor rows (ranked d.memory) (ranked d.processor) (permutes-rows d Memory) (figure_at c.in_ok-memory.memory) m.1 _ first
    in search rules

pub returns-clause-rated : goal.returns-clause-rated
returns-clause-rated c =
    let d = c.args.self.now
    in let rows = rows_of d.draft
    in let ps = permutes-rows d Processor
    in let m = c.in_ok-memory.ensures
    in let p = c.in_ok-processor.ensures
    in let late = processor_late rows (ranked d.memory) (ranked d.processor) ps (figure_at c.in_ok-memory.memory) m.1
    in sym (accepted_by rows (ranked d.memory) (ranked d.processor) (permutes-rows d Memory) ps (figure_at c.in_ok-memory.memory) (figure_at c.in_ok-processor.processor) m.1
    (λ k h. sym (late k h) ∙ p.1 k h))

pub returns-clause-known : goal.returns-clause-known
returns-clause-known c = λ b e k h.
    let d = c.args.self.now
    in let rows = rows_of d.draft
    in let m = c.in_ok-memory.ensures
    in let p = c.in_ok-processor.ensures
    in let late = processor_late rows (ranked d.memory) (ranked d.processor) (permutes-rows d Processor) (figure_at c.in_ok-memory.memory) m.1
    in let same : ◌≡◌ {A = Bounds} (record { memory = c.in_ok-memory.memory; processor = c.in_ok-processor.processor }) b = cc
    in subst
    (λ (b : Bounds). (memory_bound rows (ranked d.memory) k ≡ Some (figure_at b.memory k)) × (processor_bound rows (ranked d.memory) (ranked d.processor) k ≡ Some (figure_at b.processor k)))
    same (m.1 k h, sym (late k h) ∙ p.1 k h)
