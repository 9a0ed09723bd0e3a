use Rattle.std.proofs.Common.{◌≡◌, ℕ, List, ◌++◌, length, vec_items, string_bytes, Result, sym, ap, ◌∙◌, subst}
use Rattle.layers.specs.Gates.{gate_view}
use Rattle.lists.specs.ListRecords.{checked_list, sound_count}
use Rattle.lists.specs.Lists.{ListMade, listing}
use Rattle.lists.specs.declared.list.List.{List as Listed}
use Rattle.lists.specs.declared.records.fault.CheckFault.{CheckFault}
use Rattle.arrivals.specs.Takings.{Journal}
use Rattle.arrivals.specs.Texts.{counts_text, lines_text, word_text}
use Rattle.arrivals.specs.declared.takings.Taking.{Taking}
use Rattle.arrivals.proofs.Lines.{joined}
use Rattle.arrivals.proofs.report.list_arrivals.Goals as goal

pub returns : goal.returns
returns c =
    let bs = c.args.bytes.now
    in let gate = c.gate_over-gate.result
    in let takings = c.in_ok-takings.takings
    in let start = string_bytes c.new-text.result
    in let one = string_bytes c.put_word.new.text
    in let two = string_bytes c.put_takings.new.text
    in let count : c.count-count.result ≡ sound_count bs = c.count-count.ensures.value ∙ ap sound_count c.new-list.ensures.bytes
    in let taken : c.len.result ≡ length (vec_items takings) = c.len.ensures ∙ takings.ok.0
    in let word : one ≡ start ++ word_text (checked_list bs) =
    c.in_ok-put_word.ensures ∙ ap (λ (r : Result ℕ CheckFault). start ++ word_text r) c.check_list.ensures.value
    in let lines : two ≡ one ++ lines_text (vec_items takings) =
    c.in_ok-put_takings.ensures ∙ ap (λ (ts : List Taking). one ++ lines_text ts) c.deref.ensures.value
    in let counts : string_bytes c.put_counts.new.text ≡ two ++ counts_text (length (vec_items takings)) (sound_count bs) =
    c.in_ok-put_counts.ensures ∙ ap (λ (n : ℕ). two ++ counts_text n c.count-count.result) taken
    ∙ ap (λ (n : ℕ). two ++ counts_text (length (vec_items takings)) n) count
    in record {
      gate = gate;
      list = subst (λ (x : Listed). ListMade bs x) (sym c.gate_over-gate.ensures.below) c.new-list.ensures;
      spacings = c.gate_over-gate.ensures.spacings;
      takings = vec_items takings;
      after = gate_view listing c.take_steps.new.feed;
      journal = subst (λ (n : ℕ). Journal n (gate_view listing gate) (vec_items takings) (gate_view listing c.take_steps.new.feed)) count c.in_ok-takings.ensures;
      shows = joined (word_text (checked_list bs)) (lines_text (vec_items takings)) (counts_text (length (vec_items takings)) (sound_count bs)) start one two _
          c.new-text.ensures.bytes word lines counts;
    }
