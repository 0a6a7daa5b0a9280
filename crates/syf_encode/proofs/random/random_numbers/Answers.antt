use Rattle.std.proofs.Common.{ℕ, ◌+◌, ◌-◌, ◌%◌, ◌<◌, List, length, ap, ◌∙◌, arith}
use Rattle.rand_core.specs.Steps.{first_words}
use Rattle.rand_pcg.specs.Lcg.{Lcg}
use Rattle.rand_pcg.specs.Pcg.{pcg32}
use Rattle.fsm_machine.specs.Encoding.{shuffled}
use Rattle.fsm_machine.specs.MachineOf.{up}
use Rattle.fsm_machine.proofs.Coding.{length_swap}
use Rattle.fsm_machine.proofs.States.{length_up}
use Rattle.syf_encode.proofs.Shuffling.{shuffled_more}
use Rattle.syf_encode.proofs.random.random_numbers.Goals as goal

pub loop-place-init : goal.loop-place-init
loop-place-init c = record {
  within = omega arith;
  each = ap length c.in_ok-numbers.ensures ∙ length_up 0 c.args.count;
  same =
      ap (λ (xs : List ℕ). shuffled c.saturating_sub-place.result (first_words pcg32 c.saturating_sub-place.result c.seed_from_u64-generator.result) xs) c.in_ok-numbers.ensures
      ∙ ap (λ (k : ℕ). shuffled k (first_words pcg32 k c.seed_from_u64-generator.result) (up 0 c.args.count)) c.saturating_sub-place.ensures
      ∙ ap (λ (g : Lcg). shuffled (c.args.count - 1) (first_words pcg32 (c.args.count - 1) g) (up 0 c.args.count)) c.seed_from_u64-generator.ensures;
}

pub loop-place-preserved : goal.loop-place-preserved
loop-place-preserved c =
    let place = c.loop-place.place in
    let numbers = c.loop-place.numbers.items in
    let within = c.loop-place.invariant.within in
    let each = c.loop-place.invariant.each in
    let inside : place < length numbers = omega arith in
    record {
      within = omega arith;
      each = ap length c.swap.ensures.items ∙ length_swap numbers place (c.next_word-word.result % (place + 1)) inside (omega arith) ∙ each;
      same =
          ap (λ (xs : List ℕ). shuffled (place - 1) (first_words pcg32 (place - 1) c.next_word-word.new.self) xs) c.swap.ensures.items
          ∙ shuffled_more pcg32 place (place - 1) c.next_word-word.result c.loop-place.generator c.next_word-word.new.self numbers (omega arith) c.next_word-word.ensures
          ∙ c.loop-place.invariant.same;
    }
