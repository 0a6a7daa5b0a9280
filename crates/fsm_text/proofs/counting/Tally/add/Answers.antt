use Rattle.std.proofs.Common.{rules, ℕ, ◌≡◌, ◌∙◌, ◌+◌, ◌<◌, ◌≤◌, List, map, length, get_or, set, subst, sym, ap, arith, refl}
use Rattle.std.proofs.lemmas.Grind.{get_or_default_zero}
use Rattle.std.proofs.lemmas.List.{length-map}
use Rattle.grammar_theory.specs.declared.limits.TheConstants.{CHAIN}
use Rattle.source_checks.specs.declared.symbol_table.Symbol.{Symbol}
use Rattle.source_checks.specs.Symbols.{all_names}
use Rattle.source_checks.specs.Drivers.{target_names}
use Rattle.source_checks.specs.Formula.{place}
use Rattle.fsm_text.specs.Chains.{IsTally}
use Rattle.fsm_text.proofs.Tally.{Taking, over, full, on, all_taken}
use Rattle.fsm_text.proofs.counting.Tally.add.Goals as goal
use Rattle.fsm_text.proofs.counting.Tally.add.Goals.{then-place-len+else-index-ge-CHAIN, else-place-len}

-- the bit at the index was assigned as often as may be
pub returns-then-index-ge-CHAIN-clause-counted : goal.returns-then-index-ge-CHAIN-clause-counted
returns-then-index-ge-CHAIN-clause-counted c = λ before tally.
    let known = c.args.self.now.numbers in
    let all = target_names known c.args.target.now in
    let counts = c.loop-number.self.times.items in
    let i = c.loop-number.number-index in
    let is : c.deref-number-items.result.now ≡ map (place (all_names known)) all = search rules in
    let within : i < length c.deref-number-items.result.now = search rules in
    let few : get_or c.deref-number-items.result.now i 0 < length counts = omega (arith, c.if-place-len.true, c.len.ensures) in
    let most : CHAIN ≤ get_or counts (get_or c.deref-number-items.result.now i 0) 0 =
    omega (arith, c.if-index-ge-CHAIN.true, c.index.ensures, get_or_default_zero counts (get_or c.deref-number-items.result.now i 0) c.index.result.now few) in
    rw (full known before all i counts c.deref-number-items.result.now is (c.loop-number.invariant.counted before tally) within few most) refl

-- it is counted once more, or isn't counted
pub loop-number-preserved : goal.loop-number-preserved
loop-number-preserved c =
    let known = c.args.self.now.numbers in
    let all = target_names known c.args.target.now in
    let counts = c.loop-number.self.times.items in
    let i = c.loop-number.number-index in
    let is : c.deref-number-items.result.now ≡ map (place (all_names known)) all = search rules in
    let within : i < length c.deref-number-items.result.now = search rules in
    elim c.if-place-len.branch [
      | then-place-len+else-index-ge-CHAIN w ↦
          let few : get_or c.deref-number-items.result.now i 0 < length counts = omega (arith, w.if-place-len.true, c.len.ensures) in
          let less : get_or counts (get_or c.deref-number-items.result.now i 0) 0 < CHAIN =
          omega (arith, w.if-index-ge-CHAIN.false, w.index.ensures, get_or_default_zero counts (get_or c.deref-number-items.result.now i 0) w.index.result.now few) in
          let numbers : c.if-place-len.self.numbers ≡ known = rw w.self-is c.loop-number.invariant.numbers in
          let old : w.index_mut.result.now ≡ get_or counts (get_or c.deref-number-items.result.now i 0) 0 =
          w.index_mut.ensures.value ∙ get_or_default_zero counts (get_or c.deref-number-items.result.now i 0) _ few in
          let times : c.if-place-len.self.times.items ≡ set counts (get_or c.deref-number-items.result.now i 0) (get_or counts (get_or c.deref-number-items.result.now i 0) 0 + 1) = rw (w.self-is, old) refl in
          record {
            numbers = numbers;
            counted = λ before tally. subst (λ (xs : List ℕ). Taking known before all (i + 1) xs) (sym times)
                (on known before all i counts c.deref-number-items.result.now is (c.loop-number.invariant.counted before tally) within few less);
          }
      | else-place-len w ↦
          rw w.self-is (record {
            numbers = c.loop-number.invariant.numbers;
            counted = λ before tally. over known before all i counts c.deref-number-items.result.now is (c.loop-number.invariant.counted before tally) within (λ h. absurd (omega (arith, h, w.if-place-len.false, c.len.ensures)));
          })
    ]

-- all are counted
pub returns-clause-counted : goal.returns-clause-counted
returns-clause-counted c = λ before tally.
    let known = c.args.self.now.numbers in
    let all = target_names known c.args.target.now in
    let is : c.deref-number-items.result.now ≡ map (place (all_names known)) all = search rules in
    let kept = c.loop-number.invariant.counted before tally in
    let count : length c.deref-number-items.result.now ≡ length all = ap (λ (xs : List ℕ). length xs) is ∙ length-map all (place (all_names known)) in
    let ended : length c.deref-number-items.result.now ≤ c.loop-number.number-index = search rules in
    let past : length all ≤ c.loop-number.number-index = omega (arith, count, ended) in
    rw (all_taken known before all c.loop-number.number-index c.loop-number.self.times.items past kept)
    (refl, subst (λ (ks : List Symbol). IsTally ks c.loop-number.self.times.items kept.so_far) (sym c.loop-number.invariant.numbers) kept.tally)
