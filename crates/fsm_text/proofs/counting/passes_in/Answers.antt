use Rattle.std.proofs.Common.{rules, ◌≡◌, ◌∙◌, ◌-◌, ◌≤◌, ◌<◌, List, [], None, Some, true, false, length, take, drop, sym, subst, ap}
use Rattle.vlsi_base.specs.declared.name.Name.{Name}
use Rattle.source_checks.specs.declared.symbol_table.Symbol.{Symbol}
use Rattle.fsm_text.specs.Chains.{assigned_here, counted_bits, taken, overfull, passes_before, IsTally}
use Rattle.fsm_text.proofs.Chains.{Counting, behind_first, not_taken, is_taken, counting_passes, counting_takes, counting_stops, counting_ends}
use Rattle.fsm_text.proofs.counting.passes_in.Goals as goal
use Rattle.fsm_text.proofs.counting.passes_in.Goals.{in-Some+in_ok-add+else-not-branch, in_default}

-- this assignment is one too many
pub returns-then-not-branch : goal.returns-then-not-branch
returns-then-not-branch c =
    let known = c.loop-rest.tally.numbers in
    let kept = c.loop-rest.invariant.1 in
    let some : assigned_here c.loop-rest.rest.now ≡ Some c.in-Some.target = search rules in
    let more : c.args.left < length c.loop-rest.rest.now = search rules in
    let part : counted_bits known c.declared_part-target.result ≡ counted_bits known c.in-Some.target = search rules in
    let took : taken kept.0 (counted_bits known c.in-Some.target) ≡ None =
    ap (taken kept.0) (sym part) ∙ not_taken (taken kept.0 (counted_bits known c.declared_part-target.result)) c.in_ok-add.field-0 (λ after. IsTally c.add.new.self.numbers c.add.new.self.times.items after) c.if-not-branch.true (c.in_ok-add.ensures.counted kept.0 kept.1) in
    subst (λ (ks : List Symbol). true ≡ passes_before c.args.left (overfull ks [] c.args.tokens.now)) c.loop-rest.invariant.0
    (counting_stops known c.args.left kept.0 c.loop-rest.rest.now c.args.tokens.now c.in-Some.target kept.2 some took more)

pub loop-rest-preserved : goal.loop-rest-preserved
loop-rest-preserved c =
    let known = c.loop-rest.tally.numbers in
    let kept = c.loop-rest.invariant.1 in
    let more : c.args.left < length c.loop-rest.rest.now = search rules in
    elim c.match-branch-2.branch [
      | in-Some+in_ok-add+else-not-branch w ↦
          let some : assigned_here c.loop-rest.rest.now ≡ Some w.in-Some.target = search rules in
          let same : w.add.new.self.numbers ≡ known = search rules in
          let part : counted_bits known w.declared_part-target.result ≡ counted_bits known w.in-Some.target = search rules in
          let next = is_taken (taken kept.0 (counted_bits known w.declared_part-target.result)) w.in_ok-add.field-0 (λ after. IsTally w.add.new.self.numbers w.add.new.self.times.items after) w.if-not-branch.false (w.in_ok-add.ensures.counted kept.0 kept.1) in
          let counting = counting_takes known c.args.left kept.0 next.0 c.loop-rest.rest.now c.args.tokens.now w.in-Some.target kept.2 some (ap (taken kept.0) (sym part) ∙ next.1) more in
          rw (w.tally-is, behind_first c.loop-rest.rest.now)
          (same ∙ c.loop-rest.invariant.0, (next.0, next.2, subst (λ (ks : List Symbol). Counting ks c.args.left next.0 (drop 1 c.loop-rest.rest.now) c.args.tokens.now) (sym same) counting))
      | in_default w ↦
          let none : assigned_here c.loop-rest.rest.now ≡ None = search rules in
          rw (w.tally-is, behind_first c.loop-rest.rest.now)
          (c.loop-rest.invariant.0, (kept.0, kept.1, counting_passes known c.args.left kept.0 c.loop-rest.rest.now c.args.tokens.now kept.2 none more))
    ]

pub returns : goal.returns
returns c =
    let known = c.loop-rest.tally.numbers in
    let kept = c.loop-rest.invariant.1 in
    let few : length c.loop-rest.rest.now ≤ c.args.left = search rules in
    subst (λ (ks : List Symbol). false ≡ passes_before c.args.left (overfull ks [] c.args.tokens.now)) c.loop-rest.invariant.0
    (counting_ends known c.args.left kept.0 c.loop-rest.rest.now c.args.tokens.now kept.2 few)
