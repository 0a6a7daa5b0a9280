use Rattle.std.proofs.Common.{rules, arith, ap, ◌-◌, ◌≡◌, ◌∙◌, ◌+◌, ◌++◌, ◌∷◌, true, false, take, drop}
use Rattle.source_checks.specs.Symbols.{port_symbols}
use Rattle.fsm_text.specs.Chains.{is_out}
use Rattle.fsm_text.proofs.Chains.{port_at, output_left, output_put}
use Rattle.fsm_text.proofs.counting.outputs.Goals as goal
use Rattle.fsm_text.proofs.counting.outputs.Goals.{then-eq+in_ok-table, else-eq}

pub loop-k-preserved : goal.loop-k-preserved
loop-k-preserved c =
    let gs = c.args.groups.now in
    let g = c.index-groups-k.result in
    let at : drop c.loop-k.k gs ≡ g ∷ drop (c.loop-k.k + 1) gs = port_at gs c.loop-k.k g c.loop-k-test.true c.index-groups-k.is in
    elim c.if-eq.branch [
      | then-eq+in_ok-table w ↦
          let out : is_out g ≡ true = search rules in
          let one : w.in_ok-table.table ≡ c.loop-k.table ++ port_symbols (take 1 (drop c.loop-k.k gs)) =
          let width : (c.loop-k.k + 1) - c.loop-k.k ≡ 1 = omega arith in
          w.in_ok-table.ensures ∙ ap (λ n. c.loop-k.table ++ port_symbols (take n (drop c.loop-k.k gs))) width in
          rw w.table-is (c.loop-k.invariant ∙ output_put gs c.loop-k.k g c.loop-k.table w.in_ok-table.table at out one)
      | else-eq w ↦
          let out : is_out g ≡ false = search rules in
          rw w.table-is (c.loop-k.invariant ∙ output_left gs c.loop-k.k g c.loop-k.table at out)
    ]
