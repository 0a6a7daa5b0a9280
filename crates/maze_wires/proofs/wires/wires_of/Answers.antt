use Rattle.std.proofs.Common.{◌<◌, sym, subst}
use Rattle.std.specs.List.{All}
use Rattle.maze_drawing.specs.Merge.{place_of}
use Rattle.maze_wires.proofs.Whole.{merged_of, different, runs, whole, all_same}
use Rattle.maze_wires.proofs.wires.wires_of.Goals as goal

pub merged-requires : goal.merged-requires
merged-requires c = record {
  ends = subst (All (λ p. place_of p < 4294967295)) (sym c.deref.ensures.value)
      (all_same (λ p. place_of p < 4294967295) c.in_ok-steps.steps.items c.sort_steps.new.steps.items c.in_ok-sort_steps.ensures.same c.in_ok-steps.ensures.short);
}

pub sort_wires-requires : goal.sort_wires-requires
sort_wires-requires c = record {
  different = different _ _ _ _
      (merged_of c.args.tree.now c.in_ok-steps.steps.items c.sort_steps.new.steps.items c.deref.result.now c.in_ok-wires.wires.items
      c.in_ok-steps.ensures.is c.in_ok-sort_steps.ensures.same c.in_ok-sort_steps.ensures.ordered c.deref.ensures.value c.in_ok-wires.ensures);
}

pub returns-clause-runs : goal.returns-clause-runs
returns-clause-runs c =
    runs _ _ _ _
    (merged_of c.args.tree.now c.in_ok-steps.steps.items c.sort_steps.new.steps.items c.deref.result.now c.in_ok-wires.wires.items
    c.in_ok-steps.ensures.is c.in_ok-sort_steps.ensures.same c.in_ok-sort_steps.ensures.ordered c.deref.ensures.value c.in_ok-wires.ensures)
    c.sort_wires.new.wires.items c.in_ok-sort_wires.ensures.same

pub returns-clause-whole : goal.returns-clause-whole
returns-clause-whole c =
    whole _ _ _ _
    (merged_of c.args.tree.now c.in_ok-steps.steps.items c.sort_steps.new.steps.items c.deref.result.now c.in_ok-wires.wires.items
    c.in_ok-steps.ensures.is c.in_ok-sort_steps.ensures.same c.in_ok-sort_steps.ensures.ordered c.deref.ensures.value c.in_ok-wires.ensures)
    c.sort_wires.new.wires.items c.in_ok-sort_wires.ensures.same
