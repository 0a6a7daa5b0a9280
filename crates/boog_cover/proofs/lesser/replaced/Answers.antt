use Rattle.std.proofs.Common.{List, Option, sym, subst, ◌∙◌}
use Rattle.cell_match.specs.declared.gate.Gate.{Gate}
use Rattle.boog_cover.specs.Lesser.{AreWhole}
use Rattle.boog_cover.proofs.Counting.{written}
use Rattle.boog_cover.proofs.lesser.replaced.Goals as goal

pub returns : goal.returns
returns c = λ nodes whole.
    let long = c.replace_all.auto.gates ∙ c.deref_mut.ensures.len in
    let is = written c.replace_all.new.gates c.args.gates.items c.args.gates.len long in
    subst (λ (gs : List (Option Gate)). AreWhole c.args.cells.now c.args.held nodes gs) (sym is)
    (c.replace_all.ensures nodes (subst (λ (gs : List (Option Gate)). AreWhole c.args.cells.now c.args.held nodes gs) (sym c.deref_mut.ensures.value) whole))
