use Rattle.std.proofs.Common.{◌<◌, ◌∙◌, List, ℕ, sym, subst}
use Rattle.std.specs.List.{All}
use Rattle.net_core.proofs.Namings.{turn_below}
use Rattle.loon_loads.proofs.Marking.{each_marked}
use Rattle.loon_loads.proofs.loads.net_loads.Goals as goal

pub marked_loads-requires-clause-each : goal.marked_loads-requires-clause-each
marked_loads-requires-clause-each c =
    each_marked c.args.library.now c.args.netlist.now c.deref.result.now c.classes.result.now c.classes.ensures.sound (c.deref.ensures.value ∙ c.in_ok-marks.ensures) c.classes.ensures.classes

pub marked_loads-requires-clause-inside : goal.marked_loads-requires-clause-inside
marked_loads-requires-clause-inside c =
    subst (λ (m : ℕ). All (λ class. class < m) c.classes.result.now) (sym c.count.ensures)
    (subst (λ (cs : List ℕ). All (λ class. class < c.args.netlist.now.count) cs) (sym c.classes.ensures.classes)
    (turn_below 0 c.args.netlist.now.count c.args.netlist.now.classes c.classes.ensures.sound.turns))
