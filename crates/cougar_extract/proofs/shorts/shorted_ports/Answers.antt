use Rattle.std.proofs.Common.{ℕ, ◌<◌, List, All, length, take, sym, subst}
use Rattle.cougar_extract.proofs.ShownSteps.{classes_low}
use Rattle.cougar_extract.proofs.shorts.shorted_ports.Goals as goal

pub least_pair-requires : goal.least_pair-requires
least_pair-requires c =
    let n = c.args.netlist.now in
    let ports = length c.ports.result.now in
    subst (λ (m : ℕ). All (λ x. x < m) (take ports c.classes.result.now)) (sym c.count.ensures)
    (subst (λ (xs : List ℕ). All (λ x. x < n.count) (take ports xs)) (sym c.classes.ensures.classes) (classes_low n ports c.classes.ensures.sound))
