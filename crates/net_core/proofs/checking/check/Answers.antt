use Rattle.std.proofs.Common.{List, sym, subst, refl}
use Rattle.std.specs.Prelude.{option_map}
use Rattle.std.specs.Global.{Vec}
use Rattle.std.proofs.Common.{Option}
use Rattle.vlsi_base.specs.declared.name.Name.{Name}
use Rattle.vlsi_base.specs.declared.fault.FaultKind.TheVariants as kind
use Rattle.net_core.specs.Checks.{IsFault, by_ring}
use Rattle.net_core.specs.Links.{IsCycle}
use Rattle.net_core.proofs.checking.check.Goals as goal

pub returns-in-Some-clause-refused : goal.returns-in-Some-clause-refused
returns-in-Some-clause-refused c =
    let found = subst (λ (o : Option (Vec Name)). IsCycle c.args.table.now c.args.netlist.now (option_map (λ (names : Vec Name). names.items) o)) c.in-Some.is c.in_ok-cycle.ensures in
    subst (λ (names : List Name). IsFault c.args.table.now c.args.netlist.now kind.Cycle names) (sym c.new.ensures) (by_ring found.0 c.in_ok-check_classes.ensures.sound found.1 found.2 refl)
