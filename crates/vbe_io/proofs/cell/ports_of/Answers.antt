use Rattle.std.proofs.Common.{Option, arith, sym, ap, subst}
use Rattle.std.specs.Option.{option_copied}
use Rattle.std.proofs.lemmas.List.Sorted.{length_permutation}
use Rattle.machine_core.specs.Machine.{Machine}
use Rattle.vbe_io.specs.Cell.{ArePins}
use Rattle.vbe_io.proofs.cell.ports_of.Goals as goal

pub returns-in_ok-ports-in-None-clause-pins : goal.returns-in_ok-ports-in-None-clause-pins
returns-in_ok-ports-in-None-clause-pins c =
    let moved = c.in_ok-ports-in-None.ensures.moved in
    let same = length_permutation c.args.pins.items c.in_ok-ports-in-None.ports.items moved in
    subst (λ (o : Option Machine). ArePins c.args.pins.items o c.in_ok-ports-in-None.ports.items) (sym (ap option_copied c.in-None.is))
    (moved, c.in_ok-ports-in-None.ensures.ordered, omega (arith, same, c.len.ensures, c.if-len-gt-MOST_PORTS.false))
