use Rattle.std.proofs.Common.{◌++◌, map}
use Rattle.vlsi_base.specs.Names.{scalar}
use Rattle.vbe_print.specs.Written.{renamed}
use Rattle.vbe_print.proofs.Naming.{keeps, AreNamed}
use Rattle.vbe_print.proofs.names.push_renamed.Given as goal

abbrev pub invariant-loop-equation : goal.invariant-loop-equation
invariant-loop-equation l =
    AreNamed l.outputs l.equations l.signals l.equation-index l.next l.vars.items
    (l.fn.vars.items ++ renamed (keeps l.outputs) (map (λ e. e.name) l.equations) (map scalar l.signals))
