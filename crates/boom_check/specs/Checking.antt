-- Roots of two machines, one by one.
use Rattle.std.specs.Prelude.{◌≡◌, Bool, List}
use Rattle.bool_expr.specs.Expression.{val}
use Rattle.bool_expr.specs.View.{view}
use Rattle.machine_walk.specs.Expansion.{expansion}
use Rattle.machine_roots.specs.declared.sharing.Cone.{Cone}

-- two roots are one function of inputs and registers
abbrev pub AreOneFunction : Cone → Cone → Type 0
AreOneFunction c e = (w : List Bool) → val (expansion c.machine.now (view c.root.now)) w ≡ val (expansion e.machine.now (view e.root.now)) w
