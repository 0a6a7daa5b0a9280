-- The size of a machine.
use Rattle.std.specs.Prelude.{ℕ, ◌+◌, ◌*◌, length, sum_by}
use Rattle.bool_expr.specs.Expression.{size_of}
use Rattle.machine_core.specs.Machine.{Machine, outputs}

-- all expressions together, 2 for each output bit, and 5 for each register bit
abbrev pub machine_size : Machine → ℕ
machine_size m =
    sum_by (λ e. size_of e.expr) m.equations
    + sum_by (λ r. size_of r.next + size_of r.enable) m.registers
    + 2 * length (outputs m)
    + 5 * length m.registers
