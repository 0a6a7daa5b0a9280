-- A machine's parts, without where they lie in memory.
use Rattle.std.specs.Prelude.{ℕ, List, map, Option}
use Rattle.vlsi_base.specs.declared.name.Name.{Name}
use Rattle.vlsi_base.specs.declared.name.Port.{Port}
use Rattle.bool_expr.specs.View.{view}
use Rattle.machine_core.specs.declared.equation.Equation.{Equation as EquationParts}
use Rattle.machine_core.specs.declared.equation.Register.{Register as RegisterParts}
use Rattle.machine_core.specs.Machine.{Machine, Equation, Register}

abbrev pub equation_view : EquationParts → Equation
equation_view e = record { name = e.name; expr = view e.expr }

abbrev pub register_view : RegisterParts → Register
register_view r = record { name = r.name; next = view r.next; enable = view r.enable }

abbrev pub machine_of : List ℕ → List Port → Option Name → List Name → List EquationParts → List RegisterParts → Machine
machine_of name ports clock vars equations registers = record {
  name = name;
  ports = ports;
  clock = clock;
  vars = vars;
  equations = map equation_view equations;
  registers = map register_view registers;
}
