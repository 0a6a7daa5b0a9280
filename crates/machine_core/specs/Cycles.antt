-- What a machine does in a cycle, and its runs.
use Rattle.std.specs.Prelude.{◌≡◌, Bool, List, length, map, All, if◌then◌else◌}
use Rattle.bool_expr.specs.Expression.{val}
use Rattle.machine_core.specs.Named.{value_at, values_at}
use Rattle.machine_core.specs.Machine.{Machine, inputs, outputs, register_names}
use Rattle.machine_core.specs.Runs.{Run}

-- w is a valuation of the machine's names, from the contents s of its registers and under the input vector i
pub record Settles (m : Machine) (s i w : List Bool) : Type 0 where
  pub each : length w ≡ length m.vars
  pub inputs : values_at m.vars w (inputs m) ≡ i
  pub registers : values_at m.vars w (register_names m) ≡ s
  pub equations : All (λ e. value_at m.vars w e.name ≡ val e.expr w) m.equations

-- the outputs that are observed
abbrev pub outs : Machine → List Bool → List Bool
outs m w = values_at m.vars w (outputs m)

-- what the registers hold after the clock's rise
abbrev pub next : Machine → List Bool → List Bool
next m w = map (λ r. if val r.enable w then val r.next w else value_at m.vars w r.name) m.registers

-- from the contents s, the vectors v give the outputs y
abbrev pub RunOf : Machine → List Bool → List (List Bool) → List (List Bool) → Type 0
RunOf m s v y = Run (Settles m) (outs m) (next m) s v y

-- each vector gives a bit to each input
abbrev pub AreVectors : Machine → List (List Bool) → Type 0
AreVectors m v = All (λ i. length i ≡ length (inputs m)) v
