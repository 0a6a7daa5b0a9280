-- Equations and registers over statements whose signals have numbers.
use Rattle.std.specs.Prelude.{ℕ, ◌+◌, not, true, false, List, [], ◌∷◌, ◌++◌, map, filter, length, Option, None, Some}
use Prim.Native.Nat.{suc}
use Rattle.vlsi_base.specs.declared.name.Name.{Name}
use Rattle.vlsi_base.specs.declared.name.Port.{Port}
use Rattle.bool_expr.specs.Expression.{Expression, constant}
use Rattle.machine_core.specs.Machine.{Machine, Equation, Register, is_input, names_of}
use Rattle.fsm_machine.specs.Statements.{Statements, Assignment}
use Rattle.fsm_machine.specs.Fsm.{Fsm}
use Rattle.fsm_machine.specs.Codes.{Codes}
use Rattle.fsm_machine.specs.Signals.{emitted, final}
use Rattle.fsm_machine.specs.MachineOf.{up, at_state, named, output_given, code_given}
use Rattle.syf_machine.specs.Named.{names_for}

-- the expressions inside, where the registers have numbers from `base` on: for each state whether it is held, and the signals of the
-- statements
abbrev pub inner_from : Codes → ℕ → Statements → List Expression
inner_from c base body =
    map (at_state c base) (up 0 (length c.codes))
    ++ emitted (λ s. base + c.width + s) (up 0 (length c.codes)) None (base + c.width + length c.codes) body

-- what the statements leave of so many targets, to which `given` tells what an assignment gives; all are 0 before them
abbrev pub values_by : (ℕ → Assignment → Option Expression) → ℕ → Statements → ℕ → List Expression
values_by given first body count = map (λ k. final (given k) None first body (constant false)) (up 0 count)

-- an output and what the statements leave of it; their signals have numbers from `first` on
abbrev pub output_of : ℕ → Statements → Name → Equation
output_of first body name = record { name = name; expr = final (output_given name) None first body (constant false) }

-- an equation for each signal inside, and for each output
abbrev pub equations_from : Codes → ℕ → List Port → Statements → List Equation
equations_from c base ports body =
    named (names_for ports (length (inner_from c base body))) (inner_from c base body)
    ++ map (output_of (base + c.width + length c.codes) body) (names_of (filter (λ p. not (is_input p.dir)) ports))

-- the register of bit k, whose name has this text: it takes bit k of the next code in each cycle
abbrev pub register_of : Codes → ℕ → Statements → List ℕ → ℕ → Register
register_of c first body text k =
    record { name = record { text = text; bit = Some k }; next = final (code_given c k) None first body (constant false); enable = constant true }

-- the registers of the bits from k on, whose names have this text, and what they take
abbrev pub registers_by : List ℕ → ℕ → List Expression → List Register
registers_by text k [] = []
registers_by text k (e ∷ es) =
    record { name = record { text = text; bit = Some k }; next = e; enable = constant true } ∷ registers_by text (suc k) es

-- the names of equations and of registers
abbrev pub equated : List Equation → List Name
equated equations = map (λ (e : Equation). e.name) equations

abbrev pub registered : List Register → List Name
registered registers = map (λ (r : Register). r.name) registers

-- the machine with these inputs, equations and registers
abbrev pub machine_with : Fsm → List Name → List Equation → List Register → Machine
machine_with f inputs equations registers = record {
  name = f.name;
  ports = f.ports;
  clock = Some f.clock;
  vars = (inputs ++ registered registers) ++ equated equations;
  equations = equations;
  registers = registers;
}
