-- The machine of a state machine and codes of its states.
use Rattle.std.specs.Prelude.{ℕ, zero, suc, ◌+◌, Bool, true, false, List, [], ◌∷◌, ◌++◌, map, length, Option, None, Some, if◌then◌else◌}
use Rattle.vlsi_base.specs.declared.name.Name.{Name}
use Rattle.bool_expr.specs.declared.expr.Gate.TheVariants.{And}
use Rattle.bool_expr.specs.Expression.{Expression, constant, variable, inverse, pair, bit}
use Rattle.machine_core.specs.Named.{is_same_name}
use Rattle.machine_core.specs.Machine.{Machine, Equation, Register, names_of}
use Rattle.fsm_machine.specs.Statements.{Assignment, output, next, Statements}
use Rattle.fsm_machine.specs.Fsm.{Fsm, fsm_inputs, fsm_outputs}
use Rattle.fsm_machine.specs.Codes.{Codes, code_of}
use Rattle.fsm_machine.specs.Signals.{emitted, final}
use Rattle.fsm_machine.specs.Moved.{moved}

-- n numbers from k on
abbrev pub up : ℕ → ℕ → List ℕ
up k zero = []
up k (suc n) = k ∷ up (suc k) n

-- the variable of a name, where the names have numbers from k on; 0 for a name that isn't there
abbrev pub place_of : ℕ → List Name → Name → Expression
place_of k [] name = constant false
place_of k (n ∷ names) name = if is_same_name n name then variable k else place_of (suc k) names name

-- the machine's variable for each port: the inputs come first
abbrev pub port_places : Fsm → List Expression
port_places f = map (place_of 0 (fsm_inputs f)) (names_of f.ports)

-- the statements over the machine's variables
abbrev pub placed_body : Fsm → Statements
placed_body f = moved (port_places f) f.body

-- variable k, or its not: 1 where the variable is b
abbrev pub literal : Bool → ℕ → Expression
literal b k = if b then variable k else inverse (variable k)

-- the `and` from the left of an expression and of the literals of bits, whose variables have numbers from k on
abbrev pub matches_after : Expression → ℕ → List Bool → Expression
matches_after e k [] = e
matches_after e k (b ∷ bits) = matches_after (pair And e (literal b k)) (suc k) bits

-- the `and` of the literals alone: 1 exactly where the variables have these bits; 1 where there are none
abbrev pub matches : ℕ → List Bool → Expression
matches k [] = constant true
matches k (b ∷ bits) = matches_after (literal b k) (suc k) bits

-- whether the registers, whose variables have numbers from k on, hold the code of s: one bit, or all of them
abbrev pub at_state : Codes → ℕ → ℕ → Expression
at_state c k s = if c.one_hot then variable (k + s) else matches k (code_of c s)

-- what an assignment gives to an output bit
abbrev pub output_given : Name → Assignment → Option Expression
output_given name (output target e) = if is_same_name target name then Some e else None
output_given name (next s) = None

-- what an assignment gives to bit k of the next code
abbrev pub code_given : Codes → ℕ → Assignment → Option Expression
code_given c k (output name e) = None
code_given c k (next s) = Some (constant (bit (code_of c s) k))

-- the first number of a register: behind the inputs
abbrev pub register_base : Fsm → ℕ
register_base f = length (fsm_inputs f)

-- the first number of a state's signal: behind the registers
abbrev pub state_base : Fsm → Codes → ℕ
state_base f c = register_base f + c.width

-- the first number of a signal of the statements: behind those of the states
abbrev pub body_base : Fsm → Codes → ℕ
body_base f c = state_base f c + length f.states

-- the states by their numbers
abbrev pub all_states : Fsm → List ℕ
all_states f = up 0 (length f.states)

-- for each state whether it is the one held, and then the signals of the statements
abbrev pub inner_expressions : Fsm → Codes → List Expression
inner_expressions f c =
    map (at_state c (register_base f)) (all_states f)
    ++ emitted (λ s. state_base f c + s) (all_states f) None (body_base f c) (placed_body f)

-- an output bit, which the statements assign on each path
abbrev pub output_expression : Fsm → Codes → Name → Expression
output_expression f c name = final (output_given name) None (body_base f c) (placed_body f) (constant false)

-- bit k of the next code, likewise
abbrev pub next_bit : Fsm → Codes → ℕ → Expression
next_bit f c k = final (code_given c k) None (body_base f c) (placed_body f) (constant false)

-- names and expressions, one beside the other
abbrev pub named : List Name → List Expression → List Equation
named [] es = []
named (n ∷ names) [] = []
named (n ∷ names) (e ∷ es) = record { name = n; expr = e } ∷ named names es

-- an equation for each inner signal, and then for each output bit
abbrev pub equations_of : Fsm → Codes → List Name → List Equation
equations_of f c inner = named (inner ++ fsm_outputs f) (inner_expressions f c ++ map (output_expression f c) (fsm_outputs f))

-- the names of the registers: bits of one name
abbrev pub code_names : List ℕ → ℕ → List Name
code_names st width = map (λ k. record { text = st; bit = Some k }) (up 0 width)

-- the registers: bit k takes bit k of the next code in each cycle
abbrev pub registers_of : Fsm → Codes → List ℕ → List Register
registers_of f c st =
    map (λ k. record { name = record { text = st; bit = Some k }; next = next_bit f c k; enable = constant true })
    (up 0 c.width)

-- `st` is the text of the registers' names, and `inner` are the names of the inner signals
abbrev pub machine_of : Fsm → Codes → List ℕ → List Name → Machine
machine_of f c st inner = record {
  name = f.name;
  ports = f.ports;
  clock = Some f.clock;
  vars = (fsm_inputs f ++ code_names st c.width) ++ (inner ++ fsm_outputs f);
  equations = equations_of f c inner;
  registers = registers_of f c st;
}
