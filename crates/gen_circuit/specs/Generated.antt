-- A circuit of any size, made from a number.
use Rattle.std.specs.Prelude.{ℕ, ◌+◌, ◌-◌, ◌/◌, ◌%◌, ◌^◌, ◌==◌, true, nat_lt, min, List, [], ◌∷◌, ◌++◌, map, codes, Some, if◌then◌else◌}
use Rattle.std.specs.Fmt.{decimal}
use Rattle.rand_core.specs.Pcg32Seed.{pcg32_seed}
use Rattle.rand_core.specs.Steps.{first_words}
use Rattle.rand_pcg.specs.Pcg.{pcg32, pcg32_of_seed}
use Rattle.vlsi_base.specs.declared.name.Name.{Name}
use Rattle.vlsi_base.specs.declared.name.Port.{Port}
use Rattle.vlsi_base.specs.declared.name.Dir.{Dir}
use Rattle.vlsi_base.specs.declared.name.Dir.TheVariants as dir
use Rattle.vlsi_base.specs.Names.{scalar}
use Rattle.vlsi_base.specs.Range.{rising}
use Rattle.bool_expr.specs.declared.expr.Gate.{Gate}
use Rattle.bool_expr.specs.declared.expr.Gate.TheVariants as gate
use Rattle.bool_expr.specs.Expression.{Expression, constant, variable, pair}
use Rattle.machine_core.specs.Machine.{Machine, Equation, Register}

-- ---- names: the clock ck, the inputs x(0) to x(3), the outputs y(0) to y(3), the registers r(0) to r(3), the gates g0, g1, and so on

abbrev pub clock : Name
clock = scalar (codes "ck")

abbrev pub bit_of : List ℕ → ℕ → Name
bit_of text k = record { text = text; bit = Some k }

abbrev pub four_bits : List ℕ → List Name
four_bits text = map (bit_of text) (rising 0 4)

abbrev pub gate_name : ℕ → Name
gate_name j = scalar (codes "g" ++ decimal j)

abbrev pub port_of : Dir → Name → Port
port_of d n = record { name = n; dir = d }

-- in the order of names
abbrev pub ports : List Port
ports = port_of dir.In clock ∷ map (port_of dir.In) (four_bits (codes "x")) ++ map (port_of dir.Out) (four_bits (codes "y"))

-- ---- variables: 0 to 3 are the inputs, 4 to 7 the registers, and 8 + j is gate j

abbrev pub of_gate : ℕ → Expression
of_gate j = variable (8 + j)

-- ---- gates

-- the kind of a gate goes by its word
abbrev pub kind : ℕ → Gate
kind w = if w % 4 == 0 then gate.Nand else if w % 4 == 1 then gate.Nor else if w % 4 == 2 then gate.Xor else gate.And

-- how many there are that gate j may read: the inputs, the registers, and the gates before it, at most eight
abbrev pub choices : ℕ → ℕ
choices j = 8 + min j 8

-- The operand of this number, of gate j: numbers 0 to 7 are the inputs and the registers, and 8 + t is the gate that comes t + 1
-- gates before.
abbrev pub operand : ℕ → ℕ → Expression
operand j n = if nat_lt n 8 then variable n else of_gate (j - 1 - (n - 8))

-- gate j by its word, other bits of which choose the two operands
abbrev pub gate_by : ℕ → ℕ → Equation
gate_by j w = record {
  name = gate_name j;
  expr = pair (kind w) (operand j (w / 2 ^ 8 % choices j)) (operand j (w / 2 ^ 20 % choices j));
}

-- a gate for each word, from gate j on
abbrev pub gates : ℕ → List ℕ → List Equation
gates j [] = []
gates j (w ∷ ws) = gate_by j w ∷ gates (j + 1) ws

-- ---- the circuit of so many gates

-- output t is the last gate but t
abbrev pub output : ℕ → ℕ → Equation
output size t = record { name = bit_of (codes "y") t; expr = of_gate (size - 1 - t) }

-- register t loads in each cycle: the gate that comes four before that of output t
abbrev pub register : ℕ → ℕ → Register
register size t = record { name = bit_of (codes "r") t; next = of_gate (size - 5 - t); enable = constant true }

-- the circuit of these equations and registers
abbrev pub circuit_of : List Equation → List Register → Machine
circuit_of equations registers = record {
  name = codes "gen";
  ports = ports;
  clock = Some clock;
  vars = (four_bits (codes "x") ++ four_bits (codes "r")) ++ map (λ e. e.name) equations;
  equations = equations;
  registers = registers;
}

-- the circuit whose gates go by these words
abbrev pub circuit_by : List ℕ → ℕ → Machine
circuit_by words size = circuit_of (gates 0 words ++ map (output size) (rising 0 4)) (map (register size) (rising 0 4))

-- the first words of the generator PCG32 that this number seeds
abbrev pub words_of : ℕ → ℕ → List ℕ
words_of seed many = first_words pcg32 many (pcg32_of_seed (pcg32_seed 16 seed))

-- the circuit of so many gates from this number
unfoldable pub generated : ℕ → ℕ → Machine
generated seed size = circuit_by (words_of seed size) size
