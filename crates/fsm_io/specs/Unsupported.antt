-- Forms that are left out of state machines, in file order: the lines of the tokens at fault.
use Rattle.std.specs.Prelude.{ℕ, Bool, true, false, not, ◌||◌, bytes_eq, List, [], ◌∷◌, ◌++◌, Option, None, Some, if◌then◌else◌}
use Rattle.vlsi_base.specs.Tree.{Tree, bit, literal, name, index, slice, stable, inverse, binary}
use Rattle.source_checks.specs.declared.symbol_table.Role.{Role}
use Rattle.source_checks.specs.declared.symbol_table.Role.TheVariants as role
use Rattle.source_checks.specs.declared.symbol_table.Symbol.{Symbol}
use Rattle.source_checks.specs.Symbols.{find}
use Rattle.source_checks.specs.Widths.{if_not}
use Rattle.source_checks.specs.Unsupported.{literal_faults, supply_faults, port_forms}
use Rattle.fsm_text.specs.declared.file.FirstToken.{FirstToken}
use Rattle.fsm_text.specs.Written.{MachineTree, ClockTree}
use Rattle.fsm_io.specs.Known.{Named, symbols}
use Rattle.fsm_io.specs.Looks.{Mention, asserting, assigning, testing, selecting, listing, found, body_has_case, is_bare}
use Rattle.fsm_io.specs.Drivers.{is_output}

abbrev pub is_input : Role → Bool
is_input role.Input = true
is_input role.Output = false
is_input role.Both = false
is_input role.Inner = false
is_input role.Register = false

-- expressions read inputs alone, of which the clock is looked at later
abbrev pub may_read : Option Symbol → Bool
may_read None = true
may_read (Some s) = is_input s.role

-- what reads of names are at fault, and literals that have too many bits or none
abbrev pub read_forms : (List ℕ → Bool) → Bool → Tree → List ℕ
read_forms reads steady (bit b line) = []
read_forms reads steady (literal r digits line) = literal_faults (literal r digits line)
read_forms reads steady (name text line) = if_not (reads text) line
read_forms reads steady (index text line k) = if_not (reads text) line
read_forms reads steady (slice text line range) = if_not (reads text) line
read_forms reads steady (stable text line) = if_not (not steady || reads text) line
read_forms reads steady (inverse line e) = read_forms reads steady e
read_forms reads steady (binary op line left right) = read_forms reads steady left ++ read_forms reads steady right

-- a `stable` reads no value
abbrev pub expression_forms : List Symbol → Tree → List ℕ
expression_forms known e = read_forms (λ text. may_read (find known text)) false e

-- one bare name is assigned to the next state
abbrev pub next_forms : FirstToken → Tree → List ℕ
next_forms first e = if_not (is_bare first e) first.line

abbrev pub may_assign : Option Symbol → Bool
may_assign None = true
may_assign (Some s) = is_output s.role

-- there is one case alone, over the current state
abbrev pub forms_at : List Symbol → Named → Mention → List ℕ
forms_at known n (asserting e) = expression_forms known e
forms_at known n (assigning t first e) =
    if bytes_eq t.name n.next then next_forms first e else if_not (may_assign (find known t.name)) t.line ++ expression_forms known e
forms_at known n (testing line e) = expression_forms known e
forms_at known n (selecting seen line called) = if_not (not seen) line ++ if_not (bytes_eq called.text n.current) called.line
forms_at known n (listing states) = []

-- the next state is assigned to the current one
abbrev pub clock_load : Named → ClockTree → List ℕ
clock_load n c = if_not (bytes_eq c.target.text n.current) c.target.line ++ if_not (bytes_eq c.value.text n.next) c.value.line

-- the process at the clock names the clock and the two state signals alone
abbrev pub clock_forms : Named → ClockTree → List ℕ
clock_forms n c = read_forms (λ text. bytes_eq text n.clock) true c.condition ++ clock_load n c

-- behind the statements
abbrev pub behind_mentions : MachineTree → Named → List ℕ
behind_mentions m n = if_not (body_has_case m.step.body) m.step.end_line ++ clock_forms n m.clock

abbrev pub all_forms : MachineTree → Named → List ℕ
all_forms m n =
    port_forms m.entity.ports
    ++ (supply_faults false (m.signals.first ∷ m.signals.second ∷ [])
    ++ (found (forms_at (symbols m) n) m ++ behind_mentions m n))
