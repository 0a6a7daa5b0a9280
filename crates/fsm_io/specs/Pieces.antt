-- What the code holds on its way.
use Rattle.std.specs.Prelude.{◌≡◌, ◌<◌, ◌≤◌, ◌⊎◌, ℕ, ◌+◌, Bool, List, [], ◌∷◌, ◌++◌, map, length, slice_index_or, slice_set, true, false, bytes_eq, Option, None, Some}
use Rattle.vlsi_base.specs.Tree.{Tree, view}
use Rattle.vlsi_base.specs.declared.name.Name.{Name}
use Rattle.vlsi_base.specs.declared.name.Port.{Port}
use Rattle.vlsi_base.specs.declared.pragma.Pragma.{Pragma}
use Rattle.vlsi_base.specs.declared.fault.FaultKind.{FaultKind}
use Rattle.vlsi_base.specs.declared.fault.FaultKind.TheVariants as kind
use Rattle.vlsi_base.specs.declared.fault.ReadError.{ReadError}
use Rattle.vlsi_base.specs.declared.fault.ReadError.TheVariants as errors
use Rattle.vlsi_base.specs.Member.{In, AllDifferent}
use Rattle.source_checks.specs.declared.symbol_table.Symbol.{Symbol}
use Rattle.source_checks.specs.declared.statement.Target.{Target}
use Rattle.source_checks.specs.Symbols.{find, all_names}
use Rattle.source_checks.specs.Drivers.{is_among, target_names}
use Rattle.source_checks.specs.Formula.{place, formulas, Formula, formula_names}
use Rattle.source_checks.specs.Checks.{fault, most_ports, if_use, if_line, if_name, first_repeated}
use Rattle.source_checks.specs.Places.{Use, first_unknown}
use Rattle.bool_expr.specs.Expression.{Expression}
use Rattle.fsm_machine.specs.Fsm.{Fsm}
use Rattle.fsm_machine.specs.Statements.{Assignment, output, Statements, assign}
use Rattle.fsm_machine.specs.Assigned.{sets_next, sets_output}
use Rattle.machine_core.specs.Machine.{names_of}
use Rattle.vlsi_model.specs.Numbered.{HasVars, name_at}
use Rattle.fsm_text.specs.Written.{StatementTree, asserted, assigned, chosen, selected, BodyTree, finish, next, PartsTree, only, either, further, BranchesTree, closed, others, listed, MachineTree, machine_view}
use Rattle.fsm_text.specs.Short.{HasShortExpressions}
use Rattle.fsm_io.specs.declared.mentions.Mention.{Mention as Held}
use Rattle.fsm_io.specs.declared.mentions.Mention.TheVariants as held
use Rattle.fsm_io.specs.declared.known.Roles.{Roles}
use Rattle.fsm_io.specs.declared.assigned.Sought.{Sought}
use Rattle.fsm_io.specs.declared.assigned.Sought.TheVariants as sought
use Rattle.fsm_io.specs.declared.forms.Readable.{Readable}
use Rattle.fsm_io.specs.declared.forms.Readable.TheVariants as may
use Rattle.fsm_io.specs.declared.check.Checking.{Checking}
use Rattle.fsm_io.specs.declared.bits.Frame.{Frame as HeldFrame}
use Rattle.fsm_io.specs.Known.{Named, symbols, fits_all}
use Rattle.fsm_io.specs.Looks.{Mention, asserting, assigning, testing, selecting, listing, all_mentions, body_has_case, all_uses}
use Rattle.fsm_io.specs.Listed.{HasStates}
use Rattle.fsm_io.specs.Widths.{all_widths}
use Rattle.fsm_io.specs.Drivers.{first_unassigned, or_else}
use Rattle.fsm_io.specs.Unsupported.{may_read, read_forms, all_forms}
use Rattle.fsm_io.specs.Clock.{all_clock_reads}
use Rattle.fsm_io.specs.States.{all_bad_states}
use Rattle.fsm_io.specs.Elaboration.{Frame, body_bits, frame_of, IsMachineOf}
use Rattle.fsm_io.specs.Checks.{if_state, most_states, fault_behind, ports_count, PassesLimit}
use Rattle.fsm_io.specs.Verdict.{most_numbered}

-- what stands there, wherever it lies in memory
abbrev pub mention_of : Held → Mention
mention_of (held.Assertion e) = asserting (view e.now)
mention_of (held.Assignment t first e) = assigning t.now first (view e.now)
mention_of (held.Condition line e) = testing line (view e.now)
mention_of (held.Case seen line called) = selecting seen line called.now
mention_of (held.States states) = listing states.now

abbrev pub named_of : Roles → Named
named_of r = record { current = r.current.now; next = r.next.now; clock = r.clock.now }

abbrev pub first_use : List Use → Option Use
first_use [] = None
first_use (u ∷ _) = Some u

abbrev pub symbol_texts : List Symbol → List (List ℕ)
symbol_texts known = map (λ (s : Symbol). s.text) known

-- ---- bits of one name

-- by numbers: 0 is the name without a bit, and k + 1 its bit k
abbrev pub bit_code : Option ℕ → ℕ
bit_code None = 0
bit_code (Some k) = k + 1

abbrev pub bit_named : List ℕ → Option ℕ → Name
bit_named text bit = record { text = text; bit = bit }

-- ---- marks of bits

-- the marks at these places are set
abbrev pub mark_each : List Bool → List ℕ → List Bool
mark_each marks [] = marks
mark_each marks (p ∷ places) = mark_each (slice_set marks p true) places

abbrev pub is_marked : List Bool → ℕ → Bool
is_marked marks k = slice_index_or marks k false

-- each bit that is declared is marked exactly where it is one of these
pub record AreMarked (known : List Symbol) (names : List Name) (marks : List Bool) : Type 0 where
  pub each : length marks ≡ length (all_names known)
  pub marked : (n : Name) → In n (all_names known) → is_marked marks (place (all_names known) n) ≡ is_among names n

-- a declared bit is marked
abbrev pub is_marked_bit : List Symbol → List Bool → Name → Bool
is_marked_bit known marks n = is_marked marks (place (all_names known) n)

-- whatever was marked, these more are now
abbrev pub MarksMore : List Symbol → List Name → List Bool → List Bool → Type 0
MarksMore known more old new = (names : List Name) → AreMarked known names old → AreMarked known (names ++ more) new

-- ---- what is looked for

-- what an assignment has to set
abbrev pub sets_of : Sought → Assignment → Bool
sets_of sought.Next = sets_next
sets_of (sought.Bit text bit) = sets_output (record { text = text.now; bit = bit })

-- the names that may be read
abbrev pub may_be_read : Readable → List ℕ → Bool
may_be_read (may.Inputs table) text = may_read (find table.now text)
may_be_read (may.Only name) text = bytes_eq text name.now

-- whether a `stable` reads a value
abbrev pub is_steady : Readable → Bool
is_steady (may.Inputs table) = false
is_steady (may.Only name) = true

-- what reads are at fault where these names may be read
abbrev pub readable_forms : Readable → Tree → List ℕ
readable_forms r = read_forms (may_be_read r) (is_steady r)

-- ---- statements over port bits

abbrev pub frame_view : HeldFrame → Frame
frame_view f = record { vars = f.vars.now; known = f.numbers.now; states = symbol_texts f.states.now; next = f.next.now }

-- the declared names differ, the port bits are declared bits that differ, each has its place, and the states can be numbered
pub record IsFrame (f : HeldFrame) : Type 0 where
  pub texts : AllDifferent (map (λ (s : Symbol). s.text) f.numbers.now)
  pub declared : (n : Name) → In n f.vars.now → In n (all_names f.numbers.now)
  pub table : HasVars (all_names f.numbers.now) f.vars.now f.places.now
  pub few : length f.states.now ≤ most_numbered

-- an expression reads port bits alone
pub record CanBeRead (f : HeldFrame) (e : Tree) : Type 0 where
  pub each : (x : Formula) → In x (formulas f.numbers.now e) → (n : Name) → In n (formula_names x) → In n f.vars.now

-- the bits of a target are declared, and there are as many of them as of what is assigned
pub record CanBeAssigned (f : HeldFrame) (t : Target) (e : Tree) : Type 0 where
  pub declared : (n : Name) → In n (target_names f.numbers.now t) → In n (all_names f.numbers.now)
  pub equal : length (target_names f.numbers.now t) ≡ length (formulas f.numbers.now e)
  pub read : CanBeRead f e

-- what is assigned to another target than the next state
abbrev pub AssignmentFits : HeldFrame → Target → Tree → Type 0
AssignmentFits f t e = bytes_eq t.name f.next.now ≡ false → CanBeAssigned f t e

-- statements whose expressions read port bits alone
abbrev mutual
  pub StatementFits : HeldFrame → StatementTree → Type 0
  StatementFits f (asserted e) = Unit {0}
  StatementFits f (assigned t first e) = AssignmentFits f t e
  StatementFits f (chosen parts) = PartsFit f parts
  StatementFits f (selected line called branches) = BranchesFit f branches

  pub BodyFits : HeldFrame → BodyTree → Type 0
  BodyFits f finish = Unit {0}
  BodyFits f (next s rest) = StatementFits f s × BodyFits f rest

  pub PartsFit : HeldFrame → PartsTree → Type 0
  PartsFit f (only line c a) = CanBeRead f c × BodyFits f a
  PartsFit f (either line c a b) = CanBeRead f c × (BodyFits f a × BodyFits f b)
  PartsFit f (further line c a more) = CanBeRead f c × (BodyFits f a × PartsFit f more)

  pub BranchesFit : HeldFrame → BranchesTree → Type 0
  BranchesFit f closed = Unit {0}
  BranchesFit f (others a) = BodyFits f a
  BranchesFit f (listed names a more) = BodyFits f a × BranchesFit f more

-- assignments to the bits of these numbers
abbrev pub assign_places : List Name → List ℕ → List Expression → Statements → Statements
assign_places all [] values rest = rest
assign_places all (p ∷ places) [] rest = rest
assign_places all (p ∷ places) (v ∷ values) rest = assign (output (name_at all p) v) (assign_places all places values rest)

-- ---- checks

-- a text on its way through the checks
abbrev pub tree_of : Checking → MachineTree
tree_of c = machine_view c.file.now

abbrev pub roles_of : Checking → Named
roles_of c = named_of c.roles

-- the pragmas name two state signals that differ, and a clock
abbrev pub HasRoles : MachineTree → Named → Type 0
HasRoles m n = fits_all m n.current n.next n.clock ≡ true

-- what is declared in it, and what stands in its statements
pub record Suits (c : Checking) : Type 0 where
  pub numbers : c.numbers.now ≡ symbols (tree_of c)
  pub mentions : map mention_of c.mentions.now ≡ all_mentions (tree_of c)
  pub case : c.has_case ≡ body_has_case (tree_of c).step.body
  pub once : first_repeated [] (symbols (tree_of c)) ≡ None
  pub roles : HasRoles (tree_of c) (roles_of c)
  pub some_state : 0 < length (tree_of c).states.states
  pub few : length (tree_of c).states.states ≤ most_numbered
  pub listed : HasStates (tree_of c).step.body
  pub short : HasShortExpressions (tree_of c)

-- the checks in three stages
abbrev pub names_fault : MachineTree → Named → Option ReadError
names_fault m n = if_use (first_unknown (symbols m) (all_uses m n)) (if_line kind.Width (all_widths m n) None)

abbrev pub forms_fault : MachineTree → Named → Option ReadError
forms_fault m n = if_name kind.Undriven (first_unassigned m) (if_line kind.Unsupported (all_forms m n) None)

abbrev pub states_fault : MachineTree → Named → Option ReadError
states_fault m n = if_line kind.ClockUse (all_clock_reads m n) (if_state (all_bad_states m n) None)

-- the checks before that for what is assigned
abbrev pub early_fault : MachineTree → Named → Option ReadError
early_fault m n = or_else (names_fault m n) (or_else (forms_fault m n) (states_fault m n))

-- the text's statements over these port bits
abbrev pub body_over : MachineTree → Named → List Port → Statements
body_over m n ports = body_bits (frame_of m n (names_of ports)) m.step.body

-- no check behind that of the pragmas fails, and no limit is passed
pub record PassesBehind (m : MachineTree) (n : Named) : Type 0 where
  pub no_fault : fault_behind m n ≡ None
  pub few_ports : ports_count m ≤ most_ports
  pub few_states : length m.states.states ≤ most_states

-- no check behind that of the pragmas fails, and the text is this state machine
abbrev pub IsMadeBehind : MachineTree → Named → Fsm → Type 0
IsMadeBehind m n f = PassesBehind m n × IsMachineOf m n f

-- why a text whose pragmas name these is none
abbrev pub IsFaultBehind : MachineTree → Named → ReadError → Type 0
IsFaultBehind m n e = (fault_behind m n ≡ Some e) ⊎ ((fault_behind m n ≡ None) × PassesLimit m e)

-- the same, or memory has run out
abbrev pub IsRefusedBehind : MachineTree → Named → ReadError → Type 0
IsRefusedBehind m n errors.Memory = Unit {0}
IsRefusedBehind m n (errors.Input f) = IsFaultBehind m n (errors.Input f)
IsRefusedBehind m n (errors.Limit l) = IsFaultBehind m n (errors.Limit l)
