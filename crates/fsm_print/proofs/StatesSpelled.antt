-- The states that a text declares are identifiers, and none is a port.
use Rattle.std.proofs.Common.{◌≡◌, ℕ, List, [], ◌∷◌, ◌++◌, None, Some, sym, ap, subst, ◌∙◌}
use Rattle.std.specs.List.Sorted.{IsPermutation}
use Rattle.vlsi_base.specs.declared.name.Port.{Port}
use Rattle.vlsi_base.specs.declared.name.Dir.{Dir}
use Rattle.vlsi_base.specs.declared.entity.NewName.{NewName}
use Rattle.vlsi_base.specs.declared.entity.Entity.{Entity}
use Rattle.vlsi_base.specs.Member.{In, here, there, AllDifferent}
use Rattle.machine_core.proofs.Values.{In-left, In-right}
use Rattle.grammar_theory.specs.declared.limits.TheConstants.{DEPTH}
use Rattle.grammar_theory.specs.Marks.{declares}
use Rattle.vhdl_front.specs.Cursor.{name_of}
use Rattle.vhdl_front.specs.Entity.{new_name, declared, another}
use Rattle.source_checks.specs.declared.symbol_table.Role.TheVariants as role
use Rattle.source_checks.specs.declared.symbol_table.Symbol.{Symbol}
use Rattle.source_checks.specs.Symbols.{port_symbols}
use Rattle.source_checks.specs.Elaboration.{port_bits}
use Rattle.vlsi_model.proofs.Assembly.{In-permutation}
use Rattle.vlsi_model.proofs.Bits.{texts}
use Rattle.vbe_writable.proofs.Cut.{IsShortWord, AreNamed, named_in}
use Rattle.vbe_writable.proofs.Saying.{Every, words_of, Says, says_then, says_behind, says_nothing, says_list, says_name}
use Rattle.vbe_writable.proofs.Declaring.{same_symbol, text_of, machine_dir, machine_bits}
use Rattle.fsm_text.specs.Written.{MachineTree}
use Rattle.fsm_text.specs.declared.file.StateType.{StateType}
use Rattle.fsm_text.specs.Fsm.{state_names, state_type, architecture, machine}
use Rattle.fsm_io.specs.Known.{symbols, inner_symbols, generic_symbols}
use Rattle.fsm_io.specs.Text.{IsWritten}

-- ---- words

abbrev pub IsNewWord : NewName → Type 0
IsNewWord n = IsShortWord n.text

says_declared : (line : ℕ) → Says (declared line) IsNewWord
unfolding declared
says_declared line = says_then (says_name (λ t. declares line (name_of t))) (λ t h. says_nothing IsNewWord (new_name t) h)

says_another : (line : ℕ) → Says (another line) IsNewWord
unfolding another
says_another line = says_behind (λ t. says_declared line)

says_names : (room line : ℕ) → Says (state_names room line) (Every IsNewWord)
unfolding state_names
says_names room line =
    says_behind (λ t. says_then (says_declared line) (λ first h. says_then (says_list (says_another line)) (λ more g.
    says_behind (λ u. says_behind (λ v. says_nothing (Every IsNewWord) (first ∷ more) (h, g))))))

abbrev IsTypeWord : StateType → Type 0
IsTypeWord s = Every IsNewWord s.states

says_type : (room : ℕ) → Says (state_type room) IsTypeWord
unfolding state_type
says_type room =
    says_behind (λ t. says_behind (λ name. says_behind (λ u. says_then (says_names room t.line) (λ all h.
    says_nothing IsTypeWord (record { line = t.line; name = name; states = all }) h))))

abbrev IsMachineWord : MachineTree → Type 0
IsMachineWord m = IsTypeWord m.states

says_architecture : (room : ℕ) (e : Entity) → Says (architecture room e) IsMachineWord
unfolding architecture
says_architecture room e =
    says_behind (λ name. says_then (says_type room) (λ states h. says_behind (λ signals. says_behind (λ both. says_behind (λ u.
    says_nothing IsMachineWord (record { entity = e; states = states; signals = signals; step = both.0; clock = both.1 }) h)))))

says_machine : (room : ℕ) → Says (machine room) IsMachineWord
unfolding machine
says_machine room = says_behind (λ e. says_architecture room e)

pub state_words : (bytes : List ℕ) (m : MachineTree) → IsWritten bytes m → Every IsNewWord m.states.states
state_words bytes m w =
    let a = w.machine.read.0 in
    (says_machine DEPTH).each a.front m (words_of a.front w.machine.end.rest (subst AreNamed a.parts (named_in bytes))) a.sentence

-- ---- names of their own

abbrev inner_symbol : ℕ → NewName → Symbol
inner_symbol line n = record { text = n.text; role = role.Inner; range = None; line = line }

inner_in : (line : ℕ) (n : NewName) (names : List NewName) → In n names → In (inner_symbol line n) (inner_symbols line names)
inner_in line n [] i = elim i [ ]
inner_in line n (m ∷ names) here = here
inner_in line n (m ∷ names) (there i) = there (inner_in line n names i)

state_in : (m : MachineTree) (n : NewName) → In n m.states.states → In (inner_symbol m.states.line n) (symbols m)
state_in m n i =
    let x = inner_symbol m.states.line n in
    let states = inner_symbols m.states.line (m.states.name ∷ m.states.states) in
    let signals = inner_symbols m.signals.line (m.signals.first ∷ m.signals.second ∷ []) in
    In-right x (port_symbols m.entity.ports) (generic_symbols m.entity.generics ++ (states ++ signals))
    (In-right x (generic_symbols m.entity.generics) (states ++ signals) (In-left x states signals (there (inner_in m.states.line n m.states.states i))))

no_dir : (s : Symbol) (d : Dir) → s.role ≡ role.Inner → machine_dir s.role ≡ Some d → ⊥
no_dir s d inner e = let never : None ≡ Some d = sym (ap machine_dir inner) ∙ e in absurd cc

pub state_apart : (m : MachineTree) (ports : List Port) → AllDifferent (texts (symbols m)) → IsPermutation ports (port_bits (symbols m)) → (p : Port) (n : NewName) → In p ports → In n m.states.states
    → p.name.text ≡ n.text → ⊥
state_apart m ports different moved p n i j e =
    let known = symbols m in
    let b = (machine_bits known).only p (In-permutation ports (port_bits known) p moved i) in
    let same : b.symbol ≡ inner_symbol m.states.line n = same_symbol known b.symbol (inner_symbol m.states.line n) different b.declared (state_in m n j) (sym (text_of machine_dir known p b) ∙ e) in
    no_dir b.symbol p.dir (ap (λ (s : Symbol). s.role) same) b.direction
