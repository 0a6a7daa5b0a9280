-- The names that the text of a state machine declares are identifiers of at most 64 bytes, and an entity can declare its ports.
use Rattle.std.proofs.Common.{◌≡◌, ℕ, ◌≤◌, ◌^◌, ◌<◌, Bool, true, false, cond, List, [], ◌∷◌, ◌++◌, map, length, Option, None, Some, IfSome, refl, sym, ap, subst, ◌∙◌, arith}
use Rattle.std.specs.List.Sorted.{IsPermutation}
use Rattle.std.proofs.lemmas.List.Sorted.{IsPermutation-sym}
use Rattle.vlsi_base.specs.declared.name.Port.{Port}
use Rattle.vlsi_base.specs.declared.entity.NewName.{NewName}
use Rattle.vlsi_base.specs.declared.entity.Generic.{Generic}
use Rattle.vlsi_base.specs.declared.entity.Entity.{Entity}
use Rattle.vlsi_base.specs.declared.fault.ReadError.{ReadError}
use Rattle.vlsi_base.specs.Name.{is_supply}
use Rattle.vlsi_base.specs.Member.{In, here, there, AllDifferent}
use Rattle.grammar_theory.specs.declared.limits.TheConstants.{DEPTH}
use Rattle.text_names.specs.Words.{IsIdentifier, ArePortsNamed}
use Rattle.source_checks.specs.declared.symbol_table.Role.TheVariants as role
use Rattle.source_checks.specs.declared.symbol_table.Symbol.{Symbol}
use Rattle.source_checks.specs.Symbols.{port_symbols, symbols_named, symbol_names}
use Rattle.source_checks.specs.Checks.{if_symbol, first_repeated}
use Rattle.source_checks.specs.Elaboration.{port_bits, ports_of_role}
use Rattle.vlsi_model.proofs.Assembly.{In-permutation}
use Rattle.vlsi_model.proofs.Bits.{texts, different_texts}
use Rattle.vbe_writable.proofs.Cut.{AreNamed, named_in}
use Rattle.vbe_writable.proofs.Saying.{Every, every_append, words_of, Says, says_then, says_behind, says_nothing}
use Rattle.vbe_writable.proofs.Sources.{IsEntityWord, IsSymbolWord, IsSmall, says_entity, ports_words}
use Rattle.vbe_writable.proofs.Declaring.{AreBits, bits_named, bits_small, machine_dir, machine_bits}
use Rattle.fsm_machine.specs.Fsm.{Fsm}
use Rattle.fsm_text.specs.Written.{MachineTree}
use Rattle.fsm_text.specs.Fsm.{architecture, machine}
use Rattle.fsm_io.specs.Known.{symbols, inner_symbols, generic_symbols}
use Rattle.fsm_io.specs.Checks.{fault_of, first_fault}
use Rattle.fsm_io.specs.Text.{IsWritten, IsFsm}
use Rattle.fsm_laws.specs.Writable.{IsNamed, FsmIsNamed, FsmIsShort}

-- ---- what is written

abbrev IsMachineWord : MachineTree → Type 0
IsMachineWord m = IsEntityWord m.entity

says_architecture : (room : ℕ) (e : Entity) → IsEntityWord e → Says (architecture room e) IsMachineWord
unfolding architecture
says_architecture room e h =
    says_behind (λ name. says_behind (λ states. says_behind (λ signals. says_behind (λ both. says_behind (λ u.
    says_nothing IsMachineWord (record { entity = e; states = states; signals = signals; step = both.0; clock = both.1 }) h)))))

says_machine : (room : ℕ) → Says (machine room) IsMachineWord
unfolding machine
says_machine room = says_then (says_entity room) (λ e h. says_architecture room e h)

written_words : (bytes : List ℕ) (m : MachineTree) → IsWritten bytes m → IsEntityWord m.entity
written_words bytes m w =
    let a = w.machine.read.0 in
    (says_machine DEPTH).each a.front m (words_of a.front w.machine.end.rest (subst AreNamed a.parts (named_in bytes))) a.sentence

-- ---- the names that are no ports

abbrev IsInner : Symbol → Type 0
IsInner s = s.role ≡ role.Inner

inner_named : (line : ℕ) (names : List NewName) → Every IsInner (inner_symbols line names)
inner_named line [] = tt
inner_named line (n ∷ names) = (refl, inner_named line names)

inner_generics : (groups : List Generic) → Every IsInner (generic_symbols groups)
inner_generics [] = tt
inner_generics (g ∷ groups) = every_append IsInner (inner_symbols g.line g.names) (generic_symbols groups) (inner_named g.line g.names) (inner_generics groups)

others : MachineTree → List Symbol
others m =
    generic_symbols m.entity.generics
    ++ (inner_symbols m.states.line (m.states.name ∷ m.states.states) ++ inner_symbols m.signals.line (m.signals.first ∷ m.signals.second ∷ []))

inner_others : (m : MachineTree) → Every IsInner (others m)
unfolding others
inner_others m =
    let states = inner_symbols m.states.line (m.states.name ∷ m.states.states) in
    let signals = inner_symbols m.signals.line (m.signals.first ∷ m.signals.second ∷ []) in
    every_append IsInner (generic_symbols m.entity.generics) (states ++ signals) (inner_generics m.entity.generics)
    (every_append IsInner states signals (inner_named m.states.line (m.states.name ∷ m.states.states)) (inner_named m.signals.line (m.signals.first ∷ m.signals.second ∷ [])))

-- they have no bits among the ports
no_bits : (rest : List Symbol) → Every IsInner rest → port_bits rest ≡ []
no_bits [] h = refl
no_bits (s ∷ rest) h = by (is_supply s.text) ∙ no_bits rest h.1 where
  by : (b : Bool) → (cond b [] (ports_of_role s.role (symbol_names s)) ++ port_bits rest) ≡ port_bits rest
  by true = refl
  by false = rw h.0 refl

front_bits : (known rest : List Symbol) → Every IsInner rest → port_bits (known ++ rest) ≡ port_bits known
front_bits [] rest h = no_bits rest h
front_bits (s ∷ known) rest h = ap (λ (ps : List Port). cond (is_supply s.text) [] (ports_of_role s.role (symbol_names s)) ++ ps) (front_bits known rest h)

text_left : (t : List ℕ) (known rest : List Symbol) → In t (texts known) → In t (texts (known ++ rest))
text_left t [] rest i = elim i [ ]
text_left _ (s ∷ known) rest here = here
text_left t (s ∷ known) rest (there i) = there (text_left t known rest i)

front_differs : (known rest : List Symbol) → AllDifferent (texts (known ++ rest)) → AllDifferent (texts known)
front_differs [] rest h = tt
front_differs (s ∷ known) rest h = (λ i. h.0 (text_left s.text known rest i), front_differs known rest h.1)

-- ---- the ports

moved_bits : (known : List Symbol) (bits ports : List Port) → IsPermutation bits ports → AreBits machine_dir known bits → AreBits machine_dir known ports
moved_bits known bits ports moved h = record {
  only = λ p i. h.only p (In-permutation ports bits p (IsPermutation-sym bits ports moved) i);
  all = λ p b. In-permutation bits ports p moved (h.all p b);
}

once : (o : Option Symbol) (later : Option ReadError) → if_symbol o later ≡ None → o ≡ None
once None later e = refl
once (Some s) later e = absurd cc

-- what is known of the ports of a text
record Read (m : MachineTree) (ports : List Port) : Type 0 where
  pub different : AllDifferent (texts (port_symbols m.entity.ports))
  pub words : Every IsSymbolWord (port_symbols m.entity.ports)
  pub bits : AreBits machine_dir (port_symbols m.entity.ports) ports

read : (bytes : List ℕ) (f : Fsm) (is : IsFsm bytes f) → Read is.tree f.ports
unfolding others
read bytes f is =
    let m = is.tree in
    let known = port_symbols m.entity.ports in
    let repeated = once (first_repeated [] (symbols m)) _ is.passes.no_fault in
    let same : port_bits (symbols m) ≡ port_bits known = front_bits known (others m) (inner_others m) in
    let moved = IsPermutation-sym f.ports (port_bits (symbols m)) is.machine.ports in
    record {
      different = front_differs known (others m) (different_texts (symbols m) repeated);
      words = ports_words m.entity.ports (written_words bytes m is.written).1;
      bits = moved_bits known (port_bits known) f.ports (subst (λ (bits : List Port). IsPermutation bits f.ports) same moved) (machine_bits known);
    }

pub fsm_is_named : FsmIsNamed
fsm_is_named bytes f is =
    let r = read bytes f is in
    record {
      name = subst IsIdentifier (sym is.machine.name) (written_words bytes is.tree is.written).0.0;
      ports = bits_named machine_dir (port_symbols is.tree.entity.ports) f.ports r.different r.words r.bits;
      clock = ap (λ n. n.bit) is.machine.clock;
    }

pub fsm_is_short : FsmIsShort
fsm_is_short bytes f is =
    let r = read bytes f is in (
      subst (λ (t : List ℕ). length t ≤ 64) (sym is.machine.name) (written_words bytes is.tree is.written).0.1,
      bits_small machine_dir (port_symbols is.tree.entity.ports) f.ports r.words r.bits,
    )
