-- What a state machine declares: its port bits, which are within the limit, and names, which are no more than its tokens.
use Rattle.std.proofs.Common.{◌≡◌, ℕ, suc, ◌+◌, ◌<◌, ◌≤◌, ◌^◌, inl, inr, List, [], ◌∷◌, ◌++◌, length, None, Ok, refl, ap, subst, sym, arith, length-append}
use Rattle.vlsi_base.specs.declared.limits.TheConstants.{MOST_SOURCE_BYTES}
use Rattle.vlsi_base.specs.declared.entity.Entity.{Entity}
use Rattle.vlsi_base.specs.declared.entity.Generic.{Generic}
use Rattle.vlsi_base.specs.declared.entity.NewName.{NewName}
use Rattle.vhdl_token.specs.declared.token.Tokens.{Tokens}
use Rattle.vhdl_token.specs.declared.keyword.Keyword.{Keyword}
use Rattle.vhdl_token.specs.declared.keyword.Keyword.TheVariants as word
use Rattle.vhdl_token.specs.declared.token.PlacedToken.{PlacedToken}
use Rattle.grammar_theory.specs.Answers.{tokens_of}
use Rattle.grammar_theory.specs.declared.limits.TheConstants.{BITS, DEPTH}
use Rattle.grammar_theory.specs.Marks.{Item, State, uncounted, run}
use Rattle.grammar_theory.specs.Grammar.{list}
use Rattle.vhdl_front.specs.Entity.{Names, led_names, declared_here, own_names, names, generic, next_generic, generic_clause, closed, ending, entity}
use Rattle.source_checks.specs.declared.symbol_table.Role.TheVariants as role
use Rattle.source_checks.specs.Symbols.{port_symbols, all_names}
use Rattle.vbe_text.proofs.Counted.{all_long, named_long, entity_few}
use Rattle.fsm_text.specs.Written.{MachineTree}
use Rattle.fsm_text.specs.Fsm.{architecture, machine}
use Rattle.fsm_text.specs.Texts.{IsMachine}
use Rattle.fsm_io.specs.Known.{inner_symbols, generic_symbols, symbols}
use Rattle.fsm_io.specs.Verdict.{most_numbered}
use Rattle.fsm_io.proofs.Few.{front_less, back_less, few_others, few_of_machine, length_tokens}

-- ---- names of generics and tokens

few_led : (w : Keyword) (items : List Item) (n : Names) → led_names w items n → length n.1 ≤ length items
unfolding led_names
few_led w items n s =
    let is : n.1 ≡ s.behind.value ∷ s.behind.behind.value = ap (λ (m : Names). m.1) s.behind.behind.behind.1 in
    let many : length n.1 ≡ suc (length s.behind.behind.value) = ap length is in
    let keyword : length s.front ≡ 1 = ap length s.before.alone in
    let all = ap length s.parts in
    let both = length-append s.front s.back in
    let inner = back_less s.back s.behind in
    let least = front_less s.behind.back s.behind.behind in
    let more = few_others s.value.line s.behind.behind.front s.behind.behind.value s.behind.behind.before in
    omega (arith, many, keyword, all, both, inner, least, more)

some_declared : (items : List Item) (n : NewName) → declared_here items n → 0 < length items
unfolding declared_here
some_declared items n s = let one : length s.front ≡ 1 = ap length s.before.alone in let less = front_less items s in omega (arith, one, less)

few_own : (items : List Item) (n : Names) → own_names items n → length n.1 ≤ length items
unfolding own_names
few_own items n s =
    let is : n.1 ≡ s.value ∷ s.behind.value = ap (λ (m : Names). m.1) s.behind.behind.1 in
    let many : length n.1 ≡ suc (length s.behind.value) = ap length is in
    let some = some_declared s.front s.value s.before in
    let all = ap length s.parts in
    let both = length-append s.front s.back in
    let least = front_less s.back s.behind in
    let more = few_others s.value.line s.behind.front s.behind.value s.behind.before in
    omega (arith, many, some, all, both, least, more)

few_names : (w : Keyword) (items : List Item) (n : Names) → names w items n → length n.1 ≤ length items
unfolding names
few_names w items n (inl s) = few_led w items n s
few_names w items n (inr s) = few_own items n s

few_generic : (items : List Item) (g : Generic) → generic items g → length g.names ≤ length items
unfolding generic
few_generic items g s =
    let is : g.names ≡ s.value.1 = ap (λ (h : Generic). h.names) s.behind.behind.behind.behind.1 in
    let same : length g.names ≡ length s.value.1 = ap length is in
    let few = few_names word.Constant s.front s.value s.before in
    let less = front_less items s in
    omega (arith, same, few, less)

few_next : (items : List Item) (g : Generic) → next_generic items g → length g.names ≤ length items
unfolding next_generic
few_next items g s = let few = few_generic s.back g s.behind in let less = back_less items s in omega (arith, few, less)

abbrev count : List Generic → ℕ
count [] = 0
count (g ∷ groups) = length g.names + count groups

few_more : (items : List Item) (groups : List Generic) → list next_generic items groups → count groups ≤ length items
few_more items [] s = omega arith
few_more items (g ∷ groups) s =
    let first = few_next s.0 g s.3 in
    let rest = few_more s.1 groups s.4 in
    let all : length items ≡ length (s.0 ++ s.1) = ap length s.2 in
    let both = length-append s.0 s.1 in
    omega (arith, first, rest, all, both)

its_value : {A : Type 0} (x v : A) (items : List Item) → closed x items v → v ≡ x
unfolding closed
its_value x v items s = s.behind.behind.1

few_clause : (room : ℕ) (items : List Item) (groups : List Generic) → generic_clause room items groups → count groups ≤ length items
unfolding generic_clause
few_clause room items groups s =
    let inner = s.behind.behind in
    let others = inner.behind in
    let is : groups ≡ inner.value ∷ others.value = its_value (inner.value ∷ others.value) groups others.back others.behind in
    let many : count groups ≡ count (inner.value ∷ others.value) = ap count is in
    let first = few_generic inner.front inner.value inner.before in
    let rest = few_more others.front others.value others.before in
    let parts = ap length inner.parts in
    let both = length-append inner.front inner.back in
    let a = back_less items s in
    let b = back_less s.back s.behind in
    let c = front_less inner.back others in
    omega (arith, many, first, rest, parts, both, a, b, c)

its_end : {A : Type 0} (name : List ℕ) (x v : A) (items : List Item) → ending name x items v → v ≡ x
unfolding ending
its_end name x v items s = elim s.behind [ inl a ↦ a.behind.behind.1 | inr b ↦ b.behind.1 ]

few_generics : (room : ℕ) (items : List Item) (e : Entity) → entity room items e → count e.generics ≤ length items
unfolding entity
few_generics room items e s =
    let clause = s.behind in
    let is : e ≡ record { name = s.value; generics = clause.value; ports = clause.behind.value } =
    its_end s.value (record { name = s.value; generics = clause.value; ports = clause.behind.value }) e clause.behind.back clause.behind.behind in
    let same : count e.generics ≡ count clause.value = ap (λ (d : Entity). count d.generics) is in
    let few : count clause.value ≤ length clause.front = elim clause.before [
      | inl a ↦ few_clause room clause.front clause.value a
      | inr b ↦ let none : count clause.value ≡ 0 = ap count b.1 in omega (arith, none)
    ] in
    let a = back_less items s in
    let b = front_less s.back clause in
    omega (arith, same, few, a, b)

-- ---- state machines

its_entity : (room : ℕ) (e : Entity) (items : List Item) (m : MachineTree) → architecture room e items m → m.entity ≡ e
unfolding architecture
its_entity room e items m s = ap (λ (n : MachineTree). n.entity) s.behind.behind.behind.behind.behind.1

few_ports : (items : List Item) (m : MachineTree) (t : State) → machine DEPTH items m → run items uncounted ≡ Ok t → length (all_names (port_symbols m.entity.ports)) ≤ BITS
unfolding machine
few_ports items m t s clean =
    let is = its_entity DEPTH s.value s.back m s.behind in
    subst (λ (e : Entity). length (all_names (port_symbols e.ports)) ≤ BITS) (sym is) (entity_few items m s t clean)

few_of_entity : (room : ℕ) (items : List Item) (m : MachineTree) → machine room items m → count m.entity.generics ≤ length items
unfolding machine
few_of_entity room items m s =
    let is = its_entity room s.value s.back m s.behind in
    let same = ap (λ (e : Entity). count e.generics) is in
    let few = few_generics room s.front s.value s.before in
    let less = front_less items s in
    omega (arith, same, few, less)

-- ---- symbols

inner_long : (line : ℕ) (ns : List NewName) → length (all_names (inner_symbols line ns)) ≡ length ns
inner_long line ns = let all = named_long role.Inner None line ns in omega (arith, all)

generics_long : (groups : List Generic) → length (all_names (generic_symbols groups)) ≡ count groups
generics_long [] = refl
generics_long (g ∷ groups) =
    let all = all_long (inner_symbols g.line g.names) (generic_symbols groups) in
    let first = inner_long g.line g.names in
    let rest = generics_long groups in
    omega (arith, all, first, rest)

-- ---- texts of few tokens

items_few : (tokens : Tokens) (m : MachineTree) → length tokens.items ≤ MOST_SOURCE_BYTES → (h : IsMachine tokens m) → length h.read.0.front ≤ MOST_SOURCE_BYTES
items_few tokens m few h =
    let a = h.read.0 in
    let all = ap (λ (ts : List PlacedToken). length ts) a.parts in
    let both = length-append (tokens_of a.front) h.end.rest in
    let same = length_tokens a.front in
    omega (arith, all, both, same, few)

-- the states of a text can be numbered
pub few_states : (tokens : Tokens) (m : MachineTree) → length tokens.items ≤ MOST_SOURCE_BYTES → IsMachine tokens m → length m.states.states ≤ most_numbered
few_states tokens m few h =
    let a = h.read.0 in
    let states = few_of_machine DEPTH a.front m a.sentence in
    let read = items_few tokens m few h in
    let most : MOST_SOURCE_BYTES ≡ 1048576 = refl in
    omega (arith, states, read, most)

-- what a text declares can be numbered
pub few_declared : (tokens : Tokens) (m : MachineTree) → length tokens.items ≤ MOST_SOURCE_BYTES → IsMachine tokens m → length (all_names (symbols m)) < 2 ^ 32
few_declared tokens m few h =
    let a = h.read.0 in
    let type = inner_symbols m.states.line (m.states.name ∷ m.states.states) in
    let signals = inner_symbols m.signals.line (m.signals.first ∷ m.signals.second ∷ []) in
    let generics = generic_symbols m.entity.generics in
    let all = all_long (port_symbols m.entity.ports) (generics ++ (type ++ signals)) in
    let behind_ports = all_long generics (type ++ signals) in
    let behind_generics = all_long type signals in
    let ports = few_ports a.front m h.end.state a.sentence a.clean in
    let generics_few = few_of_entity DEPTH a.front m a.sentence in
    let generics_count = generics_long m.entity.generics in
    let states_few = few_of_machine DEPTH a.front m a.sentence in
    let states_count = inner_long m.states.line (m.states.name ∷ m.states.states) in
    let signals_count = inner_long m.signals.line (m.signals.first ∷ m.signals.second ∷ []) in
    let read = items_few tokens m few h in
    let most : BITS ≡ 1048576 = refl in
    let least : MOST_SOURCE_BYTES ≡ 1048576 = refl in
    omega (arith, all, behind_ports, behind_generics, ports, generics_few, generics_count, states_few, states_count, signals_count, read, most, least)
