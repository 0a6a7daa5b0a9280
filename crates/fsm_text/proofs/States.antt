-- A state machine has a state, since its grammar asks for one.
use Rattle.std.proofs.Common.{◌≡◌, ℕ, suc, ◌<◌, List, ◌∷◌, length, ap, arith}
use Rattle.vlsi_base.specs.declared.entity.Entity.{Entity}
use Rattle.vlsi_base.specs.declared.entity.NewName.{NewName}
use Rattle.vhdl_token.specs.declared.token.Tokens.{Tokens}
use Rattle.grammar_theory.specs.declared.limits.TheConstants.{DEPTH}
use Rattle.grammar_theory.specs.Marks.{Item}
use Rattle.fsm_text.specs.declared.file.StateType.{StateType}
use Rattle.fsm_text.specs.Written.{MachineTree}
use Rattle.fsm_text.specs.Fsm.{state_names, state_type, architecture, machine}
use Rattle.fsm_text.specs.Texts.{IsMachine}

some_name : (room line : ℕ) (items : List Item) (names : List NewName) → state_names room line items names → 0 < length names
unfolding state_names
some_name room line items names s =
    let is : names ≡ s.behind.value ∷ s.behind.behind.value = s.behind.behind.behind.behind.behind.1 in
    let many : length names ≡ suc (length s.behind.behind.value) = ap length is in
    omega (arith, many)

some_of_type : (room : ℕ) (items : List Item) (t : StateType) → state_type room items t → 0 < length t.states
unfolding state_type
some_of_type room items t s =
    let all = s.behind.behind.behind.value in
    let is : t.states ≡ all = ap (λ (u : StateType). u.states) s.behind.behind.behind.behind.1 in
    let some : 0 < length all = some_name room s.value.line s.behind.behind.behind.front all s.behind.behind.behind.before in
    let same : length t.states ≡ length all = ap length is in
    omega (arith, some, same)

some_of_architecture : (room : ℕ) (e : Entity) (items : List Item) (m : MachineTree) → architecture room e items m → 0 < length m.states.states
unfolding architecture
some_of_architecture room e items m s =
    let type = s.behind.value in
    let is : m.states ≡ type = ap (λ (n : MachineTree). n.states) s.behind.behind.behind.behind.behind.1 in
    let some : 0 < length type.states = some_of_type room s.behind.front type s.behind.before in
    let same : length m.states.states ≡ length type.states = ap (λ (u : StateType). length u.states) is in
    omega (arith, some, same)

some_of_machine : (room : ℕ) (items : List Item) (m : MachineTree) → machine room items m → 0 < length m.states.states
unfolding machine
some_of_machine room items m s = some_of_architecture room s.value s.back m s.behind

pub has_state : (tokens : Tokens) (m : MachineTree) → IsMachine tokens m → 0 < length m.states.states
has_state tokens m h = some_of_machine DEPTH h.read.0.front m h.read.0.sentence
