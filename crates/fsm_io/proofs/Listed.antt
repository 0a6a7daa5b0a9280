-- A text has a state, and each of its branches lists one, since the grammar asks for them.
use Rattle.std.proofs.Common.{◌≡◌, ℕ, zero, suc, ◌-◌, ◌<◌, inl, inr, List, [], ◌∷◌, length, Option, None, Some, ap, sym, subst, arith}
use Rattle.vlsi_base.specs.declared.entity.Entity.{Entity}
use Rattle.vlsi_base.specs.declared.entity.NewName.{NewName}
use Rattle.vhdl_token.specs.declared.token.Tokens.{Tokens}
use Rattle.grammar_theory.specs.declared.limits.TheConstants.{DEPTH}
use Rattle.grammar_theory.specs.Grammar.{Grammar, list, none}
use Rattle.grammar_theory.specs.Marks.{Item}
use Rattle.vhdl_front.specs.Expression.{less}
use Rattle.fsm_text.specs.declared.file.StateType.{StateType}
use Rattle.fsm_text.specs.Written.{StatementTree, BodyTree, PartTree, BranchTree, BranchesTree, StepTree, ClockTree, MachineTree, body_of, parts_of, branched, branches_of}
use Rattle.fsm_text.specs.Fsm.{assertion, assignment, part, further_part, last_part, behind_if, conditional, listed_states, listed_branch, led_branch, others_branch, last_branch, branches, behind_case, case_statement, statement, body_over, nested, step_process, state_names, state_type, processes, architecture, machine}
use Rattle.fsm_text.specs.Texts.{IsMachine}
use Rattle.fsm_io.specs.Listed.{HasStates, StatementHasStates, PartsHaveStates, BranchesHaveStates}

-- what stands in an if or a case has states in its branches
abbrev Inner : Grammar BodyTree → Type 0
Inner inner = (items : List Item) (a : BodyTree) → inner items a → HasStates a

abbrev LastHasStates : Option BodyTree → Type 0
LastHasStates None = Unit {0}
LastHasStates (Some a) = HasStates a

-- ---- ifs

abbrev EachPart : List PartTree → Type 0
EachPart [] = Unit {0}
EachPart (p ∷ parts) = HasStates p.body × EachPart parts

linked_parts : (p : PartTree) (more : List PartTree) (last : Option BodyTree) → HasStates p.body → EachPart more → LastHasStates last → PartsHaveStates (parts_of p more last)
linked_parts p [] None h e l = h
linked_parts p [] (Some a) h e l = (h, l)
linked_parts p (q ∷ more) last h e l = (h, linked_parts q more last e.0 e.1 l)

in_part : (room : ℕ) (inner : Grammar BodyTree) → Inner inner → (items : List Item) (p : PartTree) → part room inner items p → HasStates p.body
unfolding part
in_part room inner h items p s =
    let is : p.body ≡ s.behind.behind.value = ap (λ (q : PartTree). q.body) s.behind.behind.behind.1 in
    subst HasStates (sym is) (h s.behind.behind.front s.behind.behind.value s.behind.behind.before)

in_further : (room : ℕ) (inner : Grammar BodyTree) → Inner inner → (items : List Item) (p : PartTree) → further_part room inner items p → HasStates p.body
unfolding further_part
in_further room inner h items p s = in_part room inner h s.back p s.behind

each_part : (room : ℕ) (inner : Grammar BodyTree) → Inner inner → (items : List Item) (ps : List PartTree) → list (further_part room inner) items ps → EachPart ps
each_part room inner h items [] s = tt
each_part room inner h items (p ∷ ps) s = (in_further room inner h s.0 p s.3, each_part room inner h s.1 ps s.4)

in_last : (inner : Grammar BodyTree) → Inner inner → (items : List Item) (last : Option BodyTree) → last_part inner items last → LastHasStates last
unfolding last_part
in_last inner h items last (inl s) = subst LastHasStates (sym s.behind.behind.1) (h s.behind.front s.behind.value s.behind.before)
in_last inner h items last (inr s) = subst LastHasStates (sym s.1) tt

in_if : (room : ℕ) (inner : Grammar BodyTree) → Inner inner → (items : List Item) (v : StatementTree) → behind_if room inner items v → StatementHasStates v
unfolding behind_if
in_if room inner h items v s =
    let more = s.behind in
    let last = s.behind.behind in
    subst StatementHasStates (sym last.behind.behind.behind.behind.1)
    (linked_parts s.value more.value last.value (in_part room inner h s.front s.value s.before) (each_part room inner h more.front more.value more.before) (in_last inner h last.front last.value last.before))

in_conditional : (room : ℕ) (inner : Grammar BodyTree) → Inner inner → (items : List Item) (v : StatementTree) → conditional room inner items v → StatementHasStates v
unfolding conditional
in_conditional room inner h items v s = in_if (room - 1) inner h s.back v s.behind

-- ---- branches

abbrev EachBranch : List BranchTree → Type 0
EachBranch [] = Unit {0}
EachBranch (b ∷ more) = ((0 < length b.states) × HasStates b.body) × EachBranch more

linked_branches : (bs : List BranchTree) (rest : BranchesTree) → EachBranch bs → BranchesHaveStates rest → BranchesHaveStates (branched bs rest)
linked_branches [] rest e h = h
linked_branches (b ∷ bs) rest e h = (e.0.0, (e.0.1, linked_branches bs rest e.1 h))

in_all : (bs : List BranchTree) (last : Option BodyTree) → EachBranch bs → LastHasStates last → BranchesHaveStates (branches_of bs last)
in_all bs None e h = linked_branches bs _ e tt
in_all bs (Some a) e h = linked_branches bs _ e h

some_listed : (items : List Item) (names : List NewName) → listed_states items names → 0 < length names
unfolding listed_states
some_listed items names s =
    let many : length names ≡ suc (length s.behind.value) = ap length s.behind.behind.1 in
    omega (arith, many)

in_branch : (inner : Grammar BodyTree) → Inner inner → (items : List Item) (b : BranchTree) → listed_branch inner items b → (0 < length b.states) × HasStates b.body
unfolding listed_branch
in_branch inner h items b s =
    let inside = s.behind.behind in
    let states : b.states ≡ s.value = ap (λ (c : BranchTree). c.states) inside.behind.1 in
    let done : b.body ≡ inside.value = ap (λ (c : BranchTree). c.body) inside.behind.1 in
    (subst (λ (ns : List NewName). 0 < length ns) (sym states) (some_listed s.front s.value s.before), subst HasStates (sym done) (h inside.front inside.value inside.before))

in_led : (inner : Grammar BodyTree) → Inner inner → (items : List Item) (b : BranchTree) → led_branch inner items b → (0 < length b.states) × HasStates b.body
unfolding led_branch
in_led inner h items b s = in_branch inner h s.back b s.behind

each_branch : (inner : Grammar BodyTree) → Inner inner → (items : List Item) (bs : List BranchTree) → list (led_branch inner) items bs → EachBranch bs
each_branch inner h items [] s = tt
each_branch inner h items (b ∷ bs) s = (in_led inner h s.0 b s.3, each_branch inner h s.1 bs s.4)

in_others : (inner : Grammar BodyTree) → Inner inner → (items : List Item) (a : BodyTree) → others_branch inner items a → HasStates a
unfolding others_branch
in_others inner h items a s = h s.behind.back a s.behind.behind

behind_all : (inner : Grammar BodyTree) → Inner inner → (items : List Item) (last : Option BodyTree) → last_branch inner items last → LastHasStates last
unfolding last_branch
behind_all inner h items last (inl s) = subst LastHasStates (sym s.behind.behind.1) (in_others inner h s.behind.front s.behind.value s.behind.before)
behind_all inner h items last (inr s) = subst LastHasStates (sym s.1) tt

in_branches : (inner : Grammar BodyTree) → Inner inner → (items : List Item) (v : BranchesTree) → branches inner items v → BranchesHaveStates v
unfolding branches
in_branches inner h items v s =
    let last = s.behind in
    subst BranchesHaveStates (sym last.behind.1) (in_all s.value last.value (each_branch inner h s.front s.value s.before) (behind_all inner h last.front last.value last.before))

behind_word : (line : ℕ) (inner : Grammar BodyTree) → Inner inner → (items : List Item) (v : StatementTree) → behind_case line inner items v → StatementHasStates v
unfolding behind_case
behind_word line inner h items v s =
    let all = s.behind.behind in
    subst StatementHasStates (sym all.behind.behind.behind.behind.1) (in_branches inner h all.front all.value all.before)

in_case : (room : ℕ) (inner : Grammar BodyTree) → Inner inner → (items : List Item) (v : StatementTree) → case_statement room inner items v → StatementHasStates v
unfolding case_statement
in_case room inner h items v s = behind_word s.value.line inner h s.back v s.behind

-- ---- bodies

in_assertion : (room : ℕ) (items : List Item) (v : StatementTree) → assertion room items v → StatementHasStates v
unfolding assertion
in_assertion room items v s = subst StatementHasStates (sym s.behind.behind.behind.behind.behind.1) tt

in_assignment : (room : ℕ) (items : List Item) (v : StatementTree) → assignment room items v → StatementHasStates v
unfolding assignment
in_assignment room items v s = subst StatementHasStates (sym s.behind.behind.behind.behind.1) tt

in_statement : (room : ℕ) (inner : Grammar BodyTree) → Inner inner → (items : List Item) (v : StatementTree) → statement room inner items v → StatementHasStates v
unfolding statement
in_statement room inner h items v (inl s) = in_assertion room items v s
in_statement room inner h items v (inr (inl s)) = in_conditional room inner h items v s
in_statement room inner h items v (inr (inr (inl s))) = in_case room inner h items v s
in_statement room inner h items v (inr (inr (inr s))) = in_assignment room items v s

each_statement : (room : ℕ) (inner : Grammar BodyTree) → Inner inner → (items : List Item) (vs : List StatementTree) → list (statement room inner) items vs → HasStates (body_of vs)
each_statement room inner h items [] s = tt
each_statement room inner h items (v ∷ vs) s = (in_statement room inner h s.0 v s.3, each_statement room inner h s.1 vs s.4)

in_body : (room : ℕ) (inner : Grammar BodyTree) → Inner inner → Inner (body_over room inner)
unfolding body_over
in_body room inner h items a s = subst HasStates (sym s.behind.1) (each_statement room inner h s.front s.value s.before)

in_nested : (deeper room : ℕ) → Inner (nested deeper room)
unfolding nested
in_nested zero room = in_body room none (λ items a s. elim s [ ])
in_nested (suc deeper) room = in_body room (nested deeper (less room)) (in_nested deeper (less room))

-- ---- whole texts

in_step : (room : ℕ) (items : List Item) (p : StepTree) → step_process room items p → HasStates p.body
unfolding step_process
in_step room items p s =
    let all = s.behind.behind in
    let is : p.body ≡ all.value = ap (λ (q : StepTree). q.body) all.behind.behind.behind.1 in
    subst HasStates (sym is) (in_nested all.before.level room all.front all.value all.before.sentence)

in_processes : (room : ℕ) (items : List Item) (both : StepTree × ClockTree) → processes room items both → HasStates both.0.body
unfolding processes
in_processes room items both s =
    let step = s.behind in
    let is : both.0 ≡ step.value = ap (λ (p : StepTree × ClockTree). p.0) step.behind.behind.behind.1 in
    subst (λ (p : StepTree). HasStates p.body) (sym is) (in_step room step.front step.value step.before)

in_architecture : (room : ℕ) (e : Entity) (items : List Item) (m : MachineTree) → architecture room e items m → HasStates m.step.body
unfolding architecture
in_architecture room e items m s =
    let both = s.behind.behind.behind in
    let is : m.step ≡ both.value.0 = ap (λ (n : MachineTree). n.step) both.behind.behind.1 in
    subst (λ (p : StepTree). HasStates p.body) (sym is) (in_processes room both.front both.value both.before)

in_machine : (room : ℕ) (items : List Item) (m : MachineTree) → machine room items m → HasStates m.step.body
unfolding machine
in_machine room items m s = in_architecture room s.value s.back m s.behind

-- each branch of a text lists a state
pub lists_states : (tokens : Tokens) (m : MachineTree) → IsMachine tokens m → HasStates m.step.body
lists_states tokens m h = in_machine DEPTH h.read.0.front m h.read.0.sentence

-- ---- its states

some_name : (room line : ℕ) (items : List Item) (names : List NewName) → state_names room line items names → 0 < length names
unfolding state_names
some_name room line items names s =
    let many : length names ≡ suc (length s.behind.behind.value) = ap length s.behind.behind.behind.behind.behind.1 in
    omega (arith, many)

some_in_type : (room : ℕ) (items : List Item) (t : StateType) → state_type room items t → 0 < length t.states
unfolding state_type
some_in_type room items t s =
    let all = s.behind.behind.behind in
    let is : t.states ≡ all.value = ap (λ (u : StateType). u.states) all.behind.1 in
    subst (λ (ns : List NewName). 0 < length ns) (sym is) (some_name room s.value.line all.front all.value all.before)

some_in_architecture : (room : ℕ) (e : Entity) (items : List Item) (m : MachineTree) → architecture room e items m → 0 < length m.states.states
unfolding architecture
some_in_architecture room e items m s =
    let type = s.behind in
    let is : m.states ≡ type.value = ap (λ (n : MachineTree). n.states) type.behind.behind.behind.behind.1 in
    subst (λ (t : StateType). 0 < length t.states) (sym is) (some_in_type room type.front type.value type.before)

some_in_machine : (room : ℕ) (items : List Item) (m : MachineTree) → machine room items m → 0 < length m.states.states
unfolding machine
some_in_machine room items m s = some_in_architecture room s.value s.back m s.behind

-- a text has a state
pub has_state : (tokens : Tokens) (m : MachineTree) → IsMachine tokens m → 0 < length m.states.states
has_state tokens m h = some_in_machine DEPTH h.read.0.front m h.read.0.sentence
