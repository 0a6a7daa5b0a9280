-- A state machine that is read has short expressions: each begins its count of operators behind the token before it, and a token
-- that passes the limit is refused.
use Rattle.std.proofs.Common.{◌≡◌, ℕ, zero, suc, ◌-◌, List, [], ◌∷◌, Option, None, Some, Ok}
use Rattle.vlsi_base.specs.declared.entity.Entity.{Entity}
use Rattle.vhdl_token.specs.declared.token.Tokens.{Tokens}
use Rattle.grammar_theory.specs.declared.limits.TheConstants.{DEPTH}
use Rattle.grammar_theory.specs.Marks.{Item, State, uncounted, run}
use Rattle.grammar_theory.specs.Grammar.{Grammar, none, at_some}
use Rattle.vhdl_front.specs.Expression.{less}
use Rattle.source_checks.specs.Operators.{IsShort}
use Rattle.vbe_text.proofs.Short.{Has, Every, has_then, has_behind, has_or, has_nothing, has_list, has_placed, short_expression}
use Rattle.fsm_text.specs.declared.file.FirstToken.{FirstToken}
use Rattle.fsm_text.specs.Written.{StatementTree, asserted, assigned, chosen, selected, BodyTree, PartTree, BranchTree, BranchesTree, StepTree, ClockTree, MachineTree, body_of, parts_of, branched, branches_of}
use Rattle.fsm_text.specs.Fsm.{headed, assertion, assignment, part, further_part, last_part, behind_if, conditional, listed_branch, led_branch, others_branch, last_branch, branches, behind_case, case_statement, statement, body_over, nested, body, step_process, clock_process, processes, architecture, machine}
use Rattle.fsm_text.specs.Short.{ShortStatement, ShortBody, ShortParts, ShortBranches, HasShortExpressions}
use Rattle.fsm_text.specs.Texts.{IsMachine}

-- ---- grammars

has_none : {A : Type 0} (P : A → Type 0) → Has none P
has_none P = record { each = λ items v h s t e. elim h [ ] }

has_some : {A : Type 0} {G : ℕ → Grammar A} {P : A → Type 0} → ((level : ℕ) → Has (G level) P) → Has (at_some G) P
has_some {A} {G} {P} all = record { each = λ items v h s t e. (all h.level).each items v h.sentence s t e }

-- with what is kept of the first token
has_headed : {A : Type 0} {L : Grammar A} {P : A → Type 0} → Has L P → Has (headed L) (λ v. P v.1)
has_headed {A} {L} {P} one = record { each = λ items v h s t e. in_headed items v h s t e } where
  in_headed : (items : List Item) (v : FirstToken × A) → headed L items v → (s t : State) → run items s ≡ Ok t → P v.1
  in_headed [] v h s t e = elim h [ ]
  in_headed (i ∷ items) v h s t e = one.each (i ∷ items) v.1 h.0 s t e

-- ---- from lists of what stands one behind the other

abbrev ShortPart : PartTree → Type 0
ShortPart p = IsShort p.condition × ShortBody p.body

abbrev ShortBranch : BranchTree → Type 0
ShortBranch b = ShortBody b.body

abbrev ShortLast : Option BodyTree → Type 0
ShortLast None = Unit {0}
ShortLast (Some a) = ShortBody a

linked_parts : (p : PartTree) (more : List PartTree) (last : Option BodyTree) → ShortPart p → Every ShortPart more → ShortLast last
    → ShortParts (parts_of p more last)
linked_parts p [] None h e l = h
linked_parts p [] (Some a) h e l = (h.0, (h.1, l))
linked_parts p (q ∷ more) last h e l = (h.0, (h.1, linked_parts q more last e.0 e.1 l))

linked_branches : (bs : List BranchTree) (rest : BranchesTree) → Every ShortBranch bs → ShortBranches rest → ShortBranches (branched bs rest)
linked_branches [] rest e h = h
linked_branches (b ∷ bs) rest e h = (e.0, linked_branches bs rest e.1 h)

all_branches : (bs : List BranchTree) (last : Option BodyTree) → Every ShortBranch bs → ShortLast last → ShortBranches (branches_of bs last)
all_branches bs None e l = linked_branches bs _ e tt
all_branches bs (Some a) e l = linked_branches bs _ e l

linked_statements : (all : List StatementTree) → Every ShortStatement all → ShortBody (body_of all)
linked_statements [] e = tt
linked_statements (s ∷ all) e = (e.0, linked_statements all e.1)

-- ---- ifs

has_part : (room : ℕ) (inner : Grammar BodyTree) → Has inner ShortBody → Has (part room inner) ShortPart
unfolding part
has_part room inner h =
    has_then (has_placed (short_expression room)) (λ c short. has_behind (λ t. has_then h (λ a small.
    has_nothing ShortPart (record { line = c.0; condition = c.1; body = a }) (short, small))))

has_further : (room : ℕ) (inner : Grammar BodyTree) → Has inner ShortBody → Has (further_part room inner) ShortPart
unfolding further_part
has_further room inner h = has_behind (λ t. has_part room inner h)

has_else : (inner : Grammar BodyTree) → Has inner ShortBody → Has (last_part inner) ShortLast
unfolding last_part
has_else inner h = has_or (has_behind (λ t. has_then h (λ a small. has_nothing ShortLast (Some a) small))) (has_nothing ShortLast None tt)

has_if : (room : ℕ) (inner : Grammar BodyTree) → Has inner ShortBody → Has (behind_if room inner) ShortStatement
unfolding behind_if
has_if room inner h =
    has_then (has_part room inner h) (λ p first. has_then (has_list (has_further room inner h)) (λ more each. has_then (has_else inner h) (λ last final.
    has_behind (λ u. has_behind (λ v. has_behind (λ w.
    has_nothing ShortStatement (chosen (parts_of p more last)) (linked_parts p more last first each final)))))))

has_conditional : (room : ℕ) (inner : Grammar BodyTree) → Has inner ShortBody → Has (conditional room inner) ShortStatement
unfolding conditional
has_conditional room inner h = has_behind (λ t. has_if (room - 1) inner h)

-- ---- cases

has_branch : (inner : Grammar BodyTree) → Has inner ShortBody → Has (listed_branch inner) ShortBranch
unfolding listed_branch
has_branch inner h = has_behind (λ states. has_behind (λ t. has_then h (λ a small. has_nothing ShortBranch (record { states = states; body = a }) small)))

has_led : (inner : Grammar BodyTree) → Has inner ShortBody → Has (led_branch inner) ShortBranch
unfolding led_branch
has_led inner h = has_behind (λ t. has_branch inner h)

has_others : (inner : Grammar BodyTree) → Has inner ShortBody → Has (others_branch inner) ShortBody
unfolding others_branch
has_others inner h = has_behind (λ t. has_behind (λ u. h))

has_last : (inner : Grammar BodyTree) → Has inner ShortBody → Has (last_branch inner) ShortLast
unfolding last_branch
has_last inner h = has_or (has_behind (λ t. has_then (has_others inner h) (λ a small. has_nothing ShortLast (Some a) small))) (has_nothing ShortLast None tt)

has_branches : (inner : Grammar BodyTree) → Has inner ShortBody → Has (branches inner) ShortBranches
unfolding branches
has_branches inner h =
    has_then (has_list (has_led inner h)) (λ all each. has_then (has_last inner h) (λ last final.
    has_nothing ShortBranches (branches_of all last) (all_branches all last each final)))

has_case_behind : (line : ℕ) (inner : Grammar BodyTree) → Has inner ShortBody → Has (behind_case line inner) ShortStatement
unfolding behind_case
has_case_behind line inner h =
    has_behind (λ name. has_behind (λ u. has_then (has_branches inner h) (λ all small. has_behind (λ v. has_behind (λ w. has_behind (λ x.
    has_nothing ShortStatement (selected line name all) small))))))

has_case : (room : ℕ) (inner : Grammar BodyTree) → Has inner ShortBody → Has (case_statement room inner) ShortStatement
unfolding case_statement
has_case room inner h = has_behind (λ t. has_case_behind t.line inner h)

-- ---- bodies

has_assertion : (room : ℕ) → Has (assertion room) ShortStatement
unfolding assertion
has_assertion room =
    has_behind (λ t. has_then (short_expression room) (λ e short. has_behind (λ r. has_behind (λ s. has_behind (λ u.
    has_nothing ShortStatement (asserted e) short)))))

has_assignment : (room : ℕ) → Has (assignment room) ShortStatement
unfolding assignment
has_assignment room =
    has_behind (λ x. has_behind (λ t. has_then (has_headed (short_expression room)) (λ e short. has_behind (λ u.
    has_nothing ShortStatement (assigned x e.0 e.1) short))))

has_statement : (room : ℕ) (inner : Grammar BodyTree) → Has inner ShortBody → Has (statement room inner) ShortStatement
unfolding statement
has_statement room inner h = has_or (has_assertion room) (has_or (has_conditional room inner h) (has_or (has_case room inner h) (has_assignment room)))

has_body_over : (room : ℕ) (inner : Grammar BodyTree) → Has inner ShortBody → Has (body_over room inner) ShortBody
unfolding body_over
has_body_over room inner h = has_then (has_list (has_statement room inner h)) (λ all each. has_nothing ShortBody (body_of all) (linked_statements all each))

has_nested : (deeper room : ℕ) → Has (nested deeper room) ShortBody
unfolding nested
has_nested zero room = has_body_over room none (has_none ShortBody)
has_nested (suc deeper) room = has_body_over room (nested deeper (less room)) (has_nested deeper (less room))

has_body : (room : ℕ) → Has (body room) ShortBody
has_body room = has_some (λ deeper. has_nested deeper room)

-- ---- whole texts

has_step : (room : ℕ) → Has (step_process room) (λ p. ShortBody p.body)
unfolding step_process
has_step room =
    has_behind (λ name. has_behind (λ names. has_then (has_body room) (λ all small. has_behind (λ t. has_behind (λ u.
    has_nothing (λ (p : StepTree). ShortBody p.body) (record { sensitivity = names; body = all; end_line = t.line }) small)))))

has_clock : (room : ℕ) → Has (clock_process room) (λ p. IsShort p.condition)
unfolding clock_process
has_clock room =
    has_behind (λ name. has_behind (λ names. has_behind (λ t. has_then (has_placed (short_expression (room - 1))) (λ c short. has_behind (λ l.
    has_nothing (λ (p : ClockTree). IsShort p.condition)
    (record { sensitivity = names; condition_line = c.0; condition = c.1; target = l.0; value = l.1 }) short)))))

abbrev ShortBoth : StepTree × ClockTree → Type 0
ShortBoth both = ShortBody both.0.body × IsShort both.1.condition

has_processes : (room : ℕ) → Has (processes room) ShortBoth
unfolding processes
has_processes room =
    has_behind (λ t. has_then (has_step room) (λ step small. has_then (has_clock room) (λ clock short. has_behind (λ u.
    has_nothing ShortBoth (step, clock) (small, short)))))

has_architecture : (room : ℕ) (e : Entity) → Has (architecture room e) HasShortExpressions
unfolding architecture
has_architecture room e =
    has_behind (λ name. has_behind (λ states. has_behind (λ signals. has_then (has_processes room) (λ both short. has_behind (λ u.
    has_nothing HasShortExpressions (record { entity = e; states = states; signals = signals; step = both.0; clock = both.1 }) short)))))

has_machine : (room : ℕ) → Has (machine room) HasShortExpressions
unfolding machine
has_machine room = has_behind (λ e. has_architecture room e)

-- each expression of a text is short
pub short_machine : (tokens : Tokens) (m : MachineTree) → IsMachine tokens m → HasShortExpressions m
short_machine tokens m h = let a = h.read.0 in (has_machine DEPTH).each a.front m a.sentence uncounted h.end.state a.clean
