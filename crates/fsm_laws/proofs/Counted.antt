-- The statements of a text have at most two signals for each of its tokens, of which there are no more than bytes.
use Rattle.std.proofs.Common.{ℕ, zero, suc, ◌+◌, ◌-◌, ◌*◌, ◌≤◌, List, [], ◌∷◌, length, Option, None, Some, inl, inr, sym, ap, subst, arith, length-append}
use Rattle.vlsi_base.specs.declared.entity.Entity.{Entity}
use Rattle.vhdl_token.specs.declared.token.PlacedToken.{PlacedToken}
use Rattle.grammar_theory.specs.declared.form.Form.{Form}
use Rattle.grammar_theory.specs.declared.limits.TheConstants.{DEPTH}
use Rattle.grammar_theory.specs.Marks.{Mark, Item}
use Rattle.grammar_theory.specs.Grammar.{Grammar, none, nothing, One, Then, ◌or◌, list}
use Rattle.grammar_theory.specs.Answers.{tokens_of}
use Rattle.vhdl_front.specs.Expression.{less as less_room}
use Rattle.fsm_text.specs.Written.{StatementTree, chosen, selected, asserted, assigned, BodyTree, PartTree, BranchTree, BranchesTree, body_of, parts_of, branches_of, StepTree, ClockTree, MachineTree}
use Rattle.fsm_text.specs.Fsm.{part, further_part, last_part, behind_if, conditional, listed_branch, led_branch, others_branch, last_branch, branches, behind_case, case_statement, assertion, assignment, statement, body_over, nested, body, step_process, processes, architecture, machine}
use Rattle.fsm_io.specs.Text.{IsWritten}
use Rattle.fsm_io.proofs.Few.{tokens_few, length_tokens}
use Rattle.fsm_laws.proofs.Signals.{in_body, in_statement, in_branches, total, in_further, in_listed, in_last, in_all, in_if, in_case}

-- ---- grammars

-- with k before it, each value is within two for each token of its sentence
record Weighs {A : Type 0} (G : Grammar A) (k : ℕ) (f : A → ℕ) : Type 0 where
  pub each : (items : List Item) (v : A) → G items v → f v ≤ k + 2 * length items

weighs_then : {A C : Type 0} {L : Grammar A} {M : A → Grammar C} {k : ℕ} {f : A → ℕ} {g : C → ℕ} → Weighs L k f → ((x : A) (n : ℕ) → f x ≤ n → Weighs (M x) n g)
    → Weighs (Then L M) k g
weighs_then {A} {C} {L} {M} {k} {f} {g} one two = record {
  each = λ items v h.
      let first = one.each h.front h.value h.before in
      let second = (two h.value (k + 2 * length h.front) first).each h.back v h.behind in
      let all = ap (λ (is : List Item). length is) h.parts in
      let both = length-append h.front h.back in
      omega (arith, second, all, both);
}

-- the first part has no signals
weighs_behind : {A C : Type 0} {L : Grammar A} {M : A → Grammar C} {k : ℕ} {g : C → ℕ} → ((x : A) → Weighs (M x) k g) → Weighs (Then L M) k g
weighs_behind {A} {C} {L} {M} {k} {g} two = record {
  each = λ items v h.
      let second = (two h.value).each h.back v h.behind in
      let all = ap (λ (is : List Item). length is) h.parts in
      let both = length-append h.front h.back in
      omega (arith, second, all, both);
}

weighs_token : {C : Type 0} {w : Form} {m : PlacedToken → Mark} {M : PlacedToken → Grammar C} {k : ℕ} {g : C → ℕ} → ((x : PlacedToken) → Weighs (M x) (k + 2) g) → Weighs (Then (One w m) M) k g
weighs_token {C} {w} {m} {M} {k} {g} two = record {
  each = λ items v h.
      let one = ap (λ (is : List Item). length is) h.before.alone in
      let second = (two h.value).each h.back v h.behind in
      let all = ap (λ (is : List Item). length is) h.parts in
      let both = length-append h.front h.back in
      omega (arith, one, second, all, both);
}

weighs_or : {A : Type 0} {L M : Grammar A} {k : ℕ} {f : A → ℕ} → Weighs L k f → Weighs M k f → Weighs (L or M) k f
weighs_or {A} {L} {M} {k} {f} one two = record { each = λ items v h. elim h [ inl a ↦ one.each items v a | inr b ↦ two.each items v b ] }

weighs_nothing : {A : Type 0} (f : A → ℕ) (k : ℕ) (x : A) → f x ≤ k → Weighs (nothing x) k f
weighs_nothing {A} f k x less = record { each = λ items v h. subst (λ (y : A). f y ≤ k + 2 * length items) (sym h.1) (omega (arith, less)) }

-- less of each value
weighs_less : {A : Type 0} {G : Grammar A} {k : ℕ} {f g : A → ℕ} → Weighs G k f → ((x : A) → g x ≤ f x) → Weighs G k g
weighs_less {A} {G} {k} {f} {g} one below = record { each = λ items v h. let a = one.each items v h in let b = below v in omega (arith, a, b) }

-- with k before it
abbrev Adds : {A : Type 0} → Grammar A → (A → ℕ) → Type 0
Adds {A} G f = (k : ℕ) → Weighs G k (λ x. k + f x)

adds : {A : Type 0} {G : Grammar A} {f : A → ℕ} → ((items : List Item) (v : A) → G items v → f v ≤ 2 * length items) → Adds G f
adds {A} {G} {f} h k = record { each = λ items v s. let a = h items v s in omega (arith, a) }

list_each : {A : Type 0} (L : Grammar A) (f : A → ℕ) → Adds L f → (items : List Item) (vs : List A) → list L items vs → total f vs ≤ 2 * length items
list_each L f one items [] h = omega arith
list_each L f one items (v ∷ vs) h =
    let first = (one 0).each h.0 v h.3 in
    let rest = list_each L f one h.1 vs h.4 in
    let all = ap (λ (is : List Item). length is) h.2 in
    let both = length-append h.0 h.1 in
    omega (arith, first, rest, all, both)

adds_list : {A : Type 0} (L : Grammar A) (f : A → ℕ) → Adds L f → Adds (list L) (total f)
adds_list L f one = adds (list_each L f one)

adds_or : {A : Type 0} (L M : Grammar A) (f : A → ℕ) → Adds L f → Adds M f → Adds (L or M) f
adds_or L M f one two k = weighs_or (one k) (two k)

-- ---- ifs

abbrev in_part : PartTree → ℕ
in_part p = 2 + in_body p.body

part_adds : (room : ℕ) (inner : Grammar BodyTree) → Adds inner in_body → Adds (part room inner) in_part
unfolding part
part_adds room inner h k =
    weighs_behind (λ c. weighs_token (λ t. weighs_then (h (k + 2)) (λ a n less.
    weighs_nothing (λ (p : PartTree). k + in_part p) n (record { line = c.0; condition = c.1; body = a }) (omega (arith, less)))))

further_adds : (room : ℕ) (inner : Grammar BodyTree) → Adds inner in_body → Adds (further_part room inner) in_further
unfolding further_part
further_adds room inner h k = weighs_token (λ t. weighs_less (part_adds room inner h (k + 2)) (λ p. omega arith))

last_adds : (inner : Grammar BodyTree) → Adds inner in_body → Adds (last_part inner) in_last
unfolding last_part
last_adds inner h k =
    weighs_or (weighs_token (λ t. weighs_then (h (k + 2)) (λ a n less. weighs_nothing (λ (o : Option BodyTree). k + in_last o) n (Some a) (omega (arith, less)))))
    (weighs_nothing (λ (o : Option BodyTree). k + in_last o) k None (omega arith))

if_adds : (room : ℕ) (inner : Grammar BodyTree) → Adds inner in_body → Adds (behind_if room inner) in_statement
unfolding behind_if
if_adds room inner h k =
    weighs_then (part_adds room inner h k) (λ first n less. weighs_then (adds_list (further_part room inner) in_further (further_adds room inner h) n) (λ more p less2. weighs_then (last_adds inner h p) (λ last q less3.
    weighs_behind (λ u. weighs_behind (λ v. weighs_behind (λ w.
    weighs_nothing (λ (st : StatementTree). k + in_statement st) q (chosen (parts_of first more last)) (let all = in_if first more last in omega (arith, all, less, less2, less3))))))))

conditional_adds : (room : ℕ) (inner : Grammar BodyTree) → Adds inner in_body → Adds (conditional room inner) in_statement
unfolding conditional
conditional_adds room inner h k = weighs_behind (λ t. if_adds (room - 1) inner h k)

-- ---- cases

listed_adds : (inner : Grammar BodyTree) → Adds inner in_body → Adds (listed_branch inner) in_listed
unfolding listed_branch
listed_adds inner h k =
    weighs_behind (λ states. weighs_token (λ t. weighs_then (h (k + 2)) (λ a n less.
    weighs_nothing (λ (b : BranchTree). k + in_listed b) n (record { states = states; body = a }) (omega (arith, less)))))

led_adds : (inner : Grammar BodyTree) → Adds inner in_body → Adds (led_branch inner) in_listed
unfolding led_branch
led_adds inner h k = weighs_behind (λ t. listed_adds inner h k)

others_adds : (inner : Grammar BodyTree) → Adds inner in_body → Adds (others_branch inner) in_body
unfolding others_branch
others_adds inner h k = weighs_behind (λ t. weighs_behind (λ u. h k))

last_branch_adds : (inner : Grammar BodyTree) → Adds inner in_body → Adds (last_branch inner) in_last
unfolding last_branch
last_branch_adds inner h k =
    weighs_or (weighs_token (λ t. weighs_then (others_adds inner h (k + 2)) (λ a n less. weighs_nothing (λ (o : Option BodyTree). k + in_last o) n (Some a) (omega (arith, less)))))
    (weighs_nothing (λ (o : Option BodyTree). k + in_last o) k None (omega arith))

branches_add : (inner : Grammar BodyTree) → Adds inner in_body → Adds (branches inner) in_branches
unfolding branches
branches_add inner h k =
    weighs_then (adds_list (led_branch inner) in_listed (led_adds inner h) k) (λ all n less. weighs_then (last_branch_adds inner h n) (λ last p less2.
    weighs_nothing (λ (b : BranchesTree). k + in_branches b) p (branches_of all last) (let whole = in_case all last in omega (arith, whole, less, less2))))

behind_case_adds : (line : ℕ) (inner : Grammar BodyTree) → Adds inner in_body → Adds (behind_case line inner) in_statement
unfolding behind_case
behind_case_adds line inner h k =
    weighs_behind (λ name. weighs_behind (λ u. weighs_then (branches_add inner h k) (λ all n less. weighs_behind (λ v. weighs_behind (λ w. weighs_behind (λ x.
    weighs_nothing (λ (st : StatementTree). k + in_statement st) n (selected line name all) less))))))

case_adds : (room : ℕ) (inner : Grammar BodyTree) → Adds inner in_body → Adds (case_statement room inner) in_statement
unfolding case_statement
case_adds room inner h k = weighs_behind (λ t. behind_case_adds t.line inner h k)

-- ---- bodies

assertion_adds : (room : ℕ) → Adds (assertion room) in_statement
unfolding assertion
assertion_adds room k =
    weighs_behind (λ t. weighs_behind (λ e. weighs_behind (λ r. weighs_behind (λ s. weighs_behind (λ u.
    weighs_nothing (λ (st : StatementTree). k + in_statement st) k (asserted e) (omega arith))))))

assignment_adds : (room : ℕ) → Adds (assignment room) in_statement
unfolding assignment
assignment_adds room k =
    weighs_behind (λ x. weighs_behind (λ t. weighs_behind (λ e. weighs_behind (λ u.
    weighs_nothing (λ (st : StatementTree). k + in_statement st) k (assigned x e.0 e.1) (omega arith)))))

statement_adds : (room : ℕ) (inner : Grammar BodyTree) → Adds inner in_body → Adds (statement room inner) in_statement
unfolding statement
statement_adds room inner h =
    adds_or (assertion room) _ in_statement (assertion_adds room)
    (adds_or (conditional room inner) _ in_statement (conditional_adds room inner h) (adds_or (case_statement room inner) (assignment room) in_statement (case_adds room inner h) (assignment_adds room)))

over_adds : (room : ℕ) (inner : Grammar BodyTree) → Adds inner in_body → Adds (body_over room inner) in_body
unfolding body_over
over_adds room inner h k =
    weighs_then (adds_list (statement room inner) in_statement (statement_adds room inner h) k) (λ all n less.
    weighs_nothing (λ (b : BodyTree). k + in_body b) n (body_of all) (let whole = in_all all in omega (arith, whole, less)))

nested_adds : (deeper room : ℕ) → Adds (nested deeper room) in_body
unfolding nested
nested_adds zero room = over_adds room none (λ k. record { each = λ items v h. elim h [ ] })
nested_adds (suc deeper) room = over_adds room (nested deeper (less_room room)) (nested_adds deeper (less_room room))

body_adds : (room : ℕ) → Adds (body room) in_body
body_adds room k = record { each = λ items v h. (nested_adds h.level room k).each items v h.sentence }

-- ---- whole texts

step_adds : (room : ℕ) → Adds (step_process room) (λ p. in_body p.body)
unfolding step_process
step_adds room k =
    weighs_behind (λ name. weighs_behind (λ names. weighs_then (body_adds room k) (λ all n less. weighs_behind (λ t. weighs_behind (λ u.
    weighs_nothing (λ (p : StepTree). k + in_body p.body) n (record { sensitivity = names; body = all; end_line = t.line }) less)))))

processes_add : (room : ℕ) → Adds (processes room) (λ both. in_body both.0.body)
unfolding processes
processes_add room k =
    weighs_behind (λ t. weighs_then (step_adds room k) (λ step n less. weighs_behind (λ clock. weighs_behind (λ u.
    weighs_nothing (λ (both : StepTree × ClockTree). k + in_body both.0.body) n (step, clock) less))))

architecture_adds : (room : ℕ) (e : Entity) → Adds (architecture room e) (λ m. in_body m.step.body)
unfolding architecture
architecture_adds room e k =
    weighs_behind (λ name. weighs_behind (λ states. weighs_behind (λ two. weighs_then (processes_add room k) (λ both n less. weighs_behind (λ u.
    weighs_nothing (λ (m : MachineTree). k + in_body m.step.body) n (record { entity = e; states = states; signals = two; step = both.0; clock = both.1 }) less)))))

machine_adds : (room : ℕ) → Adds (machine room) (λ m. in_body m.step.body)
unfolding machine
machine_adds room k = weighs_behind (λ e. architecture_adds room e k)

-- ---- bytes

-- the statements of a text have at most two signals for each byte
pub few_signals : (bytes : List ℕ) (m : MachineTree) → IsWritten bytes m → in_body m.step.body ≤ 2 * length bytes
few_signals bytes m w =
    let a = w.machine.read.0 in
    let each = (machine_adds DEPTH 0).each a.front m a.sentence in
    let tokens = ap (λ (ts : List PlacedToken). length ts) a.parts in
    let both = length-append (tokens_of a.front) w.machine.end.rest in
    let items = length_tokens a.front in
    let few = tokens_few bytes in
    omega (arith, each, tokens, both, items, few)
