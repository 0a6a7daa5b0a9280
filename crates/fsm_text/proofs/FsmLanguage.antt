-- Each reader of a part of a state machine reads its grammar. What may stand in an if or a case is a parameter.
use Rattle.std.proofs.Common.{◌≡◌, ℕ, ◌<◌, true, false, List, [], ◌∷◌, length, Option, None, Some, Ok, refl}
use Rattle.vlsi_base.specs.declared.entity.NewName.{NewName}
use Rattle.vhdl_token.specs.declared.keyword.Keyword.TheVariants as word
use Rattle.vhdl_token.specs.declared.token.Sign.TheVariants as sign
use Rattle.grammar_theory.specs.declared.form.Form.{Form}
use Rattle.grammar_theory.specs.declared.form.Form.TheVariants as form
use Rattle.grammar_theory.specs.Tokens.{code}
use Rattle.grammar_theory.specs.Marks.{starts, opens}
use Rattle.grammar_theory.specs.Grammar.{Grammar, placed}
use Rattle.grammar_theory.specs.Outcome.{At, Reader, placed_at}
use Rattle.grammar_theory.proofs.Sets.{Set}
use Rattle.grammar_theory.proofs.Bundle.{Exact, exact_nothing, exact_one, exact_marked, exact_then, exact_behind, within}
use Rattle.grammar_theory.proofs.Many.{exact_list}
use Rattle.grammar_theory.proofs.Placed.{exact_placed}
use Rattle.vhdl_front.specs.Entity.{new_name}
use Rattle.vhdl_front.specs.Expression.{expression}
use Rattle.vhdl_front.specs.Reading.{expression_at}
use Rattle.vhdl_front.proofs.Language.{numbers, exact_closing, factor_firsts, expression_lasts}
use Rattle.vhdl_front.proofs.Nested.{exact_expression}
use Rattle.vhdl_front.proofs.EntityLanguage.{Language, item_consumes}
use Rattle.vbe_text.specs.Vbe.{target, text, report, severity}
use Rattle.vbe_text.specs.VbeReading.{target_at, text_at, reported_at, report_at, severe_at, severity_at}
use Rattle.vbe_text.proofs.VbeLanguage.{exact_target}
use Rattle.fsm_text.specs.Written.{StatementTree, asserted, assigned, chosen, BodyTree, PartTree, BranchTree, parts_of, body_of}
use Rattle.fsm_text.specs.Fsm.{used_name, next_name, sensitivity, assertion, assignment, part, further_part, last_part, behind_if, next_state, listed_states, listed_branch}
use Rattle.fsm_text.specs.FsmReading.{used_name_at, next_name_at, listed_names_at, sensitivity_at, assertion_at, assignment_at, part_at, further_part_at, led_last_at, last_part_at, behind_if_at, next_state_at, listed_states_at, listed_branch_at}
use Rattle.fsm_text.proofs.Headed.{exact_headed}

abbrev paren : Form
paren = form.Sign sign.LeftParen

abbrev comma : Form
comma = form.Sign sign.Comma

abbrev bar : Form
bar = form.Sign sign.Bar

abbrev pub semicolon : Form
semicolon = form.Sign sign.Semicolon

-- the same under another premise
pub under : {P Q A : Type 0} {S B : Grammar A} {null : _} {f l : Set} {r : Reader A} → (Q → P) → Exact P S B null f l r → Exact Q S B null f l r
under from e = record { shape = e.shape; inside = λ q. e.inside (from q); reads = λ q. e.reads (from q); starts = λ q. e.starts (from q) }

-- ---- names

pub exact_used_name : {P : Type 0} → Exact P used_name used_name false (numbers (form.Identifier ∷ [])) [] used_name_at
unfolding used_name used_name_at
exact_used_name = exact_then (exact_one form.Identifier) (λ t. exact_nothing (new_name t)) refl

pub exact_next_name : {P : Type 0} → Exact P next_name next_name false (numbers (comma ∷ [])) [] next_name_at
unfolding next_name next_name_at
exact_next_name = exact_then (exact_one comma) (λ t. exact_used_name) refl

pub exact_sensitivity : (room : ℕ) → Language (sensitivity room) true (numbers (paren ∷ [])) (numbers (paren ∷ [])) (sensitivity_at room)
unfolding sensitivity sensitivity_at listed_names_at
exact_sensitivity room = exact_behind paren (exact_then (exact_marked paren (λ _. opens room)) (λ t. exact_then exact_used_name
    (λ first. exact_then (exact_list exact_next_name refl) (λ more. exact_closing (first ∷ more)) refl) refl) refl) (exact_nothing []) refl

-- ---- statements that hold none

abbrev pub assert : Form
assert = form.Keyword word.Assert

abbrev pub if_word : Form
if_word = form.Keyword word.If

abbrev pub case_word : Form
case_word = form.Keyword word.Case

abbrev pub body_firsts : Set
body_firsts = numbers (assert ∷ if_word ∷ case_word ∷ form.Identifier ∷ [])

exact_text : {P : Type 0} → Exact P text text false (numbers (form.BitText ∷ form.OtherText ∷ [])) [] text_at
unfolding text text_at
exact_text = exact_behind form.BitText (exact_one form.BitText) (exact_one form.OtherText) refl

abbrev reports : Set
reports = numbers (form.Keyword word.Report ∷ [])

exact_report : {P : Type 0} → Exact P report report true reports reports report_at
unfolding report report_at reported_at
exact_report = exact_behind (form.Keyword word.Report) (exact_then (exact_one (form.Keyword word.Report)) (λ t. exact_then exact_text (λ u. exact_nothing tt) refl) refl) (exact_nothing tt) refl

abbrev severities : Set
severities = numbers (form.Keyword word.Severity ∷ [])

exact_severity : {P : Type 0} → Exact P severity severity true severities severities severity_at
unfolding severity severity_at severe_at
exact_severity = exact_behind (form.Keyword word.Severity) (exact_then (exact_one (form.Keyword word.Severity)) (λ t. exact_then (exact_one form.Identifier) (λ u. exact_nothing tt) refl) refl) (exact_nothing tt) refl

pub exact_assertion : {P : Type 0} (room : ℕ) → Exact P (assertion room) (assertion room) false (numbers (assert ∷ [])) [] (assertion_at room)
unfolding assertion assertion_at
exact_assertion room = exact_then (exact_one assert) (λ t. exact_then (exact_expression room) (λ e. exact_then exact_report (λ r. exact_then exact_severity
    (λ s. exact_then (exact_marked semicolon (λ _. starts)) (λ u. exact_nothing (asserted e)) refl) refl) refl) refl) refl

pub exact_condition : {P : Type 0} (room : ℕ) → Exact P (placed (expression room)) (placed (expression room)) false factor_firsts expression_lasts (placed_at (expression_at room))
exact_condition room = exact_placed (exact_expression room)

pub exact_assignment : {P : Type 0} (room : ℕ) → Exact P (assignment room) (assignment room) false (numbers (form.Identifier ∷ [])) [] (assignment_at room)
unfolding assignment assignment_at
exact_assignment room = exact_then (under (λ _. tt) (exact_target room)) (λ x. exact_then (exact_one (form.Sign sign.Assign)) (λ t. exact_then (exact_headed (exact_expression room))
    (λ e. exact_then (exact_marked semicolon (λ _. starts)) (λ u. exact_nothing (assigned x e.0 e.1)) refl) refl) refl) refl

-- ---- ifs

-- a grammar of bodies within another, and its reader
abbrev pub Bodies : Type 0 → Grammar BodyTree → Grammar BodyTree → Reader BodyTree → Type 0
Bodies P SI BI r = Exact P SI BI true body_firsts body_firsts r

pub exact_part : {P : Type 0} (room : ℕ) (SI BI : Grammar BodyTree) {r : Reader BodyTree} → Bodies P SI BI r → Exact P (part room SI) (part room BI) false factor_firsts body_firsts (part_at room r)
unfolding part part_at
exact_part room SI BI e = within factor_firsts body_firsts (exact_then (exact_condition room) (λ c. exact_then (exact_marked (form.Keyword word.Then) (λ _. starts))
    (λ t. exact_then e (λ body. exact_nothing (record { line = c.0; condition = c.1; body = body })) refl) refl) refl) refl refl refl

abbrev pub elsif_word : Form
elsif_word = form.Keyword word.Elsif

pub exact_further_part : {P : Type 0} (room : ℕ) (SI BI : Grammar BodyTree) {r : Reader BodyTree} → Bodies P SI BI r → Exact P (further_part room SI) (further_part room BI) false (numbers (elsif_word ∷ [])) body_firsts (further_part_at room r)
unfolding further_part further_part_at
exact_further_part room SI BI e = within (numbers (elsif_word ∷ [])) body_firsts (exact_then (exact_one elsif_word) (λ t. exact_part room SI BI e) refl) refl refl refl

abbrev pub else_word : Form
else_word = form.Keyword word.Else

abbrev last_part_lasts : Set
last_part_lasts = numbers (else_word ∷ assert ∷ if_word ∷ case_word ∷ form.Identifier ∷ [])

exact_last_part : {P : Type 0} (SI BI : Grammar BodyTree) {r : Reader BodyTree} → Bodies P SI BI r → Exact P (last_part SI) (last_part BI) true (numbers (else_word ∷ [])) last_part_lasts (last_part_at r)
unfolding last_part last_part_at led_last_at
exact_last_part SI BI e = within (numbers (else_word ∷ [])) last_part_lasts (exact_behind else_word (exact_then (exact_one else_word) (λ t. exact_then e (λ body. exact_nothing (Some body)) refl) refl) (exact_nothing None) refl) refl refl refl

pub exact_behind_if : {P : Type 0} (room : ℕ) (SI BI : Grammar BodyTree) {r : Reader BodyTree} → Bodies P SI BI r → Exact P (behind_if room SI) (behind_if room BI) false factor_firsts [] (behind_if_at room r)
unfolding behind_if behind_if_at
exact_behind_if room SI BI e = exact_then (exact_part room SI BI e) (λ first. exact_then (exact_list (exact_further_part room SI BI e) refl)
    (λ more. exact_then (exact_last_part SI BI e) (λ last. exact_then (exact_one (form.Keyword word.End)) (λ u. exact_then (exact_one if_word)
    (λ v. exact_then (exact_one semicolon) (λ w. exact_nothing (chosen (parts_of first more last))) refl) refl) refl) refl) refl) refl

-- ---- branches

pub exact_next_state : {P : Type 0} → Exact P next_state next_state false (numbers (bar ∷ [])) [] next_state_at
unfolding next_state next_state_at
exact_next_state = exact_then (exact_one bar) (λ t. exact_used_name) refl

pub exact_listed_states : {P : Type 0} → Exact P listed_states listed_states false (numbers (form.Identifier ∷ [])) (numbers (bar ∷ [])) listed_states_at
unfolding listed_states listed_states_at
exact_listed_states = exact_then exact_used_name (λ first. exact_then (exact_list exact_next_state refl) (λ more. exact_nothing (first ∷ more)) refl) refl

pub exact_listed_branch : {P : Type 0} (SI BI : Grammar BodyTree) {r : Reader BodyTree} → Bodies P SI BI r → Exact P (listed_branch SI) (listed_branch BI) false (numbers (form.Identifier ∷ [])) body_firsts (listed_branch_at r)
unfolding listed_branch listed_branch_at
exact_listed_branch SI BI e = within (numbers (form.Identifier ∷ [])) body_firsts (exact_then exact_listed_states (λ states. exact_then (exact_one (form.Sign sign.Arrow))
    (λ t. exact_then e (λ body. exact_nothing (record { states = states; body = body })) refl) refl) refl) refl refl refl

-- ---- items of lists take tokens

pub next_name_consumes : (here there : At) (v : NewName) → next_name_at here ≡ Ok (v, there) → length there.rest < length here.rest
next_name_consumes here there v h = item_consumes next_name (numbers (comma ∷ [])) [] next_name_at exact_next_name here there v h

pub next_state_consumes : (here there : At) (v : NewName) → next_state_at here ≡ Ok (v, there) → length there.rest < length here.rest
next_state_consumes here there v h = item_consumes next_state (numbers (bar ∷ [])) [] next_state_at exact_next_state here there v h
