-- Each reader of data-flow texts reads its grammar.
use Rattle.std.proofs.Common.{◌≡◌, ℕ, ◌-◌, ◌<◌, true, false, List, [], ◌∷◌, length, Ok, refl}
use Rattle.vlsi_base.specs.declared.entity.Entity.{Entity}
use Rattle.vhdl_token.specs.declared.keyword.Keyword.TheVariants as word
use Rattle.vhdl_token.specs.declared.token.Sign.TheVariants as sign
use Rattle.vhdl_token.specs.declared.token.PlacedToken.{PlacedToken}
use Rattle.grammar_theory.specs.declared.form.Form.{Form}
use Rattle.grammar_theory.specs.declared.form.Form.TheVariants as form
use Rattle.grammar_theory.specs.Tokens.{code}
use Rattle.grammar_theory.specs.Marks.{starts, chooses, again, opens, spells}
use Rattle.grammar_theory.specs.Grammar.{placed}
use Rattle.grammar_theory.specs.Outcome.{At, placed_at}
use Rattle.grammar_theory.specs.Answers.{Answers}
use Rattle.grammar_theory.proofs.Sets.{Set}
use Rattle.grammar_theory.proofs.Bundle.{exact_nothing, exact_one, exact_marked, exact_then, exact_behind, within}
use Rattle.grammar_theory.proofs.Many.{exact_list}
use Rattle.grammar_theory.proofs.Placed.{exact_placed}
use Rattle.vhdl_front.specs.Cursor.{name_of}
use Rattle.vhdl_front.specs.Expression.{expression}
use Rattle.vhdl_front.specs.Reading.{expression_at}
use Rattle.vhdl_front.proofs.Language.{numbers, exact_number, exact_direction, exact_closing, factor_firsts, expression_lasts}
use Rattle.vhdl_front.proofs.Nested.{exact_expression}
use Rattle.vhdl_front.proofs.EntityLanguage.{Language, exact_identifier, exact_entity, exact_declarations, item_consumes}
use Rattle.source_checks.specs.declared.statement.Selection.TheVariants as selection
use Rattle.vbe_text.specs.Source.{AssignmentTree, StatementTree, asserted, assigned, blocked, FurtherTree}
use Rattle.vbe_text.specs.Vbe.{choice_of, selected, selecting, target_behind, target, further, choice, delay, value, text, report, severity, remarks, assertion, assignment, guarded_assignment, guarded_assignments, guard, repeated, block, labelled, statement, statements, belonging, architecture_head, architecture, source}
use Rattle.vbe_text.specs.VbeReading.{range_at, selected_at, opened_at, selecting_at, target_behind_at, target_at, further_at, choice_at, delayed_at, delay_at, value_at, text_at, reported_at, report_at, severe_at, severity_at, remarks_at, assertion_at, assignment_at, guarded_assignment_at, guarded_list_at, guarded_assignments_at, guard_at, stop_at, named_stop_at, repeated_at, block_at, plain_at, unlabelled_at, labelled_at, named_at, statement_at, statement_list_at, statements_at, belonging_at, architecture_head_at, architecture_at, source_at}

abbrev paren : Form
paren = form.Sign sign.LeftParen

abbrev semicolon : Form
semicolon = form.Sign sign.Semicolon

abbrev colon : Form
colon = form.Sign sign.Colon

abbrev becomes : Form
becomes = form.Sign sign.Assign

-- ---- targets

exact_selected : (line : ℕ) → Language (selected line) false (numbers (form.Number ∷ [])) [] (selected_at line)
unfolding selected selected_at range_at
exact_selected line = exact_then exact_number (λ left. exact_behind (form.Sign sign.RightParen) (exact_closing (selection.Bit left))
    (exact_then exact_direction (λ falls. exact_then exact_number (λ right. exact_closing (selection.Bits (record { left = left; falls = falls; right = right; line = line }))) refl) refl) refl) refl

exact_selecting : (room : ℕ) → Language (selecting room) true (numbers (paren ∷ [])) (numbers (paren ∷ [])) (selecting_at room)
unfolding selecting selecting_at opened_at
exact_selecting room = exact_behind paren (exact_then (exact_marked paren (λ _. opens room)) (λ t. exact_selected t.line) refl) (exact_nothing selection.Whole) refl

exact_target_behind : (room : ℕ) (t : PlacedToken) → Language (target_behind room t) true (numbers (paren ∷ [])) (numbers (paren ∷ [])) (target_behind_at room t)
unfolding target_behind target_behind_at
exact_target_behind room t = exact_then (exact_selecting room) (λ s. exact_nothing (record { name = name_of t; line = t.line; selection = s })) refl

pub exact_target : (room : ℕ) → Language (target room) false (numbers (form.Identifier ∷ [])) (numbers (paren ∷ [])) (target_at room)
unfolding target target_at
exact_target room = exact_then (exact_one form.Identifier) (λ t. exact_target_behind room t) refl

-- ---- choices

exact_condition : (room : ℕ) → Language (placed (expression room)) false factor_firsts expression_lasts (placed_at (expression_at room))
exact_condition room = exact_placed (exact_expression room)

exact_further : (room : ℕ) → Language (further room) false (numbers (form.Keyword word.When ∷ [])) expression_lasts (further_at room)
unfolding further further_at
exact_further room = exact_then (exact_marked (form.Keyword word.When) (λ _. starts)) (λ t. exact_then (exact_condition room) (λ c. exact_then (exact_marked (form.Keyword word.Else) (λ _. again)) (λ u. exact_then (exact_expression room) (λ v. exact_nothing (record { condition = c.1; line = c.0; value = v })) refl) refl) refl) refl

abbrev choice_lasts : Set
choice_lasts = code (form.Keyword word.When) ∷ expression_lasts

exact_choice : (room : ℕ) → Language (choice room) false factor_firsts choice_lasts (choice_at room)
unfolding choice choice_at
exact_choice room = within factor_firsts choice_lasts (exact_then (exact_expression room) (λ first. exact_then (exact_list (exact_further room) refl) (λ others. exact_nothing (choice_of first others)) refl) refl) refl refl refl

abbrev delays : Set
delays = numbers (form.Keyword word.After ∷ [])

exact_delay : Language delay true delays delays delay_at
unfolding delay delay_at delayed_at
exact_delay = exact_behind (form.Keyword word.After) (exact_then (exact_one (form.Keyword word.After)) (λ t. exact_then exact_number (λ n. exact_then (exact_one form.Identifier) (λ u. exact_nothing tt) refl) refl) refl) (exact_nothing tt) refl

exact_value : (room : ℕ) → Language (value room) false factor_firsts [] (value_at room)
unfolding value value_at
exact_value room = exact_then (exact_choice room) (λ c. exact_then exact_delay (λ d. exact_then (exact_one semicolon) (λ t. exact_nothing c) refl) refl) refl

-- ---- statements

exact_text : Language text false (numbers (form.BitText ∷ form.OtherText ∷ [])) [] text_at
unfolding text text_at
exact_text = exact_behind form.BitText (exact_one form.BitText) (exact_one form.OtherText) refl

abbrev reports : Set
reports = numbers (form.Keyword word.Report ∷ [])

exact_report : Language report true reports reports report_at
unfolding report report_at reported_at
exact_report = exact_behind (form.Keyword word.Report) (exact_then (exact_one (form.Keyword word.Report)) (λ t. exact_then exact_text (λ u. exact_nothing tt) refl) refl) (exact_nothing tt) refl

abbrev severities : Set
severities = numbers (form.Keyword word.Severity ∷ [])

exact_severity : Language severity true severities severities severity_at
unfolding severity severity_at severe_at
exact_severity = exact_behind (form.Keyword word.Severity) (exact_then (exact_one (form.Keyword word.Severity)) (λ t. exact_then (exact_one form.Identifier) (λ u. exact_nothing tt) refl) refl) (exact_nothing tt) refl

exact_remarks : Language remarks false (numbers (form.Keyword word.Report ∷ form.Keyword word.Severity ∷ semicolon ∷ [])) [] remarks_at
unfolding remarks remarks_at
exact_remarks = exact_then exact_report (λ r. exact_then exact_severity (λ s. exact_then (exact_one semicolon) (λ t. exact_nothing tt) refl) refl) refl

abbrev assert : Form
assert = form.Keyword word.Assert

exact_assertion : (room : ℕ) → Language (assertion room) false (numbers (assert ∷ [])) [] (assertion_at room)
unfolding assertion assertion_at
exact_assertion room = exact_then (exact_marked assert (λ _. starts)) (λ t. exact_then (exact_expression room) (λ e. exact_then exact_remarks (λ r. exact_nothing (asserted e)) refl) refl) refl

exact_assignment : (room : ℕ) (t : PlacedToken) → Language (assignment room t) false (numbers (paren ∷ becomes ∷ [])) [] (assignment_at room t)
unfolding assignment assignment_at
exact_assignment room t = exact_then (exact_target_behind room t) (λ x. exact_then (exact_marked becomes (λ _. chooses)) (λ u. exact_then (exact_value room) (λ c. exact_nothing (assigned (record { target = x; choice = c }))) refl) refl) refl

-- ---- blocks

exact_guarded_assignment : (room : ℕ) → Language (guarded_assignment room) false (numbers (form.Identifier ∷ [])) [] (guarded_assignment_at room)
unfolding guarded_assignment guarded_assignment_at
exact_guarded_assignment room = exact_then (exact_target room) (λ x. exact_then (exact_one becomes) (λ t. exact_then (exact_marked (form.Keyword word.Guarded) (λ _. chooses)) (λ u. exact_then (exact_value room) (λ c. exact_nothing (record { target = x; choice = c })) refl) refl) refl) refl

exact_guarded_assignments : (room : ℕ) → Language (guarded_assignments room) false (numbers (form.Keyword word.Begin ∷ [])) [] (guarded_assignments_at room)
unfolding guarded_assignments guarded_assignments_at guarded_list_at
exact_guarded_assignments room = exact_then (exact_one (form.Keyword word.Begin)) (λ t. exact_then (exact_list (exact_guarded_assignment room) refl) (λ all. exact_then (exact_one (form.Keyword word.End)) (λ u. exact_nothing all) refl) refl) refl

exact_guard : (room : ℕ) → Language (guard room) false (numbers (form.Keyword word.Block ∷ [])) [] (guard_at room)
unfolding guard guard_at
exact_guard room = exact_then (exact_marked (form.Keyword word.Block) (λ _. starts)) (λ t. exact_then (exact_marked paren (λ _. opens room)) (λ u. exact_then (exact_condition (room - 1)) (λ e. exact_closing e) refl) refl) refl

pub exact_repeated : (name : List ℕ) → Language (repeated name) false (numbers (form.Identifier ∷ semicolon ∷ [])) [] (repeated_at name)
unfolding repeated repeated_at named_stop_at stop_at
exact_repeated name = exact_behind form.Identifier
    (exact_then (exact_marked form.Identifier (λ t. spells name (name_of t))) (λ t. exact_then (exact_one semicolon) (λ u. exact_nothing tt) refl) refl)
    (exact_then (exact_one semicolon) (λ u. exact_nothing tt) refl) refl

exact_block : (room : ℕ) (label : List ℕ) → Language (block room label) false (numbers (form.Keyword word.Block ∷ [])) [] (block_at room label)
unfolding block block_at
exact_block room label = exact_then (exact_guard room) (λ g. exact_then (exact_guarded_assignments room) (λ all. exact_then (exact_one (form.Keyword word.Block)) (λ t. exact_then (exact_repeated label) (λ u. exact_nothing (blocked (record { guard = g.1; line = g.0; assignments = all }))) refl) refl) refl) refl

-- ---- the whole text

exact_labelled : (room : ℕ) (label : List ℕ) → Language (labelled room label) false (numbers (colon ∷ [])) [] (labelled_at room label)
unfolding labelled labelled_at unlabelled_at plain_at
exact_labelled room label = exact_then (exact_one colon) (λ t.
    exact_behind assert (exact_assertion room)
    (exact_behind (form.Keyword word.Block) (exact_block room label)
    (exact_then (exact_one form.Identifier) (λ u. exact_assignment room u) refl) refl) refl) refl

abbrev statement_firsts : Set
statement_firsts = numbers (assert ∷ form.Identifier ∷ [])

exact_statement : (room : ℕ) → Language (statement room) false statement_firsts [] (statement_at room)
unfolding statement statement_at named_at
exact_statement room = exact_behind assert (exact_assertion room)
    (exact_then (exact_one form.Identifier) (λ t. exact_behind colon (exact_labelled room (name_of t)) (exact_assignment room t) refl) refl) refl

exact_statements : (room : ℕ) → Language (statements room) false (numbers (form.Keyword word.Begin ∷ [])) [] (statements_at room)
unfolding statements statements_at statement_list_at
exact_statements room = exact_then (exact_one (form.Keyword word.Begin)) (λ t. exact_then (exact_list (exact_statement room) refl) (λ all. exact_then (exact_one (form.Keyword word.End)) (λ u. exact_nothing all) refl) refl) refl

exact_belonging : (name : List ℕ) → Language (belonging name) false (numbers (form.Keyword word.Of ∷ [])) [] (belonging_at name)
unfolding belonging belonging_at
exact_belonging name = exact_then (exact_one (form.Keyword word.Of)) (λ t. exact_then (exact_marked form.Identifier (λ u. spells name (name_of u))) (λ u. exact_then (exact_one (form.Keyword word.Is)) (λ w. exact_nothing tt) refl) refl) refl

pub exact_architecture_head : (name : List ℕ) → Language (architecture_head name) false (numbers (form.Keyword word.Architecture ∷ [])) [] (architecture_head_at name)
unfolding architecture_head architecture_head_at
exact_architecture_head name = exact_then (exact_one (form.Keyword word.Architecture)) (λ t. exact_then exact_identifier (λ own. exact_then (exact_belonging name) (λ u. exact_nothing own) refl) refl) refl

exact_architecture : (room : ℕ) (e : Entity) → Language (architecture room e) false (numbers (form.Keyword word.Architecture ∷ [])) [] (architecture_at room e)
unfolding architecture architecture_at
exact_architecture room e = exact_then (exact_architecture_head e.name) (λ name. exact_then (exact_declarations room) (λ d. exact_then (exact_statements room) (λ all. exact_then (exact_repeated name) (λ u. exact_nothing (record { entity = e; declarations = d; statements = all })) refl) refl) refl) refl

pub exact_source : (room : ℕ) → Language (source room) false (numbers (form.Keyword word.Entity ∷ [])) [] (source_at room)
unfolding source source_at
exact_source room = exact_then (exact_entity room) (λ e. exact_architecture room e) refl

-- ---- items of lists take tokens

pub further_consumes : (room : ℕ) (here there : At) (v : FurtherTree) → further_at room here ≡ Ok (v, there) → length there.rest < length here.rest
further_consumes room here there v h = item_consumes (further room) (numbers (form.Keyword word.When ∷ [])) expression_lasts (further_at room) (exact_further room) here there v h

pub guarded_assignment_consumes : (room : ℕ) (here there : At) (v : AssignmentTree) → guarded_assignment_at room here ≡ Ok (v, there) → length there.rest < length here.rest
guarded_assignment_consumes room here there v h = item_consumes (guarded_assignment room) (numbers (form.Identifier ∷ [])) [] (guarded_assignment_at room) (exact_guarded_assignment room) here there v h

pub statement_consumes : (room : ℕ) (here there : At) (v : StatementTree) → statement_at room here ≡ Ok (v, there) → length there.rest < length here.rest
statement_consumes room here there v h = item_consumes (statement room) statement_firsts [] (statement_at room) (exact_statement room) here there v h

pub source_answers : (room : ℕ) (here : At) → Answers (source room) here (source_at room here)
source_answers room here = ((exact_source room).reads tt).answers here
