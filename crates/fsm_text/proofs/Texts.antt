-- Each reader of processes and of whole texts reads its grammar.
use Rattle.std.proofs.Common.{◌≡◌, ℕ, ◌-◌, true, false, List, [], ◌∷◌, Option, None, Some, refl}
use Rattle.vlsi_base.specs.declared.entity.Entity.{Entity}
use Rattle.vhdl_token.specs.declared.keyword.Keyword.TheVariants as word
use Rattle.vhdl_token.specs.declared.token.Sign.TheVariants as sign
use Rattle.grammar_theory.specs.declared.form.Form.{Form}
use Rattle.grammar_theory.specs.declared.form.Form.TheVariants as form
use Rattle.grammar_theory.specs.Marks.{starts, opens, spells}
use Rattle.grammar_theory.specs.Outcome.{At}
use Rattle.grammar_theory.specs.Answers.{Answers}
use Rattle.grammar_theory.proofs.Bundle.{exact_nothing, exact_one, exact_marked, exact_then, exact_behind, within}
use Rattle.grammar_theory.proofs.Many.{exact_list}
use Rattle.vhdl_front.specs.Cursor.{name_of}
use Rattle.vhdl_front.proofs.Language.{numbers}
use Rattle.vhdl_front.proofs.EntityLanguage.{Language, exact_identifier, exact_declared, exact_another, exact_entity}
use Rattle.vbe_text.specs.VbeReading.{stop_at}
use Rattle.vbe_text.proofs.VbeLanguage.{exact_repeated, exact_architecture_head}
use Rattle.fsm_text.specs.Fsm.{label, process_head, label_again, process_end, step_process, load, loading, clock_process, state_names, state_type, of_type, state_signals, processes, architecture, machine}
use Rattle.fsm_text.specs.FsmReading.{led_label_at, label_at, process_head_at, label_again_at, process_end_at, step_process_at, load_at, loading_at, clock_process_at, state_names_at, state_type_at, of_type_at, state_signals_at, processes_at, architecture_at, machine_at}
use Rattle.fsm_text.proofs.FsmLanguage.{exact_used_name, exact_sensitivity, exact_condition, if_word, semicolon}
use Rattle.fsm_text.proofs.Nested.{exact_body}

abbrev paren : Form
paren = form.Sign sign.LeftParen

abbrev end : Form
end = form.Keyword word.End

abbrev process : Form
process = form.Keyword word.Process

-- ---- processes

exact_label : Language label true (numbers (form.Identifier ∷ [])) (numbers (form.Identifier ∷ [])) label_at
unfolding label label_at led_label_at
exact_label = exact_behind form.Identifier (exact_then exact_identifier (λ name. exact_then (exact_one (form.Sign sign.Colon)) (λ t. exact_nothing (Some name)) refl) refl) (exact_nothing None) refl

exact_process_head : (room : ℕ) → Language (process_head room) false (numbers (process ∷ [])) [] (process_head_at room)
unfolding process_head process_head_at
exact_process_head room = exact_then (exact_one process) (λ t. exact_then (exact_sensitivity room) (λ names. exact_then (exact_one (form.Keyword word.Begin)) (λ u. exact_nothing names) refl) refl) refl

exact_process_end : (name : Option (List ℕ)) → Language (process_end name) false (numbers (process ∷ [])) [] (process_end_at name)
unfolding process_end process_end_at label_again label_again_at stop_at
exact_process_end None = exact_then (exact_one process) (λ t. exact_then (exact_one semicolon) (λ u. exact_nothing tt) refl) refl
exact_process_end (Some name) = exact_then (exact_one process) (λ t. exact_repeated name) refl

exact_step_process : (room : ℕ) → Language (step_process room) false (numbers (form.Identifier ∷ process ∷ [])) [] (step_process_at room)
unfolding step_process step_process_at
exact_step_process room = exact_then exact_label (λ name. exact_then (exact_process_head room) (λ names. exact_then (exact_body room) (λ all. exact_then (exact_one end)
    (λ t. exact_then (exact_process_end name) (λ u. exact_nothing (record { sensitivity = names; body = all; end_line = t.line })) refl) refl) refl) refl) refl

exact_load : Language load false (numbers (form.Identifier ∷ [])) [] load_at
unfolding load load_at
exact_load = exact_then exact_used_name (λ into. exact_then (exact_one (form.Sign sign.Assign)) (λ t. exact_then exact_used_name
    (λ from. exact_then (exact_one semicolon) (λ u. exact_nothing (into, from)) refl) refl) refl) refl

exact_loading : (name : Option (List ℕ)) → Language (loading name) false (numbers (form.Keyword word.Then ∷ [])) [] (loading_at name)
unfolding loading loading_at
exact_loading name = exact_then (exact_marked (form.Keyword word.Then) (λ _. starts)) (λ t. exact_then exact_load (λ l. exact_then (exact_one end) (λ v. exact_then (exact_one if_word)
    (λ w. exact_then (exact_one semicolon) (λ x. exact_then (exact_one end) (λ y. exact_then (exact_process_end name) (λ z. exact_nothing l) refl) refl) refl) refl) refl) refl) refl

exact_clock_process : (room : ℕ) → Language (clock_process room) false (numbers (form.Identifier ∷ process ∷ [])) [] (clock_process_at room)
unfolding clock_process clock_process_at
exact_clock_process room = exact_then exact_label (λ name. exact_then (exact_process_head room) (λ names. exact_then (exact_marked if_word (λ _. opens room))
    (λ t. exact_then (exact_condition (room - 1)) (λ c. exact_then (exact_loading name)
    (λ l. exact_nothing (record { sensitivity = names; condition_line = c.0; condition = c.1; target = l.0; value = l.1 })) refl) refl) refl) refl) refl

-- ---- the whole text

exact_state_names : (room line : ℕ) → Language (state_names room line) false (numbers (paren ∷ [])) [] (state_names_at room line)
unfolding state_names state_names_at
exact_state_names room line = exact_then (exact_marked paren (λ _. opens room)) (λ t. exact_then (exact_declared line) (λ first. exact_then (exact_list (exact_another line) refl)
    (λ more. exact_then (exact_one (form.Sign sign.RightParen)) (λ u. exact_then (exact_one semicolon) (λ v. exact_nothing (first ∷ more)) refl) refl) refl) refl) refl

exact_state_type : (room : ℕ) → Language (state_type room) false (numbers (form.Keyword word.Type ∷ [])) [] (state_type_at room)
unfolding state_type state_type_at
exact_state_type room = exact_then (exact_one (form.Keyword word.Type)) (λ t. exact_then (exact_declared t.line) (λ name. exact_then (exact_one (form.Keyword word.Is))
    (λ u. exact_then (exact_state_names room t.line) (λ all. exact_nothing (record { line = t.line; name = name; states = all })) refl) refl) refl) refl

exact_of_type : (name : List ℕ) → Language (of_type name) false (numbers (form.Sign sign.Colon ∷ [])) [] (of_type_at name)
unfolding of_type of_type_at stop_at
exact_of_type name = exact_then (exact_one (form.Sign sign.Colon)) (λ u. exact_then (exact_marked form.Identifier (λ v. spells name (name_of v))) (λ v. exact_then (exact_one semicolon) (λ w. exact_nothing tt) refl) refl) refl

exact_state_signals : (name : List ℕ) → Language (state_signals name) false (numbers (form.Keyword word.Signal ∷ [])) [] (state_signals_at name)
unfolding state_signals state_signals_at
exact_state_signals name = exact_then (exact_one (form.Keyword word.Signal)) (λ t. exact_then (exact_declared t.line) (λ first. exact_then (exact_another t.line)
    (λ second. exact_then (exact_of_type name) (λ u. exact_nothing (record { line = t.line; first = first; second = second })) refl) refl) refl) refl

exact_processes : (room : ℕ) → Language (processes room) false (numbers (form.Keyword word.Begin ∷ [])) [] (processes_at room)
unfolding processes processes_at
exact_processes room = exact_then (exact_one (form.Keyword word.Begin)) (λ t. exact_then (exact_step_process room) (λ step. exact_then (exact_clock_process room)
    (λ clock. exact_then (exact_one end) (λ u. exact_nothing (step, clock)) refl) refl) refl) refl

exact_architecture : (room : ℕ) (e : Entity) → Language (architecture room e) false (numbers (form.Keyword word.Architecture ∷ [])) [] (architecture_at room e)
unfolding architecture architecture_at
exact_architecture room e = exact_then (exact_architecture_head e.name) (λ name. exact_then (exact_state_type room) (λ states. exact_then (exact_state_signals states.name.text)
    (λ signals. exact_then (exact_processes room) (λ both. exact_then (exact_repeated name)
    (λ u. exact_nothing (record { entity = e; states = states; signals = signals; step = both.0; clock = both.1 })) refl) refl) refl) refl) refl

pub exact_machine : (room : ℕ) → Language (machine room) false (numbers (form.Keyword word.Entity ∷ [])) [] (machine_at room)
unfolding machine machine_at
exact_machine room = exact_then (exact_entity room) (λ e. exact_architecture room e) refl

pub machine_answers : (room : ℕ) (here : At) → Answers (machine room) here (machine_at room here)
machine_answers room here = ((exact_machine room).reads tt).answers here
