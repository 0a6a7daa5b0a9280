-- Each reader of structural texts reads its grammar.
use Rattle.std.proofs.Common.{◌≡◌, ℕ, ◌-◌, ◌<◌, true, false, List, [], ◌∷◌, length, None, Some, Ok, refl}
use Rattle.vlsi_base.specs.declared.entity.Entity.{Entity}
use Rattle.vlsi_base.specs.declared.entity.NewName.{NewName}
use Rattle.vlsi_base.specs.declared.entity.PortGroup.{PortGroup}
use Rattle.vhdl_token.specs.declared.keyword.Keyword.{Keyword}
use Rattle.vhdl_token.specs.declared.keyword.Keyword.TheVariants as word
use Rattle.vhdl_token.specs.declared.token.Sign.TheVariants as sign
use Rattle.grammar_theory.specs.declared.form.Form.{Form}
use Rattle.grammar_theory.specs.declared.form.Form.TheVariants as form
use Rattle.grammar_theory.specs.Tokens.{code}
use Rattle.grammar_theory.specs.Marks.{opens, enters}
use Rattle.grammar_theory.specs.Grammar.{nothing, ◌or◌}
use Rattle.grammar_theory.specs.Outcome.{At}
use Rattle.grammar_theory.specs.Answers.{Answers}
use Rattle.grammar_theory.proofs.Sets.{Set}
use Rattle.grammar_theory.proofs.Bundle.{exact_nothing, exact_one, exact_marked, exact_then, exact_behind, within}
use Rattle.grammar_theory.proofs.Many.{exact_list}
use Rattle.vhdl_front.specs.Cursor.{name_of}
use Rattle.vhdl_front.specs.Entity.{new_name}
use Rattle.vhdl_front.proofs.Language.{numbers, exact_number, exact_closing}
use Rattle.vhdl_front.proofs.EntityLanguage.{Language, exact_led_names, exact_port_type, exact_closed, exact_port_behind, exact_entity, item_consumes}
use Rattle.vbe_text.proofs.VbeLanguage.{exact_target, exact_repeated, exact_architecture_head}
use Rattle.vst_text.specs.declared.file.Component.{Component}
use Rattle.vst_text.specs.declared.file.Declaration.{Declaration}
use Rattle.vst_text.specs.declared.file.Declaration.TheVariants as declares
use Rattle.vst_text.specs.declared.file.Association.{Association}
use Rattle.vst_text.specs.declared.file.InstanceStatement.{InstanceStatement}
use Rattle.vst_text.specs.Vst.{among_components, among_instances, bare_name, another_bare, led_bare, own_bare, component_port, next_component_port, component_ports, component, signal, declaration, index, pin, association, next_association, port_map, instance_statement, instance_statements, architecture, structure}
use Rattle.vst_text.specs.VstReading.{bare_name_at, another_bare_at, led_bare_at, own_bare_at, bare_names_at, component_port_at, next_component_port_at, opened_ports_at, component_ports_at, component_end_at, component_behind_at, component_at, signal_at, new_component_at, declared_signals_at, declaration_at, declaration_list_at, opened_index_at, index_at, pin_at, association_at, next_association_at, associations_at, port_map_at, instance_statement_at, instance_list_at, instance_statements_at, architecture_at, structure_at}

abbrev paren : Form
paren = form.Sign sign.LeftParen

abbrev close : Form
close = form.Sign sign.RightParen

abbrev semicolon : Form
semicolon = form.Sign sign.Semicolon

abbrev colon : Form
colon = form.Sign sign.Colon

abbrev comma : Form
comma = form.Sign sign.Comma

-- ---- components

exact_bare_name : Language bare_name false (numbers (form.Identifier ∷ [])) [] bare_name_at
unfolding bare_name bare_name_at
exact_bare_name = exact_then (exact_one form.Identifier) (λ t. exact_nothing (new_name t)) refl

exact_another_bare : Language another_bare false (numbers (comma ∷ [])) [] another_bare_at
unfolding another_bare another_bare_at
exact_another_bare = exact_then (exact_one comma) (λ t. exact_bare_name) refl

abbrev names_lasts : Set
names_lasts = numbers (comma ∷ [])

exact_led_bare : (w : Keyword) → Language (led_bare w) false (code (form.Keyword w) ∷ []) names_lasts (led_bare_at w)
unfolding led_bare led_bare_at
exact_led_bare w = exact_then (exact_one (form.Keyword w)) (λ t. exact_then exact_bare_name (λ first. exact_then (exact_list exact_another_bare refl) (λ others. exact_nothing (t.line, first ∷ others)) refl) refl) refl

exact_own_bare : Language own_bare false (numbers (form.Identifier ∷ [])) names_lasts own_bare_at
unfolding own_bare own_bare_at
exact_own_bare = exact_then exact_bare_name (λ first. exact_then (exact_list exact_another_bare refl) (λ others. exact_nothing (first.line, first ∷ others)) refl) refl

abbrev port_firsts : Set
port_firsts = numbers (form.Keyword word.Signal ∷ form.Identifier ∷ [])

exact_bare_names : Language (led_bare word.Signal or own_bare) false port_firsts names_lasts bare_names_at
unfolding bare_names_at
exact_bare_names = within port_firsts names_lasts (exact_behind (form.Keyword word.Signal) (exact_led_bare word.Signal) exact_own_bare refl) refl refl refl

abbrev port_lasts : Set
port_lasts = numbers (form.Keyword word.Bus ∷ [])

exact_component_port : (room : ℕ) → Language (component_port room) false port_firsts port_lasts (component_port_at room)
unfolding component_port component_port_at
exact_component_port room = exact_then exact_bare_names (λ n. exact_port_behind room n) refl

exact_next_port : (room : ℕ) → Language (next_component_port room) false (numbers (semicolon ∷ [])) port_lasts (next_component_port_at room)
unfolding next_component_port next_component_port_at
exact_next_port room = exact_then (exact_one semicolon) (λ t. exact_component_port room) refl

exact_component_ports : (room : ℕ) → Language (component_ports room) false (numbers (form.Keyword word.Port ∷ [])) [] (component_ports_at room)
unfolding component_ports component_ports_at opened_ports_at
exact_component_ports room = exact_then (exact_one (form.Keyword word.Port)) (λ t. exact_then (exact_marked paren (λ _. opens room)) (λ u. exact_then (exact_component_port (room - 1)) (λ first. exact_then (exact_list (exact_next_port (room - 1)) refl) (λ others. exact_closed (first ∷ others)) refl) refl) refl) refl

exact_component : (room : ℕ) → Language (component room) false (numbers (form.Keyword word.Component ∷ [])) [] (component_at room)
unfolding component component_at component_behind_at component_end_at
exact_component room = exact_then (exact_one (form.Keyword word.Component)) (λ t.
    exact_then (exact_marked form.Identifier (λ u. enters among_components t.line (name_of u))) (λ u.
    exact_then (exact_component_ports room) (λ ports.
    exact_then (exact_one (form.Keyword word.End)) (λ v.
    exact_then (exact_one (form.Keyword word.Component)) (λ w.
    exact_then (exact_repeated (name_of u)) (λ x.
    exact_nothing (record { line = t.line; name = name_of u; ports = ports })) refl) refl) refl) refl) refl) refl

-- ---- signals

exact_signal : (room : ℕ) → Language (signal room) false (numbers (form.Keyword word.Signal ∷ [])) [] (signal_at room)
unfolding signal signal_at
exact_signal room = exact_then (exact_led_names word.Signal) (λ n. exact_then (exact_one colon) (λ t. exact_then (exact_port_type room (length n.1)) (λ kind. exact_then (exact_one semicolon) (λ u. exact_nothing (record { line = n.0; names = n.1; kind = kind })) refl) refl) refl) refl

abbrev declaration_firsts : Set
declaration_firsts = numbers (form.Keyword word.Component ∷ form.Keyword word.Signal ∷ [])

exact_declaration : (room : ℕ) → Language (declaration room) false declaration_firsts [] (declaration_at room)
unfolding declaration declaration_at new_component_at declared_signals_at
exact_declaration room = exact_behind (form.Keyword word.Component)
    (exact_then (exact_component room) (λ c. exact_nothing (declares.Component c)) refl)
    (exact_then (exact_signal room) (λ s. exact_nothing (declares.Signals s)) refl) refl

-- ---- instances

abbrev index_set : Set
index_set = numbers (paren ∷ [])

exact_index : (room : ℕ) → Language (index room) true index_set index_set (index_at room)
unfolding index index_at opened_index_at
exact_index room = exact_behind paren (exact_then (exact_marked paren (λ _. opens room)) (λ t. exact_then exact_number (λ n. exact_closing (Some n)) refl) refl) (exact_nothing None) refl

exact_pin : (room : ℕ) → Language (pin room) false (numbers (form.Identifier ∷ [])) index_set (pin_at room)
unfolding pin pin_at
exact_pin room = exact_then (exact_one form.Identifier) (λ t. exact_then (exact_index room) (λ b. exact_nothing (record { text = name_of t; bit = b; line = t.line })) refl) refl

exact_association : (room : ℕ) → Language (association room) false (numbers (form.Identifier ∷ [])) index_set (association_at room)
unfolding association association_at
exact_association room = exact_then (exact_pin room) (λ p. exact_then (exact_one (form.Sign sign.Arrow)) (λ t. exact_then (exact_target room) (λ n. exact_nothing (record { pin = p; net = n })) refl) refl) refl

exact_next_association : (room : ℕ) → Language (next_association room) false (numbers (comma ∷ [])) index_set (next_association_at room)
unfolding next_association next_association_at
exact_next_association room = exact_then (exact_one comma) (λ t. exact_association room) refl

exact_port_map : (room : ℕ) → Language (port_map room) false (numbers (form.Keyword word.Port ∷ [])) [] (port_map_at room)
unfolding port_map port_map_at associations_at
exact_port_map room = exact_then (exact_one (form.Keyword word.Port)) (λ t.
    exact_then (exact_one (form.Keyword word.Map)) (λ u.
    exact_then (exact_marked paren (λ _. opens room)) (λ v.
    exact_then (exact_association (room - 1)) (λ first.
    exact_then (exact_list (exact_next_association (room - 1)) refl) (λ others.
    exact_then (exact_one close) (λ w.
    exact_then (exact_one semicolon) (λ x.
    exact_nothing (first ∷ others, w.line)) refl) refl) refl) refl) refl) refl) refl

exact_instance : (room : ℕ) → Language (instance_statement room) false (numbers (form.Identifier ∷ [])) [] (instance_statement_at room)
unfolding instance_statement instance_statement_at
exact_instance room = exact_then (exact_marked form.Identifier (λ t. enters among_instances t.line (name_of t))) (λ t.
    exact_then (exact_one colon) (λ u.
    exact_then (exact_one form.Identifier) (λ c.
    exact_then (exact_port_map room) (λ m.
    exact_nothing (record { label = name_of t; line = t.line; component = name_of c; component_line = c.line; associations = m.0; end_line = m.1 })) refl) refl) refl) refl

-- ---- the whole text

exact_instances : (room : ℕ) → Language (instance_statements room) false (numbers (form.Keyword word.Begin ∷ [])) [] (instance_statements_at room)
unfolding instance_statements instance_statements_at instance_list_at
exact_instances room = exact_then (exact_one (form.Keyword word.Begin)) (λ t. exact_then (exact_list (exact_instance room) refl) (λ all. exact_then (exact_one (form.Keyword word.End)) (λ u. exact_nothing all) refl) refl) refl

exact_architecture : (room : ℕ) (e : Entity) → Language (architecture room e) false (numbers (form.Keyword word.Architecture ∷ [])) [] (architecture_at room e)
unfolding architecture architecture_at declaration_list_at
exact_architecture room e = exact_then (exact_architecture_head e.name) (λ name. exact_then (exact_list (exact_declaration room) refl) (λ declared. exact_then (exact_instances room) (λ all. exact_then (exact_repeated name) (λ u. exact_nothing (record { entity = e; declarations = declared; instances = all })) refl) refl) refl) refl

pub exact_structure : (room : ℕ) → Language (structure room) false (numbers (form.Keyword word.Entity ∷ [])) [] (structure_at room)
unfolding structure structure_at
exact_structure room = exact_then (exact_entity room) (λ e. exact_architecture room e) refl

-- ---- items of lists take tokens

pub another_consumes : (here there : At) (v : NewName) → another_bare_at here ≡ Ok (v, there) → length there.rest < length here.rest
another_consumes here there v h = item_consumes another_bare (numbers (comma ∷ [])) [] another_bare_at exact_another_bare here there v h

pub next_port_consumes : (room : ℕ) (here there : At) (v : PortGroup) → next_component_port_at room here ≡ Ok (v, there) → length there.rest < length here.rest
next_port_consumes room here there v h = item_consumes (next_component_port room) (numbers (semicolon ∷ [])) port_lasts (next_component_port_at room) (exact_next_port room) here there v h

pub declaration_consumes : (room : ℕ) (here there : At) (v : Declaration) → declaration_at room here ≡ Ok (v, there) → length there.rest < length here.rest
declaration_consumes room here there v h = item_consumes (declaration room) declaration_firsts [] (declaration_at room) (exact_declaration room) here there v h

pub next_association_consumes : (room : ℕ) (here there : At) (v : Association) → next_association_at room here ≡ Ok (v, there) → length there.rest < length here.rest
next_association_consumes room here there v h = item_consumes (next_association room) (numbers (comma ∷ [])) index_set (next_association_at room) (exact_next_association room) here there v h

pub instance_consumes : (room : ℕ) (here there : At) (v : InstanceStatement) → instance_statement_at room here ≡ Ok (v, there) → length there.rest < length here.rest
instance_consumes room here there v h = item_consumes (instance_statement room) (numbers (form.Identifier ∷ [])) [] (instance_statement_at room) (exact_instance room) here there v h

pub structure_answers : (room : ℕ) (here : At) → Answers (structure room) here (structure_at room here)
structure_answers room here = ((exact_structure room).reads tt).answers here
