-- Each reader of entities and declarations reads its grammar.
use Rattle.std.proofs.Common.{◌++◌, ◌≡◌, ℕ, ◌-◌, ◌*◌, ◌<◌, Bool, true, false, List, [], ◌∷◌, length, Some, None, Ok, refl}
use Rattle.vlsi_base.specs.declared.entity.NewName.{NewName}
use Rattle.vlsi_base.specs.declared.entity.Generic.{Generic}
use Rattle.vlsi_base.specs.declared.entity.PortGroup.{PortGroup}
use Rattle.vlsi_base.specs.declared.entity.SignalGroup.{SignalGroup}
use Rattle.vlsi_base.specs.declared.entity.Mode.{Mode}
use Rattle.vlsi_base.specs.declared.entity.Mode.TheVariants as mode
use Rattle.vlsi_base.specs.declared.entity.TypeWord.{TypeWord}
use Rattle.vlsi_base.specs.declared.entity.TypeWord.TheVariants as type
use Rattle.vlsi_base.specs.declared.entity.SignalType.{SignalType}
use Rattle.vhdl_token.specs.declared.keyword.Keyword.{Keyword}
use Rattle.vhdl_token.specs.declared.keyword.Keyword.TheVariants as word
use Rattle.vhdl_token.specs.declared.token.Sign.TheVariants as sign
use Rattle.grammar_theory.specs.declared.form.Form.{Form}
use Rattle.grammar_theory.specs.declared.form.Form.TheVariants as form
use Rattle.grammar_theory.specs.Tokens.{code}
use Rattle.grammar_theory.specs.Marks.{opens, declares, counts, spells}
use Rattle.grammar_theory.specs.Grammar.{Grammar, nothing, ◌or◌}
use Rattle.grammar_theory.specs.Outcome.{At, Reader}
use Rattle.grammar_theory.specs.Answers.{Answers}
use Rattle.grammar_theory.proofs.Sets.{Set}
use Rattle.grammar_theory.proofs.Bundle.{Exact, exact_nothing, exact_one, exact_marked, exact_then, exact_behind, within}
use Rattle.grammar_theory.proofs.Many.{exact_list}
use Rattle.grammar_theory.proofs.Listing.{consumes}
use Rattle.vhdl_front.specs.Cursor.{name_of}
use Rattle.vhdl_front.specs.Entity.{Names, Moded, new_name, identifier, declared, declared_here, another, led_names, own_names, names, width, bounds, range, scalar, vector, port_type, registered, signal_type, default, generic, next_generic, closed, generic_clause, one_mode, port_mode, bus, port_behind, port, next_port, port_clause, entity_head, ending, entity, signal, declarations}
use Rattle.vhdl_front.specs.EntityReading.{identifier_at, declared_at, declared_here_at, another_at, led_names_at, own_names_at, names_at, bounds_at, range_at, scalar_at, vector_at, port_type_at, register_at, registered_at, signal_type_at, given_at, default_at, generic_at, next_generic_at, closed_at, generics_at, generic_clause_at, optional_generics_at, one_mode_at, port_mode_at, taken_bus_at, bus_at, port_behind_at, port_at, next_port_at, ports_at, port_clause_at, entity_head_at, stop_at, repeated_at, ending_at, entity_at, signal_at, signals_at, declarations_at}
use Rattle.vhdl_front.proofs.Language.{numbers, exact_number, exact_direction}

-- a grammar without levels, and its reader
abbrev pub Language : {A : Type 0} → Grammar A → Bool → Set → Set → Reader A → Type 0
Language G null f l r = Exact (Unit {0}) G G null f l r

pub exact_identifier : Language identifier false (numbers (form.Identifier ∷ [])) [] identifier_at
unfolding identifier identifier_at
exact_identifier = exact_then (exact_one form.Identifier) (λ t. exact_nothing (name_of t)) refl

abbrev pub comma : Form
comma = form.Sign sign.Comma

pub exact_declared : (line : ℕ) → Language (declared line) false (numbers (form.Identifier ∷ [])) [] (declared_at line)
unfolding declared declared_at
exact_declared line = exact_then (exact_marked form.Identifier (λ t. declares line (name_of t))) (λ t. exact_nothing (new_name t)) refl

pub exact_another : (line : ℕ) → Language (another line) false (numbers (comma ∷ [])) [] (another_at line)
unfolding another another_at
exact_another line = exact_then (exact_one comma) (λ t. exact_declared line) refl

abbrev names_lasts : Set
names_lasts = numbers (comma ∷ [])

pub exact_led_names : (w : Keyword) → Language (led_names w) false (code (form.Keyword w) ∷ []) names_lasts (led_names_at w)
unfolding led_names led_names_at
exact_led_names w = exact_then (exact_one (form.Keyword w)) (λ t. exact_then (exact_declared t.line) (λ first. exact_then (exact_list (exact_another t.line) refl) (λ others. exact_nothing (t.line, first ∷ others)) refl) refl) refl

exact_declared_here : Language declared_here false (numbers (form.Identifier ∷ [])) [] declared_here_at
unfolding declared_here declared_here_at
exact_declared_here = exact_then (exact_marked form.Identifier (λ t. declares t.line (name_of t))) (λ t. exact_nothing (new_name t)) refl

exact_own_names : Language own_names false (numbers (form.Identifier ∷ [])) names_lasts own_names_at
unfolding own_names own_names_at
exact_own_names = exact_then exact_declared_here (λ first. exact_then (exact_list (exact_another first.line) refl) (λ others. exact_nothing (first.line, first ∷ others)) refl) refl

exact_constants : Language (names word.Constant) false (numbers (form.Keyword word.Constant ∷ form.Identifier ∷ [])) names_lasts (names_at word.Constant)
unfolding names names_at
exact_constants = within (numbers (form.Keyword word.Constant ∷ form.Identifier ∷ [])) names_lasts (exact_behind (form.Keyword word.Constant) (exact_led_names word.Constant) exact_own_names refl) refl refl refl

exact_signals : Language (names word.Signal) false (numbers (form.Keyword word.Signal ∷ form.Identifier ∷ [])) names_lasts (names_at word.Signal)
unfolding names names_at
exact_signals = within (numbers (form.Keyword word.Signal ∷ form.Identifier ∷ [])) names_lasts (exact_behind (form.Keyword word.Signal) (exact_led_names word.Signal) exact_own_names refl) refl refl refl

exact_bounds : Language bounds false (numbers (form.Number ∷ [])) [] bounds_at
unfolding bounds bounds_at
exact_bounds = exact_then exact_number (λ left. exact_then exact_direction (λ falls. exact_then exact_number (λ right. exact_nothing (left, falls, right)) refl) refl) refl

exact_range : (room count : ℕ) → Language (range room count) false (numbers (form.Sign sign.LeftParen ∷ [])) [] (range_at room count)
unfolding range range_at
exact_range room count = exact_then (exact_marked (form.Sign sign.LeftParen) (λ _. opens room)) (λ t. exact_then exact_bounds (λ b. exact_then (exact_marked (form.Sign sign.RightParen) (λ _. counts (count * width b.0 b.1 b.2))) (λ u. exact_nothing (record { left = b.0; falls = b.1; right = b.2; line = t.line })) refl) refl) refl

exact_scalar : (w : Keyword) (kind : TypeWord) (count : ℕ) → Language (scalar w kind count) false (code (form.Keyword w) ∷ []) [] (scalar_at w kind count)
unfolding scalar scalar_at
exact_scalar w kind count = exact_then (exact_marked (form.Keyword w) (λ _. counts (count * 1))) (λ t. exact_nothing (record { word = kind; line = t.line; range = None })) refl

exact_vector : (w : Keyword) (kind : TypeWord) (room count : ℕ) → Language (vector w kind room count) false (code (form.Keyword w) ∷ []) [] (vector_at w kind room count)
unfolding vector vector_at
exact_vector w kind room count = exact_then (exact_one (form.Keyword w)) (λ t. exact_then (exact_range room count) (λ r. exact_nothing (record { word = kind; line = t.line; range = Some r })) refl) refl

abbrev port_types : Set
port_types = numbers (form.Keyword word.Bit ∷ form.Keyword word.BitVector ∷ form.Keyword word.MuxBit ∷ form.Keyword word.WorBit ∷ form.Keyword word.MuxVector ∷ form.Keyword word.WorVector ∷ [])

pub exact_port_type : (room count : ℕ) → Language (port_type room count) false port_types [] (port_type_at room count)
unfolding port_type port_type_at
exact_port_type room count =
    exact_behind (form.Keyword word.Bit) (exact_scalar word.Bit type.Bit count)
    (exact_behind (form.Keyword word.BitVector) (exact_vector word.BitVector type.BitVector room count)
    (exact_behind (form.Keyword word.MuxBit) (exact_scalar word.MuxBit type.MuxBit count)
    (exact_behind (form.Keyword word.WorBit) (exact_scalar word.WorBit type.WorBit count)
    (exact_behind (form.Keyword word.MuxVector) (exact_vector word.MuxVector type.MuxVector room count)
    (exact_vector word.WorVector type.WorVector room count) refl) refl) refl) refl) refl

exact_registered : (L : Grammar SignalType) {f : Set} (r : Reader SignalType) → Language L false f [] r → Language (registered L) false (f ++ []) [] (registered_at r)
unfolding registered registered_at register_at
exact_registered L r e = exact_then e (λ kind. exact_then (exact_one (form.Keyword word.Register)) (λ t. exact_nothing kind) refl) refl

abbrev signal_types : Set
signal_types = numbers (form.Keyword word.Bit ∷ form.Keyword word.BitVector ∷ form.Keyword word.RegBit ∷ form.Keyword word.RegVector ∷ form.Keyword word.RegBitVector ∷ [])

exact_signal_type : (room count : ℕ) → Language (signal_type room count) false signal_types [] (signal_type_at room count)
unfolding signal_type signal_type_at
exact_signal_type room count =
    exact_behind (form.Keyword word.Bit) (exact_scalar word.Bit type.Bit count)
    (exact_behind (form.Keyword word.BitVector) (exact_vector word.BitVector type.BitVector room count)
    (exact_behind (form.Keyword word.RegBit) (exact_registered (scalar word.RegBit type.RegBit count) (scalar_at word.RegBit type.RegBit count) (exact_scalar word.RegBit type.RegBit count))
    (exact_behind (form.Keyword word.RegVector) (exact_registered (vector word.RegVector type.RegVector room count) (vector_at word.RegVector type.RegVector room count) (exact_vector word.RegVector type.RegVector room count))
    (exact_registered (vector word.RegBitVector type.RegBitVector room count) (vector_at word.RegBitVector type.RegBitVector room count) (exact_vector word.RegBitVector type.RegBitVector room count)) refl) refl) refl) refl

exact_default : Language default true (numbers (form.Sign sign.Default ∷ [])) (numbers (form.Sign sign.Default ∷ [])) default_at
unfolding default default_at given_at
exact_default = exact_behind (form.Sign sign.Default) (exact_then (exact_one (form.Sign sign.Default)) (λ t. exact_then exact_number (λ n. exact_nothing (Some n)) refl) refl) (exact_nothing None) refl

abbrev generic_firsts : Set
generic_firsts = numbers (form.Keyword word.Constant ∷ form.Identifier ∷ [])

pub exact_generic : Language generic false generic_firsts (numbers (form.Sign sign.Default ∷ [])) generic_at
unfolding generic generic_at
exact_generic = exact_then exact_constants (λ n. exact_then (exact_one (form.Sign sign.Colon)) (λ t. exact_then exact_identifier (λ kind. exact_then exact_default (λ value. exact_nothing (record { line = n.0; names = n.1; kind = kind; value = value })) refl) refl) refl) refl

pub exact_next_generic : Language next_generic false (numbers (form.Sign sign.Semicolon ∷ [])) (numbers (form.Sign sign.Default ∷ [])) next_generic_at
unfolding next_generic next_generic_at
exact_next_generic = exact_then (exact_one (form.Sign sign.Semicolon)) (λ t. exact_generic) refl

pub exact_closed : {A : Type 0} (x : A) → Language (closed x) false (numbers (form.Sign sign.RightParen ∷ [])) [] (closed_at x)
unfolding closed closed_at
exact_closed x = exact_then (exact_one (form.Sign sign.RightParen)) (λ t. exact_then (exact_one (form.Sign sign.Semicolon)) (λ u. exact_nothing x) refl) refl

exact_generic_clause : (room : ℕ) → Language (generic_clause room) false (numbers (form.Keyword word.Generic ∷ [])) [] (generic_clause_at room)
unfolding generic_clause generic_clause_at generics_at
exact_generic_clause room = exact_then (exact_one (form.Keyword word.Generic)) (λ t. exact_then (exact_marked (form.Sign sign.LeftParen) (λ _. opens room)) (λ u. exact_then exact_generic (λ first. exact_then (exact_list exact_next_generic refl) (λ others. exact_closed (first ∷ others)) refl) refl) refl) refl

exact_optional_generics : (room : ℕ) → Language (generic_clause room or nothing []) true (numbers (form.Keyword word.Generic ∷ [])) (numbers (form.Keyword word.Generic ∷ [])) (optional_generics_at room)
unfolding optional_generics_at
exact_optional_generics room = exact_behind (form.Keyword word.Generic) (exact_generic_clause room) (exact_nothing []) refl

exact_one_mode : (w : Keyword) (m : Mode) → Language (one_mode w m) false (code (form.Keyword w) ∷ []) [] (one_mode_at w m)
unfolding one_mode one_mode_at
exact_one_mode w m = exact_then (exact_one (form.Keyword w)) (λ t. exact_nothing (m, t.line)) refl

exact_port_mode : Language port_mode false (numbers (form.Keyword word.In ∷ form.Keyword word.Out ∷ form.Keyword word.Inout ∷ [])) [] port_mode_at
unfolding port_mode port_mode_at
exact_port_mode = exact_behind (form.Keyword word.In) (exact_one_mode word.In mode.In) (exact_behind (form.Keyword word.Out) (exact_one_mode word.Out mode.Out) (exact_one_mode word.Inout mode.Inout) refl) refl

exact_bus : Language bus true (numbers (form.Keyword word.Bus ∷ [])) (numbers (form.Keyword word.Bus ∷ [])) bus_at
unfolding bus bus_at taken_bus_at
exact_bus = exact_behind (form.Keyword word.Bus) (exact_then (exact_one (form.Keyword word.Bus)) (λ t. exact_nothing true) refl) (exact_nothing false) refl

abbrev port_lasts : Set
port_lasts = numbers (form.Keyword word.Bus ∷ [])

pub exact_port_behind : (room : ℕ) (n : Names) → Language (port_behind room n) false (numbers (form.Sign sign.Colon ∷ [])) port_lasts (port_behind_at room n)
unfolding port_behind port_behind_at
exact_port_behind room n = exact_then (exact_one (form.Sign sign.Colon)) (λ t. exact_then exact_port_mode (λ m. exact_then (exact_port_type room (length n.1)) (λ kind. exact_then exact_bus (λ b. exact_nothing (record { line = n.0; names = n.1; mode = m.0; mode_line = m.1; kind = kind; bus = b })) refl) refl) refl) refl

abbrev port_firsts : Set
port_firsts = numbers (form.Keyword word.Signal ∷ form.Identifier ∷ [])

pub exact_port : (room : ℕ) → Language (port room) false port_firsts port_lasts (port_at room)
unfolding port port_at
exact_port room = exact_then exact_signals (λ n. exact_port_behind room n) refl

pub exact_next_port : (room : ℕ) → Language (next_port room) false (numbers (form.Sign sign.Semicolon ∷ [])) port_lasts (next_port_at room)
unfolding next_port next_port_at
exact_next_port room = exact_then (exact_one (form.Sign sign.Semicolon)) (λ t. exact_port room) refl

exact_port_clause : (room : ℕ) → Language (port_clause room) false (numbers (form.Keyword word.Port ∷ [])) [] (port_clause_at room)
unfolding port_clause port_clause_at ports_at
exact_port_clause room = exact_then (exact_one (form.Keyword word.Port)) (λ t. exact_then (exact_marked (form.Sign sign.LeftParen) (λ _. opens room)) (λ u. exact_then (exact_port (room - 1)) (λ first. exact_then (exact_list (exact_next_port (room - 1)) refl) (λ others. exact_closed (first ∷ others)) refl) refl) refl) refl

exact_entity_head : Language entity_head false (numbers (form.Keyword word.Entity ∷ [])) [] entity_head_at
unfolding entity_head entity_head_at
exact_entity_head = exact_then (exact_one (form.Keyword word.Entity)) (λ t. exact_then exact_identifier (λ name. exact_then (exact_one (form.Keyword word.Is)) (λ w. exact_nothing name) refl) refl) refl

exact_ending : {A : Type 0} (name : List ℕ) (x : A) → Language (ending name x) false (numbers (form.Keyword word.End ∷ [])) [] (ending_at name x)
unfolding ending ending_at repeated_at stop_at
exact_ending name x = exact_then (exact_one (form.Keyword word.End)) (λ t. exact_behind form.Identifier
    (exact_then (exact_marked form.Identifier (λ u. spells name (name_of u))) (λ u. exact_then (exact_one (form.Sign sign.Semicolon)) (λ w. exact_nothing x) refl) refl)
    (exact_then (exact_one (form.Sign sign.Semicolon)) (λ w. exact_nothing x) refl) refl) refl

pub exact_entity : (room : ℕ) → Language (entity room) false (numbers (form.Keyword word.Entity ∷ [])) [] (entity_at room)
unfolding entity entity_at
exact_entity room = exact_then exact_entity_head (λ name. exact_then (exact_optional_generics room) (λ generics. exact_then (exact_port_clause room) (λ ports. exact_ending name (record { name = name; generics = generics; ports = ports })) refl) refl) refl

pub exact_signal : (room : ℕ) → Language (signal room) false (numbers (form.Keyword word.Signal ∷ [])) [] (signal_at room)
unfolding signal signal_at
exact_signal room = exact_then (exact_led_names word.Signal) (λ n. exact_then (exact_one (form.Sign sign.Colon)) (λ t. exact_then (exact_signal_type room (length n.1)) (λ kind. exact_then (exact_one (form.Sign sign.Semicolon)) (λ u. exact_nothing (record { line = n.0; names = n.1; kind = kind })) refl) refl) refl) refl

abbrev pub signal_set : Set
signal_set = numbers (form.Keyword word.Signal ∷ [])

pub exact_declarations : (room : ℕ) → Language (declarations room) true signal_set signal_set (declarations_at room)
unfolding declarations declarations_at signals_at
exact_declarations room = exact_then (exact_list (exact_signal room) refl) (λ all. exact_nothing (record { signals = all })) refl

-- ---- items of lists take tokens

pub item_consumes : {A : Type 0} (G : Grammar A) (f l : Set) (r : Reader A) → Language G false f l r → (here there : At) (v : A) → r here ≡ Ok (v, there) → length there.rest < length here.rest
item_consumes G f l r e here there v h = consumes G f l r e.shape (e.reads tt) here there v h

pub another_consumes : (line : ℕ) (here there : At) (v : NewName) → another_at line here ≡ Ok (v, there) → length there.rest < length here.rest
another_consumes line here there v h = item_consumes (another line) (numbers (comma ∷ [])) [] (another_at line) (exact_another line) here there v h

pub next_generic_consumes : (here there : At) (v : Generic) → next_generic_at here ≡ Ok (v, there) → length there.rest < length here.rest
next_generic_consumes here there v h = item_consumes next_generic (numbers (form.Sign sign.Semicolon ∷ [])) (numbers (form.Sign sign.Default ∷ [])) next_generic_at exact_next_generic here there v h

pub next_port_consumes : (room : ℕ) (here there : At) (v : PortGroup) → next_port_at room here ≡ Ok (v, there) → length there.rest < length here.rest
next_port_consumes room here there v h = item_consumes (next_port room) (numbers (form.Sign sign.Semicolon ∷ [])) port_lasts (next_port_at room) (exact_next_port room) here there v h

pub signal_consumes : (room : ℕ) (here there : At) (v : SignalGroup) → signal_at room here ≡ Ok (v, there) → length there.rest < length here.rest
signal_consumes room here there v h = item_consumes (signal room) (numbers (form.Keyword word.Signal ∷ [])) [] (signal_at room) (exact_signal room) here there v h

pub entity_answers : (room : ℕ) (here : At) → Answers (entity room) here (entity_at room here)
entity_answers room here = ((exact_entity room).reads tt).answers here

pub declarations_answers : (room : ℕ) (here : At) → Answers (declarations room) here (declarations_at room here)
declarations_answers room here = ((exact_declarations room).reads tt).answers here
