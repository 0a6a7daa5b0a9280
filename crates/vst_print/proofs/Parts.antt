-- What is laid out of a component, of a signal and of an instance spells it.
use Rattle.std.proofs.Common.{◌≡◌, ℕ, ◌+◌, ◌-◌, ◌≤◌, ◌==◌, Bool, true, false, List, [], ◌∷◌, ◌++◌, Option, None, Some, Ok, Err, refl, sym, ap, ◌∙◌, arith, if◌then◌else◌, append-nil, append_assoc}
use Rattle.vlsi_base.specs.declared.name.Name.{Name}
use Rattle.vlsi_base.specs.declared.entity.NewName.{NewName}
use Rattle.vlsi_base.specs.declared.entity.SignalGroup.{SignalGroup}
use Rattle.vhdl_token.specs.declared.keyword.Keyword.TheVariants as word
use Rattle.vhdl_token.specs.declared.token.Token.TheVariants as token
use Rattle.vhdl_token.specs.declared.token.Sign.TheVariants as sign
use Rattle.vhdl_token.specs.declared.token.PlacedToken.{PlacedToken}
use Rattle.grammar_theory.specs.declared.form.Form.TheVariants as form
use Rattle.grammar_theory.specs.declared.refusal.Breach.TheVariants as broken
use Rattle.grammar_theory.specs.declared.limits.TheConstants.{BITS}
use Rattle.grammar_theory.specs.Tokens.{code_of}
use Rattle.grammar_theory.specs.Marks.{plain, opens, declares, enters, counts, spells, State, is_declared, step}
use Rattle.grammar_theory.specs.Grammar.{Grammar, nothing, one, ◌or◌, ◌>>=◌, list}
use Rattle.vhdl_front.specs.Cursor.{name_of}
use Rattle.vhdl_front.specs.Expression.{number, closing}
use Rattle.vhdl_front.specs.Entity.{Names, declared, another, led_names, closed, port_behind, port_type, scalar}
use Rattle.source_checks.specs.declared.statement.Selection.{Selection}
use Rattle.source_checks.specs.declared.statement.Selection.TheVariants as selection
use Rattle.vbe_text.specs.Vbe.{selected, selecting, target_behind, target, repeated}
use Rattle.spell_theory.specs.Spells.{Spells}
use Rattle.spell_theory.specs.Layout.{Written, gap, turn, line_behind, placed, line_of}
use Rattle.spell_theory.proofs.Combinators.{spell_nothing, spell_lead, spell_then, spell_left, spell_right, spell_none, spell_more, spell_as, spell_to}
use Rattle.spell_theory.proofs.Layouts.{placed_append, line_append}
use Rattle.vhdl_print.specs.Outline.{Bounds, OnePort, Outline, a_sign, mode_word, type_layout, port_layout, ports_layout, placed_type, placed_port, placed_ports, port_bits, with_name, with_bits}
use Rattle.vhdl_print.specs.EntityAgain.{all_bits}
use Rattle.vhdl_print.proofs.Steps.{Few, step_is, plain_step, opens_step, declares_step}
use Rattle.vhdl_print.proofs.Entities.{at, spell_word, spell_sign, spell_number, spell_type, spell_mode, spell_no_bus, spell_closed, port_on_one_line, four}
use Rattle.vst_text.specs.declared.file.PinName.{PinName}
use Rattle.vst_text.specs.declared.file.Association.{Association}
use Rattle.vst_text.specs.declared.file.Declaration.{Declaration}
use Rattle.vst_text.specs.declared.file.Declaration.TheVariants as declares_it
use Rattle.vst_text.specs.Vst.{among_components, among_instances, bare_name, another_bare, led_bare, own_bare, component_port, next_component_port, component_ports, component, signal, declaration, index, pin, association, next_association, port_map, instance_statement}
use Rattle.vst_print.specs.Structure.{Mapping, OneInstance, bit_layout, name_layout, component_end, component_layout, components_layout, signal_layout, signals_layout, mapping_layout, mappings_layout, instance_end, instance_layout, instances_layout}
use Rattle.vst_print.specs.Placed.{placed_component, placed_components, placed_signal, placed_signals, placed_pin, selected as selected_by, placed_net, placed_mapping, placed_mappings, placed_instance, placed_instances}

pub enters_step : (key : List ℕ) (line : ℕ) (name : List ℕ) (s : State) → Few s → is_declared (key ++ name) s.names ≡ false → step (enters key line name) s ≡ Ok (with_name (key ++ name) s)
enters_step key line name s few new = step_is (enters key line name) s (with_name (key ++ name) s) few (ap (λ (b : Bool). if b then Err (broken.Twice line name) else Ok (with_name (key ++ name) s)) new)

-- ---- components

spell_bare : (name : List ℕ) (line : ℕ) (s : State) → Few s → Spells (led_bare word.Signal or own_bare) (line, record { text = name; line = line } ∷ []) (at (token.Identifier name) line ∷ []) s s
unfolding own_bare bare_name code_of
spell_bare name line s few =
    let n : NewName = record { text = name; line = line } in
    spell_right
    (spell_then n (line, n ∷ []) (spell_lead form.Identifier (λ _. plain) (at (token.Identifier name) line) n refl (plain_step s few) (spell_nothing n s))
    (spell_then [] (line, n ∷ []) (spell_none another_bare s) (spell_nothing (line, n ∷ []) s)))

spell_pin_port : (room : ℕ) (p : OnePort) (line : ℕ) (s : State) → Few s → (room == 0) ≡ false → s.bits + port_bits p.bounds ≤ BITS
    → Spells (component_port room) (placed_port line p) (placed line (port_layout p)) s (with_bits (port_bits p.bounds) s)
unfolding component_port port_behind
spell_pin_port room p line s few deep within =
    let y = placed_port line p in
    let n : NewName = record { text = p.name; line = line } in
    let kind = placed_type line p.bounds in
    let t = with_bits (port_bits p.bounds) s in
    spell_then (line, n ∷ []) y (spell_bare p.name line s few)
    (spell_sign sign.Colon line y few
    (spell_then (p.mode, line) y (spell_mode p.mode line s few)
    (spell_as (append-nil (placed line (type_layout p.bounds)))
    (spell_then kind y (spell_type room p.bounds line s few deep within)
    (spell_then false y (spell_no_bus t) (spell_nothing y t))))))

-- the bits of pins, counted one after the other
pub bits_more : (m n : ℕ) (s : State) → with_bits n (with_bits m s) ≡ with_bits (m + n) s
bits_more m n s = let e : s.bits + m + n ≡ s.bits + (m + n) = omega arith in ap (λ k. record s { bits = k }) e

pub no_bits : (s : State) → with_bits 0 s ≡ s
no_bits s = let e : s.bits + 0 ≡ s.bits = omega arith in ap (λ k. record s { bits = k }) e

spell_pin_ports : (room : ℕ) (ps : List OnePort) (line : ℕ) (s : State) → Few s → (room == 0) ≡ false → s.bits + all_bits ps ≤ BITS
    → Spells (list (next_component_port room)) (placed_ports line ps) (placed line (ports_layout ps)) s (with_bits (all_bits ps) s)
unfolding next_component_port
spell_pin_ports room [] line s few deep within = spell_to (sym (no_bits s)) (spell_none (next_component_port room) s)
spell_pin_ports room (p ∷ ps) line s few deep within =
    let l = line_behind line in
    let y = placed_port l p in
    let b = port_bits p.bounds in
    spell_as (ap (λ (ts : List PlacedToken). at (token.Sign sign.Semicolon) line ∷ ts) (sym (port_on_one_line l p (ports_layout ps))))
    (spell_to (bits_more b (all_bits ps) s)
    (spell_more (spell_sign sign.Semicolon line y few (spell_pin_port room p l s few deep (omega (arith, within)))) (spell_pin_ports room ps l (with_bits b s) few deep (omega (arith, within)))))

-- what a component declares: its name in the list of components, and the bits of its pins
abbrev pub component_key : Outline → List ℕ
component_key c = among_components ++ c.name

abbrev pub component_bits : Outline → ℕ
component_bits c = all_bits (c.first ∷ c.others)

abbrev pub with_component : Outline → State → State
with_component c s = with_bits (component_bits c) (with_name (component_key c) s)

spell_component_ports : (room : ℕ) (p : OnePort) (ps : List OnePort) (line k : ℕ) (s : State) → Few s → (room == 0) ≡ false → (room - 1 == 0) ≡ false → s.bits + all_bits (p ∷ ps) ≤ BITS
    → Spells (component_ports room) (placed_port (line_behind line) p ∷ placed_ports (line_behind line) ps)
    (at (token.Keyword word.Port) line ∷ at (token.Sign sign.LeftParen) line ∷ placed (line_behind line) (port_layout p) ++ (placed (line_behind line) (ports_layout ps) ++ (at (token.Sign sign.RightParen) k ∷ at (token.Sign sign.Semicolon) k ∷ [])))
    s (with_bits (all_bits (p ∷ ps)) s)
unfolding component_ports code_of
spell_component_ports room p ps line k s few deep deeper within =
    let l = line_behind line in
    let first = placed_port l p in
    let others = placed_ports l ps in
    let y = first ∷ others in
    let b = port_bits p.bounds in
    spell_word word.Port line y few
    (spell_lead (form.Sign sign.LeftParen) (λ _. opens room) (at (token.Sign sign.LeftParen) line) y refl (opens_step room s few deep)
    (spell_to (bits_more b (all_bits ps) s)
    (spell_then first y (spell_pin_port (room - 1) p l s few deeper (omega (arith, within)))
    (spell_then others y (spell_pin_ports (room - 1) ps l (with_bits b s) few deeper (omega (arith, within)))
    (spell_closed y k (with_bits (all_bits ps) (with_bits b s)) few)))))

pub spell_component : (room : ℕ) (c : Outline) (line : ℕ) (s : State) → Few s → (room == 0) ≡ false → (room - 1 == 0) ≡ false → is_declared (component_key c) s.names ≡ false → s.bits + component_bits c ≤ BITS
    → Spells (component room) (placed_component line c) (placed line (component_layout c)) s (with_component c s)
unfolding component repeated code_of
spell_component room c line s few deep deeper new within =
    let y = placed_component line c in
    let l = line_behind line in
    let m = line_behind l in
    let k = line_of m (ports_layout c.others) in
    let e = line_behind k in
    let named = with_name (component_key c) s in
    let after = with_component c s in
    let firsts = placed m (port_layout c.first) in
    let more = placed m (ports_layout c.others) in
    let close : List PlacedToken = at (token.Sign sign.RightParen) k ∷ at (token.Sign sign.Semicolon) k ∷ [] in
    let end : List PlacedToken = at (token.Keyword word.End) e ∷ at (token.Keyword word.Component) e ∷ at (token.Sign sign.Semicolon) e ∷ [] in
    let front : List PlacedToken = at (token.Keyword word.Component) line ∷ at (token.Identifier c.name) line ∷ at (token.Keyword word.Port) l ∷ at (token.Sign sign.LeftParen) l ∷ [] in
    let laid : placed m (port_layout c.first ++ (ports_layout c.others ++ component_end)) ≡ (firsts ++ (more ++ close)) ++ end =
    port_on_one_line m c.first (ports_layout c.others ++ component_end)
    ∙ ap (λ (z : List PlacedToken). firsts ++ z) (placed_append m (ports_layout c.others) component_end)
    ∙ sym (four firsts more close end) in
    spell_as (ap (λ (z : List PlacedToken). front ++ z) (sym laid))
    (spell_word word.Component line y few
    (spell_lead form.Identifier (λ u. enters among_components line (name_of u)) (at (token.Identifier c.name) line) y refl (enters_step among_components line c.name s few new)
    (spell_then (placed_port m c.first ∷ placed_ports m c.others) y (spell_component_ports room c.first c.others l k named few deep deeper within)
    (spell_word word.End e y few
    (spell_word word.Component e y few
    (spell_then tt y (spell_right (spell_sign sign.Semicolon e tt few (spell_nothing tt after))) (spell_nothing y after)))))))

-- ---- signals

abbrev pub with_signal : List ℕ → State → State
with_signal name s = with_bits 1 (with_name name s)

spell_led : (name : List ℕ) (line : ℕ) (s : State) → Few s → is_declared name s.names ≡ false
    → Spells (led_names word.Signal) (line, record { text = name; line = line } ∷ []) (at (token.Keyword word.Signal) line ∷ at (token.Identifier name) line ∷ []) s (with_name name s)
unfolding led_names declared code_of
spell_led name line s few new =
    let n : NewName = record { text = name; line = line } in
    let y : Names = (line, n ∷ []) in
    spell_word word.Signal line y few
    (spell_then n y (spell_lead form.Identifier (λ t. declares line (name_of t)) (at (token.Identifier name) line) n refl (declares_step line name s few new) (spell_nothing n (with_name name s)))
    (spell_then [] y (spell_none (another line) (with_name name s)) (spell_nothing y (with_name name s))))

pub spell_signal : (room : ℕ) (name : List ℕ) (line : ℕ) (s : State) → Few s → (room == 0) ≡ false → is_declared name s.names ≡ false → s.bits + 1 ≤ BITS
    → Spells (signal room) (placed_signal line name) (placed line (signal_layout name)) s (with_signal name s)
unfolding signal
spell_signal room name line s few deep new within =
    let y = placed_signal line name in
    let n : NewName = record { text = name; line = line } in
    let kind = placed_type line None in
    let t = with_signal name s in
    spell_then (line, n ∷ []) y (spell_led name line s few new)
    (spell_sign sign.Colon line y few
    (spell_then kind y (spell_type room None line (with_name name s) few deep within)
    (spell_sign sign.Semicolon line y few (spell_nothing y t))))

-- ---- instances

spell_index : (room : ℕ) (b : Option ℕ) (line : ℕ) (s : State) → Few s → (room == 0) ≡ false → Spells (index room) b (placed line (bit_layout b)) s s
unfolding index closing code_of
spell_index room None line s few deep = spell_right (spell_nothing None s)
spell_index room (Some k) line s few deep =
    spell_left
    (spell_lead (form.Sign sign.LeftParen) (λ _. opens room) (at (token.Sign sign.LeftParen) line) (Some k) refl (opens_step room s few deep)
    (spell_then k (Some k) (spell_number k line s few) (spell_sign sign.RightParen line (Some k) few (spell_nothing (Some k) s))))

spell_pin : (room : ℕ) (n : Name) (line : ℕ) (s : State) → Few s → (room == 0) ≡ false → Spells (pin room) (placed_pin line n) (placed line (name_layout n)) s s
unfolding pin code_of
spell_pin room n line s few deep =
    let y = placed_pin line n in
    spell_lead form.Identifier (λ _. plain) (at (token.Identifier n.text) line) y refl (plain_step s few)
    (spell_as (append-nil (placed line (bit_layout n.bit))) (spell_then n.bit y (spell_index room n.bit line s few deep) (spell_nothing y s)))

spell_selecting : (room : ℕ) (b : Option ℕ) (line : ℕ) (s : State) → Few s → (room == 0) ≡ false → Spells (selecting room) (selected_by b) (placed line (bit_layout b)) s s
unfolding selecting selected closing code_of
spell_selecting room None line s few deep = spell_right (spell_nothing selection.Whole s)
spell_selecting room (Some k) line s few deep =
    spell_left
    (spell_lead (form.Sign sign.LeftParen) (λ _. opens room) (at (token.Sign sign.LeftParen) line) (selection.Bit k) refl (opens_step room s few deep)
    (spell_then k (selection.Bit k) (spell_number k line s few) (spell_left (spell_sign sign.RightParen line (selection.Bit k) few (spell_nothing (selection.Bit k) s)))))

spell_target : (room : ℕ) (n : Name) (line : ℕ) (s : State) → Few s → (room == 0) ≡ false → Spells (target room) (placed_net line n) (placed line (name_layout n)) s s
unfolding target target_behind code_of
spell_target room n line s few deep =
    let y = placed_net line n in
    spell_lead form.Identifier (λ _. plain) (at (token.Identifier n.text) line) y refl (plain_step s few)
    (spell_as (append-nil (placed line (bit_layout n.bit))) (spell_then (selected_by n.bit) y (spell_selecting room n.bit line s few deep) (spell_nothing y s)))

bit_on_line : (line : ℕ) (b : Option ℕ) → line_of line (bit_layout b) ≡ line
bit_on_line line None = refl
bit_on_line line (Some k) = refl

name_on_line : (line : ℕ) (n : Name) (ws : List Written) → placed line (name_layout n ++ ws) ≡ placed line (name_layout n) ++ placed line ws
name_on_line line n ws = placed_append line (name_layout n) ws ∙ ap (λ (k : ℕ). placed line (name_layout n) ++ placed k ws) (bit_on_line line n.bit)

spell_association : (room : ℕ) (m : Mapping) (line : ℕ) (s : State) → Few s → (room == 0) ≡ false → Spells (association room) (placed_mapping line m) (placed line (mapping_layout m)) s s
unfolding association
spell_association room m line s few deep =
    let y = placed_mapping line m in
    spell_as (sym (name_on_line line m.pin (gap ∷ a_sign sign.Arrow ∷ gap ∷ name_layout m.net)))
    (spell_then (placed_pin line m.pin) y (spell_pin room m.pin line s few deep)
    (spell_sign sign.Arrow line y few
    (spell_as (append-nil (placed line (name_layout m.net)))
    (spell_then (placed_net line m.net) y (spell_target room m.net line s few deep) (spell_nothing y s)))))

mapping_ends : (line : ℕ) (m : Mapping) → line_of line (mapping_layout m) ≡ line
mapping_ends line m =
    line_append line (name_layout m.pin) (gap ∷ a_sign sign.Arrow ∷ gap ∷ name_layout m.net)
    ∙ bit_on_line (line_of line (name_layout m.pin)) m.net.bit
    ∙ bit_on_line line m.pin.bit

mapping_on_line : (line : ℕ) (m : Mapping) (ws : List Written) → placed line (mapping_layout m ++ ws) ≡ placed line (mapping_layout m) ++ placed line ws
mapping_on_line line m ws = placed_append line (mapping_layout m) ws ∙ ap (λ (k : ℕ). placed line (mapping_layout m) ++ placed k ws) (mapping_ends line m)

spell_associations : (room : ℕ) (ms : List Mapping) (line : ℕ) (s : State) → Few s → (room == 0) ≡ false
    → Spells (list (next_association room)) (placed_mappings line ms) (placed line (mappings_layout ms)) s s
unfolding next_association
spell_associations room [] line s few deep = spell_none (next_association room) s
spell_associations room (m ∷ ms) line s few deep =
    let l = line_behind line in
    let y = placed_mapping l m in
    spell_as (ap (λ (ts : List PlacedToken). at (token.Sign sign.Comma) line ∷ ts) (sym (mapping_on_line l m (mappings_layout ms))))
    (spell_more (spell_sign sign.Comma line y few (spell_association room m l s few deep)) (spell_associations room ms l s few deep))

abbrev pub instance_key : OneInstance → List ℕ
instance_key i = among_instances ++ i.label

pub spell_instance : (room : ℕ) (i : OneInstance) (line : ℕ) (s : State) → Few s → (room == 0) ≡ false → (room - 1 == 0) ≡ false → is_declared (instance_key i) s.names ≡ false
    → Spells (instance_statement room) (placed_instance line i) (placed line (instance_layout i)) s (with_name (instance_key i) s)
unfolding instance_statement port_map code_of
spell_instance room i line s few deep deeper new =
    let y = placed_instance line i in
    let l = line_behind line in
    let m = line_behind l in
    let k = line_of m (mappings_layout i.others) in
    let named = with_name (instance_key i) s in
    let first = placed_mapping m i.first in
    let others = placed_mappings m i.others in
    let all : List Association × ℕ = (first ∷ others, k) in
    let front : List PlacedToken = at (token.Identifier i.label) line ∷ at (token.Sign sign.Colon) line ∷ at (token.Identifier i.model) line ∷ at (token.Keyword word.Port) l ∷ at (token.Keyword word.Map) l ∷ at (token.Sign sign.LeftParen) l ∷ [] in
    let firsts = placed m (mapping_layout i.first) in
    let more = placed m (mappings_layout i.others) in
    let close : List PlacedToken = at (token.Sign sign.RightParen) k ∷ at (token.Sign sign.Semicolon) k ∷ [] in
    let laid : placed m (mapping_layout i.first ++ (mappings_layout i.others ++ instance_end)) ≡ (firsts ++ (more ++ close)) ++ [] =
    mapping_on_line m i.first (mappings_layout i.others ++ instance_end)
    ∙ ap (λ (z : List PlacedToken). firsts ++ z) (placed_append m (mappings_layout i.others) instance_end)
    ∙ sym (append-nil (firsts ++ (more ++ close))) in
    spell_as (ap (λ (z : List PlacedToken). front ++ z) (sym laid))
    (spell_lead form.Identifier (λ t. enters among_instances t.line (name_of t)) (at (token.Identifier i.label) line) y refl (enters_step among_instances line i.label s few new)
    (spell_sign sign.Colon line y few
    (spell_lead form.Identifier (λ _. plain) (at (token.Identifier i.model) line) y refl (plain_step named few)
    (spell_then all y
    (spell_word word.Port l all few
    (spell_word word.Map l all few
    (spell_lead (form.Sign sign.LeftParen) (λ _. opens room) (at (token.Sign sign.LeftParen) l) all refl (opens_step room named few deep)
    (spell_then first all (spell_association (room - 1) i.first m named few deeper)
    (spell_then others all (spell_associations (room - 1) i.others m named few deeper)
    (spell_sign sign.RightParen k all few (spell_sign sign.Semicolon k all few (spell_nothing all named))))))))
    (spell_nothing y named)))))
