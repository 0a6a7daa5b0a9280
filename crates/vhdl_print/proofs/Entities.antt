-- What is laid out of an entity spells it.
use Rattle.std.proofs.Common.{◌≡◌, ℕ, ◌+◌, ◌-◌, ◌*◌, ◌≤◌, ◌==◌, Bool, true, false, List, [], ◌∷◌, ◌++◌, Option, None, Some, refl, sym, ap, ◌∙◌, arith}
use Rattle.vlsi_base.specs.declared.range.Range.{Range}
use Rattle.vlsi_base.specs.declared.entity.Mode.{Mode}
use Rattle.vlsi_base.specs.declared.entity.Mode.TheVariants as mode
use Rattle.vlsi_base.specs.declared.entity.NewName.{NewName}
use Rattle.vhdl_token.specs.declared.keyword.Keyword.{Keyword}
use Rattle.vhdl_token.specs.declared.keyword.Keyword.TheVariants as word
use Rattle.vhdl_token.specs.declared.token.Token.{Token}
use Rattle.vhdl_token.specs.declared.token.Token.TheVariants as token
use Rattle.vhdl_token.specs.declared.token.Sign.{Sign}
use Rattle.vhdl_token.specs.declared.token.Sign.TheVariants as sign
use Rattle.vhdl_token.specs.declared.token.PlacedToken.{PlacedToken}
use Rattle.grammar_theory.specs.declared.form.Form.TheVariants as form
use Rattle.grammar_theory.specs.declared.limits.TheConstants.{BITS}
use Rattle.grammar_theory.specs.Tokens.{code_of}
use Rattle.grammar_theory.specs.Marks.{plain, opens, declares, counts, spells, State, is_declared}
use Rattle.grammar_theory.specs.Grammar.{Grammar, nothing, one, ◌or◌, ◌>>=◌, list}
use Rattle.vhdl_front.specs.Cursor.{name_of}
use Rattle.vhdl_front.specs.Expression.{number, direction}
use Rattle.vhdl_front.specs.Entity.{identifier, another, own_names, declared_here, names, width, bounds, range, scalar, vector, port_type, closed, one_mode, port_mode, bus, port_behind, port, next_port, port_clause, entity_head, ending, entity, generic_clause}
use Rattle.spell_theory.specs.Spells.{Spells}
use Rattle.spell_theory.specs.Layout.{Written, line_behind, placed, line_of}
use Rattle.spell_theory.proofs.Combinators.{spell_nothing, spell_lead, spell_then, spell_left, spell_right, spell_none, spell_more, spell_as}
use Rattle.std.proofs.lemmas.List.{append-nil, append_assoc}
use Rattle.spell_theory.proofs.Layouts.{placed_append}
use Rattle.vhdl_print.specs.Outline.{Bounds, OnePort, Outline, mode_word, direction_word, type_layout, port_layout, ports_layout, end_layout, entity_layout, placed_type, placed_port, placed_ports, placed_entity, port_bits, with_name, with_bits, with_port, with_ports, AreNew}
use Rattle.vhdl_print.proofs.Steps.{Few, plain_step, opens_step, declares_step, counts_step, spells_step}

abbrev pub at : Token → ℕ → PlacedToken
at t line = record { token = t; line = line }

-- a reserved word or a sign that means nothing else, and what stands behind it
pub spell_word : {C : Type 0} (w : Keyword) {M : PlacedToken → Grammar C} (line : ℕ) (y : C) {us : List PlacedToken} {s s' : State} → Few s
    → Spells (M (at (token.Keyword w) line)) y us s s' → Spells (one (form.Keyword w) >>= M) y (at (token.Keyword w) line ∷ us) s s'
unfolding code_of
spell_word w line y {s = s} few back = spell_lead (form.Keyword w) (λ _. plain) (at (token.Keyword w) line) y refl (plain_step s few) back

pub spell_sign : {C : Type 0} (g : Sign) {M : PlacedToken → Grammar C} (line : ℕ) (y : C) {us : List PlacedToken} {s s' : State} → Few s
    → Spells (M (at (token.Sign g) line)) y us s s' → Spells (one (form.Sign g) >>= M) y (at (token.Sign g) line ∷ us) s s'
unfolding code_of
spell_sign g line y {s = s} few back = spell_lead (form.Sign g) (λ _. plain) (at (token.Sign g) line) y refl (plain_step s few) back

pub spell_number : (n line : ℕ) (s : State) → Few s → Spells number n (at (token.Number n) line ∷ []) s s
unfolding number code_of
spell_number n line s few = spell_lead form.Number (λ _. plain) (at (token.Number n) line) n refl (plain_step s few) (spell_nothing n s)

pub spell_identifier : (name : List ℕ) (line : ℕ) (s : State) → Few s → Spells identifier name (at (token.Identifier name) line ∷ []) s s
unfolding identifier code_of
spell_identifier name line s few = spell_lead form.Identifier (λ _. plain) (at (token.Identifier name) line) name refl (plain_step s few) (spell_nothing name s)

pub spell_direction : (b : Bool) (line : ℕ) (s : State) → Few s → Spells direction b (at (token.Keyword (direction_word b)) line ∷ []) s s
unfolding direction
spell_direction true line s few = spell_left (spell_word word.Downto line true few (spell_nothing true s))
spell_direction false line s few = spell_right (spell_word word.To line false few (spell_nothing false s))

pub spell_bounds : (b : Bounds) (line : ℕ) (s : State) → Few s
    → Spells bounds (b.left, b.falls, b.right) (at (token.Number b.left) line ∷ at (token.Keyword (direction_word b.falls)) line ∷ at (token.Number b.right) line ∷ []) s s
unfolding bounds
spell_bounds b line s few =
    spell_then b.left (b.left, b.falls, b.right) (spell_number b.left line s few)
    (spell_then b.falls (b.left, b.falls, b.right) (spell_direction b.falls line s few)
    (spell_then b.right (b.left, b.falls, b.right) (spell_number b.right line s few) (spell_nothing (b.left, b.falls, b.right) s)))

-- the type of a port with one name
pub spell_type : (room : ℕ) (o : Option Bounds) (line : ℕ) (s : State) → Few s → (room == 0) ≡ false → s.bits + port_bits o ≤ BITS
    → Spells (port_type room 1) (placed_type line o) (placed line (type_layout o)) s (with_bits (port_bits o) s)
unfolding port_type scalar vector range code_of
spell_type room None line s few deep within =
    let kind = placed_type line None in
    spell_left (spell_lead (form.Keyword word.Bit) (λ _. counts (1 * 1)) (at (token.Keyword word.Bit) line) kind refl (counts_step (1 * 1) 1 s few refl within) (spell_nothing kind (with_bits 1 s)))
spell_type room (Some b) line s few deep within =
    let kind = placed_type line (Some b) in
    let w = width b.left b.falls b.right in
    let r : Range = record { left = b.left; falls = b.falls; right = b.right; line = line } in
    let three : ℕ × Bool × ℕ = (b.left, b.falls, b.right) in
    spell_right (spell_left
    (spell_word word.BitVector line kind few
    (spell_then r kind
    (spell_lead (form.Sign sign.LeftParen) (λ _. opens room) (at (token.Sign sign.LeftParen) line) r refl (opens_step room s few deep)
    (spell_then three r (spell_bounds b line s few)
    (spell_lead (form.Sign sign.RightParen) (λ _. counts (1 * w)) (at (token.Sign sign.RightParen) line) r refl (counts_step (1 * w) w s few (omega arith) within)
    (spell_nothing r (with_bits w s)))))
    (spell_nothing kind (with_bits w s)))))

pub spell_mode : (m : Mode) (line : ℕ) (s : State) → Few s → Spells port_mode (m, line) (at (token.Keyword (mode_word m)) line ∷ []) s s
unfolding port_mode one_mode
spell_mode mode.In line s few = spell_left (spell_word word.In line (mode.In, line) few (spell_nothing (mode.In, line) s))
spell_mode mode.Out line s few = spell_right (spell_left (spell_word word.Out line (mode.Out, line) few (spell_nothing (mode.Out, line) s)))
spell_mode mode.Inout line s few = spell_right (spell_right (spell_word word.Inout line (mode.Inout, line) few (spell_nothing (mode.Inout, line) s)))

-- one name, with which a declaration begins
spell_names : (name : List ℕ) (line : ℕ) (s : State) → Few s → is_declared name s.names ≡ false
    → Spells (names word.Signal) (line, record { text = name; line = line } ∷ []) (at (token.Identifier name) line ∷ []) s (with_name name s)
unfolding names own_names declared_here code_of
spell_names name line s few new =
    let n : NewName = record { text = name; line = line } in
    spell_right
    (spell_then n (line, n ∷ [])
    (spell_lead form.Identifier (λ t. declares t.line (name_of t)) (at (token.Identifier name) line) n refl (declares_step line name s few new) (spell_nothing n (with_name name s)))
    (spell_then [] (line, n ∷ []) (spell_none (another line) (with_name name s)) (spell_nothing (line, n ∷ []) (with_name name s))))

pub spell_no_bus : (s : State) → Spells bus false [] s s
unfolding bus
spell_no_bus s = spell_right (spell_nothing false s)

spell_port : (room : ℕ) (p : OnePort) (line : ℕ) (s : State) → Few s → (room == 0) ≡ false → is_declared p.name s.names ≡ false → s.bits + port_bits p.bounds ≤ BITS
    → Spells (port room) (placed_port line p) (placed line (port_layout p)) s (with_port p s)
unfolding port port_behind
spell_port room p line s few deep new within =
    let y = placed_port line p in
    let n : NewName = record { text = p.name; line = line } in
    let named = with_name p.name s in
    let kind = placed_type line p.bounds in
    spell_then (line, n ∷ []) y (spell_names p.name line s few new)
    (spell_sign sign.Colon line y few
    (spell_then (p.mode, line) y (spell_mode p.mode line named few)
    (spell_as (append-nil (placed line (type_layout p.bounds)))
    (spell_then kind y (spell_type room p.bounds line named few deep within)
    (spell_then false y (spell_no_bus (with_port p s)) (spell_nothing y (with_port p s)))))))

-- ---- ports

pub same_line : (line : ℕ) (o : Option Bounds) → line_of line (type_layout o) ≡ line
same_line line None = refl
same_line line (Some b) = refl

pub port_on_one_line : (line : ℕ) (p : OnePort) (ws : List Written) → placed line (port_layout p ++ ws) ≡ placed line (port_layout p) ++ placed line ws
port_on_one_line line p ws = placed_append line (port_layout p) ws ∙ ap (λ (k : ℕ). placed line (port_layout p) ++ placed k ws) (same_line line p.bounds)

spell_ports : (room : ℕ) (ps : List OnePort) (line : ℕ) (s : State) → Few s → (room == 0) ≡ false → AreNew ps s
    → Spells (list (next_port room)) (placed_ports line ps) (placed line (ports_layout ps)) s (with_ports ps s)
unfolding next_port
spell_ports room [] line s few deep new = spell_none (next_port room) s
spell_ports room (p ∷ ps) line s few deep new =
    let l = line_behind line in
    let y = placed_port l p in
    spell_as (ap (λ (ts : List PlacedToken). at (token.Sign sign.Semicolon) line ∷ ts) (sym (port_on_one_line l p (ports_layout ps))))
    (spell_more (spell_sign sign.Semicolon line y few (spell_port room p l s few deep new.0 new.1)) (spell_ports room ps l (with_port p s) few deep new.2))

pub few_ports : (ps : List OnePort) (s : State) → Few s → Few (with_ports ps s)
few_ports [] s few = few
few_ports (p ∷ ps) s few = few_ports ps (with_port p s) few

-- ---- entities

pub spell_closed : {A : Type 0} (x : A) (line : ℕ) (s : State) → Few s → Spells (closed x) x (at (token.Sign sign.RightParen) line ∷ at (token.Sign sign.Semicolon) line ∷ []) s s
unfolding closed
spell_closed x line s few = spell_sign sign.RightParen line x few (spell_sign sign.Semicolon line x few (spell_nothing x s))

spell_ending : {A : Type 0} (name : List ℕ) (x : A) (line : ℕ) (s : State) → Few s
    → Spells (ending name x) x (at (token.Keyword word.End) line ∷ at (token.Identifier name) line ∷ at (token.Sign sign.Semicolon) line ∷ []) s s
unfolding ending code_of
spell_ending name x line s few =
    spell_word word.End line x few
    (spell_left
    (spell_lead form.Identifier (λ u. spells name (name_of u)) (at (token.Identifier name) line) x refl (spells_step name s few)
    (spell_sign sign.Semicolon line x few (spell_nothing x s))))

spell_head : (name : List ℕ) (line : ℕ) (s : State) → Few s → Spells entity_head name (at (token.Keyword word.Entity) line ∷ at (token.Identifier name) line ∷ at (token.Keyword word.Is) line ∷ []) s s
unfolding entity_head
spell_head name line s few = spell_word word.Entity line name few (spell_then name name (spell_identifier name line s few) (spell_word word.Is line name few (spell_nothing name s)))

spell_no_generics : (room : ℕ) (s : State) → Spells (generic_clause room or nothing []) [] [] s s
spell_no_generics room s = spell_right (spell_nothing [] s)

pub four : (a b c d : List PlacedToken) → (a ++ (b ++ c)) ++ d ≡ a ++ (b ++ (c ++ d))
four a b c d = append_assoc a (b ++ c) d ∙ ap (λ (z : List PlacedToken). a ++ z) (append_assoc b c d)

spell_port_clause : (room : ℕ) (p : OnePort) (ps : List OnePort) (line k : ℕ) (s : State) → Few s → (room == 0) ≡ false → (room - 1 == 0) ≡ false → AreNew (p ∷ ps) s
    → Spells (port_clause room) (placed_port (line_behind line) p ∷ placed_ports (line_behind line) ps)
    (at (token.Keyword word.Port) line ∷ at (token.Sign sign.LeftParen) line ∷ placed (line_behind line) (port_layout p) ++ (placed (line_behind line) (ports_layout ps) ++ (at (token.Sign sign.RightParen) k ∷ at (token.Sign sign.Semicolon) k ∷ [])))
    s (with_ports (p ∷ ps) s)
unfolding port_clause code_of
spell_port_clause room p ps line k s few deep deeper new =
    let l = line_behind line in
    let first = placed_port l p in
    let others = placed_ports l ps in
    let y = first ∷ others in
    spell_word word.Port line y few
    (spell_lead (form.Sign sign.LeftParen) (λ _. opens room) (at (token.Sign sign.LeftParen) line) y refl (opens_step room s few deep)
    (spell_then first y (spell_port (room - 1) p l s few deeper new.0 new.1)
    (spell_then others y (spell_ports (room - 1) ps l (with_port p s) few deeper new.2)
    (spell_closed y k (with_ports (p ∷ ps) s) (few_ports ps (with_port p s) few)))))

pub spell_entity : (room : ℕ) (e : Outline) (line : ℕ) (s : State) → Few s → (room == 0) ≡ false → (room - 1 == 0) ≡ false → AreNew (e.first ∷ e.others) s
    → Spells (entity room) (placed_entity line e) (placed line (entity_layout e)) s (with_ports (e.first ∷ e.others) s)
unfolding entity
spell_entity room e line s few deep deeper new =
    let y = placed_entity line e in
    let l = line_behind line in
    let m = line_behind l in
    let k = line_of m (ports_layout e.others) in
    let firsts = placed m (port_layout e.first) in
    let more = placed m (ports_layout e.others) in
    let close : List PlacedToken = at (token.Sign sign.RightParen) k ∷ at (token.Sign sign.Semicolon) k ∷ [] in
    let end : List PlacedToken = at (token.Keyword word.End) (line_behind k) ∷ at (token.Identifier e.name) (line_behind k) ∷ at (token.Sign sign.Semicolon) (line_behind k) ∷ [] in
    let ports = placed_port m e.first ∷ placed_ports m e.others in
    let front : List PlacedToken = at (token.Keyword word.Entity) line ∷ at (token.Identifier e.name) line ∷ at (token.Keyword word.Is) line ∷ at (token.Keyword word.Port) l ∷ at (token.Sign sign.LeftParen) l ∷ [] in
    let laid : placed m (port_layout e.first ++ (ports_layout e.others ++ end_layout e.name)) ≡ (firsts ++ (more ++ close)) ++ end =
    port_on_one_line m e.first (ports_layout e.others ++ end_layout e.name)
    ∙ ap (λ (z : List PlacedToken). firsts ++ z) (placed_append m (ports_layout e.others) (end_layout e.name))
    ∙ sym (four firsts more close end) in
    spell_as (ap (λ (z : List PlacedToken). front ++ z) (sym laid))
    (spell_then e.name y (spell_head e.name line s few)
    (spell_then [] y (spell_no_generics room s)
    (spell_then ports y (spell_port_clause room e.first e.others l k s few deep deeper new)
    (spell_ending e.name y (line_behind k) (with_ports (e.first ∷ e.others) s) (few_ports e.others (with_port e.first s) few)))))
