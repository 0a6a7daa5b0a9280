-- Declarations that are laid out spell themselves: signals of one bit, and registers.
use Rattle.std.proofs.Common.{◌≡◌, ℕ, ◌+◌, ◌*◌, ◌≤◌, ◌==◌, Bool, false, List, [], ◌∷◌, ◌++◌, map, Option, None, Some, refl, sym, ap, ◌∙◌, arith}
use Rattle.vlsi_base.specs.declared.entity.NewName.{NewName}
use Rattle.vlsi_base.specs.declared.entity.SignalGroup.{SignalGroup}
use Rattle.vlsi_base.specs.declared.range.Range.{Range}
use Rattle.vhdl_token.specs.declared.keyword.Keyword.TheVariants as word
use Rattle.vhdl_token.specs.declared.token.PlacedToken.{PlacedToken}
use Rattle.vhdl_token.specs.declared.token.Token.TheVariants as token
use Rattle.vhdl_token.specs.declared.token.Sign.TheVariants as sign
use Rattle.grammar_theory.specs.declared.form.Form.TheVariants as form
use Rattle.grammar_theory.specs.declared.limits.TheConstants.{BITS}
use Rattle.grammar_theory.specs.Tokens.{code_of}
use Rattle.grammar_theory.specs.Marks.{State, opens, declares, counts, is_declared}
use Rattle.grammar_theory.specs.Grammar.{list}
use Rattle.vhdl_front.specs.Cursor.{name_of}
use Rattle.vhdl_front.specs.Entity.{Names, declared, another, led_names, width, range, scalar, vector, registered, signal_type, signal}
use Rattle.spell_theory.specs.Spells.{Spells}
use Rattle.spell_theory.specs.Layout.{Written, turn, line_behind, placed, line_of}
use Rattle.spell_theory.proofs.Combinators.{spell_nothing, spell_lead, spell_then, spell_left, spell_right, spell_none, spell_more, spell_as}
use Rattle.spell_theory.proofs.Layouts.{placed_append}
use Rattle.vhdl_print.specs.Outline.{Bounds, a_sign, placed_type, port_bits, with_name, with_bits}
use Rattle.vhdl_print.proofs.Entities.{at, spell_word, spell_sign, spell_bounds}
use Rattle.vhdl_print.proofs.Steps.{Few, opens_step, declares_step, counts_step}
use Rattle.vst_print.specs.Groups.{Group, bounds_of, declared as declared_as}
use Rattle.vst_print.specs.Structure.{signal_layout, signals_layout}
use Rattle.vst_print.proofs.Entries.{with_entry, with_entries, EntriesNew, port_entry, signal_entry}
use Rattle.vbe_print.specs.Written.{register_type, group_layout, groups_layout}
use Rattle.vbe_print.specs.Placed.{placed_signals, placed_register_type, placed_groups}

spell_led : (name : List ℕ) (line : ℕ) (s : State) → Few s → is_declared name s.names ≡ false
    → Spells (led_names word.Signal) (line, record { text = name; line = line } ∷ []) (at (token.Keyword word.Signal) line ∷ at (token.Identifier name) line ∷ []) s (with_name name s)
unfolding led_names declared code_of
spell_led name line s few new =
    let n : NewName = record { text = name; line = line } in
    let y : Names = (line, n ∷ []) in
    spell_word word.Signal line y few
    (spell_then n y (spell_lead form.Identifier (λ t. declares line (name_of t)) (at (token.Identifier name) line) n refl (declares_step line name s few new) (spell_nothing n (with_name name s)))
    (spell_then [] y (spell_none (another line) (with_name name s)) (spell_nothing y (with_name name s))))

-- ---- signals of one bit

spell_bit_type : (room line : ℕ) (s : State) → Few s → s.bits + 1 ≤ BITS → Spells (signal_type room 1) (placed_type line None) (at (token.Keyword word.Bit) line ∷ []) s (with_bits 1 s)
unfolding signal_type scalar code_of
spell_bit_type room line s few within =
    let kind = placed_type line None in
    spell_left (spell_lead (form.Keyword word.Bit) (λ _. counts (1 * 1)) (at (token.Keyword word.Bit) line) kind refl (counts_step (1 * 1) 1 s few refl within) (spell_nothing kind (with_bits 1 s)))

abbrev pub placed_signal : ℕ → List ℕ → SignalGroup
placed_signal line name = record { line = line; names = record { text = name; line = line } ∷ []; kind = placed_type line None }

spell_signal : (room : ℕ) (name : List ℕ) (line : ℕ) (s : State) → Few s → is_declared name s.names ≡ false → s.bits + 1 ≤ BITS
    → Spells (signal room) (placed_signal line name) (placed line (signal_layout name)) s (with_entry (signal_entry name) s)
unfolding signal
spell_signal room name line s few new within =
    let y = placed_signal line name in
    let n : NewName = record { text = name; line = line } in
    let kind = placed_type line None in
    let t = with_entry (signal_entry name) s in
    spell_then (line, n ∷ []) y (spell_led name line s few new)
    (spell_sign sign.Colon line y few
    (spell_then kind y (spell_bit_type room line (with_name name s) few within)
    (spell_sign sign.Semicolon line y few (spell_nothing y t))))

pub spell_signals : (room : ℕ) (ss : List (List ℕ)) (line : ℕ) (s : State) → Few s → EntriesNew (map signal_entry ss) s
    → {xs : List SignalGroup} {ts : List PlacedToken} {s' : State} → Spells (list (signal room)) xs ts (with_entries (map signal_entry ss) s) s'
    → Spells (list (signal room)) (placed_signals line ss ++ xs) (placed line (signals_layout ss) ++ ts) s s'
spell_signals room [] line s few new back = back
spell_signals room (x ∷ xs) line s few new back =
    spell_more (spell_signal room x line s few new.0 new.1) (spell_signals room xs (line_behind line) (with_entry (signal_entry x) s) few new.2 back)

-- ---- registers

-- the type of registers of one name
spell_register_type : (room : ℕ) (o : Option Bounds) (line : ℕ) (s : State) → Few s → (room == 0) ≡ false → s.bits + port_bits o ≤ BITS
    → Spells (signal_type room 1) (placed_register_type line o) (placed line (register_type o)) s (with_bits (port_bits o) s)
unfolding signal_type registered scalar vector range code_of
spell_register_type room None line s few deep within =
    let kind = placed_register_type line None in
    let t = with_bits 1 s in
    spell_right (spell_right (spell_left
    (spell_then kind kind
    (spell_lead (form.Keyword word.RegBit) (λ _. counts (1 * 1)) (at (token.Keyword word.RegBit) line) kind refl (counts_step (1 * 1) 1 s few refl within) (spell_nothing kind t))
    (spell_word word.Register line kind few (spell_nothing kind t)))))
spell_register_type room (Some b) line s few deep within =
    let kind = placed_register_type line (Some b) in
    let w = width b.left b.falls b.right in
    let t = with_bits w s in
    let r : Range = record { left = b.left; falls = b.falls; right = b.right; line = line } in
    let three : ℕ × Bool × ℕ = (b.left, b.falls, b.right) in
    spell_right (spell_right (spell_right (spell_left
    (spell_then kind kind
    (spell_word word.RegVector line kind few
    (spell_then r kind
    (spell_lead (form.Sign sign.LeftParen) (λ _. opens room) (at (token.Sign sign.LeftParen) line) r refl (opens_step room s few deep)
    (spell_then three r (spell_bounds b line s few)
    (spell_lead (form.Sign sign.RightParen) (λ _. counts (1 * w)) (at (token.Sign sign.RightParen) line) r refl (counts_step (1 * w) w s few (omega arith) within)
    (spell_nothing r t))))
    (spell_nothing kind t)))
    (spell_word word.Register line kind few (spell_nothing kind t))))))

type_on_line : (line : ℕ) (o : Option Bounds) (ws : List Written) → placed line (register_type o ++ ws) ≡ placed line (register_type o) ++ placed line ws
type_on_line line None ws = refl
type_on_line line (Some b) ws = refl

abbrev pub placed_group : ℕ → Group → SignalGroup
placed_group line g = record { line = line; names = record { text = g.text; line = line } ∷ []; kind = placed_register_type line (bounds_of g.low g.high) }

spell_group : (room : ℕ) (g : Group) (line : ℕ) (s : State) → Few s → (room == 0) ≡ false → is_declared g.text s.names ≡ false → s.bits + port_bits (bounds_of g.low g.high) ≤ BITS
    → Spells (signal room) (placed_group line g) (placed line (group_layout g)) s (with_entry (port_entry (declared_as g)) s)
unfolding signal
spell_group room g line s few deep new within =
    let y = placed_group line g in
    let n : NewName = record { text = g.text; line = line } in
    let o = bounds_of g.low g.high in
    let kind = placed_register_type line o in
    let t = with_entry (port_entry (declared_as g)) s in
    let front : List PlacedToken = at (token.Keyword word.Signal) line ∷ at (token.Identifier g.text) line ∷ at (token.Sign sign.Colon) line ∷ [] in
    spell_as (ap (λ (z : List PlacedToken). front ++ z) (sym (type_on_line line o (a_sign sign.Semicolon ∷ turn ∷ []))))
    (spell_then (line, n ∷ []) y (spell_led g.text line s few new)
    (spell_sign sign.Colon line y few
    (spell_then kind y (spell_register_type room o line (with_name g.text s) few deep within)
    (spell_sign sign.Semicolon line y few (spell_nothing y t)))))

group_line : (line : ℕ) (g : Group) → line_of line (group_layout g) ≡ line_behind line
group_line line g = by (bounds_of g.low g.high) where
  by : (o : Option Bounds) → line_of line (register_type o ++ (a_sign sign.Semicolon ∷ turn ∷ [])) ≡ line_behind line
  by None = refl
  by (Some b) = refl

pub spell_groups : (room : ℕ) (gs : List Group) (line : ℕ) (s : State) → Few s → (room == 0) ≡ false → EntriesNew (map port_entry (map declared_as gs)) s
    → Spells (list (signal room)) (placed_groups line gs) (placed line (groups_layout gs)) s (with_entries (map port_entry (map declared_as gs)) s)
spell_groups room [] line s few deep new = spell_none (signal room) s
spell_groups room (g ∷ gs) line s few deep new =
    spell_as
    (ap (λ (k : ℕ). placed line (group_layout g) ++ placed k (groups_layout gs)) (sym (group_line line g)) ∙ sym (placed_append line (group_layout g) (groups_layout gs)))
    (spell_more (spell_group room g line s few deep new.0 new.1) (spell_groups room gs (line_behind line) (with_entry (port_entry (declared_as g)) s) few deep new.2))
