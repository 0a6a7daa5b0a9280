-- Ports of the entity with the name of a supply are inputs of one bit.
use Rattle.std.proofs.Common.{◌≡◌, inl, inr, ℕ, Bool, true, false, not, ◌&&◌, ◌||◌, List, [], ◌∷◌, map, Option, None, Some, refl, sym, ap, subst, ◌∙◌}
use Rattle.std.specs.Prelude.{is_none}
use Rattle.std.specs.List.{flat_map}
use Rattle.vlsi_base.specs.declared.name.Name.{Name}
use Rattle.vlsi_base.specs.declared.name.Port.{Port}
use Rattle.vlsi_base.specs.declared.name.Dir.TheVariants as dir
use Rattle.vlsi_base.specs.declared.range.Range.{Range}
use Rattle.vlsi_base.specs.declared.entity.NewName.{NewName}
use Rattle.vlsi_base.specs.declared.entity.Mode.{Mode}
use Rattle.vlsi_base.specs.declared.entity.Mode.TheVariants as mode
use Rattle.vlsi_base.specs.declared.entity.TypeWord.{TypeWord}
use Rattle.vlsi_base.specs.declared.entity.TypeWord.TheVariants as word
use Rattle.vlsi_base.specs.declared.entity.PortGroup.{PortGroup}
use Rattle.vlsi_base.specs.declared.entity.SignalGroup.{SignalGroup}
use Rattle.vlsi_base.specs.Member.{In, here, there}
use Rattle.vlsi_base.specs.Name.{is_supply}
use Rattle.vlsi_base.specs.NamePlaces.{name_of}
use Rattle.machine_core.proofs.Values.{In-split}
use Rattle.source_checks.specs.declared.symbol_table.Role.{Role}
use Rattle.source_checks.specs.declared.symbol_table.Role.TheVariants as role
use Rattle.source_checks.specs.declared.symbol_table.Symbol.{Symbol}
use Rattle.source_checks.specs.Symbols.{role_of_mode, role_of_word, symbols_named, port_symbols, signal_symbols, is_port}
use Rattle.source_checks.specs.Elaboration.{port_of, ports_of_role}
use Rattle.source_checks.specs.Widths.{if_not}
use Rattle.source_checks.specs.Unsupported.{supply_faults, is_in_mode, is_bit_word}
use Rattle.vst_text.specs.declared.file.StructuralFile.{StructuralFile}
use Rattle.vst_io.specs.Nets.{nets, signal_groups, bits_of, names, port_bits}
use Rattle.vst_io.specs.Faults.{is_in_bit, port_form, declaration_forms, all_forms}
use Rattle.vst_io.proofs.Fine.{append_nothing, if_nothing, flat_nothing, both_true, in_flat}
use Rattle.vst_io.proofs.Ports.{text_of, name_of_role, ports_at}

-- what is known of a symbol of one declaration
pub record IsNamed (r : Role) (declared : Option Range) (ns : List NewName) (s : Symbol) : Type 0 where
  pub name : NewName
  pub listed : In name ns
  pub text : s.text ≡ name.text
  pub role : s.role ≡ r
  pub range : s.range ≡ declared

is_named : (r : Role) (range : Option Range) (line : ℕ) (ns : List NewName) (s : Symbol) → In s (symbols_named r range line ns) → IsNamed r range ns s
is_named r range line (n ∷ ns) s here = record { name = n; listed = here; text = refl; role = refl; range = refl }
is_named r range line (n ∷ ns) s (there h) = let i = is_named r range line ns s h in record { name = i.name; listed = there i.listed; text = i.text; role = i.role; range = i.range }
is_named r range line [] s h = elim h [ ]

port_from : (gs : List PortGroup) (s : Symbol) → In s (port_symbols gs) → (g : PortGroup) × In g gs × IsNamed (role_of_mode g.mode) g.kind.range g.names s
port_from [] s h = elim h [ ]
port_from (g ∷ gs) s h = elim (In-split s (symbols_named (role_of_mode g.mode) g.kind.range g.line g.names) (port_symbols gs) h) [
  | inl left ↦ (g, here, is_named (role_of_mode g.mode) g.kind.range g.line g.names s left)
  | inr right ↦ let r = port_from gs s right in (r.0, there r.1, r.2)
]

signal_from : (gs : List SignalGroup) (s : Symbol) → In s (signal_symbols gs) → (w : TypeWord) × (s.role ≡ role_of_word w)
signal_from [] s h = elim h [ ]
signal_from (g ∷ gs) s h = elim (In-split s (symbols_named (role_of_word g.kind.word) g.kind.range g.line g.names) (signal_symbols gs) h) [
  | inl left ↦ (g.kind.word, (is_named (role_of_word g.kind.word) g.kind.range g.line g.names s left).role)
  | inr right ↦ signal_from gs s right
]

word_no_port : (w : TypeWord) → is_port (role_of_word w) ≡ false
word_no_port word.Bit = refl
word_no_port word.BitVector = refl
word_no_port word.MuxBit = refl
word_no_port word.MuxVector = refl
word_no_port word.WorBit = refl
word_no_port word.WorVector = refl
word_no_port word.RegBit = refl
word_no_port word.RegVector = refl
word_no_port word.RegBitVector = refl

-- a name of a supply is at fault but as an input of one bit
supply_fits : (fits : Bool) (ns : List NewName) → supply_faults fits ns ≡ [] → (n : NewName) → In n ns → is_supply n.text ≡ true → fits ≡ true
supply_fits fits (m ∷ ns) e n here s =
    let p = append_nothing (if_not (fits || not (is_supply n.text)) n.line) (supply_faults fits ns) e in
    by fits (ap (λ b. fits || not b) (sym s) ∙ if_nothing (fits || not (is_supply n.text)) n.line p.0) where
      by : (b : Bool) → (b || not true) ≡ true → b ≡ true
      by true h = refl
      by false h = absurd cc
supply_fits fits (m ∷ ns) e n (there h) s = supply_fits fits ns (append_nothing (if_not (fits || not (is_supply m.text)) m.line) (supply_faults fits ns) e).1 n h s
supply_fits fits [] e n h s = elim h [ ]

in_is_input : (m : Mode) → is_in_mode m ≡ true → role_of_mode m ≡ role.Input
in_is_input mode.In e = refl
in_is_input mode.Out e = absurd cc
in_is_input mode.Inout e = absurd cc

none_is : (o : Option Range) → is_none o ≡ true → o ≡ None
none_is None e = refl
none_is (Some r) e = absurd cc

-- a net that is a port and has a supply's name is an input of one bit
pub supply_net : (f : StructuralFile) → all_forms f ≡ [] → (s : Symbol) → In s (nets f) → is_port s.role ≡ true → is_supply s.text ≡ true → (s.role ≡ role.Input) × (s.range ≡ None)
supply_net f e s h p q = elim (In-split s (port_symbols f.entity.ports) (signal_symbols (signal_groups f.declarations)) h) [
  | inl left ↦
      let r = port_from f.entity.ports s left in
      let g = r.0 in
      let own = append_nothing (flat_map (port_form true) f.entity.ports) (flat_map declaration_forms f.declarations) e in
      let form = flat_nothing (port_form true) f.entity.ports own.0 g r.1 in
      let faults = append_nothing (supply_faults (not true || is_in_bit g) g.names) _ form in
      let fits = supply_fits (not true || is_in_bit g) g.names faults.0 r.2.name r.2.listed (ap is_supply (sym r.2.text) ∙ q) in
      let both = both_true (is_in_mode g.mode) (is_bit_word g.kind.word && is_none g.kind.range) fits in
      let kind = both_true (is_bit_word g.kind.word) (is_none g.kind.range) both.1 in
      (r.2.role ∙ in_is_input g.mode both.0, r.2.range ∙ none_is g.kind.range kind.1)
  | inr right ↦
      let w = signal_from (signal_groups f.declarations) s right in
      let no : is_port s.role ≡ false = ap is_port w.1 ∙ word_no_port w.0 in
      let both : true ≡ false = sym p ∙ no in
      absurd cc
]

-- its port
pub supply_port : (f : StructuralFile) → all_forms f ≡ [] → (q : Port) → In q (port_bits (nets f)) → is_supply q.name.text ≡ true → (q.name.bit ≡ None) × (q.dir ≡ dir.In)
supply_port f e q h supply =
    let r = in_flat ports_at (nets f) q h in
    let s = r.0 in
    let text : q.name.text ≡ s.text = text_at s q r.2 in
    let known = supply_net f e s r.1 (port_role s.role (names s.text (bits_of s.range)) q r.2) (ap is_supply (sym text) ∙ supply) in
    one s.text q (subst (λ (o : Option Range). In q (ports_of_role role.Input (names s.text (bits_of o)))) known.1 (subst (λ (x : Role). In q (ports_of_role x (names s.text (bits_of s.range)))) known.0 r.2)) where
      port_role : (x : Role) (ns : List Name) (q : Port) → In q (ports_of_role x ns) → is_port x ≡ true
      port_role role.Input ns q h = refl
      port_role role.Output ns q h = refl
      port_role role.Both ns q h = refl
      port_role role.Inner ns q h = elim h [ ]
      port_role role.Register ns q h = elim h [ ]

      key_in : (q : Port) (ps : List Port) → In q ps → In q.name (map (λ p. p.name) ps)
      key_in q (p ∷ ps) here = here
      key_in q (p ∷ ps) (there g) = there (key_in q ps g)
      key_in q [] g = elim g [ ]

      text_at : (s : Symbol) (q : Port) → In q (ports_at s) → q.name.text ≡ s.text
      text_at s q h = text_of s.text (bits_of s.range) q.name (name_of_role s.role (names s.text (bits_of s.range)) q.name (key_in q (ports_at s) h))

      one : (text : List ℕ) (q : Port) → In q (port_of dir.In (name_of text None) ∷ []) → (q.name.bit ≡ None) × (q.dir ≡ dir.In)
      one text q here = (refl, refl)
      one text q (there g) = elim g [ ]
