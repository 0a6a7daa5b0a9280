-- A netlist that is read has a port: an entity declares some, in a range that holds a bit, and they go in or out.
use Rattle.std.proofs.Common.{◌≡◌, ℕ, ◌-◌, ◌<◌, ◌≤◌, Bool, true, false, cond, not, leb, List, [], ◌∷◌, ◌++◌, map, length, Option, None, Some, refl, subst, arith}
use Rattle.std.specs.Prelude.{◌&&◌, ◌||◌}
use Rattle.std.specs.List.{flat_map}
use Rattle.std.proofs.lemmas.Bool.Decides.{nat_tests}
use Rattle.std.proofs.lemmas.List.Sorted.{IsPermutation-sym}
use Rattle.vlsi_base.specs.declared.name.Name.{Name}
use Rattle.vlsi_base.specs.declared.range.Range.{Range}
use Rattle.vlsi_base.specs.declared.entity.Entity.{Entity}
use Rattle.vlsi_base.specs.declared.entity.NewName.{NewName}
use Rattle.vlsi_base.specs.declared.entity.Mode.{Mode}
use Rattle.vlsi_base.specs.declared.entity.Mode.TheVariants as mode
use Rattle.vlsi_base.specs.declared.entity.PortGroup.{PortGroup}
use Rattle.vlsi_base.specs.Range.{is_ordered, range_bits}
use Rattle.vlsi_base.specs.Member.{In, here}
use Rattle.vhdl_token.specs.declared.keyword.Keyword.{Keyword}
use Rattle.vhdl_token.specs.declared.keyword.Keyword.TheVariants as word
use Rattle.grammar_theory.specs.declared.limits.TheConstants.{DEPTH}
use Rattle.vhdl_front.specs.Entity.{Names, led_names, own_names, names as new_names, closed, port_behind, port, port_clause, ending, entity}
use Rattle.machine_core.proofs.Values.{In-left}
use Rattle.source_checks.specs.declared.symbol_table.Symbol.{Symbol}
use Rattle.source_checks.specs.Symbols.{role_of_mode, symbols_named, port_symbols, signal_symbols}
use Rattle.source_checks.specs.Elaboration.{ports_of_role}
use Rattle.source_checks.specs.Unsupported.{supply_faults, is_inout, is_resolved}
use Rattle.source_checks.specs.Widths.{if_not, declared_faults, port_faults}
use Rattle.vlsi_model.proofs.Assembly.{In-permutation}
use Rattle.vlsi_model.proofs.Bits.{both_le, has-range}
use Rattle.net_core.specs.declared.pins.ModelPins.{ModelPins}
use Rattle.net_core.specs.Netlist.{Netlist}
use Rattle.vst_text.specs.declared.file.StructuralFile.{StructuralFile}
use Rattle.vst_text.specs.Vst.{architecture, structure}
use Rattle.vst_io.specs.Nets.{signal_groups, nets, bits_of, names, port_bits}
use Rattle.vst_io.specs.Faults.{port_form, is_in_bit, declaration_widths, declaration_forms}
use Rattle.vst_io.specs.Text.{IsWritten, IsVst}
use Rattle.vst_io.proofs.First.{faultless}
use Rattle.vbe_writable.proofs.Cut.{AreNamed, named_in}
use Rattle.vbe_writable.proofs.Saying.{words_of, Says, says_then, says_behind, says_or, says_nothing}

-- ---- what the grammar says

abbrev HasSome : {A : Type 0} → List A → Type 0
HasSome [] = ⊥
HasSome (x ∷ xs) = Unit {0}

abbrev HasNewName : Names → Type 0
HasNewName n = HasSome n.1

abbrev HasName : PortGroup → Type 0
HasName g = HasSome g.names

-- the first group has a name
abbrev HasGroup : List PortGroup → Type 0
HasGroup [] = ⊥
HasGroup (g ∷ groups) = HasName g

abbrev Declares : Entity → Type 0
Declares e = HasGroup e.ports

abbrev FileDeclares : StructuralFile → Type 0
FileDeclares f = Declares f.entity

says_led : (w : Keyword) → Says (led_names w) HasNewName
unfolding led_names
says_led w = says_behind (λ t. says_behind (λ first. says_behind (λ others. says_nothing HasNewName (t.line, first ∷ others) tt)))

says_own : Says own_names HasNewName
unfolding own_names
says_own = says_behind (λ first. says_behind (λ others. says_nothing HasNewName (first.line, first ∷ others) tt))

says_names : (w : Keyword) → Says (new_names w) HasNewName
unfolding new_names
says_names w = says_or (says_led w) says_own

says_port_behind : (room : ℕ) (n : Names) → HasNewName n → Says (port_behind room n) HasName
unfolding port_behind
says_port_behind room n h =
    says_behind (λ t. says_behind (λ m. says_behind (λ kind. says_behind (λ b.
    says_nothing HasName (record { line = n.0; names = n.1; mode = m.0; mode_line = m.1; kind = kind; bus = b }) h))))

says_port : (room : ℕ) → Says (port room) HasName
unfolding port
says_port room = says_then (says_names word.Signal) (λ n h. says_port_behind room n h)

says_closed : {A : Type 0} (P : A → Type 0) (x : A) → P x → Says (closed x) P
unfolding closed
says_closed P x h = says_behind (λ t. says_behind (λ u. says_nothing P x h))

says_port_clause : (room : ℕ) → Says (port_clause room) HasGroup
unfolding port_clause
says_port_clause room =
    says_behind (λ t. says_behind (λ u. says_then (says_port (room - 1)) (λ first h. says_behind (λ others. says_closed HasGroup (first ∷ others) h))))

says_ending : {A : Type 0} (P : A → Type 0) (name : List ℕ) (x : A) → P x → Says (ending name x) P
unfolding ending
says_ending P name x h = says_behind (λ t. says_or (says_behind (λ u. says_behind (λ w. says_nothing P x h))) (says_behind (λ w. says_nothing P x h)))

says_entity : (room : ℕ) → Says (entity room) Declares
unfolding entity
says_entity room =
    says_behind (λ name. says_behind (λ generics. says_then (says_port_clause room) (λ ports h.
    says_ending Declares name (record { name = name; generics = generics; ports = ports }) h)))

says_architecture : (room : ℕ) (e : Entity) → Declares e → Says (architecture room e) FileDeclares
unfolding architecture
says_architecture room e h =
    says_behind (λ name. says_behind (λ declared. says_behind (λ all. says_behind (λ u.
    says_nothing FileDeclares (record { entity = e; declarations = declared; instances = all }) h))))

says_structure : (room : ℕ) → Says (structure room) FileDeclares
unfolding structure
says_structure room = says_then (says_entity room) (λ e h. says_architecture room e h)

file_declares : (bytes : List ℕ) (f : StructuralFile) → IsWritten bytes f → FileDeclares f
file_declares bytes f w =
    let a = w.structure.read.0 in
    (says_structure DEPTH).each a.front f (words_of a.front w.structure.end.rest (subst AreNamed a.parts (named_in bytes))) a.sentence

-- ---- its first bit

none_left : {A : Type 0} (xs ys : List A) → xs ++ ys ≡ [] → xs ≡ []
none_left [] ys e = refl
none_left (x ∷ xs) ys e = absurd cc

none_right : {A : Type 0} (xs ys : List A) → xs ++ ys ≡ [] → ys ≡ []
none_right [] ys e = e
none_right (x ∷ xs) ys e = absurd cc

holds_if : (b : Bool) (line : ℕ) → if_not b line ≡ [] → b ≡ true
holds_if true line e = refl
holds_if false line e = absurd cc

-- a range in the order of its word has its left bound
left_in : (r : Range) → is_ordered r ≡ true → In r.left (range_bits r)
left_in r h = has-range r r.left (by r.falls h) where
  below : (a b : ℕ) → leb a b ≡ true → a ≤ b
  below a b e = grind (arith, nat_tests)

  by : (b : Bool) → cond b (leb r.right r.left) (leb r.left r.right) ≡ true
      → cond b (leb r.right r.left && leb r.left r.left) (leb r.left r.left && leb r.left r.right) ≡ true
  by true e = both_le r.right r.left r.left r.left (below r.right r.left e) (omega arith)
  by false e = both_le r.left r.left r.left r.right (omega arith) (below r.left r.right e)

abbrev First : {A : Type 0} → List A → Type 0
First {A} xs = (x : A) × In x xs

first_bit : (o : Option Range) → declared_faults o ≡ [] → First (bits_of o)
first_bit None e = (None, here)
first_bit (Some r) e = first_of (range_bits r) (left_in r (holds_if (is_ordered r) r.line e)) where
  first_of : (ks : List ℕ) → In r.left ks → First (map (λ (k : ℕ). Some k) ks)
  first_of [] i = elim i [ ]
  first_of (k ∷ ks) i = (Some k, here)

first_name : (text : List ℕ) (bits : List (Option ℕ)) → First bits → First (names text bits)
first_name text [] f = elim f.1 [ ]
first_name text (b ∷ bits) f = (_, here)

first_port : (m : Mode) (ns : List Name) → is_inout m ≡ false → First ns → First (ports_of_role (role_of_mode m) ns)
first_port m [] way f = elim f.1 [ ]
first_port mode.In (n ∷ ns) way f = (_, here)
first_port mode.Out (n ∷ ns) way f = (_, here)
first_port mode.Inout (n ∷ ns) way f = absurd cc

no_inout : (g : PortGroup) → port_form true g ≡ [] → is_inout g.mode ≡ false
no_inout g e =
    let behind = none_right (supply_faults (not true || is_in_bit g) g.names) (if_not (not (is_inout g.mode)) g.mode_line ++ if_not (not (is_resolved g.kind.word)) g.kind.line) e in
    let h = holds_if (not (is_inout g.mode)) g.mode_line (none_left (if_not (not (is_inout g.mode)) g.mode_line) (if_not (not (is_resolved g.kind.word)) g.kind.line) behind) in
    by (is_inout g.mode) h where
      by : (b : Bool) → not b ≡ true → b ≡ false
      by true h = absurd cc
      by false h = refl

first_in : (groups : List PortGroup) (others : List Symbol) → HasGroup groups → port_faults groups ≡ [] → flat_map (port_form true) groups ≡ []
    → First (port_bits (port_symbols groups ++ others))
first_in [] others h widths forms = absurd h
first_in (g ∷ groups) others h widths forms = by g.names h where
  bits : First (bits_of g.kind.range)
  bits = first_bit g.kind.range (none_left (declared_faults g.kind.range) (port_faults groups) widths)

  way : is_inout g.mode ≡ false
  way = no_inout g (none_left (port_form true g) (flat_map (port_form true) groups) forms)

  by : (ns : List NewName) → HasSome ns → First (port_bits ((symbols_named (role_of_mode g.mode) g.kind.range g.line ns ++ port_symbols groups) ++ others))
  by [] some = absurd some
  by (n ∷ ns) some =
      let p = first_port g.mode (names n.text (bits_of g.kind.range)) way (first_name n.text (bits_of g.kind.range) bits) in (
        p.0,
        In-left p.0 (ports_of_role (role_of_mode g.mode) (names n.text (bits_of g.kind.range)))
            (port_bits ((symbols_named (role_of_mode g.mode) g.kind.range g.line ns ++ port_symbols groups) ++ others)) p.1,
      )

some_of : {A : Type 0} (xs : List A) (x : A) → In x xs → 0 < length xs
some_of [] x i = elim i [ ]
some_of (y ∷ xs) x i = omega arith

pub has_port : (bytes : List ℕ) (table : List ModelPins) (n : Netlist) → IsVst bytes table n → 0 < length n.ports
has_port bytes table n is =
    let f = is.file in
    let checked = faultless table f is.no_fault in
    let p = first_in f.entity.ports (signal_symbols (signal_groups f.declarations)) (file_declares bytes f is.written)
    (none_left (port_faults f.entity.ports) (flat_map declaration_widths f.declarations) checked.declared.widths)
    (none_left (flat_map (port_form true) f.entity.ports) (flat_map declaration_forms f.declarations) checked.declared.forms) in
    some_of n.ports p.0 (In-permutation (port_bits (nets f)) n.ports p.0 (IsPermutation-sym n.ports (port_bits (nets f)) is.netlist.ports) p.1)
