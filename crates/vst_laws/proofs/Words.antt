-- The names of a structural text are words, and its ports but the supplies can be declared.
use Rattle.std.proofs.Common.{◌≡◌, inl, inr, ℕ, ◌≤◌, bytes_eq, ◌||◌, Bool, true, false, not, List, [], ◌∷◌, map, Option, None, Some, refl, sym, ap, ap₂, ◌∙◌, subst}
use Rattle.std.specs.Prelude.{codes}
use Rattle.std.specs.List.{All}
use Rattle.std.proofs.lemmas.List.{map-append}
use Rattle.std.proofs.lemmas.List.Sorted.{IsPermutation-sym}
use Rattle.vlsi_base.specs.declared.name.Name.{Name}
use Rattle.vlsi_base.specs.declared.name.Port.{Port}
use Rattle.vlsi_base.specs.declared.name.Dir.{Dir}
use Rattle.vlsi_base.specs.declared.name.Dir.TheVariants as dir
use Rattle.vlsi_base.specs.declared.range.Range.{Range}
use Rattle.vlsi_base.specs.declared.entity.Entity.{Entity}
use Rattle.vlsi_base.specs.declared.entity.NewName.{NewName}
use Rattle.vlsi_base.specs.declared.entity.TypeWord.{TypeWord}
use Rattle.vlsi_base.specs.declared.entity.TypeWord.TheVariants as type
use Rattle.vlsi_base.specs.declared.entity.SignalGroup.{SignalGroup}
use Rattle.vlsi_base.specs.Range.{range_bits}
use Rattle.vlsi_base.specs.Name.{is_supply}
use Rattle.vlsi_base.specs.NamePlaces.{name_of as name_with}
use Rattle.vlsi_base.specs.Member.{In, here, there, AllDifferent}
use Rattle.grammar_theory.specs.Marks.{enters}
use Rattle.grammar_theory.specs.declared.limits.TheConstants.{DEPTH}
use Rattle.vhdl_front.specs.Cursor.{name_of}
use Rattle.machine_core.proofs.Values.{In-split, In-left, In-right, In-map}
use Rattle.source_checks.specs.declared.symbol_table.Role.{Role}
use Rattle.source_checks.specs.declared.symbol_table.Role.TheVariants as role
use Rattle.source_checks.specs.declared.symbol_table.Symbol.{Symbol}
use Rattle.source_checks.specs.Symbols.{role_of_word, names_in, symbol_names, symbols_named, port_symbols, signal_symbols}
use Rattle.source_checks.specs.Elaboration.{port_of, ports_of_role}
use Rattle.vlsi_model.proofs.Members.{In-cases, In-map_back, different_left}
use Rattle.vlsi_model.proofs.Bits.{different_texts, texts, text_in}
use Rattle.vlsi_model.proofs.Building.{map-then}
use Rattle.vlsi_model.proofs.Assembly.{In-permutation, All-from_In}
use Rattle.vlsi_model.proofs.PortBits.{In-filter, filter-In}
use Rattle.vhdl_token.specs.Keyword.{keyword_of}
use Rattle.text_names.specs.Words.{IsIdentifier, HasBit, ArePortsNamed}
use Rattle.vst_text.specs.declared.file.InstanceStatement.{InstanceStatement}
use Rattle.vst_text.specs.declared.file.StructuralFile.{StructuralFile}
use Rattle.vst_text.specs.Vst.{among_instances, instance_statement, instance_statements, architecture, structure}
use Rattle.vst_io.specs.Nets.{signal_groups, nets, bits_of, names, port_bits, instance_of}
use Rattle.vst_io.specs.Text.{IsWritten, IsNetlistOf, signal_ports}
use Rattle.vst_io.proofs.First.{faultless}
use Rattle.net_core.specs.declared.pins.ModelPins.{ModelPins}
use Rattle.net_core.specs.Netlist.{Instance, Netlist}
use Rattle.net_right.specs.Condition.{MeetsCondition}
use Rattle.net_right.specs.Writable.{CanBeAnInstance}
use Rattle.net_right.proofs.Lists.{in_place}
use Rattle.net_core.proofs.Lookups.{same_of}
use Rattle.cell_model.proofs.Members.{All-In}
use Rattle.vst_io.specs.Text.{IsVst}
use Rattle.vst_laws.specs.Writable.{NetlistHasNames, NetlistCanBeNamed}
use Rattle.vst_laws.proofs.HasPort.{has_port}
use Rattle.vbe_writable.specs.Laws.{InOrderCanBeWritten}
use Rattle.vbe_writable.proofs.Cut.{IsShortWord, AreNamed, named_in}
use Rattle.vbe_writable.proofs.Saying.{Every, every_in, words_of, Says, says_then, says_behind, says_nothing, says_list, says_name}
use Rattle.vbe_writable.proofs.Sources.{IsEntityWord, says_entity, ports_words}
use Rattle.vbe_writable.proofs.Declaring.{IsBit, AreBits, bits_named, machine_dir}

-- ---- what the grammar says

abbrev IsInstanceWord : InstanceStatement → Type 0
IsInstanceWord i = IsShortWord i.label

abbrev IsFileWord : StructuralFile → Type 0
IsFileWord f = IsEntityWord f.entity × Every IsInstanceWord f.instances

says_instance : (room : ℕ) → Says (instance_statement room) IsInstanceWord
unfolding instance_statement
says_instance room =
    says_then (says_name (λ t. enters among_instances t.line (name_of t))) (λ t h. says_behind (λ u. says_behind (λ c. says_behind (λ m.
    says_nothing IsInstanceWord (record { label = name_of t; line = t.line; component = name_of c; component_line = c.line; associations = m.0; end_line = m.1 }) h))))

says_instances : (room : ℕ) → Says (instance_statements room) (Every IsInstanceWord)
unfolding instance_statements
says_instances room =
    says_behind (λ t. says_then (says_list (says_instance room)) (λ all h. says_behind (λ u. says_nothing (Every IsInstanceWord) all h)))

says_architecture : (room : ℕ) (e : Entity) → IsEntityWord e → Says (architecture room e) IsFileWord
unfolding architecture
says_architecture room e h =
    says_behind (λ name. says_behind (λ declared. says_then (says_instances room) (λ all g. says_behind (λ u.
    says_nothing IsFileWord (record { entity = e; declarations = declared; instances = all }) (h, g)))))

says_structure : (room : ℕ) → Says (structure room) IsFileWord
unfolding structure
says_structure room = says_then (says_entity room) (λ e h. says_architecture room e h)

file_words : (bytes : List ℕ) (f : StructuralFile) → IsWritten bytes f → IsFileWord f
file_words bytes f w =
    let a = w.structure.read.0 in
    (says_structure DEPTH).each a.front f (words_of a.front w.structure.end.rest (subst AreNamed a.parts (named_in bytes))) a.sentence

-- ---- ports

same_names : (text : List ℕ) (o : Option Range) → names text (bits_of o) ≡ names_in text o
same_names text None = refl
same_names text (Some r) = map-then (name_with text) (λ (k : ℕ). Some k) (range_bits r)

of_role : (r : Role) (ns : List Name) (p : Port) → In p (ports_of_role r ns) → In p.name ns × (machine_dir r ≡ Some p.dir)
of_role role.Input ns p i = let m = In-map_back (port_of dir.In) p ns i in (subst (λ (q : Port). In q.name ns) m.2 m.1, ap (λ (q : Port). Some q.dir) m.2)
of_role role.Output ns p i = let m = In-map_back (port_of dir.Out) p ns i in (subst (λ (q : Port). In q.name ns) m.2 m.1, ap (λ (q : Port). Some q.dir) m.2)
of_role role.Both ns p i = elim i [ ]
of_role role.Inner ns p i = elim i [ ]
of_role role.Register ns p i = elim i [ ]

to_role : (r : Role) (ns : List Name) (n : Name) (d : Dir) → In n ns → machine_dir r ≡ Some d → In (port_of d n) (ports_of_role r ns)
to_role role.Input ns n d i e = let same : dir.In ≡ d = cc in subst (λ (x : Dir). In (port_of x n) (map (port_of dir.In) ns)) same (In-map (port_of dir.In) n ns i)
to_role role.Output ns n d i e = let same : dir.Out ≡ d = cc in subst (λ (x : Dir). In (port_of x n) (map (port_of dir.Out) ns)) same (In-map (port_of dir.Out) n ns i)
to_role role.Both ns n d i e = absurd cc
to_role role.Inner ns n d i e = absurd cc
to_role role.Register ns n d i e = absurd cc

-- a bit of a declared port
record IsOf (known : List Symbol) (p : Port) : Type 0 where
  symbol : Symbol
  declared : In symbol known
  bit : In p.name (symbol_names symbol)
  direction : machine_dir symbol.role ≡ Some p.dir

bit_is : (known : List Symbol) (p : Port) → In p (port_bits known) → IsOf known p
bit_is [] p i = elim i [ ]
bit_is (s ∷ known) p i = elim (In-split p (ports_of_role s.role (names s.text (bits_of s.range))) (port_bits known) i) [
  | inl a ↦ let r = of_role s.role (names s.text (bits_of s.range)) p a in record { symbol = s; declared = here; bit = subst (λ (ns : List Name). In p.name ns) (same_names s.text s.range) r.0; direction = r.1 }
  | inr b ↦ let r = bit_is known p b in record { symbol = r.symbol; declared = there r.declared; bit = r.bit; direction = r.direction }
]

is_bit : (known : List Symbol) (s : Symbol) (n : Name) (d : Dir) → In s known → In n (symbol_names s) → machine_dir s.role ≡ Some d → In (port_of d n) (port_bits known)
is_bit [] s n d h i e = elim h [ ]
is_bit (s ∷ known) _ n d here i e =
    In-left (port_of d n) (ports_of_role s.role (names s.text (bits_of s.range))) (port_bits known)
    (to_role s.role (names s.text (bits_of s.range)) n d (subst (λ (ns : List Name). In n ns) (sym (same_names s.text s.range)) i) e)
is_bit (s ∷ known) t n d (there h) i e =
    In-right (port_of d n) (ports_of_role s.role (names s.text (bits_of s.range))) (port_bits known) (is_bit known t n d h i e)

-- a signal is no port
no_signal : (groups : List SignalGroup) (s : Symbol) (d : Dir) → In s (signal_symbols groups) → machine_dir s.role ≡ Some d → ⊥
no_signal [] s d i e = elim i [ ]
no_signal (g ∷ groups) s d i e = elim (In-split s (symbols_named (role_of_word g.kind.word) g.kind.range g.line g.names) (signal_symbols groups) i) [
  | inl a ↦ inner (role_of_word g.kind.word) (of_word g.kind.word) g.kind.range g.line g.names a
  | inr b ↦ no_signal groups s d b e
] where
  of_word : (w : TypeWord) → machine_dir (role_of_word w) ≡ None
  of_word type.Bit = refl
  of_word type.BitVector = refl
  of_word type.RegBit = refl
  of_word type.RegVector = refl
  of_word type.RegBitVector = refl
  of_word type.MuxBit = refl
  of_word type.MuxVector = refl
  of_word type.WorBit = refl
  of_word type.WorVector = refl

  inner : (r : Role) → machine_dir r ≡ None → (range : Option Range) (line : ℕ) (ns : List NewName) → In s (symbols_named r range line ns) → ⊥
  inner r none range line [] j = elim j [ ]
  inner r none range line (n ∷ ns) j = elim (In-cases s (record { text = n.text; role = r; range = range; line = line }) (symbols_named r range line ns) j) [
    | inl same ↦ let no : None ≡ Some d = sym none ∙ ap (λ (x : Symbol). machine_dir x.role) same ∙ e in absurd cc
    | inr k ↦ inner r none range line ns k
  ]

abbrev pub is_signal : Port → Bool
is_signal p = not (is_supply p.name.text)

to_false : (b : Bool) → not b ≡ true → b ≡ false
to_false true e = absurd cc
to_false false e = refl

signal_bits : (table : List ModelPins) (f : StructuralFile) (n : Netlist) → IsNetlistOf table f n → AreBits machine_dir (port_symbols f.entity.ports) (signal_ports n)
signal_bits table f n is = record { only = only; all = all } where
  own : List Symbol
  own = port_symbols f.entity.ports

  only : (p : Port) → In p (signal_ports n) → IsBit machine_dir (port_symbols f.entity.ports) p
  only p i =
      let k = In-filter is_signal n.ports p i in
      let b = bit_is (nets f) p (In-permutation n.ports (port_bits (nets f)) p is.ports k.0) in
      record {
        symbol = b.symbol;
        declared = elim (In-split b.symbol (port_symbols f.entity.ports) (signal_symbols (signal_groups f.declarations)) b.declared) [
          | inl a ↦ a
          | inr c ↦ absurd (no_signal (signal_groups f.declarations) b.symbol p.dir c b.direction)
        ];
        bit = b.bit;
        no_supply = ap is_supply (sym (text_in b.symbol.text b.symbol.range p.name b.bit)) ∙ to_false (is_supply p.name.text) k.1;
        direction = b.direction;
      }

  all : (p : Port) → IsBit machine_dir (port_symbols f.entity.ports) p → In p (signal_ports n)
  all p b =
      let j = is_bit (nets f) b.symbol p.name p.dir (In-left b.symbol (port_symbols f.entity.ports) (signal_symbols (signal_groups f.declarations)) b.declared) b.bit b.direction in
      let text : is_supply p.name.text ≡ false = ap is_supply (text_in b.symbol.text b.symbol.range p.name b.bit) ∙ b.no_supply in
      filter-In is_signal n.ports p (In-permutation (port_bits (nets f)) n.ports p (IsPermutation-sym n.ports (port_bits (nets f)) is.ports) j) (rw text refl)

own_different : (f : StructuralFile) → AllDifferent (texts (nets f)) → AllDifferent (texts (port_symbols f.entity.ports))
own_different f d =
    different_left (texts (port_symbols f.entity.ports)) (texts (signal_symbols (signal_groups f.declarations)))
    (subst (λ (ts : List (List ℕ)). AllDifferent ts) (map-append (λ (s : Symbol). s.text) (port_symbols f.entity.ports) (signal_symbols (signal_groups f.declarations))) d)

-- the ports of the signals
pub signals_named : (bytes : List ℕ) (table : List ModelPins) (n : Netlist) → IsVst bytes table n → ArePortsNamed (signal_ports n)
signals_named bytes table n is =
    let words = file_words bytes is.file is.written in
    let checked = faultless table is.file is.no_fault in
    let different = own_different is.file (different_texts (nets is.file) checked.once) in
    bits_named machine_dir (port_symbols is.file.entity.ports) (signal_ports n) different (ports_words is.file.entity.ports words.0.1) (signal_bits table is.file n is.netlist)

-- its name, its signals' ports and its instances' names
pub netlist_names : NetlistHasNames
netlist_names bytes table n is =
    let words = file_words bytes is.file is.written in
    record {
      name = subst IsIdentifier (sym is.netlist.name) words.0.0.0;
      signals = signals_named bytes table n is;
      instances = subst (λ (is : List Instance). All (λ i. IsIdentifier i.name) is) (sym is.netlist.instances)
          (All-from_In (λ (i : Instance). IsIdentifier i.name) (map (instance_of table) is.file.instances)
          (λ i j.
          let r = In-map_back (instance_of table) i is.file.instances j in
          subst (λ (x : Instance). IsIdentifier x.name) r.2 (every_in IsInstanceWord is.file.instances r.0 words.1 r.1).0));
    }

-- ---- all ports

word_vdd : IsIdentifier (codes "vdd")
unfolding keyword_of
word_vdd = (refl, refl)

word_vss : IsIdentifier (codes "vss")
unfolding keyword_of
word_vss = (refl, refl)

same_port : (p q : Port) → p.name.text ≡ q.name.text → p.name.bit ≡ q.name.bit → p.dir ≡ q.dir → q ≡ p
same_port p q text bit way = ap₂ port_of (sym way) (ap₂ (λ (t : List ℕ) (b : Option ℕ). named t b) (sym text) (sym bit)) where
  named : List ℕ → Option ℕ → Name
  named t b = record { text = t; bit = b }

no_bit : (a : ℕ) (o : Option ℕ) → o ≡ None → o ≡ Some a → ⊥
no_bit a o none some = let no : None ≡ Some a = sym none ∙ some in absurd cc

supply_word : (text : List ℕ) → is_supply text ≡ true → IsIdentifier text
supply_word text is = by (bytes_eq text (codes "vdd")) refl is where
  by : (b : Bool) → bytes_eq text (codes "vdd") ≡ b → (b || bytes_eq text (codes "vss")) ≡ true → IsIdentifier text
  by true e h = subst IsIdentifier (sym (same_of text (codes "vdd") e)) word_vdd
  by false e h = subst IsIdentifier (sym (same_of text (codes "vss") h)) word_vss

module _ (table : List ModelPins) (n : Netlist) (met : MeetsCondition table n) (signals : ArePortsNamed (signal_ports n)) where
  signal : (p : Port) → In p n.ports → is_supply p.name.text ≡ false → In p (signal_ports n)
  signal p i isnt = filter-In is_signal n.ports p i (ap not isnt)

  -- a port with the text of a supply
  supply_of : (p : Port) → In p n.ports → is_supply p.name.text ≡ true → (p.name.bit ≡ None) × (p.dir ≡ dir.In)
  supply_of p i is = met.supplies p (in_place p n.ports i) is

  pub all_named : ArePortsNamed n.ports
  all_named = record {
    words = λ p i. by_word p i (is_supply p.name.text) refl;
    scalars = λ p q i j e none. by_scalar p q i j e none (is_supply p.name.text) refl;
    whole = λ p q a b k i j e f g low high. by_whole p q a b k i j e f g low high (is_supply p.name.text) refl;
    directed = λ p q i j e. by_way p q i j e (is_supply p.name.text) refl;
  } where
    by_word : (p : Port) → In p n.ports → (b : Bool) → is_supply p.name.text ≡ b → IsIdentifier p.name.text
    by_word p i true is = supply_word p.name.text is
    by_word p i false isnt = signals.words p (signal p i isnt)

    other : (p q : Port) (b : Bool) → p.name.text ≡ q.name.text → is_supply p.name.text ≡ b → is_supply q.name.text ≡ b
    other p q b e h = ap is_supply (sym e) ∙ h

    by_scalar : (p q : Port) → In p n.ports → In q n.ports → p.name.text ≡ q.name.text → p.name.bit ≡ None → (b : Bool) → is_supply p.name.text ≡ b → q ≡ p
    by_scalar p q i j e none true is =
        let x = supply_of p i is in let y = supply_of q j (other p q true e is) in same_port p q e (x.0 ∙ sym y.0) (x.1 ∙ sym y.1)
    by_scalar p q i j e none false isnt = signals.scalars p q (signal p i isnt) (signal q j (other p q false e isnt)) e none

    by_whole : (p q : Port) (a b k : ℕ) → In p n.ports → In q n.ports → p.name.text ≡ q.name.text → p.name.bit ≡ Some a → q.name.bit ≡ Some b → a ≤ k → k ≤ b
        → (v : Bool) → is_supply p.name.text ≡ v → HasBit n.ports p.name.text k
    by_whole p q a b k i j e f g low high true is = let x = supply_of p i is in absurd (no_bit a p.name.bit x.0 f)
    by_whole p q a b k i j e f g low high false isnt =
        let h = signals.whole p q a b k (signal p i isnt) (signal q j (other p q false e isnt)) e f g low high in
        record { port = h.port; declared = (In-filter is_signal n.ports h.port h.declared).0; text_is = h.text_is; bit_is = h.bit_is }

    by_way : (p q : Port) → In p n.ports → In q n.ports → p.name.text ≡ q.name.text → (b : Bool) → is_supply p.name.text ≡ b → p.dir ≡ q.dir
    by_way p q i j e true is = let x = supply_of p i is in let y = supply_of q j (other p q true e is) in x.1 ∙ sym y.1
    by_way p q i j e false isnt = signals.directed p q (signal p i isnt) (signal q j (other p q false e isnt)) e

pub netlist_named : InOrderCanBeWritten → NetlistCanBeNamed
netlist_named law bytes table n is met models =
    let words = netlist_names bytes table n is in
    record {
      name = words.name;
      ports = law n.ports (all_named table n met words.signals) is.netlist.sound.ports (has_port bytes table n is);
      instances = All-from_In CanBeAnInstance n.instances
          (λ i j. (All-In (λ (x : Instance). IsIdentifier x.name) n.instances words.instances i j, models i j));
    }
