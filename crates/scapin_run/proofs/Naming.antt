-- The names of a netlist with a scan path can be written.
use Rattle.std.proofs.Common.{◌≡◌, ◌⊎◌, inl, inr, ℕ, suc, ◌+◌, ◌*◌, ◌^◌, ◌<◌, Bool, true, false, not, ◌||◌, List, [], ◌∷◌, map, length, codes, bytes_eq, Option, None, Some, refl, sym, ap, ◌∙◌, subst, arith}
use Rattle.vlsi_base.specs.declared.name.Name.{Name}
use Rattle.vlsi_base.specs.declared.name.Port.{Port}
use Rattle.vlsi_base.specs.declared.name.Dir.{Dir}
use Rattle.vlsi_base.specs.declared.name.Dir.TheVariants as dir
use Rattle.vlsi_base.specs.Name.{is_supply}
use Rattle.vlsi_base.specs.Names.{scalar, vdd, vss}
use Rattle.vlsi_base.specs.Member.{In, here, there}
use Rattle.vhdl_token.specs.Keyword.{keyword_of}
use Rattle.text_names.specs.Words.{IsIdentifier, HasBit, ArePortsNamed, CanBePorts}
use Rattle.text_names.proofs.Numbered.{numbered}
use Rattle.cell_model.specs.Library.{Library}
use Rattle.cell_model.proofs.Members.{In-split, In-map, In-map_back, All-In, All-from}
use Rattle.cell_pins.specs.Pins.{supply}
use Rattle.cell_pins.specs.Table.{IsTableOf}
use Rattle.cell_pins.proofs.Ports.{in_filter, sorted_of, sorted_pairs}
use Rattle.cell_lib.specs.Cells.{sources}
use Rattle.cell_lib.specs.Library.{IsLibraryOf}
use Rattle.cell_lib.specs.Laws.{LibraryPasses}
use Rattle.net_core.specs.declared.pins.ModelPins.{ModelPins}
use Rattle.net_core.specs.Netlist.{Instance, Netlist, AreInOrder}
use Rattle.net_core.proofs.Lookups.{same_of}
use Rattle.net_right.specs.Condition.{MeetsCondition}
use Rattle.net_right.specs.Writable.{CanBeAnInstance}
use Rattle.net_right.proofs.Lists.{in_place, filter_in}
use Rattle.net_right.proofs.Models.{named_cell}
use Rattle.net_right.proofs.Ports.{with_both, both_cases, port_stays, vdd_there, vss_there}
use Rattle.scan_theory.specs.Gates.{Gate, gate_instance}
use Rattle.scan_theory.specs.Scan.{scin, test, scout, in_port, out_port, with_port, scan_ports, Cells, Stage, AreStages, ended, next, inverts, nands, on_scin, on_test, shown, loads, gives, chain, first_gate, gates}
use Rattle.scan_theory.specs.Path.{register_names, added, NoneTaken}
use Rattle.scan_theory.proofs.Cells.{celled}
use Rattle.scan_theory.proofs.Ports.{stays_with, cases_with, scan_sorted, scout_in}
use Rattle.vbe_writable.specs.Laws.{CatalIsNamed, PinsAreNamed, InOrderCanBeWritten}
use Rattle.vst_io.specs.Text.{signal_ports}
use Rattle.vst_laws.specs.Writable.{HasNames, NetlistHasNames, TableCanBeWritten}
use Rattle.vst_laws.proofs.Pins.{said_in, name_in}
use Rattle.scapin_run.specs.Laws.{ScannedIsWritable}

-- ---- names of gates

-- each gate has a number below three for each register and three more
module _ (n : Netlist) (cells : Cells) (P : Gate → Type 0) (most : ℕ) (of_inverter : (m a : ℕ) → m < most → P (inverts n cells m a)) (of_nand : (m a b : ℕ) → m < most → P (nands n cells m a b)) where
  chain_each : (stages : List Stage) (j before : ℕ) → 3 * (j + length stages) + 2 < most → (g : Gate) → In g (chain n cells j before stages) → P g
  chain_each [] j before low g here = of_inverter (3 * j + 1) before (omega (arith, low))
  chain_each [] j before low g (there here) = of_inverter (3 * j + 2) (shown n (3 * j + 1)) (omega (arith, low))
  chain_each [] j before low g (there (there h)) = elim h [ ]
  chain_each (s ∷ stages) j before low g here = of_nand (3 * j + 1) (on_test n) before (omega (arith, low))
  chain_each (s ∷ stages) j before low g (there here) = of_nand (3 * j + 2) (shown n 0) (loads n s) (omega (arith, low))
  chain_each (s ∷ stages) j before low g (there (there here)) = of_nand (3 * j + 3) (shown n (3 * j + 1)) (shown n (3 * j + 2)) (omega (arith, low))
  chain_each (s ∷ stages) j before low g (there (there (there h))) = chain_each stages (suc j) (gives n s) (omega (arith, low)) g h

  first_each : (stages : List Stage) → 0 < most → (g : Gate) → In g (first_gate n cells stages) → P g
  first_each [] low g h = elim h [ ]
  first_each (s ∷ stages) low g here = of_inverter 0 (on_test n) low
  first_each (s ∷ stages) low g (there h) = elim h [ ]

  gates_each : (stages : List Stage) → 3 * length stages + 2 < most → (g : Gate) → In g (gates n cells stages) → P g
  gates_each stages low g h = elim (In-split g (first_gate n cells stages) (chain n cells 0 (on_scin n) stages) h) [
    | inl a ↦ first_each stages (omega (arith, low)) g a
    | inr b ↦ chain_each stages 0 (on_scin n) (omega (arith, low)) g b
  ]

gate_word : (n : Netlist) (cells : Cells) (stages : List Stage) → length stages < 2 ^ 27 → (g : Gate) → In g (gates n cells stages) → IsIdentifier g.name
gate_word n cells stages few =
    gates_each n cells (λ g. IsIdentifier g.name) (2 ^ 64) (λ m a low. numbered 115 m refl refl low) (λ m a b low. numbered 115 m refl refl low) stages (omega (arith, few))

-- a stage for each name
stages_many : (n : Netlist) (l : Library) (path : List (List ℕ)) (stages : List Stage) → AreStages n l path stages → length stages ≡ length path
stages_many n l _ _ ended = refl
stages_many n l _ _ (next {path = path} {stages = stages} one rest) = ap suc (stages_many n l path stages rest)

-- ---- ports

-- a supply has one of two names
supply_name : (t : List ℕ) → is_supply t ≡ true → (scalar t ≡ vdd) ⊎ (scalar t ≡ vss)
supply_name t h = by (bytes_eq t (codes "vdd")) refl h where
  by : (b : Bool) → bytes_eq t (codes "vdd") ≡ b → (b || bytes_eq t (codes "vss")) ≡ true → (scalar t ≡ vdd) ⊎ (scalar t ≡ vss)
  by true e s = inl (ap scalar (same_of t (codes "vdd") e))
  by false e s = inr (ap scalar (same_of t (codes "vss") s))

-- no port has the text
abbrev Apart : List ℕ → List Port → Type 0
Apart text ports = (p : Port) → In p ports → p.name.text ≡ text → ⊥

module _ (x : Port) (none : x.name.bit ≡ None) (word : IsIdentifier x.name.text) (ports : List Port) (apart : Apart x.name.text ports) (h : ArePortsNamed ports) where
  more_bits : (text : List ℕ) (k : ℕ) → HasBit ports text k → HasBit (with_port x ports) text k
  more_bits text k b = record {
    port = b.port;
    declared = stays_with x ports b.port b.declared (λ e. apart b.port b.declared (ap (λ (n : Name). n.text) e));
    text_is = b.text_is;
    bit_is = b.bit_is;
  }

  text_of : (p : Port) → p ≡ x → p.name.text ≡ x.name.text
  text_of p e = ap (λ (y : Port). y.name.text) e

  no_bit : (p : Port) (k : ℕ) → p ≡ x → p.name.bit ≡ Some k → ⊥
  no_bit p k e f = let never : Some k ≡ None = sym f ∙ ap (λ (y : Port). y.name.bit) e ∙ none in absurd cc

  one_more : ArePortsNamed (with_port x ports)
  one_more = record {
    words = λ p i. elim (cases_with x ports p i) [
      | inl e ↦ subst IsIdentifier (sym (text_of p e)) word
      | inr a ↦ h.words p a
    ];
    scalars = λ p q i j same bit. elim (cases_with x ports p i) [
      | inl e ↦ elim (cases_with x ports q j) [
        | inl f ↦ f ∙ sym e
        | inr b ↦ absurd (apart q b (sym same ∙ text_of p e))
      ]
      | inr a ↦ elim (cases_with x ports q j) [
        | inl f ↦ absurd (apart p a (same ∙ text_of q f))
        | inr b ↦ h.scalars p q a b same bit
      ]
    ];
    whole = λ p q m n k i j same first last low high. elim (cases_with x ports p i) [
      | inl e ↦ absurd (no_bit p m e first)
      | inr a ↦ elim (cases_with x ports q j) [
        | inl f ↦ absurd (no_bit q n f last)
        | inr b ↦ more_bits p.name.text k (h.whole p q m n k a b same first last low high)
      ]
    ];
    directed = λ p q i j same. elim (cases_with x ports p i) [
      | inl e ↦ elim (cases_with x ports q j) [
        | inl f ↦ ap (λ (y : Port). y.dir) (e ∙ sym f)
        | inr b ↦ absurd (apart q b (sym same ∙ text_of p e))
      ]
      | inr a ↦ elim (cases_with x ports q j) [
        | inl f ↦ absurd (apart p a (same ∙ text_of q f))
        | inr b ↦ h.directed p q a b same
      ]
    ];
  }

  -- a text that the port and the others haven't
  still_apart : (text : List ℕ) → (x.name.text ≡ text → ⊥) → Apart text ports → Apart text (with_port x ports)
  still_apart text unlike beside p i e = elim (cases_with x ports p i) [
    | inl is ↦ unlike (sym (text_of p is) ∙ e)
    | inr a ↦ beside p a e
  ]

-- the same ports in another order
same_ports : (xs ys : List Port) → ((p : Port) → In p xs → In p ys) → ((p : Port) → In p ys → In p xs) → ArePortsNamed xs → ArePortsNamed ys
same_ports xs ys to from h = record {
  words = λ p i. h.words p (from p i);
  scalars = λ p q i j. h.scalars p q (from p i) (from q j);
  whole = λ p q m n k i j same first last low high.
      let b = h.whole p q m n k (from p i) (from q j) same first last low high in
      record { port = b.port; declared = to b.port b.declared; text_is = b.text_is; bit_is = b.bit_is };
  directed = λ p q i j. h.directed p q (from p i) (from q j);
}

word_scin : IsIdentifier (codes "scin")
unfolding keyword_of
word_scin = (refl, refl)

word_test : IsIdentifier (codes "test")
unfolding keyword_of
word_test = (refl, refl)

word_scout : IsIdentifier (codes "scout")
unfolding keyword_of
word_scout = (refl, refl)

module _ (pins : PinsAreNamed) (in_order : InOrderCanBeWritten) (l : Library) (table : List ModelPins) (n : Netlist) (met : MeetsCondition table n) (free : NoneTaken l n)
    (order : AreInOrder (map (λ p. p.name) n.ports)) (named : ArePortsNamed (signal_ports n)) where
  signal : (p : Port) → In p n.ports → is_supply p.name.text ≡ false → In p (signal_ports n)
  signal p i plain = filter_in (λ (q : Port). not (is_supply q.name.text)) n.ports p i (ap not plain)

  supply_or : (p : Port) → In p n.ports → (p ≡ supply vdd) ⊎ ((p ≡ supply vss) ⊎ In p (signal_ports n))
  supply_or p i = by (is_supply p.name.text) refl where
    by : (b : Bool) → is_supply p.name.text ≡ b → (p ≡ supply vdd) ⊎ ((p ≡ supply vss) ⊎ In p (signal_ports n))
    by false e = inr (inr (signal p i e))
    by true e =
        let s = met.supplies p (in_place p n.ports i) e in
        elim (supply_name p.name.text e) [
          | inl f ↦ inl (is_port (named_so s.0 ∙ f) s.1)
          | inr f ↦ inr (inl (is_port (named_so s.0 ∙ f) s.1))
        ] where
          named_so : p.name.bit ≡ None → p.name ≡ scalar p.name.text
          named_so none =
              let made : Option ℕ → Name = λ b. record { text = p.name.text; bit = b } in
              ap made none

          is_port : {name : Name} → p.name ≡ name → p.dir ≡ dir.In → p ≡ supply name
          is_port {name} f d =
              let made : Name → Dir → Port = λ x y. record { name = x; dir = y } in
              ap (λ (x : Name). made x p.dir) f ∙ ap (made name) d

  no_name : (p : Port) (name : Name) → is_supply name.text ≡ true → is_supply p.name.text ≡ false → p.name ≡ name → ⊥
  no_name p name is plain e = let never : false ≡ true = sym plain ∙ ap (λ (x : Name). is_supply x.text) e ∙ is in absurd cc

  stays : (p : Port) (ps : List Port) → In p ps → is_supply p.name.text ≡ false → In p (with_both ps)
  stays p ps i plain = port_stays ps p i (no_name p vdd refl plain) (no_name p vss refl plain)

  both_named : ArePortsNamed (with_both n.ports)
  both_named = same_ports (with_both (signal_ports n)) (with_both n.ports) to from (pins (signal_ports n) named no_supply) where
    no_supply : (p : Port) → In p (signal_ports n) → is_supply p.name.text ≡ false
    no_supply p i = negated (is_supply p.name.text) (in_filter (λ (q : Port). not (is_supply q.name.text)) n.ports p i).1 where
      negated : (b : Bool) → not b ≡ true → b ≡ false
      negated true e = absurd (cc e)
      negated false e = refl

    to : (p : Port) → In p (with_both (signal_ports n)) → In p (with_both n.ports)
    to p i = elim (both_cases (signal_ports n) p i) [
      | inl e ↦ subst (λ (q : Port). In q (with_both n.ports)) (sym e) (vss_there n.ports)
      | inr rest ↦ elim rest [
        | inl e ↦ subst (λ (q : Port). In q (with_both n.ports)) (sym e) (vdd_there n.ports)
        | inr a ↦ stays p n.ports (in_filter (λ (q : Port). not (is_supply q.name.text)) n.ports p a).0 (no_supply p a)
      ]
    ]

    from : (p : Port) → In p (with_both n.ports) → In p (with_both (signal_ports n))
    from p i = elim (both_cases n.ports p i) [
      | inl e ↦ subst (λ (q : Port). In q (with_both (signal_ports n))) (sym e) (vss_there (signal_ports n))
      | inr rest ↦ elim rest [
        | inl e ↦ subst (λ (q : Port). In q (with_both (signal_ports n))) (sym e) (vdd_there (signal_ports n))
        | inr a ↦ elim (supply_or p a) [
          | inl e ↦ subst (λ (q : Port). In q (with_both (signal_ports n))) (sym e) (vdd_there (signal_ports n))
          | inr last ↦ elim last [
            | inl e ↦ subst (λ (q : Port). In q (with_both (signal_ports n))) (sym e) (vss_there (signal_ports n))
            | inr b ↦ stays p (signal_ports n) b (no_supply p b)
          ]
        ]
      ]
    ]

  -- a text that is added is no port's
  beside : (text : List ℕ) → In text (added (length (register_names l n))) → is_supply text ≡ false → Apart text (with_both n.ports)
  beside text listed plain p i e = elim (both_cases n.ports p i) [
    | inl is ↦ no_text (ap (λ (q : Port). is_supply q.name.text) is)
    | inr rest ↦ elim rest [
      | inl is ↦ no_text (ap (λ (q : Port). is_supply q.name.text) is)
      | inr a ↦ free text listed (inl (subst (λ (t : List ℕ). In t (map (λ (q : Port). q.name.text) n.ports)) e (In-map (λ (q : Port). q.name.text) p n.ports a)))
    ]
  ] where
    no_text : is_supply p.name.text ≡ true → ⊥
    no_text own = let never : false ≡ true = sym plain ∙ ap is_supply (sym e) ∙ own in absurd cc

  abbrev with_scin : List Port
  with_scin = with_port (in_port scin) (with_both n.ports)

  abbrev with_test : List Port
  with_test = with_port (in_port test) with_scin

  no_scin : Apart (codes "scin") (with_both n.ports)
  no_scin = beside (codes "scin") here refl

  scin_named : ArePortsNamed with_scin
  scin_named = one_more (in_port scin) refl word_scin (with_both n.ports) no_scin both_named

  differ : (a b : List ℕ) → bytes_eq a b ≡ false → bytes_eq a a ≡ true → a ≡ b → ⊥
  differ a b unlike itself e = let never : true ≡ false = sym itself ∙ subst (λ (t : List ℕ). bytes_eq a t ≡ false) (sym e) unlike in absurd cc

  no_test : Apart (codes "test") with_scin
  no_test =
      still_apart (in_port scin) refl word_scin (with_both n.ports) no_scin both_named (codes "test") (differ (codes "scin") (codes "test") refl refl)
      (beside (codes "test") (there here) refl)

  test_named : ArePortsNamed with_test
  test_named = one_more (in_port test) refl word_test with_scin no_test scin_named

  no_scout : Apart (codes "scout") with_test
  no_scout =
      still_apart (in_port test) refl word_test with_scin no_test scin_named (codes "scout") (differ (codes "test") (codes "scout") refl refl)
      (still_apart (in_port scin) refl word_scin (with_both n.ports) no_scin both_named (codes "scout") (differ (codes "scin") (codes "scout") refl refl)
      (beside (codes "scout") (there (there here)) refl))

  all_named : ArePortsNamed (scan_ports n.ports)
  all_named = one_more (out_port scout) refl word_scout with_test no_scout test_named

  some_port : {ps : List Port} {p : Port} → In p ps → 0 < length ps
  some_port here = omega arith
  some_port (there i) = omega arith

  pub ports_written : CanBePorts (scan_ports n.ports)
  ports_written = in_order (scan_ports n.ports) all_named (sorted_pairs (scan_ports n.ports) (scan_sorted n.ports (sorted_of n.ports order))) (some_port (scout_in n.ports))

-- ---- all names

-- what is known of what is read
pub record Known : Type 0 where
  pub passes : LibraryPasses
  pub lists : CatalIsNamed
  pub names : NetlistHasNames
  pub pins : PinsAreNamed
  pub order : InOrderCanBeWritten
  pub written : TableCanBeWritten

module _ (known : Known) (catal : List ℕ) (files : List (List ℕ)) (l : Library) (table : List ModelPins) (library : IsLibraryOf false catal files l) (of : IsTableOf l false table) (r : Netlist)
    (met : MeetsCondition table r) where
  -- the cells of a library have identifiers as names
  model_word : (i : Instance) → In i r.instances → IsIdentifier i.model
  model_word i i_in =
      let k = celled l table (known.passes false catal files l library) of r met.fits i i_in in
      let c = named_cell l.cells i.model k.cell k.found in
      let x = said_in false (sources library.names files) l.cells library.cells k.cell c.0 in
      subst IsIdentifier (sym x.2.said.name ∙ c.1) (known.lists catal library.names library.uses x.0.name (name_in library.names files x.0 x.1))

pub scanned_is_writable : Known → ScannedIsWritable
scanned_is_writable known catal source files l table n r path library of is met free few scanned met_after = record {
  fits = met_after.fits;
  pins = known.written false false catal files l table library of;
  named = record {
    name = subst IsIdentifier (sym scanned.name) given.name;
    ports = subst CanBePorts (sym scanned.ports) (ports_written known.pins known.order l table n met free is.netlist.sound.ports given.signals);
    instances = All-from CanBeAnInstance r.instances (λ i at. (word i at, model_word known catal files l table library of r met_after i at));
  };
} where
  given : HasNames n
  given = known.names source table n is

  word : (i : Instance) → In i r.instances → IsIdentifier i.name
  word i at = elim (In-split i n.instances (map gate_instance (gates n scanned.cells scanned.stages)) (subst (λ (is : List Instance). In i is) scanned.instances at)) [
    | inl old ↦ All-In (λ (y : Instance). IsIdentifier y.name) n.instances given.instances i old
    | inr new ↦
        let g = In-map_back gate_instance i (gates n scanned.cells scanned.stages) new in
        let many = stages_many n l path scanned.stages scanned.are in
        subst (λ (y : Instance). IsIdentifier y.name) g.2 (gate_word n scanned.cells scanned.stages (omega (arith, many, few)) g.0 g.1)
  ]
