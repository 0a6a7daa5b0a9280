-- The machine's names can be written where the netlist's can.
use Rattle.std.proofs.Common.{◌≡◌, ◌≢◌, ℕ, zero, suc, ◌+◌, ◌<◌, Bool, true, false, cond, not, List, [], ◌∷◌, map, length, get_or, filter, Option, None, Some, refl, sym, ap, ◌∙◌, subst, arith}
use Rattle.std.specs.Prelude.{slice_get, IsTrue}
use Rattle.std.specs.List.{All}
use Rattle.std.specs.Ordering.{nat_cmp, is_lt, ordering_then, ordering_reverse, is_eq}
use Rattle.std.specs.Cmp.Lexicographic.{slice_cmp}
use Rattle.std.specs.declared.cmp.Ordering.{Ordering}
use Rattle.std.specs.declared.cmp.Ordering.TheVariants.{Less, Equal, Greater}
use Rattle.std.proofs.lemmas.Cmp.{nat_cmp_total, lists_total}
use Rattle.std.proofs.lemmas.Map.Text.{is_eq-slice_cmp}
use Rattle.vlsi_base.specs.declared.name.Name.{Name}
use Rattle.vlsi_base.specs.declared.name.Port.{Port}
use Rattle.vlsi_base.specs.Name.{name_cmp, bit_cmp, is_supply}
use Rattle.vlsi_base.specs.Names.{scalar, comes_before}
use Rattle.vlsi_base.specs.Member.{In, here, there}
use Rattle.machine_core.specs.Machine.{Machine, Register, register_names}
use Rattle.machine_core.specs.Checked.{IsChecked, AreInOrder}
use Rattle.machine_core.proofs.Values.{In-map}
use Rattle.net_core.proofs.Lookups.{same_of}
use Rattle.vlsi_model.proofs.Members.{In-map_back}
use Rattle.vlsi_model.proofs.PortBits.{In-filter}
use Rattle.vlsi_model.proofs.Sorting.{In-at, place_of_In}
use Rattle.vlsi_model.proofs.Assembly.{All-from_In}
use Rattle.cell_pins.proofs.Ports.{before_less, before_itself, Sorted, sorted_of}
use Rattle.text_names.specs.Words.{IsIdentifier, GoesOn}
use Rattle.cell_model.specs.Library.{Library}
use Rattle.cell_model.specs.Cell.{Function}
use Rattle.net_core.specs.Places.{IsThere}
use Rattle.net_core.specs.Netlist.{Instance, Netlist as InMemory, IsNetlist}
use Rattle.net_right.specs.Writable.{CanBeAnInstance, CanBeNamed}
use Rattle.vbe_print.specs.Written.{as_port, as_ports}
use Rattle.vbe_print.specs.Writable.{AreDeclared, CanBeVbe}
use Rattle.bit_machine.proofs.Built.{All_In}
use Rattle.net_machine.specs.Signals.{signal_ports}
use Rattle.net_flat.specs.declared.parts.Part.{Part}
use Rattle.net_flat.specs.declared.parts.Part.TheVariants as part
use Rattle.net_flat.specs.Parts.{part_at, names_if, registers_of}
use Rattle.net_flat.specs.Flat.{HasText, AreApart, HasScalarClock, HasWords, CanBeText, NamedHasWords}
use Rattle.net_flat.proofs.Naming.{IsRegister, register_is, text_of_port}

-- ---- ports of one text stand behind one another

abbrev Follows : Port → List Port → Type 0
Follows p [] = Unit {0}
Follows p (q ∷ qs) = p.name.text ≡ q.name.text → GoesOn p q

abbrev Runs : List Port → Type 0
Runs [] = Unit {0}
Runs (p ∷ ps) = Follows p ps × Runs ps

abbrev RunsAt : List Port → Type 0
RunsAt ps = (k : ℕ) (p q : Port) → slice_get ps k ≡ Some p → slice_get ps (k + 1) ≡ Some q → p.name.text ≡ q.name.text → GoesOn p q

runs_of : (ps : List Port) → RunsAt ps → Runs ps
runs_of [] h = tt
runs_of (p ∷ []) h = (tt, tt)
runs_of (p ∷ q ∷ ps) h = (h 0 p q refl refl, runs_of (q ∷ ps) (λ k a b x y. let e : suc (k + 1) ≡ suc k + 1 = omega arith in h (suc k) a b x (subst (λ (j : ℕ). slice_get (p ∷ q ∷ ps) j ≡ Some b) e y)))

runs_at : (ps : List Port) → Runs ps → RunsAt ps
runs_at [] h k p q x y e = absurd cc
runs_at (a ∷ []) h zero p q x y e = absurd cc
runs_at (a ∷ []) h (suc k) p q x y e = absurd cc
runs_at (a ∷ b ∷ ps) h zero p q x y e =
    let p_is : a ≡ p = cc in
    let q_is : b ≡ q = cc in
    let go : a.name.text ≡ b.name.text → GoesOn a b = h.0 in
    subst (λ (z : Port). GoesOn z q) p_is (subst (λ (z : Port). GoesOn a z) q_is (go (ap (λ (z : Port). z.name.text) p_is ∙ e ∙ ap (λ (z : Port). z.name.text) (sym q_is))))
runs_at (a ∷ b ∷ ps) h (suc k) p q x y e = let z : suc k + 1 ≡ suc (k + 1) = omega arith in runs_at (b ∷ ps) h.1 k p q x (subst (λ (j : ℕ). slice_get (a ∷ b ∷ ps) j ≡ Some q) z y) e

-- names between two of one text have that text
between : (p q r : Name) → comes_before p q ≡ true → comes_before q r ≡ true → p.text ≡ r.text → p.text ≡ q.text
between p q r h g e = by (slice_cmp nat_cmp p.text q.text) refl (before_less p q h) where
  later : slice_cmp nat_cmp q.text p.text ≡ Greater → name_cmp q r ≡ Less → ⊥
  later o l =
      let o2 : slice_cmp nat_cmp q.text r.text ≡ Greater = ap (slice_cmp nat_cmp q.text) (sym e) ∙ o in
      let no : Greater ≡ Less = ap (λ (x : Ordering). ordering_then x (bit_cmp q.bit r.bit)) (sym o2) ∙ l in absurd cc

  by : (o : Ordering) → slice_cmp nat_cmp p.text q.text ≡ o → ordering_then (slice_cmp nat_cmp p.text q.text) (bit_cmp p.bit q.bit) ≡ Less → p.text ≡ q.text
  by Less is l = absurd (later ((lists_total nat_cmp_total).antisymm q.text p.text ∙ ap ordering_reverse is) (before_less q r g))
  by Equal is l = same_of p.text q.text (sym (is_eq-slice_cmp p.text q.text) ∙ ap is_eq is)
  by Greater is l = let no : Greater ≡ Less = ap (λ (x : Ordering). ordering_then x (bit_cmp p.bit q.bit)) (sym is) ∙ l in absurd cc

abbrev is_signal : Port → Bool
is_signal p = not (is_supply p.name.text)

follows_none : (p : Port) (qs : List Port) → ((r : Port) → In r qs → p.name.text ≡ r.name.text → ⊥) → Follows p qs
follows_none p [] h = tt
follows_none p (q ∷ qs) h = λ e. absurd (h q here e)

follows_filter : (p : Port) (qs : List Port) → is_signal p ≡ true → Sorted (p ∷ qs) → Follows p qs → Follows p (filter is_signal qs)
follows_filter p [] s sorted h = tt
follows_filter p (q ∷ qs) s sorted h = by (is_signal q) refl where
  by : (b : Bool) → is_signal q ≡ b → Follows p (cond b (q ∷ filter is_signal qs) (filter is_signal qs))
  by true e = h
  by false e =
      follows_none p (filter is_signal qs)
      (λ r i same.
      let f = In-filter is_signal qs r i in
      let text = between p.name q.name r.name (sorted.0 q here) (sorted.1.0 r f.0) same in
      let no : true ≡ false = sym s ∙ ap (λ (t : List ℕ). not (is_supply t)) text ∙ e in absurd cc)

runs_filter : (ps : List Port) → Sorted ps → Runs ps → Runs (filter is_signal ps)
runs_filter [] s h = tt
runs_filter (p ∷ ps) s h = by (is_signal p) refl (runs_filter ps s.1 h.1) where
  by : (b : Bool) → is_signal p ≡ b → Runs (filter is_signal ps) → Runs (cond b (p ∷ filter is_signal ps) (filter is_signal ps))
  by true e rest = (follows_filter p ps e s h.0, rest)
  by false e rest = rest

signals_declared : (n : InMemory) → IsNetlist n → CanBeNamed n → AreDeclared (signal_ports n.ports)
signals_declared n is named = record {
  words = All-from_In (λ (p : Port). IsIdentifier p.name.text) (signal_ports n.ports)
      (λ p i. All_In (λ (p : Port). IsIdentifier p.name.text) n.ports named.ports.words p (In-filter is_signal n.ports p i).0);
  runs = runs_at (signal_ports n.ports) (runs_filter n.ports (sorted_of n.ports is.ports) (runs_of n.ports named.ports.runs));
}

pub named_has_words : NamedHasWords
named_has_words n is named = record {
  name = named.name;
  ports = signals_declared n is named;
  instances = All-from_In (λ (i : Instance). IsIdentifier i.name) n.instances (λ i j. (All_In CanBeAnInstance n.instances named.instances i j).0);
}

-- ---- registers

registers_declared : (names : List Name) → AreInOrder names → ((n : Name) → In n names → IsIdentifier n.text × (n.bit ≡ None)) → AreDeclared (as_ports names)
registers_declared names order each = record {
  words = All-from_In (λ (p : Port). IsIdentifier p.name.text) (as_ports names)
      (λ p i. let r = In-map_back as_port p names i in subst (λ (q : Port). IsIdentifier q.name.text) r.2 (each r.0 r.1).0);
  runs = λ k p q x y e. absurd (twice names order each k p q x y e);
} where
  made : List ℕ → Option ℕ → Name
  made t b = record { text = t; bit = b }

  at : (names : List Name) (k : ℕ) (p : Port) → slice_get (as_ports names) k ≡ Some p → (k < length names) × ((d : Name) → get_or names k d ≡ p.name)
  at [] k p x = absurd cc
  at (n ∷ names) zero p x = let e : as_port n ≡ p = cc in (omega arith, λ d. ap (λ (z : Port). z.name) e)
  at (n ∷ names) (suc k) p x = let r = at names k p x in let l = r.0 in (omega (arith, l), r.1)

  twice : (names : List Name) → AreInOrder names → ((n : Name) → In n names → IsIdentifier n.text × (n.bit ≡ None)) → (k : ℕ) (p q : Port) → slice_get (as_ports names) k ≡ Some p → slice_get (as_ports names) (k + 1) ≡ Some q
      → p.name.text ≡ q.name.text → ⊥
  twice names order each k p q x y e =
      let a = at names k p x in
      let b = at names (k + 1) q y in
      let l = b.0 in
      let less : name_cmp (get_or names k p.name) (get_or names (k + 1) p.name) ≡ Less = order k (k + 1) p.name (omega arith) (omega (arith, l)) in
      let pb = (each p.name (subst (λ (n : Name). In n names) (a.1 p.name) (In-at names k p.name a.0))).1 in
      let qb = (each q.name (subst (λ (n : Name). In n names) (b.1 p.name) (In-at names (k + 1) p.name b.0))).1 in
      let same : q.name ≡ p.name = ap (λ (t : List ℕ). made t q.name.bit) (sym e) ∙ ap (made p.name.text) (qb ∙ sym pb) in
      let self : name_cmp p.name p.name ≡ Less = ap (λ (n : Name). name_cmp n p.name) (sym (a.1 p.name)) ∙ ap (name_cmp (get_or names k p.name)) (sym (b.1 p.name ∙ same)) ∙ less in
      itself p.name self where
        itself : (n : Name) → name_cmp n n ≡ Less → ⊥
        itself n h = before_itself n (ap is_lt h)

-- ---- the machine

pub can_be_text : (n : InMemory) (l : Library) (o : Machine) → IsChecked o → o.name ≡ n.name → o.ports ≡ signal_ports n.ports
    → ((name : Name) → In name (register_names o) → In name (registers_of l n.instances)) → AreApart n l → CanBeText n o
can_be_text n l o checked name ports registers apart words clock = record {
  name = subst IsIdentifier (sym name) words.name;
  ports = subst AreDeclared (sym ports) words.ports;
  registers = registers_declared (register_names o) checked.registers
      (λ r i.
      let s = register_is l n.instances r (registers r i) in
      (subst (λ (x : Name). IsIdentifier x.text) (sym s.named) (All_In (λ (i : Instance). IsIdentifier i.name) n.instances words.instances s.owner s.listed), ap (λ (x : Name). x.bit) s.named));
  apart = λ p r i j e.
      apart r.name (registers r.name (In-map (λ (x : Register). x.name) r o.registers j))
      (text_of_port n.ports p r.name.text (In-filter is_signal n.ports p (subst (λ (ps : List Port). In p ps) ports i)).0 e);
  clock = clock;
}
