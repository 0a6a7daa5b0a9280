-- The names of a machine's text: each is declared, and can be read or driven as the text does.
use Rattle.std.proofs.Common.{◌≡◌, ◌⊎◌, inl, inr, ℕ, Bool, true, false, not, ◌||◌, List, [], ◌∷◌, ◌++◌, map, length, filter, Option, None, Some, bytes_eq, slice_index, refl, sym, ap, subst, ◌∙◌, arith, codes, map-id}
use Rattle.std.specs.Prelude.{option_map}
use Rattle.std.specs.List.{list_any}
use Rattle.std.specs.Char.{is_ascii_digit}
use Rattle.std.proofs.lemmas.List.{length-map, map-append}
use Rattle.std.proofs.lemmas.Slice.Eq.{bytes_eq-Decides}
use Rattle.vlsi_base.specs.declared.name.Name.{Name}
use Rattle.vlsi_base.specs.declared.name.Port.{Port}
use Rattle.vlsi_base.specs.declared.name.Dir.{Dir}
use Rattle.vlsi_base.specs.declared.name.Dir.TheVariants as dir
use Rattle.vlsi_base.specs.declared.range.Range.{Range}
use Rattle.vlsi_base.specs.Member.{In, here, there, AllDifferent}
use Rattle.vlsi_base.specs.Name.{is_supply}
use Rattle.vlsi_base.specs.Names.{scalar}
use Rattle.vlsi_base.specs.Range.{range_bits}
use Rattle.vlsi_base.specs.Tree.{name}
use Rattle.machine_core.specs.Named.{is_same_name, value_at}
use Rattle.machine_core.specs.Machine.{Machine, Register, is_input, is_clock, names_of, input_ports, inputs, outputs, register_names}
use Rattle.machine_core.specs.Checked.{IsChecked, IsNoSupply}
use Rattle.machine_core.specs.Order.{held_names, equation_names}
use Rattle.machine_core.proofs.Names.{same_name-itself}
use Rattle.machine_core.proofs.Values.{In-split, In-left, In-right, In-map}
use Rattle.source_checks.specs.declared.symbol_table.Role.{Role}
use Rattle.source_checks.specs.declared.symbol_table.Role.TheVariants as role
use Rattle.source_checks.specs.declared.symbol_table.Symbol.{Symbol}
use Rattle.source_checks.specs.Symbols.{find, bit_name, names_in, symbol_names, role_of_mode}
use Rattle.source_checks.specs.Formula.{leaf, named as named_as}
use Rattle.source_checks.specs.Drivers.{needs_driver}
use Rattle.source_checks.specs.Unsupported.{may_drive}
use Rattle.source_checks.specs.Clock.{may_clock, clock_lines}
use Rattle.source_checks.specs.Elaboration.{port_bits}
use Rattle.vlsi_model.proofs.Members.{In-cases, In-map_back, different_left, different_right, different_append, different_map}
use Rattle.vlsi_model.proofs.Bits.{texts, in_found, found_in, has-range}
use Rattle.vlsi_model.proofs.PortBits.{role_of_dir, port_is, is_port_bit, In-filter, filter-In}
use Rattle.vlsi_model.proofs.Sorting.{In-at}
use Rattle.text_names.proofs.Enough.{are_free}
use Rattle.vst_print.specs.Groups.{Group, grouped, mode_of, bounds_of, declared}
use Rattle.vst_print.proofs.Entries.{Entry, Differs, AreDifferent, port_entry, signal_entry}
use Rattle.vst_print.proofs.Grouped.{group_ports, ports_again}
use Rattle.std.proofs.lemmas.List.Elements.{All-head, All-tail}
use Rattle.vbe_print.specs.Expressions.{name_of}
use Rattle.vbe_print.specs.Writable.{CanBeVbe}
use Rattle.vbe_print.specs.Written.{is_output, inner_count, taken_texts, signal_texts, written_names, written_vars, as_port, as_ports}
use Rattle.vbe_print.proofs.Supplied.{supply_groups}
use Rattle.vbe_print.proofs.Known.{all_in, any_in, free_of, IsSignalText}
use Rattle.vbe_print.proofs.Machines.{Limits, port_chain, stored_chain, no_port_supply, few_taken, signals_are, many_signals, all_differ, port_taken, stored_taken, port_entries, supply_entries, signal_entries, stored_entries}
use Rattle.vbe_laws.proofs.Plain.{LiesIn, IsDeclared, IsReadable}
use Rattle.vbe_laws.proofs.Formulas.{AreReadable, IsDriven}
use Rattle.vbe_laws.proofs.Guards.{IsClock}
use Rattle.vbe_laws.proofs.Renamed.{whence, kept_there, other_there, renamed_differ, kept_value}
use Rattle.vbe_laws.proofs.Stated.{split_different}
use Rattle.vbe_laws.proofs.Declared.{in_flat, flat_in, range_on, bit_of_group, bit_in_group, port_symbol, stored_symbol, signal_symbol, on_lines, in_lines, from_lines, texts_on}

-- a machine whose text can be read
pub record IsGiven (m : Machine) : Type 0 where
  pub checked : IsChecked m
  pub named : CanBeVbe m
  pub limits : Limits m

-- the groups of ports, with the supplies, and of registers
abbrev pub port_groups : Machine → List Group
port_groups m = grouped m.ports ++ supply_groups

abbrev pub stored_groups : Machine → List Group
stored_groups m = grouped (as_ports (register_names m))

-- the symbols of the text, where its declarations begin on these lines
abbrev pub symbols_on : List ℕ → ℕ → ℕ → ℕ → Machine → List Symbol
symbols_on stem line d s m = on_lines port_symbol line (port_groups m) ++ (on_lines signal_symbol d (signal_texts stem m) ++ on_lines stored_symbol s (stored_groups m))

-- ---- their texts differ

key_apart : (t : List ℕ) (es : List Entry) → Differs t es → In t (map (λ e. e.key) es) → ⊥
key_apart t [] d h = elim h [ ]
key_apart t (e ∷ es) d h = elim (In-cases t e.key (map (λ (x : Entry). x.key) es) h) [
  | inl same ↦ All-head (λ (f : Entry). t ≡ f.key → ⊥) e es d (sym same)
  | inr g ↦ key_apart t es (All-tail (λ (f : Entry). t ≡ f.key → ⊥) e es d) g
]

keys_differ : (es : List Entry) → AreDifferent es → AllDifferent (map (λ e. e.key) es)
keys_differ [] d = tt
keys_differ (e ∷ es) d = (key_apart e.key es d.0, keys_differ es d.1)

group_texts : (gs : List Group) → map (λ e. e.key) (map port_entry (map declared gs)) ≡ map (λ g. g.text) gs
group_texts [] = refl
group_texts (g ∷ gs) = ap (λ (ts : List (List ℕ)). g.text ∷ ts) (group_texts gs)

signal_keys : (ss : List (List ℕ)) → map (λ e. e.key) (map signal_entry ss) ≡ ss
signal_keys [] = refl
signal_keys (s ∷ ss) = ap (λ (ts : List (List ℕ)). s ∷ ts) (signal_keys ss)

three : (a b c x y z : List (List ℕ)) → a ≡ x → b ≡ y → c ≡ z → a ++ (b ++ c) ≡ x ++ (y ++ z)
three a b c x y z e f g = ap (λ (w : List (List ℕ)). w ++ (b ++ c)) e ∙ ap (λ (w : List (List ℕ)). x ++ (w ++ c)) f ∙ ap (λ (w : List (List ℕ)). x ++ (y ++ w)) g

pub symbols_differ : (line d s : ℕ) (m : Machine) (given : IsGiven m) → AllDifferent (texts (symbols_on given.limits.stem line d s m))
symbols_differ line d s m given =
    let text : Symbol → List ℕ = λ x. x.text in
    let key : Entry → List ℕ = λ e. e.key in
    let G = on_lines port_symbol line (port_groups m) in
    let S = on_lines signal_symbol d (signal_texts given.limits.stem m) in
    let R = on_lines stored_symbol s (stored_groups m) in
    let P = port_entries m ++ supply_entries in
    let left : texts (symbols_on given.limits.stem line d s m) ≡ texts G ++ (texts S ++ texts R) = map-append text G (S ++ R) ∙ ap (λ (ts : List (List ℕ)). texts G ++ ts) (map-append text S R) in
    let right : map key (P ++ (signal_entries given.limits.stem m ++ stored_entries m)) ≡ map key P ++ (map key (signal_entries given.limits.stem m) ++ map key (stored_entries m)) =
    map-append key P (signal_entries given.limits.stem m ++ stored_entries m) ∙ ap (λ (ts : List (List ℕ)). map key P ++ ts) (map-append key (signal_entries given.limits.stem m) (stored_entries m)) in
    let ports : map key P ≡ map (λ g. g.text) (port_groups m) =
    map-append key (port_entries m) supply_entries ∙ ap (λ (ts : List (List ℕ)). ts ++ map key supply_entries) (group_texts (grouped m.ports))
    ∙ ap (λ (ts : List (List ℕ)). map (λ g. g.text) (grouped m.ports) ++ ts) (group_texts supply_groups)
    ∙ sym (map-append (λ (g : Group). g.text) (grouped m.ports) supply_groups) in
    let same : texts G ++ (texts S ++ texts R) ≡ map key P ++ (map key (signal_entries given.limits.stem m) ++ map key (stored_entries m)) =
    three (texts G) (texts S) (texts R) (map key P) (map key (signal_entries given.limits.stem m)) (map key (stored_entries m))
    (texts_on port_symbol (λ (g : Group). g.text) (λ l g. refl) line (port_groups m) ∙ sym ports)
    (texts_on signal_symbol (λ (t : List ℕ). t) (λ l t. refl) d (signal_texts given.limits.stem m) ∙ map-id (signal_texts given.limits.stem m) ∙ sym (signal_keys (signal_texts given.limits.stem m)))
    (texts_on stored_symbol (λ (g : Group). g.text) (λ l g. refl) s (stored_groups m) ∙ sym (group_texts (stored_groups m))) in
    subst (λ (ts : List (List ℕ)). AllDifferent ts) (sym (left ∙ same ∙ sym right)) (keys_differ (P ++ (signal_entries given.limits.stem m ++ stored_entries m)) (all_differ m given.checked given.named given.limits))

-- ---- how names are declared

-- the name is declared in this role
pub record InRole (known : List Symbol) (r : Role) (n : Name) : Type 0 where
  pub declared : IsDeclared known n
  pub role : declared.symbol.role ≡ r

in_role : (known : List Symbol) → AllDifferent (texts known) → (s : Symbol) (n : Name) (r : Role) → In s known → s.text ≡ n.text → LiesIn s.range n.bit → s.role ≡ r → InRole known r n
in_role known different s n r listed text lies is = record {
  declared = record { symbol = s; found = ap (find known) (sym text) ∙ in_found known s different listed; text = text; lies = lies };
  role = is;
}

module _ (line d s : ℕ) (m : Machine) (given : IsGiven m) where
  abbrev pub known : List Symbol
  known = symbols_on given.limits.stem line d s m

  different : AllDifferent (texts known)
  different = symbols_differ line d s m given

  pub port_declared : (p : Port) → In p m.ports → InRole known (role_of_mode (mode_of p.dir)) p.name
  port_declared p h =
      let g = in_flat group_ports (grouped m.ports) p (subst (λ (ps : List Port). In p ps) (sym (ports_again m.ports (port_chain m given.checked given.named))) h) in
      let l = in_lines port_symbol line (port_groups m) g.0 (In-left g.0 (grouped m.ports) supply_groups g.1) in
      let b = bit_of_group g.0 p l.0 g.2 in
      in_role known different (port_symbol l.0 g.0) p.name (role_of_mode (mode_of p.dir))
      (In-left (port_symbol l.0 g.0) (on_lines port_symbol line (port_groups m)) (on_lines signal_symbol d (signal_texts given.limits.stem m) ++ on_lines stored_symbol s (stored_groups m)) l.1)
      b.text b.lies (ap (λ (x : Dir). role_of_mode (mode_of x)) b.dir)

  pub signal_declared : (t : List ℕ) → In t (signal_texts given.limits.stem m) → InRole known role.Inner (scalar t)
  signal_declared t h =
      let l = in_lines signal_symbol d (signal_texts given.limits.stem m) t h in
      in_role known different (signal_symbol l.0 t) (scalar t) role.Inner
      (In-right (signal_symbol l.0 t) (on_lines port_symbol line (port_groups m)) (on_lines signal_symbol d (signal_texts given.limits.stem m) ++ on_lines stored_symbol s (stored_groups m))
      (In-left (signal_symbol l.0 t) (on_lines signal_symbol d (signal_texts given.limits.stem m)) (on_lines stored_symbol s (stored_groups m)) l.1))
      refl tt refl

  pub register_declared : (n : Name) → In n (register_names m) → InRole known role.Register n
  register_declared n h =
      let p = as_port n in
      let g = in_flat group_ports (stored_groups m) p (subst (λ (ps : List Port). In p ps) (sym (ports_again (as_ports (register_names m)) (stored_chain m given.checked given.named))) (In-map as_port n (register_names m) h)) in
      let l = in_lines stored_symbol s (stored_groups m) g.0 g.1 in
      let b = bit_of_group g.0 p l.0 g.2 in
      in_role known different (stored_symbol l.0 g.0) n role.Register
      (In-right (stored_symbol l.0 g.0) (on_lines port_symbol line (port_groups m)) (on_lines signal_symbol d (signal_texts given.limits.stem m) ++ on_lines stored_symbol s (stored_groups m))
      (In-right (stored_symbol l.0 g.0) (on_lines signal_symbol d (signal_texts given.limits.stem m)) (on_lines stored_symbol s (stored_groups m)) l.1))
      b.text b.lies refl

  -- ---- kinds of names

  port_named : (p : Port → Bool) (n : Name) → In n (names_of (filter p m.ports)) → (q : Port) × In q m.ports × (p q ≡ true) × (q.name ≡ n)
  port_named p n h =
      let q = In-map_back (λ (x : Port). x.name) n (filter p m.ports) h in
      let f = In-filter p m.ports q.0 q.1 in
      (q.0, f.0, f.1, q.2)

  out_role : (x : Dir) → not (is_input x) ≡ true → role_of_mode (mode_of x) ≡ role.Output
  out_role dir.In e = absurd cc
  out_role dir.Out e = refl

  in_mode : (x : Dir) → is_input x ≡ true → role_of_mode (mode_of x) ≡ role.Input
  in_mode dir.In e = refl
  in_mode dir.Out e = absurd cc

  pub output_declared : (n : Name) → In n (outputs m) → InRole known role.Output n
  output_declared n h =
      let q = port_named (λ p. not (is_input p.dir)) n h in
      let r = port_declared q.0 q.1 in
      subst (λ (x : Name). InRole known role.Output x) q.3 (record { declared = r.declared; role = r.role ∙ out_role q.0.dir q.2 })

  pub input_declared : (n : Name) → In n (input_ports m) → InRole known role.Input n
  input_declared n h =
      let q = port_named (λ p. is_input p.dir) n h in
      let r = port_declared q.0 q.1 in
      subst (λ (x : Name). InRole known role.Input x) q.3 (record { declared = r.declared; role = r.role ∙ in_mode q.0.dir q.2 })

  -- a name of an equation is an output's or a signal's
  abbrev pub IsWrittenName : Name → Type 0
  IsWrittenName n = (In n (equation_names m) × In n (outputs m)) ⊎ ((t : List ℕ) × In t (signal_texts given.limits.stem m) × (scalar t ≡ n))

  pub written_name : (n : Name) → In n (written_names given.limits.stem m) → IsWrittenName n
  written_name n h =
      let many = many_signals m given.limits in
      let same : length (map scalar (signal_texts given.limits.stem m)) ≡ length (signal_texts given.limits.stem m) = length-map (signal_texts given.limits.stem m) scalar in
      elim (whence (is_output m) (equation_names m) (map scalar (signal_texts given.limits.stem m)) n (omega (arith, many, same)) h) [
        | inl i ↦ inl (i.0, any_in (outputs m) n i.1)
        | inr j ↦ inr (In-map_back scalar n (signal_texts given.limits.stem m) j)
      ]

  -- ---- no supplies

  pub name_free : (n : Name) → IsNoSupply n → is_supply n.text ≡ false
  name_free n none = by (bytes_eq n.text (codes "vdd")) (bytes_eq n.text (codes "vss")) refl refl where
    by : (a b : Bool) → bytes_eq n.text (codes "vdd") ≡ a → bytes_eq n.text (codes "vss") ≡ b → is_supply n.text ≡ false
    by true b e f = absurd (none.0 ((bytes_eq-Decides n.text (codes "vdd")).0 e))
    by false true e f = absurd (none.1 ((bytes_eq-Decides n.text (codes "vss")).0 f))
    by false false e f = rw (e, f) refl

  leaf_named : (n : Name) → is_supply n.text ≡ false → leaf n ≡ named_as n
  leaf_named n e = by (bytes_eq n.text (codes "vdd")) (bytes_eq n.text (codes "vss")) refl refl where
    by : (a b : Bool) → bytes_eq n.text (codes "vdd") ≡ a → bytes_eq n.text (codes "vss") ≡ b → leaf n ≡ named_as n
    by true b f g = let no : true ≡ false = sym (ap (λ x. x || bytes_eq n.text (codes "vss")) f) ∙ e in absurd cc
    by false true f g = let no : true ≡ false = sym (ap (λ x. x || bytes_eq n.text (codes "vss")) f ∙ g) ∙ e in absurd cc
    by false false f g = rw (f, g) refl

  var_free : (n : Name) → In n m.vars → is_supply n.text ≡ false
  var_free n h = name_free n (all_in IsNoSupply (names_of m.ports ++ m.vars) given.checked.supplies n (In-right n (names_of m.ports) m.vars h))

  pub signal_free : (t : List ℕ) → In t (signal_texts given.limits.stem m) → is_supply t ≡ false
  signal_free t h =
      let good = all_in (IsSignalText (taken_texts m)) (signal_texts given.limits.stem m) (signals_are m given.limits) t h in
      name_free (scalar t) ((λ e. digit_apart good.second e), (λ e. digit_apart_too good.second e)) where
        digit_apart : is_ascii_digit (slice_index t 1) ≡ true → t ≡ codes "vdd" → ⊥
        digit_apart f e = let g : false ≡ true = sym (ap (λ (u : List ℕ). is_ascii_digit (slice_index u 1)) e) ∙ f in absurd cc

        digit_apart_too : is_ascii_digit (slice_index t 1) ≡ true → t ≡ codes "vss" → ⊥
        digit_apart_too f e = let g : false ≡ true = sym (ap (λ (u : List ℕ). is_ascii_digit (slice_index u 1)) e) ∙ f in absurd cc

  -- ---- the clock

  -- the text's clock
  abbrev pub clock_of_text : Option (List ℕ)
  clock_of_text = option_map (λ (n : Name). n.text) m.clock

  -- two names that are declared with one text, where the one has no bit
  alone : (a b : Name) → IsDeclared known a → IsDeclared known b → a.text ≡ b.text → a.bit ≡ None → b.bit ≡ None
  alone a b p q same none =
      let one : Some p.symbol ≡ Some q.symbol = sym p.found ∙ ap (find known) same ∙ q.found in
      let symbol : p.symbol ≡ q.symbol = cc in
      by p.symbol.range a.bit b.bit p.lies (subst (λ (x : Symbol). LiesIn x.range b.bit) (sym symbol) q.lies) none where
        by : (o : Option Range) (x y : Option ℕ) → LiesIn o x → LiesIn o y → x ≡ None → y ≡ None
        by None x None h g e = refl
        by None x (Some k) h g e = absurd g
        by (Some r) None y h g e = absurd h
        by (Some r) (Some j) y h g e = absurd cc

  name_is : (a b : Name) → a.text ≡ b.text → a.bit ≡ None → b.bit ≡ None → b ≡ a
  name_is a b text x y = ap (λ (t : List ℕ). make t b.bit) (sym text) ∙ ap (make a.text) (y ∙ sym x) where
    make : List ℕ → Option ℕ → Name
    make t o = record { text = t; bit = o }

  not_clock : (c : Name) → m.clock ≡ Some c → (n : Name) → IsDeclared known n → (n.text ≡ c.text → ⊥) → (line : ℕ) → clock_lines (Some c.text) (name n.text line) ≡ []
  not_clock c is n p apart line = by (bytes_eq c.text n.text) refl where
    by : (b : Bool) → bytes_eq c.text n.text ≡ b → clock_lines (Some c.text) (name n.text line) ≡ []
    by true e = absurd (apart (sym ((bytes_eq-Decides c.text n.text).0 e)))
    by false e = rw e refl

  var_apart : (c : Name) → m.clock ≡ Some c → (n : Name) → IsDeclared known n → In n m.vars → n.text ≡ c.text → ⊥
  var_apart c is n p h same =
      let clock = given.checked.clock c is in
      let d = (input_declared c clock.port).declared in
      let none = given.named.clock c is in
      let bit = alone c n d p (sym same) none in
      clock.apart (subst (λ (x : Name). In x m.vars) (name_is c n (sym same) none bit) h)

  signal_apart : (c : Name) → m.clock ≡ Some c → (t : List ℕ) → In t (signal_texts given.limits.stem m) → t ≡ c.text → ⊥
  signal_apart c is t h same =
      let good = all_in (IsSignalText (taken_texts m)) (signal_texts given.limits.stem m) (signals_are m given.limits) t h in
      let q = port_named (λ p. is_input p.dir) c (given.checked.clock c is).port in
      free_of (taken_texts m) c.text t good.free (port_taken m c.text (q.0, q.1, ap (λ (x : Name). x.text) q.3)) (sym same)

  other_than_clock : (n : Name) → IsDeclared known n → ((c : Name) → m.clock ≡ Some c → n.text ≡ c.text → ⊥) → (line : ℕ) → clock_lines clock_of_text (name n.text line) ≡ []
  other_than_clock n p apart line = by m.clock refl where
    by : (o : Option Name) → m.clock ≡ o → clock_lines (option_map (λ (x : Name). x.text) o) (name n.text line) ≡ []
    by None e = refl
    by (Some c) e = not_clock c e n p (apart c e) line

  -- ---- names that are read

  var_readable : (n : Name) → IsDeclared known n → In n m.vars → IsReadable known clock_of_text n
  var_readable n p h = record { declared = p; leaf_is = leaf_named n (var_free n h); other = other_than_clock n p (λ c is. var_apart c is n p h) }

  signal_readable : (t : List ℕ) → In t (signal_texts given.limits.stem m) → IsReadable known clock_of_text (scalar t)
  signal_readable t h =
      let p = (signal_declared t h).declared in
      record { declared = p; leaf_is = leaf_named (scalar t) (signal_free t h); other = other_than_clock (scalar t) p (λ c is. signal_apart c is t h) }

  held_var : (n : Name) → In n (held_names m) → In n m.vars
  held_var n h = subst (λ (ns : List Name). In n ns) (sym given.checked.ordered.vars) (In-left n (held_names m) (equation_names m) h)

  equation_var : (n : Name) → In n (equation_names m) → In n m.vars
  equation_var n h = subst (λ (ns : List Name). In n ns) (sym given.checked.ordered.vars) (In-right n (held_names m) (equation_names m) h)

  all_readable : (n : Name) → In n (written_vars given.limits.stem m) → IsReadable known clock_of_text n
  all_readable n h = elim (In-split n (held_names m) (written_names given.limits.stem m) h) [
    | inl i ↦ elim (In-split n (inputs m) (register_names m) i) [
      | inl a ↦ var_readable n (input_declared n (In-filter (λ name. not (is_clock m.clock name)) (input_ports m) n a).0).declared (held_var n i)
      | inr b ↦ var_readable n (register_declared n b).declared (held_var n i)
    ]
    | inr j ↦ elim (written_name n j) [
      | inl a ↦ var_readable n (output_declared n a.1).declared (equation_var n a.0)
      | inr b ↦ subst (λ (x : Name). IsReadable known clock_of_text x) b.2 (signal_readable b.0 b.1)
    ]
  ]

  pub readable : AreReadable known clock_of_text (written_vars given.limits.stem m)
  readable k l = all_readable (name_of (written_vars given.limits.stem m) k) (In-at (written_vars given.limits.stem m) k (scalar []) l)

  -- ---- names that are driven

  drives_output : (x : Symbol) → x.role ≡ role.Output → may_drive false (Some x) ≡ true
  drives_output x e = rw e refl

  drives_inner : (x : Symbol) → x.role ≡ role.Inner → may_drive false (Some x) ≡ true
  drives_inner x e = rw e refl

  drives_register : (x : Symbol) → x.role ≡ role.Register → may_drive true (Some x) ≡ true
  drives_register x e = rw e refl

  output_driven : (n : Name) → In n (outputs m) → IsDriven known false n
  output_driven n h =
      let r = output_declared n h in
      record { declared = r.declared; may = ap (may_drive false) r.declared.found ∙ drives_output r.declared.symbol r.role; needs = ap needs_driver r.role }

  signal_driven : (t : List ℕ) → In t (signal_texts given.limits.stem m) → IsDriven known false (scalar t)
  signal_driven t h =
      let r = signal_declared t h in
      record { declared = r.declared; may = ap (may_drive false) r.declared.found ∙ drives_inner r.declared.symbol r.role; needs = ap needs_driver r.role }

  pub written_driven : (n : Name) → In n (written_names given.limits.stem m) → IsDriven known false n
  written_driven n h = elim (written_name n h) [
    | inl a ↦ output_driven n a.1
    | inr b ↦ subst (λ (x : Name). IsDriven known false x) b.2 (signal_driven b.0 b.1)
  ]

  pub register_driven : (n : Name) → In n (register_names m) → IsDriven known true n
  register_driven n h =
      let r = register_declared n h in
      record { declared = r.declared; may = ap (may_drive true) r.declared.found ∙ drives_register r.declared.symbol r.role; needs = ap needs_driver r.role }

  -- ---- the clock is declared

  clocks_input : (x : Symbol) → x.role ≡ role.Input → x.range ≡ None → is_supply x.text ≡ false → may_clock (Some x) ≡ true
  clocks_input x e f g = rw (e, f, g) refl

  none_lies : (o : Option Range) (b : Option ℕ) → LiesIn o b → b ≡ None → o ≡ None
  none_lies None b h e = refl
  none_lies (Some r) None h e = absurd h
  none_lies (Some r) (Some k) h e = absurd cc

  pub clock_declared : (c : Name) → m.clock ≡ Some c → IsClock known c.text
  clock_declared c is =
      let r = input_declared c (given.checked.clock c is).port in
      let x = r.declared.symbol in
      let range = none_lies x.range c.bit r.declared.lies (given.named.clock c is) in
      let q = port_named (λ p. is_input p.dir) c (given.checked.clock c is).port in
      let free : is_supply q.0.name.text ≡ false = name_free q.0.name (all_in (λ (p : Port). IsNoSupply p.name) m.ports (no_port_supply m given.checked) q.0 q.1) in
      let own : is_supply x.text ≡ false = ap is_supply r.declared.text ∙ ap (λ (n : Name). is_supply n.text) (sym q.3) ∙ free in
      record { symbol = x; found = r.declared.found; scalar = range; clocks = ap may_clock r.declared.found ∙ clocks_input x r.role range own }

  -- ---- no name stands twice

  taken_name : (n : Name) → In n (held_names m) → In n.text (taken_texts m)
  taken_name n h = elim (In-split n (inputs m) (register_names m) h) [
    | inl a ↦
        let q = port_named (λ p. is_input p.dir) n (In-filter (λ name. not (is_clock m.clock name)) (input_ports m) n a).0 in
        port_taken m n.text (q.0, q.1, ap (λ (x : Name). x.text) q.3)
    | inr b ↦ let r = In-map_back (λ (x : Register). x.name) n m.registers b in stored_taken m n.text (r.0, r.1, ap (λ (x : Name). x.text) r.2)
  ]

  taken_output : (n : Name) → In n (outputs m) → In n.text (taken_texts m)
  taken_output n h = let q = port_named (λ p. not (is_input p.dir)) n h in port_taken m n.text (q.0, q.1, ap (λ (x : Name). x.text) q.3)

  no_signal : (n : Name) → In n.text (taken_texts m) → In n (map scalar (signal_texts given.limits.stem m)) → ⊥
  no_signal n h i =
      let t = In-map_back scalar n (signal_texts given.limits.stem m) i in
      let good = all_in (IsSignalText (taken_texts m)) (signal_texts given.limits.stem m) (signals_are m given.limits) t.0 t.1 in
      free_of (taken_texts m) n.text t.0 good.free h (ap (λ (x : Name). x.text) (sym t.2))

  vars_apart : AllDifferent (held_names m ++ equation_names m)
  vars_apart = subst (λ (ns : List Name). AllDifferent ns) given.checked.ordered.vars given.checked.ordered.different

  signals_apart : AllDifferent (map scalar (signal_texts given.limits.stem m))
  signals_apart =
      let few = few_taken m given.limits in
      different_map scalar (signal_texts given.limits.stem m) (λ x y i j e. ap (λ (n : Name). n.text) e) (are_free given.limits.stem (taken_texts m) (inner_count m) (omega (arith, few))).different

  names_apart : AllDifferent (written_names given.limits.stem m)
  names_apart =
      let many = many_signals m given.limits in
      let same : length (map scalar (signal_texts given.limits.stem m)) ≡ length (signal_texts given.limits.stem m) = length-map (signal_texts given.limits.stem m) scalar in
      renamed_differ (is_output m) (equation_names m) (map scalar (signal_texts given.limits.stem m)) (omega (arith, many, same)) (different_right (held_names m) (equation_names m) vars_apart) signals_apart
      (λ x k h. no_signal x (taken_output x (any_in (outputs m) x k)) h)

  held_apart : (n : Name) → In n (held_names m) → In n (written_names given.limits.stem m) → ⊥
  held_apart n h g = elim (written_name n g) [
    | inl a ↦ (split_different (held_names m) (equation_names m) vars_apart).1 n h a.0
    | inr b ↦ no_signal n (taken_name n h) (subst (λ (x : Name). In x (map scalar (signal_texts given.limits.stem m))) b.2 (In-map scalar b.0 (signal_texts given.limits.stem m) b.1))
  ]

  pub written_differ : AllDifferent (held_names m ++ written_names given.limits.stem m)
  written_differ = different_append (held_names m) (written_names given.limits.stem m) (different_left (held_names m) (equation_names m) vars_apart) names_apart held_apart

  -- ---- the outputs keep their names

  is_kept : (n : Name) → In n (outputs m) → is_output m n ≡ true
  is_kept n h = in_any (outputs m) n h where
    either : (a b : Bool) → b ≡ true → (a || b) ≡ true
    either true b e = refl
    either false b e = e

    in_any : (names : List Name) (n : Name) → In n names → list_any (λ x. is_same_name x n) names ≡ true
    in_any (x ∷ xs) n here = ap (λ b. b || list_any (λ y. is_same_name y n) xs) (same_name-itself x)
    in_any (x ∷ xs) n (there h) = either (is_same_name x n) (list_any (λ y. is_same_name y n) xs) (in_any xs n h)
    in_any [] n h = elim h [ ]

  pub output_value : (n : Name) → In n (outputs m) → (w : List Bool) → value_at (written_names given.limits.stem m) w n ≡ value_at (equation_names m) w n
  output_value n h w = kept_value (is_output m) (equation_names m) (map scalar (signal_texts given.limits.stem m)) n (is_kept n h) (no_signal n (taken_output n h)) w

  -- ---- all that needs it is driven

  output_written : (n : Name) → In n (outputs m) → In n (written_names given.limits.stem m)
  output_written n h = kept_there (is_output m) (equation_names m) (map scalar (signal_texts given.limits.stem m)) n (is_kept n h) (given.checked.driven n h)

  signal_written : (t : List ℕ) → In t (signal_texts given.limits.stem m) → In (scalar t) (written_names given.limits.stem m)
  signal_written t h =
      let many = many_signals m given.limits in
      let same : length (map scalar (signal_texts given.limits.stem m)) ≡ length (signal_texts given.limits.stem m) = length-map (signal_texts given.limits.stem m) scalar in
      other_there (is_output m) (equation_names m) (map scalar (signal_texts given.limits.stem m)) (scalar t) (omega (arith, many, same)) (In-map scalar t (signal_texts given.limits.stem m) h)

  out_dir : (x : Dir) → needs_driver (role_of_mode (mode_of x)) ≡ true → not (is_input x) ≡ true
  out_dir dir.In e = absurd cc
  out_dir dir.Out e = refl

  supply_dir : (g : Group) → In g supply_groups → g.dir ≡ dir.In
  supply_dir g here = refl
  supply_dir g (there here) = refl
  supply_dir g (there (there h)) = elim h [ ]

  port_symbol_driven : (l : ℕ) (g : Group) → In g (port_groups m) → needs_driver (role_of_mode (mode_of g.dir)) ≡ true → (n : Name) → In n (symbol_names (port_symbol l g)) → In n (written_names given.limits.stem m)
  port_symbol_driven l g h needs n i = elim (In-split g (grouped m.ports) supply_groups h) [
    | inl a ↦
        let p : Port = record { name = n; dir = g.dir } in
        let listed : In p m.ports = subst (λ (ps : List Port). In p ps) (ports_again m.ports (port_chain m given.checked given.named)) (flat_in group_ports (grouped m.ports) g p a (bit_in_group g l n i)) in
        output_written n (In-map (λ (q : Port). q.name) p (filter (λ q. not (is_input q.dir)) m.ports) (filter-In (λ q. not (is_input q.dir)) m.ports p listed (out_dir g.dir needs)))
    | inr b ↦ let no : false ≡ true = sym (ap (λ (x : Dir). needs_driver (role_of_mode (mode_of x))) (supply_dir g b)) ∙ needs in absurd cc
  ]

  stored_symbol_driven : (l : ℕ) (g : Group) → In g (stored_groups m) → (n : Name) → In n (symbol_names (stored_symbol l g)) → In n (register_names m)
  stored_symbol_driven l g h n i =
      let p : Port = record { name = n; dir = g.dir } in
      let listed : In p (as_ports (register_names m)) =
      subst (λ (ps : List Port). In p ps) (ports_again (as_ports (register_names m)) (stored_chain m given.checked given.named)) (flat_in group_ports (stored_groups m) g p h (bit_in_group g l n i)) in
      let x = In-map_back as_port p (register_names m) listed in
      subst (λ (y : Name). In y (register_names m)) (ap (λ (q : Port). q.name) x.2) x.1

  pub symbol_driven : (x : Symbol) → In x known → needs_driver x.role ≡ true → (n : Name) → In n (symbol_names x) → In n (written_names given.limits.stem m ++ register_names m)
  symbol_driven x h needs n i =
      let G = on_lines port_symbol line (port_groups m) in
      let S = on_lines signal_symbol d (signal_texts given.limits.stem m) in
      let R = on_lines stored_symbol s (stored_groups m) in
      elim (In-split x G (S ++ R) h) [
        | inl a ↦
            let f = from_lines port_symbol line (port_groups m) x a in
            In-left n (written_names given.limits.stem m) (register_names m)
            (port_symbol_driven f.0 f.1 f.2 (ap (λ (y : Symbol). needs_driver y.role) f.3 ∙ needs) n (subst (λ (y : Symbol). In n (symbol_names y)) (sym f.3) i))
        | inr b ↦ elim (In-split x S R b) [
          | inl c ↦
              let f = from_lines signal_symbol d (signal_texts given.limits.stem m) x c in
              elim (In-cases n (scalar f.1) [] (subst (λ (y : Symbol). In n (symbol_names y)) (sym f.3) i)) [
                | inl same ↦ In-left n (written_names given.limits.stem m) (register_names m) (subst (λ (y : Name). In y (written_names given.limits.stem m)) same (signal_written f.1 f.2))
                | inr j ↦ absurd (elim j [ ])
              ]
          | inr e ↦
              let f = from_lines stored_symbol s (stored_groups m) x e in
              In-right n (written_names given.limits.stem m) (register_names m) (stored_symbol_driven f.0 f.1 f.2 n (subst (λ (y : Symbol). In n (symbol_names y)) (sym f.3) i))
        ]
      ]

  -- ---- the ports are those of the text

  range_names : (text : List ℕ) (o : Option Range) (b : Option ℕ) → LiesIn o b → In (record { text = text; bit = b }) (names_in text o)
  range_names text None None h = here
  range_names text None (Some k) h = absurd h
  range_names text (Some r) None h = absurd h
  range_names text (Some r) (Some k) h = In-map (bit_name text) k (range_bits r) (has-range r k h)

  role_dir : (x : Dir) → role_of_mode (mode_of x) ≡ role_of_dir x
  role_dir dir.In = refl
  role_dir dir.Out = refl

  same_dir : (x y : Dir) → role_of_mode (mode_of x) ≡ role_of_dir y → x ≡ y
  same_dir dir.In dir.In e = refl
  same_dir dir.In dir.Out e = absurd cc
  same_dir dir.Out dir.In e = absurd cc
  same_dir dir.Out dir.Out e = refl

  pub port_bit : (p : Port) → In p m.ports → In p (port_bits known)
  port_bit p h =
      let r = port_declared p h in
      let x = r.declared.symbol in
      let free : is_supply p.name.text ≡ false = name_free p.name (all_in (λ (q : Port). IsNoSupply q.name) m.ports (no_port_supply m given.checked) p h) in
      is_port_bit known x p.name p.dir (found_in known p.name.text x r.declared.found)
      (subst (λ (t : List ℕ). In p.name (names_in t x.range)) (sym r.declared.text) (range_names p.name.text x.range p.name.bit r.declared.lies))
      (ap is_supply r.declared.text ∙ free) (r.role ∙ role_dir p.dir)

  supply_text : (g : Group) → In g supply_groups → is_supply g.text ≡ true
  supply_text g here = refl
  supply_text g (there here) = refl
  supply_text g (there (there h)) = elim h [ ]

  not_inner : (x : Dir) → role.Inner ≡ role_of_dir x → ⊥
  not_inner dir.In e = absurd cc
  not_inner dir.Out e = absurd cc

  not_register : (x : Dir) → role.Register ≡ role_of_dir x → ⊥
  not_register dir.In e = absurd cc
  not_register dir.Out e = absurd cc

  pub bit_port : (p : Port) → In p (port_bits known) → In p m.ports
  bit_port p h =
      let b = port_is known p h in
      let x = b.symbol in
      let G = on_lines port_symbol line (port_groups m) in
      let S = on_lines signal_symbol d (signal_texts given.limits.stem m) in
      let R = on_lines stored_symbol s (stored_groups m) in
      elim (In-split x G (S ++ R) b.declared) [
        | inl a ↦
            let f = from_lines port_symbol line (port_groups m) x a in
            let g = f.1 in
            let dir_is : g.dir ≡ p.dir = same_dir g.dir p.dir (ap (λ (y : Symbol). y.role) f.3 ∙ b.role) in
            let named : In p.name (names_in g.text (range_on f.0 (bounds_of g.low g.high))) = subst (λ (y : Symbol). In p.name (symbol_names y)) (sym f.3) b.bit in
            elim (In-split g (grouped m.ports) supply_groups f.2) [
              | inl i ↦
                  let q : Port = record { name = p.name; dir = g.dir } in
                  let listed : In q m.ports = subst (λ (ps : List Port). In q ps) (ports_again m.ports (port_chain m given.checked given.named)) (flat_in group_ports (grouped m.ports) g q i (bit_in_group g f.0 p.name named)) in
                  subst (λ (z : Dir). In (record { name = p.name; dir = z }) m.ports) dir_is listed
              | inr j ↦ let no : true ≡ false = sym (supply_text g j) ∙ ap (λ (y : Symbol). is_supply y.text) f.3 ∙ b.no_supply in absurd cc
            ]
        | inr c ↦ elim (In-split x S R c) [
          | inl i ↦ let f = from_lines signal_symbol d (signal_texts given.limits.stem m) x i in absurd (not_inner p.dir (ap (λ (y : Symbol). y.role) f.3 ∙ b.role))
          | inr j ↦ let f = from_lines stored_symbol s (stored_groups m) x j in absurd (not_register p.dir (ap (λ (y : Symbol). y.role) f.3 ∙ b.role))
        ]
      ]

  pub symbols_apart : AllDifferent (texts known)
  symbols_apart = different
