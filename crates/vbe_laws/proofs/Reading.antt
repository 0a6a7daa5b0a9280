-- What is read of the text of a machine: it passes the checks, and is a machine that is alike.
use Rattle.std.proofs.Common.{◌≡◌, inl, inr, ℕ, ◌<◌, Bool, true, false, cond, ◌||◌, List, [], ◌∷◌, ◌++◌, map, length, Option, None, Some, bytes_eq, codes, refl, sym, ap, subst, ◌∙◌, arith}
use Rattle.std.specs.Prelude.{option_map}
use Rattle.std.specs.List.{All, list_any}
use Rattle.std.specs.List.Sorted.{IsPermutation}
use Rattle.std.proofs.lemmas.List.Elements.{All-append, All-weaker}
use Rattle.std.proofs.lemmas.List.Sorted.{length_permutation, IsPermutation-refl}
use Rattle.vlsi_base.specs.declared.name.Name.{Name}
use Rattle.vlsi_base.specs.declared.name.Port.{Port}
use Rattle.vlsi_base.specs.declared.fault.ReadError.{ReadError}
use Rattle.vlsi_base.specs.declared.fault.ReadError.TheVariants as errors
use Rattle.vlsi_base.specs.declared.fault.FaultKind.TheVariants as kind
use Rattle.vlsi_base.specs.Member.{In, here, there, AllDifferent}
use Rattle.vlsi_base.specs.Name.{is_supply}
use Rattle.machine_core.specs.Machine.{Machine, Equation, Register, names_of, register_names}
use Rattle.machine_core.specs.Order.{held_names, equation_names}
use Rattle.machine_core.proofs.Values.{In-map}
use Rattle.machine_core.specs.Alike.{IsAlike}
use Rattle.vhdl_lexer.specs.Listing.{tokens_in}
use Rattle.source_checks.specs.declared.statement.DesignFile.{DesignFile}
use Rattle.source_checks.specs.declared.statement.Statement.{Statement}
use Rattle.source_checks.specs.declared.symbol_table.Symbol.{Symbol}
use Rattle.source_checks.specs.declared.drivers.NameFault.{NameFault}
use Rattle.source_checks.specs.Symbols.{symbols, port_symbols, signal_symbols}
use Rattle.source_checks.specs.Places.{Use, in_statements, statement_uses, first_unknown}
use Rattle.source_checks.specs.Widths.{port_faults, signal_faults, statement_faults, all_width_faults}
use Rattle.source_checks.specs.Drivers.{statement_drivers, drivers, all_driven, first_second_driver, first_undriven}
use Rattle.source_checks.specs.Unsupported.{port_forms, signal_forms, statement_forms, all_unsupported}
use Rattle.source_checks.specs.Clock.{statement_clocks, first_text, clock_text, statement_clock_lines, all_clock_lines}
use Rattle.source_checks.specs.Elaboration.{Definition, Storage, statement_definitions, statement_storage, definitions, storage, port_bits, clock_name, IsMachineOf}
use Rattle.source_checks.specs.Formula.{place}
use Rattle.source_checks.specs.Checks.{Passes, if_symbol, if_use, if_line, if_name, first_repeated, first_fault, HasNoRing}
use Rattle.vlsi_model.proofs.Bits.{texts, different_bits}
use Rattle.vlsi_model.proofs.Members.{different_Sub, In-map_back, different_append, different_left, different_right}
use Rattle.vlsi_model.proofs.PortBits.{ports_sub}
use Rattle.vlsi_model.proofs.Sorting.{permutation_same}
use Rattle.vlsi_model.proofs.Assembly.{In-permutation}
use Rattle.std.proofs.lemmas.List.Sorted.{IsPermutation-sym}
use Rattle.vbe_text.specs.Source.{SourceTree, StatementTree, statement_view, source_view}
use Rattle.vbe_text.proofs.Laws as text_laws
use Rattle.vbe_io.specs.Text.{IsVbe, IsWritten, Refused, IsVbeRefusal, long, uncut, unwritten, faulty}
use Rattle.vbe_io.proofs.Once.{pass_or_fail, cut_or_not}
use Rattle.vlsi_model.proofs.OneOrder.{one_order}
use Rattle.vbe_print.specs.Written.{with_supply_ports, signal_texts, written_names, written_vars, as_ports}
use Rattle.vbe_print.proofs.Naming.{as_many_written}
use Rattle.vst_print.specs.Groups.{Group, grouped, declared}
use Rattle.vst_print.proofs.Grouped.{GoodBits, bits_good}
use Rattle.vst_print.proofs.Netlists.{outline_name}
use Rattle.vbe_print.specs.Placed.{source_of}
use Rattle.vbe_print.specs.Said.{text_by, IsLetter}
use Rattle.vbe_print.proofs.Sentence.{written_is_a_sentence}
use Rattle.vbe_print.proofs.Whole.{declared_on, stored_on, begun_on, blocks_on}
use Rattle.vbe_print.proofs.Machines.{parts_of, some_declared, equations_over, port_chain, stored_chain}
use Rattle.vbe_laws.specs.Again.{ReadAgainBy, ReadAgain}
use Rattle.std.proofs.Common.{get_or}
use Rattle.std.proofs.lemmas.List.{map-append}
use Rattle.std.proofs.lemmas.List.Elements.{All-map}
use Rattle.std.specs.Ordering.{ordering_reverse}
use Rattle.std.specs.declared.cmp.Ordering.TheVariants.{Less, Greater}
use Rattle.vlsi_base.specs.declared.entity.PortGroup.{PortGroup}
use Rattle.vlsi_base.specs.Name.{name_cmp}
use Rattle.vlsi_base.proofs.NameOrder.{name_total}
use Rattle.machine_core.specs.Machine.{inputs}
use Rattle.machine_core.specs.Checked.{AreInOrder, IsNoSupply}
use Rattle.machine_core.proofs.Values.{In-right}
use Rattle.source_checks.specs.Cycles.{IsRing}
use Rattle.source_checks.specs.Symbols.{all_names}
use Rattle.source_checks.proofs.Lookups.{same_of}
use Rattle.vlsi_model.proofs.Sorting.{different_from_pairs}
use Rattle.spell_theory.specs.Layout.{line_behind}
use Rattle.vhdl_print.specs.Outline.{OnePort, placed_port, placed_ports}
use Rattle.vst_print.specs.Groups.{outline_of}
use Rattle.vst_print.proofs.Names.{texts_all}
use Rattle.vbe_print.specs.Written.{as_port}
use Rattle.vbe_print.specs.Placed.{placed_signals, placed_groups, placed_storage}
use Rattle.vbe_print.proofs.Supplied.{supply_groups, groups_supplied}
use Rattle.vbe_print.proofs.Known.{all_by}
use Rattle.vbe_print.proofs.Machines.{no_port_supply, no_stored_supply}
use Rattle.vbe_laws.proofs.RenamedTrees.{in_each, statements_each, uses_at, widths_at, drivers_at, forms_at, clocks_at, clock_lines_at, definitions_at, storage_at, uses_are, widths_are, drivers_are, forms_are, clocks_are, clock_lines_are, definitions_are, storage_is}
use Rattle.vbe_laws.proofs.Plain.{nothing}
use Rattle.vbe_laws.proofs.Stated.{AreStated, none_unknown, split_different, driven_once, all_are_driven}
use Rattle.vbe_laws.proofs.Rings.{no_ring, definitions_of, each_lower}
use Rattle.vbe_laws.proofs.Copies.{equation_over, register_over, stored_as, IsCopy, names_over, copy_is_alike}
use Rattle.vbe_laws.proofs.Declared.{port_symbol, stored_symbol, signal_symbol, on_lines, entity_symbols, signals_both, signals_on, stored_on as symbols_stored, entity_fine, declarations_fine, FitsSupply, entity_forms, declarations_forms}
use Rattle.vbe_laws.proofs.Named.{IsGiven, port_groups, stored_groups, symbols_on, symbols_differ, name_free, signal_free, clock_of_text, written_differ, output_value, symbol_driven, port_bit, bit_port}
use Rattle.vbe_laws.proofs.Itself.{IsReadAsItself, equations_themselves, registers_themselves}
use Rattle.vbe_laws.proofs.Passing.{Stores, machine_stated, all_stated}

-- ---- names that are declared once

not_before : (t : List ℕ) (before : List (List ℕ)) → (In t before → ⊥) → list_any (bytes_eq t) before ≡ false
not_before t [] lacks = refl
not_before t (b ∷ before) lacks = by (not_before t before (λ h. lacks (there h))) (bytes_eq t b) refl where
  by : list_any (bytes_eq t) before ≡ false → (x : Bool) → bytes_eq t b ≡ x → (x || list_any (bytes_eq t) before) ≡ false
  by rest false e = rest
  by rest true e = absurd (lacks (subst (λ (u : List ℕ). In t (u ∷ before)) (same_of t b e) here))

never_repeated : (before : List (List ℕ)) (known : List Symbol) → AllDifferent (texts known) → ((t : List ℕ) → In t before → In t (texts known) → ⊥) → first_repeated before known ≡ None
never_repeated before [] d apart = refl
never_repeated before (s ∷ known) d apart =
    ap (λ b. cond b (Some s) (first_repeated (s.text ∷ before) known)) (not_before s.text before (λ h. apart s.text h here))
    ∙ never_repeated (s.text ∷ before) known d.1 (more s.text (λ u h g. apart u h (there g)) d.0) where
      more : (t : List ℕ) → ((u : List ℕ) → In u before → In u (texts known) → ⊥) → (In t (texts known) → ⊥) → (u : List ℕ) → In u (t ∷ before) → In u (texts known) → ⊥
      more t later own u here g = own g
      more t later own u (there h) g = later u h g

-- ---- the text

-- the lines of the declarations, of the registers, of the equations and of the blocks
abbrev ports_line : ℕ
ports_line = line_behind (line_behind 1)

abbrev signals_line : List ℕ → Machine → ℕ
signals_line stem m = declared_on 1 (parts_of stem m)

abbrev registers_line : List ℕ → Machine → ℕ
registers_line stem m = stored_on 1 (parts_of stem m)

abbrev equations_line : List ℕ → Machine → ℕ
equations_line stem m = begun_on 1 (parts_of stem m)

abbrev blocks_line : List ℕ → Machine → ℕ
blocks_line stem m = blocks_on 1 (parts_of stem m)

-- what the text declares
abbrev symbols_of : List ℕ → Machine → List Symbol
symbols_of stem m = symbols_on stem ports_line (signals_line stem m) (registers_line stem m) m

some_groups : (m : Machine) → 0 < length (map declared (port_groups m))
some_groups m = subst (λ (ps : List OnePort). 0 < length ps) (sym (map-append declared (grouped m.ports) supply_groups)) (some_declared m)

groups_are : (m : Machine) → IsGiven m → grouped (with_supply_ports m.ports) ≡ port_groups m
groups_are m given = groups_supplied m.ports (no_port_supply m given.checked)

abbrev entity_of : List ℕ → List Group → List PortGroup
entity_of name gs = placed_port ports_line (outline_of name (map declared gs)).first ∷ placed_ports ports_line (outline_of name (map declared gs)).others

-- what holds of the groups with the supplies holds of the entity
of_entity : {A : Type 0} (look : List PortGroup → A) (x : A) (m : Machine) → (given : IsGiven m) → look (entity_of m.name (port_groups m)) ≡ x → look (source_of given.limits.stem m).entity.ports ≡ x
of_entity look x m given e = ap (λ (gs : List Group). look (entity_of m.name gs)) (groups_are m given) ∙ e

symbols_are : (m : Machine) → (given : IsGiven m) → port_symbols (source_of given.limits.stem m).entity.ports ++ signal_symbols (source_of given.limits.stem m).declarations.signals ≡ symbols_of given.limits.stem m
symbols_are m given =
    let G = on_lines port_symbol ports_line (port_groups m) in
    let S = placed_signals (signals_line given.limits.stem m) (signal_texts given.limits.stem m) in
    let R = placed_groups (registers_line given.limits.stem m) (stored_groups m) in
    let ports : port_symbols (source_of given.limits.stem m).entity.ports ≡ G = of_entity port_symbols G m given (entity_symbols ports_line m.name (port_groups m) (some_groups m)) in
    let signals : signal_symbols (S ++ R) ≡ on_lines signal_symbol (signals_line given.limits.stem m) (signal_texts given.limits.stem m) ++ on_lines stored_symbol (registers_line given.limits.stem m) (stored_groups m) =
    signals_both S R ∙ ap (λ (xs : List Symbol). xs ++ signal_symbols R) (signals_on (signals_line given.limits.stem m) (signal_texts given.limits.stem m))
    ∙ ap (λ (xs : List Symbol). on_lines signal_symbol (signals_line given.limits.stem m) (signal_texts given.limits.stem m) ++ xs) (symbols_stored (registers_line given.limits.stem m) (stored_groups m)) in
    ap (λ (xs : List Symbol). xs ++ signal_symbols (S ++ R)) ports ∙ ap (λ (xs : List Symbol). G ++ xs) signals

good_groups : (m : Machine) → IsGiven m → All GoodBits (port_groups m)
good_groups m given = All-append GoodBits (grouped m.ports) supply_groups (bits_good m.ports (port_chain m given.checked given.named)) (all_by GoodBits supply_groups good) where
  good : (g : Group) → In g supply_groups → GoodBits g
  good g here = tt
  good g (there here) = tt
  good g (there (there h)) = elim h [ ]

fit_groups : (m : Machine) → IsGiven m → All FitsSupply (port_groups m)
fit_groups m given =
    All-append FitsSupply (grouped m.ports) supply_groups
    (All-weaker (λ (g : Group). is_supply g.text ≡ false) FitsSupply (λ g e. inl e) (grouped m.ports)
    (texts_all (λ t. is_supply t ≡ false) m.ports
    (All-weaker (λ (p : Port). IsNoSupply p.name) (λ (p : Port). is_supply p.name.text ≡ false) (λ p n. name_free ports_line (signals_line given.limits.stem m) (registers_line given.limits.stem m) m given p.name n) m.ports (no_port_supply m given.checked))))
    (all_by FitsSupply supply_groups fits) where
      fits : (g : Group) → In g supply_groups → FitsSupply g
      fits g here = inr (refl, refl)
      fits g (there here) = inr (refl, refl)
      fits g (there (there h)) = elim h [ ]

free_stored : (m : Machine) → IsGiven m → All (λ g. is_supply g.text ≡ false) (stored_groups m)
free_stored m given =
    texts_all (λ t. is_supply t ≡ false) (as_ports (register_names m))
    (All-map (λ (p : Port). is_supply p.name.text ≡ false) as_port (register_names m)
    (All-map (λ (n : Name). is_supply n.text ≡ false) (λ (r : Register). r.name) m.registers
    (All-weaker (λ (r : Register). IsNoSupply r.name) (λ (r : Register). is_supply r.name.text ≡ false) (λ r n. name_free ports_line (signals_line given.limits.stem m) (registers_line given.limits.stem m) m given r.name n) m.registers (no_stored_supply m given.checked))))

-- ---- lists

-- items whose keys differ
different_unmapped : {X Y : Type 0} (f : X → Y) (xs : List X) → AllDifferent (map f xs) → AllDifferent xs
different_unmapped f [] d = tt
different_unmapped f (x ∷ xs) d = ((λ h. d.0 (In-map f x xs h)), different_unmapped f xs d.1)

in_order_differ : (names : List Name) → AreInOrder names → AllDifferent names
in_order_differ names order = different_from_pairs names (λ i j d l k e. apart (get_or names i d) (get_or names j d) (order i j d l k) e) where
  apart : (a b : Name) → name_cmp a b ≡ Less → a ≡ b → ⊥
  apart a b less e =
      let own : name_cmp a a ≡ Less = ap (name_cmp a) e ∙ less in
      let turned : Less ≡ Greater = sym own ∙ name_total.antisymm a a ∙ ap ordering_reverse own in absurd cc

different_left_names : (m : Machine) → IsGiven m → AllDifferent (map (λ p. p.name) m.ports)
different_left_names m given = in_order_differ (names_of m.ports) given.checked.ports

-- no check finds a fault
all_none : {a : Option Symbol} {b : Option Use} {c : List ℕ} {d e : Option NameFault} {f g : List ℕ} → a ≡ None → b ≡ None → c ≡ [] → d ≡ None → e ≡ None → f ≡ [] → g ≡ []
    → if_symbol a (if_use b (if_line kind.Width c (if_name kind.TwoDrivers d (if_name kind.Undriven e (if_line kind.Unsupported f (if_line kind.ClockUse g None)))))) ≡ None
all_none p q r s t u v = rw (p, q, r, s, t, u, v) refl

-- ---- a design of that text

module _ (m : Machine) (given : IsGiven m) (design : DesignFile) (same : source_view design ≡ source_of given.limits.stem m) where
  -- the machine's names as the text has them
  abbrev vars : List Name
  vars = held_names m ++ written_names given.limits.stem m

  known_is : symbols design ≡ symbols_of given.limits.stem m
  known_is = ap (λ (t : SourceTree). port_symbols t.entity.ports ++ signal_symbols t.declarations.signals) same ∙ symbols_are m given

  found : {A : Type 0} (look : List Symbol → Statement → List A) (of : List Symbol → StatementTree → List A) → ((known : List Symbol) (s : Statement) → look known s ≡ of known (statement_view s))
      → in_statements (look (symbols design)) design.statements ≡ in_each (of (symbols_of given.limits.stem m)) (source_of given.limits.stem m).statements
  found look of seen =
      ap (λ (known : List Symbol). in_statements (look known) design.statements) known_is
      ∙ statements_each (look (symbols_of given.limits.stem m)) (of (symbols_of given.limits.stem m)) (seen (symbols_of given.limits.stem m)) design.statements
      ∙ ap (λ (t : SourceTree). in_each (of (symbols_of given.limits.stem m)) t.statements) same

  abbrev ck : Option (List ℕ)
  ck = clock_of_text ports_line (signals_line given.limits.stem m) (registers_line given.limits.stem m) m given

  stores : Stores (symbols_of given.limits.stem m) ck (placed_storage (written_vars given.limits.stem m) (blocks_line given.limits.stem m) m.clock m.registers) (map (stored_as (written_vars given.limits.stem m)) m.registers) (register_names m)
  stores = machine_stated ports_line (signals_line given.limits.stem m) (registers_line given.limits.stem m) (equations_line given.limits.stem m) (blocks_line given.limits.stem m) m given

  stated : AreStated (symbols_of given.limits.stem m) ck (source_of given.limits.stem m).statements (definitions_of vars (written_names given.limits.stem m) m.equations) (map (stored_as vars) m.registers) (written_names given.limits.stem m ++ register_names m) stores.clocks
  stated = all_stated ports_line (signals_line given.limits.stem m) (registers_line given.limits.stem m) (equations_line given.limits.stem m) (blocks_line given.limits.stem m) m given stores

  clock_is : clock_text design ≡ ck
  clock_is = ap first_text (found statement_clocks clocks_at clocks_are ∙ stated.clocks) ∙ stores.first

  -- ---- the checks

  none_twice : first_repeated [] (symbols design) ≡ None
  none_twice =
      ap (first_repeated []) known_is ∙ never_repeated [] (symbols_of given.limits.stem m) (symbols_differ ports_line (signals_line given.limits.stem m) (registers_line given.limits.stem m) m given) (λ t h g. elim h [ ])

  all_known : first_unknown (symbols design) (in_statements statement_uses design.statements) ≡ None
  all_known =
      ap (λ (us : List Use). first_unknown (symbols design) us) (found (λ known. statement_uses) (λ known. uses_at) (λ known. uses_are))
      ∙ ap (λ (known : List Symbol). first_unknown known (in_each uses_at (source_of given.limits.stem m).statements)) known_is
      ∙ none_unknown (symbols_of given.limits.stem m) (in_each uses_at (source_of given.limits.stem m).statements) stated.uses

  all_wide : all_width_faults design ≡ []
  all_wide =
      nothing (port_faults design.entity.ports) (signal_faults design.declarations.signals ++ in_statements (statement_faults (symbols design)) design.statements)
      (ap (λ (t : SourceTree). port_faults t.entity.ports) same ∙ of_entity port_faults [] m given (entity_fine ports_line m.name (port_groups m) (some_groups m) (good_groups m given)))
      (nothing (signal_faults design.declarations.signals) (in_statements (statement_faults (symbols design)) design.statements)
      (ap (λ (t : SourceTree). signal_faults t.declarations.signals) same
      ∙ declarations_fine (signals_line given.limits.stem m) (registers_line given.limits.stem m) (signal_texts given.limits.stem m) (stored_groups m) (bits_good (as_ports (register_names m)) (stored_chain m given.checked given.named)))
      (found statement_faults widths_at widths_are ∙ stated.widths))

  drivers_is : all_driven (drivers design) ≡ written_names given.limits.stem m ++ register_names m
  drivers_is = ap all_driven (found statement_drivers drivers_at drivers_are) ∙ stated.drivers

  driven_apart : AllDifferent (written_names given.limits.stem m ++ register_names m)
  driven_apart =
      let d = written_differ ports_line (signals_line given.limits.stem m) (registers_line given.limits.stem m) m given in
      different_append (written_names given.limits.stem m) (register_names m) (different_right (held_names m) (written_names given.limits.stem m) d)
      (different_right (inputs m) (register_names m) (different_left (held_names m) (written_names given.limits.stem m) d))
      (λ n h g. (split_different (held_names m) (written_names given.limits.stem m) d).1 n (In-right n (inputs m) (register_names m) g) h)

  none_again : first_second_driver [] (drivers design) ≡ None
  none_again = driven_once (drivers design) (subst (λ (ns : List Name). AllDifferent ns) (sym drivers_is) driven_apart)

  all_driven_there : first_undriven (all_driven (drivers design)) (symbols design) ≡ None
  all_driven_there =
      ap (λ (ns : List Name). first_undriven ns (symbols design)) drivers_is ∙ ap (λ (known : List Symbol). first_undriven (written_names given.limits.stem m ++ register_names m) known) known_is
      ∙ all_are_driven (written_names given.limits.stem m ++ register_names m) (symbols_of given.limits.stem m) (symbol_driven ports_line (signals_line given.limits.stem m) (registers_line given.limits.stem m) m given)

  all_forms : all_unsupported design ≡ []
  all_forms =
      nothing (port_forms design.entity.ports) (signal_forms design.declarations.signals ++ in_statements (statement_forms (symbols design)) design.statements)
      (ap (λ (t : SourceTree). port_forms t.entity.ports) same ∙ of_entity port_forms [] m given (entity_forms ports_line m.name (port_groups m) (some_groups m) (fit_groups m given)))
      (nothing (signal_forms design.declarations.signals) (in_statements (statement_forms (symbols design)) design.statements)
      (ap (λ (t : SourceTree). signal_forms t.declarations.signals) same
      ∙ declarations_forms (signals_line given.limits.stem m) (registers_line given.limits.stem m) (signal_texts given.limits.stem m) (stored_groups m)
      (all_by (λ t. is_supply t ≡ false) (signal_texts given.limits.stem m) (signal_free ports_line (signals_line given.limits.stem m) (registers_line given.limits.stem m) m given)) (free_stored m given))
      (found statement_forms forms_at forms_are ∙ stated.forms))

  all_clocks : all_clock_lines design ≡ []
  all_clocks =
      ap (λ (c : Option (List ℕ)). in_statements (statement_clock_lines (symbols design) c) design.statements) clock_is
      ∙ found (λ known. statement_clock_lines known ck) (λ known. clock_lines_at known ck) (λ known. clock_lines_are known ck) ∙ stated.lines

  no_fault : first_fault design ≡ None
  no_fault = all_none none_twice all_known all_wide none_again all_driven_there all_forms all_clocks

  -- ---- rings and ports

  definitions_is : definitions design ≡ definitions_of vars (written_names given.limits.stem m) m.equations
  definitions_is = found statement_definitions definitions_at definitions_are ∙ stated.definitions

  rings : HasNoRing design
  rings ring is =
      no_ring (definitions_of vars (written_names given.limits.stem m) m.equations) (place vars)
      (each_lower vars (held_names m) (written_names given.limits.stem m) m.equations (written_differ ports_line (signals_line given.limits.stem m) (registers_line given.limits.stem m) m given) refl given.checked.ordered.below) ring
      (subst (λ (ds : List Definition). IsRing ds ring) definitions_is is)

  ports_apart : AllDifferent m.ports
  ports_apart = different_unmapped (λ (p : Port). p.name) m.ports (different_left_names m given)

  port_order : IsPermutation m.ports (port_bits (symbols_of given.limits.stem m))
  port_order =
      permutation_same m.ports (port_bits (symbols_of given.limits.stem m)) ports_apart
      (different_unmapped (λ (p : Port). p.name) (port_bits (symbols_of given.limits.stem m))
      (different_Sub (names_of (port_bits (symbols_of given.limits.stem m))) (all_names (symbols_of given.limits.stem m)) (ports_sub (symbols_of given.limits.stem m)) (different_bits (symbols_of given.limits.stem m) (symbols_differ ports_line (signals_line given.limits.stem m) (registers_line given.limits.stem m) m given))))
      (port_bit ports_line (signals_line given.limits.stem m) (registers_line given.limits.stem m) m given) (bit_port ports_line (signals_line given.limits.stem m) (registers_line given.limits.stem m) m given)

  passing : Passes design
  passing = record {
    no_fault = no_fault;
    no_ring = rings;
    few_ports =
        let few = given.limits.within.few_ports in
        let count = length_permutation m.ports (port_bits (symbols_of given.limits.stem m)) port_order in
        let own : length (port_bits (symbols design)) ≡ length (port_bits (symbols_of given.limits.stem m)) = ap (λ (known : List Symbol). length (port_bits known)) known_is in
        omega (arith, few, count, own);
  }

  -- ---- the machine that it is

  storage_are : storage design ≡ map (stored_as vars) m.registers
  storage_are =
      ap (λ (c : Option (List ℕ)). in_statements (statement_storage (symbols design) c) design.statements) clock_is
      ∙ found (λ known. statement_storage known ck) (λ known. storage_at known ck) (λ known. storage_is known ck) ∙ stated.storage

  clock_again : clock_name design ≡ m.clock
  clock_again = ap (option_map bare) clock_is ∙ by m.clock given.named.clock where
    bare : List ℕ → Name
    bare t = record { text = t; bit = None }

    by : (o : Option Name) → ((name : Name) → o ≡ Some name → name.bit ≡ None) → option_map bare (option_map (λ (n : Name). n.text) o) ≡ o
    by None none = refl
    by (Some c) none = ap (λ (b : Option ℕ). Some (record { text = c.text; bit = b })) (sym (none c refl))

  module _ (k : Machine) (is : IsMachineOf design k) where
    definitions_over : IsPermutation k.equations (map (equation_over k.vars) (definitions_of vars (written_names given.limits.stem m) m.equations))
    definitions_over = subst (λ (ds : List Definition). IsPermutation k.equations (map (equation_over k.vars) ds)) definitions_is is.equations

    registers_over : IsPermutation k.registers (map (register_over k.vars) (map (stored_as vars) m.registers))
    registers_over = subst (λ (rs : List Storage). IsPermutation k.registers (map (register_over k.vars) rs)) storage_are is.registers

    copy : IsCopy m k (written_names given.limits.stem m)
    copy =
        let D = definitions_of vars (written_names given.limits.stem m) m.equations in
        let R = map (register_over k.vars) (map (stored_as vars) m.registers) in
        record {
          name = is.name ∙ ap (λ (t : SourceTree). t.entity.name) same ∙ outline_name m.name (map declared (grouped (with_supply_ports m.ports)));
          ports =
              one_order (λ (p : Port). p.name) (port_bits (symbols_of given.limits.stem m)) k.ports m.ports (subst (λ (known : List Symbol). IsPermutation k.ports (port_bits known)) known_is is.ports) port_order is.checked.ports given.checked.ports;
          clock = is.clock ∙ clock_again;
          registers =
              one_order (λ (r : Register). r.name) R k.registers R registers_over (IsPermutation-refl R) is.checked.registers
              (subst (λ (ns : List Name). AreInOrder ns) (sym (names_over k.vars vars m.registers)) given.checked.registers);
          has = λ d h.
              In-permutation (map (equation_over k.vars) D) k.equations (equation_over k.vars d) (IsPermutation-sym k.equations (map (equation_over k.vars) D) definitions_over)
              (In-map (equation_over k.vars) d D h);
          only = λ e h. In-map_back (equation_over k.vars) e D (In-permutation k.equations (map (equation_over k.vars) D) e definitions_over h);
        }

    alike : IsAlike m k
    alike =
        copy_is_alike m k (written_names given.limits.stem m)
        (record {
          ordered = given.checked.ordered;
          each = as_many_written given.limits.stem m;
          different = written_differ ports_line (signals_line given.limits.stem m) (registers_line given.limits.stem m) m given;
          equations = equations_over m given.checked;
          registers = given.checked.loads;
          outputs = output_value ports_line (signals_line given.limits.stem m) (registers_line given.limits.stem m) m given;
        }) copy is.checked.ordered

  -- ---- and it is the machine itself

  pub is_itself : written_names given.limits.stem m ≡ equation_names m → IsReadAsItself m → IsMachineOf design m
  is_itself own plain =
      let different = given.checked.ordered.different in
      let names : held_names m ++ equation_names m ≡ m.vars = sym given.checked.ordered.vars in
      let over : List Name → List Name → List Equation = λ vs ns. map (equation_over m.vars) (definitions_of vs ns m.equations) in
      let equations : map (equation_over m.vars) (definitions design) ≡ m.equations =
      ap (λ (ds : List Definition). map (equation_over m.vars) ds) definitions_is ∙ ap (λ (ns : List Name). over (held_names m ++ ns) ns) own
      ∙ ap (λ (vs : List Name). over vs (equation_names m)) names ∙ equations_themselves m.vars different m.equations (equations_over m given.checked) plain.equations in
      let registers : map (register_over m.vars) (storage design) ≡ m.registers =
      ap (λ (rs : List Storage). map (register_over m.vars) rs) storage_are
      ∙ ap (λ (ns : List Name). map (register_over m.vars) (map (stored_as (held_names m ++ ns)) m.registers)) own
      ∙ ap (λ (vs : List Name). map (register_over m.vars) (map (stored_as vs) m.registers)) names ∙ registers_themselves m.vars different m.registers given.checked.loads plain.registers in
      record {
        checked = given.checked;
        name = sym (ap (λ (t : SourceTree). t.entity.name) same ∙ outline_name m.name (map declared (grouped (with_supply_ports m.ports))));
        ports = subst (λ (known : List Symbol). IsPermutation m.ports (port_bits known)) (sym known_is) port_order;
        clock = sym clock_again;
        equations = subst (λ (es : List Equation). IsPermutation m.equations es) (sym equations) (IsPermutation-refl m.equations);
        registers = subst (λ (rs : List Register). IsPermutation m.registers rs) (sym registers) (IsPermutation-refl m.registers);
      }

-- ---- the laws

-- what is written there is the value of the text
view_is : (m : Machine) → (given : IsGiven m) → (design : DesignFile) → IsWritten (text_by given.limits.stem m) design → source_view design ≡ source_of given.limits.stem m
view_is m given design written =
    text_laws.one_source (tokens_in (text_by given.limits.stem m)) (source_view design) (source_of given.limits.stem m) written.source (written_is_a_sentence given.limits.stem m given.limits.letter given.checked given.named given.limits.within).1

is_alike : (m k : Machine) → (given : IsGiven m) → IsVbe (text_by given.limits.stem m) k → IsAlike m k
is_alike m k given is = alike m given is.design (view_is m given is.design is.written) k is.machine

pub not_refused : (m : Machine) (e : ReadError) → (given : IsGiven m) → Refused (text_by given.limits.stem m) e → ⊥
not_refused m e given (long many same) = let few = given.limits.within.short in absurd (omega (arith, few, many))
not_refused m e given (uncut few some) = cut_or_not (text_by given.limits.stem m) e (written_is_a_sentence given.limits.stem m given.limits.letter given.checked given.named given.limits.within).0 some
not_refused m e given (unwritten few cut not) = text_laws.never_both (tokens_in (text_by given.limits.stem m)) (source_of given.limits.stem m) e (written_is_a_sentence given.limits.stem m given.limits.letter given.checked given.named given.limits.within).1 not
not_refused m e given (faulty design written refused) = pass_or_fail design e (passing m given design (view_is m given design written)) refused

only_memory : (m : Machine) (e : ReadError) → (given : IsGiven m) → IsVbeRefusal (text_by given.limits.stem m) e → e ≡ errors.Memory
only_memory m errors.Memory given r = refl
only_memory m (errors.Input f) given r = absurd (not_refused m (errors.Input f) given r)
only_memory m (errors.Limit l) given r = absurd (not_refused m (errors.Limit l) given r)

-- where there is a machine of the text at all
pub itself : (m k : Machine) (given : IsGiven m) → written_names given.limits.stem m ≡ equation_names m → IsReadAsItself m → IsVbe (text_by given.limits.stem m) k
    → IsVbe (text_by given.limits.stem m) m
itself m k given own plain is = record {
  design = is.design;
  written = is.written;
  passes = is.passes;
  machine = is_itself m given is.design (view_is m given is.design is.written) own plain;
}

pub read_again_by : (stem : List ℕ) → IsLetter stem → ReadAgainBy stem
read_again_by stem letter = record {
  is = λ m k checked named within is.
      is_alike m k (record { checked = checked; named = named; limits = record { stem = stem; letter = letter; within = within } }) is;
  accepted = λ m e checked named within r.
      only_memory m e (record { checked = checked; named = named; limits = record { stem = stem; letter = letter; within = within } }) r;
}

pub read_again : ReadAgain
read_again = read_again_by (codes "n") (record { letter = 110; is = refl; small = refl })
