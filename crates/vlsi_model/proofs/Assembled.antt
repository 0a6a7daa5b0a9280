-- The assembled machine is checked, and is the machine of its source.
use Rattle.std.proofs.Common.{◌≡◌, ◌⊎◌, inl, inr, ℕ, ◌+◌, ◌<◌, Bool, true, false, List, [], ◌∷◌, ◌++◌, map, length, Option, None, Some, refl, sym, ap, ◌∙◌, subst, arith, append_assoc, length-append}
use Rattle.std.specs.Prelude.{filter, not, option_map}
use Rattle.std.specs.List.Sorted.{IsPermutation}
use Rattle.std.proofs.lemmas.List.Sorted.{IsPermutation-map, IsPermutation-sym, length_permutation}
use Rattle.vlsi_base.specs.declared.name.Name.{Name}
use Rattle.vlsi_base.specs.declared.name.Port.{Port}
use Rattle.vlsi_base.specs.declared.name.Dir.TheVariants as dir
use Rattle.bool_expr.specs.Expression.{IsOver}
use Rattle.machine_core.specs.Machine.{Register, is_input, is_clock, names_of, register_names}
use Rattle.machine_core.specs.Order.{In, here, there, AllDifferent, held_names, equation_names, EachReadsBelow, IsOrdered}
use Rattle.machine_core.specs.Checked.{AreInOrder, IsNoSupply, IsClockOf, IsChecked}
use Rattle.machine_core.proofs.Names.{same_name-itself}
use Rattle.machine_core.proofs.Values.{In-split, In-left, In-right, In-map}
use Rattle.source_checks.specs.declared.statement.Statement.{Statement}
use Rattle.source_checks.specs.declared.statement.Statement.TheVariants as statement
use Rattle.source_checks.specs.declared.statement.DesignFile.{DesignFile}
use Rattle.source_checks.specs.declared.symbol_table.Role.{Role}
use Rattle.source_checks.specs.declared.symbol_table.Role.TheVariants as role
use Rattle.source_checks.specs.declared.symbol_table.Symbol.{Symbol}
use Rattle.vlsi_base.specs.Name.{is_supply}
use Rattle.source_checks.specs.Symbols.{symbols, scalar, symbol_names, all_names, names_in}
use Rattle.vlsi_base.specs.declared.range.Range.{Range}
use Rattle.source_checks.specs.Formula.{Formula, formula_names, place}
use Rattle.source_checks.specs.Drivers.{needs_driver}
use Rattle.source_checks.specs.Places.{in_statements}
use Rattle.source_checks.specs.Clock.{clock_text}
use Rattle.source_checks.specs.Elaboration.{Definition, Storage, definitions, storage, statement_storage, port_of, port_bits, clock_name, IsMachineOf}
use Rattle.source_checks.proofs.Names.{find_text}
use Rattle.vlsi_model.specs.Laid.{EachReadsEarlier, inputs_of, vars_of, names_defined, names_stored}
use Rattle.vlsi_model.proofs.Members.{In-map_back, different_Sub, different_append}
use Rattle.vlsi_model.proofs.Bits.{IsBit, found_in, different_bits, text_in}
use Rattle.vlsi_model.proofs.Formulas.{Holds, Holds-weaker}
use Rattle.vlsi_model.proofs.Expressions.{IsReadable}
use Rattle.vlsi_model.proofs.FineAssignments.{RoleIn}
use Rattle.vlsi_model.proofs.FineStatements.{IsClock}
use Rattle.vlsi_model.proofs.FineSources.{Facts}
use Rattle.vlsi_model.proofs.Sorting.{different_names}
use Rattle.vlsi_model.proofs.Numbering.{place_within, place_front, holds_In, In_holds, over_below}
use Rattle.vlsi_model.proofs.PortBits.{port_is, is_port_bit, ports_sub, Sub-filter, Sub-map, In-filter, filter-In}
use Rattle.vlsi_model.proofs.Assembly.{Parts, equation_of, register_of, assembled, In-permutation, All-from_In, names-equations, names-registers, supply_not, false_or_true, no_both, not_in_and_out, one_symbol, IsDriven, defined_is, stored_is, IsInput, input_is, bit_of_port, out_dir, covered}

-- names of the parts

pub defined_back : (design : DesignFile) (ps : List Port) (regs : List Storage) (defs : List Definition) → Parts design ps regs defs → (n : Name) → In n (names_defined defs) → In n (names_defined (definitions design))
defined_back design ps regs defs p n i =
    In-permutation (names_defined defs) (names_defined (definitions design)) n (IsPermutation-map (λ (d : Definition). d.name) defs (definitions design) (IsPermutation-sym (definitions design) defs p.equations)) i

pub defined_there : (design : DesignFile) (ps : List Port) (regs : List Storage) (defs : List Definition) → Parts design ps regs defs → (n : Name) → In n (names_defined (definitions design)) → In n (names_defined defs)
defined_there design ps regs defs p n i =
    In-permutation (names_defined (definitions design)) (names_defined defs) n (IsPermutation-map (λ (d : Definition). d.name) (definitions design) defs p.equations) i

pub stored_back : (design : DesignFile) (ps : List Port) (regs : List Storage) (defs : List Definition) → Parts design ps regs defs → (n : Name) → In n (names_stored regs) → In n (names_stored (storage design))
stored_back design ps regs defs p n i =
    In-permutation (names_stored regs) (names_stored (storage design)) n (IsPermutation-map (λ (r : Storage). r.name) regs (storage design) (IsPermutation-sym (storage design) regs p.registers)) i

pub stored_there : (design : DesignFile) (ps : List Port) (regs : List Storage) (defs : List Definition) → Parts design ps regs defs → (n : Name) → In n (names_stored (storage design)) → In n (names_stored regs)
stored_there design ps regs defs p n i =
    In-permutation (names_stored (storage design)) (names_stored regs) n (IsPermutation-map (λ (r : Storage). r.name) (storage design) regs p.registers) i

-- each name that is read is a name of the machine
pub readable_var : (design : DesignFile) (ps : List Port) (regs : List Storage) (defs : List Definition) → Facts design → Parts design ps regs defs → (n : Name) → IsReadable (symbols design) (clock_text design) n → In n (vars_of design ps regs defs)
readable_var design ps regs defs f p n h =
    let held = inputs_of (clock_name design) ps ++ names_stored regs in
    elim (covered design f ps p.ports n h).is [
      | inl a ↦ In-left n held (names_defined defs) (In-left n (inputs_of (clock_name design) ps) (names_stored regs) a)
      | inr b ↦ elim b [
        | inl c ↦ In-left n held (names_defined defs) (In-right n (inputs_of (clock_name design) ps) (names_stored regs) (stored_there design ps regs defs p n c))
        | inr d ↦ In-right n held (names_defined defs) (defined_there design ps regs defs p n d)
      ]
    ]

-- all names are different

different_ports : (design : DesignFile) (ps : List Port) → Facts design → IsPermutation (port_bits (symbols design)) ps → AllDifferent (names_of ps)
different_ports design ps f p =
    different_names (names_of (port_bits (symbols design))) (names_of ps) (IsPermutation-map (λ (q : Port). q.name) (port_bits (symbols design)) ps p)
    (different_Sub (names_of (port_bits (symbols design))) (all_names (symbols design)) (ports_sub (symbols design)) (different_bits (symbols design) f.different))

different_inputs : (clock : Option Name) (ps : List Port) → AllDifferent (names_of ps) → AllDifferent (inputs_of clock ps)
different_inputs clock ps h =
    let kept = names_of (filter (λ (p : Port). is_input p.dir) ps) in
    different_Sub (inputs_of clock ps) kept (Sub-filter (λ name. not (is_clock clock name)) kept)
    (different_Sub kept (names_of ps) (Sub-map (λ (p : Port). p.name) (filter (λ (p : Port). is_input p.dir) ps) ps (Sub-filter (λ (p : Port). is_input p.dir) ps)) h)

input_not_driven : (known : List Symbol) (clock : Option Name) (b : Bool) (n : Name) → IsInput known clock n → IsDriven known b n → ⊥
input_not_driven known clock b n i d = no_both b d.symbol.role d.role (ap (λ (s : Symbol). s.role) (one_symbol known n d.symbol i.symbol d.bit i.bit) ∙ i.role)

pub different_vars : (design : DesignFile) (ps : List Port) (regs : List Storage) (defs : List Definition) → Facts design → Parts design ps regs defs → AllDifferent (vars_of design ps regs defs)
different_vars design ps regs defs f p =
    let known = symbols design in
    let inputs = inputs_of (clock_name design) ps in
    let rs = names_stored regs in
    let ds = names_defined defs in
    let a = different_inputs (clock_name design) ps (different_ports design ps f p.ports) in
    let b = different_names (names_stored (storage design)) rs (IsPermutation-map (λ (r : Storage). r.name) (storage design) regs p.registers) f.stored_once in
    let c = different_names (names_defined (definitions design)) ds (IsPermutation-map (λ (d : Definition). d.name) (definitions design) defs p.equations) f.defined_once in
    let input = input_is design f ps p.ports (clock_name design) in
    different_append (inputs ++ rs) ds
    (different_append inputs rs a b (λ n i j. input_not_driven known (clock_name design) true n (input n i) (stored_is design f n (stored_back design ps regs defs p n j))))
    c
    (λ n i j. let d = defined_is design f n (defined_back design ps regs defs p n j) in elim (In-split n inputs rs i) [
      | inl x ↦ input_not_driven known (clock_name design) false n (input n x) d
      | inr y ↦ let s = stored_is design f n (stored_back design ps regs defs p n y) in
          not_in_and_out d.symbol.role d.role (subst (λ (t : Symbol). RoleIn true t.role) (one_symbol known n s.symbol d.symbol s.bit d.bit) s.role)
    ])

-- each equation reads what is known before it

below_from : (vars held driven earlier front : List Name) (defs : List Definition) → vars ≡ front ++ names_defined defs
    → ((n : Name) → In n held → In n front) → ((n : Name) → In n earlier → In n front)
    → ((d : Definition) → In d defs → (n : Name) → In n (formula_names d.formula) → In n held ⊎ In n driven)
    → EachReadsEarlier driven earlier defs → EachReadsBelow (length front) (map (equation_of vars) defs)
below_from vars held driven earlier front [] vars_are h e reads order = tt
below_from vars held driven earlier front (d ∷ defs) vars_are h e reads order = (
  over_below vars (length front) d.formula (In_holds (λ n. place vars n < length front) d.formula (λ n i.
      let inside : In n front = elim (reads d here n i) [ inl a ↦ h n a | inr b ↦ e n (order.0 n i b) ] in
      subst (λ (vs : List Name). place vs n < length front) (sym vars_are) (place_front front (names_defined (d ∷ defs)) n inside))),
  (let count : length (front ++ d.name ∷ []) ≡ length front + 1 = length-append front (d.name ∷ []) in
      let P : ℕ → Type 0 = λ k. EachReadsBelow k (map (equation_of vars) defs) in
      subst P count
      (below_from vars held driven (earlier ++ d.name ∷ []) (front ++ d.name ∷ []) defs
      (vars_are ∙ sym (append_assoc front (d.name ∷ []) (names_defined defs)))
      (λ n i. In-left n front (d.name ∷ []) (h n i))
      (λ n i. elim (In-split n earlier (d.name ∷ []) i) [ inl a ↦ In-left n front (d.name ∷ []) (e n a) | inr b ↦ In-right n front (d.name ∷ []) b ])
      (λ c i n j. reads c (there i) n j)
      order.1)),
)

pub ordered : (design : DesignFile) (ps : List Port) (regs : List Storage) (defs : List Definition) → Facts design → Parts design ps regs defs → IsOrdered (assembled design ps regs defs)
ordered design ps regs defs f p =
    let m = assembled design ps regs defs in
    let vars = vars_of design ps regs defs in
    let inputs = inputs_of (clock_name design) ps in
    let rs : register_names m ≡ names_stored regs = names-registers vars regs in
    let ds : equation_names m ≡ names_defined defs = names-equations vars defs in
    let held = inputs ++ names_stored regs in
    let held_is : held_names m ≡ held = ap (λ (ns : List Name). inputs ++ ns) rs in
    let P : ℕ → Type 0 = λ k. EachReadsBelow k m.equations in
    record {
      vars = ap (λ (ns : List Name). held ++ ns) (sym ds) ∙ ap (λ (ns : List Name). ns ++ equation_names m) (sym held_is);
      different = different_vars design ps regs defs f p;
      below = subst P (ap (λ (ns : List Name). length ns) (sym held_is))
          (below_from vars held (names_defined (definitions design)) [] held defs refl (λ n i. i) (λ n i. elim i [ ])
          (λ d i n j.
          let readable = holds_In (IsReadable (symbols design) (clock_text design)) d.formula (f.defines d (In-permutation defs (definitions design) d (IsPermutation-sym (definitions design) defs p.equations) i)).reads n j in
          elim (covered design f ps p.ports n readable).is [
            | inl a ↦ inl (In-left n inputs (names_stored regs) a)
            | inr b ↦ elim b [ inl c ↦ inl (In-right n inputs (names_stored regs) (stored_there design ps regs defs p n c)) | inr e ↦ inr e ]
          ])
          p.earlier);
    }

-- supplies

driven_no_supply : (design : DesignFile) → Facts design → (b : Bool) (n : Name) → IsDriven (symbols design) b n → IsNoSupply n
driven_no_supply design f b n d =
    let text : d.symbol.text ≡ n.text = find_text (symbols design) n.text d.symbol d.bit.found in
    supply_not n.text (false_or_true (is_supply n.text) (λ e. no_both b d.symbol.role d.role ((f.fine d.symbol (found_in (symbols design) n.text d.symbol d.bit.found)).supply (ap is_supply text ∙ e))))

no_supplies : (design : DesignFile) (ps : List Port) (regs : List Storage) (defs : List Definition) → Facts design → Parts design ps regs defs → (n : Name) → In n (names_of ps ++ vars_of design ps regs defs) → IsNoSupply n
no_supplies design ps regs defs f p n i =
    let known = symbols design in
    let inputs = inputs_of (clock_name design) ps in
    let rs = names_stored regs in
    let ds = names_defined defs in
    elim (In-split n (names_of ps) ((inputs ++ rs) ++ ds) i) [
      | inl a ↦ let m = In-map_back (λ (q : Port). q.name) n ps a in
          let h = port_is known m.0 (In-permutation ps (port_bits known) m.0 (IsPermutation-sym (port_bits known) ps p.ports) m.1) in
          let text : m.0.name.text ≡ h.symbol.text = text_in h.symbol.text h.symbol.range m.0.name h.bit in
          subst IsNoSupply m.2 (supply_not m.0.name.text (ap is_supply text ∙ h.no_supply))
      | inr b ↦ elim (In-split n (inputs ++ rs) ds b) [
        | inl c ↦ elim (In-split n inputs rs c) [
          | inl x ↦ let h = input_is design f ps p.ports (clock_name design) n x in
              supply_not n.text (ap is_supply (sym (find_text known n.text h.symbol h.bit.found)) ∙ h.no_supply)
          | inr y ↦ driven_no_supply design f true n (stored_is design f n (stored_back design ps regs defs p n y))
        ]
        | inr e ↦ driven_no_supply design f false n (defined_is design f n (defined_back design ps regs defs p n e))
      ]
    ]

-- outputs

not_register : (r : Role) → RoleIn true r → r ≡ role.Output → ⊥
not_register r h e = subst (RoleIn true) e h

outputs_driven : (design : DesignFile) (ps : List Port) (regs : List Storage) (defs : List Definition) → Facts design → Parts design ps regs defs → (n : Name) → In n (names_of (filter (λ p. not (is_input p.dir)) ps)) → In n (names_defined defs)
outputs_driven design ps regs defs f p n i =
    let known = symbols design in
    let m = In-map_back (λ (q : Port). q.name) n (filter (λ q. not (is_input q.dir)) ps) i in
    let b = In-filter (λ (q : Port). not (is_input q.dir)) ps m.0 m.1 in
    let h = port_is known m.0 (In-permutation ps (port_bits known) m.0 (IsPermutation-sym (port_bits known) ps p.ports) b.0) in
    let out : h.symbol.role ≡ role.Output = h.role ∙ out_dir m.0.dir b.1 in
    let bit : IsBit known n h.symbol = subst (λ (x : Name). IsBit known x h.symbol) m.2 (bit_of_port known m.0 f.different h) in
    elim (f.driven n h.symbol bit (ap needs_driver out)) [
      | inl a ↦ defined_there design ps regs defs p n a
      | inr c ↦ let s = stored_is design f n c in
          absurd (not_register s.symbol.role s.role (ap (λ (t : Symbol). t.role) (one_symbol known n s.symbol h.symbol s.bit bit) ∙ out))
    ]

-- the clock

none_stored : (known : List Symbol) (ss : List Statement) → in_statements (statement_storage known None) ss ≡ []
none_stored known [] = refl
none_stored known (statement.Assert e ∷ ss) = none_stored known ss
none_stored known (statement.Assign a ∷ ss) = none_stored known ss
none_stored known (statement.Block b ∷ ss) = none_stored known ss

nothing_else : {A : Type 0} (xs : List A) → IsPermutation [] xs → xs ≡ []
nothing_else [] p = refl
nothing_else (x ∷ xs) p = let h : length (x ∷ xs) ≡ 0 = length_permutation [] (x ∷ xs) p in absurd (omega arith)

clock_bit : (known : List Symbol) (text : List ℕ) → (c : IsClock known text) → In (scalar text) (symbol_names c.symbol)
clock_bit known text c =
    let same : c.symbol.text ≡ text = find_text known text c.symbol c.found in
    subst (λ (o : Option Range). In (scalar text) (names_in c.symbol.text o)) (sym c.scalar) (subst (λ (t : List ℕ). In (scalar text) (scalar t ∷ [])) (sym same) here)

in_vars_no_clock : (design : DesignFile) (ps : List Port) (regs : List Storage) (defs : List Definition) → Facts design → Parts design ps regs defs → (text : List ℕ) → clock_text design ≡ Some text → In (scalar text) (vars_of design ps regs defs) → ⊥
in_vars_no_clock design ps regs defs f p text is i =
    let known = symbols design in
    let inputs = inputs_of (clock_name design) ps in
    let rs = names_stored regs in
    let ds = names_defined defs in
    let c = f.clock text is in
    let bit : IsBit known (scalar text) c.symbol = record { found = c.found; among = clock_bit known text c } in
    let not_driven = λ (b : Bool) (d : IsDriven known b (scalar text)). no_both b d.symbol.role d.role (ap (λ (s : Symbol). s.role) (one_symbol known (scalar text) d.symbol c.symbol d.bit bit) ∙ c.role) in
    elim (In-split (scalar text) (inputs ++ rs) ds i) [
      | inl a ↦ elim (In-split (scalar text) inputs rs a) [
        | inl x ↦ let h = input_is design f ps p.ports (clock_name design) (scalar text) x in
            let apart : is_clock (Some (scalar text)) (scalar text) ≡ false = ap (λ (o : Option (List ℕ)). is_clock (option_map scalar o) (scalar text)) (sym is) ∙ h.no_clock in
            let e : true ≡ false = sym (same_name-itself (scalar text)) ∙ apart in absurd cc
        | inr y ↦ not_driven true (stored_is design f (scalar text) (stored_back design ps regs defs p (scalar text) y))
      ]
      | inr b ↦ not_driven false (defined_is design f (scalar text) (defined_back design ps regs defs p (scalar text) b))
    ]

clock_port : (design : DesignFile) (ps : List Port) → Facts design → IsPermutation (port_bits (symbols design)) ps → (text : List ℕ) → clock_text design ≡ Some text → In (scalar text) (names_of (filter (λ p. is_input p.dir) ps))
clock_port design ps f p text is =
    let known = symbols design in
    let c = f.clock text is in
    let port = is_port_bit known c.symbol (scalar text) dir.In (found_in known text c.symbol c.found) (clock_bit known text c) c.no_supply c.role in
    In-map (λ (q : Port). q.name) (port_of dir.In (scalar text)) (filter (λ q. is_input q.dir) ps) (filter-In (λ (q : Port). is_input q.dir) ps (port_of dir.In (scalar text)) (In-permutation (port_bits known) ps (port_of dir.In (scalar text)) p port) refl)

named_clock : (ck : Option (List ℕ)) (n : Name) → option_map scalar ck ≡ Some n → (text : List ℕ) × (ck ≡ Some text) × (n ≡ scalar text)
named_clock None n e = absurd cc
named_clock (Some t) n e = (t, refl, cc)

no_clock_text : (ck : Option (List ℕ)) → option_map scalar ck ≡ None → ck ≡ None
no_clock_text None e = refl
no_clock_text (Some t) e = absurd cc

-- all together

pub checked : (design : DesignFile) (ps : List Port) (regs : List Storage) (defs : List Definition) → Facts design → Parts design ps regs defs → IsChecked (assembled design ps regs defs)
checked design ps regs defs f p =
    let m = assembled design ps regs defs in
    let vars = vars_of design ps regs defs in
    let over = λ (e : Formula) (h : Holds (IsReadable (symbols design) (clock_text design)) e).
    over_below vars (length vars) e (Holds-weaker (IsReadable (symbols design) (clock_text design)) (λ n. place vars n < length vars) (λ n r. place_within vars n (readable_var design ps regs defs f p n r)) e h) in
    record {
      ports = p.ports_order;
      registers = subst (λ (ns : List Name). AreInOrder ns) (sym (names-registers vars regs)) p.registers_order;
      supplies = All-from_In IsNoSupply (names_of ps ++ vars) (no_supplies design ps regs defs f p);
      driven = λ n i. subst (λ (ns : List Name). In n ns) (sym (names-equations vars defs)) (outputs_driven design ps regs defs f p n i);
      clock = λ n e. let c = named_clock (clock_text design) n e in
          subst (IsClockOf m) (sym c.2) (record { port = clock_port design ps f p.ports c.0 c.1; apart = in_vars_no_clock design ps regs defs f p c.0 c.1 });
      clocked = λ e.
          let none = no_clock_text (clock_text design) e in
          let empty : storage design ≡ [] = ap (λ (o : Option (List ℕ)). in_statements (statement_storage (symbols design) o) design.statements) none ∙ none_stored (symbols design) design.statements in
          ap (λ (rs : List Storage). map (register_of vars) rs) (nothing_else regs (subst (λ (rs : List Storage). IsPermutation rs regs) empty p.registers));
      ordered = ordered design ps regs defs f p;
      loads = All-from_In (λ (r : Register). IsOver r.next (length vars) × IsOver r.enable (length vars)) (map (register_of vars) regs) (λ r i.
          let b = In-map_back (register_of vars) r regs i in
          let s = f.stores b.0 (In-permutation regs (storage design) b.0 (IsPermutation-sym (storage design) regs p.registers) b.1) in
          subst (λ (x : Register). IsOver x.next (length vars) × IsOver x.enable (length vars)) b.2 (over b.0.next s.0.reads, over b.0.enable s.1));
    }

pub is_machine : (design : DesignFile) (ps : List Port) (regs : List Storage) (defs : List Definition) → Facts design → Parts design ps regs defs → IsMachineOf design (assembled design ps regs defs)
is_machine design ps regs defs f p =
    let vars = vars_of design ps regs defs in record {
      checked = checked design ps regs defs f p;
      name = refl;
      ports = IsPermutation-sym (port_bits (symbols design)) ps p.ports;
      clock = refl;
      equations = IsPermutation-map (equation_of vars) defs (definitions design) (IsPermutation-sym (definitions design) defs p.equations);
      registers = IsPermutation-map (register_of vars) regs (storage design) (IsPermutation-sym (storage design) regs p.registers);
    }
