-- The machine that a source without a fault is, put together from its parts.
use Rattle.std.proofs.Common.{◌≡◌, ◌≢◌, ◌⊎◌, inl, inr, ℕ, Bool, true, false, List, [], ◌∷◌, map, Option, None, Some, refl, sym, ap, ◌∙◌, subst, bytes_eq}
use Rattle.std.specs.Prelude.{filter, not, option_map, codes, ◌||◌}
use Rattle.std.specs.List.{All}
use Rattle.std.specs.List.Sorted.{IsPermutation}
use Rattle.std.proofs.lemmas.List.Elements.{All-nil, All-cons}
use Rattle.std.proofs.lemmas.List.Sorted.{IsPermutation-sym, Contains-permutation}
use Rattle.vlsi_base.specs.declared.name.Name.{Name}
use Rattle.vlsi_base.specs.declared.name.Port.{Port}
use Rattle.vlsi_base.specs.declared.name.Dir.{Dir}
use Rattle.vlsi_base.specs.declared.name.Dir.TheVariants as dir
use Rattle.machine_core.specs.Machine.{Machine, Equation, Register, is_input, is_clock, names_of}
use Rattle.machine_core.specs.Order.{In, here, there, AllDifferent}
use Rattle.machine_core.specs.Checked.{AreInOrder}
use Rattle.machine_core.proofs.Names.{same_name-false}
use Rattle.machine_core.proofs.Values.{In-map}
use Rattle.source_checks.specs.declared.statement.DesignFile.{DesignFile}
use Rattle.source_checks.specs.declared.symbol_table.Role.{Role}
use Rattle.source_checks.specs.declared.symbol_table.Role.TheVariants as role
use Rattle.source_checks.specs.declared.symbol_table.Symbol.{Symbol}
use Rattle.vlsi_base.specs.Name.{is_supply}
use Rattle.source_checks.specs.Symbols.{symbols, scalar}
use Rattle.source_checks.specs.Formula.{numbered}
use Rattle.source_checks.specs.Drivers.{needs_driver}
use Rattle.source_checks.specs.Clock.{clock_text}
use Rattle.source_checks.specs.Elaboration.{Definition, Storage, definitions, storage, port_of, port_bits, clock_name}
use Rattle.source_checks.proofs.Lookups.{itself}
use Rattle.source_checks.proofs.Names.{find_text}
use Rattle.vlsi_model.specs.Laid.{EachReadsEarlier, inputs_of, vars_of, names_defined, names_stored}
use Rattle.vlsi_model.proofs.Members.{In-map_back}
use Rattle.vlsi_model.proofs.Bits.{IsBit, texts, found_in, bit_of_symbol}
use Rattle.vlsi_model.proofs.Expressions.{IsReadable}
use Rattle.vlsi_model.proofs.FineAssignments.{RoleIn}
use Rattle.vlsi_model.proofs.FineSources.{Facts}
use Rattle.vlsi_model.proofs.Sorting.{In-at, place_of_In}
use Rattle.vlsi_model.proofs.PortBits.{role_of_dir, IsPortBit, port_is, is_port_bit, In-filter, filter-In}

-- the parts of the machine, in their orders
pub record Parts (design : DesignFile) (ps : List Port) (regs : List Storage) (defs : List Definition) : Type 0 where
  pub ports : IsPermutation (port_bits (symbols design)) ps
  pub ports_order : AreInOrder (names_of ps)
  pub registers : IsPermutation (storage design) regs
  pub registers_order : AreInOrder (names_stored regs)
  pub equations : IsPermutation (definitions design) defs
  pub earlier : EachReadsEarlier (names_defined (definitions design)) [] defs

abbrev pub equation_of : List Name → Definition → Equation
equation_of vars d = record { name = d.name; expr = numbered vars d.formula }

abbrev pub register_of : List Name → Storage → Register
register_of vars r = record { name = r.name; next = numbered vars r.next; enable = numbered vars r.enable }

abbrev pub assembled : DesignFile → List Port → List Storage → List Definition → Machine
assembled design ports regs defs =
    let vars = vars_of design ports regs defs in record {
      name = design.entity.name;
      ports = ports;
      clock = clock_name design;
      vars = vars;
      equations = map (equation_of vars) defs;
      registers = map (register_of vars) regs;
    }

-- members of lists in other orders

pub In-permutation : {A : Type 0} (xs ys : List A) (x : A) → IsPermutation xs ys → In x xs → In x ys
In-permutation xs ys x p i =
    let r = place_of_In xs x i in
    let c = Contains-permutation xs ys x p (r.0, r.1, r.2 x) in
    subst (λ y. In y ys) c.2 (In-at ys c.0 x c.1)

pub All-from_In : {A : Type 0} (P : A → Type 0) (xs : List A) → ((x : A) → In x xs → P x) → All P xs
All-from_In P [] h = All-nil P
All-from_In P (x ∷ xs) h = All-cons P x xs (h x here) (All-from_In P xs (λ y i. h y (there i)))

pub names-equations : (vars : List Name) (defs : List Definition) → map (λ (e : Equation). e.name) (map (equation_of vars) defs) ≡ names_defined defs
names-equations vars [] = refl
names-equations vars (d ∷ defs) = ap (λ (ns : List Name). d.name ∷ ns) (names-equations vars defs)

pub names-registers : (vars : List Name) (regs : List Storage) → map (λ (r : Register). r.name) (map (register_of vars) regs) ≡ names_stored regs
names-registers vars [] = refl
names-registers vars (r ∷ regs) = ap (λ (ns : List Name). r.name ∷ ns) (names-registers vars regs)

-- supplies

pub supply_not : (t : List ℕ) → is_supply t ≡ false → (t ≢ codes "vdd") × (t ≢ codes "vss")
supply_not t e = (λ h. vdd h e, λ h. vss h e) where
  vdd : t ≡ codes "vdd" → is_supply t ≡ false → ⊥
  vdd h e = let g : is_supply (codes "vdd") ≡ false = ap is_supply (sym h) ∙ e in let k : true ≡ false = sym (ap (λ b. b || bytes_eq (codes "vdd") (codes "vss")) (itself (codes "vdd"))) ∙ g in absurd cc

  or_true : (b : Bool) → (b || true) ≡ true
  or_true true = refl
  or_true false = refl

  vss : t ≡ codes "vss" → is_supply t ≡ false → ⊥
  vss h e = let g : is_supply (codes "vss") ≡ false = ap is_supply (sym h) ∙ e in
      let k : true ≡ false = sym (ap (λ b. bytes_eq (codes "vss") (codes "vdd") || b) (itself (codes "vss")) ∙ or_true (bytes_eq (codes "vss") (codes "vdd"))) ∙ g in absurd cc

pub false_or_true : (b : Bool) → (b ≡ true → ⊥) → b ≡ false
false_or_true true h = absurd (h refl)
false_or_true false h = refl

pub no_both : (b : Bool) (r : Role) → RoleIn b r → r ≡ role.Input → ⊥
no_both b r h e = subst (RoleIn b) e h

pub not_in_and_out : (r : Role) → RoleIn false r → RoleIn true r → ⊥
not_in_and_out role.Input a b = a
not_in_and_out role.Output a b = b
not_in_and_out role.Both a b = a
not_in_and_out role.Inner a b = b
not_in_and_out role.Register a b = a

-- a name's place in the declarations

pub one_symbol : (known : List Symbol) (n : Name) (s t : Symbol) → IsBit known n s → IsBit known n t → s ≡ t
one_symbol known n s t a b = let h : Some s ≡ Some t = sym a.found ∙ b.found in cc

pub record IsDriven (known : List Symbol) (in_block : Bool) (n : Name) : Type 0 where
  pub symbol : Symbol
  pub bit : IsBit known n symbol
  pub role : RoleIn in_block symbol.role

pub defined_is : (design : DesignFile) → Facts design → (n : Name) → In n (names_defined (definitions design)) → IsDriven (symbols design) false n
defined_is design f n i =
    let m = In-map_back (λ (d : Definition). d.name) n (definitions design) i in
    let d = f.defines m.0 m.1 in
    subst (IsDriven (symbols design) false) m.2 (record { symbol = d.symbol; bit = d.bit; role = d.role })

pub stored_is : (design : DesignFile) → Facts design → (n : Name) → In n (names_stored (storage design)) → IsDriven (symbols design) true n
stored_is design f n i =
    let m = In-map_back (λ (r : Storage). r.name) n (storage design) i in
    let d = (f.stores m.0 m.1).0 in
    subst (IsDriven (symbols design) true) m.2 (record { symbol = d.symbol; bit = d.bit; role = d.role })

pub record IsInput (known : List Symbol) (clock : Option Name) (n : Name) : Type 0 where
  pub symbol : Symbol
  pub bit : IsBit known n symbol
  pub role : symbol.role ≡ role.Input
  pub no_supply : is_supply symbol.text ≡ false
  pub no_clock : is_clock clock n ≡ false

pub bit_of_port : (known : List Symbol) (p : Port) → AllDifferent (texts known) → (h : IsPortBit known p) → IsBit known p.name h.symbol
bit_of_port known p different h = bit_of_symbol known p.name h.symbol different h.declared h.bit

not_true : (b : Bool) → not b ≡ true → b ≡ false
not_true true e = absurd cc
not_true false e = refl

in_dir : (d : Dir) → is_input d ≡ true → role_of_dir d ≡ role.Input
in_dir dir.In e = refl
in_dir dir.Out e = absurd cc

pub out_dir : (d : Dir) → not (is_input d) ≡ true → role_of_dir d ≡ role.Output
out_dir dir.In e = absurd cc
out_dir dir.Out e = refl

pub input_is : (design : DesignFile) → Facts design → (ports : List Port) → IsPermutation (port_bits (symbols design)) ports → (clock : Option Name) (n : Name) → In n (inputs_of clock ports) → IsInput (symbols design) clock n
input_is design f ports p clock n i =
    let known = symbols design in
    let a = In-filter (λ name. not (is_clock clock name)) (names_of (filter (λ q. is_input q.dir) ports)) n i in
    let m = In-map_back (λ (q : Port). q.name) n (filter (λ q. is_input q.dir) ports) a.0 in
    let b = In-filter (λ (q : Port). is_input q.dir) ports m.0 m.1 in
    let h = port_is known m.0 (In-permutation ports (port_bits known) m.0 (IsPermutation-sym (port_bits known) ports p) b.0) in record {
      symbol = h.symbol;
      bit = subst (λ (x : Name). IsBit known x h.symbol) m.2 (bit_of_port known m.0 f.different h);
      role = h.role ∙ in_dir m.0.dir b.1;
      no_supply = h.no_supply;
      no_clock = not_true (is_clock clock n) a.1;
    }

not_the_clock : (ck : Option (List ℕ)) (n : Name) → (ck ≡ Some n.text → ⊥) → is_clock (option_map scalar ck) n ≡ false
not_the_clock None n h = refl
not_the_clock (Some t) n h = same_name-false (scalar t) n (λ e. h (ap (λ (m : Name). Some m.text) e))

-- an input that is no supply and not the clock is among the inputs
pub is_input_of : (design : DesignFile) (ports : List Port) → IsPermutation (port_bits (symbols design)) ports → (clock : Option Name) (n : Name) (s : Symbol) → IsBit (symbols design) n s → s.role ≡ role.Input → is_supply n.text ≡ false → is_clock clock n ≡ false
    → In n (inputs_of clock ports)
is_input_of design ports p clock n s b r supply apart =
    let known = symbols design in
    let text : s.text ≡ n.text = find_text known n.text s b.found in
    let port = is_port_bit known s n dir.In (found_in known n.text s b.found) b.among (ap is_supply text ∙ supply) r in
    let among = In-permutation (port_bits known) ports (port_of dir.In n) p port in
    let kept = filter-In (λ (q : Port). is_input q.dir) ports (port_of dir.In n) among refl in
    filter-In (λ name. not (is_clock clock name)) (names_of (filter (λ q. is_input q.dir) ports)) n (In-map (λ (q : Port). q.name) (port_of dir.In n) (filter (λ q. is_input q.dir) ports) kept) (ap not apart)

-- what formulas read is an input, a register or defined
pub record Covers (design : DesignFile) (ports : List Port) (n : Name) : Type 0 where
  pub is : In n (inputs_of (clock_name design) ports) ⊎ (In n (names_stored (storage design)) ⊎ In n (names_defined (definitions design)))

turned : {A B : Type 0} → A ⊎ B → B ⊎ A
turned (inl a) = inr a
turned (inr b) = inl b

pub covered : (design : DesignFile) → Facts design → (ports : List Port) → IsPermutation (port_bits (symbols design)) ports → (n : Name) → IsReadable (symbols design) (clock_text design) n → Covers design ports n
covered design f ports p n h = record { is = by h.symbol.role refl } where
  known : List Symbol
  known = symbols design

  by : (r : Role) → h.symbol.role ≡ r → In n (inputs_of (clock_name design) ports) ⊎ (In n (names_stored (storage design)) ⊎ In n (names_defined (definitions design)))
  by role.Input e = inl (is_input_of design ports p (clock_name design) n h.symbol h.bit e h.no_supply (not_the_clock (clock_text design) n h.no_clock))
  by role.Output e = inr (turned (f.driven n h.symbol h.bit (ap needs_driver e)))
  by role.Both e = absurd ((f.fine h.symbol (found_in known n.text h.symbol h.bit.found)).not_both e)
  by role.Inner e = inr (turned (f.driven n h.symbol h.bit (ap needs_driver e)))
  by role.Register e = inr (turned (f.driven n h.symbol h.bit (ap needs_driver e)))
