-- What is built over numbers is the assembled machine.
use Rattle.std.proofs.Common.{◌≡◌, ℕ, ◌<◌, Bool, true, false, cond, ◌&&◌, List, [], ◌∷◌, ◌++◌, map, length, get_or, Option, None, refl, sym, ap, ◌∙◌, subst, arith}
use Rattle.std.specs.Prelude.{slice_index, filter, not}
use Rattle.std.specs.List.{All}
use Rattle.std.specs.List.Sorted.{IsPermutation}
use Rattle.std.proofs.lemmas.List.{length-map, get_or-map}
use Rattle.std.proofs.lemmas.List.Sorted.{IsPermutation-map, IsPermutation-sym}
use Rattle.vlsi_base.specs.declared.name.Name.{Name}
use Rattle.vlsi_base.specs.declared.name.Port.{Port}
use Rattle.bool_expr.specs.Expression.{Expression, constant}
use Rattle.bool_expr.specs.Renumbering.{renumbered}
use Rattle.machine_core.specs.Machine.{Machine, Equation, Register, is_input, is_clock, names_of}
use Rattle.machine_core.specs.Order.{In, here, there}
use Rattle.source_checks.specs.declared.statement.DesignFile.{DesignFile}
use Rattle.vlsi_base.specs.Range.{rising}
use Rattle.source_checks.specs.Symbols.{symbols, all_names}
use Rattle.source_checks.specs.Formula.{Formula, place, numbered}
use Rattle.source_checks.specs.Clock.{clock_text}
use Rattle.source_checks.specs.Elaboration.{Definition, Storage, definitions, storage, clock_name, IsMachineOf}
use Rattle.source_bits.specs.Driven.{Numbered, NumberedStorage, numbered_definition, numbered_storage}
use Rattle.vlsi_model.specs.Numbered.{name_at, driven_at, stored_at, HasVars, equation_from, register_from, input_names}
use Rattle.vlsi_model.specs.Laid.{no_definition, definition_at, no_storage, storage_at, Laid, inputs_of, vars_of, names_defined, names_stored}
use Rattle.vlsi_model.proofs.Bits.{bit_all, In-rising}
use Rattle.vlsi_model.proofs.Formulas.{Holds, Holds-weaker}
use Rattle.vlsi_model.proofs.Expressions.{IsReadable}
use Rattle.vlsi_model.proofs.FineSources.{Facts}
use Rattle.vlsi_model.proofs.Numbering.{place_within, place_at, renumber}
use Rattle.vlsi_model.proofs.Sorting.{In-at}
use Rattle.vlsi_model.proofs.Naming.{at_places}
use Rattle.vlsi_model.proofs.Assembly.{Parts, equation_of, register_of, assembled, In-permutation, defined_is, stored_is}
use Rattle.vlsi_model.proofs.Assembled.{readable_var, is_machine}

picked : {A : Type 0} (xs : List A) (d : A) (order : List ℕ) → IsPermutation (rising 0 (length xs)) order → IsPermutation xs (map (λ k. get_or xs k d) order)
picked xs d order p = subst (λ ys. IsPermutation ys (map (λ k. get_or xs k d) order)) (at_places xs d) (IsPermutation-map (λ k. get_or xs k d) (rising 0 (length xs)) order p)

pub parts : (design : DesignFile) (ps : List Port) (order nodes : List ℕ) → Laid design ps order nodes → Parts design ps (map (storage_at (storage design)) order) (map (definition_at (definitions design)) nodes)
parts design ps order nodes l = record {
  ports = l.ports;
  ports_order = l.ports_order;
  registers = picked (storage design) no_storage order l.order;
  registers_order = l.registers_order;
  equations = picked (definitions design) no_definition nodes l.nodes;
  earlier = l.earlier;
}

pub places_below : (n : ℕ) (order : List ℕ) → IsPermutation (rising 0 n) order → (k : ℕ) → In k order → k < n
places_below n order p k i = omega (arith, (In-rising 0 n k (In-permutation order (rising 0 n) k (IsPermutation-sym (rising 0 n) order p) i)).1)

pub All_below : (n : ℕ) (order : List ℕ) → IsPermutation (rising 0 n) order → All (λ k. k < n) order
All_below n order p i d within = places_below n order p (get_or order i d) (In-at order i d within)

pub map_same : {A B : Type 0} (f g : A → B) (xs : List A) → ((x : A) → In x xs → f x ≡ g x) → map f xs ≡ map g xs
map_same f g [] h = refl
map_same f g (x ∷ xs) h = ap (λ y. y ∷ map f xs) (h x here) ∙ ap (λ ys. g x ∷ ys) (map_same f g xs (λ y i. h y (there i)))

pub map-then : {A B C : Type 0} (f : B → C) (g : A → B) (xs : List A) → map f (map g xs) ≡ map (λ x. f (g x)) xs
map-then f g [] = refl
map-then f g (x ∷ xs) = ap (λ ys. f (g x) ∷ ys) (map-then f g xs)

-- names

pub inputs_are : (clock : Option Name) (ps : List Port) → input_names clock ps ≡ inputs_of clock ps
inputs_are clock [] = refl
inputs_are clock (p ∷ ps) = by (is_input p.dir) (is_clock clock p.name) refl (inputs_are clock ps) where
  by : (b c : Bool) → is_clock clock p.name ≡ c → input_names clock ps ≡ inputs_of clock ps
      → cond (b && not c) (p.name ∷ input_names clock ps) (input_names clock ps) ≡ filter (λ name. not (is_clock clock name)) (names_of (cond b (p ∷ filter (λ q. is_input q.dir) ps) (filter (λ q. is_input q.dir) ps)))
  by true true is rest = rest ∙ sym (ap (λ b. cond (not b) (p.name ∷ inputs_of clock ps) (inputs_of clock ps)) is)
  by true false is rest = ap (λ (ns : List Name). p.name ∷ ns) rest ∙ sym (ap (λ b. cond (not b) (p.name ∷ inputs_of clock ps) (inputs_of clock ps)) is)
  by false c is rest = rest

pub name_back : (all : List Name) (n : Name) → In n all → name_at all (place all n) ≡ n
name_back all n i = place_at all n (record { text = []; bit = None }) (place_within all n i)

-- the names by the numbers of bits in an order
pub names_by : (all names : List Name) (bits order : List ℕ) → bits ≡ map (place all) names → ((n : Name) → In n names → In n all) → IsPermutation (rising 0 (length names)) order
    → map (λ k. name_at all (slice_index bits k)) order ≡ map (λ k. get_or names k (record { text = []; bit = None })) order
names_by all names bits order is declared p = map_same (λ k. name_at all (slice_index bits k)) (λ k. get_or names k (record { text = []; bit = None })) order (λ k i.
    let low = places_below (length names) order p k i in
    let n = get_or names k (record { text = []; bit = None }) in
    ap (λ (bs : List ℕ). name_at all (slice_index bs k)) is ∙ ap (name_at all) (get_or-map (place all) names k (record { text = []; bit = None }) 0 low) ∙ name_back all n (declared n (In-at names k (record { text = []; bit = None }) low)))

defined_at : (defs : List Definition) (nodes : List ℕ) → IsPermutation (rising 0 (length defs)) nodes → map (λ k. get_or (names_defined defs) k (record { text = []; bit = None })) nodes ≡ names_defined (map (definition_at defs) nodes)
defined_at defs nodes p =
    map_same (λ k. get_or (names_defined defs) k (record { text = []; bit = None })) (λ k. (definition_at defs k).name) nodes (λ k i. get_or-map (λ (d : Definition). d.name) defs k no_definition (record { text = []; bit = None }) (places_below (length defs) nodes p k i))
    ∙ sym (map-then (λ (d : Definition). d.name) (definition_at defs) nodes)

pub stored_names_at : (rs : List Storage) (order : List ℕ) → IsPermutation (rising 0 (length rs)) order → map (λ k. get_or (names_stored rs) k (record { text = []; bit = None })) order ≡ names_stored (map (storage_at rs) order)
stored_names_at rs order p =
    map_same (λ k. get_or (names_stored rs) k (record { text = []; bit = None })) (λ k. (storage_at rs k).name) order (λ k i. get_or-map (λ (r : Storage). r.name) rs k no_storage (record { text = []; bit = None }) (places_below (length rs) order p k i))
    ∙ sym (map-then (λ (r : Storage). r.name) (storage_at rs) order)

pub defined_declared : (design : DesignFile) → Facts design → (n : Name) → In n (names_defined (definitions design)) → In n (all_names (symbols design))
defined_declared design f n i = let d = defined_is design f n i in bit_all (symbols design) n d.symbol d.bit

pub stored_declared : (design : DesignFile) → Facts design → (n : Name) → In n (names_stored (storage design)) → In n (all_names (symbols design))
stored_declared design f n i = let d = stored_is design f n i in bit_all (symbols design) n d.symbol d.bit

pub vars_are : (design : DesignFile) (ps : List Port) (order nodes sbits dbits : List ℕ) → Facts design → Laid design ps order nodes
    → sbits ≡ map (place (all_names (symbols design))) (names_stored (storage design)) → dbits ≡ map (place (all_names (symbols design))) (names_defined (definitions design))
    → (input_names (clock_name design) ps ++ map (λ k. name_at (all_names (symbols design)) (slice_index sbits k)) order) ++ map (λ k. name_at (all_names (symbols design)) (slice_index dbits k)) nodes
    ≡ vars_of design ps (map (storage_at (storage design)) order) (map (definition_at (definitions design)) nodes)
vars_are design ps order nodes sbits dbits f l s d =
    let all = all_names (symbols design) in
    let p : IsPermutation (rising 0 (length (names_stored (storage design)))) order = subst (λ n. IsPermutation (rising 0 n) order) (sym (length-map (storage design) (λ (r : Storage). r.name))) l.order in
    let q : IsPermutation (rising 0 (length (names_defined (definitions design)))) nodes = subst (λ n. IsPermutation (rising 0 n) nodes) (sym (length-map (definitions design) (λ (r : Definition). r.name))) l.nodes in
    let rs = names_by all (names_stored (storage design)) sbits order s (stored_declared design f) p ∙ stored_names_at (storage design) order l.order in
    let ds = names_by all (names_defined (definitions design)) dbits nodes d (defined_declared design f) q ∙ defined_at (definitions design) nodes l.nodes in
    ap (λ (ns : List Name). (ns ++ map (λ k. name_at all (slice_index sbits k)) order) ++ map (λ k. name_at all (slice_index dbits k)) nodes) (inputs_are (clock_name design) ps)
    ∙ ap (λ (ns : List Name). (inputs_of (clock_name design) ps ++ ns) ++ map (λ k. name_at all (slice_index dbits k)) nodes) rs
    ∙ ap (λ (ns : List Name). (inputs_of (clock_name design) ps ++ names_stored (map (storage_at (storage design)) order)) ++ ns) ds

-- equations and registers

renumbered_is : (design : DesignFile) (vars : List Name) (table : List ℕ) (f : Formula) → HasVars (all_names (symbols design)) vars table → Holds (λ n. In n vars) f → renumbered table (numbered (all_names (symbols design)) f) ≡ numbered vars f
renumbered_is design vars table f h reads = renumber (all_names (symbols design)) vars table f (Holds-weaker (λ n. In n vars) (λ n. slice_index table (place (all_names (symbols design)) n) ≡ place vars n) (λ n i. h.there n i) f reads)

pub equations_are : (design : DesignFile) (ps : List Port) (order nodes table : List ℕ) (driven : List Numbered) → Facts design → Laid design ps order nodes → driven ≡ map (numbered_definition (all_names (symbols design))) (definitions design)
    → HasVars (all_names (symbols design)) (vars_of design ps (map (storage_at (storage design)) order) (map (definition_at (definitions design)) nodes)) table
    → map (λ k. equation_from (all_names (symbols design)) table (driven_at driven k)) nodes ≡ map (equation_of (vars_of design ps (map (storage_at (storage design)) order) (map (definition_at (definitions design)) nodes))) (map (definition_at (definitions design)) nodes)
equations_are design ps order nodes table driven f l is h =
    let all = all_names (symbols design) in
    let regs = map (storage_at (storage design)) order in
    let defs = map (definition_at (definitions design)) nodes in
    let vars = vars_of design ps regs defs in
    let made : Name → Expression → Equation = λ n e. record { name = n; expr = e } in
    map_same (λ k. equation_from all table (driven_at driven k)) (λ k. equation_of vars (definition_at (definitions design) k)) nodes (λ k i.
    let low = places_below (length (definitions design)) nodes l.nodes k i in
    let d = definition_at (definitions design) k in
    let there_is = In-at (definitions design) k no_definition low in
    let fact = f.defines d there_is in
    let reads = Holds-weaker (IsReadable (symbols design) (clock_text design)) (λ n. In n vars) (λ n r. readable_var design ps regs defs f (parts design ps order nodes l) n r) d.formula fact.reads in
    ap (λ (ds : List Numbered). equation_from all table (driven_at ds k)) is
    ∙ ap (equation_from all table) (get_or-map (numbered_definition all) (definitions design) k no_definition (record { bit = 0; expr = constant false }) low)
    ∙ ap (λ (n : Name). made n (renumbered table (numbered all d.formula))) (name_back all d.name (bit_all (symbols design) d.name fact.symbol fact.bit))
    ∙ ap (made d.name) (renumbered_is design vars table d.formula h reads))
    ∙ sym (map-then (equation_of vars) (definition_at (definitions design)) nodes)

pub registers_are : (design : DesignFile) (ps : List Port) (order nodes table : List ℕ) (stored : List NumberedStorage) → Facts design → Laid design ps order nodes → stored ≡ map (numbered_storage (all_names (symbols design))) (storage design)
    → HasVars (all_names (symbols design)) (vars_of design ps (map (storage_at (storage design)) order) (map (definition_at (definitions design)) nodes)) table
    → map (λ k. register_from (all_names (symbols design)) table (stored_at stored k)) order ≡ map (register_of (vars_of design ps (map (storage_at (storage design)) order) (map (definition_at (definitions design)) nodes))) (map (storage_at (storage design)) order)
registers_are design ps order nodes table stored f l is h =
    let all = all_names (symbols design) in
    let regs = map (storage_at (storage design)) order in
    let defs = map (definition_at (definitions design)) nodes in
    let vars = vars_of design ps regs defs in
    let made : Name → Expression → Expression → Register = λ n e g. record { name = n; next = e; enable = g } in
    map_same (λ k. register_from all table (stored_at stored k)) (λ k. register_of vars (storage_at (storage design) k)) order (λ k i.
    let low = places_below (length (storage design)) order l.order k i in
    let r = storage_at (storage design) k in
    let fact = f.stores r (In-at (storage design) k no_storage low) in
    let inside = λ (n : Name) (q : IsReadable (symbols design) (clock_text design) n). readable_var design ps regs defs f (parts design ps order nodes l) n q in
    ap (λ (rs : List NumberedStorage). register_from all table (stored_at rs k)) is
    ∙ ap (register_from all table) (get_or-map (numbered_storage all) (storage design) k no_storage (record { bit = 0; next = constant false; enable = constant false }) low)
    ∙ ap (λ (n : Name). made n (renumbered table (numbered all r.next)) (renumbered table (numbered all r.enable))) (name_back all r.name (bit_all (symbols design) r.name fact.0.symbol fact.0.bit))
    ∙ ap (λ (e : Expression). made r.name e (renumbered table (numbered all r.enable))) (renumbered_is design vars table r.next h (Holds-weaker (IsReadable (symbols design) (clock_text design)) (λ n. In n vars) inside r.next fact.0.reads))
    ∙ ap (made r.name (numbered vars r.next)) (renumbered_is design vars table r.enable h (Holds-weaker (IsReadable (symbols design) (clock_text design)) (λ n. In n vars) inside r.enable fact.1)))
    ∙ sym (map-then (register_of vars) (storage_at (storage design)) order)

-- the machine of parts that are these is that of the source
pub built : (design : DesignFile) (ps : List Port) (order nodes : List ℕ) → Facts design → Laid design ps order nodes → (m : Machine)
    → m.name ≡ design.entity.name → m.ports ≡ ps → m.clock ≡ clock_name design → m.vars ≡ vars_of design ps (map (storage_at (storage design)) order) (map (definition_at (definitions design)) nodes)
    → m.equations ≡ map (equation_of (vars_of design ps (map (storage_at (storage design)) order) (map (definition_at (definitions design)) nodes))) (map (definition_at (definitions design)) nodes)
    → m.registers ≡ map (register_of (vars_of design ps (map (storage_at (storage design)) order) (map (definition_at (definitions design)) nodes))) (map (storage_at (storage design)) order)
    → IsMachineOf design m
built design ps order nodes f l m a b c d e g =
    let made : List ℕ → List Port → Option Name → List Name → List Equation → List Register → Machine = λ n p k v q r. record { name = n; ports = p; clock = k; vars = v; equations = q; registers = r } in
    let regs = map (storage_at (storage design)) order in
    let defs = map (definition_at (definitions design)) nodes in
    let whole : m ≡ assembled design ps regs defs =
    ap (λ (x : List ℕ). made x m.ports m.clock m.vars m.equations m.registers) a ∙ ap (λ (x : List Port). made design.entity.name x m.clock m.vars m.equations m.registers) b
    ∙ ap (λ (x : Option Name). made design.entity.name ps x m.vars m.equations m.registers) c ∙ ap (λ (x : List Name). made design.entity.name ps (clock_name design) x m.equations m.registers) d
    ∙ ap (λ (x : List Equation). made design.entity.name ps (clock_name design) (vars_of design ps regs defs) x m.registers) e
    ∙ ap (λ (x : List Register). made design.entity.name ps (clock_name design) (vars_of design ps regs defs) (map (equation_of (vars_of design ps regs defs)) defs) x) g in
    subst (IsMachineOf design) (sym whole) (is_machine design ps regs defs f (parts design ps order nodes l))
