-- What the steps of building ask, and what they give.
use Rattle.std.proofs.Common.{◌≡◌, inl, inr, ℕ, ◌<◌, List, [], ◌++◌, map, length, Option, sym, ap, ◌∙◌, subst}
use Rattle.std.specs.Prelude.{slice_index}
use Rattle.std.specs.List.{All}
use Rattle.std.specs.List.Sorted.{IsPermutation}
use Rattle.std.proofs.lemmas.List.{length-map}
use Rattle.vlsi_base.specs.declared.name.Name.{Name}
use Rattle.vlsi_base.specs.declared.name.Port.{Port}
use Rattle.machine_core.specs.Order.{In, AllDifferent}
use Rattle.machine_core.specs.Checked.{AreInOrder}
use Rattle.machine_core.proofs.Values.{In-split}
use Rattle.machine_core.specs.Machine.{names_of}
use Rattle.source_checks.specs.declared.symbol_table.Symbol.{Symbol}
use Rattle.source_checks.specs.declared.statement.DesignFile.{DesignFile}
use Rattle.vlsi_base.specs.Range.{rising}
use Rattle.source_checks.specs.Symbols.{symbols, all_names}
use Rattle.source_checks.specs.Elaboration.{Storage, definitions, storage, port_bits, clock_name}
use Rattle.source_bits.specs.declared.driven.DrivenBit.{DrivenBit}
use Rattle.source_bits.specs.declared.driven.StoredBit.{StoredBit}
use Rattle.source_bits.specs.Driven.{Numbered, NumberedStorage, driven_view, stored_view, numbered_definition, numbered_storage}
use Rattle.vlsi_model.specs.declared.source.Source.{Source}
use Rattle.vlsi_model.specs.Sources.{IsSourceOf}
use Rattle.vlsi_model.specs.Numbered.{name_at, input_names}
use Rattle.vlsi_model.specs.Laid.{Laid, IsNodeOrder, laid_vars, inputs_of, names_defined, names_stored, storage_at, definition_at}
use Rattle.vlsi_model.proofs.Bits.{bit_all}
use Rattle.vlsi_model.proofs.FineSources.{Facts}
use Rattle.vlsi_model.proofs.Members.{In-map_back}
use Rattle.vlsi_model.proofs.Sorting.{place_of_In}
use Rattle.vlsi_model.proofs.Assembly.{All-from_In, input_is, defined_is, stored_is}
use Rattle.vlsi_model.proofs.Assembled.{different_vars, defined_back, stored_back}
use Rattle.vlsi_model.proofs.Building.{parts, All_below, vars_are, names_by, stored_names_at, stored_declared}
use Rattle.vlsi_model.proofs.SourceBits.{driven_bits_are, stored_bits_are, stored_inside, driven_inside}

-- over the numbers of a source in place of its symbols
pub over_numbers : (P : List Symbol → Type 0) (design : DesignFile) (s : Source) → IsSourceOf design s → P (symbols design) → P s.numbers
over_numbers P design s h p = subst P (sym h.numbers) p

pub stored_count : (design : DesignFile) (s : Source) → IsSourceOf design s → length s.stored.items ≡ length (storage design)
stored_count design s h = sym (length-map s.stored.items stored_view) ∙ ap (λ (xs : List NumberedStorage). length xs) h.stored ∙ length-map (storage design) (numbered_storage (all_names (symbols design)))

pub driven_count : (design : DesignFile) (s : Source) → IsSourceOf design s → length s.driven.items ≡ length (definitions design)
driven_count design s h = sym (length-map s.driven.items driven_view) ∙ ap (λ (xs : List Numbered). length xs) h.driven ∙ length-map (definitions design) (numbered_definition (all_names (symbols design)))

pub places_in : (n m : ℕ) (order : List ℕ) → m ≡ n → IsPermutation (rising 0 n) order → All (λ k. k < m) order
places_in n m order e p = subst (λ x. All (λ k. k < x) order) (sym e) (All_below n order p)

pub stored_places : (design : DesignFile) (s : Source) (bits order : List ℕ) → IsSourceOf design s → bits ≡ map (λ (d : StoredBit). d.bit) s.stored.items → IsPermutation (rising 0 (length (storage design))) order → All (λ k. k < length bits) order
stored_places design s bits order h is p = places_in (length (storage design)) (length bits) order (ap (λ (xs : List ℕ). length xs) is ∙ length-map s.stored.items (λ (d : StoredBit). d.bit) ∙ stored_count design s h) p

pub driven_places : (design : DesignFile) (s : Source) (bits order : List ℕ) → IsSourceOf design s → bits ≡ map (λ (d : DrivenBit). d.bit) s.driven.items → IsPermutation (rising 0 (length (definitions design))) order → All (λ k. k < length bits) order
driven_places design s bits order h is p = places_in (length (definitions design)) (length bits) order (ap (λ (xs : List ℕ). length xs) is ∙ length-map s.driven.items (λ (d : DrivenBit). d.bit) ∙ driven_count design s h) p

all_of_map : {A : Type 0} (f : A → ℕ) (n : ℕ) (xs : List A) (bits : List ℕ) → bits ≡ map f xs → All (λ x. f x < n) xs → All (λ b. b < n) bits
all_of_map f n xs bits is h = All-from_In (λ b. b < n) bits (λ b i.
    let m = In-map_back f b xs (subst (λ (ks : List ℕ). In b ks) is i) in
    let r = place_of_In xs m.0 m.1 in
    subst (λ k. k < n) m.2 (subst (λ x. f x < n) (r.2 m.0) (h r.0 m.0 r.1)))

pub stored_bits_inside : (design : DesignFile) (s : Source) (bits : List ℕ) → Facts design → IsSourceOf design s → bits ≡ map (λ (d : StoredBit). d.bit) s.stored.items → All (λ b. b < length (all_names s.numbers)) bits
stored_bits_inside design s bits f h is = over_numbers (λ known. All (λ b. b < length (all_names known)) bits) design s h (all_of_map (λ (d : StoredBit). d.bit) (length (all_names (symbols design))) s.stored.items bits is (stored_inside design s f h))

pub driven_bits_inside : (design : DesignFile) (s : Source) (bits : List ℕ) → Facts design → IsSourceOf design s → bits ≡ map (λ (d : DrivenBit). d.bit) s.driven.items → All (λ b. b < length (all_names s.numbers)) bits
driven_bits_inside design s bits f h is = over_numbers (λ known. All (λ b. b < length (all_names known)) bits) design s h (all_of_map (λ (d : DrivenBit). d.bit) (length (all_names (symbols design))) s.driven.items bits is (driven_inside design s f h))

-- the names, part by part
pub names_are : (design : DesignFile) (s : Source) (ps : List Port) (order nodes sbits dbits : List ℕ) (clock : Option Name) (n0 n1 n2 n3 : List Name) → Facts design → IsSourceOf design s → Laid design ps order nodes
    → sbits ≡ map (λ (d : StoredBit). d.bit) s.stored.items → dbits ≡ map (λ (d : DrivenBit). d.bit) s.driven.items → clock ≡ s.clock
    → n0 ≡ [] → n1 ≡ n0 ++ input_names clock ps → n2 ≡ n1 ++ map (λ k. name_at (all_names s.numbers) (slice_index sbits k)) order → n3 ≡ n2 ++ map (λ k. name_at (all_names s.numbers) (slice_index dbits k)) nodes
    → n3 ≡ laid_vars design ps order nodes
names_are design s ps order nodes sbits dbits clock n0 n1 n2 n3 f h l sb db ck e0 e1 e2 e3 =
    let first : n1 ≡ input_names (clock_name design) ps = e1 ∙ ap (λ (ns : List Name). ns ++ input_names clock ps) e0 ∙ ap (λ (o : Option Name). input_names o ps) (ck ∙ h.clock) in
    e3 ∙ ap (λ (ns : List Name). ns ++ map (λ k. name_at (all_names s.numbers) (slice_index dbits k)) nodes) (e2 ∙ ap (λ (ns : List Name). ns ++ map (λ k. name_at (all_names s.numbers) (slice_index sbits k)) order) first)
    ∙ ap (λ (known : List Symbol). (input_names (clock_name design) ps ++ map (λ k. name_at (all_names known) (slice_index sbits k)) order) ++ map (λ k. name_at (all_names known) (slice_index dbits k)) nodes) h.numbers
    ∙ vars_are design ps order nodes sbits dbits f l (sb ∙ stored_bits_are design s h) (db ∙ driven_bits_are design s h)

-- the machine's names are declared
pub vars_declared : (design : DesignFile) (ps : List Port) (order nodes : List ℕ) → Facts design → Laid design ps order nodes → (n : Name) → In n (laid_vars design ps order nodes) → In n (all_names (symbols design))
vars_declared design ps order nodes f l n i =
    let known = symbols design in
    let regs = map (storage_at (storage design)) order in
    let defs = map (definition_at (definitions design)) nodes in
    let p = parts design ps order nodes l in
    let inputs = inputs_of (clock_name design) ps in
    elim (In-split n (inputs ++ names_stored regs) (names_defined defs) i) [
      | inl a ↦ elim (In-split n inputs (names_stored regs) a) [
        | inl x ↦ let d = input_is design f ps l.ports (clock_name design) n x in bit_all known n d.symbol d.bit
        | inr y ↦ let d = stored_is design f n (stored_back design ps regs defs p n y) in bit_all known n d.symbol d.bit
      ]
      | inr b ↦ let d = defined_is design f n (defined_back design ps regs defs p n b) in bit_all known n d.symbol d.bit
    ]

pub all_declared : (design : DesignFile) (s : Source) (ps : List Port) (order nodes : List ℕ) (vars : List Name) → Facts design → IsSourceOf design s → Laid design ps order nodes → vars ≡ laid_vars design ps order nodes → All (λ n. In n (all_names s.numbers)) vars
all_declared design s ps order nodes vars f h l is = All-from_In (λ n. In n (all_names s.numbers)) vars (λ n i.
    over_numbers (λ known. In n (all_names known)) design s h (vars_declared design ps order nodes f l n (subst (λ (ns : List Name). In n ns) is i)))

pub all_vars_different : (design : DesignFile) (ps : List Port) (order nodes : List ℕ) (vars : List Name) → Facts design → Laid design ps order nodes → vars ≡ laid_vars design ps order nodes → AllDifferent vars
all_vars_different design ps order nodes vars f l is = subst (λ (ns : List Name). AllDifferent ns) (sym is) (different_vars design ps (map (storage_at (storage design)) order) (map (definition_at (definitions design)) nodes) f (parts design ps order nodes l))

-- registers in the order of names
pub laid_out : (design : DesignFile) (s : Source) (ps : List Port) (bits order nodes : List ℕ) → Facts design → IsSourceOf design s → bits ≡ map (λ (d : StoredBit). d.bit) s.stored.items
    → IsPermutation (port_bits (symbols design)) ps → AreInOrder (names_of ps) → IsPermutation (rising 0 (length bits)) order → AreInOrder (map (λ k. name_at (all_names s.numbers) (slice_index bits k)) order) → IsNodeOrder design nodes → Laid design ps order nodes
laid_out design s ps bits order nodes f h is a b c d e =
    let all = all_names (symbols design) in
    let count : length bits ≡ length (storage design) = ap (λ (xs : List ℕ). length xs) is ∙ length-map s.stored.items (λ (x : StoredBit). x.bit) ∙ stored_count design s h in
    let p = subst (λ n. IsPermutation (rising 0 n) order) count c in
    let q : IsPermutation (rising 0 (length (names_stored (storage design)))) order = subst (λ n. IsPermutation (rising 0 n) order) (sym (length-map (storage design) (λ (r : Storage). r.name))) p in
    let names : map (λ k. name_at (all_names s.numbers) (slice_index bits k)) order ≡ names_stored (map (storage_at (storage design)) order) =
    ap (λ (known : List Symbol). map (λ k. name_at (all_names known) (slice_index bits k)) order) h.numbers ∙ names_by all (names_stored (storage design)) bits order (is ∙ stored_bits_are design s h) (stored_declared design f) q ∙ stored_names_at (storage design) order p in record {
      ports = a;
      ports_order = b;
      order = p;
      registers_order = subst (λ (ns : List Name). AreInOrder ns) names d;
      nodes = e.moved;
      earlier = e.earlier;
    }
