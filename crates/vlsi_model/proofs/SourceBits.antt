-- The numbers of a source's bits, and formulas over them.
use Rattle.std.proofs.Common.{◌≡◌, ℕ, ◌<◌, List, [], ◌∷◌, map, length, refl, sym, ap, ◌∙◌, subst, None}
use Rattle.std.specs.List.{All}
use Rattle.vlsi_base.specs.declared.name.Name.{Name}
use Rattle.bool_expr.specs.Expression.{IsOver}
use Rattle.bool_expr.specs.View.{view}
use Rattle.machine_core.specs.Order.{In, here, there, AllDifferent}
use Rattle.machine_core.proofs.Values.{In-map}
use Rattle.machine_core.specs.Machine.{names_of}
use Rattle.source_checks.specs.declared.statement.DesignFile.{DesignFile}
use Rattle.source_checks.specs.Symbols.{symbols, all_names}
use Rattle.source_checks.specs.Formula.{Formula, place, numbered}
use Rattle.source_checks.specs.Clock.{clock_text}
use Rattle.source_checks.specs.Checks.{first_fault}
use Rattle.source_checks.specs.Elaboration.{Definition, Storage, definitions, storage, port_bits}
use Rattle.source_bits.specs.declared.driven.DrivenBit.{DrivenBit}
use Rattle.source_bits.specs.declared.driven.StoredBit.{StoredBit}
use Rattle.source_bits.specs.Driven.{Numbered, NumberedStorage, driven_view, stored_view, numbered_definition, numbered_storage}
use Rattle.vlsi_model.specs.declared.source.Source.{Source}
use Rattle.vlsi_model.specs.Sources.{IsSourceOf}
use Rattle.vlsi_model.specs.Numbered.{name_at}
use Rattle.vlsi_model.specs.Laid.{names_defined, names_stored}
use Rattle.vlsi_model.proofs.Stages.{no_fault}
use Rattle.vlsi_model.proofs.Members.{In-map_back, different_map, different_Sub}
use Rattle.vlsi_model.proofs.Bits.{bit_all, different_bits}
use Rattle.vlsi_model.proofs.Formulas.{Holds, Holds-weaker}
use Rattle.vlsi_model.proofs.Expressions.{IsReadable}
use Rattle.vlsi_model.proofs.FineSources.{Facts, facts}
use Rattle.vlsi_model.proofs.Numbering.{place_within, place_same, over_below}
use Rattle.vlsi_model.proofs.PortBits.{ports_sub}
use Rattle.vlsi_model.proofs.Assembly.{All-from_In}
use Rattle.vlsi_model.proofs.Building.{name_back, map-then, defined_declared, stored_declared}

pub sound : (design : DesignFile) → first_fault design ≡ None → Facts design
sound design e = facts design (no_fault design e)

-- the bits that are driven are those of the definitions
pub driven_bits_are : (design : DesignFile) (s : Source) → IsSourceOf design s → map (λ (d : DrivenBit). d.bit) s.driven.items ≡ map (place (all_names (symbols design))) (names_defined (definitions design))
driven_bits_are design s h =
    sym (map-then (λ (n : Numbered). n.bit) driven_view s.driven.items) ∙ ap (map (λ (n : Numbered). n.bit)) h.driven
    ∙ map-then (λ (n : Numbered). n.bit) (numbered_definition (all_names (symbols design))) (definitions design) ∙ sym (map-then (place (all_names (symbols design))) (λ (d : Definition). d.name) (definitions design))

pub stored_bits_are : (design : DesignFile) (s : Source) → IsSourceOf design s → map (λ (d : StoredBit). d.bit) s.stored.items ≡ map (place (all_names (symbols design))) (names_stored (storage design))
stored_bits_are design s h =
    sym (map-then (λ (n : NumberedStorage). n.bit) stored_view s.stored.items) ∙ ap (map (λ (n : NumberedStorage). n.bit)) h.stored
    ∙ map-then (λ (n : NumberedStorage). n.bit) (numbered_storage (all_names (symbols design))) (storage design) ∙ sym (map-then (place (all_names (symbols design))) (λ (d : Storage). d.name) (storage design))

-- a member of what was read is that of a definition
definition_of : (design : DesignFile) (s : Source) → IsSourceOf design s → (d : DrivenBit) → In d s.driven.items → (e : Definition) × In e (definitions design) × (numbered_definition (all_names (symbols design)) e ≡ driven_view d)
definition_of design s h d i = In-map_back (numbered_definition (all_names (symbols design))) (driven_view d) (definitions design) (subst (λ (xs : List Numbered). In (driven_view d) xs) h.driven (In-map driven_view d s.driven.items i))

storage_of : (design : DesignFile) (s : Source) → IsSourceOf design s → (d : StoredBit) → In d s.stored.items → (e : Storage) × In e (storage design) × (numbered_storage (all_names (symbols design)) e ≡ stored_view d)
storage_of design s h d i = In-map_back (numbered_storage (all_names (symbols design))) (stored_view d) (storage design) (subst (λ (xs : List NumberedStorage). In (stored_view d) xs) h.stored (In-map stored_view d s.stored.items i))

over_all : (design : DesignFile) (f : Formula) → Holds (IsReadable (symbols design) (clock_text design)) f → IsOver (numbered (all_names (symbols design)) f) (length (all_names (symbols design)))
over_all design f h =
    let all = all_names (symbols design) in
    over_below all (length all) f (Holds-weaker (IsReadable (symbols design) (clock_text design)) (λ n. place all n < length all) (λ n r. place_within all n (bit_all (symbols design) n r.symbol r.bit)) f h)

pub driven_inside : (design : DesignFile) (s : Source) → Facts design → IsSourceOf design s → All (λ (d : DrivenBit). d.bit < length (all_names (symbols design))) s.driven.items
driven_inside design s f h = All-from_In (λ (d : DrivenBit). d.bit < length (all_names (symbols design))) s.driven.items (λ d i.
    let all = all_names (symbols design) in
    let r = definition_of design s h d i in let fact = f.defines r.0 r.1 in
    let bit : place all r.0.name ≡ d.bit = ap (λ (n : Numbered). n.bit) r.2 in
    subst (λ k. k < length all) bit (place_within all r.0.name (bit_all (symbols design) r.0.name fact.symbol fact.bit)))

pub driven_over : (design : DesignFile) (s : Source) → Facts design → IsSourceOf design s → All (λ (d : DrivenBit). IsOver (view d.expr) (length (all_names (symbols design)))) s.driven.items
driven_over design s f h = All-from_In (λ (d : DrivenBit). IsOver (view d.expr) (length (all_names (symbols design)))) s.driven.items (λ d i.
    let r = definition_of design s h d i in
    subst (λ (n : Numbered). IsOver n.expr (length (all_names (symbols design)))) r.2 (over_all design r.0.formula (f.defines r.0 r.1).reads))

pub stored_inside : (design : DesignFile) (s : Source) → Facts design → IsSourceOf design s → All (λ (d : StoredBit). d.bit < length (all_names (symbols design))) s.stored.items
stored_inside design s f h = All-from_In (λ (d : StoredBit). d.bit < length (all_names (symbols design))) s.stored.items (λ d i.
    let all = all_names (symbols design) in
    let r = storage_of design s h d i in let fact = (f.stores r.0 r.1).0 in
    let bit : place all r.0.name ≡ d.bit = ap (λ (n : NumberedStorage). n.bit) r.2 in
    subst (λ k. k < length all) bit (place_within all r.0.name (bit_all (symbols design) r.0.name fact.symbol fact.bit)))

pub next_over : (design : DesignFile) (s : Source) → Facts design → IsSourceOf design s → All (λ (d : StoredBit). IsOver (view d.next) (length (all_names (symbols design)))) s.stored.items
next_over design s f h = All-from_In (λ (d : StoredBit). IsOver (view d.next) (length (all_names (symbols design)))) s.stored.items (λ d i.
    let r = storage_of design s h d i in
    subst (λ (n : NumberedStorage). IsOver n.next (length (all_names (symbols design)))) r.2 (over_all design r.0.next (f.stores r.0 r.1).0.reads))

pub enable_over : (design : DesignFile) (s : Source) → Facts design → IsSourceOf design s → All (λ (d : StoredBit). IsOver (view d.enable) (length (all_names (symbols design)))) s.stored.items
enable_over design s f h = All-from_In (λ (d : StoredBit). IsOver (view d.enable) (length (all_names (symbols design)))) s.stored.items (λ d i.
    let r = storage_of design s h d i in
    subst (λ (n : NumberedStorage). IsOver n.enable (length (all_names (symbols design)))) r.2 (over_all design r.0.enable (f.stores r.0 r.1).1))

pub driven_different : (design : DesignFile) (s : Source) → Facts design → IsSourceOf design s → AllDifferent (map (λ (d : DrivenBit). d.bit) s.driven.items)
driven_different design s f h =
    let all = all_names (symbols design) in
    subst (λ (ks : List ℕ). AllDifferent ks) (sym (driven_bits_are design s h)) (different_map (place all) (names_defined (definitions design)) (λ a b i j e. place_same all a b (defined_declared design f a i) e) f.defined_once)

-- the names of the stored bits
pub stored_names_are : (design : DesignFile) (s : Source) (bits : List ℕ) → Facts design → IsSourceOf design s → bits ≡ map (λ (d : StoredBit). d.bit) s.stored.items → map (name_at (all_names (symbols design))) bits ≡ names_stored (storage design)
stored_names_are design s bits f h is =
    let all = all_names (symbols design) in
    ap (map (name_at all)) (is ∙ stored_bits_are design s h) ∙ map-then (name_at all) (place all) (names_stored (storage design)) ∙ back all (names_stored (storage design)) (stored_declared design f) where
      back : (all names : List Name) → ((n : Name) → In n names → In n all) → map (λ n. name_at all (place all n)) names ≡ names
      back all [] h = refl
      back all (n ∷ names) h = ap (λ (m : Name). m ∷ map (λ n. name_at all (place all n)) names) (name_back all n (h n here)) ∙ ap (λ (ns : List Name). n ∷ ns) (back all names (λ m i. h m (there i)))

pub different_port_names : (design : DesignFile) → Facts design → AllDifferent (names_of (port_bits (symbols design)))
different_port_names design f = different_Sub (names_of (port_bits (symbols design))) (all_names (symbols design)) (ports_sub (symbols design)) (different_bits (symbols design) f.different)
