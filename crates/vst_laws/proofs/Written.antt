-- The text of a netlist is that netlist.
use Rattle.std.proofs.Common.{◌≡◌, ◌↔◌, ℕ, ◌<◌, ◌^◌, cond, List, [], ◌∷◌, ◌++◌, map, length, get_or, Option, None, Some, refl, sym, ap, subst, ◌∙◌, arith, length-append}
use Rattle.std.specs.Prelude.{is_none}
use Rattle.std.specs.List.{All, flat_map, sum_by}
use Rattle.std.proofs.lemmas.List.{length-map}
use Rattle.std.proofs.lemmas.List.Elements.{All-head, All-tail}
use Rattle.std.proofs.lemmas.List.Sorted.{length_permutation}
use Rattle.std.proofs.lemmas.List.Sums.{sum_by-cons}
use Rattle.vlsi_base.specs.declared.name.Name.{Name}
use Rattle.vlsi_base.specs.declared.name.Port.{Port}
use Rattle.vlsi_base.specs.declared.fault.ReadError.{ReadError}
use Rattle.vlsi_base.specs.declared.fault.ReadError.TheVariants as errors
use Rattle.vlsi_base.specs.Member.{In, here, there, AllDifferent}
use Rattle.machine_core.proofs.Values.{In-map}
use Rattle.vlsi_model.proofs.Members.{In-map_back}
use Rattle.vlsi_model.proofs.Sorting.{In-at}
use Rattle.vhdl_lexer.specs.Listing.{tokens_in}
use Rattle.source_checks.specs.Widths.{if_not}
use Rattle.net_core.specs.declared.pins.ModelPin.{ModelPin}
use Rattle.net_core.specs.declared.pins.ModelPins.{ModelPins}
use Rattle.net_core.specs.Places.{IsThere, position_of}
use Rattle.net_core.specs.Netlist.{Instance, Netlist, IsNetlist, port, pin_of, pins_of, terminals}
use Rattle.net_core.specs.Checks.{pins_named}
use Rattle.net_core.proofs.Standing.{position_absent}
use Rattle.vst_text.specs.declared.file.Component.{Component}
use Rattle.vst_text.specs.declared.file.Declaration.{Declaration}
use Rattle.vst_text.specs.declared.file.Declaration.TheVariants as declares
use Rattle.vst_text.specs.declared.file.InstanceStatement.{InstanceStatement}
use Rattle.vst_text.specs.declared.file.StructuralFile.{StructuralFile}
use Rattle.vst_text.proofs.Laws.{one_structure}
use Rattle.vst_print.specs.Written.{used_models}
use Rattle.vst_print.specs.Placed.{file_of}
use Rattle.vst_print.specs.Says.{components_of}
use Rattle.vst_print.proofs.Names.{none_twice_apart, once_apart}
use Rattle.vst_print.proofs.Sentence.{written_is_a_sentence}
use Rattle.vst_io.specs.Nets.{nets, components, pins, port_bits, instance_of}
use Rattle.vst_io.specs.Faults.{first_unlisted, component_faults, instance_faults, has_pins, terminal_count, first_label_again}
use Rattle.vst_io.specs.Checked.{IsChecked}
use Rattle.vst_io.specs.Text.{IsNetlistOf, IsVst, IsVstRefusal}
use Rattle.vst_io.proofs.First.{no_fault, faultless}
use Rattle.vst_io.proofs.Once.{alike, never_both}
use Rattle.vst_io.proofs.Places.{stands_in, in_stands}
use Rattle.vst_io.specs.Laws.{AreAlike}
use Rattle.vst_laws.specs.Again.{CanBeSaid, CanBeRead, with_used_models, HasUsedModels, text, WrittenIsReadAgain, ReadAgain}
use Rattle.vst_laws.proofs.Modelled.{IsModel, model_fits, no_lines}
use Rattle.vst_laws.proofs.Plain.{SuppliesFit}
use Rattle.vst_laws.proofs.Shown.{IsPlaced, instance_fine, tied}
use Rattle.vst_laws.proofs.Once.{all_in, none_twice, apart_different, not_repeated, not_again, once_in, in_once}
use Rattle.vst_laws.proofs.Declared.{same_components}
use Rattle.vst_laws.proofs.Made.{IsMade, is_made, no_more, no_form}
use Rattle.vst_laws.proofs.Placing.{is_placed, supplied}
use Rattle.vst_laws.proofs.Tied.{classes_are_nets}
use Rattle.vst_laws.proofs.Models.{with_models, alike_same, same_passes}

-- ---- the checks

all_listed : (table : List ModelPins) (cs : List Component) → ((c : Component) → In c cs → IsThere (map (λ m. m.model) table) c.name) → first_unlisted table cs ≡ None
all_listed table [] h = refl
all_listed table (c ∷ cs) h = by (position_of (map (λ m. m.model) table) c.name) refl (all_listed table cs (λ d g. h d (there g))) where
  by : (o : Option ℕ) → position_of (map (λ m. m.model) table) c.name ≡ o → first_unlisted table cs ≡ None → cond (is_none o) (Some c) (first_unlisted table cs) ≡ None
  by None e rest = absurd (position_absent (map (λ m. m.model) table) c.name e (h c here))
  by (Some k) e rest = rest

fine_components : (table : List ModelPins) (ds : List Declaration) → ((c : Component) → In c (components ds) → IsModel table c) → flat_map (component_faults table) ds ≡ []
fine_components table [] h = refl
fine_components table (declares.Component c ∷ ds) h =
    let one : if_not (has_pins (pins c) (pins_named table c.name)) c.line ≡ [] = ap (λ b. if_not b c.line) (model_fits table c (h c here)) in
    ap (λ (ls : List ℕ). ls ++ flat_map (component_faults table) ds) one ∙ fine_components table ds (λ d g. h d (there g))
fine_components table (declares.Signals s ∷ ds) h = fine_components table ds h

-- how many pins there are
pins_again : (table : List ModelPins) (ss : List InstanceStatement) (is : List Instance) → map (λ s. s.component) ss ≡ map (λ i. i.model) is → All (λ i. i.pins ≡ map (λ p. p.name) (pins_named table i.model)) is
    → sum_by (λ s. length (pins_named table s.component)) ss ≡ length (flat_map pins_of is)
pins_again table [] [] e all = refl
pins_again table [] (i ∷ is) e all = absurd cc
pins_again table (s ∷ ss) [] e all = absurd cc
pins_again table (s ∷ ss) (i ∷ is) e all =
    let P : Instance → Type 0 = λ x. x.pins ≡ map (λ p. p.name) (pins_named table x.model) in
    let model : s.component ≡ i.model = cc in
    let models : map (λ s. s.component) ss ≡ map (λ i. i.model) is = cc in
    let rest = pins_again table ss is models (All-tail P i is all) in
    let a = sum_by-cons (λ (x : InstanceStatement). length (pins_named table x.component)) s ss in
    let b = length-append (pins_of i) (flat_map pins_of is) in
    let c : length (pins_of i) ≡ length i.pins = length-map i.pins (pin_of i.name) in
    let d : length i.pins ≡ length (map (λ (p : ModelPin). p.name) (pins_named table i.model)) = ap length (All-head P i is all) in
    let f : length (map (λ (p : ModelPin). p.name) (pins_named table i.model)) ≡ length (pins_named table i.model) = length-map (pins_named table i.model) (λ (p : ModelPin). p.name) in
    let g : length (pins_named table s.component) ≡ length (pins_named table i.model) = ap (λ (t : List ℕ). length (pins_named table t)) model in
    omega (arith, rest, a, b, c, d, f, g)

terminals_again : (n : Netlist) (table : List ModelPins) → CanBeSaid n table → IsMade n table → terminal_count table (file_of n table) ≡ length (terminals n)
terminals_again n table r m =
    let a = length_permutation n.ports (port_bits (nets (file_of n table))) m.bits in
    let b = length-append (map (λ (p : Port). port p.name) n.ports) (flat_map pins_of n.instances) in
    let c : length (map (λ (p : Port). port p.name) n.ports) ≡ length n.ports = length-map n.ports (λ (p : Port). port p.name) in
    let d = pins_again table (file_of n table).instances n.instances m.says.instances r.fits.pins in
    omega (arith, a, b, c, d)

-- a model that is declared is one that an instance has
declared_used : (n : Netlist) (table : List ModelPins) → IsMade n table → (c : Component) → In c (components (file_of n table).declarations) → In c.name (map (λ i. i.model) n.instances)
declared_used n table m c h =
    let D = (file_of n table).declarations in
    let among : In c.name (map (λ (x : Component). x.name) (components_of D)) = In-map (λ (x : Component). x.name) c (components_of D) (subst (λ (cs : List Component). In c cs) (same_components D) h) in
    in_once (map (λ i. i.model) n.instances) c.name (subst (λ (ts : List (List ℕ)). In c.name ts) m.says.models among)

listed : (n : Netlist) (table : List ModelPins) → CanBeSaid n table → IsMade n table → (c : Component) → In c (components (file_of n table).declarations) → IsThere (map (λ m. m.model) table) c.name
listed n table r m c h =
    let i = In-map_back (λ (x : Instance). x.model) c.name n.instances (declared_used n table m c h) in
    subst (λ (t : List ℕ). IsThere (map (λ (x : ModelPins). x.model) table) t) i.2 (all_in (λ (x : Instance). IsThere (map (λ y. y.model) table) x.model) n.instances r.fits.listed i.0 i.1)

is_checked : (n : Netlist) (table : List ModelPins) → CanBeRead n table → IsMade n table → ((s : InstanceStatement) → In s (file_of n table).instances → IsPlaced table (file_of n table) s) → IsChecked table (file_of n table)
is_checked n table r m placed =
    let f = file_of n table in
    let count = terminals_again n table r.said m in
    let few = r.few in
    record {
      declared = record { widths = m.widths; forms = no_form n table m supplies; listed = all_listed table (components f.declarations) (listed n table r.said m) };
      maps = no_more (flat_map (component_faults table) f.declarations) (flat_map (instance_faults table f) f.instances) (fine_components table f.declarations m.models) (no_lines (instance_faults table f) f.instances (λ s h. instance_fine table f s m.models m.apart (placed s h) (λ a g. tied (nets f) a (supplied n table r m s h (placed s h) a g))));
      few = subst (λ k. k < 2 ^ 32) (sym count) few;
      once = not_repeated (nets f) m.apart;
    } where
      supplies : SuppliesFit n.ports
      supplies p h s = r.condition.supplies p (in_stands n.ports p h) s

labels_once : (n : Netlist) (table : List ModelPins) → CanBeSaid n table → IsMade n table → first_label_again [] (file_of n table).instances ≡ None
labels_once n table r m =
    not_again (file_of n table).instances (subst (λ (ts : List (List ℕ)). AllDifferent ts) (sym m.says.labels) (apart_different (map (λ i. i.name) n.instances) (none_twice_apart (map (λ i. i.name) n.instances) r.sound.names)))

-- ---- the netlist

instances_again : (table : List ModelPins) (ss : List InstanceStatement) (is : List Instance) → map (λ s. s.label) ss ≡ map (λ i. i.name) is → map (λ s. s.component) ss ≡ map (λ i. i.model) is
    → All (λ i. i.pins ≡ map (λ p. p.name) (pins_named table i.model)) is → is ≡ map (instance_of table) ss
instances_again table [] [] e f all = refl
instances_again table [] (i ∷ is) e f all = absurd cc
instances_again table (s ∷ ss) [] e f all = absurd cc
instances_again table (s ∷ ss) (i ∷ is) e f all =
    let P : Instance → Type 0 = λ x. x.pins ≡ map (λ p. p.name) (pins_named table x.model) in
    let label : s.label ≡ i.name = cc in
    let labels : map (λ s. s.label) ss ≡ map (λ i. i.name) is = cc in
    let model : s.component ≡ i.model = cc in
    let models : map (λ s. s.component) ss ≡ map (λ i. i.model) is = cc in
    let rest = instances_again table ss is labels models (All-tail P i is all) in
    let one : i ≡ instance_of table s =
    ap (λ (t : List ℕ). made t i.model i.pins) (sym label) ∙ ap (λ (t : List ℕ). made s.label t i.pins) (sym model)
    ∙ ap (λ (ns : List Name). made s.label s.component ns) (All-head P i is all ∙ ap (λ (t : List ℕ). map (λ (p : ModelPin). p.name) (pins_named table t)) (sym model)) in
    ap (λ (x : Instance). x ∷ is) one ∙ ap (λ (xs : List Instance). instance_of table s ∷ xs) rest where
      made : List ℕ → List ℕ → List Name → Instance
      made name model pins = record { name = name; model = model; pins = pins }

used_once : (n : Netlist) → AllDifferent (used_models n.instances)
used_once n = apart_different (used_models n.instances) (once_apart (map (λ i. i.model) n.instances))

used_sound : (n : Netlist) → IsNetlist n → IsNetlist (with_used_models n)
used_sound n s = record {
  ports = s.ports;
  names = s.names;
  pins = s.pins;
  models = all_from (λ (i : Instance). IsThere (used_models n.instances) i.model) n.instances (λ i h. in_stands (used_models n.instances) i.model (once_in (map (λ x. x.model) n.instances) i.model (In-map (λ (x : Instance). x.model) i n.instances h)));
  different = none_twice (used_models n.instances) (used_once n);
  each = s.each;
  turns = s.turns;
} where
  all_from : {X : Type 0} (P : X → Type 0) (xs : List X) → ((x : X) → In x xs → P x) → All P xs
  all_from P xs h k d l = h (get_or xs k d) (In-at xs k d l)

is_netlist_of : (n : Netlist) (table : List ModelPins) (models : List (List ℕ)) → CanBeSaid n table → IsMade n table → ((s : InstanceStatement) → In s (file_of n table).instances → IsPlaced table (file_of n table) s)
    → IsNetlist (with_models n models) → ((t : List ℕ) → IsThere models t ↔ IsThere (map (λ i. i.model) n.instances) t) → IsNetlistOf table (file_of n table) (with_models n models)
is_netlist_of n table models r m placed sound same = record {
  sound = sound;
  name = sym m.says.name;
  ports = m.bits;
  instances = instances_again table (file_of n table).instances n.instances m.says.labels m.says.instances r.fits.pins;
  models = λ t. subst (λ (ts : List (List ℕ)). IsThere models t ↔ IsThere ts t) (sym m.says.instances) (same t);
  classes = classes_are_nets n table r m placed;
}

used_same : (n : Netlist) (t : List ℕ) → IsThere (used_models n.instances) t ↔ IsThere (map (λ i. i.model) n.instances) t
used_same n t = (
  λ h. in_stands (map (λ i. i.model) n.instances) t (in_once (map (λ i. i.model) n.instances) t (stands_in (used_models n.instances) h.0 t h.1)),
  λ h. in_stands (used_models n.instances) t (once_in (map (λ i. i.model) n.instances) t (stands_in (map (λ i. i.model) n.instances) h.0 t h.1)),
)

own_same : (n : Netlist) → IsNetlist n → HasUsedModels n → (t : List ℕ) → IsThere n.models t ↔ IsThere (map (λ i. i.model) n.instances) t
own_same n sound used t = (
  λ h. all_in (IsThere (map (λ i. i.model) n.instances)) n.models used t (stands_in n.models h.0 t h.1),
  λ h. (
      let i = In-map_back (λ (x : Instance). x.model) t n.instances (stands_in (map (λ i. i.model) n.instances) h.0 t h.1) in
      subst (λ (u : List ℕ). IsThere n.models u) i.2 (all_in (λ (x : Instance). IsThere n.models x.model) n.instances sound.models i.0 i.1)
      ),
)

-- ---- the text

is_vst : (n : Netlist) (table : List ModelPins) (models : List (List ℕ)) → CanBeRead n table → IsNetlist (with_models n models) → ((t : List ℕ) → IsThere models t ↔ IsThere (map (λ i. i.model) n.instances) t)
    → IsVst (text n table) table (with_models n models)
is_vst n table models r sound same =
    let q = r.said in
    let m = is_made n table q in
    let placed = is_placed n table q m in
    let s = written_is_a_sentence n table q.sound q.fits q.pins q.named q.limits in
    record {
      file = file_of n table;
      written = record { few = r.short; cut = s.0; structure = s.1 };
      no_fault = no_fault table (file_of n table) (is_checked n table r m placed) (labels_once n table q m);
      netlist = is_netlist_of n table models q m placed sound same;
      passes = same_passes table n models r.condition.passes;
      few_ports = r.few_ports;
    }

pub written_is_read_again : WrittenIsReadAgain
written_is_read_again n table r = (is_vst n table (used_models n.instances) r (used_sound n r.said.sound) (used_same n), λ used. is_vst n table n.models r r.said.sound (own_same n r.said.sound used))

only_memory : (bytes : List ℕ) (table : List ModelPins) (n : Netlist) → IsVst bytes table n → (e : ReadError) → IsVstRefusal bytes table e → e ≡ errors.Memory
only_memory bytes table n is errors.Memory why = refl
only_memory bytes table n is (errors.Input i) why = absurd (never_both bytes table n (errors.Input i) is why)
only_memory bytes table n is (errors.Limit l) why = absurd (never_both bytes table n (errors.Limit l) is why)

-- what the text is read as
read_is : (n k : Netlist) (table : List ModelPins) → CanBeSaid n table → IsVst (text n table) table k → AreAlike n k
read_is n k table q is =
    let m = is_made n table q in
    let s = written_is_a_sentence n table q.sound q.fits q.pins q.named q.limits in
    let same : is.file ≡ file_of n table = one_structure (tokens_in (text n table)) is.file (file_of n table) is.written.structure s.1 in
    let checked = subst (λ (f : StructuralFile). IsChecked table f) same (faultless table is.file is.no_fault) in
    let own = is_netlist_of n table (used_models n.instances) q m (is_placed n table q m) (used_sound n q.sound) (used_same n) in
    alike table (file_of n table) (with_used_models n) k checked own (subst (λ (f : StructuralFile). IsNetlistOf table f k) same is.netlist)

pub read_again : ReadAgain
read_again = record {
  is = λ n k table q is. let e = read_is n k table q is in (e, alike_same n k e);
  accepted = λ n table e r why. only_memory (text n table) table (with_used_models n) (written_is_read_again n table r).0 e why;
}
