-- What the sentence of a netlist says.
use Rattle.std.proofs.Common.{◌≡◌, ◌↔◌, ℕ, zero, suc, ◌+◌, ◌-◌, ◌*◌, ◌<◌, ◌≤◌, ◌^◌, Bool, true, false, not, cond, nat_eq, nat_le, List, [], ◌∷◌, ◌++◌, map, length, take, drop, Option, None, Some, get_or, refl, sym, ap, subst, ◌∙◌, arith, append-nil, append_assoc, length-append, length-drop, bytes_eq}
use Rattle.std.specs.List.{All, flat_map}
use Rattle.std.proofs.lemmas.Bool.{eqb-true, eq-eqb, ne_eqb, leb-true, leb-false}
use Rattle.std.proofs.lemmas.List.{length-map, length-take-le}
use Rattle.std.proofs.lemmas.List.Elements.{All-head, All-tail, All-cons, All-nil, All-map, All-weaker}
use Rattle.std.proofs.lemmas.List.Sums.{AllPass-from_list_all}
use Rattle.std.proofs.lemmas.Option.{slice_get_within, get_or_from_slice_get, slice_get-get_or}
use Rattle.vlsi_base.specs.declared.name.Name.{Name}
use Rattle.vlsi_base.specs.declared.name.Port.{Port}
use Rattle.vlsi_base.specs.declared.name.Dir.{Dir}
use Rattle.vlsi_base.specs.declared.name.Dir.TheVariants as dir
use Rattle.vlsi_base.specs.declared.name.Terminal.{Terminal}
use Rattle.vlsi_base.specs.Names.{scalar}
use Rattle.vlsi_base.specs.Range.{rising}
use Rattle.vhdl_print.specs.Outline.{OnePort, Outline, entity_layout, placed_port, placed_ports, placed_type}
use Rattle.spell_theory.specs.Layout.{line_behind, line_of}
use Rattle.vst_text.specs.declared.file.Component.{Component}
use Rattle.vst_text.specs.declared.file.Declaration.{Declaration}
use Rattle.vst_text.specs.declared.file.Association.{Association}
use Rattle.vst_text.specs.declared.file.InstanceStatement.{InstanceStatement}
use Rattle.vst_text.specs.declared.file.StructuralFile.{StructuralFile}
use Rattle.net_core.specs.declared.pins.ModelPins.{ModelPins}
use Rattle.net_core.specs.Places.{Stands, IsThere, NoneTwice}
use Rattle.net_core.specs.Netlist.{Instance, Netlist, IsNetlist, InTurn, ended, again, first, port, pin_of, pins_of, terminals, HasClass, AreInOrder}
use Rattle.net_core.specs.Checks.{pins_named}
use Rattle.net_core.proofs.Standing.{Split, left, right, split, stands_left, stands_right, stands_same, none_twice_append}
use Rattle.net_core.proofs.Frames.{Within, flat_split, mapped as map_stands, unmapped}
use Rattle.net_core.proofs.Finishing.{class_once, netlist_terminals_once}
use Rattle.net_right.specs.Writable.{port_of}
use Rattle.vst_print.specs.Groups.{Group, grouped, mode_of, bounds_of, declared, outline_of, outline}
use Rattle.vst_print.specs.Structure.{Mapping, OneInstance, component_layout, components_layout, signals_layout, begin_layout, head_layout, instance_layout}
use Rattle.vst_print.specs.Nets.{first_ports, signal_text, is_free, signal_numbers, port_nets, signal_nets, net_names}
use Rattle.vst_print.specs.Written.{used_models, component_of, mapped, instance_with, instances_with}
use Rattle.vst_print.proofs.Runs.{some_groups, stands_drop}
use Rattle.vst_print.proofs.Joined.{mapped_length, pin_total}
use Rattle.vst_print.specs.Placed.{placed_component, placed_components, placed_signals, placed_mapping, placed_mappings, placed_instance, placed_instances, selected, file_of}
use Rattle.vst_print.specs.Says.{dir_of, bit_ports, ports_of, components_of, bit_of, pin_name, net_name, Joins, Says, PortsAreApart, WrittenSaysTheNetlist}
use Rattle.vst_print.proofs.Grouped.{Good, GoodBits, one_port, bound_ports, group_ports, ports_again, bits_good}
use Rattle.vst_print.proofs.Names.{AllApart, not_of, GoodNumber, numbers_good, signals_apart}
use Rattle.vst_print.proofs.Netlists.{Sound, Known, Ready, Facts, facts, outline_name, component_names, known_used}

-- ---- ports

dir_again : (d : Dir) → dir_of (mode_of d) ≡ d
dir_again dir.In = refl
dir_again dir.Out = refl

span_of : (low high : ℕ) → low ≤ high → (b c : Bool) → nat_le high low ≡ b → cond b low high - cond b high low + 1 ≡ high + 1 - low
span_of low high less true c e = let l = leb-true high low e in omega (arith, less, l)
span_of low high less false c e = let l = leb-false high low e in omega (arith, less, l)

least_of : (low high : ℕ) → low ≤ high → (b : Bool) → nat_le high low ≡ b → cond b high low ≡ low
least_of low high less true e = let l = leb-true high low e in omega (arith, less, l)
least_of low high less false e = refl

-- what is read of a group is its ports
group_again : (line : ℕ) (g : Group) → GoodBits g → ports_of (placed_port line (declared g)) ≡ group_ports g
group_again line g good = append-nil (bit_ports (mode_of g.dir) (placed_type line (bounds_of g.low g.high)).range (record { text = g.text; line = line })) ∙ by g.low g.high good where
  turned : (b : Option ℕ) → one_port g.text (dir_of (mode_of g.dir)) b ≡ one_port g.text g.dir b
  turned b = ap (λ (d : Dir). one_port g.text d b) (dir_again g.dir)

  by : (low high : Option ℕ) → Good low high → bit_ports (mode_of g.dir) (placed_type line (bounds_of low high)).range (record { text = g.text; line = line }) ≡ bound_ports g.text g.dir (bounds_of low high)
  by None high good = ap (λ (p : Port). p ∷ []) (turned None)
  by (Some l) None good = absurd good
  by (Some l) (Some h) good =
      ap (λ (d : Dir). map (λ k. one_port g.text d (Some k)) (rising (cond (nat_le h l) h l) (cond (nat_le h l) l h - cond (nat_le h l) h l + 1))) (dir_again g.dir)
      ∙ ap (λ n. map (λ k. one_port g.text g.dir (Some k)) (rising (cond (nat_le h l) h l) n)) (span_of l h good (nat_le h l) true refl)
      ∙ ap (λ m. map (λ k. one_port g.text g.dir (Some k)) (rising m (h + 1 - l))) (least_of l h good (nat_le h l) refl)

groups_again : (line : ℕ) (gs : List Group) → All GoodBits gs → flat_map ports_of (placed_ports line (map declared gs)) ≡ flat_map group_ports gs
groups_again line [] all = refl
groups_again line (g ∷ gs) all =
    ap (λ (ps : List Port). ps ++ flat_map ports_of (placed_ports (line_behind line) (map declared gs))) (group_again (line_behind line) g (All-head GoodBits g gs all))
    ∙ ap (λ (ps : List Port). group_ports g ++ ps) (groups_again (line_behind line) gs (All-tail GoodBits g gs all))

outline_again : (line : ℕ) (name : List ℕ) (ports : List Port) → Sound ports → flat_map ports_of (placed_port line (outline name ports).first ∷ placed_ports line (outline name ports).others) ≡ ports
outline_again line name ports s = by (grouped ports) (some_groups ports s.some) (bits_good ports s.chain) ∙ ports_again ports s.chain where
  by : (gs : List Group) → 0 < length (map declared gs) → All GoodBits gs
      → flat_map ports_of (placed_port line (outline_of name (map declared gs)).first ∷ placed_ports line (outline_of name (map declared gs)).others) ≡ flat_map group_ports gs
  by [] some all = absurd (omega arith)
  by (g ∷ gs) some all =
      ap (λ (ps : List Port). ps ++ flat_map ports_of (placed_ports line (map declared gs))) (group_again line g (All-head GoodBits g gs all))
      ∙ ap (λ (ps : List Port). group_ports g ++ ps) (groups_again line gs (All-tail GoodBits g gs all))

-- ---- components

abbrev placed_list : ℕ → List Outline → List Component
placed_list line [] = []
placed_list line (c ∷ cs) = placed_component line c ∷ placed_list (line_of line (component_layout c)) cs

no_components : (line : ℕ) (ss : List (List ℕ)) → components_of (placed_signals line ss) ≡ []
no_components line [] = refl
no_components line (s ∷ ss) = no_components (line_behind line) ss

components_again : (line behind : ℕ) (cs : List Outline) (ss : List (List ℕ)) → components_of (placed_components line cs ++ placed_signals behind ss) ≡ placed_list line cs
components_again line behind [] ss = no_components behind ss
components_again line behind (c ∷ cs) ss = ap (λ (z : List Component). placed_component line c ∷ z) (components_again (line_of line (component_layout c)) behind cs ss)

placed_names : (line : ℕ) (cs : List Outline) → map (λ c. c.name) (placed_list line cs) ≡ map (λ c. c.name) cs
placed_names line [] = refl
placed_names line (c ∷ cs) = ap (λ (z : List (List ℕ)). c.name ∷ z) (placed_names (line_of line (component_layout c)) cs)

abbrev HasPins : List ModelPins → Component → Type 0
HasPins table c = flat_map ports_of c.ports ≡ map port_of (pins_named table c.name)

placed_pins : (table : List ModelPins) (line : ℕ) (models : List (List ℕ)) → All (Known table) models → All (λ c. flat_map ports_of c.ports ≡ map port_of (pins_named table c.name)) (placed_list line (map (component_of table) models))
placed_pins table line [] all = All-nil (HasPins table)
placed_pins table line (m ∷ ms) all =
    let k = All-head (Known table) m ms all in
    let ports = map port_of (pins_named table m) in
    let c = component_of table m in
    let named : m ≡ c.name = sym (outline_name m (map declared (grouped ports))) in
    All-cons (HasPins table) (placed_component line c) (placed_list (line_of line (component_layout c)) (map (component_of table) ms))
    (outline_again (line_behind (line_behind line)) m ports k.sound ∙ ap (λ (t : List ℕ). map port_of (pins_named table t)) named)
    (placed_pins table (line_of line (component_layout c)) ms (All-tail (Known table) m ms all))

-- ---- instances

label_again : (line : ℕ) (i : Instance) (ms : List Mapping) → (placed_instance line (instance_with i ms)).label ≡ i.name
label_again line i [] = refl
label_again line i (m ∷ ms) = refl

model_again : (line : ℕ) (i : Instance) (ms : List Mapping) → (placed_instance line (instance_with i ms)).component ≡ i.model
model_again line i [] = refl
model_again line i (m ∷ ms) = refl

labels_again : (nets : List Name) (line : ℕ) (is : List Instance) (classes : List ℕ) → map (λ i. i.label) (placed_instances line (instances_with nets is classes)) ≡ map (λ i. i.name) is
labels_again nets line [] classes = refl
labels_again nets line (i ∷ is) classes =
    let ms = mapped nets i.pins (take (length i.pins) classes) in
    let l = line_of line (instance_layout (instance_with i ms)) in
    ap (λ (x : List ℕ). x ∷ map (λ i. i.label) (placed_instances l (instances_with nets is (drop (length i.pins) classes)))) (label_again line i ms)
    ∙ ap (λ (xs : List (List ℕ)). i.name ∷ xs) (labels_again nets l is (drop (length i.pins) classes))

models_again : (nets : List Name) (line : ℕ) (is : List Instance) (classes : List ℕ) → map (λ i. i.component) (placed_instances line (instances_with nets is classes)) ≡ map (λ i. i.model) is
models_again nets line [] classes = refl
models_again nets line (i ∷ is) classes =
    let ms = mapped nets i.pins (take (length i.pins) classes) in
    let l = line_of line (instance_layout (instance_with i ms)) in
    ap (λ (x : List ℕ). x ∷ map (λ i. i.component) (placed_instances l (instances_with nets is (drop (length i.pins) classes)))) (model_again line i ms)
    ∙ ap (λ (xs : List (List ℕ)). i.model ∷ xs) (models_again nets l is (drop (length i.pins) classes))

pins_again : (line : ℕ) (ms : List Mapping) → map pin_name (placed_mappings line ms) ≡ map (λ m. m.pin) ms
pins_again line [] = refl
pins_again line (m ∷ ms) = ap (λ (xs : List Name). m.pin ∷ xs) (pins_again (line_behind line) ms)

mapped_pins : (nets pins : List Name) (classes : List ℕ) → length classes ≡ length pins → map (λ m. m.pin) (mapped nets pins classes) ≡ pins
mapped_pins nets [] classes e = refl
mapped_pins nets (p ∷ ps) [] e = absurd (omega (arith, e))
mapped_pins nets (p ∷ ps) (k ∷ ks) e = ap (λ (xs : List Name). p ∷ xs) (mapped_pins nets ps ks (omega (arith, e)))

one_joined : (line : ℕ) (i : Instance) (ms : List Mapping) → 0 < length ms → map pin_name (placed_instance line (instance_with i ms)).associations ≡ map (λ m. m.pin) ms
one_joined line i [] some = absurd (omega arith)
one_joined line i (m ∷ ms) some = ap (λ (xs : List Name). m.pin ∷ xs) (pins_again (line_behind (line_behind line)) ms)

joined_again : (nets : List Name) (line : ℕ) (is : List Instance) (classes : List ℕ) → All Ready is → length classes ≡ pin_total is
    → map (λ i. map pin_name i.associations) (placed_instances line (instances_with nets is classes)) ≡ map (λ i. i.pins) is
joined_again nets line [] classes ready many = refl
joined_again nets line (i ∷ is) classes ready many =
    let n = length i.pins in
    let own : length (take n classes) ≡ n = length-take-le n classes (omega (arith, many)) in
    let ms = mapped nets i.pins (take n classes) in
    let l = line_of line (instance_layout (instance_with i ms)) in
    let some = (All-head Ready i is ready).some in
    let e = mapped_length nets i.pins (take n classes) own in
    let rest : length (drop n classes) ≡ length classes - n = length-drop n classes in
    ap (λ (x : List Name). x ∷ map (λ i. map pin_name i.associations) (placed_instances l (instances_with nets is (drop n classes)))) (one_joined line i ms (omega (arith, e, some)) ∙ mapped_pins nets i.pins (take n classes) own)
    ∙ ap (λ (xs : List (List Name)). i.pins ∷ xs) (joined_again nets l is (drop n classes) (All-tail Ready i is ready) (omega (arith, rest, many)))

-- ---- what a pin is joined to

bit_again : (b : Option ℕ) → bit_of (selected b) ≡ b
bit_again None = refl
bit_again (Some k) = refl

net_again : (line : ℕ) (m : Mapping) → net_name (placed_mapping line m) ≡ m.net
net_again line m = ap made (bit_again m.net.bit) where
  made : Option ℕ → Name
  made b = record { text = m.net.text; bit = b }

-- an association of these pins: of which pin it is, and of which net
pub record At (ms : List Mapping) (k : ℕ) (pin net : Name) : Type 0 where
  pub mapping : Mapping
  pub stands : Stands ms k mapping
  pub pin_is : pin ≡ mapping.pin
  pub net_is : net ≡ mapping.net

mapping_found : (line : ℕ) (ms : List Mapping) (k : ℕ) (a : Association) → Stands (placed_mappings line ms) k a → At ms k (pin_name a) (net_name a)
mapping_found line [] k a s = absurd cc
mapping_found line (m ∷ ms) zero a s =
    let e : Some (placed_mapping (line_behind line) m) ≡ Some a = s in
    let same : placed_mapping (line_behind line) m ≡ a = cc in
    record { mapping = m; stands = refl; pin_is = sym (ap pin_name same); net_is = sym (ap net_name same) ∙ net_again (line_behind line) m }
mapping_found line (m ∷ ms) (suc k) a s = let r = mapping_found (line_behind line) ms k a s in record { mapping = r.mapping; stands = r.stands; pin_is = r.pin_is; net_is = r.net_is }

first_found : (line : ℕ) (m : Mapping) (ms : List Mapping) (k : ℕ) (a : Association) → Stands (placed_mapping line m ∷ placed_mappings line ms) k a → At (m ∷ ms) k (pin_name a) (net_name a)
first_found line m ms zero a s =
    let e : Some (placed_mapping line m) ≡ Some a = s in
    let same : placed_mapping line m ≡ a = cc in
    record { mapping = m; stands = refl; pin_is = sym (ap pin_name same); net_is = sym (ap net_name same) ∙ net_again line m }
first_found line m ms (suc k) a s = let r = mapping_found line ms k a s in record { mapping = r.mapping; stands = r.stands; pin_is = r.pin_is; net_is = r.net_is }

-- the pin and the class of a mapping
pub record Of (nets pins : List Name) (classes : List ℕ) (k : ℕ) (m : Mapping) : Type 0 where
  pub class : ℕ
  pub pin : Stands pins k m.pin
  pub here : Stands classes k class
  pub net : m.net ≡ get_or nets class (scalar [])

mapped_found : (nets pins : List Name) (classes : List ℕ) (k : ℕ) (m : Mapping) → Stands (mapped nets pins classes) k m → Of nets pins classes k m
mapped_found nets [] classes k m s = absurd cc
mapped_found nets (p ∷ ps) [] k m s = absurd cc
mapped_found nets (p ∷ ps) (c ∷ cs) zero m s =
    let e : Some (record { pin = p; net = get_or nets c (scalar []) }) ≡ Some m = s in
    let same : record { pin = p; net = get_or nets c (scalar []) } ≡ m = cc in
    record { class = c; pin = ap (λ (x : Mapping). Some x.pin) same; here = refl; net = sym (ap (λ (x : Mapping). x.net) same) }
mapped_found nets (p ∷ ps) (c ∷ cs) (suc k) m s = let r = mapped_found nets ps cs k m s in record { class = r.class; pin = r.pin; here = r.here; net = r.net }

-- a pin of these instances, and its net
pub record Found (nets : List Name) (is : List Instance) (classes : List ℕ) (t : Terminal) (net : Name) : Type 0 where
  pub place : ℕ
  pub class : ℕ
  pub stands : Stands (flat_map pins_of is) place t
  pub here : Stands classes place class
  pub is_name : net ≡ get_or nets class (scalar [])

stands_take : {X : Type 0} (n k : ℕ) (xs : List X) (x : X) → Stands (take n xs) k x → Stands xs k x
stands_take zero k xs x s = absurd cc
stands_take (suc n) k [] x s = absurd cc
stands_take (suc n) zero (y ∷ xs) x s = s
stands_take (suc n) (suc k) (y ∷ xs) x s = stands_take n k xs x s

own_found : (nets : List Name) (i : Instance) (is : List Instance) (classes : List ℕ) (line : ℕ) (a : Association) → (ms : List Mapping) → ms ≡ mapped nets i.pins (take (length i.pins) classes) → 0 < length ms
    → IsThere (placed_instance line (instance_with i ms)).associations a → Found nets (i ∷ is) classes (pin_of (placed_instance line (instance_with i ms)).label (pin_name a)) (net_name a)
own_found nets i is classes line a [] are some there = absurd (omega arith)
own_found nets i is classes line a (m ∷ ms) are some there =
    let r = first_found (line_behind (line_behind line)) m ms there.0 a there.1 in
    let s : Stands (mapped nets i.pins (take (length i.pins) classes)) there.0 r.mapping = subst (λ (zs : List Mapping). Stands zs there.0 r.mapping) are r.stands in
    let o = mapped_found nets i.pins (take (length i.pins) classes) there.0 r.mapping s in
    let p : Stands (pins_of i) there.0 (pin_of i.name (pin_name a)) = map_stands (pin_of i.name) i.pins there.0 (pin_name a) (subst (Stands i.pins there.0) (sym r.pin_is) o.pin) in
    record {
      place = there.0;
      class = o.class;
      stands = stands_left (pins_of i) (flat_map pins_of is) there.0 (pin_of i.name (pin_name a)) p;
      here = stands_take (length i.pins) there.0 classes o.class o.here;
      is_name = r.net_is ∙ o.net;
    }

pub found : (nets : List Name) (line : ℕ) (is : List Instance) (classes : List ℕ) (k : ℕ) (st : InstanceStatement) (a : Association) → All Ready is → length classes ≡ pin_total is
    → Stands (placed_instances line (instances_with nets is classes)) k st → IsThere st.associations a → Found nets is classes (pin_of st.label (pin_name a)) (net_name a)
found nets line [] classes k st a ready many s there = absurd cc
found nets line (i ∷ is) classes zero st a ready many s there =
    let n = length i.pins in
    let own : length (take n classes) ≡ n = length-take-le n classes (omega (arith, many)) in
    let ms = mapped nets i.pins (take n classes) in
    let some = (All-head Ready i is ready).some in
    let l = mapped_length nets i.pins (take n classes) own in
    let e : Some (placed_instance line (instance_with i ms)) ≡ Some st = s in
    let same : placed_instance line (instance_with i ms) ≡ st = cc in
    subst (λ (z : InstanceStatement). Found nets (i ∷ is) classes (pin_of z.label (pin_name a)) (net_name a)) same
    (own_found nets i is classes line a ms refl (omega (arith, l, some)) (subst (λ (z : InstanceStatement). IsThere z.associations a) (sym same) there))
found nets line (i ∷ is) classes (suc k) st a ready many s there =
    let n = length i.pins in
    let ms = mapped nets i.pins (take n classes) in
    let rest : length (drop n classes) ≡ length classes - n = length-drop n classes in
    let r = found nets (line_of line (instance_layout (instance_with i ms))) is (drop n classes) k st a (All-tail Ready i is ready) (omega (arith, rest, many)) s there in
    let t = pin_of st.label (pin_name a) in
    let e : length (pins_of i) ≡ n = length-map i.pins (pin_of i.name) in
    record {
      place = n + r.place;
      class = r.class;
      stands = subst (λ j. Stands (pins_of i ++ flat_map pins_of is) (j + r.place) t) e (stands_right (pins_of i) (flat_map pins_of is) r.place t r.stands);
      here = stands_drop classes n r.place r.class r.here;
      is_name = r.is_name;
    }

-- ---- nets

-- the class of a port's name among the nets
firsts_there : (met count : ℕ) (ports : List Port) (classes : List ℕ) (j : ℕ) (q : Name) → InTurn met classes count → Stands (first_ports met ports classes) j q
    → (i : ℕ) × Stands (map (λ p. p.name) ports) i q × Stands classes i (met + j)
firsts_there met count [] classes j q t s = absurd cc
firsts_there met count (p ∷ ps) [] j q t s = absurd cc
firsts_there met count (p ∷ ps) (k ∷ ks) j q (again less t) s =
    let n : nat_eq k met ≡ false = ne_eqb k met (omega (arith, less)) in
    let s' : Stands (first_ports met ps ks) j q = subst (λ b. Stands (cond b (p.name ∷ first_ports (met + 1) ps ks) (first_ports met ps ks)) j q) n s in
    let r = firsts_there met count ps ks j q t s' in
    (suc r.0, r.1, r.2)
firsts_there met count (p ∷ ps) (k ∷ ks) j q (first t) s = by j (subst (λ b. Stands (cond b (p.name ∷ first_ports (met + 1) ps ks) (first_ports met ps ks)) j q) n s) (λ j s. firsts_there (met + 1) count ps ks j q t s) where
  n : nat_eq met met ≡ true
  n = eq-eqb met met refl

  by : (j : ℕ) → Stands (p.name ∷ first_ports (met + 1) ps ks) j q → ((j : ℕ) → Stands (first_ports (met + 1) ps ks) j q → (i : ℕ) × Stands (map (λ p. p.name) ps) i q × Stands ks i (met + 1 + j))
      → (i : ℕ) × Stands (map (λ p. p.name) (p ∷ ps)) i q × Stands (met ∷ ks) i (met + j)
  by zero s rest = let e : met ≡ met + 0 = omega arith in (0, s, ap Some e)
  by (suc j) s rest = let r = rest j s in let e : met + 1 + j ≡ met + suc j = omega arith in (suc r.0, r.1, r.2 ∙ ap Some e)

-- a port's class is among those that were met, or has a name among the nets
firsts_reach : (met count : ℕ) (ports : List Port) (classes : List ℕ) (i k : ℕ) (p : Name) → InTurn met classes count → Stands (map (λ p. p.name) ports) i p → Stands classes i k
    → k < met + length (first_ports met ports classes)
firsts_reach met count [] classes i k p t s c = absurd cc
firsts_reach met count (q ∷ qs) [] i k p t s c = absurd cc
firsts_reach met count (q ∷ qs) (x ∷ xs) i k p (again less t) s c =
    let n : nat_eq x met ≡ false = ne_eqb x met (omega (arith, less)) in
    let e : length (first_ports met (q ∷ qs) (x ∷ xs)) ≡ length (first_ports met qs xs) = ap (λ b. length (cond b (q.name ∷ first_ports (met + 1) qs xs) (first_ports met qs xs))) n in
    by i s c e (λ i s c. firsts_reach met count qs xs i k p t s c) where
      by : (i : ℕ) → Stands (map (λ p. p.name) (q ∷ qs)) i p → Stands (x ∷ xs) i k → length (first_ports met (q ∷ qs) (x ∷ xs)) ≡ length (first_ports met qs xs)
          → ((i : ℕ) → Stands (map (λ p. p.name) qs) i p → Stands xs i k → k < met + length (first_ports met qs xs)) → k < met + length (first_ports met (q ∷ qs) (x ∷ xs))
      by zero s c e rest = let f : Some x ≡ Some k = c in let same : x ≡ k = cc in omega (arith, less, same)
      by (suc i) s c e rest = omega (arith, e, rest i s c)
firsts_reach met count (q ∷ qs) (x ∷ xs) i k p (first t) s c =
    let n : nat_eq met met ≡ true = eq-eqb met met refl in
    let e : length (first_ports met (q ∷ qs) (met ∷ xs)) ≡ suc (length (first_ports (met + 1) qs xs)) = ap (λ b. length (cond b (q.name ∷ first_ports (met + 1) qs xs) (first_ports met qs xs))) n in
    by i s c e (λ i s c. firsts_reach (met + 1) count qs xs i k p t s c) where
      by : (i : ℕ) → Stands (map (λ p. p.name) (q ∷ qs)) i p → Stands (met ∷ xs) i k → length (first_ports met (q ∷ qs) (met ∷ xs)) ≡ suc (length (first_ports (met + 1) qs xs))
          → ((i : ℕ) → Stands (map (λ p. p.name) qs) i p → Stands xs i k → k < met + 1 + length (first_ports (met + 1) qs xs)) → k < met + length (first_ports met (q ∷ qs) (met ∷ xs))
      by zero s c e rest = let f : Some met ≡ Some k = c in let same : met ≡ k = cc in omega (arith, e, same)
      by (suc i) s c e rest = omega (arith, e, rest i s c)

-- what holds of all elements holds of the one at a place
all_at : {X : Type 0} (P : X → Type 0) (xs : List X) (k : ℕ) (x : X) → All P xs → Stands xs k x → P x
all_at P xs k x all s = subst P (get_or_from_slice_get xs k x x s) (all k x (slice_get_within xs k x s))

port_stands : (n : Netlist) (i : ℕ) (q : Name) → Stands (map (λ p. p.name) n.ports) i q → Stands (terminals n) i (port q)
port_stands n i q s =
    let u = unmapped (λ (p : Port). p.name) n.ports i q s in
    stands_left (map (λ (p : Port). port p.name) n.ports) (flat_map pins_of n.instances) i (port q)
    (subst (λ (x : Name). Stands (map (λ (p : Port). port p.name) n.ports) i (port x)) u.2 (map_stands (λ (p : Port). port p.name) n.ports i u.0 u.1))

firsts_once : (n : Netlist) → IsNetlist n → NoneTwice (port_nets n)
firsts_once n is i j q s t =
    let a = firsts_there 0 n.count n.ports n.classes i q is.turns s in
    let b = firsts_there 0 n.count n.ports n.classes j q is.turns t in
    let same : a.0 ≡ b.0 = netlist_terminals_once n is a.0 b.0 (port q) (port_stands n a.0 q a.1) (port_stands n b.0 q b.1) in
    let e : 0 + i ≡ 0 + j = stands_same n.classes b.0 (0 + i) (0 + j) (subst (λ k. Stands n.classes k (0 + i)) same a.2) b.2 in
    omega (arith, e)

apart_once : (ts : List (List ℕ)) → AllApart ts → NoneTwice ts
apart_once [] a i j x s t = absurd cc
apart_once (u ∷ us) a zero zero x s t = refl
apart_once (u ∷ us) a zero (suc j) x s t = let e : Some u ≡ Some x = s in let same : u ≡ x = cc in absurd (all_at (λ v. u ≡ v → ⊥) us j x a.0 t same)
apart_once (u ∷ us) a (suc i) zero x s t = let e : Some u ≡ Some x = t in let same : u ≡ x = cc in absurd (all_at (λ v. u ≡ v → ⊥) us i x a.0 s same)
apart_once (u ∷ us) a (suc i) (suc j) x s t = ap suc (apart_once us a.1 i j x s t)

scalars_once : (ts : List (List ℕ)) → NoneTwice ts → NoneTwice (map scalar ts)
scalars_once ts once i j x s t =
    let a = unmapped scalar ts i x s in
    let b = unmapped scalar ts j x t in
    let same : a.0 ≡ b.0 = ap (λ (n : Name). n.text) (a.2 ∙ sym b.2) in
    once i j b.0 (subst (Stands ts i) same a.1) b.1

-- no port has the text of a signal
abbrev Lacks : List Port → List ℕ → Type 0
Lacks ports t = All (λ p. p.name.text ≡ t → ⊥) ports

signals_lack : (ports : List Port) (many : ℕ) → All (Lacks ports) (map signal_text (signal_numbers ports many))
signals_lack ports many =
    All-map (Lacks ports) signal_text (signal_numbers ports many)
    (All-weaker (GoodNumber ports (many + length ports)) (λ k. Lacks ports (signal_text k)) (λ k w. free k w.1) (signal_numbers ports many) (numbers_good ports many)) where
      free : (k : ℕ) → is_free ports k ≡ true → Lacks ports (signal_text k)
      free k e =
          All-weaker (λ (p : Port). not (bytes_eq p.name.text (signal_text k)) ≡ true) (λ (p : Port). p.name.text ≡ signal_text k → ⊥) (λ p h. not_of p.name.text (signal_text k) h) ports
          (AllPass-from_list_all (λ (p : Port). not (bytes_eq p.name.text (signal_text k))) ports e)

pub nets_once : (n : Netlist) (table : List ModelPins) → IsNetlist n → Facts n table → NoneTwice (net_names n)
nets_once n table is f = none_twice_append (port_nets n) (map scalar (signal_nets n)) (firsts_once n is) (scalars_once (signal_nets n) (apart_once (signal_nets n) (signals_apart n.ports many small))) apart where
  many : ℕ
  many = n.count - length (port_nets n)

  small : many + length n.ports ≤ 2 ^ 64
  small = let few = f.few in omega (arith, few)

  apart : (x : Name) → IsThere (port_nets n) x → IsThere (map scalar (signal_nets n)) x → ⊥
  apart x a b =
      let r = firsts_there 0 n.count n.ports n.classes a.0 x is.turns a.1 in
      let p = unmapped (λ (p : Port). p.name) n.ports r.0 x r.1 in
      let s = unmapped scalar (signal_nets n) b.0 x b.1 in
      let lack = all_at (Lacks n.ports) (signal_nets n) b.0 s.0 (signals_lack n.ports many) s.1 in
      all_at (λ (q : Port). q.name.text ≡ s.0 → ⊥) n.ports r.0 p.0 lack p.1 (ap (λ (y : Name). y.text) (p.2 ∙ sym s.2))

-- ---- the netlist

-- a pin that the text joins has a class, and the net is its name
pub record Named (n : Netlist) (t : Terminal) (net : Name) : Type 0 where
  pub class : ℕ
  pub has : HasClass n t class
  pub stands : Stands (net_names n) class net

named : (n : Netlist) (table : List ModelPins) → Facts n table → (t : Terminal) (net : Name) → Joins (file_of n table) t net → Named n t net
named n table f t net joins =
    let cs = drop (length n.ports) n.classes in
    let r = found (net_names n) _ n.instances cs joins.listed.0 joins.statement joins.association f.ready f.pins joins.listed.1 joins.there in
    let e : length (map (λ (p : Port). port p.name) n.ports) ≡ length n.ports = length-map n.ports (λ (p : Port). port p.name) in
    let u = pin_of joins.statement.label (pin_name joins.association) in
    let place : Stands (terminals n) (length n.ports + r.place) u =
    subst (λ k. Stands (terminals n) (k + r.place) u) e (stands_right (map (λ (p : Port). port p.name) n.ports) (flat_map pins_of n.instances) r.place u r.stands) in
    let here = stands_drop n.classes (length n.ports) r.place r.class r.here in
    let less : r.class < length (net_names n) = all_at (λ k. k < length (net_names n)) n.classes (length n.ports + r.place) r.class f.inside here in
    record {
      class = r.class;
      has = subst (λ (x : Terminal). HasClass n x r.class) (sym joins.pin_is) (length n.ports + r.place, place, here);
      stands = slice_get-get_or (net_names n) r.class (scalar []) less ∙ ap Some (sym (joins.net_is ∙ r.is_name));
    }

-- a pin is no port
pins_only : (is : List Instance) (p : Name) (j : ℕ) → Stands (flat_map pins_of is) j (port p) → ⊥
pins_only is p j s =
    let w = flat_split pins_of is j (port p) s in
    let u = unmapped (pin_of w.item.name) w.item.pins w.inner (port p) w.inside in
    let no : Some w.item.name ≡ None = ap (λ (t : Terminal). t.instance) u.2 in absurd cc

-- the net of a port's class is that port, where no two ports have one class
port_net : (n : Netlist) → IsNetlist n → PortsAreApart n → (p : Name) (k : ℕ) → HasClass n (port p) k → Stands (net_names n) k p
port_net n is apart p k has =
    let s = at_port (split (map (λ (q : Port). port q.name) n.ports) (flat_map pins_of n.instances) has.0 (port p) has.1) in
    let reach = firsts_reach 0 n.count n.ports n.classes has.0 k p is.turns s has.2 in
    let q = get_or (port_nets n) k (scalar []) in
    let there : Stands (port_nets n) k q = slice_get-get_or (port_nets n) k (scalar []) (omega (arith, reach)) in
    let r = firsts_there 0 n.count n.ports n.classes k q is.turns there in
    let c : Stands n.classes r.0 k = let e : 0 + k ≡ k = omega arith in subst (Stands n.classes r.0) e r.2 in
    let same : q ≡ p = apart q p k (r.0, port_stands n r.0 q r.1, c) has in
    stands_left (port_nets n) (map scalar (signal_nets n)) k p (subst (Stands (port_nets n) k) same there) where
      at_port : Split (map (λ (q : Port). port q.name) n.ports) (flat_map pins_of n.instances) has.0 (port p) → Stands (map (λ q. q.name) n.ports) has.0 p
      at_port (left here) =
          let u = unmapped (λ (q : Port). port q.name) n.ports has.0 (port p) here in
          let same : u.0.name ≡ p = ap (λ (t : Terminal). t.pin) u.2 in
          subst (Stands (map (λ q. q.name) n.ports) has.0) same (map_stands (λ (q : Port). q.name) n.ports has.0 u.0 u.1)
      at_port (right j e there) = absurd (pins_only n.instances p j there)

-- names at places of a list in which none is twice
same_place : {X : Type 0} (xs : List X) (j k : ℕ) (x y : X) → NoneTwice xs → Stands xs j x → Stands xs k y → (x ≡ y) ↔ (j ≡ k)
same_place xs j k x y once s t = (λ e. once j k y (subst (Stands xs j) e s) t, λ e. stands_same xs k x y (subst (λ i. Stands xs i x) e s) t)

pub written_says_the_netlist : WrittenSaysTheNetlist
written_says_the_netlist n table is fits pins can limits apart = record {
  name = outline_name n.name (map declared (grouped n.ports));
  ports = outline_again (line_behind (line_behind 1)) n.name n.ports f.ports;
  models = ap (map (λ c. c.name)) parts ∙ placed_names d (map (component_of table) used) ∙ component_names table used;
  pins = subst (All (HasPins table)) (sym parts) (placed_pins table d used (known_used n table f.known));
  labels = labels_again (net_names n) b n.instances (drop (length n.ports) n.classes);
  instances = models_again (net_names n) b n.instances (drop (length n.ports) n.classes);
  joined = joined_again (net_names n) b n.instances (drop (length n.ports) n.classes) f.ready f.pins;
  nets = λ a c x y j k p q h i.
      let s = at a x j p h in
      let t = at c y k q i in
      same_place (net_names n) j k x y once s t;
  to_ports = λ a p x j k q h i. same_place (net_names n) j k x p once (at a x j q h) (port_net n is apart p k i);
} where
  f : Facts n table
  f = facts n table is fits pins can limits

  used : List (List ℕ)
  used = used_models n.instances

  d : ℕ
  d = line_of (line_of 1 (entity_layout (outline n.name n.ports))) (head_layout (outline n.name n.ports).name)

  g : ℕ
  g = line_of d (components_layout (map (component_of table) used))

  b : ℕ
  b = line_of (line_of g (signals_layout (signal_nets n))) begin_layout

  once : NoneTwice (net_names n)
  once = nets_once n table is f

  parts : components_of (file_of n table).declarations ≡ placed_list d (map (component_of table) used)
  parts = components_again d g (map (component_of table) used) (signal_nets n)

  at : (a : Terminal) (x : Name) (j : ℕ) → Joins (file_of n table) a x → HasClass n a j → Stands (net_names n) j x
  at a x j p h = let r = named n table f a x p in subst (λ k. Stands (net_names n) k x) (class_once n is a r.class j r.has h) r.stands
