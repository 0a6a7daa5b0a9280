-- The next instance of a text, behind those that were added.
use Rattle.std.proofs.Common.{◌≡◌, ℕ, ◌+◌, ◌^◌, ◌<◌, ◌≤◌, List, [], ◌∷◌, ◌++◌, map, length, take, get_or, min, Option, None, Some, refl, sym, ap, subst, ◌∙◌, arith}
use Rattle.std.specs.List.{flat_map, sum_by}
use Rattle.std.proofs.lemmas.List.{take_more, length-append, length-take}
use Rattle.std.proofs.lemmas.Option.{slice_get_read}
use Rattle.vlsi_base.specs.declared.name.Name.{Name}
use Rattle.vlsi_base.specs.declared.name.Port.{Port}
use Rattle.vlsi_base.specs.declared.fault.ReadError.{ReadError}
use Rattle.vlsi_base.specs.declared.fault.ReadError.TheVariants as errors
use Rattle.net_core.specs.declared.error.BuildError.{BuildError}
use Rattle.net_core.specs.declared.error.BuildError.TheVariants as building
use Rattle.net_core.specs.declared.pins.ModelPin.{ModelPin}
use Rattle.net_core.specs.declared.pins.ModelPins.{ModelPins}
use Rattle.net_core.specs.Places.{Stands, IsThere}
use Rattle.net_core.specs.Netlist.{Instance, AreInOrder, port, pins_of}
use Rattle.net_core.specs.Frame.{IsNoPlaceFor}
use Rattle.net_core.specs.Joins.{Draft, draft_terminals, with_instance}
use Rattle.net_core.specs.Checks.{pins_named, IsPinTable}
use Rattle.vst_text.specs.declared.file.InstanceStatement.{InstanceStatement}
use Rattle.vst_text.specs.declared.file.StructuralFile.{StructuralFile}
use Rattle.vst_io.specs.Nets.{nets, port_bits, instance_of}
use Rattle.vst_io.specs.Faults.{first_label_again, if_again, terminal_count}
use Rattle.vst_io.specs.Drafts.{with_instances, IsAgain, IsLabelFault}
use Rattle.vst_io.proofs.Fine.{map_append, map_length}
use Rattle.vst_io.proofs.Places.{in_stands}
use Rattle.vst_io.proofs.Adding.{again_from, again_on, again_here, again_end, pin_count, pins_counted, sum_next, sum_many, named_order}

-- The instance at k comes next: `now` is what `first` has become by those before it.
pub record IsNext (table : List ModelPins) (f : StructuralFile) (first now : Draft) (k : ℕ) (i : InstanceStatement) : Type 0 where
  pub table_is : IsPinTable table
  pub few : length first.ports ≡ length (port_bits (nets f))
  pub room : terminal_count table f < 2 ^ 32
  pub maps : (j : InstanceStatement) → IsThere f.instances j → 0 < length (pins_named table j.component)
  pub so_far : now ≡ with_instances first (map (instance_of table) (take k f.instances))
  pub again : again_from f.instances [] k ≡ first_label_again [] f.instances
  pub low : k < length f.instances
  pub at : i ≡ get_or f.instances k i

-- the same, of a list that holds the text's instances
pub next_at : (table : List ModelPins) (f : StructuralFile) (first now : Draft) (k : ℕ) (i : InstanceStatement) (is : List InstanceStatement) → is ≡ f.instances → IsPinTable table → length first.ports ≡ length (port_bits (nets f))
    → terminal_count table f < 2 ^ 32 → ((j : InstanceStatement) → IsThere f.instances j → 0 < length (pins_named table j.component)) → now ≡ with_instances first (map (instance_of table) (take k is))
    → again_from is [] k ≡ first_label_again [] is → k < length is → i ≡ get_or is k i → IsNext table f first now k i
next_at table f first now k i is e table_is few room maps so_far again low at = record {
  table_is = table_is;
  few = few;
  room = room;
  maps = maps;
  so_far = subst (λ (js : List InstanceStatement). now ≡ with_instances first (map (instance_of table) (take k js))) e so_far;
  again = subst (λ (js : List InstanceStatement). again_from js [] k ≡ first_label_again [] js) e again;
  low = subst (λ (js : List InstanceStatement). k < length js) e low;
  at = subst (λ (js : List InstanceStatement). i ≡ get_or js k i) e at;
}

stands_at : (is : List InstanceStatement) (k : ℕ) (i : InstanceStatement) → k < length is → i ≡ get_or is k i → Stands is k i
stands_at is k i low at = slice_get_read is (length is) k i refl low at

abbrev pub ArePinsOf : List ModelPins → InstanceStatement → List Name → Type 0
ArePinsOf table i pins = pins ≡ map (λ (p : ModelPin). p.name) (pins_named table i.component)

pub order_now : (table : List ModelPins) (f : StructuralFile) (first now : Draft) (k : ℕ) (i : InstanceStatement) (pins : List Name) → IsNext table f first now k i → ArePinsOf table i pins → AreInOrder pins
order_now table f first now k i pins next e = subst (λ (ns : List Name). AreInOrder ns) (sym e) (named_order table i.component next.table_is.order)

pub few_now : (table : List ModelPins) (f : StructuralFile) (first now : Draft) (k : ℕ) (i : InstanceStatement) → IsNext table f first now k i → length now.instances < 2 ^ 32
few_now table f first now k i next =
    let made : length now.instances ≡ length (take k f.instances) = ap (λ (d : Draft). length d.instances) next.so_far ∙ map_length (instance_of table) (take k f.instances) in
    let within : length (take k f.instances) ≡ min k (length f.instances) = length-take k f.instances in
    let many : length f.instances ≤ sum_by (pin_count table) f.instances = sum_many (pin_count table) f.instances (λ j h. next.maps j (in_stands f.instances j h)) in
    let room : length (port_bits (nets f)) + sum_by (pin_count table) f.instances < 2 ^ 32 = next.room in
    omega (arith, made, within, many, room)

ends_so_far : (table : List ModelPins) (first : Draft) (is : List InstanceStatement) → length (draft_terminals (with_instances first (map (instance_of table) is))) ≡ length first.ports + sum_by (pin_count table) is
ends_so_far table first is =
    let own = map (λ (p : Port). port p.name) first.ports in
    let pins = flat_map pins_of (map (instance_of table) is) in
    length-append own pins ∙ ap (λ (n : ℕ). n + length pins) (map_length (λ (p : Port). port p.name) first.ports) ∙ ap (λ (n : ℕ). length first.ports + n) (pins_counted table is)

pub room_now : (table : List ModelPins) (f : StructuralFile) (first now : Draft) (k : ℕ) (i : InstanceStatement) (pins : List Name) → IsNext table f first now k i → ArePinsOf table i pins
    → length (draft_terminals now) + length pins < 2 ^ 32
room_now table f first now k i pins next e =
    let ends : length (draft_terminals now) ≡ length first.ports + sum_by (pin_count table) (take k f.instances) = ap (λ (d : Draft). length (draft_terminals d)) next.so_far ∙ ends_so_far table first (take k f.instances) in
    let own : length pins ≡ pin_count table i = ap (λ (ns : List Name). length ns) e ∙ map_length (λ (p : ModelPin). p.name) (pins_named table i.component) in
    let more : sum_by (pin_count table) (take k f.instances) + pin_count table i ≤ sum_by (pin_count table) f.instances = sum_next (pin_count table) f.instances k i (stands_at f.instances k i next.low next.at) in
    let few : length first.ports ≡ length (port_bits (nets f)) = next.few in
    let room : length (port_bits (nets f)) + sum_by (pin_count table) f.instances < 2 ^ 32 = next.room in
    omega (arith, ends, own, more, few, room)

take_next : (is : List InstanceStatement) (k : ℕ) (i : InstanceStatement) → k < length is → i ≡ get_or is k i → take (k + 1) is ≡ take k is ++ i ∷ []
take_next is k i low at = take_more is k i low ∙ ap (λ (x : InstanceStatement). take k is ++ x ∷ []) (sym at)

-- the netlist in the making, and the search for a label that stands before, with one more instance
pub record GoesOn (table : List ModelPins) (f : StructuralFile) (first after : Draft) (k : ℕ) : Type 0 where
  pub made : after ≡ with_instances first (map (instance_of table) (take (k + 1) f.instances))
  pub again : again_from f.instances [] (k + 1) ≡ first_label_again [] f.instances

pub added_now : (table : List ModelPins) (f : StructuralFile) (first now after : Draft) (k : ℕ) (i : InstanceStatement) (pins : List Name) → IsNext table f first now k i → ArePinsOf table i pins
    → after ≡ with_instance now (record { name = i.label; model = i.component; pins = pins })
    → (IsThere (map (λ j. j.name) now.instances) i.label → ⊥) → GoesOn table f first after k
added_now table f first now after k i pins next e made fresh =
    let is = f.instances in
    let own = λ (ps : List Name). let x : Instance = record { name = i.label; model = i.component; pins = ps } in x in
    let all : map (instance_of table) (take (k + 1) is) ≡ map (instance_of table) (take k is) ++ instance_of table i ∷ [] =
    ap (λ (js : List InstanceStatement). map (instance_of table) js) (take_next is k i next.low next.at) ∙ map_append (instance_of table) (take k is) (i ∷ []) in
    record {
      made = made ∙ ap (λ (ps : List Name). with_instance now (own ps)) e ∙ ap (λ (d : Draft). with_instance d (instance_of table i)) next.so_far ∙ ap (λ (js : List Instance). with_instances first js) (sym all);
      again = again_on table is k i (first_label_again [] is) (stands_at is k i next.low next.at) (subst (λ (d : Draft). IsThere (map (λ (j : Instance). j.name) d.instances) i.label → ⊥) next.so_far fresh) next.again;
    }

pub refused_now : (table : List ModelPins) (f : StructuralFile) (first now : Draft) (k : ℕ) (i : InstanceStatement) → IsNext table f first now k i → (error : BuildError)
    → IsNoPlaceFor now.instances i.label error → (e : ReadError) → IsAgain i error e → IsLabelFault f.instances e
refused_now table f first now k i next building.Memory why e is = subst (λ (x : ReadError). IsLabelFault f.instances x) (sym is) tt
refused_now table f first now k i next building.Unknown why e is = absurd why
refused_now table f first now k i next building.Twice why e is = by e is where
  found : first_label_again [] f.instances ≡ Some i
  found = again_here table f.instances k i (first_label_again [] f.instances) (stands_at f.instances k i next.low next.at) (subst (λ (d : Draft). IsThere (map (λ (j : Instance). j.name) d.instances) i.label) next.so_far why) next.again

  by : (x : ReadError) → IsAgain i building.Twice x → IsLabelFault f.instances x
  by errors.Memory is = tt
  by (errors.Input g) is = ap (λ (o : Option InstanceStatement). if_again o None) found ∙ ap Some (sym is)
  by (errors.Limit l) is = ap (λ (o : Option InstanceStatement). if_again o None) found ∙ ap Some (sym is)

-- the same, of a list that holds the text's instances
pub goes_on : (table : List ModelPins) (f : StructuralFile) (first after : Draft) (k : ℕ) (is : List InstanceStatement) → is ≡ f.instances → GoesOn table f first after k
    → (after ≡ with_instances first (map (instance_of table) (take (k + 1) is))) × (again_from is [] (k + 1) ≡ first_label_again [] is)
goes_on table f first after k is e g = (
  subst (λ (js : List InstanceStatement). after ≡ with_instances first (map (instance_of table) (take (k + 1) js))) (sym e) g.made,
  subst (λ (js : List InstanceStatement). again_from js [] (k + 1) ≡ first_label_again [] js) (sym e) g.again,
)

-- behind the last one
pub none_again : (is : List InstanceStatement) (k : ℕ) → length is ≤ k → again_from is [] k ≡ first_label_again [] is → first_label_again [] is ≡ None
none_again is k past again = sym again ∙ again_end is [] k past
