-- A draft that gets its instances one by one and then its pairs, and the netlist that it comes to.
use Rattle.std.proofs.Common.{◌≡◌, ◌↔◌, ℕ, zero, suc, ◌+◌, ◌<◌, ◌≤◌, ◌^◌, List, [], ◌∷◌, ◌++◌, length, map, take, get_or, Option, Some, All, refl, sym, ◌∙◌, ap, subst, arith, append_assoc, append-nil}
use Rattle.std.specs.List.{flat_map}
use Rattle.std.proofs.lemmas.List.{map-append, take_more}
use Rattle.std.proofs.lemmas.Option.{slice_get_within, same_Some, get_or_from_slice_get}
use Rattle.vlsi_base.specs.declared.name.Name.{Name}
use Rattle.vlsi_base.specs.declared.name.Port.{Port}
use Rattle.vlsi_base.specs.declared.name.Terminal.{Terminal}
use Rattle.vlsi_base.specs.Member.{In, here, there}
use Rattle.machine_core.specs.Machine.{names_of}
use Rattle.ap_io.specs.declared.figure.Figure.{Figure}
use Rattle.sym_geom.specs.declared.item.Instance.{Instance as Placed}
use Rattle.sym_geom.specs.declared.item.Item.{Item}
use Rattle.sym_geom.specs.declared.item.Item.TheVariants as item
use Rattle.sym_shapes.specs.Shape.{connector_names}
use Rattle.cell_model.specs.Cell.{Cell}
use Rattle.cell_model.specs.Library.{Library, cell_of}
use Rattle.cell_model.specs.Layout.{instances_of}
use Rattle.cell_model.specs.Usable.{IsFormed}
use Rattle.cell_model.proofs.Members.{In-left, In-right, In-map, In-map_back, All-In, All-from}
use Rattle.cell_pins.specs.Pins.{all_ports}
use Rattle.cell_pins.proofs.Ports.{sorted_pairs, all_sorted}
use Rattle.net_core.specs.declared.error.BuildError.{BuildError}
use Rattle.net_core.specs.declared.error.BuildError.TheVariants as error
use Rattle.net_core.specs.Places.{Stands, IsThere, NoneTwice}
use Rattle.net_core.specs.Netlist.{Instance, Netlist, IsNetlist, AreInOrder, port, pin_of, pins_of}
use Rattle.net_core.specs.Frame.{IsNoPlaceFor}
use Rattle.net_core.specs.Joins.{Draft, draft_terminals, with_instance, with_join, Joined, IsNoJoin, IsFinished}
use Rattle.net_core.proofs.Frames.{mapped, unmapped}
use Rattle.net_core.proofs.Standing.{stands_left, stands_right}
use Rattle.net_theory.proofs.Basics.{length-map}
use Rattle.net_right.proofs.Lists.{in_place}
use Rattle.net_right.proofs.Models.{named_cell}
use Rattle.cougar_extract.specs.declared.links.Link.{Link}
use Rattle.cougar_extract.specs.Extracted.{AreKnown, figure_text, instance_of, pins_of_cell}
use Rattle.cougar_extract.specs.Stages.{IsTerminalOf, of_figure, of_instance, AreTerminals, AreLeaders, ArePortsBy, IsBuilt, terminal_of, join_of, with_instances, with_joins}
use Rattle.cougar_extract.proofs.Directed.{names_same}
use Rattle.cell_pins.proofs.Sound.{member_at}
use Rattle.cougar_extract.proofs.Instances.{instances_append, instances_few, line_instance, name_of}

-- ---- pins

pub pins_in_order : (c : Cell) → IsFormed c → AreInOrder (names_of (all_ports c))
pins_in_order c formed = sorted_pairs (all_ports c) (all_sorted c formed)

-- the pins of a cell that was found
pub pins_found : (l : Library) (i : Placed) (c : Cell) → cell_of l i.model ≡ Some c → names_of (all_ports c) ≡ (instance_of l i).pins
pins_found l i c e = ap pins_of_cell (sym e)

-- ---- instances

pub split_at : {A : Type 0} (xs : List A) (k : ℕ) (x : A) → Stands xs k x → (rest : List A) × (xs ≡ take k xs ++ x ∷ rest)
split_at [] k x h = absurd (cc h)
split_at {A} (y ∷ xs) zero x h = (xs, ap (λ (z : A). z ∷ xs) (same_Some y x h))
split_at {A} (y ∷ xs) (suc k) x h = let r = split_at xs k x h in (r.0, ap (λ (zs : List A). y ∷ zs) r.1)

pub take_next : {A : Type 0} (xs : List A) (k : ℕ) (x : A) → Stands xs k x → take (k + 1) xs ≡ take k xs ++ x ∷ []
take_next {A} xs k x h =
    let at : get_or xs k x ≡ x = get_or_from_slice_get xs k x x h in
    take_more xs k x (slice_get_within xs k x h) ∙ ap (λ (y : A). take k xs ++ y ∷ []) at

-- no earlier instance has the name
pub fresh : (items : List Item) (l : Library) (k : ℕ) (i : Placed) → Stands items k (item.Instance i) → NoneTwice (map (λ (j : Placed). j.name) (instances_of items))
    → IsThere (map (λ (j : Instance). j.name) (map (instance_of l) (instances_of (take k items)))) i.name → ⊥
fresh items l k i at once h =
    let before : List Placed = instances_of (take k items) in
    let r = split_at items k (item.Instance i) at in
    let whole : instances_of items ≡ before ++ i ∷ instances_of r.0 = ap instances_of r.1 ∙ instances_append (take k items) (item.Instance i ∷ r.0) in
    let alone : NoneTwice (map name_of (before ++ i ∷ instances_of r.0)) = subst (λ (is : List Placed). NoneTwice (map name_of is)) whole once in
    let u = unmapped (λ (j : Instance). j.name) (map (instance_of l) before) h.0 i.name h.1 in
    let v = unmapped (instance_of l) before h.0 u.0 u.1 in
    let named : v.0.name ≡ i.name = ap (λ (j : Instance). j.name) v.2 ∙ u.2 in
    let low : h.0 < length before = slice_get_within before h.0 v.0 v.1 in
    let first : Stands (map name_of (before ++ i ∷ instances_of r.0)) h.0 i.name =
    subst (λ (t : List ℕ). Stands (map name_of (before ++ i ∷ instances_of r.0)) h.0 t) named
    (mapped name_of (before ++ i ∷ instances_of r.0) h.0 v.0 (stands_left before (i ∷ instances_of r.0) h.0 v.0 v.1)) in
    let second : Stands (map name_of (before ++ i ∷ instances_of r.0)) (length before + 0) i.name =
    mapped name_of (before ++ i ∷ instances_of r.0) (length before + 0) i (stands_right before (i ∷ instances_of r.0) 0 i refl) in
    let place : h.0 ≡ length before + 0 = alone h.0 (length before + 0) i.name first second in
    omega (arith, low, place)

-- so that memory alone can lack
pub memory_left : (instances : List Instance) (name : List ℕ) (e : BuildError) → (IsThere (map (λ (i : Instance). i.name) instances) name → ⊥)
    → IsNoPlaceFor instances name e → e ≡ error.Memory
memory_left instances name error.Memory new h = refl
memory_left instances name error.Twice new h = absurd (new h)
memory_left instances name error.Unknown new h = absurd h

instances_more : (d : Draft) (xs ys : List Instance) → with_instances (with_instances d xs) ys ≡ with_instances d (xs ++ ys)
instances_more d xs ys = ap (λ (zs : List Instance). record d { instances = zs }) (append_assoc d.instances xs ys)

pub instances_none : (d : Draft) → d ≡ with_instances d []
instances_none d = ap (λ (xs : List Instance). record d { instances = xs }) (sym (append-nil d.instances))

-- what a draft has become by the first k lines
abbrev pub added_to : Draft → Library → List Item → ℕ → Draft
added_to d l items k = with_instances d (map (instance_of l) (instances_of (take k items)))

placed_next : (items : List Item) (k : ℕ) (one : Item) → Stands items k one → instances_of (take (k + 1) items) ≡ instances_of (take k items) ++ instances_of (one ∷ [])
placed_next items k one at = ap instances_of (take_next items k one at) ∙ instances_append (take k items) (one ∷ [])

-- a line more, which may be an instance
pub added_line : (d now after : Draft) (l : Library) (items : List Item) (k : ℕ) (one : Item) → Stands items k one → now ≡ added_to d l items k
    → after ≡ with_instances now (map (instance_of l) (instances_of (one ∷ []))) → after ≡ added_to d l items (k + 1)
added_line d now after l items k one at so_far made =
    made
    ∙ ap (λ (x : Draft). with_instances x (map (instance_of l) (instances_of (one ∷ [])))) so_far
    ∙ instances_more d (map (instance_of l) (instances_of (take k items))) (map (instance_of l) (instances_of (one ∷ [])))
    ∙ ap (with_instances d)
    (sym (map-append (instance_of l) (instances_of (take k items)) (instances_of (one ∷ []))) ∙ ap (map (instance_of l)) (sym (placed_next items k one at)))

take_whole : (items : List Item) (k : ℕ) → length items ≤ k → take k items ≡ items
take_whole [] zero h = refl
take_whole [] (suc k) h = refl
take_whole (x ∷ items) zero h = absurd (omega (arith, h))
take_whole (x ∷ items) (suc k) h = ap (λ (xs : List Item). x ∷ xs) (take_whole items k (omega (arith, h)))

-- all lines
pub added_all : (d now : Draft) (l : Library) (items : List Item) (k : ℕ) → length items ≤ k → now ≡ added_to d l items k → now ≡ with_instances d (map (instance_of l) (instances_of items))
added_all d now l items k most so_far = so_far ∙ ap (λ (xs : List Item). with_instances d (map (instance_of l) (instances_of xs))) (take_whole items k most)

-- ---- terminals

in_flat : {A B : Type 0} (g : A → List B) (xs : List A) (x : A) (y : B) → In x xs → In y (g x) → In y (flat_map g xs)
in_flat g [] x y h k = elim h [ ]
in_flat g (z ∷ xs) x y here k = In-left y (g z) (flat_map g xs) k
in_flat g (z ∷ xs) x y (there h) k = In-right y (g z) (flat_map g xs) (in_flat g xs x y h k)

module _ (items : List Item) (l : Library) (names : List Name) (links : List Link) (d : Draft) (by : ArePortsBy names links d.ports)
    (same : (name : Name) → In name names ↔ In name (connector_names items)) (placed : d.instances ≡ map (instance_of l) (instances_of items)) where
  abbrev firsts : List Terminal
  firsts = map (λ (p : Port). port p.name) d.ports

  abbrev seconds : List Terminal
  seconds = flat_map pins_of d.instances

  pub terminal_there : (t : Terminal) → IsTerminalOf items l t → IsThere (draft_terminals d) t
  terminal_there t (of_figure none named) =
      let r = In-map_back (λ (p : Port). p.name) t.pin d.ports ((names_same names links d.ports by t.pin).1 ((same t.pin).1 named)) in
      let listed : In (port r.0.name) firsts = In-map (λ (p : Port). port p.name) r.0 d.ports r.1 in
      let is : port r.0.name ≡ t = λ i. record { instance = sym none i; pin = r.2 i } in
      in_place t (firsts ++ seconds) (In-left t firsts seconds (subst (λ (u : Terminal). In u firsts) is listed))
  terminal_there t (of_instance i listed owner pin) =
      let own : In (instance_of l i) d.instances = subst (λ (is : List Instance). In (instance_of l i) is) (sym placed) (In-map (instance_of l) i (instances_of items) listed) in
      let at : In (pin_of i.name t.pin) (pins_of (instance_of l i)) = In-map (pin_of i.name) t.pin (pins_of_cell (cell_of l i.model)) pin in
      let is : pin_of i.name t.pin ≡ t = λ k. record { instance = sym owner k; pin = t.pin } in
      in_place t (firsts ++ seconds)
      (In-right t firsts seconds (in_flat pins_of d.instances (instance_of l i) t own (subst (λ (u : Terminal). In u (pins_of (instance_of l i))) is at)))

  pub all_there : AreTerminals items l links → All (λ (x : Link). IsThere (draft_terminals d) x.terminal) links
  all_there are = All-from (λ (x : Link). IsThere (draft_terminals d) x.terminal) links (λ x h. terminal_there x.terminal (are x h))

-- ---- pairs

pub no_join : (d : Draft) (a b : Terminal) (e : BuildError) → IsThere (draft_terminals d) a → IsThere (draft_terminals d) b → IsNoJoin d a b e → e ≡ error.Memory
no_join d a b error.Memory p q h = refl
no_join d a b error.Unknown p q h = absurd (h p q)
no_join d a b error.Twice p q h = absurd h

pub joins_none : (d : Draft) → d ≡ with_joins d []
joins_none d = ap (λ (xs : List (Terminal × Terminal)). record d { joins = xs }) (sym (append-nil d.joins))

joins_more : (d : Draft) (xs ys : List (Terminal × Terminal)) → with_joins (with_joins d xs) ys ≡ with_joins d (xs ++ ys)
joins_more d xs ys = ap (λ (zs : List (Terminal × Terminal)). record d { joins = zs }) (append_assoc d.joins xs ys)

-- what a draft has become by the pairs of the first k connectors
abbrev pub joined_to : Draft → List Link → List ℕ → ℕ → Draft
joined_to d links places k = with_joins d (map (join_of links places) (take k links))

pub joined_next : (d now after : Draft) (links : List Link) (places : List ℕ) (k : ℕ) (x leader : Link) → Stands links k x
    → Stands links (get_or places x.number 0) leader → now ≡ joined_to d links places k → after ≡ with_join now leader.terminal x.terminal
    → after ≡ joined_to d links places (k + 1)
joined_next d now after links places k x leader at led so_far made =
    let pair : join_of links places x ≡ (leader.terminal, x.terminal) =
    ap (λ (o : Option Link). (terminal_of o, x.terminal)) led in
    made
    ∙ ap (λ (y : Draft). with_join y leader.terminal x.terminal) so_far
    ∙ joins_more d (map (join_of links places) (take k links)) ((leader.terminal, x.terminal) ∷ [])
    ∙ ap (λ (p : Terminal × Terminal). with_joins d (map (join_of links places) (take k links) ++ p ∷ [])) (sym pair)
    ∙ ap (with_joins d) (sym (map-append (join_of links places) (take k links) (x ∷ [])) ∙ ap (map (join_of links places)) (sym (take_next links k x at)))

-- ---- the netlist

pub built : (f : Figure) (l : Library) (names : List Name) (links : List Link) (places : List ℕ) (ports : List Port) (begun placed last : Draft) (n : Netlist)
    → ((name : Name) → In name names ↔ In name (connector_names f.items)) → ArePortsBy names links ports → AreLeaders links places
    → begun ≡ record { name = figure_text f.name; ports = ports; instances = []; joins = [] }
    → placed ≡ with_instances begun (map (instance_of l) (instances_of f.items))
    → last ≡ with_joins placed (map (join_of links places) links) → IsFinished last n → IsNetlist n → IsBuilt f l links n
built f l names links places ports begun placed last n same by led is_begun is_placed is_last done sound =
    let whole : last ≡ record { name = figure_text f.name; ports = ports; instances = map (instance_of l) (instances_of f.items); joins = map (join_of links places) links } =
    is_last
    ∙ ap (λ (d : Draft). with_joins d (map (join_of links places) links)) (is_placed ∙ ap (λ (d : Draft). with_instances d (map (instance_of l) (instances_of f.items))) is_begun) in
    record {
      sound = sound;
      name = done.name ∙ ap (λ (d : Draft). d.name) whole;
      names = names;
      same = same;
      ports = subst (λ (ps : List Port). ArePortsBy names links ps) (sym (done.ports ∙ ap (λ (d : Draft). d.ports) whole)) by;
      instances = done.instances ∙ ap (λ (d : Draft). d.instances) whole;
      places = places;
      led = led;
      classes = λ a b j k p q. subst (λ (js : List (Terminal × Terminal)). (j ≡ k) ↔ Joined js a b) (ap (λ (d : Draft). d.joins) whole) (done.classes a b j k p q);
    }

-- ---- one instance

-- the pins of the cell of a model stand in order
pub cell_in_order : (l : Library) (model : List ℕ) (c : Cell) → All IsFormed l.cells → cell_of l model ≡ Some c → AreInOrder (names_of (all_ports c))
cell_in_order l model c formed e = pins_in_order c (All-In IsFormed l.cells formed c (named_cell l.cells model c e).0)

-- the draft with an instance that has the pins of its cell
pub added_instance : (d after : Draft) (l : Library) (i : Placed) (c : Cell) (pins : List Name) → cell_of l i.model ≡ Some c → pins ≡ names_of (all_ports c)
    → after ≡ with_instance d (record { name = i.name; model = i.model; pins = pins }) → after ≡ with_instances d (instance_of l i ∷ [])
added_instance d after l i c pins e is made =
    made ∙ ap (λ (ns : List Name). with_instance d (record { name = i.name; model = i.model; pins = ns })) (is ∙ pins_found l i c e)

-- ---- what an instance is lent

single : (j i : Placed) → In i (j ∷ []) → item.Instance j ≡ item.Instance i
single j i here = refl
single j i (there h) = elim h [ ]

-- an instance on one line is that line
only_line : (one : Item) (i : Placed) → In i (instances_of (one ∷ [])) → one ≡ item.Instance i
only_line (item.Segment s) i h = elim h [ ]
only_line (item.Connector c) i h = elim h [ ]
only_line (item.Via v) i h = elim h [ ]
only_line (item.Instance j) i h = single j i h
only_line (item.Reference r) i h = elim h [ ]
only_line (item.Remark text) i h = elim h [ ]

pub known_line : (items : List Item) (l : Library) (k : ℕ) (one : Item) → Stands items k one → AreKnown (instances_of items) l → AreKnown (instances_of (one ∷ [])) l
known_line items l k one at known i h =
    let is : one ≡ item.Instance i = only_line one i h in
    known i (line_instance items i (member_at items k (item.Instance i) (subst (λ (x : Item). Stands items k x) is at)))

pub new_line : (d now : Draft) (items : List Item) (l : Library) (k : ℕ) (one : Item) → Stands items k one → d.instances ≡ []
    → NoneTwice (map (λ (j : Placed). j.name) (instances_of items)) → now ≡ added_to d l items k
    → (i : Placed) → In i (instances_of (one ∷ [])) → IsThere (map (λ (j : Instance). j.name) now.instances) i.name → ⊥
new_line d now items l k one at none once so_far i own h =
    let is : one ≡ item.Instance i = only_line one i own in
    let placed : now.instances ≡ map (instance_of l) (instances_of (take k items)) =
    ap (λ (x : Draft). x.instances) so_far ∙ ap (λ (is : List Instance). is ++ map (instance_of l) (instances_of (take k items))) none in
    fresh items l k i (subst (λ (x : Item). Stands items k x) is at) once (subst (λ (is : List Instance). IsThere (map (λ (j : Instance). j.name) is) i.name) placed h)

take_most : (xs : List Item) (n : ℕ) → length (take n xs) ≤ length xs
take_most xs zero = omega arith
take_most [] (suc n) = omega arith
take_most (x ∷ xs) (suc n) = let h = take_most xs n in omega (arith, h)

pub few_placed : (d now : Draft) (items : List Item) (l : Library) (k : ℕ) → d.instances ≡ [] → length items < 2 ^ 32 → now ≡ added_to d l items k → length now.instances < 2 ^ 32
few_placed d now items l k none few so_far =
    let placed = ap (λ (x : Draft). length x.instances) so_far ∙ ap (λ (is : List Instance). length (is ++ map (instance_of l) (instances_of (take k items)))) none in
    let own : length (map (instance_of l) (instances_of (take k items))) ≡ length (instances_of (take k items)) = length-map (instance_of l) (instances_of (take k items)) in
    let some = instances_few (take k items) in
    let most = take_most items k in
    omega (arith, placed, own, some, most, few)
