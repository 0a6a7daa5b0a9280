-- A netlist that may be drawn with the cells of a checked library is orderly, as each netlist of layouts that it is seen as.
use Rattle.std.proofs.Common.{◌≡◌, ◌≢◌, ◌⊎◌, inl, inr, ℕ, ◌<◌, ◌≤◌, Bool, true, false, not, List, map, filter, Some, None, refl, sym, ap, subst, ◌∙◌, arith, get_or}
use Rattle.std.specs.Prelude.{IsTrue, AllPairs}
use Rattle.std.proofs.lemmas.Option.{same_Some, slice_get-get_or, slice_get_within}
use Rattle.vlsi_base.specs.declared.name.Name.{Name}
use Rattle.vlsi_base.specs.declared.name.Port.{Port}
use Rattle.vlsi_base.specs.declared.name.Dir.{Dir}
use Rattle.vlsi_base.specs.declared.name.Dir.TheVariants as dir
use Rattle.vlsi_base.specs.declared.name.Terminal.{Terminal}
use Rattle.vlsi_base.specs.Name.{is_supply}
use Rattle.vlsi_base.specs.Names.{vdd, vss, comes_before}
use Rattle.vlsi_base.specs.Member.{In}
use Rattle.machine_core.specs.Machine.{names_of, is_input}
use Rattle.cell_model.specs.Cell.{Cell, pin_ports, cell_outputs}
use Rattle.cell_model.specs.Library.{Library, cell_of, IsUsable}
use Rattle.cell_model.specs.Usable.{IsFormed}
use Rattle.cell_model.proofs.Members.{All-In, In-map, In-map_back}
use Rattle.cell_checks.specs.declared.verdict.CellVerdict.TheVariants as verdict
use Rattle.cell_checks.specs.Verdict.{IsVerdict}
use Rattle.cell_checks.specs.Checked.{IsChecked as HasPassed}
use Rattle.cell_pins.specs.Pins.{supply, all_ports}
use Rattle.cell_pins.specs.Table.{IsListed}
use Rattle.cell_pins.proofs.Ports.{in_filter}
use Rattle.cell_pins.proofs.Sound.{member_at as in_from_place, pin_at, pin_names, port_of_pin}
use Rattle.net_core.specs.declared.pins.ModelPin.{ModelPin}
use Rattle.net_core.specs.declared.pins.ModelPins.{ModelPins}
use Rattle.net_core.specs.declared.tally.Role.{Role}
use Rattle.net_core.specs.Places.{IsThere, NoneTwice, Stands}
use Rattle.net_core.specs.Netlist.{Instance, Netlist as InMemory, terminals, HasClass}
use Rattle.net_core.specs.Checks.{pins_named, port_role, port_role_of, pin_role, pin_role_of}
use Rattle.net_core.proofs.Frames.{mapped, unmapped}
use Rattle.net_core.proofs.Namings.{turn_reached}
use Rattle.net_core.proofs.Rings.{at_place, class_below}
use Rattle.net_meaning.specs.Netlist.{Member, AbstractNetlist, port, pin_of, IsTerminal, a_port, a_pin}
use Rattle.net_theory.specs.Laws.{IsCounted}
use Rattle.net_theory.proofs.Basics.{In-names}
use Rattle.net_right.specs.View.{member_of, IsSeenAs}
use Rattle.net_right.proofs.Lists.{in_place, filter_in}
use Rattle.net_right.proofs.Models.{named_cell, HasModel, model_found}
use Rattle.net_right.proofs.Places.{Which, which_port, which_pin, which, Does, does_port, does_pin, Placed, port_placed, pin_placed}
use Rattle.net_right.proofs.Tallies.{drives}
use Rattle.net_right.proofs.Ports.{both_cases, port_stays}
use Rattle.net_right.proofs.Seen.{seen_class}
use Rattle.net_right.proofs.Terminals.{seen_ports, seen_instances, seen_classes, IsCelled, terminal_there, there_terminal}
use Rattle.net_drawing.specs.Shown.{IsSupplyClass}
use Rattle.ocp_place.specs.Orderly.{IsOutput, IsSource, from_port, from_output, IsOrderly}
use Rattle.ocp_place.specs.Drawable.{IsDrawableIn}
use Rattle.ocp_place.proofs.Clean.{checked_cells_are_clean}
use Rattle.ocp_place.proofs.Driving.{one_driver, some_driver}

-- the cell of an instance, and its model in a table
pub record HasCell (l : Library) (table : List ModelPins) (i : Instance) : Type 0 where
  pub cell : Cell
  pub found : cell_of l i.model ≡ Some cell
  pub usable : IsUsable cell
  pub model : HasModel cell table i.model
  pub pins : i.pins ≡ names_of (all_ports cell)

-- an output drives, and what drives among pins is one
output_dir : (d : Dir) → not (is_input d) ≡ true → d ≡ dir.Out
output_dir dir.In e = absurd (cc e)
output_dir dir.Out e = refl

driving_dir : (d : Dir) (clocks : Bool) → 1 ≤ drives (pin_role_of d clocks) → d ≡ dir.Out
driving_dir dir.In true h = absurd (omega (arith, h))
driving_dir dir.In false h = absurd (omega (arith, h))
driving_dir dir.Out clocks h = refl

module _ (l : Library) (n : InMemory) (given : IsDrawableIn l n) where
  pub own_cell : (i : Instance) → IsThere n.instances i → HasCell l given.table i
  own_cell i t =
      let c = given.usable i t in
      let h = model_found (IsListed given.all) l.cells given.table c.0 i.model given.listed c.1 (inr c.2) in
      let pins : i.pins ≡ map (λ p. p.name) (pins_named given.table i.model) =
      All-In (λ (x : Instance). x.pins ≡ map (λ p. p.name) (pins_named given.table x.model)) n.instances given.meets.fits.pins i (in_from_place n.instances t.0 i t.1) in
      record {
        cell = c.0;
        found = c.1;
        usable = c.2;
        model = h;
        pins = pins ∙ ap (map (λ (p : ModelPin). p.name)) h.pins ∙ pin_names c.0.function (all_ports c.0) (all_ports c.0) h.found.pins h.is.pins;
      }

  pub celled : (i : Instance) → IsThere n.instances i → IsCelled l i
  celled i t = let c = own_cell i t in record { cell = c.cell; found = c.found; connected = c.usable.connectors; pins = c.pins }

  -- a port of a supply drives its class
  supply_at : (name : Name) → IsTrue (is_supply name.text) → IsThere (map (λ p. p.name) n.ports) name → (r : Role) × Placed given.table n (port name) r × (1 ≤ drives r)
  supply_at name s h =
      let u = unmapped (λ (p : Port). p.name) n.ports h.0 name h.1 in
      let takes = (given.meets.supplies u.0 (h.0, u.1) (subst (λ (x : Name). IsTrue (is_supply x.text)) (sym u.2) s)).1 in
      let one : 1 ≤ 1 = omega arith in (
        port_role u.0,
        subst (λ (x : Name). Placed given.table n (port x) (port_role u.0)) u.2 (port_placed given.table n given.meets.fits u.0 (h.0, u.1)),
        subst (λ (d : Dir). 1 ≤ drives (port_role_of d)) (sym takes) one,
      )

  pub same_driver : (t u : Terminal) (r s : Role) (c : ℕ) → Placed given.table n t r → Placed given.table n u s → 1 ≤ drives r → 1 ≤ drives s → HasClass n t c → HasClass n u c → t ≡ u
  same_driver t u r s c p q a b h g = one_driver given.table n given.sound given.meets.fits given.meets.passes.classes t u r s c p q a b h g

module _ (l : Library) (n : InMemory) (passed : HasPassed false l) (given : IsDrawableIn l n) (k : AbstractNetlist) (seen : IsSeenAs n k) where
  formed_cell : (i : Instance) (c : Cell) → cell_of l i.model ≡ Some c → IsFormed c
  formed_cell i c found = All-In IsFormed l.cells passed.formed c (named_cell l.cells i.model c found).0

  there : (t : Terminal) → IsTerminal k l t → IsThere (terminals n) t
  there t h = terminal_there n l k seen (celled l n given) t h

  has : (t : Terminal) → IsTerminal k l t → HasClass n t (k.class t)
  has t h = seen_class n k given.sound seen t (there t h)

  counted : IsCounted l k
  counted = record {
    numbered = λ t h. subst (λ (j : ℕ). k.class t < j) (sym (seen_classes n k seen)) (class_below n given.sound t (k.class t) (has t h));
    used = λ c low. used c (subst (λ (j : ℕ). c < j) (seen_classes n k seen) low);
  } where
    used : (c : ℕ) → c < n.count → (t : Terminal) × IsTerminal k l t × (k.class t ≡ c)
    used c low =
        let p = turn_reached 0 n.count c n.classes given.sound.turns (omega arith) low in
        let inside = slice_get_within n.classes p.0 c p.1 in
        let many = given.sound.each in
        let t = at_place (terminals n) p.0 (omega (arith, inside, many)) in
        (t.0, there_terminal n l k seen (celled l n given) t.0 (p.0, t.1), seen.classes.each t.0 c (p.0, t.1, p.1))

  -- instances have different names
  apart_names : (is : List Instance) → NoneTwice (map (λ i. i.name) is) → AllPairs (λ (a b : Member). a.name ≢ b.name) (map member_of is)
  apart_names is once i j d low high same =
      let first : Stands (map member_of is) i (get_or (map member_of is) i d) = slice_get-get_or (map member_of is) i d (omega (arith, low, high)) in
      let second : Stands (map member_of is) j (get_or (map member_of is) j d) = slice_get-get_or (map member_of is) j d high in
      let one : i ≡ j = once i j (get_or (map member_of is) j d).name (subst (λ (x : List ℕ). Stands (map (λ i. i.name) is) i x) same (named i (get_or (map member_of is) i d) first)) (named j (get_or (map member_of is) j d) second) in
      omega (arith, low, one)
    where
      named : (p : ℕ) (x : Member) → Stands (map member_of is) p x → Stands (map (λ i. i.name) is) p x.name
      named p x s =
          let r = unmapped member_of is p x s in
          subst (λ (name : List ℕ). Stands (map (λ i. i.name) is) p name) (ap (λ (y : Member). y.name) r.2) (mapped (λ (i : Instance). i.name) is p r.0 r.1)

  -- the instance that a member is
  instance_of : (one : Member) → In one k.instances → (i : Instance) × IsThere n.instances i × (member_of i ≡ one)
  instance_of one h =
      let r = In-map_back member_of one n.instances (subst (λ (ms : List Member). In one ms) (seen_instances n k seen) h) in
      (r.0, in_place r.0 n.instances r.1, r.2)

  -- and its cell
  cell_there : (one : Member) → In one k.instances → (c : Cell) × (cell_of l one.model ≡ Some c) × IsUsable c
  cell_there one h =
      let i = instance_of one h in
      let c = own_cell l n given i.0 i.1 in
      (c.cell, subst (λ (x : Member). cell_of l x.model ≡ Some c.cell) i.2 c.found, c.usable)

  -- ---- ports and supplies

  port_in : (name : Name) → IsThere (map (λ p. p.name) n.ports) name → In name k.ports
  port_in name h = subst (λ (names : List Name). In name names) (sym (seen_ports n k seen)) (in_from_place (map (λ p. p.name) n.ports) h.0 name h.1)

  apart : (a b : Name) → In a k.ports → In b k.ports → k.class (port a) ≡ k.class (port b) → a ≡ b
  apart a b ha hb e = given.meets.apart a b (k.class (port b)) (subst (λ (c : ℕ). HasClass n (port a) c) e (has (port a) (a_port ha))) (has (port b) (a_port hb))

  supply_class : (name : Name) → (name ≡ vdd) ⊎ (name ≡ vss) → (t : Terminal) → IsTerminal k l t → t.pin ≡ name → k.class t ≡ k.class (port name)
  supply_class name s t h e = by (which n t (there t h)) where
    by : Which n t → k.class t ≡ k.class (port name)
    by (which_port p g is) = ap k.class (sym is ∙ ap port (ap (λ (x : Terminal). x.pin) is ∙ e))
    by (which_pin i pin g q is) =
        let r = given.meets.tied i name g s in
        let own : pin_of i.name name ≡ t = ap (pin_of i.name) (sym (ap (λ (x : Terminal). x.pin) is ∙ e)) ∙ is in
        ap k.class (sym own) ∙ seen.classes.each (pin_of i.name name) r.class r.of_pin ∙ sym (seen.classes.each (port name) r.class r.of_port)

  -- ---- what drives classes

  output_terminal : (t : Terminal) → IsOutput k l t → IsTerminal k l t
  output_terminal t o =
      let c = cell_there o.owner o.listed in
      let same : c.0 ≡ o.cell = same_Some c.0 o.cell (sym c.1 ∙ o.found) in
      let usable : IsUsable o.cell = subst (λ (x : Cell). IsUsable x) same c.2 in
      let known : In o.pin (names_of (pin_ports o.cell)) = In-names (λ (p : Port). not (is_input p.dir)) (pin_ports o.cell) o.pin o.gives in
      subst (λ (x : Terminal). IsTerminal k l x) (sym o.is) (a_pin o.owner o.cell o.listed o.found ((usable.connectors o.pin).1 (inr (inr known))))

  -- an output pin drives its class
  output_at : (t : Terminal) → IsOutput k l t → (r : Role) × Placed given.table n t r × (1 ≤ drives r)
  output_at t o =
      let i = instance_of o.owner o.listed in
      let c = own_cell l n given i.0 i.1 in
      let found : cell_of l o.owner.model ≡ Some c.cell = subst (λ (x : Member). cell_of l x.model ≡ Some c.cell) i.2 c.found in
      let same : o.cell ≡ c.cell = same_Some o.cell c.cell (sym o.found ∙ found) in
      let x = In-map_back (λ (y : Port). y.name) o.pin (filter (λ y. not (is_input y.dir)) (pin_ports c.cell)) (subst (λ (z : Cell). In o.pin (cell_outputs z)) same o.gives) in
      let f = in_filter (λ y. not (is_input y.dir)) (pin_ports c.cell) x.0 x.1 in
      let signal = (formed_cell i.0 c.cell c.found).signals x.0.name (In-map (λ (p : Port). p.name) x.0 (pin_ports c.cell) f.0) in
      let place = in_place x.0 (all_ports c.cell) (port_stays (pin_ports c.cell) x.0 f.0 signal.0 signal.1) in
      let q = pin_at c.cell.function (all_ports c.cell) (all_ports c.cell) c.model.found.pins place.0 x.0 c.model.is.pins place.1 in
      let known : IsThere (pins_named given.table i.0.model) q.0 = subst (λ (ps : List ModelPin). IsThere ps q.0) (sym c.model.pins) (place.0, q.1) in
      let one : 1 ≤ 1 = omega arith in
      let gives : q.0.dir ≡ dir.Out = q.2.dir ∙ output_dir x.0.dir f.1 in
      let is : pin_of i.0.name q.0.name ≡ t =
      ap (λ (y : Member). pin_of y.name q.0.name) i.2 ∙ ap (pin_of o.owner.name) (q.2.name ∙ x.2) ∙ sym o.is in (
        pin_role q.0,
        subst (λ (y : Terminal). Placed given.table n y (pin_role q.0)) is (pin_placed given.table n given.meets.fits i.0 q.0 i.1 known),
        subst (λ (d : Dir). 1 ≤ drives (pin_role_of d q.0.is_clock)) (sym gives) one,
      )

  outputs : (t u : Terminal) → IsOutput k l t → IsOutput k l u → k.class t ≡ k.class u → t ≡ u
  outputs t u o p e =
      let a = output_at t o in let b = output_at u p in
      same_driver l n given t u a.0 b.0 (k.class u) a.1 b.1 a.2 b.2 (subst (λ (c : ℕ). HasClass n t c) e (has t (output_terminal t o))) (has u (output_terminal u p))

  no_supply : (name : Name) → IsTrue (is_supply name.text) → IsThere (map (λ p. p.name) n.ports) name → (t : Terminal) → IsOutput k l t → k.class t ≡ k.class (port name) → ⊥
  no_supply name s h t o e =
      let a = output_at t o in let b = supply_at l n given name s h in
      let same : t ≡ port name = same_driver l n given t (port name) a.0 b.0 (k.class (port name)) a.1 b.1 a.2 b.2
      (subst (λ (c : ℕ). HasClass n t c) e (has t (output_terminal t o))) (has (port name) (a_port (port_in name h))) in
      let never : Some o.owner.name ≡ None = ap (λ (x : Terminal). x.instance) (sym o.is ∙ same) in
      cc never

  free : (t : Terminal) → IsOutput k l t → IsSupplyClass k (k.class t) → ⊥
  free t o (inl e) = no_supply vdd refl given.has_vdd t o e
  free t o (inr e) = no_supply vss refl given.has_vss t o e

  -- what drives is a port or an output pin
  source_of : (t : Terminal) (r : Role) → Does given.table n t r → 1 ≤ drives r → IsSource k l t
  source_of t r (does_port p h e f) some =
      from_port p.name (subst (λ (names : List Name). In p.name names) (sym (seen_ports n k seen)) (In-map (λ (x : Port). x.name) p n.ports (in_from_place n.ports h.0 p h.1))) e
  source_of t r (does_pin i q h known e f) some =
      let c = own_cell l n given i h in
      let gives : q.dir ≡ dir.Out = driving_dir q.dir q.is_clock (subst (λ (x : Role). 1 ≤ drives x) f some) in
      let own : In q c.model.found.pins = subst (λ (ps : List ModelPin). In q ps) c.model.pins (in_from_place (pins_named given.table i.model) known.0 q known.1) in
      let x = port_of_pin c.cell.function (all_ports c.cell) (all_ports c.cell) c.model.found.pins q c.model.is.pins own in
      let out : x.0.dir ≡ dir.Out = sym x.2.dir ∙ gives in
      let signal : In x.0 (pin_ports c.cell) = among x.0 c.cell out (both_cases (pin_ports c.cell) x.0 x.1) in
      let kept : In x.0 (filter (λ y. not (is_input y.dir)) (pin_ports c.cell)) =
      filter_in (λ y. not (is_input y.dir)) (pin_ports c.cell) x.0 signal (ap (λ (d : Dir). not (is_input d)) out) in
      from_output (record {
        owner = member_of i;
        cell = c.cell;
        pin = q.name;
        listed = subst (λ (ms : List Member). In (member_of i) ms) (sym (seen_instances n k seen)) (In-map member_of i n.instances (in_from_place n.instances h.0 i h.1));
        found = c.found;
        gives = subst (λ (name : Name). In name (cell_outputs c.cell)) (sym x.2.name) (In-map (λ (y : Port). y.name) x.0 (filter (λ y. not (is_input y.dir)) (pin_ports c.cell)) kept);
        is = e;
      })
    where
      among : (x : Port) (c : Cell) → x.dir ≡ dir.Out → (x ≡ supply vss) ⊎ ((x ≡ supply vdd) ⊎ In x (pin_ports c)) → In x (pin_ports c)
      among x c out (inl e) = absurd (let never : dir.In ≡ dir.Out = sym (ap (λ (y : Port). y.dir) e) ∙ out in cc never)
      among x c out (inr (inl e)) = absurd (let never : dir.In ≡ dir.Out = sym (ap (λ (y : Port). y.dir) e) ∙ out in cc never)
      among x c out (inr (inr i)) = i

  sources : (t : Terminal) → IsTerminal k l t → (s : Terminal) × IsSource k l s × (k.class s ≡ k.class t)
  sources t h =
      let d = some_driver given.table n given.sound given.meets.fits given.meets.passes.classes (k.class t) (class_below n given.sound t (k.class t) (has t h)) in
      (d.terminal, source_of d.terminal d.role d.does d.some, seen.classes.each d.terminal (k.class t) d.class)

  pub orderly : IsOrderly k l
  orderly = record {
    models = λ one listed.
        let c = cell_there one listed in
        let own = (named_cell l.cells one.model c.0 c.1).0 in (
          c.0,
          c.1,
          c.2,
          checked_cells_are_clean c.0 (All-In IsFormed l.cells passed.formed c.0 own)
              (All-In (λ (x : Cell). IsVerdict false x verdict.Passes) l.cells passed.passes c.0 own) c.2,
        );
    names = subst (λ (ms : List Member). AllPairs (λ (a b : Member). a.name ≢ b.name) ms) (sym (seen_instances n k seen)) (apart_names n.instances given.sound.names);
    order = subst (λ (names : List Name). AllPairs (λ a b. IsTrue (comes_before a b)) names) (sym (seen_ports n k seen)) given.sound.ports;
    has_vdd = port_in vdd given.has_vdd;
    has_vss = port_in vss given.has_vss;
    apart = apart;
    high = λ t h e. supply_class vdd (inl refl) t h e;
    low = λ t h e. supply_class vss (inr refl) t h e;
    sources = sources;
    outputs = outputs;
    free = free;
    counted = counted;
  }
