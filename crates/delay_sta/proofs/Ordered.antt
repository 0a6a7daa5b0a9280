-- An order of classes from that of the netlist's checks.
use Rattle.std.proofs.Common.{◌≡◌, inr, ℕ, suc, ◌<◌, Bool, true, false, cond, List, [], ◌∷◌, ◌++◌, map, Some, refl, sym, ap, ◌∙◌, subst, arith}
use Rattle.std.specs.List.{All, zip}
use Rattle.vlsi_base.specs.declared.name.Name.{Name}
use Rattle.vlsi_base.specs.declared.name.Dir.TheVariants as dir
use Rattle.vlsi_base.specs.declared.name.Terminal.{Terminal}
use Rattle.machine_core.specs.Named.{is_same_text}
use Rattle.cell_model.specs.Cell.{Function, Cell}
use Rattle.cell_model.specs.Library.{Library, cell_named, cell_of}
use Rattle.cell_model.proofs.Members.{All-In}
use Rattle.cell_model.specs.Usable.{IsFormed}
use Rattle.cell_checks.specs.Checked.{IsChecked}
use Rattle.cell_checks.specs.Arcs.{BeginsThere, GoesThrough}
use Rattle.cell_pins.specs.Pins.{all_ports}
use Rattle.cell_pins.specs.Table.{IsListed, IsTableOf}
use Rattle.net_core.specs.declared.pins.ModelPin.{ModelPin}
use Rattle.net_core.specs.declared.pins.ModelPins.{ModelPins}
use Rattle.net_core.specs.declared.tally.Role.{Role}
use Rattle.net_core.specs.declared.tally.ClassFault.{ClassFault}
use Rattle.net_core.specs.Places.{Stands, IsThere}
use Rattle.net_core.specs.Netlist.{Instance, Netlist, pin_of, HasClass}
use Rattle.net_core.specs.Checks.{pins_named, Fits, IsPinTable, Passes, NoClass, has_fault, all_clocks, tally_of, roles, port_role, pin_role, pin_roles, DependsOn}
use Rattle.net_core.specs.Links.{IsClassOrder}
use Rattle.net_core.proofs.Rings.{each_there}
use Rattle.delay_sta.specs.Paths.{Step, IsStep}
use Rattle.delay_sta.specs.Timed.{CanBeTimed, IsAnyStep, a_beginning, going_on, IsPathOrder}
use Rattle.delay_sta.proofs.Tables.{there_In, pins_same, Row, row_of, pin_at_place, signal_of, depends_there}

all_at : {X : Type 0} (P : X → Type 0) (xs : List X) → All P xs → (x : X) → IsThere xs x → P x
all_at P xs all x t = All-In P xs all x (there_In xs t.0 x t.1)

cell_formed : (cells : List Cell) → All IsFormed cells → (model : List ℕ) (c : Cell) → cell_named cells model ≡ Some c → IsFormed c
cell_formed [] all model c e = absurd cc
cell_formed (d ∷ cells) all model c e = by (cell_formed cells (λ k x l. all (suc k) x (omega (arith, l))) model c) (is_same_text d.name model) e where
  by : (cell_named cells model ≡ Some c → IsFormed c) → (b : Bool) → cond b (Some d) (cell_named cells model) ≡ Some c → IsFormed c
  by rest true e = let same : d ≡ c = cc in subst IsFormed same (all 0 d (omega arith))
  by rest false e = rest e

-- the cell of an instance, and its pins in two tables
record Seat (l : Library) (one two : List ModelPins) (i : Instance) : Type 0 where
  cell : Cell
  found : cell_of l i.model ≡ Some cell
  first : Row one i.model cell
  second : Row two i.model cell

-- an output pin in a class
record Driven (n : Netlist) (table : List ModelPins) (class : ℕ) : Type 0 where
  owner : Instance
  listed : IsThere n.instances owner
  pin : ModelPin
  known : IsThere (pins_named table owner.model) pin
  gives : pin.dir ≡ dir.Out
  joined : HasClass n (pin_of owner.name pin.name) class

module _ (l : Library) (n : Netlist) (passed : IsChecked false l) (given : CanBeTimed l n) (table : List ModelPins)
    (own : IsTableOf l false table) (sound : IsPinTable table) where
  seat : (i : Instance) → IsThere n.instances i → Seat l given.table table i
  seat i t =
      let u = given.usable i t in
      record {
        cell = u.0;
        found = u.1;
        first = row_of (IsListed given.all) l.cells given.table i.model u.0 given.listed u.1 (inr u.2);
        second = row_of (IsListed false) l.cells table i.model u.0 own u.1 (inr u.2);
      }

  same_pins : (i : Instance) → IsThere n.instances i → pins_named given.table i.model ≡ pins_named table i.model
  same_pins i t =
      let s = seat i t in
      pins_same s.cell.function (all_ports s.cell) (all_ports s.cell) (pins_named given.table i.model) (pins_named table i.model) s.first.pins s.second.pins

  pub fits : Fits n table
  fits = record {
    table_is = sound;
    listed = each_there (λ (i : Instance). IsThere (map (λ m. m.model) table) i.model) n.instances (λ i t. (seat i t).second.listed);
    pins = each_there (λ (i : Instance). i.pins ≡ map (λ p. p.name) (pins_named table i.model)) n.instances
        (λ i t. all_at (λ (x : Instance). x.pins ≡ map (λ p. p.name) (pins_named given.table x.model)) n.instances given.fits.pins i t
        ∙ ap (λ (ps : List ModelPin). map (λ p. p.name) ps) (same_pins i t));
  }

  roles_from : (is : List Instance) → ((i : Instance) → IsThere is i → pins_named given.table i.model ≡ pins_named table i.model) → pin_roles given.table is ≡ pin_roles table is
  roles_from [] same = refl
  roles_from (i ∷ is) same =
      ap (λ (ps : List ModelPin). map pin_role ps ++ pin_roles given.table is) (same i (0, refl))
      ∙ ap (λ (rs : List Role). map pin_role (pins_named table i.model) ++ rs) (roles_from is (λ j t. same j (suc t.0, t.1)))

  same_roles : roles given.table n ≡ roles table n
  same_roles = ap (λ (rs : List Role). map port_role n.ports ++ rs) (roles_from n.instances same_pins)

  depends_back : (a b : Terminal) → DependsOn table n a b → DependsOn given.table n a b
  depends_back a b d = record {
    owner = d.owner;
    output = d.output;
    is_pin = record { listed = d.is_pin.listed; known = subst (λ (ps : List ModelPin). IsThere ps d.output) (sym (same_pins d.owner d.is_pin.listed)) d.is_pin.known; is = d.is_pin.is };
    gives = d.gives;
    place = d.place;
    input = d.input;
    depends = d.depends;
    there = subst (λ (ps : List ModelPin). Stands ps d.place d.input) (sym (same_pins d.owner d.is_pin.listed)) d.there;
    takes = d.takes;
    class = d.class;
    reads = d.reads;
    other = d.other;
    driver = d.driver;
    is_driver = record { listed = d.is_driver.listed; known = subst (λ (ps : List ModelPin). IsThere ps d.driver) (sym (same_pins d.other d.is_driver.listed)) d.is_driver.known; is = d.is_driver.is };
    drives = d.drives;
    joined = d.joined;
  }

  pub passes : Passes table n
  passes = record {
    classes = subst (λ (rs : List Role). (f : ClassFault) → NoClass n (λ class. has_fault f (all_clocks rs) (tally_of (zip rs n.classes) class))) same_roles given.passes.classes;
    rings = λ ring r. given.passes.rings ring (record {
      some = r.some;
      once = r.once;
      next = λ k a b p q. depends_back a b (r.next k a b p q);
      close = λ a b p q. depends_back a b (r.close a b p q);
    });
  }

  formed : (i : Instance) (c : Cell) → IsThere n.instances i → cell_of l i.model ≡ Some c → IsFormed c
  formed i c t found = cell_formed l.cells passed.formed i.model c found

  driven_by : (Allows : Function → Name → Type 0) (t : Step) → IsStep n l Allows t → Driven n table t.to
  driven_by Allows t h =
      let s = seat h.owner h.listed in
      let same : s.cell ≡ h.cell = let e : Some s.cell ≡ Some h.cell = sym s.found ∙ h.found in cc in
      let pins = subst (λ (c : Cell). Row table h.owner.model c) same s.second in
      let out = signal_of h.cell dir.Out h.arc.to (formed h.owner h.cell h.listed h.found) h.is.gives in
      let p = pin_at_place h.cell.function (all_ports h.cell) (all_ports h.cell) (pins_named table h.owner.model) out.place out.port pins.pins out.stands in
      let name : h.arc.to ≡ p.0.name = sym out.named ∙ sym p.2.name in
      record {
        owner = h.owner;
        listed = h.listed;
        pin = p.0;
        known = (out.place, p.1);
        gives = p.2.dir ∙ out.is;
        joined = subst (λ (m : Name). HasClass n (pin_of h.owner.name m) t.to) name h.is.to;
      }

  driven : (t : Step) → IsAnyStep n l t → Driven n table t.to
  driven t (a_beginning h) = driven_by BeginsThere t h
  driven t (going_on h) = driven_by GoesThrough t h

  behind : (order : List ℕ) → IsClassOrder table n order → (s t : Step) (i j : ℕ) → IsStep n l GoesThrough s → IsAnyStep n l t → s.from ≡ t.to → Stands order i s.to → Stands order j t.to → j < i
  behind order o s t i j h g e si sj =
      let at = seat h.owner h.listed in
      let same : at.cell ≡ h.cell = let f : Some at.cell ≡ Some h.cell = sym at.found ∙ h.found in cc in
      let pins = subst (λ (c : Cell). Row table h.owner.model c) same at.second in
      let whole = formed h.owner h.cell h.listed h.found in
      let out = signal_of h.cell dir.Out h.arc.to whole h.is.gives in
      let into = signal_of h.cell dir.In h.arc.from whole h.is.takes in
      let p = pin_at_place h.cell.function (all_ports h.cell) (all_ports h.cell) (pins_named table h.owner.model) out.place out.port pins.pins out.stands in
      let q = pin_at_place h.cell.function (all_ports h.cell) (all_ports h.cell) (pins_named table h.owner.model) into.place into.port pins.pins into.stands in
      let out_name : h.arc.to ≡ p.0.name = sym out.named ∙ sym p.2.name in
      let in_name : h.arc.from ≡ q.0.name = sym into.named ∙ sym q.2.name in
      let d = driven t g in
      o.behind (pin_of h.owner.name h.arc.to) (pin_of d.owner.name d.pin.name) s.to t.to i j
      (record {
        owner = h.owner;
        output = p.0;
        is_pin = record { listed = h.listed; known = (out.place, p.1); is = ap (pin_of h.owner.name) out_name };
        gives = p.2.dir ∙ out.is;
        place = into.place;
        input = q.0;
        depends = depends_there h.cell p.0 out.port h.arc.from into h.is.allowed p.2 out.is;
        there = q.1;
        takes = q.2.dir ∙ into.is;
        class = s.from;
        reads = subst (λ (m : Name). HasClass n (pin_of h.owner.name m) s.from) in_name h.is.from;
        other = d.owner;
        driver = d.pin;
        is_driver = record { listed = d.listed; known = d.known; is = refl };
        drives = d.gives;
        joined = subst (λ c. HasClass n (pin_of d.owner.name d.pin.name) c) (sym e) d.joined;
      })
      h.is.to d.joined si sj

  pub path_order : (order : List ℕ) → IsClassOrder table n order → IsPathOrder n l order
  path_order order o = record { inside = o.inside; once = o.once; complete = o.complete; behind = behind order o }
