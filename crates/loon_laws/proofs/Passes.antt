-- A netlist whose cells are exchanged for drives of them passes its checks where it did.
use Rattle.std.proofs.Common.{◌≡◌, ℕ, ◌<◌, Bool, false, inr, List, ◌++◌, map, Some, refl, sym, ap, ◌∙◌, subst}
use Rattle.std.specs.List.{zip}
use Rattle.vlsi_base.specs.declared.name.Name.{Name}
use Rattle.vlsi_base.specs.declared.name.Port.{Port}
use Rattle.vlsi_base.specs.declared.name.Terminal.{Terminal}
use Rattle.vlsi_base.specs.Names.{vdd, vss}
use Rattle.vlsi_base.specs.Member.{In, here, there}
use Rattle.cell_model.specs.Cell.{Function, gate, flip_flop, other, opaque, Cell}
use Rattle.cell_model.specs.Library.{Library, cell_of, IsUsable}
use Rattle.cell_pins.specs.Pins.{with_supply, all_ports}
use Rattle.cell_pins.specs.Table.{ArePins, no_pins, one_pin, IsListed, IsTableOf}
use Rattle.cell_pins.proofs.Sound.{member_at}
use Rattle.net_core.specs.declared.pins.ModelPin.{ModelPin}
use Rattle.net_core.specs.declared.pins.ModelPins.{ModelPins}
use Rattle.net_core.specs.declared.tally.Role.{Role}
use Rattle.net_core.specs.declared.tally.ClassFault.{ClassFault}
use Rattle.net_core.specs.Places.{Stands, IsThere}
use Rattle.net_core.specs.Netlist.{Instance, Netlist, pin_of, terminals, terminals_of, HasClass}
use Rattle.net_core.specs.Checks.{pins_named, port_role, pin_role, pin_roles, roles, tally_of, all_clocks, has_fault, DependsOn, Passes}
use Rattle.net_theory.specs.Exchanges.{IsSameFunction}
use Rattle.net_right.proofs.Lists.{in_place}
use Rattle.delay_sta.proofs.Tables.{row_of, pins_same}
use Rattle.loon_buffer.specs.Drives.{IsChosenFor, OnlyExchanges}
use Rattle.loon_laws.proofs.Exchanging.{AreChosen, none, more, chosen, terminals_same, old_of}

-- ---- the pins of a model

pins_as : (f g : Function) → IsSameFunction f g → (ports xs : List Port) (ps : List ModelPin) → ArePins g ports xs ps → ArePins f ports xs ps
pins_as (gate e) (gate x) same ports _ _ no_pins = no_pins
pins_as (gate e) (gate x) same ports _ _ (one_pin {rest = rest} {pins = pins} i r) =
    one_pin (record { name = i.name; dir = i.dir; clock = i.clock; depends = i.depends }) (pins_as (gate e) (gate x) same ports rest pins r)
pins_as (gate e) (flip_flop d k) same ports xs ps h = absurd same
pins_as (gate e) (other m) same ports xs ps h = absurd same
pins_as (gate e) opaque same ports xs ps h = absurd same
pins_as (flip_flop d k) (gate e) same ports xs ps h = absurd same
pins_as (flip_flop d k) (flip_flop b j) same ports xs ps h =
    subst (λ (f : Function). ArePins f ports xs ps) (ap (λ (m : Name). flip_flop m j) same.0 ∙ ap (λ (m : Name). flip_flop d m) same.1) h
pins_as (flip_flop d k) (other m) same ports xs ps h = absurd same
pins_as (flip_flop d k) opaque same ports xs ps h = absurd same
pins_as (other m) g same ports xs ps h = absurd same
pins_as opaque g same ports xs ps h = absurd same

-- an instance's model has a usable cell
abbrev pub IsUsed : Library → Instance → Type 0
IsUsed l i = (c : Cell) × (cell_of l i.model ≡ Some c) × IsUsable c

module _ (l : Library) (all : Bool) (table : List ModelPins) (of : IsTableOf l all table) where
  pins_equal : (i j : Instance) → IsUsed l i → IsChosenFor l i j → pins_named table j.model ≡ pins_named table i.model
  pins_equal i j u c =
      let same : u.0 ≡ c.was = (let e : Some u.0 ≡ Some c.was = sym u.1 ∙ c.found in cc) in
      let old = row_of (IsListed all) l.cells table i.model c.was of c.found (inr (subst IsUsable same u.2)) in
      let new = row_of (IsListed all) l.cells table j.model c.now of c.listed (inr c.usable) in
      let ports : all_ports c.now ≡ all_ports c.was = ap (λ (ps : List Port). with_supply vss (with_supply vdd ps)) c.drive.pins in
      pins_same c.was.function (all_ports c.was) (all_ports c.was) (pins_named table j.model) (pins_named table i.model)
      (pins_as c.was.function c.now.function c.drive.function (all_ports c.was) (all_ports c.was) (pins_named table j.model)
      (subst (λ (ps : List Port). ArePins c.now.function ps ps (pins_named table j.model)) ports new.pins)) old.pins

  roles_same : (is js : List Instance) → AreChosen l is js → ((i : Instance) → In i is → IsUsed l i) → pin_roles table js ≡ pin_roles table is
  roles_same _ _ none used = refl
  roles_same _ _ (more {i = i} {j = j} {is = is} {js = js} c rest) used =
      ap (λ (ps : List ModelPin). map pin_role ps ++ pin_roles table js) (pins_equal i j (used i here) c)
      ∙ ap (λ (rs : List Role). map pin_role (pins_named table i.model) ++ rs) (roles_same is js rest (λ x h. used x (there h)))

  module _ (b k : Netlist) (x : OnlyExchanges l (record b { models = k.models }) k) (usable : (i : Instance) → IsThere b.instances i → IsUsed l i) where
    pairs : AreChosen l b.instances k.instances
    pairs = chosen l b.instances k.instances x.many x.each

    ports_k : k.ports ≡ b.ports
    ports_k = ap (λ (m : Netlist). m.ports) x.now

    classes_k : k.classes ≡ b.classes
    classes_k = ap (λ (m : Netlist). m.classes) x.now

    count_k : k.count ≡ b.count
    count_k = ap (λ (m : Netlist). m.count) x.now

    terminals_k : terminals k ≡ terminals b
    terminals_k = ap (λ (ps : List Port). terminals_of ps k.instances) ports_k ∙ terminals_same l b.ports b.instances k.instances pairs

    -- a terminal's class is the same
    pub has_back : (t : Terminal) (class : ℕ) → HasClass k t class → HasClass b t class
    has_back t class h =
        (h.0, subst (λ (ts : List Terminal). Stands ts h.0 t) terminals_k h.1, subst (λ (cs : List ℕ). Stands cs h.0 class) classes_k h.2)

    used : (i : Instance) → In i b.instances → IsUsed l i
    used i h = usable i (in_place i b.instances h)

    -- the instance that it was
    pub record Origin (o : Instance) : Type 0 where
      pub before : Instance
      pub there_is : IsThere b.instances before
      pub name : o.name ≡ before.name
      pub pins : pins_named table o.model ≡ pins_named table before.model

    pub origin : (o : Instance) → IsThere k.instances o → Origin o
    origin o t =
        let r = old_of l b.instances k.instances pairs o (member_at k.instances t.0 o t.1) in
        record {
          before = r.0;
          there_is = in_place r.0 b.instances r.1;
          name = ap (λ (i : Instance). i.name) r.2.same;
          pins = pins_equal r.0 o (used r.0 r.1) r.2;
        }

    depends_back : (s t : Terminal) → DependsOn table k s t → DependsOn table b s t
    depends_back s t h =
        let o = origin h.owner h.is_pin.listed in
        let p = origin h.other h.is_driver.listed in
        record {
          owner = o.before;
          output = h.output;
          is_pin = record {
            listed = o.there_is;
            known = subst (λ (ps : List ModelPin). IsThere ps h.output) o.pins h.is_pin.known;
            is = h.is_pin.is ∙ ap (λ (m : List ℕ). pin_of m h.output.name) o.name;
          };
          gives = h.gives;
          place = h.place;
          input = h.input;
          depends = h.depends;
          there = subst (λ (ps : List ModelPin). Stands ps h.place h.input) o.pins h.there;
          takes = h.takes;
          class = h.class;
          reads = subst (λ (m : List ℕ). HasClass b (pin_of m h.input.name) h.class) o.name (has_back (pin_of h.owner.name h.input.name) h.class h.reads);
          other = p.before;
          driver = h.driver;
          is_driver = record {
            listed = p.there_is;
            known = subst (λ (ps : List ModelPin). IsThere ps h.driver) p.pins h.is_driver.known;
            is = h.is_driver.is ∙ ap (λ (m : List ℕ). pin_of m h.driver.name) p.name;
          };
          drives = h.drives;
          joined = has_back t h.class h.joined;
        }

    roles_k : roles table k ≡ roles table b
    roles_k =
        ap (λ (ps : List Port). map port_role ps ++ pin_roles table k.instances) ports_k
        ∙ ap (λ (rs : List Role). map port_role b.ports ++ rs) (roles_same b.instances k.instances pairs used)

    -- no class has a fault, by roles, classes and their count
    abbrev AreSound : List Role → List ℕ → ℕ → Type 0
    AreSound rs cs count = (f : ClassFault) (c : ℕ) → c < count → has_fault f (all_clocks rs) (tally_of (zip rs cs) c) ≡ false

    pub passes_again : Passes table b → Passes table k
    passes_again passes = record {
      classes = subst (λ (rs : List Role). AreSound rs k.classes k.count) (sym roles_k)
          (subst (λ (cs : List ℕ). AreSound (roles table b) cs k.count) (sym classes_k)
          (subst (λ (count : ℕ). AreSound (roles table b) b.classes count) (sym count_k) passes.classes));
      rings = λ ring r. passes.rings ring (record {
        some = r.some;
        once = r.once;
        next = λ j s t p q. depends_back s t (r.next j s t p q);
        close = λ s t p q. depends_back s t (r.close s t p q);
      });
    }
