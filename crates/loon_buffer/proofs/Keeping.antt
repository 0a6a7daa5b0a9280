-- What an exchange of an instance's cell keeps, and what exchanges one after the other come to.
use Rattle.std.proofs.Common.{◌≡◌, ◌≢◌, ◌⊎◌, inl, inr, ℕ, zero, suc, ◌<◌, Bool, true, false, List, [], ◌∷◌, ◌++◌, map, length, nat_eq, Some, refl, sym, ap, ◌∙◌, subst}
use Rattle.std.specs.Prelude.{slice_set}
use Rattle.std.specs.List.{flat_map, zip}
use Rattle.std.proofs.lemmas.List.{length-set}
use Rattle.std.proofs.lemmas.List.Elements.{All-set}
use Rattle.std.proofs.lemmas.Bool.{eqb-true, eq-eqb}
use Rattle.std.proofs.lemmas.Option.{slice_get_within, get_or_from_slice_get}
use Rattle.vlsi_base.specs.declared.name.Name.{Name}
use Rattle.vlsi_base.specs.declared.name.Port.{Port}
use Rattle.vlsi_base.specs.declared.name.Terminal.{Terminal}
use Rattle.vlsi_base.specs.Names.{vdd, vss}
use Rattle.cell_model.specs.Cell.{Function, gate, flip_flop, other, opaque, Cell}
use Rattle.cell_model.specs.Library.{Library, cell_of, IsPlain, IsUsable}
use Rattle.cell_pins.specs.Pins.{with_supply, all_ports}
use Rattle.cell_pins.specs.Table.{ArePins, no_pins, one_pin, IsListed}
use Rattle.net_core.specs.declared.pins.ModelPin.{ModelPin}
use Rattle.net_core.specs.declared.pins.ModelPins.{ModelPins}
use Rattle.net_core.specs.declared.tally.Role.{Role}
use Rattle.net_core.specs.declared.tally.ClassFault.{ClassFault}
use Rattle.net_core.specs.Places.{Stands, IsThere}
use Rattle.net_core.specs.Netlist.{Instance, Netlist, pin_of, HasClass}
use Rattle.net_core.specs.Checks.{pins_named, Fits, port_role, pin_role, roles, tally_of, all_clocks, has_fault, DependsOn, Passes}
use Rattle.net_core.proofs.Standing.{stands_same}
use Rattle.net_theory.specs.Exchanges.{IsSameFunction, IsDrive}
use Rattle.delay_sta.specs.Timed.{CanBeTimed}
use Rattle.delay_sta.proofs.Tables.{Row, row_of, pins_same}
use Rattle.loon_buffer.specs.Drives.{IsExchange, IsChosenFor, OnlyExchanges, NoExchangeYet, OneExchangeMore, ExchangesCanBeTimed}
use Rattle.loon_buffer.proofs.Exchanging.{with_model, changed, kept, stands_set}

-- ---- cells that can stand for others

same_itself : (c : Cell) (f : Function) → IsPlain c f → IsSameFunction f f
same_itself c (gate e) p = λ w. refl
same_itself c (flip_flop d k) p = (refl, refl)
same_itself c (other m) p = absurd p
same_itself c opaque p = absurd p

pub drive_itself : (c : Cell) → IsUsable c → IsDrive c c
drive_itself c usable = record { pins = refl; function = same_itself c c.function usable.function }

same_through : (f g h : Function) → IsSameFunction f g → IsSameFunction g h → IsSameFunction f h
same_through (gate a) (gate b) (gate c) p q = λ w. q w ∙ p w
same_through (gate a) (gate b) (flip_flop d k) p q = absurd q
same_through (gate a) (gate b) (other m) p q = absurd q
same_through (gate a) (gate b) opaque p q = absurd q
same_through (gate a) (flip_flop d k) h p q = absurd p
same_through (gate a) (other m) h p q = absurd p
same_through (gate a) opaque h p q = absurd p
same_through (flip_flop a b) (gate e) h p q = absurd p
same_through (flip_flop a b) (flip_flop c d) (gate e) p q = absurd q
same_through (flip_flop a b) (flip_flop c d) (flip_flop e k) p q = (q.0 ∙ p.0, q.1 ∙ p.1)
same_through (flip_flop a b) (flip_flop c d) (other m) p q = absurd q
same_through (flip_flop a b) (flip_flop c d) opaque p q = absurd q
same_through (flip_flop a b) (other m) h p q = absurd p
same_through (flip_flop a b) opaque h p q = absurd p
same_through (other m) g h p q = absurd p
same_through opaque g h p q = absurd p

pub drive_through : (c d e : Cell) → IsDrive c d → IsDrive d e → IsDrive c e
drive_through c d e p q = record { pins = q.pins ∙ p.pins; function = same_through c.function d.function e.function p.function q.function }

-- ---- lists in which one instance is another

stands_back : (is : List Instance) (place k : ℕ) (i j : Instance) → k ≢ place → Stands (slice_set is place j) k i → Stands is k i
stands_back [] place k i j apart s = s
stands_back (x ∷ is) zero zero i j apart s = absurd (apart refl)
stands_back (x ∷ is) zero (suc k) i j apart s = s
stands_back (x ∷ is) (suc place) zero i j apart s = s
stands_back (x ∷ is) (suc place) (suc k) i j apart s = stands_back is place k i j (λ e. apart (ap suc e)) s

flat_same : (h : Instance → List Role) (is : List Instance) (k : ℕ) (i j : Instance) → Stands is k i → h j ≡ h i → flat_map h (slice_set is k j) ≡ flat_map h is
flat_same h [] k i j s e = absurd cc
flat_same h (x ∷ is) zero i j s e =
    let f : Some x ≡ Some i = s in
    let q : x ≡ i = cc in
    ap (λ (ys : List Role). ys ++ flat_map h is) (e ∙ ap h (sym q))
flat_same h (x ∷ is) (suc k) i j s e = ap (λ (ys : List Role). h x ++ ys) (flat_same h is k i j s e)

pub apart_of : (k place : ℕ) → nat_eq k place ≡ false → k ≢ place
apart_of k place e q = let no : true ≡ false = sym (eq-eqb k place q) ∙ e in absurd cc

-- ---- one exchange more

pub none_yet : NoExchangeYet
none_yet l n timed = record {
  now = refl;
  many = refl;
  each = λ k i j s t.
      let same : i ≡ j = stands_same n.instances k i j s t in
      let u = timed.usable i (k, s) in
      subst (λ (o : Instance). IsChosenFor l i o) same (record { same = refl; was = u.0; found = u.1; now = u.0; listed = u.1; usable = u.2; drive = drive_itself u.0 u.2 });
}

module _ (l : Library) (old mid new : Netlist) (before : OnlyExchanges l old mid) (x : IsExchange l mid new) where
  instances_are : new.instances ≡ slice_set mid.instances x.place (with_model x.sets.was x.now.name)
  instances_are = ap (λ (k : Netlist). k.instances) x.sets.now

  made : List Instance → Netlist
  made is = record old { instances = is }

  now_is : new ≡ record old { instances = new.instances }
  unfolding made
  now_is =
      x.sets.now ∙ ap (λ (k : Netlist). record k { instances = slice_set mid.instances x.place (with_model x.sets.was x.now.name) }) before.now
      ∙ ap made (sym instances_are)

  owner : x.owner ≡ x.sets.was
  owner = stands_same mid.instances x.place x.owner x.sets.was x.stands x.sets.stood

  chosen_here : (i : Instance) → IsChosenFor l i x.sets.was → IsChosenFor l i (with_model x.sets.was x.now.name)
  chosen_here i h =
      let found : cell_of l x.sets.was.model ≡ Some x.was = ap (λ (o : Instance). cell_of l o.model) (sym owner) ∙ x.found in
      let same : x.was ≡ h.now = (let f : Some x.was ≡ Some h.now = sym found ∙ h.listed in cc) in
      record {
        same = ap (λ (o : Instance). with_model o x.now.name) h.same;
        was = h.was;
        found = h.found;
        now = x.now;
        listed = x.listed;
        usable = x.usable;
        drive = drive_through h.was h.now x.now h.drive (subst (λ (c : Cell). IsDrive c x.now) same x.drive);
      }

  chosen : (k : ℕ) (i j : Instance) → Stands old.instances k i → Stands new.instances k j → IsChosenFor l i j
  chosen k i j s t = by (nat_eq k x.place) refl where
    u : Stands (slice_set mid.instances x.place (with_model x.sets.was x.now.name)) k j
    u = subst (λ (is : List Instance). Stands is k j) instances_are t

    by : (b : Bool) → nat_eq k x.place ≡ b → IsChosenFor l i j
    by false e = before.each k i j s (stands_back mid.instances x.place k j (with_model x.sets.was x.now.name) (apart_of k x.place e) u)
    by true e =
        let q : k ≡ x.place = eqb-true k x.place e in
        let last : with_model x.sets.was x.now.name ≡ j =
        stands_same (slice_set mid.instances x.place (with_model x.sets.was x.now.name)) x.place (with_model x.sets.was x.now.name) j
        (stands_set mid.instances x.place x.sets.was (with_model x.sets.was x.now.name) x.sets.stood)
        (subst (λ m. Stands (slice_set mid.instances x.place (with_model x.sets.was x.now.name)) m j) q u) in
        subst (λ (o : Instance). IsChosenFor l i o) last
        (chosen_here i (before.each k i x.sets.was s (subst (λ m. Stands mid.instances m x.sets.was) (sym q) x.sets.stood)))

  one_more_is : OnlyExchanges l old new
  one_more_is = record {
    now = now_is;
    many = ap length instances_are ∙ length-set mid.instances x.place (with_model x.sets.was x.now.name) ∙ before.many;
    each = chosen;
  }

pub one_more : OneExchangeMore
one_more l old mid new before x = one_more_is l old mid new before x

-- ---- the pins of a model

pins_as : (f g : Function) → IsSameFunction f g → (ports xs : List Port) (ps : List ModelPin) → ArePins g ports xs ps → ArePins f ports xs ps
pins_as (gate e) (gate x) same ports _ _ no_pins = no_pins
pins_as (gate e) (gate x) same ports _ _ (one_pin {rest = rest} {pins = pins} i r) = one_pin (record { name = i.name; dir = i.dir; clock = i.clock; depends = i.depends }) (pins_as (gate e) (gate x) same ports rest pins r)
pins_as (gate e) (flip_flop d k) same ports xs ps h = absurd same
pins_as (gate e) (other m) same ports xs ps h = absurd same
pins_as (gate e) opaque same ports xs ps h = absurd same
pins_as (flip_flop d k) (gate e) same ports xs ps h = absurd same
pins_as (flip_flop d k) (flip_flop b j) same ports xs ps h =
    subst (λ (f : Function). ArePins f ports xs ps) (ap (λ (m : Name). flip_flop m j) same.0 ∙ ap (λ (m : Name). flip_flop d m) same.1) h
pins_as (flip_flop d k) (other m) same ports xs ps h = absurd same
pins_as (flip_flop d k) opaque same ports xs ps h = absurd same
pins_as (other m) g same ports xs ps h = absurd same
pins_as opaque g same ports xs ps h = absurd same

-- ---- a netlist can still be timed

module _ (l : Library) (n : Netlist) (place : ℕ) (was : Instance) (stood : Stands n.instances place was) (c d : Cell) (found : cell_of l was.model ≡ Some c)
    (listed : cell_of l d.name ≡ Some d) (usable : IsUsable d) (drive : IsDrive c d) (timed : CanBeTimed l n) where
  abbrev new : Netlist
  new = changed n place was d.name

  abbrev other_one : Instance
  other_one = with_model was d.name

  old_usable : IsUsable c
  old_usable =
      let u = timed.usable was (place, stood) in
      let same : u.0 ≡ c = (let f : Some u.0 ≡ Some c = sym u.1 ∙ found in cc) in
      subst IsUsable same u.2

  old_row : Row timed.table was.model c
  old_row = row_of (IsListed timed.all) l.cells timed.table was.model c timed.listed found (inr old_usable)

  new_row : Row timed.table d.name d
  new_row = row_of (IsListed timed.all) l.cells timed.table d.name d timed.listed listed (inr usable)

  ports_same : all_ports d ≡ all_ports c
  ports_same = ap (λ (ps : List Port). with_supply vss (with_supply vdd ps)) drive.pins

  pins_equal : pins_named timed.table d.name ≡ pins_named timed.table was.model
  pins_equal = pins_same c.function (all_ports c) (all_ports c) (pins_named timed.table d.name) (pins_named timed.table was.model)
      (pins_as c.function d.function drive.function (all_ports c) (all_ports c) (pins_named timed.table d.name)
      (subst (λ (ps : List Port). ArePins d.function ps ps (pins_named timed.table d.name)) ports_same new_row.pins)) old_row.pins

  own_pins : was.pins ≡ map (λ (p : ModelPin). p.name) (pins_named timed.table was.model)
  own_pins = subst (λ (i : Instance). i.pins ≡ map (λ (p : ModelPin). p.name) (pins_named timed.table i.model)) (get_or_from_slice_get n.instances place was was stood)
      (timed.fits.pins place was (slice_get_within n.instances place was stood))

  fits_new : Fits new timed.table
  fits_new = record {
    table_is = timed.fits.table_is;
    listed = All-set (λ (i : Instance). IsThere (map (λ (m : ModelPins). m.model) timed.table) i.model) n.instances place other_one new_row.listed timed.fits.listed;
    pins = All-set (λ (i : Instance). i.pins ≡ map (λ (p : ModelPin). p.name) (pins_named timed.table i.model)) n.instances place other_one
        (own_pins ∙ ap (map (λ (p : ModelPin). p.name)) (sym pins_equal)) timed.fits.pins;
  }

  roles_same : roles timed.table new ≡ roles timed.table n
  roles_same = ap (λ (rs : List Role). map port_role n.ports ++ rs)
      (flat_same (λ (i : Instance). map pin_role (pins_named timed.table i.model)) n.instances place was other_one stood (ap (map pin_role) pins_equal))

  has_back : (t : Terminal) (class : ℕ) → HasClass new t class → HasClass n t class
  has_back t class h = (h.0, subst (λ (ts : List Terminal). Stands ts h.0 t) (kept n l place was d.name stood) h.1, h.2)

  -- the instance that it was
  record Origin (o : Instance) : Type 0 where
    before : Instance
    there : IsThere n.instances before
    name : o.name ≡ before.name
    pins : pins_named timed.table o.model ≡ pins_named timed.table before.model

  place_of : (o : Instance) → IsThere new.instances o → (o ≡ other_one) ⊎ IsThere n.instances o
  place_of o t = by (nat_eq t.0 place) refl where
    by : (b : Bool) → nat_eq t.0 place ≡ b → (o ≡ other_one) ⊎ IsThere n.instances o
    by true e = inl (stands_same (slice_set n.instances place other_one) place o other_one
        (subst (λ m. Stands (slice_set n.instances place other_one) m o) (eqb-true t.0 place e) t.1) (stands_set n.instances place was other_one stood))
    by false e = inr (t.0, stands_back n.instances place t.0 o other_one (apart_of t.0 place e) t.1)

  origin : (o : Instance) → IsThere new.instances o → Origin o
  origin o t = by (place_of o t) where
    by : (o ≡ other_one) ⊎ IsThere n.instances o → Origin o
    by (inr u) = record { before = o; there = u; name = refl; pins = refl }
    by (inl e) = record {
      before = was;
      there = (place, stood);
      name = ap (λ (i : Instance). i.name) e;
      pins = ap (λ (i : Instance). pins_named timed.table i.model) e ∙ pins_equal;
    }

  depends_back : (a b : Terminal) → DependsOn timed.table new a b → DependsOn timed.table n a b
  depends_back a b h =
      let o = origin h.owner h.is_pin.listed in
      let p = origin h.other h.is_driver.listed in
      record {
        owner = o.before;
        output = h.output;
        is_pin = record {
          listed = o.there;
          known = subst (λ (ps : List ModelPin). IsThere ps h.output) o.pins h.is_pin.known;
          is = h.is_pin.is ∙ ap (λ (m : List ℕ). pin_of m h.output.name) o.name;
        };
        gives = h.gives;
        place = h.place;
        input = h.input;
        depends = h.depends;
        there = subst (λ (ps : List ModelPin). Stands ps h.place h.input) o.pins h.there;
        takes = h.takes;
        class = h.class;
        reads = subst (λ (m : List ℕ). HasClass n (pin_of m h.input.name) h.class) o.name (has_back (pin_of h.owner.name h.input.name) h.class h.reads);
        other = p.before;
        driver = h.driver;
        is_driver = record {
          listed = p.there;
          known = subst (λ (ps : List ModelPin). IsThere ps h.driver) p.pins h.is_driver.known;
          is = h.is_driver.is ∙ ap (λ (m : List ℕ). pin_of m h.driver.name) p.name;
        };
        drives = h.drives;
        joined = has_back b h.class h.joined;
      }

  passes_new : Passes timed.table new
  passes_new = record {
    classes = subst (λ (rs : List Role). (f : ClassFault) (k : ℕ) → k < n.count → has_fault f (all_clocks rs) (tally_of (zip rs n.classes) k) ≡ false) (sym roles_same) timed.passes.classes;
    rings = λ ring r. timed.passes.rings ring (record {
      some = r.some;
      once = r.once;
      next = λ k a b p q. depends_back a b (r.next k a b p q);
      close = λ a b p q. depends_back a b (r.close a b p q);
    });
  }

  usable_new : (i : Instance) → IsThere new.instances i → (e : Cell) × (cell_of l i.model ≡ Some e) × IsUsable e
  usable_new i t = by (place_of i t) where
    by : (i ≡ other_one) ⊎ IsThere n.instances i → (e : Cell) × (cell_of l i.model ≡ Some e) × IsUsable e
    by (inr u) = timed.usable i u
    by (inl e) = (d, ap (λ (o : Instance). cell_of l o.model) e ∙ listed, usable)

  timed_new : CanBeTimed l new
  timed_new = record { all = timed.all; table = timed.table; listed = timed.listed; fits = fits_new; passes = passes_new; usable = usable_new }

pub still_timed : ExchangesCanBeTimed
still_timed l n m timed x =
    let owner : x.owner ≡ x.sets.was = stands_same n.instances x.place x.owner x.sets.was x.stands x.sets.stood in
    subst (λ (k : Netlist). CanBeTimed l k) (sym x.sets.now)
    (timed_new l n x.place x.sets.was x.sets.stood x.was x.now (ap (λ (o : Instance). cell_of l o.model) (sym owner) ∙ x.found) x.listed x.usable x.drive timed)
