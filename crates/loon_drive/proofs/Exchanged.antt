-- What exchanges of cells for drives of them keep.
use Rattle.std.proofs.Common.{◌≡◌, ℕ, zero, suc, Bool, true, false, not, cond, ◌&&◌, ◌||◌, List, [], ◌∷◌, ◌++◌, map, filter, length, bytes_eq, nat_eq, Option, Some, refl, sym, ap, ap₂, ◌∙◌, subst, ◌≤◌, arith, if◌then◌else◌}
use Rattle.std.specs.List.{flat_map, list_any}
use Rattle.vlsi_base.specs.declared.name.Name.{Name}
use Rattle.vlsi_base.specs.declared.name.Port.{Port}
use Rattle.vlsi_base.specs.declared.name.Terminal.{Terminal}
use Rattle.vlsi_base.specs.Member.{In, here, there}
use Rattle.vlsi_base.specs.Names.{vdd, vss}
use Rattle.machine_core.specs.Machine.{names_of, is_input}
use Rattle.machine_core.specs.Named.{is_same_name}
use Rattle.cell_model.specs.Cell.{Function, gate, flip_flop, other, opaque, Cell, cell_inputs}
use Rattle.cell_model.specs.Library.{Library, cell_of}
use Rattle.cell_pins.specs.Pins.{with_supply, all_ports}
use Rattle.net_core.specs.Places.{Stands, IsThere, NoneTwice}
use Rattle.net_core.specs.Netlist.{Instance, Netlist, port, pin_of, pins_of, terminals, terminals_of}
use Rattle.net_core.proofs.Lookups.{same_of, itself}
use Rattle.net_meaning.specs.Netlist.{Member, AbstractNetlist as Seen}
use Rattle.net_theory.specs.Exchanges.{IsSameFunction, IsDrive, IsExchanged, ShownExchanged}
use Rattle.net_right.specs.View.{member_of, netlist_by}
use Rattle.loon_buffer.specs.Drives.{IsChosenFor}
use Rattle.loon_loads.specs.Sinks.{is_clock_of, is_sink_pin, is_sink_of}
use Rattle.loon_fanout.specs.Sinks.{instance_sinks, sinks, class_among, wired_of}
use Rattle.loon_drive.specs.Laws.{AreExchanged, CellsStay, RightStays, FanoutStays}

-- ---- two lists of instances, one by one

pub data AreChosen (l : Library) : List Instance → List Instance → Type 0 where
  none : AreChosen l [] []
  more : {i j : Instance} {is js : List Instance} → IsChosenFor l i j → AreChosen l is js → AreChosen l (i ∷ is) (j ∷ js)

chosen : (l : Library) (is js : List Instance) → length js ≡ length is → ((k : ℕ) (i j : Instance) → Stands is k i → Stands js k j → IsChosenFor l i j) → AreChosen l is js
chosen l [] [] many each = none
chosen l [] (j ∷ js) many each = absurd (omega (arith, many))
chosen l (i ∷ is) [] many each = absurd (omega (arith, many))
chosen l (i ∷ is) (j ∷ js) many each =
    more (each 0 i j refl refl) (chosen l is js (omega (arith, many)) (λ k a b p q. each (suc k) a b p q))

pub chosen_of : (l : Library) (n k : Netlist) → AreExchanged l n k → AreChosen l n.instances k.instances
chosen_of l n k x = chosen l n.instances k.instances x.many x.each

-- the given one behind one of the list
pub back_at : (l : Library) (is js : List Instance) → AreChosen l is js → (k : ℕ) (j : Instance) → Stands js k j → (i : Instance) × Stands is k i × IsChosenFor l i j
back_at l _ _ none k j s = absurd cc
back_at l _ _ (more {i = a} {j = b} {is = is} {js = js} c rest) zero j s = let same : b ≡ j = cc s in (a, refl, subst (λ (x : Instance). IsChosenFor l a x) same c)
back_at l _ _ (more {i = a} {j = b} {is = is} {js = js} c rest) (suc k) j s = let r = back_at l is js rest k j s in (r.0, r.1, r.2)

same_pins_of : (l : Library) (i j : Instance) → IsChosenFor l i j → pins_of j ≡ pins_of i
same_pins_of l i j c = ap pins_of c.same

same_pins : (l : Library) (is js : List Instance) → AreChosen l is js → flat_map pins_of js ≡ flat_map pins_of is
same_pins l _ _ none = refl
same_pins l _ _ (more {i = i} {j = j} {is = is} {js = js} c rest) =
    ap (λ (ts : List Terminal). ts ++ flat_map pins_of js) (same_pins_of l i j c) ∙ ap (λ (ts : List Terminal). pins_of i ++ ts) (same_pins l is js rest)

module _ (l : Library) (n k : Netlist) (x : AreExchanged l n k) where
  pub ports_same : k.ports ≡ n.ports
  ports_same = ap (λ (y : Netlist). y.ports) x.now

  pub classes_same : k.classes ≡ n.classes
  classes_same = ap (λ (y : Netlist). y.classes) x.now

  count_same : k.count ≡ n.count
  count_same = ap (λ (y : Netlist). y.count) x.now

  pub name_same : k.name ≡ n.name
  name_same = ap (λ (y : Netlist). y.name) x.now

  pub terminals_same : terminals k ≡ terminals n
  terminals_same =
      ap (λ (ps : List Port). terminals_of ps k.instances) ports_same
      ∙ ap (λ (ts : List Terminal). map (λ (p : Port). port p.name) n.ports ++ ts) (same_pins l n.instances k.instances (chosen_of l n k x))

-- ---- cells

some_same : {A : Type 0} (a b : A) → Some a ≡ Some b → a ≡ b
some_same a b e = cc e

pub cells_stay : CellsStay
cells_stay l n k x cells = record {
  found = λ j at.
      let b = back_at l n.instances k.instances (chosen_of l n k x) at.0 j at.1 in
      let c = b.2 in
      let f = cells.found b.0 (at.0, b.1) in
      let same : f.0 ≡ c.was = some_same f.0 c.was (sym f.1 ∙ c.found) in (
        c.now,
        c.listed,
        c.usable,
        ap (λ (i : Instance). i.pins) c.same ∙ f.3 ∙ ap (λ (d : Cell). names_of (all_ports d)) same
            ∙ ap (λ (ps : List Port). names_of (with_supply vss (with_supply vdd ps))) (sym c.drive.pins),
      );
  on_vdd = subst (λ (ts : List Terminal). IsThere ts (port vdd)) (sym (terminals_same l n k x)) cells.on_vdd;
  on_vss = subst (λ (ts : List Terminal). IsThere ts (port vss)) (sym (terminals_same l n k x)) cells.on_vss;
}

-- ---- sinks

same_clock : (f g : Function) (name : Name) → IsSameFunction f g → is_clock_of g name ≡ is_clock_of f name
same_clock (gate a) (gate b) name s = refl
same_clock (gate a) (flip_flop d k) name s = absurd s
same_clock (gate a) (other m) name s = absurd s
same_clock (gate a) opaque name s = absurd s
same_clock (flip_flop d k) (gate b) name s = absurd s
same_clock (flip_flop d k) (flip_flop b j) name s = ap (λ (m : Name). is_same_name m name) s.1
same_clock (flip_flop d k) (other m) name s = absurd s
same_clock (flip_flop d k) opaque name s = absurd s
same_clock (other m) g name s = absurd s
same_clock opaque g name s = absurd s

same_sink : (c d : Cell) (name : Name) → IsDrive c d → is_sink_pin d name ≡ is_sink_pin c name
same_sink c d name s =
    ap (λ (ps : List Port). list_any (λ pin. is_same_name pin name) (names_of (filter (λ p. is_input p.dir) ps)) && not (is_clock_of d.function name)) s.pins
    ∙ ap (λ (b : Bool). list_any (λ pin. is_same_name pin name) (cell_inputs c) && not b) (same_clock c.function d.function name s.function)

filter_same : {A : Type 0} (p q : A → Bool) → ((x : A) → p x ≡ q x) → (xs : List A) → filter p xs ≡ filter q xs
filter_same p q same [] = refl
filter_same {A} p q same (x ∷ xs) =
    ap (λ (b : Bool). cond b (x ∷ filter p xs) (filter p xs)) (same x) ∙ ap (λ (r : List A). cond (q x) (x ∷ r) r) (filter_same p q same xs)

own_sinks : (l : Library) (i j : Instance) → IsChosenFor l i j → instance_sinks l j ≡ instance_sinks l i
own_sinks l i j c =
    let sink : (name : Name) → is_sink_of (cell_of l j.model) name ≡ is_sink_of (cell_of l i.model) name =
    λ name. ap (λ (o : Option Cell). is_sink_of o name) c.listed ∙ same_sink c.was c.now name c.drive ∙ sym (ap (λ (o : Option Cell). is_sink_of o name) c.found) in
    ap (λ (y : Instance). map (pin_of y.name) (filter (is_sink_of (cell_of l j.model)) y.pins)) c.same
    ∙ ap (λ (ns : List Name). map (pin_of i.name) ns) (filter_same (is_sink_of (cell_of l j.model)) (is_sink_of (cell_of l i.model)) sink i.pins)

all_sinks : (l : Library) (is js : List Instance) → AreChosen l is js → flat_map (instance_sinks l) js ≡ flat_map (instance_sinks l) is
all_sinks l _ _ none = refl
all_sinks l _ _ (more {i = i} {j = j} {is = is} {js = js} c rest) =
    ap (λ (ts : List Terminal). ts ++ flat_map (instance_sinks l) js) (own_sinks l i j c)
    ∙ ap (λ (ts : List Terminal). instance_sinks l i ++ ts) (all_sinks l is js rest)

abbrev sinks_by : (Terminal → ℕ) → ℕ → List Terminal → List Terminal
sinks_by at class ts = if nat_eq (at (port vdd)) class || nat_eq (at (port vss)) class then [] else filter (λ t. nat_eq (at t) class) ts

pub fanout_stays : FanoutStays
fanout_stays l n k limit x few class =
    let sinks_same : sinks l (wired_of k) class ≡ sinks l (wired_of n) class =
    ap (λ (ts : List Terminal). sinks_by (class_among ts k.classes) class (flat_map (instance_sinks l) k.instances)) (terminals_same l n k x)
    ∙ ap (λ (cs : List ℕ). sinks_by (class_among (terminals n) cs) class (flat_map (instance_sinks l) k.instances)) (classes_same l n k x)
    ∙ ap (λ (ts : List Terminal). sinks_by (class_among (terminals n) n.classes) class ts) (all_sinks l n.instances k.instances (chosen_of l n k x)) in
    subst (λ (ts : List Terminal). length ts ≤ limit) (sym sinks_same) (few class)

-- ---- right for a machine

-- the model of the first instance of this name, or another one
abbrev model_of : List Instance → List ℕ → List ℕ → List ℕ
model_of [] name model = model
model_of (j ∷ js) name model = cond (bytes_eq j.name name) j.model (model_of js name model)

model_found : (js : List Instance) → NoneTwice (map (λ (j : Instance). j.name) js) → (k : ℕ) (j : Instance) (model : List ℕ) → Stands js k j → model_of js j.name model ≡ j.model
model_found [] once k j model s = absurd cc
model_found (i ∷ js) once zero j model s =
    let same : i ≡ j = cc s in
    subst (λ (x : Instance). model_of (i ∷ js) x.name model ≡ x.model) same (ap (λ (b : Bool). cond b i.model (model_of js i.name model)) (itself i.name))
model_found (i ∷ js) once (suc k) j model s = by (bytes_eq i.name j.name) refl (model_found js later k j model s) where
  named : (xs : List Instance) (m : ℕ) (y : Instance) → Stands xs m y → Stands (map (λ (z : Instance). z.name) xs) m y.name
  named [] m y h = absurd cc
  named (z ∷ xs) zero y h = let same : z ≡ y = cc h in ap (λ (w : Instance). Some w.name) same
  named (z ∷ xs) (suc m) y h = named xs m y h

  later : NoneTwice (map (λ (z : Instance). z.name) js)
  later a b name p q = let e : suc a ≡ suc b = once (suc a) (suc b) name p q in omega (arith, e)

  by : (b : Bool) → bytes_eq i.name j.name ≡ b → model_of js j.name model ≡ j.model → cond (bytes_eq i.name j.name) i.model (model_of js j.name model) ≡ j.model
  by true e h =
      let place : zero ≡ suc k = once zero (suc k) j.name (ap Some (same_of i.name j.name e)) (named js k j s) in
      absurd (omega (arith, place))
  by false e h = ap (λ (b : Bool). cond b i.model (model_of js j.name model)) e ∙ h

abbrev driven_by : List Instance → Member → Member
driven_by js x = record { name = x.name; model = model_of js x.name x.model }

abbrev made : List ℕ → List ℕ → Member
made name model = record { name = name; model = model }

members : (l : Library) (all is js : List Instance) → AreChosen l is js → ((k : ℕ) (j : Instance) (model : List ℕ) → Stands js k j → model_of all j.name model ≡ j.model)
    → map member_of js ≡ map (driven_by all) (map member_of is)
members l all _ _ none finds = refl
members l all _ _ (more {i = i} {j = j} {is = is} {js = js} c rest) finds =
    let name : j.name ≡ i.name = ap (λ (y : Instance). y.name) c.same in
    let model : j.model ≡ model_of all i.name i.model = sym (finds 0 j i.model refl) ∙ ap (λ (t : List ℕ). model_of all t i.model) name in
    ap (λ (y : Member). y ∷ map member_of js) (ap₂ made name model)
    ∙ ap (λ (ys : List Member). driven_by all (member_of i) ∷ ys) (members l all is js rest (λ k y model s. finds (suc k) y model s))

pub same_names : (l : Library) (is js : List Instance) → AreChosen l is js → map (λ (j : Instance). j.name) js ≡ map (λ (i : Instance). i.name) is
same_names l _ _ none = refl
same_names l _ _ (more {i = i} {j = j} {is = is} {js = js} c rest) =
    ap (λ (t : List ℕ). t ∷ map (λ (y : Instance). y.name) js) (ap (λ (y : Instance). y.name) c.same)
    ∙ ap (λ (ts : List (List ℕ)). i.name ∷ ts) (same_names l is js rest)

-- the instance behind a member
pub of_member : (l : Library) (is js : List Instance) → AreChosen l is js → (y : Member) → In y (map member_of is)
    → (k : ℕ) × (i : Instance) × (j : Instance) × Stands js k j × IsChosenFor l i j × (member_of i ≡ y)
of_member l _ _ none y at = elim at [ ]
of_member l _ _ (more {i = i} {j = j} {is = is} {js = js} c rest) _ here = (0, i, j, refl, c, refl)
of_member l _ _ (more {i = i} {j = j} {is = is} {js = js} c rest) y (there at) = let r = of_member l is js rest y at in (suc r.0, r.1, r.2, r.3, r.4, r.5)

abbrev pub HasClassIn : List Terminal → List ℕ → Terminal → ℕ → Type 0
HasClassIn ts cs t class = (p : ℕ) × Stands ts p t × Stands cs p class

pub right_stays : ShownExchanged → RightStays
right_stays shown l n k m sound x right = record {
  name = name_same l n k x ∙ right.name;
  ports = ports_same l n k x ∙ right.ports;
  sourced = record { netlist = y; source = right.sourced.source; rank = right.sourced.rank };
  seen = record {
    is = refl;
    classes = record {
      each = λ t c h. right.seen.classes.each t c (subst (λ (ts : List Terminal). HasClassIn ts n.classes t c) (terminals_same l n k x)
          (subst (λ (cs : List ℕ). HasClassIn (terminals k) cs t c) (classes_same l n k x) h));
    };
  };
  values = right.values;
  roots = right.roots;
  shows = shown right.sourced y l m right.values right.roots right.shows exchanged;
  means = right.means;
} where
  y : Seen
  y = netlist_by right.sourced.netlist.class k

  pairs : AreChosen l n.instances k.instances
  pairs = chosen_of l n k x

  once : NoneTwice (map (λ (j : Instance). j.name) k.instances)
  once = subst (λ (ts : List (List ℕ)). NoneTwice ts) (sym (same_names l n.instances k.instances pairs)) sound.names

  is_seen : right.sourced.netlist ≡ netlist_by right.sourced.netlist.class n
  is_seen = right.seen.is

  of_n : right.sourced.netlist.instances ≡ map member_of n.instances
  of_n = ap (λ (z : Seen). z.instances) is_seen

  exchanged : IsExchanged l right.sourced.netlist y
  exchanged = record {
    ports = ap (λ (ps : List Port). map (λ (p : Port). p.name) ps) (ports_same l n k x) ∙ sym (ap (λ (z : Seen). z.ports) is_seen);
    classes = count_same l n k x ∙ sym (ap (λ (z : Seen). z.classes) is_seen);
    class = refl;
    drive = driven_by k.instances;
    instances = members l k.instances n.instances k.instances pairs (λ p j model s. model_found k.instances once p j model s)
        ∙ ap (map (driven_by k.instances)) (sym of_n);
    named = λ i. refl;
    each = λ i c at found.
        let r = of_member l n.instances k.instances pairs i (subst (λ (ms : List Member). In i ms) of_n at) in
        let j = r.2 in
        let ch = r.4 in
        let name : j.name ≡ i.name = ap (λ (z : Instance). z.name) ch.same ∙ ap (λ (z : Member). z.name) r.5 in
        let model : model_of k.instances i.name i.model ≡ j.model =
        subst (λ (t : List ℕ). model_of k.instances t i.model ≡ j.model) name (model_found k.instances once r.0 j i.model r.3) in
        let was : c ≡ ch.was = some_same c ch.was (sym found ∙ sym (ap (λ (z : Member). cell_of l z.model) r.5) ∙ ch.found) in
        (ch.now, ap (cell_of l) model ∙ ch.listed, ch.usable, subst (λ (z : Cell). IsDrive z ch.now) (sym was) ch.drive);
  }
