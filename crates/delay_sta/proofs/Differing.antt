-- Two netlists that differ in the cell of one instance: what one has of the other.
use Rattle.std.proofs.Common.{◌≡◌, ◌≢◌, inl, inr, ℕ, zero, suc, Bool, true, false, List, [], ◌∷◌, take, drop, nat_eq, Some, refl, sym, ap, ◌∙◌, subst}
use Rattle.std.specs.Prelude.{slice_set}
use Rattle.std.specs.Bool.{MatchBool}
use Rattle.std.proofs.lemmas.Bool.{eqb-true, eq-eqb}
use Rattle.vlsi_base.specs.declared.name.Name.{Name}
use Rattle.vlsi_base.specs.declared.name.Port.{Port}
use Rattle.vlsi_base.specs.declared.name.Terminal.{Terminal}
use Rattle.vlsi_base.specs.declared.name.Dir.{Dir}
use Rattle.vlsi_base.specs.declared.name.Dir.TheVariants as dir
use Rattle.cell_model.specs.declared.cell.Arc.{Arc}
use Rattle.cell_model.specs.declared.cell.Pin.{Pin}
use Rattle.cell_model.specs.Cell.{Function, Cell, pin_ports}
use Rattle.cell_model.specs.Library.{Library, cell_of, IsUsable}
use Rattle.cell_checks.specs.Arcs.{HasPin, BeginsThere, GoesThrough, Begins, HasItsArcs, HaveTheirArcs}
use Rattle.net_core.specs.Places.{Stands, IsThere}
use Rattle.net_core.specs.Netlist.{Instance, Netlist, port, pin_of, terminals, HasClass}
use Rattle.net_core.proofs.Standing.{stands_same}
use Rattle.net_core.proofs.Frames.{mapped, unmapped}
use Rattle.net_core.proofs.Changing.{terminals_set}
use Rattle.delay_sta.specs.declared.graph.TimedArc.{TimedArc}
use Rattle.delay_sta.specs.Arcs.{arc_delay}
use Rattle.delay_sta.specs.Loads.{load}
use Rattle.delay_sta.specs.Paths.{IsStepAt, IsStart}
use Rattle.delay_sta.specs.Graph.{step_of, IsTimedAt, IsOwned}
use Rattle.delay_sta.specs.Timed.{CanBeTimed}
use Rattle.delay_sta.specs.Exchanged.{AreAlike, IsExchangeAt, IsSetTo}
use Rattle.delay_sta.specs.Changes.{IsOnlyArc, IsPlaced}

-- ---- lists in which one element is another

pub stands_set : {X : Type 0} (xs : List X) (place : ℕ) (x y : X) → Stands xs place x → Stands (slice_set xs place y) place y
stands_set [] place x y s = absurd cc
stands_set (z ∷ xs) zero x y s = refl
stands_set (z ∷ xs) (suc place) x y s = stands_set xs place x y s

pub stands_other : {X : Type 0} (xs : List X) (place k : ℕ) (x y : X) → k ≢ place → Stands xs k x → Stands (slice_set xs place y) k x
stands_other [] place k x y apart s = absurd cc
stands_other (z ∷ xs) zero zero x y apart s = absurd (apart refl)
stands_other (z ∷ xs) zero (suc k) x y apart s = s
stands_other (z ∷ xs) (suc place) zero x y apart s = s
stands_other (z ∷ xs) (suc place) (suc k) x y apart s = stands_other xs place k x y (λ e. apart (ap suc e)) s

pub stands_back : {X : Type 0} (xs : List X) (place k : ℕ) (x y : X) → k ≢ place → Stands (slice_set xs place y) k x → Stands xs k x
stands_back [] place k x y apart s = s
stands_back (z ∷ xs) zero zero x y apart s = absurd (apart refl)
stands_back (z ∷ xs) zero (suc k) x y apart s = s
stands_back (z ∷ xs) (suc place) zero x y apart s = s
stands_back (z ∷ xs) (suc place) (suc k) x y apart s = stands_back xs place k x y (λ e. apart (ap suc e)) s

pub take_set : {X : Type 0} (xs : List X) (place : ℕ) (y : X) → take place (slice_set xs place y) ≡ take place xs
take_set [] place y = refl
take_set (z ∷ xs) zero y = refl
take_set {X} (z ∷ xs) (suc place) y = ap (λ (zs : List X). z ∷ zs) (take_set xs place y)

pub drop_set : {X : Type 0} (xs : List X) (place : ℕ) (y : X) → drop (suc place) (slice_set xs place y) ≡ drop (suc place) xs
drop_set [] place y = refl
drop_set (z ∷ xs) zero y = refl
drop_set (z ∷ xs) (suc place) y = drop_set xs place y

pub apart_of : (k place : ℕ) → nat_eq k place ≡ false → k ≢ place
apart_of k place e q = let no : true ≡ false = sym (eq-eqb k place q) ∙ e in absurd cc

-- ---- netlists that differ so

pub record Differ (l : Library) (n m : Netlist) (number : ℕ) : Type 0 where
  pub ports : m.ports ≡ n.ports
  pub models : m.models ≡ n.models
  pub classes : m.classes ≡ n.classes
  pub count : m.count ≡ n.count
  pub terminals : terminals m ≡ terminals n
  pub old : Instance
  pub stood : Stands n.instances number old
  pub new : Instance
  pub stands : Stands m.instances number new
  pub name : new.name ≡ old.name
  pub pins : new.pins ≡ old.pins
  pub was : Cell
  pub found : cell_of l old.model ≡ Some was
  pub now : Cell
  pub listed : cell_of l new.model ≡ Some now
  pub same : pin_ports now ≡ pin_ports was
  pub alike : AreAlike was.function now.function
  pub old_arcs : HasItsArcs was
  pub new_arcs : HasItsArcs now
  pub there : (k : ℕ) (i : Instance) → k ≢ number → Stands n.instances k i → Stands m.instances k i
  pub back : (k : ℕ) (i : Instance) → k ≢ number → Stands m.instances k i → Stands n.instances k i
  pub before : take number m.instances ≡ take number n.instances
  pub behind : drop (suc number) m.instances ≡ drop (suc number) n.instances

pub flip : (l : Library) (n m : Netlist) (number : ℕ) → Differ l n m number → Differ l m n number
flip l n m number d = record {
  ports = sym d.ports;
  models = sym d.models;
  classes = sym d.classes;
  count = sym d.count;
  terminals = sym d.terminals;
  old = d.new;
  stood = d.stands;
  new = d.old;
  stands = d.stood;
  name = sym d.name;
  pins = sym d.pins;
  was = d.now;
  found = d.listed;
  now = d.was;
  listed = d.found;
  same = sym d.same;
  alike = record {
    begins = λ pin. ((d.alike.begins pin).1, (d.alike.begins pin).0);
    through = λ pin. ((d.alike.through pin).1, (d.alike.through pin).0);
    data_pins = sym d.alike.data_pins;
  };
  old_arcs = d.new_arcs;
  new_arcs = d.old_arcs;
  there = d.back;
  back = d.there;
  before = sym d.before;
  behind = sym d.behind;
}

abbrev pub changed : Netlist → ℕ → Instance → List ℕ → Netlist
changed n number was model = record n { instances = slice_set n.instances number (record was { model = model }) }

pub changed_terminals : (n : Netlist) (number : ℕ) (was : Instance) (model : List ℕ) → Stands n.instances number was → terminals (changed n number was model) ≡ terminals n
changed_terminals n number was model stood = terminals_set (record { ports = n.ports; models = n.models; instances = n.instances })
    (record { ports = n.ports; models = n.models; instances = slice_set n.instances number (record was { model = model }) }) number model
    (record { was = was; stood = stood; now = refl })

pub was_arcs : (l : Library) (n : Netlist) (number place : ℕ) (x : IsExchangeAt l n number place) → CanBeTimed l n → HaveTheirArcs l → HasItsArcs x.was
was_arcs l n number place x timed have =
    let u = timed.usable x.owner (number, x.stands) in
    have x.owner.model x.was x.found (let same : u.0 ≡ x.was = (let f : Some u.0 ≡ Some x.was = sym u.1 ∙ x.found in cc) in subst IsUsable same u.2)

abbrev pub differ_at : (l : Library) (n : Netlist) (number place : ℕ) (x : IsExchangeAt l n number place) → CanBeTimed l n → HaveTheirArcs l → Differ l n (changed n number x.owner x.now.name) number
differ_at l n number place x timed have = record {
  ports = refl;
  models = refl;
  classes = refl;
  count = refl;
  terminals = changed_terminals n number x.owner x.now.name x.stands;
  old = x.owner;
  stood = x.stands;
  new = record (x.owner) { model = x.now.name };
  stands = stands_set n.instances number x.owner (record (x.owner) { model = x.now.name }) x.stands;
  name = refl;
  pins = refl;
  was = x.was;
  found = x.found;
  now = x.now;
  listed = x.listed;
  same = x.pins;
  alike = x.alike;
  old_arcs = was_arcs l n number place x timed have;
  new_arcs = have x.now.name x.now x.listed x.usable;
  there = λ k i apart s. stands_other n.instances number k i (record (x.owner) { model = x.now.name }) apart s;
  back = λ k i apart s. stands_back n.instances number k i (record (x.owner) { model = x.now.name }) apart s;
  before = take_set n.instances number (record (x.owner) { model = x.now.name });
  behind = drop_set n.instances number (record (x.owner) { model = x.now.name });
}

pub set_to_is : (l : Library) (n m : Netlist) (number place : ℕ) (x : IsExchangeAt l n number place) → IsSetTo l n m number place → m ≡ changed n number x.owner x.now.name
set_to_is l n m number place x set =
    let cell : set.cell ≡ x.now = stands_same l.cells place set.cell x.now set.there x.there in
    let owner : set.sets.was ≡ x.owner = stands_same n.instances number set.sets.was x.owner set.sets.stood x.stands in
    set.sets.now ∙ ap (λ (o : Instance). changed n number o set.cell.name) owner ∙ ap (λ (c : Cell). changed n number x.owner c.name) cell

pub differ_of : (l : Library) (n m : Netlist) (number place : ℕ) → IsExchangeAt l n number place → IsSetTo l n m number place → CanBeTimed l n → HaveTheirArcs l → Differ l n m number
differ_of l n m number place x set timed have = subst (λ (k : Netlist). Differ l n k number) (sym (set_to_is l n m number place x set)) (differ_at l n number place x timed have)

-- ---- what stays

pub has_over : (l : Library) (n m : Netlist) (number : ℕ) → Differ l n m number → (t : Terminal) (class : ℕ) → HasClass n t class → HasClass m t class
has_over l n m number d t class h =
    (h.0, subst (λ (ts : List Terminal). Stands ts h.0 t) (sym d.terminals) h.1, subst (λ (cs : List ℕ). Stands cs h.0 class) (sym d.classes) h.2)

pub start_over : (l : Library) (n m : Netlist) (number : ℕ) → Differ l n m number → (class : ℕ) → IsStart n class → IsStart m class
start_over l n m number d class h = record {
  input = h.input;
  listed = subst (λ (ps : List Port). IsThere ps h.input) (sym d.ports) h.listed;
  takes = h.takes;
  signal = h.signal;
  joined = has_over l n m number d (port h.input.name) class h.joined;
}

-- ---- the parts of a timed arc

pub record Parts (n : Netlist) (loads : ℕ → ℕ) (owner : List ℕ) (c : Cell) (a : Arc) (x : TimedArc) : Type 0 where
  pub way : MatchBool x.begins (BeginsThere c.function a.from) (GoesThrough c.function a.from)
  pub takes : HasPin c.pins dir.In a.from
  pub gives : HasPin c.pins dir.Out a.to
  pub from : HasClass n (pin_of owner a.from) x.from
  pub to : HasClass n (pin_of owner a.to) x.to
  pub delay : x.delay ≡ arc_delay a (loads x.to)

pub parts_of : (n : Netlist) (loads : ℕ → ℕ) (owner : List ℕ) (c : Cell) (a : Arc) (x : TimedArc) → IsTimedAt n loads owner c a x → Parts n loads owner c a x
parts_of n loads owner c a x h = by x.begins refl h where
  by : (b : Bool) → x.begins ≡ b → MatchBool b (IsStepAt n loads BeginsThere owner c a (step_of x)) (IsStepAt n loads GoesThrough owner c a (step_of x)) → Parts n loads owner c a x
  by true e g = record {
    way = subst (λ b. MatchBool b (BeginsThere c.function a.from) (GoesThrough c.function a.from)) (sym e) g.allowed;
    takes = g.takes;
    gives = g.gives;
    from = g.from;
    to = g.to;
    delay = g.delay;
  }
  by false e g = record {
    way = subst (λ b. MatchBool b (BeginsThere c.function a.from) (GoesThrough c.function a.from)) (sym e) g.allowed;
    takes = g.takes;
    gives = g.gives;
    from = g.from;
    to = g.to;
    delay = g.delay;
  }

pub timed_of : (n : Netlist) (loads : ℕ → ℕ) (owner : List ℕ) (c : Cell) (a : Arc) (x : TimedArc) → Parts n loads owner c a x → IsTimedAt n loads owner c a x
timed_of n loads owner c a x p = by x.begins p.way where
  by : (b : Bool) → MatchBool b (BeginsThere c.function a.from) (GoesThrough c.function a.from)
      → MatchBool b (IsStepAt n loads BeginsThere owner c a (step_of x)) (IsStepAt n loads GoesThrough owner c a (step_of x))
  by true w = record { allowed = w; takes = p.takes; gives = p.gives; from = p.from; to = p.to; delay = p.delay }
  by false w = record { allowed = w; takes = p.takes; gives = p.gives; from = p.from; to = p.to; delay = p.delay }

way_over : (f g : Function) → AreAlike f g → (b : Bool) (pin : Name) → MatchBool b (BeginsThere f pin) (GoesThrough f pin) → MatchBool b (BeginsThere g pin) (GoesThrough g pin)
way_over f g alike true pin h = (alike.begins pin).0 h
way_over f g alike false pin h = (alike.through pin).0 h

way_begins : (f : Function) (b : Bool) (pin : Name) → MatchBool b (BeginsThere f pin) (GoesThrough f pin) → Begins f pin
way_begins f true pin h = inl h
way_begins f false pin h = inr h

pub has_too : (c d : Cell) → pin_ports d ≡ pin_ports c → (way : Dir) (name : Name) → HasPin c.pins way name → HasPin d.pins way name
has_too c d same way name h =
    let s = subst (λ (ps : List Port). Stands ps h.listed.0 h.pin.port) (sym same) (mapped (λ (p : Pin). p.port) c.pins h.listed.0 h.pin h.listed.1) in
    let u = unmapped (λ (p : Pin). p.port) d.pins h.listed.0 h.pin.port s in
    record { pin = u.0; listed = (h.listed.0, u.1); named = ap (λ (q : Port). q.name) u.2 ∙ h.named; is = ap (λ (q : Port). q.dir) u.2 ∙ h.is }

-- ---- arcs of one netlist are such of the other, with another delay

abbrev pub with_delay : TimedArc → ℕ → TimedArc
with_delay x time = record x { delay = time }

-- the same arc takes some time there
pub record Moved (m : Netlist) (l : Library) (x : TimedArc) : Type 0 where
  pub time : ℕ
  pub is : IsOwned m l (with_delay x time)

pub moved : (l : Library) (n m : Netlist) (number : ℕ) → Differ l n m number → (x : TimedArc) → IsOwned n l x → Moved m l x
moved l n m number d x h = by (nat_eq x.owner number) refl where
  p : Parts n (load n l) h.owner.name h.cell h.arc x
  p = parts_of n (load n l) h.owner.name h.cell h.arc x h.is

  by : (b : Bool) → nat_eq x.owner number ≡ b → Moved m l x
  by false e = record {
    time = arc_delay h.arc (load m l x.to);
    is = record {
      owner = h.owner;
      stands = d.there x.owner h.owner (apart_of x.owner number e) h.stands;
      cell = h.cell;
      found = h.found;
      arc = h.arc;
      has = h.has;
      input = h.input;
      output = h.output;
      is = timed_of m (load m l) h.owner.name h.cell h.arc (with_delay x (arc_delay h.arc (load m l x.to))) (record {
        way = p.way;
        takes = p.takes;
        gives = p.gives;
        from = has_over l n m number d (pin_of h.owner.name h.arc.from) x.from p.from;
        to = has_over l n m number d (pin_of h.owner.name h.arc.to) x.to p.to;
        delay = refl;
      });
    };
  }
  by true e =
      let at : x.owner ≡ number = eqb-true x.owner number e in
      let owner : h.owner ≡ d.old = stands_same n.instances number h.owner d.old (subst (λ k. Stands n.instances k h.owner) at h.stands) d.stood in
      let cell : h.cell ≡ d.was = (let f : Some h.cell ≡ Some d.was = sym h.found ∙ ap (λ (o : Instance). cell_of l o.model) owner ∙ d.found in cc) in
      let way = way_over d.was.function d.now.function d.alike x.begins h.arc.from
      (subst (λ (c : Cell). MatchBool x.begins (BeginsThere c.function h.arc.from) (GoesThrough c.function h.arc.from)) cell p.way) in
      let takes = has_too d.was d.now d.same dir.In h.arc.from (subst (λ (c : Cell). HasPin c.pins dir.In h.arc.from) cell p.takes) in
      let gives = has_too d.was d.now d.same dir.Out h.arc.to (subst (λ (c : Cell). HasPin c.pins dir.Out h.arc.to) cell p.gives) in
      let a = d.new_arcs.one h.arc.from h.arc.to (way_begins d.now.function x.begins h.arc.from way) takes gives in
      let pins : h.owner.pins ≡ d.new.pins = ap (λ (o : Instance). o.pins) owner ∙ sym d.pins in
      let name : h.owner.name ≡ d.new.name = ap (λ (o : Instance). o.name) owner ∙ sym d.name in
      record {
        time = arc_delay a.1 (load m l x.to);
        is = record {
          owner = d.new;
          stands = subst (λ k. Stands m.instances k d.new) (sym at) d.stands;
          cell = d.now;
          found = d.listed;
          arc = a.1;
          has = (a.0, a.2);
          input = subst (λ (ps : List Name). Stands ps x.input a.1.from) pins (subst (λ (q : Name). Stands h.owner.pins x.input q) (sym a.3) h.input);
          output = subst (λ (ps : List Name). Stands ps x.output a.1.to) pins (subst (λ (q : Name). Stands h.owner.pins x.output q) (sym a.4) h.output);
          is = timed_of m (load m l) d.new.name d.now a.1 (with_delay x (arc_delay a.1 (load m l x.to))) (record {
            way = subst (λ (q : Name). MatchBool x.begins (BeginsThere d.now.function q) (GoesThrough d.now.function q)) (sym a.3) way;
            takes = subst (λ (q : Name). HasPin d.now.pins dir.In q) (sym a.3) takes;
            gives = subst (λ (q : Name). HasPin d.now.pins dir.Out q) (sym a.4) gives;
            from = has_over l n m number d (pin_of d.new.name a.1.from) x.from
                (subst (λ (o : List ℕ). HasClass n (pin_of o a.1.from) x.from) name (subst (λ (q : Name). HasClass n (pin_of h.owner.name q) x.from) (sym a.3) p.from));
            to = has_over l n m number d (pin_of d.new.name a.1.to) x.to
                (subst (λ (o : List ℕ). HasClass n (pin_of o a.1.to) x.to) name (subst (λ (q : Name). HasClass n (pin_of h.owner.name q) x.to) (sym a.4) p.to));
            delay = refl;
          });
        };
      }

-- an arc of another instance, where the load of its class stays
pub owned_kept : (l : Library) (n m : Netlist) (number : ℕ) → Differ l n m number → (x : TimedArc) → x.owner ≢ number → load n l x.to ≡ load m l x.to → IsOwned n l x → IsOwned m l x
owned_kept l n m number d x apart same h =
    let p = parts_of n (load n l) h.owner.name h.cell h.arc x h.is in
    record {
      owner = h.owner;
      stands = d.there x.owner h.owner apart h.stands;
      cell = h.cell;
      found = h.found;
      arc = h.arc;
      has = h.has;
      input = h.input;
      output = h.output;
      is = timed_of m (load m l) h.owner.name h.cell h.arc x (record {
        way = p.way;
        takes = p.takes;
        gives = p.gives;
        from = has_over l n m number d (pin_of h.owner.name h.arc.from) x.from p.from;
        to = has_over l n m number d (pin_of h.owner.name h.arc.to) x.to p.to;
        delay = p.delay ∙ ap (arc_delay h.arc) same;
      });
    }

-- ---- the only arc between two pins

-- each instance's cell has its arcs
pub record AllArcs (n : Netlist) (l : Library) : Type 0 where
  pub each : (k : ℕ) (i : Instance) (c : Cell) → Stands n.instances k i → cell_of l i.model ≡ Some c → HasItsArcs c

pub all_arcs : (l : Library) (n : Netlist) → CanBeTimed l n → HaveTheirArcs l → AllArcs n l
all_arcs l n timed have = record {
  each = λ k i c s found.
      let u = timed.usable i (k, s) in
      let same : u.0 ≡ c = (let f : Some u.0 ≡ Some c = sym u.1 ∙ found in cc) in
      have i.model c found (subst IsUsable same u.2);
}

pub all_arcs_over : (l : Library) (n m : Netlist) (number : ℕ) → Differ l n m number → AllArcs n l → AllArcs m l
all_arcs_over l n m number d all = record { each = each } where
  each : (k : ℕ) (i : Instance) (c : Cell) → Stands m.instances k i → cell_of l i.model ≡ Some c → HasItsArcs c
  each k i c s found = by (nat_eq k number) refl where
    by : (b : Bool) → nat_eq k number ≡ b → HasItsArcs c
    by false e = all.each k i c (d.back k i (apart_of k number e) s) found
    by true e =
        let owner : i ≡ d.new = stands_same m.instances number i d.new (subst (λ j. Stands m.instances j i) (eqb-true k number e) s) d.stands in
        let cell : d.now ≡ c = (let f : Some d.now ≡ Some c = sym d.listed ∙ ap (λ (o : Instance). cell_of l o.model) (sym owner) ∙ found in cc) in
        subst HasItsArcs cell d.new_arcs

pub only_arc : (c : Cell) (a : Arc) → HasItsArcs c → IsThere c.arcs a → IsOnlyArc c.arcs a.from a.to a
only_arc c a whole t = record {
  has = t;
  leaves = refl;
  enters = refl;
  once = λ b u e f.
      let same : u.0 ≡ t.0 = whole.once u.0 t.0 b a u.1 t.1 e f in
      stands_same c.arcs t.0 b a (subst (λ k. Stands c.arcs k b) same u.1) t.1;
}

-- an arc of a netlist takes so long as any arc between its pins does
pub placed_of : (m : Netlist) (l : Library) → AllArcs m l → (x : TimedArc) (time : ℕ) → IsOwned m l (with_delay x time) → (p : IsPlaced m l x) × (time ≡ arc_delay p.arc (load m l x.to))
placed_of m l all x time h = (
  record {
    owner = h.owner;
    stands = h.stands;
    cell = h.cell;
    found = h.found;
    input = h.arc.from;
    output = h.arc.to;
    begins_at = h.input;
    ends_at = h.output;
    arc = h.arc;
    only = only_arc h.cell h.arc (all.each x.owner h.owner h.cell h.stands h.found) h.has;
  },
  (parts_of m (load m l) h.owner.name h.cell h.arc (with_delay x time) h.is).delay,
)
