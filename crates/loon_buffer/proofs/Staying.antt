-- Paths after an exchange of an instance's cell: a step stands in the place of each.
use Rattle.std.proofs.Common.{◌≡◌, ◌⊎◌, inl, inr, ℕ, ◌≤◌, Bool, true, false, List, [], ◌∷◌, nat_eq, Some, refl, sym, ap, ◌∙◌, subst}
use Rattle.std.specs.List.{sum_by}
use Rattle.std.proofs.lemmas.Bool.{eqb-true}
use Rattle.vlsi_base.specs.declared.name.Name.{Name}
use Rattle.vlsi_base.specs.declared.name.Port.{Port}
use Rattle.vlsi_base.specs.declared.name.Dir.{Dir}
use Rattle.vlsi_base.specs.declared.name.Dir.TheVariants as dir
use Rattle.cell_model.specs.declared.cell.Arc.{Arc}
use Rattle.cell_model.specs.declared.cell.Pin.{Pin}
use Rattle.cell_model.specs.Cell.{Function, gate, flip_flop, other, opaque, Cell, pin_ports}
use Rattle.cell_model.specs.Library.{Library, cell_of}
use Rattle.cell_checks.specs.Arcs.{HasPin, BeginsThere, GoesThrough, HasItsArcs}
use Rattle.net_core.specs.Places.{Stands}
use Rattle.net_core.specs.Netlist.{Instance, Netlist, pin_of, HasClass}
use Rattle.net_core.proofs.Standing.{stands_same}
use Rattle.net_core.proofs.Frames.{mapped, unmapped}
use Rattle.net_theory.specs.Exchanges.{IsSameFunction, IsDrive}
use Rattle.delay_sta.specs.Arcs.{arc_delay}
use Rattle.delay_sta.specs.Loads.{load}
use Rattle.delay_sta.specs.Paths.{Step, Leads, starts, begins, goes_on, TakesTo, IsStepAt, IsStep, IsStart, IsEnd, IsWorst}
use Rattle.loon_buffer.specs.Drives.{StandFor, no_steps, one_step, PathsStay, StepsStay}
use Rattle.loon_buffer.proofs.Exchanging.{with_model, changed, has_kept, stands_other, stands_set, start_kept, end_kept}
use Rattle.loon_buffer.proofs.Keeping.{apart_of}

-- ---- paths

module _ (n m : Netlist) (l : Library) (starts_as : (class : ℕ) → IsStart n class → IsStart m class) where
  leads_by : (class : ℕ) (path steps : List Step) → StandFor n m l path steps → Leads (IsStart n) (IsStep n l BeginsThere) (IsStep n l GoesThrough) class path
      → Leads (IsStart m) (IsStep m l BeginsThere) (IsStep m l GoesThrough) class steps
  leads_by class _ _ no_steps (starts p) = starts (starts_as class p)
  leads_by _ _ _ (one_step {t = t} {steps = q} from to begins_as goes_as rest) (begins {s = s} p) = last q rest where
    last : (q : List Step) → StandFor n m l [] q → Leads (IsStart m) (IsStep m l BeginsThere) (IsStep m l GoesThrough) s.to (t ∷ q)
    last _ no_steps = subst (λ c. Leads (IsStart m) (IsStep m l BeginsThere) (IsStep m l GoesThrough) c (t ∷ [])) to (begins (begins_as p))
  leads_by _ _ _ (one_step {t = t} {path = p} {steps = q} from to begins_as goes_as rest) (goes_on {s = s} lead g) =
      subst (λ c. Leads (IsStart m) (IsStep m l BeginsThere) (IsStep m l GoesThrough) c (t ∷ q)) to
      (goes_on (subst (λ c. Leads (IsStart m) (IsStep m l BeginsThere) (IsStep m l GoesThrough) c q) (sym from) (leads_by s.from p q rest lead)) (goes_as g))

pub paths_stay : PathsStay
paths_stay l n m x class time longest ends p steps stand worst = by x.sets.now stand worst where
  owner : x.owner ≡ x.sets.was
  owner = stands_same n.instances x.place x.owner x.sets.was x.stands x.sets.stood

  by : m ≡ changed n x.place x.sets.was x.now.name → StandFor n m l p.path steps → IsWorst m l longest → sum_by (λ (s : Step). s.delay) steps ≤ longest
  by e stand worst = w.most (sum_by (λ (s : Step). s.delay) steps) (class, end, takes) where
    w : IsWorst (changed n x.place x.sets.was x.now.name) l longest
    w = subst (λ (k : Netlist). IsWorst k l longest) e worst

    stands : StandFor n (changed n x.place x.sets.was x.now.name) l p.path steps
    stands = subst (λ (k : Netlist). StandFor n k l p.path steps) e stand

    end : IsEnd (changed n x.place x.sets.was x.now.name) l class
    end = end_kept l n x.place x.sets.was x.sets.stood x.was x.now (ap (λ (o : Instance). cell_of l o.model) (sym owner) ∙ x.found) x.listed x.drive.function class ends

    takes : TakesTo (IsStart (changed n x.place x.sets.was x.now.name)) (IsStep (changed n x.place x.sets.was x.now.name) l BeginsThere) (IsStep (changed n x.place x.sets.was x.now.name) l GoesThrough) class
        (sum_by (λ (s : Step). s.delay) steps)
    takes = record {
      path = steps;
      leads = leads_by n (changed n x.place x.sets.was x.now.name) l (λ c s. start_kept n l x.place x.sets.was x.now.name x.sets.stood c s) class p.path steps stands p.leads;
      sum = refl;
    }

-- ---- steps

begins_too : (f g : Function) (pin : Name) → IsSameFunction f g → BeginsThere f pin → BeginsThere g pin
begins_too (gate e) g pin same h = absurd h
begins_too (flip_flop d k) (gate e) pin same h = absurd same
begins_too (flip_flop d k) (flip_flop b j) pin same h = h ∙ sym same.1
begins_too (flip_flop d k) (other m) pin same h = absurd same
begins_too (flip_flop d k) opaque pin same h = absurd same
begins_too (other m) g pin same h = absurd h
begins_too opaque g pin same h = absurd h

goes_too : (f g : Function) (pin : Name) → IsSameFunction f g → GoesThrough f pin → GoesThrough g pin
goes_too (gate e) (gate x) pin same h = tt
goes_too (gate e) (flip_flop d k) pin same h = absurd same
goes_too (gate e) (other m) pin same h = absurd same
goes_too (gate e) opaque pin same h = absurd same
goes_too (flip_flop d k) g pin same h = absurd h
goes_too (other m) g pin same h = absurd h
goes_too opaque g pin same h = absurd h

has_too : (c d : Cell) → pin_ports d ≡ pin_ports c → (way : Dir) (name : Name) → HasPin c.pins way name → HasPin d.pins way name
has_too c d same way name h =
    let s = subst (λ (ps : List Port). Stands ps h.listed.0 h.pin.port) (sym same) (mapped (λ (p : Pin). p.port) c.pins h.listed.0 h.pin h.listed.1) in
    let u = unmapped (λ (p : Pin). p.port) d.pins h.listed.0 h.pin.port s in
    record { pin = u.0; listed = (h.listed.0, u.1); named = ap (λ (q : Port). q.name) u.2 ∙ h.named; is = ap (λ (q : Port). q.dir) u.2 ∙ h.is }

-- what allows a step is a beginning or a going on
module _ (l : Library) (n : Netlist) (place : ℕ) (was : Instance) (stood : Stands n.instances place was) (c d : Cell) (found : cell_of l was.model ≡ Some c)
    (listed : cell_of l d.name ≡ Some d) (drive : IsDrive c d) (whole : HasItsArcs d)
    (Allows : Function → Name → Type 0) (allows_too : (f g : Function) (pin : Name) → IsSameFunction f g → Allows f pin → Allows g pin)
    (either : (f : Function) (pin : Name) → Allows f pin → BeginsThere f pin ⊎ GoesThrough f pin) where
  abbrev now : Netlist
  now = changed n place was d.name

  abbrev timed_by : Step → Arc → Step
  timed_by s a = record { from = s.from; to = s.to; delay = arc_delay a (load now l s.to) }

  step_at : (owner : List ℕ) (e : Cell) (a : Arc) (s : Step) → HasClass n (pin_of owner a.from) s.from → HasClass n (pin_of owner a.to) s.to
      → Allows e.function a.from → HasPin e.pins dir.In a.from → HasPin e.pins dir.Out a.to → IsStepAt now (load now l) Allows owner e a (timed_by s a)
  step_at owner e a s from to allowed takes gives = record {
    allowed = allowed;
    takes = takes;
    gives = gives;
    from = has_kept n l place was d.name stood (pin_of owner a.from) s.from from;
    to = has_kept n l place was d.name stood (pin_of owner a.to) s.to to;
    delay = refl;
  }

  step_stays : (s : Step) → IsStep n l Allows s → (t : Step) × IsStep now l Allows t × (t.from ≡ s.from) × (t.to ≡ s.to)
  step_stays s h = by (nat_eq h.listed.0 place) refl where
    by : (b : Bool) → nat_eq h.listed.0 place ≡ b → (t : Step) × IsStep now l Allows t × (t.from ≡ s.from) × (t.to ≡ s.to)
    by false e = (
      timed_by s h.arc,
      record {
        owner = h.owner;
        listed = (h.listed.0, stands_other n.instances place h.listed.0 h.owner (with_model was d.name) (apart_of h.listed.0 place e) h.listed.1);
        cell = h.cell;
        found = h.found;
        arc = h.arc;
        has = h.has;
        is = step_at h.owner.name h.cell h.arc s h.is.from h.is.to h.is.allowed h.is.takes h.is.gives;
      },
      refl,
      refl,
    )
    by true e =
        let owner : h.owner ≡ was = stands_same n.instances place h.owner was (subst (λ k. Stands n.instances k h.owner) (eqb-true h.listed.0 place e) h.listed.1) stood in
        let cell : h.cell ≡ c = (let f : Some h.cell ≡ Some c = sym h.found ∙ ap (λ (o : Instance). cell_of l o.model) owner ∙ found in cc) in
        let allowed : Allows d.function h.arc.from = allows_too c.function d.function h.arc.from drive.function (subst (λ (x : Cell). Allows x.function h.arc.from) cell h.is.allowed) in
        let takes : HasPin d.pins dir.In h.arc.from = has_too c d drive.pins dir.In h.arc.from (subst (λ (x : Cell). HasPin x.pins dir.In h.arc.from) cell h.is.takes) in
        let gives : HasPin d.pins dir.Out h.arc.to = has_too c d drive.pins dir.Out h.arc.to (subst (λ (x : Cell). HasPin x.pins dir.Out h.arc.to) cell h.is.gives) in
        let a = whole.one h.arc.from h.arc.to (either d.function h.arc.from allowed) takes gives in (
          timed_by s a.1,
          record {
            owner = with_model was d.name;
            listed = (place, stands_set n.instances place was (with_model was d.name) stood);
            cell = d;
            found = listed;
            arc = a.1;
            has = (a.0, a.2);
            is = step_at was.name d a.1 s
                (subst (λ (m : Name). HasClass n (pin_of was.name m) s.from) (sym a.3) (subst (λ (o : Instance). HasClass n (pin_of o.name h.arc.from) s.from) owner h.is.from))
                (subst (λ (m : Name). HasClass n (pin_of was.name m) s.to) (sym a.4) (subst (λ (o : Instance). HasClass n (pin_of o.name h.arc.to) s.to) owner h.is.to))
                (subst (λ (m : Name). Allows d.function m) (sym a.3) allowed)
                (subst (λ (m : Name). HasPin d.pins dir.In m) (sym a.3) takes)
                (subst (λ (m : Name). HasPin d.pins dir.Out m) (sym a.4) gives);
          },
          refl,
          refl,
        )

goes_either : (f : Function) (pin : Name) → GoesThrough f pin → BeginsThere f pin ⊎ GoesThrough f pin
goes_either f pin h = inr h

begins_either : (f : Function) (pin : Name) → BeginsThere f pin → BeginsThere f pin ⊎ GoesThrough f pin
begins_either f pin h = inl h

pub steps_stay : StepsStay
steps_stay l n m x whole s = (one, two) where
  owner : x.owner ≡ x.sets.was
  owner = stands_same n.instances x.place x.owner x.sets.was x.stands x.sets.stood

  found : cell_of l x.sets.was.model ≡ Some x.was
  found = ap (λ (o : Instance). cell_of l o.model) (sym owner) ∙ x.found

  one : IsStep n l BeginsThere s → (t : Step) × IsStep m l BeginsThere t × (t.from ≡ s.from) × (t.to ≡ s.to)
  one h = subst (λ (k : Netlist). (t : Step) × IsStep k l BeginsThere t × (t.from ≡ s.from) × (t.to ≡ s.to)) (sym x.sets.now)
      (step_stays l n x.place x.sets.was x.sets.stood x.was x.now found x.listed x.drive (whole x.now.name x.now x.listed x.usable) BeginsThere begins_too begins_either s h)

  two : IsStep n l GoesThrough s → (t : Step) × IsStep m l GoesThrough t × (t.from ≡ s.from) × (t.to ≡ s.to)
  two h = subst (λ (k : Netlist). (t : Step) × IsStep k l GoesThrough t × (t.from ≡ s.from) × (t.to ≡ s.to)) (sym x.sets.now)
      (step_stays l n x.place x.sets.was x.sets.stood x.was x.now found x.listed x.drive (whole x.now.name x.now x.listed x.usable) GoesThrough goes_too goes_either s h)
