-- What mapping gives.
use Rattle.std.proofs.Common.{◌≡◌, ◌↔◌, ℕ, zero, suc, ◌+◌, ◌*◌, ◌^◌, ◌<◌, ◌≤◌, Bool, true, false, ◌&&◌, List, [], ◌∷◌, length, map, filter, refl, sym, ◌∙◌, ap, subst, arith, Option, None, Some, length-append, if◌then◌else◌}
use Rattle.std.specs.Prelude.{IsTrue, IfOk, Result, Ok, Err, sum_by}
use Rattle.vlsi_base.specs.declared.name.Name.{Name}
use Rattle.vlsi_base.specs.declared.name.Port.{Port}
use Rattle.vlsi_base.specs.declared.name.Terminal.{Terminal}
use Rattle.vlsi_base.specs.Names.{vdd, vss}
use Rattle.machine_core.specs.Machine.{Machine, inputs, names_of}
use Rattle.machine_core.specs.Named.{is_same_text, is_same_name}
use Rattle.machine_core.specs.Checked.{IsChecked}
use Rattle.machine_core.proofs.Names.{same_name-true, same_name-itself}
use Rattle.cell_model.specs.Cell.{Cell}
use Rattle.cell_model.specs.Library.{Library, cell_of}
use Rattle.cell_model.proofs.Texts.{text_same, text_itself}
use Rattle.cell_checks.specs.Checked.{IsChecked as HasPassed, library_of}
use Rattle.cell_pins.specs.Pins.{with_supply, all_ports}
use Rattle.net_core.specs.Places.{Stands, IsThere, NoneTwice}
use Rattle.net_core.specs.Netlist.{Instance, Netlist as InMemory, IsNetlist, terminals, HasClass}
use Rattle.net_core.specs.Joins.{Joined, IsFinished}
use Rattle.net_core.proofs.Frames.{unmapped}
use Rattle.net_core.proofs.Finishing.{netlist_terminals_once}
use Rattle.net_meaning.specs.Netlist.{AbstractNetlist}
use Rattle.net_theory.specs.Sources.{IsNumber}
use Rattle.net_theory.proofs.Basics.{length-map, listed, length-listed, bit-listed}
use Rattle.net_right.specs.View.{IsSeenAs, netlist_by}
use Rattle.net_right.specs.Right.{IsRightNetlist, HasPinsOfCells}
use Rattle.cell_match.specs.declared.gate.Gate.{Gate}
use Rattle.boog_cover.specs.Covered.{IsCovered}
use Rattle.graph_theory.specs.Graph.{Graph, held_count, graph_values, graph_roots}
use Rattle.graph_theory.specs.Maps.{Maps}
use Rattle.graph_theory.proofs.Values.{graph_means}
use Rattle.graph_theory.proofs.Shown.{mapped_shows}
use Rattle.graph_theory.proofs.Ordered.{mapped_is_lean, names, mapped_after}
use Rattle.subject_graph.specs.Subject.{IsSubjectGraph}
use Rattle.boog_map.specs.declared.choice.Parts.{Parts}
use Rattle.boog_map.specs.declared.place.Signal.{Signal}
use Rattle.boog_map.specs.declared.place.Spot.{Spot}
use Rattle.boog_map.specs.declared.build.Sketch.{Sketch}
use Rattle.boog_map.specs.Reached.{IsReached}
use Rattle.boog_map.specs.Netlist.{has_registers, HasRoomForCells, StandsInOrder, HasOneCellAtMost, HasFewInputs, IsLeanFor, IsTightFor}
use Rattle.boog_map.specs.Tied.{AreParts, gate_words}
use Rattle.boog_map.specs.Draft.{instance_of, register_spots, gate_spots, join_of, draft_by, IsDrawable}
use Rattle.boog_map.specs.Mapped.{root_numbers, node_gates, spots_of, IsSketch, IsMapped}
use Rattle.boog_map.proofs.Dropped.{undropped, dropped_count}
use Rattle.boog_map.proofs.Marks.{Marks, marks_of, needed_reached}
use Rattle.boog_map.proofs.Roles.{AreRoles, roles}
use Rattle.boog_map.proofs.Spots.{register_count, marked_count}
use Rattle.boog_map.proofs.Carrying.{tight}
use Rattle.boog_map.proofs.Driven.{told}
use Rattle.boog_map.proofs.Drawable.{drawable, instances_are, signals_are, few_count, few_pins}
use Rattle.boog_map.proofs.Seating.{maps, found, sourced}

-- ---- the class of each terminal

is_same_owner : Option (List ℕ) → Option (List ℕ) → Bool
is_same_owner None None = true
is_same_owner (Some a) (Some b) = is_same_text a b
is_same_owner None (Some b) = false
is_same_owner (Some a) None = false

is_same_terminal : Terminal → Terminal → Bool
is_same_terminal a b = is_same_owner a.instance b.instance && is_same_name a.pin b.pin

owner_same : (a b : Option (List ℕ)) → is_same_owner a b ≡ true → a ≡ b
unfolding is_same_owner
owner_same None None h = refl
owner_same (Some a) (Some b) h = ap Some (text_same a b h)
owner_same None (Some b) h = absurd (cc h)
owner_same (Some a) None h = absurd (cc h)

owner_itself : (a : Option (List ℕ)) → is_same_owner a a ≡ true
unfolding is_same_owner
owner_itself None = refl
owner_itself (Some a) = text_itself a

both : (a b : Bool) → (a && b) ≡ true → (a ≡ true) × (b ≡ true)
both true true h = (refl, refl)
both true false h = absurd (cc h)
both false b h = absurd (cc h)

terminal_same : (a b : Terminal) → is_same_terminal a b ≡ true → a ≡ b
unfolding is_same_terminal
terminal_same a b h =
    let p = both (is_same_owner a.instance b.instance) (is_same_name a.pin b.pin) h in
    let made : Option (List ℕ) → Name → Terminal = λ o x. record { instance = o; pin = x } in
    ap (λ (o : Option (List ℕ)). made o a.pin) (owner_same a.instance b.instance p.0) ∙ ap (made b.instance) (same_name-true a.pin b.pin p.1)

terminal_itself : (a : Terminal) → is_same_terminal a a ≡ true
unfolding is_same_terminal
terminal_itself a = rw (owner_itself a.instance, same_name-itself a.pin) refl

class_at : List Terminal → List ℕ → Terminal → ℕ
class_at [] ks t = 0
class_at (u ∷ us) [] t = 0
class_at (u ∷ us) (k ∷ ks) t = if is_same_terminal u t then k else class_at us ks t

class_is : (us : List Terminal) (ks : List ℕ) (t : Terminal) (i k : ℕ) → NoneTwice us → Stands us i t → Stands ks i k → class_at us ks t ≡ k
unfolding class_at
class_is [] ks t i k once p q = absurd cc
class_is (u ∷ us) [] t i k once p q = absurd cc
class_is (u ∷ us) (c ∷ ks) t i k once p q = by (λ i p q. class_is us ks t i k later p q) (is_same_terminal u t) refl i p q where
  later : NoneTwice us
  later x y z a b = let h : suc x ≡ suc y = once (suc x) (suc y) z a b in omega (arith, h)

  by : ((i : ℕ) → Stands us i t → Stands ks i k → class_at us ks t ≡ k) → (b : Bool) → is_same_terminal u t ≡ b → (i : ℕ) → Stands (u ∷ us) i t → Stands (c ∷ ks) i k → (if b then c else class_at us ks t) ≡ k
  by rest true e zero p q = cc
  by rest true e (suc i) p q =
      let same : u ≡ t = terminal_same u t e in
      let twice : suc i ≡ 0 = once (suc i) 0 t p (ap Some same) in absurd (omega (arith, twice))
  by rest false e zero p q = let same : u ≡ t = cc in absurd (let yes = subst (λ (x : Terminal). is_same_terminal u x ≡ true) same (terminal_itself u) in let no : true ≡ false = sym yes ∙ e in cc)
  by rest false e (suc i) p q = rest i p q

abbrev class_of : InMemory → Terminal → ℕ
class_of n t = class_at (terminals n) n.classes t

seen_by : (n : InMemory) → IsNetlist n → IsSeenAs n (netlist_by (class_of n) n)
seen_by n sound = record {
  is = refl;
  classes = record { each = λ t k h. class_is (terminals n) n.classes t h.0 k (netlist_terminals_once n sound) h.1 h.2 };
}

-- ---- the netlist

module _ (m : Machine) (checked : IsChecked m) (g : Graph) (sub : IsSubjectGraph m g) (l : Library) (passed : HasPassed false l) (room : HasRoomForCells m)
    (ps : Parts) (parts : AreRoles l.cells (has_registers m) ps) (gs : List (Option Gate))
    (cov : IsCovered (gate_words ps) (held_count m) g.nodes (root_numbers g) gs) (k : Sketch) (sk : IsSketch m g ps gs k) where
  pub can_draw : IsDrawable (with_supply vss (with_supply vdd m.ports)) k
  can_draw = drawable m checked g sub l passed ps parts gs cov k sk.parts sk.spots sk.drivers sk.ports room

  module _ (n : InMemory) (finished : IsFinished (draft_by m.name (with_supply vss (with_supply vdd m.ports)) k) n) (sound : IsNetlist n) where
    abbrev spots : List Spot
    spots = spots_of m g gs

    instances_is : n.instances ≡ map (instance_of ps) spots
    instances_is = finished.instances ∙ instances_are m checked g sub l passed ps parts gs cov k sk.parts sk.spots sk.drivers sk.ports

    joined : (a b : Terminal) (i j : ℕ) → HasClass n a i → HasClass n b j
        → (i ≡ j) ↔ Joined (map (join_of k.drivers) (told m checked g sub l passed ps parts gs cov)) a b
    joined =
        subst (λ (ts : List (Terminal × Signal)). (a b : Terminal) (i j : ℕ) → HasClass n a i → HasClass n b j → (i ≡ j) ↔ Joined (map (join_of k.drivers) ts) a b)
        (signals_are m checked g sub l passed ps parts gs cov k sk.parts sk.spots sk.drivers sk.ports) finished.classes

    few : length spots < 2 ^ 32
    few = few_count m checked g sub l passed ps parts gs cov room

    abbrev source_netlist : AbstractNetlist → Type 0
    source_netlist x = IsSeenAs n x

    maps_it : (x : AbstractNetlist) (seen : IsSeenAs n x)
        → Maps (sourced m checked g sub l passed ps parts gs cov k.drivers sk.drivers n sound finished.ports instances_is joined x seen) l m g
    maps_it x seen = maps m checked g sub l passed ps parts gs cov k.drivers sk.drivers n sound finished.ports instances_is joined x seen few

    right : IsRightNetlist n l m
    right =
        let x = netlist_by (class_of n) n in
        let seen = seen_by n sound in
        record {
          name = finished.name;
          ports = finished.ports;
          sourced = sourced m checked g sub l passed ps parts gs cov k.drivers sk.drivers n sound finished.ports instances_is joined x seen;
          seen = seen;
          values = graph_values g;
          roots = graph_roots g;
          shows =
              mapped_shows (sourced m checked g sub l passed ps parts gs cov k.drivers sk.drivers n sound finished.ports instances_is joined x seen) l m g sub.apart
              (maps_it x seen);
          means = graph_means m g sub.graph;
        }

    -- an instance is that of a spot
    of_spot : (i : Instance) → IsThere n.instances i → (s : Spot) × (instance_of ps s ≡ i)
    of_spot i h =
        let there_is = subst (λ (is : List Instance). IsThere is i) instances_is h in
        let u = unmapped (instance_of ps) spots there_is.0 i there_is.1 in
        (u.0, u.2)

    pins : HasPinsOfCells n l
    pins i c h is =
        let s = of_spot i h in
        let cell : Some (parts.each s.0.role).cell ≡ Some c =
        sym (found m checked g sub l passed ps parts gs cov k.drivers sk.drivers n sound finished.ports instances_is joined s.0.role)
        ∙ ap (λ (x : Instance). cell_of l x.model) s.1 ∙ is in
        let same : (parts.each s.0.role).cell ≡ c = cc cell in
        ap (λ (x : Instance). x.pins) (sym s.1) ∙ (parts.each s.0.role).is_part.pins ∙ ap (λ (x : Cell). names_of (all_ports x)) same

    order : StandsInOrder n l m
    order x seen =
        let z = sourced m checked g sub l passed ps parts gs cov k.drivers sk.drivers n sound finished.ports instances_is joined x seen in
        let is = maps_it x seen in
        record {
          gates = length is.gates;
          names = names z l m g is;
          after = mapped_after z l m g is;
        }

    most : HasOneCellAtMost n m g
    most = by (marks_of (held_count m) g sub.graph.earlier) where
      by : Marks (held_count m) g → HasOneCellAtMost n m g
      by marks = record {
        reached = listed (length g.nodes) (λ j. marks.marks (held_count m + j));
        many = length-listed (length g.nodes) (λ j. marks.marks (held_count m + j));
        each = λ j low.
            subst (λ (b : Bool). IsTrue b ↔ IsReached (held_count m) g (held_count m + j)) (sym (bit-listed (length g.nodes) (λ i. marks.marks (held_count m + i)) j low))
            (marks.each (held_count m + j));
        count =
            let a = ap length instances_is in
            let b = length-map (instance_of ps) spots in
            let c = length-append (register_spots (length (inputs m)) 0 g.loads) (gate_spots (held_count m) 0 (node_gates m gs)) in
            let d = register_count (length (inputs m)) 0 g.loads in
            let e = sub.roots.each in
            let f = marked_count (held_count m) 0 (node_gates m gs) (λ j. marks.marks (held_count m + j)) marked in
            let size = dropped_count (held_count m) (length g.nodes) gs cov.long in
            let P : ℕ → Type 0 = λ x. length (gate_spots (held_count m) 0 (node_gates m gs)) ≤ length (filter (λ b. b) (listed x (λ j. marks.marks (held_count m + j)))) in
            let h = subst P size f in
            omega (arith, a, b, c, d, e, h);
      } where
        marked : (i : ℕ) (x : Gate) → IsNumber (node_gates m gs) i (Some x) → marks.marks (held_count m + i) ≡ true
        marked i x h =
            let at = undropped (held_count m) gs i (held_count m + i) x refl h in
            (marks.each (held_count m + i)).1
            (needed_reached (held_count m) g (held_count m + i) (cov.below (held_count m + i) (cov.needed (held_count m + i) x at)))

    few_inputs : HasFewInputs n m g
    few_inputs =
        subst (λ (is : List Instance). sum_by (λ (i : Instance). length i.pins) is ≤ 3 * length is + 2 * (length m.registers + length g.nodes)) (sym instances_is)
        (let sum = few_pins m checked g sub l passed ps parts gs cov in let size = length-map (instance_of ps) spots in omega (arith, sum, size))

    tight_for : IsTightFor n l
    tight_for x seen = tight m checked g sub l passed ps parts gs cov k.drivers sk.drivers n sound finished.ports instances_is joined x seen room

    lean : IsLeanFor n m
    lean x seen =
        mapped_is_lean (sourced m checked g sub l passed ps parts gs cov k.drivers sk.drivers n sound finished.ports instances_is joined x seen) l m g
        (maps_it x seen) sub.small

    pub is_mapped : IsMapped n l m g
    is_mapped = record { right = right; pins = pins; order = order; most = most; few = few_inputs; lean = lean; tight = tight_for; sound = sound }

pub ok_both : {T E : Type 0} {P Q R : T → Type 0} (r : Result T E) → ((x : T) → P x → Q x → R x) → IfOk r P → IfOk r Q → IfOk r R
ok_both (Ok x) f p q = f x p q
ok_both (Err e) f p q = tt

-- what is said of the cells of a library
pub of_library : (cells : List Cell) (l : Library) → library_of cells ≡ l → (P : List Cell → Type 0) → P l.cells → P cells
of_library cells l is P h = subst P (sym (ap (λ (x : Library). x.cells) is)) h

-- the roles of a library's cells
pub roles_of_library : (cells : List Cell) (l : Library) (m : Machine) (b : Bool) (ps : Parts) → library_of cells ≡ l → b ≡ has_registers m
    → AreParts (library_of cells) b ps → AreRoles l.cells (has_registers m) ps
roles_of_library cells l m b ps is same h =
    roles l (has_registers m) ps
    (subst (λ (x : Library). AreParts x (has_registers m) ps) is (subst (λ (r : Bool). AreParts (library_of cells) r ps) same h))

module _ (m : Machine) (checked : IsChecked m) (g : Graph) (sub : IsSubjectGraph m g) (l : Library) (passed : HasPassed false l) (room : HasRoomForCells m) (ps : Parts)
    (parts : AreRoles l.cells (has_registers m) ps) (gs : List (Option Gate)) (cov : IsCovered (gate_words ps) (held_count m) g.nodes (root_numbers g) gs)
    (k : Sketch) (sk : IsSketch m g ps gs k) (ports : List Port) (is_ports : ports ≡ with_supply vss (with_supply vdd m.ports)) where
  -- the netlist of what was lent
  pub lent_draw : IsDrawable ports k
  lent_draw = subst (λ (xs : List Port). IsDrawable xs k) (sym is_ports) (can_draw m checked g sub l passed room ps parts gs cov k sk)

  pub lent_mapped : (name : List ℕ) → name ≡ m.name → (n : InMemory) → IsFinished (draft_by name ports k) n → IsNetlist n → IsMapped n l m g
  lent_mapped name is_name n finished sound =
      is_mapped m checked g sub l passed room ps parts gs cov k sk n
      (subst (λ (xs : List Port). IsFinished (draft_by m.name xs k) n) is_ports (subst (λ (t : List ℕ). IsFinished (draft_by t ports k) n) is_name finished)) sound
