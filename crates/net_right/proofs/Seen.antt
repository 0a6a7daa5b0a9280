-- A right netlist is well formed and behaves as its machine, as each netlist that it is seen as.
use Rattle.std.proofs.Common.{◌≡◌, ℕ, ◌<◌, List, Some, sym, ◌∙◌, subst, arith}
use Rattle.std.proofs.lemmas.Option.{slice_get_within}
use Rattle.vlsi_base.specs.declared.name.Name.{Name}
use Rattle.vlsi_base.specs.declared.name.Terminal.{Terminal}
use Rattle.vlsi_base.specs.Member.{In}
use Rattle.machine_core.specs.Machine.{Machine}
use Rattle.machine_core.specs.Checked.{IsChecked}
use Rattle.net_core.specs.Places.{IsThere}
use Rattle.net_core.specs.Netlist.{Instance, Netlist as InMemory, IsNetlist, terminals, HasClass}
use Rattle.net_core.proofs.Namings.{turn_reached}
use Rattle.net_core.proofs.Rings.{at_place, class_below}
use Rattle.cell_model.specs.Cell.{Cell}
use Rattle.cell_model.specs.Library.{Library, cell_of, IsUsable}
use Rattle.cell_model.proofs.Members.{In-map}
use Rattle.cell_pins.proofs.Sound.{member_at as in_from_place}
use Rattle.net_meaning.specs.Netlist.{Member, AbstractNetlist, IsTerminal}
use Rattle.net_meaning.specs.Laws.{AreSame}
use Rattle.net_meaning.specs.Well.{IsWell}
use Rattle.net_meaning.specs.Agreement.{Agrees}
use Rattle.net_theory.specs.Sources.{Sourced}
use Rattle.net_theory.specs.Laws.{IsCounted}
use Rattle.net_theory.proofs.Well.{is_well}
use Rattle.net_theory.proofs.Behave.{agrees}
use Rattle.net_theory.proofs.Elsewhere.{moved_source, moved}
use Rattle.net_right.specs.View.{member_of, IsSeenAs}
use Rattle.net_right.specs.Right.{IsRightNetlist, HasPinsOfCells}
use Rattle.net_right.specs.Laws.{RightIsWellFormed, SeenIsWellFormed}
use Rattle.net_right.proofs.Places.{has_class}
use Rattle.net_right.proofs.Terminals.{seen_ports, seen_instances, seen_classes, IsCelled, terminal_there, there_terminal}

pub right_well : (n : InMemory) (l : Library) (m : Machine) → IsChecked m → (r : IsRightNetlist n l m) → IsWell r.sourced.netlist l m
right_well n l m checked r = is_well r.sourced l m r.values r.roots checked r.shows

pub right_is_well_formed : RightIsWellFormed
right_is_well_formed n l m checked r = (right_well n l m checked r, agrees r.sourced l m r.values r.roots checked r.shows r.means)

-- an instance is one of the netlist that a right one is seen as, and its cell is usable
pub right_member : (n : InMemory) (l : Library) (m : Machine) (r : IsRightNetlist n l m) (i : Instance) → IsThere n.instances i → In (member_of i) r.sourced.netlist.instances
right_member n l m r i t =
    subst (λ (ms : List Member). In (member_of i) ms) (sym (seen_instances n r.sourced.netlist r.seen)) (In-map member_of i n.instances (in_from_place n.instances t.0 i t.1))

pub right_cell : (n : InMemory) (l : Library) (m : Machine) → IsChecked m → (r : IsRightNetlist n l m) (i : Instance) → IsThere n.instances i
    → (c : Cell) × (cell_of l i.model ≡ Some c) × IsUsable c
right_cell n l m checked r i t = (right_well n l m checked r).models (member_of i) (right_member n l m r i t)

pub right_celled : (n : InMemory) (l : Library) (m : Machine) → IsChecked m → (r : IsRightNetlist n l m) → HasPinsOfCells n l → (i : Instance) → IsThere n.instances i → IsCelled l i
right_celled n l m checked r pins i t =
    let c = right_cell n l m checked r i t in
    record { cell = c.0; found = c.1; connected = c.2.connectors; pins = pins i c.0 t c.1 }

-- the class of a terminal, as it is seen
pub seen_class : (n : InMemory) (k : AbstractNetlist) → IsNetlist n → IsSeenAs n k → (t : Terminal) → IsThere (terminals n) t → HasClass n t (k.class t)
seen_class n k is seen t h =
    let c = has_class n is t h in
    subst (λ (j : ℕ). HasClass n t j) (sym (seen.classes.each t c.0 c.1)) c.1

module _ (n : InMemory) (l : Library) (m : Machine) (k : AbstractNetlist) (is : IsNetlist n) (checked : IsChecked m) (r : IsRightNetlist n l m) (pins : HasPinsOfCells n l) (seen : IsSeenAs n k) where
  abbrev first : AbstractNetlist
  first = r.sourced.netlist

  there : (t : Terminal) → IsTerminal first l t → IsThere (terminals n) t
  there t h = terminal_there n l first r.seen (right_celled n l m checked r pins) t h

  again : (t : Terminal) → IsThere (terminals n) t → IsTerminal k l t
  again t h = there_terminal n l k seen (right_celled n l m checked r pins) t h

  one_class : (t : Terminal) → IsThere (terminals n) t → first.class t ≡ k.class t
  one_class t h = let c = has_class n is t h in r.seen.classes.each t c.0 c.1 ∙ sym (seen.classes.each t c.0 c.1)

  one_ports : first.ports ≡ k.ports
  one_ports = seen_ports n first r.seen ∙ sym (seen_ports n k seen)

  same : AreSame l first k
  same = record {
    ports = λ name. (λ h. subst (λ (ns : List Name). In name ns) one_ports h, λ h. subst (λ (ns : List Name). In name ns) (sym one_ports) h);
    instances = seen_instances n first r.seen ∙ sym (seen_instances n k seen);
    terminals = λ t. (
      λ h. again t (there t h),
      λ h. there_terminal n l first r.seen (right_celled n l m checked r pins) t (terminal_there n l k seen (right_celled n l m checked r pins) t h),
    );
    classes = λ a b is_a is_b.
        let p = one_class a (there a is_a) in
        let q = one_class b (there b is_b) in
        (λ e. sym p ∙ e ∙ q, λ e. p ∙ e ∙ sym q);
  }

  counted : IsCounted l k
  counted = record {
    numbered = λ t h.
        let c = seen_class n k is seen t (terminal_there n l k seen (right_celled n l m checked r pins) t h) in
        subst (λ (j : ℕ). k.class t < j) (sym (seen_classes n k seen)) (class_below n is t (k.class t) c);
    used = λ c low. used c (subst (λ (j : ℕ). c < j) (seen_classes n k seen) low);
  } where
    used : (c : ℕ) → c < n.count → (t : Terminal) × IsTerminal k l t × (k.class t ≡ c)
    used c low =
        let p = turn_reached 0 n.count c n.classes is.turns (omega arith) low in
        let inside = slice_get_within n.classes p.0 c p.1 in
        let many = is.each in
        let t = at_place (terminals n) p.0 (omega (arith, inside, many)) in
        (t.0, again t.0 (p.0, t.1), seen.classes.each t.0 c (p.0, t.1, p.1))

  abbrev renumbered : Sourced
  renumbered = record { netlist = k; source = moved_source r.sourced k l m r.values r.roots checked r.shows same counted; rank = r.sourced.rank }

  pub as_seen : IsWell k l m × Agrees k l m
  as_seen =
      let shows = moved r.sourced k l m r.values r.roots checked r.shows same counted in
      (is_well renumbered l m r.values r.roots checked shows, agrees renumbered l m r.values r.roots checked shows r.means)

pub seen_is_well_formed : SeenIsWellFormed
seen_is_well_formed n l m k is checked r pins seen = as_seen n l m k is checked r pins seen
