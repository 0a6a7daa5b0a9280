-- What follows of the netlist of a layout.
use Rattle.std.proofs.Common.{◌≡◌, inl, ℕ, ◌<◌, Bool, true, List, map, Some, All, refl, sym, ap, subst, ◌∙◌, arith}
use Rattle.std.proofs.lemmas.Option.{slice_get_within}
use Rattle.vlsi_base.specs.declared.name.Name.{Name}
use Rattle.vlsi_base.specs.declared.name.Terminal.{Terminal}
use Rattle.vlsi_base.specs.Member.{In}
use Rattle.ap_io.specs.declared.figure.Figure.{Figure}
use Rattle.sym_geom.specs.declared.item.Instance.{Instance as Placed}
use Rattle.cell_model.specs.Connectors.{PinsAreConnectors}
use Rattle.cell_model.specs.Layout.{instances_of}
use Rattle.cell_model.specs.Library.{Library, cell_of}
use Rattle.cell_model.proofs.Members.{In-map_back, All-In, All-from}
use Rattle.cell_checks.specs.Checked.{IsChecked as HasPassed}
use Rattle.cell_checks.specs.declared.verdict.Check.TheVariants as check
use Rattle.cell_pins.specs.Pins.{all_ports}
use Rattle.cell_pins.specs.Table.{IsListed, IsTableOf}
use Rattle.cell_pins.proofs.Sound.{member_at, pin_names}
use Rattle.net_core.specs.declared.pins.ModelPin.{ModelPin}
use Rattle.net_core.specs.declared.pins.ModelPins.{ModelPins}
use Rattle.net_core.specs.Places.{IsThere}
use Rattle.net_core.specs.Netlist.{Instance, Netlist as InMemory, HasClass, terminals}
use Rattle.net_core.specs.Checks.{pins_named, Fits, IsPinTable}
use Rattle.net_core.proofs.Namings.{turn_reached}
use Rattle.net_core.proofs.Rings.{at_place, class_below}
use Rattle.net_meaning.specs.Netlist.{AbstractNetlist, IsTerminal, Extracts}
use Rattle.net_right.specs.View.{member_of, IsSeenAs}
use Rattle.net_right.specs.Right.{HasPinsOfCells}
use Rattle.net_right.proofs.Lists.{map_twice, in_place}
use Rattle.net_right.proofs.Models.{named_cell, HasModel, model_found}
use Rattle.net_right.proofs.Seen.{seen_class}
use Rattle.net_right.proofs.Terminals.{IsCelled, seen_ports, seen_instances, seen_classes, terminal_there, there_terminal}
use Rattle.cougar_extract.specs.Extracted.{instance_of, pins_of_cell, IsExtracted}
use Rattle.cougar_extract.specs.Laws.{ExtractedIsGiven, ExtractedHasPins, ExtractedFits}

-- ---- instances with their cells

module _ (f : Figure) (l : Library) (n : InMemory) (is : IsExtracted f l n) where
  -- an instance of the netlist is one of the figure
  pub record IsOwn (i : Instance) : Type 0 where
    pub placed : Placed
    pub listed : In placed (instances_of f.items)
    pub same : instance_of l placed ≡ i

  own_of : (i : Instance) → IsThere n.instances i → IsOwn i
  own_of i h =
      let r = In-map_back (instance_of l) i (instances_of f.items) (subst (λ (xs : List Instance). In i xs) is.instances (member_at n.instances h.0 i h.1)) in
      record { placed = r.0; listed = r.1; same = r.2 }

  pub has_pins : HasPinsOfCells n l
  has_pins i c h found =
      let o = own_of i h in
      let model : o.placed.model ≡ i.model = ap (λ (x : Instance). x.model) o.same in
      let own : cell_of l o.placed.model ≡ Some c = ap (cell_of l) model ∙ found in
      sym (ap (λ (x : Instance). x.pins) o.same) ∙ ap pins_of_cell own

  pub celled : (tracks : Bool) → HasPassed tracks l → (i : Instance) → IsThere n.instances i → IsCelled l i
  celled tracks passed i h =
      let o = own_of i h in
      let c = is.known o.placed o.listed in
      let found : cell_of l i.model ≡ Some c.0 = ap (λ (x : Instance). cell_of l x.model) (sym o.same) ∙ c.1 in
      let connected : All PinsAreConnectors l.cells = λ k d low. (passed.passes k d low).0 check.Connectors in
      record {
        cell = c.0;
        found = found;
        connected = All-In PinsAreConnectors l.cells connected c.0 (named_cell l.cells i.model c.0 found).0;
        pins = has_pins i c.0 h found;
      }

  -- ---- the netlist that it is seen as

  module _ (tracks : Bool) (passed : HasPassed tracks l) (k : AbstractNetlist) (seen : IsSeenAs n k) where
    there_of : (t : Terminal) → IsTerminal k l t → IsThere (terminals n) t
    there_of t h = terminal_there n l k seen (celled tracks passed) t h

    class_of : (t : Terminal) → IsTerminal k l t → HasClass n t (k.class t)
    class_of t h = seen_class n k is.sound seen t (there_of t h)

    members : k.instances ≡ map (λ i. record { name = i.name; model = i.model }) (instances_of f.items)
    members = seen_instances n k seen ∙ ap (map member_of) is.instances ∙ map_twice member_of (instance_of l) (instances_of f.items)

    numbered : (t : Terminal) → IsTerminal k l t → k.class t < k.classes
    numbered t h = subst (λ (j : ℕ). k.class t < j) (sym (seen_classes n k seen)) (class_below n is.sound t (k.class t) (class_of t h))

    used : (c : ℕ) → c < n.count → (t : Terminal) × IsTerminal k l t × (k.class t ≡ c)
    used c low =
        let p = turn_reached 0 n.count c n.classes is.sound.turns (omega arith) low in
        let inside = slice_get_within n.classes p.0 c p.1 in
        let many = is.sound.each in
        let t = at_place (terminals n) p.0 (omega (arith, inside, many)) in
        (t.0, there_terminal n l k seen (celled tracks passed) t.0 (p.0, t.1), seen.classes.each t.0 c (p.0, t.1, p.1))

    pub given : Extracts f.items l k
    given = record {
      ports = λ name.
          let own = is.ports name in (
            λ h. own.0 (subst (λ (ns : List Name). In name ns) (seen_ports n k seen) h),
            λ h. subst (λ (ns : List Name). In name ns) (sym (seen_ports n k seen)) (own.1 h),
          );
      instances = members;
      classes = λ a b p q. is.classes a b (k.class a) (k.class b) (class_of a p) (class_of b q);
      numbered = numbered;
      used = λ c low. used c (subst (λ (j : ℕ). c < j) (seen_classes n k seen) low);
    }

  -- ---- the table of all cells

  module _ (tracks : Bool) (table : List ModelPins) (passed : HasPassed tracks l) (is_table : IsTableOf l true table) (sound : IsPinTable table) where
    model_at : (i : Instance) (h : IsThere n.instances i) → HasModel (celled tracks passed i h).cell table i.model
    model_at i h =
        let c = celled tracks passed i h in
        model_found (IsListed true) l.cells table c.cell i.model is_table c.found (inl refl)

    listed : (i : Instance) → In i n.instances → IsThere (map (λ m. m.model) table) i.model
    listed i h = (model_at i (in_place i n.instances h)).known

    pins : (i : Instance) → In i n.instances → i.pins ≡ map (λ p. p.name) (pins_named table i.model)
    pins i h =
        let at = in_place i n.instances h in
        let c = celled tracks passed i at in
        let m = model_at i at in
        c.pins ∙ sym (pin_names c.cell.function (all_ports c.cell) (all_ports c.cell) m.found.pins m.is.pins) ∙ ap (map (λ (p : ModelPin). p.name)) (sym m.pins)

    pub fits : Fits n table
    fits = record {
      table_is = sound;
      listed = All-from (λ (i : Instance). IsThere (map (λ m. m.model) table) i.model) n.instances listed;
      pins = All-from (λ (i : Instance). i.pins ≡ map (λ p. p.name) (pins_named table i.model)) n.instances pins;
    }

pub extracted_is_given : ExtractedIsGiven
extracted_is_given f l tracks n k passed is seen = given f l n is tracks passed k seen

pub extracted_has_pins : ExtractedHasPins
extracted_has_pins f l n is = has_pins f l n is

pub extracted_fits : ExtractedFits
extracted_fits f l tracks table n passed is_table sound is = fits f l n is tracks table passed is_table sound
