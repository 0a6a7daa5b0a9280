-- Netlists whose cells are exchanged, as those that layouts give: classes, inputs, outputs and clock pins are the same.
use Rattle.std.proofs.Common.{◌≡◌, ℕ, List, map, filter, not, refl, sym, ◌∙◌, ap, ap₂, subst, Some}
use Rattle.vlsi_base.specs.declared.name.Name.{Name}
use Rattle.vlsi_base.specs.declared.name.Port.{Port}
use Rattle.vlsi_base.specs.declared.name.Terminal.{Terminal}
use Rattle.vlsi_base.specs.Member.{In}
use Rattle.machine_core.specs.Machine.{Machine, names_of, is_input}
use Rattle.cell_model.specs.Cell.{Function, gate, flip_flop, other, opaque, Cell, pin_ports, cell_inputs, cell_outputs}
use Rattle.cell_model.specs.Library.{Library, cell_of}
use Rattle.cell_model.proofs.Members.{In-map, In-map_back}
use Rattle.net_core.specs.Netlist.{Instance, Netlist, terminals}
use Rattle.net_meaning.specs.Netlist.{Member, AbstractNetlist as Seen, pin_of}
use Rattle.net_meaning.specs.Well.{Has, IsClockPin, a_clock_pin, IsSpecial, of_vdd, of_vss, of_clock}
use Rattle.net_meaning.specs.Buffers.{AreOne, alike, tied, turned, through}
use Rattle.net_theory.specs.Exchanges.{IsSameFunction}
use Rattle.net_right.specs.View.{member_of, netlist_by, IsSeenAs}
use Rattle.loon_buffer.specs.Drives.{IsChosenFor}
use Rattle.loon_fanout.specs.Nets.{IsInputPin, an_input_pin, IsStaying, staying}
use Rattle.loon_drive.specs.Laws.{AreExchanged}
use Rattle.loon_drive.proofs.Lists.{stands_in, in_stands}
use Rattle.loon_drive.proofs.Exchanged.{AreChosen, chosen_of, back_at, of_member, classes_same, terminals_same, HasClassIn}

-- ---- one instance for another

-- the netlist has an instance of the same name and pins, with the same clock pin
pub record IsMet (l : Library) (b : Seen) (i : Member) (c : Cell) : Type 0 where
  pub member : Member
  pub cell : Cell
  pub has : Has b l member cell
  pub name : member.name ≡ i.name
  pub pins : pin_ports cell ≡ pin_ports c
  pub clock : (data_pin clock_pin : Name) → c.function ≡ flip_flop data_pin clock_pin → cell.function ≡ flip_flop data_pin clock_pin

-- so it has for each of another netlist
abbrev pub Meets : Library → Seen → Seen → Type 0
Meets l a b = (i : Member) (c : Cell) → Has a l i c → IsMet l b i c

module _ (l : Library) (class : Terminal → ℕ) (r k : Netlist) (meets : Meets l (netlist_by class r) (netlist_by class k)) where
  abbrev a : Seen
  a = netlist_by class r

  abbrev b : Seen
  b = netlist_by class k

  inputs_met : (c d : Cell) → pin_ports d ≡ pin_ports c → (name : Name) → In name (cell_inputs c) → In name (cell_inputs d)
  inputs_met c d pins name at = subst (λ (ps : List Port). In name (names_of (filter (λ p. is_input p.dir) ps))) (sym pins) at

  outputs_met : (c d : Cell) → pin_ports d ≡ pin_ports c → (name : Name) → In name (cell_outputs c) → In name (cell_outputs d)
  outputs_met c d pins name at = subst (λ (ps : List Port). In name (names_of (filter (λ p. not (is_input p.dir)) ps))) (sym pins) at

  pub input_pin : (t : Terminal) → IsInputPin a l t → IsInputPin b l t
  input_pin _ (an_input_pin {name = name} i c has at) =
      let s = meets i c has in
      subst (λ (owner : List ℕ). IsInputPin b l (pin_of owner name)) s.name (an_input_pin s.member s.cell s.has (inputs_met c s.cell s.pins name at))

  pub clock_pin : (t : Terminal) → IsClockPin a l t → IsClockPin b l t
  clock_pin _ (a_clock_pin i c data_pin clock has is) =
      let s = meets i c has in
      subst (λ (owner : List ℕ). IsClockPin b l (pin_of owner clock)) s.name (a_clock_pin s.member s.cell data_pin clock s.has (s.clock data_pin clock is))

  -- a pin that is no clock pin here is none there
  pub stays : (t : Terminal) → (IsClockPin b l t → IsClockPin a l t) → IsStaying a l t → IsStaying b l t
  stays _ back (staying {name = name} i c has at free still) =
      let s = meets i c has in
      let moved : pin_of s.member.name name ≡ pin_of i.name name = ap (λ (owner : List ℕ). pin_of owner name) s.name in
      subst (λ (t : Terminal). IsStaying b l t) moved
      (staying s.member s.cell s.has (inputs_met c s.cell s.pins name at) (λ j is. free j (sym s.name ∙ is))
      (λ clocks. still (back (subst (λ (t : Terminal). IsClockPin b l t) moved clocks))))

  pub one : {x y : ℕ} → AreOne a l x y → AreOne b l x y
  one alike = alike
  one (tied i c j input output has named reads drives) =
      let s = meets i c has in
      subst (λ (owner : List ℕ). AreOne b l (class (pin_of owner input)) (class (pin_of owner output))) s.name
      (tied s.member s.cell j input output s.has (s.name ∙ named) (inputs_met c s.cell s.pins input reads) (outputs_met c s.cell s.pins output drives))
  one (turned h) = turned (one h)
  one (through h g) = through (one h) (one g)

  pub special : (m : Machine) (t : Terminal) → IsSpecial a m t → IsSpecial b m t
  special m t (of_vdd e) = of_vdd e
  special m t (of_vss e) = of_vss e
  special m t (of_clock name clock e) = of_clock name clock e

-- ---- exchanged instances

-- a drive of a flip-flop is one with the same pins
drive_clocked : (f g : Function) → IsSameFunction f g → (data_pin clock_pin : Name) → f ≡ flip_flop data_pin clock_pin → g ≡ flip_flop data_pin clock_pin
drive_clocked (flip_flop d k) (flip_flop b j) s data_pin clock_pin e = ap₂ flip_flop s.0 s.1 ∙ e
drive_clocked (flip_flop d k) (gate e) s data_pin clock_pin is = absurd s
drive_clocked (flip_flop d k) (other m) s data_pin clock_pin is = absurd s
drive_clocked (flip_flop d k) opaque s data_pin clock_pin is = absurd s
drive_clocked (gate e) g s data_pin clock_pin is = absurd (cc is)
drive_clocked (other m) g s data_pin clock_pin is = absurd s
drive_clocked opaque g s data_pin clock_pin is = absurd s

was_clocked : (f g : Function) → IsSameFunction f g → (data_pin clock_pin : Name) → g ≡ flip_flop data_pin clock_pin → f ≡ flip_flop data_pin clock_pin
was_clocked (flip_flop d k) (flip_flop b j) s data_pin clock_pin e = ap₂ flip_flop (sym s.0) (sym s.1) ∙ e
was_clocked (flip_flop d k) (gate e) s data_pin clock_pin is = absurd s
was_clocked (flip_flop d k) (other m) s data_pin clock_pin is = absurd s
was_clocked (flip_flop d k) opaque s data_pin clock_pin is = absurd s
was_clocked (gate e) (gate x) s data_pin clock_pin is = absurd (cc is)
was_clocked (gate e) (flip_flop b j) s data_pin clock_pin is = absurd s
was_clocked (gate e) (other m) s data_pin clock_pin is = absurd s
was_clocked (gate e) opaque s data_pin clock_pin is = absurd s
was_clocked (other m) g s data_pin clock_pin is = absurd s
was_clocked opaque g s data_pin clock_pin is = absurd s

same_cell : (c d : Cell) → Some c ≡ Some d → c ≡ d
same_cell c d e = cc e

same_instance_name : (l : Library) (i j : Instance) → IsChosenFor l i j → j.name ≡ i.name
same_instance_name l i j ch = ap (λ (x : Instance). x.name) ch.same

module _ (l : Library) (r k : Netlist) (x : AreExchanged l r k) (class : Terminal → ℕ) where
  pairs : AreChosen l r.instances k.instances
  pairs = chosen_of l r k x

  -- the buffered netlist is seen with the same classes
  pub seen_before : IsSeenAs k (netlist_by class k) → IsSeenAs r (netlist_by class r)
  seen_before seen = record {
    is = refl;
    classes = record {
      each = λ t c h. seen.classes.each t c (subst (λ (ts : List Terminal). HasClassIn ts k.classes t c) (sym (terminals_same l r k x))
          (subst (λ (cs : List ℕ). HasClassIn (terminals r) cs t c) (sym (classes_same l r k x)) h));
    };
  }

  pub forward : Meets l (netlist_by class r) (netlist_by class k)
  forward y c has =
      let f = of_member l r.instances k.instances pairs y has.listed in
      let j = f.2 in
      let ch = f.4 in
      let was : ch.was ≡ c = same_cell ch.was c (sym ch.found ∙ ap (λ (z : Member). cell_of l z.model) f.5 ∙ has.found) in
      record {
        member = member_of j;
        cell = ch.now;
        has = record { listed = In-map member_of j k.instances (stands_in k.instances f.0 j f.3); found = ch.listed };
        name = same_instance_name l f.1 j ch ∙ ap (λ (z : Member). z.name) f.5;
        pins = ch.drive.pins ∙ ap (λ (d : Cell). pin_ports d) was;
        clock = λ data_pin clock_pin is.
            drive_clocked ch.was.function ch.now.function ch.drive.function data_pin clock_pin (ap (λ (d : Cell). d.function) was ∙ is);
      }

  pub back : Meets l (netlist_by class k) (netlist_by class r)
  back y c has =
      let g = In-map_back member_of y k.instances has.listed in
      let at = in_stands g.0 k.instances g.1 in
      let f = back_at l r.instances k.instances pairs at.0 g.0 at.1 in
      let ch = f.2 in
      let now : ch.now ≡ c = same_cell ch.now c (sym ch.listed ∙ ap (λ (z : Member). cell_of l z.model) g.2 ∙ has.found) in
      record {
        member = member_of f.0;
        cell = ch.was;
        has = record { listed = In-map member_of f.0 r.instances (stands_in r.instances at.0 f.0 f.1); found = ch.found };
        name = sym (same_instance_name l f.0 g.0 ch) ∙ ap (λ (z : Member). z.name) g.2;
        pins = sym ch.drive.pins ∙ ap (λ (d : Cell). pin_ports d) now;
        clock = λ data_pin clock_pin is.
            was_clocked ch.was.function ch.now.function ch.drive.function data_pin clock_pin (ap (λ (d : Cell). d.function) now ∙ is);
      }

  -- names stay
  pub name_before : (y : Member) → In y (map member_of k.instances) → (z : Member) × In z (map member_of r.instances) × (z.name ≡ y.name)
  name_before y listed =
      let g = In-map_back member_of y k.instances listed in
      let at = in_stands g.0 k.instances g.1 in
      let f = back_at l r.instances k.instances pairs at.0 g.0 at.1 in (
        member_of f.0,
        In-map member_of f.0 r.instances (stands_in r.instances at.0 f.0 f.1),
        sym (same_instance_name l f.0 g.0 f.2) ∙ ap (λ (z : Member). z.name) g.2,
      )
