-- What a valuation is, by a bit for each terminal.
use Rattle.std.proofs.Common.{◌≡◌, ℕ, Bool, true, false, List, [], ◌∷◌, map, length, Option, Some, refl, sym, ◌∙◌, ap, subst}
use Rattle.vlsi_base.specs.declared.name.Name.{Name}
use Rattle.vlsi_base.specs.declared.name.Port.{Port}
use Rattle.vlsi_base.specs.declared.name.Terminal.{Terminal}
use Rattle.vlsi_base.specs.Names.{vdd, vss}
use Rattle.vlsi_base.specs.Member.{In, here, there}
use Rattle.bool_expr.specs.Expression.{bit, val}
use Rattle.machine_core.specs.Machine.{names_of}
use Rattle.cell_model.specs.Cell.{Function, gate, flip_flop, other, opaque, Cell, cell_inputs, cell_outputs}
use Rattle.cell_model.specs.Library.{Library, cell_of, IsPlain}
use Rattle.cell_model.proofs.Members.{In-map, In-map_back}
use Rattle.cell_pins.specs.Pins.{all_ports}
use Rattle.net_core.specs.Netlist.{Instance, Netlist as InMemory, port, pin_of, terminals_of}
use Rattle.net_meaning.specs.Netlist.{Member, AbstractNetlist}
use Rattle.net_meaning.specs.Behaviour.{Contents, Valuation, Drives, NetSettles}
use Rattle.net_right.specs.View.{member_of, netlist_by}
use Rattle.net_bits.proofs.Lists.{named_in, pin_in, input_pin, output_pin, IsMadeOf}

abbrev pub pins_by : (Terminal → Bool) → List ℕ → List Name → List Bool
pins_by g owner pins = map (λ p. g (pin_of owner p)) pins

-- what a gate or a flip-flop gives
abbrev pub Gives : (Terminal → Bool) → Contents → List ℕ → Cell → Function → Type 0
Gives g t owner c (gate e) = pins_by g owner (cell_outputs c) ≡ val e (pins_by g owner (cell_inputs c)) ∷ []
Gives g t owner c (flip_flop d k) = pins_by g owner (cell_outputs c) ≡ bit (t owner) 0 ∷ []
Gives g t owner c (other m) = Unit {0}
Gives g t owner c opaque = Unit {0}

-- the inputs, the clock, the contents and the vector of a cycle
pub record Cycle : Type 0 where
  pub inputs : List Name
  pub clock : Option Name
  pub contents : Contents
  pub vector : List Bool

-- the terminals of these ports and instances have the bits of a valuation
pub record AreBits (l : Library) (y : Cycle) (ports : List Port) (is : List Instance) (g : Terminal → Bool) : Type 0 where
  pub high : In vdd (map (λ (p : Port). p.name) ports) → g (port vdd) ≡ true
  pub low : In vss (map (λ (p : Port). p.name) ports) → g (port vss) ≡ false
  pub still : (name : Name) → y.clock ≡ Some name → g (port name) ≡ false
  pub inputs : map (λ name. g (port name)) y.inputs ≡ y.vector
  pub each : (i : Instance) (c : Cell) → In i is → cell_of l i.model ≡ Some c → Gives g y.contents i.name c c.function

-- inputs and the clock are among the ports
pub record AreAmong (y : Cycle) (ports : List Port) : Type 0 where
  pub inputs : (name : Name) → In name y.inputs → In name (map (λ (p : Port). p.name) ports)
  pub clock : (name : Name) → y.clock ≡ Some name → In name (map (λ (p : Port). p.name) ports)

-- the bits of terminals whose classes have these bits
abbrev pub bits_of : (Terminal → ℕ) → List Bool → Terminal → Bool
bits_of class w t = bit w (class t)

-- ---- the same bits

map_same : {A B : Type 0} (f g : A → B) (xs : List A) → ((x : A) → In x xs → f x ≡ g x) → map f xs ≡ map g xs
map_same f g [] each = refl
map_same {A} {B} f g (x ∷ xs) each =
    ap (λ (y : B). y ∷ map f xs) (each x here) ∙ ap (λ (ys : List B). g x ∷ ys) (map_same f g xs (λ y h. each y (there h)))

module _ (l : Library) (y : Cycle) (ports : List Port) (is : List Instance) (cells : (i : Instance) → In i is → IsMadeOf l i) (among : AreAmong y ports)
    (f g : Terminal → Bool) (same : (t : Terminal) → In t (terminals_of ports is) → f t ≡ g t) where
  port_same : (name : Name) → In name (map (λ (p : Port). p.name) ports) → f (port name) ≡ g (port name)
  port_same name h = same (port name) (named_in ports is name h)

  pins_same : (i : Instance) → In i is → (pins : List Name) → ((p : Name) → In p pins → In p i.pins) → pins_by f i.name pins ≡ pins_by g i.name pins
  pins_same i i_in pins inside =
      map_same (λ p. f (pin_of i.name p)) (λ p. g (pin_of i.name p)) pins
      (λ p p_in. same (pin_of i.name p) (pin_in ports is i p i_in (inside p p_in)))

  gives_same : (i : Instance) → In i is → (c : Cell) (u : Function) → i.pins ≡ names_of (all_ports c) → Gives f y.contents i.name c u
      → Gives g y.contents i.name c u
  gives_same i i_in c u pins h = by u h where
    outs : pins_by f i.name (cell_outputs c) ≡ pins_by g i.name (cell_outputs c)
    outs = pins_same i i_in (cell_outputs c) (λ p p_in. subst (λ (ns : List Name). In p ns) (sym pins) (output_pin c p p_in))

    ins : pins_by f i.name (cell_inputs c) ≡ pins_by g i.name (cell_inputs c)
    ins = pins_same i i_in (cell_inputs c) (λ p p_in. subst (λ (ns : List Name). In p ns) (sym pins) (input_pin c p p_in))

    by : (u : Function) → Gives f y.contents i.name c u → Gives g y.contents i.name c u
    by (gate e) h = sym outs ∙ h ∙ ap (λ (bs : List Bool). val e bs ∷ []) ins
    by (flip_flop d k) h = sym outs ∙ h
    by (other m) h = tt
    by opaque h = tt

  pub bits_same : AreBits l y ports is f → AreBits l y ports is g
  bits_same h = record {
    high = λ p. sym (port_same vdd p) ∙ h.high p;
    low = λ p. sym (port_same vss p) ∙ h.low p;
    still = λ name is_clock. sym (port_same name (among.clock name is_clock)) ∙ h.still name is_clock;
    inputs = sym (map_same (λ name. f (port name)) (λ name. g (port name)) y.inputs (λ name n_in. port_same name (among.inputs name n_in))) ∙ h.inputs;
    each = λ i c i_in found.
        let m = cells i i_in in
        let one : m.0 ≡ c = some_same m.0 c (sym m.1 ∙ found) in
        gives_same i i_in c c.function (m.3 ∙ ap (λ (d : Cell). names_of (all_ports d)) one) (h.each i c i_in found);
  } where
    some_same : (a b : Cell) → Some a ≡ Some b → a ≡ b
    some_same a b e = cc e

-- ---- from valuations, and to them

-- a valuation with these bits; no cell has an inside
abbrev pub valuation_of : List Bool → Valuation
valuation_of w = record { classes = w; inner = λ owner. [] }

module _ (l : Library) (y : Cycle) (n : InMemory) (class : Terminal → ℕ) where
  abbrev seen : AbstractNetlist
  seen = netlist_by class n

  pub bits_shown : (w : Valuation) → NetSettles seen l y.inputs y.clock y.contents y.vector w → AreBits l y n.ports n.instances (bits_of class w.classes)
  bits_shown w h = record {
    high = h.high;
    low = h.low;
    still = h.still;
    inputs = h.inputs;
    each = λ i c i_in found. by i c c.function (h.instances (member_of i) c (In-map member_of i n.instances i_in) found);
  } where
    by : (i : Instance) (c : Cell) (u : Function) → Drives seen w y.contents i.name c u → Gives (bits_of class w.classes) y.contents i.name c u
    by i c (gate e) d = d
    by i c (flip_flop a k) d = d
    by i c (other m) d = tt
    by i c opaque d = tt

  pub settles_by : (w : List Bool) → length w ≡ n.count → ((i : Instance) → In i n.instances → IsMadeOf l i) → AreBits l y n.ports n.instances (bits_of class w)
      → NetSettles seen l y.inputs y.clock y.contents y.vector (valuation_of w)
  settles_by w many cells h = record {
    each = many;
    high = h.high;
    low = h.low;
    still = h.still;
    inputs = h.inputs;
    instances = λ one c one_in found.
        let r = In-map_back member_of one n.instances one_in in
        let found_r : cell_of l r.0.model ≡ Some c = subst (λ (x : Member). cell_of l x.model ≡ Some c) (sym r.2) found in
        let m = cells r.0 r.1 in
        let same : m.0 ≡ c = some_same m.0 c (sym m.1 ∙ found_r) in
        let plain : IsPlain c c.function = subst (λ (x : Cell). IsPlain x x.function) same m.2.function in
        subst (λ (x : Member). Drives seen (valuation_of w) y.contents x.name c c.function) r.2 (by r.0 c c.function plain (h.each r.0 c r.1 found_r));
  } where
    some_same : (a b : Cell) → Some a ≡ Some b → a ≡ b
    some_same a b e = cc e

    by : (i : Instance) (c : Cell) (u : Function) → IsPlain c u → Gives (bits_of class w) y.contents i.name c u
        → Drives seen (valuation_of w) y.contents i.name c u
    by i c (gate e) plain d = d
    by i c (flip_flop a k) plain d = d
    by i c (other m) plain d = absurd plain
    by i c opaque plain d = absurd plain
