-- Bits of terminals where cells are exchanged for drives of them.
use Rattle.std.proofs.Common.{◌≡◌, ℕ, suc, Bool, not, List, [], ◌∷◌, ◌++◌, map, filter, length, Some, refl, sym, ◌∙◌, ap, subst, arith}
use Rattle.std.specs.List.{flat_map}
use Rattle.vlsi_base.specs.declared.name.Port.{Port}
use Rattle.vlsi_base.specs.declared.name.Terminal.{Terminal}
use Rattle.vlsi_base.specs.Member.{In, here, there}
use Rattle.bool_expr.specs.Expression.{val}
use Rattle.machine_core.specs.Machine.{is_input, names_of}
use Rattle.cell_model.specs.Cell.{Function, gate, flip_flop, other, opaque, Cell, cell_inputs, cell_outputs}
use Rattle.cell_model.specs.Library.{Library}
use Rattle.net_core.specs.Places.{Stands}
use Rattle.net_core.specs.Netlist.{Instance, port, pins_of, terminals_of}
use Rattle.net_meaning.specs.Behaviour.{Contents}
use Rattle.net_theory.specs.Exchanges.{IsSameFunction, IsDrive}
use Rattle.loon_buffer.specs.Drives.{IsChosenFor}
use Rattle.net_bits.proofs.Bits.{pins_by, Gives, Cycle, AreBits}

-- ---- two lists of instances, one by one

pub data AreChosen (l : Library) : List Instance → List Instance → Type 0 where
  none : AreChosen l [] []
  more : {i j : Instance} {is js : List Instance} → IsChosenFor l i j → AreChosen l is js → AreChosen l (i ∷ is) (j ∷ js)

pub chosen : (l : Library) (is js : List Instance) → length js ≡ length is → ((k : ℕ) (i j : Instance) → Stands is k i → Stands js k j → IsChosenFor l i j)
    → AreChosen l is js
chosen l [] [] many each = none
chosen l [] (j ∷ js) many each = absurd (omega (arith, many))
chosen l (i ∷ is) [] many each = absurd (omega (arith, many))
chosen l (i ∷ is) (j ∷ js) many each =
    more (each 0 i j refl refl) (chosen l is js (omega (arith, many)) (λ k a b p q. each (suc k) a b p q))

same_pins : (l : Library) (is js : List Instance) → AreChosen l is js → flat_map pins_of js ≡ flat_map pins_of is
same_pins l _ _ none = refl
same_pins l _ _ (more {i = i} {j = j} {is = is} {js = js} c rest) =
    ap (λ (ts : List Terminal). ts ++ flat_map pins_of js) (ap pins_of c.same) ∙ ap (λ (ts : List Terminal). pins_of i ++ ts) (same_pins l is js rest)

pub terminals_same : (l : Library) (ports : List Port) (is js : List Instance) → AreChosen l is js → terminals_of ports js ≡ terminals_of ports is
terminals_same l ports is js c = ap (λ (ts : List Terminal). map (λ (p : Port). port p.name) ports ++ ts) (same_pins l is js c)

-- the old one of a new instance, and the other way round
pub old_of : (l : Library) (is js : List Instance) → AreChosen l is js → (j : Instance) → In j js → (i : Instance) × In i is × IsChosenFor l i j
old_of l _ _ none j h = elim h [ ]
old_of l _ _ (more {i = i} {j = j} {is = is} {js = js} c rest) _ here = (i, here, c)
old_of l _ _ (more {i = i} {j = j} {is = is} {js = js} c rest) y (there h) = let r = old_of l is js rest y h in (r.0, there r.1, r.2)

pub new_of : (l : Library) (is js : List Instance) → AreChosen l is js → (i : Instance) → In i is → (j : Instance) × In j js × IsChosenFor l i j
new_of l _ _ none i h = elim h [ ]
new_of l _ _ (more {i = i} {j = j} {is = is} {js = js} c rest) _ here = (j, here, c)
new_of l _ _ (more {i = i} {j = j} {is = is} {js = js} c rest) x (there h) = let r = new_of l is js rest x h in (r.0, there r.1, r.2)

-- ---- cells

drive_inputs : (c d : Cell) → IsDrive c d → cell_inputs d ≡ cell_inputs c
drive_inputs c d s = ap (λ (ps : List Port). names_of (filter (λ p. is_input p.dir) ps)) s.pins

drive_outputs : (c d : Cell) → IsDrive c d → cell_outputs d ≡ cell_outputs c
drive_outputs c d s = ap (λ (ps : List Port). names_of (filter (λ p. not (is_input p.dir)) ps)) s.pins

module _ (g : Terminal → Bool) (t : Contents) (owner : List ℕ) (c d : Cell) (s : IsDrive c d) where
  outs : pins_by g owner (cell_outputs d) ≡ pins_by g owner (cell_outputs c)
  outs = ap (pins_by g owner) (drive_outputs c d s)

  ins : pins_by g owner (cell_inputs d) ≡ pins_by g owner (cell_inputs c)
  ins = ap (pins_by g owner) (drive_inputs c d s)

  drive_gives : (u v : Function) → IsSameFunction u v → Gives g t owner c u → Gives g t owner d v
  drive_gives (gate e) (gate x) same h = outs ∙ h ∙ ap (λ (b : Bool). b ∷ []) (sym (ap (val x) ins ∙ same (pins_by g owner (cell_inputs c))))
  drive_gives (gate a) (flip_flop b k) same h = absurd same
  drive_gives (gate a) (other m) same h = absurd same
  drive_gives (gate a) opaque same h = absurd same
  drive_gives (flip_flop a k) (gate b) same h = absurd same
  drive_gives (flip_flop a k) (flip_flop b j) same h = outs ∙ h
  drive_gives (flip_flop a k) (other m) same h = absurd same
  drive_gives (flip_flop a k) opaque same h = absurd same
  drive_gives (other m) v same h = absurd same
  drive_gives opaque v same h = absurd same

  drive_gave : (u v : Function) → IsSameFunction u v → Gives g t owner d v → Gives g t owner c u
  drive_gave (gate e) (gate x) same h = sym outs ∙ h ∙ ap (λ (b : Bool). b ∷ []) (ap (val x) ins ∙ same (pins_by g owner (cell_inputs c)))
  drive_gave (gate a) (flip_flop b k) same h = absurd same
  drive_gave (gate a) (other m) same h = absurd same
  drive_gave (gate a) opaque same h = absurd same
  drive_gave (flip_flop a k) (gate b) same h = absurd same
  drive_gave (flip_flop a k) (flip_flop b j) same h = sym outs ∙ h
  drive_gave (flip_flop a k) (other m) same h = absurd same
  drive_gave (flip_flop a k) opaque same h = absurd same
  drive_gave (other m) v same h = absurd same
  drive_gave opaque v same h = absurd same

-- ---- bits

some_same : (a b : Cell) → Some a ≡ Some b → a ≡ b
some_same a b e = cc e

module _ (l : Library) (y : Cycle) (ports : List Port) (is js : List Instance) (pairs : AreChosen l is js) (g : Terminal → Bool) where
  pub bits_to : AreBits l y ports is g → AreBits l y ports js g
  bits_to h = record {
    high = h.high;
    low = h.low;
    still = h.still;
    inputs = h.inputs;
    each = λ j d j_in found.
        let r = old_of l is js pairs j j_in in
        let c = r.2 in
        let same : c.now ≡ d = some_same c.now d (sym c.listed ∙ found) in
        let name : j.name ≡ r.0.name = ap (λ (x : Instance). x.name) c.same in
        let old = h.each r.0 c.was r.1 c.found in
        subst (λ (x : List ℕ). Gives g y.contents x d d.function) (sym name)
        (subst (λ (x : Cell). Gives g y.contents r.0.name x x.function) same
        (drive_gives g y.contents r.0.name c.was c.now c.drive c.was.function c.now.function c.drive.function old));
  }

  pub bits_from : AreBits l y ports js g → AreBits l y ports is g
  bits_from h = record {
    high = h.high;
    low = h.low;
    still = h.still;
    inputs = h.inputs;
    each = λ i d i_in found.
        let r = new_of l is js pairs i i_in in
        let c = r.2 in
        let same : c.was ≡ d = some_same c.was d (sym c.found ∙ found) in
        let name : r.0.name ≡ i.name = ap (λ (x : Instance). x.name) c.same in
        let new : Gives g y.contents i.name c.now c.now.function =
        subst (λ (x : List ℕ). Gives g y.contents x c.now c.now.function) name (h.each r.0 c.now r.1 c.listed) in
        subst (λ (x : Cell). Gives g y.contents i.name x x.function) same
        (drive_gave g y.contents i.name c.was c.now c.drive c.was.function c.now.function c.drive.function new);
  }
