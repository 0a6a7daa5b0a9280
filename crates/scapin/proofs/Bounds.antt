-- How great the classes of terminals are.
use Rattle.std.proofs.Common.{ℕ, suc, ◌+◌, ◌*◌, ◌<◌, Bool, true, false, List, [], ◌∷◌, length, Some, None, Option, arith, if◌then◌else◌}
use Rattle.std.specs.List.{list_any}
use Rattle.vlsi_base.specs.declared.name.Name.{Name}
use Rattle.vlsi_base.specs.declared.name.Terminal.{Terminal}
use Rattle.vlsi_base.specs.Names.{vdd, vss}
use Rattle.vlsi_base.specs.Member.{In, here, there}
use Rattle.machine_core.specs.Named.{is_same_name}
use Rattle.cell_model.specs.Cell.{cell_inputs}
use Rattle.cell_model.proofs.Members.{All-In}
use Rattle.net_core.specs.Netlist.{Netlist, IsNetlist, port, pin_of, terminals}
use Rattle.net_core.proofs.Namings.{turn_below}
use Rattle.loon_fanout.specs.Sinks.{is_same_owner, is_same_terminal, class_among}
use Rattle.scan_theory.specs.Gates.{Gate, read_class, gate_class, class_with}
use Rattle.scan_theory.specs.Scan.{scin, test, scout, class_in, on_scin, on_test, on_supply, on_vdd, on_vss, shown, Cells, Stage, gates, fed, port_class, owned_class, old_class, scan_class}
use Rattle.scan_theory.proofs.Chain.{AreRead, gates_read}

among_low : (us : List Terminal) (ks : List ℕ) (t : Terminal) (b : ℕ) → ((k : ℕ) → In k ks → k < b) → 0 < b → class_among us ks t < b
among_low [] ks t b low some = some
among_low (u ∷ us) [] t b low some = some
among_low (u ∷ us) (k ∷ ks) t b low some = by (is_same_terminal u t) (among_low us ks t b (λ j h. low j (there h)) some) where
  by : (e : Bool) → class_among us ks t < b → (if e then k else class_among us ks t) < b
  by true rest = low k here
  by false rest = rest

pub class_low : (n : Netlist) → IsNetlist n → (t : Terminal) → class_in n t < n.count + 1
class_low n sound t =
    among_low (terminals n) n.classes t (n.count + 1)
    (λ k h. let low = All-In (λ c. c < n.count) n.classes (turn_below 0 n.count n.classes sound.turns) k h in omega (arith, low)) (omega arith)

read_low : (ps : List Name) (reads : List ℕ) (other : ℕ) (pin : Name) (b : ℕ) → ((k : ℕ) → In k reads → k < b) → other < b → read_class ps reads other pin < b
read_low [] reads other pin b low o = o
read_low (p ∷ ps) [] other pin b low o = o
read_low (p ∷ ps) (k ∷ reads) other pin b low o = by (is_same_name p pin) (read_low ps reads other pin b (λ j h. low j (there h)) o) where
  by : (e : Bool) → read_class ps reads other pin < b → (if e then k else read_class ps reads other pin) < b
  by true rest = low k here
  by false rest = rest

gate_class_low : (high low : ℕ) (g : Gate) (pin : Name) (b : ℕ) → high < b → low < b → g.shows < b → ((k : ℕ) → In k g.reads → k < b) → gate_class high low g pin < b
gate_class_low high low g pin b h l s r = by (is_same_name pin vdd) (is_same_name pin vss) (read_class (cell_inputs g.cell) g.reads g.shows pin) (read_low (cell_inputs g.cell) g.reads g.shows pin b r s) where
  by : (x y : Bool) (rest : ℕ) → rest < b → (if x then high else if y then low else rest) < b
  by true y rest k = h
  by false true rest k = l
  by false false rest k = k

with_low : (high low : ℕ) (f : Terminal → ℕ) (gs : List Gate) (t : Terminal) (b : ℕ) → high < b → low < b → f t < b
    → ((g : Gate) → In g gs → (g.shows < b) × ((k : ℕ) → In k g.reads → k < b)) → class_with high low f gs t < b
with_low high low f [] t b h l o each = o
with_low high low f (g ∷ gs) t b h l o each = by (is_same_owner t.instance (Some g.name)) (with_low high low f gs t b h l o (λ x i. each x (there i))) where
  by : (e : Bool) → class_with high low f gs t < b → (if e then gate_class high low g t.pin else class_with high low f gs t) < b
  by true rest = let k = each g here in gate_class_low high low g t.pin b h l k.0 k.1
  by false rest = rest

fed_low : (n : Netlist) (from : ℕ) (stages : List Stage) (t : Terminal) (b : ℕ) → class_in n t < b → n.count + 4 + 3 * (from + length stages) < b → fed n from stages t < b
fed_low n from [] t b c many = c
fed_low n from (s ∷ stages) t b c many = by (is_same_terminal (pin_of s.name s.load) t) (fed_low n (suc from) stages t b c (omega (arith, many))) where
  by : (e : Bool) → fed n (suc from) stages t < b → (if e then shown n (3 * from + 3) else fed n (suc from) stages t) < b
  by true rest = let few : n.count + 4 + (3 * from + 3) < b = omega (arith, many) in few
  by false rest = rest

module _ (n : Netlist) (sound : IsNetlist n) (cells : Cells) (stages : List Stage) where
  -- above all classes
  abbrev pub above : ℕ
  above = n.count + 3 * length stages + 7

  supply_low : (name : Name) (new : ℕ) → new < 7 → on_supply n name new < above
  supply_low name new few = by (list_any (λ p. is_same_name p.name name) n.ports) where
    by : (e : Bool) → (if e then class_in n (port name) else n.count + new) < above
    by true = let low = class_low n sound (port name) in omega (arith, low)
    by false = omega (arith, few)

  port_low : (name : Name) → port_class n stages name < above
  port_low name = by (is_same_name name scin) (is_same_name name test) (is_same_name name scout) (is_same_name name vdd) (is_same_name name vss) where
    by : (a b c d e : Bool)
        → (if a then on_scin n else if b then on_test n else if c then shown n (3 * length stages + 2) else if d then on_vdd n else if e then on_vss n else class_in n (port name)) < above
    by true b c d e = let low : n.count < above = omega arith in low
    by false true c d e = let low : n.count + 1 < above = omega arith in low
    by false false true d e = let low : n.count + 4 + (3 * length stages + 2) < above = omega arith in low
    by false false false true e = supply_low vdd 2 (omega arith)
    by false false false false true = supply_low vss 3 (omega arith)
    by false false false false false = let low = class_low n sound (port name) in omega (arith, low)

  owned_low : (owner : Option (List ℕ)) (pin : Name) → owned_class n stages owner pin < above
  owned_low None pin = port_low pin
  owned_low (Some owner) pin =
      let low = class_low n sound (pin_of owner pin) in
      fed_low n 0 stages (pin_of owner pin) above (omega (arith, low)) (omega arith)

  pub scan_low : ((g : Gate) → In g (gates n cells stages) → g.shows < above) → (t : Terminal) → scan_class n cells stages t < above
  scan_low shows t =
      with_low (on_vdd n) (on_vss n) (old_class n stages) (gates n cells stages) t above (supply_low vdd 2 (omega arith)) (supply_low vss 3 (omega arith))
      (owned_low t.instance t.pin) (λ g h. (shows g h, gates_read n cells (λ k. k < above) stages reads shows g h)) where
        low_in : (t : Terminal) → class_in n t < above
        low_in t = let low = class_low n sound t in omega (arith, low)

        reads : AreRead n cells (λ k. k < above) stages
        reads = record {
          at_test = let low : n.count + 1 < above = omega arith in low;
          at_scin = let low : n.count < above = omega arith in low;
          loaded = λ s h. low_in (pin_of s.name s.load);
          given = λ s h. low_in (pin_of s.name s.output);
        }
