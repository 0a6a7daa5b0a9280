-- What a netlist with a scan path does, beside the given one.
use Rattle.std.specs.Prelude.{◌≡◌, ℕ, Bool, true, false, List, [], ◌∷◌, Option, Some}
use Rattle.vlsi_base.specs.declared.name.Name.{Name}
use Rattle.vlsi_base.specs.Member.{In}
use Rattle.bool_expr.specs.Expression.{bit}
use Rattle.cell_model.specs.Library.{Library}
use Rattle.net_meaning.specs.Netlist.{AbstractNetlist, port}
use Rattle.net_meaning.specs.Behaviour.{Contents, Valuation, bit_of, NetSettles, net_next}
use Rattle.scan_theory.specs.Scan.{scin, test, scout}

-- the registers of a path are a shift register: the first takes the bit, and each other one what the one before it holds
abbrev pub IsShifted : Bool → Contents → Contents → List (List ℕ) → Type 0
IsShifted a held next [] = Unit {0}
IsShifted a held next (name ∷ path) = (next name ≡ a ∷ []) × IsShifted (bit (held name) 0) held next path

-- what the last register of a path holds, or the bit where the path is empty
abbrev pub last_bit : Bool → Contents → List (List ℕ) → Bool
last_bit a held [] = a
last_bit a held (name ∷ path) = last_bit (bit (held name) 0) held path

-- inputs and a clock among the ports of a netlist
pub record ArePorts (n : AbstractNetlist) (inputs : List Name) (clock : Option Name) : Type 0 where
  pub inputs_in : (name : Name) → In name inputs → In name n.ports
  pub clock_in : (name : Name) → clock ≡ Some name → In name n.ports

-- One cycle of both netlists from the same contents, where scin has bit a and test bit b: the given netlist's ports have the same bits;
-- where test is 0 each instance takes what it takes there, and where test is 1 the registers shift; and scout has the contents of the
-- last register.
pub record IsScanCycle (l : Library) (path : List (List ℕ)) (n r : AbstractNetlist) (a b : Bool) (held : Contents) (w v : Valuation) : Type 0 where
  pub ports : (name : Name) → In name n.ports → bit_of r v.classes (port name) ≡ bit_of n w.classes (port name)
  pub normal : b ≡ false → (owner : List ℕ) → net_next r l v owner ≡ net_next n l w owner
  pub shift : b ≡ true → IsShifted a held (net_next r l v) path
  pub out : bit_of r v.classes (port scout) ≡ last_bit a held path

-- Whichever ports of the given netlist are inputs and the clock, from all contents, under all input vectors and for all bits of scin
-- and test: each valuation of one netlist has a valuation of the other with which it makes such a cycle.
pub record Scans (l : Library) (path : List (List ℕ)) (n r : AbstractNetlist) : Type 0 where
  pub forth : (inputs : List Name) (clock : Option Name) (held : Contents) (i : List Bool) (a b : Bool) (w : Valuation) → ArePorts n inputs clock
      → NetSettles n l inputs clock held i w
      → (v : Valuation) × NetSettles r l (scin ∷ test ∷ inputs) clock held (a ∷ b ∷ i) v × IsScanCycle l path n r a b held w v
  pub back : (inputs : List Name) (clock : Option Name) (held : Contents) (i : List Bool) (a b : Bool) (v : Valuation) → ArePorts n inputs clock
      → NetSettles r l (scin ∷ test ∷ inputs) clock held (a ∷ b ∷ i) v
      → (w : Valuation) × NetSettles n l inputs clock held i w × IsScanCycle l path n r a b held w v
