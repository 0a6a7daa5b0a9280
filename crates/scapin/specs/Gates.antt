-- The gates of a scan path by numbers for classes, where the given netlist has so many of these.
use Rattle.std.specs.Prelude.{ℕ, ◌+◌, ◌*◌, List, [], ◌∷◌, ◌++◌, length, nat_eq, if◌then◌else◌}
use Prim.Native.Nat.{suc}
use Rattle.net_core.specs.Netlist.{Netlist}
use Rattle.scan_theory.specs.Gates.{Gate as TheoryGate}
use Rattle.scan_theory.specs.Scan.{Cells, inverts, nands}
use Rattle.scan_checks.specs.declared.registers.Register.{Register}
use Rattle.scapin.specs.declared.gates.Gate.{Gate}
use Rattle.scapin.specs.declared.gates.Gate.TheVariants as gate

-- with the cells of a library
abbrev pub gate_of : Netlist → Cells → Gate → TheoryGate
gate_of n cells (gate.Inverts number input) = inverts n cells number input
gate_of n cells (gate.Nands number first second) = nands n cells number first second

abbrev pub number_of : Gate → ℕ
number_of (gate.Inverts number input) = number
number_of (gate.Nands number first second) = number

abbrev pub reads_of : Gate → List ℕ
reads_of (gate.Inverts number input) = input ∷ []
reads_of (gate.Nands number first second) = first ∷ second ∷ []

-- the class that the gate with a number shows
abbrev pub shown_by : ℕ → ℕ → ℕ
shown_by count number = count + 4 + number

-- before the register at a place of the path, which loads a class, behind one that gives a class
abbrev pub multiplexer_of : ℕ → ℕ → ℕ → ℕ → List Gate
multiplexer_of count place before loads =
    gate.Nands (3 * place + 1) (count + 1) before
    ∷ gate.Nands (3 * place + 2) (shown_by count 0) loads
    ∷ gate.Nands (3 * place + 3) (shown_by count (3 * place + 1)) (shown_by count (3 * place + 2))
    ∷ []

abbrev pub end_of : ℕ → ℕ → ℕ → List Gate
end_of count place before = gate.Inverts (3 * place + 1) before ∷ gate.Inverts (3 * place + 2) (shown_by count (3 * place + 1)) ∷ []

abbrev pub chain_of : ℕ → ℕ → ℕ → List Register → List Gate
chain_of count place before [] = end_of count place before
chain_of count place before (r ∷ rs) = multiplexer_of count place before r.loads ++ chain_of count (suc place) r.gives rs

abbrev pub first_of : ℕ → ℕ → List Gate
first_of count many = if nat_eq many 0 then [] else gate.Inverts 0 (count + 1) ∷ []

abbrev pub gate_list : ℕ → List Register → List Gate
gate_list count rs = first_of count (length rs) ++ chain_of count 0 count rs
