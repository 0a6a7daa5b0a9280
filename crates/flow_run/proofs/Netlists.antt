-- A library that covers a machine covers each that is alike.
use Rattle.std.proofs.Common.{◌≡◌, ℕ, ◌==◌, not, length, ap, subst, arith}
use Rattle.std.proofs.lemmas.List.{length-map}
use Rattle.vlsi_base.specs.Member.{In}
use Rattle.machine_core.specs.Machine.{Machine, register_names}
use Rattle.machine_core.specs.Alike.{IsAlike}
use Rattle.vlsi_base.specs.declared.kind.Kind.{Kind}
use Rattle.cell_model.specs.Covering.{HasCellOf, needed}
use Rattle.cell_model.specs.Library.{Library}
use Rattle.boog_map.specs.Netlist.{Covers}

-- as many registers, so the same kinds are asked for
pub covers_alike : (l : Library) (m k : Machine) → IsAlike m k → Covers l m → Covers l k
covers_alike l m k alike covered =
    let names : length (register_names k) ≡ length (register_names m) = ap (λ ns. length ns) alike.registers in
    let a = length-map k.registers (λ r. r.name) in
    let b = length-map m.registers (λ r. r.name) in
    let many : length m.registers ≡ length k.registers = omega (arith, names, a, b) in
    subst (λ (n : ℕ). (kind : Kind) → In kind (needed (not (n == 0))) → HasCellOf l.cells kind) many covered
