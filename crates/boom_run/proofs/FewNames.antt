-- The names of a machine that is read, and as many more as it weighs, are few, and so are those of the machine made of it.
use Rattle.std.proofs.Common.{◌≡◌, ℕ, ◌+◌, ◌-◌, ◌^◌, ◌≤◌, ◌<◌, ◌++◌, length, Some, ◌∙◌, ap, arith, length-append}
use Rattle.std.proofs.lemmas.List.{length-map}
use Rattle.vlsi_base.specs.declared.name.Name.{Name}
use Rattle.vlsi_base.specs.Range.{rising}
use Rattle.vlsi_base.proofs.Ranges.{length_of_rising}
use Rattle.machine_core.specs.Machine.{Machine}
use Rattle.machine_core.specs.Size.{machine_size}
use Rattle.machine_core.specs.Order.{held_names, equation_names}
use Rattle.boom_opt.specs.Optimised.{IsOptimised}
use Rattle.boom_muxes.specs.Names.{new_names}
use Rattle.tool_drive.specs.declared.size.TheConstants.{MOST_SIZE}

-- as many names more as a machine weighs that is small enough
pub few_weighed : (m : Machine) → length m.vars + length m.ports < 2 ^ 22 → machine_size m ≤ MOST_SIZE → length m.vars + length m.ports + machine_size m < 2 ^ 32 - 1
few_weighed m few small = omega (arith, few, small)

-- ---- the machine made smaller

-- it has no more new names than the given one weighs, and the same ports
pub few_made : (m o : Machine) → m.vars ≡ held_names m ++ equation_names m → length m.vars + length m.ports + machine_size m < 2 ^ 32 - 1 → IsOptimised m o
    → length o.vars + length o.ports < 2 ^ 32
few_made m o is given h =
    let k = h.kept in
    let vars = ap length k.vars ∙ length-append (held_names m) (new_names k.text k.count ++ equation_names m) in
    let behind = length-append (new_names k.text k.count) (equation_names m) in
    let count = length-map {B = Name} (rising 0 k.count) (λ (i : ℕ). record { text = k.text; bit = Some i }) ∙ length_of_rising 0 k.count in
    let all = ap length is ∙ length-append (held_names m) (equation_names m) in
    let ports = ap length h.alike.ports in
    let few = k.few in
    omega (arith, vars, behind, count, all, ports, few, given)
