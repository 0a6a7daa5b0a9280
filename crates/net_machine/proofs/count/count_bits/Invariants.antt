use Rattle.std.proofs.Common.{◌≡◌, ◌+◌, ◌-◌, ◌^◌, ◌<◌, min, drop}
use Rattle.cell_model.specs.Library.{Library}
use Rattle.net_machine.specs.Bits.{widths, bits_of}
use Rattle.net_machine.specs.Gathered.{KnowsModels}
use Rattle.net_machine.proofs.count.count_bits.Given as goal

-- what was counted and what is left
abbrev pub invariant-loop-node : goal.invariant-loop-node
invariant-loop-node l = record {
  fits : l.count < 2 ^ 64;
  whole : (lib : Library) → KnowsModels l.netlist lib l.known
      → min (l.count + widths lib (drop l.node-index l.netlist.instances)) (2 ^ 64 - 1) ≡ min (bits_of l.netlist lib) (2 ^ 64 - 1);
}
