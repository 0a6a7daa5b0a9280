use Rattle.std.proofs.Common.{◌≡◌, ◌++◌, take}
use Rattle.s2r_cif.specs.Cif.{boxes_text}
use Rattle.s2r_cif.proofs.cif.box_lines.Given as goal

abbrev pub invariant-loop-one : goal.invariant-loop-one
invariant-loop-one l = l.out ≡ l.fn.out ++ boxes_text l.level (take l.one-index l.boxes)
