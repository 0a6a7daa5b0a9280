use Rattle.std.proofs.Common.{◌≡◌, ◌++◌, take}
use Rattle.s2r_cif.specs.Cif.{layers_text}
use Rattle.s2r_cif.proofs.cif.layers.Given as goal

abbrev pub invariant-loop-level : goal.invariant-loop-level
invariant-loop-level l = l.out ≡ l.fn.out ++ layers_text l.letter (take l.level-index l.levels) l.boxes
