use Rattle.std.proofs.Common.{arith}
use Rattle.std.specs.Prelude.{pos, ◌<ℤ◌}
use Rattle.std.proofs.lemmas.Int.{ints}
use Rattle.sym_geom.proofs.gaps.gap.Goals as goal

pub returns-then-across-along : goal.returns-then-across-along
returns-then-across-along c = record {
  none = λ meet. let small = (c.axis_gap-along.ensures.less 1 (omega arith)).1 (omega (arith, ints, meet), omega (arith, ints, meet)) in omega (arith, ints, small);
  less = λ d positive. (
    λ h.
        let x : c.axis_gap-across.result <ℤ pos d = omega (arith, ints, h) in
        let y : c.axis_gap-along.result <ℤ pos d = omega (arith, ints, h) in
        let across = (c.axis_gap-across.ensures.less d positive).0 x in
        let along = (c.axis_gap-along.ensures.less d positive).0 y in
        record { left = omega (arith, ints, across); right = omega (arith, ints, across); low = omega (arith, ints, along); high = omega (arith, ints, along) },
    λ near. let along = (c.axis_gap-along.ensures.less d positive).1 (omega (arith, ints, near), omega (arith, ints, near)) in omega (arith, ints, along),
  );
}

pub returns-else-across-along : goal.returns-else-across-along
returns-else-across-along c = record {
  none = λ meet. let small = (c.axis_gap-across.ensures.less 1 (omega arith)).1 (omega (arith, ints, meet), omega (arith, ints, meet)) in omega (arith, ints, small);
  less = λ d positive. (
    λ h.
        let x : c.axis_gap-across.result <ℤ pos d = omega (arith, ints, h) in
        let y : c.axis_gap-along.result <ℤ pos d = omega (arith, ints, h) in
        let across = (c.axis_gap-across.ensures.less d positive).0 x in
        let along = (c.axis_gap-along.ensures.less d positive).0 y in
        record { left = omega (arith, ints, across); right = omega (arith, ints, across); low = omega (arith, ints, along); high = omega (arith, ints, along) },
    λ near. let across = (c.axis_gap-across.ensures.less d positive).1 (omega (arith, ints, near), omega (arith, ints, near)) in omega (arith, ints, across),
  );
}
