use Rattle.std.proofs.Common.{◌≡◌, ℕ, length, subst, arith}
use Rattle.sym_shapes.specs.Seen.{Seen, place_of}
use Rattle.sym_shapes.proofs.Marked.{covers_marks}
use Rattle.sym_shapes.proofs.marks.join_marked.Goals as goal

pub returns-clause-covers : goal.returns-clause-covers
returns-clause-covers c =
    let end : c.loop-place.place ≡ length c.args.shapes.now = omega (arith, c.loop-place-test.false, c.loop-place.auto.place-end) in
    covers_marks c.args.shapes.now c.args.kind c.loop-place.forest.groups (place_of c.loop-place.seen)
    (subst (λ (n : ℕ). Seen c.args.shapes.now c.args.kind c.loop-place.forest.groups (place_of c.loop-place.seen) n) end c.loop-place.invariant.seen)
