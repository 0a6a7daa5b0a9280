use Rattle.std.proofs.Common.{◌≡◌, ◌≤◌, ◌*◌, take, length}
use Rattle.syf_encode.specs.Pieces.{reach}
use Rattle.syf_encode.proofs.adjacent.reach.Given as goal

abbrev pub invariant-loop-neighbour : goal.invariant-loop-neighbour
invariant-loop-neighbour l = record {
  small : l.sum ≤ 32 * l.neighbour-index;
  same : l.sum ≡ reach (length l.numbers) l.numbers l.state l.other (take l.neighbour-index l.near);
}
