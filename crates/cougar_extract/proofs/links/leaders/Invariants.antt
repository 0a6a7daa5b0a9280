use Rattle.std.proofs.Common.{◌≡◌, length}
use Rattle.cougar_extract.proofs.Linking.{LedTo}
use Rattle.cougar_extract.proofs.links.leaders.Given as goal

abbrev pub invariant-loop-k : goal.invariant-loop-k
invariant-loop-k l = record {
  many : length l.places.items ≡ l.count;
  led : LedTo l.links l.places.items l.k;
}
