use Rattle.std.proofs.Common.{◌≡◌, ◌<◌, ℕ, map, take, length}
use Rattle.std.specs.Prelude.{slice_index_or}
use Rattle.std.specs.List.{All}
use Rattle.nero_tracks.specs.declared.route.Track.{Track}
use Rattle.nero_tracks.specs.Tracks.{IsTrack, IsNearSpan}
use Rattle.nero_tracks.proofs.route.tracks.Given as goal

abbrev pub invariant-loop-k : goal.invariant-loop-k
invariant-loop-k l = record {
  many : length l.tracks.items ≡ l.k;
  classes : map (λ t. t.class) l.tracks.items ≡ take l.k l.classes.items;
  inside : All (λ t. t.class < length l.placement.ends) l.tracks.items;
  near : All (λ t. IsNearSpan t.span) l.tracks.items;
  each : (k : ℕ) (d : Track) → k < length l.tracks.items → IsTrack l.placement k (slice_index_or l.tracks.items k d);
}
