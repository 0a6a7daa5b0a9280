-- The tracks of a placement's nets, as they are kept in memory.
use Rattle.std.specs.Prelude.{◌≡◌, ℕ, ◌<◌, ◌≤◌, ℤ, Bool, not, List, [], ◌∷◌, ◌++◌, map, filter, drop, length, nat_lt, Option, None, Some, slice_index_or, if◌then◌else◌}
use Rattle.std.specs.List.{All}
use Rattle.cell_model.specs.Access.{Point}
use Rattle.ocp_place.specs.Nets.{is_among}
use Rattle.ocp_place.specs.Placed.{InRow}
use Rattle.ocp_place.specs.Spans.{span, shown_span}
use Rattle.nero_tracks.specs.declared.route.Track.{Track}

-- the points of the pins of net k: those of its class behind that of its port, where it is one of so many nets with a port
abbrev pub net_pins : ℕ → ℕ → List Point → List Point
net_pins many k points = if nat_lt k many then drop 1 points else points

-- from the least to the greatest x of all points; no track for a net without pins
abbrev pub track_span : List Point → List Point → Option (ℤ × ℤ)
track_span points [] = None
track_span points (q ∷ qs) = span (map (λ r. r.0) points)

abbrev pub ends_of : InRow → ℕ → List Point
ends_of p class = slice_index_or p.ends class []

-- track k has the span of its net
abbrev pub IsTrack : InRow → ℕ → Track → Type 0
IsTrack p k t = shown_span t.span ≡ track_span (ends_of p t.class) (net_pins (length p.ports) k (ends_of p t.class))

-- it ends at coordinates that aren't large
abbrev pub IsNearSpan : Option (ℕ × ℕ) → Type 0
IsNearSpan None = Unit {0}
IsNearSpan (Some r) = (r.0 ≤ 100000000000000) × (r.1 ≤ 100000000000000)

-- The nets of a placement: those of its ports, then those of its drivers whose class has no port; each has its track.
pub record AreTracks (p : InRow) (tracks : List Track) : Type 0 where
  pub classes : map (λ t. t.class) tracks ≡ p.ports ++ filter (λ class. not (is_among p.ports class)) p.drivers
  pub each : (k : ℕ) (d : Track) → k < length tracks → IsTrack p k (slice_index_or tracks k d)
  pub inside : All (λ t. t.class < length p.ends) tracks
  pub near : All (λ t. IsNearSpan t.span) tracks

-- for each of so many classes, whether it stands among some
pub record AreMarks (classes : List ℕ) (count : ℕ) (marks : List Bool) : Type 0 where
  pub many : length marks ≡ count
  pub each : (k : ℕ) (d : Bool) → k < count → slice_index_or marks k d ≡ is_among classes k
