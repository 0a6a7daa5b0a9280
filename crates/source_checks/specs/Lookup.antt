-- The place that a map has at a text.
use Rattle.std.specs.Prelude.{◌≡◌, ℕ, List, Option, None, Some, bytes_eq, if◌then◌else◌}
use Rattle.std.specs.Global.{Vec}
use Rattle.std.specs.BTreeMap.{BTreeMap, get_by}
use Rattle.std.specs.Cmp.Lexicographic.{slice_cmp}
use Rattle.std.specs.Ordering.{nat_cmp}

abbrev pub place_at : BTreeMap (Vec ℕ) ℕ → List ℕ → Option ℕ
place_at m text = get_by (λ k. slice_cmp nat_cmp text k.items) m

-- the first of two places, if there is one
abbrev pub or_place : Option ℕ → Option ℕ → Option ℕ
or_place None o = o
or_place (Some n) o = Some n

-- the new map has what the old one has, and this text at this place if the old one has nothing there
abbrev pub Learns : BTreeMap (Vec ℕ) ℕ → BTreeMap (Vec ℕ) ℕ → List ℕ → ℕ → Type 0
Learns old new text place = (t : List ℕ) → place_at new t ≡ or_place (place_at old t) (if bytes_eq text t then Some place else None)
