-- Tracks, one after the other.
use Rattle.std.proofs.Common.{◌≡◌, inl, inr, ℕ, ◌+◌, ◌<◌, List, [], ◌∷◌, ◌++◌, map, take, length, get_or, sym, ap, subst, ◌∙◌, arith}
use Rattle.std.specs.Prelude.{not, filter}
use Rattle.std.specs.List.{All}
use Rattle.std.proofs.lemmas.Bool.{cases_lt}
use Rattle.std.proofs.lemmas.List.{take_more, map-append, length-append, get_or_append_left}
use Rattle.std.proofs.lemmas.List.Elements.{All-append, All-filter}
use Rattle.std.proofs.Math.Seq.{get_or-append_seam}
use Rattle.cell_model.specs.Access.{Point}
use Rattle.ocp_place.specs.Nets.{is_among}
use Rattle.ocp_place.specs.Placed.{InRow}
use Rattle.ocp_place.specs.Spans.{shown_span}
use Rattle.nero_tracks.specs.declared.route.Track.{Track}
use Rattle.nero_tracks.specs.Tracks.{net_pins, track_span, ends_of, IsTrack}

-- the classes of nets are classes
pub classes_inside : (p : InRow) (ports drivers classes : List ℕ) → All (λ c. c < length p.ends) ports → All (λ c. c < length p.ends) drivers
    → classes ≡ ports ++ filter (λ class. not (is_among ports class)) drivers → All (λ c. c < length p.ends) classes
classes_inside p ports drivers classes a b e =
    subst (All (λ c. c < length p.ends)) (sym e)
    (All-append (λ c. c < length p.ends) ports (filter (λ class. not (is_among ports class)) drivers) a
    (All-filter (λ class. not (is_among ports class)) (λ c. c < length p.ends) drivers b))

pub classes_more : (classes : List ℕ) (k d : ℕ) (tracks : List Track) (t : Track) → map (λ x. x.class) tracks ≡ take k classes → k < length classes → t.class ≡ get_or classes k d
    → map (λ x. x.class) (tracks ++ t ∷ []) ≡ take (k + 1) classes
classes_more classes k d tracks t so_far low is =
    map-append (λ (x : Track). x.class) tracks (t ∷ [])
    ∙ ap (λ (cs : List ℕ). cs ++ t.class ∷ []) so_far
    ∙ ap (λ (c : ℕ). take k classes ++ c ∷ []) is
    ∙ sym (take_more classes k d low)

-- each of the tracks is that of its net, also the last one
pub each_more : (p : InRow) (tracks : List Track) (t : Track) → ((k : ℕ) (d : Track) → k < length tracks → IsTrack p k (get_or tracks k d)) → IsTrack p (length tracks) t
    → (k : ℕ) (d : Track) → k < length (tracks ++ t ∷ []) → IsTrack p k (get_or (tracks ++ t ∷ []) k d)
each_more p tracks t each last k d below =
    elim (cases_lt k (length tracks)) [
      | inl less ↦ subst (IsTrack p k) (sym (get_or_append_left tracks (t ∷ []) d k less)) (each k d less)
      | inr more ↦
          let many = length-append tracks (t ∷ []) in
          let is : length tracks ≡ k = omega (arith, below, more, many) in
          subst (λ (j : ℕ). IsTrack p j (get_or (tracks ++ t ∷ []) j d)) is (subst (IsTrack p (length tracks)) (sym (get_or-append_seam tracks t [] d)) last)
    ]

-- the track of a class
pub is_track : (p : InRow) (ports : List ℕ) (points : List Point) (k n : ℕ) (t : Track) → ports ≡ p.ports → points ≡ ends_of p t.class → k ≡ n
    → shown_span t.span ≡ track_span points (net_pins (length ports) k points) → IsTrack p n t
is_track p ports points k n t a b e h =
    h
    ∙ ap (λ (qs : List Point). track_span qs (net_pins (length ports) k qs)) b
    ∙ ap (λ (ps : List ℕ). track_span (ends_of p t.class) (net_pins (length ps) k (ends_of p t.class))) a
    ∙ ap (λ (j : ℕ). track_span (ends_of p t.class) (net_pins (length p.ports) j (ends_of p t.class))) e
