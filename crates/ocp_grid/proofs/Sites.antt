-- The pins among the terminals of a net lie on the grid as these do.
use Rattle.std.proofs.Common.{◌≡◌, ℕ, Bool, true, false, cond, List, [], ◌∷◌, map, drop, subst}
use Rattle.std.specs.Prelude.{nat_lt}
use Rattle.std.specs.List.{All}
use Rattle.vlsi_base.specs.Member.{In, there}
use Rattle.cell_model.specs.Access.{Point}
use Rattle.cell_model.proofs.Members.{In-map, In-map_back, All-In, All-from}
use Rattle.ocp_place.specs.declared.row.Site.{Site}
use Rattle.ocp_place.specs.Reaches.{site_of}
use Rattle.nero_tracks.specs.Tracks.{net_pins}
use Rattle.ocp_grid.specs.Sites.{IsOnGrid}

behind : {A : Type 0} (xs : List A) (x : A) → In x (drop 1 xs) → In x xs
behind [] x i = i
behind (y ∷ xs) x i = there i

among : (t : Bool) (points : List Point) (q : Point) → In q (cond t (drop 1 points) points) → In q points
among true points q i = behind points q i
among false points q i = i

pub pins_on : (ends pins : List Site) (ports k : ℕ) → All (λ s. IsOnGrid (site_of s).1) ends → map (λ s. (site_of s).1) pins ≡ net_pins ports k (map (λ s. (site_of s).1) ends)
    → All (λ s. IsOnGrid (site_of s).1) pins
pins_on ends pins ports k all e =
    All-from (λ (s : Site). IsOnGrid (site_of s).1) pins
    (λ s i. on s (among (nat_lt k ports) (map (λ s. (site_of s).1) ends) (site_of s).1 (subst (λ (qs : List Point). In (site_of s).1 qs) e (In-map (λ (s : Site). (site_of s).1) s pins i))))
  where
    on : (s : Site) → In (site_of s).1 (map (λ s. (site_of s).1) ends) → IsOnGrid (site_of s).1
    on s i =
        let r = In-map_back (λ (s : Site). (site_of s).1) (site_of s).1 ends i in
        subst IsOnGrid r.2 (All-In (λ (s : Site). IsOnGrid (site_of s).1) ends all r.0 r.1)
