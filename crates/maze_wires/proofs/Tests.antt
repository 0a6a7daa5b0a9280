-- Tests of nodes, by their parts.
use Rattle.std.proofs.Common.{◌≡◌, ℕ, suc, ◌+◌, ◌<◌, Bool, true, false, List, ◌∷◌, length, get_or, refl, sym, ap, ◌∙◌, subst, arith}
use Rattle.std.specs.List.{All}
use Rattle.grid_core.specs.declared.grid.Node.{Node}
use Rattle.grid_core.specs.Grid.{ahead, above}
use Rattle.maze_drawing.specs.Merge.{line_of, place_of, is_same_node}
use Rattle.maze_drawing.proofs.Unique.{node_same}
use Rattle.maze_drawing.proofs.Merging.{line_ahead, place_ahead, key_same, same_so, same_itself}

-- a test that is true just where two nodes are one
tells : (p q : Node) (r : Bool) → (r ≡ true → q ≡ p) → (q ≡ p → r ≡ true) → r ≡ is_same_node q p
tells p q true f g = sym (subst (λ v. is_same_node q v ≡ true) (f refl) (same_itself q))
tells p q false f g = by (is_same_node q p) refl
  where
    by : (v : Bool) → is_same_node q p ≡ v → false ≡ v
    by false e = refl
    by true e = g (same_so q p e)

pub tells_ahead : (p q : Node) (k : ℕ) (r : Bool) → (r ≡ true → (q.metal ≡ p.metal) × (line_of q ≡ line_of p) × (place_of q ≡ place_of p + k))
    → (q.metal ≡ p.metal → line_of q ≡ line_of p → place_of q ≡ place_of p + k → r ≡ true) → r ≡ is_same_node q (ahead p k)
tells_ahead p q k r f g =
    tells (ahead p k) q r
    (λ e. let h = f e in key_same q (ahead p k) h.0 (h.1 ∙ sym (line_ahead p k)) (h.2 ∙ sym (place_ahead p k)))
    (λ e. g (ap (λ v. v.metal) e) (ap line_of e ∙ line_ahead p k) (ap place_of e ∙ place_ahead p k))

pub tells_above : (p q : Node) (r : Bool) → (r ≡ true → (q.metal ≡ p.metal + 1) × (q.column ≡ p.column) × (q.row ≡ p.row))
    → (q.metal ≡ p.metal + 1 → q.column ≡ p.column → q.row ≡ p.row → r ≡ true) → r ≡ is_same_node q (above p)
tells_above p q r f g =
    tells (above p) q r
    (λ e. let h = f e in node_same q (above p) h.0 h.1 h.2)
    (λ e. g (ap (λ v. v.metal) e) (ap (λ v. v.column) e) (ap (λ v. v.row) e))

-- the steps of a wire that goes on can be counted by 32 bits
pub longer_fits : (steps rest : List Node) (first from : Node) (k i : ℕ) (d : Node) (r : Bool) → steps ≡ first ∷ rest → All (λ p. place_of p < 4294967295) steps → i < length rest
    → r ≡ is_same_node (get_or rest i d) (ahead from k) → r ≡ true → k + 1 < 4294967296
longer_fits steps rest first from k i d r is ends lt same e =
    let all : All (λ p. place_of p < 4294967295) (first ∷ rest) = subst (All (λ p. place_of p < 4294967295)) is ends in
    let low : place_of (get_or rest i d) < 4294967295 = all (suc i) d (omega arith) in
    let at : place_of (get_or rest i d) ≡ place_of from + k = ap place_of (same_so (get_or rest i d) (ahead from k) (sym same ∙ e)) ∙ place_ahead from k in
    omega (arith, low, at)
