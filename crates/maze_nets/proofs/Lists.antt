-- Members of lists of nodes and of numbers.
use Rattle.std.proofs.Common.{◌≡◌, ◌≢◌, ℕ, zero, suc, ◌<◌, ◌⊎◌, inl, inr, ⊎_elim, List, [], ◌∷◌, length, get_or, Option, Some, None, refl, sym, ap, subst, ◌∙◌, arith}
use Rattle.std.specs.Prelude.{flat_map, slice_get}
use Rattle.std.proofs.lemmas.Bool.{cases_eq}
use Rattle.vlsi_base.specs.Member.{In, here, there}
use Rattle.grid_core.specs.declared.grid.Node.{Node}
use Rattle.grid_core.specs.Grid.{above}
use Rattle.grid_core.proofs.Lists.{In_either, In_first, In_last}
use Rattle.grid_core.proofs.Owners.{first_or}
use Rattle.maze_nets.specs.declared.points.NetPoints.{NetPoints}
use Rattle.maze_nets.specs.Nets.{port_node, points_of, reserved_of, nodes_of, net_points, net_reserved}

abbrev made : ℕ → ℕ → ℕ → Node
made m c r = record { metal = m; column = c; row = r }

pub cases_node : (p q : Node) → (p ≡ q) ⊎ (p ≢ q)
cases_node p q = elim (cases_eq p.metal q.metal) [
  | inr ne ↦ inr (λ e. ne (ap (λ (x : Node). x.metal) e))
  | inl em ↦ elim (cases_eq p.column q.column) [
    | inr ne ↦ inr (λ e. ne (ap (λ (x : Node). x.column) e))
    | inl ec ↦ elim (cases_eq p.row q.row) [
      | inr ne ↦ inr (λ e. ne (ap (λ (x : Node). x.row) e))
      | inl er ↦ inl (ap (λ m. made m p.column p.row) em ∙ ap (λ c. made q.metal c p.row) ec ∙ ap (λ r. made q.metal q.column r) er)
    ]
  ]
]

pub cases_in : (p : Node) (xs : List Node) → In p xs ⊎ (In p xs → ⊥)
cases_in p [] = inr (λ i. elim i [ ])
cases_in p (x ∷ xs) = elim (cases_node p x) [
  | inl e ↦ inl (subst (λ (y : Node). In p (y ∷ xs)) e here)
  | inr ne ↦ elim (cases_in p xs) [ inl i ↦ inl (there i) | inr out ↦ inr (λ i. ⊎_elim ne out (first_or p x xs i)) ]
]

pub get_in : {A : Type 0} (xs : List A) (i : ℕ) (x : A) → slice_get xs i ≡ Some x → In x xs
get_in [] i x e = absurd (cc e)
get_in (y ∷ xs) zero x e = let same : y ≡ x = cc in subst (λ z. In x (z ∷ xs)) (sym same) here
get_in (y ∷ xs) (suc i) x e = there (get_in xs i x e)

pub get_below : {A : Type 0} (xs : List A) (i : ℕ) (x : A) → slice_get xs i ≡ Some x → i < length xs
get_below [] i x e = absurd (cc e)
get_below (y ∷ xs) zero x e = omega arith
get_below (y ∷ xs) (suc i) x e = let h = get_below xs i x e in omega arith

pub get_place : {A : Type 0} (xs : List A) (i : ℕ) (d : A) → i < length xs → slice_get xs i ≡ Some (get_or xs i d)
get_place [] i d h = absurd (let no : ⊥ = omega arith in no)
get_place (x ∷ xs) zero d h = refl
get_place (x ∷ xs) (suc i) d h = get_place xs i d (omega arith)

pub place_in : {A : Type 0} (xs : List A) (i : ℕ) (d : A) → i < length xs → In (get_or xs i d) xs
place_in [] i d h = absurd (let no : ⊥ = omega arith in no)
place_in (x ∷ xs) zero d h = here
place_in (x ∷ xs) (suc i) d h = there (place_in xs i d (omega arith))

-- two answers that are one
pub some_same : (j k : ℕ) → ◌≡◌ {A = Option ℕ} (Some j) (Some k) → j ≡ k
some_same j k e = cc

-- what is reserved for a net is reserved for one that is there
pub reserved_below : (nets : List NetPoints) (k : ℕ) (p : Node) → In p (net_reserved nets k) → k < length nets
reserved_below nets k p i = by (slice_get nets k) refl i
  where
    by : (o : Option NetPoints) → slice_get nets k ≡ o → In p (nodes_of reserved_of o) → k < length nets
    by None e i = elim i [ ]
    by (Some n) e i = get_below nets k n e

-- points are reserved
terminals_in : (xs : List Node) (p : Node) → In p xs → In p (flat_map (λ q. q ∷ above q ∷ []) xs)
terminals_in [] p i = elim i [ ]
terminals_in (x ∷ xs) p here = here
terminals_in (x ∷ xs) p (there i) = there (there (terminals_in xs p i))

pub point_reserved : (nets : List NetPoints) (k : ℕ) (p : Node) → In p (net_points nets k) → In p (net_reserved nets k)
point_reserved nets k p i = by (slice_get nets k) i
  where
    by : (o : Option NetPoints) → In p (nodes_of points_of o) → In p (nodes_of reserved_of o)
    by None i = elim i [ ]
    by (Some n) i =
        ⊎_elim (λ a. In_first (port_node n.port) (flat_map (λ q. q ∷ above q ∷ []) n.terminals.items) p a)
        (λ a. In_last (port_node n.port) (flat_map (λ q. q ∷ above q ∷ []) n.terminals.items) p (terminals_in n.terminals.items p a))
        (In_either (port_node n.port) n.terminals.items p i)
