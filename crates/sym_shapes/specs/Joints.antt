-- Numbers of shapes that tell which are joined.
use Rattle.std.specs.Prelude.{◌≡◌, ℕ, ◌<◌, ◌↔◌, ◌⊎◌, List, length, slice_index_or, Contains}
use Rattle.sym_shapes.specs.Shape.{Shape}
use Rattle.sym_shapes.specs.Joined.{Linked, Joined}
use Rattle.sym_shapes.specs.Chain.{LinkedAt}
use Rattle.sym_groups.specs.Ties.{Tied}
use Rattle.sym_shapes.specs.declared.forest.Link.{Link}
use Rattle.sym_shapes.specs.declared.forest.Forest.{Forest}

-- two shapes have one number exactly where a chain of links joins them
abbrev pub NumbersJoined : List Shape → List ℕ → Type 0
NumbersJoined shapes numbers = (i j : ℕ) (d : Shape) → i < length shapes → j < length shapes
    → (slice_index_or numbers i 0 ≡ slice_index_or numbers j 0)
    ↔ Joined shapes (slice_index_or shapes i d) (slice_index_or shapes j d)

-- shapes in one group are joined
abbrev pub TiesJoined : List Shape → List ℕ → Type 0
TiesJoined shapes ps = (i j : ℕ) (d : Shape) → i < length shapes → j < length shapes → Tied ps i j
    → Joined shapes (slice_index_or shapes i d) (slice_index_or shapes j d)

abbrev pub link : ℕ → ℕ → Link
link i j = record { from = i; to = j }

-- the links are those that stood before, and maybe that between a and b, both ways
pub record AddsLink (olds news : List Link) (a b : ℕ) : Type 0 where
  pub kept : (l : Link) → Contains olds l → Contains news l
  pub only : (l : Link) → Contains news l → Contains olds l ⊎ (l ≡ link a b) ⊎ (l ≡ link b a)

-- links lead from one place to the other
pub data Leads (links : List Link) : ℕ → ℕ → Type 0 where
  arrived : {i : ℕ} → Leads links i i
  along : {i k j : ℕ} → Contains links (link i k) → Leads links k j → Leads links i j

-- the links lead from each shape of a group to each other one
abbrev pub LinksLead : Forest → Type 0
LinksLead f = (i j : ℕ) → Tied f.groups i j → Leads f.links.items i j

-- each link is one between two shapes
abbrev pub AllLinked : List Shape → List Link → Type 0
AllLinked shapes links = (i j : ℕ) → Contains links (link i j) → (i < length shapes) × (j < length shapes) × LinkedAt shapes i j

-- the links are true, and lead from each shape of a group to each other one
pub record Spans (shapes : List Shape) (f : Forest) : Type 0 where
  pub linked : AllLinked shapes f.links.items
  pub leads : LinksLead f

-- groups have grown, by linked shapes alone
pub record Grows (shapes : List Shape) (f g : Forest) : Type 0 where
  pub many : length f.groups ≡ length g.groups
  pub kept : (i j : ℕ) → Tied f.groups i j → Tied g.groups i j
  pub spans : Spans shapes f → Spans shapes g

-- linked shapes are in one group
abbrev pub Covers : List Shape → List ℕ → Type 0
Covers shapes ps = (i j : ℕ) (d : Shape) → i < length shapes → j < length shapes
    → Linked (slice_index_or shapes i d) (slice_index_or shapes j d) → Tied ps i j
