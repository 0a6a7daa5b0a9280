-- The instances of a figure.
use Rattle.std.proofs.Common.{◌≡◌, ℕ, ◌≤◌, List, [], ◌∷◌, ◌++◌, map, length, refl, sym, ap, subst, arith}
use Rattle.vlsi_base.specs.Member.{In, here, there}
use Rattle.sym_geom.specs.declared.item.Instance.{Instance as Placed}
use Rattle.sym_geom.specs.declared.item.Item.{Item}
use Rattle.sym_geom.specs.declared.item.Item.TheVariants as item
use Rattle.cell_model.specs.Layout.{instances_of}
use Rattle.net_core.specs.Places.{Stands, NoneTwice}
use Rattle.net_core.proofs.Frames.{mapped}
use Rattle.net_core.proofs.Standing.{stands_same}
use Rattle.net_right.proofs.Lists.{in_place}

-- each is a line of the figure
pub instance_line : (items : List Item) (i : Placed) → In i (instances_of items) → In (item.Instance i) items
instance_line [] i h = elim h [ ]
instance_line (item.Segment s ∷ rest) i h = there (instance_line rest i h)
instance_line (item.Connector c ∷ rest) i h = there (instance_line rest i h)
instance_line (item.Via v ∷ rest) i h = there (instance_line rest i h)
instance_line (item.Instance j ∷ rest) i here = here
instance_line (item.Instance j ∷ rest) i (there h) = there (instance_line rest i h)
instance_line (item.Reference r ∷ rest) i h = there (instance_line rest i h)
instance_line (item.Remark text ∷ rest) i h = there (instance_line rest i h)

-- each line that is one is among them
pub line_instance : (items : List Item) (i : Placed) → In (item.Instance i) items → In i (instances_of items)
line_instance [] i h = elim h [ ]
line_instance (item.Instance j ∷ rest) i here = here
line_instance (item.Segment s ∷ rest) i (there h) = line_instance rest i h
line_instance (item.Connector c ∷ rest) i (there h) = line_instance rest i h
line_instance (item.Via v ∷ rest) i (there h) = line_instance rest i h
line_instance (item.Instance j ∷ rest) i (there h) = there (line_instance rest i h)
line_instance (item.Reference r ∷ rest) i (there h) = line_instance rest i h
line_instance (item.Remark text ∷ rest) i (there h) = line_instance rest i h

pub instances_append : (a b : List Item) → instances_of (a ++ b) ≡ instances_of a ++ instances_of b
instances_append [] b = refl
instances_append (item.Segment s ∷ rest) b = instances_append rest b
instances_append (item.Connector c ∷ rest) b = instances_append rest b
instances_append (item.Via v ∷ rest) b = instances_append rest b
instances_append (item.Instance i ∷ rest) b = ap (λ (v : List Placed). i ∷ v) (instances_append rest b)
instances_append (item.Reference r ∷ rest) b = instances_append rest b
instances_append (item.Remark text ∷ rest) b = instances_append rest b

-- they are no more than the lines
pub instances_few : (items : List Item) → length (instances_of items) ≤ length items
instances_few [] = omega arith
instances_few (item.Segment s ∷ rest) = let h = instances_few rest in omega (arith, h)
instances_few (item.Connector c ∷ rest) = let h = instances_few rest in omega (arith, h)
instances_few (item.Via v ∷ rest) = let h = instances_few rest in omega (arith, h)
instances_few (item.Instance i ∷ rest) = let h = instances_few rest in omega (arith, h)
instances_few (item.Reference r ∷ rest) = let h = instances_few rest in omega (arith, h)
instances_few (item.Remark text ∷ rest) = let h = instances_few rest in omega (arith, h)

abbrev pub name_of : Placed → List ℕ
name_of i = i.name

-- two of one name are the same
pub same_instance : (is : List Placed) → NoneTwice (map (λ (i : Placed). i.name) is) → (i j : Placed) → In i is → In j is → i.name ≡ j.name → i ≡ j
same_instance is once i j p q same =
    let a = in_place i is p in
    let b = in_place j is q in
    let named : Stands (map name_of is) b.0 i.name = subst (λ (t : List ℕ). Stands (map name_of is) b.0 t) (sym same) (mapped name_of is b.0 j b.1) in
    let place : a.0 ≡ b.0 = once a.0 b.0 i.name (mapped name_of is a.0 i a.1) named in
    let moved : Stands is b.0 i = let P : ℕ → Type 0 = λ k. Stands is k i in subst P place a.1 in
    stands_same is b.0 i j moved b.1
