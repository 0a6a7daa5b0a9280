-- How classes of terminals depend on each other through instances, and rings of them.
use Rattle.std.specs.Prelude.{◌≡◌, ℕ, ◌+◌, ◌<◌, false, List, [], ◌∷◌, ◌++◌, map, length, Option, None, Some, MatchOption, nat_eq, nat_lt, slice_index, slice_index_or, take, drop, filter, if◌then◌else◌}
use Rattle.std.specs.List.{All}
use Rattle.std.specs.Global.{Vec}
use Rattle.vlsi_base.specs.declared.name.Name.{Name}
use Rattle.vlsi_base.specs.declared.name.Dir.{Dir}
use Rattle.vlsi_base.specs.declared.name.Dir.TheVariants.{In, Out}
use Rattle.vlsi_base.specs.declared.name.Terminal.{Terminal}
use Rattle.vlsi_base.specs.Names.{comes_before, scalar}
use Rattle.net_core.specs.declared.frame.Node.{Node}
use Rattle.net_core.specs.declared.pins.ModelPin.{ModelPin}
use Rattle.net_core.specs.declared.pins.ModelPins.{ModelPins}
use Rattle.net_core.specs.declared.links.Link.{Link}
use Rattle.net_core.specs.Places.{Stands, IsThere, NoneTwice}
use Rattle.net_core.specs.Netlist.{Instance, Netlist, pin_of, HasClass}
use Rattle.net_core.specs.Checks.{pins_named, DependsOn, IsRing, NamesRing}

-- an output pin of the instance with this number depends at once on an input pin, and these are the classes of the two
pub record IsLinkOf (table : List ModelPins) (n : Netlist) (l : Link) (t : Terminal) : Type 0 where
  pub owner : Instance
  pub stands : Stands n.instances l.owner owner
  pub output : ModelPin
  pub known : IsThere (pins_named table owner.model) output
  pub is : t ≡ pin_of owner.name output.name
  pub gives : output.dir ≡ Out
  pub joined : HasClass n t l.output
  -- the input pin
  pub place : ℕ
  pub input : ModelPin
  pub depends : IsThere output.depends_on place
  pub there : Stands (pins_named table owner.model) place input
  pub takes : input.dir ≡ In
  pub reads : HasClass n (pin_of owner.name input.name) l.input

-- all links of a netlist, and no others
pub record AreLinks (table : List ModelPins) (n : Netlist) (links : List Link) : Type 0 where
  pub sound : (l : Link) → IsThere links l → (t : Terminal) × IsLinkOf table n l t
  pub complete : (a b : Terminal) → DependsOn table n a b → (l : Link) × IsThere links l × HasClass n a l.output × HasClass n b l.input

-- what elements give at their places, one after the other, where the first stands at this place
abbrev pub pieces_from : {X A : Type 0} → (ℕ → X → List A) → ℕ → List X → List A
pieces_from f k [] = []
pieces_from f k (x ∷ rest) = f k x ++ pieces_from f (k + 1) rest

-- the links of one pin of an instance, whose pins have these classes
abbrev pub links_of_dir : Dir → ℕ → List ℕ → ℕ → List ℕ → List Link
links_of_dir In owner classes output places = []
links_of_dir Out owner classes output places = map (λ d. record { output = output; input = slice_index classes d; owner = owner }) places

abbrev pub pin_links : ℕ → List ℕ → ℕ → ModelPin → List Link
pin_links owner classes k p = links_of_dir p.dir owner classes (slice_index classes k) p.depends_on

abbrev pub instance_links : ℕ → List ℕ → List ModelPin → List Link
instance_links owner classes pins = pieces_from (pin_links owner classes) 0 pins

-- links by the class of their output pin
pub record AreGrouped (links : List Link) (groups : List (Vec Link)) : Type 0 where
  pub each : (c : ℕ) (d : Vec Link) → c < length groups → (slice_index_or groups c d).items ≡ filter (λ l. nat_eq l.output c) links

-- for each class, the classes on which its output pin depends
abbrev pub inputs_of : List (Vec Link) → List (List ℕ)
inputs_of groups = map (λ g. map (λ l. l.input) g.items) groups

-- a link to a class; none exactly where there is none
abbrev pub IsLinkTo : List Link → ℕ → Option Link → Type 0
IsLinkTo links class found = MatchOption found (All (λ l. l.input ≡ class → ⊥) links) (λ l. IsThere links l × (l.input ≡ class))

-- what comes behind a place of a ring: behind the last the first
abbrev pub next_in : List ℕ → ℕ → ℕ
next_in ring k = if nat_lt (k + 1) (length ring) then slice_index ring (k + 1) else slice_index ring 0

-- a link from each class of a ring to the next
pub record AreChosen (groups : List (Vec Link)) (ring : List ℕ) (chosen : List Link) : Type 0 where
  pub many : length chosen ≡ length ring
  pub each : (k : ℕ) (l : Link) → Stands chosen k l
      → ((d : Vec Link) → IsThere (slice_index_or groups (slice_index ring k) d).items l) × (l.input ≡ next_in ring k)

abbrev pub owner_name : List Node → Link → Name
owner_name nodes l = scalar (slice_index_or (map (λ i. i.name) nodes) l.owner [])

-- a name; past the last one an empty one
abbrev pub name_at : List Name → ℕ → Name
name_at names k = slice_index_or names k (scalar [])

-- none of the names comes before this one
abbrev pub IsLeastName : List Name → Name → Type 0
IsLeastName names name = All (λ other. comes_before other name ≡ false) names

-- the names of the instances that link the classes of a ring, turned so that a least one comes first
pub record NamesLinks (nodes : List Node) (groups : List (Vec Link)) (ring : List ℕ) (names : List Name) : Type 0 where
  pub chosen : List Link
  pub are : AreChosen groups ring chosen
  pub turn : ℕ
  pub within : turn < length (map (owner_name nodes) chosen)
  pub least : IsLeastName (map (owner_name nodes) chosen) (name_at (map (owner_name nodes) chosen) turn)
  pub named : names ≡ drop turn (map (owner_name nodes) chosen) ++ take turn (map (owner_name nodes) chosen)

-- the names of the instances of a ring; none exactly where there is no ring
abbrev pub IsCycle : List ModelPins → Netlist → Option (List Name) → Type 0
IsCycle table n None = (ring : List Terminal) → IsRing table n ring → ⊥
IsCycle table n (Some names) = (ring : List Terminal) × IsRing table n ring × NamesRing ring names

-- The classes in an order: each stands once, behind that of each output pin on which an output pin in it depends at once.
pub record IsClassOrder (table : List ModelPins) (n : Netlist) (order : List ℕ) : Type 0 where
  pub inside : (c : ℕ) → IsThere order c → c < n.count
  pub once : NoneTwice order
  pub complete : (c : ℕ) → c < n.count → IsThere order c
  pub behind : (a b : Terminal) (c d i j : ℕ) → DependsOn table n a b → HasClass n a c → HasClass n b d → Stands order i c → Stands order j d → j < i
