-- The stages of a comparison: the classes of one netlist's terminals in the other, where the members of each class are there, and
-- what differs as it is seen from one of the two.
use Rattle.std.specs.Prelude.{◌≡◌, ◌↔◌, ℕ, ◌+◌, ◌<◌, Bool, true, false, List, [], ◌++◌, length, map, Option, None, Some, slice_get, slice_index_or, if◌then◌else◌, nat_eq}
use Rattle.std.specs.Cmp.Lexicographic.{slice_cmp}
use Rattle.std.specs.Ordering.{nat_cmp, is_lt}
use Rattle.vlsi_base.specs.declared.name.Name.{Name}
use Rattle.vlsi_base.specs.declared.name.Terminal.{Terminal}
use Rattle.vlsi_base.specs.Names.{comes_before}
use Rattle.net_core.specs.Places.{Stands, IsThere}
use Rattle.net_core.specs.Netlist.{Instance, Netlist, IsNetlist, port, pin_of, terminals, HasClass, IsClassOf}
use Rattle.net_core.specs.declared.frame.Node.{Node}
use Rattle.net_right.specs.Same.{HasInstance, AreJoined}
use Rattle.lvx_compare.specs.declared.images.Image.{Image}
use Rattle.lvx_compare.specs.declared.images.Image.TheVariants as image
use Rattle.lvx_compare.specs.Compared.{HasPort, HasOtherMembers, IsLeast}

-- ---- classes of terminals in a netlist

-- for each terminal of a list its class in the netlist, none exactly where it isn't there
pub record AreClasses (n : Netlist) (ts : List Terminal) (found : List (Option ℕ)) : Type 0 where
  pub many : length found ≡ length ts
  pub each : (k : ℕ) (t : Terminal) (c : Option ℕ) → Stands ts k t → Stands found k c → IsClassOf n t c

-- the classes of these terminals were put behind those of others
abbrev pub AddsClasses : Netlist → List Terminal → List (Option ℕ) → List (Option ℕ) → Type 0
AddsClasses n ts old new = (before : List Terminal) → AreClasses n before old → AreClasses n (before ++ ts) new

-- ---- where the members of a class are in the other netlist

-- with one more member, whose class there is this one
abbrev pub with_member : Image → Option ℕ → Image
with_member image.Unseen (Some d) = image.Within d
with_member (image.Within e) (Some d) = if nat_eq d e then image.Within e else image.Scattered
with_member image.Scattered (Some d) = image.Scattered
with_member _ None = image.Scattered

-- the first so many terminals have these classes, and those in the other netlist: where those of one class are there
pub record IsScattered (classes : List ℕ) (found : List (Option ℕ)) (class : ℕ) : Type 0 where
  pub first : ℕ
  pub second : ℕ
  pub one : Stands classes first class
  pub other : Stands classes second class
  pub apart : (d : ℕ) → Stands found first (Some d) → Stands found second (Some d) → ⊥

-- where the terminals of a class are in the other netlist: nowhere, since there are none, all in one class, or not so
abbrev pub IsImage : List ℕ → List (Option ℕ) → ℕ → Image → Type 0
IsImage classes found class image.Unseen = IsThere classes class → ⊥
IsImage classes found class (image.Within d) = IsThere classes class × ((k : ℕ) → Stands classes k class → Stands found k (Some d))
IsImage classes found class image.Scattered = IsScattered classes found class

pub record AreImages (classes : List ℕ) (found : List (Option ℕ)) (images : List Image) : Type 0 where
  pub each : (c : ℕ) (d : Image) → c < length images → IsImage classes found c (slice_index_or images c d)

-- ---- classes that have the same members in both

abbrev pub is_within : Option Image → Bool
is_within (Some (image.Within c)) = true
is_within _ = false

-- all members are in one class of the other netlist, and all members of that in one class here
abbrev pub is_kept : List Image → Image → Bool
is_kept back (image.Within d) = is_within (slice_get back d)
is_kept back _ = false

-- the terminals in one class with this one are the same in both netlists
abbrev pub KeepsMembers : Netlist → Netlist → Terminal → Type 0
KeepsMembers n other t = (s : Terminal) → AreJoined n t s ↔ AreJoined other t s

-- a mark for each class of a netlist: whether its members are one class of the other
pub record AreMarks (n other : Netlist) (marks : List Bool) : Type 0 where
  pub sound : IsNetlist n
  pub many : length marks ≡ n.count
  pub kept : (t : Terminal) (c : ℕ) → HasClass n t c → Stands marks c true → KeepsMembers n other t
  pub parted : (t : Terminal) (c : ℕ) → HasClass n t c → Stands marks c false → HasOtherMembers n other t

-- the mark of a class; of none false
abbrev pub mark_of : List Bool → Option ℕ → Bool
mark_of marks None = false
mark_of marks (Some class) = slice_index_or marks class false

-- the mark of the class of the terminal with this number
abbrev pub mark_at : List Bool → List ℕ → ℕ → Bool
mark_at marks classes place = mark_of marks (slice_get classes place)

-- whether the classes of all pins of an instance are marked
abbrev pub AllMarked : List Bool → List ℕ → Node → Bool → Type 0
AllMarked marks classes i true = (k : ℕ) → k < length i.pins → mark_at marks classes (i.first + k) ≡ true
AllMarked marks classes i false = (k : ℕ) × (k < length i.pins) × (mark_at marks classes (i.first + k) ≡ false)

-- ---- what differs, seen from one netlist

-- it has the port, whose class has other members in the other
pub record IsOddPort (n other : Netlist) (name : Name) : Type 0 where
  pub here : HasPort n name
  pub parted : HasOtherMembers n other (port name)

-- the least port that differs; where none does, each has the same members in its class there
abbrev pub IsFirstPort : Netlist → Netlist → Option Name → Type 0
IsFirstPort n other None = (name : Name) → HasPort n name → KeepsMembers n other (port name)
IsFirstPort n other (Some name) = IsLeast (IsOddPort n other) name

-- it has the instance, and the other hasn't, or not with this model, or a terminal's class has other members there
pub data IsOddInstance (n other : Netlist) (name : List ℕ) : Type 0 where
  other_model : (model : List ℕ) → HasInstance n name model → (HasInstance other name model → ⊥) → IsOddInstance n other name
  other_members : (pin : Name) → IsThere (terminals n) (pin_of name pin) → HasOtherMembers n other (pin_of name pin) → IsOddInstance n other name

-- the other has the instance with this model, and its terminals have the same members in their classes
pub record KeepsInstance (n other : Netlist) (i : Instance) : Type 0 where
  pub model : HasInstance other i.name i.model
  pub pins : (pin : Name) → IsThere i.pins pin → KeepsMembers n other (pin_of i.name pin)

-- whether an instance differs
abbrev pub IsOdd : Netlist → Netlist → Instance → Bool → Type 0
IsOdd n other i true = IsOddInstance n other i.name
IsOdd n other i false = KeepsInstance n other i

-- an instance's name has no bit
pub record IsOddName (n other : Netlist) (name : Name) : Type 0 where
  pub scalar : name.bit ≡ None
  pub odd : IsOddInstance n other name.text

-- the least instance that differs; where none does, each is in the other as it is here
abbrev pub IsFirstInstance : Netlist → Netlist → Option Name → Type 0
IsFirstInstance n other None = (i : Instance) → IsThere n.instances i → KeepsInstance n other i
IsFirstInstance n other (Some name) = IsLeast (IsOddName n other) name

-- the lesser of two names, or the one that is there
abbrev pub lesser : Option Name → Option Name → Option Name
lesser None b = b
lesser (Some a) None = Some a
lesser (Some a) (Some b) = if comes_before b a then Some b else Some a

-- the name of an instance by its number
abbrev pub name_at : List Node → ℕ → List ℕ
name_at nodes k = slice_index_or (map (λ i. i.name) nodes) k []

-- the instance with one number has a lesser name than that with another, or there is no other
abbrev pub is_before : List Node → ℕ → Option ℕ → Bool
is_before nodes number None = true
is_before nodes number (Some other) = is_lt (slice_cmp nat_cmp (name_at nodes number) (name_at nodes other))
