-- The least name by which two lists, or two machines in some of their roles, differ.
use Rattle.std.specs.Prelude.{◌≡◌, Bool, not, List, Option, None, Some}
use Rattle.std.specs.Prelude.{if◌then◌else◌}
use Rattle.std.specs.Ordering.{is_lt}
use Rattle.std.specs.declared.cmp.Ordering.TheVariants.{Less}
use Rattle.vlsi_base.specs.declared.name.Name.{Name}
use Rattle.vlsi_base.specs.declared.name.Port.{Port}
use Rattle.vlsi_base.specs.declared.name.Dir.{Dir}
use Rattle.vlsi_base.specs.declared.name.Dir.TheVariants.{In as Inward, Out as Outward}
use Rattle.vlsi_base.specs.Name.{name_cmp}
use Rattle.vlsi_base.specs.Member.{In}
use Rattle.machine_core.specs.Machine.{Machine, is_input}
use Rattle.proof_joint.specs.declared.naming.Role.{Role}
use Rattle.proof_joint.specs.Naming.{names_with, IsApart}

abbrev pub has_direction : Dir → Port → Bool
has_direction Inward p = is_input p.dir
has_direction Outward p = not (is_input p.dir)

-- the name that stands first in the order of names
abbrev pub lesser_of : Name → Name → Name
lesser_of a b = if is_lt (name_cmp a b) then a else b

abbrev pub picked : Option Name → Option Name → Option Name
picked None other = other
picked (Some one) None = Some one
picked (Some one) (Some other) = Some (lesser_of one other)

-- the least name that stands in one of the lists alone
pub record IsLeastApart (xs ys : List Name) (name : Name) : Type 0 where
  pub apart : IsApart xs ys name
  pub least : (other : Name) → IsApart xs ys other → name_cmp other name ≡ Less → ⊥

-- the least name that has one of these roles in one of the machines alone
pub record IsLeastAmong (a b : Machine) (roles : List Role) (name : Name) : Type 0 where
  pub role : Role
  pub listed : In role roles
  pub apart : IsApart (names_with a role) (names_with b role) name
  pub least : (r : Role) → In r roles → (other : Name) → IsApart (names_with a r) (names_with b r) other
      → name_cmp other name ≡ Less → ⊥

-- what is known once these roles are compared
abbrev pub IsLeastIn : Machine → Machine → List Role → Option Name → Type 0
IsLeastIn a b roles None = (r : Role) → In r roles → names_with b r ≡ names_with a r
IsLeastIn a b roles (Some name) = IsLeastAmong a b roles name
