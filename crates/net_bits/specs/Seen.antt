-- The netlist that a netlist in memory is seen as.
use Rattle.std.specs.Prelude.{◌≡◌, ℕ, Bool, true, false, ◌&&◌, List, [], ◌∷◌, Option, None, Some, if◌then◌else◌}
use Rattle.vlsi_base.specs.declared.name.Terminal.{Terminal}
use Rattle.machine_core.specs.Named.{is_same_text, is_same_name}
use Rattle.net_core.specs.Netlist.{Netlist as InMemory, IsNetlist, terminals}
use Rattle.net_meaning.specs.Netlist.{AbstractNetlist}
use Rattle.net_right.specs.View.{IsSeenAs, netlist_by}

unfoldable pub is_same_owner : Option (List ℕ) → Option (List ℕ) → Bool
is_same_owner None None = true
is_same_owner (Some a) (Some b) = is_same_text a b
is_same_owner None (Some b) = false
is_same_owner (Some a) None = false

unfoldable pub is_same_terminal : Terminal → Terminal → Bool
is_same_terminal a b = is_same_owner a.instance b.instance && is_same_name a.pin b.pin

-- the class that stands beside the terminal, and 0 for a terminal that isn't there
unfoldable pub class_at : List Terminal → List ℕ → Terminal → ℕ
class_at [] ks t = 0
class_at (u ∷ us) [] t = 0
class_at (u ∷ us) (k ∷ ks) t = if is_same_terminal u t then k else class_at us ks t

-- Each terminal has its class, and any other the class 0.
abbrev pub seen : InMemory → AbstractNetlist
seen n = netlist_by (class_at (terminals n) n.classes) n

-- Each netlist is seen as one, so what is said of each view of a netlist is said of one at least.
abbrev pub EachNetlistIsSeen : Type 0
EachNetlistIsSeen = (n : InMemory) → IsNetlist n → IsSeenAs n (seen n)
