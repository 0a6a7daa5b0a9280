-- A netlist in memory as one of those that layouts give.
use Rattle.std.specs.Prelude.{◌≡◌, ℕ, map}
use Rattle.vlsi_base.specs.declared.name.Terminal.{Terminal}
use Rattle.net_core.specs.Netlist.{Instance, Netlist as InMemory, IsClassFunction}
use Rattle.net_meaning.specs.Netlist.{Member, AbstractNetlist}

abbrev pub member_of : Instance → Member
member_of i = record { name = i.name; model = i.model }

-- with a number for each terminal
abbrev pub netlist_by : (Terminal → ℕ) → InMemory → AbstractNetlist
netlist_by class n = record { ports = map (λ p. p.name) n.ports; instances = map member_of n.instances; classes = n.count; class = class }

-- The second is the first, where the number of each terminal that is there is its class.
pub record IsSeenAs (n : InMemory) (k : AbstractNetlist) : Type 0 where
  pub is : k ≡ netlist_by k.class n
  pub classes : IsClassFunction n k.class
