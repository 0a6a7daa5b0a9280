-- How few gates and buffers a layout has.
use Rattle.std.specs.Prelude.{ℕ, ◌+◌, ◌-◌, ◌*◌, ◌≤◌, List, count_by, min, sum}
use Rattle.std.specs.List.{AllZip}
use Rattle.machine_core.specs.Machine.{Machine}
use Rattle.machine_core.specs.Size.{machine_size}
use Rattle.machine_roots.specs.Roots.{roots, IsDag}
use Rattle.boom_opt.specs.Optimised.{inner_size}
use Rattle.cell_model.specs.Library.{Library}
use Rattle.net_meaning.specs.Netlist.{AbstractNetlist}
use Rattle.net_meaning.specs.Order.{begins_with_g}
use Rattle.loon_drive.specs.Driven.{most_sinks}
use Rattle.loon_fanout.specs.Nets.{HasFewInputs, FitsWithoutBuffers, HasNoBuffer}

-- The instances named g are at most the size of the machine and 2, its inner signals being counted as at most four times the nodes of
-- its roots' diagrams, each diagram for itself. No class but those of the clock, vdd and vss has more than so many input pins (4 where
-- that is less, which words don't ask for); and it has no buffer at all if with all of them taken out no class but those of the supplies
-- had more sinks than that.
pub record IsLeanBy (n : AbstractNetlist) (l : Library) (m : Machine) (fanout : ℕ) : Type 0 where
  pub dags : List ℕ
  pub each : AllZip (IsDag m) (roots m) dags
  pub gates : count_by (λ i. begins_with_g i.name) n.instances ≤ machine_size m - inner_size m + min (inner_size m) (4 * sum dags) + 2
  pub inputs : HasFewInputs n l m (most_sinks fanout)
  pub buffers : FitsWithoutBuffers n l (most_sinks fanout) → HasNoBuffer n
