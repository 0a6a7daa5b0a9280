use Rattle.std.proofs.Common.{sym, subst}
use Rattle.vlsi_base.specs.Member.{In}
use Rattle.grid_core.specs.declared.grid.Grid.{Grid}
use Rattle.grid_core.specs.Grid.{IsInGrid}
use Rattle.grid_core.specs.Owners.{IsTaken}
use Rattle.maze_nets.specs.Nets.{reserved_of}
use Rattle.maze_nets.proofs.Reserving.{net_within, one_reserved}
use Rattle.maze_nets.proofs.reserve.reserve.Goals as goal

pub reserve_net-requires-clause-within : goal.reserve_net-requires-clause-within
reserve_net-requires-clause-within c = λ p i.
    subst (λ (g : Grid). IsInGrid g p) (sym c.loop-net.invariant.grid)
    (net_within c.args.occupied.now.grid c.args.nets.now c.loop-net.net _ c.requires.routable c.loop-net-test.true p (subst (λ n. In p (reserved_of n)) c.index-nets-net.is i))

pub loop-net-preserved : goal.loop-net-preserved
loop-net-preserved c =
    one_reserved c.args.occupied.now.grid c.args.nets.now c.loop-net.net _ c.loop-net.occupied c.reserve_net.new.occupied c.requires.routable c.loop-net-test.true c.loop-net.invariant
    (subst (λ n. IsTaken c.loop-net.occupied c.loop-net.net (reserved_of n) c.reserve_net.new.occupied) c.index-nets-net.is c.reserve_net.ensures)
