use Rattle.std.proofs.Common.{ℕ, ◌*◌, ◌<◌, List, All, sym, subst}
use Rattle.vlsi_base.specs.Member.{AllDifferent}
use Rattle.maze_nets.proofs.Shown.{ok_then}
use Rattle.maze_probe.proofs.Routable.{routable}
use Rattle.maze_probe.proofs.nets.nets.Goals as goal

pub returns-clause-sized : goal.returns-clause-sized
returns-clause-sized c = ok_then c.nets_on.result (λ nets on. on.sized) c.nets_on.ensures.on

pub returns-clause-routable : goal.returns-clause-routable
returns-clause-routable c =
    let trial = c.args.trial.now in
    let apart = c.in_ok-places.ensures in
    let same = sym c.deref.ensures.value in
    let below = subst (λ (n : ℕ). All (λ place. place < n) c.in_ok-places.places.items) c.places.ensures apart.below in
    ok_then c.nets_on.result (λ nets on. routable trial.grid trial.pins c.deref.result.now nets.items on trial.high trial.wide
    (subst (λ (xs : List ℕ). All (λ place. place < trial.grid.columns * trial.grid.rows) xs) same below) (subst (λ (xs : List ℕ). AllDifferent xs) same apart.different)) c.nets_on.ensures.on
