use Rattle.std.proofs.Common.{◌≢◌, arith}
use Rattle.nero_maze.proofs.Sounds.{bare_node, alone, seated}
use Rattle.nero_maze.proofs.router.Router.seat.Goals as goal

pub root-requires-clause-bare : goal.root-requires-clause-bare
root-requires-clause-bare c =
    let none = (let h = c.requires.bare in rw (← c.self.view_is) at h) in
    let free = (let h = c.requires.free in rw (← c.self.view_is) at h) in
    rw c.number_of-at.ensures.number (bare_node c.self.inside.board c.args.net c.args.node c.self.invariant none free)

pub root-requires-clause-alone : goal.root-requires-clause-alone
root-requires-clause-alone c =
    let none = (let h = c.requires.bare in rw (← c.self.view_is) at h) in
    alone c.self.inside.board c.args.net c.self.invariant none

pub invariant_of-self : goal.invariant_of-self
invariant_of-self c =
    let none = (let h = c.requires.bare in rw (← c.self.view_is) at h) in
    let free = (let h = c.requires.free in rw (← c.self.view_is) at h) in
    let small : c.args.net ≢ 4294967295 = omega arith in
    let e = c.root.ensures in
    (seated c.self.inside.board c.root.new.board c.args.net c.args.node c.self.invariant small none free e.grid
    (rw c.number_of-at.ensures.number at e.owners) (rw c.number_of-at.ensures.number at e.links) (rw c.number_of-at.ensures.number at e.log) e.frontier e.reserved e.holds).0

pub returns : goal.returns
returns c =
    let none = (let h = c.requires.bare in rw (← c.self.view_is) at h) in
    let free = (let h = c.requires.free in rw (← c.self.view_is) at h) in
    let small : c.args.net ≢ 4294967295 = omega arith in
    let e = c.root.ensures in
    rw (← c.self.view_is) (seated c.self.inside.board c.root.new.board c.args.net c.args.node c.self.invariant small none free e.grid
    (rw c.number_of-at.ensures.number at e.owners) (rw c.number_of-at.ensures.number at e.links) (rw c.number_of-at.ensures.number at e.log) e.frontier e.reserved e.holds).1
