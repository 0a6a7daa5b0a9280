use Rattle.nero_maze.proofs.Sounds.{sound_same}
use Rattle.nero_maze.proofs.Blocking.{not_own, no_way, some_blocks, none_past}
use Rattle.nero_maze.proofs.router.Router.blocker.Goals as goal

pub block-requires-clause-outside : goal.block-requires-clause-outside
block-requires-clause-outside c =
    let within = (let h = c.requires.within in rw (← c.self.view_is) at h) in
    let stuck = (let h = c.requires.stuck in rw (← c.self.view_is) at h) in
    rw c.number_of-at.ensures.number (not_own c.self.inside.board c.args.net c.args.target c.self.invariant within stuck)

pub block-requires-clause-stuck : goal.block-requires-clause-stuck
block-requires-clause-stuck c =
    let within = (let h = c.requires.within in rw (← c.self.view_is) at h) in
    let stuck = (let h = c.requires.stuck in rw (← c.self.view_is) at h) in
    rw c.number_of-at.ensures.number (no_way c.self.inside.board c.args.net c.args.target c.self.invariant within stuck)

pub invariant_of-self : goal.invariant_of-self
invariant_of-self c =
    let e = c.block.ensures in
    (sound_same c.self.inside.board c.block.new.board c.self.invariant e.idle e.reserved e.room e.log e.holds).0

pub returns-clause-blocks : goal.returns-clause-blocks
returns-clause-blocks c =
    let within = (let h = c.requires.within in rw (← c.self.view_is) at h) in
    let e = c.block.ensures in
    rw (← c.self.view_is) (some_blocks c.self.inside.board c.args.net c.args.target c.self.invariant within c.block.result (rw c.number_of-at.ensures.number at e.blocks))

pub returns-clause-none : goal.returns-clause-none
returns-clause-none c =
    let within = (let h = c.requires.within in rw (← c.self.view_is) at h) in
    let stuck = (let h = c.requires.stuck in rw (← c.self.view_is) at h) in
    let e = c.block.ensures in
    rw (← c.self.view_is) (none_past c.self.inside.board c.args.net c.args.target c.self.invariant within stuck c.block.result (rw c.number_of-at.ensures.number at e.none))

pub returns-clause-same : goal.returns-clause-same
returns-clause-same c =
    let e = c.block.ensures in
    rw (← c.self.view_is) (sound_same c.self.inside.board c.block.new.board c.self.invariant e.idle e.reserved e.room e.log e.holds).1
