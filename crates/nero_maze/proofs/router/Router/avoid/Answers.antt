use Rattle.nero_maze.proofs.Sounds.{sound_same}
use Rattle.nero_maze.proofs.router.Router.avoid.Goals as goal

pub invariant_of-self : goal.invariant_of-self
invariant_of-self c =
    let e = c.keep_off.ensures in
    (sound_same c.self.inside.board c.keep_off.new.board c.self.invariant e.idle e.reserved e.room e.log e.holds).0

pub returns : goal.returns
returns c =
    let e = c.keep_off.ensures in
    rw (← c.self.view_is) (sound_same c.self.inside.board c.keep_off.new.board c.self.invariant e.idle e.reserved e.room e.log e.holds).1
