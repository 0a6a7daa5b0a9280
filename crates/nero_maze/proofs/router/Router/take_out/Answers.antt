use Rattle.nero_maze.proofs.Tearing.{torn_sound, taken_out}
use Rattle.nero_maze.proofs.router.Router.take_out.Goals as goal

pub invariant_of-self : goal.invariant_of-self
invariant_of-self c =
    let begun = (let h = c.requires.begun in rw (← c.self.view_is) at h) in
    torn_sound c.self.inside.board c.tear.new.board c.args.net c.self.invariant c.tear.ensures.torn begun c.tear.ensures.holds

pub returns : goal.returns
returns c =
    let begun = (let h = c.requires.begun in rw (← c.self.view_is) at h) in
    rw (← c.self.view_is) (taken_out c.self.inside.board c.tear.new.board c.args.net c.self.invariant c.tear.ensures.torn begun)
