use Rattle.grid_core.proofs.Owners.{taken_one}
use Rattle.grid_core.proofs.occupied.Occupied.block.Goals as goal

pub returns : goal.returns
returns c =
    rw (c.number_of-at.ensures.number, ← c.self.view_is)
    (taken_one c.self.inside.grid c.self.inside.words.items c.args.owner c.args.node c.self.invariant.0 c.requires.owner
    (let h = c.requires.within in rw (← c.self.view_is) at h))
