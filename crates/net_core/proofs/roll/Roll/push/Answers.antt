use Rattle.std.proofs.Common.{ap, ◌∙◌, List, ℕ, arith}
use Rattle.net_core.specs.Places.{position_of}
use Rattle.net_core.proofs.Standing.{knows_push}
use Rattle.net_core.proofs.roll.Roll.push.Goals as goal

pub invariant_of-self-in-Ok : goal.invariant_of-self-in-Ok
invariant_of-self-in-Ok c =
    knows_push c.self.inside.places c.put_place.new.places c.self.inside.texts.items c.push.new.self.items c.args.text.now c.len-place.result
    c.self.invariant (ap (λ (xs : List (List ℕ)). position_of xs c.args.text.now) c.self.view_is ∙ c.requires) (grind arith) (grind arith) (grind arith)
