use Rattle.std.proofs.Common.{◌∙◌, ap, List, ℕ, None, cond, bytes_eq}
use Rattle.net_core.specs.Places.{place_at}
use Rattle.net_core.proofs.Standing.{knows_pop}
use Rattle.net_core.proofs.roll.Roll.shorten.Goals as goal

pub invariant_of-self : goal.invariant_of-self
invariant_of-self c =
    knows_pop c.self.inside.places c.forget.new.places c.self.inside.texts.items c.pop.new.self.items c.in-Some.text c.self.invariant c.in-Some.ensures.items
    (λ t. c.forget.ensures t ∙ ap (λ (x : List ℕ). cond (bytes_eq x t) None (place_at c.self.inside.places t)) c.as_bytes.ensures)
