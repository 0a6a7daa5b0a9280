use Rattle.std.proofs.Common.{◌≡◌, ◌∙◌, sym, subst, List, ℕ}
use Rattle.net_core.specs.Places.{NoneTwice, AddsOnly}
use Rattle.net_core.proofs.roll.Roll.extended.Goals as goal

pub returns-clause-only : goal.returns-clause-only
returns-clause-only c =
    let once : NoneTwice c.deref.result.now = subst (λ (xs : List (List ℕ)). NoneTwice xs) (sym c.deref.ensures.value) c.self.invariant.once in
    let same : c.learn_all.new.self ≡ c.args.self.now = c.in_ok-learn_all.ensures.same c.new-roll.ensures once ∙ c.deref.ensures.value ∙ c.self.view_is in
    subst (λ (xs : List (List ℕ)). AddsOnly xs c.learn_all-2.new.self c.args.more.now) same c.in_ok-learn_all-2.ensures.only
