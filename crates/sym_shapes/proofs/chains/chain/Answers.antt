use Rattle.std.proofs.Common.{◌≡◌, ◌<◌, ℕ, List, length, refl, subst}
use Rattle.sym_shapes.specs.Shape.{Shape}
use Rattle.sym_shapes.specs.declared.forest.Link.{Link}
use Rattle.sym_shapes.specs.declared.search.Step.{Step}
use Rattle.sym_shapes.specs.Chain.{IsChain}
use Rattle.sym_shapes.specs.Joints.{Leads, AllLinked}
use Rattle.sym_shapes.specs.Search.{step, Follows, HasLink, HasStep, AreOver}
use Rattle.sym_shapes.proofs.Ways.{links_moved, ends_within, over_shapes, joined_leads, not_apart}
use Rattle.sym_shapes.proofs.chains.chain.Goals as goal

pub steps_from-requires-clause-ends : goal.steps_from-requires-clause-ends
steps_from-requires-clause-ends c =
    rw c.deref.ensures.value (ends_within c.args.shapes.now _ (links_moved c.args.shapes.now _ _ c.in_order.ensures.same c.in_ok-forest.ensures.spans.linked))

pub returns-in_default-clause-none : goal.returns-in_default-clause-none
returns-in_default-clause-none c =
    let shapes : List Shape = c.args.shapes.now in
    let links : List Link = c.in_order.new.links.items in
    let made = c.in_ok-forest.ensures in
    let leads : (place : ℕ) → Leads links c.args.to place → HasStep c.in_ok-steps.steps.items place = rw c.deref.ensures.value at c.in_ok-steps.ensures.all in
    let none : HasStep c.in_ok-steps.steps.items c.args.from → ⊥ = rw c.deref-2.ensures.value at c.in_default.ensures in
    (λ is d joined. none (leads c.args.from (joined_leads shapes c.in_ok-forest.forest links c.args.from c.args.to d made.spans made.covers c.in_order.ensures.same c.requires.from_within c.requires.to_within joined)), λ apart. refl)

pub returns-clause-chain : goal.returns-clause-chain
returns-clause-chain c =
    let shapes : List Shape = c.args.shapes.now in
    let links : List Link = c.in_order.new.links.items in
    let steps : List Step = c.in_ok-steps.steps.items in
    let all : AllLinked shapes links = links_moved shapes _ links c.in_order.ensures.same c.in_ok-forest.ensures.spans.linked in
    let follows : Follows (HasLink links) steps = rw c.deref.ensures.value at c.in_ok-steps.ensures.follows in
    let goal_is : (step steps 0).place ≡ c.args.to = c.in_ok-steps.ensures.goal in
    let first : (step steps 0).place < length shapes = rw goal_is c.requires.to_within in
    let made : (all : List Shape) → AreOver all steps → IsChain all c.in_ok-places.places.items (step steps c.in-Some.start).place (step steps 0).place =
    rw c.deref-3.ensures.value at c.in_ok-places.ensures in
    let start_is : (step steps c.in-Some.start).place ≡ c.args.from = (rw c.deref-2.ensures.value at c.in-Some.ensures).1 in
    let chain = made shapes (over_shapes shapes links steps all follows c.in_ok-steps.ensures.differ first) in
    subst (λ (x : ℕ). IsChain shapes c.in_ok-places.places.items x c.args.to) start_is
    (subst (λ (x : ℕ). IsChain shapes c.in_ok-places.places.items (step steps c.in-Some.start).place x) goal_is chain)

pub returns-clause-none : goal.returns-clause-none
returns-clause-none c =
    (λ is. absurd (cc is), λ apart. absurd (not_apart c.args.shapes.now c.in_ok-places.places.items c.args.from c.args.to c.requires.from_within (returns-clause-chain c) apart))
