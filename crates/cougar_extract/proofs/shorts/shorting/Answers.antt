use Rattle.std.proofs.Common.{◌≡◌, ℕ, List, map, Some, sym, subst, refl}
use Rattle.std.specs.Prelude.{option_map, slice_get}
use Rattle.std.proofs.lemmas.Option.{slice_get_within}
use Rattle.cougar_extract.specs.declared.error.Step.{Step}
use Rattle.cougar_extract.specs.Refused.{step_of, IsChainOf}
use Rattle.cougar_extract.proofs.Steps.{is_shown, other_is_shown, any_joined, chain_of}
use Rattle.cougar_extract.proofs.ShownSteps.{places_low}
use Rattle.cougar_extract.proofs.shorts.shorting.Goals as goal

pub unreachable-requires : goal.unreachable-requires
unreachable-requires c = is_shown c.args.shapes.now c.args.a.now c.args.b.now c.requires.joined c.in_default.ensures

pub unreachable-requires-in_default-shown_at : goal.unreachable-requires-in_default-shown_at
unreachable-requires-in_default-shown_at c = other_is_shown c.args.shapes.now c.args.a.now c.args.b.now c.requires.joined c.in_default-shown_at.ensures

pub chain-requires-clause-from_within : goal.chain-requires-clause-from_within
chain-requires-clause-from_within c = let s = c.in-Some.ensures in slice_get_within c.args.shapes.now c.in-Some.from s.0 s.1

pub chain-requires-clause-to_within : goal.chain-requires-clause-to_within
chain-requires-clause-to_within c = let s = c.in-Some-shown_at.ensures in slice_get_within c.args.shapes.now c.in-Some-shown_at.to s.0 s.1

pub unreachable-requires-in_default-2 : goal.unreachable-requires-in_default-2
unreachable-requires-in_default-2 c =
    let from = c.in-Some.ensures in
    let to = c.in-Some-shown_at.ensures in
    any_joined c.args.shapes.now c.args.a.now c.args.b.now c.requires.joined c.in-Some.from c.in-Some-shown_at.to from.0 to.0 from.1 from.2 to.1 to.2
    ((rw c.in_default-2.is at c.in_ok-places.ensures.none).0 refl)

pub steps-requires : goal.steps-requires
steps-requires c =
    places_low c.args.shapes.now c.deref.result.now c.in-Some-2.places.items c.in-Some.from c.in-Some-shown_at.to (rw c.in-Some-2.is at c.in_ok-places.ensures.chain) c.deref.ensures.value

pub returns : goal.returns
returns c =
    let shapes = c.args.shapes.now in
    let from = c.in-Some.ensures in
    let to = c.in-Some-shown_at.ensures in
    let told =
    subst (λ (ks : List ℕ). map Some c.in_ok-steps.steps.items ≡ map (λ (k : ℕ). option_map step_of (slice_get shapes k)) ks) c.deref.ensures.value c.in_ok-steps.ensures in
    subst (λ (steps : List Step). IsChainOf shapes c.args.a.now c.args.b.now steps) (sym c.new.ensures)
    (chain_of shapes c.args.a.now c.args.b.now c.in-Some.from c.in-Some-shown_at.to from.0 to.0 c.in-Some-2.places.items c.in_ok-steps.steps.items
    (rw c.in-Some-2.is at c.in_ok-places.ensures.chain) from.1 from.2 to.1 to.2 told)
