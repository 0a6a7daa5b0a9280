use Rattle.std.proofs.Common.{◌≡◌, ◌<◌, length, sym, ap, subst, refl, ◌∙◌, arith}
use Rattle.std.proofs.lemmas.Option.{slice_get_read, slice_get_within}
use Rattle.std.proofs.lemmas.List.{length-map}
use Rattle.net_core.specs.Places.{IsThere}
use Rattle.net_core.specs.Frame.{Frame, instance_of}
use Rattle.net_core.proofs.Standing.{position_stands}
use Rattle.net_core.proofs.Changing.{set_frame, sets_model, not_absent}
use Rattle.net_core.proofs.frame.Frame.set_model.Goals as goal

pub invariant_of-self : goal.invariant_of-self
invariant_of-self c =
    let p = position_stands c.self.inside.models c.args.model.now c.in-Some.place (sym c.in-Some.ensures) in
    let n : length c.args.self.now.instances ≡ length c.self.inside.nodes.items = ap (λ (f : Frame). length f.instances) (sym c.self.view_is) ∙ length-map c.self.inside.nodes.items (instance_of c.self.inside.models) in
    let l : c.args.number < length c.self.inside.nodes.items = omega (arith, n, c.requires.there) in
    set_frame c.self.invariant c.args.number c.in-Some.place c.index_mut.result.now
    (slice_get_read c.self.inside.nodes.items (length c.self.inside.nodes.items) c.args.number c.index_mut.result.now refl l c.index_mut.ensures.value)
    (slice_get_within c.self.inside.models c.in-Some.place c.args.model.now p)

pub returns-in-Some : goal.returns-in-Some
returns-in-Some c =
    let p = position_stands c.self.inside.models c.args.model.now c.in-Some.place (sym c.in-Some.ensures) in
    let n : length c.args.self.now.instances ≡ length c.self.inside.nodes.items = ap (λ (f : Frame). length f.instances) (sym c.self.view_is) ∙ length-map c.self.inside.nodes.items (instance_of c.self.inside.models) in
    let l : c.args.number < length c.self.inside.nodes.items = omega (arith, n, c.requires.there) in
    sets_model c.self.inside.ports c.self.inside.models c.self.inside.nodes.items c.args.self.now c.args.number c.in-Some.place c.index_mut.result.now c.args.model.now c.self.view_is
    (slice_get_read c.self.inside.nodes.items (length c.self.inside.nodes.items) c.args.number c.index_mut.result.now refl l c.index_mut.ensures.value) p

pub returns-in_default : goal.returns-in_default
returns-in_default c =
    absurd (not_absent c.self.inside.models c.args.model.now (subst (λ (f : Frame). IsThere f.models c.args.model.now) (sym c.self.view_is) c.requires.known) (λ k e. c.in_default.not-Some k (c.place.ensures ∙ e)))
