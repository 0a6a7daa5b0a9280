use Rattle.std.proofs.Common.{◌≡◌, ◌∙◌, ◌+◌, ◌<◌, ◌^◌, ◌++◌, ◌∷◌, [], ℕ, List, None, length, sym, ap, subst, refl, arith}
use Rattle.std.proofs.lemmas.Option.{slice_get_within}
use Rattle.net_core.specs.declared.frame.Node.{Node}
use Rattle.net_core.specs.Places.{IsThere, position_of}
use Rattle.net_core.specs.Frame.{Frame, frame_terminals}
use Rattle.net_core.proofs.Standing.{position_absent}
use Rattle.net_core.proofs.Frames.{terminals_count}
use Rattle.net_core.proofs.Growing.{frame_push, frame_models, learned_more, names_seen, some_there, none_of, adds_instance}
use Rattle.net_core.proofs.frame.Frame.add.Goals as goal

pub returns-then-is_some-clause-refused : goal.returns-then-is_some-clause-refused
returns-then-is_some-clause-refused c =
    subst (λ (xs : List (List ℕ)). IsThere xs c.args.name.now) (sym (names_seen c.self.invariant c.args.self.now c.self.view_is))
    (some_there c.self.inside.names c.args.name.now c.place.result c.place.ensures (sym c.is_some.ensures ∙ c.if-is_some.true))

pub overflow_add-self : goal.overflow_add-self
overflow_add-self c =
    let n : c.self.inside.count ≡ length (frame_terminals c.args.self.now) =
    c.self.invariant.counted ∙ sym (terminals_count c.self.inside.ports c.self.inside.models c.self.inside.nodes.items) ∙ ap (λ (f : Frame). length (frame_terminals f)) c.self.view_is in
    let e : length c.as_slice.result.now ≡ length c.args.pins.now = ap length c.as_slice.ensures in
    omega (arith, n, e, c.requires.room)

abbrev with_model : Node → ℕ → Node
with_model i place = record i { model = place }

pub invariant_of-self-in-Ok : goal.invariant_of-self-in-Ok
invariant_of-self-in-Ok c =
    let n : c.self.inside.count ≡ length (frame_terminals c.args.self.now) =
    c.self.invariant.counted ∙ sym (terminals_count c.self.inside.ports c.self.inside.models c.self.inside.nodes.items) ∙ ap (λ (f : Frame). length (frame_terminals f)) c.self.view_is in
    let e : length c.as_slice.result.now ≡ length c.args.pins.now = ap length c.as_slice.ensures in
    let node : Node = record { name = c.args.name.now; model = c.in_ok-node-2.field-0; first = c.self.inside.count; pins = c.args.pins.now } in
    let grown = frame_models c.self.invariant c.learn.new.self (learned_more c.self.inside.models c.learn.new.self c.args.model.now c.in_ok-node-2.ensures.learned) in
    let fresh : position_of c.self.inside.names c.args.name.now ≡ None = sym c.place.ensures ∙ none_of c.place.result (sym c.is_some.ensures ∙ c.if-is_some.false) in
    let room : c.self.inside.count + length c.args.pins.now < 2 ^ 32 = omega (arith, n, c.requires.room) in
    let model = slice_get_within c.learn.new.self c.in_ok-node-2.field-0 c.args.model.now c.in_ok-node-2.ensures.place in
    let made : with_model c.in_ok-node.node c.in_ok-node-2.field-0 ≡ node = ap (λ (x : Node). with_model x c.in_ok-node-2.field-0) c.in_ok-node.ensures in
    let pushed : c.put.new.nodes.items ≡ c.self.inside.nodes.items ++ node ∷ [] = c.in-Ok.ensures.nodes ∙ ap (λ (x : Node). c.self.inside.nodes.items ++ x ∷ []) made in
    rw (pushed, c.in-Ok.ensures.names, e) (frame_push grown node c.requires.order model refl fresh room)

pub returns-in-Ok-clause-added : goal.returns-in-Ok-clause-added
returns-in-Ok-clause-added c =
    let node : Node = record { name = c.args.name.now; model = c.in_ok-node-2.field-0; first = c.self.inside.count; pins = c.args.pins.now } in
    let made : with_model c.in_ok-node.node c.in_ok-node-2.field-0 ≡ node = ap (λ (x : Node). with_model x c.in_ok-node-2.field-0) c.in_ok-node.ensures in
    let pushed : c.put.new.nodes.items ≡ c.self.inside.nodes.items ++ node ∷ [] = c.in-Ok.ensures.nodes ∙ ap (λ (x : Node). c.self.inside.nodes.items ++ x ∷ []) made in
    adds_instance c.self.invariant c.args.self.now c.self.view_is c.learn.new.self c.args.model.now c.put.new.nodes.items node c.in_ok-node-2.ensures.learned c.in_ok-node-2.ensures.place pushed

pub returns-in-Ok-clause-fresh : goal.returns-in-Ok-clause-fresh
returns-in-Ok-clause-fresh c =
    let fresh : position_of c.self.inside.names c.args.name.now ≡ None = sym c.place.ensures ∙ none_of c.place.result (sym c.is_some.ensures ∙ c.if-is_some.false) in
    subst (λ (xs : List (List ℕ)). IsThere xs c.args.name.now → ⊥) (sym (names_seen c.self.invariant c.args.self.now c.self.view_is)) (position_absent c.self.inside.names c.args.name.now fresh)
