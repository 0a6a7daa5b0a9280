use Rattle.std.proofs.Common.{map, ap, ◌∙◌}
use Rattle.source_bits.specs.declared.driven.DrivenBit.{DrivenBit}
use Rattle.source_bits.specs.declared.driven.StoredBit.{StoredBit}
use Rattle.vlsi_model.proofs.SourceBits.{sound}
use Rattle.vlsi_model.proofs.BuildGoals.{stored_places, driven_places, stored_bits_inside, driven_bits_inside, names_are}
use Rattle.vlsi_model.proofs.build.var_names.Goals as goal

pub push_names-requires-clause-places : goal.push_names-requires-clause-places
push_names-requires-clause-places c =
    stored_places c.args.design.now c.args.source.now c.deref-2.result.now c.args.order.now c.requires.source (c.deref-2.ensures.value ∙ c.in_ok-bits.ensures ∙ ap (map (λ (d : StoredBit). d.bit)) c.deref.ensures.value) c.requires.laid.order

pub push_names-requires-clause-inside : goal.push_names-requires-clause-inside
push_names-requires-clause-inside c =
    stored_bits_inside c.args.design.now c.args.source.now c.deref-2.result.now (sound c.args.design.now c.requires.sound) c.requires.source (c.deref-2.ensures.value ∙ c.in_ok-bits.ensures ∙ ap (map (λ (d : StoredBit). d.bit)) c.deref.ensures.value)

pub push_names-requires-2-clause-places : goal.push_names-requires-2-clause-places
push_names-requires-2-clause-places c =
    driven_places c.args.design.now c.args.source.now c.deref-4.result.now c.args.nodes.now c.requires.source (c.deref-4.ensures.value ∙ c.in_ok-bits-2.ensures ∙ ap (map (λ (d : DrivenBit). d.bit)) c.deref-3.ensures.value) c.requires.laid.nodes

pub push_names-requires-2-clause-inside : goal.push_names-requires-2-clause-inside
push_names-requires-2-clause-inside c =
    driven_bits_inside c.args.design.now c.args.source.now c.deref-4.result.now (sound c.args.design.now c.requires.sound) c.requires.source (c.deref-4.ensures.value ∙ c.in_ok-bits-2.ensures ∙ ap (map (λ (d : DrivenBit). d.bit)) c.deref-3.ensures.value)

pub returns : goal.returns
returns c =
    names_are c.args.design.now c.args.source.now c.args.ports.now c.args.order.now c.args.nodes.now c.deref-2.result.now c.deref-4.result.now _ _ _ _ _ (sound c.args.design.now c.requires.sound) c.requires.source c.requires.laid
    (c.deref-2.ensures.value ∙ c.in_ok-bits.ensures ∙ ap (map (λ (d : StoredBit). d.bit)) c.deref.ensures.value) (c.deref-4.ensures.value ∙ c.in_ok-bits-2.ensures ∙ ap (map (λ (d : DrivenBit). d.bit)) c.deref-3.ensures.value)
    c.as_ref.ensures.value c.new-names.ensures.items c.in_ok-push_inputs.ensures c.in_ok-push_names.ensures c.in_ok-push_names-2.ensures
