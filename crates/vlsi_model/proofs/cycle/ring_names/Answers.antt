use Rattle.std.proofs.Common.{◌≡◌, List, ◌++◌, map, drop, take, sym, ap, ◌∙◌, subst}
use Rattle.std.specs.Prelude.{slice_index}
use Rattle.vlsi_base.specs.declared.name.Name.{Name}
use Rattle.source_checks.specs.Symbols.{all_names}
use Rattle.source_checks.specs.Elaboration.{definitions}
use Rattle.source_checks.specs.Cycles.{IsRing}
use Rattle.source_bits.specs.declared.driven.DrivenBit.{DrivenBit}
use Rattle.vlsi_model.specs.Numbered.{name_at}
use Rattle.vlsi_model.specs.Ordered.{name_of_node}
use Rattle.vlsi_model.proofs.SourceBits.{sound}
use Rattle.vlsi_model.proofs.BuildGoals.{driven_bits_inside}
use Rattle.vlsi_model.proofs.Turning.{ring_names_are, turned_to_least}
use Rattle.vlsi_model.proofs.cycle.ring_names.Goals as goal

pub push_names-requires-clause-inside : goal.push_names-requires-clause-inside
push_names-requires-clause-inside c =
    driven_bits_inside c.args.design.now c.args.source.now c.deref-2.result.now (sound c.args.design.now c.requires.sound) c.requires.source (c.deref-2.ensures.value ∙ c.in_ok-bits.ensures ∙ ap (map (λ (d : DrivenBit). d.bit)) c.deref.ensures.value)

pub returns : goal.returns
returns c =
    let design = c.args.design.now in
    let source = c.args.source.now in
    let nodes = c.args.nodes.now in
    let bits = c.deref-2.result.now in
    let m = c.least_place-first.result in
    let f = sound design c.requires.sound in
    let bits_is = c.deref-2.ensures.value ∙ c.in_ok-bits.ensures ∙ ap (map (λ (d : DrivenBit). d.bit)) c.deref.ensures.value in
    let names : c.push_names.new.names.items ≡ map (name_of_node design) nodes =
    c.in_ok-push_names.ensures ∙ ap (λ (ns : List Name). ns ++ map (λ k. name_at (all_names source.numbers) (slice_index bits k)) nodes) c.new-names.ensures.items ∙ ring_names_are design source bits nodes f c.requires.source bits_is c.requires.ring in
    subst (λ (ns : List Name). IsRing (definitions design) ns) (sym (c.rotate_left.ensures.items ∙ ap (λ (ns : List Name). drop m ns ++ take m ns) (sym c.deref-3.ensures.value)))
    (turned_to_least design nodes c.deref-3.result.now m f c.requires.ring (c.deref-3.ensures.value ∙ names) c.least_place-first.ensures.within c.least_place-first.ensures.least)
