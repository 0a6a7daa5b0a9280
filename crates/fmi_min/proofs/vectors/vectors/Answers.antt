use Rattle.std.proofs.Common.{◌∷◌, ◌++◌, [], Bool, List, length, map, take, sym, ap, ◌∙◌}
use Rattle.vlsi_base.specs.declared.name.Name.{Name}
use Rattle.vlsi_base.specs.declared.name.Port.{Port}
use Rattle.fsm_walk.proofs.Marking.{made_more}
use Rattle.fmi_min.specs.Vectors.{picked}
use Rattle.fmi_min.proofs.vectors.vectors.Goals as goal

pub picked-requires : goal.picked-requires
picked-requires c =
    ap (λ (w : List Bool). length w) (c.as_slice.ensures ∙ c.word-item.is)
    ∙ c.requires c.loop-word.word-index c.word-item.result c.loop-word-test.true
    ∙ sym (ap (λ (ports : List Port). length ports) (c.as_slice-ports.ensures ∙ c.ports.ensures.value))

pub loop-word-preserved : goal.loop-word-preserved
loop-word-preserved c =
    let clock = c.args.machine.now.clock in
    let ports = c.args.machine.now.ports in
    let words = c.args.words.now in
    let i = c.loop-word.word-index in
    let here = c.as_slice.result.now in
    c.in_ok-push.ensures.items
    ∙ ap (λ (front : List (List Bool)). front ++ c.in_ok-picked.field-0 ∷ []) c.loop-word.invariant
    ∙ ap (λ (v : List Bool). map (picked clock ports) (take i words) ++ v ∷ [])
    (c.in_ok-picked.ensures
    ∙ ap (λ (name : Name). picked name c.as_slice-ports.result.now here) c.clock-clock.ensures.value
    ∙ ap (λ (ps : List Port). picked clock ps here) (c.as_slice-ports.ensures ∙ c.ports.ensures.value)
    ∙ ap (λ (w : List Bool). picked clock ports w) c.as_slice.ensures)
    ∙ sym (made_more (picked clock ports) words i c.word-item.result c.word-item.result c.loop-word-test.true c.word-item.is)
