use Rattle.std.proofs.Common.{◌∙◌, map, ap}
use Rattle.vlsi_base.specs.declared.name.Port.{Port}
use Rattle.scan_checks.proofs.Taken.{used_is_taken}
use Rattle.scan_checks.proofs.names.used_texts.Goals as goal

pub returns : goal.returns
returns c =
    used_is_taken c.args.netlist.now c.nodes.result.now c.deref.result.now c.deref-2.result.now c.new-used.result c.learn_all.new.self c.learn_all-2.new.self c.nodes.ensures.seen
    (c.deref.ensures.value ∙ c.in_ok-texts.ensures ∙ ap (map (λ (p : Port). p.name.text)) c.ports.ensures) (c.deref-2.ensures.value ∙ c.in_ok-names.ensures) c.new-used.ensures
    c.in_ok-learn_all-2.ensures.grown c.in_ok-learn_all.ensures.there c.in_ok-learn_all.ensures.only c.in_ok-learn_all-2.ensures.there c.in_ok-learn_all-2.ensures.only
