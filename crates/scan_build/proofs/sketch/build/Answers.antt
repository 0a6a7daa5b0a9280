use Rattle.std.proofs.Common.{◌∙◌, ℕ, List, ap, map, sym, subst}
use Rattle.vlsi_base.specs.declared.name.Port.{Port}
use Rattle.net_core.specs.Netlist.{AreInOrder, terminals_of, IsNetlist}
use Rattle.net_core.specs.Joins.{IsFinished}
use Rattle.loon_fanout.specs.Building.{AreHeads}
use Rattle.loon_fanout.proofs.Builds.{if_both}
use Rattle.scan_build.specs.declared.sketch.Entry.{Entry}
use Rattle.scan_build.specs.Sketched.{instance_by, IsAddable, IsBuilt}
use Rattle.scan_build.proofs.Built.{addable, begun_parts, built_by, few_ports}
use Rattle.scan_build.proofs.sketch.build.Goals as goal

pub begin-requires-clause-few : goal.begin-requires-clause-few
begin-requires-clause-few c =
    few_ports c.args.sketch.now c.new.result (c.new.ensures ∙ c.in_ok-ports.ensures ∙ c.deref-3.ensures.value) c.requires

pub begin-requires-clause-order : goal.begin-requires-clause-order
begin-requires-clause-order c =
    subst (λ (ps : List Port). AreInOrder (map (λ p. p.name) ps)) (sym (c.new.ensures ∙ c.in_ok-ports.ensures ∙ c.deref-3.ensures.value)) c.requires.order

pub add_all-requires : goal.add_all-requires
add_all-requires c =
    let s = c.args.sketch.now in
    let ports_are = c.new.ensures ∙ c.in_ok-ports.ensures ∙ c.deref-3.ensures.value in
    let begun_is = c.in_ok-builder.ensures ∙ begun_parts s c.in_ok-copy.field-0 c.new.result c.in_ok-copy.ensures ports_are in
    subst (λ (es : List Entry). IsAddable c.in_ok-builder.builder es) (sym c.deref-4.ensures.value) (addable s c.in_ok-builder.builder begun_is c.requires)

pub returns-clause-built : goal.returns-clause-built
returns-clause-built c =
    let s = c.args.sketch.now in
    let ports_are = c.new.ensures ∙ c.in_ok-ports.ensures ∙ c.deref-3.ensures.value in
    let begun_is = c.in_ok-builder.ensures ∙ begun_parts s c.in_ok-copy.field-0 c.new.result c.in_ok-copy.ensures ports_are in
    let terminals_are =
    c.deref-6.ensures.value ∙ c.in_ok-terminals.ensures
    ∙ ap (λ (ps : List Port). terminals_of ps (map instance_by c.deref-2.result.now)) c.deref.ensures.value
    ∙ ap (λ (es : List Entry). terminals_of s.ports.items (map instance_by es)) c.deref-2.ensures.value in
    let heads_are : AreHeads s.classes.items c.deref-8.result.now =
    subst (λ (hs : List ℕ). AreHeads s.classes.items hs) (sym c.deref-8.ensures.value)
    (subst (λ (cs : List ℕ). AreHeads cs c.in_ok-heads.heads.items) c.deref-5.ensures.value c.in_ok-heads.ensures) in
    if_both (λ r. IsFinished c.join_all.new.builder r) (λ r. IsNetlist r) (λ r. IsBuilt s r) c.finish.result
    (λ r. built_by s c.in_ok-builder.builder c.add_all.new.builder c.join_all.new.builder c.deref-4.result.now c.deref-6.result.now c.deref-7.result.now c.deref-8.result.now r
    c.requires begun_is c.deref-4.ensures.value c.in_ok-add_all.ensures terminals_are c.deref-7.ensures.value heads_are c.in_ok-join_all.ensures)
    c.finish.ensures.finished c.finish.ensures.sound
