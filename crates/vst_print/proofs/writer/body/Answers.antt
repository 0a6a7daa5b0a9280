use Rattle.std.proofs.Common.{◌≡◌, ◌∙◌, ◌++◌, ℕ, List, length, drop, ap, arith}
use Rattle.std.proofs.lemmas.Result.{on_ok_weaker}
use Rattle.vlsi_base.specs.declared.name.Name.{Name}
use Rattle.spell_theory.specs.Layout.{text_of}
use Rattle.net_core.proofs.Namings.{turn_below}
use Rattle.vst_print.specs.Structure.{signals_layout, begin_layout, instances_layout, last_layout}
use Rattle.vst_print.specs.Written.{instances_with}
use Rattle.vst_print.specs.Nets.{signal_nets, net_names}
use Rattle.vst_print.proofs.Whole.{signals_behind, four_parts}
use Rattle.vst_print.proofs.writer.body.Goals as goal

pub instances-requires-clause-inside : goal.instances-requires-clause-inside
instances-requires-clause-inside c = λ k d less.
    let n = c.args.netlist.now in
    let below = turn_below 0 n.count n.classes c.in_ok-nets.ensures.sound.turns k d less in
    let many : length c.deref-2.result.now ≡ n.count = ap (λ (ns : List Name). length ns) c.deref-2.ensures.value ∙ c.in_ok-nets.ensures.each in
    omega (arith, below, many)

pub returns : goal.returns
returns c =
    let n = c.args.netlist.now in
    let out = c.args.out.now in
    let b = c.append.new.self in
    let own = drop (length n.ports) n.classes in
    let names = c.in_ok-nets.ensures.names in
    let signals : c.signals.new.out ≡ out ++ text_of (signals_layout (signal_nets n)) =
    c.in_ok-signals.ensures ∙ ap (λ (ts : List (List ℕ)). out ++ text_of (signals_layout ts)) (signals_behind n c.deref.result.now c.in_ok-nets.with_port (c.deref.ensures.value ∙ names) c.in_ok-nets.ensures.ports) in
    let joined : c.instances.new.out ≡ b ++ text_of (instances_layout (instances_with (net_names n) n.instances own)) =
    c.in_ok-instances.ensures ∙ ap (λ (ns : List Name). b ++ text_of (instances_layout (instances_with ns n.instances own))) (c.deref-2.ensures.value ∙ names) in
    on_ok_weaker c.append-2.result
    (four_parts out c.signals.new.out b c.instances.new.out c.append-2.new.self (signals_layout (signal_nets n)) begin_layout (instances_layout (instances_with (net_names n) n.instances own)) last_layout signals c.in_ok-append.ensures.ok joined)
    c.append-2.ensures.ok
