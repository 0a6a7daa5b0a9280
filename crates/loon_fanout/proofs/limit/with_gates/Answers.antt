use Rattle.std.proofs.Common.{◌≡◌, ◌∙◌, length, refl, ap, arith}
use Rattle.std.specs.Option.{option_copied}
use Rattle.net_core.specs.Netlist.{Netlist as InMemory}
use Rattle.loon_fanout.specs.declared.build.Sketch.{Sketch}
use Rattle.loon_fanout.specs.Building.{IsBuilt}
use Rattle.loon_fanout.specs.Gated.{gate_names, IsGated}
use Rattle.loon_fanout.proofs.Gating.{can_build, is_gated, if_one, entries_are}
use Rattle.loon_fanout.proofs.limit.with_gates.Goals as goal

pub build-requires : goal.build-requires
build-requires c =
    let n = c.args.netlist.now in
    let r = option_copied c.args.repeater in
    let v = c.args.wiring in
    let size = c.len.ensures in
    let many = v.reads.ok in
    let count : c.len.result ≡ length v.reads.items = grind (arith, size, many) in
    let named = c.deref.ensures.value ∙ c.in_ok-names.ensures ∙ ap (gate_names n) count in
    let s : Sketch = record { entries = c.push_repeaters.new.entries; classes = v.classes; count = c.count-count.result } in
    can_build n r v s
    (entries_are n r v c.models.result.now c.nodes.result.now c.deref.result.now c.new-entries.result.items c.push_nodes.new.entries.items c.push_repeaters.new.entries.items
    c.new-entries.ensures.items c.in_ok-push_nodes.ensures c.in_ok-push_repeaters.ensures c.nodes.ensures.seen c.models.ensures named)
    refl c.count-count.ensures c.requires

pub returns-clause-gated : goal.returns-clause-gated
returns-clause-gated c =
    let n = c.args.netlist.now in
    let r = option_copied c.args.repeater in
    let v = c.args.wiring in
    let size = c.len.ensures in
    let many = v.reads.ok in
    let count : c.len.result ≡ length v.reads.items = grind (arith, size, many) in
    let named = c.deref.ensures.value ∙ c.in_ok-names.ensures ∙ ap (gate_names n) count in
    let s : Sketch = record { entries = c.push_repeaters.new.entries; classes = v.classes; count = c.count-count.result } in
    if_one (λ (k : InMemory). IsBuilt n s k) (λ (k : InMemory). IsGated n r v k) c.build.result
    (is_gated n r v s
    (entries_are n r v c.models.result.now c.nodes.result.now c.deref.result.now c.new-entries.result.items c.push_nodes.new.entries.items c.push_repeaters.new.entries.items
    c.new-entries.ensures.items c.in_ok-push_nodes.ensures c.in_ok-push_repeaters.ensures c.nodes.ensures.seen c.models.ensures named)
    refl c.count-count.ensures)
    c.build.ensures.built
