use Rattle.std.proofs.Common.{◌≡◌, ◌++◌, ◌<◌, ◌^◌, All, length, map, take, sym, ap, subst, ◌∙◌, arith}
use Rattle.std.proofs.Math.Seq.{take-length}
use Rattle.ocp_place.specs.Reaches.{site_of}
use Rattle.ocp_place.specs.Ports.{IsSplit}
use Rattle.ocp_place.specs.Rows.{AreEnds}
use Rattle.ocp_place.specs.Sites.{port_sites}
use Rattle.ocp_place.proofs.Rowed.{placed_row}
use Rattle.ocp_place.proofs.Sounds.{few_signals, classes_low, placed_sound}
use Rattle.ocp_place.proofs.place.track_place.Goals as goal

pub port_ends-requires : goal.port_ends-requires
port_ends-requires c =
    let n = c.args.netlist.now in
    let l = c.args.library.now in
    let split = c.in_ok-ports.ports in
    let is : IsSplit n.ports n.classes split = subst (λ ps. IsSplit ps n.classes split) c.ports.ensures (subst (λ cs. IsSplit c.ports.result.now cs split) c.classes.ensures.classes c.in_ok-ports.ensures) in
    let few : length split.signals.items < 2 ^ 32 =
    (let short = few_signals n.ports n.classes in let many = ap length is.signals in let classes = ap length c.classes.ensures.classes in let few = c.classes.ensures.few in
    omega (arith, short, many, classes, few)) in
    let same = ap length c.deref.ensures.value in
    omega (arith, few, same)

pub grouped-requires : goal.grouped-requires
grouped-requires c =
    let n = c.args.netlist.now in
    let l = c.args.library.now in
    let split = c.in_ok-ports.ports in
    let is : IsSplit n.ports n.classes split = subst (λ ps. IsSplit ps n.classes split) c.ports.ensures (subst (λ cs. IsSplit c.ports.result.now cs split) c.classes.ensures.classes c.in_ok-ports.ensures) in
    let few : length split.signals.items < 2 ^ 32 =
    (let short = few_signals n.ports n.classes in let many = ap length is.signals in let classes = ap length c.classes.ensures.classes in let few = c.classes.ensures.few in
    omega (arith, short, many, classes, few)) in
    let ended : c.loop-site.site-index ≡ length c.deref-site-items.result.now = omega arith in
    let whole : take c.loop-site.site-index c.deref-site-items.result.now ≡ c.in_ok-starts.field-0.sites.items =
    ap (λ k. take k c.deref-site-items.result.now) ended ∙ take-length c.deref-site-items.result.now ∙ c.deref-site-items.ensures.value in
    let all_is = c.loop-site.invariant ∙ ap (λ ss. port_sites 0 split.signals.items ++ map site_of ss) whole in
    let low = subst (λ ss. All (λ s. s.class < n.count) ss) (sym c.deref-2.ensures.value)
    (classes_low l n c.requires.library c.requires.netlist split is c.in_ok-starts.field-0 c.in_ok-starts.ensures c.loop-site.all.items few all_is) in
    λ k d under. let h = low k d under in let count = c.count.ensures in omega (arith, h, count)

pub invariant_of-result : goal.invariant_of-result
invariant_of-result c =
    let n = c.args.netlist.now in
    let l = c.args.library.now in
    let split = c.in_ok-ports.ports in
    let is : IsSplit n.ports n.classes split = subst (λ ps. IsSplit ps n.classes split) c.ports.ensures (subst (λ cs. IsSplit c.ports.result.now cs split) c.classes.ensures.classes c.in_ok-ports.ensures) in
    let few : length split.signals.items < 2 ^ 32 =
    (let short = few_signals n.ports n.classes in let many = ap length is.signals in let classes = ap length c.classes.ensures.classes in let few = c.classes.ensures.few in
    omega (arith, short, many, classes, few)) in
    let ended : c.loop-site.site-index ≡ length c.deref-site-items.result.now = omega arith in
    let whole : take c.loop-site.site-index c.deref-site-items.result.now ≡ c.in_ok-starts.field-0.sites.items =
    ap (λ k. take k c.deref-site-items.result.now) ended ∙ take-length c.deref-site-items.result.now ∙ c.deref-site-items.ensures.value in
    let all_is = c.loop-site.invariant ∙ ap (λ ss. port_sites 0 split.signals.items ++ map site_of ss) whole in
    let many = c.in_ok-ends.ensures.many ∙ c.count.ensures in
    let count = c.count.ensures in
    let small : n.count < 2 ^ 32 = omega (arith, count, c.count.type_inv) in
    placed_sound l n c.requires.library c.requires.netlist split is c.in_ok-starts.field-0 c.in_ok-starts.ensures c.loop-site.all.items few all_is c.in_ok-ends.ends.items small many
    (subst (λ ss. AreEnds ss c.in_ok-ends.ends.items) c.deref-2.ensures.value c.in_ok-ends.ensures.ends)

pub returns : goal.returns
returns c =
    let n = c.args.netlist.now in
    let l = c.args.library.now in
    let split = c.in_ok-ports.ports in
    let is : IsSplit n.ports n.classes split = subst (λ ps. IsSplit ps n.classes split) c.ports.ensures (subst (λ cs. IsSplit c.ports.result.now cs split) c.classes.ensures.classes c.in_ok-ports.ensures) in
    let few : length split.signals.items < 2 ^ 32 =
    (let short = few_signals n.ports n.classes in let many = ap length is.signals in let classes = ap length c.classes.ensures.classes in let few = c.classes.ensures.few in
    omega (arith, short, many, classes, few)) in
    let ended : c.loop-site.site-index ≡ length c.deref-site-items.result.now = omega arith in
    let whole : take c.loop-site.site-index c.deref-site-items.result.now ≡ c.in_ok-starts.field-0.sites.items =
    ap (λ k. take k c.deref-site-items.result.now) ended ∙ take-length c.deref-site-items.result.now ∙ c.deref-site-items.ensures.value in
    let all_is = c.loop-site.invariant ∙ ap (λ ss. port_sites 0 split.signals.items ++ map site_of ss) whole in
    placed_row l n c.requires.library c.requires.netlist split is c.in_ok-starts.field-0 c.in_ok-starts.ensures
    c.loop-site.all.items all_is c.in_ok-ends.ends.items (c.in_ok-ends.ensures.many ∙ c.count.ensures) (subst (λ ss. AreEnds ss c.in_ok-ends.ends.items) c.deref-2.ensures.value c.in_ok-ends.ensures.ends)
    c.new.result.items c.new-2.result.items
