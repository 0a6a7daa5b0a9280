use Rattle.std.proofs.Common.{◌∙◌, sym}
use Rattle.lvx_compare.specs.declared.comparing.Verdict.TheVariants as verdict
use Rattle.lvx_compare.proofs.Whole.{SeePorts, see_ports, port_told, instance_told, same_told, exactly_same, exactly_different}
use Rattle.lvx_compare.proofs.comparing.compare.Goals as goal

pub returns-in-Some : goal.returns-in-Some
returns-in-Some c =
    let a = c.args.a.now in
    let b = c.args.b.now in
    let seen : SeePorts a b c.in_ok-port_a.port_a c.in_ok-port_b.port_b =
    see_ports a b c.in_ok-kept_a.kept_a.items c.in_ok-kept_a.kept_b.items c.deref.result.now c.deref-2.result.now c.in_ok-port_a.port_a c.in_ok-port_b.port_b
    c.in_ok-kept_a.ensures.first c.in_ok-kept_a.ensures.second c.deref.ensures.value c.deref-2.ensures.value c.in_ok-port_a.ensures c.in_ok-port_b.ensures in
    let told = port_told a b c.in_ok-port_a.port_a c.in_ok-port_b.port_b c.in-Some.name seen (sym c.lesser.ensures ∙ c.in-Some.is) in
    record { same = exactly_same a b (verdict.Different c.in-Some.name) told; different = exactly_different a b (verdict.Different c.in-Some.name) told }

pub returns-in-Some-lesser : goal.returns-in-Some-lesser
returns-in-Some-lesser c =
    let a = c.args.a.now in
    let b = c.args.b.now in
    let seen : SeePorts a b c.in_ok-port_a.port_a c.in_ok-port_b.port_b =
    see_ports a b c.in_ok-kept_a.kept_a.items c.in_ok-kept_a.kept_b.items c.deref.result.now c.deref-2.result.now c.in_ok-port_a.port_a c.in_ok-port_b.port_b
    c.in_ok-kept_a.ensures.first c.in_ok-kept_a.ensures.second c.deref.ensures.value c.deref-2.ensures.value c.in_ok-port_a.ensures c.in_ok-port_b.ensures in
    let told = instance_told a b c.in_ok-port_a.port_a c.in_ok-port_b.port_b c.in_ok-instance_a.instance_a c.in_ok-instance_b.instance_b c.in-Some-lesser.name seen
    c.in_ok-instance_a.ensures c.in_ok-instance_b.ensures (sym c.lesser.ensures ∙ c.in_default.is) (sym c.lesser-2.ensures ∙ c.in-Some-lesser.is) in
    record { same = exactly_same a b (verdict.Different c.in-Some-lesser.name) told; different = exactly_different a b (verdict.Different c.in-Some-lesser.name) told }

pub returns : goal.returns
returns c =
    let a = c.args.a.now in
    let b = c.args.b.now in
    let seen : SeePorts a b c.in_ok-port_a.port_a c.in_ok-port_b.port_b =
    see_ports a b c.in_ok-kept_a.kept_a.items c.in_ok-kept_a.kept_b.items c.deref.result.now c.deref-2.result.now c.in_ok-port_a.port_a c.in_ok-port_b.port_b
    c.in_ok-kept_a.ensures.first c.in_ok-kept_a.ensures.second c.deref.ensures.value c.deref-2.ensures.value c.in_ok-port_a.ensures c.in_ok-port_b.ensures in
    let told = same_told a b c.in_ok-port_a.port_a c.in_ok-port_b.port_b c.in_ok-instance_a.instance_a c.in_ok-instance_b.instance_b seen
    c.in_ok-instance_a.ensures c.in_ok-instance_b.ensures (sym c.lesser.ensures ∙ c.in_default.is) (sym c.lesser-2.ensures ∙ c.in-None.is) in
    record { same = exactly_same a b verdict.Same told; different = exactly_different a b verdict.Same told }
