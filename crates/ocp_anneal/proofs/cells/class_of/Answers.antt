use Rattle.std.proofs.Common.{◌≡◌, ◌∙◌, ◌≤◌, cond, ap, sym, length, arith, get_or}
use Rattle.std.proofs.lemmas.Bool.{cond-true, cond-false}
use Rattle.std.proofs.lemmas.List.{get_or_default}
use Rattle.vlsi_base.specs.Names.{scalar}
use Rattle.vlsi_base.specs.declared.name.Port.{Port}
use Rattle.machine_core.specs.Named.{is_same_name}
use Rattle.ocp_anneal.proofs.Nets.{named_next, ports_fit}
use Rattle.ocp_anneal.proofs.cells.class_of.Goals.{then-is_named, else-is_named}
use Rattle.ocp_anneal.proofs.cells.class_of.Goals as goal

pub loop-k-preserved : goal.loop-k-preserved
loop-k-preserved c =
    let n = c.args.netlist.now in
    let ports = c.ports-ports.result.now in
    let classes = c.classes-classes.result.now in
    let i = c.loop-k.k in
    let p = c.index-ports-k.result in
    let d = get_or classes i 0 in
    let many : length ports ≤ length classes =
    (let a = ap length c.ports-ports.ensures in let b = ap length c.classes-classes.ensures.classes in let e = ports_fit n c.requires in omega (arith, a, b, e)) in
    let low = c.loop-k-test.true in
    let test : c.is_named.result ≡ is_same_name p.name (scalar c.args.text.now) =
    c.is_named.ensures ∙ ap (λ (q : Port). is_same_name q.name (scalar c.args.text.now)) (sym c.index-ports-k.is) in
    let new : c.if-is_named.class ≡ cond (is_same_name p.name (scalar c.args.text.now)) d c.loop-k.class = elim c.if-is_named.branch [
      | then-is_named w ↦ w.class-is ∙ sym (cond-true (is_same_name p.name (scalar c.args.text.now)) d c.loop-k.class (sym test ∙ w.if-is_named.true))
      | else-is_named w ↦ w.class-is ∙ sym (cond-false (is_same_name p.name (scalar c.args.text.now)) d c.loop-k.class (sym test ∙ w.if-is_named.false))
    ] in
    named_next (λ q. is_same_name q.name (scalar c.args.text.now)) ports classes i c.loop-k.class c.if-is_named.class p d low (omega (arith, many, low)) c.index-ports-k.is
    (get_or_default classes i 0 d (omega (arith, many, low))) new
    ∙ c.loop-k.invariant
