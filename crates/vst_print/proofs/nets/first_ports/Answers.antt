use Rattle.std.proofs.Common.{◌++◌, ◌∷◌, [], ◌∙◌, length, get_or, ap, sym, arith}
use Rattle.std.proofs.lemmas.Bool.{eq-eqb, ne_eqb}
use Rattle.vlsi_base.specs.declared.name.Name.{Name}
use Rattle.vlsi_base.specs.declared.name.Port.{Port}
use Rattle.vst_print.proofs.Signals.{firsts_skip, firsts_push, a_port}
use Rattle.vst_print.proofs.nets.first_ports.Goals.{then-classes-k+in_ok-copy+in_ok-push, else-classes-k}
use Rattle.vst_print.proofs.nets.first_ports.Goals as goal

pub loop-k-preserved : goal.loop-k-preserved
loop-k-preserved c =
    let ports = c.args.ports.now in
    let classes = c.args.classes.now in
    let k = c.loop-k.k in
    let many = c.requires in
    let less = c.loop-k-test.true in
    elim c.if-classes-k.branch [
      | then-classes-k+in_ok-copy+in_ok-push w ↦ rw w.names-is (
          firsts_push ports classes k w.index-ports-k.result c.loop-k.names.items w.push.new.self.items less (omega (arith, less, many)) w.index-ports-k.is
          (eq-eqb (get_or classes k 0) (length c.loop-k.names.items) (omega (arith, w.if-classes-k.true, c.len.ensures)))
          (w.in_ok-push.ensures.items ∙ ap (λ (n : Name). c.loop-k.names.items ++ n ∷ []) (w.in_ok-copy.ensures ∙ ap (λ (p : Port). p.name) (sym w.index-ports-k.is))) c.loop-k.invariant)
      | else-classes-k w ↦ rw w.names-is (
          let p = a_port ports k less in
          firsts_skip ports classes k p.0 c.loop-k.names.items less (omega (arith, less, many)) p.1
          (ne_eqb (get_or classes k 0) (length c.loop-k.names.items) (omega (arith, w.if-classes-k.false, c.len.ensures))) c.loop-k.invariant)
    ]
