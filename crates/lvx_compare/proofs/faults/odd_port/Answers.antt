use Rattle.std.proofs.Common.{◌≡◌, ◌<◌, ◌∙◌, ℕ, true, false, List, length, refl, sym, ap, subst, arith}
use Rattle.std.proofs.lemmas.Option.{slice_get_read}
use Rattle.vlsi_base.specs.declared.name.Name.{Name}
use Rattle.vlsi_base.specs.declared.name.Port.{Port}
use Rattle.net_core.specs.Places.{Stands}
use Rattle.lvx_compare.specs.Compared.{IsLeast}
use Rattle.lvx_compare.specs.Stages.{mark_at, IsOddPort}
use Rattle.lvx_compare.proofs.Ports.{first_port, all_ports}
use Rattle.lvx_compare.proofs.faults.odd_port.Goals as goal

pub returns-then-not-mark_at : goal.returns-then-not-mark_at
returns-then-not-mark_at c = λ other are.
    let n = c.args.netlist.now in
    let marks = c.args.marks.now in
    let k = c.loop-k.k in
    let ports = c.ports-ports.result.now in
    let p = c.index-ports-k.result in
    let read : Stands ports k p = slice_get_read ports (length ports) k p refl c.loop-k-test.true c.index-ports-k.is in
    let stands : Stands n.ports k p = subst (λ (ps : List Port). Stands ps k p) c.ports-ports.ensures read in
    let unmarked : mark_at marks n.classes k ≡ false = subst (λ (cs : List ℕ). mark_at marks cs k ≡ false) c.classes-classes.ensures.classes (sym c.mark_at.ensures ∙ c.if-not-mark_at.true) in
    let before : (j : ℕ) → j < k → mark_at marks n.classes j ≡ true =
    subst (λ (cs : List ℕ). (j : ℕ) → j < k → mark_at marks cs j ≡ true) c.classes-classes.ensures.classes c.loop-k.invariant in
    subst (λ (x : Name). IsLeast (IsOddPort n other) x) (sym (c.in_ok-name.ensures ∙ ap (λ (x : Port). x.name) (sym c.index-ports-k.is)))
    (first_port n other marks c.classes-classes.ensures.sound are k p stands unmarked before)

pub returns : goal.returns
returns c = λ other are.
    let n = c.args.netlist.now in
    let marks = c.args.marks.now in
    let many : length c.ports-ports.result.now ≡ length n.ports = ap length c.ports-ports.ensures in
    let all : (j : ℕ) → j < c.loop-k.k → mark_at marks n.classes j ≡ true =
    subst (λ (cs : List ℕ). (j : ℕ) → j < c.loop-k.k → mark_at marks cs j ≡ true) c.classes-classes.ensures.classes c.loop-k.invariant in
    all_ports n other marks c.classes-classes.ensures.sound are (λ j l. all j (omega (arith, l, many, c.loop-k-test.false)))
