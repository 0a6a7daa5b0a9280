use Rattle.std.proofs.Common.{◌≡◌, ◌<◌, ◌+◌, ℕ, true, false, List, length, get_or, refl, sym, ap, ◌∙◌, subst, arith}
use Rattle.std.proofs.lemmas.Option.{slice_get_read}
use Rattle.vlsi_base.specs.declared.name.Name.{Name}
use Rattle.net_core.specs.Places.{Stands}
use Rattle.net_core.proofs.Rings.{nodes_count}
use Rattle.loon_buffer.proofs.Marked.{pin_low, marked_at, none_marked}
use Rattle.loon_buffer.proofs.choose.has_marked_pin.Goals as goal

pub bounds-classes-node : goal.bounds-classes-node
bounds-classes-node c =
    let count = nodes_count c.args.netlist.now.models c.nodes.result.now c.args.netlist.now.instances c.nodes.ensures.seen in
    let low = c.requires in
    let stood : Stands c.nodes.result.now c.args.number c.index-nodes-number.result =
    slice_get_read c.nodes.result.now (length c.nodes.result.now) c.args.number c.index-nodes-number.result refl (omega (arith, count, low)) c.index-nodes-number.is in
    let k : c.loop-k.k < length c.index-nodes-number.result.pins =
    subst (λ (ps : List Name). c.loop-k.k < length ps) c.as_slice-k-end.ensures c.loop-k-test.true in
    subst (λ (cs : List ℕ). c.index-nodes-number.result.first + c.loop-k.k < length cs) (sym c.classes-classes.ensures.classes)
    (pin_low c.args.netlist.now c.classes-classes.ensures.sound c.nodes.result.now c.nodes.ensures.seen c.nodes.ensures.numbered c.args.number c.index-nodes-number.result stood c.loop-k.k k)

pub returns-then-is_marked : goal.returns-then-is_marked
returns-then-is_marked c =
    let count = nodes_count c.args.netlist.now.models c.nodes.result.now c.args.netlist.now.instances c.nodes.ensures.seen in
    let low = c.requires in
    let stood : Stands c.nodes.result.now c.args.number c.index-nodes-number.result =
    slice_get_read c.nodes.result.now (length c.nodes.result.now) c.args.number c.index-nodes-number.result refl (omega (arith, count, low)) c.index-nodes-number.is in
    let k : c.loop-k.k < length c.index-nodes-number.result.pins =
    subst (λ (ps : List Name). c.loop-k.k < length ps) c.as_slice-k-end.ensures c.loop-k-test.true in
    let marked : get_or c.args.delays.now.marks.items (get_or c.classes-classes.result.now (c.index-nodes-number.result.first + c.loop-k.k) 0) false ≡ true =
    sym c.is_marked.ensures ∙ c.if-is_marked.true in (
      (λ t. marked_at c.args.netlist.now c.classes-classes.ensures.sound c.nodes.result.now c.nodes.ensures.seen c.nodes.ensures.numbered c.args.number c.index-nodes-number.result stood
          c.args.delays.now.marks.items c.loop-k.k k
          (subst (λ (cs : List ℕ). get_or c.args.delays.now.marks.items (get_or cs (c.index-nodes-number.result.first + c.loop-k.k) 0) false ≡ true) c.classes-classes.ensures.classes marked)),
      (λ h. refl),
    )

pub returns : goal.returns
returns c =
    let count = nodes_count c.args.netlist.now.models c.nodes.result.now c.args.netlist.now.instances c.nodes.ensures.seen in
    let low = c.requires in
    let stood : Stands c.nodes.result.now c.args.number c.index-nodes-number.result =
    slice_get_read c.nodes.result.now (length c.nodes.result.now) c.args.number c.index-nodes-number.result refl (omega (arith, count, low)) c.index-nodes-number.is in
    let all = c.loop-k-test.false in
    let same = ap (λ (ps : List Name). length ps) c.as_slice-k-end.ensures in (
      (λ t. absurd cc),
      (λ h. absurd (none_marked c.args.netlist.now c.classes-classes.ensures.sound c.nodes.result.now c.nodes.ensures.seen c.nodes.ensures.numbered c.args.number c.index-nodes-number.result stood
          c.args.delays.now.marks.items c.loop-k.k (omega (arith, all, same))
          (subst (λ (cs : List ℕ). (j : ℕ) → j < c.loop-k.k → get_or c.args.delays.now.marks.items (get_or cs (c.index-nodes-number.result.first + j) 0) false ≡ false)
          c.classes-classes.ensures.classes c.loop-k.invariant) h)),
    )
