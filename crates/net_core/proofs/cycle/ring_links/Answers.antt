use Rattle.std.proofs.Common.{◌≡◌, ◌∙◌, List, None, Some, sym, subst}
use Rattle.net_core.specs.declared.links.Link.{Link}
use Rattle.net_core.specs.Links.{next_in, IsLinkTo}
use Rattle.net_core.proofs.Rings.{chosen_step, chosen_there, next_inner, next_last, ring_inside}
use Rattle.net_core.proofs.cycle.ring_links.Goals.{in-Some+in_ok-push, in_default, then-k-ring, else-k-ring}
use Rattle.net_core.proofs.cycle.ring_links.Goals as goal

pub loop-k-preserved : goal.loop-k-preserved
loop-k-preserved c =
    let groups = c.args.groups.now in
    let ring = c.args.ring.now in
    let k = c.loop-k.k in
    let next : c.if-k-ring.next ≡ next_in ring k = elim c.if-k-ring.branch [
      | then-k-ring w ↦ w.next-is ∙ sym (next_inner ring k w.if-k-ring.true)
      | else-k-ring w ↦ w.next-is ∙ sym (next_last ring k w.if-k-ring.false)
    ] in
    let low = ring_inside groups ring k c.requires c.loop-k-test.true in
    elim c.match-link_to.branch [
      | in-Some+in_ok-push w ↦
          rw (w.chosen-is)
          (chosen_step groups ring c.loop-k.chosen.items w.push.new.self.items k c.loop-k.invariant c.index-groups-ring.result c.if-k-ring.next w.in-Some.link low c.index-groups-ring.is next
          (subst (λ (ls : List Link). IsLinkTo ls c.if-k-ring.next (Some w.in-Some.link)) c.deref.ensures.value w.in-Some.ensures) w.in_ok-push.ensures.items)
      | in_default w ↦
          absurd (chosen_there groups ring k c.index-groups-ring.result c.if-k-ring.next c.requires c.loop-k-test.true low c.index-groups-ring.is next
          (subst (λ (ls : List Link). IsLinkTo ls c.if-k-ring.next None) c.deref.ensures.value (subst (IsLinkTo c.deref.result.now c.if-k-ring.next) w.in_default.is c.link_to.ensures)))
    ]
