use Rattle.std.proofs.Common.{◌≡◌, ◌∙◌, ◌<◌, List, ℕ, length, map, sym, ap, subst, arith}
use Rattle.std.specs.List.{All}
use Rattle.std.specs.Global.{Vec}
use Rattle.bit_order.specs.Order as order
use Rattle.net_core.specs.declared.links.Link.{Link}
use Rattle.net_core.specs.Links.{AreGrouped, inputs_of}
use Rattle.net_core.proofs.Rings.{link_below, each_there, group_link, inputs_inside, inputs_count}
use Rattle.net_core.proofs.ClassOrders.{no_class_ring, class_ordered}
use Rattle.net_core.proofs.ordering.class_order.Goals as goal

pub grouped-requires : goal.grouped-requires
grouped-requires c =
    let n = c.args.netlist.now in
    subst (λ (ls : List Link). All (λ l. l.output < c.count.result) ls) (sym c.deref.ensures.value)
    (each_there (λ (l : Link). l.output < c.count.result) c.in_ok-links.links.items (λ l t. let b = (link_below c.args.table.now n c.in_ok-links.links.items c.in_ok-links.ensures.sound c.in_ok-links.ensures.all l t).0 in omega (arith, b, c.count.ensures)))

pub order-requires-clause-inside : goal.order-requires-clause-inside
order-requires-clause-inside c =
    let n = c.args.netlist.now in
    let links = c.in_ok-links.links.items in
    let groups = c.in_ok-groups.groups.items in
    let inputs = c.in_ok-inputs.inputs.items in
    let grouped = subst (λ (ls : List Link). AreGrouped ls groups) c.deref.ensures.value c.in_ok-groups.ensures.grouped in
    let e : map (λ (i : Vec ℕ). i.items) inputs ≡ inputs_of groups = c.in_ok-inputs.ensures ∙ ap inputs_of c.deref-2.ensures.value in
    let all = group_link links groups grouped (λ (l : Link). l.input < n.count) (λ l t. (link_below c.args.table.now n links c.in_ok-links.ensures.sound c.in_ok-links.ensures.all l t).1) in
    let many = inputs_count groups inputs e in
    subst (λ (xs : List (Vec ℕ)). All (λ nodes. All (λ node. node < length xs) nodes.items) xs) (sym c.deref-3.ensures.value)
    (inputs_inside groups inputs n.count e all (omega (arith, many, c.in_ok-groups.ensures.many, c.count.ensures)) c.in_ok-links.links)

pub unreachable-requires : goal.unreachable-requires
unreachable-requires c =
    let n = c.args.netlist.now in
    let links = c.in_ok-links.links.items in
    let groups = c.in_ok-groups.groups.items in
    let grouped = subst (λ (ls : List Link). AreGrouped ls groups) c.deref.ensures.value c.in_ok-groups.ensures.grouped in
    let e : map (λ (i : Vec ℕ). i.items) c.deref-3.result.now ≡ inputs_of groups = ap (map (λ (i : Vec ℕ). i.items)) c.deref-3.ensures.value ∙ c.in_ok-inputs.ensures ∙ ap inputs_of c.deref-2.ensures.value in
    let known = subst (order.IsOrderOf (map (λ (i : Vec ℕ). i.items) c.deref-3.result.now)) c.in-Ring.is c.in_ok-order.ensures in
    let ring : order.IsRing (inputs_of groups) c.in-Ring.field-0.items = subst (λ (xs : List (List ℕ)). order.IsRing xs c.in-Ring.field-0.items) e known in
    no_class_ring c.args.table.now n links groups c.in-Ring.field-0.items c.in_ok-links.ensures.sound c.in_ok-links.ensures.all grouped ring c.in_ok-links.links c.requires.passes

pub returns : goal.returns
returns c =
    let n = c.args.netlist.now in
    let links = c.in_ok-links.links.items in
    let groups = c.in_ok-groups.groups.items in
    let grouped = subst (λ (ls : List Link). AreGrouped ls groups) c.deref.ensures.value c.in_ok-groups.ensures.grouped in
    let e : map (λ (i : Vec ℕ). i.items) c.deref-3.result.now ≡ inputs_of groups = ap (map (λ (i : Vec ℕ). i.items)) c.deref-3.ensures.value ∙ c.in_ok-inputs.ensures ∙ ap inputs_of c.deref-2.ensures.value in
    let known = subst (order.IsOrderOf (map (λ (i : Vec ℕ). i.items) c.deref-3.result.now)) c.in-Sorted.is c.in_ok-order.ensures in
    let sorted : order.IsSortedOrder (inputs_of groups) c.in-Sorted.order.items = subst (λ (xs : List (List ℕ)). order.IsSortedOrder xs c.in-Sorted.order.items) e known in
    class_ordered c.args.table.now n links groups c.in-Sorted.order.items c.in_ok-links.ensures.sound c.in_ok-links.ensures.all grouped (c.in_ok-groups.ensures.many ∙ c.count.ensures) sorted c.in_ok-links.links
