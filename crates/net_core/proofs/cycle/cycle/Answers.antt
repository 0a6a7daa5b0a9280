use Rattle.std.proofs.Common.{◌≡◌, ◌∙◌, ◌<◌, List, ℕ, length, map, sym, ap, subst, arith}
use Rattle.std.specs.List.{All}
use Rattle.std.specs.Global.{Vec}
use Rattle.bit_order.specs.Order as order
use Rattle.net_core.specs.declared.links.Link.{Link}
use Rattle.net_core.specs.Links.{AreGrouped, inputs_of}
use Rattle.net_core.proofs.Rings.{link_below, each_there, group_link, inputs_inside, inputs_count, nodes_count, no_ring}
use Rattle.net_core.proofs.Turned.{ring_named}
use Rattle.net_core.proofs.cycle.cycle.Goals as goal

pub grouped-requires : goal.grouped-requires
grouped-requires c =
    let n = c.args.netlist.now in
    subst (λ (ls : List Link). All (λ l. l.output < c.count.result) ls) (sym c.deref.ensures.value)
    (each_there (λ (l : Link). l.output < c.count.result) c.in_ok-links.links.items (λ l t. let b = (link_below c.args.table.now n c.in_ok-links.links.items c.in_ok-links.ensures.sound c.in_ok-links.ensures.all l t).0 in omega (arith, b, c.count.ensures)))

pub order-requires-clause-inside : goal.order-requires-clause-inside
order-requires-clause-inside c =
    let n = c.args.netlist.now in
    let links = c.in_ok-links.links.items in
    let groups = c.in_ok-groups.groups.items in
    let inputs = c.in_ok-inputs.inputs.items in
    let grouped = subst (λ (ls : List Link). AreGrouped ls groups) c.deref.ensures.value c.in_ok-groups.ensures.grouped in
    let e : map (λ (i : Vec ℕ). i.items) inputs ≡ inputs_of groups = c.in_ok-inputs.ensures ∙ ap inputs_of c.deref-2.ensures.value in
    let all = group_link links groups grouped (λ (l : Link). l.input < n.count) (λ l t. (link_below c.args.table.now n links c.in_ok-links.ensures.sound c.in_ok-links.ensures.all l t).1) in
    let many = inputs_count groups inputs e in
    subst (λ (xs : List (Vec ℕ)). All (λ nodes. All (λ node. node < length xs) nodes.items) xs) (sym c.deref-3.ensures.value)
    (inputs_inside groups inputs n.count e all (omega (arith, many, c.in_ok-groups.ensures.many, c.count.ensures)) c.in_ok-links.links)

pub returns-in-Sorted : goal.returns-in-Sorted
returns-in-Sorted c =
    let n = c.args.netlist.now in
    let links = c.in_ok-links.links.items in
    let groups = c.in_ok-groups.groups.items in
    let grouped = subst (λ (ls : List Link). AreGrouped ls groups) c.deref.ensures.value c.in_ok-groups.ensures.grouped in
    let e : map (λ (i : Vec ℕ). i.items) c.deref-3.result.now ≡ inputs_of groups = ap (map (λ (i : Vec ℕ). i.items)) c.deref-3.ensures.value ∙ c.in_ok-inputs.ensures ∙ ap inputs_of c.deref-2.ensures.value in
    let known = subst (order.IsOrderOf (map (λ (i : Vec ℕ). i.items) c.deref-3.result.now)) c.in-Sorted.is c.in_ok-order.ensures in
    let sorted : order.IsSortedOrder (inputs_of groups) c.in-Sorted.field-0.items = subst (λ (xs : List (List ℕ)). order.IsSortedOrder xs c.in-Sorted.field-0.items) e known in
    no_ring c.args.table.now n links groups c.in-Sorted.field-0.items c.in_ok-links.ensures.sound c.in_ok-links.ensures.all grouped (c.in_ok-groups.ensures.many ∙ c.count.ensures) c.an_order_leaves_no_ring.ensures sorted c.in_ok-links.links

pub ring_names-requires-clause-owners : goal.ring_names-requires-clause-owners
ring_names-requires-clause-owners c =
    let n = c.args.netlist.now in
    let links = c.in_ok-links.links.items in
    let groups = c.in_ok-groups.groups.items in
    let grouped = subst (λ (ls : List Link). AreGrouped ls groups) c.deref.ensures.value c.in_ok-groups.ensures.grouped in
    let many = nodes_count n.models c.nodes.result.now n.instances c.nodes.ensures.seen in
    subst (λ (gs : List (Vec Link)). All (λ g. All (λ l. l.owner < length c.nodes.result.now) g.items) gs) (sym c.deref-in-Ring.ensures.value)
    (group_link links groups grouped (λ (l : Link). l.owner < length c.nodes.result.now) (λ l t. let b = (link_below c.args.table.now n links c.in_ok-links.ensures.sound c.in_ok-links.ensures.all l t).2 in omega (arith, b, many)))

pub returns : goal.returns
returns c =
    let n = c.args.netlist.now in
    let links = c.in_ok-links.links.items in
    let groups = c.deref-in-Ring.result.now in
    let ring = c.deref-in-Ring-2.result.now in
    let here = subst (λ (ls : List Link). AreGrouped ls c.in_ok-groups.groups.items) c.deref.ensures.value c.in_ok-groups.ensures.grouped in
    let grouped = subst (λ (gs : List (Vec Link)). AreGrouped links gs) (sym c.deref-in-Ring.ensures.value) here in
    let e : map (λ (i : Vec ℕ). i.items) c.deref-3.result.now ≡ inputs_of groups =
    ap (map (λ (i : Vec ℕ). i.items)) c.deref-3.ensures.value ∙ c.in_ok-inputs.ensures ∙ ap inputs_of (c.deref-2.ensures.value ∙ sym c.deref-in-Ring.ensures.value) in
    let known = subst (order.IsOrderOf (map (λ (i : Vec ℕ). i.items) c.deref-3.result.now)) c.in-Ring.is c.in_ok-order.ensures in
    let is_ring : order.IsRing (inputs_of groups) ring =
    subst (λ (ns : List ℕ). order.IsRing (inputs_of groups) ns) (sym c.deref-in-Ring-2.ensures.value) (subst (λ (xs : List (List ℕ)). order.IsRing xs c.in-Ring.ring.items) e known) in
    ring_named c.args.table.now n n.models c.nodes.result.now links groups ring c.in_ok-names-in-Ring.names.items c.in_ok-links.ensures.sound c.nodes.ensures.seen c.in_ok-links.ensures.all grouped is_ring c.in_ok-names-in-Ring.ensures c.in_ok-links.links
