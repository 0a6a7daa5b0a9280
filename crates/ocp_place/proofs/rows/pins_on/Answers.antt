use Rattle.std.proofs.Common.{◌≡◌, ℕ, Some, All, length, map, take, drop, slice_get, slice_index, ◌++◌, refl, sym, subst, ap, ap₂, ◌∙◌, arith, ◌<◌}
use Rattle.std.proofs.lemmas.List.{length-map, get_or_default}
use Rattle.std.proofs.lemmas.Option.{slice_get_read}
use Rattle.net_core.specs.Frame.{instance_of}
use Rattle.ocp_place.specs.Reaches.{site_of, spot_sites, reached_drivers}
use Rattle.ocp_place.specs.Rows.{HasShortPins}
use Rattle.ocp_place.proofs.Laid.{node_reach, node_fits, inside, short, next_on}
use Rattle.ocp_place.proofs.Standing.{whole_pins}
use Rattle.ocp_place.proofs.rows.pins_on.Goals as goal

pub classes_from-own-requires : goal.classes_from-own-requires
classes_from-own-requires c =
    let l = c.args.library.now in
    let n = c.args.netlist.now in
    let nodes = c.nodes-nodes.result.now in
    let node = c.index-nodes-k.result in
    let i = c.loop-k.k in
    let are = c.requires.cells.reaches in
    let s : slice_get nodes i ≡ Some node = slice_get_read nodes (length nodes) i node refl c.loop-k-test.true c.index-nodes-k.is in
    let fits = node_fits l n c.requires.library c.requires.netlist nodes c.nodes-nodes.ensures.seen c.nodes-nodes.ensures.known c.nodes-nodes.ensures.numbered
    c.args.cells.now.reaches.items are i node s in
    let pins = ap length c.as_slice.ensures in
    let classes = ap length c.classes-classes.ensures.classes in
    omega (arith, fits, pins, classes)

pub put-requires-clause-inside : goal.put-requires-clause-inside
put-requires-clause-inside c =
    let l = c.args.library.now in
    let n = c.args.netlist.now in
    let nodes = c.nodes-nodes.result.now in
    let node = c.index-nodes-k.result in
    let i = c.loop-k.k in
    let are = c.requires.cells.reaches in
    let s : slice_get nodes i ≡ Some node = slice_get_read nodes (length nodes) i node refl c.loop-k-test.true c.index-nodes-k.is in
    let r = c.index-in-loop-k-2.result.now in
    let has = node_reach l n c.requires.library c.requires.netlist nodes c.nodes-nodes.ensures.seen c.nodes-nodes.ensures.known c.nodes-nodes.ensures.numbered
    c.args.cells.now.reaches.items are i node r s c.index-in-loop-k-2.ensures in
    let own = c.classes_from-own.result.now in
    let own_is : own ≡ take (length node.pins) (drop node.first n.classes) =
    c.classes_from-own.ensures ∙ ap (λ names. take (length names) (drop node.first c.classes-classes.result.now)) c.as_slice.ensures
    ∙ ap (λ cs. take (length node.pins) (drop node.first cs)) c.classes-classes.ensures.classes in
    subst (λ ps. All (λ p. p.place < length own) ps) (sym c.deref.ensures.value)
    (inside l n c.requires.library c.requires.netlist nodes c.nodes-nodes.ensures.seen c.nodes-nodes.ensures.known c.nodes-nodes.ensures.numbered
    c.args.cells.now.reaches.items are i node r s has own own_is)

pub put-requires-clause-short : goal.put-requires-clause-short
put-requires-clause-short c =
    let l = c.args.library.now in
    let n = c.args.netlist.now in
    let nodes = c.nodes-nodes.result.now in
    let node = c.index-nodes-k.result in
    let i = c.loop-k.k in
    let are = c.requires.cells.reaches in
    let s : slice_get nodes i ≡ Some node = slice_get_read nodes (length nodes) i node refl c.loop-k-test.true c.index-nodes-k.is in
    let r = c.index-in-loop-k-2.result.now in
    let has = node_reach l n c.requires.library c.requires.netlist nodes c.nodes-nodes.ensures.seen c.nodes-nodes.ensures.known c.nodes-nodes.ensures.numbered
    c.args.cells.now.reaches.items are i node r s c.index-in-loop-k-2.ensures in
    let own = c.classes_from-own.result.now in
    let own_is : own ≡ take (length node.pins) (drop node.first n.classes) =
    c.classes_from-own.ensures ∙ ap (λ names. take (length names) (drop node.first c.classes-classes.result.now)) c.as_slice.ensures
    ∙ ap (λ cs. take (length node.pins) (drop node.first cs)) c.classes-classes.ensures.classes in
    let many : length nodes ≡ length n.instances = sym (length-map nodes (instance_of n.models)) ∙ ap length c.nodes-nodes.ensures.seen in
    let low = c.loop-k-test.true in
    let starts = c.requires.starts in
    let rows = c.requires.rows in
    let near = c.requires.near i c.index.result.now (omega (arith, many, low, starts)) in
    let x = c.index.ensures in
    subst (λ ps. HasShortPins c.index.result.now ps) (sym c.deref.ensures.value)
    (short l n c.requires.library c.requires.netlist nodes c.nodes-nodes.ensures.seen c.nodes-nodes.ensures.known c.nodes-nodes.ensures.numbered
    c.args.cells.now.reaches.items are i node r s has own own_is c.index.result.now (omega (arith, near, x)))

pub loop-k-preserved : goal.loop-k-preserved
loop-k-preserved c =
    let l = c.args.library.now in
    let n = c.args.netlist.now in
    let nodes = c.nodes-nodes.result.now in
    let node = c.index-nodes-k.result in
    let i = c.loop-k.k in
    let are = c.requires.cells.reaches in
    let s : slice_get nodes i ≡ Some node = slice_get_read nodes (length nodes) i node refl c.loop-k-test.true c.index-nodes-k.is in
    let r = c.index-in-loop-k-2.result.now in
    let has = node_reach l n c.requires.library c.requires.netlist nodes c.nodes-nodes.ensures.seen c.nodes-nodes.ensures.known c.nodes-nodes.ensures.numbered
    c.args.cells.now.reaches.items are i node r s c.index-in-loop-k-2.ensures in
    let own = c.classes_from-own.result.now in
    let own_is : own ≡ take (length node.pins) (drop node.first n.classes) =
    c.classes_from-own.ensures ∙ ap (λ names. take (length names) (drop node.first c.classes-classes.result.now)) c.as_slice.ensures
    ∙ ap (λ cs. take (length node.pins) (drop node.first cs)) c.classes-classes.ensures.classes in
    let many : length nodes ≡ length n.instances = sym (length-map nodes (instance_of n.models)) ∙ ap length c.nodes-nodes.ensures.seen in
    let low = c.loop-k-test.true in
    let starts = c.requires.starts in
    let rows = c.requires.rows in
    let xs = c.args.spots.now.starts.items in
    let rs = c.args.spots.now.row_numbers.items in
    let inside_xs : i < length xs = omega (arith, many, low, starts) in
    let inside_rs : i < length rs = omega (arith, many, low, rows) in
    let x : c.index.result.now ≡ slice_index xs i = c.index.ensures ∙ get_or_default xs i c.index.result.now 0 inside_xs in
    let row : c.index-in-loop-k.result.now ≡ slice_index rs i = c.index-in-loop-k.ensures ∙ get_or_default rs i c.index-in-loop-k.result.now 0 inside_rs in
    let sites : map site_of c.put.new.self.sites.items ≡ map site_of c.loop-k.row.sites.items ++ spot_sites (slice_index xs i) (slice_index rs i) own r.pins.items =
    c.in_ok-put.ensures.sites
    ∙ ap (λ ps. map site_of c.loop-k.row.sites.items ++ spot_sites c.index.result.now c.index-in-loop-k.result.now own ps) c.deref.ensures.value
    ∙ ap₂ (λ (a b : ℕ). map site_of c.loop-k.row.sites.items ++ spot_sites a b own r.pins.items) x row in
    let drivers : c.put.new.self.drivers.items ≡ c.loop-k.row.drivers.items ++ reached_drivers own r.pins.items =
    c.in_ok-put.ensures.drivers ∙ ap (λ ps. c.loop-k.row.drivers.items ++ reached_drivers own ps) c.deref.ensures.value in
    record {
      seen = λ k seen. next_on l n c.requires.library c.requires.netlist nodes c.nodes-nodes.ensures.seen c.nodes-nodes.ensures.known c.nodes-nodes.ensures.numbered
          c.args.cells.now.reaches.items are i node r s has own own_is k seen xs rs inside_xs inside_rs c.loop-k.row c.put.new.self sites drivers (c.loop-k.invariant.seen k seen);
      near = c.in_ok-put.ensures.near c.loop-k.invariant.near;
    }

pub returns : goal.returns
returns c =
    let l = c.args.library.now in
    let n = c.args.netlist.now in
    let nodes = c.nodes-nodes.result.now in
    let many : length nodes ≡ length n.instances = sym (length-map nodes (instance_of n.models)) ∙ ap length c.nodes-nodes.ensures.seen in
    whole_pins l n c.args.spots.now c.loop-k.row c.loop-k.k (omega arith) c.loop-k.invariant.seen c.loop-k.invariant.near
