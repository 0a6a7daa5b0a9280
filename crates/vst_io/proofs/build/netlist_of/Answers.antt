use Rattle.std.proofs.Common.{◌≡◌, ◌<◌, ◌+◌, ◌^◌, ◌++◌, ◌∙◌, List, map, length, ap, sym, subst, arith}
use Rattle.std.specs.List.{All, flat_map, sum_by}
use Rattle.std.specs.List.Sorted.{IsPermutation}
use Rattle.std.proofs.lemmas.List.Sorted.{length_permutation}
use Rattle.vlsi_base.specs.declared.name.Name.{Name}
use Rattle.vlsi_base.specs.declared.name.Port.{Port}
use Rattle.vlsi_base.specs.declared.name.Terminal.{Terminal}
use Rattle.vlsi_base.specs.Member.{AllDifferent}
use Rattle.net_core.specs.Places.{IsThere}
use Rattle.net_core.specs.Netlist.{port}
use Rattle.net_core.specs.Joins.{Draft, draft_terminals}
use Rattle.vst_text.specs.declared.file.StructuralFile.{StructuralFile}
use Rattle.vst_io.specs.Nets.{nets, port_bits, instance_of, instance_links, links}
use Rattle.vst_io.specs.Drafts.{joins_of}
use Rattle.vst_io.proofs.Adding.{pin_count}
use Rattle.vst_io.proofs.Places.{stands_in}
use Rattle.vst_io.proofs.Drafted.{all_mapped, ports_apart, ends_there, pins_some, is_netlist_of}
use Rattle.vst_io.proofs.build.netlist_of.Goals as goal

pub sorted-requires : goal.sorted-requires
sorted-requires c = subst (λ (ps : List Port). AllDifferent (map (λ (p : Port). p.name) ps)) (sym c.requires.ports) (ports_apart c.args.known.now.table c.args.known.now.file c.requires.checked)

pub begin-requires-clause-few : goal.begin-requires-clause-few
begin-requires-clause-few c =
    let table = c.args.known.now.table in
    let f = c.args.known.now.file in
    let checked = c.requires.checked in
    let sorted = c.in_ok-sorted.field-0.items in
    let moved : IsPermutation (port_bits (nets f)) sorted = subst (λ (ps : List Port). IsPermutation ps sorted) c.requires.ports c.in_ok-sorted.ensures.moved in
    let many = length_permutation (port_bits (nets f)) sorted moved in
    let few : length (port_bits (nets f)) + sum_by (pin_count table) f.instances < 2 ^ 32 = checked.few in
    let own : length c.new.result ≡ length sorted = ap (λ (ps : List Port). length ps) c.new.ensures in
    omega (arith, many, few, own)

pub add_instances-requires-clause-few : goal.add_instances-requires-clause-few
add_instances-requires-clause-few c =
    let table = c.args.known.now.table in
    let f = c.args.known.now.file in
    let checked = c.requires.checked in
    let sorted = c.in_ok-sorted.field-0.items in
    let moved : IsPermutation (port_bits (nets f)) sorted = subst (λ (ps : List Port). IsPermutation ps sorted) c.requires.ports c.in_ok-sorted.ensures.moved in
    ap (λ (d : Draft). length d.ports) c.in_ok-builder.ensures ∙ ap (λ (ps : List Port). length ps) c.new.ensures ∙ length_permutation (port_bits (nets f)) sorted moved

pub add_instances-requires-clause-maps : goal.add_instances-requires-clause-maps
add_instances-requires-clause-maps c = λ i h.
    let table = c.args.known.now.table in
    let f = c.args.known.now.file in
    pins_some table f i (all_mapped table f c.requires.checked.maps i (stands_in f.instances h.0 i h.1)) (c.requires.some i h)

pub join_all-requires : goal.join_all-requires
join_all-requires c =
    let table = c.args.known.now.table in
    let f = c.args.known.now.file in
    let checked = c.requires.checked in
    let sorted = c.in_ok-sorted.field-0.items in
    let moved : IsPermutation (port_bits (nets f)) sorted = subst (λ (ps : List Port). IsPermutation ps sorted) c.requires.ports c.in_ok-sorted.ensures.moved in
    let draft = c.add_instances.new.builder in
    let ports : draft.ports ≡ sorted = ap (λ (d : Draft). d.ports) c.in_ok-add_instances.ensures.added ∙ ap (λ (d : Draft). d.ports) c.in_ok-builder.ensures ∙ c.new.ensures in
    let instances : draft.instances ≡ map (instance_of table) f.instances = ap (λ (d : Draft). d.instances) c.in_ok-add_instances.ensures.added in
    let linked : c.deref-2.result.now ≡ links f =
    c.deref-2.ensures.value ∙ c.in_ok-links.ensures ∙ ap (λ (ps : List Port). map (λ (p : Port). (port p.name, p.name)) ps ++ flat_map (instance_links f) f.instances) (c.deref.ensures.value ∙ c.requires.ports) in
    record { there = subst (λ (ls : List (Terminal × Name)). All (λ l. IsThere (draft_terminals draft) l.0) ls) (sym linked) (ends_there table f sorted draft checked moved ports instances) }

pub returns-clause-netlist : goal.returns-clause-netlist
returns-clause-netlist c =
    let table = c.args.known.now.table in
    let f = c.args.known.now.file in
    let checked = c.requires.checked in
    let sorted = c.in_ok-sorted.field-0.items in
    let moved : IsPermutation (port_bits (nets f)) sorted = subst (λ (ps : List Port). IsPermutation ps sorted) c.requires.ports c.in_ok-sorted.ensures.moved in
    let draft = c.add_instances.new.builder in
    let ports : draft.ports ≡ sorted = ap (λ (d : Draft). d.ports) c.in_ok-add_instances.ensures.added ∙ ap (λ (d : Draft). d.ports) c.in_ok-builder.ensures ∙ c.new.ensures in
    let instances : draft.instances ≡ map (instance_of table) f.instances = ap (λ (d : Draft). d.instances) c.in_ok-add_instances.ensures.added in
    let linked : c.deref-2.result.now ≡ links f =
    c.deref-2.ensures.value ∙ c.in_ok-links.ensures ∙ ap (λ (ps : List Port). map (λ (p : Port). (port p.name, p.name)) ps ++ flat_map (instance_links f) f.instances) (c.deref.ensures.value ∙ c.requires.ports) in
    let joined = c.in_ok-join_all.ensures.joined in
    let last = c.join_all.new.builder in
    let name : last.name ≡ f.entity.name =
    ap (λ (d : Draft). d.name) joined ∙ ap (λ (d : Draft). d.name) c.in_ok-add_instances.ensures.added ∙ ap (λ (d : Draft). d.name) c.in_ok-builder.ensures ∙ c.in_ok-name.ensures
    ∙ ap (λ (g : StructuralFile). g.entity.name) c.file.ensures in
    let joins : last.joins ≡ joins_of (links f) =
    ap (λ (d : Draft). d.joins) joined ∙ ap (λ (js : List (Terminal × Terminal)). js ++ joins_of c.deref-2.result.now) (ap (λ (d : Draft). d.joins) c.in_ok-add_instances.ensures.added ∙ ap (λ (d : Draft). d.joins) c.in_ok-builder.ensures)
    ∙ ap joins_of linked in
    is_netlist_of table f sorted last c.in_ok-netlist.netlist checked c.in_ok-add_instances.ensures.once moved name (ap (λ (d : Draft). d.ports) joined ∙ ports) (ap (λ (d : Draft). d.instances) joined ∙ instances) joins
    c.in_ok-netlist.ensures.finished c.in_ok-netlist.ensures.sound
