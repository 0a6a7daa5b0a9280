use Rattle.std.proofs.Common.{List, codes, ◌++◌, ap, ◌∙◌, rules}
use Rattle.sym_geom.specs.declared.item.Item.{Item}
use Rattle.real_table.specs.declared.table.Entry.{Entry}
use Rattle.s2r_cif.proofs.Lines.{file_is}
use Rattle.real_boxes.specs.File.{heading_text, layers_from, labels_of, process_text}
use Rattle.real_boxes.proofs.cif.write_process.Goals as goal

pub returns : goal.returns
unfolding process_text
returns c =
    let t = c.args.table.now in
    let f = c.args.figure.now in
    file_is (heading_text t.head.unit f.name) (layers_from 0 t.entries c.args.boxes.now) (labels_of t.head.scale t.entries f.items) (codes "DF;\nC 1;\nE\n")
    c.heading.new.out c.layers.new.out c.labels.new.out c.append.new.self (search rules)
    (c.in_ok-layers.ensures ∙ ap (λ (es : List Entry). c.heading.new.out ++ layers_from 0 es c.args.boxes.now) c.as_slice.ensures)
    (c.in_ok-labels.ensures ∙ ap (λ (es : List Entry). c.layers.new.out ++ labels_of t.head.scale es c.as_slice-3.result.now) c.as_slice-2.ensures
    ∙ ap (λ (items : List Item). c.layers.new.out ++ labels_of t.head.scale t.entries items) c.as_slice-3.ensures)
    c.in_ok-append.ensures.ok
