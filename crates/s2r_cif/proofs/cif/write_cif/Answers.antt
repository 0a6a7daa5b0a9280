use Rattle.std.proofs.Common.{List, codes, ◌++◌, ap, ◌∙◌}
use Rattle.s2r_cif.specs.declared.layout.RealBox.{RealBox}
use Rattle.s2r_cif.specs.Cif.{levels, layers_text, cif_text}
use Rattle.s2r_cif.proofs.Lines.{file_is}
use Rattle.s2r_cif.proofs.cif.write_cif.Goals as goal

pub returns : goal.returns
unfolding cif_text
returns c =
    let layout = c.args.layout.now in
    file_is (codes "DS 1 1 2;\n") (layers_text 77 levels layout.boxes) (layers_text 86 levels layout.cuts) (codes "DF;\nC 1;\nE\n")
    c.in_ok-out.out c.layers.new.out c.layers-2.new.out c.append.new.self c.in_ok-out.ensures
    (c.in_ok-layers.ensures ∙ ap (λ (bs : List RealBox). c.in_ok-out.out ++ layers_text 77 levels bs) c.as_slice.ensures)
    (c.in_ok-layers-2.ensures ∙ ap (λ (bs : List RealBox). c.layers.new.out ++ layers_text 86 levels bs) c.as_slice-2.ensures)
    c.in_ok-append.ensures.ok
