use Rattle.std.proofs.Common.{◌∙◌}
use Rattle.s2r_cif.proofs.Meets.{meet_as_shapes}
use Rattle.s2r_cif.proofs.making.real_shapes.Goals as goal

pub returns-clause-real : goal.returns-clause-real
returns-clause-real c =
    let are = c.new.ensures ∙ c.in_ok-boxes.ensures.value in
    record {
      boxes = are;
      cuts = c.new-2.ensures ∙ c.in_ok-cuts.ensures.value;
      meet = meet_as_shapes c.args.table.now c.args.shapes.now c.in_ok-keep_apart.ensures.apart _ are;
    }
