use Rattle.std.proofs.Common.{◌≡◌, ◌∙◌, List, All, sym, subst, rules}
use Rattle.sym_geom.specs.Rect.{HasReach}
use Rattle.sym_shapes.specs.Shape.{Shape}
use Rattle.cell_model.specs.Layout.{shapes}
use Rattle.cell_checks.specs.Checked.{library_of}
use Rattle.s2r_cif.proofs.Reached.{shapes_reach}
use Rattle.s2r_cif.proofs.making.real_of.Goals as goal

pub real_shapes-requires-clause-reach : goal.real_shapes-requires-clause-reach
real_shapes-requires-clause-reach c =
    let are : c.deref.result.now ≡ shapes c.args.items.now (library_of c.args.cells.now) = c.deref.ensures.value ∙ c.in_ok-shapes.ensures.shapes in
    subst (λ (xs : List Shape). All (λ (s : Shape). HasReach s.rect) xs) (sym are)
    (shapes_reach c.args.items.now (library_of c.args.cells.now) c.requires.ready c.requires.formed c.requires.places)

pub returns-in_err-shapes-clause-refused : goal.returns-in_err-shapes-clause-refused
returns-in_err-shapes-clause-refused c = let refused = c.in_err-shapes.ensures.refused c.args.table.now in search rules
