use Rattle.std.proofs.Common.{◌≡◌, ◌∙◌, List, All, ap, subst}
use Rattle.sym_geom.specs.declared.item.Item.{Item}
use Rattle.sym_shapes.specs.Shape.{Shape}
use Rattle.cell_model.specs.Library.{Library}
use Rattle.cell_model.specs.Layout.{shapes}
use Rattle.cell_model.specs.Usable.{IsFormed}
use Rattle.cell_checks.specs.Checked.{library_of}
use Rattle.cougar_extract.proofs.Wholes.{of_library}
use Rattle.druc_rules.specs.Breaches.{AreWidths, AddsGaps}
use Rattle.druc_rules.proofs.Drawn.{breaches_by}
use Rattle.druc_rules.proofs.breaking.broken.Goals as goal

pub layout_shapes-requires-clause-formed : goal.layout_shapes-requires-clause-formed
layout_shapes-requires-clause-formed c = of_library c.cells.result.now c.args.library.now c.cells.ensures.value (All IsFormed) c.cells.ensures.checked.formed

pub returns-clause-breaches : goal.returns-clause-breaches
returns-clause-breaches c =
    let all : List Shape = c.in_ok-shapes.shapes.items in
    let all_is : all ≡ shapes c.args.figure.now.items c.args.library.now =
    c.in_ok-shapes.ensures.shapes ∙ ap (λ (items : List Item). shapes items (library_of c.cells.result.now)) c.as_slice.ensures
    ∙ ap (λ (l : Library). shapes c.args.figure.now.items l) c.cells.ensures.value in
    let widths : AreWidths c.args.rules.now.width all c.in_ok-found.found.items =
    subst (λ (xs : List Shape). AreWidths c.args.rules.now.width xs c.in_ok-found.found.items) c.deref.ensures.value c.in_ok-found.ensures in
    let gaps : AddsGaps c.args.rules.now.gap all c.in_ok-found.found.items c.gaps.new.found.items =
    subst (λ (xs : List Shape). AddsGaps c.args.rules.now.gap xs c.in_ok-found.found.items c.gaps.new.found.items) c.deref-2.ensures.value c.in_ok-gaps.ensures in
    rw c.new.ensures
    (breaches_by c.args.rules.now c.args.figure.now.items c.args.library.now all c.in_ok-found.found.items c.gaps.new.found.items all_is widths gaps)
