-- Where the counts of slices are below 2^32, so are the shapes and terminals of the figure and the library that they are read from.
use Rattle.std.proofs.Common.{◌≡◌, ◌↔◌, ℕ, ◌+◌, ◌-◌, ◌<◌, ◌^◌, min, List, length, ap, arith}
use Rattle.vlsi_base.specs.declared.name.Name.{Name}
use Rattle.vlsi_base.specs.Member.{In, AllDifferent}
use Rattle.ap_io.specs.declared.figure.Figure.{Figure}
use Rattle.sym_geom.specs.declared.item.Item.{Item}
use Rattle.sym_shapes.specs.Shape.{Shape, connector_names}
use Rattle.cell_model.specs.Cell.{Cell}
use Rattle.cell_model.specs.Library.{Library}
use Rattle.cell_model.specs.Layout.{shapes}
use Rattle.cell_checks.specs.Checked.{library_of}
use Rattle.cougar_extract.specs.Refused.{pin_count, CanBeNumbered}
use Rattle.cougar_extract.proofs.ShortWhole.{of_both}

pub numbered : (f : Figure) (l : Library) (items : List Item) (cells : List Cell) → items ≡ f.items → library_of cells ≡ l → (drawn : List Shape)
    → drawn ≡ shapes items (library_of cells) → length drawn < 2 ^ 32 → (names : List Name) → AllDifferent names → ((n : Name) → In n names ↔ In n (connector_names items))
    → (ports count : ℕ) → ports ≡ length names → count ≡ min (ports + pin_count items (library_of cells)) (2 ^ 64 - 1) → count < 2 ^ 32 → CanBeNumbered f.items l
numbered f l items cells lines same drawn shapes_are few names different named ports count ports_are counted low =
    let own = library_of cells in
    let drawn_are = ap (λ (ss : List Shape). length ss) shapes_are in
    of_both items f.items cells l lines same CanBeNumbered (
      omega (arith, few, drawn_are),
      record {
        count = length names + pin_count items own;
        terminals = record { names = names; different = different; same = named; count_is = λ i. length names + pin_count items own };
        few = omega (arith, low, counted, ports_are);
      },
    )
