-- What each stage of extraction is lent by those before it, of a figure whose lines and a library whose cells are read as slices.
use Rattle.std.proofs.Common.{◌≡◌, ℕ, ◌<◌, Bool, false, List, All, length, take, get_or, None, Some, sym, ap, subst, ◌∙◌}
use Rattle.vlsi_base.specs.declared.name.Port.{Port}
use Rattle.ap_io.specs.declared.figure.Figure.{Figure}
use Rattle.sym_geom.specs.declared.item.Item.{Item}
use Rattle.sym_shapes.specs.Shape.{Shape}
use Rattle.sym_shapes.specs.Joined.{AreJoined}
use Rattle.cell_model.specs.Cell.{Cell}
use Rattle.cell_model.specs.Connectors.{PinsAreConnectors}
use Rattle.cell_model.specs.Library.{Library}
use Rattle.cell_model.specs.Layout.{instances_of, shapes}
use Rattle.cell_checks.specs.Checked.{library_of, IsChecked as HasPassed}
use Rattle.net_core.specs.Places.{Stands}
use Rattle.net_core.specs.Netlist.{Netlist, port}
use Rattle.cougar_extract.specs.declared.links.Link.{Link}
use Rattle.cougar_extract.specs.declared.error.ExtractError.{ExtractError}
use Rattle.cougar_extract.specs.Extracted.{IsReadyFigure, AreKnown, IsExtracted}
use Rattle.cougar_extract.specs.Refused.{CanBeNumbered, NoShort, IsExtractRefusal}
use Rattle.cougar_extract.specs.Stages.{gives, IsPairFrom, AreTerminals, AreConnected, IsBuilt, IsShortRefusal}
use Rattle.cougar_extract.proofs.Steps.{read_stands}
use Rattle.cougar_extract.proofs.Wholes.{connected, as_many, terminals, apart, short_refused, whole, pair_joined, pair_low}

-- ---- the lines of the figure and the cells of the library

-- what is known of the slices is known of the figure and the library
pub of_both : (items own : List Item) (cells : List Cell) (l : Library) → items ≡ own → library_of cells ≡ l → (P : List Item → Library → Type 0) → P items (library_of cells) → P own l
of_both items own cells l lines same P h = subst (λ (x : Library). P own x) same (subst (λ (xs : List Item). P xs (library_of cells)) lines h)

-- ---- the stages

module _ (f : Figure) (l : Library) (items : List Item) (cells : List Cell) (lines : items ≡ f.items) (same : library_of cells ≡ l) where
  pub known_of : AreKnown (instances_of items) (library_of cells) → AreKnown (instances_of f.items) l
  known_of h = of_both items f.items cells l lines same (λ (xs : List Item) (x : Library). AreKnown (instances_of xs) x) h

  module _ (drawn : List Shape) (marks : List Bool) (shapes_are : drawn ≡ shapes items (library_of cells)) (marks_are : marks ≡ gives items (library_of cells)) where
    pub marks_many : length marks ≡ length drawn
    marks_many = ap (λ (bs : List Bool). length bs) marks_are ∙ as_many items (library_of cells) ∙ sym (ap (λ (ss : List Shape). length ss) shapes_are)

    pub shapes_of_figure : drawn ≡ shapes f.items l
    shapes_of_figure = of_both items f.items cells l lines same (λ (xs : List Item) (x : Library). drawn ≡ shapes xs x) shapes_are

    marks_of_figure : marks ≡ gives f.items l
    marks_of_figure = of_both items f.items cells l lines same (λ (xs : List Item) (x : Library). marks ≡ gives xs x) marks_are

    module _ (links : List Link) (is : AreConnected drawn marks links) (checked : HasPassed false l) where
      connected_layout : AreConnected (shapes f.items l) (gives f.items l) links
      connected_layout =
          subst (λ (bs : List Bool). AreConnected (shapes f.items l) bs links) marks_of_figure (subst (λ (ss : List Shape). AreConnected ss marks links) shapes_of_figure is)

      pins : All PinsAreConnectors l.cells
      pins = connected false l checked

      pub terminals_are : AreTerminals f.items (library_of cells) links
      terminals_are = subst (λ (x : Library). AreTerminals f.items x links) (sym same) (terminals f.items l links pins connected_layout)

      module _ (n : Netlist) (ready : IsReadyFigure f) (known : AreKnown (instances_of items) (library_of cells)) (built : IsBuilt f (library_of cells) links n) where
        pub is_extracted : IsExtracted f l n
        is_extracted = whole f l links n ready (known_of known) connected_layout (subst (λ (x : Library). IsBuilt f x links n) same built)

        pub none_shorted : IsPairFrom (take (length n.ports) n.classes) 0 None → NoShort f.items l
        none_shorted none = apart f l n pins is_extracted none

        -- the pair of ports that is refused
        module _ (i j : ℕ) (ports : List Port) (pair : IsPairFrom (take (length n.ports) n.classes) 0 (Some (i, j))) (ports_are : ports ≡ n.ports) where
          pub both_low : (i < length ports) × (j < length ports)
          both_low = subst (λ (ps : List Port). (i < length ps) × (j < length ps)) (sym ports_are) (pair_low n i j pair)

          at_first : (p : Port) → p ≡ get_or ports i p → Stands n.ports i p
          at_first p e = subst (λ (ps : List Port). Stands ps i p) ports_are (read_stands ports i p both_low.0 e)

          at_second : (q : Port) → q ≡ get_or ports j q → Stands n.ports j q
          at_second q e = subst (λ (ps : List Port). Stands ps j q) ports_are (read_stands ports j q both_low.1 e)

          pub ports_joined : (p q : Port) → p ≡ get_or ports i p → q ≡ get_or ports j q → AreJoined drawn (port p.name) (port q.name)
          ports_joined p q first second =
              subst (λ (ss : List Shape). AreJoined ss (port p.name) (port q.name)) (sym shapes_of_figure)
              (pair_joined f l n i j p q pins is_extracted pair (at_first p first) (at_second q second))

          pub pair_refused : (p q : Port) (e : ExtractError) → CanBeNumbered f.items l → p ≡ get_or ports i p → q ≡ get_or ports j q → IsShortRefusal drawn p.name q.name e
              → IsExtractRefusal f l e
          pair_refused p q e few first second h =
              short_refused f l n i j p q e pins is_extracted few pair (at_first p first) (at_second q second)
              (subst (λ (ss : List Shape). IsShortRefusal ss p.name q.name e) shapes_of_figure h)
