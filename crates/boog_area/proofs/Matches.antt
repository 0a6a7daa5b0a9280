-- Matches by the cells of a library are those by their words.
use Rattle.std.proofs.Common.{◌≡◌, ℕ, List, map, length, slice_index, sym, ap, subst, ◌∙◌, arith}
use Rattle.std.proofs.lemmas.List.{length-map}
use Rattle.bool_expr.specs.Expression.{Expression, val}
use Rattle.graph_theory.specs.Graph.{Graph}
use Rattle.cell_model.specs.Cell.{gate, Cell, cell_inputs}
use Rattle.cell_model.specs.Library.{Library}
use Rattle.cell_checks.specs.Checks.{HasColumns}
use Rattle.gate_cells.specs.declared.listed.GateCells.{GateCells}
use Rattle.gate_cells.specs.Listed.{AreGateCells}
use Rattle.boog_tree.specs.Bounds.{IsMatch, IsCoverOf, taken, AreBounds}
use Rattle.boog_area.specs.Covers.{IsCellMatch, IsCellCover, AreCellBounds}
use Rattle.boog_area.specs.Covers.{taken as taken_cell}
use Rattle.boog_area.proofs.Listing.{got_in}
use Rattle.boog_area.proofs.Standing.{one_expr, one_width, Standing, standing, inputs_are, value_is, number_of}

module _ (l : Library) (c : GateCells) (are : AreGateCells l c) (held : ℕ) (g : Graph) where
  pub as_cells : (x k : ℕ) (order : List ℕ) → IsMatch c.words.items held g x k order
      → (s : Standing l c are k) × IsCellMatch l held g x s.cell (slice_index c.areas.items k) order
  as_cells x k order m =
      let s = standing l c are k m.there in
      let inputs = inputs_are l c are k s in (
        s,
        record {
          members = m.members;
          value = m.value;
          cut = m.cut;
          listed = got_in l.cells s.place s.cell s.at;
          usable = s.is.usable;
          expr = s.is.expr;
          is_gate = s.is.is_gate;
          wide = s.is.columns;
          many = m.many ∙ inputs;
          once = m.once;
          each = m.each;
          computes = λ f. sym (value_is l c are k s (map f order) (length-map order f ∙ m.many ∙ inputs)) ∙ m.computes f;
        },
      )

  pub as_words : (x : ℕ) (cell : Cell) (columns : ℕ) (order : List ℕ) → IsCellMatch l held g x cell columns order
      → (k : ℕ) × IsMatch c.words.items held g x k order × (slice_index c.areas.items k ≡ columns)
  as_words x cell columns order m =
      let r = number_of l c are cell m.expr m.listed m.usable m.is_gate in
      let s = r.2 in
      let inputs : length (cell_inputs s.cell) ≡ length (cell_inputs cell) = ap (λ (a : Cell). length (cell_inputs a)) r.3 in
      let expr : s.is.expr ≡ m.expr = one_expr cell s.is.expr m.expr (subst (λ (a : Cell). a.function ≡ gate s.is.expr) r.3 s.is.is_gate) m.is_gate in
      let wide : HasColumns cell (slice_index c.areas.items r.0) = subst (λ (a : Cell). HasColumns a (slice_index c.areas.items r.0)) r.3 s.is.columns in (
        r.0,
        record {
          members = m.members;
          value = m.value;
          cut = m.cut;
          there = r.1;
          many = m.many ∙ sym inputs ∙ sym (inputs_are l c are r.0 s);
          once = m.once;
          each = m.each;
          computes = λ f.
              value_is l c are r.0 s (map f order) (length-map order f ∙ m.many ∙ sym inputs)
              ∙ ap (λ (e : Expression). val e (map f order)) expr ∙ m.computes f;
        },
        one_width cell (slice_index c.areas.items r.0) columns wide m.wide,
      )

  pub bounds_as_cells : (bounds : List ℕ) → AreBounds c.words.items c.areas.items held g bounds → AreCellBounds l held g bounds
  bounds_as_cells bounds b = record {
    many = b.many;
    outside = b.outside;
    least = λ x cell columns order m.
        let r = as_words x cell columns order m in
        let e = b.least x r.0 order r.1 in
        let f = r.2 in
        omega (arith, e, f);
  }

  pub bounds_as_words : (bounds : List ℕ) → AreCellBounds l held g bounds → AreBounds c.words.items c.areas.items held g bounds
  bounds_as_words bounds b = record {
    many = b.many;
    outside = b.outside;
    least = λ x k order m. let r = as_cells x k order m in b.least x (r.0).cell (slice_index c.areas.items k) order r.1;
  }

  pub cover_as_cells : (x area : ℕ) → IsCoverOf c.words.items c.areas.items held g x area → IsCellCover l held g x area
  cover_as_cells x area (taken _ k order parts m covers) =
      let r = as_cells x k order m in
      taken_cell x (r.0).cell (slice_index c.areas.items k) order parts r.1 (λ y some inner. cover_as_cells y (parts y) (covers y some inner))
