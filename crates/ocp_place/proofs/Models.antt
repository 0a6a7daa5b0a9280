-- The cells of a library that has passed its checks.
use Rattle.std.proofs.Common.{◌≡◌, inl, inr, ℕ, ◌*◌, List, Some, true, false, arith}
use Rattle.std.specs.Prelude.{pos, ◌≤ℤ◌}
use Rattle.std.proofs.lemmas.Int.{ints}
use Rattle.std.proofs.lemmas.Bool.{cases_lt}
use Rattle.sym_geom.specs.declared.grid.TheConstants.{PITCH}
use Rattle.cell_model.specs.Cell.{Cell, cell_width}
use Rattle.cell_model.specs.Library.{Library, cell_named}
use Rattle.cell_model.specs.Usable.{IsFormed, IsMappable}
use Rattle.cell_model.proofs.Members.{All-In}
use Rattle.cell_checks.specs.declared.verdict.Check.TheVariants as check
use Rattle.cell_checks.specs.declared.verdict.CellVerdict.TheVariants as verdict
use Rattle.cell_checks.specs.Checks.{StandsInRow}
use Rattle.cell_checks.specs.Checked.{IsChecked as HasPassed}
use Rattle.cell_checks.specs.Verdict.{IsVerdict}
use Rattle.cell_checks.proofs.Tracks.{passes_without_tracks}
use Rattle.net_right.proofs.Models.{named_cell}

-- without the check of columns
pub plain_library : (l : Library) → HasPassed true l → HasPassed false l
plain_library l h = record {
  formed = h.formed;
  passes = λ k d low. passes_without_tracks true _ (h.passes k d low);
  names = h.names;
  arcs = h.arcs;
}

module _ (l : Library) (model : List ℕ) (c : Cell) (passed : HasPassed false l) (found : cell_named l.cells model ≡ Some c) where
  verdict_of : IsVerdict false c verdict.Passes
  verdict_of = All-In (λ (x : Cell). IsVerdict false x verdict.Passes) l.cells passed.passes c (named_cell l.cells model c found).0

  pub formed_cell : IsFormed c
  formed_cell = All-In IsFormed l.cells passed.formed c (named_cell l.cells model c found).0

  pub cell_row : IsMappable c → StandsInRow c
  cell_row mappable = verdict_of.0 check.Box mappable

  -- at most 32 columns
  pub cell_narrow : IsMappable c → cell_width c ≤ℤ pos 16000
  cell_narrow mappable =
      let row = cell_row mappable in
      let ex = row.box.left in let er = row.box.right in
      let is : cell_width c ≡ pos (PITCH * row.columns) = omega (arith, ints) in
      elim (cases_lt 32 row.columns) [
        | inl wide ↦ absurd (verdict_of.1 row.columns (record { mappable = mappable; box = row.box; wide = wide }))
        | inr few ↦ omega (arith, ints)
      ]
