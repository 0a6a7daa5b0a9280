-- Netlists of usable cells fit the table of their pins.
use Rattle.std.proofs.Common.{◌≡◌, ◌≢◌, ℕ, suc, false, List, [], ◌∷◌, map, Some, sym, ap, ◌∙◌, subst, arith}
use Rattle.std.specs.Prelude.{AllPairs}
use Rattle.vlsi_base.specs.Member.{In}
use Rattle.machine_core.specs.Machine.{names_of}
use Rattle.cell_model.specs.Cell.{Cell}
use Rattle.cell_model.specs.Library.{Library, cell_of, IsUsable}
use Rattle.cell_model.proofs.Members.{place-In, All-In, All-from}
use Rattle.cell_checks.specs.Checked.{IsChecked as HasPassed}
use Rattle.cell_pins.specs.Pins.{all_ports}
use Rattle.cell_pins.specs.Table.{IsTableOf}
use Rattle.net_core.specs.declared.pins.ModelPins.{ModelPins}
use Rattle.net_core.specs.Places.{IsThere}
use Rattle.net_core.specs.Netlist.{Instance, Netlist}
use Rattle.net_core.specs.Checks.{Fits, Passes, IsPinTable, pins_named}
use Rattle.delay_sta.specs.Timed.{CanBeTimed}
use Rattle.loon_drive.proofs.Lists.{stands_in, in_stands}
use Rattle.loon_drive.proofs.Cells.{AreApart, Row, row_of, is_listed}

apart_of : (cells : List Cell) → AllPairs (λ (a b : Cell). a.name ≢ b.name) cells → AreApart cells
apart_of [] h = tt
apart_of (c ∷ cells) h = (
  λ d i. let r = place-In d cells i in subst (λ (x : Cell). c.name ≢ x.name) (r.2 c) (h 0 (suc r.0) c (omega arith) (omega (arith, r.1))),
  apart_of cells (λ i j d low high. h (suc i) (suc j) d (omega (arith, low)) (omega (arith, high))),
)

module _ (l : Library) (table : List ModelPins) (of : IsTableOf l false table) (passed : HasPassed false l) where
  row : (model : List ℕ) → IsThere (map (λ m. m.model) table) model → Row l.cells table model
  row model t = row_of l.cells table model of (apart_of l.cells passed.names) t

  -- each instance has a usable cell and its pins
  pub found : (n : Netlist) → Fits n table → (i : Instance) → IsThere n.instances i
      → (c : Cell) × (cell_of l i.model ≡ Some c) × IsUsable c × (i.pins ≡ names_of (all_ports c))
  found n fits i t =
      let at = stands_in n.instances t.0 i t.1 in
      let r = row i.model (All-In (λ (x : Instance). IsThere (map (λ m. m.model) table) x.model) n.instances fits.listed i at) in
      (r.cell, r.found, r.usable, All-In (λ (x : Instance). x.pins ≡ map (λ p. p.name) (pins_named table x.model)) n.instances fits.pins i at ∙ r.pins)

  pub timed : (n : Netlist) → Fits n table → Passes table n → CanBeTimed l n
  timed n fits passes = record {
    all = false;
    table = table;
    listed = of;
    fits = fits;
    passes = passes;
    usable = λ i t. let f = found n fits i t in (f.0, f.1, f.2);
  }

  -- and a netlist of usable cells fits the table
  pub fits_again : (k : Netlist) → IsPinTable table → ((i : Instance) → IsThere k.instances i → (c : Cell) × (cell_of l i.model ≡ Some c) × IsUsable c × (i.pins ≡ names_of (all_ports c)))
      → Fits k table
  fits_again k is_table cells = record {
    table_is = is_table;
    listed = All-from (λ (i : Instance). IsThere (map (λ m. m.model) table) i.model) k.instances (λ i at. there_is i at);
    pins = All-from (λ (i : Instance). i.pins ≡ map (λ p. p.name) (pins_named table i.model)) k.instances (λ i at.
        let f = cells i (in_stands i k.instances at) in
        let r = row i.model (there_is i at) in
        let same : f.0 ≡ r.cell = some_same f.0 r.cell (sym f.1 ∙ r.found) in
        f.3 ∙ ap (λ (c : Cell). names_of (all_ports c)) same ∙ sym r.pins);
  } where
    some_same : (a b : Cell) → Some a ≡ Some b → a ≡ b
    some_same a b e = cc e

    there_is : (i : Instance) → In i k.instances → IsThere (map (λ m. m.model) table) i.model
    there_is i at = let f = cells i (in_stands i k.instances at) in is_listed l.cells table i.model f.0 of f.1 f.2
