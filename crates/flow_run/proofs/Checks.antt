-- Checks of cells with the same pins and layout.
use Rattle.std.proofs.Common.{◌≡◌, ℕ, Bool, List, inl, inr, sym, ap, ◌∙◌, subst}
use Rattle.std.specs.Prelude.{◌⊎◌}
use Rattle.vlsi_base.specs.declared.name.Name.{Name}
use Rattle.sym_geom.specs.declared.rect.Rect.{Rect}
use Rattle.sym_geom.specs.declared.item.Item.{Item}
use Rattle.sym_geom.specs.Rect.{Apart}
use Rattle.sym_geom.specs.declared.grid.TheConstants.{LEAST_GAP}
use Rattle.cell_model.specs.declared.cell.Pin.{Pin}
use Rattle.cell_model.specs.declared.cell.Arc.{Arc}
use Rattle.cell_model.specs.Function.{Function, gate, flip_flop, other, opaque}
use Rattle.cell_model.specs.Cell.{Cell}
use Rattle.cell_model.specs.Library.{IsPlain}
use Rattle.cell_model.specs.Usable.{IsPlainForm, IsMappable}
use Rattle.cell_checks.specs.Checks.{HasColumns, HasRail, HasRails, IsReached, PinsAreApart, KeepsToItsBox, IsTied, KeepsFromRail, KeepsFromRails, ColumnsDiffer, vss_strip, vdd_strip}
use Rattle.vlsi_base.specs.Names.{vdd, vss}
use Rattle.cell_checks.specs.declared.verdict.Check.{Check}
use Rattle.cell_checks.specs.declared.verdict.Check.TheVariants as check
use Rattle.cell_checks.specs.Verdict.{PassesCheck, IsTooWide}

-- the cell under another name, with another function and other arcs
abbrev as_cell : List ℕ → Rect → List Item → List Pin → Function → List Arc → Cell
as_cell name bounds items pins function arcs = record { name = name; bounds = bounds; items = items; pins = pins; function = function; arcs = arcs }

abbrev told : Cell → List ℕ → Function → List Arc → Cell
told c name f arcs = as_cell name c.bounds c.items c.pins f arcs

-- ---- layouts

columns : (c : Cell) (name : List ℕ) (f : Function) (arcs : List Arc) (n : ℕ) → HasColumns c n → HasColumns (told c name f arcs) n
columns c name f arcs n h = record { wide = h.wide; left = h.left; low = h.low; right = h.right; high = h.high }

rail_of : (c : Cell) (name : List ℕ) (f : Function) (arcs : List Arc) (supply : Name) (from to : ℕ) → HasRail c supply from to → HasRail (told c name f arcs) supply from to
rail_of c name f arcs supply from to h = record { pin = h.pin; listed = h.listed; named = h.named; metal = h.metal; holds = h.holds }

rails : (c : Cell) (name : List ℕ) (f : Function) (arcs : List Arc) → HasRails c → HasRails (told c name f arcs)
rails c name f arcs h = record { low = rail_of c name f arcs vss _ _ h.low; high = rail_of c name f arcs vdd _ _ h.high }

reached : (c : Cell) (name : List ℕ) (f : Function) (arcs : List Arc) → IsReached c → IsReached (told c name f arcs)
reached c name f arcs h = record { each = λ pin i. let r = h.each pin i in record { column = r.column; row = r.row; node = r.node } }

apart : (c : Cell) (name : List ℕ) (f : Function) (arcs : List Arc) → PinsAreApart c → PinsAreApart (told c name f arcs)
apart c name f arcs h = record { same = h.same }

inside : (c : Cell) (name : List ℕ) (f : Function) (arcs : List Arc) → KeepsToItsBox c → KeepsToItsBox (told c name f arcs)
inside c name f arcs h = record { each = h.each }

keeps_from : (c : Cell) (name : List ℕ) (f : Function) (arcs : List Arc) (supply : Name) (r : Rect) → KeepsFromRail c supply r → KeepsFromRail (told c name f arcs) supply r
keeps_from c name f arcs supply r h s i metal = by (h s i metal) where
  by : IsTied c s supply ⊎ Apart LEAST_GAP s.rect r → IsTied (told c name f arcs) s supply ⊎ Apart LEAST_GAP s.rect r
  by (inl t) = inl (record { pin = t.pin; named = t.named; joined = t.joined })
  by (inr a) = inr a

gaps : (c : Cell) (name : List ℕ) (f : Function) (arcs : List Arc) → KeepsFromRails c → KeepsFromRails (told c name f arcs)
gaps c name f arcs h = record { low = keeps_from c name f arcs vss (vss_strip c) h.low; high = keeps_from c name f arcs vdd (vdd_strip c) h.high }

differ : (c : Cell) (name : List ℕ) (f : Function) (arcs : List Arc) → ColumnsDiffer c → ColumnsDiffer (told c name f arcs)
differ c name f arcs h = record { same = h.same }

-- ---- checks

mappable : (c : Cell) (name : List ℕ) (f : Function) (arcs : List Arc) → (IsPlainForm f → IsPlainForm c.function) → IsMappable (told c name f arcs) → IsMappable c
mappable c name f arcs form m = record { form = form m.form; scalars = m.scalars; metal = m.metal; blockage = m.blockage }

mappable_again : (c : Cell) (name : List ℕ) (f : Function) (arcs : List Arc) → (IsPlainForm c.function → IsPlainForm f) → IsMappable c → IsMappable (told c name f arcs)
mappable_again c name f arcs form m = record { form = form m.form; scalars = m.scalars; metal = m.metal; blockage = m.blockage }

passes_told : (tracks : Bool) (c : Cell) (name : List ℕ) (f : Function) (arcs : List Arc) → (IsPlainForm f → IsPlainForm c.function)
    → (k : Check) → PassesCheck tracks c k → PassesCheck tracks (told c name f arcs) k
passes_told tracks c name f arcs form check.Connectors h = h
passes_told tracks c name f arcs form check.Box h =
    λ m. let r = h (mappable c name f arcs form m) in record { columns = r.columns; box = columns c name f arcs r.columns r.box }
passes_told tracks c name f arcs form check.Rails h = λ m. rails c name f arcs (h (mappable c name f arcs form m))
passes_told tracks c name f arcs form check.Access h = λ m. reached c name f arcs (h (mappable c name f arcs form m))
passes_told tracks c name f arcs form check.PinsApart h = λ m. apart c name f arcs (h (mappable c name f arcs form m))
passes_told tracks c name f arcs form check.WithinBox h = λ m. inside c name f arcs (h (mappable c name f arcs form m))
passes_told tracks c name f arcs form check.RailGaps h = λ m. gaps c name f arcs (h (mappable c name f arcs form m))
passes_told tracks c name f arcs form check.Columns h = λ m is. differ c name f arcs (h (mappable c name f arcs form m) is)

-- ---- two cells

-- the two have the same pins and layout, and as one has a plain form the other has
pub record LookAlike (c d : Cell) : Type 0 where
  pub pins : c.pins ≡ d.pins
  pub bounds : c.bounds ≡ d.bounds
  pub items : c.items ≡ d.items
  pub there : IsPlainForm c.function → IsPlainForm d.function
  pub back : IsPlainForm d.function → IsPlainForm c.function

pub alike_other_way : (c d : Cell) → LookAlike c d → LookAlike d c
alike_other_way c d a = record { pins = sym a.pins; bounds = sym a.bounds; items = sym a.items; there = a.back; back = a.there }

is_told : (c d : Cell) → LookAlike c d → told c d.name d.function d.arcs ≡ d
is_told c d a =
    ap (λ (r : Rect). as_cell d.name r c.items c.pins d.function d.arcs) a.bounds
    ∙ ap (λ (l : List Item). as_cell d.name d.bounds l c.pins d.function d.arcs) a.items
    ∙ ap (λ (ps : List Pin). as_cell d.name d.bounds d.items ps d.function d.arcs) a.pins

pub mappable_moves : (c d : Cell) → LookAlike c d → IsMappable c → IsMappable d
mappable_moves c d a m = subst (λ (x : Cell). IsMappable x) (is_told c d a) (mappable_again c d.name d.function d.arcs a.there m)

pub check_moves : (tracks : Bool) (c d : Cell) → LookAlike c d → (k : Check) → PassesCheck tracks c k → PassesCheck tracks d k
check_moves tracks c d a k h =
    subst (λ (x : Cell). PassesCheck tracks x k) (is_told c d a) (passes_told tracks c d.name d.function d.arcs a.back k h)

pub wide_moves : (c d : Cell) (n : ℕ) → LookAlike c d → IsTooWide c n → IsTooWide d n
wide_moves c d n a h = record {
  mappable = mappable_moves c d a h.mappable;
  box = subst (λ (x : Cell). HasColumns x n) (is_told c d a) (columns c d.name d.function d.arcs n h.box);
  wide = h.wide;
}

plain_told : (c : Cell) (name : List ℕ) (g : Function) (arcs : List Arc) (f : Function) → IsPlain c f → IsPlain (told c name g arcs) f
plain_told c name g arcs (gate e) h = h
plain_told c name g arcs (flip_flop a b) h = h
plain_told c name g arcs (other m) h = h
plain_told c name g arcs opaque h = h

-- a function that is plain in the one is in the other
pub is_plain_in : (c d : Cell) → LookAlike c d → (f : Function) → IsPlain c f → IsPlain d f
is_plain_in c d a f h = subst (λ (x : Cell). IsPlain x f) (is_told c d a) (plain_told c d.name d.function d.arcs f h)
