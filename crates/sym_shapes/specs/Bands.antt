-- Bands of a metal: strips of rows or of columns, in which shapes that touch come together.
use Rattle.std.specs.Prelude.{◌≡◌, ℕ, ◌/◌, ◌^◌, ◌≤◌, min, ℤ, pos, ◌+ℤ◌, List, slice_index_or, false, if◌then◌else◌, Contains}
use Rattle.sym_geom.specs.declared.rect.Rect.{Rect}
use Rattle.sym_shapes.specs.Shape.{Shape}
use Rattle.sym_shapes.specs.declared.bands.Cut.{Cut}
use Rattle.sym_shapes.specs.declared.sweep.Entry.{Entry}

-- x and y are exchanged
abbrev pub flipped : Rect → Rect
flipped r = record { x1 = r.y1; y1 = r.x1; x2 = r.y2; y2 = r.x2 }

-- a rectangle, turned so that the bands of its metal are strips of rows
abbrev pub laid : Cut → Rect → Rect
laid cut r = if cut.upright then flipped r else r

-- the coordinate, counted from the lowest of 64 bits
abbrev pub IsLevel : ℤ → ℕ → Type 0
IsLevel y level = pos level ≡ y +ℤ pos (2 ^ 63)

-- the band of a level
abbrev pub band_of : Cut → ℕ → ℕ
band_of cut level = level / 2 ^ min cut.shift 63

-- an entry from the left to the right of a rectangle
abbrev pub entry_at : ℕ → Rect → ℕ → ℕ → Entry
entry_at metal r place band = record { metal = metal; band = band; left = r.x1; right = r.x2; place = place }

-- the entry of a shape in a band
abbrev pub entry_of : Cut → Shape → ℕ → ℕ → Entry
entry_of cut s place band = entry_at s.metal (laid cut s.rect) place band

-- the shape has an entry in the band of its low edge, and in each from there to that of its high edge
pub record IsEntered (cut : Cut) (s : Shape) (place : ℕ) (entries : List Entry) : Type 0 where
  pub low : ℕ
  pub high : ℕ
  pub low_is : IsLevel (laid cut s.rect).y1 low
  pub high_is : IsLevel (laid cut s.rect).y2 high
  pub first : Contains entries (entry_of cut s place (band_of cut low))
  pub each : (b : ℕ) → band_of cut low ≤ b → b ≤ band_of cut high → Contains entries (entry_of cut s place b)

-- the entries that were there stay, and all others are of one place
pub record AddsOf (olds news : List Entry) (place : ℕ) : Type 0 where
  pub kept : (e : Entry) → Contains olds e → Contains news e
  pub only : (e : Entry) → Contains news e → (e.place ≡ place → ⊥) → Contains olds e

-- in rows, each a band
abbrev pub uncut : Cut
uncut = record { upright = false; shift = 0 }

-- how the metal of a shape is cut
abbrev pub cut_for : List Cut → Shape → Cut
cut_for cuts s = slice_index_or cuts s.metal uncut

-- each shape of these places is entered, as its metal is cut
abbrev pub EntersAll : List Shape → List ℕ → List Cut → List Entry → Type 0
EntersAll shapes places cuts entries = (k : ℕ) (d : Shape) → Contains places k
    → IsEntered (cut_for cuts (slice_index_or shapes k d)) (slice_index_or shapes k d) k entries
