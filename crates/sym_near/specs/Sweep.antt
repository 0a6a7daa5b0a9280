-- Entries of shapes in bands, and the pairs that a sweep along the bands looks at.
use Rattle.std.specs.Prelude.{◌≡◌, ◌⊎◌, ℕ, ◌+◌, ◌/◌, ◌^◌, ◌<◌, ◌≤◌, min, ℤ, pos, ◌+ℤ◌, ◌≤ℤ◌, ◌<ℤ◌, List, length, slice_index_or, false, not, Bool, Option, None, Some, if◌then◌else◌, All, Contains}
use Rattle.sym_geom.specs.declared.rect.Rect.{Rect}
use Rattle.sym_geom.specs.Rect.{IsRect}
use Rattle.sym_shapes.specs.Shape.{Shape}
use Rattle.sym_shapes.specs.Bands.{flipped}
use Rattle.sym_near.specs.declared.bands.Cut.{Cut}
use Rattle.sym_near.specs.declared.sweep.Entry.{Entry}
use Rattle.sym_near.specs.declared.near.Relation.{Relation}
use Rattle.sym_near.specs.declared.near.Relation.TheVariants as relation
use Rattle.sym_near.specs.declared.near.Pair.{Pair}
use Rattle.sym_near.specs.Related.{Relates, Has, shape_at}

-- Numbers of 64 bits for an interval, in either order of its ends, that a gap widens: `low` is the least end, counted from the lowest
-- coordinate, and `high` at least all that is within the gap of one, and at most the greatest end with the gap.
pub record IsReach (gap : ℕ) (a b : ℤ) (low high : ℕ) : Type 0 where
  pub fits : low < 2 ^ 64
  pub from_a : pos low ≤ℤ (a +ℤ pos (2 ^ 63))
  pub from_b : pos low ≤ℤ (b +ℤ pos (2 ^ 63))
  pub least : ((a +ℤ pos (2 ^ 63)) ≤ℤ pos low) ⊎ ((b +ℤ pos (2 ^ 63)) ≤ℤ pos low)
  pub most : (pos high ≤ℤ (a +ℤ pos (2 ^ 63 + gap))) ⊎ (pos high ≤ℤ (b +ℤ pos (2 ^ 63 + gap)))
  pub to_a : (k : ℕ) → k < 2 ^ 64 → pos k ≤ℤ (a +ℤ pos (2 ^ 63 + gap)) → k ≤ high
  pub to_b : (k : ℕ) → k < 2 ^ 64 → pos k ≤ℤ (b +ℤ pos (2 ^ 63 + gap)) → k ≤ high

-- a rectangle, turned so that bands are strips of rows
abbrev pub laid : Bool → Rect → Rect
laid upright r = if upright then flipped r else r

abbrev pub entry : ℕ → ℕ → ℕ → ℕ → ℕ → Entry
entry metal band left right place = record { metal = metal; band = band; left = left; right = right; place = place }

-- whether the bands of a metal run upright, and how high they are: those along its shapes, or where they are turned those across
abbrev pub side : Bool → Cut → Bool
side turned cut = if turned then not cut.upright else cut.upright

abbrev pub shift_of : Bool → Cut → ℕ
shift_of turned cut = if turned then min cut.turned_shift 63 else min cut.shift 63

-- the shape has an entry in the band of its low edge, and in each from there to that of its high edge, which the gap widens
pub record IsEntered (turned : Bool) (cut : Cut) (gap : ℕ) (s : Shape) (place : ℕ) (entries : List Entry) : Type 0 where
  pub left : ℕ
  pub right : ℕ
  pub low : ℕ
  pub high : ℕ
  pub across : IsReach gap (laid (side turned cut) s.rect).x1 (laid (side turned cut) s.rect).x2 left right
  pub along : IsReach gap (laid (side turned cut) s.rect).y1 (laid (side turned cut) s.rect).y2 low high
  pub first : Contains entries (entry s.metal (low / 2 ^ shift_of turned cut) left right place)
  pub each : (b : ℕ) → low / 2 ^ shift_of turned cut ≤ b → b ≤ high / 2 ^ shift_of turned cut
      → Contains entries (entry s.metal b left right place)

-- the entries that were there stay, and all others are of one place
pub record AddsOf (olds news : List Entry) (place : ℕ) : Type 0 where
  pub kept : (e : Entry) → Contains olds e → Contains news e
  pub only : (e : Entry) → Contains news e → (e.place ≡ place → ⊥) → Contains olds e

-- in rows, each a band
abbrev pub uncut : Cut
uncut = record { upright = false; shift = 0; turned_shift = 0 }

-- how the metal of a shape is cut
abbrev pub cut_for : List Cut → Shape → Cut
cut_for cuts s = slice_index_or cuts s.metal uncut

-- each shape is entered, as its metal is cut
abbrev pub EntersAll : Bool → List Shape → List Cut → ℕ → List Entry → Type 0
EntersAll turned all cuts gap entries = (k : ℕ) (d : Shape) → k < length all
    → IsEntered turned (cut_for cuts (slice_index_or all k d)) gap (slice_index_or all k d) k entries

-- each entry is of a shape
abbrev pub PlacesWithin : List Shape → List Entry → Type 0
PlacesWithin all entries = All (λ e. e.place < length all) entries

-- in the band of the first, and not right of it
pub record InBand (first e : Entry) : Type 0 where
  pub metal : e.metal ≡ first.metal
  pub band : e.band ≡ first.band
  pub left : e.left ≤ first.right

-- an entry is not behind another: by metal, then by band, then by left end
pub data Precedes (a b : Entry) : Type 0 where
  by_metal : a.metal < b.metal → Precedes a b
  by_band : a.metal ≡ b.metal → a.band < b.band → Precedes a b
  by_left : a.metal ≡ b.metal → a.band ≡ b.band → a.left ≤ b.left → Precedes a b

-- the entry at a place
abbrev pub entry_from : List Entry → ℕ → Entry
entry_from entries p = slice_index_or entries p (entry 0 0 0 0 0)

-- each is behind those before it
abbrev pub Ordered : List Entry → Type 0
Ordered entries = (p q : ℕ) → p < q → q < length entries → Precedes (entry_from entries p) (entry_from entries q)

-- the entries behind p up to q are in its run
abbrev pub InRun : List Entry → ℕ → ℕ → Type 0
InRun entries p q = (k : ℕ) → p < k → k ≤ q → InBand (entry_from entries p) (entry_from entries k)

-- Whether a sweep looks at an entry and at one behind it: at all, or where a gap is given only where the second begins behind the end
-- of the first.
abbrev pub LooksAt : Option ℕ → Entry → Entry → Type 0
LooksAt None first e = Unit {0}
LooksAt (Some gap) first e = first.right < e.left + gap

-- it looks at none of the entries between p and n
abbrev pub Skips : Option ℕ → List Entry → ℕ → ℕ → Type 0
Skips beside entries p n = (q : ℕ) → p < q → q < n → LooksAt beside (entry_from entries p) (entry_from entries q) → ⊥

-- of the shape of the entry p and those that are looked at of the entries behind it below n, all that are so related are there
abbrev pub SeesRun : List Shape → Relation → Option ℕ → List Entry → List Pair → ℕ → ℕ → Type 0
SeesRun all r beside entries ps p n =
    (q : ℕ) → p < q → q < n → LooksAt beside (entry_from entries p) (entry_from entries q)
    → Has all r ps (entry_from entries p).place (entry_from entries q).place

-- and of those of its whole run
abbrev pub SeesFrom : List Shape → Relation → Option ℕ → List Entry → List Pair → ℕ → Type 0
SeesFrom all r beside entries ps p =
    (q : ℕ) → p < q → q < length entries → InRun entries p q → LooksAt beside (entry_from entries p) (entry_from entries q)
    → Has all r ps (entry_from entries p).place (entry_from entries q).place

-- so from each entry below m
abbrev pub SeesRuns : List Shape → Relation → Option ℕ → List Entry → List Pair → ℕ → Type 0
SeesRuns all r beside entries ps m = (p : ℕ) → p < m → SeesFrom all r beside entries ps p

-- a sweep looks at two entries, in the order of their left ends
abbrev pub IsSeen : Option ℕ → Entry → Entry → Type 0
IsSeen None a b = Unit {0}
IsSeen (Some gap) a b = ((a.left < b.left) × (a.right < b.left + gap)) ⊎ ((b.left < a.left) × (b.right < a.left + gap))

-- two shapes share a band: their entries there, neither of them right of the other, at which a sweep looks
pub record Share (beside : Option ℕ) (entries : List Entry) (i j : ℕ) : Type 0 where
  pub one : Entry
  pub other : Entry
  pub one_there : Contains entries one
  pub other_there : Contains entries other
  pub one_is : one.place ≡ i
  pub other_is : other.place ≡ j
  pub one_in : InBand one other
  pub other_in : InBand other one
  pub seen : IsSeen beside one other

-- each two that are so related share a band
abbrev pub SharesAll : List Shape → Relation → List Entry → Type 0
SharesAll all r entries = (i j : ℕ) → Relates all r i j → Share None entries i j

-- each two that are so related share a band in one of two lists
abbrev pub SharesEither : List Shape → Relation → Option ℕ → List Entry → List Entry → Type 0
SharesEither all r beside entries turned = (i j : ℕ) → Relates all r i j → Share beside entries i j ⊎ Share beside turned i j

-- one rectangle ends left of where the other begins
abbrev pub AreBeside : Rect → Rect → Type 0
AreBeside a b = (a.x2 <ℤ b.x1) ⊎ (b.x2 <ℤ a.x1)

-- near shapes whose edges are in order share a band where they stand beside one another across it
abbrev pub SharesBeside : Bool → List Shape → List Cut → ℕ → List Entry → Type 0
SharesBeside turned all cuts gap entries =
    (i j : ℕ) → Relates all (relation.Near gap) i j → IsRect (shape_at all i).rect → IsRect (shape_at all j).rect
    → AreBeside (laid (side turned (cut_for cuts (shape_at all i))) (shape_at all i).rect)
    (laid (side turned (cut_for cuts (shape_at all i))) (shape_at all j).rect)
    → Share (Some gap) entries i j

-- the edges of all rectangles are in order
abbrev pub AreRects : List Shape → Type 0
AreRects all = All (λ s. IsRect s.rect) all

-- the entries of shapes, in order, for a sweep that looks for near shapes and for those that lie within others
pub record AreSwept (turned : Bool) (all : List Shape) (cuts : List Cut) (gap : ℕ) (entries : List Entry) : Type 0 where
  pub places : PlacesWithin all entries
  pub ordered : Ordered entries
  pub near_share : SharesAll all (relation.Near gap) entries
  pub within_share : SharesAll all relation.Held entries
  pub beside_share : SharesBeside turned all cuts gap entries
