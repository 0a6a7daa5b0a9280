-- The breaches of a layout by any least width and gap, and why they aren't known.
use Rattle.std.specs.Prelude.{◌≡◌, ◌⊎◌, ◌↔◌, ℕ, pos, ◌+ℤ◌, ◌<ℤ◌, List, ◌++◌, map, None}
use Rattle.vlsi_base.specs.Member.{Picks, pairs}
use Rattle.sym_geom.specs.declared.grid.TheConstants.{LEAST_WIDTH, LEAST_GAP}
use Rattle.sym_geom.specs.Rect.{Meet, Near}
use Rattle.sym_geom.specs.declared.item.Item.{Item}
use Rattle.sym_shapes.specs.Shape.{Shape}
use Rattle.cell_model.specs.Library.{Library}
use Rattle.cell_model.specs.Layout.{instances_of, shapes}
use Rattle.net_meaning.specs.Breaches.{Breach, width, gap, IsExcused, Breaches}
use Rattle.cougar_extract.specs.Extracted.{AreKnown}
use Rattle.cougar_extract.specs.Refused.{IsFirstUnknown, IsTooLarge}
use Rattle.druc_rules.specs.declared.breach.Rules.{Rules}
use Rattle.druc_rules.specs.declared.breach.Breach.{Breach as Found}
use Rattle.druc_rules.specs.declared.breach.Breach.TheVariants as breach
use Rattle.druc_rules.specs.declared.error.DrucError.{DrucError}
use Rattle.druc_rules.specs.declared.error.DrucError.TheVariants as error

-- the breach that an item of the list is
abbrev pub breach_of : Found → Breach
breach_of (breach.Width metal rect) = width metal rect
breach_of (breach.Gap metal a b) = gap metal a b

-- a drawn rectangle narrower than the least width in x or y
pub record IsNarrowBy (least : ℕ) (s : Shape) : Type 0 where
  pub drawn : s.owner ≡ None
  pub narrow : (s.rect.x2 <ℤ (s.rect.x1 +ℤ pos least)) ⊎ (s.rect.y2 <ℤ (s.rect.y1 +ℤ pos least))

-- two shapes of one metal that don't touch, whose gap is less than the least, and which nothing excuses
pub record AreTooNearBy (least : ℕ) (all : List Shape) (a b : Shape) : Type 0 where
  pub metal : a.metal ≡ b.metal
  pub apart : Meet a.rect b.rect → ⊥
  pub near : Near least a.rect b.rect
  pub unexcused : IsExcused all a b → ⊥

-- The list of a layout's breaches by these rules: widths in the order of shapes, then gaps in the order of the first and then of
-- the second shape.
pub record BreachesBy (r : Rules) (items : List Item) (l : Library) (listed : List Breach) : Type 0 where
  pub narrow : List Shape
  pub near : List (Shape × Shape)
  pub widths : Picks (IsNarrowBy r.width) (shapes items l) narrow
  pub gaps : Picks (λ p. AreTooNearBy r.gap (shapes items l) p.0 p.1) (pairs (shapes items l)) near
  pub are : listed ≡ map (λ s. width s.metal s.rect) narrow ++ map (λ p. gap p.0.metal p.0.rect p.1.rect) near

-- by the standard rules the list is that of the rules of symbolic layouts
abbrev pub StandardIsMeant : Type 0
StandardIsMeant = (r : Rules) (items : List Item) (l : Library) (listed : List Breach)
    → r.width ≡ LEAST_WIDTH → r.gap ≡ LEAST_GAP → BreachesBy r items l listed ↔ Breaches items l listed

-- why the breaches aren't known, if memory hasn't run out
abbrev pub IsBrokenRefusal : List Item → Library → DrucError → Type 0
IsBrokenRefusal items l error.Memory = Unit {0}
IsBrokenRefusal items l (error.UnknownCell model) = IsFirstUnknown (instances_of items) l model
IsBrokenRefusal items l (error.Limit limit) = AreKnown (instances_of items) l × IsTooLarge items l limit

-- ---- stages

-- the drawn shapes that are too narrow
pub record AreWidths (least : ℕ) (all : List Shape) (found : List Found) : Type 0 where
  pub narrow : List Shape
  pub picked : Picks (IsNarrowBy least) all narrow
  pub are : found ≡ map (λ s. breach.Width s.metal s.rect) narrow

-- the pairs that are too near are put behind what was there
pub record AddsGaps (least : ℕ) (all : List Shape) (olds news : List Found) : Type 0 where
  pub near : List (Shape × Shape)
  pub picked : Picks (λ p. AreTooNearBy least all p.0 p.1) (pairs all) near
  pub are : news ≡ olds ++ map (λ p. breach.Gap p.0.metal p.0.rect p.1.rect) near
