-- A usable cell that has passed its checks may have tracks over it.
use Rattle.std.proofs.Common.{◌≡◌, ◌⊎◌, inl, inr, ℕ, ◌+◌, ◌-◌, ◌*◌, ◌≤◌, List, false, ap, subst, ◌∙◌, arith, ⊎_elim}
use Rattle.std.specs.Prelude.{ℤ, pos, ◌≤ℤ◌}
use Rattle.std.proofs.lemmas.Int.{ints}
use Rattle.vlsi_base.specs.declared.name.Name.{Name}
use Rattle.vlsi_base.specs.Names.{vdd, vss}
use Rattle.vlsi_base.specs.Member.{In}
use Rattle.sym_geom.specs.declared.grid.TheConstants.{PITCH, ROW_HEIGHT, RAIL_WIDTH, LEAST_GAP, VDD_STRIP_Y}
use Rattle.sym_geom.specs.declared.rect.Rect.{Rect}
use Rattle.sym_geom.specs.Rect.{Within, Apart}
use Rattle.sym_shapes.specs.Shape.{Shape, drawn}
use Rattle.sym_shapes.specs.Ready.{IsReady}
use Rattle.sym_shapes.specs.Joined.{Joined, itself, through}
use Rattle.cell_model.specs.Cell.{Cell, cell_width}
use Rattle.cell_model.specs.Library.{IsUsable}
use Rattle.cell_model.specs.Usable.{IsFormed, IsMappable}
use Rattle.cell_model.proofs.Mapped.{usable_is_mappable}
use Rattle.cell_model.proofs.Members.{All-In}
use Rattle.cell_checks.specs.declared.verdict.Check.TheVariants as check
use Rattle.cell_checks.specs.declared.verdict.CellVerdict.TheVariants as verdict
use Rattle.cell_checks.specs.Checks.{StandsInRow, HasRail, HasRails, KeepsToItsBox, KeepsFromRails, rail, vss_strip, vdd_strip}
use Rattle.cell_checks.specs.Checks as checks
use Rattle.cell_checks.specs.Verdict.{IsVerdict}
use Rattle.net_drawing.specs.Clean.{HasStrip, IsInside, IsInStrip, IsTied, IsClean}
use Rattle.ocp_place.specs.Law.{CheckedCellsAreClean}
use Rattle.ocp_place.proofs.Shapes.{lines_good}
use Rattle.ocp_place.proofs.Nodes.{IsBounded, has_node}

abbrev pub rect_of : ℤ → ℤ → ℤ → ℤ → Rect
rect_of a b c d = record { x1 = a; y1 = b; x2 = c; y2 = d }

pub rect_is : (r : Rect) (a b c d : ℤ) → r.x1 ≡ a → r.y1 ≡ b → r.x2 ≡ c → r.y2 ≡ d → r ≡ rect_of a b c d
rect_is r a b c d p q s t =
    ap (λ (z : ℤ). rect_of z r.y1 r.x2 r.y2) p ∙ ap (λ (z : ℤ). rect_of a z r.x2 r.y2) q ∙ ap (λ (z : ℤ). rect_of a b z r.y2) s ∙ ap (λ (z : ℤ). rect_of a b c z) t

joined_listed : (xs : List Shape) (a b : Shape) → Joined xs a b → In a xs
joined_listed xs a b (itself h) = h
joined_listed xs a b (through h l j) = h

module _ (c : Cell) (formed : IsFormed c) (passes : IsVerdict false c verdict.Passes) (usable : IsUsable c) where
  mappable : IsMappable c
  mappable = usable_is_mappable c usable

  row : StandsInRow c
  row = passes.0 check.Box mappable

  rails : HasRails c
  rails = passes.0 check.Rails mappable

  keeps : KeepsToItsBox c
  keeps = passes.0 check.WithinBox mappable

  off : KeepsFromRails c
  off = passes.0 check.RailGaps mappable

  width_is : cell_width c ≡ pos (PITCH * row.columns)
  width_is = let ex = row.box.left in let er = row.box.right in omega (arith, ints)

  good : (s : Shape) → In s (drawn c.items) → (1 ≤ s.metal) × (s.rect.x1 ≤ℤ s.rect.x2) × (s.rect.y1 ≤ℤ s.rect.y2)
  good s h = let r = lines_good 0 c.items (All-In IsReady c.items formed.ready) s h in (r.0, r.1.wide, r.1.tall)

  on_first : (s : Shape) → In s (drawn c.items) → s.metal ≡ 1
  on_first s h = let a = (good s h).0 in let b = usable.metal s h in omega (arith, a, b)

  strip_of : (name : Name) (from to : ℕ) → HasRail c name from to → HasStrip c name row.columns from to
  strip_of name from to r =
      record { pin = r.pin; listed = r.listed; named = r.named; holds = subst (λ (w : ℤ). Within (rail w from to) r.pin.rect) width_is r.holds }

  inside : (s : Shape) → In s (drawn c.items)
      → IsInside row.columns s.rect ⊎ IsInStrip row.columns 0 RAIL_WIDTH s.rect ⊎ IsInStrip row.columns VDD_STRIP_Y ROW_HEIGHT s.rect
  inside s h = by (keeps.each s h (on_first s h)) where
    by : checks.IsInside (cell_width c) s.rect ⊎ Within s.rect (vss_strip c) ⊎ Within s.rect (vdd_strip c)
        → IsInside row.columns s.rect ⊎ IsInStrip row.columns 0 RAIL_WIDTH s.rect ⊎ IsInStrip row.columns VDD_STRIP_Y ROW_HEIGHT s.rect
    by (inl a) =
        let w = width_is in let p = a.left in let q = a.right in let d = a.low in let u = a.high in
        inl (record { left = p; right = omega (arith, ints); low = d; high = u })
    by (inr (inl a)) =
        let w = width_is in let p = a.left in let q = a.right in let d = a.low in let u = a.high in
        inr (inl (record { left = p; right = omega (arith, ints); low = d; high = u }))
    by (inr (inr a)) =
        let w = width_is in let p = a.left in let q = a.right in let d = a.low in let u = a.high in
        inr (inr (record { left = p; right = omega (arith, ints); low = d; high = u }))

  bounded : (s : Shape) → In s (drawn c.items) → IsBounded c row.columns s
  bounded s h = by (inside s h) where
    by : IsInside row.columns s.rect ⊎ IsInStrip row.columns 0 RAIL_WIDTH s.rect ⊎ IsInStrip row.columns VDD_STRIP_Y ROW_HEIGHT s.rect → IsBounded c row.columns s
    by (inl a) =
        let p = a.left in let q = a.right in let d = a.low in let u = a.high in
        record { left = omega (arith, ints); right = omega (arith, ints); low = omega (arith, ints); high = omega (arith, ints) }
    by (inr (inl a)) =
        let p = a.left in let q = a.right in let d = a.low in let u = a.high in
        record { left = omega (arith, ints); right = omega (arith, ints); low = omega (arith, ints); high = omega (arith, ints) }
    by (inr (inr a)) =
        let p = a.left in let q = a.right in let d = a.low in let u = a.high in
        record { left = omega (arith, ints); right = omega (arith, ints); low = omega (arith, ints); high = omega (arith, ints) }

  tied : (s : Shape) (name : Name) → checks.IsTied c s name → IsTied c s name
  tied s name t = record { pin = t.pin; listed = joined_listed (drawn c.items) t.pin s t.joined; named = t.named; joined = t.joined }

  -- a shape that is far enough from the strip at the foot lies above it
  above : (s : Shape) → In s (drawn c.items) → Apart LEAST_GAP s.rect (vss_strip c) → pos (RAIL_WIDTH + LEAST_GAP) ≤ℤ s.rect.y1
  above s h a = by a where
    b : IsBounded c row.columns s
    b = bounded s h

    g : (1 ≤ s.metal) × (s.rect.x1 ≤ℤ s.rect.x2) × (s.rect.y1 ≤ℤ s.rect.y2)
    g = good s h

    by : Apart LEAST_GAP s.rect (vss_strip c) → pos (RAIL_WIDTH + LEAST_GAP) ≤ℤ s.rect.y1
    by (inl e) = absurd (let w = width_is in let p = b.left in let x = g.1 in omega (arith, ints))
    by (inr (inl e)) = absurd (let w = width_is in let p = b.right in let x = g.1 in omega (arith, ints))
    by (inr (inr (inl e))) = absurd (let p = b.low in let y = g.2 in omega (arith, ints))
    by (inr (inr (inr e))) = omega (arith, ints)

  -- and one that is far enough from that at the head lies below it
  beneath : (s : Shape) → In s (drawn c.items) → Apart LEAST_GAP s.rect (vdd_strip c) → s.rect.y2 ≤ℤ pos (VDD_STRIP_Y - LEAST_GAP)
  beneath s h a = by a where
    b : IsBounded c row.columns s
    b = bounded s h

    g : (1 ≤ s.metal) × (s.rect.x1 ≤ℤ s.rect.x2) × (s.rect.y1 ≤ℤ s.rect.y2)
    g = good s h

    by : Apart LEAST_GAP s.rect (vdd_strip c) → s.rect.y2 ≤ℤ pos (VDD_STRIP_Y - LEAST_GAP)
    by (inl e) = absurd (let w = width_is in let p = b.left in let x = g.1 in omega (arith, ints))
    by (inr (inl e)) = absurd (let w = width_is in let p = b.right in let x = g.1 in omega (arith, ints))
    by (inr (inr (inl e))) = omega (arith, ints)
    by (inr (inr (inr e))) = absurd (let p = b.high in let y = g.2 in omega (arith, ints))

  pub clean : IsClean c
  clean = record {
    columns = row.columns;
    wide = row.box.wide;
    box = rect_is c.bounds (pos 0) (pos 0) (pos (PITCH * row.columns)) (pos ROW_HEIGHT) row.box.left row.box.low row.box.right row.box.high;
    metal = on_first;
    order = λ s h. (lines_good 0 c.items (All-In IsReady c.items formed.ready) s h).1;
    signals = formed.signals;
    low_strip = strip_of vss 0 RAIL_WIDTH rails.low;
    high_strip = strip_of vdd VDD_STRIP_Y ROW_HEIGHT rails.high;
    access = λ name h. has_node c row.columns row.box (λ s i metal. bounded s i) name ((passes.0 check.Access mappable).each name h);
    apart = λ a b m d p q j. (passes.0 check.PinsApart mappable).same a b m d p q j;
    inside = inside;
    off_low = λ s h. ⊎_elim (λ t. inl (tied s vss t)) (λ a. inr (above s h a)) (off.low s h (on_first s h));
    off_high = λ s h. ⊎_elim (λ t. inl (tied s vdd t)) (λ a. inr (beneath s h a)) (off.high s h (on_first s h));
  }

pub checked_cells_are_clean : CheckedCellsAreClean
checked_cells_are_clean c formed passes usable = clean c formed passes usable
