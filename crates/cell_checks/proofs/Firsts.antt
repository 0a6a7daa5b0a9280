-- The first check that a mappable cell fails.
use Rattle.std.proofs.Common.{◌≡◌, ℕ, suc, ◌*◌, ◌^◌, ◌<◌, ◌≤◌, Bool, true, false, IsTrue, List, [], ◌∷◌, length, Option, None, Some, All, refl, sym, ap, subst, ◌∙◌, arith, length-append, ⊎_elim}
use Rattle.vlsi_base.specs.declared.name.Name.{Name}
use Rattle.vlsi_base.specs.Member.{In, here, there}
use Rattle.sym_geom.specs.declared.rect.Rect.{Rect}
use Rattle.sym_geom.specs.Metal.{metal_of}
use Rattle.sym_geom.specs.Items.{via_pads, pads_on, lower_metal}
use Rattle.sym_geom.specs.declared.item.Item.{Item}
use Rattle.sym_geom.specs.declared.item.Item.TheVariants as item
use Rattle.sym_shapes.specs.Shape.{Shape, on_metal, pad_shapes, item_shapes, drawn_from, drawn}
use Rattle.cell_model.specs.Cell.{Cell}
use Rattle.cell_model.specs.Usable.{IsFormed, IsMappable}
use Rattle.cell_model.specs.Connectors.{PinsAreConnectors}
use Rattle.cell_model.proofs.Members.{In-split, In-map_back, All-from}
use Rattle.cell_checks.specs.declared.verdict.Check.{Check}
use Rattle.cell_checks.specs.declared.verdict.Check.TheVariants as check
use Rattle.cell_checks.specs.Checks.{StandsInRow, HasRails, IsReached, PinsAreApart, KeepsToItsBox, KeepsFromRails, ColumnsDiffer}
use Rattle.cell_checks.specs.Verdict.{check_number, PassesCheck, FailsFirst, PassesFirst}

-- the checks below a number
passes_below : (tracks : Bool) (c : Cell) (n : ℕ) → (3 < n → PinsAreConnectors c) → (4 < n → StandsInRow c) → (5 < n → HasRails c) → (6 < n → IsReached c)
    → (7 < n → PinsAreApart c) → (8 < n → KeepsToItsBox c) → (9 < n → KeepsFromRails c) → n < 11 → (j : Check) → check_number j < n → PassesCheck tracks c j
passes_below tracks c n connectors row rails reached apart within gaps most check.Connectors h = connectors h
passes_below tracks c n connectors row rails reached apart within gaps most check.Box h = λ m. row h
passes_below tracks c n connectors row rails reached apart within gaps most check.Rails h = λ m. rails h
passes_below tracks c n connectors row rails reached apart within gaps most check.Access h = λ m. reached h
passes_below tracks c n connectors row rails reached apart within gaps most check.PinsApart h = λ m. apart h
passes_below tracks c n connectors row rails reached apart within gaps most check.WithinBox h = λ m. within h
passes_below tracks c n connectors row rails reached apart within gaps most check.RailGaps h = λ m. gaps h
passes_below tracks c n connectors row rails reached apart within gaps most check.Columns h = absurd (omega arith)

pub fails_box : (tracks : Bool) (c : Cell) → PinsAreConnectors c → IsMappable c → (StandsInRow c → ⊥) → FailsFirst tracks c check.Box
fails_box tracks c connectors m fails = record {
  fails = λ p. fails (p m);
  earlier = passes_below tracks c 4 (λ h. connectors) (λ h. absurd (omega arith)) (λ h. absurd (omega arith)) (λ h. absurd (omega arith))
      (λ h. absurd (omega arith)) (λ h. absurd (omega arith)) (λ h. absurd (omega arith)) (omega arith);
}

pub fails_rails : (tracks : Bool) (c : Cell) → PinsAreConnectors c → IsMappable c → StandsInRow c → (HasRails c → ⊥) → FailsFirst tracks c check.Rails
fails_rails tracks c connectors m row fails = record {
  fails = λ p. fails (p m);
  earlier = passes_below tracks c 5 (λ h. connectors) (λ h. row) (λ h. absurd (omega arith)) (λ h. absurd (omega arith))
      (λ h. absurd (omega arith)) (λ h. absurd (omega arith)) (λ h. absurd (omega arith)) (omega arith);
}

pub fails_access : (tracks : Bool) (c : Cell) → PinsAreConnectors c → IsMappable c → StandsInRow c → HasRails c → (IsReached c → ⊥) → FailsFirst tracks c check.Access
fails_access tracks c connectors m row rails fails = record {
  fails = λ p. fails (p m);
  earlier = passes_below tracks c 6 (λ h. connectors) (λ h. row) (λ h. rails) (λ h. absurd (omega arith))
      (λ h. absurd (omega arith)) (λ h. absurd (omega arith)) (λ h. absurd (omega arith)) (omega arith);
}

pub passes_first : (c : Cell) → PinsAreConnectors c → StandsInRow c → HasRails c → IsReached c → PassesFirst c
passes_first c connectors row rails reached = record { connectors = connectors; row = row; rails = rails; reached = reached }

pub fails_apart : (tracks : Bool) (c : Cell) → IsMappable c → PassesFirst c → (PinsAreApart c → ⊥) → FailsFirst tracks c check.PinsApart
fails_apart tracks c m f fails = record {
  fails = λ p. fails (p m);
  earlier = passes_below tracks c 7 (λ h. f.connectors) (λ h. f.row) (λ h. f.rails) (λ h. f.reached)
      (λ h. absurd (omega arith)) (λ h. absurd (omega arith)) (λ h. absurd (omega arith)) (omega arith);
}

pub fails_within : (tracks : Bool) (c : Cell) → IsMappable c → PassesFirst c → PinsAreApart c → (KeepsToItsBox c → ⊥) → FailsFirst tracks c check.WithinBox
fails_within tracks c m f apart fails = record {
  fails = λ p. fails (p m);
  earlier = passes_below tracks c 8 (λ h. f.connectors) (λ h. f.row) (λ h. f.rails) (λ h. f.reached)
      (λ h. apart) (λ h. absurd (omega arith)) (λ h. absurd (omega arith)) (omega arith);
}

pub fails_gaps : (tracks : Bool) (c : Cell) → IsMappable c → PassesFirst c → PinsAreApart c → KeepsToItsBox c → (KeepsFromRails c → ⊥) → FailsFirst tracks c check.RailGaps
fails_gaps tracks c m f apart within fails = record {
  fails = λ p. fails (p m);
  earlier = passes_below tracks c 9 (λ h. f.connectors) (λ h. f.row) (λ h. f.rails) (λ h. f.reached)
      (λ h. apart) (λ h. within) (λ h. absurd (omega arith)) (omega arith);
}

pub fails_columns : (tracks : Bool) (c : Cell) → IsMappable c → PassesFirst c → PinsAreApart c → KeepsToItsBox c → KeepsFromRails c → IsTrue tracks
    → (ColumnsDiffer c → ⊥) → FailsFirst tracks c check.Columns
fails_columns tracks c m f apart within gaps is fails = record {
  fails = λ p. fails (p m is);
  earlier = passes_below tracks c 10 (λ h. f.connectors) (λ h. f.row) (λ h. f.rails) (λ h. f.reached) (λ h. apart) (λ h. within) (λ h. gaps) (omega arith);
}

pub passes_all : (tracks : Bool) (c : Cell) → PassesFirst c → PinsAreApart c → KeepsToItsBox c → KeepsFromRails c → (IsTrue tracks → ColumnsDiffer c)
    → (k : Check) → PassesCheck tracks c k
passes_all tracks c f apart within gaps columns check.Connectors = f.connectors
passes_all tracks c f apart within gaps columns check.Box = λ m. f.row
passes_all tracks c f apart within gaps columns check.Rails = λ m. f.rails
passes_all tracks c f apart within gaps columns check.Access = λ m. f.reached
passes_all tracks c f apart within gaps columns check.PinsApart = λ m. apart
passes_all tracks c f apart within gaps columns check.WithinBox = λ m. within
passes_all tracks c f apart within gaps columns check.RailGaps = λ m. gaps
passes_all tracks c f apart within gaps columns check.Columns = λ m is. columns is

-- without tracks columns may be the same
pub passes_without : (tracks : Bool) (c : Cell) → tracks ≡ false → PassesFirst c → PinsAreApart c → KeepsToItsBox c → KeepsFromRails c
    → (k : Check) → PassesCheck tracks c k
passes_without tracks c none f apart within gaps = passes_all tracks c f apart within gaps (λ is. absurd (let h : false ≡ true = sym none ∙ is in cc))

pub passes_with : (tracks : Bool) (c : Cell) → PassesFirst c → PinsAreApart c → KeepsToItsBox c → KeepsFromRails c → ColumnsDiffer c
    → (k : Check) → PassesCheck tracks c k
passes_with tracks c f apart within gaps differ = passes_all tracks c f apart within gaps (λ is. differ)

-- shapes that are drawn belong to no instance
wire_owner : (m : Option ℕ) (line : ℕ) (r : Rect) (name : Option Name) (s : Shape) → In s (on_metal m line r name) → s.owner ≡ None
wire_owner None line r name s h = elim h [ ]
wire_owner (Some k) line r name s here = refl
wire_owner (Some k) line r name s (there h) = elim h [ ]

pad_owner : (line : ℕ) (pads : Option (List (ℕ × Rect))) (s : Shape) → In s (pad_shapes line pads) → s.owner ≡ None
pad_owner line None s h = elim h [ ]
pad_owner line (Some pads) s h =
    let r = In-map_back (λ (p : ℕ × Rect). record { metal = p.0; rect = p.1; owner = None; line = line; name = None }) s pads h in
    ap (λ (x : Shape). x.owner) (sym r.2)

item_owner : (line : ℕ) (one : Item) (s : Shape) → In s (item_shapes line one) → s.owner ≡ None
item_owner line (item.Segment w) s h = wire_owner (metal_of w.layer) line _ _ s h
item_owner line (item.Connector w) s h = wire_owner (metal_of w.layer) line _ _ s h
item_owner line (item.Via v) s h = pad_owner line (via_pads v) s h
item_owner line (item.Instance i) s h = elim h [ ]
item_owner line (item.Reference r) s h = elim h [ ]
item_owner line (item.Remark text) s h = elim h [ ]

drawn_owner : (line : ℕ) (items : List Item) (s : Shape) → In s (drawn_from line items) → s.owner ≡ None
drawn_owner line [] s h = elim h [ ]
drawn_owner line (one ∷ rest) s h =
    ⊎_elim (λ a. item_owner line one s a) (λ b. drawn_owner (suc line) rest s b) (In-split s (item_shapes line one) (drawn_from (suc line) rest) h)

pub drawn_ones : (c : Cell) (shapes : List Shape) → shapes ≡ drawn c.items → All (λ (s : Shape). s.owner ≡ None) shapes
drawn_ones c shapes is =
    subst (λ (xs : List Shape). All (λ (s : Shape). s.owner ≡ None) xs) (sym is) (All-from (λ (s : Shape). s.owner ≡ None) (drawn c.items) (drawn_owner 0 c.items))

-- a line draws two shapes at most
wire_few : (m : Option ℕ) (line : ℕ) (r : Rect) (name : Option Name) → length (on_metal m line r name) ≤ 2
wire_few None line r name = omega arith
wire_few (Some k) line r name = omega arith

pad_few : (line : ℕ) (m : Option ℕ) (pad : Rect) → length (pad_shapes line (pads_on m pad)) ≤ 2
pad_few line None pad = omega arith
pad_few line (Some k) pad = omega arith

item_few : (line : ℕ) (one : Item) → length (item_shapes line one) ≤ 2
item_few line (item.Segment w) = wire_few (metal_of w.layer) line _ _
item_few line (item.Connector w) = wire_few (metal_of w.layer) line _ _
item_few line (item.Via v) = pad_few line (lower_metal v.contact) _
item_few line (item.Instance i) = omega arith
item_few line (item.Reference r) = omega arith
item_few line (item.Remark text) = omega arith

drawn_few : (line : ℕ) (items : List Item) → length (drawn_from line items) ≤ 2 * length items
drawn_few line [] = omega arith
drawn_few line (one ∷ rest) =
    omega (arith, length-append (item_shapes line one) (drawn_from (suc line) rest), item_few line one, drawn_few (suc line) rest)

pub few_shapes : (c : Cell) (shapes : List Shape) → IsFormed c → shapes ≡ drawn c.items → length shapes < 2 ^ 32
few_shapes c shapes formed is = let f = formed.few in omega (arith, drawn_few 0 c.items, ap length is)
