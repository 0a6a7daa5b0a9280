-- The checks of a layout, by the tests of its shapes.
use Rattle.std.proofs.Common.{◌≡◌, ℕ, inl, inr, ℤ, pos, ◌*ℤ◌, Bool, true, false, ◌&&◌, ◌||◌, List, [], ◌∷◌, get_or, Option, None, Some, All, Any, refl, sym, ap, subst, ◌∙◌, arith, nat_eq, ⊎_elim}
use Rattle.std.proofs.lemmas.Int.{ints}
use Rattle.std.specs.List.{list_any}
use Rattle.std.specs.Prelude.{int_le}
use Rattle.vlsi_base.specs.declared.name.Name.{Name}
use Rattle.vlsi_base.specs.declared.name.Port.{Port}
use Rattle.vlsi_base.specs.Member.{In, here, there}
use Rattle.vlsi_base.specs.Names.{vdd, vss}
use Rattle.machine_core.specs.Machine.{names_of}
use Rattle.machine_core.proofs.Names.{same_name-true, same_name-itself}
use Rattle.sym_geom.specs.declared.grid.TheConstants.{PITCH, PAD_WIDTH}
use Rattle.sym_geom.specs.declared.rect.Rect.{Rect}
use Rattle.sym_geom.specs.Rect.{Within, square}
use Rattle.sym_shapes.specs.Shape.{Shape, drawn}
use Rattle.sym_shapes.proofs.Tests.{both, told, four_and, within_so, number_told, number_so, list_any_In}
use Rattle.cell_model.specs.declared.cell.Pin.{Pin}
use Rattle.cell_model.specs.Cell.{Cell, pin_ports, cell_width}
use Rattle.cell_model.specs.Access.{Point, holds, is_named, from_corner}
use Rattle.cell_model.proofs.Members.{In-at, place-In, All-In, All-from, In-map, In-map_back}
use Rattle.cell_checks.specs.Checks.{StandsInRow, HasRail, HasAccessNode, IsReached, KeepsToItsBox, KeepsFromRail, rail, vss_strip, vdd_strip}
use Rattle.cell_checks.specs.Shapes.{IsRail, IsReachedBy, HasReach, KeepsIn, KeepsOff, wanted}

pub Any-In : {A : Type 0} (P : A → Type 0) (xs : List A) → Any P xs → (x : A) × In x xs × P x
Any-In P xs a = (a.1, subst (λ x. In x xs) a.3 (In-at xs a.0 a.1 a.2), a.4)

pub Any-from : {A : Type 0} (P : A → Type 0) (xs : List A) (x : A) → In x xs → P x → Any P xs
Any-from P xs x h has = let r = place-In x xs h in (r.0, x, r.1, r.2 x, has)

-- the first two of the names
pub first_wanted : (c : Cell) (names : List Name) (n : Name) → names ≡ wanted c → n ≡ get_or names 0 n → n ≡ vdd
first_wanted c names n same at = at ∙ ap (λ (ns : List Name). get_or ns 0 n) same

pub second_wanted : (c : Cell) (names : List Name) (n : Name) → names ≡ wanted c → n ≡ get_or names 1 n → n ≡ vss
second_wanted c names n same at = at ∙ ap (λ (ns : List Name). get_or ns 1 n) same

pub rail_by : (c : Cell) (shapes : List Shape) (name n : Name) (from to : ℕ) (r : Rect) → shapes ≡ drawn c.items → n ≡ name → r ≡ rail (cell_width c) from to
    → Any (IsRail n r) shapes → HasRail c name from to
rail_by c shapes name n from to r is same at a =
    let b : Any (IsRail name (rail (cell_width c) from to)) (drawn c.items) =
    subst (λ (xs : List Shape). Any (IsRail name (rail (cell_width c) from to)) xs) is
    (subst (λ (m : Name). Any (IsRail m (rail (cell_width c) from to)) shapes) same (subst (λ (q : Rect). Any (IsRail n q) shapes) at a)) in
    let t = Any-In (IsRail name (rail (cell_width c) from to)) (drawn c.items) b in
    record { pin = t.0; listed = t.1; named = t.2.named; metal = t.2.metal; holds = t.2.holds }

pub by_rail : (c : Cell) (shapes : List Shape) (name n : Name) (from to : ℕ) (r : Rect) → shapes ≡ drawn c.items → n ≡ name → r ≡ rail (cell_width c) from to
    → HasRail c name from to → Any (IsRail n r) shapes
by_rail c shapes name n from to r is same at h =
    let b = Any-from (IsRail name (rail (cell_width c) from to)) (drawn c.items) h.pin h.listed (record { named = h.named; metal = h.metal; holds = h.holds }) in
    subst (λ (q : Rect). Any (IsRail n q) shapes) (sym at)
    (subst (λ (m : Name). Any (IsRail m (rail (cell_width c) from to)) shapes) (sym same)
    (subst (λ (xs : List Shape). Any (IsRail name (rail (cell_width c) from to)) xs) (sym is) b))

pub kept_in : (c : Cell) (shapes : List Shape) (low high : Rect) (width : ℤ) → shapes ≡ drawn c.items → low ≡ vss_strip c → high ≡ vdd_strip c → width ≡ cell_width c
    → All (KeepsIn width low high) shapes → KeepsToItsBox c
kept_in c shapes low high width is l h w all = record {
  each = λ s i metal.
      All-In (KeepsIn (cell_width c) (vss_strip c) (vdd_strip c)) (drawn c.items)
      (subst (λ (xs : List Shape). All (KeepsIn (cell_width c) (vss_strip c) (vdd_strip c)) xs) is
      (subst (λ (v : ℤ). All (KeepsIn v (vss_strip c) (vdd_strip c)) shapes) w
      (subst (λ (q : Rect). All (KeepsIn width q (vdd_strip c)) shapes) l
      (subst (λ (q : Rect). All (KeepsIn width low q) shapes) h all)))) s i metal;
}

pub keeping_in : (c : Cell) (shapes : List Shape) (low high : Rect) (width : ℤ) → shapes ≡ drawn c.items → low ≡ vss_strip c → high ≡ vdd_strip c → width ≡ cell_width c
    → KeepsToItsBox c → All (KeepsIn width low high) shapes
keeping_in c shapes low high width is l h w keeps =
    subst (λ (q : Rect). All (KeepsIn width low q) shapes) (sym h)
    (subst (λ (q : Rect). All (KeepsIn width q (vdd_strip c)) shapes) (sym l)
    (subst (λ (v : ℤ). All (KeepsIn v (vss_strip c) (vdd_strip c)) shapes) (sym w)
    (subst (λ (xs : List Shape). All (KeepsIn (cell_width c) (vss_strip c) (vdd_strip c)) xs) (sym is)
    (All-from (KeepsIn (cell_width c) (vss_strip c) (vdd_strip c)) (drawn c.items) keeps.each))))

pub kept_off : (c : Cell) (shapes : List Shape) (name n : Name) (r strip_ : Rect) → shapes ≡ drawn c.items → n ≡ name → r ≡ strip_
    → All (KeepsOff shapes n r) shapes → KeepsFromRail c name strip_
kept_off c shapes name n r strip_ is same at all s h metal =
    let b : All (KeepsOff (drawn c.items) name strip_) (drawn c.items) =
    subst (λ (xs : List Shape). All (KeepsOff xs name strip_) xs) is
    (subst (λ (m : Name). All (KeepsOff shapes m strip_) shapes) same (subst (λ (q : Rect). All (KeepsOff shapes n q) shapes) at all)) in
    ⊎_elim (λ t. inl (record { pin = t.0; named = t.1; joined = t.2 })) (λ g. inr g) (All-In (KeepsOff (drawn c.items) name strip_) (drawn c.items) b s h metal)

pub keeping_off : (c : Cell) (shapes : List Shape) (name n : Name) (r strip_ : Rect) → shapes ≡ drawn c.items → n ≡ name → r ≡ strip_
    → KeepsFromRail c name strip_ → All (KeepsOff shapes n r) shapes
keeping_off c shapes name n r strip_ is same at keeps =
    let b = All-from (KeepsOff (drawn c.items) name strip_) (drawn c.items)
    (λ s h metal. ⊎_elim (λ t. inl (t.pin, t.named, t.joined)) (λ g. inr g) (keeps s h metal)) in
    subst (λ (q : Rect). All (KeepsOff shapes n q) shapes) (sym at)
    (subst (λ (m : Name). All (KeepsOff shapes m strip_) shapes) (sym same)
    (subst (λ (xs : List Shape). All (KeepsOff xs name strip_) xs) (sym is) b))

pub list_any_from : {A : Type 0} (test : A → Bool) (xs : List A) (x : A) → In x xs → test x ≡ true → list_any test xs ≡ true
list_any_from test [] x h is = elim h [ ]
list_any_from test (y ∷ xs) x here is = rw is refl
list_any_from test (y ∷ xs) x (there h) is = by (test y) (list_any test xs) (list_any_from test xs x h is) where
  by : (a b : Bool) → b ≡ true → (a || b) ≡ true
  by true b e = refl
  by false b e = e

pub named_told : (m : Name) (o : Option Name) → o ≡ Some m → is_named m o ≡ true
named_told m None h = absurd (cc h)
named_told m (Some x) h = let e : x ≡ m = cc in rw e (same_name-itself m)

pub named_so : (m : Name) (o : Option Name) → is_named m o ≡ true → o ≡ Some m
named_so m None h = absurd (cc h)
named_so m (Some x) h = ap (λ v. Some v) (same_name-true x m h)

-- what an access node is asked of a shape
abbrev pub node_test : Cell → Name → Point → Shape → Bool
node_test c pin q s = nat_eq s.metal 1 && is_named pin s.name && holds (from_corner c s.rect) (square q.0 q.1 (pos PAD_WIDTH))

pub within_told : (a b : Rect) → Within a b → holds b a ≡ true
within_told a b w =
    four_and (int_le b.x1 a.x1) (int_le a.x2 b.x2) (int_le b.y1 a.y1) (int_le a.y2 b.y2)
    (told (int_le b.x1 a.x1) w.left.le) (told (int_le a.x2 b.x2) w.right.le) (told (int_le b.y1 a.y1) w.low.le) (told (int_le a.y2 b.y2) w.high.le)

pub reached_at : (c : Cell) (name : Name) (s : Shape) → c.bounds.x1 ≡ pos 0 → c.bounds.y1 ≡ pos 0 → In s (drawn c.items) → IsReachedBy name s → HasAccessNode c name
reached_at c name s ex ey listed r =
    let a = r.across.above in let b = r.along.above in
    let ga = a.grid in let gb = b.grid in let fa = a.from in let fb = b.from in let ta = r.across.to in let tb = r.along.to in
    let w : Within (square (pos PITCH *ℤ a.number) (pos PITCH *ℤ b.number) (pos PAD_WIDTH)) (from_corner c s.rect) =
    record { left = omega (arith, ints); right = omega (arith, ints); low = omega (arith, ints); high = omega (arith, ints) } in
    record {
      column = a.number;
      row = b.number;
      node = list_any_from (node_test c name (pos PITCH *ℤ a.number, pos PITCH *ℤ b.number)) (drawn c.items) s listed
          (rw (
            number_told s.metal 1 r.metal,
            named_told name s.name r.named,
            within_told (square (pos PITCH *ℤ a.number) (pos PITCH *ℤ b.number) (pos PAD_WIDTH)) (from_corner c s.rect) w,
          ) refl);
    }

pub node_reached : (c : Cell) (name : Name) → c.bounds.x1 ≡ pos 0 → c.bounds.y1 ≡ pos 0 → HasAccessNode c name → HasReach (drawn c.items) name
node_reached c name ex ey h =
    let q : Point = (pos PITCH *ℤ h.column, pos PITCH *ℤ h.row) in
    let found = list_any_In (node_test c name (pos PITCH *ℤ h.column, pos PITCH *ℤ h.row)) (drawn c.items) h.node in
    let s = found.0 in
    let u = both (nat_eq s.metal 1 && is_named name s.name) (holds (from_corner c s.rect) (square (pos PITCH *ℤ h.column) (pos PITCH *ℤ h.row) (pos PAD_WIDTH))) found.2 in
    let v = both (nat_eq s.metal 1) (is_named name s.name) u.0 in
    let w = within_so (square (pos PITCH *ℤ h.column) (pos PITCH *ℤ h.row) (pos PAD_WIDTH)) (from_corner c s.rect) u.1 in
    let wl = w.left in let wr = w.right in let wd = w.low in let wh = w.high in
    record {
      any = Any-from (IsReachedBy name) (drawn c.items) s found.1 (record {
        named = named_so name s.name v.1;
        metal = number_so s.metal 1 v.0;
        across = record { line = pos PITCH *ℤ h.column; above = record { number = h.column; grid = refl; from = omega (arith, ints) }; to = omega (arith, ints) };
        along = record { line = pos PITCH *ℤ h.row; above = record { number = h.row; grid = refl; from = omega (arith, ints) }; to = omega (arith, ints) };
      });
    }

pub pin_of : (c : Cell) (name : Name) → In name (names_of (pin_ports c)) → (p : Pin) × In p c.pins × (p.port.name ≡ name)
pin_of c name h =
    let r = In-map_back (λ (q : Port). q.name) name (pin_ports c) h in
    let s = In-map_back (λ (q : Pin). q.port) r.0 c.pins r.1 in
    (s.0, s.1, ap (λ (q : Port). q.name) s.2 ∙ r.2)

pub reached : (c : Cell) (shapes : List Shape) → StandsInRow c → shapes ≡ drawn c.items → All (λ (p : Pin). HasReach shapes p.port.name) c.pins → IsReached c
reached c shapes row is all = record {
  each = λ name h.
      let p = pin_of c name h in
      let reach : HasReach shapes p.0.port.name = All-In (λ (q : Pin). HasReach shapes q.port.name) c.pins all p.0 p.1 in
      let own : HasReach (drawn c.items) name = subst (HasReach (drawn c.items)) p.2 (subst (λ (xs : List Shape). HasReach xs p.0.port.name) is reach) in
      let t = Any-In (IsReachedBy name) (drawn c.items) own.any in
      reached_at c name t.0 row.box.left row.box.low t.1 t.2;
}

pub reaching : (c : Cell) (shapes : List Shape) → StandsInRow c → shapes ≡ drawn c.items → IsReached c → All (λ (p : Pin). HasReach shapes p.port.name) c.pins
reaching c shapes row is h =
    All-from (λ (p : Pin). HasReach shapes p.port.name) c.pins (λ p i.
    subst (λ (xs : List Shape). HasReach xs p.port.name) (sym is)
    (node_reached c p.port.name row.box.left row.box.low
    (h.each p.port.name (In-map (λ (q : Port). q.name) p.port (pin_ports c) (In-map (λ (q : Pin). q.port) p c.pins i)))))
