-- Metal 1: shapes of cells in the rows of a block.
use Rattle.std.proofs.Common.{◌≡◌, ℕ, suc, ◌+◌, ◌*◌, ◌<◌, ◌≤◌, ◌⊎◌, inl, inr, ⊎_elim, refl, sym, ap, subst, arith}
use Rattle.std.specs.Prelude.{ℤ, pos, ◌+ℤ◌, ◌≤ℤ◌}
use Rattle.std.proofs.lemmas.Int.{ints, by_lt_z}
use Rattle.std.proofs.lemmas.Bool.{cases_lt}
use Rattle.block_geom.specs.Rect.{Rect, IsRect, Meet, Apart, moved}
use Rattle.block_geom.specs.Figure.{Supply, Vss, Vdd, Shape, Power, turned, In}
use Rattle.block_geom.proofs.Plan.{IsInFoot, IsCentre, IsOnRail}
use Rattle.block_geom.specs.Block.{Block, Cell, cell_shapes, IsInside, IsJoinedTo, Passes, IsSound, at_x, other, strip_y, supply_at, is_vdd}

-- r comes within 200 of the two strips at the foot of row k
pub record IsNear (k : ℕ) (r : Rect) : Type 0 where
  pub low : (r.y1 +ℤ pos 1) ≤ℤ pos (5000 * k + 800)
  pub high : pos (5000 * k + 1) ≤ℤ (r.y2 +ℤ pos 800)

-- all that the checks say of the height of a shape
pub heights : (c : Cell) (s : Shape) → Passes c → In s (cell_shapes c) → (pos 0 ≤ℤ s.rect.y1) × (s.rect.y2 ≤ℤ pos 5000)
heights c s ok h =
    ⊎_elim (λ a. omega (arith, ints)) (⊎_elim (λ a. omega (arith, ints)) (λ a. omega (arith, ints))) (ok.inside s h)

-- the rectangle of the shape s of a cell in row j, whose foot has the supply u
abbrev pub in_row : Supply → ℤ → ℕ → Shape → Rect
in_row u x j s = moved (turned (is_vdd u) s.rect) x (pos (5000 * j))

pub row_heights : (u : Supply) (x : ℤ) (j : ℕ) (c : Cell) (s : Shape) → Passes c → In s (cell_shapes c) → (pos (5000 * j) ≤ℤ (in_row u x j s).y1) × ((in_row u x j s).y2 ≤ℤ pos (5000 * j + 5000))
row_heights Vss x j c s ok h = let a = heights c s ok h in omega (arith, ints)
row_heights Vdd x j c s ok h = let a = heights c s ok h in omega (arith, ints)

near_foot : (u : Supply) (x : ℤ) (j : ℕ) (c : Cell) (s : Shape) → Passes c → In s (cell_shapes c) → ((in_row u x j s).y1 +ℤ pos 1) ≤ℤ pos (5000 * j + 800) → IsJoinedTo c s (Power u)
near_foot Vss x j c s ok h e = ⊎_elim (λ a. a) (λ a. absurd (omega (arith, ints))) (ok.off_vss s h)
near_foot Vdd x j c s ok h e = ⊎_elim (λ a. a) (λ a. absurd (omega (arith, ints))) (ok.off_vdd s h)

near_top : (u : Supply) (x : ℤ) (j : ℕ) (c : Cell) (s : Shape) → Passes c → In s (cell_shapes c) → pos (5000 * j + 5001) ≤ℤ ((in_row u x j s).y2 +ℤ pos 800) → IsJoinedTo c s (Power (other u))
near_top Vss x j c s ok h e = ⊎_elim (λ a. a) (λ a. absurd (omega (arith, ints))) (ok.off_vdd s h)
near_top Vdd x j c s ok h e = ⊎_elim (λ a. a) (λ a. absurd (omega (arith, ints))) (ok.off_vss s h)

-- what comes near the foot of row k is joined to the supply there
pub near_joined : (x : ℤ) (j k : ℕ) (c : Cell) (s : Shape) → Passes c → In s (cell_shapes c) → IsNear k (in_row (supply_at j) x j s) → IsJoinedTo c s (Power (supply_at k))
near_joined x j k c s ok h n =
    let a = row_heights (supply_at j) x j c s ok h in
    let le : j ≤ k = omega (arith, ints) in
    let ge : k ≤ suc j = omega (arith, ints) in
    ⊎_elim
    (λ below. let e : k ≡ j = omega arith in
    subst (λ m. IsJoinedTo c s (Power (supply_at m))) (sym e) (near_foot (supply_at j) x j c s ok h (omega (arith, ints))))
    (λ above. let e : k ≡ suc j = omega arith in
    subst (λ m. IsJoinedTo c s (Power (supply_at m))) (sym e) (near_top (supply_at j) x j c s ok h (omega (arith, ints))))
    (cases_lt k (suc j))

-- inside its cell, or in the strips at the foot of a row
inside_or_foot : (u : Supply) (x : ℤ) (j : ℕ) (c : Cell) (s : Shape) → Passes c → In s (cell_shapes c) → IsInside c.width s.rect ⊎ ((k : ℕ) × IsInFoot k (in_row u x j s))
inside_or_foot Vss x j c s ok h =
    let o = ok.order s h in
    ⊎_elim (λ a. inl a) (⊎_elim (λ a. inr (j, omega (arith, ints))) (λ a. inr (suc j, omega (arith, ints)))) (ok.inside s h)
inside_or_foot Vdd x j c s ok h =
    let o = ok.order s h in
    ⊎_elim (λ a. inl a) (⊎_elim (λ a. inr (suc j, omega (arith, ints))) (λ a. inr (j, omega (arith, ints)))) (ok.inside s h)

pub foot_near : (k : ℕ) (r : Rect) → IsInFoot k r → IsNear k r
foot_near k r f = omega (arith, ints)

-- what isn't near is far
pub foot_or_apart : (k : ℕ) (r t : Rect) → IsInFoot k r → Apart 200 r t ⊎ IsNear k t
foot_or_apart k r t f =
    by_lt_z t.y1 (pos (5000 * k + 800))
    (λ a. by_lt_z (pos (5000 * k)) (t.y2 +ℤ pos 800)
    (λ b. inr (omega (arith, ints)))
    (λ b. inl (inr (inr (inr (omega (arith, ints)))))))
    (λ a. inl (inr (inr (inl (omega (arith, ints))))))

pub Apart_sym : (d : ℕ) (a b : Rect) → Apart d a b → Apart d b a
Apart_sym d a b (inl e) = inr (inl e)
Apart_sym d a b (inr (inl e)) = inl e
Apart_sym d a b (inr (inr (inl e))) = inr (inr (inr e))
Apart_sym d a b (inr (inr (inr e))) = inr (inr (inl e))

turned_order : (u : Supply) (x : ℤ) (j : ℕ) (s : Shape) → IsRect s.rect → IsRect (in_row u x j s)
turned_order Vss x j s o = omega (arith, ints)
turned_order Vdd x j s o = omega (arith, ints)

-- shapes of two cells are apart, or both near the foot of one row
abbrev pub AreFar : Rect → Rect → Type 0
AreFar r t = Apart 200 r t ⊎ ((k : ℕ) × IsNear k r × IsNear k t)

-- one cell in a row below
far_below : (r t : Rect) (k : ℕ) → IsRect r → IsRect t → r.y2 ≤ℤ pos (5000 * k) → pos (5000 * k) ≤ℤ t.y1 → AreFar r t
far_below r t k o p e f =
    by_lt_z (pos (5000 * k)) (r.y2 +ℤ pos 800)
    (λ a. by_lt_z t.y1 (pos (5000 * k + 800))
    (λ b. inr (k, omega (arith, ints), omega (arith, ints)))
    (λ b. inl (inr (inr (inl (omega (arith, ints)))))))
    (λ a. inl (inr (inr (inl (omega (arith, ints))))))

-- side by side, inside their cells
inside_apart : (u : Supply) (j x1 w1 x2 w2 : ℕ) (s t : Shape) → IsInside w1 s.rect → IsInside w2 t.rect → x1 + w1 ≤ x2 → Apart 200 (in_row u (at_x x1) j s) (in_row u (at_x x2) j t)
inside_apart Vss j x1 w1 x2 w2 s t a b le = inl (omega (arith, ints))
inside_apart Vdd j x1 w1 x2 w2 s t a b le = inl (omega (arith, ints))

far_beside : (u : Supply) (j x1 x2 : ℕ) (c d : Cell) (s t : Shape) → Passes c → Passes d → In s (cell_shapes c) → In t (cell_shapes d) → x1 + c.width ≤ x2 → AreFar (in_row u (at_x x1) j s) (in_row u (at_x x2) j t)
far_beside u j x1 x2 c d s t ok1 ok2 h1 h2 le =
    let r = in_row u (at_x x1) j s in let q = in_row u (at_x x2) j t in
    ⊎_elim
    (λ a. ⊎_elim
    (λ b. inl (inside_apart u j x1 c.width x2 d.width s t a b le))
    (λ b. ⊎_elim (λ f. inl (Apart_sym 200 q r f)) (λ n. inr (b.0, n, foot_near b.0 q b.1)) (foot_or_apart b.0 q r b.1))
    (inside_or_foot u (at_x x2) j d t ok2 h2))
    (λ a. ⊎_elim (λ f. inl f) (λ n. inr (a.0, foot_near a.0 r a.1, n)) (foot_or_apart a.0 r q a.1))
    (inside_or_foot u (at_x x1) j c s ok1 h1)

pub swap_far : (r t : Rect) → AreFar r t → AreFar t r
swap_far r t h = ⊎_elim (λ a. inl (Apart_sym 200 r t a)) (λ n. inr (n.0, n.2, n.1)) h

-- the rectangle of a shape of instance i
abbrev pub rect_at : Block → ℕ → Shape → Rect
rect_at b i s = in_row (supply_at (b.row i)) (at_x (b.column i)) (b.row i) s

-- shapes of two instances are apart, or both near the foot of one row
pub instances_far : (b : Block) (i k : ℕ) (s t : Shape) → IsSound b → i < b.count → k < b.count → In s (cell_shapes (b.cell i)) → In t (cell_shapes (b.cell k)) → (i ≡ k) ⊎ AreFar (rect_at b i s) (rect_at b k t)
instances_far b i k s t ok hi hk hs ht =
    let okc = ok.cells i hi in let okd = ok.cells k hk in
    let o = turned_order (supply_at (b.row i)) (at_x (b.column i)) (b.row i) s (okc.order s hs) in
    let p = turned_order (supply_at (b.row k)) (at_x (b.column k)) (b.row k) t (okd.order t ht) in
    let hr = row_heights (supply_at (b.row i)) (at_x (b.column i)) (b.row i) (b.cell i) s okc hs in
    let hq = row_heights (supply_at (b.row k)) (at_x (b.column k)) (b.row k) (b.cell k) t okd ht in
    ⊎_elim
    (λ lt. inr (far_below (rect_at b i s) (rect_at b k t) (b.row k) o p (omega (arith, ints)) (omega (arith, ints))))
    (λ ge. ⊎_elim
    (λ gt. inr (swap_far (rect_at b k t) (rect_at b i s) (far_below (rect_at b k t) (rect_at b i s) (b.row i) p o (omega (arith, ints)) (omega (arith, ints)))))
    (λ le. let e : b.row i ≡ b.row k = omega arith in
    ⊎_elim
    (λ same. inl same)
    (⊎_elim
    (λ left. inr (subst (λ j. AreFar (rect_at b i s) (in_row (supply_at j) (at_x (b.column k)) j t)) e (far_beside (supply_at (b.row i)) (b.row i) (b.column i) (b.column k) (b.cell i) (b.cell k) s t okc okd hs ht left)))
    (λ right. inr (swap_far (rect_at b k t) (rect_at b i s) (subst (λ j. AreFar (in_row (supply_at j) (at_x (b.column k)) j t) (rect_at b i s)) e (far_beside (supply_at (b.row i)) (b.row i) (b.column k) (b.column i) (b.cell k) (b.cell i) t s okd okc ht hs right)))))
    (ok.abut i k hi hk e))
    (cases_lt (b.row k) (b.row i)))
    (cases_lt (b.row i) (b.row k))

-- what is near the foot of row j is joined to the supply there
pub near_supply : (b : Block) (i j : ℕ) (s : Shape) → IsSound b → i < b.count → In s (cell_shapes (b.cell i)) → IsNear j (rect_at b i s) → IsJoinedTo (b.cell i) s (Power (supply_at j))
near_supply b i j s ok hi hs n = near_joined (at_x (b.column i)) (b.row i) j (b.cell i) s (ok.cells i hi) hs n

pub apart_not : (a b : Rect) → Apart 200 a b → Meet a b → ⊥
apart_not a b f h = omega (arith, ints)

-- two shapes of one instance meet where those of the cell do
pub meet_in_cell : (b : Block) (i : ℕ) (s t : Shape) → Meet (rect_at b i s) (rect_at b i t) → Meet s.rect t.rect
meet_in_cell b i s t h = unturned (supply_at (b.row i)) (at_x (b.column i)) (b.row i) s t h
  where
    unturned : (u : Supply) (x : ℤ) (j : ℕ) (s t : Shape) → Meet (in_row u x j s) (in_row u x j t) → Meet s.rect t.rect
    unturned Vss x j s t h = omega (arith, ints)
    unturned Vdd x j s t h = omega (arith, ints)

pub meet_in_block : (b : Block) (i : ℕ) (s t : Shape) → Meet s.rect t.rect → Meet (rect_at b i s) (rect_at b i t)
meet_in_block b i s t h = turn (supply_at (b.row i)) (at_x (b.column i)) (b.row i) s t h
  where
    turn : (u : Supply) (x : ℤ) (j : ℕ) (s t : Shape) → Meet s.rect t.rect → Meet (in_row u x j s) (in_row u x j t)
    turn Vss x j s t h = omega (arith, ints)
    turn Vdd x j s t h = omega (arith, ints)

-- the middle of a rail lies 300 above or below the foot of a row whose supply it has
pub record IsAtFoot (u : Supply) (y : ℕ) : Type 0 where
  pub j : ℕ
  pub supply : supply_at j ≡ u
  pub side : (y ≡ 5000 * j + 300) ⊎ (y + 300 ≡ 5000 * j)

pub centre_foot : (b : Block) (u : Supply) (y : ℕ) → IsCentre b u y → IsAtFoot u y
centre_foot b u y f = cases (supply_at f.row) u refl f.is
  where
    cases : (g u : Supply) → supply_at f.row ≡ g → y ≡ strip_y g u f.row → IsAtFoot u y
    cases Vss Vss e i = record { j = f.row; supply = e; side = inl i }
    cases Vss Vdd e i = record { j = suc f.row; supply = ap other e; side = inr (omega arith) }
    cases Vdd Vss e i = record { j = suc f.row; supply = ap other e; side = inr (omega arith) }
    cases Vdd Vdd e i = record { j = f.row; supply = e; side = inl i }

pub on_rail_foot : (b : Block) (u : Supply) (s : Shape) (f : IsOnRail b u s) → (j : ℕ) × (supply_at j ≡ u) × IsInFoot j s.rect
on_rail_foot b u s f =
    let g = centre_foot b u f.y f.rail in
    (g.j, g.supply, ⊎_elim (λ a. ⊎_elim (λ e. omega (arith, ints)) (λ e. omega (arith, ints)) g.side) (λ a. ⊎_elim (λ e. omega (arith, ints)) (λ e. omega (arith, ints)) g.side) f.size)
