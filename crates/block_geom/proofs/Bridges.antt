-- Points of metal that are joined, over shapes that hold them.
use Rattle.std.proofs.Common.{◌≡◌, ℕ, ◌+◌, ◌*◌, ◌<◌, ◌≤◌, inl, inr, List, map, Some, None, refl, sym, ap, ◌∙◌, arith, Bool, true, false}
use Rattle.std.specs.Prelude.{ℤ, pos, ◌+ℤ◌, ◌≤ℤ◌, ◌/◌, ◌-◌}
use Rattle.std.proofs.lemmas.Int.{ints}
use Rattle.block_geom.specs.Rect.{Meet, Within}
use Rattle.block_geom.specs.Figure.{Supply, Vss, Vdd, Shape, Segment, Connector, Via, Name, Power, Bit, line_rect, square, drawn_shapes, In}
use Rattle.block_geom.specs.Joined.{Linked, touching, one_line, Joined, same, link}
use Rattle.block_geom.specs.Block.{Block, cell_shapes, IsSound, Net, Tagged, at_x, strip_y, supply_at, is_vdd, turned_row, in_block, pin_column, pin_row, instance_shapes, shapes, Terminal, AtPort, AtPin, IsOf, AreJoined}
use Rattle.block_geom.proofs.Lists.{In_left, In_right, In_up_to, In_map, In_drawn, line_of}
use Rattle.block_geom.proofs.Chains.{Joined_trans, Joined_link, Joined_sym}
use Rattle.block_geom.proofs.Cells.{in_row, heights}

pub record Point : Type 0 where
  pub metal : ℕ
  pub x : ℤ
  pub y : ℤ

-- the shape covers the point
pub record Holds (s : Shape) (p : Point) : Type 0 where
  pub metal : s.metal ≡ p.metal
  pub left : s.rect.x1 ≤ℤ p.x
  pub right : p.x ≤ℤ s.rect.x2
  pub low : s.rect.y1 ≤ℤ p.y
  pub high : p.y ≤ℤ s.rect.y2

pub holds_link : (s t : Shape) (p : Point) → Holds s p → Holds t p → Linked s t
holds_link s t p f g = let m : Meet s.rect t.rect = omega (arith, ints) in touching (f.metal ∙ sym g.metal) m

-- joined shapes cover the two points
pub record Bridge (xs : List Shape) (p q : Point) : Type 0 where
  pub from : Shape
  pub to : Shape
  pub from_in : In from xs
  pub to_in : In to xs
  pub from_holds : Holds from p
  pub to_holds : Holds to q
  pub joined : Joined xs from to

-- a connector of the terminal covers the point
pub record IsAt (xs : List Shape) (t : Terminal) (p : Point) : Type 0 where
  pub shape : Shape
  pub within : In shape xs
  pub of : IsOf t shape
  pub holds : Holds shape p

pub Bridge_sym : (xs : List Shape) (p q : Point) → Bridge xs p q → Bridge xs q p
Bridge_sym xs p q f = record { from = f.to; to = f.from; from_in = f.to_in; to_in = f.from_in; from_holds = f.to_holds; to_holds = f.from_holds; joined = Joined_sym f.from f.to f.from_in f.joined }

pub Bridge_trans : (xs : List Shape) (p q r : Point) → Bridge xs p q → Bridge xs q r → Bridge xs p r
Bridge_trans xs p q r f g =
    record {
      from = f.from;
      to = g.to;
      from_in = f.from_in;
      to_in = g.to_in;
      from_holds = f.from_holds;
      to_holds = g.to_holds;
      joined = Joined_trans f.from g.from g.to (Joined_link f.from f.to g.from f.joined g.from_in (holds_link f.to g.from q f.to_holds g.from_holds)) g.joined;
    }

pub at_joined : (xs : List Shape) (t u : Terminal) (p q : Point) → IsAt xs t p → Bridge xs p q → IsAt xs u q → AreJoined xs t u
at_joined xs t u p q f g h =
    record {
      from = f.shape;
      to = h.shape;
      from_in = f.within;
      to_in = h.within;
      from_of = f.of;
      to_of = h.of;
      joined = Joined_link f.shape g.to h.shape (Joined_trans f.shape g.from g.to (link g.from_in (holds_link f.shape g.from p f.holds g.from_holds) same) g.joined) h.within (holds_link g.to h.shape q g.to_holds h.holds);
    }

module _ (b : Block) (ts : List Tagged) where
  -- two points of one segment
  pub segment_bridge : (n : Net) (m w : ℕ) (u : Bool) (x1 y1 x2 y2 : ℤ) (p q : Point) → In (record { net = n; line = Segment m w u x1 y1 x2 y2 None }) ts → p.metal ≡ m → q.metal ≡ m → x1 ≤ℤ p.x → p.x ≤ℤ x2 → y1 ≤ℤ p.y → p.y ≤ℤ y2 → x1 ≤ℤ q.x → q.x ≤ℤ x2 → y1 ≤ℤ q.y → q.y ≤ℤ y2 → Bridge (shapes b ts) p q
  segment_bridge n m w u x1 y1 x2 y2 p q h e f a1 a2 a3 a4 b1 b2 b3 b4 = made u h
    where
      made : (u : Bool) → In (record { net = n; line = Segment m w u x1 y1 x2 y2 None }) ts → Bridge (shapes b ts) p q
      made true h =
          let r = In_drawn 0 ts _ h in
          let s : Shape = record { metal = m; rect = line_rect true (w / 2) (w - w / 2) x1 y1 x2 y2; owner = None; line = r.0; name = None } in
          let g = In_left (drawn_shapes 0 (map line_of ts)) (instance_shapes b) s (r.1 s (inl refl)) in
          record { from = s; to = s; from_in = g; to_in = g; from_holds = record { metal = sym e; left = omega (arith, ints); right = omega (arith, ints); low = omega (arith, ints); high = omega (arith, ints) }; to_holds = record { metal = sym f; left = omega (arith, ints); right = omega (arith, ints); low = omega (arith, ints); high = omega (arith, ints) }; joined = same }
      made false h =
          let r = In_drawn 0 ts _ h in
          let s : Shape = record { metal = m; rect = line_rect false (w / 2) (w - w / 2) x1 y1 x2 y2; owner = None; line = r.0; name = None } in
          let g = In_left (drawn_shapes 0 (map line_of ts)) (instance_shapes b) s (r.1 s (inl refl)) in
          record { from = s; to = s; from_in = g; to_in = g; from_holds = record { metal = sym e; left = omega (arith, ints); right = omega (arith, ints); low = omega (arith, ints); high = omega (arith, ints) }; to_holds = record { metal = sym f; left = omega (arith, ints); right = omega (arith, ints); low = omega (arith, ints); high = omega (arith, ints) }; joined = same }

  -- the two pads of a via
  pub via_bridge : (n : Net) (m : ℕ) (x y : ℤ) → In (record { net = n; line = Via m x y }) ts → Bridge (shapes b ts) (record { metal = m; x = x; y = y }) (record { metal = m + 1; x = x; y = y })
  via_bridge n m x y h =
      let r = In_drawn 0 ts _ h in
      let s : Shape = record { metal = m; rect = square 100 100 x y; owner = None; line = r.0; name = None } in
      let t : Shape = record { metal = m + 1; rect = square 100 100 x y; owner = None; line = r.0; name = None } in
      let g = In_left (drawn_shapes 0 (map line_of ts)) (instance_shapes b) s (r.1 s (inl refl)) in
      let k = In_left (drawn_shapes 0 (map line_of ts)) (instance_shapes b) t (r.1 t (inr (inl refl))) in
      record {
        from = s;
        to = t;
        from_in = g;
        to_in = k;
        from_holds = record { metal = refl; left = omega (arith, ints); right = omega (arith, ints); low = omega (arith, ints); high = omega (arith, ints) };
        to_holds = record { metal = refl; left = omega (arith, ints); right = omega (arith, ints); low = omega (arith, ints); high = omega (arith, ints) };
        joined = link k (one_line refl refl) same;
      }

  pub port_at : (n : Net) (m w : ℕ) (x y : ℤ) (d : Name) → In (record { net = n; line = Connector m w x y d }) ts → IsAt (shapes b ts) (AtPort d) (record { metal = m; x = x; y = y })
  port_at n m w x y d h =
      let r = In_drawn 0 ts _ h in
      let s : Shape = record { metal = m; rect = square (w / 2) (w - w / 2) x y; owner = None; line = r.0; name = Some d } in
      record {
        shape = s;
        within = In_left (drawn_shapes 0 (map line_of ts)) (instance_shapes b) s (r.1 s (inl refl));
        of = (refl, refl);
        holds = record { metal = refl; left = omega (arith, ints); right = omega (arith, ints); low = omega (arith, ints); high = omega (arith, ints) };
      }

  pub instance_in : (i : ℕ) (s : Shape) → i < b.count → In s (cell_shapes (b.cell i)) → In (in_block b i s) (shapes b ts)
  instance_in i s lt h =
      In_right (drawn_shapes 0 (map line_of ts)) (instance_shapes b) (in_block b i s)
      (In_up_to b.count (λ i. map (in_block b i) (cell_shapes (b.cell i))) (in_block b i s) i lt (In_map (in_block b i) (cell_shapes (b.cell i)) s h))

  -- the access node of a pin
  pub pin_at : IsSound b → (i p : ℕ) → i < b.count → p < (b.cell i).pins → IsAt (shapes b ts) (AtPin i (Bit p)) (record { metal = 1; x = at_x (pin_column b i p); y = at_x (pin_row b i p) })
  pin_at sound i p hi hp =
      let ok = sound.cells i hi in let a = ok.access p hp in let w = a.holds in let hs = heights (b.cell i) a.pin ok a.within in
      record {
        shape = in_block b i a.pin;
        within = instance_in i a.pin hi a.within;
        of = (refl, a.named);
        holds = held (supply_at (b.row i)) (b.row i) (b.column i) ((b.cell i).column p) ((b.cell i).row p) a.pin (in_block b i a.pin) (ok.metal a.pin a.within) w (omega (arith, ints)) refl;
      }
    where
      held : (u : Supply) (j x c r : ℕ) (pin s : Shape) → s.metal ≡ 1 → Within (square 100 100 (pos (500 * c)) (pos (500 * r))) pin.rect → r ≤ 10 → s.rect ≡ in_row u (at_x x) j pin → Holds s (record { metal = 1; x = at_x (x + c); y = at_x (10 * j + turned_row (is_vdd u) r) })
      held Vss j x c r pin s m w le e =
          let a = ap (λ v. v.x1) e in let d = ap (λ v. v.y1) e in let f = ap (λ v. v.x2) e in let g = ap (λ v. v.y2) e in
          record { metal = m; left = omega (arith, ints); right = omega (arith, ints); low = omega (arith, ints); high = omega (arith, ints) }
      held Vdd j x c r pin s m w le e =
          let a = ap (λ v. v.x1) e in let d = ap (λ v. v.y1) e in let f = ap (λ v. v.x2) e in let g = ap (λ v. v.y2) e in
          record { metal = m; left = omega (arith, ints); right = omega (arith, ints); low = omega (arith, ints); high = omega (arith, ints) }

  strip_held : (f u : Supply) (j x w : ℕ) (pin s : Shape) → 1 ≤ w → s.metal ≡ 1 → pin.rect.x1 ≤ℤ pos 200 → pos (500 * w) ≤ℤ (pin.rect.x2 +ℤ pos 200) → pin.rect.y1 ≤ℤ pos (strip_y Vss u 0) → pos (strip_y Vss u 0) ≤ℤ pin.rect.y2 → s.rect ≡ in_row f (at_x x) j pin → Holds s (record { metal = 1; x = pos (500 * x + 250); y = pos (strip_y f u j) })
  strip_held Vss Vss j x w pin s le m a1 a2 a3 a4 e = let a = ap (λ v. v.x1) e in let d = ap (λ v. v.y1) e in let f = ap (λ v. v.x2) e in let g = ap (λ v. v.y2) e in record { metal = m; left = omega (arith, ints); right = omega (arith, ints); low = omega (arith, ints); high = omega (arith, ints) }
  strip_held Vss Vdd j x w pin s le m a1 a2 a3 a4 e = let a = ap (λ v. v.x1) e in let d = ap (λ v. v.y1) e in let f = ap (λ v. v.x2) e in let g = ap (λ v. v.y2) e in record { metal = m; left = omega (arith, ints); right = omega (arith, ints); low = omega (arith, ints); high = omega (arith, ints) }
  strip_held Vdd Vss j x w pin s le m a1 a2 a3 a4 e = let a = ap (λ v. v.x1) e in let d = ap (λ v. v.y1) e in let f = ap (λ v. v.x2) e in let g = ap (λ v. v.y2) e in record { metal = m; left = omega (arith, ints); right = omega (arith, ints); low = omega (arith, ints); high = omega (arith, ints) }
  strip_held Vdd Vdd j x w pin s le m a1 a2 a3 a4 e = let a = ap (λ v. v.x1) e in let d = ap (λ v. v.y1) e in let f = ap (λ v. v.x2) e in let g = ap (λ v. v.y2) e in record { metal = m; left = omega (arith, ints); right = omega (arith, ints); low = omega (arith, ints); high = omega (arith, ints) }

  pub strip_at : IsSound b → (i : ℕ) (u : Supply) → i < b.count → IsAt (shapes b ts) (AtPin i (Power u)) (record { metal = 1; x = pos (500 * b.column i + 250); y = pos (strip_y (supply_at (b.row i)) u (b.row i)) })
  strip_at sound i Vss hi =
      let ok = sound.cells i hi in let a = ok.vss in
      record {
        shape = in_block b i a.pin;
        within = instance_in i a.pin hi a.within;
        of = (refl, a.named);
        holds = strip_held (supply_at (b.row i)) Vss (b.row i) (b.column i) (b.cell i).width a.pin (in_block b i a.pin) ok.wide (ok.metal a.pin a.within) a.left a.right (omega (arith, ints)) (omega (arith, ints)) refl;
      }
  strip_at sound i Vdd hi =
      let ok = sound.cells i hi in let a = ok.vdd in
      record {
        shape = in_block b i a.pin;
        within = instance_in i a.pin hi a.within;
        of = (refl, a.named);
        holds = strip_held (supply_at (b.row i)) Vdd (b.row i) (b.column i) (b.cell i).width a.pin (in_block b i a.pin) ok.wide (ok.metal a.pin a.within) a.left a.right (omega (arith, ints)) (omega (arith, ints)) refl;
      }
