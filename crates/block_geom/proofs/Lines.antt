-- Drawn lines that fit a plan.
use Rattle.std.proofs.Common.{◌≡◌, ℕ, ◌+◌, ◌<◌, ◌≤◌, inl, inr, Option, Some, None, refl, sym, ap, subst, arith, Bool, true, false}
use Rattle.std.specs.Prelude.{ℤ, pos}
use Rattle.std.proofs.lemmas.Int.{ints}
use Rattle.block_geom.specs.Figure.{Supply, Vss, Shape, Line, Segment, Connector, Via, Blank, Name, Power, Bit, line_rect, square, line_shapes, In}
use Rattle.block_geom.specs.Block.{Block, Net, PowerNet, Signal, at_x, pin_column, pin_row, port_net_of, AtPort, Exists}
use Rattle.block_geom.specs.Tracks.{strap_column}
use Rattle.block_geom.proofs.Plan.{Plan, IsBox, IsOwned, IsCentre, IsOnStrap, FitsShape, above, on_pin, on_strap, on_rail, Fits}

grid_box : (u : Bool) (c1 r1 c2 r2 : ℕ) → c1 ≤ c2 → r1 ≤ r2 → IsBox (line_rect u 100 100 (at_x c1) (at_x r1) (at_x c2) (at_x r2)) c1 r1 c2 r2
grid_box true c1 r1 c2 r2 h k = record { x1 = refl; y1 = refl; x2 = refl; y2 = refl; columns = h; rows = k }
grid_box false c1 r1 c2 r2 h k = record { x1 = refl; y1 = refl; x2 = refl; y2 = refl; columns = h; rows = k }

pad_box : (c r : ℕ) → IsBox (square 100 100 (at_x c) (at_x r)) c r c r
pad_box c r = record { x1 = refl; y1 = refl; x2 = refl; y2 = refl; columns = omega arith; rows = omega arith }

-- a place is a box
pad_owned : (owns : Plan) (n m c r k : ℕ) (name : Option Name) → 2 ≤ m → 3 ≤ c → owns m c r n → IsOwned owns n (record { metal = m; rect = square 100 100 (at_x c) (at_x r); owner = None; line = k; name = name })
pad_owned owns n m c r k name hm hc o =
    record {
      high = hm;
      c1 = c;
      r1 = r;
      c2 = c;
      r2 = r;
      start = hc;
      box = pad_box c r;
      owned = λ x y a b d e. let p : c ≡ x = omega arith in let q : r ≡ y = omega arith in subst (λ v. owns m v y n) p (subst (λ v. owns m c v n) q o);
    }

module _ (b : Block) (owns : Plan) where
  -- a line without a name
  unnamed : (n : Net) (l : Line) → ((k : ℕ) (s : Shape) → In s (line_shapes k l) → s.name ≡ None) → ((k : ℕ) (s : Shape) → In s (line_shapes k l) → FitsShape b owns s n) → Fits b owns (record { net = n; line = l })
  unnamed n l e f = record { shapes = f; names = λ k s m h g. absurd (let a = e k s h in cc); ports = λ k s m h g. absurd (let a = e k s h in cc) }

  segment_name : (m w : ℕ) (u : Bool) (x1 y1 x2 y2 : ℤ) (k : ℕ) (s : Shape) → In s (line_shapes k (Segment m w u x1 y1 x2 y2 None)) → s.name ≡ None
  segment_name m w u x1 y1 x2 y2 k s (inl e) = ap (λ v. v.name) e
  segment_name m w u x1 y1 x2 y2 k s (inr h) = absurd h

  via_name : (m : ℕ) (x y : ℤ) (k : ℕ) (s : Shape) → In s (line_shapes k (Via m x y)) → s.name ≡ None
  via_name m x y k s (inl e) = ap (λ v. v.name) e
  via_name m x y k s (inr (inl e)) = ap (λ v. v.name) e
  via_name m x y k s (inr (inr h)) = absurd h

  pub wire_fits : (n m c1 r1 c2 r2 : ℕ) (u : Bool) → 2 ≤ m → 3 ≤ c1 → c1 ≤ c2 → r1 ≤ r2 → ((c r : ℕ) → c1 ≤ c → c ≤ c2 → r1 ≤ r → r ≤ r2 → owns m c r n) → Fits b owns (record { net = Signal n; line = Segment m 200 u (at_x c1) (at_x r1) (at_x c2) (at_x r2) None })
  wire_fits n m c1 r1 c2 r2 u hm hc oc or o =
      unnamed (Signal n) (Segment m 200 u (at_x c1) (at_x r1) (at_x c2) (at_x r2) None) (segment_name m 200 u (at_x c1) (at_x r1) (at_x c2) (at_x r2)) shape
    where
      shape : (k : ℕ) (s : Shape) → In s (line_shapes k (Segment m 200 u (at_x c1) (at_x r1) (at_x c2) (at_x r2) None)) → FitsShape b owns s (Signal n)
      shape k s (inl e) = subst (λ v. FitsShape b owns v (Signal n)) (sym e) (above (record { high = hm; c1 = c1; r1 = r1; c2 = c2; r2 = r2; start = hc; box = grid_box u c1 r1 c2 r2 oc or; owned = o }))
      shape k s (inr h) = absurd h

  pub via_fits : (n m c r : ℕ) → 2 ≤ m → 3 ≤ c → owns m c r n → owns (m + 1) c r n → Fits b owns (record { net = Signal n; line = Via m (at_x c) (at_x r) })
  via_fits n m c r hm hc o p = unnamed (Signal n) (Via m (at_x c) (at_x r)) (via_name m (at_x c) (at_x r)) shape
    where
      shape : (k : ℕ) (s : Shape) → In s (line_shapes k (Via m (at_x c) (at_x r))) → FitsShape b owns s (Signal n)
      shape k s (inl e) = subst (λ v. FitsShape b owns v (Signal n)) (sym e) (above (pad_owned owns n m c r k None hm hc o))
      shape k s (inr (inl e)) = subst (λ v. FitsShape b owns v (Signal n)) (sym e) (above (pad_owned owns n (m + 1) c r k None (omega arith) hc p))
      shape k s (inr (inr h)) = absurd h

  pub pin_fits : (i p : ℕ) → i < b.count → p < (b.cell i).pins → 3 ≤ pin_column b i p → owns 2 (pin_column b i p) (pin_row b i p) (b.net i p) → Fits b owns (record { net = Signal (b.net i p); line = Via 1 (at_x (pin_column b i p)) (at_x (pin_row b i p)) })
  pin_fits i p hi hp hc o = unnamed (Signal (b.net i p)) (Via 1 (at_x (pin_column b i p)) (at_x (pin_row b i p))) (via_name 1 (at_x (pin_column b i p)) (at_x (pin_row b i p))) shape
    where
      shape : (k : ℕ) (s : Shape) → In s (line_shapes k (Via 1 (at_x (pin_column b i p)) (at_x (pin_row b i p)))) → FitsShape b owns s (Signal (b.net i p))
      shape k s (inl e) = subst (λ v. FitsShape b owns v (Signal (b.net i p))) (sym e) (on_pin (record { metal = refl; i = i; p = p; instance = hi; pin = hp; net = refl; box = pad_box (pin_column b i p) (pin_row b i p) }))
      shape k s (inr (inl e)) = subst (λ v. FitsShape b owns v (Signal (b.net i p))) (sym e) (above (pad_owned owns (b.net i p) 2 (pin_column b i p) (pin_row b i p) k None (omega arith) hc o))
      shape k s (inr (inr h)) = absurd h

  pub port_fits : (q m c r : ℕ) → q < b.ports → 2 ≤ m → 3 ≤ c → owns m c r (b.port_net q) → Fits b owns (record { net = Signal (b.port_net q); line = Connector m 200 (at_x c) (at_x r) (Bit q) })
  port_fits q m c r hq hm hc o = record { shapes = shape; names = name; ports = exist }
    where
      shape : (k : ℕ) (s : Shape) → In s (line_shapes k (Connector m 200 (at_x c) (at_x r) (Bit q))) → FitsShape b owns s (Signal (b.port_net q))
      shape k s (inl e) = subst (λ v. FitsShape b owns v (Signal (b.port_net q))) (sym e) (above (pad_owned owns (b.port_net q) m c r k (Some (Bit q)) hm hc o))
      shape k s (inr h) = absurd h

      name : (k : ℕ) (s : Shape) (d : Name) → In s (line_shapes k (Connector m 200 (at_x c) (at_x r) (Bit q))) → s.name ≡ Some d → port_net_of b d ≡ Signal (b.port_net q)
      name k s d (inl e) g = let a : s.name ≡ Some (Bit q) = ap (λ v. v.name) e in let c : d ≡ Bit q = cc in ap (port_net_of b) c
      name k s d (inr h) g = absurd h

      exist : (k : ℕ) (s : Shape) (d : Name) → In s (line_shapes k (Connector m 200 (at_x c) (at_x r) (Bit q))) → s.name ≡ Some d → Exists b (AtPort d)
      exist k s d (inl e) g = let a : s.name ≡ Some (Bit q) = ap (λ v. v.name) e in let c : Bit q ≡ d = cc in subst (λ v. Exists b (AtPort v)) c hq
      exist k s d (inr h) g = absurd h

  pub blank_fits : Fits b owns (record { net = PowerNet Vss; line = Blank })
  blank_fits = record { shapes = λ k s h. absurd h; names = λ k s m h e. absurd h; ports = λ k s m h e. absurd h }

  -- ---- supplies

  -- a rail, or any wire of that height over x 500
  pub rail_fits : (u : Supply) (y x2 : ℕ) → IsCentre b u y → 500 ≤ x2 → Fits b owns (record { net = PowerNet u; line = Segment 1 600 false (pos 500) (pos y) (pos x2) (pos y) None })
  rail_fits u y x2 e le = unnamed (PowerNet u) (Segment 1 600 false (pos 500) (pos y) (pos x2) (pos y) None) (segment_name 1 600 false (pos 500) (pos y) (pos x2) (pos y)) shape
    where
      shape : (k : ℕ) (s : Shape) → In s (line_shapes k (Segment 1 600 false (pos 500) (pos y) (pos x2) (pos y) None)) → FitsShape b owns s (PowerNet u)
      shape k s (inl g) = subst (λ v. FitsShape b owns v (PowerNet u)) (sym g) (on_rail (record { metal = refl; y = y; rail = e; size = inl (record { x1 = omega (arith, ints); x2 = omega (arith, ints); wide = omega (arith, ints); y1 = refl; y2 = refl }) }))
      shape k s (inr h) = absurd h

  pub supply_port_fits : (u : Supply) (y : ℕ) → IsCentre b u y → Fits b owns (record { net = PowerNet u; line = Connector 1 600 (pos 500) (pos y) (Power u) })
  supply_port_fits u y e = record { shapes = shape; names = name; ports = exist }
    where
      shape : (k : ℕ) (s : Shape) → In s (line_shapes k (Connector 1 600 (pos 500) (pos y) (Power u))) → FitsShape b owns s (PowerNet u)
      shape k s (inl g) = subst (λ v. FitsShape b owns v (PowerNet u)) (sym g) (on_rail (record { metal = refl; y = y; rail = e; size = inl (record { x1 = omega (arith, ints); x2 = omega (arith, ints); wide = omega (arith, ints); y1 = refl; y2 = refl }) }))
      shape k s (inr h) = absurd h

      name : (k : ℕ) (s : Shape) (d : Name) → In s (line_shapes k (Connector 1 600 (pos 500) (pos y) (Power u))) → s.name ≡ Some d → port_net_of b d ≡ PowerNet u
      name k s d (inl g) f = let a : s.name ≡ Some (Power u) = ap (λ v. v.name) g in let c : d ≡ Power u = cc in ap (port_net_of b) c
      name k s d (inr h) f = absurd h

      exist : (k : ℕ) (s : Shape) (d : Name) → In s (line_shapes k (Connector 1 600 (pos 500) (pos y) (Power u))) → s.name ≡ Some d → Exists b (AtPort d)
      exist k s d (inl g) f = let a : s.name ≡ Some (Power u) = ap (λ v. v.name) g in let c : Power u ≡ d = cc in subst (λ v. Exists b (AtPort v)) c tt
      exist k s d (inr h) f = absurd h

  pub strap_fits : (u : Supply) (y1 y2 : ℕ) → IsCentre b u y1 → IsCentre b u y2 → y1 ≤ y2 → Fits b owns (record { net = PowerNet u; line = Segment 3 200 true (at_x (strap_column u)) (pos y1) (at_x (strap_column u)) (pos y2) None })
  strap_fits u y1 y2 e1 e2 le = unnamed (PowerNet u) (Segment 3 200 true (at_x (strap_column u)) (pos y1) (at_x (strap_column u)) (pos y2) None) (segment_name 3 200 true (at_x (strap_column u)) (pos y1) (at_x (strap_column u)) (pos y2)) shape
    where
      shape : (k : ℕ) (s : Shape) → In s (line_shapes k (Segment 3 200 true (at_x (strap_column u)) (pos y1) (at_x (strap_column u)) (pos y2) None)) → FitsShape b owns s (PowerNet u)
      shape k s (inl g) = subst (λ v. FitsShape b owns v (PowerNet u)) (sym g) (on_strap (record { high = omega arith; from = y1; to = y2; from_rail = e1; to_rail = e2; order = le; x1 = refl; x2 = refl; y1 = refl; y2 = refl }))
      shape k s (inr h) = absurd h

  -- a pad of metal m on the strap
  strap_pad : (u : Supply) (m y k : ℕ) → 2 ≤ m → IsCentre b u y → IsOnStrap b u (record { metal = m; rect = square 100 100 (at_x (strap_column u)) (pos y); owner = None; line = k; name = None })
  strap_pad u m y k h e = record { high = h; from = y; to = y; from_rail = e; to_rail = e; order = omega arith; x1 = refl; x2 = refl; y1 = refl; y2 = refl }

  pub strap_via_fits : (u : Supply) (y : ℕ) → IsCentre b u y → Fits b owns (record { net = PowerNet u; line = Via 2 (at_x (strap_column u)) (pos y) })
  strap_via_fits u y e = unnamed (PowerNet u) (Via 2 (at_x (strap_column u)) (pos y)) (via_name 2 (at_x (strap_column u)) (pos y)) shape
    where
      shape : (k : ℕ) (s : Shape) → In s (line_shapes k (Via 2 (at_x (strap_column u)) (pos y))) → FitsShape b owns s (PowerNet u)
      shape k s (inl g) = subst (λ v. FitsShape b owns v (PowerNet u)) (sym g) (on_strap (strap_pad u 2 y k (omega arith) e))
      shape k s (inr (inl g)) = subst (λ v. FitsShape b owns v (PowerNet u)) (sym g) (on_strap (strap_pad u 3 y k (omega arith) e))
      shape k s (inr (inr h)) = absurd h

  pub rail_via_fits : (u : Supply) (y : ℕ) → IsCentre b u y → Fits b owns (record { net = PowerNet u; line = Via 1 (at_x (strap_column u)) (pos y) })
  rail_via_fits u y e = unnamed (PowerNet u) (Via 1 (at_x (strap_column u)) (pos y)) (via_name 1 (at_x (strap_column u)) (pos y)) shape
    where
      shape : (k : ℕ) (s : Shape) → In s (line_shapes k (Via 1 (at_x (strap_column u)) (pos y))) → FitsShape b owns s (PowerNet u)
      shape k s (inl g) = subst (λ v. FitsShape b owns v (PowerNet u)) (sym g) (on_rail (record { metal = refl; y = y; rail = e; size = inr (record { x1 = refl; x2 = refl; y1 = refl; y2 = refl }) }))
      shape k s (inr (inl g)) = subst (λ v. FitsShape b owns v (PowerNet u)) (sym g) (on_strap (strap_pad u 2 y k (omega arith) e))
      shape k s (inr (inr h)) = absurd h
