-- No two shapes of a drawing that fits a plan are too near.
use Rattle.std.proofs.Common.{◌≡◌, ℕ, ◌+◌, ◌*◌, ◌<◌, ◌≤◌, ◌⊎◌, inl, inr, ⊎_elim, List, map, Some, None, refl, sym, ap, ◌∙◌, subst, arith, false}
use Rattle.std.specs.Prelude.{pos, ◌+ℤ◌, ◌-ℤ◌, ◌≤ℤ◌}
use Rattle.std.proofs.lemmas.Int.{ints}
use Rattle.std.proofs.lemmas.Bool.{cases_lt}
use Rattle.block_geom.specs.Rect.{Rect, Meet, Within, Apart}
use Rattle.block_geom.specs.Figure.{Supply, Vss, Vdd, Shape, Segment, Power, Bit, drawn_shapes, line_rect, In}
use Rattle.block_geom.specs.Joined.{Linked, touching, one_line, one_name, Joined, same, link}
use Rattle.block_geom.specs.Block.{Block, cell_shapes, IsJoinedTo, IsSound, Net, PowerNet, Tagged, at_x, rail_y, supply_at, in_block, instance_shapes, shapes}
use Rattle.block_geom.specs.Breach.{IsExcused, one_instance, in_connector, connector_of, joined_first, joined_second, first_within, second_within, IsGapBreach, HasNoGapBreach, IsWidthBreach, HasNoBreach}
use Rattle.block_geom.specs.Tracks.{strap_column}
use Rattle.block_geom.proofs.Rects.{Meet_sym}
use Rattle.block_geom.proofs.Lists.{In_left, In_drawn, line_of}
use Rattle.block_geom.proofs.Chains.{Joined_trans, Joined_link, Joined_sym}
use Rattle.block_geom.proofs.Plan.{Plan, IsBox, IsOwned, IsPinPad, IsCentre, IsOnStrap, IsFull, IsRailPad, IsOnRail, FitsShape, above, on_pin, on_strap, on_rail, IsPlan, IsOfInstance, Kind, of_line, of_instance}
use Rattle.block_geom.proofs.Cells.{IsNear, rect_at, instances_far, near_supply, foot_or_apart, Apart_sym, meet_in_block, centre_foot, on_rail_foot}
use Rattle.block_geom.proofs.Bridges.{Point, Holds, Bridge, holds_link, Bridge_sym, Bridge_trans, segment_bridge, instance_in, strip_at}
use Rattle.block_geom.proofs.Only.{pad_within, kind, no_owner}
use Rattle.block_geom.proofs.Tracks.{pin_inside}

pub data IsFine (xs : List Shape) (a b : Shape) : Type 0 where
  touch : Meet a.rect b.rect → IsFine xs a b
  far : Apart 200 a.rect b.rect → IsFine xs a b
  excused : IsExcused xs a b → IsFine xs a b

pub no_breach : (xs : List Shape) (a b : Shape) → IsFine xs a b → IsGapBreach xs a b → ⊥
no_breach xs a b (touch h) g = g.not_touching h
no_breach xs a b (far h) g = g.too_near h
no_breach xs a b (excused h) g = g.not_excused h

excused_sym : (xs : List Shape) (a b : Shape) → In a xs → In b xs → IsExcused xs a b → IsExcused xs b a
excused_sym xs a b ha hb (one_instance i p q) = one_instance i q p
excused_sym xs a b ha hb (in_connector i n c p q h o m w v) = connector_of i n c p q h o m w v
excused_sym xs a b ha hb (connector_of i n c p q h o m w v) = in_connector i n c p q h o m w v
excused_sym xs a b ha hb (joined_first i p j) = joined_second i p (Joined_sym a b ha j)
excused_sym xs a b ha hb (joined_second i p j) = joined_first i p (Joined_sym a b ha j)
excused_sym xs a b ha hb (first_within c h m w v) = second_within c h m w v
excused_sym xs a b ha hb (second_within c h m w v) = first_within c h m w v

pub fine_sym : (xs : List Shape) (a b : Shape) → In a xs → In b xs → IsFine xs a b → IsFine xs b a
fine_sym xs a b ha hb (touch h) = touch (Meet_sym _ _ h)
fine_sym xs a b ha hb (far h) = far (Apart_sym 200 a.rect b.rect h)
fine_sym xs a b ha hb (excused h) = excused (excused_sym xs a b ha hb h)

Apart_within : (s t r : Rect) → Within s r → Apart 200 t r → Apart 200 t s
Apart_within s t r w (inl e) = inl (omega (arith, ints))
Apart_within s t r w (inr (inl e)) = inr (inl (omega (arith, ints)))
Apart_within s t r w (inr (inr (inl e))) = inr (inr (inl (omega (arith, ints))))
Apart_within s t r w (inr (inr (inr e))) = inr (inr (inr (omega (arith, ints))))

-- two boxes of the grid meet or are far apart
grid_fine : (s t : Rect) (a1 b1 a2 b2 c1 d1 c2 d2 : ℕ) → IsBox s a1 b1 a2 b2 → IsBox t c1 d1 c2 d2 → Meet s t ⊎ Apart 200 s t
grid_fine s t a1 b1 a2 b2 c1 d1 c2 d2 f g =
    ⊎_elim (λ e. inr (inl (omega (arith, ints)))) (λ e.
    ⊎_elim (λ e2. inr (inr (inl (omega (arith, ints))))) (λ e2.
    ⊎_elim (λ e3. inr (inr (inr (inl (omega (arith, ints)))))) (λ e3.
    ⊎_elim (λ e4. inr (inr (inr (inr (omega (arith, ints)))))) (λ e4. inl (omega (arith, ints)))
    (cases_lt d2 b1)) (cases_lt b2 d1)) (cases_lt c2 a1)) (cases_lt a2 c1)

-- a shape of the strap is far from the grid
strap_grid_fine : (b : Block) (owns : Plan) (n : ℕ) (u : Supply) (s t : Shape) → IsOwned owns n s → IsOnStrap b u t → Apart 200 s.rect t.rect
strap_grid_fine b owns n Vss s t f g = let a = f.box in let c = f.start in inr (inl (omega (arith, ints)))
strap_grid_fine b owns n Vdd s t f g = let a = f.box in let c = f.start in inr (inl (omega (arith, ints)))

-- two middles of rails
centres_apart : (b : Block) (u v : Supply) (y z : ℕ) → IsCentre b u y → IsCentre b v z → y < z → y + 600 ≤ z
centres_apart b u v y z f g lt =
    let c = centre_foot b u y f in let d = centre_foot b v z g in
    ⊎_elim
    (λ e. ⊎_elim (λ e2. omega arith) (λ e2. omega arith) d.side)
    (λ e. ⊎_elim (λ e2. omega arith) (λ e2. omega arith) d.side)
    c.side

straps_fine : (b : Block) (u v : Supply) (s t : Shape) → IsOnStrap b u s → IsOnStrap b v t → Meet s.rect t.rect ⊎ Apart 200 s.rect t.rect
straps_fine b Vss Vdd s t f g = inr (inl (omega (arith, ints)))
straps_fine b Vdd Vss s t f g = inr (inr (inl (omega (arith, ints))))
straps_fine b Vss Vss s t f g =
    ⊎_elim (λ e. let c = centres_apart b Vss Vss f.to g.from f.to_rail g.from_rail e in inr (inr (inr (inl (omega (arith, ints)))))) (λ e.
    ⊎_elim (λ e2. let c = centres_apart b Vss Vss g.to f.from g.to_rail f.from_rail e2 in inr (inr (inr (inr (omega (arith, ints)))))) (λ e2. inl (omega (arith, ints)))
    (cases_lt g.to f.from)) (cases_lt f.to g.from)
straps_fine b Vdd Vdd s t f g =
    ⊎_elim (λ e. let c = centres_apart b Vdd Vdd f.to g.from f.to_rail g.from_rail e in inr (inr (inr (inl (omega (arith, ints)))))) (λ e.
    ⊎_elim (λ e2. let c = centres_apart b Vdd Vdd g.to f.from g.to_rail f.from_rail e2 in inr (inr (inr (inr (omega (arith, ints)))))) (λ e2. inl (omega (arith, ints)))
    (cases_lt g.to f.from)) (cases_lt f.to g.from)

abbrev pub rail_line_at : Block → ℕ → Supply → Tagged
rail_line_at b r u = record { net = PowerNet u; line = Segment 1 600 false (pos 500) (pos (rail_y r u)) (pos (1500 + 500 * b.columns)) (pos (rail_y r u)) None }

abbrev pub rail_point : ℕ → Supply → Point
rail_point r u = record { metal = 1; x = pos 500; y = pos (rail_y r u) }

-- each row has its rails, and those of one supply are joined
pub record IsSupplied (b : Block) (ts : List Tagged) : Type 0 where
  pub rail : (r : ℕ) (u : Supply) → r < b.rows → In (rail_line_at b r u) ts
  pub one : (r k : ℕ) (u : Supply) → r < b.rows → k < b.rows → Bridge (shapes b ts) (rail_point r u) (rail_point k u)

-- the shape is joined to the point
pub record IsTied (xs : List Shape) (s : Shape) (q : Point) : Type 0 where
  pub to : Shape
  pub to_in : In to xs
  pub joined : Joined xs s to
  pub at : Point
  pub holds : Holds to at
  pub bridge : Bridge xs at q

pub tied_joined : (xs : List Shape) (s t : Shape) (q : Point) → In s xs → In t xs → IsTied xs s q → IsTied xs t q → Joined xs s t
tied_joined xs s t q hs ht f g =
    let b = Bridge_trans xs f.at q g.at f.bridge (Bridge_sym xs g.at q g.bridge) in
    let j = Joined_link s f.to b.from f.joined b.from_in (holds_link f.to b.from f.at f.holds b.from_holds) in
    Joined_trans s g.to t (Joined_link s b.to g.to (Joined_trans s b.from b.to j b.joined) g.to_in (holds_link b.to g.to g.at b.to_holds g.holds)) (Joined_sym t g.to ht g.joined)

module _ (b : Block) (owns : Plan) (ts : List Tagged) (sound : IsSound b) (plan : IsPlan b owns ts) (supplied : IsSupplied b ts) where
  -- a chain within a cell is one within its instance
  lifted : (i : ℕ) (s t : Shape) → i < b.count → In s (cell_shapes (b.cell i)) → Joined (cell_shapes (b.cell i)) s t → Joined (shapes b ts) (in_block b i s) (in_block b i t)
  lifted i s t lt h same = same
  lifted i s t lt h (link {b = d} k l j) = link (instance_in b ts i d lt k) (moved_link l) (lifted i d t lt k j)
    where
      moved_link : Linked s d → Linked (in_block b i s) (in_block b i d)
      moved_link (touching m g) = touching m (meet_in_block b i s d g)
      moved_link (one_line o e) = one_line refl e
      moved_link (one_name o n p q) = one_name refl n p q

  -- along a rail
  pub along_rail : (r : ℕ) (u : Supply) (x : ℕ) → r < b.rows → 500 ≤ x → x ≤ 1500 + 500 * b.columns → Bridge (shapes b ts) (record { metal = 1; x = pos x; y = pos (rail_y r u) }) (rail_point r u)
  along_rail r u x lt le ge =
      segment_bridge b ts (PowerNet u) 1 600 false (pos 500) (pos (rail_y r u)) (pos (1500 + 500 * b.columns)) (pos (rail_y r u)) (record { metal = 1; x = pos x; y = pos (rail_y r u) }) (rail_point r u) (supplied.rail r u lt) refl refl
      (omega (arith, ints)) (omega (arith, ints)) (omega (arith, ints)) (omega (arith, ints)) (omega (arith, ints)) (omega (arith, ints)) (omega (arith, ints)) (omega (arith, ints))

  -- a shape that its cell joins to a supply is joined to the rail
  cell_tied : (i : ℕ) (s : Shape) (u : Supply) → i < b.count → In s (cell_shapes (b.cell i)) → IsJoinedTo (b.cell i) s (Power u) → IsTied (shapes b ts) (in_block b i s) (rail_point (b.row i) u)
  cell_tied i s u lt h k =
      let a = strip_at b ts sound i u lt in
      let w = (sound.cells i lt).wide in let st = sound.start i lt in let d = sound.end i lt in
      let l : Linked (in_block b i k.pin) a.shape = one_name (sym a.of.0) (Power u) k.named a.of.1 in
      record {
        to = a.shape;
        to_in = a.within;
        joined = Joined_link (in_block b i s) (in_block b i k.pin) a.shape (Joined_sym (in_block b i k.pin) (in_block b i s) (instance_in b ts i k.pin lt k.within) (lifted i k.pin s lt k.within k.joined)) a.within l;
        at = record { metal = 1; x = pos (500 * b.column i + 250); y = pos (rail_y (b.row i) u) };
        holds = a.holds;
        bridge = along_rail (b.row i) u (500 * b.column i + 250) (sound.row i lt) (omega arith) (omega arith);
      }

  other_rail : (s : Shape) (r k : ℕ) (u : Supply) → r < b.rows → k < b.rows → IsTied (shapes b ts) s (rail_point r u) → IsTied (shapes b ts) s (rail_point k u)
  other_rail s r k u hr hk f =
      record { to = f.to; to_in = f.to_in; joined = f.joined; at = f.at; holds = f.holds; bridge = Bridge_trans (shapes b ts) f.at (rail_point r u) (rail_point k u) f.bridge (supplied.one r k u hr hk) }

  -- so is a shape of a rail
  rail_tied : (s : Shape) (u : Supply) → In s (shapes b ts) → (f : IsOnRail b u s) → IsTied (shapes b ts) s (rail_point f.rail.row u)
  rail_tied s u h f = ⊎_elim full pad f.size
    where
      e : f.y ≡ rail_y f.rail.row u
      e = f.rail.is

      full : IsFull f.y s.rect → IsTied (shapes b ts) s (rail_point f.rail.row u)
      full g = record {
        to = s;
        to_in = h;
        joined = same;
        at = rail_point f.rail.row u;
        holds = record { metal = f.metal; left = g.x1; right = g.x2; low = omega (arith, ints); high = omega (arith, ints) };
        bridge = along_rail f.rail.row u 500 f.rail.within (omega arith) (omega arith);
      }

      pad : IsRailPad u f.y s.rect → IsTied (shapes b ts) s (rail_point f.rail.row u)
      pad g = record {
        to = s;
        to_in = h;
        joined = same;
        at = record { metal = 1; x = at_x (strap_column u); y = pos (rail_y f.rail.row u) };
        holds = record { metal = f.metal; left = left u g.x1; right = right u g.x2; low = omega (arith, ints); high = omega (arith, ints) };
        bridge = along_rail f.rail.row u (500 * strap_column u) f.rail.within (start u) (end u);
      }
        where
          left : (u : Supply) → s.rect.x1 ≡ at_x (strap_column u) -ℤ pos 100 → s.rect.x1 ≤ℤ at_x (strap_column u)
          left u a = omega (arith, ints)

          right : (u : Supply) → s.rect.x2 ≡ at_x (strap_column u) +ℤ pos 100 → at_x (strap_column u) ≤ℤ s.rect.x2
          right u a = omega (arith, ints)

          start : (u : Supply) → 500 ≤ 500 * strap_column u
          start Vss = omega arith
          start Vdd = omega arith

          end : (u : Supply) → 500 * strap_column u ≤ 1500 + 500 * b.columns
          end Vss = omega arith
          end Vdd = omega arith

  -- shapes of instances
  inst_inst : (s t : Shape) → In s (shapes b ts) → In t (shapes b ts) → IsOfInstance b s → IsOfInstance b t → IsFine (shapes b ts) s t
  inst_inst s t hs ht f g =
      ⊎_elim
      (λ i. excused (one_instance f.i (ap (λ v. v.owner) f.is) (ap (λ v. v.owner) g.is ∙ ap Some (sym i))))
      (⊎_elim
      (λ a. far (subst (λ v. Apart 200 v.rect t.rect) (sym f.is) (subst (λ v. Apart 200 (rect_at b f.i f.inner) v.rect) (sym g.is) a)))
      (λ n. let u = supply_at n.0 in
      let p = subst (λ v. IsTied (shapes b ts) v (rail_point (b.row g.i) u)) (sym f.is) (other_rail (in_block b f.i f.inner) (b.row f.i) (b.row g.i) u (sound.row f.i f.instance) (sound.row g.i g.instance) (cell_tied f.i f.inner u f.instance f.within (near_supply b f.i n.0 f.inner sound f.instance f.within n.1))) in
      let q = subst (λ v. IsTied (shapes b ts) v (rail_point (b.row g.i) u)) (sym g.is) (cell_tied g.i g.inner u g.instance g.within (near_supply b g.i n.0 g.inner sound g.instance g.within n.2)) in
      excused (joined_first f.i (ap (λ v. v.owner) f.is) (tied_joined (shapes b ts) s t (rail_point (b.row g.i) u) hs ht p q))))
      (instances_far b f.i g.i f.inner g.inner sound f.instance g.instance f.within g.within)

  inst_rail : (s t : Shape) (u : Supply) → In s (shapes b ts) → In t (shapes b ts) → IsOfInstance b s → IsOnRail b u t → IsFine (shapes b ts) s t
  inst_rail s t u hs ht f g =
      let h = on_rail_foot b u t g in
      ⊎_elim
      (λ a. far (subst (λ v. Apart 200 v.rect t.rect) (sym f.is) (Apart_sym 200 t.rect (rect_at b f.i f.inner) a)))
      (λ n. let k = subst (λ v. IsJoinedTo (b.cell f.i) f.inner (Power v)) h.1 (near_supply b f.i h.0 f.inner sound f.instance f.within n) in
      let p = subst (λ v. IsTied (shapes b ts) v (rail_point g.rail.row u)) (sym f.is) (other_rail (in_block b f.i f.inner) (b.row f.i) g.rail.row u (sound.row f.i f.instance) g.rail.within (cell_tied f.i f.inner u f.instance f.within k)) in
      excused (joined_first f.i (ap (λ v. v.owner) f.is) (tied_joined (shapes b ts) s t (rail_point g.rail.row u) hs ht p (rail_tied t u ht g))))
      (foot_or_apart h.0 t.rect (rect_at b f.i f.inner) h.2)

  -- the pin below a pad, which isn't near the foot of a row
  pad_pin : (n : ℕ) (s : Shape) → (f : IsPinPad b n s) → (pin : Shape) × In pin (cell_shapes (b.cell f.i)) × (pin.name ≡ Some (Bit f.p)) × Within s.rect (rect_at b f.i pin)
  pad_pin n s f =
      let ok = sound.cells f.i f.instance in let a = ok.access f.p f.pin in let w = a.holds in
      let r = pin_inside (b.cell f.i) f.p ok f.pin in
      (a.pin, a.within, a.named, pad_within (supply_at (b.row f.i)) (b.row f.i) (b.column f.i) ((b.cell f.i).column f.p) ((b.cell f.i).row f.p) a.pin s.rect w r.2 f.box)

  pin_not_near : (i j p : ℕ) (pin : Shape) → i < b.count → In pin (cell_shapes (b.cell i)) → pin.name ≡ Some (Bit p) → IsNear j (rect_at b i pin) → ⊥
  pin_not_near i j p pin lt h e n =
      let q : Bit p ≡ Power (supply_at j) = (sound.cells i lt).apart pin (Bit p) (Power (supply_at j)) (record { pin = pin; within = h; named = e; joined = same }) (near_supply b i j pin sound lt h n) in cc

  inst_pin : (s t : Shape) (n : ℕ) → IsOfInstance b s → t.owner ≡ None → IsPinPad b n t → IsFine (shapes b ts) s t
  inst_pin s t n f o g =
      let r = pad_pin n t g in
      ⊎_elim
      (λ i. let own : s.owner ≡ Some g.i = ap (λ v. v.owner) f.is ∙ ap Some i in
      excused (connector_of g.i (Bit g.p) (in_block b g.i r.0) o own (instance_in b ts g.i r.0 g.instance r.1) refl r.2 ((sound.cells g.i g.instance).metal r.0 r.1 ∙ sym g.metal) r.3))
      (⊎_elim
      (λ a. far (subst (λ v. Apart 200 v.rect t.rect) (sym f.is) (Apart_within t.rect (rect_at b f.i f.inner) (rect_at b g.i r.0) r.3 a)))
      (λ m. absurd (pin_not_near g.i m.0 g.p r.0 g.instance r.1 r.2 m.2)))
      (instances_far b f.i g.i f.inner r.0 sound f.instance g.instance f.within r.1)

  rail_pin : (s t : Shape) (u : Supply) (n : ℕ) → IsOnRail b u s → IsPinPad b n t → IsFine (shapes b ts) s t
  rail_pin s t u n f g =
      let r = pad_pin n t g in let h = on_rail_foot b u s f in
      ⊎_elim
      (λ a. far (Apart_within t.rect s.rect (rect_at b g.i r.0) r.3 a))
      (λ m. absurd (pin_not_near g.i h.0 g.p r.0 g.instance r.1 r.2 m))
      (foot_or_apart h.0 s.rect (rect_at b g.i r.0) h.2)

  -- the shape of a rail
  rail_shape : (r : ℕ) (u : Supply) → r < b.rows → (w : Shape) × In w (shapes b ts) × (w.metal ≡ 1) × (w.rect.x1 ≡ pos 400) × (w.rect.x2 ≡ pos (1600 + 500 * b.columns)) × (w.rect.y1 ≡ pos (rail_y r u) -ℤ pos 300) × (w.rect.y2 ≡ pos (rail_y r u) +ℤ pos 300)
  rail_shape r u lt =
      let k = In_drawn 0 ts (rail_line_at b r u) (supplied.rail r u lt) in
      let w : Shape = record { metal = 1; rect = line_rect false 300 300 (pos 500) (pos (rail_y r u)) (pos (1500 + 500 * b.columns)) (pos (rail_y r u)); owner = None; line = k.0; name = None } in
      (w, In_left (drawn_shapes 0 (map line_of ts)) (instance_shapes b) w (k.1 w (inl refl)), refl, omega (arith, ints), omega (arith, ints), refl, refl)

  full_full : (s t : Shape) (u v : Supply) (y z : ℕ) → IsCentre b u y → IsCentre b v z → y ≤ z → IsFull y s.rect → IsFull z t.rect → Meet s.rect t.rect ⊎ Apart 200 s.rect t.rect
  full_full s t u v y z f g le p q =
      let c = centre_foot b u y f in let d = centre_foot b v z g in
      ⊎_elim
      (λ e. inl (omega (arith, ints)))
      (λ e. ⊎_elim
      (λ e1. ⊎_elim (λ e2. inr (inr (inr (inl (omega (arith, ints)))))) (λ e2. inr (inr (inr (inl (omega (arith, ints)))))) d.side)
      (λ e1. ⊎_elim (λ e2. inr (inr (inr (inl (omega (arith, ints)))))) (λ e2. inr (inr (inr (inl (omega (arith, ints)))))) d.side)
      c.side)
      (cases_lt z (y + 601))

  -- a pad of a rail and something on a rail of another height
  full_pad : (s t : Shape) (u v : Supply) (y z : ℕ) → In s (shapes b ts) → In t (shapes b ts) → s.metal ≡ 1 → t.metal ≡ 1 → IsCentre b u y → IsCentre b v z → IsFull y s.rect → IsRailPad v z t.rect → IsFine (shapes b ts) s t
  full_pad s t u v y z hs ht ms mt f g p q =
      ⊎_elim
      (λ e. let c = centres_apart b u v y z f g e in far (inr (inr (inl (omega (arith, ints))))))
      (λ e. ⊎_elim
      (λ e2. let c = centres_apart b v u z y g f e2 in far (inr (inr (inr (omega (arith, ints))))))
      (λ e2. let w = rail_shape g.row v g.within in
      let i = g.is in
      excused (second_within w.0 w.1 (w.2 ∙ sym mt) (within v w.0 q i w.3 w.4 w.5 w.6) (meets w.0 i w.3 w.4 w.5 w.6 (omega arith))))
      (cases_lt z y))
      (cases_lt y z)
    where
      within : (v : Supply) (w : Shape) → IsRailPad v z t.rect → z ≡ rail_y g.row v → w.rect.x1 ≡ pos 400 → w.rect.x2 ≡ pos (1600 + 500 * b.columns) → w.rect.y1 ≡ pos (rail_y g.row v) -ℤ pos 300 → w.rect.y2 ≡ pos (rail_y g.row v) +ℤ pos 300 → Within t.rect w.rect
      within Vss w q i a1 a2 a3 a4 = omega (arith, ints)
      within Vdd w q i a1 a2 a3 a4 = omega (arith, ints)

      meets : (w : Shape) → z ≡ rail_y g.row v → w.rect.x1 ≡ pos 400 → w.rect.x2 ≡ pos (1600 + 500 * b.columns) → w.rect.y1 ≡ pos (rail_y g.row v) -ℤ pos 300 → w.rect.y2 ≡ pos (rail_y g.row v) +ℤ pos 300 → y ≡ z → Meet w.rect s.rect
      meets w i a1 a2 a3 a4 e = omega (arith, ints)

  pad_pad : (s t : Rect) (u v : Supply) (y z : ℕ) → IsCentre b u y → IsCentre b v z → y ≤ z → IsRailPad u y s → IsRailPad v z t → Meet s t ⊎ Apart 200 s t
  pad_pad s t Vss Vdd y z f g le p q = inr (inl (omega (arith, ints)))
  pad_pad s t Vdd Vss y z f g le p q = inr (inr (inl (omega (arith, ints))))
  pad_pad s t Vss Vss y z f g le p q =
      ⊎_elim (λ e. let c = centres_apart b Vss Vss y z f g e in inr (inr (inr (inl (omega (arith, ints)))))) (λ e. inl (omega (arith, ints))) (cases_lt y z)
  pad_pad s t Vdd Vdd y z f g le p q =
      ⊎_elim (λ e. let c = centres_apart b Vdd Vdd y z f g e in inr (inr (inr (inl (omega (arith, ints)))))) (λ e. inl (omega (arith, ints))) (cases_lt y z)

  fine_of : (s t : Shape) → Meet s.rect t.rect ⊎ Apart 200 s.rect t.rect → IsFine (shapes b ts) s t
  fine_of s t h = ⊎_elim (λ a. touch a) (λ a. far a) h

  rail_rail : (s t : Shape) (u v : Supply) → In s (shapes b ts) → In t (shapes b ts) → IsOnRail b u s → IsOnRail b v t → IsFine (shapes b ts) s t
  rail_rail s t u v hs ht f g =
      ⊎_elim
      (λ p. ⊎_elim
      (λ q. ⊎_elim
      (λ lt. fine_of s t (full_full s t u v f.y g.y f.rail g.rail (omega arith) p q))
      (λ ge. fine_sym (shapes b ts) t s ht hs (fine_of t s (full_full t s v u g.y f.y g.rail f.rail ge q p)))
      (cases_lt f.y g.y))
      (λ q. full_pad s t u v f.y g.y hs ht f.metal g.metal f.rail g.rail p q)
      g.size)
      (λ p. ⊎_elim
      (λ q. fine_sym (shapes b ts) t s ht hs (full_pad t s v u g.y f.y ht hs g.metal f.metal g.rail f.rail q p))
      (λ q. ⊎_elim
      (λ lt. fine_of s t (pad_pad s.rect t.rect u v f.y g.y f.rail g.rail (omega arith) p q))
      (λ ge. fine_sym (shapes b ts) t s ht hs (fine_of t s (pad_pad t.rect s.rect v u g.y f.y g.rail f.rail ge q p)))
      (cases_lt f.y g.y))
      g.size)
      f.size

  -- two drawn shapes
  line_line : (s t : Shape) (n k : Net) → In s (shapes b ts) → In t (shapes b ts) → s.metal ≡ t.metal → FitsShape b owns s n → FitsShape b owns t k → IsFine (shapes b ts) s t
  line_line s t n k hs ht m (above f) (above g) = fine_of s t (grid_fine s.rect t.rect _ _ _ _ _ _ _ _ f.box g.box)
  line_line s t n k hs ht m (above {n = d} f) (on_strap {u = v} g) = far (strap_grid_fine b owns d v s t f g)
  line_line s t n k hs ht m (above f) (on_pin g) = absurd (let a = f.high in let c = g.metal in omega arith)
  line_line s t n k hs ht m (above f) (on_rail g) = absurd (let a = f.high in let c = g.metal in omega arith)
  line_line s t n k hs ht m (on_strap {u = u} f) (above {n = d} g) = far (Apart_sym 200 t.rect s.rect (strap_grid_fine b owns d u t s g f))
  line_line s t n k hs ht m (on_strap {u = u} f) (on_strap {u = v} g) = fine_of s t (straps_fine b u v s t f g)
  line_line s t n k hs ht m (on_strap f) (on_pin g) = absurd (let a = f.high in let c = g.metal in omega arith)
  line_line s t n k hs ht m (on_strap f) (on_rail g) = absurd (let a = f.high in let c = g.metal in omega arith)
  line_line s t n k hs ht m (on_pin f) (above g) = absurd (let a = g.high in let c = f.metal in omega arith)
  line_line s t n k hs ht m (on_pin f) (on_strap g) = absurd (let a = g.high in let c = f.metal in omega arith)
  line_line s t n k hs ht m (on_pin f) (on_pin g) = fine_of s t (grid_fine s.rect t.rect _ _ _ _ _ _ _ _ f.box g.box)
  line_line s t n k hs ht m (on_pin {n = d} f) (on_rail {u = v} g) = fine_sym (shapes b ts) t s ht hs (rail_pin t s v d g f)
  line_line s t n k hs ht m (on_rail f) (above g) = absurd (let a = g.high in let c = f.metal in omega arith)
  line_line s t n k hs ht m (on_rail f) (on_strap g) = absurd (let a = g.high in let c = f.metal in omega arith)
  line_line s t n k hs ht m (on_rail {u = u} f) (on_pin {n = d} g) = rail_pin s t u d f g
  line_line s t n k hs ht m (on_rail {u = u} f) (on_rail {u = v} g) = rail_rail s t u v hs ht f g

  inst_line : (s t : Shape) (k : Net) → In s (shapes b ts) → In t (shapes b ts) → s.metal ≡ t.metal → IsOfInstance b s → t.owner ≡ None → FitsShape b owns t k → IsFine (shapes b ts) s t
  inst_line s t k hs ht m f o (above g) = absurd (let a = g.high in let c : s.metal ≡ 1 = ap (λ v. v.metal) f.is ∙ (sound.cells f.i f.instance).metal f.inner f.within in omega arith)
  inst_line s t k hs ht m f o (on_strap g) = absurd (let a = g.high in let c : s.metal ≡ 1 = ap (λ v. v.metal) f.is ∙ (sound.cells f.i f.instance).metal f.inner f.within in omega arith)
  inst_line s t k hs ht m f o (on_pin {n = d} g) = inst_pin s t d f o g
  inst_line s t k hs ht m f o (on_rail {u = u} g) = inst_rail s t u hs ht f g

  fine : (s t : Shape) → In s (shapes b ts) → In t (shapes b ts) → s.metal ≡ t.metal → Kind b owns ts s → Kind b owns ts t → IsFine (shapes b ts) s t
  fine s t hs ht m (of_line f) (of_line g) = line_line s t f.tagged.net g.tagged.net hs ht m f.fits g.fits
  fine s t hs ht m (of_line f) (of_instance g) = fine_sym (shapes b ts) t s ht hs (inst_line t s f.tagged.net ht hs (sym m) g f.owner f.fits)
  fine s t hs ht m (of_instance f) (of_line g) = inst_line s t g.tagged.net hs ht m f g.owner g.fits
  fine s t hs ht m (of_instance f) (of_instance g) = inst_inst s t hs ht f g

  pub no_gap_breach : HasNoGapBreach (shapes b ts)
  no_gap_breach s t hs ht g = no_breach (shapes b ts) s t (fine s t hs ht g.metal (kind b owns ts sound plan s hs) (kind b owns ts sound plan t ht)) g

  wide_enough : (s : Shape) (n : Net) → FitsShape b owns s n → ((s.rect.x1 +ℤ pos 200) ≤ℤ s.rect.x2) × ((s.rect.y1 +ℤ pos 200) ≤ℤ s.rect.y2)
  wide_enough s n (above f) = let a = f.box in omega (arith, ints)
  wide_enough s n (on_pin f) = let a = f.box in omega (arith, ints)
  wide_enough s n (on_strap {u = Vss} f) = omega (arith, ints)
  wide_enough s n (on_strap {u = Vdd} f) = omega (arith, ints)
  wide_enough s n (on_rail {u = Vss} f) = ⊎_elim (λ g. omega (arith, ints)) (λ g. omega (arith, ints)) f.size
  wide_enough s n (on_rail {u = Vdd} f) = ⊎_elim (λ g. omega (arith, ints)) (λ g. omega (arith, ints)) f.size

  no_width : (s : Shape) → Kind b owns ts s → IsWidthBreach s → ⊥
  no_width s (of_line f) g = let a = wide_enough s f.tagged.net f.fits in ⊎_elim (λ e. omega (arith, ints)) (λ e. omega (arith, ints)) g.narrow
  no_width s (of_instance f) g = no_owner b owns ts sound plan s f g.drawn

  pub no_breach_at_all : HasNoBreach (shapes b ts)
  no_breach_at_all = record { width = λ s h g. no_width s (kind b owns ts sound plan s h) g; gap = no_gap_breach }
