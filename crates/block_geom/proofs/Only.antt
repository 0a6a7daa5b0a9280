-- Joined terminals have one net, for any drawing that fits a plan.
use Rattle.std.proofs.Common.{◌≡◌, ℕ, ◌+◌, ◌*◌, ◌<◌, ◌≤◌, ◌⊎◌, inl, inr, ⊎_elim, List, map, Some, None, refl, sym, ap, ◌∙◌, subst, arith, max}
use Rattle.std.specs.Prelude.{pos, slice_get}
use Rattle.std.proofs.lemmas.Int.{ints}
use Rattle.block_geom.specs.Rect.{Rect, Meet, Within}
use Rattle.block_geom.specs.Figure.{Supply, Vss, Vdd, Shape, Name, Power, Bit, drawn_shapes, square, In}
use Rattle.block_geom.specs.Joined.{Linked, touching, one_line, one_name, same}
use Rattle.block_geom.specs.Block.{Block, cell_shapes, IsJoinedTo, IsSound, Net, PowerNet, Signal, Tagged, at_x, supply_at, is_vdd, turned_row, in_block, instance_shapes, shapes, Terminal, AtPort, AtPin, pin_net, net_of, IsOf, AreJoined}
use Rattle.block_geom.proofs.Rects.{Meet_sym, within_meets}
use Rattle.block_geom.proofs.Lists.{In_append_cases, In_up_to_cases, In_map_cases, In_drawn_cases, line_owner, line_number, line_of}
use Rattle.block_geom.proofs.Chains.{Joined_link, Joined_keeps}
use Rattle.block_geom.proofs.Plan.{Plan, IsBox, IsOwned, IsPinPad, IsInFoot, IsOnStrap, FitsShape, above, on_pin, on_strap, on_rail, IsPlan, IsOfInstance, IsOfLine, Kind, of_line, of_instance}
use Rattle.block_geom.proofs.Cells.{IsNear, heights, in_row, rect_at, instances_far, near_supply, apart_not, foot_or_apart, meet_in_cell, on_rail_foot}

boxes_meet : (s t : Rect) (a1 b1 a2 b2 c1 d1 c2 d2 : ℕ) → IsBox s a1 b1 a2 b2 → IsBox t c1 d1 c2 d2 → Meet s t → (a1 ≤ c2) × (c1 ≤ a2) × (b1 ≤ d2) × (d1 ≤ b2)
boxes_meet s t a1 b1 a2 b2 c1 d1 c2 d2 f g h = omega (arith, ints)

-- two boxes of the grid that meet have a place in common
pub common_place : (owns : Plan) (n k : ℕ) (s t : Shape) → IsOwned owns n s → IsOwned owns k t → Meet s.rect t.rect → (c : ℕ) × (r : ℕ) × owns s.metal c r n × owns t.metal c r k
common_place owns n k s t f g h =
    let cs : (f.c1 ≤ g.c2) × (g.c1 ≤ f.c2) × (f.r1 ≤ g.r2) × (g.r1 ≤ f.r2) = boxes_meet s.rect t.rect _ _ _ _ _ _ _ _ f.box g.box h in
    let c = max f.c1 g.c1 in let r = max f.r1 g.r1 in
    let u1 : c ≤ f.c2 = omega arith in let u2 : c ≤ g.c2 = omega arith in
    let v1 : r ≤ f.r2 = omega arith in let v2 : r ≤ g.r2 = omega arith in
    (c, r, f.owned c r (omega arith) u1 (omega arith) v1, g.owned c r (omega arith) u2 (omega arith) v2)

-- ---- what lies on metal 1 stands for a shape of a cell or lies at the foot of a row

pub record StandsFor (b : Block) (s : Shape) : Type 0 where
  pub i : ℕ
  pub instance : i < b.count
  pub inner : Shape
  pub within : In inner (cell_shapes (b.cell i))
  pub covers : (t : Rect) → Meet s.rect t → Meet (rect_at b i inner) t

pub data Base (b : Block) (s : Shape) : Type 0 where
  on_cell : StandsFor b s → Base b s
  at_foot : (j : ℕ) → IsInFoot j s.rect → Base b s

-- it has the net
abbrev pub HasNet : (b : Block) (s : Shape) → Base b s → Net → Type 0
HasNet b s (on_cell f) n = (m : Name) × IsJoinedTo (b.cell f.i) f.inner m × (pin_net b f.i m ≡ n)
HasNet b s (at_foot j f) n = PowerNet (supply_at j) ≡ n

feet_meet : (j k : ℕ) (r t : Rect) → IsInFoot j r → IsInFoot k t → Meet r t → j ≡ k
feet_meet j k r t f g h = omega (arith, ints)

-- the pad at an access node lies within its pin
pub pad_within : (u : Supply) (j x c r : ℕ) (pin : Shape) (s : Rect) → Within (square 100 100 (pos (500 * c)) (pos (500 * r))) pin.rect → r ≤ 10 → IsBox s (x + c) (10 * j + turned_row (is_vdd u) r) (x + c) (10 * j + turned_row (is_vdd u) r) → Within s (in_row u (at_x x) j pin)
pad_within Vss j x c r pin s w le f = omega (arith, ints)
pad_within Vdd j x c r pin s w le f = omega (arith, ints)

-- above metal 1, with its net
pub data High (b : Block) (owns : Plan) (s : Shape) : Net → Type 0 where
  owned : {n : ℕ} → IsOwned owns n s → High b owns s (Signal n)
  strap : {u : Supply} → IsOnStrap b u s → High b owns s (PowerNet u)

high_metal : (b : Block) (owns : Plan) (s : Shape) (n : Net) → High b owns s n → 2 ≤ s.metal
high_metal b owns s n (owned f) = f.high
high_metal b owns s n (strap f) = f.high

straps_meet : (b : Block) (u v : Supply) (s t : Shape) → IsOnStrap b u s → IsOnStrap b v t → Meet s.rect t.rect → u ≡ v
straps_meet b Vss Vss s t f g h = refl
straps_meet b Vdd Vdd s t f g h = refl
straps_meet b Vss Vdd s t f g h = absurd (omega (arith, ints))
straps_meet b Vdd Vss s t f g h = absurd (omega (arith, ints))

pub strap_off_grid : (b : Block) (owns : Plan) (n : ℕ) (u : Supply) (s t : Shape) → IsOwned owns n s → IsOnStrap b u t → Meet s.rect t.rect → ⊥
strap_off_grid b owns n Vss s t f g h = let a = f.box in let c = f.start in omega (arith, ints)
strap_off_grid b owns n Vdd s t f g h = let a = f.box in let c = f.start in omega (arith, ints)

high_meet : (b : Block) (owns : Plan) (s t : Shape) (n k : Net) → ((m c r n k : ℕ) → owns m c r n → owns m c r k → n ≡ k) → High b owns s n → High b owns t k → s.metal ≡ t.metal → Meet s.rect t.rect → n ≡ k
high_meet b owns s t n k one (owned {n = a} f) (owned {n = d} g) m h =
    let r = common_place owns a d s t f g h in
    ap Signal (one t.metal r.0 r.1 a d (subst (λ v. owns v r.0 r.1 a) m r.2) r.3)
high_meet b owns s t n k one (owned {n = a} f) (strap {u = u} g) m h = absurd (strap_off_grid b owns a u s t f g h)
high_meet b owns s t n k one (strap {u = u} f) (owned {n = d} g) m h = absurd (strap_off_grid b owns d u t s g f (Meet_sym _ _ h))
high_meet b owns s t n k one (strap {u = u} f) (strap {u = v} g) m h = ap PowerNet (straps_meet b u v s t f g h)

-- on metal 1, with its net
pub record IsLow (b : Block) (s : Shape) (n : Net) : Type 0 where
  pub metal : s.metal ≡ 1
  pub base : Base b s
  pub has : HasNet b s base n

-- ---- a shape and its net

pub data Belongs (b : Block) (owns : Plan) (ts : List Tagged) (s : Shape) (n : Net) : Type 0 where
  by_line : (f : IsOfLine b owns ts s) → f.tagged.net ≡ n → Belongs b owns ts s n
  by_instance : (f : IsOfInstance b s) (m : Name) → IsJoinedTo (b.cell f.i) f.inner m → pin_net b f.i m ≡ n → Belongs b owns ts s n

-- what touches a shape of metal 1 with the net has it
pub record IsLowTarget (b : Block) (owns : Plan) (ts : List Tagged) (s : Shape) : Type 0 where
  pub metal : s.metal ≡ 1
  pub base : Base b s
  pub then : (n : Net) → HasNet b s base n → Belongs b owns ts s n

abbrev pub Target : Block → Plan → List Tagged → Shape → Type 0
Target b owns ts s = ((k : Net) × High b owns s k × Belongs b owns ts s k) ⊎ IsLowTarget b owns ts s

module _ (b : Block) (sound : IsSound b) where
  -- in one cell, a link leads on
  pub joined_on : (i k : ℕ) (s t : Shape) (m : Name) → i ≡ k → In t (cell_shapes (b.cell k)) → Linked s t → IsJoinedTo (b.cell i) s m → IsJoinedTo (b.cell k) t m × (pin_net b k m ≡ pin_net b i m)
  joined_on i k s t m e h l j =
      let j' : IsJoinedTo (b.cell k) s m = subst (λ v. IsJoinedTo (b.cell v) s m) e j in
      (record { pin = j'.pin; within = j'.within; named = j'.named; joined = Joined_link j'.pin s t j'.joined h l }, ap (λ v. pin_net b v m) (sym e))

  touching_link : (i k : ℕ) (s t : Shape) → i < b.count → i ≡ k → In s (cell_shapes (b.cell i)) → In t (cell_shapes (b.cell k)) → Meet (rect_at b i s) (rect_at b k t) → Linked s t
  touching_link i k s t lt e hs ht h =
      let ht' : In t (cell_shapes (b.cell i)) = subst (λ v. In t (cell_shapes (b.cell v))) (sym e) ht in
      let h' : Meet (rect_at b i s) (rect_at b i t) = subst (λ v. Meet (rect_at b i s) (rect_at b v t)) (sym e) h in
      let ok = sound.cells i lt in
      touching (ok.metal s hs ∙ sym (ok.metal t ht')) (meet_in_cell b i s t h')

  -- a shape that is joined to a pin and is near the foot of row j is that of the supply there
  power_of : (i j : ℕ) (s : Shape) (m : Name) → i < b.count → In s (cell_shapes (b.cell i)) → IsNear j (rect_at b i s) → IsJoinedTo (b.cell i) s m → pin_net b i m ≡ PowerNet (supply_at j)
  power_of i j s m lt h n k =
      ap (pin_net b i) ((sound.cells i lt).apart s m (Power (supply_at j)) k (near_supply b i j s sound lt h n))

  -- rectangles of metal 1 that meet have one net
  pub bases_meet : (s t : Shape) (n : Net) (p : Base b s) (q : Base b t) → Meet s.rect t.rect → HasNet b s p n → HasNet b t q n
  bases_meet s t n (on_cell f) (on_cell g) h (m, j, e) =
      let a : Meet (rect_at b f.i f.inner) (rect_at b g.i g.inner) = Meet_sym _ _ (g.covers _ (Meet_sym _ _ (f.covers _ h))) in
      ⊎_elim
      (λ i. let r = joined_on f.i g.i f.inner g.inner m i g.within (touching_link f.i g.i f.inner g.inner f.instance i f.within g.within a) j in (m, r.0, r.1 ∙ e))
      (⊎_elim
      (λ far. absurd (apart_not _ _ far a))
      (λ near. (Power (supply_at near.0), near_supply b g.i near.0 g.inner sound g.instance g.within near.2, sym (power_of f.i near.0 f.inner m f.instance f.within near.1 j) ∙ e)))
      (instances_far b f.i g.i f.inner g.inner sound f.instance g.instance f.within g.within)
  bases_meet s t n (on_cell f) (at_foot k g) h (m, j, e) =
      ⊎_elim
      (λ far. absurd (apart_not _ _ far (Meet_sym _ _ (f.covers _ h))))
      (λ near. sym (power_of f.i k f.inner m f.instance f.within near j) ∙ e)
      (foot_or_apart k t.rect (rect_at b f.i f.inner) g)
  bases_meet s t n (at_foot j f) (on_cell g) h e =
      ⊎_elim
      (λ far. absurd (apart_not _ _ far (Meet_sym _ _ (g.covers _ (Meet_sym _ _ h)))))
      (λ near. (Power (supply_at j), near_supply b g.i j g.inner sound g.instance g.within near, e))
      (foot_or_apart j s.rect (rect_at b g.i g.inner) f)
  bases_meet s t n (at_foot j f) (at_foot k g) h e =
      ap (λ v. PowerNet (supply_at v)) (sym (feet_meet j k s.rect t.rect f g h)) ∙ e

  abbrev pub pad_stands : (n : ℕ) (s : Shape) → IsPinPad b n s → StandsFor b s
  pad_stands n s f =
      let ok = sound.cells f.i f.instance in
      let a = ok.access f.p f.pin in
      let hs = heights (b.cell f.i) a.pin ok a.within in
      let w = a.holds in
      let le : (b.cell f.i).row f.p ≤ 10 = omega (arith, ints) in
      record {
        i = f.i;
        instance = f.instance;
        inner = a.pin;
        within = a.within;
        covers = λ t h. within_meets s.rect (rect_at b f.i a.pin) t (pad_within (supply_at (b.row f.i)) (b.row f.i) (b.column f.i) ((b.cell f.i).column f.p) ((b.cell f.i).row f.p) a.pin s.rect w le f.box) h;
      }

  pub pad_joined : (n : ℕ) (s : Shape) (f : IsPinPad b n s) → IsJoinedTo (b.cell f.i) (pad_stands n s f).inner (Bit f.p)
  pad_joined n s f =
      let a = (sound.cells f.i f.instance).access f.p f.pin in
      record { pin = a.pin; within = a.within; named = a.named; joined = same }

  abbrev instance_stands : (s : Shape) → IsOfInstance b s → StandsFor b s
  instance_stands s f = record { i = f.i; instance = f.instance; inner = f.inner; within = f.within; covers = λ t h. subst (λ v. Meet v t) (ap (λ v. v.rect) f.is) h }

module _ (b : Block) (owns : Plan) (ts : List Tagged) (sound : IsSound b) (plan : IsPlan b owns ts) where
  pub kind : (s : Shape) → In s (shapes b ts) → Kind b owns ts s
  kind s h =
      ⊎_elim
      (λ g. let r = In_drawn_cases 0 ts s g in
      let f = plan.fits r.tagged r.among in
      let e : s.line ≡ r.place = line_number (0 + r.place) r.tagged.line s r.shape ∙ omega arith in
      of_line (record {
        tagged = r.tagged;
        at = subst (λ k. slice_get ts k ≡ Some r.tagged) (sym e) r.at;
        owner = line_owner (0 + r.place) r.tagged.line s r.shape;
        fits = f.shapes (0 + r.place) s r.shape;
        names = λ m e. f.names (0 + r.place) s m r.shape e;
        ports = λ m e. f.ports (0 + r.place) s m r.shape e;
      }))
      (λ g. let r = In_up_to_cases b.count (λ i. map (in_block b i) (cell_shapes (b.cell i))) s g in
      let q = In_map_cases (in_block b r.0) (cell_shapes (b.cell r.0)) s r.2 in
      of_instance (record { i = r.0; instance = r.1; inner = q.0; within = q.1; is = q.2 }))
      (In_append_cases (drawn_shapes 0 (map line_of ts)) (instance_shapes b) s h)

  line_start : (s : Shape) (k n : Net) → FitsShape b owns s k → k ≡ n → High b owns s n ⊎ IsLow b s n
  line_start s k n (above f) e = inl (subst (High b owns s) e (owned f))
  line_start s k n (on_pin {n = d} f) e =
      inr (record { metal = f.metal; base = on_cell (pad_stands b sound d s f); has = (Bit f.p, pad_joined b sound d s f, ap Signal f.net ∙ e) })
  line_start s k n (on_strap f) e = inl (subst (High b owns s) e (strap f))
  line_start s k n (on_rail {u = u} f) e = let g = on_rail_foot b u s f in inr (record { metal = f.metal; base = at_foot g.0 g.2; has = ap PowerNet g.1 ∙ e })

  start : (s : Shape) (n : Net) → Belongs b owns ts s n → High b owns s n ⊎ IsLow b s n
  start s n (by_line f e) = line_start s f.tagged.net n f.fits e
  start s n (by_instance f m j e) =
      inr (record { metal = ap (λ v. v.metal) f.is ∙ (sound.cells f.i f.instance).metal f.inner f.within; base = on_cell (instance_stands b sound s f); has = (m, j, e) })

  line_target : (s : Shape) (f : IsOfLine b owns ts s) (k : Net) → f.tagged.net ≡ k → FitsShape b owns s k → Target b owns ts s
  line_target s f k e (above {n = d} g) = inl (Signal d, owned g, by_line f e)
  line_target s f k e (on_pin {n = d} g) =
      inr (record {
        metal = g.metal;
        base = on_cell (pad_stands b sound d s g);
        then = λ n (m, j, q). by_line f (e ∙ ap Signal (sym g.net) ∙ ap (pin_net b g.i) ((sound.cells g.i g.instance).apart _ (Bit g.p) m (pad_joined b sound d s g) j) ∙ q);
      })
  line_target s f k e (on_strap {u = u} g) = inl (PowerNet u, strap g, by_line f e)
  line_target s f k e (on_rail {u = u} g) =
      let h = on_rail_foot b u s g in
      inr (record { metal = g.metal; base = at_foot h.0 h.2; then = λ n q. by_line f (e ∙ ap PowerNet (sym h.1) ∙ q) })

  target : (s : Shape) → Kind b owns ts s → Target b owns ts s
  target s (of_line f) = line_target s f f.tagged.net refl f.fits
  target s (of_instance f) =
      inr (record { metal = ap (λ v. v.metal) f.is ∙ (sound.cells f.i f.instance).metal f.inner f.within; base = on_cell (instance_stands b sound s f); then = λ n (m, j, q). by_instance f m j q })

  touch : (s t : Shape) (n : Net) → Belongs b owns ts s n → Kind b owns ts t → s.metal ≡ t.metal → Meet s.rect t.rect → Belongs b owns ts t n
  touch s t n p k m h =
      ⊎_elim
      (λ a. ⊎_elim
      (λ (d, g, q). subst (Belongs b owns ts t) (sym (high_meet b owns s t n d plan.one_net a g m h)) q)
      (λ g. absurd (let u = high_metal b owns s n a in let v = g.metal in omega arith))
      (target t k))
      (λ a. ⊎_elim
      (λ (d, g, q). absurd (let u = high_metal b owns t d g in let v = a.metal in omega arith))
      (λ g. g.then n (bases_meet b sound s t n a.base g.base h a.has))
      (target t k))
      (start s n p)

  pub no_owner : (s : Shape) (f : IsOfInstance b s) → s.owner ≡ None → ⊥
  no_owner s f e = let g : Some f.i ≡ s.owner = sym (ap (λ v. v.owner) f.is) in let h : Some f.i ≡ None = g ∙ e in cc

  -- a link within one instance leads on
  inner_link : (s t : Shape) (n : Net) (f : IsOfInstance b s) (g : IsOfInstance b t) (m : Name) → s.owner ≡ t.owner → Linked f.inner g.inner → IsJoinedTo (b.cell f.i) f.inner m → pin_net b f.i m ≡ n → Belongs b owns ts t n
  inner_link s t n f g m o l j e =
      let a : s.owner ≡ Some f.i = ap (λ v. v.owner) f.is in
      let c : t.owner ≡ Some g.i = ap (λ v. v.owner) g.is in
      let i : f.i ≡ g.i = cc in
      let r = joined_on b sound f.i g.i f.inner g.inner m i g.within l j in
      by_instance g m r.0 (r.1 ∙ e)

  inner_owner : (s t : Shape) (f : IsOfInstance b s) (g : IsOfInstance b t) → f.inner.owner ≡ g.inner.owner
  inner_owner s t f g = (sound.cells f.i f.instance).drawn f.inner f.within ∙ sym ((sound.cells g.i g.instance).drawn g.inner g.within)

  -- every link keeps the net
  keeps : (n : Net) (s t : Shape) → In s (shapes b ts) → In t (shapes b ts) → Linked s t → Belongs b owns ts s n → Belongs b owns ts t n
  keeps n s t hs ht l p = by_link l p (kind t ht)
    where
      by_link : Linked s t → Belongs b owns ts s n → Kind b owns ts t → Belongs b owns ts t n
      by_link (touching m h) p k = touch s t n p k m h
      by_link (one_line o e) (by_line f q) (of_line g) =
          let a = f.at in let c : slice_get ts s.line ≡ Some g.tagged = ap (slice_get ts) e ∙ g.at in
          let u : f.tagged ≡ g.tagged = cc in
          by_line g (sym (ap (λ v. v.net) u) ∙ q)
      by_link (one_line o e) (by_line f q) (of_instance g) = absurd (no_owner t g (sym o ∙ f.owner))
      by_link (one_line o e) (by_instance f m j q) (of_line g) = absurd (no_owner s f (o ∙ g.owner))
      by_link (one_line o e) (by_instance f m j q) (of_instance g) =
          inner_link s t n f g m o (one_line (inner_owner s t f g) (sym (ap (λ v. v.line) f.is) ∙ e ∙ ap (λ v. v.line) g.is)) j q
      by_link (one_name o d u v) (by_line f q) (of_line g) = by_line g (sym (g.names d v) ∙ f.names d u ∙ q)
      by_link (one_name o d u v) (by_line f q) (of_instance g) = absurd (no_owner t g (sym o ∙ f.owner))
      by_link (one_name o d u v) (by_instance f m j q) (of_line g) = absurd (no_owner s f (o ∙ g.owner))
      by_link (one_name o d u v) (by_instance f m j q) (of_instance g) =
          inner_link s t n f g m o (one_name (inner_owner s t f g) d (sym (ap (λ v. v.name) f.is) ∙ u) (sym (ap (λ v. v.name) g.is) ∙ v)) j q

  -- a connector of a terminal belongs to its net
  terminal_belongs : (t : Terminal) (s : Shape) → Kind b owns ts s → IsOf t s → Belongs b owns ts s (net_of b t)
  terminal_belongs (AtPort n) s (of_line f) (o, e) = by_line f (sym (f.names n e))
  terminal_belongs (AtPort n) s (of_instance f) (o, e) = absurd (no_owner s f o)
  terminal_belongs (AtPin i n) s (of_line f) (o, e) = absurd (let a = f.owner in cc)
  terminal_belongs (AtPin i n) s (of_instance f) (o, e) =
      let a : s.owner ≡ Some f.i = ap (λ v. v.owner) f.is in
      let same_i : f.i ≡ i = cc in
      by_instance f n (record { pin = f.inner; within = f.within; named = sym (ap (λ v. v.name) f.is) ∙ e; joined = same }) (ap (λ v. pin_net b v n) same_i)

  -- a connector that belongs to a net is of a terminal with that net
  terminal_net : (t : Terminal) (s : Shape) (n : Net) → Belongs b owns ts s n → IsOf t s → n ≡ net_of b t
  terminal_net (AtPort m) s n (by_line f q) (o, e) = sym q ∙ sym (f.names m e)
  terminal_net (AtPort m) s n (by_instance f d j q) (o, e) = absurd (no_owner s f o)
  terminal_net (AtPin i m) s n (by_line f q) (o, e) = absurd (let a = f.owner in cc)
  terminal_net (AtPin i m) s n (by_instance f d j q) (o, e) =
      let a : s.owner ≡ Some f.i = ap (λ v. v.owner) f.is in
      let same_i : f.i ≡ i = cc in
      let k : IsJoinedTo (b.cell f.i) f.inner m = record { pin = f.inner; within = f.within; named = sym (ap (λ v. v.name) f.is) ∙ e; joined = same } in
      sym q ∙ ap (pin_net b f.i) ((sound.cells f.i f.instance).apart f.inner d m j k) ∙ ap (λ v. pin_net b v m) same_i

  pub joined_has_one_net : (t u : Terminal) → AreJoined (shapes b ts) t u → net_of b t ≡ net_of b u
  joined_has_one_net t u j =
      terminal_net u j.to (net_of b t)
      (Joined_keeps (λ s. Belongs b owns ts s (net_of b t)) (keeps (net_of b t)) j.from j.to j.from_in j.joined (terminal_belongs t j.from (kind j.from j.from_in) j.from_of))
      j.to_of
