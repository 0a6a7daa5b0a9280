-- In the drawing by private tracks the terminals of one net are joined.
use Rattle.std.proofs.Common.{◌≡◌, ℕ, ◌+◌, ◌*◌, ◌<◌, ◌≤◌, inl, inr, ⊎_elim, List, Some, [], ◌∷◌, ◌++◌, refl, sym, ap, ◌∙◌, subst, arith, Bool, true, false, cond, eqb}
use Rattle.std.specs.Prelude.{pos}
use Rattle.std.proofs.lemmas.Int.{ints}
use Rattle.std.proofs.lemmas.Bool.{eq-eqb, cases_lt}
use Rattle.block_geom.specs.Figure.{Supply, Vss, Vdd, Shape, Name, Power, Bit, up_to, In}
use Rattle.block_geom.specs.Joined.{same}
use Rattle.block_geom.specs.Block.{Block, IsSound, Net, PowerNet, Signal, Tagged, at_x, strip_y, supply_at, pin_column, pin_row, shapes, Terminal, AtPort, AtPin, Exists, net_of, AreJoined, JoinsAsNets, terminal_at}
use Rattle.block_geom.specs.Tracks.{track, pin_lines, terminal_lines, track_line, port_line, port_lines, drawn_track, net_lines, blank_lines, centre, supply_port, rail_line, supply_lines, block_lines, HasTracks}
use Rattle.block_geom.proofs.Lists.{In_left, In_right, In_up_to}
use Rattle.block_geom.proofs.Bridges.{Point, Bridge, IsAt, Bridge_sym, Bridge_trans, at_joined, segment_bridge, via_bridge, port_at, pin_at, strip_at}
use Rattle.block_geom.proofs.Tracks.{TrackPlan, is_plan, row_zero, pin_low, tracks_only}
use Rattle.block_geom.proofs.Plan.{Kind, of_line, of_instance}
use Rattle.block_geom.proofs.Only.{kind}

-- the terminal is joined to the point
pub record Reaches (xs : List Shape) (t : Terminal) (q : Point) : Type 0 where
  pub from : Point
  pub at : IsAt xs t from
  pub bridge : Bridge xs from q

pub reach_joined : (xs : List Shape) (t u : Terminal) (q : Point) → Reaches xs t q → Reaches xs u q → AreJoined xs t u
reach_joined xs t u q f g = at_joined xs t u f.from g.from f.at (Bridge_trans xs f.from q g.from f.bridge (Bridge_sym xs g.from q g.bridge)) g.at

-- where the shapes of a net meet
abbrev pub hub_of : (ℕ → ℕ) → Net → Point
hub_of lo (PowerNet u) = record { metal = 1; x = pos 500; y = pos (centre u) }
hub_of lo (Signal n) = record { metal = 2; x = at_x (lo n); y = at_x (track n) }

abbrev pub IsLone : Block → Terminal → Type 0
IsLone b t = (k : ℕ) × (k < b.ports) × (t ≡ AtPort (Bit k)) × (b.many (b.port_net k) ≡ false)

-- a pin that is on no net
abbrev pub IsOff : Block → Terminal → Type 0
IsOff b t = (i : ℕ) × (p : ℕ) × (i < b.count) × (p < (b.cell i).pins) × (t ≡ AtPin i (Bit p)) × (b.nets ≤ b.net i p)

abbrev pub DoesReach : Block → (ℕ → ℕ) → (ℕ → ℕ) → Terminal → Type 0
DoesReach b lo hi t = Reaches (shapes b (block_lines b lo hi)) t (hub_of lo (net_of b t)) × ((m : ℕ) → net_of b t ≡ Signal m → (m < b.nets) × (b.many m ≡ true))

-- a port alone on its net, which has no track; a pin on no net; or a terminal that reaches its net's hub
pub data How (b : Block) (lo hi : ℕ → ℕ) (t : Terminal) : Type 0 where
  lone : IsLone b t → How b lo hi t
  off : IsOff b t → How b lo hi t
  does : DoesReach b lo hi t → How b lo hi t

abbrev number_of : Net → ℕ
number_of (PowerNet u) = 0
number_of (Signal n) = n

signal_is : (n m : ℕ) → Signal n ≡ Signal m → n ≡ m
signal_is n m e = ap number_of e

power_not_signal : (u : Supply) (m : ℕ) → PowerNet u ≡ Signal m → ⊥
power_not_signal u m e = cc e

module _ (b : Block) (lo hi : ℕ → ℕ) (sound : IsSound b) (tracks : HasTracks b lo hi) where
  abbrev ts : List Tagged
  ts = block_lines b lo hi

  abbrev xs : List Shape
  xs = shapes b (block_lines b lo hi)

  in_net : (n : ℕ) (t : Tagged) → n < b.nets → In t (drawn_track b lo hi n ++ terminal_lines b n) → In t (block_lines b lo hi)
  in_net n t lt h =
      In_right (supply_port Vss ∷ (supply_port Vdd ∷ port_lines b)) (blank_lines b ++ (supply_lines b ++ net_lines b lo hi)) t
      (In_right (blank_lines b) (supply_lines b ++ net_lines b lo hi) t
      (In_right (supply_lines b) (net_lines b lo hi) t (In_up_to b.nets (λ n. drawn_track b lo hi n ++ terminal_lines b n) t n lt h)))

  in_pin : (i p : ℕ) (t : Tagged) → i < b.count → p < (b.cell i).pins → b.net i p < b.nets → In t (pin_lines b (b.net i p) i p) → In t (block_lines b lo hi)
  in_pin i p t hi' hp low h =
      let n = b.net i p in
      let e : true ≡ eqb (b.net i p) n = sym (eq-eqb (b.net i p) n refl) in
      in_net n t low
      (In_right (drawn_track b lo hi n) (terminal_lines b n) t (In_up_to b.count (λ i. up_to (b.cell i).pins (λ p. cond (eqb (b.net i p) n) (pin_lines b n i p) [])) t i hi'
      (In_up_to (b.cell i).pins (λ p. cond (eqb (b.net i p) n) (pin_lines b n i p) []) t p hp (subst (λ v. In t (cond v (pin_lines b n i p) [])) e h))))

  -- where the shapes of a net meet
  abbrev hub : Net → Point
  hub n = hub_of lo n

  on_track : (n c : ℕ) → n < b.nets → b.many n ≡ true → lo n ≤ c → c ≤ hi n → Bridge (shapes b (block_lines b lo hi)) (record { metal = 2; x = at_x c; y = at_x (track n) }) (hub (Signal n))
  on_track n c lt m u v =
      let o = tracks.order n lt m in
      segment_bridge b (block_lines b lo hi) (Signal n) 2 200 false (at_x (lo n)) (at_x (track n)) (at_x (hi n)) (at_x (track n)) (record { metal = 2; x = at_x c; y = at_x (track n) }) (hub (Signal n))
      (in_net n (track_line n (lo n) (hi n)) lt (In_left (drawn_track b lo hi n) (terminal_lines b n) _ (subst (λ v. In (track_line n (lo n) (hi n)) (cond v (track_line n (lo n) (hi n) ∷ []) [])) (sym m) (inl refl)))) refl refl
      (omega (arith, ints)) (omega (arith, ints)) (omega (arith, ints)) (omega (arith, ints)) (omega (arith, ints)) (omega (arith, ints)) (omega (arith, ints)) (omega (arith, ints))

  pin_reaches : (i p : ℕ) → i < b.count → p < (b.cell i).pins → b.net i p < b.nets → Reaches (shapes b (block_lines b lo hi)) (AtPin i (Bit p)) (hub (Signal (b.net i p)))
  pin_reaches i p hi' hp under =
      let n = b.net i p in let c = pin_column b i p in let r = pin_row b i p in
      let low = pin_low b lo hi sound tracks i p hi' hp in
      let at = tracks.pins i p hi' hp under in
      let p1 : Point = record { metal = 1; x = at_x c; y = at_x r } in
      let p2 : Point = record { metal = 2; x = at_x c; y = at_x r } in
      let p3 : Point = record { metal = 3; x = at_x c; y = at_x r } in
      let q3 : Point = record { metal = 3; x = at_x c; y = at_x (track n) } in
      let q2 : Point = record { metal = 2; x = at_x c; y = at_x (track n) } in
      let b1 = via_bridge b (block_lines b lo hi) (Signal n) 1 (at_x c) (at_x r) (in_pin i p _ hi' hp under (inr (inl refl))) in
      let b2 = via_bridge b (block_lines b lo hi) (Signal n) 2 (at_x c) (at_x r) (in_pin i p _ hi' hp under (inr (inr (inl refl)))) in
      let b3 = segment_bridge b (block_lines b lo hi) (Signal n) 3 200 true (at_x c) (at_x r) (at_x c) (at_x (track n)) p3 q3 (in_pin i p _ hi' hp under (inl refl)) refl refl (omega (arith, ints)) (omega (arith, ints)) (omega (arith, ints)) (omega (arith, ints)) (omega (arith, ints)) (omega (arith, ints)) (omega (arith, ints)) (omega (arith, ints)) in
      let b4 = via_bridge b (block_lines b lo hi) (Signal n) 2 (at_x c) (at_x (track n)) (in_pin i p _ hi' hp under (inr (inr (inr (inl refl))))) in
      let b5 = on_track n c under (tracks.reached i p hi' hp under) at.0 at.1 in
      record {
        from = p1;
        at = pin_at b (block_lines b lo hi) sound i p hi' hp;
        bridge = Bridge_trans _ p1 p2 _ b1 (Bridge_trans _ p2 p3 _ b2 (Bridge_trans _ p3 q3 _ b3 (Bridge_trans _ q3 q2 _ (Bridge_sym _ q2 q3 b4) b5)));
      }

  port_in : (k : ℕ) → k < b.ports → In (port_line b k) (block_lines b lo hi)
  port_in k lt = In_left (supply_port Vss ∷ (supply_port Vdd ∷ port_lines b)) (blank_lines b ++ (supply_lines b ++ net_lines b lo hi)) _ (inr (inr (In_up_to b.ports (λ k. port_line b k ∷ []) _ k lt (inl refl))))

  port_reaches : (k : ℕ) → k < b.ports → b.many (b.port_net k) ≡ true → Reaches (shapes b (block_lines b lo hi)) (AtPort (Bit k)) (hub (Signal (b.port_net k)))
  port_reaches k lt y =
      let n = b.port_net k in let e = tracks.ports k lt y in let m = tracks.port_nets k lt in let o = tracks.order n m y in
      record {
        from = record { metal = 2; x = at_x 3; y = at_x (track n) };
        at = port_at b (block_lines b lo hi) (Signal n) 2 200 (at_x 3) (at_x (track n)) (Bit k) (port_in k lt);
        bridge = on_track n 3 m y (omega arith) (omega arith);
      }

  supply_port_in : (u : Supply) → In (supply_port u) (block_lines b lo hi)
  supply_port_in Vss = inl refl
  supply_port_in Vdd = inr (inl refl)

  pub rail_in : (u : Supply) → In (rail_line b u) (block_lines b lo hi)
  rail_in u = In_right (supply_port Vss ∷ (supply_port Vdd ∷ port_lines b)) (blank_lines b ++ (supply_lines b ++ net_lines b lo hi)) (rail_line b u) (In_right (blank_lines b) (supply_lines b ++ net_lines b lo hi) (rail_line b u) (first u))
    where
      first : (u : Supply) → In (rail_line b u) (supply_lines b ++ net_lines b lo hi)
      first Vss = inl refl
      first Vdd = inr (inl refl)

  pub on_rail : (u : Supply) (x : ℕ) → 500 ≤ x → x ≤ 1500 + 500 * b.columns → Bridge (shapes b (block_lines b lo hi)) (record { metal = 1; x = pos x; y = pos (centre u) }) (hub (PowerNet u))
  on_rail u x le ge =
      segment_bridge b (block_lines b lo hi) (PowerNet u) 1 600 false (pos 500) (pos (centre u)) (pos (1500 + 500 * b.columns)) (pos (centre u)) (record { metal = 1; x = pos x; y = pos (centre u) }) (hub (PowerNet u)) (rail_in u) refl refl
      (omega (arith, ints)) (omega (arith, ints)) (omega (arith, ints)) (omega (arith, ints)) (omega (arith, ints)) (omega (arith, ints)) (omega (arith, ints)) (omega (arith, ints))

  supply_port_reaches : (u : Supply) → Reaches (shapes b (block_lines b lo hi)) (AtPort (Power u)) (hub (PowerNet u))
  supply_port_reaches u =
      record { from = hub (PowerNet u); at = port_at b (block_lines b lo hi) (PowerNet u) 1 600 (pos 500) (pos (centre u)) (Power u) (supply_port_in u); bridge = on_rail u 500 (omega arith) (omega arith) }

  row_middle : (u : Supply) → strip_y Vss u 0 ≡ centre u
  row_middle Vss = refl
  row_middle Vdd = refl

  supply_pin_reaches : (i : ℕ) (u : Supply) → i < b.count → Reaches (shapes b (block_lines b lo hi)) (AtPin i (Power u)) (hub (PowerNet u))
  supply_pin_reaches i u lt =
      let e = row_zero b lo hi sound tracks i lt in let w = (sound.cells i lt).wide in let s = sound.start i lt in let d = sound.end i lt in
      let at = subst (λ y. IsAt (shapes b (block_lines b lo hi)) (AtPin i (Power u)) (record { metal = 1; x = pos (500 * b.column i + 250); y = pos y })) (ap (λ j. strip_y (supply_at j) u j) e ∙ row_middle u) (strip_at b (block_lines b lo hi) sound i u lt) in
      record { from = record { metal = 1; x = pos (500 * b.column i + 250); y = pos (centre u) }; at = at; bridge = on_rail u (500 * b.column i + 250) (omega arith) (omega arith) }

  how : (t : Terminal) → Exists b t → How b lo hi t
  how (AtPort (Power u)) h = does (supply_port_reaches u, λ m e. absurd (power_not_signal u m e))
  how (AtPort (Bit k)) h = by (b.many (b.port_net k)) refl
    where
      by : (v : Bool) → b.many (b.port_net k) ≡ v → How b lo hi (AtPort (Bit k))
      by true m = does (port_reaches k h m, λ n e. (subst (λ v. v < b.nets) (signal_is _ n e) (tracks.port_nets k h), subst (λ v. b.many v ≡ true) (signal_is _ n e) m))
      by false m = lone (k, h, refl, m)
  how (AtPin i (Power u)) h = does (supply_pin_reaches i u h, λ m e. absurd (power_not_signal u m e))
  how (AtPin i (Bit p)) h =
      ⊎_elim
      (λ under. does (pin_reaches i p h.0 h.1 under, λ n e. (subst (λ v. v < b.nets) (signal_is _ n e) under, subst (λ v. b.many v ≡ true) (signal_is _ n e) (tracks.reached i p h.0 h.1 under))))
      (λ past. off (i, p, h.0, h.1, refl, past))
      (cases_lt (b.net i p) b.nets)

  lone_joined : (t : Terminal) → IsLone b t → AreJoined (shapes b (block_lines b lo hi)) t t
  lone_joined t (k, lt, e, m) =
      let n = b.port_net k in
      let at = port_at b (block_lines b lo hi) (Signal n) 2 200 (at_x 3) (at_x (track n)) (Bit k) (port_in k lt) in
      subst (λ v. AreJoined (shapes b (block_lines b lo hi)) v v) (sym e) (record { from = at.shape; to = at.shape; from_in = at.within; to_in = at.within; from_of = at.of; to_of = at.of; joined = same })

  off_joined : (t : Terminal) → IsOff b t → AreJoined (shapes b (block_lines b lo hi)) t t
  off_joined t (i, p, hi', hp, e, past) =
      let at = pin_at b (block_lines b lo hi) sound i p hi' hp in
      subst (λ v. AreJoined (shapes b (block_lines b lo hi)) v v) (sym e) (record { from = at.shape; to = at.shape; from_in = at.within; to_in = at.within; from_of = at.of; to_of = at.of; joined = same })

  lone_net : (t u : Terminal) → IsLone b t → DoesReach b lo hi u → net_of b t ≡ net_of b u → ⊥
  lone_net t u (k, lt, e, m) (r, s) h = let a : b.many (b.port_net k) ≡ true = (s (b.port_net k) (sym h ∙ ap (net_of b) e)).1 in let c : true ≡ false = sym a ∙ m in cc c

  off_net : (t u : Terminal) → IsOff b t → DoesReach b lo hi u → net_of b t ≡ net_of b u → ⊥
  off_net t u (i, p, hi', hp, e, past) (r, s) h = let a : b.net i p < b.nets = (s (b.net i p) (sym h ∙ ap (net_of b) e)).0 in omega (arith, a, past)

  off_port : (t u : Terminal) → IsOff b t → IsLone b u → net_of b t ≡ net_of b u → ⊥
  off_port t u (i, p, hi', hp, e, past) (k, lt, f, m) h =
      let n : b.net i p ≡ b.port_net k = signal_is _ _ (sym (ap (net_of b) e) ∙ h ∙ ap (net_of b) f) in
      let a = tracks.port_nets k lt in omega (arith, n, a, past)

  same_lone : (t u : Terminal) → IsLone b t → IsLone b u → net_of b t ≡ net_of b u → t ≡ u
  same_lone t u x y e =
      let n : b.port_net x.0 ≡ b.port_net y.0 = signal_is _ _ (sym (ap (net_of b) x.2) ∙ e ∙ ap (net_of b) y.2) in
      let k : x.0 ≡ y.0 = tracks.alone x.0 y.0 x.1 y.1 x.3 n in
      x.2 ∙ ap (λ v. AtPort (Bit v)) k ∙ sym y.2

  same_off : (t u : Terminal) → IsOff b t → IsOff b u → net_of b t ≡ net_of b u → t ≡ u
  same_off t u (i, p, hi', hp, e, past) (j, q, hj, hq, f, past2) h =
      let n : b.net i p ≡ b.net j q = signal_is _ _ (sym (ap (net_of b) e) ∙ h ∙ ap (net_of b) f) in
      let k = tracks.off i p j q hi' hp hj hq past n in
      e ∙ ap (λ v. AtPin v (Bit p)) k.0 ∙ ap (λ v. AtPin j (Bit v)) k.1 ∙ sym f

  both : (t u : Terminal) → How b lo hi t → How b lo hi u → net_of b t ≡ net_of b u → AreJoined (shapes b (block_lines b lo hi)) t u
  both t u (lone x) (lone y) e = subst (AreJoined (shapes b (block_lines b lo hi)) t) (same_lone t u x y e) (lone_joined t x)
  both t u (lone x) (off y) e = absurd (off_port u t y x (sym e))
  both t u (lone x) (does y) e = absurd (lone_net t u x y e)
  both t u (off x) (lone y) e = absurd (off_port t u x y e)
  both t u (off x) (off y) e = subst (AreJoined (shapes b (block_lines b lo hi)) t) (same_off t u x y e) (off_joined t x)
  both t u (off x) (does y) e = absurd (off_net t u x y e)
  both t u (does x) (lone y) e = absurd (lone_net u t y x (sym e))
  both t u (does x) (off y) e = absurd (off_net u t y x (sym e))
  both t u (does x) (does y) e = reach_joined _ t u (hub (net_of b u)) (subst (λ n. Reaches (shapes b (block_lines b lo hi)) t (hub n)) e x.0) y.0

  pub tracks_all : (t u : Terminal) → Exists b t → Exists b u → net_of b t ≡ net_of b u → AreJoined (shapes b (block_lines b lo hi)) t u
  tracks_all t u ht hu e = both t u (how t ht) (how u hu) e

  pub tracks_join : JoinsAsNets b (shapes b (block_lines b lo hi))
  tracks_join = record { only = λ t u ht hu j. tracks_only b lo hi sound tracks t u j; all = tracks_all }

-- what a shape of the drawing may be: its instance is there, and its name is that of a terminal

pub record IsKnown (b : Block) (s : Shape) : Type 0 where
  pub owner : (i : ℕ) → s.owner ≡ Some i → i < b.count
  pub name : (m : Name) → s.name ≡ Some m → Exists b (terminal_at s.owner m)

pub known : (b : Block) (lo hi : ℕ → ℕ) → IsSound b → HasTracks b lo hi → (s : Shape) → In s (shapes b (block_lines b lo hi)) → IsKnown b s
known b lo hi sound tracks s h = by (kind b (TrackPlan b) (block_lines b lo hi) sound (is_plan b lo hi sound tracks) s h)
  where
    by : Kind b (TrackPlan b) (block_lines b lo hi) s → IsKnown b s
    by (of_line f) = record { owner = λ i e. absurd (let a = f.owner in cc); name = λ m e. subst (λ o. Exists b (terminal_at o m)) (sym f.owner) (f.ports m e) }
    by (of_instance f) =
        let a : s.owner ≡ Some f.i = ap (λ v. v.owner) f.is in
        record { owner = λ i e. let c : f.i ≡ i = cc in subst (λ v. v < b.count) c f.instance; name = λ m e. subst (λ o. Exists b (terminal_at o m)) (sym a) (there m (sym (ap (λ v. v.name) f.is) ∙ e)) }
      where
        there : (m : Name) → f.inner.name ≡ Some m → Exists b (AtPin f.i m)
        there (Power u) e = f.instance
        there (Bit p) e = (f.instance, (sound.cells f.i f.instance).names f.inner p f.within e)
