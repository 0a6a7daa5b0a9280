-- The drawing by private tracks fits a plan.
use Rattle.std.proofs.Common.{◌≡◌, ℕ, ◌+◌, ◌*◌, ◌<◌, ◌≤◌, inl, inr, ⊎_elim, [], ◌∷◌, ◌++◌, refl, sym, ap, ◌∙◌, subst, arith, Bool, true, false, cond, eqb}
use Rattle.std.proofs.lemmas.Int.{ints}
use Rattle.std.proofs.lemmas.Bool.{eqb-true}
use Rattle.block_geom.specs.Figure.{Supply, Vss, Vdd, Power, Bit, Blank, up_to, In}
use Rattle.block_geom.specs.Joined.{same}
use Rattle.block_geom.specs.Block.{Block, Cell, IsJoinedTo, Passes, IsSound, PowerNet, Tagged, pin_column, pin_row, turned_row, flip_of, shapes, Terminal, AreJoined, net_of}
use Rattle.block_geom.specs.Tracks.{track, pin_lines, terminal_lines, track_line, port_line, port_lines, drawn_track, net_lines, blank_lines, centre, supply_port, rail_line, strap_lines, supply_lines, block_lines, HasTracks}
use Rattle.block_geom.proofs.Lists.{In_append_cases, In_up_to_cases}
use Rattle.block_geom.proofs.Plan.{IsCentre, Fits, IsPlan}
use Rattle.block_geom.proofs.Lines.{wire_fits, via_fits, pin_fits, port_fits, rail_fits, supply_port_fits, blank_fits, strap_fits, strap_via_fits, rail_via_fits}
use Rattle.block_geom.proofs.Only.{joined_has_one_net}

-- an access node lies inside its cell
pub pin_inside : (c : Cell) (p : ℕ) → Passes c → p < c.pins → (1 ≤ c.column p) × (c.column p < c.width) × (c.row p ≤ 10)
pin_inside c p ok lt =
    let a = ok.access p lt in let w = a.holds in let o = ok.order a.pin a.within in
    let me : IsJoinedTo c a.pin (Bit p) = record { pin = a.pin; within = a.within; named = a.named; joined = same } in
    ⊎_elim
    (λ h. omega (arith, ints))
    (⊎_elim
    (λ h. ⊎_elim (λ j. absurd (let e = ok.apart a.pin (Bit p) (Power Vss) me j in cc)) (λ g. absurd (omega (arith, ints))) (ok.off_vss a.pin a.within))
    (λ h. ⊎_elim (λ j. absurd (let e = ok.apart a.pin (Bit p) (Power Vdd) me j in cc)) (λ g. absurd (omega (arith, ints))) (ok.off_vdd a.pin a.within)))
    (ok.inside a.pin a.within)

-- a pin on net n with its access node in column c
pub record IsPinAt (b : Block) (n c : ℕ) : Type 0 where
  pub i : ℕ
  pub p : ℕ
  pub instance : i < b.count
  pub pin : p < (b.cell i).pins
  pub net : b.net i p ≡ n
  pub column : c ≡ pin_column b i p

-- on metal 2 the tracks above the row and the columns of pins within it; on metal 3 the columns of pins
pub data TrackPlan (b : Block) (m c r n : ℕ) : Type 0 where
  on_track : m ≡ 2 → r ≡ track n → TrackPlan b m c r n
  in_row : m ≡ 2 → r ≤ 10 → IsPinAt b n c → TrackPlan b m c r n
  on_riser : m ≡ 3 → IsPinAt b n c → TrackPlan b m c r n

turned_row_le : (f : Bool) (r : ℕ) → r ≤ 10 → turned_row f r ≤ 10
turned_row_le true r h = omega arith
turned_row_le false r h = h

module _ (b : Block) (lo hi : ℕ → ℕ) (sound : IsSound b) (tracks : HasTracks b lo hi) where
  pub row_zero : (i : ℕ) → i < b.count → b.row i ≡ 0
  row_zero i lt = let a = sound.row i lt in let c = tracks.one_row in omega arith

  pub pin_low : (i p : ℕ) → i < b.count → p < (b.cell i).pins → pin_row b i p ≤ 10
  pin_low i p hi hp =
      let a = pin_inside (b.cell i) p (sound.cells i hi) hp in
      let e = row_zero i hi in
      let t = turned_row_le (flip_of (b.row i)) ((b.cell i).row p) a.2 in omega arith

  pin_start : (i p : ℕ) → i < b.count → p < (b.cell i).pins → 3 ≤ pin_column b i p
  pin_start i p hi hp = let a = sound.start i hi in omega arith

  one_cell : (i k p q : ℕ) → i ≡ k → i < b.count → p < (b.cell i).pins → q < (b.cell k).pins → pin_column b i p ≡ pin_column b k q → b.net i p ≡ b.net k q
  one_cell i k p q e hi hp hq c =
      subst (λ v. q < (b.cell v).pins → pin_column b i p ≡ pin_column b v q → b.net i p ≡ b.net v q) e
      (λ h d. let f : (b.cell i).column p ≡ (b.cell i).column q = omega arith in ap (b.net i) (tracks.columns i hi p q hp h f)) hq c

  one_pin : (n k c : ℕ) → IsPinAt b n c → IsPinAt b k c → n ≡ k
  one_pin n k c f g =
      let x = pin_inside (b.cell f.i) f.p (sound.cells f.i f.instance) f.pin in
      let y = pin_inside (b.cell g.i) g.p (sound.cells g.i g.instance) g.pin in
      let e : pin_column b f.i f.p ≡ pin_column b g.i g.p = sym f.column ∙ g.column in
      ⊎_elim
      (λ s. sym f.net ∙ one_cell f.i g.i f.p g.p s f.instance f.pin g.pin e ∙ g.net)
      (⊎_elim (λ h. absurd (omega arith)) (λ h. absurd (omega arith)))
      (sound.abut f.i g.i f.instance g.instance (row_zero f.i f.instance ∙ sym (row_zero g.i g.instance)))

  one_net : (m c r n k : ℕ) → TrackPlan b m c r n → TrackPlan b m c r k → n ≡ k
  one_net m c r n k (on_track a e) (on_track d f) = omega arith
  one_net m c r n k (on_track a e) (in_row d f g) = absurd (omega arith)
  one_net m c r n k (on_track a e) (on_riser d g) = absurd (omega arith)
  one_net m c r n k (in_row a e h) (on_track d f) = absurd (omega arith)
  one_net m c r n k (in_row a e h) (in_row d f g) = one_pin n k c h g
  one_net m c r n k (in_row a e h) (on_riser d g) = absurd (omega arith)
  one_net m c r n k (on_riser a h) (on_track d f) = absurd (omega arith)
  one_net m c r n k (on_riser a h) (in_row d f g) = absurd (omega arith)
  one_net m c r n k (on_riser a h) (on_riser d g) = one_pin n k c h g

  pin_lines_fit : (i p : ℕ) → i < b.count → p < (b.cell i).pins → (t : Tagged) → In t (pin_lines b (b.net i p) i p) → Fits b (TrackPlan b) t
  pin_lines_fit i p hi hp t h = by_place t h
    where
      at : IsPinAt b (b.net i p) (pin_column b i p)
      at = record { i = i; p = p; instance = hi; pin = hp; net = refl; column = refl }

      moved_to : (c : ℕ) → pin_column b i p ≤ c → c ≤ pin_column b i p → IsPinAt b (b.net i p) c
      moved_to c u v = record { i = i; p = p; instance = hi; pin = hp; net = refl; column = omega arith }

      by_place : (t : Tagged) → In t (pin_lines b (b.net i p) i p) → Fits b (TrackPlan b) t
      by_place t (inl e) = subst (Fits b (TrackPlan b)) (sym e) (wire_fits b (TrackPlan b) (b.net i p) 3 (pin_column b i p) (pin_row b i p) (pin_column b i p) (track (b.net i p)) true (omega arith) (pin_start i p hi hp) (omega arith) (let a = pin_low i p hi hp in omega arith) (λ c r u v x y. on_riser refl (moved_to c u v)))
      by_place t (inr (inl e)) = subst (Fits b (TrackPlan b)) (sym e) (pin_fits b (TrackPlan b) i p hi hp (pin_start i p hi hp) (in_row refl (pin_low i p hi hp) at))
      by_place t (inr (inr (inl e))) = subst (Fits b (TrackPlan b)) (sym e) (via_fits b (TrackPlan b) (b.net i p) 2 (pin_column b i p) (pin_row b i p) (omega arith) (pin_start i p hi hp) (in_row refl (pin_low i p hi hp) at) (on_riser refl at))
      by_place t (inr (inr (inr (inl e)))) = subst (Fits b (TrackPlan b)) (sym e) (via_fits b (TrackPlan b) (b.net i p) 2 (pin_column b i p) (track (b.net i p)) (omega arith) (pin_start i p hi hp) (on_track refl refl) (on_riser refl at))
      by_place t (inr (inr (inr (inr h)))) = absurd h

  -- the lines of pin p where it is on net n
  tested : (n i p : ℕ) (v : Bool) → eqb (b.net i p) n ≡ v → i < b.count → p < (b.cell i).pins → (t : Tagged) → In t (cond v (pin_lines b n i p) []) → Fits b (TrackPlan b) t
  tested n i p true e hi hp t h = let same_net : b.net i p ≡ n = eqb-true _ _ e in pin_lines_fit i p hi hp t (subst (λ v. In t (pin_lines b v i p)) (sym same_net) h)
  tested n i p false e hi hp t h = absurd h

  track_fit : (n : ℕ) (v : Bool) → b.many n ≡ v → n < b.nets → (t : Tagged) → In t (cond v (track_line n (lo n) (hi n) ∷ []) []) → Fits b (TrackPlan b) t
  track_fit n true m lt t (inl e) = subst (Fits b (TrackPlan b)) (sym e) (wire_fits b (TrackPlan b) n 2 (lo n) (track n) (hi n) (track n) false (omega arith) (tracks.start n lt m) (tracks.order n lt m) (omega arith) (λ c y u v x z. on_track refl (omega arith)))
  track_fit n true m lt t (inr h) = absurd h
  track_fit n false m lt t h = absurd h

  net_lines_fit : (t : Tagged) → In t (net_lines b lo hi) → Fits b (TrackPlan b) t
  net_lines_fit t h =
      let r = In_up_to_cases b.nets (λ n. drawn_track b lo hi n ++ terminal_lines b n) t h in
      let n = r.0 in
      ⊎_elim
      (λ e. track_fit n (b.many n) refl r.1 t e)
      (λ g. let i = In_up_to_cases b.count (λ i. up_to (b.cell i).pins (λ p. cond (eqb (b.net i p) n) (pin_lines b n i p) [])) t g in
      let p = In_up_to_cases (b.cell i.0).pins (λ p. cond (eqb (b.net i.0 p) n) (pin_lines b n i.0 p) []) t i.2 in
      tested n i.0 p.0 (eqb (b.net i.0 p.0) n) refl i.1 p.1 t p.2)
      (In_append_cases (drawn_track b lo hi n) (terminal_lines b n) t r.2)

  centre_is : (u : Supply) → IsCentre b u (centre u)
  centre_is Vss = record { row = 0; within = let a = tracks.one_row in omega arith; is = refl }
  centre_is Vdd = record { row = 0; within = let a = tracks.one_row in omega arith; is = refl }

  strap_lines_fit : (u : Supply) (t : Tagged) → In t (strap_lines u) → Fits b (TrackPlan b) t
  strap_lines_fit u t (inl e) = subst (Fits b (TrackPlan b)) (sym e) (strap_fits b (TrackPlan b) u (centre u) (centre u) (centre_is u) (centre_is u) (omega arith))
  strap_lines_fit u t (inr (inl e)) = subst (Fits b (TrackPlan b)) (sym e) (rail_via_fits b (TrackPlan b) u (centre u) (centre_is u))
  strap_lines_fit u t (inr (inr (inl e))) = subst (Fits b (TrackPlan b)) (sym e) (strap_via_fits b (TrackPlan b) u (centre u) (centre_is u))
  strap_lines_fit u t (inr (inr (inr h))) = absurd h

  rail_fit : (u : Supply) → Fits b (TrackPlan b) (rail_line b u)
  rail_fit u = rail_fits b (TrackPlan b) u (centre u) (1500 + 500 * b.columns) (centre_is u) (omega arith)

  supply_port_fit : (u : Supply) → Fits b (TrackPlan b) (supply_port u)
  supply_port_fit u = supply_port_fits b (TrackPlan b) u (centre u) (centre_is u)

  supply_lines_fit : (t : Tagged) → In t (supply_lines b) → Fits b (TrackPlan b) t
  supply_lines_fit t (inl e) = subst (Fits b (TrackPlan b)) (sym e) (rail_fit Vss)
  supply_lines_fit t (inr (inl e)) = subst (Fits b (TrackPlan b)) (sym e) (rail_fit Vdd)
  supply_lines_fit t (inr (inr h)) = ⊎_elim (strap_lines_fit Vss t) (strap_lines_fit Vdd t) (In_append_cases (strap_lines Vss) (strap_lines Vdd) t h)

  port_lines_fit : (t : Tagged) → In t (supply_port Vss ∷ (supply_port Vdd ∷ port_lines b)) → Fits b (TrackPlan b) t
  port_lines_fit t (inl e) = subst (Fits b (TrackPlan b)) (sym e) (supply_port_fit Vss)
  port_lines_fit t (inr (inl e)) = subst (Fits b (TrackPlan b)) (sym e) (supply_port_fit Vdd)
  port_lines_fit t (inr (inr h)) =
      let r = In_up_to_cases b.ports (λ k. port_line b k ∷ []) t h in
      ⊎_elim
      (λ e. subst (Fits b (TrackPlan b)) (sym e) (port_fits b (TrackPlan b) r.0 2 3 (track (b.port_net r.0)) r.1 (omega arith) (omega arith) (on_track refl refl)))
      (λ g. absurd g)
      r.2

  blank_lines_fit : (t : Tagged) → In t (blank_lines b) → Fits b (TrackPlan b) t
  blank_lines_fit t h =
      let r = In_up_to_cases b.count (λ i. record { net = PowerNet Vss; line = Blank } ∷ []) t h in
      ⊎_elim (λ e. subst (Fits b (TrackPlan b)) (sym e) (blank_fits b (TrackPlan b))) (λ g. absurd g) r.2

  pub is_plan : IsPlan b (TrackPlan b) (block_lines b lo hi)
  is_plan = record {
    one_net = one_net;
    fits = λ t h. ⊎_elim (port_lines_fit t) (λ f. ⊎_elim (blank_lines_fit t) (λ g. ⊎_elim (supply_lines_fit t) (net_lines_fit t) (In_append_cases (supply_lines b) (net_lines b lo hi) t g)) (In_append_cases (blank_lines b) (supply_lines b ++ net_lines b lo hi) t f)) (In_append_cases (supply_port Vss ∷ (supply_port Vdd ∷ port_lines b)) (blank_lines b ++ (supply_lines b ++ net_lines b lo hi)) t h);
  }

  pub tracks_only : (t u : Terminal) → AreJoined (shapes b (block_lines b lo hi)) t u → net_of b t ≡ net_of b u
  tracks_only t u j = joined_has_one_net b (TrackPlan b) (block_lines b lo hi) sound is_plan t u j
