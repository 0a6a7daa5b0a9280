-- The tracks of a netlist that may be drawn.
use Rattle.std.proofs.Common.{◌≡◌, ℕ, ◌+◌, ◌*◌, ◌<◌, ◌≤◌, inl, inr, Bool, true, false, List, [], ◌∷◌, ◌++◌, length, Option, Some, None, refl, sym, ap, ◌∙◌, subst, arith, cond, eqb, if◌then◌else◌}
use Rattle.std.specs.Prelude.{ℤ, pos, ◌+ℤ◌, slice_get, flat_map, nat_eq, ◌/◌}
use Rattle.std.proofs.lemmas.Int.{ints}
use Rattle.std.proofs.lemmas.Bool.{eq-eqb}
use Rattle.std.proofs.lemmas.Option.{slice_get_within}
use Rattle.vlsi_base.specs.declared.name.Name as name
use Rattle.machine_core.specs.Machine.{names_of}
use Rattle.vlsi_base.specs.Member.{In, here, there}
use Rattle.cell_model.specs.Cell.{pin_ports}
use Rattle.cell_model.specs.Library.{Library, cell_of}
use Rattle.net_meaning.specs.Netlist.{Member, AbstractNetlist, pin_of}
use Rattle.ocp_rows.specs.Placement.{track_y, net_count, natural}
use Rattle.ocp_rows.specs.Length.{least, greatest}
use Rattle.cell_model.specs.Access.{access_point}
use Rattle.block_geom.specs.Figure.{Name, up_to}
use Rattle.block_geom.specs.Block.{Cell, Signal, at_x, pin_column, pin_row}
use Rattle.block_geom.specs.Tracks.{track, pin_lines, terminal_lines, track_line, drawn_track, HasTracks}
use Rattle.block_geom.proofs.Tracks.{pin_inside}
use Rattle.net_drawing.specs.Picture.{shown}
use Rattle.net_drawing.specs.Drawing.{Numbering, Point, of_pins, of_cell, of_pin, at_point, riser, port_xs, track_over, net_wiring, IsDrawable}
use Rattle.net_drawing.proofs.Access.{reached}
use Rattle.net_drawing.proofs.Coding.{In_get, get_there, cell_by}
use Rattle.net_drawing.proofs.Cells.{passes, column_is, row_is}
use Rattle.net_drawing.proofs.Pieces.{Drawn, nothing, Drawn_append, flat_drawn, x_at, along_drawn, riser_wire, track_wire, low_via, high_via}
use Rattle.net_drawing.proofs.Numbers.{low_of, high_of, has_some, pin_xs, low, high, own, call, pins_before, number_low, number_under, number_test, IsModel, x_is}
use Rattle.net_drawing.proofs.Block.{IsPinAt, model_of, cell_is, net_is, pin_there, port_below, past_apart}
use Rattle.net_drawing.proofs.Row.{row_places, block_of, sound, cells_own}
use Rattle.net_drawing.proofs.Shown.{track_at}
use Rattle.net_drawing.proofs.Ranges.{IsGrid, some_of, flat_all, along_all, flat_in, along_in, range_of, both, Spans, spans}

-- the track over these points
track_drawn : (own : ℕ → List ℕ) (call : Option ℕ → Name → name.Name) (k : ℕ) (nm : Option name.Name) (xs ps : List ℤ) → ((y : ℤ) → In y xs → IsGrid y) → ((y : ℤ) → In y ps → IsGrid y)
    → Drawn (shown own call) (track_over k nm ps xs) (cond (has_some xs) (track_line k (low_of xs ps) (high_of xs ps) ∷ []) [])
track_drawn own call k nm [] ps f g = nothing (shown own call)
track_drawn own call k nm (x ∷ xs) ps f g =
    let r = range_of x (xs ++ ps) (both x xs ps f g) in
    track_wire own call (Signal k) (natural (least x (xs ++ ps)) / 500) _ (track k) (least x (xs ++ ps)) (greatest x (xs ++ ps)) (track_y k) nm r.low r.high (track_at k) r.order

module _ (n : AbstractNetlist) (l : Library) (net : Numbering) (ports : List name.Name) (ok : IsDrawable n l net ports) where
  -- the number of a pin on a net is that of its class
  on_its_net : (i p : ℕ) (one : Member) (m : IsModel l one) (pin : name.Name) → IsPinAt n l i p one m pin → (block_of n l net ports).net i p < net_count n
      → (block_of n l net ports).net i p ≡ net (n.class (pin_of one.name pin))
  on_its_net i p one m pin h under =
      let e = net_is n l net ports (row_places n l net ports) ok.nets i p one m pin h in
      let lt = number_under (net_count n) (net (n.class (pin_of one.name pin))) (pins_before l 0 n.instances i + p) (subst (λ v. v < net_count n) e under) in
      e ∙ number_low (net_count n) (net (n.class (pin_of one.name pin))) (pins_before l 0 n.instances i + p) lt

  -- where its access node lies in the row
  pub place_is : (i p : ℕ) (one : Member) (m : IsModel l one) (pin : name.Name) → IsPinAt n l i p one m pin
      → (q : Point) × (access_point m.cell pin ≡ Some q) × ((q.0 +ℤ x_at l (pos 1500) n.instances i) ≡ at_x (pin_column (block_of n l net ports) i p)) × (q.1 ≡ at_x (pin_row (block_of n l net ports) i p)) × (pin_row (block_of n l net ports) i p ≤ 10) × (3 ≤ pin_column (block_of n l net ports) i p)
  place_is i p one m pin h =
      let a = reached m.cell m.clean pin (In_get (names_of (pin_ports m.cell)) p pin h.1) in
      let c = cell_is n l net ports (row_places n l net ports) ok.nets i one m h.0 in
      let at = x_is l n.instances (pos 1500) 3 refl (model_of n l net ports (row_places n l net ports) ok.nets) i (slice_get_within n.instances i one h.0) in
      let e : ((block_of n l net ports).cell i).column p ≡ a.column = ap (λ (v : Cell). v.column p) c ∙ column_is m.cell m.usable m.clean p pin h.1 in
      let f : ((block_of n l net ports).cell i).row p ≡ a.row = ap (λ (v : Cell). v.row p) c ∙ row_is m.cell m.usable m.clean p pin h.1 in
      let low = pin_inside (cell_by m.cell) p (passes m.cell m.usable m.clean) (slice_get_within (names_of (pin_ports m.cell)) p pin h.1) in
      let g = row_is m.cell m.usable m.clean p pin h.1 in
      let low2 = low.2 in
      let s = (sound n l net ports ok).start i (slice_get_within n.instances i one h.0) in
      ((pos (500 * a.column), pos (500 * a.row)), a.point, omega (arith, ints), omega (arith, ints), omega arith, omega arith)

  -- ---- risers
  pin_drawn : (k : ℕ) (nm : Option name.Name) (i p : ℕ) (x : ℤ) (o : Option Point) (q : Point) → o ≡ Some q
      → (q.0 +ℤ x) ≡ at_x (pin_column (block_of n l net ports) i p) → q.1 ≡ at_x (pin_row (block_of n l net ports) i p) → pin_row (block_of n l net ports) i p ≤ 10
      → Drawn (shown (own n) (call n l ports)) (at_point (riser k nm) x o) (pin_lines (block_of n l net ports) k i p)
  pin_drawn k nm i p x o q e ex ey le =
      let s = shown (own n) (call n l ports) in
      let c = pin_column (block_of n l net ports) i p in let r = pin_row (block_of n l net ports) i p in
      subst (λ v. Drawn (shown (own n) (call n l ports)) (at_point (riser k nm) x v) (pin_lines (block_of n l net ports) k i p)) (sym e)
      (Drawn_append s _ _ _ _ (riser_wire (own n) (call n l ports) (Signal k) c r (track k) (q.0 +ℤ x) q.1 (track_y k) nm ex ey (track_at k) (omega arith))
      (Drawn_append s _ _ _ _ (low_via (own n) (call n l ports) (Signal k) c r (q.0 +ℤ x) q.1 nm ex ey)
      (Drawn_append s _ _ _ _ (high_via (own n) (call n l ports) (Signal k) c r (q.0 +ℤ x) q.1 nm ex ey)
      (high_via (own n) (call n l ports) (Signal k) c (track k) (q.0 +ℤ x) (track_y k) nm ex (track_at k)))))

  tested : (k : ℕ) (nm : Option name.Name) (i p : ℕ) (one : Member) (m : IsModel l one) (pin : name.Name) → IsPinAt n l i p one m pin → (v : Bool)
      → Drawn (shown (own n) (call n l ports)) (if v then at_point (riser k nm) (x_at l (pos 1500) n.instances i) (access_point m.cell pin) else []) (cond v (pin_lines (block_of n l net ports) k i p) [])
  tested k nm i p one m pin h true = let r = place_is i p one m pin h in pin_drawn k nm i p (x_at l (pos 1500) n.instances i) (access_point m.cell pin) r.0 r.1 r.2 r.3 r.4
  tested k nm i p one m pin h false = nothing (shown (own n) (call n l ports))

  risers_drawn : (k : ℕ) (nm : Option name.Name) → k < net_count n → Drawn (shown (own n) (call n l ports)) (of_pins n l net k (riser k nm)) (terminal_lines (block_of n l net ports) k)
  risers_drawn k nm low =
      along_drawn (shown (own n) (call n l ports)) l n.instances (pos 1500) (λ x one. of_cell n net k (riser k nm) x one.name (cell_of l one.model))
      (λ i. up_to ((block_of n l net ports).cell i).pins (λ p. cond (eqb ((block_of n l net ports).net i p) k) (pin_lines (block_of n l net ports) k i p) []))
      (λ i one e.
      let m = model_of n l net ports (row_places n l net ports) ok.nets one (In_get n.instances i one e) in
      let b = block_of n l net ports in
      let x = x_at l (pos 1500) n.instances i in
      let c : (b.cell i).pins ≡ length (names_of (pin_ports m.cell)) = ap (λ (v : Cell). v.pins) (cell_is n l net ports (row_places n l net ports) ok.nets i one m e) in
      let d : Drawn (shown (own n) (call n l ports)) (flat_map (of_pin n net k (riser k nm) x one.name m.cell) (names_of (pin_ports m.cell))) (up_to (length (names_of (pin_ports m.cell))) (λ p. cond (eqb (b.net i p) k) (pin_lines b k i p) [])) =
      flat_drawn (shown (own n) (call n l ports)) (names_of (pin_ports m.cell)) (of_pin n net k (riser k nm) x one.name m.cell) (λ p. cond (eqb (b.net i p) k) (pin_lines b k i p) [])
      (λ p pin h. let f : eqb (b.net i p) k ≡ eqb (net (n.class (pin_of one.name pin))) k =
      ap (λ v. eqb v k) (net_is n l net ports (row_places n l net ports) ok.nets i p one m pin (e, h)) ∙ number_test (net_count n) (net (n.class (pin_of one.name pin))) (pins_before l 0 n.instances i + p) k low in
      subst (λ v. Drawn (shown (own n) (call n l ports)) (of_pin n net k (riser k nm) x one.name m.cell pin) (cond v (pin_lines b k i p) [])) (sym f)
      (tested k nm i p one m pin (e, h) (eqb (net (n.class (pin_of one.name pin))) k))) in
      subst (λ o. Drawn (shown (own n) (call n l ports)) (of_cell n net k (riser k nm) x one.name o) (up_to (b.cell i).pins (λ p. cond (eqb (b.net i p) k) (pin_lines b k i p) []))) (sym m.found)
      (subst (λ v. Drawn (shown (own n) (call n l ports)) (flat_map (of_pin n net k (riser k nm) x one.name m.cell) (names_of (pin_ports m.cell))) (up_to v (λ p. cond (eqb (b.net i p) k) (pin_lines b k i p) []))) (sym c) d))

  -- ---- the points of a net
  if_in : (P : ℤ → Type 0) (v : Bool) (xs : List ℤ) → ((y : ℤ) → In y xs → P y) → (y : ℤ) → In y (if v then xs else []) → P y
  if_in P true xs f y h = f y h
  if_in P false xs f y h = elim h [ ]

  pins_grid : (k : ℕ) (y : ℤ) → In y (pin_xs n l net k) → IsGrid y
  pins_grid k = along_all IsGrid l n.instances (pos 1500) (λ x one. of_cell n net k (λ (q : Point). q.0 ∷ []) x one.name (cell_of l one.model))
      (λ i one e y h.
      let m = model_of n l net ports (row_places n l net ports) ok.nets one (In_get n.instances i one e) in
      let x = x_at l (pos 1500) n.instances i in
      flat_all IsGrid (names_of (pin_ports m.cell)) (of_pin n net k (λ (q : Point). q.0 ∷ []) x one.name m.cell)
      (λ p pin g z j. if_in IsGrid (nat_eq (net (n.class (pin_of one.name pin))) k) (at_point (λ (q : Point). q.0 ∷ []) x (access_point m.cell pin))
      (λ w u. let r = place_is i p one m pin (e, g) in
      one_grid (r.0.0 +ℤ x) w (pin_column (block_of n l net ports) i p) r.2 r.5 (subst (λ o. In w (at_point (λ (q : Point). q.0 ∷ []) x o)) r.1 u)) z j)
      y (subst (λ o. In y (of_cell n net k (λ (q : Point). q.0 ∷ []) x one.name o)) m.found h))
    where
      one_grid : (z w : ℤ) (c : ℕ) → z ≡ at_x c → 3 ≤ c → In w (z ∷ []) → IsGrid w
      one_grid z w c e le here = (c, e, le)
      one_grid z w c e le (there h) = elim h [ ]

  ports_grid : (o : Option name.Name) (y : ℤ) → In y (port_xs o) → IsGrid y
  ports_grid None y h = elim h [ ]
  ports_grid (Some m) y here = (3, refl, omega arith)
  ports_grid (Some m) y (there h) = elim h [ ]

  spans_at : (k : ℕ) → Spans (pin_xs n l net k) (port_xs (slice_get ports k))
  spans_at k = spans (pin_xs n l net k) (port_xs (slice_get ports k)) (pins_grid k) (ports_grid (slice_get ports k))

  pin_in_net : (i p : ℕ) (one : Member) (m : IsModel l one) (pin : name.Name) → IsPinAt n l i p one m pin → (block_of n l net ports).net i p < net_count n → In (at_x (pin_column (block_of n l net ports) i p)) (pin_xs n l net ((block_of n l net ports).net i p))
  pin_in_net i p one m pin h under =
      let b = block_of n l net ports in
      let k = b.net i p in
      let x = x_at l (pos 1500) n.instances i in
      let r = place_is i p one m pin h in
      let t : true ≡ nat_eq (net (n.class (pin_of one.name pin))) k = sym (eq-eqb _ _ (sym (on_its_net i p one m pin h under))) in
      let w : In (at_x (pin_column b i p)) ((r.0.0 +ℤ x) ∷ []) = subst (λ v. In v ((r.0.0 +ℤ x) ∷ [])) r.2 here in
      let a : In (at_x (pin_column b i p)) (at_point (λ (q : Point). q.0 ∷ []) x (access_point m.cell pin)) = subst (λ o. In (at_x (pin_column b i p)) (at_point (λ (q : Point). q.0 ∷ []) x o)) (sym r.1) w in
      let c : In (at_x (pin_column b i p)) (of_pin n net k (λ (q : Point). q.0 ∷ []) x one.name m.cell pin) = subst (λ v. In (at_x (pin_column b i p)) (if v then at_point (λ (q : Point). q.0 ∷ []) x (access_point m.cell pin) else [])) t a in
      along_in l n.instances (pos 1500) (λ x one. of_cell n net k (λ (q : Point). q.0 ∷ []) x one.name (cell_of l one.model)) i one (at_x (pin_column b i p)) h.0
      (subst (λ o. In (at_x (pin_column b i p)) (of_cell n net k (λ (q : Point). q.0 ∷ []) x one.name o)) (sym m.found)
      (flat_in (names_of (pin_ports m.cell)) (of_pin n net k (λ (q : Point). q.0 ∷ []) x one.name m.cell) p pin (at_x (pin_column b i p)) h.1 c))

  port_in : (k : ℕ) → k < length ports → In (at_x 3) (port_xs (slice_get ports k))
  port_in k lt = let r = get_there ports k lt in subst (λ o. In (at_x 3) (port_xs o)) (sym r.1) here

  pub has_tracks : HasTracks (block_of n l net ports) (low n l net ports) (high n l net ports)
  has_tracks = record {
    one_row = refl;
    columns = cells_own n l net ports ok;
    off = past_apart n l net ports (row_places n l net ports) ok.nets;
    port_nets = λ k lt. port_below n l net ports (row_places n l net ports) ok.nets k lt;
    order = λ k lt m. (spans_at k).order m;
    start = λ k lt m. (spans_at k).start m;
    reached = λ i p hi hp under. let r = pin_there n l net ports (row_places n l net ports) ok.nets i p hi hp in some_of _ _ (pin_in_net i p r.0 r.1 r.2 r.3 under);
    pins = λ i p hi hp under. let r = pin_there n l net ports (row_places n l net ports) ok.nets i p hi hp in let h = pin_in_net i p r.0 r.1 r.2 r.3 under in (spans_at ((block_of n l net ports).net i p)).within _ (some_of _ _ h) (inl h);
    ports = λ k lt m. let s = (spans_at k).start m in let w = (spans_at k).within 3 m (inr (port_in k lt)) in let w0 = w.0 in omega arith;
    alone = λ k q hk hq m e. e;
  }

  pub net_drawn : (k : ℕ) → k < net_count n → Drawn (shown (own n) (call n l ports)) (net_wiring n l net ports k) (drawn_track (block_of n l net ports) (low n l net ports) (high n l net ports) k ++ terminal_lines (block_of n l net ports) k)
  net_drawn k low =
      Drawn_append (shown (own n) (call n l ports)) _ _ _ _ (track_drawn (own n) (call n l ports) k (slice_get ports k) (pin_xs n l net k) (port_xs (slice_get ports k)) (pins_grid k) (ports_grid (slice_get ports k)))
      (risers_drawn k (slice_get ports k) low)
