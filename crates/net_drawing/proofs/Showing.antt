-- A figure that shows the block of a netlist shows the netlist.
use Rattle.std.proofs.Common.{◌≡◌, ◌≢◌, ℕ, ◌+◌, ◌<◌, ◌≤◌, ◌⊎◌, inl, inr, ⊎_elim, Bool, true, false, List, ◌∷◌, map, length, Option, Some, None, refl, sym, ap, ◌∙◌, subst, arith}
use Rattle.std.specs.Prelude.{slice_get, slice_index_or, AllPairs, IsTrue, ◌↔◌}
use Rattle.std.proofs.lemmas.Bool.{cases_lt}
use Rattle.std.proofs.lemmas.Option.{slice_get_within, get_or_from_slice_get}
use Rattle.vlsi_base.specs.declared.name.Name as name
use Rattle.vlsi_base.specs.declared.name.Terminal as terminal
use Rattle.machine_core.specs.Named.{is_same_name}
use Rattle.machine_core.specs.Machine.{names_of}
use Rattle.vlsi_base.specs.Member.{In, here, there}
use Rattle.vlsi_base.specs.Names.{comes_before, vdd, vss}
use Rattle.sym_geom.specs.declared.item.Item.{Item}
use Rattle.sym_shapes.specs.Shape.{connector_names}
use Rattle.sym_shapes.specs.Joined.{AreJoined}
use Rattle.cell_model.specs.Layout as layout
use Rattle.cell_model.specs.Cell.{pin_ports}
use Rattle.cell_model.specs.Cell as cells
use Rattle.cell_model.specs.Library.{Library, cell_of}
use Rattle.net_meaning.specs.Netlist.{Member, AbstractNetlist, port, pin_of, IsTerminal, a_port, a_pin}
use Rattle.ocp_rows.specs.Placement.{net_count}
use Rattle.block_geom.specs.Figure.{Supply, Vss, Vdd, Name, Power, Bit}
use Rattle.block_geom.specs.Block as block
use Rattle.block_geom.specs.Block.{Cell, Net, PowerNet, Signal, AtPort, AtPin, Exists, net_of, terminal_at}
use Rattle.net_drawing.specs.Picture.{terminal_of}
use Rattle.net_drawing.specs.Shown.{IsSupply, IsSupplyClass, IsOnNet, IsTied, ShowsNetlist, KeepsNetlist}
use Rattle.net_drawing.specs.Drawing.{Numbering, HasNumberedNets}
use Rattle.net_drawing.proofs.Coding.{In_get, get_In, get_there, name_or, code, decode, same_name_true, same_name_itself}
use Rattle.net_drawing.proofs.Cells.{code_at}
use Rattle.net_drawing.proofs.Numbers.{own, call, pins_before, number_low, number_beyond}
use Rattle.net_drawing.proofs.Block.{Places, block_with, model_of, member_there, cell_is, pins_are, own_is, pin_is, net_is, pin_there, pin_listed, pin_signal, port_there, port_below, past_apart}

apart_places : {A : Type 0} (R : A → A → Type 0) (xs : List A) → AllPairs R xs → (i k : ℕ) (a b : A) → slice_get xs i ≡ Some a → slice_get xs k ≡ Some b → (R a b → ⊥) → (R b a → ⊥) → i ≡ k
apart_places {A = A} R xs all i k a b e f no_ab no_ba =
    ⊎_elim
    (λ lt. absurd (no_ab (both i k a b e f lt)))
    (λ ge. ⊎_elim (λ gt. absurd (no_ba (both k i b a f e gt))) (λ le. omega arith) (cases_lt k i))
    (cases_lt i k)
  where
    both : (i k : ℕ) (a b : A) → slice_get xs i ≡ Some a → slice_get xs k ≡ Some b → i < k → R a b
    both i k a b e f lt =
        let h = all i k a lt (slice_get_within xs k b f) in
        let p : slice_index_or xs i a ≡ a = get_or_from_slice_get xs i a a e in
        let q : slice_index_or xs k a ≡ b = get_or_from_slice_get xs k b a f in
        subst (λ v. R a v) q (subst (λ v. R v (slice_index_or xs k a)) p h)

vdd_vss : vdd ≢ vss
vdd_vss e = let a : is_same_name vdd vdd ≡ is_same_name vdd vss = ap (is_same_name vdd) e in let b : true ≡ false = a in cc b

decide : (m : name.Name) → (m ≡ vdd) ⊎ ((m ≡ vss) ⊎ ((m ≢ vdd) × (m ≢ vss)))
decide m = by (is_same_name m vdd) (is_same_name m vss) refl refl
  where
    by : (r q : Bool) → is_same_name m vdd ≡ r → is_same_name m vss ≡ q → (m ≡ vdd) ⊎ ((m ≡ vss) ⊎ ((m ≢ vdd) × (m ≢ vss)))
    by true q e f = inl (same_name_true m vdd e)
    by false true e f = inr (inl (same_name_true m vss f))
    by false false e f = inr (inr (
      λ g. let a : is_same_name m vdd ≡ true = subst (λ v. is_same_name v vdd ≡ true) (sym g) (same_name_itself vdd) in let d : true ≡ false = sym a ∙ e in cc d,
      λ g. let a : is_same_name m vss ≡ true = subst (λ v. is_same_name v vss ≡ true) (sym g) (same_name_itself vss) in let d : true ≡ false = sym a ∙ f in cc d,
    ))

-- the number of a name comes back
abbrev IsLow : List name.Name → Name → Type 0
IsLow xs (Power u) = Unit {0}
IsLow xs (Bit p) = p < length xs

decode_code : (xs : List name.Name) → AllPairs (λ a b. IsTrue (comes_before a b)) xs → ((m : name.Name) → In m xs → (m ≢ vdd) × (m ≢ vss)) → (m : Name) → IsLow xs m → code xs (decode xs m) ≡ m
decode_code xs order off (Power Vdd) h = refl
decode_code xs order off (Power Vss) h = refl
decode_code xs order off (Bit p) h =
    let r = get_there xs p h in let s = off r.0 (In_get xs p r.0 r.1) in
    ap (λ o. code xs (name_or o)) r.1 ∙ code_at xs order p r.0 r.1 s.0 s.1

head_or : (m x : name.Name) (xs : List name.Name) → In m (x ∷ xs) → (m ≡ x) ⊎ In m xs
head_or m x xs here = inl refl
head_or m x xs (there h) = inr h

-- what a terminal with this net in the block is
pub data About (n : AbstractNetlist) (net : Numbering) (t : terminal.Terminal) : Net → Type 0 where
  at_vdd : t.pin ≡ vdd → About n net t (PowerNet Vdd)
  at_vss : t.pin ≡ vss → About n net t (PowerNet Vss)
  on_net : {k : ℕ} → (IsSupply t.pin → ⊥) → net (n.class t) < net_count n → net (n.class t) ≡ k → About n net t (Signal k)
  past : {k : ℕ} → (IsSupply t.pin → ⊥) → net_count n ≤ net (n.class t) → net_count n ≤ k → About n net t (Signal k)

abbrev number_of : Net → ℕ
number_of (PowerNet u) = 0
number_of (Signal k) = k

no_supply : (m : name.Name) → (m ≢ vdd) × (m ≢ vss) → IsSupply m → ⊥
no_supply m f (inl e) = f.0 e
no_supply m f (inr e) = f.1 e

-- a terminal of a block whose number is past the nets is the only one with it
only_one : (n : AbstractNetlist) (l : Library) (net : Numbering) (ports : List name.Name) (put : Places) (ok : HasNumberedNets n l net ports) (t u : block.Terminal) (k : ℕ)
    → Exists (block_with n l net ports put) t → Exists (block_with n l net ports put) u → net_of (block_with n l net ports put) t ≡ Signal k → net_count n ≤ k
    → net_of (block_with n l net ports put) t ≡ net_of (block_with n l net ports put) u → t ≡ u
only_one n l net ports put ok (AtPort (Power s)) u k ht hu e le f = absurd (cc e)
only_one n l net ports put ok (AtPort (Bit q)) u k ht hu e le f = absurd (let a = port_below n l net ports put ok q ht in let g : q ≡ k = ap number_of e in omega (arith, a, g, le))
only_one n l net ports put ok (AtPin i (Power s)) u k ht hu e le f = absurd (cc e)
only_one n l net ports put ok (AtPin i (Bit p)) (AtPort (Power s)) k ht hu e le f = absurd (cc f)
only_one n l net ports put ok (AtPin i (Bit p)) (AtPort (Bit q)) k ht hu e le f =
    absurd (let a = port_below n l net ports put ok q hu in let g : (block_with n l net ports put).net i p ≡ k = ap number_of e in let h : (block_with n l net ports put).net i p ≡ q = ap number_of f in omega (arith, a, g, h, le))
only_one n l net ports put ok (AtPin i (Bit p)) (AtPin j (Power s)) k ht hu e le f = absurd (cc f)
only_one n l net ports put ok (AtPin i (Bit p)) (AtPin j (Bit q)) k ht hu e le f =
    let g : (block_with n l net ports put).net i p ≡ k = ap number_of e in
    let s = past_apart n l net ports put ok i p j q ht.0 ht.1 hu.0 hu.1 (omega (arith, g, le)) (ap number_of f) in
    ap (λ v. AtPin v (Bit p)) s.0 ∙ ap (λ v. AtPin j (Bit v)) s.1

module _ (n : AbstractNetlist) (l : Library) (net : Numbering) (ports : List name.Name) (put : Places) (ok : HasNumberedNets n l net ports) where
  -- ---- terminals
  abbrev Stands : terminal.Terminal → Net → Type 0
  Stands t k = IsTerminal n l t × About n net t k

  about : (u : block.Terminal) → Exists (block_with n l net ports put) u → IsTerminal n l (terminal_of (own n) (call n l ports) u) × About n net (terminal_of (own n) (call n l ports) u) (net_of (block_with n l net ports put) u)
  about (AtPort (Power Vdd)) h = (a_port ok.has_vdd, at_vdd refl)
  about (AtPort (Power Vss)) h = (a_port ok.has_vss, at_vss refl)
  about (AtPort (Bit k)) h =
      let r = get_there ports k h in let t = port_there n l net ports put ok k r.0 r.1 in
      let e : port r.0 ≡ port (name_or (slice_get ports k)) = ap (λ o. port (name_or o)) (sym r.1) in
      subst (λ v. IsTerminal n l v × About n net v (Signal k)) e (t.terminal, on_net (no_supply r.0 (let q = (ok.port_names r.0).0 (In_get ports k r.0 r.1) in (q.1, q.2))) (ok.below (port r.0) t) (ok.port_nets k r.0 r.1))
  about (AtPin i (Power Vdd)) h =
      let r = member_there n l net ports put ok i h in
      let e : pin_of r.0.name vdd ≡ pin_of (own n i) vdd = ap (λ v. pin_of v vdd) (sym (own_is n l net ports put ok i r.0 r.1)) in
      subst (λ v. IsTerminal n l v × About n net v (PowerNet Vdd)) e (a_pin r.0 r.2.cell (In_get n.instances i r.0 r.1) r.2.found ((r.2.usable.connectors vdd).1 (inl refl)), at_vdd refl)
  about (AtPin i (Power Vss)) h =
      let r = member_there n l net ports put ok i h in
      let e : pin_of r.0.name vss ≡ pin_of (own n i) vss = ap (λ v. pin_of v vss) (sym (own_is n l net ports put ok i r.0 r.1)) in
      subst (λ v. IsTerminal n l v × About n net v (PowerNet Vss)) e (a_pin r.0 r.2.cell (In_get n.instances i r.0 r.1) r.2.found ((r.2.usable.connectors vss).1 (inr (inl refl))), at_vss refl)
  about (AtPin i (Bit p)) h =
      let r = pin_there n l net ports put ok i p h.0 h.1 in
      let b = block_with n l net ports put in
      let s = no_supply r.2 (pin_signal n l net ports put ok i p r.0 r.1 r.2 r.3) in
      let k = net (n.class (pin_of r.0.name r.2)) in
      let own = pins_before l 0 n.instances i + p in
      let e = net_is n l net ports put ok i p r.0 r.1 r.2 r.3 in
      subst (λ v. IsTerminal n l v × About n net v (Signal ((block_with n l net ports put).net i p))) (sym (pin_is n l net ports put ok i p r.0 r.1 r.2 r.3)) (
        pin_listed n l net ports put ok i p r.0 r.1 r.2 r.3,
        ⊎_elim
            (λ lt. on_net s lt (sym (e ∙ number_low (net_count n) k own lt)))
            (λ ge. past s ge (subst (λ v. net_count n ≤ v) (sym e) (number_beyond (net_count n) k own ge)))
            (cases_lt k (net_count n)),
      )

  abbrev Found : terminal.Terminal → Type 0
  Found t = (u : block.Terminal) × Exists (block_with n l net ports put) u × (t ≡ terminal_of (own n) (call n l ports) u)

  port_found : (m : name.Name) → In m n.ports → (u : block.Terminal) × Exists (block_with n l net ports put) u × (port m ≡ terminal_of (own n) (call n l ports) u)
  port_found m h =
      ⊎_elim
      (λ e. (AtPort (Power Vdd), tt, ap port e))
      (⊎_elim
      (λ e. (AtPort (Power Vss), tt, ap port e))
      (λ f. let r = get_In ports m ((ok.port_names m).1 (h, f.0, f.1)) in (AtPort (Bit r.0), slice_get_within ports r.0 m r.1, ap (λ o. port (name_or o)) (sym r.1))))
      (decide m)

  pin_found : (one : Member) (m : name.Name) (listed : In one n.instances) → (c : cells.Cell) → cell_of l one.model ≡ Some c → In m (connector_names c.items) → (u : block.Terminal) × Exists (block_with n l net ports put) u × (pin_of one.name m ≡ terminal_of (own n) (call n l ports) u)
  pin_found one m listed c found h =
      let j = get_In n.instances one listed in
      let mo = model_of n l net ports put ok one listed in
      let lt = slice_get_within n.instances j.0 one j.1 in
      let e : c ≡ mo.cell = same_some c mo.cell (sym found ∙ mo.found) in
      let h2 : In m (connector_names mo.cell.items) = subst (λ (v : cells.Cell). In m (connector_names v.items)) e h in
      let o = own_is n l net ports put ok j.0 one j.1 in
      ⊎_elim
      (λ e. (AtPin j.0 (Power Vdd), lt, ap (λ v. pin_of one.name v) e ∙ ap (λ v. pin_of v vdd) (sym o)))
      (⊎_elim
      (λ e. (AtPin j.0 (Power Vss), lt, ap (λ v. pin_of one.name v) e ∙ ap (λ v. pin_of v vss) (sym o)))
      (λ f. let p = get_In (names_of (pin_ports mo.cell)) m f in
      let c2 : ((block_with n l net ports put).cell j.0).pins ≡ length (names_of (pin_ports mo.cell)) = ap (λ (v : Cell). v.pins) (cell_is n l net ports put ok j.0 one mo j.1) in
      let w = slice_get_within (names_of (pin_ports mo.cell)) p.0 m p.1 in
      (AtPin j.0 (Bit p.0), (lt, subst (λ v. p.0 < v) (sym c2) w), sym (pin_is n l net ports put ok j.0 p.0 one mo m (j.1, p.1)))))
      ((mo.usable.connectors m).0 h2)
    where
      same_some : (c d : cells.Cell) → Some c ≡ Some d → c ≡ d
      same_some c d e = cc

  found : (t : terminal.Terminal) → IsTerminal n l t → (u : block.Terminal) × Exists (block_with n l net ports put) u × (t ≡ terminal_of (own n) (call n l ports) u)
  found t (a_port {name = m} h) = port_found m h
  found t (a_pin {name = m} one c listed at h) = pin_found one m listed c at h

  -- ---- names
  pub owners_apart : (i k : ℕ) → i < length n.instances → k < length n.instances → own n i ≡ own n k → i ≡ k
  owners_apart i k hi hk e =
      let r = member_there n l net ports put ok i hi in let s = member_there n l net ports put ok k hk in
      let f : r.0.name ≡ s.0.name = sym (own_is n l net ports put ok i r.0 r.1) ∙ e ∙ own_is n l net ports put ok k s.0 s.1 in
      apart_places (λ (a b : Member). a.name ≢ b.name) n.instances ok.names i k r.0 s.0 r.1 s.1 (λ d. d f) (λ d. d (sym f))

  pub names_apart : (o : Option ℕ) (m d : Name) → Exists (block_with n l net ports put) (terminal_at o m) → Exists (block_with n l net ports put) (terminal_at o d) → call n l ports o m ≡ call n l ports o d → m ≡ d
  names_apart None m d hm hd e =
      sym (decode_code ports ok.order ports_off m (low_port m hm)) ∙ ap (code ports) e ∙ decode_code ports ok.order ports_off d (low_port d hd)
    where
      ports_off : (x : name.Name) → In x ports → (x ≢ vdd) × (x ≢ vss)
      ports_off x h = let r = (ok.port_names x).0 h in (r.1, r.2)

      low_port : (m : Name) → Exists (block_with n l net ports put) (AtPort m) → IsLow ports m
      low_port (Power u) h = tt
      low_port (Bit p) h = h
  names_apart (Some i) m d hm hd e =
      let r = member_there n l net ports put ok i (there m hm) in
      let xs = names_of (pin_ports r.2.cell) in
      let q = pins_are n l net ports put ok i r.0 r.2 r.1 in
      let e2 : decode xs m ≡ decode xs d = ap (λ v. decode v m) (sym q) ∙ e ∙ ap (λ v. decode v d) q in
      let c : ((block_with n l net ports put).cell i).pins ≡ length xs = ap (λ (v : Cell). v.pins) (cell_is n l net ports put ok i r.0 r.2 r.1) in
      sym (decode_code xs r.2.usable.order r.2.clean.signals m (low_pin xs c m hm)) ∙ ap (code xs) e2 ∙ decode_code xs r.2.usable.order r.2.clean.signals d (low_pin xs c d hd)
    where
      there : (m : Name) → Exists (block_with n l net ports put) (AtPin i m) → i < length n.instances
      there (Power u) h = h
      there (Bit p) h = h.0

      low_pin : (xs : List name.Name) → ((block_with n l net ports put).cell i).pins ≡ length xs → (m : Name) → Exists (block_with n l net ports put) (AtPin i m) → IsLow xs m
      low_pin xs c (Power u) h = tt
      low_pin xs c (Bit p) h = subst (λ v. p < v) c h.1

-- what the lines of a figure show of the block
pub record IsFigureOf (items : List Item) (n : AbstractNetlist) (l : Library) (net : Numbering) (ports : List name.Name) (put : Places) : Type 0 where
  pub names : connector_names items ≡ vss ∷ (vdd ∷ ports)
  pub members : n.instances ≡ map (λ i. record { name = i.name; model = i.model }) (layout.instances_of items)
  pub only : (t u : block.Terminal) → Exists (block_with n l net ports put) t → Exists (block_with n l net ports put) u
      → AreJoined (layout.shapes items l) (terminal_of (own n) (call n l ports) t) (terminal_of (own n) (call n l ports) u)
      → net_of (block_with n l net ports put) t ≡ net_of (block_with n l net ports put) u
  pub supplies : (t u : block.Terminal) (s : Supply) → Exists (block_with n l net ports put) t → Exists (block_with n l net ports put) u
      → net_of (block_with n l net ports put) t ≡ PowerNet s → net_of (block_with n l net ports put) u ≡ PowerNet s
      → AreJoined (layout.shapes items l) (terminal_of (own n) (call n l ports) t) (terminal_of (own n) (call n l ports) u)

-- and all joints of nets
abbrev pub JoinsAll : List Item → AbstractNetlist → Library → Numbering → List name.Name → Places → Type 0
JoinsAll items n l net ports put =
    (t u : block.Terminal) → Exists (block_with n l net ports put) t → Exists (block_with n l net ports put) u
    → net_of (block_with n l net ports put) t ≡ net_of (block_with n l net ports put) u
    → AreJoined (layout.shapes items l) (terminal_of (own n) (call n l ports) t) (terminal_of (own n) (call n l ports) u)

module _ (n : AbstractNetlist) (l : Library) (net : Numbering) (ports : List name.Name) (put : Places) (ok : HasNumberedNets n l net ports) (items : List Item) (fig : IsFigureOf items n l net ports put) where
  abbrev Joins : terminal.Terminal → terminal.Terminal → Type 0
  Joins t u = AreJoined (layout.shapes items l) t u

  -- where a terminal of the netlist stands in the block
  pub record IsAt (t : terminal.Terminal) : Type 0 where
    pub at : block.Terminal
    pub there : Exists (block_with n l net ports put) at
    pub is : t ≡ terminal_of (own n) (call n l ports) at
    pub about : About n net t (net_of (block_with n l net ports put) at)

  place : (t : terminal.Terminal) → IsTerminal n l t → IsAt t
  place t h =
      let r = found n l net ports put ok t h in
      record { at = r.0; there = r.1; is = r.2; about = subst (λ v. About n net v (net_of (block_with n l net ports put) r.0)) (sym r.2) (about n l net ports put ok r.0 r.1).1 }

  -- what is joined by its places
  joined_so : (t u : terminal.Terminal) (p : IsAt t) (q : IsAt u) → Joins (terminal_of (own n) (call n l ports) p.at) (terminal_of (own n) (call n l ports) q.at) → Joins t u
  joined_so t u p q j =
      subst (λ v. Joins v u) (sym p.is)
      (subst (λ v. Joins (terminal_of (own n) (call n l ports) p.at) v) (sym q.is) j)

  one_net : (t u : terminal.Terminal) (p : IsAt t) (q : IsAt u) → Joins t u → net_of (block_with n l net ports put) p.at ≡ net_of (block_with n l net ports put) q.at
  one_net t u p q j =
      fig.only p.at q.at p.there q.there
      (subst (λ v. Joins (terminal_of (own n) (call n l ports) p.at) v) q.is (subst (λ v. Joins v u) p.is j))

  -- ---- on nets
  net_on : (t : terminal.Terminal) (k : Net) → About n net t k → IsOnNet n l t → k ≡ Signal (net (n.class t))
  net_on t k (at_vdd p) h = absurd (h.free (inl (ok.high t h.terminal p)))
  net_on t k (at_vss p) h = absurd (h.free (inr (ok.low t h.terminal p)))
  net_on t k (on_net f lt e) h = ap Signal (sym e)
  net_on t k (past f ge g) h = absurd (let lt = ok.below t h in omega (arith, lt, ge))

  -- what has the net of such a terminal is one
  on_back : (t u : terminal.Terminal) (k : Net) → About n net u k → IsTerminal n l u → IsOnNet n l t → Signal (net (n.class t)) ≡ k → n.class t ≡ n.class u
  on_back t u k (at_vdd p) hu h e = absurd (cc e)
  on_back t u k (at_vss p) hu h e = absurd (cc e)
  on_back t u k (on_net f lt g) hu h e =
      let free : IsSupplyClass n (n.class u) → ⊥ = λ s. let ge = ok.past (n.class u) s in omega (arith, lt, ge) in
      ok.one_class t u h (record { terminal = hu; free = free }) (ap number_of e ∙ sym g)
  on_back t u k (past {k = j} f ge g) hu h e = absurd (let lt = ok.below t h in let s : net (n.class t) ≡ j = ap number_of e in omega (arith, lt, g, s))

  nets : JoinsAll items n l net ports put → (t u : terminal.Terminal) → IsOnNet n l t → IsTerminal n l u → (n.class t ≡ n.class u) ↔ ((t ≡ u) ⊎ Joins t u)
  nets all t u ht hu =
      let p = place t ht.terminal in let q = place u hu in
      let a = net_on t (net_of (block_with n l net ports put) p.at) p.about ht in (
        λ e. let other : IsOnNet n l u = record { terminal = hu; free = λ s. ht.free (subst (IsSupplyClass n) (sym e) s) } in
            inr (joined_so t u p q (all p.at q.at p.there q.there (a ∙ ap (λ c. Signal (net c)) e ∙ sym (net_on u (net_of (block_with n l net ports put) q.at) q.about other)))),
        λ c. ⊎_elim (λ e. ap n.class e) (λ j. on_back t u (net_of (block_with n l net ports put) q.at) q.about hu ht (sym a ∙ one_net t u p q j)) c,
      )

  -- ---- tied pins
  net_past : (t : terminal.Terminal) (k : Net) → About n net t k → IsTied n l t → (j : ℕ) × (k ≡ Signal j) × (net_count n ≤ j)
  net_past t k (at_vdd p) h = absurd (h.signal (inl p))
  net_past t k (at_vss p) h = absurd (h.signal (inr p))
  net_past t k (on_net f lt e) h = absurd (let ge = ok.past (n.class t) h.tied in omega (arith, lt, ge))
  net_past t k (past {k = j} f ge g) h = (j, refl, g)

  tied : (t u : terminal.Terminal) → IsTied n l t → IsTerminal n l u → Joins t u → u ≡ t
  tied t u ht hu j =
      let p = place t ht.terminal in let q = place u hu in
      let a = net_past t (net_of (block_with n l net ports put) p.at) p.about ht in
      let e = only_one n l net ports put ok p.at q.at a.0 p.there q.there a.1 a.2 (one_net t u p q j) in
      q.is ∙ ap (terminal_of (own n) (call n l ports)) (sym e) ∙ sym p.is

  -- ---- supplies
  vdd_net : (t : terminal.Terminal) (k : Net) → About n net t k → t.pin ≡ vdd → k ≡ PowerNet Vdd
  vdd_net t k (at_vdd p) e = refl
  vdd_net t k (at_vss p) e = absurd (vdd_vss (sym e ∙ p))
  vdd_net t k (on_net f lt g) e = absurd (f (inl e))
  vdd_net t k (past f ge g) e = absurd (f (inl e))

  vss_net : (t : terminal.Terminal) (k : Net) → About n net t k → t.pin ≡ vss → k ≡ PowerNet Vss
  vss_net t k (at_vdd p) e = absurd (vdd_vss (sym p ∙ e))
  vss_net t k (at_vss p) e = refl
  vss_net t k (on_net f lt g) e = absurd (f (inr e))
  vss_net t k (past f ge g) e = absurd (f (inr e))

  net_vdd : (t : terminal.Terminal) (k : Net) → About n net t k → PowerNet Vdd ≡ k → t.pin ≡ vdd
  net_vdd t k (at_vdd p) e = p
  net_vdd t k (at_vss p) e = absurd (cc e)
  net_vdd t k (on_net f lt g) e = absurd (cc e)
  net_vdd t k (past f ge g) e = absurd (cc e)

  net_vss : (t : terminal.Terminal) (k : Net) → About n net t k → PowerNet Vss ≡ k → t.pin ≡ vss
  net_vss t k (at_vdd p) e = absurd (cc e)
  net_vss t k (at_vss p) e = p
  net_vss t k (on_net f lt g) e = absurd (cc e)
  net_vss t k (past f ge g) e = absurd (cc e)

  supplied : (t u : terminal.Terminal) → IsTerminal n l t → IsTerminal n l u → IsSupply t.pin → (u.pin ≡ t.pin) ↔ Joins t u
  supplied t u ht hu s = by s
    where
      p : IsAt t
      p = place t ht

      q : IsAt u
      q = place u hu

      by : IsSupply t.pin → (u.pin ≡ t.pin) ↔ Joins t u
      by (inl e) =
          let a = vdd_net t (net_of (block_with n l net ports put) p.at) p.about e in (
            λ f. joined_so t u p q (fig.supplies p.at q.at Vdd p.there q.there a (vdd_net u (net_of (block_with n l net ports put) q.at) q.about (f ∙ e))),
            λ j. net_vdd u (net_of (block_with n l net ports put) q.at) q.about (sym a ∙ one_net t u p q j) ∙ sym e,
          )
      by (inr e) =
          let a = vss_net t (net_of (block_with n l net ports put) p.at) p.about e in (
            λ f. joined_so t u p q (fig.supplies p.at q.at Vss p.there q.there a (vss_net u (net_of (block_with n l net ports put) q.at) q.about (f ∙ e))),
            λ j. net_vss u (net_of (block_with n l net ports put) q.at) q.about (sym a ∙ one_net t u p q j) ∙ sym e,
          )

  -- ---- what the lines say of ports and instances
  ports_said : (m : name.Name) → In m n.ports ↔ In m (connector_names items)
  ports_said m = (
    λ h. subst (λ v. In m v) (sym fig.names)
        (⊎_elim (λ e. subst (λ v. In v (vss ∷ (vdd ∷ ports))) (sym e) (there here)) (⊎_elim (λ e. subst (λ v. In v (vss ∷ (vdd ∷ ports))) (sym e) here) (λ f. there (there ((ok.port_names m).1 (h, f.0, f.1))))) (decide m)),
    λ h. back (subst (λ v. In m v) fig.names h),
  )
    where
      back : In m (vss ∷ (vdd ∷ ports)) → In m n.ports
      back h =
          ⊎_elim (λ e. subst (λ v. In v n.ports) (sym e) ok.has_vss)
          (λ g. ⊎_elim (λ e. subst (λ v. In v n.ports) (sym e) ok.has_vdd) (λ k. ((ok.port_names m).0 k).0) (head_or m vdd ports g))
          (head_or m vss (vdd ∷ ports) h)

  -- ---- classes of terminals that are joined
  kept : (t u : terminal.Terminal) → IsTerminal n l t → IsTerminal n l u → Joins t u → n.class t ≡ n.class u
  kept t u ht hu j = by (net_of (block_with n l net ports put) p.at) p.about refl
    where
      p : IsAt t
      p = place t ht

      q : IsAt u
      q = place u hu

      by : (k : Net) → About n net t k → k ≡ net_of (block_with n l net ports put) p.at → n.class t ≡ n.class u
      by k (at_vdd e) w = ok.high t ht e ∙ sym (ok.high u hu (net_vdd u (net_of (block_with n l net ports put) q.at) q.about (w ∙ one_net t u p q j)))
      by k (at_vss e) w = ok.low t ht e ∙ sym (ok.low u hu (net_vss u (net_of (block_with n l net ports put) q.at) q.about (w ∙ one_net t u p q j)))
      by k (on_net f lt g) w =
          on_back t u (net_of (block_with n l net ports put) q.at) q.about hu (record { terminal = ht; free = λ s. let ge = ok.past (n.class t) s in omega (arith, lt, ge) })
          (ap Signal g ∙ w ∙ one_net t u p q j)
      by k (past {k = d} f ge g) w = ap n.class (p.is ∙ ap (terminal_of (own n) (call n l ports)) (only_one n l net ports put ok p.at q.at d p.there q.there (sym w) g (one_net t u p q j)) ∙ sym q.is)

  pub keeps : KeepsNetlist items l n
  keeps = record { ports = ports_said; instances = fig.members; nets = kept; tied = tied; supplies = supplied }

  pub shows : JoinsAll items n l net ports put → ShowsNetlist items l n
  shows all = record { ports = ports_said; instances = fig.members; nets = nets all; tied = tied; supplies = supplied }
