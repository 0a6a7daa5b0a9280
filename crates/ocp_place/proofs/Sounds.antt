-- What is known of each placement.
use Rattle.std.proofs.Common.{◌≡◌, inl, inr, ℕ, suc, ◌+◌, ◌<◌, ◌≤◌, ◌^◌, Bool, true, false, nat_eq, List, [], ◌∷◌, ◌++◌, map, filter, length, get_or, refl, ap, subst, arith, cond}
use Rattle.std.specs.Prelude.{pos}
use Rattle.std.specs.List.{All}
use Rattle.std.specs.Global.{Vec}
use Rattle.std.proofs.lemmas.Int.{ints}
use Rattle.std.proofs.lemmas.List.Elements.{All-filter, All-same}
use Rattle.vlsi_base.specs.declared.name.Name.{Name}
use Rattle.vlsi_base.specs.declared.name.Port.{Port}
use Rattle.vlsi_base.specs.Member.{In, here, there}
use Rattle.sym_geom.specs.declared.grid.TheConstants.{FIRST_CELL_X}
use Rattle.cell_model.specs.Library.{Library}
use Rattle.cell_model.proofs.Members.{In-split, In-map, In-map_back, All-from, All-In}
use Rattle.cell_checks.specs.Checked.{IsChecked as HasPassed}
use Rattle.cell_pins.proofs.Ports.{in_filter}
use Rattle.net_core.specs.Netlist.{Netlist as InMemory}
use Rattle.net_meaning.specs.Netlist.{AbstractNetlist, port, a_port}
use Rattle.net_right.specs.View.{IsSeenAs}
use Rattle.net_right.proofs.Terminals.{seen_classes}
use Rattle.ocp_rows.specs.Placement.{track_y}
use Rattle.ocp_place.specs.declared.row.Site.{Site as Placed}
use Rattle.ocp_place.specs.declared.row.Row.{Row}
use Rattle.ocp_place.specs.declared.place.PortClasses.{PortClasses}
use Rattle.ocp_place.specs.Drawable.{IsDrawableIn}
use Rattle.ocp_place.specs.Nets.{is_signal, signal_ports, port_classes, driven}
use Rattle.ocp_place.specs.Ports.{IsSplit, IsSound, signal_classes}
use Rattle.ocp_place.specs.Reaches.{site_of}
use Rattle.ocp_place.specs.Rows.{IsRow, AreEnds}
use Rattle.ocp_place.specs.Sites.{Site, port_sites}
use Rattle.ocp_place.proofs.Bounds.{driven_low}
use Rattle.ocp_place.proofs.Rowed.{signals_of}
use Rattle.ocp_place.proofs.Classes.{known, known_seen}
use Rattle.ocp_place.proofs.Seen.{orderly}

-- ports without the supplies are at most as many as terminals
pub few_signals : (ports : List Port) (classes : List ℕ) → length (signal_classes ports classes) ≤ length classes
few_signals [] classes = omega arith
few_signals (p ∷ ps) [] = omega arith
few_signals (p ∷ ps) (c ∷ cs) = by (is_signal p.name) (few_signals ps cs) where
  by : (b : Bool) → length (signal_classes ps cs) ≤ length cs → length (cond b (c ∷ signal_classes ps cs) (signal_classes ps cs)) ≤ length (c ∷ cs)
  by true h = omega (arith, h)
  by false h = omega (arith, h)

-- the track of a port
record IsTrack (k : ℕ) (classes : List ℕ) (s : Site) : Type 0 where
  class : In s.0 classes
  x : (s.1).0 ≡ pos FIRST_CELL_X
  number : ℕ
  y : (s.1).1 ≡ track_y number
  low : number < k + length classes

track_of : (k : ℕ) (classes : List ℕ) (s : Site) → In s (port_sites k classes) → IsTrack k classes s
track_of k [] s i = elim i [ ]
track_of k (c ∷ cs) s i = by s i (track_of (suc k) cs) where
  later : (t : Site) → IsTrack (suc k) cs t → IsTrack k (c ∷ cs) t
  later t r = let low = r.low in record { class = there r.class; x = r.x; number = r.number; y = r.y; low = omega (arith, low) }

  by : (t : Site) → In t ((c, (pos FIRST_CELL_X, track_y k)) ∷ port_sites (suc k) cs) → ((u : Site) → In u (port_sites (suc k) cs) → IsTrack (suc k) cs u) → IsTrack k (c ∷ cs) t
  by t here next = record { class = here; x = refl; number = k; y = refl; low = omega arith }
  by t (there j) next = later t (next t j)

module _ (l : Library) (n : InMemory) (passed : HasPassed false l) (given : IsDrawableIn l n) (split : PortClasses) (is : IsSplit n.ports n.classes split) where
  abbrev pub k : AbstractNetlist
  k = known n

  abbrev pub seen : IsSeenAs n k
  seen = known_seen n given.sound

  pub count_is : k.classes ≡ n.count
  count_is = seen_classes n k seen

  pub signal_low : (c : ℕ) → In c split.signals.items → c < n.count
  signal_low c i =
      let e : split.signals.items ≡ port_classes k = signals_of l n passed given split is k seen in
      let j : In c (port_classes k) = subst (λ (cs : List ℕ). In c cs) e i in
      let r = In-map_back (λ (name : Name). k.class (port name)) c (signal_ports k) j in
      let listed = (in_filter is_signal k.ports r.0 r.1).0 in
      let low = (orderly l n passed given k seen).counted.numbered (port r.0) (a_port listed) in
      let at = r.2 in let many = count_is in
      omega (arith, low, at, many)

  pub driver_low : (drivers : List ℕ) → ((k : AbstractNetlist) → IsSeenAs n k → drivers ≡ driven k l k.instances) → (c : ℕ) → In c drivers → c < n.count
  driver_low drivers are c i =
      let o = orderly l n passed given k seen in
      let low = driven_low k l passed o k.instances (λ one h. h) c (subst (λ (cs : List ℕ). In c cs) (are k seen) i) in
      let many = count_is in
      omega (arith, low, many)

  module _ (row : Row) (are : (k : AbstractNetlist) → IsSeenAs n k → IsRow k l row) (all : List Placed) (few : length split.signals.items < 2 ^ 32) (all_is : map site_of all ≡ port_sites 0 split.signals.items ++ map site_of row.sites.items) where
    each_site : (s : Placed) → In s all → (s.class < n.count) × (s.x ≤ 100000000000000) × (s.y ≤ 100000000000000)
    each_site s i = elim (In-split (site_of s) (port_sites 0 split.signals.items) (map site_of row.sites.items) (subst (λ (ss : List Site). In (site_of s) ss) all_is (In-map site_of s all i))) [
      | inl a ↦
          let t = track_of 0 split.signals.items (site_of s) a in
          let low = t.low in let class = signal_low s.class t.class in
          (class, across s.x t.x, upwards s.y t.number t.y (omega (arith, low, few)))
      | inr b ↦
          let r = In-map_back site_of (site_of s) row.sites.items b in
          let own = are k seen in
          let class = All-In (λ (q : Placed). q.class < k.classes) row.sites.items own.classes r.0 r.1 in
          let high = All-In (λ (q : Placed). (q.x ≤ 100000000000000) × (q.y ≤ 5000)) row.sites.items own.heights r.0 r.1 in
          let h = high.0 in let g = high.1 in
          let many = count_is in
          let same : r.0.class ≡ s.class = ap (λ (q : Site). q.0) r.2 in
          let x : pos r.0.x ≡ pos s.x = ap (λ (q : Site). (q.1).0) r.2 in
          let y : pos r.0.y ≡ pos s.y = ap (λ (q : Site). (q.1).1) r.2 in
          (omega (arith, class, many, same), omega (arith, ints, x, h), omega (arith, ints, y, g))
    ] where
      across : (x : ℕ) → pos x ≡ pos FIRST_CELL_X → x ≤ 100000000000000
      across x e = omega (arith, ints, e)

      upwards : (y number : ℕ) → pos y ≡ track_y number → number < 2 ^ 32 → y ≤ 100000000000000
      upwards y number e low = omega (arith, ints, e, low)

    pub classes_low : All (λ (s : Placed). s.class < n.count) all
    classes_low = All-from (λ (s : Placed). s.class < n.count) all (λ s i. (each_site s i).0)

    pub placed_sound : (ends : List (Vec Placed)) → n.count < 2 ^ 32 → length ends ≡ n.count → AreEnds all ends
        → IsSound split.signals.items row.drivers.items ends row.starts.items row.width
    placed_sound ends small many groups =
        let own = are k seen in
        let near : All (λ (s : Placed). (s.x ≤ 100000000000000) × (s.y ≤ 100000000000000)) all =
        All-from (λ (s : Placed). (s.x ≤ 100000000000000) × (s.y ≤ 100000000000000)) all (λ s i. let h = each_site s i in (h.1, h.2)) in
        record {
          ports = All-from (λ (c : ℕ). c < length ends) split.signals.items (λ c i. let low = signal_low c i in omega (arith, low, many));
          drivers = All-from (λ (c : ℕ). c < length ends) row.drivers.items (λ c i. let low = driver_low row.drivers.items (λ j h. (are j h).drivers) c i in omega (arith, low, many));
          few = omega (arith, small, many);
          near = λ c d low. All-same (λ (s : Placed). (s.x ≤ 100000000000000) × (s.y ≤ 100000000000000)) (get_or ends c d).items (filter (λ (s : Placed). nat_eq s.class c) all)
              (groups.each c d low) (All-filter (λ (s : Placed). nat_eq s.class c) (λ (s : Placed). (s.x ≤ 100000000000000) × (s.y ≤ 100000000000000)) all near);
          starts = own.near;
          width = own.narrow;
        }
