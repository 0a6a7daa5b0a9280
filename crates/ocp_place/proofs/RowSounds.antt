-- What is known of each placement in rows.
use Rattle.std.proofs.Common.{◌≡◌, ℕ, ◌<◌, ◌≤◌, ◌^◌, List, [], ◌∷◌, filter, nat_eq, get_or, length, Option, Some, None, false, refl, ap, sym, subst, arith}
use Rattle.std.specs.List.{All}
use Rattle.std.specs.Global.{Vec}
use Rattle.std.proofs.lemmas.List.Elements.{All-filter, All-same}
use Rattle.vlsi_base.specs.declared.name.Name.{Name}
use Rattle.vlsi_base.specs.Member.{In, here, there}
use Rattle.machine_core.specs.Machine.{names_of}
use Rattle.sym_geom.specs.declared.item.Instance.{Instance}
use Rattle.cell_model.specs.Cell.{Cell, pin_ports}
use Rattle.cell_model.specs.Library.{Library, cell_of}
use Rattle.cell_model.specs.Access.{Point, access_point}
use Rattle.cell_model.proofs.Members.{All-from}
use Rattle.cell_checks.specs.Checked.{IsChecked as HasPassed}
use Rattle.net_core.specs.Netlist.{Netlist as InMemory}
use Rattle.net_meaning.specs.Netlist.{AbstractNetlist, pin_of}
use Rattle.ocp_rows.specs.Length.{shown_point}
use Rattle.ocp_place.specs.declared.row.Site.{Site as Placed}
use Rattle.ocp_place.specs.declared.rows.Standing.{Standing}
use Rattle.ocp_place.specs.declared.place.PortClasses.{PortClasses}
use Rattle.ocp_place.specs.Drawable.{IsDrawableIn}
use Rattle.net_right.specs.View.{IsSeenAs}
use Rattle.ocp_place.specs.Nets.{driven}
use Rattle.ocp_place.specs.Orderly.{IsOrderly}
use Rattle.ocp_place.specs.Ports.{IsSplit, IsSound, AreNear}
use Rattle.ocp_place.specs.Sites.{Site}
use Rattle.ocp_place.specs.Stood.{stood_all, point_site, shown_sites, stood_sites}
use Rattle.ocp_place.specs.Rows.{AreEnds, IsNearSite}
use Rattle.ocp_place.specs.Standing.{IsStanding}
use Rattle.ocp_place.proofs.Bounds.{class_low}
use Rattle.ocp_place.proofs.Points.{flat_back}
use Rattle.ocp_place.proofs.RowSited.{as_member, stood_back}
use Rattle.ocp_place.proofs.Sounds.{k, signal_low, driver_low}

-- the class of a pin's site is one of the netlist's
pub pin_low : (n : AbstractNetlist) (l : Library) (passed : HasPassed false l) (orderly : IsOrderly n l) (xs rows : List ℕ) (class : ℕ) (q : Point)
    → In (class, q) (stood_sites n l (stood_all n.instances xs rows)) → class < n.classes
pin_low n l passed orderly xs rows class q h =
    let r = flat_back (λ (j : Instance). shown_sites n j (cell_of l j.model)) (stood_all n.instances xs rows) (class, q) h in
    own r.0 r.1 (cell_of l r.0.model) refl r.2
  where
    at : (i : Instance) → In i (stood_all n.instances xs rows) → (c : Cell) → cell_of l i.model ≡ Some c → (pin : Name) → In pin (names_of (pin_ports c))
        → (o : Option Point) → In (class, q) (point_site (n.class (pin_of i.name pin)) o) → class < n.classes
    at i g c found pin signal None m = elim m [ ]
    at i g c found pin signal (Some a) m =
        let low = class_low n l passed orderly (as_member i) c pin (stood_back n.instances xs rows i g) found signal in
        let same = head (class, q) (n.class (pin_of i.name pin), a) m in
        subst (λ (x : ℕ). x < n.classes) (sym (ap (λ (s : Site). s.0) same)) low
      where
        head : (s t : Site) → In s (t ∷ []) → s ≡ t
        head s t here = refl
        head s t (there j) = elim j [ ]

    own : (i : Instance) → In i (stood_all n.instances xs rows) → (o : Option Cell) → cell_of l i.model ≡ o → In (class, q) (shown_sites n i o) → class < n.classes
    own i g None found m = elim m [ ]
    own i g (Some c) found m =
        let r = flat_back (λ pin. point_site (n.class (pin_of i.name pin)) (shown_point c i (access_point c pin))) (names_of (pin_ports c)) (class, q) m in
        at i g c found r.0 r.1 (shown_point c i (access_point c r.0)) r.2

-- groups of near points
pub near_groups : (all : List Placed) (ends : List (Vec Placed)) → AreEnds all ends → All IsNearSite all → AreNear ends
near_groups all ends groups near = λ c d low.
    All-same IsNearSite (get_or ends c d).items (filter (λ (s : Placed). nat_eq s.class c) all) (groups.each c d low) (All-filter (λ (s : Placed). nat_eq s.class c) IsNearSite all near)

module _ (l : Library) (n : InMemory) (passed : HasPassed false l) (given : IsDrawableIn l n) (split : PortClasses) (is : IsSplit n.ports n.classes split)
    (rows : List (List ℕ)) (s : Standing) (are : IsStanding (k l n passed given split is) l rows s) where
  pub signals_low : All (λ (c : ℕ). c < n.count) split.signals.items
  signals_low = All-from (λ (c : ℕ). c < n.count) split.signals.items (signal_low l n passed given split is)

  pub rows_sound : (ends : List (Vec Placed)) (width : ℕ) → n.count < 2 ^ 32 → length ends ≡ n.count → AreNear ends → width ≤ 70000000000000
      → ((j : AbstractNetlist) → IsSeenAs n j → s.drivers.items ≡ driven j l j.instances)
      → IsSound split.signals.items s.drivers.items ends s.spots.starts.items width
  rows_sound ends width small many near narrow drivers = record {
    ports = All-from (λ (c : ℕ). c < length ends) split.signals.items (λ c i. let low = signal_low l n passed given split is c i in omega (arith, low, many));
    drivers = All-from (λ (c : ℕ). c < length ends) s.drivers.items (λ c i. let low = driver_low l n passed given split is s.drivers.items drivers c i in omega (arith, low, many));
    few = omega (arith, small, many);
    near = near;
    starts = are.near;
    width = narrow;
  }
