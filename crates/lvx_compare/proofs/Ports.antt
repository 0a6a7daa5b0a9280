-- The first port that differs.
use Rattle.std.proofs.Common.{◌≡◌, ◌⊎◌, inl, inr, ℕ, ◌<◌, Bool, true, false, List, length, map, subst}
use Rattle.std.specs.List.{flat_map}
use Rattle.std.proofs.lemmas.Bool.{cases_order}
use Rattle.std.proofs.lemmas.Option.{slice_get_within}
use Rattle.vlsi_base.specs.declared.name.Name.{Name}
use Rattle.vlsi_base.specs.declared.name.Port.{Port}
use Rattle.vlsi_base.specs.Names.{comes_before}
use Rattle.net_core.specs.Places.{Stands}
use Rattle.net_core.specs.Netlist.{Netlist, IsNetlist, port, pins_of, terminals}
use Rattle.net_core.proofs.Standing.{stands_left, stands_same}
use Rattle.net_core.proofs.Frames.{mapped, unmapped, port_terminals}
use Rattle.net_core.proofs.Searching.{rises}
use Rattle.lvx_compare.specs.Compared.{HasPort, IsLeast}
use Rattle.lvx_compare.specs.Stages.{KeepsMembers, AreMarks, mark_at, IsOddPort}
use Rattle.lvx_compare.proofs.Members.{kept_or_other, self_last, not_back}
use Rattle.lvx_compare.proofs.Marked.{kept_at, parted_at}

port_stands : (n : Netlist) (k : ℕ) (p : Port) → Stands n.ports k p → Stands (terminals n) k (port p.name)
port_stands n k p s = stands_left (port_terminals n.ports) (flat_map pins_of n.instances) k (port p.name) (mapped (λ (x : Port). port x.name) n.ports k p s)

module _ (n other : Netlist) (marks : List Bool) (is : IsNetlist n) (are : AreMarks n other marks) where
  named : (k : ℕ) (p : Port) → Stands n.ports k p → Stands (map (λ q. q.name) n.ports) k p.name
  named k p s = mapped (λ (x : Port). x.name) n.ports k p s

  -- a port whose class is marked
  kept_port : (k : ℕ) (name : Name) → Stands (map (λ q. q.name) n.ports) k name → mark_at marks n.classes k ≡ true → KeepsMembers n other (port name)
  kept_port k name s e =
      let u = unmapped (λ (x : Port). x.name) n.ports k name s in
      subst (λ (x : Name). KeepsMembers n other (port x)) u.2 (kept_at n other marks is are k (port u.0.name) (port_stands n k u.0 u.1) e)

  pub first_port : (k : ℕ) (p : Port) → Stands n.ports k p → mark_at marks n.classes k ≡ false → ((j : ℕ) → j < k → mark_at marks n.classes j ≡ true) → IsLeast (IsOddPort n other) p.name
  first_port k p s e before = record {
    holds = record { here = (k, named k p s); parted = parted_at n other marks is are k (port p.name) (port_stands n k p s) e };
    least = λ o odd. by o odd (cases_order k odd.here.0);
  } where
    by : (o : Name) → (odd : IsOddPort n other o) → (k ≡ odd.here.0) ⊎ ((k < odd.here.0) ⊎ (odd.here.0 < k)) → comes_before o p.name ≡ false
    by o odd (inl same) =
        let one : p.name ≡ o = stands_same (map (λ q. q.name) n.ports) odd.here.0 p.name o (let P : ℕ → Type 0 = λ j. Stands (map (λ q. q.name) n.ports) j p.name in subst P same (named k p s)) odd.here.1 in
        subst (λ (x : Name). comes_before x p.name ≡ false) one (self_last p.name)
    by o odd (inr (inl less)) = not_back p.name o (rises (map (λ q. q.name) n.ports) k odd.here.0 p.name o is.ports less (named k p s) odd.here.1)
    by o odd (inr (inr more)) = absurd (kept_or_other n other (port o) (kept_port odd.here.0 o odd.here.1 (before odd.here.0 more)) odd.parted)

  pub all_ports : ((j : ℕ) → j < length n.ports → mark_at marks n.classes j ≡ true) → (name : Name) → HasPort n name → KeepsMembers n other (port name)
  all_ports all name h =
      let u = unmapped (λ (x : Port). x.name) n.ports h.0 name h.1 in
      kept_port h.0 name h.1 (all h.0 (slice_get_within n.ports h.0 u.0 u.1))
