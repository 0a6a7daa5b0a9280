-- The ports of a machine, with the supplies among them.
use Rattle.std.proofs.Common.{◌≡◌, ◌≢◌, ℕ, ◌^◌, ◌<◌, ◌≤◌, List, ◌++◌, length, filter, not, ap, arith, get_or}
use Rattle.std.specs.Prelude.{IsTrue}
use Rattle.std.specs.Ordering.{is_lt}
use Rattle.std.specs.declared.cmp.Ordering.TheVariants.{Less}
use Rattle.vlsi_base.specs.declared.name.Name.{Name}
use Rattle.vlsi_base.specs.declared.name.Port.{Port}
use Rattle.vlsi_base.specs.Name.{name_cmp}
use Rattle.vlsi_base.specs.Names.{vdd, vss, comes_before}
use Rattle.vlsi_base.specs.Member.{In}
use Rattle.machine_core.specs.Machine.{Machine, is_input, names_of}
use Rattle.machine_core.specs.Checked.{IsChecked, IsNoSupply}
use Rattle.cell_model.proofs.Members.{All-In, In-left}
use Rattle.cell_pins.specs.Pins.{with_supply}
use Rattle.cell_pins.proofs.Ports.{Sorted, sorted_of}
use Rattle.net_theory.proofs.Basics.{In-map, length-map}
use Rattle.graph_theory.specs.Graph.{Graph}
use Rattle.subject_graph.specs.Subject.{IsSubjectGraph}
use Rattle.boog_map.specs.Netlist.{HasRoomForCells}
use Rattle.boog_map.proofs.Supplied.{two_longer}
use Rattle.boog_map.proofs.PortSignals.{outputs_kept}

less : (a b : Name) → name_cmp a b ≡ Less → IsTrue (comes_before a b)
less a b e = ap is_lt e

pub ports_sorted : (m : Machine) → IsChecked m → Sorted m.ports
ports_sorted m checked = sorted_of m.ports (λ i j d low high. less (get_or (names_of m.ports) i d) (get_or (names_of m.ports) j d) (checked.ports i j d low high))

pub ports_apart : (m : Machine) → IsChecked m → (p : Port) → In p m.ports → (p.name ≢ vdd) × (p.name ≢ vss)
ports_apart m checked p h =
    let no = All-In IsNoSupply (names_of m.ports ++ m.vars) checked.supplies p.name (In-left p.name (names_of m.ports) m.vars (In-map (λ (q : Port). q.name) p m.ports h)) in
    (λ e. no.0 (ap (λ (n : Name). n.text) e), λ e. no.1 (ap (λ (n : Name). n.text) e))

-- the ports with the supplies are few
pub supplied_few : (m : Machine) → IsChecked m → HasRoomForCells m → (ps : List Port) → ps ≡ with_supply vss (with_supply vdd m.ports) → length ps < 2 ^ 32
supplied_few m checked room ps is =
    let size = ap (λ (qs : List Port). length qs) is in
    let two = two_longer m.ports (ports_sorted m checked) (ports_apart m checked) in
    omega (arith, room, size, two)

-- each output among them has a number
pub supplied_outputs : (m : Machine) → IsChecked m → (g : Graph) → IsSubjectGraph m g → (ps : List Port) (outs : List ℕ) → ps ≡ with_supply vss (with_supply vdd m.ports)
    → outs ≡ g.outputs → length (filter (λ p. not (is_input p.dir)) ps) ≤ length outs
supplied_outputs m checked g sub ps outs is is_outs =
    let size = ap (λ (qs : List Port). length (filter (λ p. not (is_input p.dir)) qs)) is in
    let kept = ap (λ (qs : List Port). length qs) (outputs_kept m.ports (ports_sorted m checked) (ports_apart m checked)) in
    let names = length-map (λ (p : Port). p.name) (filter (λ p. not (is_input p.dir)) m.ports) in
    let count = sub.apart.count in
    let own = ap (λ (xs : List ℕ). length xs) is_outs in
    omega (arith, size, kept, names, count, own)
