-- The machine that the text of a state machine is made can be declared.
use Rattle.std.proofs.Common.{◌≡◌, ℕ, ◌<◌, ◌≤◌, Bool, true, false, List, ◌∷◌, ◌++◌, filter, length, codes, bytes_eq, refl, sym, ap, subst, arith, length-append}
use Rattle.std.proofs.lemmas.List.Sorted.{length_permutation}
use Rattle.std.proofs.lemmas.Slice.Eq.{bytes_eq-Decides}
use Rattle.std.specs.Ordering.{is_lt}
use Rattle.vlsi_base.specs.declared.name.Name.{Name}
use Rattle.vlsi_base.specs.declared.name.Port.{Port}
use Rattle.vlsi_base.specs.Name.{is_supply}
use Rattle.vlsi_base.specs.Names.{vdd, vss, comes_before}
use Rattle.vlsi_base.specs.Member.{In}
use Rattle.machine_core.specs.Machine.{Machine, names_of}
use Rattle.machine_core.specs.Checked.{IsChecked, IsNoSupply}
use Rattle.machine_core.proofs.Values.{In-left, In-map}
use Rattle.text_names.specs.Words.{IsIdentifier, ArePortsNamed, CanBePorts}
use Rattle.source_checks.specs.Checks.{most_ports}
use Rattle.fsm_machine.specs.Fsm.{Fsm}
use Rattle.fsm_io.specs.Text.{IsFsm}
use Rattle.syf_machine.proofs.Lists.{all_in}
use Rattle.fsm_laws.specs.Writable.{FsmIsNamed, FsmIsShort}
use Rattle.cell_pins.specs.Pins.{supply, with_supply}
use Rattle.cell_pins.proofs.Ports.{Sorted, sorted_of, sorted_supply, sorted_pairs}
use Rattle.vbe_writable.specs.Laws.{NoneIsSupply, PinsAreNamed, InOrderCanBeWritten, with_supplies}
use Rattle.syf_run.specs.Laws.{EncodedCanBeDeclared}

-- a text that is neither of the two
neither : (text : List ℕ) → (text ≡ codes "vdd" → ⊥) → (text ≡ codes "vss" → ⊥) → is_supply text ≡ false
neither text no_vdd no_vss = by (bytes_eq text (codes "vdd")) refl (bytes_eq text (codes "vss")) refl where
  by : (a : Bool) → bytes_eq text (codes "vdd") ≡ a → (b : Bool) → bytes_eq text (codes "vss") ≡ b → is_supply text ≡ false
  by true e b f = absurd (no_vdd ((bytes_eq-Decides text (codes "vdd")).0 e))
  by false e true f = absurd (no_vss ((bytes_eq-Decides text (codes "vss")).0 f))
  by false e false f = rw (e, f) refl

none_is_supply : (m : Machine) → IsChecked m → NoneIsSupply m.ports
none_is_supply m checked p i =
    let name = In-left p.name (names_of m.ports) m.vars (In-map (λ (q : Port). q.name) p m.ports i) in
    let apart = all_in IsNoSupply (names_of m.ports ++ m.vars) checked.supplies p.name name in
    neither p.name.text apart.0 apart.1

-- with the supplies put in there is a port
some_port : (name : Name) (ports : List Port) → 0 < length (with_supply name ports)
some_port name ports =
    omega (arith, length-append (filter (λ (p : Port). comes_before p.name name) ports) (supply name ∷ filter (λ (p : Port). comes_before name p.name) ports))

supplied : PinsAreNamed → InOrderCanBeWritten → (m : Machine) → IsChecked m → ArePortsNamed m.ports → CanBePorts (with_supplies m.ports)
supplied pins law m checked named =
    let sorted : Sorted m.ports = sorted_of m.ports (λ i j d low high. ap is_lt (checked.ports i j d low high)) in
    let both : Sorted (with_supplies m.ports) = sorted_supply vss (with_supply vdd m.ports) (sorted_supply vdd m.ports sorted) in
    law (with_supplies m.ports) (pins m.ports named (none_is_supply m checked)) (sorted_pairs (with_supplies m.ports) both) (some_port vss (with_supply vdd m.ports))

few_ports : (source : List ℕ) (f : Fsm) → IsFsm source f → length f.ports ≤ most_ports
few_ports source f is =
    let same = length_permutation f.ports _ is.machine.ports in
    let few = is.passes.few_ports in
    omega (arith, same, few)

pub can_be_declared : FsmIsNamed → FsmIsShort → PinsAreNamed → InOrderCanBeWritten → EncodedCanBeDeclared
can_be_declared names shorts pins law source how f c m e =
    let named = names source f e.machine in
    let short = shorts source f e.machine in
    let name : m.name ≡ f.name = ap (λ (x : Machine). x.name) e.made.is in
    let ports : m.ports ≡ f.ports = ap (λ (x : Machine). x.ports) e.made.is in
    record {
      name = subst IsIdentifier (sym name) named.name;
      ports = supplied pins law m e.checked (subst ArePortsNamed (sym ports) named.ports);
      short_name = subst (λ (text : List ℕ). length text ≤ 64) (sym name) short.0;
      short_ports = λ p i. short.1 p (subst (λ (ps : List Port). In p ps) ports i);
      few_ports = subst (λ (ps : List Port). length ps ≤ most_ports) (sym ports) (few_ports source f e.machine);
    }
