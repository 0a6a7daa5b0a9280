-- What is asked where the parts of a machine are made.
use Rattle.std.proofs.Common.{◌≡◌, ◌<◌, ◌≤◌, ℕ, List, map, length, refl, sym, ap, subst, arith}
use Rattle.std.specs.List.{All}
use Rattle.std.proofs.lemmas.List.{length-map}
use Rattle.vlsi_base.specs.declared.name.Name.{Name}
use Rattle.vlsi_base.specs.declared.name.Port.{Port}
use Rattle.std.specs.Prelude.{Option}
use Rattle.bool_expr.specs.Expression.{IsOver}
use Rattle.bool_expr.specs.View.{view}
use Rattle.machine_core.specs.declared.equation.Equation.{Equation as EquationParts}
use Rattle.machine_core.specs.declared.equation.Register.{Register as RegisterParts}
use Rattle.machine_core.specs.View.{machine_of}
use Rattle.machine_core.specs.Checked.{IsChecked}
use Rattle.machine_core.specs.Order.{In, AllDifferent}
use Rattle.machine_core.proofs.Values.{In-left, In-right, In-map}
use Rattle.source_bits.specs.declared.driven.DrivenBit.{DrivenBit}
use Rattle.source_bits.specs.declared.driven.StoredBit.{StoredBit}
use Rattle.source_bits.specs.Driven.{Numbered, NumberedStorage, driven_view, stored_view}
use Rattle.vlsi_model.specs.Numbered.{name_at}
use Rattle.vlsi_model.proofs.Counted.{few_below}
use Rattle.vlsi_model.proofs.Members.{different_right}
use Rattle.vlsi_model.proofs.Assembly.{All-from_In}
use Rattle.bit_machine.specs.declared.system.BitSystem.{BitSystem}
use Rattle.bit_machine.specs.System.{System, system_of, stored_bits, driven_bits, held_bits, IsSystem, FitsPorts, IsMachineOfBits}
use Rattle.bit_machine.specs.Laid.{IsLaid, var_bits, ArePartsOf}
use Rattle.bit_machine.proofs.Laying.{bits_seen, bits_different, bits_inside}
use Rattle.bit_machine.proofs.Built.{Made, checked, is_machine}

pub driven_inside : (sys : BitSystem) → IsSystem (system_of sys) → (ds : List DrivenBit) (n : ℕ) → ds ≡ sys.driven.items → n ≡ length sys.names → All (λ d. d.bit < n) ds
driven_inside sys is ds n e m =
    All-from_In (λ (d : DrivenBit). d.bit < n) ds
    (λ d i.
    let j : In d.bit (driven_bits (system_of sys)) = In-map (λ (x : Numbered). x.bit) (driven_view d) (map driven_view sys.driven.items) (In-map driven_view d sys.driven.items (subst (λ (xs : List DrivenBit). In d xs) e i)) in
    let l = is.inside d.bit (In-right d.bit (held_bits (system_of sys)) (driven_bits (system_of sys)) j) in
    omega (arith, l, m))

pub driven_over : (sys : BitSystem) → IsSystem (system_of sys) → (ds : List DrivenBit) (n : ℕ) → ds ≡ sys.driven.items → n ≡ length sys.names → All (λ d. IsOver (view d.expr) n) ds
driven_over sys is ds n e m =
    All-from_In (λ (d : DrivenBit). IsOver (view d.expr) n) ds
    (λ d i. subst (λ (k : ℕ). IsOver (view d.expr) k) (sym m) (is.over (driven_view d) (In-map driven_view d sys.driven.items (subst (λ (xs : List DrivenBit). In d xs) e i))))

pub driven_once : (sys : BitSystem) → IsSystem (system_of sys) → (ds : List DrivenBit) → ds ≡ sys.driven.items → AllDifferent (map (λ (d : DrivenBit). d.bit) ds)
driven_once sys is ds e =
    subst (λ (xs : List DrivenBit). AllDifferent (map (λ (d : DrivenBit). d.bit) xs)) (sym e)
    (subst (λ (xs : List ℕ). AllDifferent xs) (sym (bits_seen sys.driven.items)) (different_right (held_bits (system_of sys)) (driven_bits (system_of sys)) is.once))

pub stored_inside : (sys : BitSystem) → IsSystem (system_of sys) → (ds : List StoredBit) (n : ℕ) → ds ≡ sys.stored.items → n ≡ length sys.names → All (λ d. d.bit < n) ds
stored_inside sys is ds n e m =
    All-from_In (λ (d : StoredBit). d.bit < n) ds
    (λ d i.
    let j : In d.bit (stored_bits (system_of sys)) = In-map (λ (x : NumberedStorage). x.bit) (stored_view d) (map stored_view sys.stored.items) (In-map stored_view d sys.stored.items (subst (λ (xs : List StoredBit). In d xs) e i)) in
    let l = is.inside d.bit (In-left d.bit (held_bits (system_of sys)) (driven_bits (system_of sys)) (In-right d.bit sys.inputs.items (stored_bits (system_of sys)) j)) in
    omega (arith, l, m))

pub stored_next : (sys : BitSystem) → IsSystem (system_of sys) → (ds : List StoredBit) (n : ℕ) → ds ≡ sys.stored.items → n ≡ length sys.names → All (λ d. IsOver (view d.next) n) ds
stored_next sys is ds n e m =
    All-from_In (λ (d : StoredBit). IsOver (view d.next) n) ds
    (λ d i. subst (λ (k : ℕ). IsOver (view d.next) k) (sym m) (is.loads (stored_view d) (In-map stored_view d sys.stored.items (subst (λ (xs : List StoredBit). In d xs) e i))).0)

pub stored_enable : (sys : BitSystem) → IsSystem (system_of sys) → (ds : List StoredBit) (n : ℕ) → ds ≡ sys.stored.items → n ≡ length sys.names → All (λ d. IsOver (view d.enable) n) ds
stored_enable sys is ds n e m =
    All-from_In (λ (d : StoredBit). IsOver (view d.enable) n) ds
    (λ d i. subst (λ (k : ℕ). IsOver (view d.enable) k) (sym m) (is.loads (stored_view d) (In-map stored_view d sys.stored.items (subst (λ (xs : List StoredBit). In d xs) e i))).1)

pub bits_below : (s : System) (places bits : List ℕ) (n : ℕ) → IsSystem s → IsLaid s places → bits ≡ var_bits s places → n ≡ length s.names → All (λ b. b < n) bits
bits_below s places bits n is l e m =
    All-from_In (λ (b : ℕ). b < n) bits (λ b i. let r = bits_inside s places is l b (subst (λ (xs : List ℕ). In b xs) e i) in omega (arith, r, m))

-- the machine of parts that are those of the bits
pub finished : (s : System) (name : List ℕ) (ports : List Port) (clock : Option Name) (places : List ℕ) (vars : List Name) (es : List EquationParts) (rs : List RegisterParts)
    → IsSystem s → IsLaid s places → FitsPorts ports clock s → ArePartsOf s places es rs → vars ≡ map (name_at s.names) (var_bits s places)
    → IsChecked (machine_of name ports clock vars es rs) × IsMachineOfBits name ports clock s (machine_of name ports clock vars es rs)
finished s name ports clock places vars es rs is l fits parts e = (checked made, is_machine made name refl) where
  made : Made
  made = record {
    ports = ports;
    clock = clock;
    s = s;
    places = places;
    table = parts.table;
    m = machine_of name ports clock vars es rs;
    is = is;
    laid = l;
    has = parts.has;
    fits = fits;
    ports_are = refl;
    clock_is = refl;
    vars = e;
    equations = parts.equations_are;
    registers = parts.registers_are;
  }

-- a machine's names are no more than the bits
pub vars_few : (s : System) (places : List ℕ) (vars : List Name) → IsSystem s → IsLaid s places → vars ≡ map (name_at s.names) (var_bits s places)
    → length vars ≤ length s.names
vars_few s places vars is l e =
    let fit = few_below (length s.names) (var_bits s places) (bits_different s places is l) (λ v i. bits_inside s places is l v i) in
    let count = length-map (var_bits s places) (name_at s.names) in
    let same = ap (λ (ns : List Name). length ns) e in
    omega (arith, fit, count, same)
