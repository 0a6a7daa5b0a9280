-- From equal roots to a machine that may be taken.
use Rattle.std.proofs.Common.{◌≡◌, ℕ, ◌+◌, ◌-◌, ◌^◌, ◌<◌, ◌≤◌, List, ◌++◌, length, min, ap, ◌∙◌, arith, length-append}
use Rattle.std.specs.Prelude.{option_to_list, true, Bool, Result, Ok, Err, IfOk}
use Rattle.vlsi_base.specs.declared.name.Port.{Port}
use Rattle.machine_core.specs.Machine.{Machine, input_ports, outputs}
use Rattle.machine_core.specs.Order.{held_names, equation_names}
use Rattle.machine_core.specs.Checked.{IsChecked}
use Rattle.machine_core.specs.Size.{machine_size}
use Rattle.proof_joint.specs.declared.naming.Role.TheVariants.{Input, Output, Clock, Register}
use Rattle.proof_joint.specs.Naming.{HaveSameNames}
use Rattle.proof_cmp.specs.Verdict.{AreEqual}
use Rattle.proof_cmp.proofs.Alike.{equal_alike}
use Rattle.boom_muxes.specs.Names.{new_names}
use Rattle.boom_muxes.proofs.Anew.{length-new_names}
use Rattle.boom_check.specs.Kept.{inner_size, IsAcceptable}
use Rattle.boom_check.specs.Assembling.{IsAssembled}
use Rattle.boom_check.proofs.Sums.{inner_less}

abbrev with_ports : List Port → Machine → Machine
with_ports ports m = record m { ports = ports }

pub same_names : (m o : Machine) → IsAssembled m o → HaveSameNames m o
same_names m o a Input = ap (λ (ports : List Port). input_ports (with_ports ports m)) a.ports
same_names m o a Output = ap (λ (ports : List Port). outputs (with_ports ports m)) a.ports
same_names m o a Clock = ap option_to_list a.clock
same_names m o a Register = a.registers

-- there are no more names than the given machine's and as many as it weighs
pub few_names : (m o : Machine) → IsChecked m → IsAssembled m o → length o.vars ≤ length m.vars + machine_size m
few_names m o checked a =
    let n = ap length a.kept.vars in
    let x = length-append (held_names m) (new_names a.kept.text a.kept.count ++ equation_names m) in
    let y = length-append (new_names a.kept.text a.kept.count) (equation_names m) in
    let z = length-new_names a.kept.text a.kept.count in
    let t = ap length checked.ordered.vars ∙ length-append (held_names m) (equation_names m) in
    let few = a.kept.few in
    omega (arith, n, x, y, z, t, few)

inner_small : (o : Machine) → inner_size o ≤ machine_size o
inner_small o = let a = inner_less o o.equations in omega (arith, a)

pub acceptable : (m o : Machine) (most size other weight : ℕ) → IsChecked m → IsChecked o → IsAssembled m o → AreEqual m o → machine_size m < 2 ^ 32 → size ≡ min (machine_size m) (2 ^ 64 - 1)
    → other ≡ min (machine_size o) (2 ^ 64 - 1) → other ≤ size → min (inner_size o) (2 ^ 64 - 1) ≤ weight → weight ≤ most → IsAcceptable m most o
acceptable m o most size other weight cm co a equal few sized measured less weighs bound =
    let inner = inner_small o in
    record {
      alike = equal_alike m o cm co a.name (same_names m o a) equal;
      kept = a.kept;
      size = omega (arith, few, sized, measured, less);
      inner = omega (arith, few, sized, measured, less, weighs, bound, inner);
    }

-- where an answer of yes says one thing, and that says another, an answer of yes says that
pub where_equal : {E P Q : Type 0} (r : Result Bool E) → IfOk r (λ b. b ≡ true → P) → (P → Q) → IfOk r (λ b. b ≡ true → Q)
where_equal (Ok b) h f = λ e. f (h e)
where_equal (Err e) h f = tt
