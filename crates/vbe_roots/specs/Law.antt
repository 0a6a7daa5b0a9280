-- What is the same of the roots of all machines of one text. A text leaves open in which order a machine's equations stand, and with
-- it how the machine's inner signals are numbered; the expansions of its roots are over inputs and registers alone.
use Rattle.std.specs.Prelude.{◌≡◌, ℕ, List}
use Rattle.std.specs.List.{All, AllZip}
use Rattle.machine_core.specs.Machine.{Machine}
use Rattle.machine_walk.specs.Expansion.{expansion}
use Rattle.machine_roots.specs.Roots.{Root, roots, IsDag, IsOverBudget, IsGreatestDcount}
use Rattle.boom_opt.specs.Optimised.{inner_size}
use Rattle.vbe_io.specs.Text.{IsVbe}

-- the roots have one name and one expansion, each in its own machine
abbrev pub HaveOneExpansion : Machine → Machine → Root → Root → Type 0
HaveOneExpansion m k r q = (r.name ≡ q.name) × (expansion m r.expr ≡ expansion k q.expr)

-- Two machines of one text have, place by place, roots with the same expansions.
abbrev pub MachinesHaveTheSameRoots : Type 0
MachinesHaveTheSameRoots = (bytes : List ℕ) (m k : Machine) → IsVbe bytes m → IsVbe bytes k → AllZip (HaveOneExpansion m k) (roots m) (roots k)

-- Place by place, the diagrams of their roots have as many nodes.
abbrev pub MachinesHaveTheSameDags : Type 0
MachinesHaveTheSameDags =
    (bytes : List ℕ) (m k : Machine) → IsVbe bytes m → IsVbe bytes k
    → (dags : List ℕ) → AllZip (IsDag m) (roots m) dags → AllZip (IsDag k) (roots k) dags

-- The most nodes that a diagram of all subexpressions of a root's expansion has are as many.
abbrev pub MachinesCountTheSame : Type 0
MachinesCountTheSame =
    (bytes : List ℕ) (m k : Machine) → IsVbe bytes m → IsVbe bytes k → (n : ℕ) → IsGreatestDcount m n → IsGreatestDcount k n

-- Where no diagram of the roots of one is over a budget, none of the other's is.
abbrev pub MachinesAreWithinTheSame : Type 0
MachinesAreWithinTheSame =
    (bytes : List ℕ) (m k : Machine) → IsVbe bytes m → IsVbe bytes k
    → (budget : ℕ) → All (λ r. IsOverBudget m budget r → ⊥) (roots m) → All (λ r. IsOverBudget k budget r → ⊥) (roots k)

-- The equations of their inner signals weigh the same.
abbrev pub InnerSignalsWeighTheSame : Type 0
InnerSignalsWeighTheSame = (bytes : List ℕ) (m k : Machine) → IsVbe bytes m → IsVbe bytes k → inner_size m ≡ inner_size k
