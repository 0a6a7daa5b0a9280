-- From what a call answers to what is ensured.
use Rattle.std.proofs.Common.{◌≡◌, ℕ, List, map, sym, subst, Result, Ok, Err, IfOk}
use Rattle.machine_core.specs.Machine.{Machine, Equation}
use Rattle.machine_core.specs.View.{equation_view}
use Rattle.machine_core.specs.declared.equation.Equation.{Equation as EquationParts}
use Rattle.source_checks.specs.declared.statement.DesignFile.{DesignFile}
use Rattle.vbe_free.specs.Second.{AreOnes}

-- of a list in memory, by its elements
pub ok_ones : {E V : Type 0} (items : V → List EquationParts) (m : Machine) (high : DesignFile) (wanted : List Equation) (r : Result V E)
    → IfOk r (λ v. map equation_view (items v) ≡ wanted) → AreOnes m high wanted → IfOk r (λ v. AreOnes m high (map equation_view (items v)))
ok_ones items m high wanted (Ok v) is ones = subst (AreOnes m high) (sym is) ones
ok_ones items m high wanted (Err e) is ones = tt
