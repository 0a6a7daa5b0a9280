-- Why no machine is chosen.
use Rattle.std.specs.Prelude.{◌≡◌, ℕ}
use Rattle.vlsi_base.specs.declared.name.Name.{Name}
use Rattle.bool_expr.specs.Expression.{Expression}
use Rattle.bdd_core.specs.Truths.{IsOver}
use Rattle.machine_core.specs.Machine.{Machine}
use Rattle.proof_joint.specs.Together.{joint_lists}
use Rattle.boom_opt.specs.declared.error.BoomError.{BoomError}
use Rattle.boom_opt.specs.declared.error.BoomError.TheVariants as error
use Rattle.boom_choose.specs.Choice.{IsFirstOver}

-- the name is refused where its two expressions are over the budget; of memory nothing is said
abbrev pub IsOverAt : Machine → Name → Expression → Expression → ℕ → BoomError → Type 0
IsOverAt m wanted low high budget error.Memory = Unit {0}
IsOverAt m wanted low high budget (error.Budget name) = (name ≡ wanted) × IsOver (joint_lists m m low high) budget

-- the name that is refused is that of the first output over the budget; of memory nothing is said
abbrev pub IsOverIn : Machine → Machine → ℕ → BoomError → Type 0
IsOverIn low high budget error.Memory = Unit {0}
IsOverIn low high budget (error.Budget name) = IsFirstOver low high budget name
