-- The first output over the budget is refused.
use Rattle.std.proofs.Common.{ℕ, sym, subst}
use Rattle.vlsi_base.specs.declared.name.Name.{Name}
use Rattle.bool_expr.specs.Expression.{Expression}
use Rattle.bdd_core.specs.Truths.{IsOver}
use Rattle.machine_core.specs.Machine.{Machine}
use Rattle.proof_joint.specs.Together.{joint_lists}
use Rattle.boom_opt.specs.declared.error.BoomError.{BoomError}
use Rattle.boom_opt.specs.declared.error.BoomError.TheVariants as error
use Rattle.boom_choose.specs.Choice.{IsFirstOver}
use Rattle.boom_choose.specs.Refused.{IsOverAt, IsOverIn}

pub refused : (low high : Machine) (budget : ℕ) (wanted : Name) (lo hi : Expression) (e : BoomError)
    → (IsOver (joint_lists low low lo hi) budget → IsFirstOver low high budget wanted) → IsOverAt low wanted lo hi budget e → IsOverIn low high budget e
refused low high budget wanted lo hi error.Memory first over = tt
refused low high budget wanted lo hi (error.Budget name) first over = subst (IsFirstOver low high budget) (sym over.0) (first over.1)
