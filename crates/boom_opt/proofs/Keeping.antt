-- What is said in place of an expression is the one that was given, or strictly smaller.
use Rattle.std.proofs.Common.{◌≡◌, inl, inr, ℕ, zero, suc, ◌+◌, ◌<◌, ◌≤◌, Bool, true, false, List, [], ◌∷◌, length, Option, None, Some, refl, arith, if◌then◌else◌}
use Rattle.std.specs.Prelude.{◌*◌, nat_lt, slice_get}
use Rattle.std.specs.List.{AllZip}
use Rattle.bool_expr.specs.Expression.{Expression, size_of, IsOver}
use Rattle.bool_expr.specs.Renumbering.{renumbered}
use Rattle.machine_core.specs.Machine.{Equation, Register}
use Rattle.machine_core.specs.Order.{EachReadsBelow}
use Rattle.boom_literal.specs.declared.literal.Literal.{Literal}
use Rattle.boom_muxes.specs.declared.plan.Plan.{Plan}
use Rattle.boom_literal.specs.Literals.{literal_expression, said}
use Rattle.boom_muxes.specs.Building.{numbers_behind, literal_for, load_for, equations_said, registers_said}
use Rattle.boom_check.specs.Kept.{behind_new, IsGivenOrSmaller}
use Rattle.boom_muxes.proofs.Weighing.{literal_smaller}
use Rattle.boom_muxes.proofs.Numbered.{over_more}
use Rattle.boom_check.proofs.Behind.{renumbered_behind, size_behind}

pub said_kept : (held count total : ℕ) (l : Option Literal) (e : Expression) → IsOver e total
    → IsGivenOrSmaller (behind_new held count e) (said (numbers_behind held count total) l e)
said_kept held count total None e over = inl (renumbered_behind held count total e over)
said_kept held count total (Some l) e over = by (nat_lt 0 (size_of e)) refl where
  by : (b : Bool) → nat_lt 0 (size_of e) ≡ b
      → IsGivenOrSmaller (behind_new held count e) (if b then literal_expression l else renumbered (numbers_behind held count total) e)
  by true t =
      let more : 0 < size_of e = search (arith, t) in
      let less = literal_smaller l e more in
      let same = size_behind held count e in
      inr (omega (arith, less, same))
  by false t = inl (renumbered_behind held count total e over)

-- so is each of the equations, in turn
pub equations_kept : (held count total n k : ℕ) (plan : Option Plan) (es : List Equation) → EachReadsBelow n es → n + length es ≤ total
    → AllZip (λ (e f : Equation). (f.name ≡ e.name) × IsGivenOrSmaller (behind_new held count e.expr) f.expr) es
    (equations_said (numbers_behind held count total) plan k es)
equations_kept held count total n k plan [] below room = tt
equations_kept held count total n k plan (e ∷ es) below room = (
  (refl, said_kept held count total (literal_for plan k) e.expr (over_more e.expr n total (omega (arith, room)) below.0)),
  equations_kept held count total (n + 1) (suc k) plan es below.1 (omega (arith, room)),
)

-- and of what registers load
pub registers_kept : (held count total k : ℕ) (plan : Option Plan) (rs : List Register)
    → ((j : ℕ) (r : Register) → slice_get rs j ≡ Some r → IsOver r.next total × IsOver r.enable total)
    → AllZip (λ (r q : Register). (q.name ≡ r.name) × IsGivenOrSmaller (behind_new held count r.next) q.next
    × IsGivenOrSmaller (behind_new held count r.enable) q.enable) rs (registers_said (numbers_behind held count total) plan k rs)
registers_kept held count total k plan [] over = tt
registers_kept held count total k plan (r ∷ rs) over = (
  (refl, said_kept held count total (load_for plan (2 * k)) r.next (over zero r refl).0, said_kept held count total (load_for plan (2 * k + 1)) r.enable (over zero r refl).1),
  registers_kept held count total (suc k) plan rs (λ j q h. over (suc j) q h),
)
