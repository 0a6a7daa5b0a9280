-- Expressions over names behind which new ones stand.
use Rattle.std.proofs.Common.{◌≡◌, ℕ, ◌+◌, refl, ap, ◌∙◌, arith, if◌then◌else◌}
use Rattle.std.specs.Prelude.{nat_lt}
use Rattle.bool_expr.specs.Expression.{Expression, constant, variable, inverse, pair, choice, size_of, IsOver}
use Rattle.bool_expr.specs.Renumbering.{renumbered}
use Rattle.boom_muxes.specs.Building.{numbers_behind}
use Rattle.boom_muxes.proofs.Numbered.{index-rising}
use Rattle.boom_check.specs.Kept.{behind_new}

-- renumbered by the numbers behind new names, an expression says the same of the names
pub renumbered_behind : (held count total : ℕ) (e : Expression) → IsOver e total → renumbered (numbers_behind held count total) e ≡ behind_new held count e
renumbered_behind held count total (constant b) h = refl
renumbered_behind held count total (variable k) h =
    ap variable (index-rising (λ (x : ℕ). if nat_lt x held then x else x + count) 0 total k h ∙ ap (λ (x : ℕ). if nat_lt x held then x else x + count) (omega arith))
renumbered_behind held count total (inverse e) h = ap inverse (renumbered_behind held count total e h)
renumbered_behind held count total (pair g a b) h = λ j. pair g (renumbered_behind held count total a h.0 j) (renumbered_behind held count total b h.1 j)
renumbered_behind held count total (choice c a b) h =
    λ j. choice (renumbered_behind held count total c h.0 j) (renumbered_behind held count total a h.1.0 j) (renumbered_behind held count total b h.1.1 j)

-- and it weighs as much
pub size_behind : (held count : ℕ) (e : Expression) → size_of (behind_new held count e) ≡ size_of e
size_behind held count (constant b) = refl
size_behind held count (variable k) = refl
size_behind held count (inverse e) = let a = size_behind held count e in omega (arith, a)
size_behind held count (pair g a b) = let x = size_behind held count a in let y = size_behind held count b in omega (arith, x, y)
size_behind held count (choice c a b) =
    let x = size_behind held count c in
    let y = size_behind held count a in
    let z = size_behind held count b in
    omega (arith, x, y, z)
