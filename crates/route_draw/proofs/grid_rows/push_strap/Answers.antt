use Rattle.std.proofs.Common.{◌≡◌, ◌≤◌, ◌==◌, ℕ, zero, suc, false, List, length, refl, subst, arith}
use Rattle.std.specs.Prelude.{OnOk}
use Rattle.sym_geom.specs.declared.item.Item.{Item}
use Rattle.route_draw.proofs.Rows.{strap_step}
use Rattle.route_draw.proofs.grid_rows.push_strap.Goals as goal

not_empty : (n : ℕ) → false ≡ (n == 0) → 1 ≤ n
not_empty zero e = absurd (cc e)
not_empty (suc n) e = omega arith

pub returns : goal.returns
returns c =
    let some : 1 ≤ length c.args.ys.now = not_empty (length c.args.ys.now) c.if-is_empty.ensures in
    subst (λ (is : List Item). OnOk c.push_strap_vias.result (c.push_strap_vias.new.items ≡ is))
    (strap_step c.args.x c.from.result c.from-2.result _ _ c.args.name.now c.args.ys.now c.args.items.now c.push_wire.new.items c.from.ensures c.from-2.ensures refl refl some c.in_ok-push_wire.ensures)
    c.push_strap_vias.ensures
