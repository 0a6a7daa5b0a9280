use Rattle.std.proofs.Common.{arith, refl, ◌≡◌, ◌∙◌, rules}
use Rattle.std.specs.Prelude.{FitsSigned}
use Rattle.std.proofs.lemmas.Int.{ints, to_z-of_z}
use mir.Syntax.{w64}
use mir.Val.{to_z, of_z}
use Rattle.sym_geom.specs.Rect.{turns_x, turns_y}
use Rattle.sym_geom.proofs.Turning.{by_axis, picked}
use Rattle.sym_geom.proofs.placing.transform.Goals as goal

pub returns : goal.returns
returns c =
    let r = c.args.r in
    let w : to_z w64 (of_z w64 c.args.w) ≡ c.args.w = omega (arith, ints) in
    let h : to_z w64 (of_z w64 c.args.h) ≡ c.args.h = omega (arith, ints) in
    let x : to_z w64 (of_z w64 c.args.x) ≡ c.args.x = omega (arith, ints) in
    let y : to_z w64 (of_z w64 c.args.y) ≡ c.args.y = omega (arith, ints) in
    let f0 : FitsSigned w64 c.shown-across.result.0 = search rules in
    let f1 : FitsSigned w64 c.shown-across.result.1 = search rules in
    let f2 : FitsSigned w64 c.shown-along.result.0 = search rules in
    let f3 : FitsSigned w64 c.shown-along.result.1 = search rules in
    by_axis c.args.t r c.args.w c.args.h c.args.x c.args.y _ _ _ _
    (to_z-of_z w64 c.shown-across.result.0 f0 ∙ picked c.is_turned_x.result (turns_x c.args.t) _ c.args.w r.x2 r.x1 c.args.x _ _ _ _ c.is_turned_x.ensures w refl refl x c.shown-across.ensures.low)
    (to_z-of_z w64 c.shown-across.result.1 f1 ∙ picked c.is_turned_x.result (turns_x c.args.t) _ c.args.w r.x1 r.x2 c.args.x _ _ _ _ c.is_turned_x.ensures w refl refl x c.shown-across.ensures.high)
    (to_z-of_z w64 c.shown-along.result.0 f2 ∙ picked c.is_turned_y.result (turns_y c.args.t) _ c.args.h r.y2 r.y1 c.args.y _ _ _ _ c.is_turned_y.ensures h refl refl y c.shown-along.ensures.low)
    (to_z-of_z w64 c.shown-along.result.1 f3 ∙ picked c.is_turned_y.result (turns_y c.args.t) _ c.args.h r.y1 r.y2 c.args.y _ _ _ _ c.is_turned_y.ensures h refl refl y c.shown-along.ensures.high)
