use Rattle.std.proofs.Common.{◌≡◌, [], ℕ, length, subst, arith, if◌then◌else◌}
use Rattle.bool_expr.specs.Expression.{bit}
use Rattle.boog_tree.specs.Joined.{HasItself}
use Rattle.boog_tree.proofs.least.Swept.add.Goals as goal

pub returns-clause-parts : goal.returns-clause-parts
returns-clause-parts c =
    let e : c.len-number.result ≡ length c.args.self.now.parts.items = omega (arith, c.len-number.ensures) in
    record {
      parts = c.in_ok-parts.parts;
      is = c.in_ok-push.ensures.items;
      has = subst (λ (k : ℕ). HasItself k (if bit c.args.inner.now k then c.args.cuts.items else []) c.in_ok-parts.parts.items) e c.in_ok-parts.ensures;
    }
