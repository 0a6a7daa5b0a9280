use Rattle.std.proofs.Common.{◌≡◌, List, [], ◌∷◌, length, refl, ap, subst, sym, ◌∙◌, arith}
use Rattle.bdd_core.specs.declared.node.Node.{Node}
use Rattle.std.specs.List.{All}
use Rattle.bdd_core.specs.Nodes.{lists_of, AreSound, IsNarrow}
use Rattle.bdd_core.proofs.Pushing.{sound-none, lists_of-none}
use Rattle.bdd_core.proofs.table.Table.begin.Goals as goal

none : (nodes : List Node) → length nodes ≡ 0 → nodes ≡ []
none [] e = refl
none (x ∷ xs) e = (cc)

pub invariant_of-result : goal.invariant_of-result
invariant_of-result c = (
  subst (λ (ns : List Node). AreSound c.args.vars ns (lists_of c.args.vars ns)) (sym (none c.new.result.keys c.new.ensures.len)) (sound-none c.args.vars),
  omega (arith, c.new.ensures.len),
  subst (λ (ns : List Node). All IsNarrow ns) (sym (none c.new.result.keys c.new.ensures.len)) (λ k d w. absurd (omega arith)),
)

pub returns-clause-lists : goal.returns-clause-lists
returns-clause-lists c = ap (λ (ns : List Node). lists_of c.args.vars ns) (none c.new.result.keys c.new.ensures.len) ∙ lists_of-none c.args.vars
