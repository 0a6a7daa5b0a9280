use Rattle.std.proofs.Common.{◌≡◌, ℕ, IfSome, slice_get, Option, Some, None, List, position, true, arith, ◌∙◌, ap, sym}
use Rattle.std.proofs.lemmas.List.Quantifiers.{position-Some}
use Rattle.std.proofs.lemmas.Option.{slice_get-get_or}
use Rattle.std.specs.List.{slice_index_or}
use Rattle.std.proofs.lemmas.Bool.{eqb-true}
use Rattle.bdd_core.specs.declared.node.Node.{Node}
use Rattle.bdd_core.specs.contracts.node.NodePartialEq.TheImpl.{eq-value}
use Rattle.bdd_core.proofs.table.find.Goals as goal

same : (a b : Node) → eq-value.it a b ≡ true → a ≡ b
same a b e = grind (arith, eqb-true)

at_place : (nodes : List Node) (n : Node) (r : Option ℕ) → position (eq-value.it n) nodes ≡ r → IfSome r (λ i. slice_get nodes i ≡ Some n)
at_place nodes n None e = tt
at_place nodes n (Some i) e =
    let p = position-Some (eq-value.it n) nodes i n e in
    slice_get-get_or nodes i n p.0 ∙ ap (λ (m : Node). Some m) (sym (same n (slice_index_or nodes i n) p.1))

pub returns-clause-some : goal.returns-clause-some
returns-clause-some c = at_place c.args.nodes.now.keys c.args.node c.get_index_of.result (sym c.get_index_of.ensures.index)
