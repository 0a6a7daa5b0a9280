use Rattle.std.proofs.Common.{ℕ, List, [], ◌∷◌, ◌++◌, ◌≡◌}
use Rattle.sym_shapes.specs.declared.forest.Link.{Link}
use Rattle.sym_shapes.specs.Joints.{link}
use Rattle.sym_shapes.proofs.Joins.{both_ways, led_before}
use Rattle.sym_shapes.proofs.forest.Forest.link.Goals as goal

pub returns-in_ok-push-2-clause-leads : goal.returns-in_ok-push-2-clause-leads
returns-in_ok-push-2-clause-leads c = λ lead i j t.
    let olds : List Link = c.args.self.now.links.items in
    let a : ℕ = c.args.a in
    let b : ℕ = c.args.b in
    let first : c.push.new.self.items ≡ olds ++ link a b ∷ [] = c.in_ok-push.ensures.items in
    let second : c.push-then-join.new.self.items ≡ c.push.new.self.items ++ link b a ∷ [] = c.in_ok-push-2.ensures.items in
    let news : List Link = (olds ++ link a b ∷ []) ++ link b a ∷ [] in
    rw (second, first) (both_ways c.args.self.now.groups olds a b lead (c.join.ensures.joins.only i j t))

pub returns-else-join-clause-leads : goal.returns-else-join-clause-leads
returns-else-join-clause-leads c = λ lead i j t.
    led_before c.args.self.now.groups c.args.self.now.links.items c.args.a c.args.b c.join.result c.if-join.false c.join.ensures.apart lead (c.join.ensures.joins.only i j t)
