use Rattle.std.proofs.Common.{IfNone, IfSome, ◌≡◌, List, map, ap, subst, ◌∙◌}
use Rattle.std.specs.Option.{option_copied}
use Rattle.vlsi_base.specs.declared.name.Name.{Name}
use Rattle.proof_joint.specs.Naming.{names_with}
use Rattle.proof_joint.specs.Apart.{IsLeastApart}
use Rattle.proof_joint.proofs.Least.{one_role, none_copied, some_copied}
use Rattle.proof_joint.proofs.naming.lesser_with.Goals as goal

pub returns : goal.returns
returns c =
    let a = c.args.a.now in
    let b = c.args.b.now in
    let r = c.least_apart-apart.result in
    let ex : map (λ n. n.now) c.deref.result.now ≡ names_with c.args.a.now c.args.role = ap (map (λ n. n.now)) c.deref.ensures.value ∙ c.in_ok-firsts.ensures.names in
    let ey : map (λ n. n.now) c.deref-2.result.now ≡ names_with c.args.b.now c.args.role = ap (map (λ n. n.now)) c.deref-2.ensures.value ∙ c.in_ok-seconds.ensures.names in
    λ roles w. one_role a b c.args.role roles (option_copied c.args.least) (option_copied c.least_apart-apart.result) (option_copied c.lesser_or.result)
    (none_copied r (names_with c.args.a.now c.args.role ≡ names_with c.args.b.now c.args.role)
    (subst (λ (l : List Name). IfNone c.least_apart-apart.result (l ≡ names_with c.args.b.now c.args.role)) ex
    (subst (λ (l : List Name). IfNone c.least_apart-apart.result (map (λ n. n.now) c.deref.result.now ≡ l)) ey c.least_apart-apart.ensures.none)))
    (some_copied r (IsLeastApart (names_with c.args.a.now c.args.role) (names_with c.args.b.now c.args.role))
    (subst (λ (l : List Name). IfSome c.least_apart-apart.result (λ n. IsLeastApart l (names_with c.args.b.now c.args.role) n.now)) ex
    (subst (λ (l : List Name). IfSome c.least_apart-apart.result (λ n. IsLeastApart (map (λ n. n.now) c.deref.result.now) l n.now)) ey c.least_apart-apart.ensures.some)))
    c.lesser_or.ensures w
