use Rattle.std.proofs.Common.{◌≡◌, ℕ, ◌+◌, ◌<◌, ◌≤◌, List, [], ◌∷◌, ◌++◌, length-append, arith, sym, ap, length, subst, ◌∙◌}
use Rattle.std.proofs.lemmas.Option.{slice_get_within}
use Rattle.bdd_core.specs.Nodes.{Lists, IsSon, IsMade, IsFull, lists_of}
use Rattle.bdd_core.specs.declared.node.Node.{Node}
use Rattle.bdd_core.proofs.Places.{opened, made_same, made_found, made_new, is_full, is_past, narrow_push, still_sound, table}
use Rattle.bdd_core.proofs.table.Table.make.Goals as goal

-- the node that was narrowed has the sons that were lent
sons : (d : Lists) (v low high : ℕ) (n : Node) → n ≡ record { variable = v; low = low; high = high } → IsSon d.vars d.lists v low → IsSon d.vars d.lists v high
    → IsSon d.vars d.lists n.variable n.low × IsSon d.vars d.lists n.variable n.high
sons d v low high n is l h =
    subst (λ (x : Node). IsSon d.vars d.lists x.variable x.low × IsSon d.vars d.lists x.variable x.high) (sym is) (l, h)

pub returns-then-low-high-clause-ok : goal.returns-then-low-high-clause-ok
returns-then-low-high-clause-ok c =
    subst (λ (h : ℕ). IsMade c.args.self.now c.args.self.now c.args.variable c.args.low h c.args.low) c.if-low-high.true (made_same c.args.self.now c.args.variable c.args.low c.requires.low)

pub returns-in_default-clause-over : goal.returns-in_default-clause-over
returns-in_default-clause-over c _ =
    is_past c.args.self.now c.self.inside.nodes.keys c.args.variable c.args.low c.args.high (opened _ _ _ c.args.self.now c.self.view_is c.self.invariant.0)
    c.self.invariant.2 c.requires.low c.requires.high c.if-low-high.false c.in_default.ensures.none
    (let b : c.self.inside.budget ≡ c.args.self.now.budget = ap (λ (d : Lists). d.budget) c.self.view_is in omega (arith, b, c.self.invariant.1))
    (let b : c.self.inside.budget ≡ c.args.self.now.budget = ap (λ (d : Lists). d.budget) c.self.view_is in omega (arith, b))

pub overflow_add-result : goal.overflow_add-result
overflow_add-result c =
    let w = slice_get_within c.self.inside.nodes.keys c.in-Some-find.found _ c.in-Some-find.ensures.some in
    omega (arith, w, c.len-count.ensures.len, c.len-count.ensures.small)

pub returns-in-Some-find-clause-ok : goal.returns-in-Some-find-clause-ok
returns-in-Some-find-clause-ok c =
    subst (λ (x : Node). IsMade c.args.self.now c.args.self.now x.variable x.low x.high (c.in-Some-find.found + 2)) c.in-Some.ensures.some
    (made_found c.args.self.now c.self.inside.nodes.keys c.in-Some.node c.in-Some-find.found
    (opened _ _ _ c.args.self.now c.self.view_is c.self.invariant.0) c.in-Some-find.ensures.some)

pub returns-then-count-budget-clause-over : goal.returns-then-count-budget-clause-over
returns-then-count-budget-clause-over c _ =
    let l = sons c.args.self.now c.args.variable c.args.low c.args.high c.in-Some.node c.in-Some.ensures.some c.requires.low c.requires.high in
    subst (λ (x : Node). IsFull c.args.self.now x.variable x.low x.high) c.in-Some.ensures.some
    (is_full c.args.self.now c.self.inside.nodes.keys c.in-Some.node
    (opened _ _ _ c.args.self.now c.self.view_is c.self.invariant.0) l.0 l.1
    (λ e. c.if-low-high.false (sym (ap (λ (x : Node). x.low) c.in-Some.ensures.some) ∙ e ∙ ap (λ (x : Node). x.high) c.in-Some.ensures.some)) c.in_default-find.ensures.none
    (let b : c.self.inside.budget ≡ c.args.self.now.budget = ap (λ (d : Lists). d.budget) c.self.view_is in omega (arith, b, c.self.invariant.1, c.len-count.ensures.len, c.if-count-budget.true)))

pub invariant_of-self-2 : goal.invariant_of-self-2
invariant_of-self-2 c =
    let l = sons (table c.self.inside.vars c.self.inside.budget c.self.inside.nodes.keys) c.args.variable c.args.low c.args.high c.in-Some.node c.in-Some.ensures.some
    (son c.args.low c.requires.low) (son c.args.high c.requires.high) in (
      still_sound c.self.inside.vars c.self.inside.nodes.keys c.add.new.nodes.keys c.in-Some.node
          c.self.invariant.0 l.0 l.1 (λ e. c.if-low-high.false (sym (ap (λ (x : Node). x.low) c.in-Some.ensures.some) ∙ e ∙ ap (λ (x : Node). x.high) c.in-Some.ensures.some))
          c.in_default-find.ensures.none c.in_ok-add.ensures.ok,
      room c.self.inside.nodes.keys c.add.new.nodes.keys _ c.in_ok-add.ensures.ok (omega (arith, c.len-count.ensures.len, c.if-count-budget.false)),
      narrow_push c.self.inside.nodes.keys c.add.new.nodes.keys c.in-Some.node c.in_ok-add.ensures.ok c.in-Some.ensures.fits c.self.invariant.2,
    )
  where
    room : (nodes after : List Node) (n : Node) → after ≡ nodes ++ n ∷ [] → length nodes < c.self.inside.budget → length after ≤ c.self.inside.budget
    room nodes after n e h = omega (arith, ap length e, length-append nodes (n ∷ []))

    son : (at : ℕ) → IsSon c.args.self.now.vars c.args.self.now.lists c.args.variable at → IsSon c.self.inside.vars (lists_of c.self.inside.vars c.self.inside.nodes.keys) c.args.variable at
    son at h = subst (λ (d : Lists). IsSon d.vars d.lists c.args.variable at) (sym c.self.view_is) h

pub returns-clause-ok : goal.returns-clause-ok
returns-clause-ok c =
    let l = sons (table c.self.inside.vars c.self.inside.budget c.self.inside.nodes.keys) c.args.variable c.args.low c.args.high c.in-Some.node c.in-Some.ensures.some
    (son c.args.low c.requires.low) (son c.args.high c.requires.high) in
    subst (λ (d : Lists). IsMade d (table c.self.inside.vars c.self.inside.budget c.add.new.nodes.keys) c.args.variable c.args.low c.args.high (c.len-count.result + 2)) c.self.view_is
    (subst (λ (x : Node). IsMade (table c.self.inside.vars c.self.inside.budget c.self.inside.nodes.keys) (table c.self.inside.vars c.self.inside.budget c.add.new.nodes.keys) x.variable x.low x.high (c.len-count.result + 2)) c.in-Some.ensures.some
    (made_new c.self.inside.vars c.self.inside.budget c.self.inside.nodes.keys c.add.new.nodes.keys c.in-Some.node c.len-count.result
    c.self.invariant.0 l.0 l.1 (λ e. c.if-low-high.false (sym (ap (λ (x : Node). x.low) c.in-Some.ensures.some) ∙ e ∙ ap (λ (x : Node). x.high) c.in-Some.ensures.some))
    c.in_default-find.ensures.none c.in_ok-add.ensures.ok c.len-count.ensures.len))
  where
    son : (at : ℕ) → IsSon c.args.self.now.vars c.args.self.now.lists c.args.variable at → IsSon c.self.inside.vars (lists_of c.self.inside.vars c.self.inside.nodes.keys) c.args.variable at
    son at h = subst (λ (d : Lists). IsSon d.vars d.lists c.args.variable at) (sym c.self.view_is) h
