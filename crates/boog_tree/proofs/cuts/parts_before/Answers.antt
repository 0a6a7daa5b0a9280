use Rattle.std.proofs.Common.{ℕ, List, [], ◌∷◌, length, length-append, ap, sym, subst, ◌∙◌, arith, if◌then◌else◌}
use Rattle.std.specs.Global.{Vec}
use Rattle.bool_expr.specs.Expression.{bit}
use Rattle.cell_match.specs.declared.cut.Cut.{Cut}
use Rattle.boog_cuts.proofs.Sizes.{cut_fits}
use Rattle.boog_tree.specs.Cuts.{AreTreeCuts, AreTreeParts}
use Rattle.boog_tree.specs.Joined.{HasItself}
use Rattle.boog_tree.proofs.Listing.{tree_parts_none, tree_parts_more}
use Rattle.boog_tree.proofs.cuts.parts_before.Goals as goal

pub loop-before-init : goal.loop-before-init
loop-before-init g c = record {
  many = ap (λ (l : List (Vec (Cut g.row.K))). length l) c.new-parts.ensures.items;
  parts = tree_parts_none c.args.held c.args.graph.now c.new-parts.result.items c.new-parts.ensures.items;
}

pub next_cuts-requires : goal.next_cuts-requires
next_cuts-requires g c =
    let same = ap (λ (l : List (Vec (Cut g.row.K))). length l) c.deref.ensures.value in (
      cut_fits g.row.K c.requires.few,
      (
        c.requires.few,
        (
          omega (arith, same, c.loop-before.invariant.many, c.loop-before-test.true, c.requires.there),
          (
            c.requires.earlier,
            subst (λ (l : List (Vec (Cut g.row.K))). AreTreeParts c.args.held c.args.graph.now l) (sym c.deref.ensures.value) c.loop-before.invariant.parts,
          ),
        ),
      ),
    )

pub loop-before-preserved : goal.loop-before-preserved
loop-before-preserved g c =
    let graph = c.args.graph.now in
    let old = c.loop-before.parts.items in
    let same = ap (λ (l : List (Vec (Cut g.row.K))). length l) c.deref.ensures.value in
    let longer = ap (λ (l : List (Vec (Cut g.row.K))). length l) c.in_ok-push.ensures.items ∙ length-append old (c.in_ok-parts_of.field-0 ∷ []) in
    record {
      many = omega (arith, longer, c.loop-before.invariant.many);
      parts = tree_parts_more c.args.held graph old c.push.new.self.items (bit c.args.inner.now (length old)) c.in_ok-cuts.cuts.items c.in_ok-parts_of.field-0
          c.loop-before.invariant.parts (c.requires.inner.each (length old))
          (subst (λ (n : ℕ). AreTreeCuts c.args.held graph n c.in_ok-cuts.cuts.items) same c.in_ok-cuts.ensures) c.in_ok-push.ensures.items
          (subst (λ (k : ℕ). HasItself k (if bit c.args.inner.now k then c.in_ok-cuts.cuts.items else []) c.in_ok-parts_of.field-0.items)
          (sym c.loop-before.invariant.many) c.in_ok-parts_of.ensures);
    }
