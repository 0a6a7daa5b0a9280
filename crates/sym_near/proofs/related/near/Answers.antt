use Rattle.std.proofs.Common.{Some, inl, List, refl, sym, subst}
use Rattle.sym_near.specs.declared.near.Relation.TheVariants as relation
use Rattle.sym_near.specs.declared.sweep.Entry.{Entry}
use Rattle.sym_near.specs.Sweep.{SharesEither}
use Rattle.sym_near.proofs.Enters.{either_way}
use Rattle.sym_near.proofs.related.near.Goals as goal

pub related-requires-clause-shares : goal.related-requires-clause-shares
related-requires-clause-shares c = λ i j h. inl (c.requires.swept.near_share i j h)

pub related-requires-2-clause-shares : goal.related-requires-2-clause-shares
related-requires-2-clause-shares c =
    subst (λ (es : List Entry). SharesEither c.args.shapes.now (relation.Near c.args.gap) (Some c.args.gap) c.args.entries.now es) (sym c.as_slice-turned.ensures.value)
    (either_way c.args.shapes.now c.args.cuts.now c.args.gap c.args.entries.now c.in_ok-across.across.items (c.if-not-are_rects.ensures.0 refl) c.requires.swept c.in_ok-across.ensures)
