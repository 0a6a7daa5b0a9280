use Rattle.std.proofs.Common.{◌+◌, Option, sym, subst}
use Rattle.cell_match.specs.declared.gate.Gate.{Gate}
use Rattle.boog_cuts.proofs.Growing.{is_number}
use Rattle.boog_cuts.proofs.Sizes.{cut_fits}
use Rattle.boog_cover.proofs.Choosing.{Choosing, chosen_new, chosen_kept, chosen_none, chosen_all}
use Rattle.boog_cover.proofs.choice.best.Goals as goal
use Rattle.boog_cover.proofs.choice.best.Goals.{in-Some+then-is_none, in-Some+else-is_none+else-is_less, in_default}

pub matched-requires : goal.matched-requires
matched-requires g c =
    let at = is_number c.args.cuts.now c.loop-i.i c.index-cuts-i.result c.loop-i-test.true c.index-cuts-i.is in
    (cut_fits g.row.K c.requires.few, (c.requires.few, (c.requires.table, c.requires.once c.loop-i.i c.index-cuts-i.result at)))

pub loop-i-preserved : goal.loop-i-preserved
loop-i-preserved g c =
    let cells = c.args.cells.now in
    let cuts = c.args.cuts.now in
    let i = c.loop-i.i in
    let cut = c.index-cuts-i.result in
    let at = is_number cuts i cut c.loop-i-test.true c.index-cuts-i.is in
    elim c.match-matched.branch [
      | in-Some+then-is_none w ↦
          subst (λ (o : Option Gate). Choosing cells cuts (i + 1) o) (sym w.found-is) (chosen_new cells cuts i cut c.loop-i.auto.i at w.in-Some.gate w.in-Some.ensures.some w.in-Some.ensures.few)
      | in-Some+else-is_none+else-is_less w ↦
          subst (λ (o : Option Gate). Choosing cells cuts (i + 1) o) (sym w.found-is)
          (chosen_kept cells cuts i cut c.loop-i.auto.i at c.loop-i.found w.if-is_none.ensures c.loop-i.invariant)
      | in_default w ↦
          subst (λ (o : Option Gate). Choosing cells cuts (i + 1) o) (sym w.found-is)
          (chosen_none cells cuts i cut c.loop-i.auto.i at c.loop-i.found w.in_default.ensures.none c.loop-i.invariant)
    ]

pub returns-clause-none : goal.returns-clause-none
returns-clause-none g c = chosen_all c.args.cells.now c.args.cuts.now c.loop-i.i c.loop-i.found c.loop-i-test.false c.loop-i.invariant
