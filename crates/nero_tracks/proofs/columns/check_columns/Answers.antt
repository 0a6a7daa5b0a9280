use Rattle.std.proofs.Common.{◌<◌, length, arith}
use Rattle.std.proofs.lemmas.Result.{err_from_is_err_and}
use Rattle.nero_tracks.proofs.InUse.{own_marked, own_unmarked, all_own, refused}
use Rattle.nero_tracks.proofs.columns.check_columns.Goals as goal
use Rattle.nero_tracks.proofs.columns.check_columns.Goals.{then-index+in_ok-check_model, else-index}

pub returns-in_err-check_model-clause-refused : goal.returns-in_err-check_model-clause-refused
returns-in_err-check_model-clause-refused c =
    let p = err_from_is_err_and c.from_residual-in_err-check_model.result c.from_residual-in_err-check_model.ensures.1 in
    rw (p.1, p.2) (refused c.args.library.now c.args.netlist.now c.models-models.result.now c.nodes.result.now c.in_ok-in_use.in_use.items c.models-models.ensures c.nodes.ensures.seen
    c.in_ok-in_use.ensures
    c.requires c.nodes.ensures.known c.loop-k.k c.index.result.now c.index-models-k.result c.in_err-check_model.field-0.0 c.loop-k.invariant c.loop-k-test.true c.index.ensures c.if-index.true c.index-models-k.is
    c.in_err-check_model.ensures.refused)

pub loop-k-preserved : goal.loop-k-preserved
loop-k-preserved c = elim c.if-index.branch [
  | then-index+in_ok-check_model w ↦
      own_marked c.args.library.now c.models-models.result.now c.in_ok-in_use.in_use.items c.loop-k.k w.index-models-k.result c.loop-k.invariant c.loop-k-test.true w.index-models-k.is
      w.in_ok-check_model.ensures.apart
  | else-index w ↦
      let low : c.loop-k.k < length c.in_ok-in_use.in_use.items = let many = c.in_ok-in_use.ensures.many in omega (arith, many) in
      own_unmarked c.args.library.now c.models-models.result.now c.in_ok-in_use.in_use.items c.loop-k.k c.index.result.now c.loop-k.invariant low c.index.ensures w.if-index.false
]

pub returns-clause-apart : goal.returns-clause-apart
returns-clause-apart c =
    all_own c.args.library.now c.args.netlist.now c.models-models.result.now c.nodes.result.now c.in_ok-in_use.in_use.items c.models-models.ensures c.nodes.ensures.seen c.in_ok-in_use.ensures
    c.requires c.nodes.ensures.known (λ j low marked. c.loop-k.invariant j (omega (arith, low)) marked)
