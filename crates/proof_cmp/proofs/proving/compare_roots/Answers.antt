use Rattle.std.proofs.Common.{◌<◌, length, take, refl, arith}
use Rattle.std.proofs.lemmas.Result.{err_from_is_err_and}
use Rattle.bool_expr.specs.View.{view}
use Rattle.proof_joint.specs.Together.{root_pairs}
use Rattle.proof_joint.specs.Joint.{JoinsRoots}
use Rattle.proof_cmp.specs.Comparing.{pair_of}
use Rattle.proof_cmp.proofs.Comparing.{as_long, listed_over, compared_more, refused_here, all_compared}
use Rattle.proof_cmp.proofs.proving.compare_roots.Goals as goal

pub bounds-others-k : goal.bounds-others-k
bounds-others-k c =
    let a = c.args.machines.first.now in
    let b = c.args.machines.second.now in
    let firsts = c.args.firsts.now in
    let seconds = c.args.others.now in
    let ra = c.requires.firsts in
    let rb = c.requires.others in
    omega (arith, c.loop-k-test.true, as_long a b c.requires.names firsts seconds ra rb)

pub diagram_of-requires-clause-first : goal.diagram_of-requires-clause-first
diagram_of-requires-clause-first c =
    let a = c.args.machines.first.now in
    let b = c.args.machines.second.now in
    let firsts = c.args.firsts.now in
    let seconds = c.args.others.now in
    let ra = c.requires.firsts in
    let rb = c.requires.others in
    record {
      checked = c.name.ensures.checked;
      over = listed_over a c.name.ensures.checked firsts ra c.loop-k.k c.index-firsts-k.result c.loop-k-test.true c.index-firsts-k.is;
      few = c.requires.first;
    }

pub diagram_of-requires-clause-second : goal.diagram_of-requires-clause-second
diagram_of-requires-clause-second c =
    let a = c.args.machines.first.now in
    let b = c.args.machines.second.now in
    let firsts = c.args.firsts.now in
    let seconds = c.args.others.now in
    let ra = c.requires.firsts in
    let rb = c.requires.others in
    let inside : c.loop-k.k < length c.args.others.now = omega (arith, c.loop-k-test.true, as_long a b c.requires.names firsts seconds ra rb) in
    record {
      checked = c.name-2.ensures.checked;
      over = listed_over b c.name-2.ensures.checked seconds rb c.loop-k.k c.index-others-k.result inside c.index-others-k.is;
      few = c.requires.second;
    }

pub returns-in_err-joint-clause-refusal : goal.returns-in_err-joint-clause-refusal
returns-in_err-joint-clause-refusal c =
    let a = c.args.machines.first.now in
    let b = c.args.machines.second.now in
    let firsts = c.args.firsts.now in
    let seconds = c.args.others.now in
    let ra = c.requires.firsts in
    let rb = c.requires.others in
    let p = err_from_is_err_and c.from_residual.result c.from_residual.ensures.1 in
    rw (p.1, p.2)
    (refused_here a b c.requires.names firsts seconds ra rb c.args.budget c.loop-k.k c.index-firsts-k.result c.index-others-k.result c.loop-k-test.true c.index-firsts-k.is c.index-others-k.is c.loop-k.found c.loop-k.invariant
    c.in_err-joint.field-0.0 c.in_err-joint.ensures.over)

pub found_with-requires-clause-joint : goal.found_with-requires-clause-joint
found_with-requires-clause-joint c =
    let a = c.args.machines.first.now in
    let b = c.args.machines.second.now in
    let firsts = c.args.firsts.now in
    let seconds = c.args.others.now in
    let ra = c.requires.firsts in
    let rb = c.requires.others in
    let inside : c.loop-k.k < length c.args.others.now = omega (arith, c.loop-k-test.true, as_long a b c.requires.names firsts seconds ra rb) in
    let joins : JoinsRoots c.args.machines.first.now c.args.machines.second.now (view c.index-firsts-k.result.expr.now) (view c.index-others-k.result.expr.now) c.in_ok-joint.joint = record {
      roots = record {
        names = c.requires.names;
        first = c.name.ensures.checked;
        second = c.name-2.ensures.checked;
        over = listed_over a c.name.ensures.checked firsts ra c.loop-k.k c.index-firsts-k.result c.loop-k-test.true c.index-firsts-k.is;
        other = listed_over b c.name-2.ensures.checked seconds rb c.loop-k.k c.index-others-k.result inside c.index-others-k.is;
      };
      diagram = c.in_ok-joint.ensures.diagram;
    } in
    (b, view c.index-firsts-k.result.expr.now, view c.index-others-k.result.expr.now, joins)

pub loop-k-preserved : goal.loop-k-preserved
loop-k-preserved c =
    let a = c.args.machines.first.now in
    let b = c.args.machines.second.now in
    let firsts = c.args.firsts.now in
    let seconds = c.args.others.now in
    let ra = c.requires.firsts in
    let rb = c.requires.others in
    let inside : c.loop-k.k < length c.args.others.now = omega (arith, c.loop-k-test.true, as_long a b c.requires.names firsts seconds ra rb) in
    let joins : JoinsRoots c.args.machines.first.now c.args.machines.second.now (view c.index-firsts-k.result.expr.now) (view c.index-others-k.result.expr.now) c.in_ok-joint.joint = record {
      roots = record {
        names = c.requires.names;
        first = c.name.ensures.checked;
        second = c.name-2.ensures.checked;
        over = listed_over a c.name.ensures.checked firsts ra c.loop-k.k c.index-firsts-k.result c.loop-k-test.true c.index-firsts-k.is;
        other = listed_over b c.name-2.ensures.checked seconds rb c.loop-k.k c.index-others-k.result inside c.index-others-k.is;
      };
      diagram = c.in_ok-joint.ensures.diagram;
    } in
    compared_more a b c.requires.names firsts seconds ra rb c.args.budget c.loop-k.k c.index-firsts-k.result c.index-others-k.result c.loop-k-test.true c.index-firsts-k.is c.index-others-k.is c.loop-k.found c.in_ok-found.found c.loop-k.invariant
    c.in_ok-joint.ensures.within (c.in_ok-found.ensures b (take c.loop-k.k (root_pairs a b)) (pair_of c.index-firsts-k.result c.index-others-k.result) refl joins)

pub returns-clause-within : goal.returns-clause-within
returns-clause-within c =
    let a = c.args.machines.first.now in
    let b = c.args.machines.second.now in
    let firsts = c.args.firsts.now in
    let seconds = c.args.others.now in
    let ra = c.requires.firsts in
    let rb = c.requires.others in
    (all_compared a b c.requires.names firsts seconds ra rb c.args.budget c.loop-k.k c.loop-k.found c.loop-k-test.false c.loop-k.invariant).0

pub returns-clause-found : goal.returns-clause-found
returns-clause-found c =
    let a = c.args.machines.first.now in
    let b = c.args.machines.second.now in
    let firsts = c.args.firsts.now in
    let seconds = c.args.others.now in
    let ra = c.requires.firsts in
    let rb = c.requires.others in
    (all_compared a b c.requires.names firsts seconds ra rb c.args.budget c.loop-k.k c.loop-k.found c.loop-k-test.false c.loop-k.invariant).1
