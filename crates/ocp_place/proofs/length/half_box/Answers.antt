use Rattle.std.proofs.Common.{arith}
use Rattle.ocp_place.proofs.Sums.{box_of}
use Rattle.ocp_place.proofs.length.half_box.Goals as goal

pub returns-clause-value : goal.returns-clause-value
returns-clause-value c =
    let e = box_of c.args.sites.now in omega (arith, c.extent.ensures.value, c.extent-2.ensures.value, e)
