use Rattle.std.proofs.Common.{arith}
use Rattle.boog_tree.proofs.Listing.{none_of_no_members}
use Rattle.boog_tree.proofs.cuts.tree_cuts.Goals as goal

pub returns-then-this-eq0 : goal.returns-then-this-eq0
returns-then-this-eq0 g c =
    none_of_no_members c.args.held c.args.graph.now c.args.number c.new.result.items (omega (arith, c.if-this-eq0.true)) c.new.ensures.items
