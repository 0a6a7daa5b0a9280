use Rattle.std.proofs.Common.{◌<◌, length}
use Rattle.subject_graph.proofs.Solving.{number_get}
use Rattle.subject_graph.proofs.names.number_at.Goals as goal

pub returns : goal.returns
returns c =
    let within : c.in-Some.place < length c.args.numbers.now = rw c.in-Some.is at c.requires in
    rw c.in-Some.is (number_get c.args.numbers.now c.in-Some.place within)
