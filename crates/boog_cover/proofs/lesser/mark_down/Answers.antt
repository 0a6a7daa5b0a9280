use Rattle.std.proofs.Common.{◌+◌, ◌-◌, ◌<◌, false, length, map, slice_index_or, arith}
use Rattle.graph_theory.proofs.Values.{reads_at}
use Rattle.subject_table.specs.View.{node_view}
use Rattle.subject_table.specs.declared.table.Node.TheVariants as kind
use Rattle.boog_cuts.proofs.Growing.{number_map}
use Rattle.boog_cuts.proofs.Whole.{read_number}
use Rattle.boog_cover.proofs.Narrowing.{reads_low, spread}
use Rattle.boog_cover.proofs.lesser.mark_down.Goals as goal

pub mark_reads-requires : goal.mark_reads-requires
mark_reads-requires c = λ x by.
    let j = c.loop-rest.rest - 1 in
    let one = slice_index_or c.args.nodes.now j (kind.Fixed false) in
    let inside : j < length c.args.nodes.now = omega (arith, c.loop-rest-test.true, c.loop-rest.invariant.most) in
    let here = number_map node_view c.args.nodes.now j one (read_number c.args.nodes.now j (kind.Fixed false) inside) in
    let low = reads_low (node_view one) (c.args.held + j) x (reads_at c.args.held (map node_view c.args.nodes.now) j (node_view one) c.requires.earlier here) by in
    omega (arith, low, inside, c.requires.long, c.loop-rest.auto.marks)

pub loop-rest-preserved-then-marks-held : goal.loop-rest-preserved-then-marks-held
loop-rest-preserved-then-marks-held c =
    let j = c.loop-rest.rest - 1 in
    let one = slice_index_or c.args.nodes.now j (kind.Fixed false) in
    let inside : j < length c.args.nodes.now = omega (arith, c.loop-rest-test.true, c.loop-rest.invariant.most) in
    let here = number_map node_view c.args.nodes.now j one (read_number c.args.nodes.now j (kind.Fixed false) inside) in
    record {
      most = omega (arith, c.loop-rest.invariant.most);
      all = λ roots start.
          spread c.args.held (map node_view c.args.nodes.now) roots c.loop-rest.marks c.mark_reads.new.marks j (node_view one) (c.loop-rest.invariant.all roots start)
          here c.if-marks-held.true c.mark_reads.ensures;
    }
