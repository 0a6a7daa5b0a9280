use Rattle.std.proofs.Common.{◌≡◌, ◌+◌, ◌-◌, ◌<◌, ℕ, false, true, length, map, slice_index_or, sym, ◌∙◌, arith}
use Rattle.bool_expr.specs.Expression.{bit}
use Rattle.net_theory.specs.Sources.{IsNumber}
use Rattle.graph_theory.proofs.Values.{reads_at}
use Rattle.subject_table.specs.View.{node_view}
use Rattle.subject_table.specs.declared.table.Node.TheVariants as kind
use Rattle.boog_cuts.proofs.Growing.{number_map}
use Rattle.boog_cuts.proofs.Whole.{read_number, map_long}
use Rattle.boog_part.proofs.Marking.{reads_low, spreading_starts, spreading_marked, spreading_passed, spreading_ends}
use Rattle.boog_part.proofs.marks.mark_down.Goals as goal

pub loop-rest-init : goal.loop-rest-init
loop-rest-init c =
    let long = map_long node_view c.args.nodes.now in
    record {
      most = omega arith;
      spread = λ roots start.
          spreading_starts c.args.held (map node_view c.args.nodes.now) roots c.args.marks.now (length c.args.nodes.now) (omega (arith, long)) start;
    }

pub mark_reads-requires : goal.mark_reads-requires
mark_reads-requires c = λ x by.
    let j = c.loop-rest.rest - 1 in
    let one = slice_index_or c.args.nodes.now j (kind.Fixed false) in
    let inside : j < length c.args.nodes.now = omega (arith, c.loop-rest-test.true, c.loop-rest.invariant.most) in
    let here = number_map node_view c.args.nodes.now j one (read_number c.args.nodes.now j (kind.Fixed false) inside) in
    let low = reads_low (node_view one) (c.args.held + j) x (reads_at c.args.held (map node_view c.args.nodes.now) j (node_view one) c.requires.earlier here) by in
    omega (arith, low, inside, c.requires.long, c.loop-rest.auto.marks)

pub loop-rest-preserved-then-marks-held : goal.loop-rest-preserved-then-marks-held
loop-rest-preserved-then-marks-held c =
    let j = c.loop-rest.rest - 1 in
    let one = slice_index_or c.args.nodes.now j (kind.Fixed false) in
    let inside : j < length c.args.nodes.now = omega (arith, c.loop-rest-test.true, c.loop-rest.invariant.most) in
    let here = number_map node_view c.args.nodes.now j one (read_number c.args.nodes.now j (kind.Fixed false) inside) in
    record {
      most = omega (arith, c.loop-rest.invariant.most);
      spread = λ roots start.
          spreading_marked c.args.held (map node_view c.args.nodes.now) roots c.loop-rest.marks c.loop-rest.rest j (omega (arith, c.loop-rest-test.true))
          (c.loop-rest.invariant.spread roots start) (node_view one) here c.mark_reads.new.marks c.requires.earlier c.if-marks-held.true c.mark_reads.ensures;
    }

pub loop-rest-preserved : goal.loop-rest-preserved
loop-rest-preserved c =
    let j = c.loop-rest.rest - 1 in
    let one = slice_index_or c.args.nodes.now j (kind.Fixed false) in
    let inside : j < length c.args.nodes.now = omega (arith, c.loop-rest-test.true, c.loop-rest.invariant.most) in
    let here = number_map node_view c.args.nodes.now j one (read_number c.args.nodes.now j (kind.Fixed false) inside) in
    record {
      most = omega (arith, c.loop-rest.invariant.most);
      spread = λ roots start.
          spreading_passed c.args.held (map node_view c.args.nodes.now) roots c.loop-rest.marks c.loop-rest.rest j (omega (arith, c.loop-rest-test.true))
          (c.loop-rest.invariant.spread roots start) (node_view one) here (λ marked. let e : true ≡ false = sym marked ∙ c.if-marks-held.false in cc);
    }

pub returns : goal.returns
returns c = λ roots start.
    spreading_ends c.args.held (map node_view c.args.nodes.now) roots c.loop-rest.marks c.loop-rest.rest (omega (arith, c.loop-rest-test.false))
    (c.loop-rest.invariant.spread roots start)
