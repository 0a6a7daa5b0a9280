use Rattle.std.proofs.Common.{◌≡◌, true, false, List, ◌++◌, map, refl, sym, ◌∙◌, append_assoc}
use Rattle.vlsi_base.specs.declared.name.Name.{Name}
use Rattle.vlsi_base.specs.Tree.{view}
use Rattle.source_checks.specs.declared.statement.Assignment.{Assignment}
use Rattle.vbe_text.specs.Source.{assignment_view}
use Rattle.vbe_free.specs.Filled.{assignment_reads, each_reads}
use Rattle.vbe_free.proofs.Walks.{among_turn}
use Rattle.vbe_free.proofs.reading.assignments_read.Goals as goal

pub returns-then-assignment_reads : goal.returns-then-assignment_reads
returns-then-assignment_reads c =
    let n : Name = record { text = c.args.of.now; bit = c.args.bit } in
    among_turn n (λ (x : Assignment). assignment_reads c.args.table.now (assignment_view x)) (λ xs. each_reads c.args.table.now (map assignment_view xs)) (λ x xs. refl) c.args.assignments.now c.loop-assignment.assignment-index c.assignment-item.result _
    c.loop-assignment-test.true c.assignment-item.is c.loop-assignment.invariant true (sym c.if-assignment_reads.true ∙ c.assignment_reads.ensures)

pub loop-assignment-preserved : goal.loop-assignment-preserved
loop-assignment-preserved c =
    let n : Name = record { text = c.args.of.now; bit = c.args.bit } in
    among_turn n (λ (x : Assignment). assignment_reads c.args.table.now (assignment_view x)) (λ xs. each_reads c.args.table.now (map assignment_view xs)) (λ x xs. refl) c.args.assignments.now c.loop-assignment.assignment-index c.assignment-item.result _
    c.loop-assignment-test.true c.assignment-item.is c.loop-assignment.invariant false (sym c.if-assignment_reads.false ∙ c.assignment_reads.ensures)
