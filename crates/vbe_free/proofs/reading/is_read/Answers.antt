use Rattle.std.proofs.Common.{◌≡◌, true, false, List, ◌++◌, map, refl, sym, ◌∙◌, append_assoc}
use Rattle.vlsi_base.specs.declared.name.Name.{Name}
use Rattle.vlsi_base.specs.Tree.{view}
use Rattle.source_checks.specs.declared.statement.Statement.{Statement}
use Rattle.vbe_text.specs.Source.{statement_view}
use Rattle.vbe_free.specs.Filled.{statement_reads, source_reads}
use Rattle.vbe_free.proofs.Walks.{among_turn}
use Rattle.vbe_free.proofs.reading.is_read.Goals as goal

pub returns-then-statement_reads : goal.returns-then-statement_reads
returns-then-statement_reads c =
    let n : Name = record { text = c.args.of.now; bit = c.args.bit } in
    among_turn n (λ (x : Statement). statement_reads c.args.table.now (statement_view x)) (λ xs. source_reads c.args.table.now (map statement_view xs)) (λ x xs. refl) c.args.statements.now c.loop-statement.statement-index c.statement-item.result _
    c.loop-statement-test.true c.statement-item.is c.loop-statement.invariant true (sym c.if-statement_reads.true ∙ c.statement_reads.ensures)

pub loop-statement-preserved : goal.loop-statement-preserved
loop-statement-preserved c =
    let n : Name = record { text = c.args.of.now; bit = c.args.bit } in
    among_turn n (λ (x : Statement). statement_reads c.args.table.now (statement_view x)) (λ xs. source_reads c.args.table.now (map statement_view xs)) (λ x xs. refl) c.args.statements.now c.loop-statement.statement-index c.statement-item.result _
    c.loop-statement-test.true c.statement-item.is c.loop-statement.invariant false (sym c.if-statement_reads.false ∙ c.statement_reads.ensures)
