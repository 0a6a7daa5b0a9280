use Rattle.std.proofs.Common.{◌≡◌, true, false, List, ◌++◌, map, refl, sym, ◌∙◌, append_assoc}
use Rattle.vlsi_base.specs.declared.name.Name.{Name}
use Rattle.vlsi_base.specs.Tree.{view}
use Rattle.source_checks.specs.declared.statement.Guarded.{Guarded}
use Rattle.vbe_text.specs.Source.{guarded_view}
use Rattle.vbe_free.specs.Filled.{bits_read, alternatives_read}
use Rattle.vbe_free.proofs.Walks.{among_turn}
use Rattle.vbe_free.proofs.reading.alternatives_read.Goals as goal

pub returns-then-guarded_reads : goal.returns-then-guarded_reads
returns-then-guarded_reads c =
    let n : Name = record { text = c.args.of.now; bit = c.args.bit } in
    among_turn n (λ (x : Guarded). bits_read c.args.table.now (view x.value) ++ bits_read c.args.table.now (view x.condition)) (λ xs. alternatives_read c.args.table.now (map guarded_view xs)) (λ x xs. sym (append_assoc (bits_read c.args.table.now (view x.value)) (bits_read c.args.table.now (view x.condition)) (alternatives_read c.args.table.now (map guarded_view xs)))) c.args.alternatives.now c.loop-guarded.guarded-index c.guarded-item.result _
    c.loop-guarded-test.true c.guarded-item.is c.loop-guarded.invariant true (sym c.if-guarded_reads.true ∙ c.guarded_reads.ensures)

pub loop-guarded-preserved : goal.loop-guarded-preserved
loop-guarded-preserved c =
    let n : Name = record { text = c.args.of.now; bit = c.args.bit } in
    among_turn n (λ (x : Guarded). bits_read c.args.table.now (view x.value) ++ bits_read c.args.table.now (view x.condition)) (λ xs. alternatives_read c.args.table.now (map guarded_view xs)) (λ x xs. sym (append_assoc (bits_read c.args.table.now (view x.value)) (bits_read c.args.table.now (view x.condition)) (alternatives_read c.args.table.now (map guarded_view xs)))) c.args.alternatives.now c.loop-guarded.guarded-index c.guarded-item.result _
    c.loop-guarded-test.true c.guarded-item.is c.loop-guarded.invariant false (sym c.if-guarded_reads.false ∙ c.guarded_reads.ensures)
