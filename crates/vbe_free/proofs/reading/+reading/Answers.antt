use Rattle.std.proofs.Common.{rules, ◌≡◌, true, false, map, refl, sym, ◌∙◌}
use Rattle.vlsi_base.specs.declared.expression.ParsedExpr.TheViews.{the_lemmas}
use Rattle.vlsi_base.specs.declared.name.Name.{Name}
use Rattle.vlsi_base.specs.Tree.{view, operand_of, folded}
use Rattle.vlsi_base.proofs.Groups.{grouped_is}
use Rattle.source_checks.specs.Drivers.{is_among}
use Rattle.vbe_free.specs.Filled.{bits_read, operands_read}
use Rattle.vbe_free.proofs.Walks.{in_chain, operands_turn}
use Rattle.vbe_free.proofs.reading.+reading.Goals as goal

pub others_read-returns-then-reads : goal.others_read-returns-then-reads
others_read-returns-then-reads t c =
    let n : Name = record { text = c.args.of.now; bit = c.args.bit } in
    operands_turn c.args.table.now n c.args.others.now c.loop-e.e-index c.loop-e-item.result _ c.loop-e-test.true c.loop-e-item.is c.loop-e.invariant true
    (sym c.if-reads.true ∙ c.reads.ensures)

pub others_read-loop-e-preserved : goal.others_read-loop-e-preserved
others_read-loop-e-preserved t c =
    let n : Name = record { text = c.args.of.now; bit = c.args.bit } in
    operands_turn c.args.table.now n c.args.others.now c.loop-e.e-index c.loop-e-item.result _ c.loop-e-test.true c.loop-e-item.is c.loop-e.invariant false
    (sym c.if-reads.false ∙ c.reads.ensures)

pub reads-returns-then-reads-2 : goal.reads-returns-then-reads-2
reads-returns-then-reads-2 t c =
    let n : Name = record { text = c.args.of.now; bit = c.args.bit } in
    let es = map operand_of c.in-Chain.others.items in
    let viewed : view c.args.e.now ≡ folded c.in-Chain.field-0 (view c.in-Chain.first.value) es = search (rules, the_lemmas, grouped_is) in
    let here : c.reads-in-Chain.result ≡ is_among (bits_read c.args.table.now (view c.in-Chain.first.value)) n = search rules in
    c.if-reads-2.true
    ∙ in_chain c.args.table.now n (view c.args.e.now) (view c.in-Chain.first.value) c.in-Chain.field-0 es true (is_among (operands_read c.args.table.now es) n) viewed
    (sym c.if-reads-2.true ∙ here) refl

pub reads-returns-else-reads-2 : goal.reads-returns-else-reads-2
reads-returns-else-reads-2 t c =
    let n : Name = record { text = c.args.of.now; bit = c.args.bit } in
    let es = map operand_of c.in-Chain.others.items in
    let viewed : view c.args.e.now ≡ folded c.in-Chain.field-0 (view c.in-Chain.first.value) es = search (rules, the_lemmas, grouped_is) in
    let here : c.reads-in-Chain.result ≡ is_among (bits_read c.args.table.now (view c.in-Chain.first.value)) n = search rules in
    let rest : c.others_read.result ≡ is_among (operands_read c.args.table.now es) n = search rules in
    in_chain c.args.table.now n (view c.args.e.now) (view c.in-Chain.first.value) c.in-Chain.field-0 es false c.others_read.result viewed
    (sym c.if-reads-2.false ∙ here) rest
