use Rattle.std.proofs.Common.{◌+◌, ◌-◌, ◌^◌, List, min, ap, arith, ◌∙◌}
use Rattle.std.proofs.lemmas.List.{take_all}
use Rattle.sym_geom.specs.declared.item.Item.{Item}
use Rattle.cell_checks.specs.Checked.{library_of}
use Rattle.cougar_extract.specs.Refused.{pin_count}
use Rattle.cougar_extract.proofs.Steps.{read_stands}
use Rattle.cougar_extract.proofs.PinCounts.{counted_next}
use Rattle.cougar_extract.proofs.counting.terminal_count.Goals as goal

pub loop-item-preserved : goal.loop-item-preserved
loop-item-preserved c =
    counted_next c.args.ports c.loop-item.count c.line_pins.result c.saturating_add-count.result c.args.items.now (library_of c.args.cells.now) c.loop-item.item-index c.item-item.result
    (read_stands c.args.items.now c.loop-item.item-index c.item-item.result c.loop-item-test.true c.item-item.is) c.loop-item.invariant c.line_pins.ensures
    c.saturating_add-count.ensures

pub returns : goal.returns
returns c =
    c.loop-item.invariant
    ∙ ap (λ (items : List Item). min (c.args.ports + pin_count items (library_of c.args.cells.now)) (2 ^ 64 - 1))
    (take_all c.loop-item.item-index c.args.items.now (omega (arith, c.loop-item-test.false)))
