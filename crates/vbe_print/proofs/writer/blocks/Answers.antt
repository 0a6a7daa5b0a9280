use Rattle.std.proofs.Common.{◌++◌, map}
use Rattle.machine_core.specs.View.{register_view}
use Rattle.spell_theory.specs.Layout.{text_of}
use Rattle.vbe_print.specs.Written.{blocks_layout}
use Rattle.vbe_print.proofs.Texts.{blocks_next}
use Rattle.vbe_print.proofs.writer.blocks.Goals as goal

pub loop-number-preserved : goal.loop-number-preserved
loop-number-preserved c =
    let vars = c.args.speller.now.names.now in
    let rs = c.args.registers.now in
    let k = c.loop-number.number in
    let r = c.index-registers-number.result in
    blocks_next vars c.args.clock.now rs k r c.loop-number.out c.block.new.out (c.args.out.now ++ text_of (blocks_layout vars c.args.clock.now 0 (map register_view rs)))
    c.loop-number-test.true c.index-registers-number.is c.in_ok-block.ensures c.loop-number.invariant
