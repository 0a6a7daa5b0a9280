use Rattle.std.proofs.Common.{List, map, take, sym, subst}
use Rattle.std.specs.List.{flat_map}
use Rattle.vlsi_base.specs.declared.name.Name.{Name}
use Rattle.fsm_io.specs.Drivers.{names_at}
use Rattle.fsm_io.specs.Pieces.{AreMarked, mention_of}
use Rattle.fsm_io.proofs.Marks.{names_more}
use Rattle.fsm_io.proofs.drivers.assigned_bits.Goals as goal

pub loop-mention-preserved : goal.loop-mention-preserved
loop-mention-preserved c =
    let known = c.args.numbers.now in
    let ms = c.args.mentions.now in
    let i = c.loop-mention.mention-index in
    subst (λ (ks : List Name). AreMarked known ks c.mark_mention.new.marks.items)
    (sym (names_more (names_at known) ms i c.mention-item.result c.loop-mention-test.true c.mention-item.is))
    (c.in_ok-mark_mention.ensures (flat_map (names_at known) (map mention_of (take i ms))) c.loop-mention.invariant)
