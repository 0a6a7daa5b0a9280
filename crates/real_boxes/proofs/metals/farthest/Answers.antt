use Rattle.std.proofs.Common.{List, All, arith, subst}
use Rattle.std.proofs.lemmas.List.{take_all}
use Rattle.real_table.specs.declared.table.Entry.{Entry}
use Rattle.real_boxes.specs.Metals.{IsEntryGrownWithin}
use Rattle.real_boxes.proofs.Beside.{grown_more, grown_next}
use Rattle.real_boxes.proofs.metals.farthest.Goals as goal

pub loop-entry-preserved : goal.loop-entry-preserved
loop-entry-preserved c =
    record {
      within =
          grown_next c.args.entries.now c.loop-entry.entry-index c.loop-entry.most c.larger-most.result c.entry-item.result c.loop-entry-test.true c.entry-item.is
          c.larger-most.ensures.first c.loop-entry.invariant.within
          (grown_more c.entry_reach.result c.larger-most.result c.larger-most.ensures.second c.entry-item.result c.entry_reach.ensures.within);
      most = c.larger-most.ensures.most;
    }

pub returns-clause-within : goal.returns-clause-within
returns-clause-within c =
    subst (λ (es : List Entry). All (λ (e : Entry). IsEntryGrownWithin c.loop-entry.most e) es)
    (take_all c.loop-entry.entry-index c.args.entries.now (omega (arith, c.loop-entry-test.false))) c.loop-entry.invariant.within
