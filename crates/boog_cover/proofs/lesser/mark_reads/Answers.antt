use Rattle.std.proofs.Common.{sym, subst}
use Rattle.std.specs.Prelude.{IsTrue}
use Rattle.subject_table.specs.View.{node_view}
use Rattle.subject_table.specs.declared.table.Node.{Node as Kind}
use Rattle.boog_cuts.specs.Reads.{reads}
use Rattle.boog_cover.proofs.Narrowing.{inv_read, nand_read}
use Rattle.boog_cover.proofs.lesser.mark_reads.Goals as goal

pub mark-requires : goal.mark-requires
mark-requires c = λ x some.
    c.requires x (subst (λ (k : Kind). IsTrue (reads (node_view k) x)) (sym c.in-Inv.is) (inv_read c.in-Inv.a x some))

pub mark-requires-in-Nand : goal.mark-requires-in-Nand
mark-requires-in-Nand c = λ x some.
    c.requires x (subst (λ (k : Kind). IsTrue (reads (node_view k) x)) (sym c.in-Nand.is) (nand_read c.in-Nand.a c.in-Nand.b x some))
