use Rattle.lvx_run.proofs.Netlists.{source_unread, other_unread}
use Rattle.lvx_run.proofs.lvx.read_both.Goals as goal

pub returns-in-Err-clause-refused : goal.returns-in-Err-clause-refused
returns-in-Err-clause-refused c =
    source_unread c.args.command.now c.args.source.now c.args.other.now c.args.table.now c.in-Err.error c.refused.result c.in-Err.ensures.refused c.refused.ensures

pub returns-in-Err-read_vst-clause-refused : goal.returns-in-Err-read_vst-clause-refused
returns-in-Err-read_vst-clause-refused c =
    other_unread c.args.command.now c.args.source.now c.args.other.now c.args.table.now c.in-Ok.netlist c.in-Err-read_vst.fault c.refused-in-Err-read_vst.result c.in-Ok.ensures.accepted
    c.in-Err-read_vst.ensures.refused c.refused-in-Err-read_vst.ensures
