use Rattle.vbe_io.proofs.Cells.{in_err, uncut_other}
use Rattle.vbe_io.proofs.reader.tokens_of.Goals as goal

pub returns-clause-other : goal.returns-clause-other
returns-clause-other c = in_err (uncut_other c.args.bytes.now) c.tokens.result c.tokens.ensures.refused
