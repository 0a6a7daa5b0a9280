use Rattle.vst_print.proofs.Texts.{label_put}
use Rattle.vst_print.proofs.instances.label.Goals as goal

pub returns : goal.returns
returns c = rw (c.in_ok-append-4.ensures.ok, c.in_ok-append-3.ensures.ok, c.in_ok-append-2.ensures.ok, c.in_ok-append.ensures.ok, c.as_bytes-2.ensures, c.as_bytes.ensures) (label_put c.args.out.now c.args.name.now c.args.model.now)
