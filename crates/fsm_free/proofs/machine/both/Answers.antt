use Rattle.fsm_text.specs.Written.{machine_view, body_view}
use Rattle.fsm_free.proofs.Both.{fits_low, fits_high, high_refused}
use Rattle.fsm_free.proofs.machine.both.Goals as goal

pub checked-requires : goal.checked-requires
checked-requires c =
    fits_low (machine_view c.args.made.file) (machine_view c.with_body-file.result) (body_view c.args.made.zeros) c.requires.checked c.with_body-file.ensures c.requires.zeros

pub checked-requires-2 : goal.checked-requires-2
checked-requires-2 c =
    fits_high (machine_view c.args.made.file) (machine_view c.with_body-file.result) (machine_view c.with_body-file-2.result) (body_view c.args.made.zeros) (body_view c.args.made.ones)
    c.requires.checked c.with_body-file.ensures c.with_body-file-2.ensures c.requires.ones

pub returns-in-Err-checked-clause-refused : goal.returns-in-Err-checked-clause-refused
returns-in-Err-checked-clause-refused c =
    high_refused (machine_view c.args.made.file) (machine_view c.with_body-file.result) (machine_view c.with_body-file-2.result) (body_view c.args.made.zeros) (body_view c.args.made.ones)
    c.args.pragmas.now c.in-Err-checked.e c.refused_alike.ensures c.with_body-file.ensures c.with_body-file-2.ensures c.requires.ones c.in-Err-checked.ensures.refused
