use Rattle.std.proofs.lemmas.Result.{IfOk-weaker, err_from_is_err_and}
use Rattle.fsm_machine.specs.Fsm.{Fsm}
use Rattle.fsm_text.specs.Written.{machine_view}
use Rattle.fsm_io.specs.Text.{IsFsm}
use Rattle.fsm_io.specs.Verdict.{IsPassed}
use Rattle.fsm_io.proofs.Listed.{has_state, lists_states}
use Rattle.fsm_io.proofs.Few.{few_states}
use Rattle.fsm_io.proofs.Declared.{few_declared}
use Rattle.fsm_io.proofs.Reading.{written, unwritten_refused, is_fsm, faulty_refused, in_err}
use Rattle.fsm_free.proofs.reader.fixed.Goals as goal

pub returns-in_err-file-clause-refused : goal.returns-in_err-file-clause-refused
returns-in_err-file-clause-refused c =
    let p = err_from_is_err_and c.from_residual.result c.from_residual.ensures.1 in
    let cut = c.requires.cut in
    rw (p.1, p.2) (unwritten_refused c.args.bytes.now c.args.tokens.now c.in_err-file.field-0.0 c.requires.few cut c.requires.are c.in_err-file.ensures.refused)

pub check_fsm-requires-clause-some_state : goal.check_fsm-requires-clause-some_state
check_fsm-requires-clause-some_state c = has_state c.args.tokens.now (machine_view c.in_ok-file.file) c.in_ok-file.ensures.accepted

pub check_fsm-requires-clause-few_bits : goal.check_fsm-requires-clause-few_bits
check_fsm-requires-clause-few_bits c =
    few_declared c.args.bytes.now c.args.tokens.now (machine_view c.in_ok-file.file) c.requires.few c.requires.are c.in_ok-file.ensures.accepted

pub check_fsm-requires-clause-few : goal.check_fsm-requires-clause-few
check_fsm-requires-clause-few c =
    few_states c.args.bytes.now c.args.tokens.now (machine_view c.in_ok-file.file) c.requires.few c.requires.are c.in_ok-file.ensures.accepted

pub check_fsm-requires-clause-listed : goal.check_fsm-requires-clause-listed
check_fsm-requires-clause-listed c = lists_states c.args.tokens.now (machine_view c.in_ok-file.file) c.in_ok-file.ensures.accepted

pub returns-clause-machine : goal.returns-clause-machine
returns-clause-machine c =
    let bytes = c.args.bytes.now in
    let tokens = c.args.tokens.now in
    let m = machine_view c.in_ok-file.file in
    let pragmas = c.as_slice.result.now in
    let cut = c.requires.cut in
    let w = written bytes tokens m c.requires.few cut c.requires.are c.in_ok-file.ensures.accepted in
    IfOk-weaker c.check_fsm.result (λ (f : Fsm). IsPassed m pragmas f) (λ (f : Fsm). IsFsm bytes f) (λ f p. is_fsm bytes tokens m pragmas f w c.requires.are c.as_slice.ensures p) c.check_fsm.ensures.machine

pub returns-clause-refused : goal.returns-clause-refused
returns-clause-refused c =
    let bytes = c.args.bytes.now in
    let tokens = c.args.tokens.now in
    let m = machine_view c.in_ok-file.file in
    let pragmas = c.as_slice.result.now in
    let cut = c.requires.cut in
    let w = written bytes tokens m c.requires.few cut c.requires.are c.in_ok-file.ensures.accepted in
    in_err (λ e. faulty_refused bytes tokens m pragmas e w c.requires.are c.as_slice.ensures) c.check_fsm.result c.check_fsm.ensures.refused
