use Rattle.std.proofs.Common.{[], ap, sym, ◌∙◌}
use Rattle.std.specs.Option.{option_map, option_copied}
use Rattle.std.proofs.lemmas.Result.{IfOk-weaker}
use Rattle.source_checks.specs.Checks.{first_repeated}
use Rattle.fsm_machine.specs.Fsm.{Fsm}
use Rattle.fsm_text.specs.Written.{machine_view}
use Rattle.fsm_io.specs.Elaboration.{IsMachineOf}
use Rattle.fsm_io.specs.Pieces.{named_of, PassesBehind}
use Rattle.fsm_io.specs.Verdict.{IsPassed}
use Rattle.fsm_io.proofs.Whole.{passed}
use Rattle.fsm_io.proofs.check.check_fsm.Goals as goal

pub returns-in-Some-named_roles-clause-machine : goal.returns-in-Some-named_roles-clause-machine
returns-in-Some-named_roles-clause-machine c =
    let m = machine_view c.args.file.now in
    let n = named_of c.in-Some-named_roles.roles in
    let once = ap (first_repeated []) (sym c.in_ok-table.ensures) ∙ sym c.repeated.ensures ∙ ap option_copied c.in_default.is in
    let names = sym c.named_roles.ensures ∙ ap (option_map named_of) c.in-Some-named_roles.is in
    IfOk-weaker c.check_named.result (λ (f : Fsm). PassesBehind m n × IsMachineOf m n f) (λ (f : Fsm). IsPassed m c.args.pragmas.now f)
    (λ f p. passed m c.args.pragmas.now n f once names c.requires.some_state p.0 p.1) c.check_named.ensures.machine
