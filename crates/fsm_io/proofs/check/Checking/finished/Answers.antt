use Rattle.std.proofs.Common.{◌≡◌, length, ap, sym, ◌∙◌, None}
use Rattle.fsm_code.specs.View.{body_view}
use Rattle.fsm_io.specs.Checks.{fault_behind}
use Rattle.fsm_io.specs.Pieces.{tree_of, roles_of, body_over, PassesBehind}
use Rattle.fsm_io.proofs.Whole.{refused_late, none_behind, refused_limit, count_is}
use Rattle.fsm_io.proofs.check.Checking.finished.Goals as goal

pub returns-in-Some-clause-refused : goal.returns-in-Some-clause-refused
returns-in-Some-clause-refused c =
    let m = tree_of c.args.self.now in
    let n = roles_of c.args.self.now in
    refused_late m n (body_view c.in_ok-body.body) c.in_ok-ports.ports.items c.in-Some.e c.requires.sound (c.in_ok-body.ensures ∙ ap (body_over m n) c.deref.ensures.value) (sym c.in-Some.is ∙ c.in_ok-fault.ensures)

pub limit-requires : goal.limit-requires
limit-requires c = count_is (tree_of c.args.self.now) c.in_ok-ports.ports.items c.in_ok-ports.ensures.moved ∙ ap length (sym c.deref-2.ensures.value)

pub returns-in-Some-limit-clause-refused : goal.returns-in-Some-limit-clause-refused
returns-in-Some-limit-clause-refused c =
    let m = tree_of c.args.self.now in
    let n = roles_of c.args.self.now in
    refused_limit m n c.in-Some-limit.e
    (none_behind m n (body_view c.in_ok-body.body) c.in_ok-ports.ports.items c.requires.sound (c.in_ok-body.ensures ∙ ap (body_over m n) c.deref.ensures.value) (sym c.in_default.is ∙ c.in_ok-fault.ensures))
    c.in-Some-limit.ensures

pub machine-requires-clause-sound : goal.machine-requires-clause-sound
machine-requires-clause-sound c =
    let m = tree_of c.args.self.now in
    let n = roles_of c.args.self.now in
    let limits = c.in_default-limit.ensures in
    record {
      no_fault = none_behind m n (body_view c.in_ok-body.body) c.in_ok-ports.ports.items c.requires.sound (c.in_ok-body.ensures ∙ ap (body_over m n) c.deref.ensures.value) (sym c.in_default.is ∙ c.in_ok-fault.ensures);
      few_ports = limits.0;
      few_states = limits.1;
    }

pub returns-clause-machine : goal.returns-clause-machine
returns-clause-machine c =
    let m = tree_of c.args.self.now in
    let n = roles_of c.args.self.now in
    let limits = c.in_default-limit.ensures in
    let none : fault_behind m n ≡ None = none_behind m n (body_view c.in_ok-body.body) c.in_ok-ports.ports.items c.requires.sound (c.in_ok-body.ensures ∙ ap (body_over m n) c.deref.ensures.value) (sym c.in_default.is ∙ c.in_ok-fault.ensures) in
    let passes : PassesBehind m n = record { no_fault = none; few_ports = limits.0; few_states = limits.1 } in
    (passes, c.in_ok-machine.ensures)
