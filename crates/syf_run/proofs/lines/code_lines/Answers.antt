use Rattle.std.proofs.Common.{ℕ, Bool, List, ◌++◌, ap, ◌∙◌}
use Rattle.std.proofs.lemmas.Iterator.{YieldsList-from_slice, YieldsList-from_zip}
use Rattle.std.proofs.lemmas.Iterator.Consumers.{YieldsList-end}
use Rattle.vlsi_base.specs.declared.name.Name.{Name}
use Rattle.syf_run.proofs.Printed.{lines_of, line_put, lines_zip}
use Rattle.syf_run.proofs.lines.code_lines.Goals as goal

pub loop-state-preserved : goal.loop-state-preserved
loop-state-preserved c =
    line_put c.args.out.now c.loop-state.out c.code_line.new.out c.loop-state.yielded (c.in-Some.state, c.in-Some.code) c.as_slice.result.now
    c.loop-state.invariant c.as_slice.ensures c.in_ok-code_line.ensures

pub returns : goal.returns
returns c =
    let states = c.args.states.now in
    let codes = c.args.codes.now in
    let pairs = YieldsList-from_zip (YieldsList-from_slice states (cc)) (YieldsList-from_slice codes (cc)) in
    let all = YieldsList-end pairs c.loop-state.yielded c.loop-state.state-iterator c.loop-state.yielded_by c.next.result c.next.new.self c.in-None.is c.next.ensures.steps in
    c.loop-state.invariant
    ∙ ap (λ (read : List (Name × List Bool)). c.args.out.now ++ lines_of read) all.0
    ∙ ap (λ (lines : List ℕ). c.args.out.now ++ lines) (lines_zip states codes)
