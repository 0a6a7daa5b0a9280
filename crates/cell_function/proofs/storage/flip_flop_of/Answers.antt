use Rattle.std.proofs.Common.{◌≡◌, false, true, Some, rules, ◌∙◌}
use Rattle.cell_function.specs.Row.{keeps_always}
use Rattle.cell_function.proofs.Values.{no_flip_flop, flip_flop_is, first_data}
use Rattle.cell_function.proofs.storage.flip_flop_of.Goals as goal

pub returns-then-not-branch : goal.returns-then-not-branch
returns-then-not-branch c =
    let kept : keeps_always c.args.machine.now c.in-Some.output.now ≡ false = search rules in
    no_flip_flop c.args.machine.now c.in-Some.output.now c.clock.ensures.checked c.in-Some.ensures kept

pub returns : goal.returns
returns c =
    let m = c.args.machine.now in
    let kept : keeps_always m c.in-Some.output.now ≡ true = search rules in
    let clock : m.clock ≡ Some c.in_ok-clock.clock = search rules in
    flip_flop_is m c.in-Some.output.now c.in_ok-data.data c.in_ok-clock.clock c.clock.ensures.checked c.in-Some.ensures kept clock
    (first_data c.as_slice.result.now m.vars c.index-as_slice-0.result c.in_ok-data.data c.in_ok-data.ensures c.index-as_slice-0.is (c.as_slice.ensures ∙ c.vars.ensures.value))
