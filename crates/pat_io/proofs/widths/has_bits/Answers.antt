use Rattle.std.proofs.Common.{rules, ◌≡◌, ◌+◌, Some, true}
use Rattle.std.specs.List.{list_all}
use Rattle.vlsi_base.specs.Range.{rising}
use Rattle.pat_io.specs.Fitting.{is_port}
use Rattle.pat_io.proofs.Turns.{bit_there}
use Rattle.pat_io.proofs.widths.has_bits.Goals as goal

pub loop-step-preserved : goal.loop-step-preserved
loop-step-preserved c =
    let there : is_port c.args.ports.now c.args.dir (record { text = c.args.text.now; bit = Some (c.args.first + c.loop-step.step) }) ≡ true = search rules in
    bit_there (λ k. is_port c.args.ports.now c.args.dir (record { text = c.args.text.now; bit = Some k })) c.args.first c.args.count c.loop-step.step
    (list_all (λ k. is_port c.args.ports.now c.args.dir (record { text = c.args.text.now; bit = Some k })) (rising c.args.first c.args.count)) c.loop-step-test.true c.loop-step.invariant there
