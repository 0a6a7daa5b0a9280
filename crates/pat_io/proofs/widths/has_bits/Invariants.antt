use Rattle.std.proofs.Common.{◌≡◌, ◌+◌, ◌-◌, Some}
use Rattle.std.specs.List.{list_all}
use Rattle.vlsi_base.specs.Range.{rising}
use Rattle.pat_io.specs.Fitting.{is_port}
use Rattle.pat_io.proofs.widths.has_bits.Given as goal

abbrev pub invariant-loop-step : goal.invariant-loop-step
invariant-loop-step l = list_all (λ k. is_port l.ports l.dir (record { text = l.text; bit = Some k })) (rising (l.first + l.step) (l.count - l.step)) ≡ list_all (λ k. is_port l.ports l.dir (record { text = l.text; bit = Some k })) (rising l.first l.count)
