use Rattle.std.proofs.Common.{List}
use Rattle.machine_core.specs.Order.{AllDifferent}
use Rattle.source_checks.specs.declared.symbol_table.Symbol.{Symbol}
use Rattle.vlsi_model.proofs.Bits.{texts}
use Rattle.vlsi_model.proofs.SourceBits.{sound}
use Rattle.vlsi_model.proofs.BuildGoals.{over_numbers}
use Rattle.vlsi_model.proofs.check.few_ports.Goals as goal

pub ports_in_file_order-requires : goal.ports_in_file_order-requires
ports_in_file_order-requires c = over_numbers (λ (known : List Symbol). AllDifferent (texts known)) c.args.design.now c.args.source.now c.requires.source (sound c.args.design.now c.requires.sound).different
