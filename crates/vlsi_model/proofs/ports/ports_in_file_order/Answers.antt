use Rattle.std.proofs.Common.{List, ap, ◌∙◌, arith, ◌++◌}
use Rattle.std.specs.List.{filter_map}
use Rattle.std.specs.Option.{option_to_list}
use Rattle.std.specs.Prelude.{Option}
use Rattle.vlsi_base.specs.declared.name.Port.{Port}
use Rattle.source_checks.specs.declared.symbol_table.Symbol.{Symbol}
use Rattle.source_checks.specs.Symbols.{all_names}
use Rattle.vlsi_model.specs.PortNames.{port_named}
use Rattle.vlsi_model.proofs.Naming.{ports_more, take_whole}
use Rattle.vlsi_model.proofs.PortBits.{all_ports}
use Rattle.vlsi_model.proofs.ports.ports_in_file_order.Goals as goal

pub loop-k-preserved : goal.loop-k-preserved
loop-k-preserved c =
    c.in_ok-push_some.ensures
    ∙ ap (λ (o : Option Port). c.loop-k.ports.items ++ option_to_list o) (c.port_named.ensures ∙ ap (λ (known : List Symbol). port_named known c.in_ok-name.name) c.table.ensures)
    ∙ ports_more (port_named c.args.numbers.now) (all_names c.args.numbers.now) c.loop-k.k c.in_ok-name.name c.loop-k.ports.items (omega (arith, c.total-k-end.ensures)) c.in_ok-name.ensures c.loop-k.invariant

pub returns : goal.returns
returns c =
    c.loop-k.invariant ∙ ap (filter_map (port_named c.args.numbers.now)) (take_whole (all_names c.args.numbers.now) c.loop-k.k (omega (arith, c.total-k-end.ensures))) ∙ all_ports c.args.numbers.now c.requires
