use Rattle.std.proofs.Common.{◌≡◌, ◌<◌, ◌∙◌, ℕ, List, not, filter, length, ap, rules, arith}
use Rattle.vlsi_base.specs.declared.name.Port.{Port}
use Rattle.vlsi_base.specs.declared.fault.ReadError.{ReadError}
use Rattle.vlsi_base.specs.declared.fault.ReadError.TheVariants as errors
use Rattle.vlsi_base.specs.declared.fault.LimitKind.TheVariants as limit
use Rattle.vlsi_base.specs.Name.{is_supply}
use Rattle.source_checks.specs.Checks.{most_ports}
use Rattle.vst_io.specs.Text.{IsVstRefusal, Says, signal_ports, wide}
use Rattle.vst_io.proofs.Reading.{each_maps, fault_refused, netlist_refused, netlist_fits, netlist_meets}
use Rattle.vst_io.proofs.reader.read_vst.Goals as goal

pub made-requires-clause-some : goal.made-requires-clause-some
made-requires-clause-some c = each_maps c.args.bytes.now c.in_ok-file.file c.in_ok-file.ensures.written

pub returns-in_err-netlist-clause-refused : goal.returns-in_err-netlist-clause-refused
returns-in_err-netlist-clause-refused c =
    let refused : IsVstRefusal c.args.bytes.now c.args.table.now c.in_err-netlist.field-0.0 =
    fault_refused c.args.bytes.now c.args.table.now c.in_ok-file.file c.in_err-netlist.field-0.0 c.in_ok-file.ensures.written c.in_err-netlist.ensures.refused in
    search rules

pub check_netlist-requires : goal.check_netlist-requires
check_netlist-requires c = netlist_fits c.args.table.now c.in_ok-file.file c.in_ok-netlist.netlist c.requires c.in_ok-netlist.ensures.declared c.in_ok-netlist.ensures.netlist

pub returns-in_err-check_netlist-clause-refused : goal.returns-in_err-check_netlist-clause-refused
returns-in_err-check_netlist-clause-refused c =
    let says : Says c.args.bytes.now c.args.table.now c.in_ok-file.file c.in_ok-netlist.netlist = (c.in_ok-file.ensures.written, c.in_ok-netlist.ensures.fault, c.in_ok-netlist.ensures.netlist) in
    let refused : IsVstRefusal c.args.bytes.now c.args.table.now c.in_err-check_netlist.field-0.0 =
    netlist_refused c.args.bytes.now c.args.table.now c.in_ok-file.file c.in_ok-netlist.netlist c.in_err-check_netlist.field-0.0 says c.in_err-check_netlist.ensures.refused in
    search rules

pub returns-then-count-gt-MOST_PORTS-clause-refused : goal.returns-then-count-gt-MOST_PORTS-clause-refused
returns-then-count-gt-MOST_PORTS-clause-refused c =
    let n = c.in_ok-netlist.netlist in
    let says : Says c.args.bytes.now c.args.table.now c.in_ok-file.file n = (c.in_ok-file.ensures.written, c.in_ok-netlist.ensures.fault, c.in_ok-netlist.ensures.netlist) in
    let same : c.signal_count-count.result ≡ length (signal_ports n) = c.signal_count-count.ensures ∙ ap (λ (ps : List Port). length (filter (λ (p : Port). not (is_supply p.name.text)) ps)) c.ports.ensures in
    let many : most_ports < length (signal_ports n) = omega (arith, same, c.if-count-gt-MOST_PORTS.true) in
    wide c.in_ok-file.file n says c.in_ok-check_netlist.ensures.passes many (ap (λ (k : ℕ). let e : ReadError = errors.Limit (record { which = limit.Ports; reached = k }) in e) same)

pub returns-clause-condition : goal.returns-clause-condition
returns-clause-condition c = λ lists.
    netlist_meets c.args.table.now c.in_ok-file.file c.in_ok-netlist.netlist c.requires c.in_ok-netlist.ensures.declared c.in_ok-netlist.ensures.netlist c.in_ok-check_netlist.ensures.passes lists
