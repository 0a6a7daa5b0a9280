use Rattle.std.proofs.Common.{◌∙◌, ap, ℕ, List, Err, sym, subst}
use Rattle.vlsi_base.specs.declared.name.Port.{Port}
use Rattle.pat_meaning.specs.declared.patterns.Pattern.{Pattern}
use Rattle.pat_io.specs.PatternText.{IsPatternText, IsPatternRefusal}
use Rattle.net_machine.specs.Signals.{signal_ports}
use Rattle.tool_drive.specs.declared.tool.Refusal.{Refusal}
use Rattle.tool_drive.specs.Table.{IsJudged}
use Rattle.asimut_run.specs.Netlist.{IsToldOf, Simulates}
use Rattle.asimut_run.proofs.Netlists.{by_patterns, by_simulation, by_text}
use Rattle.asimut_run.proofs.netlist.on_netlist.Goals as goal

pub returns-in-Err : goal.returns-in-Err
returns-in-Err c = λ t table cells is met same.
    let n = c.args.netlist.now in
    let ports_are = c.in_ok-ports.ensures ∙ ap signal_ports c.ports.ensures in
    let refused =
    subst (λ (x : List ℕ). IsPatternRefusal x (signal_ports n.ports) c.in-Err.error) (sym same)
    (subst (λ (ps : List Port). IsPatternRefusal c.args.patterns.now ps c.in-Err.error) ports_are c.in-Err.ensures.refused) in
    subst (λ (r : Refusal). IsJudged (Simulates c.args.command.now t) (Err r)) (sym c.plain.ensures)
    (by_patterns c.args.command.now t c.args.library.now table n c.in-Err.error c.refused.result cells is refused c.refused.ensures)

pub returns-in-Err-simulate_net : goal.returns-in-Err-simulate_net
returns-in-Err-simulate_net c = λ t table cells is met same.
    let n = c.args.netlist.now in
    let p = c.in-Ok.read in
    let ports_are = c.in_ok-ports.ensures ∙ ap signal_ports c.ports.ensures in
    let for_ports =
    subst (λ (x : List ℕ). IsPatternText x (signal_ports n.ports) p) (sym same)
    (subst (λ (ps : List Port). IsPatternText c.args.patterns.now ps p) ports_are c.in-Ok.ensures.accepted) in
    let told = subst (λ (ps : List Pattern). IsToldOf ps c.in-Err-simulate_net.error c.refusal.result) c.as_slice-patterns.ensures c.refusal.ensures in
    subst (λ (r : Refusal). IsJudged (Simulates c.args.command.now t) (Err r)) (sym c.plain-in-Err-simulate_net.ensures)
    (by_simulation c.args.command.now t c.args.library.now table n p c.in-Err-simulate_net.error c.refusal.result (record { cells = cells; netlist = is; for_ports = for_ports }) met
    c.in-Err-simulate_net.ensures.refused told)

pub returns : goal.returns
returns c = λ t table cells is met same.
    let n = c.args.netlist.now in
    let p = c.in-Ok.read in
    let ports_are = c.in_ok-ports.ensures ∙ ap signal_ports c.ports.ensures in
    let for_ports =
    subst (λ (x : List ℕ). IsPatternText x (signal_ports n.ports) p) (sym same)
    (subst (λ (ps : List Port). IsPatternText c.args.patterns.now ps p) ports_are c.in-Ok.ensures.accepted) in
    by_text c.args.command.now t c.args.library.now table n p c.in-Ok-simulate_net.filled _ _ (record { cells = cells; netlist = is; for_ports = for_ports })
    c.in-Ok-simulate_net.ensures.known c.in-Ok-simulate_net.ensures.few met c.in-Ok-simulate_net.ensures.filled c.in_ok-copy.ensures c.in_ok-write_pat.ensures
