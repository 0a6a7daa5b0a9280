use Rattle.std.proofs.Common.{◌≡◌, true, false, List, sym, ap, ◌∙◌}
use Rattle.std.specs.Prelude.{codes}
use Rattle.vlsi_base.specs.declared.name.Port.{Port}
use Rattle.ocp_run.specs.Source.{is_among}
use Rattle.ocp_run.proofs.Ports.{among_there, none_there}
use Rattle.ocp_run.proofs.Refusing.{text_refused, lacks_vdd, lacks_vss}
use Rattle.ocp_run.proofs.source.read_source.Goals as goal

pub returns-in-Err-clause-refused : goal.returns-in-Err-clause-refused
returns-in-Err-clause-refused c =
    text_refused c.args.file.now c.args.source.now c.args.table.now c.in-Err.error c.refused.result c.in-Err.ensures.refused c.refused.ensures

pub returns-then-not-has_port-clause-refused : goal.returns-then-not-has_port-clause-refused
returns-then-not-has_port-clause-refused c =
    let n = c.in-Ok.netlist in
    let lacking : is_among (codes "vdd") n.ports ≡ false =
    ap (λ (ports : List Port). is_among (codes "vdd") ports) (sym c.ports.ensures) ∙ sym c.has_port.ensures ∙ c.if-not-has_port.true in
    lacks_vdd c.args.file.now c.args.source.now c.args.table.now n c.lacks.result c.in-Ok.ensures.accepted (none_there (codes "vdd") n.ports lacking) c.lacks.ensures

pub returns-then-not-has_port-2-clause-refused : goal.returns-then-not-has_port-2-clause-refused
returns-then-not-has_port-2-clause-refused c =
    let n = c.in-Ok.netlist in
    let has_one : is_among (codes "vdd") n.ports ≡ true =
    ap (λ (ports : List Port). is_among (codes "vdd") ports) (sym c.ports.ensures) ∙ sym c.has_port.ensures ∙ c.if-not-has_port.false in
    let lacking : is_among (codes "vss") n.ports ≡ false =
    ap (λ (ports : List Port). is_among (codes "vss") ports) (sym c.ports-2.ensures) ∙ sym c.has_port-2.ensures ∙ c.if-not-has_port-2.true in
    lacks_vss c.args.file.now c.args.source.now c.args.table.now n c.lacks-then-not-has_port-2.result c.in-Ok.ensures.accepted
    (among_there (codes "vdd") n.ports has_one) (none_there (codes "vss") n.ports lacking) c.lacks-then-not-has_port-2.ensures

pub returns-clause-read : goal.returns-clause-read
returns-clause-read c =
    let n = c.in-Ok.netlist in
    let has_one : is_among (codes "vdd") n.ports ≡ true =
    ap (λ (ports : List Port). is_among (codes "vdd") ports) (sym c.ports.ensures) ∙ sym c.has_port.ensures ∙ c.if-not-has_port.false in
    let has_other : is_among (codes "vss") n.ports ≡ true =
    ap (λ (ports : List Port). is_among (codes "vss") ports) (sym c.ports-2.ensures) ∙ sym c.has_port-2.ensures ∙ c.if-not-has_port-2.false in
    record {
      netlist = c.in-Ok.ensures.accepted;
      has_vdd = among_there (codes "vdd") n.ports has_one;
      has_vss = among_there (codes "vss") n.ports has_other;
    }
