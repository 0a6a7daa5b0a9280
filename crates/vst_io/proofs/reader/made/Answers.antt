use Rattle.std.proofs.Common.{◌≡◌, ◌∙◌, List, ap, subst}
use Rattle.net_core.specs.declared.pins.ModelPins.{ModelPins}
use Rattle.vst_io.specs.Known.{Source}
use Rattle.vst_io.specs.Checked.{IsFaultOf}
use Rattle.vst_io.specs.Drafts.{IsLabelFault}
use Rattle.vst_io.proofs.First.{in_err, label_found}
use Rattle.vst_io.proofs.reader.made.Goals as goal

pub returns-clause-refused : goal.returns-clause-refused
returns-clause-refused c =
    let k = c.in_ok-known.known in
    let source = λ (table : List ModelPins). let s : Source = record { table = table; file = c.args.file.now } in s in
    let is : k ≡ source c.args.table.now = c.in_ok-known.ensures ∙ ap source c.as_slice-2.ensures in
    in_err {P = IsLabelFault k.file.instances} {Q = IsFaultOf c.args.table.now c.args.file.now}
    (λ e h. subst (λ (s : Source). IsFaultOf s.table s.file e) is (label_found k.table k.file c.in_ok-ports.ensures.checked e h)) c.netlist_of.result c.netlist_of.ensures.refused
