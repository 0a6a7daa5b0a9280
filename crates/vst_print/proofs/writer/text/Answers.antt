use Rattle.std.proofs.Common.{◌∙◌, ◌++◌, ℕ, List, ap}
use Rattle.vst_print.specs.Pieces.{front_text, body_text}
use Rattle.vst_print.proofs.Whole.{instance_pins, front_and_body}
use Rattle.vst_print.proofs.writer.text.Goals as goal

pub body-requires : goal.body-requires
body-requires c = instance_pins c.args.netlist.now c.args.table.now c.requires.fits c.requires.pins

pub returns : goal.returns
returns c =
    c.in_ok-body.ensures ∙ ap (λ (x : List ℕ). x ++ body_text c.args.netlist.now) (c.in_ok-front.ensures ∙ ap (λ (x : List ℕ). x ++ front_text c.args.netlist.now c.args.table.now) (c.new-out.ensures ∙ c.new.ensures.items))
    ∙ front_and_body c.args.netlist.now c.args.table.now
