use Rattle.std.proofs.Common.{[], sym, ap, ◌∙◌, arith}
use Rattle.std.specs.Global.{Vec}
use Rattle.std.proofs.lemmas.List.{length-map}
use Rattle.row_meaning.specs.declared.Pin.{Pin}
use Rattle.row_descent.specs.Tables.{rows_of, nets_in}
use Rattle.row_descent.proofs.Views.{at_map}
use Rattle.row_descent.proofs.Starting.{listed_more}
use Rattle.row_descent.proofs.start.list_nets.Goals as goal

pub loop-net-preserved : goal.loop-net-preserved
loop-net-preserved c =
    let many = length-map c.args.nets.now (λ (v : Vec Pin). v.items) in
    listed_more (nets_in c.args.nets.now) c.loop-net.net c.deref.result.now (rows_of c.loop-net.lists) (rows_of c.list_pins.new.lists) (omega arith)
    (at_map (λ (v : Vec Pin). v.items) c.args.nets.now c.loop-net.net c.index-nets-net.result [] c.loop-net-test.true
    ∙ ap (λ (v : Vec Pin). v.items) (sym c.index-nets-net.is) ∙ sym c.deref.ensures.value)
    c.loop-net.invariant c.in_ok-list_pins.ensures.lists
