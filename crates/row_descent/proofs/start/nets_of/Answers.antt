use Rattle.std.proofs.Common.{ℕ, List, length, ap, ◌∙◌}
use Rattle.std.specs.Global.{Vec}
use Rattle.row_descent.proofs.Starting.{pins_listed}
use Rattle.row_descent.proofs.start.nets_of.Goals as goal

pub list_nets-requires-clause-pins : goal.list_nets-requires-clause-pins
list_nets-requires-clause-pins c =
    let all = c.args.cells.now.widths.ok.0 in
    pins_listed c.args.cells.now c.deref.result.now (length c.deref_mut.result.now) c.requires c.deref.ensures.value
    (ap (λ (xs : List (Vec ℕ)). length xs) c.deref_mut.ensures.value ∙ c.in_ok-lists.ensures.length ∙ c.len.ensures ∙ all)
