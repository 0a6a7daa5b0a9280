use Rattle.std.proofs.Common.{◌/◌, ℕ, List, map, ap, ◌∙◌}
use Rattle.ocp_place.proofs.Widths.{columns_of}
use Rattle.ocp_anneal.proofs.Fair.{narrow_sum}
use Rattle.ocp_anneal.proofs.across.columns_of.Goals as goal

pub returns-clause-columns : goal.returns-clause-columns
returns-clause-columns c = λ k seen.
    c.in_ok-columns.ensures ∙ ap (λ (ws : List ℕ). map (λ w. w / 500) ws) c.deref.ensures.value
    ∙ columns_of c.args.library.now k.instances c.in_ok-parts.parts.widths.items (c.in_ok-parts.ensures.parts k seen).widths

pub returns-clause-narrow : goal.returns-clause-narrow
returns-clause-narrow c =
    narrow_sum c.args.library.now c.args.netlist.now c.requires.library c.requires.netlist c.in_ok-parts.parts.widths.items c.in_ok-columns.columns.items
    (λ k seen. (c.in_ok-parts.ensures.parts k seen).widths) c.in_ok-parts.ensures.few
    (c.in_ok-columns.ensures ∙ ap (λ (ws : List ℕ). map (λ w. w / 500) ws) c.deref.ensures.value)
