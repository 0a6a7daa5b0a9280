use Rattle.std.proofs.Common.{◌++◌, ◌∙◌, List, map, ap, subst}
use Rattle.std.specs.Prelude.{is_some}
use Rattle.std.specs.List.{list_any}
use Rattle.std.specs.FinMap.{get}
use Rattle.vlsi_base.specs.declared.name.Name.{Name}
use Rattle.machine_core.specs.Named.{is_same_name}
use Rattle.machine_core.specs.Machine.{names_of}
use Rattle.machine_core.specs.View.{equation_view}
use Rattle.net_flat.specs.Renamed.{inner_names, IsLongerThan}
use Rattle.net_flat.proofs.Assembling.{all_made}
use Rattle.net_flat.proofs.renaming.all_names.Goals as goal

pub returns : goal.returns
returns c =
    let index = c.in_ok-index.index in
    let text = c.in_ok-text.text in
    let es = c.as_slice-2.result.now in
    all_made c.args.machine.now c.args.inputs.now c.args.names.now c.in_ok-shown.shown.items c.new.result c.in_ok-text.text c.in_ok-index.index c.as_slice-2.result.now
    (c.in_ok-shown.ensures ∙ ap names_of (c.as_slice.ensures ∙ c.ports.ensures.value)) (ap (map equation_view) c.as_slice-2.ensures ∙ c.equations.ensures.value)
    (λ n. c.in_ok-index.ensures n ∙ ap (λ (ns : List Name). list_any (λ m. is_same_name m n) ns) c.deref-2.ensures.value)
    (subst (λ (ns : List Name). IsLongerThan ns c.in_ok-text.text) c.deref.ensures.value c.in_ok-text.ensures.shown) c.in_ok-text.ensures.held c.in_ok-text.ensures.supplies
    (c.new.ensures ∙ c.in_ok-push_inner.ensures
    ∙ ap (λ (xs : List Name). xs ++ inner_names (λ n. is_some (get c.in_ok-index.index n)) c.in_ok-text.text 0 (map (λ e. e.name) c.as_slice-2.result.now))
    (c.in_ok-push_names-2.ensures ∙ ap (λ (xs : List Name). xs ++ c.args.names.now) (c.in_ok-push_names.ensures ∙ ap (λ (xs : List Name). xs ++ c.args.inputs.now) c.new-all.ensures.items)))
