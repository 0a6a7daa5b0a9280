use Rattle.std.proofs.Common.{◌≡◌, ◌∙◌, ℕ, List, Option, Some, None, sym, ap, subst}
use Rattle.std.specs.Prelude.{slice_index_or}
use Rattle.vlsi_base.specs.declared.name.Name.{Name}
use Rattle.vlsi_base.specs.declared.name.Port.{Port}
use Rattle.net_core.specs.declared.frame.Node.{Node}
use Rattle.net_machine.proofs.Knowing.{AreNodes}
use Rattle.net_flat.specs.Parts.{registers_of}
use Rattle.net_flat.specs.Taken.{is_taken, IsFirst}
use Rattle.net_flat.proofs.Knowing.{KnowsParts, knows_parts, is_plain, first_is, names_are, are_apart, first_twice}
use Rattle.net_flat.proofs.flat.registers.Goals as goal

pub returns-in-Some-clause-refused : goal.returns-in-Some-clause-refused
returns-in-Some-clause-refused c =
    let n = c.args.netlist.now in
    let l = c.args.library.now in
    let are : AreNodes c.args.netlist.now c.nodes-nodes.result.now = record { seen = c.nodes-nodes.ensures.seen; inside = c.nodes-nodes.ensures.known } in
    let knows : KnowsParts c.args.netlist.now c.args.library.now c.in_ok-parts.parts.items =
    knows_parts n l c.models-models.result.now c.cells.result.now c.in_ok-parts.parts.items c.in_ok-parts.ensures c.models-models.ensures c.cells.ensures.value in
    let named : c.index-models-nodes.result ≡ slice_index_or c.models-models.result.now c.index-nodes-place.result.model c.index-models-nodes.result =
    c.index-models-nodes.is ∙ ap (λ (d : Node). slice_index_or c.models-models.result.now d.model c.index-models-nodes.result) (sym c.index-nodes-place.is) in
    first_is n l c.models-models.result.now c.deref.result.now c.nodes-nodes.result.now c.in-Some.place c.index-nodes-place.result c.in_ok-model.model c.models-models.ensures are
    (subst (KnowsParts n l) (sym c.deref.ensures.value) knows) c.in-Some.ensures.some c.index-nodes-place.is
    (subst (λ (t : List ℕ). t ≡ slice_index_or c.models-models.result.now c.index-nodes-place.result.model t) (sym c.in_ok-model.ensures) named)

pub returns-in-Some-2-clause-refused : goal.returns-in-Some-2-clause-refused
returns-in-Some-2-clause-refused c =
    let n = c.args.netlist.now in
    let l = c.args.library.now in
    let are : AreNodes c.args.netlist.now c.nodes-nodes.result.now = record { seen = c.nodes-nodes.ensures.seen; inside = c.nodes-nodes.ensures.known } in
    let knows : KnowsParts c.args.netlist.now c.args.library.now c.in_ok-parts.parts.items =
    knows_parts n l c.models-models.result.now c.cells.result.now c.in_ok-parts.parts.items c.in_ok-parts.ensures c.models-models.ensures c.cells.ensures.value in
    let names : c.in_ok-names.names.items ≡ registers_of c.args.library.now c.args.netlist.now.instances =
    c.in_ok-names.ensures ∙ names_are n l c.deref-2.result.now c.nodes-nodes.result.now are (subst (KnowsParts n l) (sym c.deref-2.ensures.value) knows) in
    let found : IsFirst (is_taken c.args.netlist.now.ports) c.in_ok-names.names.items (Some c.in-Some-2.place) =
    subst (λ (o : Option ℕ). IsFirst (is_taken c.args.netlist.now.ports) c.in_ok-names.names.items o) c.in-Some-2.is
    (subst (λ (ps : List Port). IsFirst (is_taken ps) c.in_ok-names.names.items c.in_ok-place.field-0) c.ports.ensures
    (subst (λ (ns : List Name). IsFirst (is_taken c.ports.result.now) ns c.in_ok-place.field-0) c.deref-3.ensures.value c.in_ok-place.ensures)) in (
      is_plain n l c.deref.result.now c.nodes-nodes.result.now are (subst (KnowsParts n l) (sym c.deref.ensures.value) knows) c.in_default.ensures.none,
      first_twice n l c.in_ok-names.names.items c.in-Some-2.place c.index.result.now c.in_ok-text.text names found c.index.ensures c.in_ok-text.ensures,
    )

pub returns-clause-names : goal.returns-clause-names
returns-clause-names c =
    let n = c.args.netlist.now in
    let l = c.args.library.now in
    let are : AreNodes c.args.netlist.now c.nodes-nodes.result.now = record { seen = c.nodes-nodes.ensures.seen; inside = c.nodes-nodes.ensures.known } in
    let knows : KnowsParts c.args.netlist.now c.args.library.now c.in_ok-parts.parts.items =
    knows_parts n l c.models-models.result.now c.cells.result.now c.in_ok-parts.parts.items c.in_ok-parts.ensures c.models-models.ensures c.cells.ensures.value in
    c.in_ok-names.ensures ∙ names_are n l c.deref-2.result.now c.nodes-nodes.result.now are (subst (KnowsParts n l) (sym c.deref-2.ensures.value) knows)

pub returns-clause-plain : goal.returns-clause-plain
returns-clause-plain c =
    let n = c.args.netlist.now in
    let l = c.args.library.now in
    let are : AreNodes c.args.netlist.now c.nodes-nodes.result.now = record { seen = c.nodes-nodes.ensures.seen; inside = c.nodes-nodes.ensures.known } in
    let knows : KnowsParts c.args.netlist.now c.args.library.now c.in_ok-parts.parts.items =
    knows_parts n l c.models-models.result.now c.cells.result.now c.in_ok-parts.parts.items c.in_ok-parts.ensures c.models-models.ensures c.cells.ensures.value in
    is_plain n l c.deref.result.now c.nodes-nodes.result.now are (subst (KnowsParts n l) (sym c.deref.ensures.value) knows) c.in_default.ensures.none

pub returns-clause-apart : goal.returns-clause-apart
returns-clause-apart c =
    let n = c.args.netlist.now in
    let l = c.args.library.now in
    let none : IsFirst (is_taken c.args.netlist.now.ports) c.in_ok-names.names.items None =
    subst (λ (o : Option ℕ). IsFirst (is_taken c.args.netlist.now.ports) c.in_ok-names.names.items o) c.in_default-2.is
    (subst (λ (ps : List Port). IsFirst (is_taken ps) c.in_ok-names.names.items c.in_ok-place.field-0) c.ports.ensures
    (subst (λ (ns : List Name). IsFirst (is_taken c.ports.result.now) ns c.in_ok-place.field-0) c.deref-3.ensures.value c.in_ok-place.ensures)) in
    are_apart n l c.in_ok-names.names.items (returns-clause-names c) none
