use Rattle.std.proofs.Common.{map, refl, ap, ◌∙◌, true, arith}
use Rattle.machine_core.specs.View.{equation_view}
use Rattle.machine_roots.specs.Roots.{lists_of}
use Rattle.machine_roots.specs.Listing.{root_view}
use Rattle.boom_opt.proofs.Adding.{on_ok, rebuilt_still, rebuilt_large, rebuilt_found}
use Rattle.boom_opt.proofs.optimising.Rebuilt.add.Goals as goal

pub returns-then-self : goal.returns-then-self
returns-then-self c = λ before next h.
    rebuilt_still c.args.m.now before (root_view c.args.root) c.args.self.now (record { muxes = c.args.self.now.muxes; plan = c.args.self.now.plan; is_large = c.args.self.now.is_large; nodes = c.greater-self.result; diagram_nodes = c.args.self.now.diagram_nodes })
    c.nodes.result h (c.nodes.ensures.count (lists_of c.args.m.now (root_view c.args.root).expr) c.requires.diagram.1.holds) c.greater-self.ensures refl c.if-self.true refl refl

pub returns-in-Ok : goal.returns-in-Ok
returns-in-Ok c =
    on_ok c.note.result c.note.ensures (λ noted before next h.
    rebuilt_found c.args.m.now before c.args.root c.args.self.now (record { muxes = c.literal_of.new.muxes; plan = c.note.new.self; is_large = c.args.self.now.is_large; nodes = c.greater-self.result; diagram_nodes = c.saturating_add-self.result })
    c.nodes.result c.requires.diagram.0 c.args.diagram.now c.new-known.result.entries c.literal_of.new.known.entries c.in-Ok.literal _ _ c.new-known.ensures.empty h next c.requires.root c.equations.ensures.checked.ordered.below
    (c.nodes.ensures.count (lists_of c.args.m.now (root_view c.args.root).expr) c.requires.diagram.1.holds) c.greater-self.ensures c.nodes.ensures.whole c.requires.diagram.1 c.in-Ok.ensures c.if-self.false refl refl
    (ap (map equation_view) c.as_slice-equations.ensures ∙ c.equations.ensures.value) noted
    (let e = c.saturating_add-self.ensures in let l = c.len-found.ensures in omega (arith, e, l)))

pub returns-in-Err-Large : goal.returns-in-Err-Large
returns-in-Err-Large c = λ before next h.
    rebuilt_large c.args.m.now before (root_view c.args.root) c.args.self.now (record { muxes = c.literal_of.new.muxes; plan = c.args.self.now.plan; is_large = true; nodes = c.greater-self.result; diagram_nodes = c.args.self.now.diagram_nodes })
    c.nodes.result c.requires.diagram.0 c.args.diagram.now c.new-known.result.entries c.literal_of.new.known.entries c.new-known.ensures.empty h
    (c.nodes.ensures.count (lists_of c.args.m.now (root_view c.args.root).expr) c.requires.diagram.1.holds) c.greater-self.ensures c.nodes.ensures.whole c.requires.diagram.1 (rw c.in-Err-Large.field-0-is at c.in-Err-Large.ensures) refl refl
