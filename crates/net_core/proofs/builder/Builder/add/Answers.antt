use Rattle.std.proofs.Common.{◌∙◌, ap}
use Rattle.net_core.specs.Netlist.{Instance}
use Rattle.net_core.specs.Frame.{AddsInstance}
use Rattle.net_core.specs.Joins.{Draft, with_instance}
use Rattle.net_core.proofs.Finishing.{draft_grows, on_ok, within_after, used_after}
use Rattle.net_core.proofs.builder.Builder.add.Goals as goal

pub returns-clause-added : goal.returns-clause-added
returns-clause-added c =
    let i : Instance = record { name = c.args.name.now; model = c.args.model.now; pins = c.args.pins.now } in
    on_ok c.add.result (λ (adds : AddsInstance c.self.inside.frame c.add.new.self i).
    draft_grows c.self.inside.name c.self.inside.frame c.add.new.self c.self.inside.joins.items i adds c.self.invariant.0 ∙ ap (λ (d : Draft). with_instance d i) c.self.view_is) c.add.ensures.added

pub invariant_of-self : goal.invariant_of-self
invariant_of-self c =
    let i : Instance = record { name = c.args.name.now; model = c.args.model.now; pins = c.args.pins.now } in (
      within_after c.add.result c.self.inside.frame c.add.new.self c.self.inside.joins.items i c.self.invariant.0 c.add.ensures.added c.add.ensures.kept,
      used_after c.add.result c.self.inside.frame c.add.new.self i c.self.invariant.1 c.add.ensures.added c.add.ensures.kept,
    )
