use Rattle.std.proofs.Common.{◌≡◌, ◌∙◌, true, false, sym}
use Rattle.lvx_compare.proofs.Instances.{place_below, instance_by, no_instance}
use Rattle.lvx_compare.proofs.faults.has_instance.Goals as goal

pub returns-in_default : goal.returns-in_default
returns-in_default c = (
  λ t. let no : false ≡ true = t in absurd cc,
  λ h. absurd (no_instance c.args.netlist.now c.args.names.now c.args.name.now c.args.model.now c.requires (sym c.place.ensures ∙ c.in_default.is) h),
)

pub has_model-requires : goal.has_model-requires
has_model-requires c = place_below c.args.netlist.now c.args.names.now c.args.name.now c.in-Some.place c.requires (sym c.place.ensures ∙ c.in-Some.is)

pub returns : goal.returns
returns c =
    instance_by c.args.netlist.now c.args.names.now c.args.name.now c.args.model.now c.in-Some.place c.has_model.result c.classes.ensures.sound c.requires (sym c.place.ensures ∙ c.in-Some.is)
    c.has_model.ensures
