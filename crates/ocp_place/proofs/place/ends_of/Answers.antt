use Rattle.std.proofs.Common.{All, sym, subst, ◌∙◌}
use Rattle.std.proofs.lemmas.List.Elements.{All-append}
use Rattle.ocp_place.specs.Rows.{IsNearSite}
use Rattle.ocp_place.proofs.RowSounds.{near_groups}
use Rattle.ocp_place.proofs.place.ends_of.Goals as goal

pub returns-clause-near : goal.returns-clause-near
returns-clause-near c =
    near_groups c.deref.result.now c.in_ok-ends.ends.items c.in_ok-ends.ensures.ends
    (subst (λ ss. All IsNearSite ss) (sym (c.deref.ensures.value ∙ c.in_ok-extend_from_slice.ensures.items))
    (All-append IsNearSite c.args.ports.items c.args.pins.now c.requires.tops c.requires.near))
