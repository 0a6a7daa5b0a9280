use Rattle.std.proofs.Common.{refl, sym, ◌∙◌, ap, subst}
use Rattle.boog_map.specs.Netlist.{IsMapRefusal}
use Rattle.boog_map.specs.declared.error.MapError.{MapError}
use Rattle.boog_map.specs.declared.error.MapError.TheVariants as error
use Rattle.boog_run.specs.Boog.{no_cover}
use Rattle.boog_run.proofs.Sizes.{numberable, netlist_for}
use Rattle.boog_run.proofs.netlist.netlist_of.Goals as goal

pub of_machine-requires : goal.of_machine-requires
of_machine-requires c = numberable c.args.machine.now c.requires c.in_ok-check_size.ensures.small

pub returns-in-Ok-map-clause-right : goal.returns-in-Ok-map-clause-right
returns-in-Ok-map-clause-right c =
    let m = c.in-Ok-map.ensures in
    let condition =
    c.right_meets_condition.ensures c.in-Ok-map.netlist c.args.library.now c.args.machine.now m.sound c.name.ensures.checked c.cells.ensures.checked m.right m.pins in
    netlist_for c.args.library.now c.args.machine.now c.in-Ok-map.netlist c.in-Ok.graph c.in-Ok.ensures m.covered condition
    (record {
      right = m.right;
      pins = m.pins;
      order = m.order;
      most = m.most;
      few = m.few;
      lean = m.lean;
      tight = m.tight;
      sound = m.sound;
    })

pub returns-clause-refused : goal.returns-clause-refused
returns-clause-refused c =
    let missing =
    subst (λ (e : MapError). IsMapRefusal c.args.library.now c.args.machine.now e) (c.in-Err-NoCover.field-0-is ∙ ap error.NoCover (sym c.in-Err-NoCover.kind-is)) c.in-Err-NoCover.ensures.refused in
    no_cover c.in_ok-check_size.ensures.small c.in-Err-NoCover.kind missing refl
