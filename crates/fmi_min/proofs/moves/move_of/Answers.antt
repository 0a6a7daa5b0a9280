use Rattle.std.proofs.Common.{ℕ, Bool, List, refl, ap, ◌∙◌, subst}
use Rattle.net_core.specs.Places.{Stands}
use Rattle.net_core.proofs.Growing.{learned_grows}
use Rattle.fmi_min.specs.Moves.{digits}
use Rattle.fmi_min.proofs.moves.move_of.Goals as goal

pub returns-clause-grown : goal.returns-clause-grown
returns-clause-grown c = learned_grows c.args.met.now c.learn.new.self c.in_ok-text.text c.in_ok-outs.ensures.learned

pub returns-clause-made : goal.returns-clause-made
returns-clause-made c = record {
  outs = subst (λ (t : List ℕ). Stands c.learn.new.self c.in_ok-outs.outs t) (c.in_ok-text.ensures ∙ ap (λ (bits : List Bool). digits bits) c.as_slice.ensures)
      c.in_ok-outs.ensures.place;
  next = refl;
}
