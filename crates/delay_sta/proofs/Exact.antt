-- What is found of an arc of a cell is exactly the step that it is.
use Rattle.std.proofs.Common.{◌≡◌, ℕ, Bool, true, false, List, Some, None, refl, sym, ap, ◌∙◌, subst}
use Rattle.std.specs.Bool.{MatchBool}
use Rattle.vlsi_base.specs.declared.name.Name.{Name}
use Rattle.vlsi_base.specs.declared.name.Dir.TheVariants as dir
use Rattle.cell_model.specs.declared.cell.Arc.{Arc}
use Rattle.cell_model.specs.Cell.{Function, gate, flip_flop, other, opaque, Cell}
use Rattle.cell_checks.specs.Arcs.{HasPin, BeginsThere, GoesThrough}
use Rattle.net_core.specs.Places.{Stands, IsThere}
use Rattle.net_core.specs.Netlist.{Instance, Netlist, IsNetlist, pin_of, HasClass}
use Rattle.net_core.proofs.Finishing.{class_once}
use Rattle.net_core.proofs.Standing.{stands_same}
use Rattle.delay_sta.specs.declared.graph.TimedArc.{TimedArc}
use Rattle.delay_sta.specs.Arcs.{arc_delay}
use Rattle.delay_sta.specs.Paths.{Step, IsStepAt}
use Rattle.delay_sta.specs.Graph.{step_of, IsTimedAt, IsTimedOf, IsFoundAs}
use Rattle.delay_sta.proofs.Placing.{pins_once}

exclusive : (f : Function) (pin : Name) → BeginsThere f pin → GoesThrough f pin → ⊥
exclusive (gate e) pin a b = a
exclusive (flip_flop d c) pin a b = b
exclusive (other m) pin a b = a
exclusive opaque pin a b = a

none_found : (n : Netlist) (loads : ℕ → ℕ) (number : ℕ) (c : Cell) (a : Arc) → ((owner : List ℕ) (s : Step) → IsStepAt n loads BeginsThere owner c a s → ⊥) → ((owner : List ℕ) (s : Step) → IsStepAt n loads GoesThrough owner c a s → ⊥)
    → IsFoundAs n loads number c a None
none_found n loads number c a one two x = ((λ e. absurd cc), (λ h. absurd (by h.owner.name x.begins h.is))) where
  by : (owner : List ℕ) (b : Bool) → MatchBool b (IsStepAt n loads BeginsThere owner c a (step_of x)) (IsStepAt n loads GoesThrough owner c a (step_of x)) → ⊥
  by owner true h = one owner (step_of x) h
  by owner false h = two owner (step_of x) h

pub no_way : (n : Netlist) (loads : ℕ → ℕ) (number : ℕ) (c : Cell) (a : Arc) → (BeginsThere c.function a.from → ⊥) × (GoesThrough c.function a.from → ⊥) → IsFoundAs n loads number c a None
no_way n loads number c a h = none_found n loads number c a (λ o s g. h.0 g.allowed) (λ o s g. h.1 g.allowed)

pub no_input : (n : Netlist) (loads : ℕ → ℕ) (number : ℕ) (c : Cell) (a : Arc) → (HasPin c.pins dir.In a.from → ⊥) → IsFoundAs n loads number c a None
no_input n loads number c a h = none_found n loads number c a (λ o s g. h g.takes) (λ o s g. h g.takes)

pub no_output : (n : Netlist) (loads : ℕ → ℕ) (number : ℕ) (c : Cell) (a : Arc) → (HasPin c.pins dir.Out a.to → ⊥) → IsFoundAs n loads number c a None
no_output n loads number c a h = none_found n loads number c a (λ o s g. h g.gives) (λ o s g. h g.gives)

pub no_from : (n : Netlist) (loads : ℕ → ℕ) (number : ℕ) (i : Instance) (c : Cell) (a : Arc) → Stands n.instances number i → (IsThere i.pins a.from → ⊥) → IsFoundAs n loads number c a None
no_from n loads number i c a s lacks x = (
  (λ e. absurd cc),
  (λ h.
      let same : h.owner ≡ i = stands_same n.instances number h.owner i h.stands s in
      absurd (lacks (x.input, subst (λ (o : Instance). Stands o.pins x.input a.from) same h.input))),
)

pub no_to : (n : Netlist) (loads : ℕ → ℕ) (number : ℕ) (i : Instance) (c : Cell) (a : Arc) → Stands n.instances number i → (IsThere i.pins a.to → ⊥) → IsFoundAs n loads number c a None
no_to n loads number i c a s lacks x = (
  (λ e. absurd cc),
  (λ h.
      let same : h.owner ≡ i = stands_same n.instances number h.owner i h.stands s in
      absurd (lacks (x.output, subst (λ (o : Instance). Stands o.pins x.output a.to) same h.output))),
)

abbrev timed : ℕ → ℕ → ℕ → Bool → ℕ → ℕ → ℕ → TimedArc
timed from to delay begins owner input output =
    record { from = from; to = to; delay = delay; begins = begins; owner = owner; input = input; output = output }

-- where a step has these classes and this delay
module _ (n : Netlist) (sound : IsNetlist n) (loads : ℕ → ℕ) (number : ℕ) (i : Instance) (c : Cell) (a : Arc) (begins : Bool) (from to delay input output : ℕ)
    (at : Stands n.instances number i) (in_at : Stands i.pins input a.from) (out_at : Stands i.pins output a.to)
    (way : MatchBool begins (BeginsThere c.function a.from) (GoesThrough c.function a.from)) (takes : HasPin c.pins dir.In a.from) (gives : HasPin c.pins dir.Out a.to)
    (at_from : HasClass n (pin_of i.name a.from) from) (at_to : HasClass n (pin_of i.name a.to) to) (delay_is : delay ≡ arc_delay a (loads to)) where
  abbrev found : TimedArc
  found = timed from to delay begins number input output

  here : IsTimedAt n loads i.name c a found
  here = by begins way where
    by : (b : Bool) → MatchBool b (BeginsThere c.function a.from) (GoesThrough c.function a.from)
        → MatchBool b (IsStepAt n loads BeginsThere i.name c a (step_of found)) (IsStepAt n loads GoesThrough i.name c a (step_of found))
    by true h = record { allowed = h; takes = takes; gives = gives; from = at_from; to = at_to; delay = delay_is }
    by false h = record { allowed = h; takes = takes; gives = gives; from = at_from; to = at_to; delay = delay_is }

  parts : (x : TimedArc) → begins ≡ x.begins → from ≡ x.from → to ≡ x.to → delay ≡ x.delay → number ≡ x.owner → input ≡ x.input → output ≡ x.output → found ≡ x
  parts x b f t d o p q =
      ap (λ m. timed m to delay begins number input output) f ∙ ap (λ m. timed x.from m delay begins number input output) t
      ∙ ap (λ m. timed x.from x.to m begins number input output) d ∙ ap (λ m. timed x.from x.to x.delay m number input output) b
      ∙ ap (λ m. timed x.from x.to x.delay x.begins m input output) o ∙ ap (λ m. timed x.from x.to x.delay x.begins x.owner m output) p
      ∙ ap (λ m. timed x.from x.to x.delay x.begins x.owner x.input m) q

  same_delay : (x : TimedArc) → to ≡ x.to → x.delay ≡ arc_delay a (loads x.to) → delay ≡ x.delay
  same_delay x t e = delay_is ∙ ap (λ m. arc_delay a (loads m)) t ∙ sym e

  only : (x : TimedArc) → IsTimedOf n loads number c a x → found ≡ x
  only x g = by x.begins begins refl refl (subst (λ (o : Instance). IsTimedAt n loads o.name c a x) same g.is) way where
    same : g.owner ≡ i
    same = stands_same n.instances number g.owner i g.stands at

    in_place : input ≡ x.input
    in_place = pins_once n sound number i at input x.input a.from in_at (subst (λ (o : Instance). Stands o.pins x.input a.from) same g.input)

    out_place : output ≡ x.output
    out_place = pins_once n sound number i at output x.output a.to out_at (subst (λ (o : Instance). Stands o.pins x.output a.to) same g.output)

    step : (Allows : Function → Name → Type 0) → begins ≡ x.begins → IsStepAt n loads Allows i.name c a (step_of x) → found ≡ x
    step Allows b h =
        let t : to ≡ x.to = class_once n sound (pin_of i.name a.to) to x.to at_to h.to in
        parts x b (class_once n sound (pin_of i.name a.from) from x.from at_from h.from) t (same_delay x t h.delay) (sym g.numbered) in_place out_place

    by : (b d : Bool) → x.begins ≡ b → begins ≡ d → MatchBool b (IsStepAt n loads BeginsThere i.name c a (step_of x)) (IsStepAt n loads GoesThrough i.name c a (step_of x))
        → MatchBool d (BeginsThere c.function a.from) (GoesThrough c.function a.from) → found ≡ x
    by true true e f h w = step BeginsThere (f ∙ sym e) h
    by false false e f h w = step GoesThrough (f ∙ sym e) h
    by true false e f h w = absurd (exclusive c.function a.from h.allowed w)
    by false true e f h w = absurd (exclusive c.function a.from w h.allowed)

  itself : IsTimedOf n loads number c a found
  itself = record { numbered = refl; owner = i; stands = at; input = in_at; output = out_at; is = here }

  pub exactly : IsFoundAs n loads number c a (Some (timed from to delay begins number input output))
  exactly x = ((λ e. let same : found ≡ x = cc in subst (λ (y : TimedArc). IsTimedOf n loads number c a y) same itself), (λ h. ap Some (only x h)))
