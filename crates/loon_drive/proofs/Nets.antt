-- The nets of a netlist with buffers and other drives, by those of the buffered one.
use Rattle.std.proofs.Common.{ℕ, false, sym, ◌∙◌, subst}
use Rattle.machine_core.specs.Machine.{Machine}
use Rattle.cell_model.specs.Library.{Library}
use Rattle.net_core.specs.Netlist.{Netlist}
use Rattle.net_meaning.specs.Netlist.{AbstractNetlist as Seen}
use Rattle.net_meaning.specs.Buffers.{AreOne}
use Rattle.net_right.specs.View.{netlist_by, IsSeenAs}
use Rattle.loon_fanout.specs.Nets.{HasFewInputs, FitsWithoutBuffers, HasNoBuffer, BufferedHasFewInputs, BuffersAreNeeded, BufferedJoinsNothing}
use Rattle.loon_drive.specs.Driven.{most_sinks}
use Rattle.loon_drive.specs.Laws.{AreExchanged, DrivenJoinsNothing, DrivenHasFewInputs, DrivenNeedsItsBuffers}
use Rattle.loon_drive.proofs.Views.{input_pin, clock_pin, stays, one, special, seen_before, forward, back, name_before}

module _ (l : Library) (r k : Netlist) (e : AreExchanged l r k) (x : Seen) (seen : IsSeenAs k x) where
  -- the buffered netlist, with the same classes
  abbrev before : Seen
  before = netlist_by x.class r

  abbrev after : Seen
  after = netlist_by x.class k

  before_seen : IsSeenAs r before
  before_seen = seen_before l r k e x.class (subst (λ (z : Seen). IsSeenAs k z) seen.is seen)

  few_again : (m : Machine) (limit : ℕ) → HasFewInputs before l m limit → HasFewInputs x l m limit
  few_again m limit few = subst (λ (z : Seen). HasFewInputs z l m limit) (sym seen.is) (λ class pins different each.
      few class pins different (λ t at.
      let h = each t at in
      (input_pin l x.class k r (back l r k e x.class) t h.0, h.1, λ s. h.2 (special l x.class r k (forward l r k e x.class) m t s))))

  one_again : (a b : ℕ) → AreOne x l a b → AreOne before l a b
  one_again a b h = one l x.class k r (back l r k e x.class) (subst (λ (z : Seen). AreOne z l a b) seen.is h)

  fits_before : (limit : ℕ) → FitsWithoutBuffers x l limit → FitsWithoutBuffers before l limit
  fits_before limit fits class pins net different each =
      let now : FitsWithoutBuffers after l limit = subst (λ (z : Seen). FitsWithoutBuffers z l limit) seen.is fits in
      now class pins (λ supply which h. net supply which (one l x.class k r (back l r k e x.class) h)) different (λ t at.
      let h = each t at in (
        stays l x.class r k (forward l r k e x.class) t (clock_pin l x.class k r (back l r k e x.class) t) h.0,
        one l x.class r k (forward l r k e x.class) h.1,
      ))

  none_again : HasNoBuffer before → HasNoBuffer x
  none_again none = subst (λ (z : Seen). HasNoBuffer z) (sym seen.is) (λ i j at named.
      let b = name_before l r k e x.class i at in none b.0 j b.1 (b.2 ∙ named))

pub driven_joins_nothing : BufferedJoinsNothing → DrivenJoinsNothing
driven_joins_nothing law n l fanout k delay y x passed is_n is_k cells free d seen_y seen_x t u t_in u_in h =
    law false n l (most_sinks fanout) d.buffered y (netlist_by x.class d.buffered) passed is_n d.sound cells free d.is_buffered seen_y
    (before_seen l d.buffered k d.exchanged x seen_x) t u t_in u_in (one_again l d.buffered k d.exchanged x seen_x (x.class t) (x.class u) h)

pub driven_has_few_inputs : BufferedHasFewInputs → DrivenHasFewInputs
driven_has_few_inputs law n l m fanout k delay x passed is_n is_k checked cells right d seen =
    few_again l d.buffered k d.exchanged x seen m (most_sinks fanout)
    (law false n l m (most_sinks fanout) d.buffered (netlist_by x.class d.buffered) passed is_n d.sound checked cells right d.is_buffered
    (before_seen l d.buffered k d.exchanged x seen))

pub driven_needs_its_buffers : BuffersAreNeeded → DrivenNeedsItsBuffers
driven_needs_its_buffers law n l fanout k delay x passed is_n is_k cells free d seen fits =
    none_again l d.buffered k d.exchanged x seen
    (law false n l (most_sinks fanout) d.buffered (netlist_by x.class d.buffered) passed is_n d.sound cells free d.is_buffered
    (before_seen l d.buffered k d.exchanged x seen) (fits_before l d.buffered k d.exchanged x seen (most_sinks fanout) fits))
