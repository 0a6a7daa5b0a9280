-- The arcs of instances are the steps of a netlist.
use Rattle.std.proofs.Common.{◌≡◌, ℕ, Bool, true, false, refl, subst}
use Rattle.std.specs.Bool.{MatchBool}
use Rattle.vlsi_base.specs.declared.name.Name.{Name}
use Rattle.cell_model.specs.Cell.{Function}
use Rattle.cell_model.specs.Library.{Library}
use Rattle.cell_checks.specs.Arcs.{BeginsThere, GoesThrough}
use Rattle.net_core.specs.Netlist.{Netlist, IsNetlist}
use Rattle.delay_sta.specs.declared.graph.TimedArc.{TimedArc}
use Rattle.delay_sta.specs.Loads.{load}
use Rattle.delay_sta.specs.Paths.{Step, IsStep}
use Rattle.delay_sta.specs.Graph.{step_of, IsOwned}
use Rattle.delay_sta.proofs.Differing.{parts_of, timed_of}
use Rattle.delay_sta.proofs.Placing.{pin_of_class}

-- paths begin with it, or go on
abbrev pub Allowed : Bool → Function → Name → Type 0
Allowed true = BeginsThere
Allowed false = GoesThrough

way_from : (b : Bool) (f : Function) (pin : Name) → Allowed b f pin → MatchBool b (BeginsThere f pin) (GoesThrough f pin)
way_from true f pin h = h
way_from false f pin h = h

way_to : (b : Bool) (f : Function) (pin : Name) → MatchBool b (BeginsThere f pin) (GoesThrough f pin) → Allowed b f pin
way_to true f pin h = h
way_to false f pin h = h

-- the arc that is a step
pub record Owning (n : Netlist) (l : Library) (b : Bool) (s : Step) : Type 0 where
  pub arc : TimedArc
  pub is : IsOwned n l arc
  pub way : arc.begins ≡ b
  pub step : step_of arc ≡ s

arc_for : Bool → Step → ℕ → ℕ → ℕ → TimedArc
arc_for b s owner input output = record { from = s.from; to = s.to; delay = s.delay; begins = b; owner = owner; input = input; output = output }

pub owned_of : (n : Netlist) (l : Library) → IsNetlist n → (b : Bool) (s : Step) → IsStep n l (Allowed b) s → Owning n l b s
unfolding arc_for
owned_of n l sound b s h =
    let i = pin_of_class n sound h.listed.0 h.owner h.listed.1 h.arc.from s.from h.is.from in
    let o = pin_of_class n sound h.listed.0 h.owner h.listed.1 h.arc.to s.to h.is.to in
    record {
      arc = arc_for b s h.listed.0 i.0 o.0;
      is = record {
        owner = h.owner;
        stands = h.listed.1;
        cell = h.cell;
        found = h.found;
        arc = h.arc;
        has = h.has;
        input = i.1;
        output = o.1;
        is = timed_of n (load n l) h.owner.name h.cell h.arc (arc_for b s h.listed.0 i.0 o.0) (record {
          way = way_from b h.cell.function h.arc.from h.is.allowed;
          takes = h.is.takes;
          gives = h.is.gives;
          from = h.is.from;
          to = h.is.to;
          delay = h.is.delay;
        });
      };
      way = refl;
      step = refl;
    }

pub step_is : (n : Netlist) (l : Library) (x : TimedArc) (b : Bool) → x.begins ≡ b → IsOwned n l x → IsStep n l (Allowed b) (step_of x)
step_is n l x b e h =
    let p = parts_of n (load n l) h.owner.name h.cell h.arc x h.is in
    record {
      owner = h.owner;
      listed = (x.owner, h.stands);
      cell = h.cell;
      found = h.found;
      arc = h.arc;
      has = h.has;
      is = record {
        allowed = way_to b h.cell.function h.arc.from (subst (λ w. MatchBool w (BeginsThere h.cell.function h.arc.from) (GoesThrough h.cell.function h.arc.from)) e p.way);
        takes = p.takes;
        gives = p.gives;
        from = p.from;
        to = p.to;
        delay = p.delay;
      };
    }
