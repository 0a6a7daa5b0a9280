-- Netlists that differ only in the models that instances can be given.
use Rattle.std.proofs.Common.{ℕ, List, sym, subst}
use Rattle.vlsi_base.specs.declared.name.Terminal.{Terminal}
use Rattle.net_core.specs.declared.pins.ModelPin.{ModelPin}
use Rattle.net_core.specs.declared.pins.ModelPins.{ModelPins}
use Rattle.net_core.specs.Netlist.{Instance, Netlist}
use Rattle.net_core.specs.Checks.{Passes, IsRing, DependsOn, IsPinOf}
use Rattle.net_right.specs.Same.{AreSameByName}
use Rattle.vst_io.specs.Laws.{AreAlike}

-- the netlist with these models
abbrev pub with_models : Netlist → List (List ℕ) → Netlist
with_models n models = record n { models = models }

-- ---- the same by name

same_models : (n : Netlist) (models : List (List ℕ)) → AreSameByName n (with_models n models)
same_models n models = record {
  ports = λ p. (λ h. h, λ h. h);
  instances = λ name model. (
    λ h. record { instance = h.instance; listed = h.listed; named = h.named; modelled = h.modelled },
    λ h. record { instance = h.instance; listed = h.listed; named = h.named; modelled = h.modelled },
  );
  classes = λ a b. (λ h. record { class = h.class; first = h.first; second = h.second }, λ h. record { class = h.class; first = h.first; second = h.second });
}

pub alike_same : (n k : Netlist) → AreAlike n k → AreSameByName n k
alike_same n k e = subst (λ (m : Netlist). AreSameByName n m) (sym e) (same_models n k.models)

-- ---- the same faults

same_pin : (table : List ModelPins) (n : Netlist) (models : List (List ℕ)) (i : Instance) (p : ModelPin) (t : Terminal) → IsPinOf table (with_models n models) i p t → IsPinOf table n i p t
same_pin table n models i p t h = record { listed = h.listed; known = h.known; is = h.is }

same_depends : (table : List ModelPins) (n : Netlist) (models : List (List ℕ)) (a b : Terminal) → DependsOn table (with_models n models) a b → DependsOn table n a b
same_depends table n models a b d = record {
  owner = d.owner;
  output = d.output;
  is_pin = same_pin table n models d.owner d.output a d.is_pin;
  gives = d.gives;
  place = d.place;
  input = d.input;
  depends = d.depends;
  there = d.there;
  takes = d.takes;
  class = d.class;
  reads = d.reads;
  other = d.other;
  driver = d.driver;
  is_driver = same_pin table n models d.other d.driver b d.is_driver;
  drives = d.drives;
  joined = d.joined;
}

same_ring : (table : List ModelPins) (n : Netlist) (models : List (List ℕ)) (ring : List Terminal) → IsRing table (with_models n models) ring → IsRing table n ring
same_ring table n models ring r = record {
  some = r.some;
  once = r.once;
  next = λ i a b s t. same_depends table n models a b (r.next i a b s t);
  close = λ a b s t. same_depends table n models a b (r.close a b s t);
}

-- a netlist that passes the checks does so with other models
pub same_passes : (table : List ModelPins) (n : Netlist) (models : List (List ℕ)) → Passes table n → Passes table (with_models n models)
same_passes table n models p = record { classes = p.classes; rings = λ ring r. p.rings ring (same_ring table n models ring r) }
