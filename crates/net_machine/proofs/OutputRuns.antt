-- From the runs of a netlist to those of its machine.
use Rattle.std.proofs.Common.{◌≡◌, Bool, List, [], ◌∷◌, map, refl, sym, ap, ◌∙◌, subst}
use Rattle.vlsi_base.specs.declared.name.Name.{Name}
use Rattle.machine_core.specs.Named.{value_at}
use Rattle.machine_core.specs.Machine.{Machine, inputs, outputs}
use Rattle.machine_core.specs.Cycles.{Settles, outs, next, RunOf}
use Rattle.machine_core.specs.Runs.{Trace}
use Rattle.cell_model.specs.Library.{Library}
use Rattle.net_meaning.specs.Netlist.{AbstractNetlist, port}
use Rattle.net_meaning.specs.Behaviour.{Contents, Valuation, bit_of, NetSettles, net_next, net_outs}
use Rattle.net_theory.proofs.Basics.{In-names}
use Rattle.vlsi_model.proofs.Building.{map_same}
use Rattle.net_machine.specs.Step.{ShowAlike, KeepsStep}
use Rattle.net_machine.specs.Runs.{RunsAsItsMachine}

-- the output ports show what the machine's outputs have
same_outs : (k : AbstractNetlist) (m : Machine) (w : Valuation) (x : List Bool) → ShowAlike k m w x → net_outs k (outputs m) w.classes ≡ outs m x
same_outs k m w x alike =
    map_same (λ (name : Name). bit_of k w.classes (port name)) (value_at m.vars x) (outputs m) (λ name i. alike name (In-names _ m.ports name i))

runs : (k : AbstractNetlist) (l : Library) (m : Machine) (step : KeepsStep k l m) (v : List (List Bool)) (t : Contents) (ws : List Valuation)
    → Trace (NetSettles k l (inputs m) m.clock) (net_next k l) t v ws
    → RunOf m (step.held t) v (map (net_outs k (outputs m)) (map (λ (w : Valuation). w.classes) ws))
runs k l m step [] t ws h = ([], refl, ap (λ (us : List Valuation). map (net_outs k (outputs m)) (map (λ (w : Valuation). w.classes) us)) h)
runs k l m step (i ∷ v) t ws h =
    let outputs_of : List Valuation → List (List Bool) = λ us. map (net_outs k (outputs m)) (map (λ (w : Valuation). w.classes) us) in
    let a = step.forth t i h.0 h.1 in
    let r = runs k l m step v (net_next k l h.0) h.2.0 h.2.2 in (
      a.0 ∷ r.0,
      (a.0, a.1.machine, (r.0, refl, subst (λ (s : List Bool). Trace (Settles m) (next m) s v r.0) (sym a.1.loads) r.1)),
      ap outputs_of h.2.1
          ∙ ap (λ (o : List Bool). o ∷ outputs_of h.2.0) (same_outs k m h.0 a.0 a.1.ports)
          ∙ ap (λ (os : List (List Bool)). outs m a.0 ∷ os) r.2,
    )

pub runs_as : RunsAsItsMachine
runs_as n l table m k is seen t v ws h =
    let step : KeepsStep k l m = is.step k seen in
    let r = runs k l m step v t h.0 h.1 in
    (r.0, r.1, ap (map (net_outs k (outputs m))) h.2 ∙ r.2)
