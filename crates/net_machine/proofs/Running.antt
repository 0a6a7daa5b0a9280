-- A netlist that has a machine runs once.
use Rattle.std.proofs.Common.{◌≡◌, Bool, List, [], ◌∷◌, map, length, refl, sym, ap, ◌∙◌, subst}
use Rattle.std.specs.List.{AllByRecursion}
use Rattle.std.proofs.lemmas.List.Elements.{recursion_from_All}
use Rattle.machine_core.specs.Machine.{Machine, inputs}
use Rattle.machine_core.specs.Cycles.{Settles, next, AreVectors}
use Rattle.machine_core.specs.Runs.{Trace}
use Rattle.machine_core.specs.Order.{IsOrdered, SettlesOnce}
use Rattle.cell_model.specs.Library.{Library}
use Rattle.net_meaning.specs.Netlist.{AbstractNetlist}
use Rattle.net_meaning.specs.Behaviour.{Contents, Valuation, NetSettles, net_next, NetTrace}
use Rattle.net_machine.specs.Step.{FitsContents, KeepsStep, MachineRunsNetlist}

abbrev Traces : AbstractNetlist → Library → Machine → Contents → List (List Bool) → List Valuation → Type 0
Traces k l m t v ws = Trace (NetSettles k l (inputs m) m.clock) (net_next k l) t v ws

abbrev AreLong : Machine → List (List Bool) → Type 0
AreLong m v = AllByRecursion (λ i. length i ≡ length (inputs m)) v

-- from contents that fit there is a list of valuations
runs : SettlesOnce → (k : AbstractNetlist) (l : Library) (m : Machine) → IsOrdered m → (step : KeepsStep k l m) (v : List (List Bool)) (t : Contents) → FitsContents k l t → AreLong m v
    → (ws : List Valuation) × Traces k l m t v ws
runs law k l m ordered step [] t fits long = ([], refl)
runs law k l m ordered step (i ∷ v) t fits long =
    let x = law m (step.held t) i ordered (step.each t) long.0 in
    let b = step.back t i x.0 fits x.1 in
    let r = runs law k l m ordered step v (net_next k l b.0) (step.stays b.0) long.1 in
    (b.0 ∷ r.0, (b.0, b.1.net, (r.0, refl, r.1)))

-- from contents that the machine holds as the same, any two give each class the same bits
once : SettlesOnce → (k : AbstractNetlist) (l : Library) (m : Machine) → IsOrdered m → (step : KeepsStep k l m) (v : List (List Bool)) (t u : Contents) → step.held t ≡ step.held u → AreLong m v
    → (ws xs : List Valuation) → Traces k l m t v ws → Traces k l m u v xs → map (λ (w : Valuation). w.classes) ws ≡ map (λ (w : Valuation). w.classes) xs
once law k l m ordered step [] t u same long ws xs g h = ap (map (λ (w : Valuation). w.classes)) (g ∙ sym h)
once law k l m ordered step (i ∷ v) t u same long ws xs g h =
    let bits : List Valuation → List (List Bool) = map (λ (w : Valuation). w.classes) in
    let a = step.forth t i g.0 g.1 in
    let b = step.forth u i h.0 h.1 in
    let one = law m (step.held u) i ordered (step.each u) long.0 in
    let x : a.0 ≡ b.0 = one.2 a.0 (subst (λ (s : List Bool). Settles m s i a.0) same a.1.machine) ∙ sym (one.2 b.0 b.1.machine) in
    let classes : g.0.classes ≡ h.0.classes = a.1.classes ∙ ap step.bits x ∙ sym b.1.classes in
    let held : step.held (net_next k l g.0) ≡ step.held (net_next k l h.0) = sym a.1.loads ∙ ap (next m) x ∙ b.1.loads in
    let rest = once law k l m ordered step v (net_next k l g.0) (net_next k l h.0) held long.1 g.2.0 h.2.0 g.2.2 h.2.2 in
    ap bits g.2.1 ∙ ap (λ (c : List Bool). c ∷ bits g.2.0) classes ∙ ap (λ (cs : List (List Bool)). h.0.classes ∷ cs) rest ∙ sym (ap bits h.2.1)

pub runs_netlist : SettlesOnce → MachineRunsNetlist
runs_netlist law n l table m k t v is ordered seen fits vectors = go v vectors where
  step : KeepsStep k l m
  step = is.step k seen

  go : (v : List (List Bool)) → AreVectors m v → (ys : List (List Bool)) × NetTrace k l m t v ys × ((others : List (List Bool)) → NetTrace k l m t v others → others ≡ ys)
  go v vectors =
      let long = recursion_from_All (λ (i : List Bool). length i ≡ length (inputs m)) v vectors in
      let r = runs law k l m ordered step v t fits long in (
        map (λ (w : Valuation). w.classes) r.0,
        (r.0, r.1, refl),
        λ others h. h.2 ∙ once law k l m ordered step v t t refl long h.0 r.0 h.1 r.1,
      )
