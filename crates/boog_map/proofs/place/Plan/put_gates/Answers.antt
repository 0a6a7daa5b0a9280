use Rattle.std.proofs.Common.{◌≡◌, ◌∙◌, ◌++◌, ◌∷◌, [], ℕ, ap, length, arith}
use Rattle.vlsi_base.specs.declared.name.Terminal.{Terminal}
use Rattle.vlsi_base.specs.Names.{vss}
use Rattle.net_core.specs.Netlist.{port}
use Rattle.boog_map.specs.declared.place.Plan.{Plan}
use Rattle.boog_map.specs.declared.place.Spot.{Spot}
use Rattle.boog_map.specs.Draft.{gate_spot, output_terminal}
use Rattle.boog_map.proofs.Placing.{NodesAt, node_some, node_none}
use Rattle.boog_map.proofs.place.Plan.put_gates.Goals as goal
use Rattle.boog_map.proofs.place.Plan.put_gates.Goals.{in-Some+in_ok-spot-in-Some+in_ok-put-in-Some, in-None+in_ok-scalar_port-in-None+in_ok-push-in-None}

pub overflow_cast-len : goal.overflow_cast-len
overflow_cast-len c =
    let number : c.len.result ≡ length c.loop-gate.self.drivers.items = c.len.ensures ∙ c.loop-gate.self.drivers.ok.0 in
    let so_far = c.loop-gate.invariant.number in
    let low = c.loop-gate-test.true in
    let few = c.requires in
    omega (arith, number, so_far, low, few)

pub loop-gate-preserved : goal.loop-gate-preserved
loop-gate-preserved c =
    let i = c.loop-gate.gate-index in
    let gs = c.args.gates.now in
    let low = c.loop-gate-test.true in
    let o = c.gate-item.result in
    let is = c.gate-item.is in
    let old = c.loop-gate.invariant in
    let ps = c.args.parts.now in
    let s0 = c.args.self.now.spots.items in
    let d0 = c.args.self.now.drivers.items in
    let s = c.loop-gate.self.spots.items in
    let d = c.loop-gate.self.drivers.items in
    let count = c.loop-gate.count in
    let so_far : NodesAt ps gs s0 d0 i count s d = record { spots = old.spots; drivers = old.drivers; number = old.number; few = old.few } in
    let s1 = c.match-gate.self.spots.items in
    let d1 = c.match-gate.self.drivers.items in
    let more = c.match-gate.count in
    elim c.match-gate.branch [
      | in-Some+in_ok-spot-in-Some+in_ok-put-in-Some w ↦
          let x = w.in-Some.gate in
          let number : w.len.result ≡ length d = w.len.ensures ∙ c.loop-gate.self.drivers.ok.0 in
          let spot : w.in_ok-spot-in-Some.spot ≡ gate_spot count (length d) x = w.in_ok-spot-in-Some.ensures ∙ ap (λ (n : ℕ). gate_spot count n x) number in
          let put : s1 ≡ s ++ gate_spot count (length d) x ∷ [] =
          ap (λ (p : Plan). p.spots.items) w.self-is ∙ w.in_ok-put-in-Some.ensures.spots ∙ ap (λ (y : Spot). s ++ y ∷ []) spot in
          let driven : d1 ≡ d ++ output_terminal ps (gate_spot count (length d) x) ∷ [] =
          ap (λ (p : Plan). p.drivers.items) w.self-is ∙ w.in_ok-put-in-Some.ensures.drivers ∙ ap (λ (y : Spot). d ++ output_terminal ps y ∷ []) spot in
          let r = node_some ps gs s0 d0 i count s d so_far o low is s1 d1 more x w.in-Some.is put driven w.count-is in
          record { spots = r.spots; drivers = r.drivers; number = r.number; few = r.few }
      | in-None+in_ok-scalar_port-in-None+in_ok-push-in-None w ↦
          let put : s1 ≡ s = ap (λ (p : Plan). p.spots.items) w.self-is in
          let driven : d1 ≡ d ++ port vss ∷ [] =
          ap (λ (p : Plan). p.drivers.items) w.self-is ∙ w.in_ok-push-in-None.ensures.items ∙ ap (λ (t : Terminal). d ++ t ∷ []) w.in_ok-scalar_port-in-None.ensures in
          let r = node_none ps gs s0 d0 i count s d so_far o low is s1 d1 more w.in-None.is put driven w.count-is in
          record { spots = r.spots; drivers = r.drivers; number = r.number; few = r.few }
    ]
