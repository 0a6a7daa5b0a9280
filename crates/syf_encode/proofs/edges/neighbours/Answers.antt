use Rattle.std.proofs.Common.{◌≡◌, ◌==◌, ◌&&◌, ◌++◌, ℕ, [], not, map, length, filter, ap, sym, ◌∙◌, arith}
use Rattle.std.specs.Global.{Vec}
use Rattle.fsm_machine.specs.MachineOf.{up}
use Rattle.syf_encode.specs.Pieces.{edge}
use Rattle.syf_encode.proofs.Upward.{picked, passed}
use Rattle.syf_encode.proofs.Neighbours.{edge_there, edge_away, edge_itself}
use Rattle.syf_encode.proofs.edges.neighbours.Goals.{then-target-state+then-has_edge+in_ok-push, else-target-state, else-target-state-via-then-target-state+else-has_edge, else-target-state-via-else-target-state, then-source-state+then-has_edge-2+in_ok-push-2, else-source-state, else-source-state-via-then-source-state+else-has_edge-2, else-source-state-via-else-source-state}
use Rattle.syf_encode.proofs.edges.neighbours.Goals as goal

pub loop-target-preserved : goal.loop-target-preserved
loop-target-preserved c =
    let table = map (λ v. v.items) c.args.leads.now in
    let s = c.args.state in
    let t = c.loop-target.target in
    elim c.if-target-state.branch [
      | then-target-state+then-has_edge+in_ok-push w ↦
          ap (λ (v : Vec ℕ). v.items) w.near-is ∙ w.in_ok-push.ensures.items
          ∙ picked (λ t. edge table s t && not (s == t)) [] c.loop-target.near.items t c.loop-target.invariant
          (edge_there (edge table s t) s t (sym w.has_edge.ensures ∙ w.if-has_edge.true) (λ e. w.if-target-state.true (sym e)))
      | else-target-state w ↦
          ap (λ (v : Vec ℕ). v.items) w.near-is
          ∙ passed (λ t. edge table s t && not (s == t)) [] c.loop-target.near.items t c.loop-target.invariant
          (elim w.else-target-state.branch [
            | else-target-state-via-then-target-state+else-has_edge w' ↦ edge_away (edge table s t) s t (sym w'.has_edge.ensures ∙ w'.if-has_edge.false)
            | else-target-state-via-else-target-state w' ↦ edge_itself (edge table s t) s t (sym w'.if-target-state.false)
          ])
    ]

pub loop-source-preserved : goal.loop-source-preserved
loop-source-preserved c =
    let table = map (λ v. v.items) c.args.leads.now in
    let s = c.args.state in
    let t = c.loop-source.source in
    let front = filter (λ t. edge table s t && not (s == t)) (up 0 (length c.args.leads.now)) in
    elim c.if-source-state.branch [
      | then-source-state+then-has_edge-2+in_ok-push-2 w ↦
          ap (λ (v : Vec ℕ). v.items) w.near-is ∙ w.in_ok-push-2.ensures.items
          ∙ picked (λ t. edge table t s && not (t == s)) front c.loop-source.near.items t c.loop-source.invariant
          (edge_there (edge table t s) t s (sym w.has_edge-then-source-state.ensures ∙ w.if-has_edge-2.true) w.if-source-state.true)
      | else-source-state w ↦
          ap (λ (v : Vec ℕ). v.items) w.near-is
          ∙ passed (λ t. edge table t s && not (t == s)) front c.loop-source.near.items t c.loop-source.invariant
          (elim w.else-source-state.branch [
            | else-source-state-via-then-source-state+else-has_edge-2 w' ↦ edge_away (edge table t s) t s (sym w'.has_edge-then-source-state.ensures ∙ w'.if-has_edge-2.false)
            | else-source-state-via-else-source-state w' ↦ edge_itself (edge table t s) t s w'.if-source-state.false
          ])
    ]

pub returns : goal.returns
returns c =
    let table = map (λ v. v.items) c.args.leads.now in
    let s = c.args.state in
    let ended : c.loop-source.source ≡ length c.args.leads.now = omega arith in
    c.loop-source.invariant
    ∙ ap (λ (k : ℕ). filter (λ t. edge table s t && not (s == t)) (up 0 (length c.args.leads.now)) ++ filter (λ t. edge table t s && not (t == s)) (up 0 k)) ended
