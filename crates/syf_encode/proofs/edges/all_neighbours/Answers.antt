use Rattle.std.proofs.Common.{◌≡◌, ◌++◌, ◌∷◌, [], ℕ, List, Bool, map, length, subst, ap, sym, ◌∙◌, arith}
use Rattle.std.specs.Global.{Vec}
use Rattle.std.proofs.lemmas.List.{map-append, length-map}
use Rattle.fsm_machine.specs.MachineOf.{up}
use Rattle.fsm_code.specs.View.{body_view}
use Rattle.syf_encode.specs.Pieces.{edge, neighbours_by}
use Rattle.syf_encode.proofs.Upward.{up_map}
use Rattle.syf_encode.proofs.Neighbours.{Tells, all_same}
use Rattle.syf_encode.proofs.edges.all_neighbours.Goals as goal

pub loop-state-2-preserved : goal.loop-state-2-preserved
loop-state-2-preserved c =
    let table = c.loop-state.leads.items in
    let ended : c.loop-state.state ≡ c.args.count = omega arith in
    let many : length table ≡ c.args.count = sym (length-map table (λ (v : Vec Bool). v.items)) ∙ c.loop-state.invariant.each ∙ ended in
    ap (map (λ (v : Vec ℕ). v.items)) c.in_ok-push-2.ensures.items
    ∙ map-append (λ (v : Vec ℕ). v.items) c.loop-state-2.near.items (c.in_ok-neighbours.field-0 ∷ [])
    ∙ ap (λ (rows : List (List ℕ)). rows ++ (c.in_ok-neighbours.field-0.items ∷ [])) c.loop-state-2.invariant
    ∙ ap (λ (row : List ℕ). map (neighbours_by (edge (map (λ v. v.items) table)) c.args.count) (up 0 c.loop-state-2.state) ++ (row ∷ []))
    (c.in_ok-neighbours.ensures ∙ ap (λ (rows : List (Vec Bool)). neighbours_by (edge (map (λ v. v.items) rows)) (length rows) c.loop-state-2.state) c.deref.ensures.value
    ∙ ap (λ (n : ℕ). neighbours_by (edge (map (λ v. v.items) table)) n c.loop-state-2.state) many)
    ∙ sym (up_map (neighbours_by (edge (map (λ v. v.items) table)) c.args.count) c.loop-state-2.state)

pub returns : goal.returns
returns c =
    let table = map (λ v. v.items) c.loop-state.leads.items in
    let ended : c.loop-state.state ≡ c.args.count = omega arith in
    let all : c.loop-state-2.state ≡ c.args.count = omega arith in
    let P : ℕ → Type 0 = λ k. Tells (body_view c.args.body.now) c.args.count k table in
    c.loop-state-2.invariant ∙ ap (λ (k : ℕ). map (neighbours_by (edge table) c.args.count) (up 0 k)) all
    ∙ all_same (body_view c.args.body.now) c.args.count table (subst P ended c.loop-state.invariant)
