use Rattle.std.proofs.Common.{◌≡◌, ◌+◌, ℕ, [], List, map, length, ap, sym, ◌∙◌, arith}
use Rattle.std.specs.List.{slice_index_or}
use Rattle.syf_encode.specs.Pieces.{reach}
use Rattle.syf_encode.proofs.Neighbours.{near_of}
use Rattle.syf_encode.proofs.Reaching.{near_below, near_few, near_length}
use Rattle.syf_encode.proofs.adjacent.weight.Goals as goal

pub bounds-near-first : goal.bounds-near-first
bounds-near-first c = let e = near_length (length c.args.numbers.now) c.args.near.now c.requires.edges in omega arith

pub reach-requires-clause-near : goal.reach-requires-clause-near
reach-requires-clause-near c =
    near_below (length c.args.numbers.now) c.args.pair.first c.args.near.now c.index-near-first.result c.deref.result.now c.requires.edges (omega arith)
    c.index-near-first.is c.deref.ensures.value

pub reach-requires-clause-few : goal.reach-requires-clause-few
reach-requires-clause-few c =
    let few = near_few (length c.args.numbers.now) c.args.pair.first c.args.near.now c.index-near-first.result c.deref.result.now c.requires.edges (omega arith)
    c.index-near-first.is c.deref.ensures.value in
    omega arith

pub bounds-near-second : goal.bounds-near-second
bounds-near-second c = let e = near_length (length c.args.numbers.now) c.args.near.now c.requires.edges in omega arith

pub reach-requires-2-clause-near : goal.reach-requires-2-clause-near
reach-requires-2-clause-near c =
    near_below (length c.args.numbers.now) c.args.pair.second c.args.near.now c.index-near-second.result c.deref-2.result.now c.requires.edges c.requires.second
    c.index-near-second.is c.deref-2.ensures.value

pub reach-requires-2-clause-few : goal.reach-requires-2-clause-few
reach-requires-2-clause-few c =
    let few = near_few (length c.args.numbers.now) c.args.pair.second c.args.near.now c.index-near-second.result c.deref-2.result.now c.requires.edges c.requires.second
    c.index-near-second.is c.deref-2.ensures.value in
    omega arith

pub returns : goal.returns
returns c =
    let n = length c.args.numbers.now in
    let all = near_length n c.args.near.now c.requires.edges in
    let first : c.reach.result ≡ reach n c.args.numbers.now c.args.pair.first c.args.pair.second (slice_index_or (map (λ v. v.items) c.args.near.now) c.args.pair.first []) =
    c.reach.ensures.value ∙ ap (λ (near : List ℕ). reach n c.args.numbers.now c.args.pair.first c.args.pair.second near)
    (c.deref.ensures.value ∙ sym (near_of c.args.near.now c.args.pair.first c.index-near-first.result (omega arith) c.index-near-first.is)) in
    let second : c.reach-2.result ≡ reach n c.args.numbers.now c.args.pair.second c.args.pair.first (slice_index_or (map (λ v. v.items) c.args.near.now) c.args.pair.second []) =
    c.reach-2.ensures.value ∙ ap (λ (near : List ℕ). reach n c.args.numbers.now c.args.pair.second c.args.pair.first near)
    (c.deref-2.ensures.value ∙ sym (near_of c.args.near.now c.args.pair.second c.index-near-second.result (omega arith) c.index-near-second.is)) in
    ap (λ (k : ℕ). k + c.reach-2.result) first ∙ ap (λ (k : ℕ). reach n c.args.numbers.now c.args.pair.first c.args.pair.second (slice_index_or (map (λ v. v.items) c.args.near.now) c.args.pair.first []) + k) second
