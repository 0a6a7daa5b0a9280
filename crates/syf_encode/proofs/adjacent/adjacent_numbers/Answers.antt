use Rattle.std.proofs.Common.{◌≡◌, ◌+◌, ◌<◌, ℕ, All, List, Some, None, option_map, map, length, swap, ap, sym, subst, ◌∙◌, arith}
use Rattle.fsm_machine.specs.Encoding.{leads, cost, exchanges, exchanged, first_lower, lowered}
use Rattle.fsm_machine.proofs.Coding.{IsArranged, in_order, arranged_swap}
use Rattle.fsm_code.specs.View.{body_view}
use Rattle.syf_encode.specs.Pieces.{exchange_view}
use Rattle.syf_encode.proofs.Searching.{goes_down, goes_on, goes_no_further}
use Rattle.syf_encode.proofs.Reaching.{arranged_below}
use Rattle.syf_encode.proofs.Ends.{search_is, written_back}
use Rattle.syf_encode.proofs.adjacent.adjacent_numbers.Goals as goal

pub loop-pair-init : goal.loop-pair-init
loop-pair-init c =
    let n = c.args.count in
    let weight : List ℕ → ℕ = cost (λ s t. leads s t (body_view c.args.body.now)) n in
    record {
      arranged = subst (IsArranged n) (sym c.in_ok-numbers.ensures) (in_order n);
      same = ap (λ (xs : List ℕ). lowered weight (exchanges n) (weight xs + 1) xs) c.in_ok-numbers.ensures;
    }

pub first_lower-requires-clause-below : goal.first_lower-requires-clause-below
first_lower-requires-clause-below c =
    let P : List ℕ → Type 0 = λ xs. All (λ k. k < length xs) xs in
    subst P (sym c.deref_mut.ensures.value) (arranged_below c.args.count c.loop-pair.numbers.items c.loop-pair.invariant.arranged)

pub loop-pair-smaller : goal.loop-pair-smaller
loop-pair-smaller c =
    let n = c.args.count in
    let weight : List ℕ → ℕ = cost (λ s t. leads s t (body_view c.args.body.now)) n in
    let numbers = c.loop-pair.numbers.items in
    let x = exchange_view c.in-Some.pair in
    let found : first_lower weight numbers (exchanges n) ≡ Some x =
    search_is (body_view c.args.body.now) n numbers c.deref_mut.result.now (map (λ v. v.items) c.deref.result.now) (option_map exchange_view c.first_lower.result)
    c.loop-pair.invariant.arranged.each c.deref_mut.ensures.value (ap (map (λ v. v.items)) c.deref.ensures.value ∙ c.in_ok-near.ensures) c.first_lower.ensures.value
    ∙ ap (option_map exchange_view) c.in-Some.is in
    let back = written_back numbers c.first_lower.new.numbers c.loop-pair.numbers.len (c.first_lower.ensures.same ∙ c.deref_mut.ensures.value)
    (sym c.deref_mut.ensures.len ∙ ap length c.deref_mut.ensures.value) in
    let after : c.swap.new.self.items ≡ exchanged numbers x = c.swap.ensures.items ∙ ap (λ (xs : List ℕ). swap xs x.first x.second) back in
    goes_down weight (exchanges n) numbers c.swap.new.self.items x found after

pub loop-pair-preserved : goal.loop-pair-preserved
loop-pair-preserved c =
    let n = c.args.count in
    let weight : List ℕ → ℕ = cost (λ s t. leads s t (body_view c.args.body.now)) n in
    let numbers = c.loop-pair.numbers.items in
    let x = exchange_view c.in-Some.pair in
    let found : first_lower weight numbers (exchanges n) ≡ Some x =
    search_is (body_view c.args.body.now) n numbers c.deref_mut.result.now (map (λ v. v.items) c.deref.result.now) (option_map exchange_view c.first_lower.result)
    c.loop-pair.invariant.arranged.each c.deref_mut.ensures.value (ap (map (λ v. v.items)) c.deref.ensures.value ∙ c.in_ok-near.ensures) c.first_lower.ensures.value
    ∙ ap (option_map exchange_view) c.in-Some.is in
    let back = written_back numbers c.first_lower.new.numbers c.loop-pair.numbers.len (c.first_lower.ensures.same ∙ c.deref_mut.ensures.value)
    (sym c.deref_mut.ensures.len ∙ ap length c.deref_mut.ensures.value) in
    let after : c.swap.new.self.items ≡ exchanged numbers x = c.swap.ensures.items ∙ ap (λ (xs : List ℕ). swap xs x.first x.second) back in
    let many : length c.deref_mut.result.now ≡ n = ap length c.deref_mut.ensures.value ∙ c.loop-pair.invariant.arranged.each in
    let within = c.in-Some.ensures.within in
    record {
      arranged = subst (IsArranged n) (sym after) (arranged_swap n numbers x.first x.second (omega arith) (omega arith) c.loop-pair.invariant.arranged);
      same = goes_on weight (exchanges n) numbers c.swap.new.self.items x found after ∙ c.loop-pair.invariant.same;
    }

pub returns : goal.returns
returns c =
    let n = c.args.count in
    let weight : List ℕ → ℕ = cost (λ s t. leads s t (body_view c.args.body.now)) n in
    let numbers = c.loop-pair.numbers.items in
    let none : first_lower weight numbers (exchanges n) ≡ None =
    search_is (body_view c.args.body.now) n numbers c.deref_mut.result.now (map (λ v. v.items) c.deref.result.now) (option_map exchange_view c.first_lower.result)
    c.loop-pair.invariant.arranged.each c.deref_mut.ensures.value (ap (map (λ v. v.items)) c.deref.ensures.value ∙ c.in_ok-near.ensures) c.first_lower.ensures.value
    ∙ ap (option_map exchange_view) c.in_default.is in
    let back = written_back numbers c.first_lower.new.numbers c.loop-pair.numbers.len (c.first_lower.ensures.same ∙ c.deref_mut.ensures.value)
    (sym c.deref_mut.ensures.len ∙ ap length c.deref_mut.ensures.value) in
    goes_no_further weight (exchanges n) numbers _ _ none back c.loop-pair.invariant.same
