use Rattle.std.proofs.Common.{◌≡◌, ◌+◌, ℕ, [], List, length, ap, sym, subst, ◌∙◌, arith}
use Rattle.std.proofs.lemmas.Result.{IfOk-weaker}
use Rattle.fsm_machine.specs.Codes.{AreCodes}
use Rattle.fsm_machine.specs.Encoding.{leads, cost, one_hot, numbered}
use Rattle.fsm_machine.specs.MachineOf.{up}
use Rattle.fsm_code.specs.View.{body_view}
use Rattle.syf_encode.specs.Codes.{codes_by}
use Rattle.syf_encode.specs.declared.style.Style.{Style}
use Rattle.syf_encode.proofs.Ends.{length_lowered, adjacent_are}
use Rattle.syf_encode.proofs.coding.encode.Goals as goal

pub numbered-requires-in-Adjacent : goal.numbered-requires-in-Adjacent
numbered-requires-in-Adjacent c =
    let n = length c.as_slice-count.result.now in
    let weight : List ℕ → ℕ = cost (λ s t. leads s t (body_view c.body.result.now)) n in
    let each : length c.deref-in-Adjacent.result.now ≡ n =
    ap length (c.deref-in-Adjacent.ensures.value ∙ c.in_ok-adjacent_numbers-in-Adjacent.ensures) ∙ length_lowered weight n (weight (up 0 n) + 1) in
    let many = ap length (c.as_slice-count.ensures ∙ c.states.ensures.value) in
    let few = c.states.ensures.checked.few_states in
    omega arith

pub returns-in-OneHot-clause-different : goal.returns-in-OneHot-clause-different
returns-in-OneHot-clause-different c =
    let f = c.args.machine.now in
    let many = ap length (c.as_slice-count.ensures ∙ c.states.ensures.value) in
    IfOk-weaker c.one_hot.result (λ codes. codes ≡ one_hot (length c.as_slice-count.result.now)) (AreCodes (length f.states))
    (λ codes e. subst (AreCodes (length f.states)) (sym (e ∙ ap one_hot many)) (c.encodings_are_codes.ensures f []).0) c.one_hot.ensures

pub returns-in_ok-adjacent_numbers-in-Adjacent-clause-codes : goal.returns-in_ok-adjacent_numbers-in-Adjacent-clause-codes
returns-in_ok-adjacent_numbers-in-Adjacent-clause-codes c =
    let f = c.args.machine.now in
    let xs = c.deref-in-Adjacent.result.now in
    let many = ap length (c.as_slice-count.ensures ∙ c.states.ensures.value) in
    IfOk-weaker c.numbered-in-Adjacent.result (λ codes. codes ≡ numbered (length xs) xs) (λ codes. codes ≡ codes_by c.args.style f)
    (λ codes e.
    (e
    ∙ adjacent_are f xs (length c.as_slice-count.result.now) (body_view c.body.result.now) many c.body.ensures.value
    (c.deref-in-Adjacent.ensures.value ∙ c.in_ok-adjacent_numbers-in-Adjacent.ensures)
    ∙ sym (ap (λ (style : Style). codes_by style f) c.in-Adjacent.is)))
    c.numbered-in-Adjacent.ensures

pub returns-in_ok-adjacent_numbers-in-Adjacent-clause-different : goal.returns-in_ok-adjacent_numbers-in-Adjacent-clause-different
returns-in_ok-adjacent_numbers-in-Adjacent-clause-different c =
    let f = c.args.machine.now in
    let xs = c.deref-in-Adjacent.result.now in
    let many = ap length (c.as_slice-count.ensures ∙ c.states.ensures.value) in
    IfOk-weaker c.numbered-in-Adjacent.result (λ codes. codes ≡ numbered (length xs) xs) (AreCodes (length f.states))
    (λ codes e.
    subst (AreCodes (length f.states))
    (sym
    (e
    ∙ adjacent_are f xs (length c.as_slice-count.result.now) (body_view c.body.result.now) many c.body.ensures.value
    (c.deref-in-Adjacent.ensures.value ∙ c.in_ok-adjacent_numbers-in-Adjacent.ensures)))
    (c.encodings_are_codes.ensures f []).2)
    c.numbered-in-Adjacent.ensures
