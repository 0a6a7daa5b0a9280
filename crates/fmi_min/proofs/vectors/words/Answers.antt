use Rattle.std.proofs.Common.{◌≡◌, ◌∷◌, ◌++◌, [], ℕ, Bool, List, map, sym, ap, ◌∙◌, arith, add-one}
use Rattle.fsm_machine.specs.MachineOf.{up}
use Rattle.fsm_walk.specs.Words.{word}
use Rattle.fmi_min.proofs.Listing.{made_more}
use Rattle.fmi_min.proofs.vectors.words.Goals as goal

pub loop-number-preserved : goal.loop-number-preserved
loop-number-preserved c =
    let n = c.loop-number.number in
    let g : ℕ → List Bool = word c.args.marks.now in
    c.in_ok-push.ensures.items
    ∙ ap (λ (front : List (List Bool)). front ++ c.in_ok-word.field-0 ∷ []) c.loop-number.invariant
    ∙ ap (λ (w : List Bool). map g (up 0 n) ++ w ∷ []) c.in_ok-word.ensures
    ∙ sym (made_more g n)
    ∙ ap (λ (k : ℕ). map g (up 0 k)) (sym (add-one n))

pub returns : goal.returns
returns c =
    let past = c.loop-number-test.false in
    let low = c.loop-number.auto.number-end in
    let end : c.loop-number.number ≡ c.args.count = omega arith in
    c.loop-number.invariant ∙ ap (λ (k : ℕ). map (word c.args.marks.now) (up 0 k)) end
