-- Shuffles by the words of a generator, step by step.
use Rattle.std.proofs.Common.{◌≡◌, ℕ, suc, ◌+◌, ◌%◌, List, swap, sym, ap, ◌∙◌, add-one}
use Rattle.rand_core.specs.Steps.{first_words}
use Rattle.fsm_machine.specs.Encoding.{shuffled}

-- one place by the next word, and then the places below it
pub shuffled_more : {S : Type 0} (step : S → ℕ × S) (place left word : ℕ) (s t : S) (xs : List ℕ) → place ≡ suc left → (word, t) ≡ step s
    → shuffled left (first_words step left t) (swap xs place (word % (place + 1))) ≡ shuffled place (first_words step place s) xs
unfolding first_words
shuffled_more {S} step place left word s t xs e w =
    ap (λ (p : ℕ × S). shuffled left (first_words step left p.1) (swap xs place (p.0 % (place + 1)))) w
    ∙ ap (λ (k : ℕ). shuffled left (first_words step left (step s).1) (swap xs place ((step s).0 % k))) (add-one place)
    ∙ ap (λ (k : ℕ). shuffled left (first_words step left (step s).1) (swap xs k ((step s).0 % suc k))) e
    ∙ ap (λ (k : ℕ). shuffled k (first_words step k s) xs) (sym e)
