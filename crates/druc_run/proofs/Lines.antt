-- The lines of breaches, one more.
use Rattle.std.proofs.Common.{◌≡◌, ℕ, ◌+◌, ◌<◌, List, [], ◌∷◌, ◌++◌, length, take, get_or, sym, ◌∙◌, ap, append_assoc, append-nil}
use Rattle.std.proofs.lemmas.List.{take_more}
use Rattle.druc_rules.specs.declared.breach.Breach.{Breach}
use Rattle.druc_run.specs.Report.{breach_text, breaches_text}

text_push : (bs : List Breach) (b : Breach) → breaches_text (bs ++ b ∷ []) ≡ breaches_text bs ++ breach_text b
text_push [] b = append-nil (breach_text b)
text_push (x ∷ xs) b = ap (λ (t : List ℕ). breach_text x ++ t) (text_push xs b) ∙ sym (append_assoc (breach_text x) (breaches_text xs) (breach_text b))

pub lines_more : (bs : List Breach) (k : ℕ) (d : Breach) (before after : List ℕ) → k < length bs → before ≡ breaches_text (take k bs) → after ≡ before ++ breach_text (get_or bs k d)
    → after ≡ breaches_text (take (k + 1) bs)
lines_more bs k d before after low so_far made =
    made
    ∙ ap (λ (t : List ℕ). t ++ breach_text (get_or bs k d)) so_far
    ∙ sym (text_push (take k bs) (get_or bs k d))
    ∙ ap breaches_text (sym (take_more bs k d low))
