-- The least of some numbers.
use Rattle.std.proofs.Common.{◌≡◌, ℕ, Bool, true, false, cond, List, [], ◌∷◌, Option, Some, None, refl, sym, ap, ◌∙◌, arith, length, drop, get_or, ◌+◌, ◌<◌, ◌≤◌}
use Rattle.std.specs.Prelude.{filter}
use Rattle.std.specs.List.{All}
use Rattle.std.proofs.lemmas.List.{at_drop_more}
use Rattle.std.proofs.lemmas.List.Elements.{All-filter}
use Rattle.std.proofs.lemmas.Option.{none-some, same_Some}
use Rattle.source_checks.specs.Codes.{least_with, least_code}

-- what is least so far, together with the least of the others
abbrev pub together : Option ℕ → Option ℕ → Option ℕ
together None o = o
together (Some n) o = Some (least_with n o)

pub least_code_more : (so_far : Option ℕ) (c : ℕ) (rest : Option ℕ) → together so_far (Some (least_with c rest)) ≡ together (Some (least_with c so_far)) rest
least_code_more None c None = refl
least_code_more None c (Some r) = refl
least_code_more (Some n) c None = ap Some (omega arith)
least_code_more (Some n) c (Some r) = ap Some (omega arith)

pub least_turn : (p : ℕ → Bool) (codes : List ℕ) (i item : ℕ) (least least' total : Option ℕ) → i < length codes → item ≡ get_or codes i 0 → least' ≡ cond (p item) (Some (least_with item least)) least
    → together least (least_code (filter p (drop i codes))) ≡ total → together least' (least_code (filter p (drop (i + 1) codes))) ≡ total
least_turn p codes i item least least' total within is taken so_far =
    let rest = filter p (drop (i + 1) codes) in
    let here : together least (least_code (cond (p item) (item ∷ rest) rest)) ≡ total = ap (λ x. together least (least_code (cond (p x) (x ∷ rest) rest))) is ∙ sym (at_drop_more (λ (cs : List ℕ). together least (least_code (filter p cs))) codes i 0 within) ∙ so_far in
    ap (λ (o : Option ℕ). together o (least_code rest)) taken ∙ by (p item) ∙ here where
      by : (b : Bool) → together (cond b (Some (least_with item least)) least) (least_code (filter p (drop (i + 1) codes))) ≡ together least (least_code (cond b (item ∷ filter p (drop (i + 1) codes)) (filter p (drop (i + 1) codes))))
      by true = sym (least_code_more least item (least_code (filter p (drop (i + 1) codes))))
      by false = refl

least_with_at_most : (n : ℕ) (o : Option ℕ) → least_with n o ≤ n
least_with_at_most n None = omega arith
least_with_at_most n (Some m) = omega arith

-- the least is as small as all are
pub least_small : (bound : ℕ) (p : ℕ → Bool) (codes : List ℕ) → All (λ c. c ≤ bound) codes → (n : ℕ) → Some n ≡ least_code (filter p codes) → n ≤ bound
least_small bound p codes small = at_least (filter p codes) (All-filter p (λ c. c ≤ bound) codes small) where
  at_least : (cs : List ℕ) → All (λ c. c ≤ bound) cs → (n : ℕ) → Some n ≡ least_code cs → n ≤ bound
  at_least [] low n is = absurd (none-some n (sym is))
  at_least (c ∷ cs) low n is =
      let same : n ≡ least_with c (least_code cs) = same_Some n (least_with c (least_code cs)) is in
      let at_most = least_with_at_most c (least_code cs) in
      let first : c ≤ bound = low 0 0 (omega arith) in
      omega arith
