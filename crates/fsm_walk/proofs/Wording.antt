-- Each bits of the ports are those of a number at the marked places.
use Rattle.std.proofs.Common.{◌≡◌, ℕ, zero, suc, ◌+◌, ◌*◌, ◌/◌, ◌%◌, ◌^◌, ◌<◌, ◌==◌, Bool, true, false, List, [], ◌∷◌, length, refl, sym, ap, ◌∙◌, subst, arith}
use Rattle.std.proofs.lemmas.Nat.{div-mul-add, div-add-mod'}
use Rattle.bool_expr.specs.Expression.{bit}
use Rattle.fsm_walk.specs.Reads.{count_of}
use Rattle.fsm_walk.specs.Words.{word, SameAt, WordsAreAll}

abbrev digit : Bool → ℕ
digit true = 1
digit false = 0

digit_below : (b : Bool) → digit b < 2
digit_below true = omega arith
digit_below false = omega arith

digit_half : (b : Bool) (v : ℕ) → (v * 2 + digit b) / 2 ≡ v
digit_half b v = div-mul-add v 2 (digit b) (digit_below b)

digit_rest : (b : Bool) (v : ℕ) → (v * 2 + digit b) % 2 ≡ digit b
digit_rest b v =
    let whole = div-add-mod' (v * 2 + digit b) 2 in
    let half = digit_half b v in
    omega arith

digit_is : (b : Bool) → (digit b == 1) ≡ b
digit_is true = refl
digit_is false = refl

same_first : (b c : Bool) (marks w u : List Bool) → b ≡ c → SameAt marks w u → SameAt (true ∷ marks) (b ∷ w) (c ∷ u)
same_first b c marks w u e same zero m = e
same_first b c marks w u e same (suc k) m = same k m

same_later : (b c : Bool) (marks w u : List Bool) → SameAt marks w u → SameAt (false ∷ marks) (b ∷ w) (c ∷ u)
same_later b c marks w u same zero m = absurd (cc)
same_later b c marks w u same (suc k) m = same k m

-- a list that ends reads as if it went on with 0
ended : (marks u : List Bool) → SameAt marks (false ∷ []) u → SameAt marks [] u
ended marks u same zero m = same zero m
ended marks u same (suc k) m = same (suc k) m

marked : (b : Bool) (marks w : List Bool) → ((v : ℕ) × (v < 2 ^ count_of marks) × SameAt marks w (word marks v))
    → (v : ℕ) × (v < 2 ^ suc (count_of marks)) × SameAt (true ∷ marks) (b ∷ w) (word (true ∷ marks) v)
marked b marks w (v, l, same) =
    let d = digit_below b in
    let two : 2 ^ suc (count_of marks) ≡ 2 ^ count_of marks * 2 = omega arith in
    let first : b ≡ ((v * 2 + digit b) % 2 == 1) = sym (digit_is b) ∙ ap (λ (n : ℕ). n == 1) (sym (digit_rest b v)) in (
      v * 2 + digit b,
      omega arith,
      same_first b ((v * 2 + digit b) % 2 == 1) marks w (word marks ((v * 2 + digit b) / 2)) first
          (subst (λ (n : ℕ). SameAt marks w (word marks n)) (sym (digit_half b v)) same),
    )

unmarked : (b : Bool) (marks w : List Bool) → ((v : ℕ) × (v < 2 ^ count_of marks) × SameAt marks w (word marks v))
    → (v : ℕ) × (v < 2 ^ count_of marks) × SameAt (false ∷ marks) (b ∷ w) (word (false ∷ marks) v)
unmarked b marks w (v, l, same) = (v, l, same_later b false marks w (word marks v) same)

pub words_all : WordsAreAll
words_all [] w = (0, omega arith, λ k m. absurd (cc))
words_all (true ∷ marks) [] =
    let h = marked false marks [] (words_all marks []) in
    (h.0, h.1, ended (true ∷ marks) (word (true ∷ marks) h.0) h.2)
words_all (true ∷ marks) (b ∷ w) = marked b marks w (words_all marks w)
words_all (false ∷ marks) [] =
    let h = unmarked false marks [] (words_all marks []) in
    (h.0, h.1, ended (false ∷ marks) (word (false ∷ marks) h.0) h.2)
words_all (false ∷ marks) (b ∷ w) = unmarked b marks w (words_all marks w)
