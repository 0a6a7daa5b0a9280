-- Free bits as operands, token by token.
use Rattle.std.proofs.Common.{◌≡◌, ◌<◌, length, get_or, arith, Bool, true, false, ◌&&◌, List, [], ◌∷◌, ◌++◌, drop, refl, sym, ap, ◌∙◌, if◌then◌else◌}
use Rattle.std.specs.Prelude.{◌||◌}
use Rattle.vhdl_token.specs.declared.token.PlacedToken.{PlacedToken}
use Rattle.vbe_free.specs.Tokens.{operand, is_free, begins_alternative, ends_alternative, behind_free, begins_free, begins_next, next_read, free_operands, leaves}

chosen : {A : Type 0} (b : Bool) (x y : A) → b ≡ true → (if b then x else y) ≡ x
chosen true x y e = refl
chosen false x y e = absurd (cc e)

passed : {A : Type 0} (b : Bool) (x y : A) → b ≡ false → (if b then x else y) ≡ y
passed false x y e = refl
passed true x y e = absurd (cc e)

none_both : (b : Bool) → (b && false) ≡ true → ⊥
none_both true e = (cc e)
none_both false e = (cc e)

-- a free bit
pub at_free : (begins : Bool) (t : PlacedToken) (rest : List PlacedToken) → (begins && begins_free (t ∷ rest)) ≡ true
    → free_operands begins (t ∷ rest) ≡ operand t.line ∷ behind_free (drop 2 rest) (free_operands false (drop 2 rest))
at_free begins t [] e = absurd (none_both begins e)
at_free begins t (u ∷ []) e = absurd (none_both begins e)
at_free begins t (u ∷ v ∷ rest) e =
    chosen (begins && is_free t u v) (operand t.line ∷ behind_free rest (free_operands false rest)) (t ∷ free_operands (begins_alternative t) (u ∷ v ∷ rest)) e

-- another token
pub at_other : (begins : Bool) (t : PlacedToken) (rest : List PlacedToken) → (begins && begins_free (t ∷ rest)) ≡ false
    → free_operands begins (t ∷ rest) ≡ t ∷ free_operands (begins_alternative t) rest
at_other begins t [] e = refl
at_other begins t (u ∷ []) e = refl
at_other begins t (u ∷ v ∷ rest) e =
    passed (begins && is_free t u v) (operand t.line ∷ behind_free rest (free_operands false rest)) (t ∷ free_operands (begins_alternative t) (u ∷ v ∷ rest)) e

-- the next tokens, and those behind them
pub step : (begins : Bool) (rest : List PlacedToken) (f : Bool) → f ≡ (begins && begins_free rest)
    → free_operands begins rest ≡ next_read f rest (free_operands (begins_next f rest) (drop (if f then 3 else 1) rest))
step begins [] true is = absurd (none_both begins (sym is))
step begins [] false is = refl
step begins (t ∷ []) true is = absurd (none_both begins (sym is))
step begins (t ∷ u ∷ []) true is = absurd (none_both begins (sym is))
step begins (t ∷ u ∷ v ∷ rest) true is = at_free begins t (u ∷ v ∷ rest) (sym is)
step begins (t ∷ rest) false is = at_other begins t rest (sym is)

-- what was made, and what is made of the rest
pub more : (begins f : Bool) (rest next : List PlacedToken) (b : Bool) (old new whole : List PlacedToken) → f ≡ (begins && begins_free rest)
    → b ≡ begins_next f rest → next ≡ drop (if f then 3 else 1) rest → ((read : List PlacedToken) → new ++ read ≡ old ++ next_read f rest read)
    → old ++ free_operands begins rest ≡ whole → new ++ free_operands b next ≡ whole
more begins f rest next b old new whole is eb en pushed before =
    pushed (free_operands b next) ∙ (λ j. old ++ next_read f rest (free_operands (eb j) (en j))) ∙ ap (λ (l : List PlacedToken). old ++ l) (sym (step begins rest f is)) ∙ before

-- ---- whether something is left free

pub leaves_true : (begins : Bool) (rest : List PlacedToken) → (begins && begins_free rest) ≡ true → leaves begins rest ≡ true
leaves_true begins [] e = absurd (none_both begins e)
leaves_true begins (t ∷ rest) e = ap (λ b. b || leaves (begins_alternative t) rest) e

pub leaves_more : (begins : Bool) (rest next : List PlacedToken) (t : PlacedToken) (b : Bool) → 0 < length rest → (begins && begins_free rest) ≡ false
    → t ≡ get_or rest 0 t → b ≡ begins_alternative t → next ≡ drop 1 rest → leaves b next ≡ leaves begins rest
leaves_more begins [] next t b some e is eb en = absurd (omega arith)
leaves_more begins (x ∷ rest) next t b some e is eb en =
    (λ j. leaves (eb j) (en j)) ∙ ap (λ y. leaves (begins_alternative y) rest) is ∙ sym (ap (λ c. c || leaves (begins_alternative x) rest) e)
