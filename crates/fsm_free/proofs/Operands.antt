-- Free bits as operands, token by token.
use Rattle.std.proofs.Common.{◌≡◌, Bool, true, false, ◌&&◌, List, [], ◌∷◌, ◌++◌, drop, refl, sym, ap, ◌∙◌, if◌then◌else◌}
use Rattle.std.specs.Prelude.{◌||◌}
use Rattle.vhdl_token.specs.declared.token.PlacedToken.{PlacedToken}
use Rattle.free_tokens.specs.Tokens.{operand, is_free, begins_free}
use Rattle.fsm_free.specs.declared.tokens.Place.{Place}
use Rattle.fsm_free.specs.Tokens.{place_after, begins_value, behind_free, free_operands, has_free}
use Rattle.fsm_free.specs.Pieces.{next_read, begins_next, place_next}

chosen : {A : Type 0} (b : Bool) (x y : A) → b ≡ true → (if b then x else y) ≡ x
chosen true x y e = refl
chosen false x y e = absurd (cc e)

passed : {A : Type 0} (b : Bool) (x y : A) → b ≡ false → (if b then x else y) ≡ y
passed false x y e = refl
passed true x y e = absurd (cc e)

none_both : (b : Bool) → (b && false) ≡ true → ⊥
none_both true e = (cc e)
none_both false e = (cc e)

-- a free bit
at_free : (begins : Bool) (here : Place) (t : PlacedToken) (rest : List PlacedToken) → (begins && begins_free (t ∷ rest)) ≡ true
    → free_operands begins here (t ∷ rest) ≡ operand t.line ∷ behind_free (drop 2 rest) (free_operands false here (drop 2 rest))
at_free begins here t [] e = absurd (none_both begins e)
at_free begins here t (u ∷ []) e = absurd (none_both begins e)
at_free begins here t (u ∷ v ∷ rest) e =
    chosen (begins && is_free t u v) (operand t.line ∷ behind_free rest (free_operands false here rest)) (t ∷ free_operands (begins_value here t) (place_after here t) (u ∷ v ∷ rest)) e

-- another token
at_other : (begins : Bool) (here : Place) (t : PlacedToken) (rest : List PlacedToken) → (begins && begins_free (t ∷ rest)) ≡ false
    → free_operands begins here (t ∷ rest) ≡ t ∷ free_operands (begins_value here t) (place_after here t) rest
at_other begins here t [] e = refl
at_other begins here t (u ∷ []) e = refl
at_other begins here t (u ∷ v ∷ rest) e =
    passed (begins && is_free t u v) (operand t.line ∷ behind_free rest (free_operands false here rest)) (t ∷ free_operands (begins_value here t) (place_after here t) (u ∷ v ∷ rest)) e

-- the next tokens, and those behind them
step : (begins : Bool) (here : Place) (rest : List PlacedToken) (f : Bool) → f ≡ (begins && begins_free rest)
    → free_operands begins here rest ≡ next_read f rest (free_operands (begins_next here f rest) (place_next here f rest) (drop (if f then 3 else 1) rest))
step begins here [] true is = absurd (none_both begins (sym is))
step begins here [] false is = refl
step begins here (t ∷ []) true is = absurd (none_both begins (sym is))
step begins here (t ∷ u ∷ []) true is = absurd (none_both begins (sym is))
step begins here (t ∷ u ∷ v ∷ rest) true is = at_free begins here t (u ∷ v ∷ rest) (sym is)
step begins here (t ∷ rest) false is = at_other begins here t rest (sym is)

-- what was made, and what is made of the rest
pub more : (begins f : Bool) (here : Place) (rest next : List PlacedToken) (b : Bool) (p : Place) (old new whole : List PlacedToken) → f ≡ (begins && begins_free rest)
    → b ≡ begins_next here f rest → p ≡ place_next here f rest → next ≡ drop (if f then 3 else 1) rest
    → ((read : List PlacedToken) → new ++ read ≡ old ++ next_read f rest read)
    → old ++ free_operands begins here rest ≡ whole → new ++ free_operands b p next ≡ whole
more begins f here rest next b p old new whole is eb ep en pushed before =
    pushed (free_operands b p next) ∙ (λ j. old ++ next_read f rest (free_operands (eb j) (ep j) (en j))) ∙ ap (λ (l : List PlacedToken). old ++ l) (sym (step begins here rest f is)) ∙ before

-- ---- whether there is one

none_or : (b x : Bool) → x ≡ ((b && false) || x)
none_or true x = refl
none_or false x = refl

look : (begins : Bool) (here : Place) (rest : List PlacedToken)
    → has_free begins here rest ≡ ((begins && begins_free rest) || has_free (begins_next here false rest) (place_next here false rest) (drop 1 rest))
look begins here [] = none_or begins false
look begins here (t ∷ []) = none_or begins false
look begins here (t ∷ u ∷ []) = none_or begins false
look begins here (t ∷ u ∷ v ∷ rest) = refl

pub looked : (begins : Bool) (here : Place) (rest next : List PlacedToken) (b : Bool) (p : Place) (taken whole : Bool) → taken ≡ (begins && begins_free rest) → taken ≡ false
    → b ≡ begins_next here false rest → p ≡ place_next here false rest → next ≡ drop 1 rest → has_free begins here rest ≡ whole → has_free b p next ≡ whole
looked begins here rest next b p taken whole is none eb ep en before =
    (λ j. has_free (eb j) (ep j) (en j))
    ∙ ap (λ (x : Bool). x || has_free (begins_next here false rest) (place_next here false rest) (drop 1 rest)) (sym none ∙ is)
    ∙ sym (look begins here rest) ∙ before

pub found : (begins : Bool) (here : Place) (rest : List PlacedToken) (taken whole : Bool) → taken ≡ (begins && begins_free rest) → taken ≡ true
    → has_free begins here rest ≡ whole → true ≡ whole
found begins here rest taken whole is some before =
    ap (λ (x : Bool). x || has_free (begins_next here false rest) (place_next here false rest) (drop 1 rest)) (sym some ∙ is)
    ∙ sym (look begins here rest) ∙ before
