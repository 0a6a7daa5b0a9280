-- What marks do where they are no breach.
use Rattle.std.proofs.Common.{arith, true, ◌≡◌, ℕ, ◌+◌, ◌-◌, ◌^◌, ◌<◌, ◌≤◌, ◌==◌, nat_lt, min, Bool, false, List, Ok, Err, refl, ap, ◌∙◌, if◌then◌else◌}
use Rattle.std.proofs.lemmas.Bool.{le-ltb, lt-ltb}
use Rattle.std.proofs.lemmas.Slice.Eq.{bytes_eq-Decides}
use Rattle.grammar_theory.specs.declared.refusal.Breach.TheVariants as broken
use Rattle.grammar_theory.specs.declared.limits.TheConstants.{BITS, CHAIN}
use Rattle.grammar_theory.specs.Marks.{Mark, plain, starts, chooses, again, opens, operator, declares, counts, spells, fits, State, is_declared, acts, checked, step}
use Rattle.vhdl_print.specs.Outline.{with_name, with_bits}

-- no choice has too many alternatives so far
abbrev pub Few : State → Type 0
Few s = nat_lt CHAIN s.alternatives ≡ false

pub step_is : (m : Mark) (s t : State) → Few s → acts m s ≡ Ok t → step m s ≡ Ok t
unfolding step
step_is m s t few does = ap (checked s) does ∙ ap (λ (b : Bool). if b then Err broken.Chain else Ok t) few

pub plain_step : (s : State) → Few s → step plain s ≡ Ok s
plain_step s few = step_is plain s s few refl

pub opens_step : (n : ℕ) (s : State) → Few s → (n == 0) ≡ false → step (opens n) s ≡ Ok s
opens_step n s few some = step_is (opens n) s s few (ap (λ (b : Bool). if b then Err broken.Depth else Ok s) some)

pub declares_step : (line : ℕ) (name : List ℕ) (s : State) → Few s → is_declared name s.names ≡ false → step (declares line name) s ≡ Ok (with_name name s)
declares_step line name s few new = step_is (declares line name) s (with_name name s) few (ap (λ (b : Bool). if b then Err (broken.Twice line name) else Ok (with_name name s)) new)

pub counts_step : (n m : ℕ) (s : State) → Few s → n ≡ m → s.bits + m ≤ BITS → step (counts n) s ≡ Ok (with_bits m s)
counts_step n m s few same within =
    ap (λ k. step (counts k) s) same
    ∙ step_is (counts m) s (with_bits m s) few (ap (λ (b : Bool). if b then Err (broken.Bits (min (s.bits + m) (2 ^ 64 - 1))) else Ok (with_bits m s)) (le-ltb BITS (s.bits + m) within))

pub spells_step : (name : List ℕ) (s : State) → Few s → step (spells name name) s ≡ Ok s
spells_step name s few = step_is (spells name name) s s few (ap (λ (b : Bool). if b then Ok s else Err broken.Spelling) ((bytes_eq-Decides name name).1 refl))

abbrev pub with_operator : State → State
with_operator s = record s { operators = s.operators + 1 }

pub operator_step : (s : State) → Few s → s.operators < CHAIN → step operator s ≡ Ok (with_operator s)
operator_step s few less = step_is operator s (with_operator s) few (ap (λ (b : Bool). if b then Ok (with_operator s) else Err broken.Chain) (lt-ltb s.operators CHAIN less))

-- ---- choices, and expressions one after another

abbrev pub started : State → State
started s = record s { operators = 0 }

pub starts_step : (s : State) → Few s → step starts s ≡ Ok (started s)
starts_step s few = step_is starts s (started s) few refl

abbrev pub chosen : State → State
chosen s = record s { operators = 0; alternatives = 1 }

pub chooses_step : (s : State) → Few s → step chooses s ≡ Ok (chosen s)
chooses_step s few = step_is chooses s (chosen s) few refl

pub few_chosen : (s : State) → Few (chosen s)
few_chosen s = refl

abbrev pub one_alternative : State → State
one_alternative s = record s { operators = 0; alternatives = s.alternatives + 1 }

pub again_step : (s : State) → Few s → step again s ≡ Ok (one_alternative s)
again_step s few = step_is again s (one_alternative s) few refl

pub few_alternatives : (s : State) → s.alternatives < CHAIN → Few (one_alternative s)
few_alternatives s less = le-ltb CHAIN (s.alternatives + 1) (omega (arith, less))

pub fits_step : (b : Bool) (s : State) → Few s → b ≡ true → step (fits b) s ≡ Ok s
fits_step b s few is = step_is (fits b) s s few (ap (λ (c : Bool). if c then Ok s else Err broken.Spelling) is)
