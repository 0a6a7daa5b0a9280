-- The same for expressions in parentheses, however deep.
use Rattle.std.proofs.Common.{◌≡◌, ℕ, zero, suc, ◌+◌, ◌<◌, true, false, List, [], ◌∷◌, ◌++◌, length, inl, inr, refl, Result, Ok, Err, arith}
use Rattle.vlsi_base.specs.Tree.{Tree, name}
use Rattle.vhdl_token.specs.declared.keyword.Keyword.TheVariants as word
use Rattle.vhdl_token.specs.declared.token.Sign.TheVariants as sign
use Rattle.vhdl_token.specs.declared.token.PlacedToken.{PlacedToken}
use Rattle.grammar_theory.specs.declared.form.Form.{Form}
use Rattle.grammar_theory.specs.declared.form.Form.TheVariants as form
use Rattle.grammar_theory.specs.declared.refusal.Breach.TheVariants as broken
use Rattle.grammar_theory.specs.declared.refusal.Reason.TheVariants as reason
use Rattle.grammar_theory.specs.Tokens.{code}
use Rattle.grammar_theory.specs.Marks.{Item, State, plain, opens, step}
use Rattle.grammar_theory.specs.Grammar.{Grammar, none, item, Then, at_some}
use Rattle.grammar_theory.specs.Outcome.{At, Outcome, Reader, refusal, ◌>>=◌}
use Rattle.grammar_theory.specs.Answers.{Answers}
use Rattle.grammar_theory.proofs.Sets.{Set, disjoint}
use Rattle.grammar_theory.proofs.Exact.{Shape}
use Rattle.grammar_theory.proofs.Samples.{some_of, some_of-code}
use Rattle.grammar_theory.proofs.Bundle.{Exact, exact_marked, exact_then, none_shape}
use Rattle.grammar_theory.proofs.Shut.{exact_shut}
use Rattle.grammar_theory.proofs.Levels.{Rising, all_answers}
use Rattle.grammar_theory.proofs.AllLevels.{exact_all}
use Rattle.grammar_theory.proofs.Listing.{consumes}
use Rattle.vhdl_front.specs.Expression.{closing, suffix, named, parenthesized, primary, factor, joined, cat, relation, logical, expression_over, less, nested, expression}
use Rattle.vhdl_front.specs.Reading.{closing_at, factor_at, joined_at, cat_at, relation_at, expression_over_at, enter_at, expression_at}
use Rattle.vhdl_front.proofs.Language.{numbers, Enters, exact_closing, exact_factor, exact_joined, exact_cat, exact_relation, exact_expression_over, factor_firsts, expression_lasts}

-- what stands in parentheses
abbrev below : ℕ → ℕ → Grammar Tree
below zero room = none
below (suc deeper) room = nested deeper (less room)

-- ---- an expression of one name, whatever may stand in parentheses

abbrev sample : List Item
sample = item (some_of form.Identifier) plain ∷ []

abbrev sample_value : Tree
sample_value = name [] 0

sample_named : (room : ℕ) → named room sample sample_value
unfolding named suffix
sample_named room = record { front = sample; back = []; value = some_of form.Identifier; parts = refl; before = record { alone = refl; kind = some_of-code form.Identifier }; behind = inr (inr (refl, refl)) }

sample_factor : (room : ℕ) (I : Grammar Tree) → factor room I sample sample_value
unfolding factor primary
sample_factor room I = inr (inr (inr (inr (inr (sample_named room)))))

sample_cat : (room : ℕ) (I : Grammar Tree) → cat room I sample sample_value
unfolding cat
sample_cat room I = record { front = sample; back = []; value = sample_value; parts = refl; before = sample_factor room I; behind = record { front = []; back = []; value = []; parts = refl; before = refl; behind = (refl, refl) } }

sample_relation : (room : ℕ) (I : Grammar Tree) → relation room I sample sample_value
unfolding relation
sample_relation room I = record { front = sample; back = []; value = sample_value; parts = refl; before = sample_cat room I; behind = inr (inr (refl, refl)) }

sample_expression : (room : ℕ) (I : Grammar Tree) → expression_over room I sample sample_value
unfolding expression_over logical
sample_expression room I = record { front = sample; back = []; value = sample_value; parts = refl; before = sample_relation room I; behind = inr (inr (inr (inr (inr (inr (refl, refl)))))) }

pub sample_nested : (e room : ℕ) → nested e room sample sample_value
unfolding nested
sample_nested zero room = sample_expression room none
sample_nested (suc e) room = sample_expression room (nested e (less room))

abbrev paren : Form
paren = form.Sign sign.LeftParen

abbrev closed_sample : List Item
closed_sample = sample ++ item (some_of (form.Sign sign.RightParen)) plain ∷ []

sample_closed : (I : Grammar Tree) → I sample sample_value → Then I closing closed_sample sample_value
unfolding closing
sample_closed I h = record { front = sample; back = item (some_of (form.Sign sign.RightParen)) plain ∷ []; value = sample_value; parts = refl; before = h; behind = record { front = item (some_of (form.Sign sign.RightParen)) plain ∷ []; back = []; value = some_of (form.Sign sign.RightParen); parts = refl; before = record { alone = refl; kind = some_of-code (form.Sign sign.RightParen) }; behind = (refl, refl) } }

-- ---- in parentheses

exact_inside : {P : Type 0} (SI BI : Grammar Tree) {r : Reader Tree} → Exact P SI BI false factor_firsts expression_lasts r
    → Exact P (Then SI closing) (Then BI closing) false factor_firsts [] (λ here. r here >>= λ e. closing_at e.0 e.1)
exact_inside SI BI e = exact_then e (λ v. exact_closing v) refl

-- no sentence but the reader of a greater grammar
narrow : {P A : Type 0} {S B : Grammar A} {null : _} {f l : Set} {r : Reader A} → Exact P S B null f l r → Exact P none B null f l r
narrow e = record { shape = e.shape; inside = λ p q v h. absurd h; reads = e.reads; starts = e.starts }

under : {P Q A : Type 0} {S B : Grammar A} {null : _} {f l : Set} {r : Reader A} → (Q → P) → Exact P S B null f l r → Exact Q S B null f l r
under from e = record { shape = e.shape; inside = λ q. e.inside (from q); reads = λ q. e.reads (from q); starts = λ q. e.starts (from q) }

nowhere : (I : Grammar Tree) → Shape I false factor_firsts expression_lasts → Exact ⊥ I I false factor_firsts expression_lasts (λ here. Err (refusal reason.Syntax here.rest))
nowhere I sh = record { shape = sh; inside = λ p. absurd p; reads = λ p. absurd p; starts = λ p. absurd p }

inside_shape : (I : Grammar Tree) → Shape I false factor_firsts expression_lasts → Shape (Then I closing) false factor_firsts []
inside_shape I sh = (exact_inside I I (nowhere I sh)).shape

shut_step : (s : State) → step (opens zero) s ≡ Err broken.Depth
unfolding step
shut_step s = refl

-- no parenthesis may be opened
shut_paren : {P : Type 0} (SI BI : Grammar Tree) → Shape BI false factor_firsts expression_lasts → (P → (q : List Item) (v : Tree) → SI q v → BI q v) → BI sample sample_value → Enters P zero SI BI (enter_at zero)
unfolding parenthesized enter_at
shut_paren SI BI sh inside some =
    exact_shut paren (λ _. opens zero) broken.Depth (λ t s. shut_step s) (λ t. inside_shape BI sh)
    (λ p t q v h. record { front = h.front; back = h.back; value = h.value; parts = h.parts; before = inside p h.front h.value h.before; behind = h.behind })
    (λ t. (closed_sample, sample_value, sample_closed BI some)) (λ t here. Err (refusal reason.Syntax here.rest))

open_paren : {P : Type 0} (room : ℕ) (SI BI : Grammar Tree) → Exact P SI BI false factor_firsts expression_lasts (expression_at room) → Enters P (suc room) SI BI (enter_at (suc room))
unfolding parenthesized enter_at
open_paren room SI BI e = exact_then (exact_marked paren (λ _. opens (suc room))) (λ t. exact_inside SI BI e) refl

abbrev Deeper : ℕ → ℕ → ℕ → Type 0
Deeper d e room = (d < e) × (room < e)

level : {P : Type 0} (d e room : ℕ) {r : Reader Tree} → Exact P (expression_over room (below d room)) (expression_over room (below e room)) false factor_firsts expression_lasts r
    → Exact P (nested d room) (nested e room) false factor_firsts expression_lasts r
unfolding nested
level zero zero room e = e
level zero (suc b) room e = e
level (suc a) zero room e = e
level (suc a) (suc b) room e = e

-- by induction on how deep the grammar goes
pub enters : (e d room : ℕ) → Enters (Deeper d e room) room (below d room) (below e room) (enter_at room)
unfolding parenthesized
enters zero d room =
    let shape = (exact_then {P = ⊥} (exact_marked paren (λ _. opens room)) (λ t. exact_inside none none (nowhere none (none_shape false factor_firsts expression_lasts))) refl).shape in
    record { shape = shape; inside = λ p. absurd (omega (arith, p.0)); reads = λ p. absurd (omega (arith, p.0)); starts = λ p. absurd (omega (arith, p.0)) }
enters (suc e) zero zero =
    let inner = level zero e zero (exact_expression_over zero (below zero zero) (below e zero) (enters e zero zero)) in
    shut_paren none (nested e zero) inner.shape (λ p q v h. absurd h) (sample_nested e zero)
enters (suc e) (suc d) zero =
    let inner = level d e zero (exact_expression_over zero (below d zero) (below e zero) (enters e d zero)) in
    shut_paren (nested d zero) (nested e zero) inner.shape (λ p. inner.inside (omega (arith, p.0), omega (arith, p.0))) (sample_nested e zero)
enters (suc e) zero (suc room) =
    let inner = level zero e room (exact_expression_over room (below zero room) (below e room) (enters e zero room)) in
    open_paren room none (nested e room) (narrow (under (λ p. (omega (arith, p.1), omega (arith, p.1))) inner))
enters (suc e) (suc d) (suc room) =
    let inner = level d e room (exact_expression_over room (below d room) (below e room) (enters e d room)) in
    open_paren room (nested d room) (nested e room) (under (λ p. (omega (arith, p.0), omega (arith, p.1))) inner)

pub exact_nested : (e d room : ℕ) → Exact (Deeper d e room) (nested d room) (nested e room) false factor_firsts expression_lasts (expression_at room)
exact_nested e d room = level d e room (exact_expression_over room (below d room) (below e room) (enters e d room))

-- ---- all expressions

rising : (room : ℕ) → Rising (λ e. nested e room) room
rising room = record {
  null = false;
  firsts = factor_firsts;
  lasts = expression_lasts;
  shape = λ e. (exact_nested e zero room).shape;
  rises = λ d e lt above. (exact_nested e d room).inside (lt, above);
}

pub reading_answers : (room : ℕ) (here : At) → Answers (expression room) here (expression_at room here)
reading_answers room here = all_answers (λ e. nested e room) room (rising room) here (expression_at room here) (λ e above. ((exact_nested e zero room).reads (omega (arith, above), above)).answers here)

pub exact_expression : {P : Type 0} (room : ℕ) → Exact P (expression room) (expression room) false factor_firsts expression_lasts (expression_at room)
unfolding rising
exact_expression room = exact_all (λ e. nested e room) room (expression_at room) (rising room)
    (λ e above. (exact_nested e zero room).reads (omega (arith, above), above)) ((exact_nested (room + 1) zero room).starts (omega arith, omega arith))

-- ---- what stands behind an operator takes tokens

behind_consumes : (f : Form) (S B : Grammar Tree) {lo : Set} (r : Reader Tree) {P : Type 0} → Exact P S B false factor_firsts lo r → P → disjoint lo [] ≡ true → (here there : At) (v : ℕ × Tree) → joined_at f r here ≡ Ok (v, there) → length there.rest < length here.rest
behind_consumes f S B {lo} r e p apart here there v h =
    let j = exact_joined f e apart in
    consumes (joined f B) (code f ∷ []) (lo ++ []) (joined_at f r) j.shape (j.reads p) here there v h

pub factor_consumes : (room : ℕ) (here there : At) (v : ℕ × Tree) → joined_at (form.Sign sign.Ampersand) (factor_at room (enter_at room)) here ≡ Ok (v, there) → length there.rest < length here.rest
factor_consumes room here there v h =
    behind_consumes (form.Sign sign.Ampersand) (factor room (below zero room)) (factor room (below (room + 1) room)) (factor_at room (enter_at room))
    (exact_factor room (below zero room) (below (room + 1) room) (enters (room + 1) zero room)) (omega arith, omega arith) refl here there v h

pub relation_consumes : (f : Form) (room : ℕ) (here there : At) (v : ℕ × Tree) → joined_at f (relation_at room (enter_at room)) here ≡ Ok (v, there) → length there.rest < length here.rest
relation_consumes f room here there v h =
    behind_consumes f (relation room (below zero room)) (relation room (below (room + 1) room)) (relation_at room (enter_at room))
    (exact_relation room (below zero room) (below (room + 1) room) (enters (room + 1) zero room)) (omega arith, omega arith) refl here there v h
