-- The text of an expression is read again.
use Rattle.std.proofs.Common.{◌≡◌, ℕ, zero, suc, ◌+◌, ◌<◌, ◌≤◌, false, List, [], ◌∷◌, ◌++◌, refl, sym, ap, ◌∙◌, arith}
use Rattle.std.proofs.lemmas.List.{append-nil}
use Rattle.std.proofs.lemmas.Bool.{ne_eqb}
use Rattle.vlsi_base.specs.Tree.{Tree, bit, name, inverse}
use Rattle.vhdl_token.specs.declared.token.Token.TheVariants as token
use Rattle.vhdl_token.specs.declared.token.Sign.TheVariants as sign
use Rattle.vhdl_token.specs.declared.token.PlacedToken.{PlacedToken}
use Rattle.vhdl_lexer.specs.Listing.{tokens_in, refusal_in}
use Rattle.grammar_theory.specs.declared.limits.TheConstants.{CHAIN}
use Rattle.grammar_theory.specs.Tokens.{code, code_of}
use Rattle.grammar_theory.specs.Marks.{State, uncounted}
use Rattle.grammar_theory.specs.Grammar.{Grammar, none}
use Rattle.grammar_theory.specs.Unique.{OneAnswerToAll}
use Rattle.grammar_theory.proofs.Unique as unique
use Rattle.vhdl_front.specs.Expression.{primary, joined, relation, expression_over, nested, expression}
use Rattle.vhdl_front.specs.Reading.{expression_at}
use Rattle.vhdl_front.proofs.Language.{factor_firsts, expression_lasts}
use Rattle.vhdl_front.proofs.Nested.{exact_expression, reading_answers}
use Rattle.spell_theory.specs.Spells.{Spells}
use Rattle.spell_theory.specs.Layout.{Written, gap, placed, line_of}
use Rattle.spell_theory.proofs.Combinators.{spell_none, spell_as, spell_to, spell_some}
use Rattle.spell_theory.proofs.Layouts.{placed_append, line_append}
use Rattle.spell_theory.proofs.Whole.{again}
use Rattle.vhdl_print.specs.Outline.{a_word, a_sign}
use Rattle.vhdl_print.specs.Formula.{Link, link_word, Formula, variable, constant, opposite, joint, tree, inside, whole, IsWithin, IsWholeWithin, links, AreNames, with_links, FormulaIsReadAgain}
use Rattle.vhdl_print.proofs.VhdlLexer.{vhdl, Fit, fit_both}
use Rattle.vhdl_print.proofs.Steps.{Few, with_operator}
use Rattle.vhdl_print.proofs.Entities.{at}
use Rattle.vhdl_print.proofs.Again.{EndsWord}
use Rattle.vhdl_print.proofs.Expressions.{spell_named, spell_bit, spell_parentheses, spell_plain_factor, spell_not, spell_relation, spell_joined, spell_alone, link_form, spell_linked}

-- ---- one line

flat : (line : ℕ) (f : Formula) → line_of line (inside f) ≡ line
flat line (variable x) = refl
flat line (constant b) = refl
flat line (opposite f) = line_append line (inside f) (a_sign sign.RightParen ∷ []) ∙ flat line f
flat line (joint l f g) =
    line_append line (inside f ++ (gap ∷ a_word (link_word l) ∷ gap ∷ inside g)) (a_sign sign.RightParen ∷ [])
    ∙ line_append line (inside f) (gap ∷ a_word (link_word l) ∷ gap ∷ inside g)
    ∙ ap (λ (k : ℕ). line_of k (inside g)) (flat line f)
    ∙ flat line g

flat_whole : (line : ℕ) (f : Formula) → line_of line (whole f) ≡ line
flat_whole line (variable x) = refl
flat_whole line (constant b) = refl
flat_whole line (opposite f) = flat line f
flat_whole line (joint l f g) = line_append line (inside f) (gap ∷ a_word (link_word l) ∷ gap ∷ inside g) ∙ ap (λ (k : ℕ). line_of k (inside g)) (flat line f) ∙ flat line g

on_line : (line : ℕ) (xs ys : List Written) → line_of line xs ≡ line → placed line (xs ++ ys) ≡ placed line xs ++ placed line ys
on_line line xs ys same = placed_append line xs ys ∙ ap (λ (k : ℕ). placed line xs ++ placed k ys) same

-- ---- what is counted

abbrev with_count : State → ℕ → State
with_count s k = record s { operators = k }

none_more : (s : State) → s ≡ with_links 0 s
none_more s = ap (with_count s) (omega arith)

one_more : (n : ℕ) (s : State) → with_links n (with_operator s) ≡ with_links (1 + n) s
one_more n s = ap (with_count s) (omega arith)

both_more : (n m : ℕ) (s : State) → with_links m (with_operator (with_links n s)) ≡ with_links (n + (1 + m)) s
both_more n m s = ap (with_count s) (omega arith)

-- ---- levels

-- what may stand in parentheses where so many more may be open
abbrev inner_of : ℕ → Grammar Tree
inner_of zero = none
inner_of (suc n) = nested n n

spell_nested : (n : ℕ) (x : Tree) {ts : List PlacedToken} {s s' : State} → Spells (expression_over n (inner_of n)) x ts s s' → Spells (nested n n) x ts s s'
unfolding nested
spell_nested zero x p = p
spell_nested (suc n) x p = p

spell_closed_in : (n : ℕ) (x : Tree) (ws : List Written) (line : ℕ) {s s' : State} → Few s → Few s' → line_of line ws ≡ line → Spells (expression_over n (inner_of n)) x (placed line ws) s s'
    → Spells (primary (suc n) (nested n n)) x (placed line (a_sign sign.LeftParen ∷ ws ++ a_sign sign.RightParen ∷ [])) s s'
spell_closed_in n x ws line few few' same p =
    spell_as (ap (λ (ts : List PlacedToken). at (token.Sign sign.LeftParen) line ∷ ts) (sym (on_line line ws (a_sign sign.RightParen ∷ []) same)))
    (spell_parentheses (suc n) (nested n n) x line few few' (ne_eqb (suc n) 0 (omega arith)) (spell_nested n x p))

-- ---- forms

-- the operand, and what it counts
abbrev Inside : ℕ → ℕ → Formula → State → Type 0
Inside n line f s = Spells (primary n (inner_of n)) (tree line f) (placed line (inside f)) s (with_links (links f) s)

abbrev Whole : ℕ → ℕ → Formula → State → Type 0
Whole n line f s = Spells (expression_over n (inner_of n)) (tree line f) (placed line (whole f)) s (with_links (links f) s)

spell_opposite : (n line : ℕ) (f : Formula) (s : State) → Few s → s.operators < CHAIN → Inside n line f (with_operator s) → Whole n line (opposite f) s
spell_opposite n line f s few free p =
    let x = tree line f in
    spell_to (one_more (links f) s)
    (spell_alone n (inner_of n) (inverse line x) (spell_relation n (inner_of n) (inverse line x) (spell_not n (inner_of n) x line few free p)))

word_kind : (l : Link) (line : ℕ) → code_of (at (token.Keyword (link_word l)) line) ≡ code (link_form l)
unfolding code_of
word_kind l line = refl

spell_joint : (n line : ℕ) (l : Link) (f g : Formula) (s : State) → Few s → s.operators + links f < CHAIN → Inside n line f s → Inside n line g (with_operator (with_links (links f) s)) → Whole n line (joint l f g) s
spell_joint n line l f g s few free p q =
    let inner = inner_of n in
    let operand = relation n inner in
    let t = at (token.Keyword (link_word l)) line in
    let s' = with_links (links f) s in
    let s'' = with_links (links g) (with_operator s') in
    let ls = placed line (inside f) in
    let rs = placed line (inside g) in
    let second : ℕ × Tree = (line, tree line g) in
    spell_to (both_more (links f) (links g) s)
    (spell_as (ap (λ (ts : List PlacedToken). ls ++ ts) (append-nil (t ∷ rs)) ∙ sym (on_line line (inside f) (gap ∷ a_word (link_word l) ∷ gap ∷ inside g) (flat line f)))
    (spell_linked l n inner (tree line f) second []
    (spell_relation n inner (tree line f) (spell_plain_factor n inner (tree line f) p))
    (spell_joined (link_form l) operand t (tree line g) (word_kind l line) few free (spell_relation n inner (tree line g) (spell_plain_factor n inner (tree line g) q)))
    (spell_none (joined (link_form l) operand) s'')))

spell_inside : (f : Formula) (n line : ℕ) (s : State) → Few s → IsWithin f n → s.operators + links f ≤ CHAIN → Inside n line f s
spell_inside (variable x) n line s few within free = spell_to (none_more s) (spell_named n (inner_of n) x line s few)
spell_inside (constant b) n line s few within free = spell_to (none_more s) (spell_bit n (inner_of n) b line s few)
spell_inside (opposite f) zero line s few within free = absurd within
spell_inside (opposite f) (suc n) line s few within free =
    spell_closed_in n (tree line (opposite f)) (whole (opposite f)) line few few (flat_whole line (opposite f))
    (spell_opposite n line f s few (omega (arith, free)) (spell_inside f n line (with_operator s) few within (omega (arith, free))))
spell_inside (joint l f g) zero line s few within free = absurd within
spell_inside (joint l f g) (suc n) line s few within free =
    spell_closed_in n (tree line (joint l f g)) (whole (joint l f g)) line few few (flat_whole line (joint l f g))
    (spell_joint n line l f g s few (omega (arith, free))
    (spell_inside f n line s few within.0 (omega (arith, free)))
    (spell_inside g n line (with_operator (with_links (links f) s)) few within.1 (omega (arith, free))))

spell_whole : (f : Formula) (n line : ℕ) (s : State) → Few s → IsWholeWithin f n → s.operators + links f ≤ CHAIN → Whole n line f s
spell_whole (variable x) n line s few within free =
    spell_alone n (inner_of n) (name x line) (spell_relation n (inner_of n) (name x line) (spell_plain_factor n (inner_of n) (name x line) (spell_inside (variable x) n line s few tt free)))
spell_whole (constant b) n line s few within free =
    spell_alone n (inner_of n) (bit b line) (spell_relation n (inner_of n) (bit b line) (spell_plain_factor n (inner_of n) (bit b line) (spell_inside (constant b) n line s few tt free)))
spell_whole (opposite f) n line s few within free =
    spell_opposite n line f s few (omega (arith, free)) (spell_inside f n line (with_operator s) few within (omega (arith, free)))
spell_whole (joint l f g) n line s few within free =
    spell_joint n line l f g s few (omega (arith, free))
    (spell_inside f n line s few within.0 (omega (arith, free)))
    (spell_inside g n line (with_operator (with_links (links f) s)) few within.1 (omega (arith, free)))

-- an expression that is laid out spells itself
pub spell_formula : (f : Formula) (room line : ℕ) (s : State) → Few s → IsWholeWithin f room → s.operators + links f ≤ CHAIN
    → Spells (expression room) (tree line f) (placed line (whole f)) s (with_links (links f) s)
spell_formula f room line s few within free = spell_some room (spell_nested room (tree line f) (spell_whole f room line s few within free))

-- ---- bytes

fit_inside : (f : Formula) (next : ℕ) → AreNames f → EndsWord next → Fit (inside f) next
fit_inside (variable x) next are ends = ((are, ends), tt)
fit_inside (constant b) next are ends = ((tt, refl), tt)
fit_inside (opposite f) next are ends = ((tt, refl), ((tt, refl), fit_both (inside f) (a_sign sign.RightParen ∷ []) next (fit_inside f 41 are refl) ((tt, refl), tt)))
fit_inside (joint l f g) next are ends =
    let behind = gap ∷ a_word (link_word l) ∷ gap ∷ inside g in (
      (tt, refl),
      fit_both (inside f ++ behind) (a_sign sign.RightParen ∷ []) next
          (fit_both (inside f) behind 41 (fit_inside f 32 are.0 refl) ((tt, refl), fit_inside g 41 are.1 refl))
          ((tt, refl), tt),
    )

fit_whole : (f : Formula) (next : ℕ) → AreNames f → EndsWord next → Fit (whole f) next
fit_whole (variable x) next are ends = ((are, ends), tt)
fit_whole (constant b) next are ends = ((tt, refl), tt)
fit_whole (opposite f) next are ends = ((tt, refl), fit_inside f next are ends)
fit_whole (joint l f g) next are ends = fit_both (inside f) (gap ∷ a_word (link_word l) ∷ gap ∷ inside g) next (fit_inside f 32 are.0 refl) ((tt, refl), fit_inside g next are.1 ends)

one_answer : (room : ℕ) → OneAnswerToAll (expression room)
one_answer room = unique.one_answer_to_all (expression room) false factor_firsts expression_lasts (exact_expression {P = ⊥} room).shape (expression_at room) (reading_answers room)

pub formula_is_read_again : FormulaIsReadAgain
unfolding tokens_in refusal_in
formula_is_read_again room f within few are =
    let r = spell_formula f room 1 uncounted refl within (omega (arith, few)) in
    let a = again vhdl (expression room) (tree 1 f) (whole f) (with_links (links f) uncounted) (fit_whole f 0 are refl) r (one_answer room) in
    (a.cut, a.read)
