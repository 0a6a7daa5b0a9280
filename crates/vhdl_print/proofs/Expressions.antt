-- Tokens that spell an expression, one form at a time.
use Rattle.std.proofs.Common.{◌≡◌, ℕ, ◌<◌, ◌==◌, Bool, false, List, [], ◌∷◌, ◌++◌, refl}
use Rattle.std.proofs.lemmas.List.{append-nil}
use Rattle.vlsi_base.specs.Tree.{Tree, bit, name, inverse, folded}
use Rattle.vhdl_token.specs.declared.keyword.Keyword.TheVariants as word
use Rattle.vhdl_token.specs.declared.token.Token.TheVariants as token
use Rattle.vhdl_token.specs.declared.token.Sign.TheVariants as sign
use Rattle.vhdl_token.specs.declared.token.PlacedToken.{PlacedToken}
use Rattle.grammar_theory.specs.declared.form.Form.{Form}
use Rattle.grammar_theory.specs.declared.form.Form.TheVariants as form
use Rattle.grammar_theory.specs.declared.limits.TheConstants.{CHAIN}
use Rattle.grammar_theory.specs.Tokens.{code, code_of}
use Rattle.grammar_theory.specs.Marks.{opens, operator, State}
use Rattle.grammar_theory.specs.Grammar.{Grammar, list}
use Rattle.vhdl_front.specs.Expression.{closing, suffix, named, bit_literal, parenthesized, primary, factor, joined, cat, chain, relation, logical, expression_over}
use Rattle.spell_theory.specs.Spells.{Spells}
use Rattle.spell_theory.proofs.Combinators.{spell_nothing, spell_lead, spell_then, spell_left, spell_right, spell_none, spell_as}
use Rattle.vhdl_print.specs.Formula.{Link, conjunction, disjunction, exclusion, link_word, link_of}
use Rattle.vhdl_print.proofs.Steps.{Few, plain_step, opens_step, operator_step, with_operator}
use Rattle.vhdl_print.proofs.Entities.{at, spell_sign}

-- ---- operands

pub spell_named : (room : ℕ) (inner : Grammar Tree) (x : List ℕ) (line : ℕ) (s : State) → Few s → Spells (primary room inner) (name x line) (at (token.Identifier x) line ∷ []) s s
unfolding primary named suffix code_of
spell_named room inner x line s few =
    spell_right (spell_right (spell_right (spell_right
    (spell_lead form.Identifier _ (at (token.Identifier x) line) (name x line) refl (plain_step s few)
    (spell_right (spell_right (spell_nothing (name x line) s)))))))

pub spell_bit : (room : ℕ) (inner : Grammar Tree) (b : Bool) (line : ℕ) (s : State) → Few s → Spells (primary room inner) (bit b line) (at (token.Bit b) line ∷ []) s s
unfolding primary bit_literal code_of
spell_bit room inner b line s few = spell_right (spell_left (spell_lead form.Bit _ (at (token.Bit b) line) (bit b line) refl (plain_step s few) (spell_nothing (bit b line) s)))

-- one parenthesis more is open inside
pub spell_parentheses : (room : ℕ) (inner : Grammar Tree) (x : Tree) (line : ℕ) {ts : List PlacedToken} {s s' : State} → Few s → Few s' → (room == 0) ≡ false → Spells inner x ts s s'
    → Spells (primary room inner) x (at (token.Sign sign.LeftParen) line ∷ ts ++ at (token.Sign sign.RightParen) line ∷ []) s s'
unfolding primary parenthesized closing code_of
spell_parentheses room inner x line {s = s} {s' = s'} few few' deep within =
    spell_left (spell_lead (form.Sign sign.LeftParen) (λ _. opens room) (at (token.Sign sign.LeftParen) line) x refl (opens_step room s few deep)
    (spell_then x x within (spell_sign sign.RightParen line x few' (spell_nothing x s'))))

-- ---- operators

pub spell_plain_factor : (room : ℕ) (inner : Grammar Tree) (x : Tree) {ts : List PlacedToken} {s s' : State} → Spells (primary room inner) x ts s s' → Spells (factor room inner) x ts s s'
unfolding factor
spell_plain_factor room inner x p = spell_right p

pub spell_not : (room : ℕ) (inner : Grammar Tree) (x : Tree) (line : ℕ) {ts : List PlacedToken} {s s' : State} → Few s → s.operators < CHAIN → Spells (primary room inner) x ts (with_operator s) s'
    → Spells (factor room inner) (inverse line x) (at (token.Keyword word.Not) line ∷ ts) s s'
unfolding factor code_of
spell_not room inner x line {ts} {s} {s'} few free p =
    spell_left (spell_lead (form.Keyword word.Not) (λ _. operator) (at (token.Keyword word.Not) line) (inverse line x) refl (operator_step s few free)
    (spell_as (append-nil ts) (spell_then x (inverse line x) p (spell_nothing (inverse line x) s'))))

pub spell_relation : (room : ℕ) (inner : Grammar Tree) (x : Tree) {ts : List PlacedToken} {s s' : State} → Spells (factor room inner) x ts s s' → Spells (relation room inner) x ts s s'
unfolding relation cat
spell_relation room inner x {ts} {s} {s'} p =
    spell_as (append-nil ts)
    (spell_then x x
    (spell_as (append-nil ts) (spell_then x x p (spell_then [] x (spell_none (joined (form.Sign sign.Ampersand) (factor room inner)) s') (spell_nothing x s'))))
    (spell_right (spell_right (spell_nothing x s'))))

pub spell_joined : (f : Form) (operand : Grammar Tree) (t : PlacedToken) (x : Tree) {ts : List PlacedToken} {s s' : State} → code_of t ≡ code f → Few s → s.operators < CHAIN → Spells operand x ts (with_operator s) s'
    → Spells (joined f operand) (t.line, x) (t ∷ ts) s s'
unfolding joined
spell_joined f operand t x {ts} {s} {s'} kind few free p =
    let y : ℕ × Tree = (t.line, x) in
    spell_lead f (λ _. operator) t y kind (operator_step s few free) (spell_as (append-nil ts) (spell_then x y p (spell_nothing y s')))

pub spell_alone : (room : ℕ) (inner : Grammar Tree) (x : Tree) {ts : List PlacedToken} {s s' : State} → Spells (relation room inner) x ts s s' → Spells (expression_over room inner) x ts s s'
unfolding expression_over logical
spell_alone room inner x {ts} {s} {s'} p =
    spell_as (append-nil ts) (spell_then x x p (spell_right (spell_right (spell_right (spell_right (spell_right (spell_right (spell_nothing x s'))))))))

abbrev pub link_form : Link → Form
link_form l = form.Keyword (link_word l)

-- the operands of one operator, as many as there are
spell_chain : (f : Form) (l : Link) (operand : Grammar Tree) (x : Tree) (first : ℕ × Tree) (others : List (ℕ × Tree)) {ts us : List PlacedToken} {s s' s'' : State}
    → Spells (joined f operand) first ts s s' → Spells (list (joined f operand)) others us s' s''
    → Spells (chain f (link_of l) operand x) (folded (link_of l) x (first ∷ others)) (ts ++ us) s s''
unfolding chain
spell_chain f l operand x first others {ts} {us} {s} {s'} {s''} one more =
    let y = folded (link_of l) x (first ∷ others) in
    spell_then first y one (spell_as (append-nil us) (spell_then others y more (spell_nothing y s'')))

pub spell_linked : (l : Link) (room : ℕ) (inner : Grammar Tree) (x : Tree) (first : ℕ × Tree) (others : List (ℕ × Tree)) {ts us vs : List PlacedToken} {s s' s'' t : State}
    → Spells (relation room inner) x ts s s' → Spells (joined (link_form l) (relation room inner)) first us s' s'' → Spells (list (joined (link_form l) (relation room inner))) others vs s'' t
    → Spells (expression_over room inner) (folded (link_of l) x (first ∷ others)) (ts ++ (us ++ vs)) s t
unfolding expression_over logical
spell_linked conjunction room inner x first others p one more = spell_then x (folded (link_of conjunction) x (first ∷ others)) p (spell_left (spell_chain (link_form conjunction) conjunction (relation room inner) x first others one more))
spell_linked disjunction room inner x first others p one more = spell_then x (folded (link_of disjunction) x (first ∷ others)) p (spell_right (spell_left (spell_chain (link_form disjunction) disjunction (relation room inner) x first others one more)))
spell_linked exclusion room inner x first others p one more = spell_then x (folded (link_of exclusion) x (first ∷ others)) p (spell_right (spell_right (spell_left (spell_chain (link_form exclusion) exclusion (relation room inner) x first others one more))))
