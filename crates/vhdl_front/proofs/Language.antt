-- Each reader reads its grammar.
use Rattle.std.proofs.Common.{◌++◌, ◌≡◌, ℕ, zero, suc, ◌<◌, ◌+◌, Bool, true, false, List, [], ◌∷◌, codes, refl, Err, arith}
use Rattle.vlsi_base.specs.declared.expression.Operator.{Operator}
use Rattle.vlsi_base.specs.declared.expression.Operator.TheVariants as operation
use Rattle.vlsi_base.specs.declared.radix.Radix.TheVariants as radix
use Rattle.vlsi_base.specs.Tree.{Tree, bit, literal, name, index, slice, stable, inverse, binary, folded}
use Rattle.vhdl_token.specs.declared.keyword.Keyword.TheVariants as word
use Rattle.vhdl_token.specs.declared.token.Sign.TheVariants as sign
use Rattle.grammar_theory.specs.declared.form.Form.{Form}
use Rattle.grammar_theory.specs.declared.form.Form.TheVariants as form
use Rattle.grammar_theory.specs.declared.refusal.Breach.TheVariants as broken
use Rattle.grammar_theory.specs.Tokens.{code}
use Rattle.grammar_theory.specs.Marks.{opens, operator, spells}
use Rattle.grammar_theory.specs.Grammar.{Grammar, none, nothing}
use Rattle.grammar_theory.specs.Outcome.{Reader}
use Rattle.grammar_theory.proofs.Sets.{Set, disjoint}
use Rattle.grammar_theory.proofs.Exact.{Shape}
use Rattle.grammar_theory.proofs.Bundle.{Exact, exact_nothing, exact_one, exact_marked, exact_then, exact_either, exact_behind, within, none_shape}
use Rattle.grammar_theory.proofs.Many.{exact_list}
use Rattle.vhdl_front.specs.Cursor.{name_of, number_of, bit_of, digits_of, radix_of}
use Rattle.vhdl_front.specs.Expression.{number, closing, direction, slice_of, places, suffix, named, bit_literal, text_literal, string_literal, parenthesized, primary, factor, joined, cat, pair, chain, relation, logical, expression_over}
use Rattle.vhdl_front.specs.Reading.{number_at, closing_at, direction_at, slice_at, places_at, stable_at, bounded_at, suffix_at, named_at, bit_at, text_at, string_at, primary_at, inverse_at, factor_at, joined_at, cat_at, pair_at, chain_at, compared_at, relation_at, logical_at, expression_over_at}

abbrev pub numbers : List Form → Set
numbers [] = []
numbers (f ∷ fs) = code f ∷ numbers fs

abbrev paren : Form
paren = form.Sign sign.LeftParen

pub exact_number : {P : Type 0} → Exact P number number false (numbers (form.Number ∷ [])) [] number_at
unfolding number number_at
exact_number = exact_then (exact_one form.Number) (λ t. exact_nothing (number_of t)) refl

pub exact_closing : {P A : Type 0} (x : A) → Exact P (closing x) (closing x) false (numbers (form.Sign sign.RightParen ∷ [])) [] (closing_at x)
unfolding closing closing_at
exact_closing x = exact_then (exact_one (form.Sign sign.RightParen)) (λ t. exact_nothing x) refl

abbrev pub directions : Set
directions = numbers (form.Keyword word.Downto ∷ form.Keyword word.To ∷ [])

pub exact_direction : {P : Type 0} → Exact P direction direction false directions [] direction_at
unfolding direction direction_at
exact_direction = exact_behind (form.Keyword word.Downto) (exact_then (exact_one (form.Keyword word.Downto)) (λ t. exact_nothing true) refl) (exact_then (exact_one (form.Keyword word.To)) (λ t. exact_nothing false) refl) refl

exact_slice : {P : Type 0} (x : List ℕ) (line paren left : ℕ) → Exact P (slice_of x line paren left) (slice_of x line paren left) false directions [] (slice_at x line paren left)
unfolding slice_of slice_at
exact_slice x line paren left = exact_then exact_direction (λ falls. exact_then exact_number (λ right. exact_closing (slice x line (record { left = left; falls = falls; right = right; line = paren }))) refl) refl

exact_places : {P : Type 0} (x : List ℕ) (line paren : ℕ) → Exact P (places x line paren) (places x line paren) false (numbers (form.Number ∷ [])) [] (places_at x line paren)
unfolding places places_at
exact_places x line paren = exact_then exact_number (λ left. exact_behind (form.Sign sign.RightParen) (exact_closing (index x line left)) (exact_slice x line paren left) refl) refl

abbrev suffix_firsts : Set
suffix_firsts = numbers (paren ∷ form.Sign sign.Tick ∷ [])

exact_suffix : {P : Type 0} (room : ℕ) (x : List ℕ) (line : ℕ) → Exact P (suffix room x line) (suffix room x line) true suffix_firsts suffix_firsts (suffix_at room x line)
unfolding suffix suffix_at bounded_at stable_at
exact_suffix room x line = within suffix_firsts suffix_firsts
    (exact_behind paren (exact_then (exact_marked paren (λ _. opens room)) (λ t. exact_places x line t.line) refl)
    (exact_behind (form.Sign sign.Tick) (exact_then (exact_one (form.Sign sign.Tick)) (λ t. exact_then (exact_marked form.Identifier (λ u. spells (codes "stable") (name_of u))) (λ u. exact_nothing (stable x line)) refl) refl)
    (exact_nothing (name x line)) refl) refl) refl refl refl

exact_named : {P : Type 0} (room : ℕ) → Exact P (named room) (named room) false (numbers (form.Identifier ∷ [])) suffix_firsts (named_at room)
unfolding named named_at
exact_named room = within (numbers (form.Identifier ∷ [])) suffix_firsts (exact_then (exact_one form.Identifier) (λ t. exact_suffix room (name_of t) t.line) refl) refl refl refl

exact_bit : {P : Type 0} → Exact P bit_literal bit_literal false (numbers (form.Bit ∷ [])) [] bit_at
unfolding bit_literal bit_at
exact_bit = exact_then (exact_one form.Bit) (λ t. exact_nothing (bit (bit_of t) t.line)) refl

exact_text : {P : Type 0} → Exact P text_literal text_literal false (numbers (form.BitText ∷ [])) [] text_at
unfolding text_literal text_at
exact_text = exact_then (exact_one form.BitText) (λ t. exact_nothing (literal radix.Binary (digits_of t) t.line)) refl

exact_string : {P : Type 0} → Exact P string_literal string_literal false (numbers (form.BitString ∷ [])) [] string_at
unfolding string_literal string_at
exact_string = exact_then (exact_one form.BitString) (λ t. exact_nothing (literal (radix_of t) (digits_of t) t.line)) refl

-- what is done at an opening parenthesis
abbrev pub Enters : Type 0 → ℕ → Grammar Tree → Grammar Tree → Reader Tree → Type 0
Enters P room SI BI enter = Exact P (parenthesized room SI) (parenthesized room BI) false (numbers (paren ∷ [])) [] enter

abbrev primary_firsts : Set
primary_firsts = numbers (paren ∷ form.Bit ∷ form.BitText ∷ form.BitString ∷ form.Identifier ∷ [])

exact_primary : {P : Type 0} (room : ℕ) (SI BI : Grammar Tree) {enter : Reader Tree} → Enters P room SI BI enter
    → Exact P (primary room SI) (primary room BI) false primary_firsts suffix_firsts (primary_at room enter)
unfolding primary primary_at
exact_primary room SI BI e = within primary_firsts suffix_firsts (exact_behind paren e (exact_behind form.Bit exact_bit (exact_behind form.BitText exact_text (exact_behind form.BitString exact_string (exact_named room) refl) refl) refl) refl) refl refl refl

abbrev pub factor_firsts : Set
factor_firsts = numbers (form.Keyword word.Not ∷ paren ∷ form.Bit ∷ form.BitText ∷ form.BitString ∷ form.Identifier ∷ [])

pub exact_factor : {P : Type 0} (room : ℕ) (SI BI : Grammar Tree) {enter : Reader Tree} → Enters P room SI BI enter
    → Exact P (factor room SI) (factor room BI) false factor_firsts suffix_firsts (factor_at room enter)
unfolding factor factor_at inverse_at
exact_factor room SI BI e = within factor_firsts suffix_firsts (exact_behind (form.Keyword word.Not) (exact_then (exact_marked (form.Keyword word.Not) (λ _. operator)) (λ t. exact_then (exact_primary room SI BI e) (λ v. exact_nothing (inverse t.line v)) refl) refl) (exact_primary room SI BI e) refl) refl refl refl

pub exact_joined : {P : Type 0} (f : Form) {S B : Grammar Tree} {fo lo : Set} {r : Reader Tree} → Exact P S B false fo lo r → disjoint lo [] ≡ true
    → Exact P (joined f S) (joined f B) false (code f ∷ []) (lo ++ []) (joined_at f r)
unfolding joined joined_at
exact_joined f e apart = exact_then (exact_marked f (λ _. operator)) (λ t. exact_then e (λ v. exact_nothing (t.line, v)) apart) refl

abbrev cat_lasts : Set
cat_lasts = numbers (form.Sign sign.Ampersand ∷ paren ∷ form.Sign sign.Tick ∷ [])

pub exact_cat : {P : Type 0} (room : ℕ) (SI BI : Grammar Tree) {enter : Reader Tree} → Enters P room SI BI enter
    → Exact P (cat room SI) (cat room BI) false factor_firsts cat_lasts (cat_at room enter)
unfolding cat cat_at
exact_cat room SI BI e = within factor_firsts cat_lasts (exact_then (exact_factor room SI BI e)
    (λ left. exact_then (exact_list (exact_joined (form.Sign sign.Ampersand) (exact_factor room SI BI e) refl) refl) (λ others. exact_nothing (folded operation.Join left others)) refl) refl) refl refl refl

exact_pair : {P : Type 0} (f : Form) (op : Operator) (left : Tree) {S B : Grammar Tree} {fo lo : Set} {r : Reader Tree} → Exact P S B false fo lo r → disjoint lo [] ≡ true → disjoint (lo ++ []) [] ≡ true
    → Exact P (pair f op S left) (pair f op B left) false (code f ∷ []) (lo ++ []) (pair_at f op r left)
unfolding pair pair_at
exact_pair f op left e apart more = exact_then (exact_joined f e apart) (λ right. exact_nothing (binary op right.0 left right.1)) more

exact_chain : {P : Type 0} (f : Form) (op : Operator) (left : Tree) {S B : Grammar Tree} {fo lo : Set} {r : Reader Tree} → Exact P S B false fo lo r → disjoint lo [] ≡ true → disjoint (lo ++ []) (code f ∷ []) ≡ true → disjoint ((lo ++ []) ++ (code f ∷ [])) [] ≡ true
    → Exact P (chain f op S left) (chain f op B left) false (code f ∷ []) (((lo ++ []) ++ (code f ∷ [])) ++ (lo ++ [])) (chain_at f op r left)
unfolding chain chain_at
exact_chain f op left e apart other last = exact_then (exact_joined f e apart) (λ first. exact_then (exact_list (exact_joined f e apart) other) (λ others. exact_nothing (folded op left (first ∷ others))) last) other

abbrev relation_lasts : Set
relation_lasts = numbers (form.Sign sign.Equal ∷ form.Sign sign.Unequal ∷ form.Sign sign.Ampersand ∷ paren ∷ form.Sign sign.Tick ∷ [])

pub exact_relation : {P : Type 0} (room : ℕ) (SI BI : Grammar Tree) {enter : Reader Tree} → Enters P room SI BI enter
    → Exact P (relation room SI) (relation room BI) false factor_firsts relation_lasts (relation_at room enter)
unfolding relation relation_at compared_at
exact_relation room SI BI e = within factor_firsts relation_lasts (exact_then (exact_cat room SI BI e)
    (λ left. exact_behind (form.Sign sign.Equal) (exact_pair (form.Sign sign.Equal) operation.Equal left (exact_cat room SI BI e) refl refl)
    (exact_behind (form.Sign sign.Unequal) (exact_pair (form.Sign sign.Unequal) operation.Unequal left (exact_cat room SI BI e) refl refl) (exact_nothing left) refl) refl) refl) refl refl refl

abbrev logical_firsts : Set
logical_firsts = numbers (form.Keyword word.And ∷ form.Keyword word.Or ∷ form.Keyword word.Xor ∷ form.Keyword word.Xnor ∷ form.Keyword word.Nand ∷ form.Keyword word.Nor ∷ [])

abbrev pub expression_lasts : Set
expression_lasts = numbers (form.Keyword word.And ∷ form.Keyword word.Or ∷ form.Keyword word.Xor ∷ form.Keyword word.Xnor ∷ form.Keyword word.Nand ∷ form.Keyword word.Nor ∷ form.Sign sign.Equal ∷ form.Sign sign.Unequal ∷ form.Sign sign.Ampersand ∷ paren ∷ form.Sign sign.Tick ∷ [])

exact_logical : {P : Type 0} {S B : Grammar Tree} {r : Reader Tree} → Exact P S B false factor_firsts relation_lasts r → (left : Tree)
    → Exact P (logical S left) (logical B left) true logical_firsts expression_lasts (logical_at r left)
unfolding logical logical_at
exact_logical e left = within logical_firsts expression_lasts
    (exact_behind (form.Keyword word.And) (exact_chain (form.Keyword word.And) operation.And left e refl refl refl)
    (exact_behind (form.Keyword word.Or) (exact_chain (form.Keyword word.Or) operation.Or left e refl refl refl)
    (exact_behind (form.Keyword word.Xor) (exact_chain (form.Keyword word.Xor) operation.Xor left e refl refl refl)
    (exact_behind (form.Keyword word.Xnor) (exact_chain (form.Keyword word.Xnor) operation.Xnor left e refl refl refl)
    (exact_behind (form.Keyword word.Nand) (exact_pair (form.Keyword word.Nand) operation.Nand left e refl refl)
    (exact_behind (form.Keyword word.Nor) (exact_pair (form.Keyword word.Nor) operation.Nor left e refl refl)
    (exact_nothing left) refl) refl) refl) refl) refl) refl) refl refl refl

pub exact_expression_over : {P : Type 0} (room : ℕ) (SI BI : Grammar Tree) {enter : Reader Tree} → Enters P room SI BI enter
    → Exact P (expression_over room SI) (expression_over room BI) false factor_firsts expression_lasts (expression_over_at room enter)
unfolding expression_over expression_over_at
exact_expression_over room SI BI e = within factor_firsts expression_lasts (exact_then (exact_relation room SI BI e) (λ left. exact_logical (exact_relation room SI BI e) left) refl) refl refl refl
