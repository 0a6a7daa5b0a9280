-- An expression that is laid out spells itself: names and bits, `not`, and operands that are joined by one gate, however many.
use Rattle.std.proofs.Common.{◌≡◌, ℕ, zero, suc, ◌+◌, ◌≤◌, Bool, true, false, List, [], ◌∷◌, ◌++◌, Option, None, Some, refl, sym, ap, subst, ◌∙◌, arith, append_assoc}
use Rattle.std.proofs.lemmas.List.{append-nil}
use Rattle.std.proofs.lemmas.Bool.{ne_eqb}
use Rattle.vlsi_base.specs.declared.expression.Operator.{Operator}
use Rattle.vlsi_base.specs.declared.name.Name.{Name}
use Rattle.vlsi_base.specs.Tree.{Tree, index, inverse, binary, folded}
use Rattle.bool_expr.specs.declared.expr.Gate.{Gate}
use Rattle.bool_expr.specs.declared.expr.Gate.TheVariants as gate
use Rattle.bool_expr.specs.Expression.{Expression, constant, variable, inverse as not_of, pair, choice}
use Rattle.vhdl_token.specs.declared.token.PlacedToken.{PlacedToken}
use Rattle.vhdl_token.specs.declared.token.Token.TheVariants as token
use Rattle.vhdl_token.specs.declared.token.Sign.TheVariants as sign
use Rattle.grammar_theory.specs.declared.form.Form.{Form}
use Rattle.grammar_theory.specs.declared.form.Form.TheVariants as form
use Rattle.grammar_theory.specs.declared.limits.TheConstants.{CHAIN}
use Rattle.grammar_theory.specs.Tokens.{code, code_of}
use Rattle.grammar_theory.specs.Marks.{Item, State, plain, opens}
use Rattle.grammar_theory.specs.Grammar.{Grammar, list, none}
use Rattle.grammar_theory.specs.Answers.{tokens_of}
use Rattle.grammar_theory.proofs.Sequence.{run-append}
use Rattle.vhdl_front.specs.Expression.{closing, places, suffix, named, primary as primary_of, factor, relation, joined as joined_by, chain, pair as pair_of, expression_over, logical, nested, expression}
use Rattle.spell_theory.specs.Spells.{Spells}
use Rattle.spell_theory.specs.Layout.{Written, gap, placed, line_of}
use Rattle.spell_theory.proofs.Combinators.{spell_nothing, spell_lead, spell_then, spell_left, spell_right, spell_none, spell_some, spell_as, spell_to}
use Rattle.spell_theory.proofs.Layouts.{placed_append, line_append}
use Rattle.vhdl_print.proofs.Entities.{at, spell_number, spell_sign}
use Rattle.vhdl_print.proofs.Steps.{Few, plain_step, opens_step, with_operator}
use Rattle.vhdl_print.proofs.Expressions.{spell_named, spell_bit, spell_parentheses, spell_plain_factor, spell_not, spell_relation, spell_joined, spell_alone}
use Rattle.vhdl_print.specs.Formula.{with_links}
use Rattle.vhdl_print.specs.Outline.{a_word, a_sign}
use Rattle.vst_print.specs.Structure.{bit_layout, name_layout}
use Rattle.vbe_print.specs.Expressions.{Shape, atom, turned, joined, Laid, gate_word, chains, in_parentheses, unless, primary, operand, leading, laid, expression_layout, name_of}
use Rattle.vbe_print.specs.Placed.{operator_of, placed_bit, placed_name, tree}
use Rattle.vbe_print.specs.Nesting.{shape_of, bit_within, primary_within, operand_within, unless_within, leading_within, IsWithin}
use Rattle.vbe_print.specs.Said.{operators}

abbrev pub gate_form : Gate → Form
gate_form g = form.Keyword (gate_word g)

-- what may stand in parentheses where so many more may be open
abbrev pub inner_of : ℕ → Grammar Tree
inner_of zero = none
inner_of (suc n) = nested n n

-- ---- what spells an expression

-- The operands that stand behind one another: the first one, and those that a gate joins to it.
pub record Chain (x : Tree) (ts : List PlacedToken) (g : Gate) (k n : ℕ) (s : State) : Type 0 where
  pub first : Tree
  pub others : List (ℕ × Tree)
  pub front : List PlacedToken
  pub back : List PlacedToken
  pub between : State
  pub tree_is : folded (operator_of g) first others ≡ x
  pub tokens_are : front ++ back ≡ ts
  pub leads : Spells (relation n (inner_of n)) first front s between
  pub follows : Spells (list (joined_by (gate_form g) (relation n (inner_of n)))) others back between (with_links k s)

-- an expression that is laid out, with its tree and the number of its operators: as a whole, and what its shape allows beside
pub record Spelled (l : Laid) (x : Tree) (k n line : ℕ) (s : State) : Type 0 where
  pub whole : Spells (expression_over n (inner_of n)) x (placed line l.text) s (with_links k s)
  pub chained : (g : Gate) → l.shape ≡ joined g → Chain x (placed line l.text) g k n s
  pub plain : l.shape ≡ atom → Spells (primary_of n (inner_of n)) x (placed line l.text) s (with_links k s)
  pub inverted : l.shape ≡ turned → Spells (factor n (inner_of n)) x (placed line l.text) s (with_links k s)

-- wherever it fits
abbrev pub Can : List Name → Expression → Type 0
Can names e =
    (n line : ℕ) (s : State) → Few s → IsWithin names e n → s.operators + operators e ≤ CHAIN
    → Spelled (laid names e) (tree names line e) (operators e) n line s

-- ---- one line

flat_bit : (line : ℕ) (b : Option ℕ) → line_of line (bit_layout b) ≡ line
flat_bit line None = refl
flat_bit line (Some k) = refl

flat_closed : (line : ℕ) (ws : List Written) → line_of line ws ≡ line → line_of line (in_parentheses ws) ≡ line
flat_closed line ws same = line_append line ws (a_sign sign.RightParen ∷ []) ∙ same

flat_primary : (line : ℕ) (l : Laid) → line_of line l.text ≡ line → line_of line (primary l) ≡ line
flat_primary line l same = by l.shape refl where
  by : (k : Shape) → l.shape ≡ k → line_of line (primary l) ≡ line
  by atom e = rw e same
  by turned e = rw e (flat_closed line l.text same)
  by (joined g) e = rw e (flat_closed line l.text same)

pub flat_operand : (line : ℕ) (l : Laid) → line_of line l.text ≡ line → line_of line (operand l) ≡ line
flat_operand line l same = by l.shape refl where
  by : (k : Shape) → l.shape ≡ k → line_of line (operand l) ≡ line
  by atom e = rw e same
  by turned e = rw e same
  by (joined g) e = rw e (flat_closed line l.text same)

flat_leading : (g : Gate) (line : ℕ) (l : Laid) → line_of line l.text ≡ line → line_of line (leading g l) ≡ line
flat_leading g line l same = by l.shape refl where
  unless_flat : (b : Bool) → line_of line (unless b l.text) ≡ line
  unless_flat true = same
  unless_flat false = flat_closed line l.text same

  by : (k : Shape) → l.shape ≡ k → line_of line (leading g l) ≡ line
  by atom e = rw e same
  by turned e = rw e same
  by (joined h) e = rw e (unless_flat (chains g h))

flat_pair : (names : List Name) (line : ℕ) (g : Gate) (a b : Expression) → line_of line (expression_layout names a) ≡ line → line_of line (expression_layout names b) ≡ line
    → line_of line (expression_layout names (pair g a b)) ≡ line
flat_pair names line g a b p q =
    line_append line (leading g (laid names a)) (gap ∷ a_word (gate_word g) ∷ gap ∷ operand (laid names b))
    ∙ ap (λ (k : ℕ). line_of k (operand (laid names b))) (flat_leading g line (laid names a) p)
    ∙ flat_operand line (laid names b) q

pub flat : (names : List Name) (line : ℕ) (e : Expression) → line_of line (expression_layout names e) ≡ line
flat names line (constant b) = refl
flat names line (variable k) = flat_bit line (name_of names k).bit
flat names line (not_of e) = flat_primary line (laid names e) (flat names line e)
flat names line (pair g a b) = flat_pair names line g a b (flat names line a) (flat names line b)
flat names line (choice c a b) =
    flat_pair names line gate.Or (pair gate.And c a) (pair gate.And (not_of c) b)
    (flat_pair names line gate.And c a (flat names line c) (flat names line a))
    (flat_pair names line gate.And (not_of c) b (flat_primary line (laid names c) (flat names line c)) (flat names line b))

pub on_line : (line : ℕ) (xs ys : List Written) → line_of line xs ≡ line → placed line (xs ++ ys) ≡ placed line xs ++ placed line ys
on_line line xs ys same = placed_append line xs ys ∙ ap (λ (k : ℕ). placed line xs ++ placed k ys) same

-- ---- lists and chains

list_last : {A : Type 0} (L : Grammar A) (xs : List A) (x : A) (w v : List Item) → list L w xs → L v x → list L (w ++ v) (xs ++ x ∷ [])
list_last L [] x w v h g = (v, [], ap (λ (z : List Item). z ++ v) h ∙ sym (append-nil v), g, refl)
list_last L (y ∷ xs) x w v h g =
    (h.0, h.1 ++ v, ap (λ (z : List Item). z ++ v) h.2 ∙ append_assoc h.0 h.1 v, h.3, list_last L xs x h.1 v h.4 g)

tokens_append : (xs ys : List Item) → tokens_of (xs ++ ys) ≡ tokens_of xs ++ tokens_of ys
tokens_append [] ys = refl
tokens_append (x ∷ xs) ys = ap (λ (ts : List PlacedToken). x.token ∷ ts) (tokens_append xs ys)

spell_last : {A : Type 0} {L : Grammar A} (xs : List A) (x : A) {ts us : List PlacedToken} {s s' s'' : State}
    → Spells (list L) xs ts s s' → Spells L x us s' s'' → Spells (list L) (xs ++ x ∷ []) (ts ++ us) s s''
spell_last {L = L} xs x {ts} {us} {s} {s'} front back = record {
  items = front.items ++ back.items;
  are = tokens_append front.items back.items ∙ ap (λ (z : List PlacedToken). z ++ tokens_of back.items) front.are ∙ ap (λ (z : List PlacedToken). ts ++ z) back.are;
  sentence = list_last L xs x front.items back.items front.sentence back.sentence;
  clean = run-append front.items back.items s s' front.clean ∙ back.clean;
}

folded_last : (o : Operator) (first : Tree) (others : List (ℕ × Tree)) (last : ℕ × Tree)
    → folded o first (others ++ last ∷ []) ≡ binary o last.0 (folded o first others) last.1
folded_last o first [] last = refl
folded_last o first (x ∷ others) last = folded_last o (binary o x.0 first x.1) others last

spell_value : {A : Type 0} {L : Grammar A} {x y : A} {ts : List PlacedToken} {s s' : State} → x ≡ y → Spells L x ts s s' → Spells L y ts s s'
spell_value {L = L} {ts = ts} {s = s} {s' = s'} same p = subst (λ z. Spells L z ts s s') same p

-- a list of operands, of which there is one, is a chain behind the first one
chain_of : (f : Form) (o : Operator) (operand : Grammar Tree) (x : Tree) (y : ℕ × Tree) (ys : List (ℕ × Tree)) {ts : List PlacedToken} {s s' : State}
    → Spells (list (joined_by f operand)) (y ∷ ys) ts s s' → Spells (chain f o operand x) (folded o x (y ∷ ys)) ts s s'
unfolding chain
chain_of f o operand x y ys p = record {
  items = p.items;
  are = p.are;
  sentence =
      let h = p.sentence in
      record {
        front = h.0;
        back = h.1;
        value = y;
        parts = h.2;
        before = h.3;
        behind = record { front = h.1; back = []; value = ys; parts = sym (append-nil h.1); before = h.4; behind = (refl, refl) };
      };
  clean = p.clean;
}

-- with one more operand at the end
chain_last : (f : Form) (o : Operator) (operand : Grammar Tree) (x : Tree) (others : List (ℕ × Tree)) (last : ℕ × Tree) {ts : List PlacedToken} {s s' : State}
    → Spells (list (joined_by f operand)) (others ++ last ∷ []) ts s s' → Spells (chain f o operand x) (folded o x (others ++ last ∷ [])) ts s s'
chain_last f o operand x [] last p = chain_of f o operand x last [] p
chain_last f o operand x (y ∷ ys) last p = chain_of f o operand x y (ys ++ last ∷ []) p

spell_two : (f : Form) (o : Operator) (operand : Grammar Tree) (x : Tree) (second : ℕ × Tree) {ts : List PlacedToken} {s s' : State}
    → Spells (joined_by f operand) second ts s s' → Spells (pair_of f o operand x) (binary o second.0 x second.1) ts s s'
unfolding pair_of
spell_two f o operand x second {ts} {s' = s'} one =
    let y = binary o second.0 x second.1 in
    spell_as (append-nil ts) (spell_then second y one (spell_nothing y s'))

-- ---- what is counted

abbrev with_count : State → ℕ → State
with_count s k = record s { operators = k }

pub none_more : (s : State) → s ≡ with_links 0 s
none_more s = ap (with_count s) (omega arith)

one_more : (k : ℕ) (s : State) → with_links k (with_operator s) ≡ with_links (1 + k) s
one_more k s = ap (with_count s) (omega arith)

both_more : (j k : ℕ) (s : State) → with_links k (with_operator (with_links j s)) ≡ with_links (1 + (j + k)) s
both_more j k s = ap (with_count s) (omega arith)

-- ---- levels

pub spell_nested : (n : ℕ) (x : Tree) {ts : List PlacedToken} {s s' : State} → Spells (expression_over n (inner_of n)) x ts s s' → Spells (nested n n) x ts s s'
unfolding nested
spell_nested zero x p = p
spell_nested (suc n) x p = p

pub spell_closed_in : (n : ℕ) (x : Tree) (ws : List Written) (line : ℕ) {s s' : State} → Few s → Few s' → line_of line ws ≡ line → Spells (expression_over n (inner_of n)) x (placed line ws) s s'
    → Spells (primary_of (suc n) (nested n n)) x (placed line (in_parentheses ws)) s s'
spell_closed_in n x ws line few few' same p =
    spell_as (ap (λ (ts : List PlacedToken). at (token.Sign sign.LeftParen) line ∷ ts) (sym (on_line line ws (a_sign sign.RightParen ∷ []) same)))
    (spell_parentheses (suc n) (nested n n) x line few few' (ne_eqb (suc n) 0 (omega arith)) (spell_nested n x p))

-- ---- the text of each place, by the shape

primary_atom : (l : Laid) → l.shape ≡ atom → l.text ≡ primary l
primary_atom l e = by l.shape e where
  of : Shape → List Written
  of k = primary (record { shape = k; text = l.text })

  by : (k : Shape) → k ≡ atom → l.text ≡ of k
  by atom e = refl
  by turned e = absurd cc
  by (joined g) e = absurd cc

primary_turned : (l : Laid) → l.shape ≡ turned → in_parentheses l.text ≡ primary l
primary_turned l e = by l.shape e where
  of : Shape → List Written
  of k = primary (record { shape = k; text = l.text })

  by : (k : Shape) → k ≡ turned → in_parentheses l.text ≡ of k
  by atom e = absurd cc
  by turned e = refl
  by (joined g) e = absurd cc

primary_joined : (l : Laid) (g : Gate) → l.shape ≡ joined g → in_parentheses l.text ≡ primary l
primary_joined l g e = by l.shape e where
  of : Shape → List Written
  of k = primary (record { shape = k; text = l.text })

  by : (k : Shape) → k ≡ joined g → in_parentheses l.text ≡ of k
  by atom e = absurd cc
  by turned e = absurd cc
  by (joined h) e = refl

operand_atom : (l : Laid) → l.shape ≡ atom → l.text ≡ operand l
operand_atom l e = by l.shape e where
  of : Shape → List Written
  of k = operand (record { shape = k; text = l.text })

  by : (k : Shape) → k ≡ atom → l.text ≡ of k
  by atom e = refl
  by turned e = absurd cc
  by (joined g) e = absurd cc

operand_turned : (l : Laid) → l.shape ≡ turned → l.text ≡ operand l
operand_turned l e = by l.shape e where
  of : Shape → List Written
  of k = operand (record { shape = k; text = l.text })

  by : (k : Shape) → k ≡ turned → l.text ≡ of k
  by atom e = absurd cc
  by turned e = refl
  by (joined g) e = absurd cc

operand_joined : (l : Laid) (g : Gate) → l.shape ≡ joined g → in_parentheses l.text ≡ operand l
operand_joined l g e = by l.shape e where
  of : Shape → List Written
  of k = operand (record { shape = k; text = l.text })

  by : (k : Shape) → k ≡ joined g → in_parentheses l.text ≡ of k
  by atom e = absurd cc
  by turned e = absurd cc
  by (joined h) e = refl

leading_joined : (g h : Gate) (l : Laid) → l.shape ≡ joined h → unless (chains g h) l.text ≡ leading g l
leading_joined g h l e = by l.shape e where
  of : Shape → List Written
  of k = leading g (record { shape = k; text = l.text })

  same : (i : Gate) → joined i ≡ joined h → i ≡ h
  same i e = cc

  by : (k : Shape) → k ≡ joined h → unless (chains g h) l.text ≡ of k
  by atom e = absurd cc
  by turned e = absurd cc
  by (joined i) e = ap (λ (j : Gate). unless (chains g j) l.text) (sym (same i e))

leading_atom : (g : Gate) (l : Laid) → l.shape ≡ atom → l.text ≡ leading g l
leading_atom g l e = by l.shape e where
  of : Shape → List Written
  of k = leading g (record { shape = k; text = l.text })

  by : (k : Shape) → k ≡ atom → l.text ≡ of k
  by atom e = refl
  by turned e = absurd cc
  by (joined i) e = absurd cc

leading_turned : (g : Gate) (l : Laid) → l.shape ≡ turned → l.text ≡ leading g l
leading_turned g l e = by l.shape e where
  of : Shape → List Written
  of k = leading g (record { shape = k; text = l.text })

  by : (k : Shape) → k ≡ turned → l.text ≡ of k
  by atom e = absurd cc
  by turned e = refl
  by (joined i) e = absurd cc

-- ---- places, from what is known of the expression

-- as an operand
abbrev pub Operand : List Name → ℕ → ℕ → Expression → State → Type 0
Operand names n line e s =
    Spells (relation n (inner_of n)) (tree names line e) (placed line (operand (laid names e))) s (with_links (operators e) s)

-- behind `not`
abbrev pub Primary : List Name → ℕ → ℕ → Expression → State → Type 0
Primary names n line e s =
    Spells (primary_of n (inner_of n)) (tree names line e) (placed line (primary (laid names e))) s (with_links (operators e) s)

-- in front of the others under a gate
abbrev pub Leading : List Name → Gate → ℕ → ℕ → Expression → State → Type 0
Leading names g n line e s = Chain (tree names line e) (placed line (leading g (laid names e))) g (operators e) n s

closed_whole : (names : List Name) (e : Expression) → Can names e → (n line : ℕ) (s : State) → Few s → IsWithin names e n → s.operators + operators e ≤ CHAIN
    → Spells (primary_of (suc n) (nested n n)) (tree names line e) (placed line (in_parentheses (expression_layout names e))) s (with_links (operators e) s)
closed_whole names e can n line s few within free =
    spell_closed_in n (tree names line e) (expression_layout names e) line few few (flat names line e) (can n line s few within free).whole

on : (line : ℕ) {xs ys : List Written} → xs ≡ ys → placed line xs ≡ placed line ys
on line e = ap (placed line) e

pub as_primary : (names : List Name) (e : Expression) → Can names e → (n line : ℕ) (s : State) → Few s → primary_within (shape_of names e) (IsWithin names e) n
    → s.operators + operators e ≤ CHAIN → Primary names n line e s
as_primary names e can n line s few within free = by (shape_of names e) refl n within where
  l : Laid
  l = laid names e

  by : (k : Shape) → l.shape ≡ k → (m : ℕ) → primary_within k (IsWithin names e) m → Primary names m line e s
  by atom same m within = spell_as (on line (primary_atom l same)) ((can m line s few within free).plain same)
  by turned same zero within = absurd within
  by turned same (suc m) within = spell_as (on line (primary_turned l same)) (closed_whole names e can m line s few within free)
  by (joined g) same zero within = absurd within
  by (joined g) same (suc m) within = spell_as (on line (primary_joined l g same)) (closed_whole names e can m line s few within free)

closed_operand : (names : List Name) (e : Expression) → Can names e → (n line : ℕ) (s : State) → Few s → IsWithin names e n → s.operators + operators e ≤ CHAIN
    → Spells (relation (suc n) (nested n n)) (tree names line e) (placed line (in_parentheses (expression_layout names e))) s (with_links (operators e) s)
closed_operand names e can n line s few within free =
    spell_relation (suc n) (nested n n) (tree names line e) (spell_plain_factor (suc n) (nested n n) (tree names line e) (closed_whole names e can n line s few within free))

pub as_operand : (names : List Name) (e : Expression) → Can names e → (n line : ℕ) (s : State) → Few s → operand_within (shape_of names e) (IsWithin names e) n
    → s.operators + operators e ≤ CHAIN → Operand names n line e s
as_operand names e can n line s few within free = by (shape_of names e) refl n within where
  l : Laid
  l = laid names e

  x : Tree
  x = tree names line e

  by : (k : Shape) → l.shape ≡ k → (m : ℕ) → operand_within k (IsWithin names e) m → Operand names m line e s
  by atom same m within =
      spell_as (on line (operand_atom l same)) (spell_relation m (inner_of m) x (spell_plain_factor m (inner_of m) x ((can m line s few within free).plain same)))
  by turned same m within = spell_as (on line (operand_turned l same)) (spell_relation m (inner_of m) x ((can m line s few within free).inverted same))
  by (joined g) same zero within = absurd within
  by (joined g) same (suc m) within = spell_as (on line (operand_joined l g same)) (closed_operand names e can m line s few within free)

-- an operand that nothing follows
alone : (x : Tree) (ts : List PlacedToken) (g : Gate) (k n : ℕ) (s : State) → Spells (relation n (inner_of n)) x ts s (with_links k s) → Chain x ts g k n s
alone x ts g k n s p = record {
  first = x;
  others = [];
  front = ts;
  back = [];
  between = with_links k s;
  tree_is = refl;
  tokens_are = append-nil ts;
  leads = p;
  follows = spell_none (joined_by (gate_form g) (relation n (inner_of n))) (with_links k s);
}

chain_as : {x : Tree} {ts us : List PlacedToken} {g : Gate} {k n : ℕ} {s : State} → ts ≡ us → Chain x ts g k n s → Chain x us g k n s
chain_as same c = record {
  first = c.first;
  others = c.others;
  front = c.front;
  back = c.back;
  between = c.between;
  tree_is = c.tree_is;
  tokens_are = c.tokens_are ∙ same;
  leads = c.leads;
  follows = c.follows;
}

chains_same : (g h : Gate) → chains g h ≡ true → h ≡ g
chains_same gate.And gate.And e = refl
chains_same gate.Or gate.Or e = refl
chains_same gate.Xor gate.Xor e = refl
chains_same gate.Xnor gate.Xnor e = refl
chains_same _ _ e = absurd cc

pub as_leading : (names : List Name) (g : Gate) (e : Expression) → Can names e → (n line : ℕ) (s : State) → Few s → leading_within g (shape_of names e) (IsWithin names e) n
    → s.operators + operators e ≤ CHAIN → Leading names g n line e s
as_leading names g e can n line s few within free = by (shape_of names e) refl n within where
  l : Laid
  l = laid names e

  x : Tree
  x = tree names line e

  of : (h : Gate) → l.shape ≡ joined h → (b : Bool) → chains g h ≡ b → (m : ℕ) → unless_within b (IsWithin names e) m → Leading names g m line e s
  of h same true c m within =
      chain_as (on line (ap (λ (b : Bool). unless b l.text) (sym c) ∙ leading_joined g h l same))
      (subst (λ i. Chain x (placed line l.text) i (operators e) m s) (chains_same g h c) ((can m line s few within free).chained h same))
  of h same false c zero within = absurd within
  of h same false c (suc m) within =
      alone x (placed line (leading g l)) g (operators e) (suc m) s
      (spell_as (on line (ap (λ (b : Bool). unless b l.text) (sym c) ∙ leading_joined g h l same)) (closed_operand names e can m line s few within free))

  by : (k : Shape) → l.shape ≡ k → (m : ℕ) → leading_within g k (IsWithin names e) m → Leading names g m line e s
  by atom same m within =
      alone x (placed line (leading g l)) g (operators e) m s
      (spell_as (on line (leading_atom g l same)) (spell_relation m (inner_of m) x (spell_plain_factor m (inner_of m) x ((can m line s few within free).plain same))))
  by turned same m within =
      alone x (placed line (leading g l)) g (operators e) m s
      (spell_as (on line (leading_turned g l same)) (spell_relation m (inner_of m) x ((can m line s few within free).inverted same)))
  by (joined h) same m within = of h same (chains g h) refl m within

-- ---- the cases of `laid`

word_kind : (g : Gate) (line : ℕ) → code_of (at (token.Keyword (gate_word g)) line) ≡ code (gate_form g)
unfolding code_of
word_kind g line = refl

-- one operand more
chain_more : (names : List Name) (g : Gate) (a b : Expression) (n line : ℕ) (s : State) → Few s → s.operators + operators (pair g a b) ≤ CHAIN
    → Leading names g n line a s → Operand names n line b (with_operator (with_links (operators a) s))
    → Chain (tree names line (pair g a b)) (placed line (expression_layout names (pair g a b))) g (operators (pair g a b)) n s
chain_more names g a b n line s few free c p =
    let t = at (token.Keyword (gate_word g)) line in
    let ls = placed line (leading g (laid names a)) in
    let rs = placed line (operand (laid names b)) in
    let last : ℕ × Tree = (line, tree names line b) in
    let one = spell_joined (gate_form g) (relation n (inner_of n)) t (tree names line b) {s = with_links (operators a) s} (word_kind g line) few (omega (arith, free)) p in
    record {
      first = c.first;
      others = c.others ++ last ∷ [];
      front = c.front;
      back = c.back ++ t ∷ rs;
      between = c.between;
      tree_is = folded_last (operator_of g) c.first c.others last ∙ ap (λ (x : Tree). binary (operator_of g) line x (tree names line b)) c.tree_is;
      tokens_are =
          sym (append_assoc c.front c.back (t ∷ rs)) ∙ ap (λ (z : List PlacedToken). z ++ t ∷ rs) c.tokens_are
          ∙ sym (on_line line (leading g (laid names a)) (gap ∷ a_word (gate_word g) ∷ gap ∷ operand (laid names b)) (flat_leading g line (laid names a) (flat names line a)));
      leads = c.leads;
      follows = spell_to (both_more (operators a) (operators b) s) (spell_last c.others last c.follows one);
    }

-- a chain of one operand or more behind the first one, by its gate
pub joined_whole : (g : Gate) (first : Tree) (others : List (ℕ × Tree)) (last : ℕ × Tree) (n : ℕ) {ts us : List PlacedToken} {s s' s'' : State} → chains g g ≡ true
    → Spells (relation n (inner_of n)) first ts s s' → Spells (list (joined_by (gate_form g) (relation n (inner_of n)))) (others ++ last ∷ []) us s' s''
    → Spells (expression_over n (inner_of n)) (folded (operator_of g) first (others ++ last ∷ [])) (ts ++ us) s s''
unfolding expression_over logical
joined_whole gate.And first others last n c p q =
    spell_then first (folded (operator_of gate.And) first (others ++ last ∷ [])) p (spell_left (chain_last (gate_form gate.And) (operator_of gate.And) (relation n (inner_of n)) first others last q))
joined_whole gate.Or first others last n c p q =
    spell_then first (folded (operator_of gate.Or) first (others ++ last ∷ [])) p (spell_right (spell_left (chain_last (gate_form gate.Or) (operator_of gate.Or) (relation n (inner_of n)) first others last q)))
joined_whole gate.Xor first others last n c p q =
    spell_then first (folded (operator_of gate.Xor) first (others ++ last ∷ [])) p (spell_right (spell_right (spell_left (chain_last (gate_form gate.Xor) (operator_of gate.Xor) (relation n (inner_of n)) first others last q))))
joined_whole gate.Xnor first others last n c p q =
    spell_then first (folded (operator_of gate.Xnor) first (others ++ last ∷ [])) p
    (spell_right (spell_right (spell_right (spell_left (chain_last (gate_form gate.Xnor) (operator_of gate.Xnor) (relation n (inner_of n)) first others last q)))))
joined_whole gate.Nand first others last n c p q = absurd cc
joined_whole gate.Nor first others last n c p q = absurd cc

-- two operands of a gate that joins no more
two_whole : (g : Gate) (first : Tree) (last : ℕ × Tree) (n : ℕ) {ts us : List PlacedToken} {s s' s'' : State} → chains g g ≡ false
    → Spells (relation n (inner_of n)) first ts s s' → Spells (joined_by (gate_form g) (relation n (inner_of n))) last us s' s''
    → Spells (expression_over n (inner_of n)) (binary (operator_of g) last.0 first last.1) (ts ++ us) s s''
unfolding expression_over logical
two_whole gate.Nand first last n c p q =
    spell_then first (binary (operator_of gate.Nand) last.0 first last.1) p
    (spell_right (spell_right (spell_right (spell_right (spell_left (spell_two (gate_form gate.Nand) (operator_of gate.Nand) (relation n (inner_of n)) first last q))))))
two_whole gate.Nor first last n c p q =
    spell_then first (binary (operator_of gate.Nor) last.0 first last.1) p
    (spell_right (spell_right (spell_right (spell_right (spell_right (spell_left (spell_two (gate_form gate.Nor) (operator_of gate.Nor) (relation n (inner_of n)) first last q)))))))
two_whole gate.And first last n c p q = absurd cc
two_whole gate.Or first last n c p q = absurd cc
two_whole gate.Xor first last n c p q = absurd cc
two_whole gate.Xnor first last n c p q = absurd cc

-- a gate that joins no more has each operand in its place
unchained : (g h : Gate) → chains g g ≡ false → chains g h ≡ false
unchained gate.Nand h e = refl
unchained gate.Nor h e = refl
unchained gate.And h e = absurd cc
unchained gate.Or h e = absurd cc
unchained gate.Xor h e = absurd cc
unchained gate.Xnor h e = absurd cc

leads_alone : (g : Gate) (l : Laid) → chains g g ≡ false → operand l ≡ leading g l
leads_alone g l c = by l.shape where
  of : Shape → List Written
  of k = operand (record { shape = k; text = l.text })

  to : Shape → List Written
  to k = leading g (record { shape = k; text = l.text })

  by : (k : Shape) → of k ≡ to k
  by atom = refl
  by turned = refl
  by (joined h) = ap (λ (b : Bool). unless b l.text) (sym (unchained g h c))

within_alone : (g : Gate) (k : Shape) (P : ℕ → Type 0) (n : ℕ) → chains g g ≡ false → leading_within g k P n → operand_within k P n
within_alone g atom P n c within = within
within_alone g turned P n c within = within
within_alone g (joined h) P n c within = subst (λ b. unless_within b P n) (unchained g h c) within

pair_whole : (names : List Name) (g : Gate) (a b : Expression) → Can names a → Can names b → (n line : ℕ) (s : State) → Few s → IsWithin names (pair g a b) n
    → s.operators + operators (pair g a b) ≤ CHAIN → (c : Bool) → chains g g ≡ c
    → Spells (expression_over n (inner_of n)) (tree names line (pair g a b)) (placed line (expression_layout names (pair g a b))) s (with_links (operators (pair g a b)) s)
unfolding chain_more as_leading
pair_whole names g a b p q n line s few within free true c =
    let A = as_leading names g a p n line s few within.0 (omega (arith, free)) in
    let B = as_operand names b q n line (with_operator (with_links (operators a) s)) few within.1 (omega (arith, free)) in
    let t = at (token.Keyword (gate_word g)) line in
    let rs = placed line (operand (laid names b)) in
    let last : ℕ × Tree = (line, tree names line b) in
    let one = spell_joined (gate_form g) (relation n (inner_of n)) t (tree names line b) {s = with_links (operators a) s} (word_kind g line) few (omega (arith, free)) B in
    let more = chain_more names g a b n line s few free A B in
    spell_as more.tokens_are
    (spell_value more.tree_is
    (spell_to (both_more (operators a) (operators b) s) (joined_whole g A.first A.others last n c A.leads (spell_last A.others last A.follows one))))
pair_whole names g a b p q n line s few within free false c =
    let A = as_operand names a p n line s few (within_alone g (shape_of names a) (IsWithin names a) n c within.0) (omega (arith, free)) in
    let B = as_operand names b q n line (with_operator (with_links (operators a) s)) few within.1 (omega (arith, free)) in
    let t = at (token.Keyword (gate_word g)) line in
    let ls = placed line (operand (laid names a)) in
    let rs = placed line (operand (laid names b)) in
    let last : ℕ × Tree = (line, tree names line b) in
    let one = spell_joined (gate_form g) (relation n (inner_of n)) t (tree names line b) {s = with_links (operators a) s} (word_kind g line) few (omega (arith, free)) B in
    spell_as (ap (λ (z : List PlacedToken). z ++ t ∷ rs) (on line (leads_alone g (laid names a) c))
    ∙ sym (on_line line (leading g (laid names a)) (gap ∷ a_word (gate_word g) ∷ gap ∷ operand (laid names b)) (flat_leading g line (laid names a) (flat names line a))))
    (spell_to (both_more (operators a) (operators b) s) (two_whole g (tree names line a) last n c A one))

joined_is : (g h : Gate) → joined g ≡ joined h → g ≡ h
joined_is g h e = cc

can_pair : (names : List Name) (g : Gate) (a b : Expression) → Can names a → Can names b → Can names (pair g a b)
can_pair names g a b p q n line s few within free = record {
  whole = pair_whole names g a b p q n line s few within free (chains g g) refl;
  chained = λ h same.
      subst (λ i. Chain (tree names line (pair g a b)) (placed line (expression_layout names (pair g a b))) i (operators (pair g a b)) n s) (joined_is g h same)
      (chain_more names g a b n line s few free (as_leading names g a p n line s few within.0 (omega (arith, free)))
      (as_operand names b q n line (with_operator (with_links (operators a) s)) few within.1 (omega (arith, free))));
  plain = λ never. absurd (cc);
  inverted = λ never. absurd (cc);
}

can_not : (names : List Name) (e : Expression) → Can names e → Can names (not_of e)
can_not names e p n line s few within free =
    let x = tree names line e in
    let inside = as_primary names e p n line (with_operator s) few within (omega (arith, free)) in
    let f = spell_to (one_more (operators e) s) (spell_not n (inner_of n) x line few (omega (arith, free)) inside) in
    record {
      whole = spell_alone n (inner_of n) (inverse line x) (spell_relation n (inner_of n) (inverse line x) f);
      chained = λ g never. absurd (cc);
      plain = λ never. absurd (cc);
      inverted = λ same. f;
    }

can_atom : (names : List Name) (e : Expression) → shape_of names e ≡ atom
    → ((n line : ℕ) (s : State) → Few s → IsWithin names e n → Spells (primary_of n (inner_of n)) (tree names line e) (placed line (expression_layout names e)) s (with_links (operators e) s))
    → Can names e
can_atom names e same p n line s few within free =
    let x = tree names line e in
    record {
      whole = spell_alone n (inner_of n) x (spell_relation n (inner_of n) x (spell_plain_factor n (inner_of n) x (p n line s few within)));
      chained = λ g is. (let never : atom ≡ joined g = sym same ∙ is in absurd cc);
      plain = λ is. p n line s few within;
      inverted = λ is. (let never : atom ≡ turned = sym same ∙ is in absurd cc);
    }

spell_variable : (n line : ℕ) (x : Name) (s : State) → Few s → bit_within x.bit n
    → Spells (primary_of n (inner_of n)) (placed_name line x) (placed line (name_layout x)) s s
unfolding primary_of named suffix places closing code_of
spell_variable n line x s few within = by x.bit n within where
  by : (b : Option ℕ) (m : ℕ) → bit_within b m
      → Spells (primary_of m (inner_of m)) (placed_bit x.text line b) (at (token.Identifier x.text) line ∷ placed line (bit_layout b)) s s
  by None m within = spell_named m (inner_of m) x.text line s few
  by (Some k) zero within = absurd within
  by (Some k) (suc m) within =
      let y = index x.text line k in
      spell_right (spell_right (spell_right (spell_right
      (spell_lead form.Identifier (λ _. plain) (at (token.Identifier x.text) line) y refl (plain_step s few)
      (spell_left
      (spell_lead (form.Sign sign.LeftParen) (λ _. opens (suc m)) (at (token.Sign sign.LeftParen) line) y refl (opens_step (suc m) s few (ne_eqb (suc m) 0 (omega arith)))
      (spell_then k y (spell_number k line s few)
      (spell_left (spell_sign sign.RightParen line y few (spell_nothing y s))))))))))

same_count : (l : Laid) (x : Tree) (j k n line : ℕ) (s : State) → j ≡ k → Spelled l x j n line s → Spelled l x k n line s
same_count l x j k n line s same p = subst (λ i. Spelled l x i n line s) same p

-- an expression that is laid out spells itself, where no more parentheses and operators stand in it than may
pub can_spell : (names : List Name) (e : Expression) → Can names e
can_spell names (constant b) = can_atom names (constant b) refl (λ n line s few within. spell_to (none_more s) (spell_bit n (inner_of n) b line s few))
can_spell names (variable k) = can_atom names (variable k) refl (λ n line s few within. spell_to (none_more s) (spell_variable n line (name_of names k) s few within))
can_spell names (not_of e) = can_not names e (can_spell names e)
can_spell names (pair g a b) = can_pair names g a b (can_spell names a) (can_spell names b)
can_spell names (choice c a b) = λ n line s few within free.
    let p = can_spell names c in
    let first : Can names (pair gate.And c a) = can_pair names gate.And c a p (can_spell names a) in
    let second : Can names (pair gate.And (not_of c) b) = can_pair names gate.And (not_of c) b (can_not names c p) (can_spell names b) in
    let whole : Can names (pair gate.Or (pair gate.And c a) (pair gate.And (not_of c) b)) = can_pair names gate.Or (pair gate.And c a) (pair gate.And (not_of c) b) first second in
    let fewer : s.operators + operators (pair gate.Or (pair gate.And c a) (pair gate.And (not_of c) b)) ≤ CHAIN = omega (arith, free) in
    same_count (laid names (choice c a b)) (tree names line (choice c a b)) (operators (pair gate.Or (pair gate.And c a) (pair gate.And (not_of c) b))) (operators (choice c a b)) n line s (omega arith)
    (whole n line s few within fewer)

-- a whole expression
pub spell_expression : (names : List Name) (e : Expression) (room line : ℕ) (s : State) → Few s → IsWithin names e room → s.operators + operators e ≤ CHAIN
    → Spells (expression room) (tree names line e) (placed line (expression_layout names e)) s (with_links (operators e) s)
spell_expression names e room line s few within free = spell_some room (spell_nested room (tree names line e) (can_spell names e room line s few within free).whole)
