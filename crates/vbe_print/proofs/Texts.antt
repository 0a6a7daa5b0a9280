-- Texts of layouts, one behind the other.
use Rattle.std.proofs.Common.{◌≡◌, ℕ, suc, ◌+◌, ◌<◌, ◌≤◌, List, [], ◌∷◌, ◌++◌, length, drop, get_or, map, refl, sym, ap, ◌∙◌, append_assoc, append-nil, add-one, drop-cons, Option, None, Some, arith}
use Rattle.std.proofs.lemmas.List.{drop_all}
use Rattle.vlsi_base.specs.declared.name.Name.{Name}
use Rattle.bool_expr.specs.View.{view}
use Rattle.bool_expr.specs.Expression.{Expression, choice}
use Rattle.machine_core.specs.declared.equation.Equation.{Equation}
use Rattle.machine_core.specs.declared.equation.Register.{Register}
use Rattle.machine_core.specs.View.{equation_view, register_view}
use Rattle.vhdl_token.specs.declared.keyword.Keyword.TheVariants as word
use Rattle.spell_theory.specs.Layout.{Written, gap, turn, text_of}
use Rattle.vhdl_print.specs.Outline.{a_word, a_name}
use Rattle.vst_print.specs.Structure.{name_layout, signal_layout, signals_layout}
use Rattle.vst_print.proofs.Texts.{text_append}
use Rattle.std.specs.Fmt.{decimal}
use Rattle.bool_expr.specs.declared.expr.Gate.TheVariants as gate
use Rattle.vhdl_token.specs.declared.token.Sign.TheVariants as sign
use Rattle.machine_core.specs.Machine.{Machine, register_names}
use Rattle.vhdl_print.specs.Outline.{a_sign, entity_layout}
use Rattle.vst_print.specs.Groups.{outline}
use Rattle.vst_print.specs.Structure.{begin_layout}
use Rattle.vbe_print.specs.Pieces.{front_text, declared_text, stated_text}
use Rattle.vbe_print.specs.Expressions.{in_parentheses, primary, operand, join, laid, expression_layout, value_layout}
use Rattle.machine_core.specs.Machine.{Register as Stored}
use Rattle.vbe_print.specs.Written.{with_supply_ports, signal_texts, written_names, written_vars, head_layout, registers_layout, label, last_layout, layout_by, equation_layout, equations_layout, register_layout, blocks_layout, clocked_layout, storage_layout}

-- two parts that are put one behind the other
pub put_two : (xs ys : List Written) (out a b : List ℕ) → a ≡ out ++ text_of xs → b ≡ a ++ text_of ys → b ≡ out ++ text_of (xs ++ ys)
put_two xs ys out a b ae be =
    be ∙ ap (λ (x : List ℕ). x ++ text_of ys) ae ∙ append_assoc out (text_of xs) (text_of ys) ∙ ap (λ (x : List ℕ). out ++ x) (sym (text_append xs ys))

-- a name, and what is put behind it
pub put_name : (t : List ℕ) (ws : List Written) (out n a b : List ℕ) → n ≡ t → a ≡ out ++ n → b ≡ a ++ text_of ws → b ≡ out ++ text_of (a_name t ∷ ws)
put_name t ws out n a b same ae be =
    be ∙ ap (λ (x : List ℕ). x ++ text_of ws) (ae ∙ ap (λ (x : List ℕ). out ++ x) same) ∙ append_assoc out t (text_of ws)

-- a name with its bit, and what is put behind it
pub put_bit : (n : Name) (ws : List Written) (out a b : List ℕ) → a ≡ out ++ text_of (name_layout n) → b ≡ a ++ text_of ws → b ≡ out ++ text_of (name_layout n ++ ws)
put_bit n ws out a b ae be = put_two (name_layout n) ws out a b ae be

-- one more part is put, and the others are left
pub next_part : (xs ys : List Written) (out new whole : List ℕ) → new ≡ out ++ text_of xs → out ++ text_of (xs ++ ys) ≡ whole → new ++ text_of ys ≡ whole
next_part xs ys out new whole put so_far =
    ap (λ (x : List ℕ). x ++ text_of ys) put ∙ append_assoc out (text_of xs) (text_of ys) ∙ ap (λ (x : List ℕ). out ++ x) (sym (text_append xs ys)) ∙ so_far

pub drop_next : {X : Type 0} (xs : List X) (k : ℕ) (x : X) → k < length xs → x ≡ get_or xs k x → drop k xs ≡ x ∷ drop (k + 1) xs
drop_next xs k x within is = drop-cons xs k x within ∙ ap (λ y. y ∷ drop (suc k) xs) (sym is) ∙ ap (λ n. x ∷ drop n xs) (sym (add-one k))

-- a letter and a number, and what is put behind them
pub put_label : (k : ℕ) (ws : List Written) (out a b z : List ℕ) → a ≡ out ++ 98 ∷ [] → b ≡ a ++ decimal k → z ≡ b ++ text_of ws → z ≡ out ++ text_of (a_name (label k) ∷ ws)
put_label k ws out a b z ae be ze =
    put_name (label k) ws out (label k) b z refl (be ∙ ap (λ (x : List ℕ). x ++ decimal k) ae ∙ append_assoc out (98 ∷ []) (decimal k)) ze

-- a choice within an expression
choice_laid : (names : List Name) (c a b : Expression)
    → a_sign sign.LeftParen ∷ (join gate.And (laid names c) (laid names a)).text ++ (a_sign sign.RightParen ∷ gap ∷ a_word word.Or ∷ gap ∷ a_sign sign.LeftParen ∷ a_word word.Not ∷ gap
    ∷ primary (laid names c) ++ (gap ∷ a_word word.And ∷ gap ∷ operand (laid names b) ++ (a_sign sign.RightParen ∷ [])))
    ≡ expression_layout names (choice c a b)
choice_laid names c a b =
    let J : List Written = (join gate.And (laid names c) (laid names a)).text in
    let X : List Written = gap ∷ a_word word.And ∷ gap ∷ operand (laid names b) in
    let K : List Written = a_word word.Not ∷ gap ∷ primary (laid names c) ++ X in
    ap (λ (ws : List Written). a_sign sign.LeftParen ∷ J ++ (a_sign sign.RightParen ∷ gap ∷ a_word word.Or ∷ gap ∷ a_sign sign.LeftParen ∷ a_word word.Not ∷ gap ∷ ws)) (sym (append_assoc (primary (laid names c)) X (a_sign sign.RightParen ∷ [])))
    ∙ ap (λ (ws : List Written). a_sign sign.LeftParen ∷ ws) (sym (append_assoc J (a_sign sign.RightParen ∷ []) (gap ∷ a_word word.Or ∷ gap ∷ in_parentheses K)))

pub choice_put : (names : List Name) (c a b : Expression) (out x1 x2 x3 x4 x5 x6 x7 : List ℕ)
    → x1 ≡ out ++ text_of (a_sign sign.LeftParen ∷ []) → x2 ≡ x1 ++ text_of (join gate.And (laid names c) (laid names a)).text
    → x3 ≡ x2 ++ text_of (a_sign sign.RightParen ∷ gap ∷ a_word word.Or ∷ gap ∷ a_sign sign.LeftParen ∷ a_word word.Not ∷ gap ∷ []) → x4 ≡ x3 ++ text_of (primary (laid names c))
    → x5 ≡ x4 ++ text_of (gap ∷ a_word word.And ∷ gap ∷ []) → x6 ≡ x5 ++ text_of (operand (laid names b)) → x7 ≡ x6 ++ text_of (a_sign sign.RightParen ∷ [])
    → x7 ≡ out ++ text_of (expression_layout names (choice c a b))
choice_put names c a b out x1 x2 x3 x4 x5 x6 x7 e1 e2 e3 e4 e5 e6 e7 =
    let J : List Written = (join gate.And (laid names c) (laid names a)).text in
    let r6 : List Written = operand (laid names b) ++ (a_sign sign.RightParen ∷ []) in
    let r5 : List Written = gap ∷ a_word word.And ∷ gap ∷ r6 in
    let r4 : List Written = primary (laid names c) ++ r5 in
    let p3 : List Written = a_sign sign.RightParen ∷ gap ∷ a_word word.Or ∷ gap ∷ a_sign sign.LeftParen ∷ a_word word.Not ∷ gap ∷ [] in
    let r3 : List Written = p3 ++ r4 in
    let r2 : List Written = J ++ r3 in
    put_two (a_sign sign.LeftParen ∷ []) r2 out x1 x7 e1
    (put_two J r3 x1 x2 x7 e2
    (put_two p3 r4 x2 x3 x7 e3
    (put_two (primary (laid names c)) r5 x3 x4 x7 e4
    (put_two (gap ∷ a_word word.And ∷ gap ∷ []) r6 x4 x5 x7 e5
    (put_two (operand (laid names b)) (a_sign sign.RightParen ∷ []) x5 x6 x7 e6 e7)))))
    ∙ ap (λ (ws : List Written). out ++ text_of ws) (choice_laid names c a b)

-- ---- the whole text

pub whole_text : (stem : List ℕ) (m : Machine) (a b z : List ℕ) → a ≡ [] ++ front_text m → b ≡ a ++ declared_text (signal_texts stem m) m.registers → z ≡ b ++ stated_text (written_vars stem m) (written_names stem m) m → z ≡ text_of (layout_by stem m)
unfolding layout_by
whole_text stem m a b z ae be ze =
    let E = entity_layout (outline m.name (with_supply_ports m.ports)) in
    let H = head_layout m.name in
    let S = signals_layout (signal_texts stem m) in
    let R = registers_layout (register_names m) in
    let W : List Written = equations_layout (written_vars stem m) (written_names stem m) m.equations ++ (storage_layout (written_vars stem m) m.clock m.registers ++ last_layout) in
    let D : List Written = S ++ (R ++ begin_layout) in
    let all : z ≡ [] ++ text_of ((E ++ H) ++ (D ++ W)) = put_two (E ++ H) (D ++ W) [] a z ae (put_two D W a b z be ze) in
    all ∙ ap text_of (append_assoc E H (D ++ W) ∙ ap (λ (ws : List Written). E ++ (H ++ ws)) (append_assoc S (R ++ begin_layout) W ∙ ap (λ (ws : List Written). S ++ ws) (append_assoc R begin_layout W)))

-- ---- values

pub value_next : (names : List Name) (c a b : Expression) (out o1 o2 o3 o4 whole : List ℕ)
    → o1 ≡ out ++ text_of (expression_layout names a) → o2 ≡ o1 ++ text_of (gap ∷ a_word word.When ∷ gap ∷ [])
    → o3 ≡ o2 ++ text_of (expression_layout names c) → o4 ≡ o3 ++ text_of (gap ∷ a_word word.Else ∷ turn ∷ gap ∷ gap ∷ gap ∷ gap ∷ [])
    → out ++ text_of (value_layout names (choice c a b)) ≡ whole → o4 ++ text_of (value_layout names b) ≡ whole
value_next names c a b out o1 o2 o3 o4 whole e1 e2 e3 e4 so_far =
    let last : List Written = value_layout names b in
    let r3 : List Written = gap ∷ a_word word.Else ∷ turn ∷ gap ∷ gap ∷ gap ∷ gap ∷ last in
    let r2 : List Written = expression_layout names c ++ r3 in
    let r1 : List Written = gap ∷ a_word word.When ∷ gap ∷ r2 in
    let f1 : o1 ++ text_of r1 ≡ whole = next_part (expression_layout names a) r1 out o1 whole e1 so_far in
    let f2 : o2 ++ text_of r2 ≡ whole = next_part (gap ∷ a_word word.When ∷ gap ∷ []) r2 o1 o2 whole e2 f1 in
    let f3 : o3 ++ text_of r3 ≡ whole = next_part (expression_layout names c) r3 o2 o3 whole e3 f2 in
    next_part (gap ∷ a_word word.Else ∷ turn ∷ gap ∷ gap ∷ gap ∷ gap ∷ []) last o3 o4 whole e4 f3

-- ---- what is written of each item of a list

-- nothing is left
pub at_end : (out left whole : List ℕ) → left ≡ [] → out ++ left ≡ whole → out ≡ whole
at_end out left whole none so_far = sym (append-nil out) ∙ ap (λ (x : List ℕ). out ++ x) (sym none) ∙ so_far

pub signals_next : (texts : List (List ℕ)) (k : ℕ) (x out new whole : List ℕ) → k < length texts → x ≡ get_or texts k x → new ≡ out ++ text_of (signal_layout x)
    → out ++ text_of (signals_layout (drop k texts)) ≡ whole → new ++ text_of (signals_layout (drop (k + 1) texts)) ≡ whole
signals_next texts k x out new whole within is put so_far =
    next_part (signal_layout x) (signals_layout (drop (k + 1) texts)) out new whole put
    (ap (λ (ts : List (List ℕ)). out ++ text_of (signals_layout ts)) (sym (drop_next texts k x within is)) ∙ so_far)

pub signals_end : (texts : List (List ℕ)) (k : ℕ) (out whole : List ℕ) → length texts ≤ k → out ++ text_of (signals_layout (drop k texts)) ≡ whole → out ≡ whole
signals_end texts k out whole past so_far =
    at_end out (text_of (signals_layout (drop k texts))) whole (ap (λ (ts : List (List ℕ)). text_of (signals_layout ts)) (drop_all k texts past)) so_far

-- what is left of equations, from number k on
abbrev pub equations_left : List Name → List Name → List Equation → ℕ → List Written
equations_left vars names es k = equations_layout vars (drop k names) (map equation_view (drop k es))

pub equations_next : (vars names : List Name) (es : List Equation) (k : ℕ) (n : Name) (e : Equation) (out new whole : List ℕ)
    → k < length names → n ≡ get_or names k n → k < length es → e ≡ get_or es k e → new ≡ out ++ text_of (equation_layout vars n (view e.expr))
    → out ++ text_of (equations_left vars names es k) ≡ whole → new ++ text_of (equations_left vars names es (k + 1)) ≡ whole
equations_next vars names es k n e out new whole named is within at put so_far =
    next_part (equation_layout vars n (view e.expr)) (equations_left vars names es (k + 1)) out new whole put
    (ap (λ (ns : List Name). out ++ text_of (equations_layout vars ns (map equation_view (e ∷ drop (k + 1) es)))) (sym (drop_next names k n named is))
    ∙ ap (λ (xs : List Equation). out ++ text_of (equations_layout vars (drop k names) (map equation_view xs))) (sym (drop_next es k e within at)) ∙ so_far)

pub equations_end : (vars names : List Name) (es : List Equation) (k : ℕ) (out whole : List ℕ) → length names ≤ k → out ++ text_of (equations_left vars names es k) ≡ whole → out ≡ whole
equations_end vars names es k out whole past so_far =
    at_end out (text_of (equations_left vars names es k)) whole (ap (λ (ns : List Name). text_of (equations_layout vars ns (map equation_view (drop k es)))) (drop_all k names past)) so_far

-- what is left of the blocks of registers, from number k on
abbrev pub blocks_left : List Name → Name → List Register → ℕ → List Written
blocks_left vars clock rs k = blocks_layout vars clock k (map register_view (drop k rs))

pub blocks_next : (vars : List Name) (clock : Name) (rs : List Register) (k : ℕ) (r : Register) (out new whole : List ℕ)
    → k < length rs → r ≡ get_or rs k r → new ≡ out ++ text_of (register_layout vars clock k (register_view r))
    → out ++ text_of (blocks_left vars clock rs k) ≡ whole → new ++ text_of (blocks_left vars clock rs (k + 1)) ≡ whole
blocks_next vars clock rs k r out new whole within at put so_far =
    next_part (register_layout vars clock k (register_view r)) (blocks_left vars clock rs (k + 1)) out new whole put
    (ap (λ (xs : List Register). out ++ text_of (blocks_layout vars clock k (map register_view xs))) (sym (drop_next rs k r within at)) ∙ so_far)

pub blocks_end : (vars : List Name) (clock : Name) (rs : List Register) (k : ℕ) (out whole : List ℕ) → length rs ≤ k → out ++ text_of (blocks_left vars clock rs k) ≡ whole → out ≡ whole
blocks_end vars clock rs k out whole past so_far =
    at_end out (text_of (blocks_left vars clock rs k)) whole (ap (λ (xs : List Register). text_of (blocks_layout vars clock k (map register_view xs))) (drop_all k rs past)) so_far

-- no clock, and nothing stored
pub none_stored : (vars : List Name) (clock : Option Name) (rs : List Stored) (out : List ℕ) → clock ≡ None → out ≡ out ++ text_of (storage_layout vars clock rs)
none_stored vars clock rs out none = sym (append-nil out) ∙ ap (λ (c : Option Name). out ++ text_of (storage_layout vars c rs)) (sym none)

pub some_stored : (vars : List Name) (c : Option Name) (clock : Name) (rs : List Register) (all : List Stored) (out new : List ℕ) → c ≡ Some clock → map register_view rs ≡ all
    → new ≡ out ++ text_of (clocked_layout vars clock (map register_view rs)) → new ≡ out ++ text_of (storage_layout vars c all)
some_stored vars c clock rs all out new is same put =
    put ∙ ap (λ (xs : List Stored). out ++ text_of (clocked_layout vars clock xs)) same ∙ ap (λ (d : Option Name). out ++ text_of (storage_layout vars d all)) (sym is)

-- blocks for registers, of which there is one
pub some_blocks : (vars : List Name) (clock : Name) (rs : List Register) (out new : List ℕ) → (length rs ≡ 0 → ⊥)
    → new ≡ out ++ text_of (blocks_layout vars clock 0 (map register_view rs)) → new ≡ out ++ text_of (clocked_layout vars clock (map register_view rs))
some_blocks vars clock [] out new some put = absurd (some refl)
some_blocks vars clock (r ∷ rs) out new some put = put

pub no_blocks : (vars : List Name) (clock : Name) (rs : List Register) (out new : List ℕ) → length rs ≡ 0
    → new ≡ out ++ text_of (clocked_layout vars clock []) → new ≡ out ++ text_of (clocked_layout vars clock (map register_view rs))
no_blocks vars clock [] out new none put = put
no_blocks vars clock (r ∷ rs) out new none put = absurd (omega (arith, none))
