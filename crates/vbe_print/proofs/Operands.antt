-- The operands of a gate, one behind the other.
use Rattle.std.proofs.Common.{◌≡◌, ℕ, ◌+◌, ◌≤◌, Bool, true, List, [], ◌∷◌, ◌++◌, map, length, Bor, refl, sym, ap, subst, ◌∙◌, append_assoc, append-nil, arith}
use Rattle.std.proofs.lemmas.List.{map_push}
use Rattle.vlsi_base.specs.declared.name.Name.{Name}
use Rattle.bool_expr.specs.declared.expr.Expr.{Expr}
use Rattle.bool_expr.specs.declared.expr.Gate.{Gate}
use Rattle.bool_expr.specs.declared.expr.Gate.TheVariants as gate
use Rattle.bool_expr.specs.Expression.{Expression, pair, IsOver}
use Rattle.bool_expr.specs.View.{view}
use Rattle.spell_theory.specs.Layout.{Written, gap, text_of}
use Rattle.vhdl_print.specs.Outline.{a_word}
use Rattle.vst_print.proofs.Texts.{text_append}
use Rattle.vbe_print.specs.Expressions.{gate_word, chains, unless, operand, leading, join, laid}
use Rattle.vbe_print.specs.Pieces.{weight, link_text, links_text, AreLight, AreOperands}

chains_same : (g h : Gate) → chains g h ≡ true → g ≡ h
chains_same gate.And gate.And e = refl
chains_same gate.Or gate.Or e = refl
chains_same gate.Xor gate.Xor e = refl
chains_same gate.Xnor gate.Xnor e = refl
chains_same _ _ e = absurd cc

-- operands that the same gate joins are not in parentheses in front of it
leading_pair : (names : List Name) (g h : Gate) (a b : Expression) → chains g h ≡ true
    → leading g (laid names (pair h a b)) ≡ leading g (laid names a) ++ (gap ∷ a_word (gate_word g) ∷ gap ∷ operand (laid names b))
leading_pair names g h a b e =
    ap (λ (t : Bool). unless t (leading h (laid names a) ++ (gap ∷ a_word (gate_word h) ∷ gap ∷ operand (laid names b)))) e
    ∙ ap (λ (k : Gate). leading k (laid names a) ++ (gap ∷ a_word (gate_word k) ∷ gap ∷ operand (laid names b))) (sym (chains_same g h e))

links_push : (names : List Name) (g : Gate) (es : List Expression) (e : Expression) → links_text names g (es ++ e ∷ []) ≡ link_text names g e ++ links_text names g es
links_push names g [] e = sym (append-nil (link_text names g e))
links_push names g (x ∷ es) e =
    ap (λ (t : List ℕ). t ++ link_text names g x) (links_push names g es e) ∙ append_assoc (link_text names g e) (links_text names g es) (link_text names g x)

light_push : (n w : ℕ) (es : List Expression) (e : Expression) → AreLight n w es → IsOver e n → weight e ≤ w → AreLight n w (es ++ e ∷ [])
light_push n w [] e light over less = (over, less, tt)
light_push n w (x ∷ es) e light over less = (light.0, light.1, light_push n w es e light.2 over less)

light_front : (n w : ℕ) (es : List Expression) (e : Expression) → AreLight n w (es ++ e ∷ []) → AreLight n w es × IsOver e n × (weight e ≤ w)
light_front n w [] e light = (tt, light.0, light.1)
light_front n w (x ∷ es) e light = let r = light_front n w es e light.2 in ((light.0, light.1, r.0), r.1, r.2)

abbrev pub seen : List (Bor Expr) → List Expression
seen es = map (λ e. view e.now) es

seen_push : (es : List (Bor Expr)) (e : Bor Expr) → seen (es ++ e ∷ []) ≡ seen es ++ view e.now ∷ []
seen_push es e = map_push (λ (x : Bor Expr). view x.now) es e

-- ---- they are collected

pub operands_first : (names : List Name) (g : Gate) (left right : Expression) (old new : List (Bor Expr)) (e : Bor Expr)
    → old ≡ [] → new ≡ old ++ e ∷ [] → view e.now ≡ right → IsOver left (length names) → IsOver right (length names) → AreOperands names g left right left (seen new)
operands_first names g left right old new e none pushed is over also =
    let alone : seen new ≡ right ∷ [] = ap seen pushed ∙ ap (λ (es : List (Bor Expr)). seen (es ++ e ∷ [])) none ∙ ap (λ (x : Expression). x ∷ []) is in
    let one : AreOperands names g left right left (right ∷ []) = record {
      same = sym (text_append (leading g (laid names left)) (gap ∷ a_word (gate_word g) ∷ gap ∷ operand (laid names right)));
      over = over;
      less = omega arith;
      light = (also, omega arith, tt);
    } in
    subst (λ (es : List Expression). AreOperands names g left right left es) (sym alone) one

pub operands_next : (names : List Name) (g h : Gate) (left right first a b : Expression) (old new : List (Bor Expr)) (e : Bor Expr)
    → chains g h ≡ true → first ≡ pair h a b → new ≡ old ++ e ∷ [] → view e.now ≡ b → AreOperands names g left right first (seen old) → AreOperands names g left right a (seen new)
operands_next names g h left right first a b old new e chained is pushed last so_far =
    let more : seen new ≡ seen old ++ b ∷ [] = ap seen pushed ∙ seen_push old e ∙ ap (λ (x : Expression). seen old ++ x ∷ []) last in
    let at : AreOperands names g left right (pair h a b) (seen old) = subst (λ (x : Expression). AreOperands names g left right x (seen old)) is so_far in
    let less = at.less in
    let next : AreOperands names g left right a (seen old ++ b ∷ []) = record {
      same =
          ap (λ (t : List ℕ). text_of (leading g (laid names a)) ++ t) (links_push names g (seen old) b)
          ∙ sym (append_assoc (text_of (leading g (laid names a))) (link_text names g b) (links_text names g (seen old)))
          ∙ ap (λ (t : List ℕ). t ++ links_text names g (seen old)) (sym (text_append (leading g (laid names a)) (gap ∷ a_word (gate_word g) ∷ gap ∷ operand (laid names b))))
          ∙ ap (λ (ws : List Written). text_of ws ++ links_text names g (seen old)) (sym (leading_pair names g h a b chained))
          ∙ at.same;
      over = at.over.0;
      less = omega (arith, less);
      light = light_push (length names) (weight left + weight right) (seen old) b at.light at.over.1 (omega (arith, less));
    } in
    subst (λ (es : List Expression). AreOperands names g left right a es) (sym more) next

-- ---- they are written

-- what was written, and the operands that are left
pub record AreLeft (names : List Name) (g : Gate) (w : ℕ) (others : List Expression) (out whole : List ℕ) : Type 0 where
  pub rest : out ++ links_text names g others ≡ whole
  pub light : AreLight (length names) w others

pub left_first : (names : List Name) (g : Gate) (left right first : Expression) (others : List Expression) (start out : List ℕ)
    → AreOperands names g left right first others → out ≡ start ++ text_of (leading g (laid names first))
    → AreLeft names g (weight left + weight right) others out (start ++ text_of (join g (laid names left) (laid names right)).text)
left_first names g left right first others start out are put = record {
  rest =
      ap (λ (x : List ℕ). x ++ links_text names g others) put ∙ append_assoc start (text_of (leading g (laid names first))) (links_text names g others)
      ∙ ap (λ (x : List ℕ). start ++ x) are.same;
  light = are.light;
}

-- the last one of those that are left
pub left_last : (names : List Name) (g : Gate) (w : ℕ) (old new : List (Bor Expr)) (e : Bor Expr) (out whole : List ℕ)
    → old ≡ new ++ e ∷ [] → AreLeft names g w (seen old) out whole → AreLight (length names) w (seen new) × IsOver (view e.now) (length names) × (weight (view e.now) ≤ w)
left_last names g w old new e out whole popped are =
    light_front (length names) w (seen new) (view e.now) (subst (λ (es : List Expression). AreLight (length names) w es) (ap seen popped ∙ seen_push new e) are.light)

pub left_next : (names : List Name) (g : Gate) (w : ℕ) (old new : List (Bor Expr)) (e : Bor Expr) (out a b whole : List ℕ)
    → old ≡ new ++ e ∷ [] → a ≡ out ++ text_of (gap ∷ a_word (gate_word g) ∷ gap ∷ []) → b ≡ a ++ text_of (operand (laid names (view e.now)))
    → AreLeft names g w (seen old) out whole → AreLeft names g w (seen new) b whole
left_next names g w old new e out a b whole popped ae be are =
    let x = view e.now in
    let o : List Written = operand (laid names x) in
    let front : List Written = gap ∷ a_word (gate_word g) ∷ gap ∷ [] in
    let more = links_text names g (seen new) in
    let put : b ≡ out ++ link_text names g x =
    be ∙ ap (λ (t : List ℕ). t ++ text_of o) ae ∙ append_assoc out (text_of front) (text_of o) ∙ ap (λ (t : List ℕ). out ++ t) (sym (text_append front o)) in
    record {
      rest =
          ap (λ (t : List ℕ). t ++ more) put ∙ append_assoc out (link_text names g x) more
          ∙ ap (λ (t : List ℕ). out ++ t) (sym (ap (λ (es : List Expression). links_text names g es) (ap seen popped ∙ seen_push new e) ∙ links_push names g (seen new) x))
          ∙ are.rest;
      light = (left_last names g w old new e out whole popped are).0;
    }

pub left_none : (names : List Name) (g : Gate) (w : ℕ) (others : List (Bor Expr)) (out whole : List ℕ) → others ≡ [] → AreLeft names g w (seen others) out whole → out ≡ whole
left_none names g w others out whole none are =
    sym (append-nil out) ∙ ap (λ (es : List (Bor Expr)). out ++ links_text names g (seen es)) (sym none) ∙ are.rest
