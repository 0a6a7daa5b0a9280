-- One step of the loops and the calls: what is reached and what is left are together what there was.
use Rattle.std.proofs.Common.{◌≡◌, ℕ, suc, ◌+◌, List, [], ◌∷◌, ◌++◌, map, Option, Some, OnOk, Result, Ok, Err, refl, sym, ap, ◌∙◌, append_assoc, arith}
use Rattle.bool_expr.specs.declared.expr.Expr.{Expr}
use Rattle.bool_expr.specs.View.{view}
use Rattle.bool_expr.specs.Expression.{Expression, variable, inverse}
use Rattle.fsm_machine.specs.Statements.{Assignment, Statements, choose, select, Parts, either, further, Branches, listed}
use Rattle.fsm_machine.specs.Moved.{substituted, moved, moved_parts, moved_branches}
use Rattle.fsm_machine.specs.Signals.{along, any_of, without, signals, part_signals, branch_signals, emitted, emitted_parts, emitted_branches, final, final_parts, final_branches}
use Rattle.fsm_code.proofs.Numbers.{signals_moved, parts_moved, branches_moved}

-- what holds after a call that gave a value holds with what follows from it
pub on_ok : {A B : Type 0} (r : Result A B) (P Q : Type 0) → (P → Q) → OnOk r P → OnOk r Q
on_ok (Ok a) P Q f h = f h
on_ok (Err e) P Q f h = h

pub final_choose : (given : Assignment → Option Expression) (p : Option ℕ) (n m : ℕ) (es : List Expression) (body : Statements) (parts : Parts) (rest : Statements)
    (value reached whole : Expression) → body ≡ choose parts rest → m ≡ n + part_signals parts → reached ≡ final_parts given p n (moved_parts es parts) value
    → final given p n (moved es body) value ≡ whole → final given p m (moved es rest) reached ≡ whole
final_choose given p n m es body parts rest value reached whole is counted made before =
    rw (counted, made)
    (ap (λ k. final given p (n + k) (moved es rest) (final_parts given p n (moved_parts es parts) value)) (sym (parts_moved es parts))
    ∙ ap (λ (b : Statements). final given p n (moved es b) value) (sym is) ∙ before)

pub final_further : (given : Assignment → Option Expression) (p q : Option ℕ) (n m next : ℕ) (first : Option ℕ) (after : ℕ) (es : List Expression) (whole_parts : Parts) (c : Expression) (a : Statements) (more : Parts)
    (value reached whole : Expression) → whole_parts ≡ further c a more → first ≡ Some (n + 1) → after ≡ n + 1 + 1
    → next ≡ after + signals a → reached ≡ final given first after (moved es a) value
    → q ≡ Some next → m ≡ next + 1
    → final_parts given p n (moved_parts es whole_parts) value ≡ whole → final_parts given q m (moved_parts es more) reached ≡ whole
final_further given p q n m next first after es whole_parts c a more value reached whole is at_first at_after counted made at_q at_m before =
    let same = signals_moved es a in
    let k : next ≡ suc (suc n) + signals (moved es a) = omega arith in
    let m_is : m ≡ suc (suc (suc n) + signals (moved es a)) = omega arith in
    let f_is : first ≡ Some (suc n) = at_first ∙ ap (λ (x : ℕ). Some x) (omega arith) in
    let a_is : after ≡ suc (suc n) = omega arith in
    let q_is : q ≡ Some (suc (suc n) + signals (moved es a)) = at_q ∙ ap (λ (x : ℕ). Some x) k in
    rw (q_is, m_is, made, f_is, a_is) (ap (λ (ps : Parts). final_parts given p n (moved_parts es ps) value) (sym is) ∙ before)

pub final_select : (given : Assignment → Option Expression) (p : Option ℕ) (n m : ℕ) (es : List Expression) (body : Statements) (branches : Branches) (rest : Statements)
    (value reached whole : Expression) → body ≡ select branches rest → m ≡ n + branch_signals branches → reached ≡ final_branches given p n (moved_branches es branches) value
    → final given p n (moved es body) value ≡ whole → final given p m (moved es rest) reached ≡ whole
final_select given p n m es body branches rest value reached whole is counted made before =
    rw (counted, made)
    (ap (λ k. final given p (n + k) (moved es rest) (final_branches given p n (moved_branches es branches) value)) (sym (branches_moved es branches))
    ∙ ap (λ (b : Statements). final given p n (moved es b) value) (sym is) ∙ before)

three : (a b c : List Expression) → (a ++ b) ++ c ≡ a ++ (b ++ c)
three a b c = append_assoc a b c

pub emitted_choose : (at : ℕ → ℕ) (states : List ℕ) (p here : Option ℕ) (n m : ℕ) (es : List Expression) (body : Statements) (parts : Parts) (rest : Statements)
    (old new whole : List Expression) → body ≡ choose parts rest → here ≡ p → m ≡ n + part_signals parts → new ≡ old ++ emitted_parts at states here n (moved_parts es parts)
    → old ++ emitted at states p n (moved es body) ≡ whole → new ++ emitted at states p m (moved es rest) ≡ whole
emitted_choose at states p here n m es body parts rest old new whole is path counted added before =
    rw (counted, added, path)
    (ap (λ k. (old ++ emitted_parts at states p n (moved_parts es parts)) ++ emitted at states p (n + k) (moved es rest)) (sym (parts_moved es parts))
    ∙ three old (emitted_parts at states p n (moved_parts es parts)) (emitted at states p (n + part_signals (moved_parts es parts)) (moved es rest))
    ∙ ap (λ (b : Statements). old ++ emitted at states p n (moved es b)) (sym is) ∙ before)

pub emitted_select : (at : ℕ → ℕ) (states : List ℕ) (p here : Option ℕ) (n m : ℕ) (es : List Expression) (body : Statements) (branches : Branches) (rest : Statements)
    (old new whole : List Expression) → body ≡ select branches rest → here ≡ p → m ≡ n + branch_signals branches → new ≡ old ++ emitted_branches at states here n states (moved_branches es branches)
    → old ++ emitted at states p n (moved es body) ≡ whole → new ++ emitted at states p m (moved es rest) ≡ whole
emitted_select at states p here n m es body branches rest old new whole is path counted added before =
    rw (counted, added, path)
    (ap (λ k. (old ++ emitted_branches at states p n states (moved_branches es branches)) ++ emitted at states p (n + k) (moved es rest)) (sym (branches_moved es branches))
    ∙ three old (emitted_branches at states p n states (moved_branches es branches)) (emitted at states p (n + branch_signals (moved_branches es branches)) (moved es rest))
    ∙ ap (λ (b : Statements). old ++ emitted at states p n (moved es b)) (sym is) ∙ before)

five : (o x e z r : List Expression) → (((o ++ x) ++ e) ++ z) ++ r ≡ o ++ (x ++ (e ++ (z ++ r)))
five o x e z r = three ((o ++ x) ++ e) z r ∙ three (o ++ x) e (z ++ r) ∙ three o x (e ++ (z ++ r))

-- an `if` with an `elsif`: the condition, the path of its part, the part, and the path of what follows
pub emitted_further : (at : ℕ → ℕ) (states : List ℕ) (p q first : Option ℕ) (n m next after : ℕ) (es : List Expression) (all : Parts) (c : Expression) (a : Statements) (more : Parts)
    (o o1 o2 o3 whole : List Expression) → all ≡ further c a more → first ≡ Some (n + 1) → after ≡ n + 1 + 1 → next ≡ after + signals a → q ≡ Some next → m ≡ next + 1
    → o1 ≡ o ++ (substituted es c ∷ along p (variable n) ∷ []) → o2 ≡ o1 ++ emitted at states first after (moved es a) → o3 ≡ o2 ++ (along p (inverse (variable n)) ∷ [])
    → o ++ emitted_parts at states p n (moved_parts es all) ≡ whole → o3 ++ emitted_parts at states q m (moved_parts es more) ≡ whole
emitted_further at states p q first n m next after es all c a more o o1 o2 o3 whole is at_first at_after counted at_q at_m e1 e2 e3 before =
    let same = signals_moved es a in
    let k : next ≡ suc (suc n) + signals (moved es a) = omega arith in
    let m_is : m ≡ suc (suc (suc n) + signals (moved es a)) = omega arith in
    let f_is : first ≡ Some (suc n) = at_first ∙ ap (λ (x : ℕ). Some x) (omega arith) in
    let a_is : after ≡ suc (suc n) = omega arith in
    let q_is : q ≡ Some (suc (suc n) + signals (moved es a)) = at_q ∙ ap (λ (x : ℕ). Some x) k in
    rw (e3, e2, e1, q_is, m_is, f_is, a_is)
    (five o (substituted es c ∷ along p (variable n) ∷ []) (emitted at states (Some (suc n)) (suc (suc n)) (moved es a)) (along p (inverse (variable n)) ∷ [])
    (emitted_parts at states (Some (suc (suc n) + signals (moved es a))) (suc (suc (suc n) + signals (moved es a))) (moved_parts es more))
    ∙ ap (λ (ps : Parts). o ++ emitted_parts at states p n (moved_parts es ps)) (sym is) ∙ before)

-- an `if` with an `else`, likewise
pub emitted_either : (at : ℕ → ℕ) (states : List ℕ) (p q first : Option ℕ) (n m next after : ℕ) (es : List Expression) (all : Parts) (c : Expression) (a b : Statements)
    (o o1 o2 o3 o4 whole : List Expression) → all ≡ either c a b → first ≡ Some (n + 1) → after ≡ n + 1 + 1 → next ≡ after + signals a → q ≡ Some next → m ≡ next + 1
    → o1 ≡ o ++ (substituted es c ∷ along p (variable n) ∷ []) → o2 ≡ o1 ++ emitted at states first after (moved es a) → o3 ≡ o2 ++ (along p (inverse (variable n)) ∷ [])
    → o ++ emitted_parts at states p n (moved_parts es all) ≡ whole → o4 ≡ o3 ++ emitted at states q m (moved es b) → o4 ≡ whole
emitted_either at states p q first n m next after es all c a b o o1 o2 o3 o4 whole is at_first at_after counted at_q at_m e1 e2 e3 before e4 =
    let same = signals_moved es a in
    let k : next ≡ suc (suc n) + signals (moved es a) = omega arith in
    let m_is : m ≡ suc (suc (suc n) + signals (moved es a)) = omega arith in
    let f_is : first ≡ Some (suc n) = at_first ∙ ap (λ (x : ℕ). Some x) (omega arith) in
    let a_is : after ≡ suc (suc n) = omega arith in
    let q_is : q ≡ Some (suc (suc n) + signals (moved es a)) = at_q ∙ ap (λ (x : ℕ). Some x) k in
    rw (e4, e3, e2, e1, q_is, m_is, f_is, a_is)
    (five o (substituted es c ∷ along p (variable n) ∷ []) (emitted at states (Some (suc n)) (suc (suc n)) (moved es a)) (along p (inverse (variable n)) ∷ [])
    (emitted at states (Some (suc (suc n) + signals (moved es a))) (suc (suc (suc n) + signals (moved es a))) (moved es b))
    ∙ ap (λ (ps : Parts). o ++ emitted_parts at states p n (moved_parts es ps)) (sym is) ∙ before)

-- a listed branch: its path, its part, and the further branches
pub emitted_listed : (at : ℕ → ℕ) (states left : List ℕ) (p first : Option ℕ) (n next after : ℕ) (es : List Expression) (all : Branches) (here rest : List ℕ) (a : Statements) (more : Branches)
    (o o1 o2 o3 : List Expression) → all ≡ listed here a more → first ≡ Some n → after ≡ n + 1 → next ≡ after + signals a → rest ≡ without here left
    → o1 ≡ o ++ (along p (any_of at here) ∷ []) → o2 ≡ o1 ++ emitted at states first after (moved es a)
    → o3 ≡ o2 ++ emitted_branches at states p next rest (moved_branches es more) → o3 ≡ o ++ emitted_branches at states p n left (moved_branches es all)
emitted_listed at states left p first n next after es all here rest a more o o1 o2 o3 is at_first at_after counted others e1 e2 e3 =
    let same = signals_moved es a in
    let n_is : next ≡ suc n + signals (moved es a) = omega arith in
    let a_is : after ≡ suc n = omega arith in
    rw (e3, e2, e1, n_is, at_first, a_is, others, is)
    (three (o ++ (along p (any_of at here) ∷ [])) (emitted at states (Some n) (suc n) (moved es a)) (emitted_branches at states p (suc n + signals (moved es a)) (without here left) (moved_branches es more))
    ∙ three o (along p (any_of at here) ∷ []) (emitted at states (Some n) (suc n) (moved es a) ++ emitted_branches at states p (suc n + signals (moved es a)) (without here left) (moved_branches es more)))

mapped_push : (old : List Expr) (a : Expr) → map view (old ++ (a ∷ [])) ≡ map view old ++ (view a ∷ [])
mapped_push [] a = refl
mapped_push (x ∷ old) a = ap (λ (es : List Expression). view x ∷ es) (mapped_push old a)

pub two_put : (old one two : List Expr) (a b : Expr) (x y : Expression) → one ≡ old ++ (a ∷ []) → two ≡ one ++ (b ∷ []) → view a ≡ x → view b ≡ y → map view two ≡ map view old ++ (x ∷ y ∷ [])
two_put old one two a b x y e f g h =
    ap (map view) f ∙ mapped_push one b ∙ ap (λ (es : List Expr). map view es ++ (view b ∷ [])) e
    ∙ ap (λ (es : List Expression). es ++ (view b ∷ [])) (mapped_push old a) ∙ three (map view old) (view a ∷ []) (view b ∷ []) ∙ rw (g, h) refl
