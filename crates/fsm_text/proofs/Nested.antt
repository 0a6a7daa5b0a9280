-- The same for ifs and cases within one another, however deep.
use Rattle.std.proofs.Common.{◌≡◌, ℕ, zero, suc, ◌+◌, ◌-◌, ◌<◌, true, false, List, [], ◌∷◌, ◌++◌, length, None, inl, inr, refl, sym, subst, Result, Ok, Err, arith}
use Rattle.vlsi_base.specs.Tree.{Tree, name}
use Rattle.vhdl_token.specs.declared.keyword.Keyword.{Keyword}
use Rattle.vhdl_token.specs.declared.keyword.Keyword.TheVariants as word
use Rattle.vhdl_token.specs.declared.token.Sign.TheVariants as sign
use Rattle.vhdl_token.specs.declared.token.PlacedToken.{PlacedToken}
use Rattle.grammar_theory.specs.declared.form.Form.{Form}
use Rattle.grammar_theory.specs.declared.form.Form.TheVariants as form
use Rattle.grammar_theory.specs.declared.refusal.Breach.TheVariants as broken
use Rattle.grammar_theory.specs.declared.refusal.Reason.TheVariants as reason
use Rattle.grammar_theory.specs.Tokens.{code}
use Rattle.grammar_theory.specs.Marks.{Item, State, plain, starts, opens, step}
use Rattle.grammar_theory.specs.Grammar.{Grammar, none, nothing, item, one, Then, ◌or◌, list, at_some}
use Rattle.grammar_theory.specs.Outcome.{At, Reader, refusal, list_at}
use Rattle.grammar_theory.specs.Answers.{Answers}
use Rattle.grammar_theory.proofs.Sets.{Set}
use Rattle.grammar_theory.proofs.Exact.{Shape}
use Rattle.grammar_theory.proofs.Samples.{some_of, some_of-code}
use Rattle.grammar_theory.proofs.Bundle.{Exact, exact_nothing, exact_one, exact_marked, exact_then, exact_behind, within, none_shape}
use Rattle.grammar_theory.proofs.Many.{exact_list}
use Rattle.grammar_theory.proofs.Shut.{exact_shut}
use Rattle.grammar_theory.proofs.Levels.{Rising}
use Rattle.grammar_theory.proofs.AllLevels.{exact_all}
use Rattle.grammar_theory.proofs.Listing.{consumes}
use Rattle.vhdl_front.specs.Expression.{less}
use Rattle.vhdl_front.specs.Entity.{new_name}
use Rattle.vhdl_front.proofs.Language.{numbers, factor_firsts}
use Rattle.vhdl_front.proofs.Nested.{sample_nested}
use Rattle.fsm_text.specs.Written.{StatementTree, selected, chosen, closed, only, finish, BodyTree, PartTree, BranchTree, body_of}
use Rattle.fsm_text.specs.Fsm.{used_name, part, further_part, last_part, behind_if, conditional, listed_branch, led_branch, others_branch, last_branch, branches, behind_case, case_statement, statement, body_over, nested, body}
use Rattle.fsm_text.specs.FsmReading.{behind_if_at, conditional_at, behind_case_at, case_statement_at, statement_at, statement_kinds, statement_list_at, body_over_at, inner_at, body_at, part_at, further_part_at, listed_branch_at}
use Rattle.fsm_text.specs.Pieces.{led_branch_at}
use Rattle.fsm_text.proofs.FsmLanguage.{under, Bodies, body_firsts, exact_used_name, exact_assertion, exact_assignment, exact_further_part, exact_behind_if, exact_listed_branch, assert, if_word, case_word, elsif_word, semicolon}
use Rattle.fsm_text.proofs.Whens.{exact_branches}

-- what stands in an if or a case
abbrev below : ℕ → ℕ → Grammar BodyTree
below zero room = none
below (suc deeper) room = nested deeper (less room)

-- ---- behind the words

exact_behind_case : {P : Type 0} (line : ℕ) (SI BI : Grammar BodyTree) {r : Reader BodyTree} → Bodies P SI BI r
    → Exact P (behind_case line SI) (behind_case line BI) false (numbers (form.Identifier ∷ [])) [] (behind_case_at line r)
unfolding behind_case behind_case_at
exact_behind_case line SI BI e = exact_then exact_used_name (λ name. exact_then (exact_one (form.Keyword word.Is)) (λ u. exact_then (exact_branches SI BI e)
    (λ all. exact_then (exact_one (form.Keyword word.End)) (λ v. exact_then (exact_one case_word) (λ w. exact_then (exact_one semicolon)
    (λ x. exact_nothing (selected line name all)) refl) refl) refl) refl) refl) refl

-- an if and a case, where so many more may be open
pub record Enters (P : Type 0) (room : ℕ) (SI BI : Grammar BodyTree) (r : Reader BodyTree) : Type 0 where
  pub ifs : Exact P (conditional room SI) (conditional room BI) false (numbers (if_word ∷ [])) [] (conditional_at room r)
  pub cases : Exact P (case_statement room SI) (case_statement room BI) false (numbers (case_word ∷ [])) [] (case_statement_at room r)

exact_statement : {P : Type 0} (room : ℕ) (SI BI : Grammar BodyTree) {r : Reader BodyTree} → Enters P room SI BI r
    → Exact P (statement room SI) (statement room BI) false body_firsts [] (statement_at room r)
unfolding statement statement_at
exact_statement room SI BI e = exact_behind assert (exact_assertion room) (exact_behind if_word e.ifs (exact_behind case_word e.cases (exact_assignment room) refl) refl) refl

exact_body_over : {P : Type 0} (room : ℕ) (SI BI : Grammar BodyTree) {r : Reader BodyTree} → Enters P room SI BI r
    → Bodies P (body_over room SI) (body_over room BI) (body_over_at room r)
unfolding body_over body_over_at statement_list_at
exact_body_over room SI BI e = within body_firsts body_firsts (exact_then (exact_list (exact_statement room SI BI e) refl) (λ all. exact_nothing (body_of all)) refl) refl refl refl

-- ---- where they may be open

nowhere : (I : Grammar BodyTree) → Shape I true body_firsts body_firsts → Bodies ⊥ I I (λ here. Err (refusal reason.Syntax here.rest))
nowhere I sh = record { shape = sh; inside = λ p. absurd p; reads = λ p. absurd p; starts = λ p. absurd p }

-- no sentence but the reader of a greater grammar
narrow : {P A : Type 0} {S B : Grammar A} {null : _} {f l : Set} {r : Reader A} → Exact P S B null f l r → Exact P none B null f l r
narrow e = record { shape = e.shape; inside = λ p q v h. absurd h; reads = e.reads; starts = e.starts }

step_back : (room : ℕ) → room ≡ suc room - 1
step_back room = omega arith

open_words : {P : Type 0} (room : ℕ) (SI BI : Grammar BodyTree) → Bodies P SI BI (body_at room) → Enters P (suc room) SI BI (inner_at (suc room))
unfolding conditional conditional_at case_statement case_statement_at inner_at
open_words {P} room SI BI e =
    let parts : Exact P (behind_if (suc room - 1) SI) (behind_if (suc room - 1) BI) false factor_firsts [] (behind_if_at (suc room - 1) (body_at room)) =
    subst (λ (k : ℕ). Exact P (behind_if k SI) (behind_if k BI) false factor_firsts [] (behind_if_at k (body_at room))) (step_back room) (exact_behind_if room SI BI e) in
    record {
      ifs = exact_then (exact_marked if_word (λ _. opens (suc room))) (λ t. parts) refl;
      cases = exact_then (exact_marked case_word (λ _. opens (suc room))) (λ t. exact_behind_case t.line SI BI e) refl;
    }

-- ---- where they may not

shut_step : (s : State) → step (opens zero) s ≡ Err broken.Depth
unfolding step
shut_step s = refl

abbrev token : Form → Item
token f = item (some_of f) plain

-- a token of a kind before a sentence
led_one : {A : Type 0} (f : Form) (G : Grammar A) (items : List Item) (v : A) → G items v → Then (one f) (λ _. G) (token f ∷ items) v
led_one f G items v h = record { front = token f ∷ []; back = items; value = some_of f; parts = refl; before = record { alone = refl; kind = some_of-code f }; behind = h }

abbrev name_items : List Item
name_items = token form.Identifier ∷ []

abbrev then_items : List Item
then_items = item (some_of (form.Keyword word.Then)) starts ∷ []

abbrev sample_part : PartTree
sample_part = record { line = (some_of form.Identifier).line; condition = name [] 0; body = finish }

-- `x then`
part_sample : (room : ℕ) (I : Grammar BodyTree) → I [] finish → part room I (name_items ++ then_items) sample_part
unfolding part
part_sample room I some = record {
  front = name_items;
  back = then_items;
  value = ((some_of form.Identifier).line, name [] 0);
  parts = refl;
  before = (record { level = 0; sentence = sample_nested 0 room }, refl);
  behind = record {
    front = then_items;
    back = [];
    value = some_of (form.Keyword word.Then);
    parts = refl;
    before = record { alone = refl; kind = some_of-code (form.Keyword word.Then) };
    behind = record { front = []; back = []; value = finish; parts = refl; before = some; behind = (refl, refl) };
  };
}

-- `x then end if ;`, behind the word
if_sample : (room : ℕ) (I : Grammar BodyTree) → I [] finish → (p : List Item) × (v : StatementTree) × behind_if room I p v
unfolding behind_if last_part
if_sample room I some =
    let v : StatementTree = chosen (only sample_part.line sample_part.condition finish) in
    let last = token (form.Keyword word.End) ∷ token if_word ∷ token semicolon ∷ [] in (
      name_items ++ then_items ++ last,
      v,
      record {
        front = name_items ++ then_items;
        back = last;
        value = sample_part;
        parts = refl;
        before = part_sample room I some;
        behind = record {
          front = [];
          back = last;
          value = [];
          parts = refl;
          before = refl;
          behind = record {
            front = [];
            back = last;
            value = None;
            parts = refl;
            before = inr (refl, refl);
            behind = led_one (form.Keyword word.End) (Then (one if_word) (λ _. Then (one semicolon) (λ _. nothing v))) (token if_word ∷ token semicolon ∷ []) v
                (led_one if_word (Then (one semicolon) (λ _. nothing v)) (token semicolon ∷ []) v (led_one semicolon (nothing v) [] v (refl, refl)));
          };
        };
      },
    )

-- `x is end case ;`, behind the word
case_sample : (line : ℕ) (I : Grammar BodyTree) → (p : List Item) × (v : StatementTree) × behind_case line I p v
unfolding behind_case used_name branches last_branch
case_sample line I =
    let x = new_name (some_of form.Identifier) in
    let v : StatementTree = selected line x closed in
    let last = token (form.Keyword word.End) ∷ token case_word ∷ token semicolon ∷ [] in (
      name_items ++ token (form.Keyword word.Is) ∷ last,
      v,
      record {
        front = name_items;
        back = token (form.Keyword word.Is) ∷ last;
        value = x;
        parts = refl;
        before = record { front = name_items; back = []; value = some_of form.Identifier; parts = refl; before = record { alone = refl; kind = some_of-code form.Identifier }; behind = (refl, refl) };
        behind = record {
          front = token (form.Keyword word.Is) ∷ [];
          back = last;
          value = some_of (form.Keyword word.Is);
          parts = refl;
          before = record { alone = refl; kind = some_of-code (form.Keyword word.Is) };
          behind = record {
            front = [];
            back = last;
            value = closed;
            parts = refl;
            before = record { front = []; back = []; value = []; parts = refl; before = refl; behind = record { front = []; back = []; value = None; parts = refl; before = inr (refl, refl); behind = (refl, refl) } };
            behind = led_one (form.Keyword word.End) (Then (one case_word) (λ _. Then (one semicolon) (λ _. nothing v))) (token case_word ∷ token semicolon ∷ []) v
                (led_one case_word (Then (one semicolon) (λ _. nothing v)) (token semicolon ∷ []) v (led_one semicolon (nothing v) [] v (refl, refl)));
          };
        };
      },
    )

-- ---- a part of a grammar has a part of its sentences

abbrev Sub : {A : Type 0} → Grammar A → Grammar A → Type 0
Sub {A} L M = (p : List Item) (v : A) → L p v → M p v

then_sub : {A C : Type 0} (L K : Grammar A) (M N : A → Grammar C) → Sub L K → ((x : A) → Sub (M x) (N x)) → Sub (Then L M) (Then K N)
then_sub L K M N first rest p v h = record { front = h.front; back = h.back; value = h.value; parts = h.parts; before = first h.front h.value h.before; behind = rest h.value h.back v h.behind }

behind_sub : {A C : Type 0} (L : Grammar A) (M N : A → Grammar C) → ((x : A) → Sub (M x) (N x)) → Sub (Then L M) (Then L N)
behind_sub L M N rest = then_sub L L M N (λ p v h. h) rest

either_sub : {A : Type 0} (L K M : Grammar A) → Sub L K → Sub (L or M) (K or M)
either_sub L K M first p v (inl h) = inl (first p v h)
either_sub L K M first p v (inr h) = inr h

list_sub : {A : Type 0} (L K : Grammar A) → Sub L K → Sub (list L) (list K)
list_sub L K each p [] h = h
list_sub L K each p (v ∷ vs) h = (h.0, h.1, h.2, each h.0 v h.3, list_sub L K each h.1 vs h.4)

part_sub : (room : ℕ) (S B : Grammar BodyTree) → Sub S B → Sub (part room S) (part room B)
unfolding part
part_sub room S B sub = behind_sub _ _ _ (λ c. behind_sub _ _ _ (λ t. then_sub S B _ _ sub (λ body p v h. h)))

if_sub : (room : ℕ) (S B : Grammar BodyTree) → Sub S B → Sub (behind_if room S) (behind_if room B)
unfolding behind_if further_part last_part
if_sub room S B sub =
    then_sub _ _ _ _ (part_sub room S B sub) (λ first. then_sub _ _ _ _ (list_sub _ _ (behind_sub _ _ _ (λ t. part_sub room S B sub)))
    (λ more. then_sub _ _ _ _ (either_sub _ _ _ (behind_sub _ _ _ (λ t. then_sub S B _ _ sub (λ body p v h. h)))) (λ last p v h. h)))

branches_sub : (S B : Grammar BodyTree) → Sub S B → Sub (branches S) (branches B)
unfolding branches led_branch listed_branch last_branch others_branch
branches_sub S B sub =
    then_sub _ _ _ _ (list_sub _ _ (behind_sub _ _ _ (λ t. behind_sub _ _ _ (λ states. behind_sub _ _ _ (λ u. then_sub S B _ _ sub (λ body p v h. h))))))
    (λ all. then_sub _ _ _ _ (either_sub _ _ _ (behind_sub _ _ _ (λ t. then_sub _ _ _ _ (behind_sub _ _ _ (λ u. behind_sub _ _ _ (λ w. sub))) (λ body p v h. h)))) (λ last p v h. h))

case_sub : (line : ℕ) (S B : Grammar BodyTree) → Sub S B → Sub (behind_case line S) (behind_case line B)
unfolding behind_case
case_sub line S B sub = behind_sub _ _ _ (λ called. behind_sub _ _ _ (λ u. then_sub _ _ _ _ (branches_sub S B sub) (λ all p v h. h)))

nothing_in : (deeper room : ℕ) → nested deeper room [] finish
unfolding nested body_over
nothing_in zero room = record { front = []; back = []; value = []; parts = refl; before = refl; behind = (refl, refl) }
nothing_in (suc deeper) room = record { front = []; back = []; value = []; parts = refl; before = refl; behind = (refl, refl) }

shut_words : {P : Type 0} (SI BI : Grammar BodyTree) → Shape BI true body_firsts body_firsts → (P → Sub SI BI) → BI [] finish → Enters P zero SI BI (inner_at zero)
unfolding conditional conditional_at case_statement case_statement_at
shut_words {P} SI BI sh inside some = record {
  ifs = exact_shut if_word (λ _. opens zero) broken.Depth (λ t s. shut_step s) (λ t. (exact_behind_if zero BI BI (nowhere BI sh)).shape)
      (λ p t. if_sub zero SI BI (inside p)) (λ t. if_sample zero BI some) (λ t. behind_if_at zero (inner_at zero));
  cases = exact_shut case_word (λ _. opens zero) broken.Depth (λ t s. shut_step s) (λ t. (exact_behind_case t.line BI BI (nowhere BI sh)).shape)
      (λ p t. case_sub t.line SI BI (inside p)) (λ t. case_sample t.line BI) (λ t. behind_case_at t.line (inner_at zero));
}

abbrev Deeper : ℕ → ℕ → ℕ → Type 0
Deeper d e room = (d < e) × (room < e)

level : {P : Type 0} (d e room : ℕ) {r : Reader BodyTree} → Bodies P (body_over room (below d room)) (body_over room (below e room)) r → Bodies P (nested d room) (nested e room) r
unfolding nested
level zero zero room e = e
level zero (suc b) room e = e
level (suc a) zero room e = e
level (suc a) (suc b) room e = e

-- by induction on how deep the grammar goes
pub enters : (e d room : ℕ) → Enters (Deeper d e room) room (below d room) (below e room) (inner_at room)
unfolding conditional case_statement
enters zero d room =
    let shape = none_shape true body_firsts body_firsts in
    let ifs = (exact_then {P = ⊥} (exact_marked if_word (λ _. opens room)) (λ t. exact_behind_if (room - 1) none none (nowhere none shape)) refl).shape in
    let cases = (exact_then {P = ⊥} (exact_marked case_word (λ _. opens room)) (λ t. exact_behind_case t.line none none (nowhere none shape)) refl).shape in
    record {
      ifs = record { shape = ifs; inside = λ p. absurd (omega (arith, p.0)); reads = λ p. absurd (omega (arith, p.0)); starts = λ p. absurd (omega (arith, p.0)) };
      cases = record { shape = cases; inside = λ p. absurd (omega (arith, p.0)); reads = λ p. absurd (omega (arith, p.0)); starts = λ p. absurd (omega (arith, p.0)) };
    }
enters (suc e) zero zero =
    let inner = level zero e zero (exact_body_over zero (below zero zero) (below e zero) (enters e zero zero)) in
    shut_words none (nested e zero) inner.shape (λ p q v h. absurd h) (nothing_in e zero)
enters (suc e) (suc d) zero =
    let inner = level d e zero (exact_body_over zero (below d zero) (below e zero) (enters e d zero)) in
    shut_words (nested d zero) (nested e zero) inner.shape (λ p. inner.inside (omega (arith, p.0), omega (arith, p.0))) (nothing_in e zero)
enters (suc e) zero (suc room) =
    let inner = level zero e room (exact_body_over room (below zero room) (below e room) (enters e zero room)) in
    open_words room none (nested e room) (narrow (under (λ p. (omega (arith, p.1), omega (arith, p.1))) inner))
enters (suc e) (suc d) (suc room) =
    let inner = level d e room (exact_body_over room (below d room) (below e room) (enters e d room)) in
    open_words room (nested d room) (nested e room) (under (λ p. (omega (arith, p.0), omega (arith, p.1))) inner)

pub exact_nested : (e d room : ℕ) → Bodies (Deeper d e room) (nested d room) (nested e room) (body_at room)
exact_nested e d room = level d e room (exact_body_over room (below d room) (below e room) (enters e d room))

-- ---- all bodies

rising : (room : ℕ) → Rising (λ e. nested e room) room
rising room = record {
  null = true;
  firsts = body_firsts;
  lasts = body_firsts;
  shape = λ e. (exact_nested e zero room).shape;
  rises = λ d e lt above. (exact_nested e d room).inside (lt, above);
}

pub exact_body : {P : Type 0} (room : ℕ) → Bodies P (body room) (body room) (body_at room)
unfolding rising
exact_body room = exact_all (λ e. nested e room) room (body_at room) (rising room)
    (λ e above. (exact_nested e zero room).reads (omega (arith, above), above)) ((exact_nested (room + 1) zero room).starts (omega arith, omega arith))

-- ---- items of lists take tokens

pub statement_consumes : (room : ℕ) (here there : At) (v : StatementTree) → statement_at room (inner_at room) here ≡ Ok (v, there) → length there.rest < length here.rest
statement_consumes room here there v h =
    let s = exact_statement room (below zero room) (below (room + 1) room) (enters (room + 1) zero room) in
    consumes (statement room (below (room + 1) room)) body_firsts [] (statement_at room (inner_at room)) s.shape (s.reads (omega arith, omega arith)) here there v h

-- a body in an if or a case, which is open
inside : (room : ℕ) → Bodies (Deeper zero (room + 1) room) (nested zero room) (nested (room + 1) room) (inner_at (suc room))
unfolding inner_at
inside room = exact_nested (room + 1) zero room

pub further_part_consumes : (room : ℕ) → 0 < room → (here there : At) (v : PartTree) → further_part_at (room - 1) (inner_at room) here ≡ Ok (v, there) → length there.rest < length here.rest
further_part_consumes zero some here there v h = absurd (omega (arith, some))
further_part_consumes (suc room) some here there v h =
    let p = exact_further_part room (nested zero room) (nested (room + 1) room) (inside room) in
    let read : further_part_at room (inner_at (suc room)) here ≡ Ok (v, there) = subst (λ (k : ℕ). further_part_at k (inner_at (suc room)) here ≡ Ok (v, there)) (sym (step_back room)) h in
    consumes (further_part room (nested (room + 1) room)) (numbers (elsif_word ∷ [])) body_firsts (further_part_at room (inner_at (suc room))) p.shape (p.reads (omega arith, omega arith)) here there v read

pub led_branch_consumes : (room : ℕ) → 0 < room → (here there : At) (v : BranchTree) → led_branch_at (inner_at room) here ≡ Ok (v, there) → length there.rest < length here.rest
unfolding led_branch_at led_branch
led_branch_consumes zero some here there v h = absurd (omega (arith, some))
led_branch_consumes (suc room) some here there v h =
    let S = nested zero room in
    let B = nested (room + 1) room in
    let p = exact_then (exact_one (form.Keyword word.When)) (λ t. exact_listed_branch S B (inside room)) refl in
    consumes (led_branch B) (numbers (form.Keyword word.When ∷ [])) body_firsts (led_branch_at (inner_at (suc room))) p.shape (p.reads (omega arith, omega arith)) here there v h

-- what stands in an if or a case is a body with one less that may be open
pub inner_is_body : (room : ℕ) → 0 < room → (here : At) → inner_at room here ≡ body_at (room - 1) here
unfolding inner_at
inner_is_body zero some here = absurd (omega (arith, some))
inner_is_body (suc room) some here = subst (λ (k : ℕ). inner_at (suc room) here ≡ body_at k here) (step_back room) refl
