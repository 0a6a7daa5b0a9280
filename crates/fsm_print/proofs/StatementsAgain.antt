-- Statements that are laid out spell themselves.
use Rattle.std.proofs.Common.{◌≡◌, ℕ, zero, suc, ◌-◌, ◌≤◌, List, [], ◌∷◌, ◌++◌, map, Option, None, Some, refl, sym, ap, subst, ◌∙◌, arith, append_assoc}
use Rattle.std.proofs.lemmas.List.{append-nil}
use Rattle.std.proofs.lemmas.Bool.{ne_eqb}
use Rattle.vlsi_base.specs.declared.name.Name.{Name}
use Rattle.vlsi_base.specs.Names.{scalar}
use Rattle.vlsi_base.specs.declared.entity.NewName.{NewName}
use Rattle.vlsi_base.specs.Tree.{Tree}
use Rattle.bool_expr.specs.Expression.{Expression, variable}
use Rattle.fsm_machine.specs.Statements as st
use Rattle.fsm_core.specs.Checked.{ListsStates, PartsListStates, BranchesListStates}
use Rattle.vhdl_token.specs.declared.keyword.Keyword.TheVariants as word
use Rattle.vhdl_token.specs.declared.token.PlacedToken.{PlacedToken}
use Rattle.vhdl_token.specs.declared.token.Token.TheVariants as token
use Rattle.vhdl_token.specs.declared.token.Sign.TheVariants as sign
use Rattle.grammar_theory.specs.declared.form.Form.TheVariants as form
use Rattle.grammar_theory.specs.declared.limits.TheConstants.{CHAIN}
use Rattle.grammar_theory.specs.Tokens.{code_of}
use Rattle.grammar_theory.specs.Marks.{State, plain, starts, opens}
use Rattle.grammar_theory.specs.Grammar.{Grammar, none, list}
use Rattle.vhdl_front.specs.Expression.{closing}
use Rattle.source_checks.specs.declared.statement.Selection.TheVariants as selection
use Rattle.vbe_text.specs.Vbe.{selected, selecting, target_behind, target}
use Rattle.spell_theory.specs.Spells.{Spells}
use Rattle.spell_theory.specs.Layout.{Written, gap, turn, line_behind, placed, line_of}
use Rattle.spell_theory.proofs.Combinators.{spell_nothing, spell_lead, spell_then, spell_left, spell_right, spell_none, spell_more, spell_some, spell_as, spell_same}
use Rattle.spell_theory.proofs.Layouts.{placed_append, line_append}
use Rattle.vhdl_print.specs.Formula.{with_links}
use Rattle.vhdl_print.specs.Outline.{a_word, a_sign}
use Rattle.vhdl_print.proofs.Entities.{at, spell_word, spell_sign, spell_number}
use Rattle.vhdl_print.proofs.Steps.{Few, plain_step, opens_step, started, starts_step}
use Rattle.vst_print.specs.Structure.{bit_layout, name_layout}
use Rattle.vst_print.specs.Placed.{selected as selected_by}
use Rattle.vbe_print.specs.Expressions.{expression_layout}
use Rattle.vbe_print.specs.Placed.{tree, placed_target}
use Rattle.vbe_print.specs.Nesting.{bit_within, IsWithin}
use Rattle.vbe_print.specs.Said.{operators}
use Rattle.vbe_print.proofs.Spelling.{on_line, flat, spell_expression}
use Rattle.vbe_print.proofs.Values.{spell_begun}
use Rattle.fsm_text.specs.declared.file.FirstToken.{FirstToken}
use Rattle.fsm_text.specs.Written.{StatementTree, assigned, chosen, selected as selects, BodyTree, next, PartsTree, further as further_tree, BranchesTree, listed as listed_tree, PartTree, BranchTree, body_of, parts_of, branches_of}
use Rattle.fsm_text.specs.Fsm.{used_name, assignment, part, further_part, last_part, behind_if, conditional, next_state, listed_states, listed_branch, led_branch, others_branch, last_branch, branches, behind_case, case_statement, statement, body_over, nested, body}
use Rattle.fsm_text.specs.FsmReading.{kept_here}
use Rattle.fsm_print.specs.declared.words.Words.{Words}
use Rattle.fsm_print.specs.Layout.{behind, separated, bar, state_text, ending, end_of_line, assignment_layout, states_layout, then_layout, arrow_layout, if_layout, case_layout, part_layout, branch_layout, body_layout, parts_layout, branches_layout}
use Rattle.fsm_print.specs.Placed.{named_at, placed_assignment, behind_body, placed_body, placed_parts, placed_branches}
use Rattle.fsm_print.specs.Nesting.{HasRoom, IsAssignmentWithin, IsBodyWithin, ArePartsWithin, AreBranchesWithin}
use Rattle.fsm_print.proofs.Begins.{begins, spell_headed}

-- ---- names

pub spell_used : (text : List ℕ) (line : ℕ) (s : State) → Few s → Spells used_name (named_at line text) (at (token.Identifier text) line ∷ []) s s
unfolding used_name code_of
spell_used text line s few = spell_lead form.Identifier (λ _. plain) (at (token.Identifier text) line) (named_at line text) refl (plain_step s few) (spell_nothing (named_at line text) s)

-- ---- targets

spell_selecting : (room : ℕ) (b : Option ℕ) (line : ℕ) (s : State) → Few s → bit_within b room → Spells (selecting room) (selected_by b) (placed line (bit_layout b)) s s
unfolding selecting selected closing code_of
spell_selecting room None line s few within = spell_right (spell_nothing selection.Whole s)
spell_selecting zero (Some k) line s few within = absurd within
spell_selecting (suc n) (Some k) line s few within =
    spell_left
    (spell_lead (form.Sign sign.LeftParen) (λ _. opens (suc n)) (at (token.Sign sign.LeftParen) line) (selection.Bit k) refl (opens_step (suc n) s few (ne_eqb (suc n) 0 (omega arith)))
    (spell_then k (selection.Bit k) (spell_number k line s few) (spell_left (spell_sign sign.RightParen line (selection.Bit k) few (spell_nothing (selection.Bit k) s)))))

spell_target : (room : ℕ) (n : Name) (line : ℕ) (s : State) → Few s → bit_within n.bit room → Spells (target room) (placed_target line n) (placed line (name_layout n)) s s
unfolding target target_behind code_of
spell_target room n line s few within =
    let y = placed_target line n in
    spell_lead form.Identifier (λ _. plain) (at (token.Identifier n.text) line) y refl (plain_step s few)
    (spell_as (append-nil (placed line (bit_layout n.bit))) (spell_then (selected_by n.bit) y (spell_selecting room n.bit line s few within) (spell_nothing y s)))

-- ---- assignments

-- an assignment of a value, to the end of its line
spell_assigned : (room line : ℕ) (n : Name) (names : List Name) (e : Expression) (s : State) → Few s → bit_within n.bit room → IsWithin names e room → operators e ≤ CHAIN
    → Spells (assignment room) (assigned (placed_target line n) (kept_here (placed line (expression_layout names e))) (tree names line e)) (placed line (name_layout n ++ (gap ∷ a_sign sign.Assign ∷ gap ∷ expression_layout names e ++ end_of_line))) (started s) (started s)
unfolding assignment code_of
spell_assigned room line n names e s few target_fits fits free =
    let t = started s in
    let E = placed line (expression_layout names e) in
    let y = assigned (placed_target line n) (kept_here E) (tree names line e) in
    let value : FirstToken × Tree = (kept_here E, tree names line e) in
    let back : List Written = gap ∷ a_sign sign.Assign ∷ gap ∷ expression_layout names e ++ end_of_line in
    let a : PlacedToken = at (token.Sign sign.Assign) line in
    spell_as (ap (λ (z : List PlacedToken). placed line (name_layout n) ++ (a ∷ z)) (sym (on_line line (expression_layout names e) end_of_line (flat names line e))) ∙ sym (on_line line (name_layout n) back (flat_name line n.bit)))
    (spell_then (placed_target line n) y (spell_target room n line t few target_fits)
    (spell_sign sign.Assign line y few
    (spell_then value y (spell_headed (begins names e line) (spell_expression names e room line t few fits (omega (arith, free))))
    (spell_lead (form.Sign sign.Semicolon) (λ _. starts) (at (token.Sign sign.Semicolon) line) y refl (starts_step (with_links (operators e) t) few) (spell_nothing y t))))) where
      flat_name : (line : ℕ) (b : Option ℕ) → line_of line (bit_layout b) ≡ line
      flat_name line None = refl
      flat_name line (Some k) = refl

spell_assignment : (w : Words) (a : st.Assignment) (room line : ℕ) (s : State) → Few s → IsAssignmentWithin w room a
    → Spells (assignment room) (placed_assignment w line a) (placed line (assignment_layout w a)) (started s) (started s)
unfolding code_of
spell_assignment w (st.output n e) room line s few within = spell_assigned room line n w.vars e s few within.0 within.1.0 within.1.1
spell_assignment w (st.next k) room line s few within = spell_assigned room line (scalar w.next) (scalar (state_text w k) ∷ []) (variable 0) s few tt tt (omega arith)

assignment_line : (w : Words) (line : ℕ) (a : st.Assignment) → line_of line (assignment_layout w a) ≡ line_behind line
assignment_line w line (st.output n e) =
    line_append line (name_layout n) (gap ∷ a_sign sign.Assign ∷ gap ∷ expression_layout w.vars e ++ end_of_line)
    ∙ ap (λ (k : ℕ). line_of k (expression_layout w.vars e ++ end_of_line)) (flat_bit n.bit)
    ∙ line_append line (expression_layout w.vars e) end_of_line
    ∙ ap line_behind (flat w.vars line e) where
      flat_bit : (b : Option ℕ) → line_of line (bit_layout b) ≡ line
      flat_bit None = refl
      flat_bit (Some k) = refl
assignment_line w line (st.next k) = refl

-- ---- what stands in ifs and cases

-- what may stand there where so many more may be open
abbrev pub inner_body : ℕ → Grammar BodyTree
inner_body zero = none
inner_body (suc n) = nested n n

pub spell_inner : (n : ℕ) (x : BodyTree) {ts : List PlacedToken} {s s' : State} → Spells (body_over n (inner_body n)) x ts s s' → Spells (nested n n) x ts s s'
unfolding nested
spell_inner zero x p = p
spell_inner (suc n) x p = p

-- statements one behind the other
pub record Listed (w : Words) (n line : ℕ) (b : st.Statements) (s : State) : Type 0 where
  pub all : List StatementTree
  pub are : body_of all ≡ placed_body w line b
  pub spelled : Spells (list (statement n (inner_body n))) all (placed line (body_layout w b)) (started s) (started s)

pub spell_body : (w : Words) (n line : ℕ) (b : st.Statements) (s : State) → Listed w n line b s → Spells (body_over n (inner_body n)) (placed_body w line b) (placed line (body_layout w b)) (started s) (started s)
unfolding body_over
spell_body w n line b s l =
    spell_as (append-nil (placed line (body_layout w b))) (spell_then l.all (placed_body w line b) l.spelled (spell_same (body_of l.all) (placed_body w line b) (started s) (sym l.are)))

one_listed : (w : Words) (n line k : ℕ) (x : StatementTree) (ws : List Written) (rest : st.Statements) (s : State) → line_of line ws ≡ k
    → Spells (statement n (inner_body n)) x (placed line ws) (started s) (started s) → (l : Listed w n k rest s)
    → Spells (list (statement n (inner_body n))) (x ∷ l.all) (placed line (ws ++ body_layout w rest)) (started s) (started s)
one_listed w n line k x ws rest s same p l =
    spell_as (ap (λ (j : ℕ). placed line ws ++ placed j (body_layout w rest)) (sym same) ∙ sym (placed_append line ws (body_layout w rest))) (spell_more p l.spelled)

-- ---- parts of an if

abbrev pub placed_part : Words → ℕ → Expression → st.Statements → PartTree
placed_part w line c a = record { line = line; condition = tree w.vars line c; body = placed_body w (line_behind line) a }

part_line : (w : Words) (line : ℕ) (c : Expression) (a : st.Statements) → line_of line (part_layout w c a) ≡ behind_body w (line_behind line) a
part_line w line c a =
    line_append line (expression_layout w.vars c) (then_layout ++ body_layout w a)
    ∙ ap (λ (k : ℕ). line_of (line_behind k) (body_layout w a)) (flat w.vars line c)

spell_part : (w : Words) (n line : ℕ) (c : Expression) (a : st.Statements) (s : State) → Few s → HasRoom w n c → Listed w n (line_behind line) a s
    → Spells (part n (nested n n)) (placed_part w line c a) (placed line (part_layout w c a)) (started s) (started s)
unfolding part code_of
spell_part w n line c a s few room l =
    let t = started s in
    let y = placed_part w line c a in
    let test : ℕ × Tree = (line, tree w.vars line c) in
    let B = placed (line_behind line) (body_layout w a) in
    let x = placed_body w (line_behind line) a in
    spell_as (sym (on_line line (expression_layout w.vars c) (then_layout ++ body_layout w a) (flat w.vars line c)))
    (spell_then test y (spell_begun line (begins w.vars c line) (spell_expression w.vars c n line t few room.0 (omega (arith, room.1))))
    (spell_lead (form.Keyword word.Then) (λ _. starts) (at (token.Keyword word.Then) line) y refl (starts_step (with_links (operators c) t) few)
    (spell_as (append-nil B) (spell_then x y (spell_inner n x (spell_body w n (line_behind line) a s l)) (spell_nothing y t)))))

-- the first part, those behind `elsif`, and what stands behind `else`
pub record PartsRead (w : Words) (n line : ℕ) (ps : st.Parts) (s : State) : Type 0 where
  pub first : PartTree
  pub more : List PartTree
  pub last : Option BodyTree
  pub front : List PlacedToken
  pub back : List PlacedToken
  pub end : List PlacedToken
  pub are : parts_of first more last ≡ placed_parts w line ps
  pub tokens : front ++ (back ++ end) ≡ placed line (parts_layout w ps)
  pub leads : Spells (part n (nested n n)) first front (started s) (started s)
  pub follows : Spells (list (further_part n (nested n n))) more back (started s) (started s)
  pub ends : Spells (last_part (nested n n)) last end (started s) (started s)

only_read : (w : Words) (n line : ℕ) (c : Expression) (a : st.Statements) (s : State) → Few s → HasRoom w n c → Listed w n (line_behind line) a s → PartsRead w n line (st.only c a) s
unfolding last_part
only_read w n line c a s few room l = record {
  first = placed_part w line c a;
  more = [];
  last = None;
  front = placed line (part_layout w c a);
  back = [];
  end = [];
  are = refl;
  tokens = append-nil (placed line (part_layout w c a));
  leads = spell_part w n line c a s few room l;
  follows = spell_none (further_part n (nested n n)) (started s);
  ends = spell_right (spell_nothing None (started s));
}

either_read : (w : Words) (n line : ℕ) (c : Expression) (a b : st.Statements) (s : State) → Few s → HasRoom w n c → Listed w n (line_behind line) a s → Listed w n (line_behind (behind_body w (line_behind line) a)) b s
    → PartsRead w n line (st.either c a b) s
unfolding last_part
either_read w n line c a b s few room l m =
    let k = behind_body w (line_behind line) a in
    let x = placed_body w (line_behind k) b in
    let B = placed (line_behind k) (body_layout w b) in
    let behind : List Written = a_word word.Else ∷ turn ∷ body_layout w b in
    record {
      first = placed_part w line c a;
      more = [];
      last = Some x;
      front = placed line (part_layout w c a);
      back = [];
      end = at (token.Keyword word.Else) k ∷ B;
      are = refl;
      tokens = ap (λ (j : ℕ). placed line (part_layout w c a) ++ placed j behind) (sym (part_line w line c a)) ∙ sym (placed_append line (part_layout w c a) behind);
      leads = spell_part w n line c a s few room l;
      follows = spell_none (further_part n (nested n n)) (started s);
      ends =
          spell_left (spell_word word.Else k (Some x) few
          (spell_as (append-nil B) (spell_then x (Some x) (spell_inner n x (spell_body w n (line_behind k) b s m)) (spell_nothing (Some x) (started s)))));
    }

further_read : (w : Words) (n line : ℕ) (c : Expression) (a : st.Statements) (more : st.Parts) (s : State) → Few s → HasRoom w n c → Listed w n (line_behind line) a s
    → PartsRead w n (behind_body w (line_behind line) a) more s → PartsRead w n line (st.further c a more) s
unfolding further_part
further_read w n line c a more s few room l r =
    let k = behind_body w (line_behind line) a in
    let F = placed line (part_layout w c a) in
    let t : PlacedToken = at (token.Keyword word.Elsif) k in
    let behind : List Written = a_word word.Elsif ∷ gap ∷ parts_layout w more in
    record {
      first = placed_part w line c a;
      more = r.first ∷ r.more;
      last = r.last;
      front = F;
      back = (t ∷ r.front) ++ r.back;
      end = r.end;
      are = ap (λ (ps : PartsTree). further_tree line (tree w.vars line c) (placed_body w (line_behind line) a) ps) r.are;
      tokens =
          ap (λ (z : List PlacedToken). F ++ (t ∷ z)) (append_assoc r.front r.back r.end ∙ r.tokens)
          ∙ ap (λ (j : ℕ). F ++ placed j behind) (sym (part_line w line c a))
          ∙ sym (placed_append line (part_layout w c a) behind);
      leads = spell_part w n line c a s few room l;
      follows = spell_more (spell_word word.Elsif k r.first few r.leads) r.follows;
      ends = r.ends;
    }

spell_if : (w : Words) (n line : ℕ) (ps : st.Parts) (s : State) → Few s → PartsRead w n line ps s
    → Spells (conditional (suc n) (nested n n)) (chosen (placed_parts w line ps)) (placed line (if_layout w ps)) (started s) (started s)
unfolding conditional behind_if code_of
spell_if w n line ps s few r =
    let t = started s in
    let y = chosen (placed_parts w line ps) in
    let k = line_of line (parts_layout w ps) in
    let E : List PlacedToken = at (token.Keyword word.End) k ∷ at (token.Keyword word.If) k ∷ at (token.Sign sign.Semicolon) k ∷ [] in
    let i : PlacedToken = at (token.Keyword word.If) line in
    let less : suc n - 1 ≡ n = omega arith in
    let inside : Spells (behind_if n (nested n n)) y (r.front ++ (r.back ++ (r.end ++ E))) t t =
    spell_then r.first y r.leads
    (spell_then r.more y r.follows
    (spell_then r.last y r.ends
    (spell_word word.End k y few
    (spell_word word.If k y few
    (spell_sign sign.Semicolon k y few (spell_same (chosen (parts_of r.first r.more r.last)) y t (ap chosen (sym r.are)))))))) in
    let regroup : r.front ++ (r.back ++ (r.end ++ E)) ≡ placed line (parts_layout w ps ++ ending word.If) =
    ap (λ (z : List PlacedToken). r.front ++ z) (sym (append_assoc r.back r.end E)) ∙ sym (append_assoc r.front (r.back ++ r.end) E)
    ∙ ap (λ (z : List PlacedToken). z ++ E) r.tokens ∙ sym (placed_append line (parts_layout w ps) (ending word.If)) in
    spell_lead (form.Keyword word.If) (λ _. opens (suc n)) i y refl (opens_step (suc n) t few (ne_eqb (suc n) 0 (omega arith)))
    (spell_as regroup (subst (λ m. Spells (behind_if m (nested n n)) y (r.front ++ (r.back ++ (r.end ++ E))) t t) (sym less) inside))

-- ---- branches of a case

flat_behind : (line : ℕ) (ts : List (List ℕ)) → line_of line (behind bar ts) ≡ line
flat_behind line [] = refl
flat_behind line (t ∷ ts) = flat_behind line ts

flat_separated : (line : ℕ) (ts : List (List ℕ)) → line_of line (separated bar ts) ≡ line
flat_separated line [] = refl
flat_separated line (t ∷ ts) = flat_behind line ts

spell_behind : (text : ℕ → List ℕ) (ks : List ℕ) (line : ℕ) (s : State) → Few s
    → Spells (list next_state) (map (λ k. named_at line (text k)) ks) (placed line (behind bar (map text ks))) s s
unfolding next_state
spell_behind text [] line s few = spell_none next_state s
spell_behind text (k ∷ ks) line s few =
    spell_more (spell_sign sign.Bar line (named_at line (text k)) few (spell_used (text k) line s few)) (spell_behind text ks line s few)

spell_states : (text : ℕ → List ℕ) (k : ℕ) (ks : List ℕ) (line : ℕ) (s : State) → Few s
    → Spells listed_states (map (λ k. named_at line (text k)) (k ∷ ks)) (placed line (separated bar (map text (k ∷ ks)))) s s
unfolding listed_states
spell_states text k ks line s few =
    let all : List NewName = map (λ k. named_at line (text k)) (k ∷ ks) in
    let more : List NewName = map (λ k. named_at line (text k)) ks in
    let M = placed line (behind bar (map text ks)) in
    spell_then (named_at line (text k)) all (spell_used (text k) line s few)
    (spell_as (append-nil M) (spell_then more all (spell_behind text ks line s few) (spell_nothing all s)))

abbrev pub placed_branch : Words → ℕ → List ℕ → st.Statements → BranchTree
placed_branch w line ks a = record { states = map (λ k. named_at line (state_text w k)) ks; body = placed_body w (line_behind line) a }

branch_line : (w : Words) (line : ℕ) (ks : List ℕ) (a : st.Statements) → line_of line (branch_layout w ks a) ≡ behind_body w (line_behind line) a
branch_line w line ks a =
    line_append line (states_layout w ks) (arrow_layout ++ body_layout w a)
    ∙ ap (λ (k : ℕ). line_of (line_behind k) (body_layout w a)) (flat_separated line (map (state_text w) ks))

spell_branch : (w : Words) (n line k : ℕ) (ks : List ℕ) (a : st.Statements) (s : State) → Few s → Listed w n (line_behind line) a s
    → Spells (led_branch (nested n n)) (placed_branch w line (k ∷ ks) a) (placed line (branch_layout w (k ∷ ks) a)) (started s) (started s)
unfolding led_branch listed_branch
spell_branch w n line k ks a s few l =
    let t = started s in
    let y = placed_branch w line (k ∷ ks) a in
    let x = placed_body w (line_behind line) a in
    let B = placed (line_behind line) (body_layout w a) in
    let names = states_layout w (k ∷ ks) in
    let when : PlacedToken = at (token.Keyword word.When) line in
    spell_as (ap (λ (z : List PlacedToken). when ∷ z) (sym (on_line line names (arrow_layout ++ body_layout w a) (flat_separated line (map (state_text w) (k ∷ ks))))))
    (spell_word word.When line y few
    (spell_then y.states y (spell_states (state_text w) k ks line t few)
    (spell_sign sign.Arrow line y few
    (spell_as (append-nil B) (spell_then x y (spell_inner n x (spell_body w n (line_behind line) a s l)) (spell_nothing y t))))))

-- the branches with their states, and that of the others
pub record BranchesRead (w : Words) (n line : ℕ) (bs : st.Branches) (s : State) : Type 0 where
  pub all : List BranchTree
  pub last : Option BodyTree
  pub front : List PlacedToken
  pub end : List PlacedToken
  pub are : branches_of all last ≡ placed_branches w line bs
  pub tokens : front ++ end ≡ placed line (branches_layout w bs)
  pub lists : Spells (list (led_branch (nested n n))) all front (started s) (started s)
  pub ends : Spells (last_branch (nested n n)) last end (started s) (started s)

none_read : (w : Words) (n line : ℕ) (s : State) → BranchesRead w n line st.closed s
unfolding last_branch
none_read w n line s = record {
  all = [];
  last = None;
  front = [];
  end = [];
  are = refl;
  tokens = refl;
  lists = spell_none (led_branch (nested n n)) (started s);
  ends = spell_right (spell_nothing None (started s));
}

others_read : (w : Words) (n line : ℕ) (a : st.Statements) (s : State) → Few s → Listed w n (line_behind line) a s → BranchesRead w n line (st.others a) s
unfolding last_branch others_branch
others_read w n line a s few l =
    let x = placed_body w (line_behind line) a in
    record {
      all = [];
      last = Some x;
      front = [];
      end = placed line (branches_layout w (st.others a));
      are = refl;
      tokens = refl;
      lists = spell_none (led_branch (nested n n)) (started s);
      ends =
          spell_left (spell_word word.When line (Some x) few
          (spell_as (append-nil _) (spell_then x (Some x)
          (spell_word word.Others line x few (spell_sign sign.Arrow line x few (spell_inner n x (spell_body w n (line_behind line) a s l))))
          (spell_nothing (Some x) (started s)))));
    }

listed_read : (w : Words) (n line k : ℕ) (ks : List ℕ) (a : st.Statements) (more : st.Branches) (s : State) → Few s → Listed w n (line_behind line) a s
    → BranchesRead w n (behind_body w (line_behind line) a) more s → BranchesRead w n line (st.listed (k ∷ ks) a more) s
listed_read w n line k ks a more s few l r =
    let b = placed_branch w line (k ∷ ks) a in
    let F = placed line (branch_layout w (k ∷ ks) a) in
    record {
      all = b ∷ r.all;
      last = r.last;
      front = F ++ r.front;
      end = r.end;
      are = ap (λ (bs : BranchesTree). listed_tree b.states b.body bs) r.are;
      tokens =
          append_assoc F r.front r.end
          ∙ ap (λ (z : List PlacedToken). F ++ z) r.tokens
          ∙ ap (λ (j : ℕ). F ++ placed j (branches_layout w more)) (sym (branch_line w line (k ∷ ks) a))
          ∙ sym (placed_append line (branch_layout w (k ∷ ks) a) (branches_layout w more));
      lists = spell_more (spell_branch w n line k ks a s few l) r.lists;
      ends = r.ends;
    }

spell_case : (w : Words) (n line : ℕ) (bs : st.Branches) (s : State) → Few s → BranchesRead w n (line_behind line) bs s
    → Spells (case_statement (suc n) (nested n n)) (selects line (named_at line w.current) (placed_branches w (line_behind line) bs)) (placed line (case_layout w bs)) (started s) (started s)
unfolding case_statement behind_case branches code_of
spell_case w n line bs s few r =
    let t = started s in
    let x = placed_branches w (line_behind line) bs in
    let y = selects line (named_at line w.current) x in
    let k = line_of (line_behind line) (branches_layout w bs) in
    let B = placed (line_behind line) (branches_layout w bs) in
    let c : PlacedToken = at (token.Keyword word.Case) line in
    let all : Spells (branches (nested n n)) x B t t =
    spell_as (ap (λ (z : List PlacedToken). r.front ++ z) (append-nil r.end) ∙ r.tokens)
    (spell_then r.all x r.lists (spell_then r.last x r.ends (spell_same (branches_of r.all r.last) x t (sym r.are)))) in
    let head : List PlacedToken = c ∷ at (token.Identifier w.current) line ∷ at (token.Keyword word.Is) line ∷ [] in
    spell_as (ap (λ (z : List PlacedToken). head ++ z) (sym (placed_append (line_behind line) (branches_layout w bs) (ending word.Case))))
    (spell_lead (form.Keyword word.Case) (λ _. opens (suc n)) c y refl (opens_step (suc n) t few (ne_eqb (suc n) 0 (omega arith)))
    (spell_then (named_at line w.current) y (spell_used w.current line t few)
    (spell_word word.Is line y few
    (spell_then x y all
    (spell_word word.End k y few
    (spell_word word.Case k y few
    (spell_sign sign.Semicolon k y few (spell_nothing y t))))))))

-- ---- statements one behind the other

list_assigned : (w : Words) (n line : ℕ) (a : st.Assignment) (rest : st.Statements) (s : State) → Few s → IsAssignmentWithin w n a → Listed w n (line_behind line) rest s → Listed w n line (st.assign a rest) s
unfolding statement
list_assigned w n line a rest s few within l = record {
  all = placed_assignment w line a ∷ l.all;
  are = ap (λ (b : BodyTree). next (placed_assignment w line a) b) l.are;
  spelled =
      one_listed w n line (line_behind line) (placed_assignment w line a) (assignment_layout w a) rest s (assignment_line w line a)
      (spell_right (spell_right (spell_right (spell_assignment w a n line s few within)))) l;
}

list_chosen : (w : Words) (n line : ℕ) (ps : st.Parts) (rest : st.Statements) (s : State) → Few s → PartsRead w n line ps s → Listed w (suc n) (line_of line (if_layout w ps)) rest s
    → Listed w (suc n) line (st.choose ps rest) s
unfolding statement
list_chosen w n line ps rest s few r l = record {
  all = chosen (placed_parts w line ps) ∷ l.all;
  are = ap (λ (b : BodyTree). next (chosen (placed_parts w line ps)) b) l.are;
  spelled =
      one_listed w (suc n) line (line_of line (if_layout w ps)) (chosen (placed_parts w line ps)) (if_layout w ps) rest s refl
      (spell_right (spell_left (spell_if w n line ps s few r))) l;
}

list_selected : (w : Words) (n line : ℕ) (bs : st.Branches) (rest : st.Statements) (s : State) → Few s → BranchesRead w n (line_behind line) bs s → Listed w (suc n) (line_of line (case_layout w bs)) rest s
    → Listed w (suc n) line (st.select bs rest) s
unfolding statement
list_selected w n line bs rest s few r l =
    let x = selects line (named_at line w.current) (placed_branches w (line_behind line) bs) in
    record {
      all = x ∷ l.all;
      are = ap (λ (b : BodyTree). next x b) l.are;
      spelled =
          one_listed w (suc n) line (line_of line (case_layout w bs)) x (case_layout w bs) rest s refl
          (spell_right (spell_right (spell_left (spell_case w n line bs s few r)))) l;
    }

mutual
  pub list_body : (w : Words) (b : st.Statements) (n line : ℕ) (s : State) → Few s → IsBodyWithin w n b → ListsStates b → Listed w n line b s
  list_body w st.finish n line s few within lists = record { all = []; are = refl; spelled = spell_none (statement n (inner_body n)) (started s) }
  list_body w (st.assign a rest) n line s few within lists = list_assigned w n line a rest s few within.0 (list_body w rest n (line_behind line) s few within.1 lists)
  list_body w (st.choose ps rest) zero line s few within lists = absurd (within.0)
  list_body w (st.choose ps rest) (suc n) line s few within lists =
      list_chosen w n line ps rest s few (read_parts w ps n line s few within.0 lists.0) (list_body w rest (suc n) (line_of line (if_layout w ps)) s few within.1 lists.1)
  list_body w (st.select bs rest) zero line s few within lists = absurd (within.0)
  list_body w (st.select bs rest) (suc n) line s few within lists =
      list_selected w n line bs rest s few (read_branches w bs n (line_behind line) s few within.0 lists.0) (list_body w rest (suc n) (line_of line (case_layout w bs)) s few within.1 lists.1)

  read_parts : (w : Words) (ps : st.Parts) (n line : ℕ) (s : State) → Few s → ArePartsWithin w n ps → PartsListStates ps → PartsRead w n line ps s
  read_parts w (st.only c a) n line s few within lists = only_read w n line c a s few within.0 (list_body w a n (line_behind line) s few within.1 lists)
  read_parts w (st.either c a b) n line s few within lists =
      either_read w n line c a b s few within.0 (list_body w a n (line_behind line) s few within.1.0 lists.0)
      (list_body w b n (line_behind (behind_body w (line_behind line) a)) s few within.1.1 lists.1)
  read_parts w (st.further c a more) n line s few within lists =
      further_read w n line c a more s few within.0 (list_body w a n (line_behind line) s few within.1.0 lists.0)
      (read_parts w more n (behind_body w (line_behind line) a) s few within.1.1 lists.1)

  read_branches : (w : Words) (bs : st.Branches) (n line : ℕ) (s : State) → Few s → AreBranchesWithin w n bs → BranchesListStates bs → BranchesRead w n line bs s
  read_branches w st.closed n line s few within lists = none_read w n line s
  read_branches w (st.others a) n line s few within lists = others_read w n line a s few (list_body w a n (line_behind line) s few within lists)
  read_branches w (st.listed [] a more) n line s few within lists = let some = lists.0.0 in absurd (omega (arith, some))
  read_branches w (st.listed (k ∷ ks) a more) n line s few within lists =
      listed_read w n line k ks a more s few (list_body w a n (line_behind line) s few within.0 lists.1.0)
      (read_branches w more n (behind_body w (line_behind line) a) s few within.1 lists.1.1)

-- a whole body
pub spell_whole : (w : Words) (b : st.Statements) (n line : ℕ) (s : State) → Few s → IsBodyWithin w n b → ListsStates b
    → Spells (body n) (placed_body w line b) (placed line (body_layout w b)) (started s) (started s)
spell_whole w b n line s few within lists =
    spell_some n (spell_inner n (placed_body w line b) (spell_body w n line b s (list_body w b n line s few within lists)))
