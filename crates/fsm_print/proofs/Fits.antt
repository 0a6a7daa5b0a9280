-- Each token of the text of a state machine is read again where it stands.
use Rattle.std.proofs.Common.{ℕ, Bool, true, false, List, [], ◌∷◌, ◌++◌, map, Option, None, Some, refl, codes, arith}
use Rattle.std.specs.List.{All}
use Rattle.std.proofs.lemmas.List.Elements.{All-head, All-tail, All-map}
use Rattle.vlsi_base.specs.declared.name.Name.{Name}
use Rattle.bool_expr.specs.declared.expr.Gate.{Gate}
use Rattle.bool_expr.specs.declared.expr.Gate.TheVariants as gate
use Rattle.bool_expr.specs.Expression.{Expression, constant, variable, inverse as not_of, pair, choice}
use Rattle.fsm_machine.specs.Statements as st
use Rattle.vhdl_token.specs.Keyword.{keyword_of}
use Rattle.vhdl_token.specs.declared.keyword.Keyword.TheVariants as word
use Rattle.vhdl_token.specs.declared.token.Sign.TheVariants as sign
use Rattle.spell_theory.specs.Layout.{Written, gap, turn}
use Rattle.spell_theory.proofs.Layouts.{first_byte}
use Rattle.vhdl_print.specs.Outline.{Outline, a_word, a_sign, a_name, entity_layout}
use Rattle.vhdl_print.specs.EntityAgain.{IsName, CanBeWritten}
use Rattle.vhdl_print.proofs.VhdlLexer.{Fit, fit_both}
use Rattle.vhdl_print.proofs.Again.{EndsWord, fit_entity}
use Rattle.vst_print.specs.Structure.{bit_layout, name_layout}
use Rattle.vst_print.specs.Says.{IsSmall}
use Rattle.vst_print.proofs.Fits.{CanBeMentioned}
use Rattle.vbe_print.specs.Expressions.{Shape, atom, turned, joined, Laid, gate_word, chains, in_parentheses, unless, primary, operand, leading, laid, name_of, expression_layout}
use Rattle.vbe_print.proofs.Fits.{Fitting, AreMentioned}
use Rattle.fsm_print.specs.declared.words.Words.{Words}
use Rattle.fsm_print.specs.Layout.{behind, separated, comma, bar, state_text, ending, end_of_line, assignment_layout, states_layout, then_layout, arrow_layout, if_layout, case_layout, part_layout, branch_layout, body_layout, parts_layout, branches_layout}
use Rattle.fsm_print.specs.Written.{architecture_name, head_layout, texts_of, type_layout, signals_layout, begin_layout, process_layout, step_layout, rise_layout, load_layout, clock_layout, last_layout, declarations_layout}

-- what fits in front of every byte
abbrev pub FitsAll : List Written → Type 0
FitsAll ws = (next : ℕ) → Fit ws next

pub fit_all : (xs ys : List Written) → FitsAll xs → FitsAll ys → FitsAll (xs ++ ys)
fit_all xs ys h g next = fit_both xs ys next (h (first_byte ys next)) (g next)

-- ---- expressions

fit_name : (n : Name) → CanBeMentioned n → Fitting (name_layout n)
fit_name n can next ends = by n.bit can.1 where
  by : (b : Option ℕ) → IsSmall b → Fit (a_name n.text ∷ bit_layout b) next
  by None small = ((can.0, ends), tt)
  by (Some k) small = ((can.0, refl), ((tt, refl), ((small, refl), ((tt, refl), tt))))

fit_closed : (ws : List Written) → Fitting ws → FitsAll (in_parentheses ws)
fit_closed ws h next = ((tt, refl), fit_both ws (a_sign sign.RightParen ∷ []) next (h 41 refl) ((tt, refl), tt))

fit_primary : (l : Laid) → Fitting l.text → Fitting (primary l)
fit_primary l h next ends = by l.shape where
  by : (k : Shape) → Fit (primary (record { shape = k; text = l.text })) next
  by atom = h next ends
  by turned = fit_closed l.text h next
  by (joined g) = fit_closed l.text h next

fit_operand : (l : Laid) → Fitting l.text → Fitting (operand l)
fit_operand l h next ends = by l.shape where
  by : (k : Shape) → Fit (operand (record { shape = k; text = l.text })) next
  by atom = h next ends
  by turned = h next ends
  by (joined g) = fit_closed l.text h next

fit_leading : (g : Gate) (l : Laid) → Fitting l.text → Fitting (leading g l)
fit_leading g l h next ends = by l.shape where
  either : (b : Bool) → Fit (unless b l.text) next
  either true = h next ends
  either false = fit_closed l.text h next

  by : (k : Shape) → Fit (leading g (record { shape = k; text = l.text })) next
  by atom = h next ends
  by turned = h next ends
  by (joined i) = either (chains g i)

fit_pair : (names : List Name) (g : Gate) (a b : Expression) → Fitting (expression_layout names a) → Fitting (expression_layout names b) → Fitting (expression_layout names (pair g a b))
fit_pair names g a b p q next ends =
    fit_both (leading g (laid names a)) (gap ∷ a_word (gate_word g) ∷ gap ∷ operand (laid names b)) next (fit_leading g (laid names a) p 32 refl) ((tt, refl), fit_operand (laid names b) q next ends)

fit_turned : (names : List Name) (e : Expression) → Fitting (expression_layout names e) → Fitting (expression_layout names (not_of e))
fit_turned names e p next ends = ((tt, refl), fit_primary (laid names e) p next ends)

fit_expression : (names : List Name) (e : Expression) → AreMentioned names e → Fitting (expression_layout names e)
fit_expression names (constant b) can = λ next ends. ((tt, refl), tt)
fit_expression names (variable k) can = fit_name (name_of names k) can
fit_expression names (not_of e) can = fit_turned names e (fit_expression names e can)
fit_expression names (pair g a b) can = fit_pair names g a b (fit_expression names a can.0) (fit_expression names b can.1)
fit_expression names (choice c a b) can =
    let p = fit_expression names c can.0 in
    fit_pair names gate.Or (pair gate.And c a) (pair gate.And (not_of c) b)
    (fit_pair names gate.And c a p (fit_expression names a can.1.0))
    (fit_pair names gate.And (not_of c) b (fit_turned names c p) (fit_expression names b can.1.1))

-- ---- statements

-- the names of a text can stand in it
pub record AreSaid (w : Words) : Type 0 where
  pub states : All (λ n. IsName n.text) w.states
  pub type_name : IsName w.type_name
  pub current : IsName w.current
  pub next : IsName w.next

-- a state that is named
abbrev pub IsStated : Words → ℕ → Type 0
IsStated w k = IsName (state_text w k)

abbrev pub IsAssignmentSaid : Words → st.Assignment → Type 0
IsAssignmentSaid w (st.output n e) = CanBeMentioned n × AreMentioned w.vars e
IsAssignmentSaid w (st.next k) = IsStated w k

-- what the statements mention can be mentioned
abbrev mutual
  pub IsBodySaid : Words → st.Statements → Type 0
  IsBodySaid w st.finish = Unit {0}
  IsBodySaid w (st.assign a rest) = IsAssignmentSaid w a × IsBodySaid w rest
  IsBodySaid w (st.choose ps rest) = ArePartsSaid w ps × IsBodySaid w rest
  IsBodySaid w (st.select bs rest) = AreBranchesSaid w bs × IsBodySaid w rest

  pub ArePartsSaid : Words → st.Parts → Type 0
  ArePartsSaid w (st.only c a) = AreMentioned w.vars c × IsBodySaid w a
  ArePartsSaid w (st.either c a b) = AreMentioned w.vars c × (IsBodySaid w a × IsBodySaid w b)
  ArePartsSaid w (st.further c a more) = AreMentioned w.vars c × (IsBodySaid w a × ArePartsSaid w more)

  pub AreBranchesSaid : Words → st.Branches → Type 0
  AreBranchesSaid w st.closed = Unit {0}
  AreBranchesSaid w (st.others a) = IsBodySaid w a
  AreBranchesSaid w (st.listed ks a more) = All (IsStated w) ks × (IsBodySaid w a × AreBranchesSaid w more)

fit_line : FitsAll end_of_line
fit_line next = ((tt, refl), tt)

fit_ending_if : FitsAll (ending word.If)
fit_ending_if next = ((tt, refl), ((tt, refl), ((tt, refl), tt)))

fit_ending_case : FitsAll (ending word.Case)
fit_ending_case next = ((tt, refl), ((tt, refl), ((tt, refl), tt)))

fit_ending_process : FitsAll (ending word.Process)
fit_ending_process next = ((tt, refl), ((tt, refl), ((tt, refl), tt)))

fit_assignment : (w : Words) (a : st.Assignment) → IsName w.next → IsAssignmentSaid w a → FitsAll (assignment_layout w a)
fit_assignment w (st.output n e) named said next =
    fit_both (name_layout n) (gap ∷ a_sign sign.Assign ∷ gap ∷ expression_layout w.vars e ++ end_of_line) next (fit_name n said.0 32 refl)
    ((tt, refl), fit_both (expression_layout w.vars e) end_of_line next (fit_expression w.vars e said.1 59 refl) (fit_line next))
fit_assignment w (st.next k) named said next = ((named, refl), ((tt, refl), ((said, refl), fit_line next)))

fit_part : (w : Words) (c : Expression) (a : st.Statements) → AreMentioned w.vars c → FitsAll (body_layout w a) → FitsAll (part_layout w c a)
fit_part w c a said inside next =
    fit_both (expression_layout w.vars c) (then_layout ++ body_layout w a) next (fit_expression w.vars c said 32 refl) ((tt, refl), inside next)

-- names behind one another, in front of what ends a word
ends_behind_bar : (ts : List (List ℕ)) (next : ℕ) → EndsWord next → EndsWord (first_byte (behind bar ts) next)
ends_behind_bar [] next ends = ends
ends_behind_bar (t ∷ ts) next ends = refl

ends_behind_comma : (ts : List (List ℕ)) (next : ℕ) → EndsWord next → EndsWord (first_byte (behind comma ts) next)
ends_behind_comma [] next ends = ends
ends_behind_comma (t ∷ ts) next ends = refl

fit_behind_bar : (ts : List (List ℕ)) → All IsName ts → Fitting (behind bar ts)
fit_behind_bar [] all next ends = tt
fit_behind_bar (t ∷ ts) all next ends =
    ((tt, refl), ((All-head IsName t ts all, ends_behind_bar ts next ends), fit_behind_bar ts (All-tail IsName t ts all) next ends))

fit_behind_comma : (ts : List (List ℕ)) → All IsName ts → Fitting (behind comma ts)
fit_behind_comma [] all next ends = tt
fit_behind_comma (t ∷ ts) all next ends =
    ((tt, refl), ((All-head IsName t ts all, ends_behind_comma ts next ends), fit_behind_comma ts (All-tail IsName t ts all) next ends))

fit_states : (ts : List (List ℕ)) → All IsName ts → Fitting (separated bar ts)
fit_states [] all next ends = tt
fit_states (t ∷ ts) all next ends = ((All-head IsName t ts all, ends_behind_bar ts next ends), fit_behind_bar ts (All-tail IsName t ts all) next ends)

fit_names : (ts : List (List ℕ)) → All IsName ts → Fitting (separated comma ts)
fit_names [] all next ends = tt
fit_names (t ∷ ts) all next ends = ((All-head IsName t ts all, ends_behind_comma ts next ends), fit_behind_comma ts (All-tail IsName t ts all) next ends)

fit_branch : (w : Words) (ks : List ℕ) (a : st.Statements) → All IsName (map (state_text w) ks) → FitsAll (body_layout w a) → FitsAll (branch_layout w ks a)
fit_branch w ks a said inside next =
    ((tt, refl), fit_both (states_layout w ks) (arrow_layout ++ body_layout w a) next (fit_states (map (state_text w) ks) said 32 refl) ((tt, refl), inside next))

mapped : (w : Words) (ks : List ℕ) → All (IsStated w) ks → All IsName (map (state_text w) ks)
mapped w ks all = All-map IsName (state_text w) ks all

mutual
  pub fit_body : (w : Words) (b : st.Statements) → AreSaid w → IsBodySaid w b → FitsAll (body_layout w b)
  fit_body w st.finish words said = λ next. tt
  fit_body w (st.assign a rest) words said = fit_all (assignment_layout w a) (body_layout w rest) (fit_assignment w a words.next said.0) (fit_body w rest words said.1)
  fit_body w (st.choose ps rest) words said =
      fit_all (if_layout w ps) (body_layout w rest)
      (λ next. ((tt, refl), fit_all (parts_layout w ps) (ending word.If) (fit_parts w ps words said.0) fit_ending_if next)) (fit_body w rest words said.1)
  fit_body w (st.select bs rest) words said =
      fit_all (case_layout w bs) (body_layout w rest)
      (λ next. ((tt, refl), ((words.current, refl), ((tt, refl), fit_all (branches_layout w bs) (ending word.Case) (fit_branches w bs words said.0) fit_ending_case next))))
      (fit_body w rest words said.1)

  fit_parts : (w : Words) (ps : st.Parts) → AreSaid w → ArePartsSaid w ps → FitsAll (parts_layout w ps)
  fit_parts w (st.only c a) words said = fit_part w c a said.0 (fit_body w a words said.1)
  fit_parts w (st.either c a b) words said =
      fit_all (part_layout w c a) (a_word word.Else ∷ turn ∷ body_layout w b) (fit_part w c a said.0 (fit_body w a words said.1.0))
      (λ next. ((tt, refl), fit_body w b words said.1.1 next))
  fit_parts w (st.further c a more) words said =
      fit_all (part_layout w c a) (a_word word.Elsif ∷ gap ∷ parts_layout w more) (fit_part w c a said.0 (fit_body w a words said.1.0))
      (λ next. ((tt, refl), fit_parts w more words said.1.1 next))

  fit_branches : (w : Words) (bs : st.Branches) → AreSaid w → AreBranchesSaid w bs → FitsAll (branches_layout w bs)
  fit_branches w st.closed words said = λ next. tt
  fit_branches w (st.others a) words said = λ next. ((tt, refl), ((tt, refl), ((tt, refl), fit_body w a words said next)))
  fit_branches w (st.listed ks a more) words said =
      fit_all (branch_layout w ks a) (branches_layout w more) (fit_branch w ks a (mapped w ks said.0) (fit_body w a words said.1.0)) (fit_branches w more words said.1.1)

-- ---- the architecture

fsm_name : IsName architecture_name
unfolding keyword_of
fsm_name = (record { begins = refl; letters = refl; short = omega arith }, refl)

stable_name : IsName (codes "stable")
unfolding keyword_of
stable_name = (record { begins = refl; letters = refl; short = omega arith }, refl)

fit_head : (entity : List ℕ) → IsName entity → FitsAll (head_layout entity)
fit_head entity named next = ((tt, refl), ((fsm_name, refl), ((tt, refl), ((named, refl), ((tt, refl), tt)))))

fit_type : (w : Words) → AreSaid w → FitsAll (type_layout w)
fit_type w words next = (
  (tt, refl),
  (
    (words.type_name, refl),
    (
      (tt, refl),
      (
        (tt, refl),
        fit_both (separated comma (texts_of w.states)) (a_sign sign.RightParen ∷ end_of_line) next
            (fit_names (texts_of w.states) (All-map IsName (λ (n : Name). n.text) w.states words.states) 41 refl)
            ((tt, refl), fit_line next),
      ),
    ),
  ),
)

fit_signals : (w : Words) → AreSaid w → FitsAll (signals_layout w)
fit_signals w words next =
    ((tt, refl), ((words.current, refl), ((tt, refl), ((words.next, refl), ((tt, refl), ((words.type_name, refl), fit_line next))))))

fit_begin : FitsAll begin_layout
fit_begin next = ((tt, refl), tt)

fit_process : FitsAll process_layout
fit_process next = ((tt, refl), ((tt, refl), tt))

fit_declarations : (w : Words) (entity : List ℕ) → IsName entity → AreSaid w → FitsAll (declarations_layout w entity)
fit_declarations w entity named words =
    fit_all (head_layout entity) (type_layout w ++ (signals_layout w ++ begin_layout)) (fit_head entity named)
    (fit_all (type_layout w) (signals_layout w ++ begin_layout) (fit_type w words) (fit_all (signals_layout w) begin_layout (fit_signals w words) fit_begin))

fit_step : (w : Words) (b : st.Statements) → AreSaid w → IsBodySaid w b → FitsAll (step_layout w b)
fit_step w b words said =
    fit_all process_layout (body_layout w b ++ ending word.Process) fit_process (fit_all (body_layout w b) (ending word.Process) (fit_body w b words said) fit_ending_process)

fit_rise : (clock : List ℕ) → IsName clock → Fitting (rise_layout clock)
fit_rise clock named next ends =
    ((named, refl), ((tt, refl), ((tt, refl), ((tt, refl), ((tt, refl), ((named, refl), ((tt, refl), ((stable_name, ends), tt))))))))

fit_clock : (w : Words) (clock : List ℕ) → IsName clock → AreSaid w → FitsAll (clock_layout w clock)
fit_clock w clock named words =
    let ends : List Written = ending word.If ++ ending word.Process in
    let load : List Written = load_layout w ++ ends in
    let behind_rise : List Written = then_layout ++ load in
    let if_head : FitsAll (process_layout ++ (a_word word.If ∷ gap ∷ [])) = fit_all process_layout (a_word word.If ∷ gap ∷ []) fit_process (λ next. ((tt, refl), tt)) in
    let last : FitsAll load =
    fit_all (load_layout w) ends (λ next. ((words.current, refl), ((tt, refl), ((words.next, refl), fit_line next)))) (fit_all (ending word.If) (ending word.Process) fit_ending_if fit_ending_process) in
    fit_all (process_layout ++ (a_word word.If ∷ gap ∷ [])) (rise_layout clock ++ behind_rise) if_head
    (λ next. fit_both (rise_layout clock) behind_rise next (fit_rise clock named 32 refl) ((tt, refl), last next))

fit_processes : (w : Words) (b : st.Statements) (clock : List ℕ) → IsName clock → AreSaid w → IsBodySaid w b → FitsAll (step_layout w b ++ (clock_layout w clock ++ last_layout))
fit_processes w b clock named words said =
    fit_all (step_layout w b) (clock_layout w clock ++ last_layout) (fit_step w b words said)
    (fit_all (clock_layout w clock) last_layout (fit_clock w clock named words) (λ next. ((tt, refl), ((fsm_name, refl), fit_line next))))

pub fit_layout : (w : Words) (e : Outline) (entity : List ℕ) (b : st.Statements) (clock : List ℕ) → CanBeWritten e → IsName entity → IsName clock → AreSaid w → IsBodySaid w b
    → FitsAll (entity_layout e ++ (declarations_layout w entity ++ (step_layout w b ++ (clock_layout w clock ++ last_layout))))
fit_layout w e entity b clock can named ticks words said =
    let P : List Written = step_layout w b ++ (clock_layout w clock ++ last_layout) in
    fit_all (entity_layout e) (declarations_layout w entity ++ P) (λ next. fit_entity e next can)
    (fit_all (declarations_layout w entity) P (fit_declarations w entity named words) (fit_processes w b clock ticks words said))
