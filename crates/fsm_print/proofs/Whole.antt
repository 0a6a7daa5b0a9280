-- The text of a state machine that is laid out spells itself.
use Rattle.std.proofs.Common.{◌≡◌, ℕ, ◌-◌, ◌<◌, ◌==◌, false, List, [], ◌∷◌, ◌++◌, map, length, None, refl, sym, ap, subst, ◌∙◌, arith, append_assoc}
use Rattle.std.specs.BTreeSet.{insert_key}
use Rattle.std.specs.Cmp.Lexicographic.{slice_cmp}
use Rattle.std.specs.Ordering.{nat_cmp}
use Rattle.std.proofs.lemmas.List.{append-nil}
use Rattle.vlsi_base.specs.declared.name.Name.{Name}
use Rattle.vlsi_base.specs.declared.entity.NewName.{NewName}
use Rattle.vlsi_base.specs.Tree.{Tree}
use Rattle.fsm_machine.specs.Statements as st
use Rattle.fsm_core.specs.Checked.{ListsStates}
use Rattle.vhdl_token.specs.declared.keyword.Keyword.TheVariants as word
use Rattle.vhdl_token.specs.declared.token.PlacedToken.{PlacedToken}
use Rattle.vhdl_token.specs.declared.token.Token.TheVariants as token
use Rattle.vhdl_token.specs.declared.token.Sign.TheVariants as sign
use Rattle.grammar_theory.specs.declared.form.Form.TheVariants as form
use Rattle.grammar_theory.specs.Tokens.{code_of}
use Rattle.grammar_theory.specs.Marks.{State, is_declared, starts, opens, declares, spells}
use Rattle.grammar_theory.specs.Grammar.{list}
use Rattle.vhdl_front.specs.Cursor.{name_of}
use Rattle.vhdl_front.specs.Entity.{declared, another}
use Rattle.vbe_text.specs.Vbe.{repeated, belonging, architecture_head}
use Rattle.spell_theory.specs.Spells.{Spells}
use Rattle.spell_theory.specs.Layout.{Written, line_behind, placed, line_of}
use Rattle.spell_theory.proofs.Combinators.{spell_nothing, spell_lead, spell_then, spell_left, spell_right, spell_none, spell_more, spell_as, spell_to}
use Rattle.spell_theory.proofs.Layouts.{placed_append, line_append}
use Rattle.vhdl_print.specs.Outline.{Outline, a_sign, entity_layout, placed_entity, with_name}
use Rattle.vhdl_print.proofs.Entities.{at, spell_word, spell_sign, spell_identifier, spell_entity}
use Rattle.vhdl_print.proofs.Steps.{Few, opens_step, declares_step, spells_step, started, starts_step}
use Rattle.vst_print.proofs.Entries.{Entry, with_entries, EntriesNew, port_entry, new_front, new_back, ports_new, with_port_entries, few_entries}
use Rattle.vbe_print.proofs.Spelling.{on_line}
use Rattle.vbe_print.proofs.Values.{spell_begun}
use Rattle.fsm_text.specs.declared.file.StateType.{StateType}
use Rattle.fsm_text.specs.declared.file.StateSignals.{StateSignals}
use Rattle.fsm_text.specs.Written.{StepTree, ClockTree, MachineTree}
use Rattle.fsm_text.specs.Fsm.{sensitivity, label, process_head, label_again, process_end, step_process, load, loading, clock_process, state_names, state_type, of_type, state_signals, processes, architecture, machine}
use Rattle.fsm_print.specs.declared.words.Words.{Words}
use Rattle.fsm_print.specs.Layout.{comma, behind, separated, ending, end_of_line, body_layout}
use Rattle.fsm_print.specs.Written.{architecture_name, head_layout, texts_of, type_layout, signals_layout, begin_layout, step_layout, load_layout, clock_layout, last_layout, declarations_layout}
use Rattle.fsm_print.specs.Nesting.{IsBodyWithin}
use Rattle.fsm_print.specs.Placed.{named_at, behind_body, placed_body, rises}
use Rattle.fsm_print.proofs.Clock.{behind_rise, spell_rise, rise_begins}
use Rattle.fsm_print.proofs.StatementsAgain.{spell_used, spell_whole}
use Rattle.fsm_print.proofs.Declared.{name_entry, further_texts}

-- ---- names that are declared one behind the other

abbrev pub with_names : List (List ℕ) → State → State
with_names [] s = s
with_names (t ∷ ts) s = with_names ts (with_name t s)

abbrev pub NamesNew : List (List ℕ) → State → Type 0
NamesNew [] s = Unit {0}
NamesNew (t ∷ ts) s = (is_declared t s.names ≡ false) × NamesNew ts (with_name t s)

-- of the same names other counts make no difference
names_same : (ts : List (List ℕ)) (s t : State) → s.names ≡ t.names → NamesNew ts s → NamesNew ts t
names_same [] s t same new = tt
names_same (x ∷ ts) s t same new =
    (subst (λ (ks : List (List ℕ)). is_declared x ks ≡ false) same new.0, names_same ts (with_name x s) (with_name x t) (ap (λ (ks : List (List ℕ)). insert_key (slice_cmp nat_cmp) ks x) same) new.1)

names_of_entries : (ts : List (List ℕ)) (s : State) → EntriesNew (map name_entry ts) s → NamesNew ts s
names_of_entries [] s new = tt
names_of_entries (t ∷ ts) s new = (new.0, names_same ts _ (with_name t s) refl (names_of_entries ts _ new.2))

few_names : (ts : List (List ℕ)) (s : State) → Few s → Few (with_names ts s)
few_names [] s few = few
few_names (t ∷ ts) s few = few_names ts (with_name t s) few

names_front : (xs ys : List (List ℕ)) (s : State) → NamesNew (xs ++ ys) s → NamesNew xs s
names_front [] ys s new = tt
names_front (x ∷ xs) ys s new = (new.0, names_front xs ys (with_name x s) new.1)

names_back : (xs ys : List (List ℕ)) (s : State) → NamesNew (xs ++ ys) s → NamesNew ys (with_names xs s)
names_back [] ys s new = new
names_back (x ∷ xs) ys s new = names_back xs ys (with_name x s) new.1

none_counted : (ts : List (List ℕ)) (s : State) → s.operators ≡ 0 → (with_names ts s).operators ≡ 0
none_counted [] s none = none
none_counted (t ∷ ts) s none = none_counted ts (with_name t s) none

none_entered : (es : List Entry) (s : State) → s.operators ≡ 0 → (with_entries es s).operators ≡ 0
none_entered [] s none = none
none_entered (e ∷ es) s none = none_entered es _ none

at_start : (s : State) → s.operators ≡ 0 → s ≡ started s
at_start s none = ap (λ (k : ℕ). record { names = s.names; bits = s.bits; operators = k; alternatives = s.alternatives }) none

spell_declared : (text : List ℕ) (line : ℕ) (s : State) → Few s → is_declared text s.names ≡ false → Spells (declared line) (named_at line text) (at (token.Identifier text) line ∷ []) s (with_name text s)
unfolding declared code_of
spell_declared text line s few new =
    spell_lead form.Identifier (λ t. declares line (name_of t)) (at (token.Identifier text) line) (named_at line text) refl (declares_step line text s few new) (spell_nothing (named_at line text) (with_name text s))

spell_another : (text : List ℕ) (line : ℕ) (s : State) → Few s → is_declared text s.names ≡ false
    → Spells (another line) (named_at line text) (at (token.Sign sign.Comma) line ∷ at (token.Identifier text) line ∷ []) s (with_name text s)
unfolding another
spell_another text line s few new = spell_sign sign.Comma line (named_at line text) few (spell_declared text line s few new)

spell_others : (ns : List Name) (line : ℕ) (s : State) → Few s → NamesNew (texts_of ns) s
    → Spells (list (another line)) (map (λ (n : Name). named_at line n.text) ns) (placed line (behind comma (texts_of ns))) s (with_names (texts_of ns) s)
spell_others [] line s few new = spell_none (another line) s
spell_others (n ∷ ns) line s few new = spell_more (spell_another n.text line s few new.0) (spell_others ns line (with_name n.text s) few new.1)

-- ---- the type of the states

flat_behind : (line : ℕ) (ts : List (List ℕ)) → line_of line (behind comma ts) ≡ line
flat_behind line [] = refl
flat_behind line (t ∷ ts) = flat_behind line ts

pub flat_names : (line : ℕ) (ts : List (List ℕ)) → line_of line (separated comma ts) ≡ line
flat_names line [] = refl
flat_names line (t ∷ ts) = flat_behind line ts

pub type_line_behind : (w : Words) (line : ℕ) → line_of line (type_layout w) ≡ line_behind line
type_line_behind w line =
    line_append line (separated comma (texts_of w.states)) (a_sign sign.RightParen ∷ end_of_line) ∙ ap line_behind (flat_names line (texts_of w.states))

abbrev states_at : ℕ → List Name → List NewName
states_at line ns = map (λ (n : Name). named_at line n.text) ns

spell_names : (ns : List Name) (room line : ℕ) (s : State) → Few s → (room == 0) ≡ false → 0 < length ns → NamesNew (texts_of ns) s
    → Spells (state_names room line) (states_at line ns) (at (token.Sign sign.LeftParen) line ∷ placed line (separated comma (texts_of ns)) ++ (at (token.Sign sign.RightParen) line ∷ at (token.Sign sign.Semicolon) line ∷ []))
    s (with_names (texts_of ns) s)
unfolding state_names code_of
spell_names [] room line s few deep some new = absurd (omega arith)
spell_names (n ∷ ns) room line s few deep some new =
    let all = states_at line (n ∷ ns) in
    let t = with_names (texts_of (n ∷ ns)) s in
    let f = few_names (texts_of (n ∷ ns)) s few in
    spell_lead (form.Sign sign.LeftParen) (λ _. opens room) (at (token.Sign sign.LeftParen) line) all refl (opens_step room s few deep)
    (spell_then (named_at line n.text) all (spell_declared n.text line s few new.0)
    (spell_then (states_at line ns) all (spell_others ns line (with_name n.text s) few new.1)
    (spell_sign sign.RightParen line all f (spell_sign sign.Semicolon line all f (spell_nothing all t)))))

abbrev pub type_at : Words → ℕ → StateType
type_at w line = record { line = line; name = named_at line w.type_name; states = states_at line w.states }

spell_type : (w : Words) (room line : ℕ) (s : State) → Few s → (room == 0) ≡ false → 0 < length w.states → NamesNew (w.type_name ∷ texts_of w.states) s
    → Spells (state_type room) (type_at w line) (placed line (type_layout w)) s (with_names (w.type_name ∷ texts_of w.states) s)
unfolding state_type
spell_type w room line s few deep some new =
    let y = type_at w line in
    let all = states_at line w.states in
    let S = placed line (separated comma (texts_of w.states)) in
    let E : List PlacedToken = at (token.Sign sign.RightParen) line ∷ at (token.Sign sign.Semicolon) line ∷ [] in
    let head : List PlacedToken = at (token.Keyword word.Type) line ∷ at (token.Identifier w.type_name) line ∷ at (token.Keyword word.Is) line ∷ at (token.Sign sign.LeftParen) line ∷ [] in
    let s1 = with_name w.type_name s in
    spell_as (ap (λ (z : List PlacedToken). head ++ z) (sym (on_line line (separated comma (texts_of w.states)) (a_sign sign.RightParen ∷ end_of_line) (flat_names line (texts_of w.states)))))
    (spell_word word.Type line y few
    (spell_then (named_at line w.type_name) y (spell_declared w.type_name line s few new.0)
    (spell_word word.Is line y few
    (spell_as (append-nil _)
    (spell_then all y (spell_names w.states room line s1 few deep some new.1) (spell_nothing y (with_names (texts_of w.states) s1)))))))

-- ---- the signals

abbrev pub signals_at : Words → ℕ → StateSignals
signals_at w line = record { line = line; first = named_at line w.current; second = named_at line w.next }

spell_signals : (w : Words) (line : ℕ) (s : State) → Few s → NamesNew (w.current ∷ w.next ∷ []) s
    → Spells (state_signals w.type_name) (signals_at w line)
    (at (token.Keyword word.Signal) line ∷ at (token.Identifier w.current) line ∷ at (token.Sign sign.Comma) line ∷ at (token.Identifier w.next) line ∷ at (token.Sign sign.Colon) line ∷ at (token.Identifier w.type_name) line ∷ at (token.Sign sign.Semicolon) line ∷ [])
    s (with_names (w.current ∷ w.next ∷ []) s)
unfolding state_signals of_type code_of
spell_signals w line s few new =
    let y = signals_at w line in
    let t = with_names (w.current ∷ w.next ∷ []) s in
    spell_word word.Signal line y few
    (spell_then (named_at line w.current) y (spell_declared w.current line s few new.0)
    (spell_then (named_at line w.next) y (spell_another w.next line (with_name w.current s) few new.1.0)
    (spell_then tt y
    (spell_sign sign.Colon line tt few
    (spell_lead form.Identifier (λ v. spells w.type_name (name_of v)) (at (token.Identifier w.type_name) line) tt refl (spells_step w.type_name t few)
    (spell_sign sign.Semicolon line tt few (spell_nothing tt t))))
    (spell_nothing y t))))

-- ---- processes

spell_label : (s : State) → Spells label None [] s s
unfolding label
spell_label s = spell_right (spell_nothing None s)

spell_process : (room line : ℕ) (s : State) → Few s → Spells (process_head room) [] (at (token.Keyword word.Process) line ∷ at (token.Keyword word.Begin) line ∷ []) s s
unfolding process_head sensitivity
spell_process room line s few =
    spell_word word.Process line [] few (spell_then [] [] (spell_right (spell_nothing [] s)) (spell_word word.Begin line [] few (spell_nothing [] s)))

spell_process_end : (line : ℕ) (s : State) → Few s → Spells (process_end None) tt (at (token.Keyword word.Process) line ∷ at (token.Sign sign.Semicolon) line ∷ []) s s
unfolding process_end label_again
spell_process_end line s few = spell_word word.Process line tt few (spell_sign sign.Semicolon line tt few (spell_nothing tt s))

abbrev pub step_at : Words → ℕ → st.Statements → StepTree
step_at w line b = record { sensitivity = []; body = placed_body w line b; end_line = behind_body w line b }

abbrev step_tokens : Words → ℕ → ℕ → st.Statements → List PlacedToken
step_tokens w before line b =
    at (token.Keyword word.Process) before ∷ at (token.Keyword word.Begin) before ∷ placed line (body_layout w b)
    ++ (at (token.Keyword word.End) (behind_body w line b) ∷ at (token.Keyword word.Process) (behind_body w line b) ∷ at (token.Sign sign.Semicolon) (behind_body w line b) ∷ [])

spell_step : (w : Words) (b : st.Statements) (room before line : ℕ) (s : State) → Few s → IsBodyWithin w room b → ListsStates b
    → Spells (step_process room) (step_at w line b) (step_tokens w before line b) (started s) (started s)
unfolding step_process
spell_step w b room before line s few within lists =
    let t = started s in
    let y = step_at w line b in
    let e = behind_body w line b in
    spell_then None y (spell_label t)
    (spell_then [] y (spell_process room before t few)
    (spell_then (placed_body w line b) y (spell_whole w b room line s few within lists)
    (spell_word word.End e y few
    (spell_then tt y (spell_process_end e t few) (spell_nothing y t)))))

-- the clock's process begins on this line
abbrev pub clock_at : Words → ℕ → List ℕ → ClockTree
clock_at w line clock = record {
  sensitivity = [];
  condition_line = line_behind line;
  condition = rises (line_behind line) clock;
  target = named_at (line_behind (line_behind line)) w.current;
  value = named_at (line_behind (line_behind line)) w.next;
}

spell_loading : (w : Words) (line : ℕ) (s : State) → Few s
    → Spells (loading None) (named_at (line_behind line) w.current, named_at (line_behind line) w.next)
    (at (token.Keyword word.Then) line ∷ placed (line_behind line) (load_layout w ++ (ending word.If ++ ending word.Process))) s (started s)
unfolding loading load code_of
spell_loading w line s few =
    let t = started s in
    let l = line_behind line in
    let i = line_behind l in
    let p = line_behind i in
    let y : NewName × NewName = (named_at l w.current, named_at l w.next) in
    spell_lead (form.Keyword word.Then) (λ _. starts) (at (token.Keyword word.Then) line) y refl (starts_step s few)
    (spell_then y y
    (spell_then (named_at l w.current) y (spell_used w.current l t few)
    (spell_sign sign.Assign l y few (spell_then (named_at l w.next) y (spell_used w.next l t few) (spell_sign sign.Semicolon l y few (spell_nothing y t)))))
    (spell_word word.End i y few
    (spell_word word.If i y few
    (spell_sign sign.Semicolon i y few
    (spell_word word.End p y few (spell_then tt y (spell_process_end p t few) (spell_nothing y t)))))))

spell_clock_process : (w : Words) (clock : List ℕ) (room line : ℕ) (s : State) → Few s → (room == 0) ≡ false
    → Spells (clock_process room) (clock_at w line clock) (placed line (clock_layout w clock)) (started s) (started s)
unfolding clock_process code_of
spell_clock_process w clock room line s few deep =
    let t = started s in
    let c = line_behind line in
    let y = clock_at w line clock in
    let test : ℕ × Tree = (c, rises c clock) in
    let both : NewName × NewName = (named_at (line_behind c) w.current, named_at (line_behind c) w.next) in
    spell_then None y (spell_label t)
    (spell_then [] y (spell_process room line t few)
    (spell_lead (form.Keyword word.If) (λ _. opens room) (at (token.Keyword word.If) c) y refl (opens_step room t few deep)
    (spell_then test y (spell_begun c (rise_begins clock c) (spell_rise clock (room - 1) c s few))
    (spell_as (append-nil _) (spell_then both y (spell_loading w c (behind_rise s) few) (spell_nothing y t))))))

-- ---- the whole text

spell_head : (name : List ℕ) (line : ℕ) (s : State) → Few s
    → Spells (architecture_head name) architecture_name
    (at (token.Keyword word.Architecture) line ∷ at (token.Identifier architecture_name) line ∷ at (token.Keyword word.Of) line ∷ at (token.Identifier name) line ∷ at (token.Keyword word.Is) line ∷ []) s s
unfolding architecture_head belonging code_of
spell_head name line s few =
    spell_word word.Architecture line architecture_name few
    (spell_then architecture_name architecture_name (spell_identifier architecture_name line s few)
    (spell_then tt architecture_name
    (spell_word word.Of line tt few
    (spell_lead form.Identifier (λ u. spells name (name_of u)) (at (token.Identifier name) line) tt refl (spells_step name s few)
    (spell_word word.Is line tt few (spell_nothing tt s))))
    (spell_nothing architecture_name s)))

spell_last : (name : List ℕ) (line : ℕ) (s : State) → Few s → Spells (repeated name) tt (at (token.Identifier name) line ∷ at (token.Sign sign.Semicolon) line ∷ []) s s
unfolding repeated code_of
spell_last name line s few =
    spell_left
    (spell_lead form.Identifier (λ u. spells name (name_of u)) (at (token.Identifier name) line) tt refl (spells_step name s few)
    (spell_sign sign.Semicolon line tt few (spell_nothing tt s)))

-- the line on which the clock's process begins, and that of the end of the text
abbrev clocked_on : Words → ℕ → st.Statements → ℕ
clocked_on w line b = line_behind (behind_body w line b)

abbrev ended_on : Words → ℕ → st.Statements → ℕ
ended_on w line b = line_of (clocked_on w line b) (ending word.If ++ (ending word.If ++ (ending word.If ++ (ending word.If ++ ending word.If))))

abbrev both_tokens : Words → ℕ → ℕ → st.Statements → List ℕ → List PlacedToken
both_tokens w before line b clock =
    at (token.Keyword word.Begin) before
    ∷ step_tokens w (line_behind before) line b ++ (placed (clocked_on w line b) (clock_layout w clock) ++ (at (token.Keyword word.End) (ended_on w line b) ∷ []))

spell_processes : (w : Words) (b : st.Statements) (clock : List ℕ) (room before line : ℕ) (s : State) → Few s → (room == 0) ≡ false → IsBodyWithin w room b → ListsStates b
    → Spells (processes room) (step_at w line b, clock_at w (clocked_on w line b) clock) (both_tokens w before line b clock) (started s) (started s)
unfolding processes
spell_processes w b clock room before line s few deep within lists =
    let y : StepTree × ClockTree = (step_at w line b, clock_at w (clocked_on w line b) clock) in
    spell_word word.Begin before y few
    (spell_then y.0 y (spell_step w b room (line_behind before) line s few within lists)
    (spell_then y.1 y (spell_clock_process w clock room (clocked_on w line b) s few deep)
    (spell_word word.End (ended_on w line b) y few (spell_nothing y (started s)))))

-- what a text is laid out of beside the pragmas
abbrev pub whole_layout : Words → Outline → st.Statements → List ℕ → List Written
whole_layout w o b clock = entity_layout o ++ (declarations_layout w o.name ++ (step_layout w b ++ (clock_layout w clock ++ last_layout)))

-- the line of the type, and of the first statement
abbrev pub typed_on : Outline → ℕ → ℕ
typed_on o line = line_of (line_of line (entity_layout o)) (head_layout o.name)

abbrev pub stated_on : Outline → ℕ → ℕ
stated_on o line = line_behind (line_behind (line_behind (line_behind (typed_on o line))))

abbrev pub machine_at : Words → Outline → st.Statements → List ℕ → ℕ → MachineTree
machine_at w o b clock line = record {
  entity = placed_entity line o;
  states = type_at w (typed_on o line);
  signals = signals_at w (line_behind (typed_on o line));
  step = step_at w (stated_on o line) b;
  clock = clock_at w (clocked_on w (stated_on o line) b) clock;
}

regroup : (B E X L : List PlacedToken) → ((B ++ E) ++ X) ++ L ≡ B ++ (E ++ (X ++ L))
regroup B E X L = append_assoc (B ++ E) X L ∙ append_assoc B E (X ++ L)

-- the tokens behind the entity, from the first of the type on
behind_type : (w : Words) (b : st.Statements) (clock : List ℕ) (line : ℕ) (X : List Written) → X ≡ step_layout w b ++ (clock_layout w clock ++ last_layout)
    → placed line ((signals_layout w ++ begin_layout) ++ X)
    ≡ (at (token.Keyword word.Signal) line ∷ at (token.Identifier w.current) line ∷ at (token.Sign sign.Comma) line ∷ at (token.Identifier w.next) line ∷ at (token.Sign sign.Colon) line ∷ at (token.Identifier w.type_name) line ∷ at (token.Sign sign.Semicolon) line ∷ [])
    ++ (both_tokens w (line_behind line) (line_behind (line_behind (line_behind line))) b clock
    ++ (at (token.Identifier architecture_name) (ended_on w (line_behind (line_behind (line_behind line))) b) ∷ at (token.Sign sign.Semicolon) (ended_on w (line_behind (line_behind (line_behind line))) b) ∷ []))
behind_type w b clock line X is =
    let l = line_behind line in
    let body = line_behind (line_behind l) in
    let e = behind_body w body b in
    let end = ended_on w body b in
    let S : List PlacedToken =
    at (token.Keyword word.Signal) line ∷ at (token.Identifier w.current) line ∷ at (token.Sign sign.Comma) line ∷ at (token.Identifier w.next) line ∷ at (token.Sign sign.Colon) line ∷ at (token.Identifier w.type_name) line ∷ at (token.Sign sign.Semicolon) line ∷ [] in
    let head : List PlacedToken = S ++ (at (token.Keyword word.Begin) l ∷ at (token.Keyword word.Process) (line_behind l) ∷ at (token.Keyword word.Begin) (line_behind l) ∷ []) in
    let B = placed body (body_layout w b) in
    let E : List PlacedToken = at (token.Keyword word.End) e ∷ at (token.Keyword word.Process) e ∷ at (token.Sign sign.Semicolon) e ∷ [] in
    let C = placed (line_behind e) (clock_layout w clock) ++ (at (token.Keyword word.End) end ∷ []) in
    let L : List PlacedToken = at (token.Identifier architecture_name) end ∷ at (token.Sign sign.Semicolon) end ∷ [] in
    let rest : List Written = clock_layout w clock ++ last_layout in
    ap (λ (ws : List Written). placed line ((signals_layout w ++ begin_layout) ++ ws)) is
    ∙ ap (λ (ws : List Written). head ++ placed body ws) (append_assoc (body_layout w b) (ending word.Process) rest)
    ∙ ap (λ (z : List PlacedToken). head ++ z) (placed_append body (body_layout w b) (ending word.Process ++ rest))
    ∙ ap (λ (z : List PlacedToken). head ++ z) (sym (regroup B E C L))

laid : (w : Words) (o : Outline) (b : st.Statements) (clock : List ℕ) (line : ℕ)
    → placed line (whole_layout w o b clock)
    ≡ placed line (entity_layout o)
    ++ ((at (token.Keyword word.Architecture) (line_behind (line_of line (entity_layout o))) ∷ at (token.Identifier architecture_name) (line_behind (line_of line (entity_layout o))) ∷ at (token.Keyword word.Of) (line_behind (line_of line (entity_layout o)))
    ∷ at (token.Identifier o.name) (line_behind (line_of line (entity_layout o))) ∷ at (token.Keyword word.Is) (line_behind (line_of line (entity_layout o))) ∷ [])
    ++ (placed (typed_on o line) (type_layout w)
    ++ ((at (token.Keyword word.Signal) (line_behind (typed_on o line)) ∷ at (token.Identifier w.current) (line_behind (typed_on o line)) ∷ at (token.Sign sign.Comma) (line_behind (typed_on o line)) ∷ at (token.Identifier w.next) (line_behind (typed_on o line))
    ∷ at (token.Sign sign.Colon) (line_behind (typed_on o line)) ∷ at (token.Identifier w.type_name) (line_behind (typed_on o line)) ∷ at (token.Sign sign.Semicolon) (line_behind (typed_on o line)) ∷ [])
    ++ (both_tokens w (line_behind (line_behind (typed_on o line))) (stated_on o line) b clock
    ++ (at (token.Identifier architecture_name) (ended_on w (stated_on o line) b) ∷ at (token.Sign sign.Semicolon) (ended_on w (stated_on o line) b) ∷ [])))))
laid w o b clock line =
    let k = line_of line (entity_layout o) in
    let l = line_behind k in
    let d = line_behind l in
    let E = placed line (entity_layout o) in
    let H : List PlacedToken = at (token.Keyword word.Architecture) l ∷ at (token.Identifier architecture_name) l ∷ at (token.Keyword word.Of) l ∷ at (token.Identifier o.name) l ∷ at (token.Keyword word.Is) l ∷ [] in
    let P : List Written = step_layout w b ++ (clock_layout w clock ++ last_layout) in
    let Y : List Written = (signals_layout w ++ begin_layout) ++ P in
    placed_append line (entity_layout o) (declarations_layout w o.name ++ P)
    ∙ ap (λ (ws : List Written). E ++ (H ++ placed d ws)) (append_assoc (type_layout w) (signals_layout w ++ begin_layout) P)
    ∙ ap (λ (z : List PlacedToken). E ++ (H ++ z)) (placed_append d (type_layout w) Y)
    ∙ ap (λ (j : ℕ). E ++ (H ++ (placed d (type_layout w) ++ placed j Y))) (type_line_behind w d)
    ∙ ap (λ (z : List PlacedToken). E ++ (H ++ (placed d (type_layout w) ++ z))) (behind_type w b clock (line_behind d) P refl)

-- a whole text, and what is counted behind it
pub record Spelt (w : Words) (o : Outline) (b : st.Statements) (clock : List ℕ) (room line : ℕ) (s : State) : Type 0 where
  pub behind : State
  pub spelled : Spells (machine room) (machine_at w o b clock line) (placed line (whole_layout w o b clock)) s behind

pub spell_machine : (w : Words) (o : Outline) (b : st.Statements) (clock : List ℕ) (room line : ℕ) (s : State) → Few s → s.operators ≡ 0 → (room == 0) ≡ false → (room - 1 == 0) ≡ false
    → EntriesNew (map port_entry (o.first ∷ o.others) ++ map name_entry (further_texts w)) s → 0 < length w.states → IsBodyWithin w room b → ListsStates b
    → Spelt w o b clock room line s
unfolding machine architecture
spell_machine w o b clock room line s few none deep deep2 new some within lists =
    let ps = o.first ∷ o.others in
    let P = map port_entry ps in
    let N = map name_entry (further_texts w) in
    let T : List (List ℕ) = w.type_name ∷ texts_of w.states in
    let U : List (List ℕ) = w.current ∷ w.next ∷ [] in
    let sE = with_entries P s in
    let fE = few_entries P s few in
    let names = names_of_entries (further_texts w) sE (new_back P N s new) in
    let t1 = with_names T sE in
    let f1 = few_names T sE fE in
    let t2 = with_names U t1 in
    let f2 = few_names U t1 f1 in
    let clear = at_start t2 (none_counted U t1 (none_counted T sE (none_entered P s none))) in
    let y = machine_at w o b clock line in
    let e = placed_entity line o in
    let d = typed_on o line in
    let body = stated_on o line in
    let both : StepTree × ClockTree = (y.step, y.clock) in
    record {
      behind = started t2;
      spelled =
          spell_as (sym (laid w o b clock line))
          (spell_then e y (spell_to (with_port_entries ps s) (spell_entity room o line s few deep deep2 (ports_new ps s (new_front P N s new))))
          (spell_then architecture_name y (spell_head o.name (line_behind (line_of line (entity_layout o))) sE fE)
          (spell_then y.states y (spell_type w room d sE fE deep some (names_front T U sE names))
          (spell_then y.signals y (spell_to clear (spell_signals w (line_behind d) t1 f1 (names_back T U sE names)))
          (spell_then both y (spell_processes w b clock room (line_behind (line_behind d)) body t2 f2 deep within lists)
          (spell_then tt y (spell_last architecture_name (ended_on w body b) (started t2) f2) (spell_nothing y (started t2))))))));
    }
