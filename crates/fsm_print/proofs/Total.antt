-- No target of the text of a state machine is assigned more often than a text may have it.
use Rattle.std.proofs.Common.{◌≡◌, ℕ, ◌+◌, ◌≤◌, true, filter, List, [], ◌∷◌, ◌++◌, codes, Option, None, refl, sym, ap, subst, ◌∙◌, arith, append_assoc}
use Rattle.std.proofs.lemmas.List.{append-nil}
use Rattle.vlsi_base.specs.declared.name.Name.{Name}
use Rattle.vlsi_base.specs.Names.{scalar}
use Rattle.fsm_machine.specs.Fsm.{Fsm}
use Rattle.fsm_core.specs.Checked.{IsBodyOf}
use Rattle.vhdl_token.specs.declared.keyword.Keyword.TheVariants as word
use Rattle.vhdl_token.specs.declared.token.PlacedToken.{PlacedToken}
use Rattle.vhdl_token.specs.declared.token.Token.TheVariants as token
use Rattle.vhdl_token.specs.declared.token.Sign.TheVariants as sign
use Rattle.grammar_theory.specs.declared.limits.TheConstants.{CHAIN}
use Rattle.grammar_theory.specs.Tokens.{code_of}
use Rattle.source_checks.specs.declared.symbol_table.Symbol.{Symbol}
use Rattle.source_checks.specs.Symbols.{all_names, find}
use Rattle.source_checks.specs.Formula.{names_of_found}
use Rattle.source_checks.specs.Drivers.{is_among}
use Rattle.spell_theory.specs.Layout.{Written, gap, line_behind, placed}
use Rattle.vhdl_print.specs.Outline.{a_word, a_sign}
use Rattle.vhdl_print.proofs.Entities.{at}
use Rattle.fsm_text.specs.Chains.{overfull}
use Rattle.fsm_print.specs.declared.words.Words.{Words}
use Rattle.fsm_print.specs.Layout.{comma, separated, ending, end_of_line, then_layout, body_layout}
use Rattle.fsm_print.specs.Written.{architecture_name, texts_of, head_layout, type_layout, signals_layout, begin_layout, process_layout, step_layout, rise_layout, load_layout, clock_layout, last_layout, declarations_layout}
use Rattle.fsm_print.specs.Nesting.{times_in}
use Rattle.fsm_print.proofs.Dull.{IsStop, Stretch, last, more, quiet_stretch}
use Rattle.fsm_print.proofs.Counting.{AreOwn, Counts, counts_both, counts_as, none_counts, front_counts, back_counts, counted_unnamed, body_counts, quiet_names, stop_semicolon, stop_is, stop_end, stop_if, stop_then, stretch_ending, name_quiet}
use Rattle.fsm_print.proofs.Whole.{flat_names}
use Rattle.vbe_print.proofs.Spelling.{on_line}

stop_begin : (line : ℕ) → IsStop (at (token.Keyword word.Begin) line)
unfolding code_of
stop_begin line = record { assign = refl; name = refl; number = refl; opens = refl; close = refl; falls = refl; rises = refl }

stop_process : (line : ℕ) → IsStop (at (token.Keyword word.Process) line)
unfolding code_of
stop_process line = record { assign = refl; name = refl; number = refl; opens = refl; close = refl; falls = refl; rises = refl }

-- ---- the declarations

head_stretch : (entity : List ℕ) (line : ℕ) → Stretch (placed line (head_layout entity))
unfolding code_of
head_stretch entity line =
    let l = line_behind line in
    more (at (token.Keyword word.Architecture) l) _ refl (more (at (token.Identifier architecture_name) l) _ refl (more (at (token.Keyword word.Of) l) _ refl
    (more (at (token.Identifier entity) l) _ refl (last (at (token.Keyword word.Is) l) (stop_is l)))))

type_stretch : (w : Words) (line : ℕ) → Stretch (placed line (type_layout w))
unfolding code_of
type_stretch w line =
    let S = placed line (separated comma (texts_of w.states)) in
    let E : List PlacedToken = at (token.Sign sign.RightParen) line ∷ at (token.Sign sign.Semicolon) line ∷ [] in
    let inside : Stretch (S ++ E) = quiet_stretch S E (quiet_names (texts_of w.states) line) (more (at (token.Sign sign.RightParen) line) _ refl (last (at (token.Sign sign.Semicolon) line) (stop_semicolon line))) in
    let all : Stretch (placed line (separated comma (texts_of w.states) ++ (a_sign sign.RightParen ∷ end_of_line))) =
    subst Stretch (sym (on_line line (separated comma (texts_of w.states)) (a_sign sign.RightParen ∷ end_of_line) (flat_names line (texts_of w.states)))) inside in
    more (at (token.Keyword word.Type) line) _ refl (more (at (token.Identifier w.type_name) line) _ refl (more (at (token.Keyword word.Is) line) _ refl (more (at (token.Sign sign.LeftParen) line) _ refl all)))

signals_stretch : (w : Words) (line : ℕ) → Stretch (placed line (signals_layout w))
unfolding code_of
signals_stretch w line =
    more (at (token.Keyword word.Signal) line) _ refl (more (at (token.Identifier w.current) line) _ refl (more (at (token.Sign sign.Comma) line) _ refl (more (at (token.Identifier w.next) line) _ refl
    (more (at (token.Sign sign.Colon) line) _ refl (more (at (token.Identifier w.type_name) line) _ refl (last (at (token.Sign sign.Semicolon) line) (stop_semicolon line)))))))

begin_stretch : (line : ℕ) → Stretch (placed line begin_layout)
begin_stretch line = last (at (token.Keyword word.Begin) line) (stop_begin line)

process_stretch : (line : ℕ) → Stretch (placed line process_layout)
process_stretch line = let a = stop_process line in more (at (token.Keyword word.Process) line) _ a.assign (last (at (token.Keyword word.Begin) line) (stop_begin line))

declarations_count : (known : List Symbol) (w : Words) (entity : List ℕ) → Counts known (declarations_layout w entity) (λ m. 0)
declarations_count known w entity =
    front_counts known (head_layout entity) (type_layout w ++ (signals_layout w ++ begin_layout)) (λ m. 0) (head_stretch entity)
    (front_counts known (type_layout w) (signals_layout w ++ begin_layout) (λ m. 0) (type_stretch w)
    (front_counts known (signals_layout w) begin_layout (λ m. 0) (signals_stretch w) (none_counts known begin_layout begin_stretch)))

-- ---- the processes

step_counts : (known : List Symbol) (w : Words) (f : Fsm) → AreOwn known w f → IsBodyOf f f.body → Counts known (step_layout w f.body) (λ m. times_in w m f.body)
step_counts known w f own of =
    front_counts known process_layout (body_layout w f.body ++ ending word.Process) (λ m. times_in w m f.body) process_stretch
    (back_counts known (body_layout w f.body) (ending word.Process) (λ m. times_in w m f.body) (body_counts known w f f.body own of) (stretch_ending (token.Keyword word.Process) stop_process))

if_stretch : (line : ℕ) → Stretch (placed line (process_layout ++ (a_word word.If ∷ gap ∷ [])))
if_stretch line =
    let a = stop_process line in
    let b = stop_begin line in
    more (at (token.Keyword word.Process) line) _ a.assign (more (at (token.Keyword word.Begin) line) _ b.assign (last (at (token.Keyword word.If) (line_behind line)) (stop_if (line_behind line))))

rise_stretch : (clock : List ℕ) (line : ℕ) → Stretch (placed line (rise_layout clock ++ then_layout))
unfolding code_of
rise_stretch clock line =
    more (at (token.Identifier clock) line) _ refl (more (at (token.Sign sign.Equal) line) _ refl (more (at (token.Bit true) line) _ refl (more (at (token.Keyword word.And) line) _ refl
    (more (at (token.Keyword word.Not) line) _ refl (more (at (token.Identifier clock) line) _ refl (more (at (token.Sign sign.Tick) line) _ refl (more (at (token.Identifier (codes "stable")) line) _ refl
    (last (at (token.Keyword word.Then) line) (stop_then line)))))))))

load_counts : (known : List Symbol) (w : Words) → find known w.current ≡ None → Counts known (load_layout w) (λ m. 0)
load_counts known w none line before room =
    counted_unnamed known before (scalar w.current) line (at (token.Identifier w.next) line ∷ at (token.Sign sign.Semicolon) line ∷ []) (λ m. 0)
    (ap (λ (o : Option Symbol). filter (is_among (all_names known)) (names_of_found o)) none)
    (more (at (token.Identifier w.next) line) _ (name_quiet w.next line) (last (at (token.Sign sign.Semicolon) line) (stop_semicolon line)))

clock_counts : (known : List Symbol) (w : Words) (clock : List ℕ) → find known w.current ≡ None → Counts known (clock_layout w clock) (λ m. 0)
clock_counts known w clock none =
    let ends : List Written = ending word.If ++ ending word.Process in
    let load : Counts known (load_layout w ++ ends) (λ m. 0) =
    counts_as known (load_layout w ++ ends) (λ m. 0 + 0) (λ m. 0) (λ m. refl)
    (counts_both known (load_layout w) ends (λ m. 0) (λ m. 0) (load_counts known w none)
    (front_counts known (ending word.If) (ending word.Process) (λ m. 0) (stretch_ending (token.Keyword word.If) stop_if) (none_counts known (ending word.Process) (stretch_ending (token.Keyword word.Process) stop_process)))) in
    let rise : Counts known (rise_layout clock ++ (then_layout ++ (load_layout w ++ ends))) (λ m. 0) =
    subst (λ (ws : List Written). Counts known ws (λ m. 0)) (append_assoc (rise_layout clock) then_layout (load_layout w ++ ends))
    (front_counts known (rise_layout clock ++ then_layout) (load_layout w ++ ends) (λ m. 0) (rise_stretch clock) load) in
    front_counts known (process_layout ++ (a_word word.If ∷ gap ∷ [])) (rise_layout clock ++ (then_layout ++ (load_layout w ++ ends))) (λ m. 0) if_stretch rise

last_stretch : (line : ℕ) → Stretch (placed line last_layout)
last_stretch line =
    let a = stop_end line in
    more (at (token.Keyword word.End) line) _ a.assign (more (at (token.Identifier architecture_name) line) _ (name_quiet architecture_name line) (last (at (token.Sign sign.Semicolon) line) (stop_semicolon line)))

abbrev architecture : Words → Fsm → List Written
architecture w f = declarations_layout w f.name ++ (step_layout w f.body ++ (clock_layout w f.clock.text ++ last_layout))

all_counts : (known : List Symbol) (w : Words) (f : Fsm) → AreOwn known w f → IsBodyOf f f.body → find known w.current ≡ None → Counts known (architecture w f) (λ m. times_in w m f.body)
all_counts known w f own of none =
    counts_as known (architecture w f) (λ m. 0 + (times_in w m f.body + 0)) (λ m. times_in w m f.body) (λ m. omega arith)
    (counts_both known (declarations_layout w f.name) (step_layout w f.body ++ (clock_layout w f.clock.text ++ last_layout)) (λ m. 0) (λ m. times_in w m f.body + 0) (declarations_count known w f.name)
    (counts_both known (step_layout w f.body) (clock_layout w f.clock.text ++ last_layout) (λ m. times_in w m f.body) (λ m. 0) (step_counts known w f own of)
    (back_counts known (clock_layout w f.clock.text) last_layout (λ m. 0) (clock_counts known w f.clock.text none) last_stretch)))

pub never_overfull : (known : List Symbol) (w : Words) (f : Fsm) (line : ℕ) → AreOwn known w f → IsBodyOf f f.body → find known w.current ≡ None → ((m : Name) → times_in w m f.body ≤ CHAIN)
    → overfull known [] (placed line (declarations_layout w f.name ++ (step_layout w f.body ++ (clock_layout w f.clock.text ++ last_layout)))) ≡ None
never_overfull known w f line own of none few =
    let c = all_counts known w f own of none line [] (λ m. (let p = few m in omega (arith, p))) in
    ap (overfull known []) (sym (append-nil (placed line (architecture w f)))) ∙ c.goes_over []
