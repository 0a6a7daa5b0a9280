-- A state machine as a text: three pragmas, its entity, and an architecture with its states and two processes.
use Rattle.std.specs.Prelude.{◌≡◌, ℕ, true, List, [], ◌∷◌, ◌++◌, map, codes}
use Rattle.vlsi_base.specs.declared.name.Name.{Name}
use Rattle.machine_core.specs.Machine.{names_of}
use Rattle.fsm_machine.specs.Statements.{Statements}
use Rattle.fsm_machine.specs.Fsm.{Fsm}
use Rattle.vhdl_token.specs.declared.keyword.Keyword.TheVariants as word
use Rattle.vhdl_token.specs.declared.token.Token.TheVariants as token
use Rattle.vhdl_token.specs.declared.token.Sign.TheVariants as sign
use Rattle.spell_theory.specs.Layout.{Written, gap, turn, says, text_of}
use Rattle.vhdl_print.specs.Outline.{a_word, a_sign, a_name, entity_layout}
use Rattle.vst_print.specs.Groups.{outline}
use Rattle.text_names.specs.Free.{IsFirstFree}
use Rattle.fsm_print.specs.declared.words.Words.{Words}
use Rattle.fsm_print.specs.Layout.{comma, separated, ending, then_layout, end_of_line, body_layout}

-- ---- names

-- the texts that the ports and the states have
abbrev pub taken_texts : Fsm → List (List ℕ)
taken_texts f = map (λ p. p.name.text) f.ports ++ map (λ s. s.text) f.states

-- The names of a text: those of the port bits and of the states, and three that none of these is: `state` for the type, and
-- `current_state` and `next_state` for its signals, or the first of them with a number behind it.
pub record AreWords (f : Fsm) (w : Words) : Type 0 where
  pub vars : w.vars ≡ names_of f.ports
  pub states : w.states ≡ f.states
  pub type_name : IsFirstFree (codes "state") (taken_texts f) w.type_name
  pub current : IsFirstFree (codes "current_state") (taken_texts f) w.current
  pub next : IsFirstFree (codes "next_state") (taken_texts f) w.next

-- ---- layout

abbrev pub architecture_name : List ℕ
architecture_name = codes "fsm"

abbrev pub head_layout : List ℕ → List Written
head_layout entity =
    turn ∷ a_word word.Architecture ∷ gap ∷ a_name architecture_name ∷ gap ∷ a_word word.Of ∷ gap ∷ a_name entity ∷ gap
    ∷ a_word word.Is ∷ turn ∷ []

abbrev pub texts_of : List Name → List (List ℕ)
texts_of names = map (λ n. n.text) names

-- the type with its states, on a line
abbrev pub type_layout : Words → List Written
type_layout w =
    a_word word.Type ∷ gap ∷ a_name w.type_name ∷ gap ∷ a_word word.Is ∷ gap ∷ a_sign sign.LeftParen
    ∷ separated comma (texts_of w.states) ++ (a_sign sign.RightParen ∷ end_of_line)

-- the two signals, on a line
abbrev pub signals_layout : Words → List Written
signals_layout w =
    a_word word.Signal ∷ gap ∷ a_name w.current ∷ a_sign sign.Comma ∷ gap ∷ a_name w.next ∷ gap ∷ a_sign sign.Colon ∷ gap
    ∷ a_name w.type_name ∷ end_of_line

abbrev pub begin_layout : List Written
begin_layout = a_word word.Begin ∷ turn ∷ []

abbrev pub process_layout : List Written
process_layout = a_word word.Process ∷ gap ∷ begin_layout

-- the process that takes a step
abbrev pub step_layout : Words → Statements → List Written
step_layout w body = process_layout ++ (body_layout w body ++ ending word.Process)

-- `ck = '1' and not ck'stable`
abbrev pub rise_layout : List ℕ → List Written
rise_layout clock =
    a_name clock ∷ gap ∷ a_sign sign.Equal ∷ gap ∷ says (token.Bit true) ∷ gap ∷ a_word word.And ∷ gap ∷ a_word word.Not ∷ gap
    ∷ a_name clock ∷ a_sign sign.Tick ∷ a_name (codes "stable") ∷ []

-- the current state is given the next one
abbrev pub load_layout : Words → List Written
load_layout w = a_name w.current ∷ gap ∷ a_sign sign.Assign ∷ gap ∷ a_name w.next ∷ end_of_line

-- the process at the clock
abbrev pub clock_layout : Words → List ℕ → List Written
clock_layout w clock =
    (process_layout ++ (a_word word.If ∷ gap ∷ []))
    ++ (rise_layout clock ++ (then_layout ++ (load_layout w ++ (ending word.If ++ ending word.Process))))

abbrev pub last_layout : List Written
last_layout = a_word word.End ∷ gap ∷ a_name architecture_name ∷ end_of_line

-- the architecture up to its `begin`
abbrev pub declarations_layout : Words → List ℕ → List Written
declarations_layout w entity = head_layout entity ++ (type_layout w ++ (signals_layout w ++ begin_layout))

-- its processes and its end
abbrev pub processes_layout : Words → Fsm → List Written
processes_layout w f = step_layout w f.body ++ (clock_layout w f.clock.text ++ last_layout)

-- all but the pragmas
unfoldable pub layout : Words → Fsm → List Written
layout w f = entity_layout (outline f.name f.ports) ++ (declarations_layout w f.name ++ processes_layout w f)

-- ---- the text

-- a pragma on a line of its own
abbrev pub pragma_line : List ℕ → List ℕ → List ℕ
pragma_line key name = codes "-- pragma " ++ (key ++ (32 ∷ name ++ 10 ∷ []))

-- which names are the current state, the next state and the clock
abbrev pub pragma_lines : Words → List ℕ → List ℕ
pragma_lines w clock =
    pragma_line (codes "current_state") w.current
    ++ (pragma_line (codes "next_state") w.next ++ pragma_line (codes "clock") clock)

-- the text with these names
abbrev pub text : Words → Fsm → List ℕ
text w f = pragma_lines w f.clock.text ++ text_of (layout w f)

-- the text of a state machine
pub record IsTextOf (f : Fsm) (bytes : List ℕ) : Type 0 where
  pub words : Words
  pub named : AreWords f words
  pub is : bytes ≡ text words f
