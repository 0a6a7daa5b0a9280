-- How the statements of a state machine are laid out, each on a line.
use Rattle.std.specs.Prelude.{ℕ, List, [], ◌∷◌, ◌++◌, map}
use Rattle.bool_expr.specs.Expression.{Expression}
use Rattle.fsm_machine.specs.Statements.{Assignment, output, next, Statements, finish, assign, choose, select, Parts, only, either, further, Branches, closed, others, listed}
use Rattle.vhdl_token.specs.declared.keyword.Keyword.{Keyword}
use Rattle.vhdl_token.specs.declared.keyword.Keyword.TheVariants as word
use Rattle.vhdl_token.specs.declared.token.Sign.TheVariants as sign
use Rattle.spell_theory.specs.Layout.{Written, gap, turn}
use Rattle.vhdl_print.specs.Outline.{a_word, a_sign, a_name}
use Rattle.vst_print.specs.Structure.{name_layout}
use Rattle.vbe_print.specs.Expressions.{name_of, expression_layout}
use Rattle.fsm_print.specs.declared.words.Words.{Words}

-- names behind others, each behind what separates them
abbrev pub behind : List Written → List (List ℕ) → List Written
behind between [] = []
behind between (t ∷ ts) = between ++ (a_name t ∷ behind between ts)

-- names with something between them
abbrev pub separated : List Written → List (List ℕ) → List Written
separated between [] = []
separated between (t ∷ ts) = a_name t ∷ behind between ts

abbrev pub comma : List Written
comma = a_sign sign.Comma ∷ gap ∷ []

abbrev pub bar : List Written
bar = gap ∷ a_sign sign.Bar ∷ gap ∷ []

-- the name of a state
abbrev pub state_text : Words → ℕ → List ℕ
state_text w s = (name_of w.states s).text

-- `end if;`, `end case;`, `end process;`
abbrev pub ending : Keyword → List Written
ending k = a_word word.End ∷ gap ∷ a_word k ∷ a_sign sign.Semicolon ∷ turn ∷ []

abbrev pub end_of_line : List Written
end_of_line = a_sign sign.Semicolon ∷ turn ∷ []

-- a bit of an output, or the next state
abbrev pub assignment_layout : Words → Assignment → List Written
assignment_layout w (output n e) = name_layout n ++ (gap ∷ a_sign sign.Assign ∷ gap ∷ expression_layout w.vars e ++ end_of_line)
assignment_layout w (next s) = a_name w.next ∷ gap ∷ a_sign sign.Assign ∷ gap ∷ a_name (state_text w s) ∷ end_of_line

-- the states of a branch
abbrev pub states_layout : Words → List ℕ → List Written
states_layout w states = separated bar (map (state_text w) states)

-- `then` or `=>`, or what else leads to statements, and the end of its line
abbrev pub then_layout : List Written
then_layout = gap ∷ a_word word.Then ∷ turn ∷ []

abbrev pub arrow_layout : List Written
arrow_layout = gap ∷ a_sign sign.Arrow ∷ turn ∷ []

-- `case current_state is`
abbrev pub case_head : Words → List Written
case_head w = a_word word.Case ∷ gap ∷ a_name w.current ∷ gap ∷ a_word word.Is ∷ turn ∷ []

-- an `if` round its parts
abbrev pub if_round : List Written → List Written
if_round parts = a_word word.If ∷ gap ∷ parts ++ ending word.If

-- a `case` over the current state, round its branches
abbrev pub case_round : Words → List Written → List Written
case_round w branches = case_head w ++ (branches ++ ending word.Case)

-- a condition in front of what is done
abbrev pub tested : Words → Expression → List Written → List Written
tested w c body = expression_layout w.vars c ++ (then_layout ++ body)

-- the states of a branch in front of what is done in them
abbrev pub led : Words → List ℕ → List Written → List Written
led w states body = a_word word.When ∷ gap ∷ states_layout w states ++ (arrow_layout ++ body)

-- statements, an `if` from its first condition on, and the branches of a `case`
abbrev mutual
  pub body_layout : Words → Statements → List Written
  body_layout w finish = []
  body_layout w (assign a rest) = assignment_layout w a ++ body_layout w rest
  body_layout w (choose parts rest) = if_round (parts_layout w parts) ++ body_layout w rest
  body_layout w (select branches rest) = case_round w (branches_layout w branches) ++ body_layout w rest

  pub parts_layout : Words → Parts → List Written
  parts_layout w (only c a) = tested w c (body_layout w a)
  parts_layout w (either c a b) = tested w c (body_layout w a) ++ (a_word word.Else ∷ turn ∷ body_layout w b)
  parts_layout w (further c a more) = tested w c (body_layout w a) ++ (a_word word.Elsif ∷ gap ∷ parts_layout w more)

  pub branches_layout : Words → Branches → List Written
  branches_layout w closed = []
  branches_layout w (others a) = a_word word.When ∷ gap ∷ a_word word.Others ∷ arrow_layout ++ body_layout w a
  branches_layout w (listed states a more) = led w states (body_layout w a) ++ branches_layout w more

abbrev pub if_layout : Words → Parts → List Written
if_layout w parts = if_round (parts_layout w parts)

abbrev pub case_layout : Words → Branches → List Written
case_layout w branches = case_round w (branches_layout w branches)

abbrev pub part_layout : Words → Expression → Statements → List Written
part_layout w c a = tested w c (body_layout w a)

abbrev pub branch_layout : Words → List ℕ → Statements → List Written
branch_layout w states a = led w states (body_layout w a)
