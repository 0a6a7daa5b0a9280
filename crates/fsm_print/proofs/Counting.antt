-- How often the text of a state machine assigns each bit: as often as its statements do.
use Rattle.std.proofs.Common.{◌≡◌, ◌⊎◌, inl, inr, ℕ, ◌+◌, ◌<◌, ◌≤◌, Bool, true, false, List, [], ◌∷◌, ◌++◌, map, filter, length, Option, None, Some, if◌then◌else◌, refl, sym, ap, subst, ◌∙◌, arith, append_assoc}
use Rattle.std.specs.List.{Contains}
use Rattle.std.proofs.lemmas.Bool.{lt-ltb}
use Rattle.vlsi_base.specs.declared.name.Name.{Name}
use Rattle.vlsi_base.specs.Names.{scalar}
use Rattle.bool_expr.specs.declared.expr.Gate.{Gate}
use Rattle.bool_expr.specs.declared.expr.Gate.TheVariants as gate
use Rattle.bool_expr.specs.Expression.{Expression, constant, variable, inverse as not_of, pair, choice}
use Rattle.machine_core.specs.Named.{is_same_name}
use Rattle.machine_core.proofs.Names.{same_name-itself}
use Rattle.fsm_machine.specs.Statements as st
use Rattle.fsm_machine.specs.Fsm.{Fsm, fsm_outputs}
use Rattle.fsm_core.specs.Checked.{IsAssignmentOf, IsBodyOf, ArePartsOf, AreBranchesOf}
use Rattle.vhdl_token.specs.declared.keyword.Keyword.TheVariants as word
use Rattle.vhdl_token.specs.declared.token.PlacedToken.{PlacedToken}
use Rattle.vhdl_token.specs.declared.token.Token.{Token}
use Rattle.vhdl_token.specs.declared.token.Token.TheVariants as token
use Rattle.vhdl_token.specs.declared.token.Sign.TheVariants as sign
use Rattle.grammar_theory.specs.declared.form.Form.TheVariants as form
use Rattle.grammar_theory.specs.declared.limits.TheConstants.{CHAIN}
use Rattle.grammar_theory.specs.Tokens.{code_of, is_of}
use Rattle.grammar_theory.specs.Marks.{step}
use Rattle.vhdl_front.specs.Reading.{number_at, closing_at}
use Rattle.source_checks.specs.declared.statement.Target.{Target}
use Rattle.source_checks.specs.declared.symbol_table.Symbol.{Symbol}
use Rattle.source_checks.specs.Symbols.{all_names}
use Rattle.source_checks.specs.Drivers.{is_among, target_names}
use Rattle.vbe_text.specs.VbeReading.{selected_at, opened_at, selecting_at, target_behind_at, target_at}
use Rattle.spell_theory.specs.Layout.{Written, gap, turn, placed, line_of}
use Rattle.spell_theory.proofs.Layouts.{placed_append}
use Rattle.vhdl_print.specs.Outline.{a_word, a_sign, a_name}
use Rattle.vhdl_print.proofs.Entities.{at}
use Rattle.vst_print.specs.Structure.{bit_layout, name_layout}
use Rattle.vbe_print.specs.Expressions.{Shape, atom, turned, joined, Laid, gate_word, chains, in_parentheses, unless, primary, operand, leading, laid, name_of, expression_layout}
use Rattle.vbe_print.specs.Placed.{placed_target}
use Rattle.vbe_print.proofs.Spelling.{on_line, flat}
use Rattle.fsm_text.specs.Chains.{assigned_here, counted_bits, times, taken, behind_bits, behind_target, overfull}
use Rattle.fsm_print.specs.declared.words.Words.{Words}
use Rattle.fsm_print.specs.Layout.{behind, separated, comma, bar, state_text, ending, end_of_line, assignment_layout, states_layout, then_layout, arrow_layout, case_head, if_layout, case_layout, part_layout, branch_layout, body_layout, parts_layout, branches_layout}
use Rattle.fsm_print.specs.Nesting.{target_of, once, times_in, times_in_parts, times_in_branches}
use Rattle.fsm_print.proofs.Dull.{IsStop, Stretch, last, more, Quiet, goes_on, over_stretch, quiet_both, quiet_stretch}

-- ---- layouts without `<=`

-- a layout whose tokens are no `<=`
abbrev pub IsQuiet : List Written → Type 0
IsQuiet ws = (line : ℕ) → Quiet (placed line ws)

quiet_append : (xs ys : List Written) → IsQuiet xs → IsQuiet ys → IsQuiet (xs ++ ys)
quiet_append xs ys h g line =
    subst Quiet (sym (placed_append line xs ys)) (quiet_both (placed line xs) (placed (line_of line xs) ys) (h line) (g (line_of line xs)))

quiet_name : (n : Name) → IsQuiet (name_layout n)
unfolding code_of
quiet_name n line = by n.bit where
  by : (b : Option ℕ) → Quiet (placed line (a_name n.text ∷ bit_layout b))
  by None = (refl, tt)
  by (Some k) = (refl, (refl, (refl, (refl, tt))))

quiet_closed : (ws : List Written) → IsQuiet ws → IsQuiet (in_parentheses ws)
unfolding code_of
quiet_closed ws h line = (refl, quiet_append ws (a_sign sign.RightParen ∷ []) h (λ l. (refl, tt)) line)

quiet_primary : (l : Laid) → IsQuiet l.text → IsQuiet (primary l)
quiet_primary l h = by l.shape where
  by : (k : Shape) → IsQuiet (primary (record { shape = k; text = l.text }))
  by atom = h
  by turned = quiet_closed l.text h
  by (joined g) = quiet_closed l.text h

quiet_operand : (l : Laid) → IsQuiet l.text → IsQuiet (operand l)
quiet_operand l h = by l.shape where
  by : (k : Shape) → IsQuiet (operand (record { shape = k; text = l.text }))
  by atom = h
  by turned = h
  by (joined g) = quiet_closed l.text h

quiet_leading : (g : Gate) (l : Laid) → IsQuiet l.text → IsQuiet (leading g l)
quiet_leading g l h = by l.shape where
  either : (b : Bool) → IsQuiet (unless b l.text)
  either true = h
  either false = quiet_closed l.text h

  by : (k : Shape) → IsQuiet (leading g (record { shape = k; text = l.text }))
  by atom = h
  by turned = h
  by (joined i) = either (chains g i)

quiet_gate : (g : Gate) → IsQuiet (gap ∷ a_word (gate_word g) ∷ gap ∷ [])
unfolding code_of
quiet_gate gate.And line = (refl, tt)
quiet_gate gate.Or line = (refl, tt)
quiet_gate gate.Nand line = (refl, tt)
quiet_gate gate.Nor line = (refl, tt)
quiet_gate gate.Xor line = (refl, tt)
quiet_gate gate.Xnor line = (refl, tt)

quiet_pair : (names : List Name) (g : Gate) (a b : Expression) → IsQuiet (expression_layout names a) → IsQuiet (expression_layout names b) → IsQuiet (expression_layout names (pair g a b))
quiet_pair names g a b p q =
    quiet_append (leading g (laid names a)) (gap ∷ a_word (gate_word g) ∷ gap ∷ operand (laid names b)) (quiet_leading g (laid names a) p)
    (λ line. quiet_append (gap ∷ a_word (gate_word g) ∷ gap ∷ []) (operand (laid names b)) (quiet_gate g) (quiet_operand (laid names b) q) line)

quiet_turned : (names : List Name) (e : Expression) → IsQuiet (expression_layout names e) → IsQuiet (expression_layout names (not_of e))
unfolding code_of
quiet_turned names e p line = (refl, quiet_primary (laid names e) p line)

quiet_expression : (names : List Name) (e : Expression) → IsQuiet (expression_layout names e)
unfolding code_of
quiet_expression names (constant b) = λ line. (refl, tt)
quiet_expression names (variable k) = quiet_name (name_of names k)
quiet_expression names (not_of e) = quiet_turned names e (quiet_expression names e)
quiet_expression names (pair g a b) = quiet_pair names g a b (quiet_expression names a) (quiet_expression names b)
quiet_expression names (choice c a b) =
    let p = quiet_expression names c in
    quiet_pair names gate.Or (pair gate.And c a) (pair gate.And (not_of c) b) (quiet_pair names gate.And c a p (quiet_expression names a)) (quiet_pair names gate.And (not_of c) b (quiet_turned names c p) (quiet_expression names b))

quiet_bars : (ts : List (List ℕ)) → IsQuiet (behind bar ts)
unfolding code_of
quiet_bars [] line = tt
quiet_bars (t ∷ ts) line = (refl, (refl, quiet_bars ts line))

quiet_states : (ts : List (List ℕ)) → IsQuiet (separated bar ts)
unfolding code_of
quiet_states [] line = tt
quiet_states (t ∷ ts) line = (refl, quiet_bars ts line)

quiet_commas : (ts : List (List ℕ)) → IsQuiet (behind comma ts)
unfolding code_of
quiet_commas [] line = tt
quiet_commas (t ∷ ts) line = (refl, (refl, quiet_commas ts line))

pub quiet_names : (ts : List (List ℕ)) → IsQuiet (separated comma ts)
unfolding code_of
quiet_names [] line = tt
quiet_names (t ∷ ts) line = (refl, quiet_commas ts line)

-- ---- what is counted over tokens

-- over these tokens the count goes on, and each name is counted at most so often more
pub record Counted (known : List Symbol) (before : List Name) (ts : List PlacedToken) (extra : Name → ℕ) : Type 0 where
  pub after : List Name
  pub goes_over : (rest : List PlacedToken) → overfull known before (ts ++ rest) ≡ overfull known after rest
  pub most : (m : Name) → times m after ≤ times m before + extra m

pub counted_none : (known : List Symbol) (before : List Name) (ts : List PlacedToken) (extra : Name → ℕ) → Stretch ts → Counted known before ts extra
counted_none known before ts extra s = record { after = before; goes_over = λ rest. over_stretch known before ts rest s; most = λ m. omega arith }

pub counted_empty : (known : List Symbol) (before : List Name) (extra : Name → ℕ) → Counted known before [] extra
counted_empty known before extra = record { after = before; goes_over = λ rest. refl; most = λ m. omega arith }

pub counted_both : (known : List Symbol) (before : List Name) (ts us : List PlacedToken) (e g : Name → ℕ) → (c : Counted known before ts e) → Counted known c.after us g → Counted known before (ts ++ us) (λ m. e m + g m)
counted_both known before ts us e g c d = record {
  after = d.after;
  goes_over = λ rest. ap (overfull known before) (append_assoc ts us rest) ∙ c.goes_over (us ++ rest) ∙ d.goes_over rest;
  most = λ m. (let p = c.most m in let q = d.most m in omega (arith, p, q));
}

pub counted_as : (known : List Symbol) (before : List Name) (ts us : List PlacedToken) (e g : Name → ℕ) → ts ≡ us → ((m : Name) → e m ≤ g m) → Counted known before ts e → Counted known before us g
counted_as known before ts us e g same less c = record {
  after = c.after;
  goes_over = λ rest. ap (λ (z : List PlacedToken). overfull known before (z ++ rest)) (sym same) ∙ c.goes_over rest;
  most = λ m. (let p = c.most m in let q = less m in omega (arith, p, q));
}

-- so often each name may be counted still
abbrev pub Room : List Name → (Name → ℕ) → Type 0
Room before extra = (m : Name) → times m before + extra m ≤ CHAIN

pub room_behind : (known : List Symbol) (before : List Name) (ts : List PlacedToken) (e g : Name → ℕ) → Room before (λ m. e m + g m) → (c : Counted known before ts e) → Room c.after g
room_behind known before ts e g room c m = let p = room m in let q = c.most m in omega (arith, p, q)

room_less : (before : List Name) (e g : Name → ℕ) → ((m : Name) → g m ≤ e m) → Room before e → Room before g
room_less before e g less room m = let p = room m in let q = less m in omega (arith, p, q)

-- ---- an assignment

-- what a target names that is written for this name: nothing, or it alone
abbrev pub IsOwn : List Symbol → Name → Type 0
IsOwn known n = (line : ℕ) → (target_names known (placed_target line n) ≡ []) ⊎ (target_names known (placed_target line n) ≡ n ∷ [])

counted_own : (known : List Symbol) (n : Name) (t : Target) → (target_names known t ≡ []) ⊎ (target_names known t ≡ n ∷ []) → (counted_bits known t ≡ []) ⊎ (counted_bits known t ≡ n ∷ [])
counted_own known n t (inl e) = inl (ap (filter (is_among (all_names known))) e)
counted_own known n t (inr e) = elim (one (is_among (all_names known) n)) [ inl a ↦ inl (ap (filter (is_among (all_names known))) e ∙ a) | inr b ↦ inr (ap (filter (is_among (all_names known))) e ∙ b) ] where
  one : (b : Bool) → ((if b then n ∷ [] else []) ≡ []) ⊎ ((if b then n ∷ [] else []) ≡ n ∷ [])
  one true = inr refl
  one false = inl refl

-- the target in front of its `<=`
target_told : (n : Name) (line : ℕ) (rest : List PlacedToken) → assigned_here (placed line (name_layout n) ++ (at (token.Sign sign.Assign) line ∷ rest)) ≡ Some (placed_target line n)
unfolding target_at target_behind_at selecting_at opened_at selected_at number_at closing_at code_of step
target_told n line rest = by n.bit where
  by : (b : Option ℕ) → assigned_here (placed line (a_name n.text ∷ bit_layout b) ++ (at (token.Sign sign.Assign) line ∷ rest)) ≡ Some (placed_target line (record { text = n.text; bit = b }))
  by None = refl
  by (Some k) = refl

-- behind its first token the count goes on to the value
behind_name : (known : List Symbol) (before : List Name) (n : Name) (line : ℕ) (rest : List PlacedToken)
    → overfull known before (placed line (bit_layout n.bit) ++ (at (token.Sign sign.Assign) line ∷ rest)) ≡ overfull known before rest
unfolding target_at code_of
behind_name known before n line rest = by n.bit where
  skip : (t : PlacedToken) (ts : List PlacedToken) → assigned_here (t ∷ ts) ≡ None → overfull known before (t ∷ ts) ≡ overfull known before ts
  skip t ts none = goes_on known before t ts none

  by : (b : Option ℕ) → overfull known before (placed line (bit_layout b) ++ (at (token.Sign sign.Assign) line ∷ rest)) ≡ overfull known before rest
  by None = skip (at (token.Sign sign.Assign) line) rest refl
  by (Some k) =
      skip (at (token.Sign sign.LeftParen) line) (at (token.Number k) line ∷ at (token.Sign sign.RightParen) line ∷ at (token.Sign sign.Assign) line ∷ rest) refl
      ∙ skip (at (token.Number k) line) (at (token.Sign sign.RightParen) line ∷ at (token.Sign sign.Assign) line ∷ rest) refl
      ∙ skip (at (token.Sign sign.RightParen) line) (at (token.Sign sign.Assign) line ∷ rest) refl
      ∙ skip (at (token.Sign sign.Assign) line) rest refl

-- the tokens of a target, its `<=` and a stretch behind them
abbrev pub assigning : ℕ → Name → List PlacedToken → List PlacedToken
assigning line n value = placed line (name_layout n) ++ (at (token.Sign sign.Assign) line ∷ value)

opened : (known : List Symbol) (before : List Name) (n : Name) (line : ℕ) (value rest : List PlacedToken)
    → overfull known before (assigning line n value ++ rest)
    ≡ behind_bits (length (assigning line n value ++ rest)) (λ after. overfull known after (placed line (bit_layout n.bit) ++ (at (token.Sign sign.Assign) line ∷ value ++ rest))) (taken before (counted_bits known (placed_target line n)))
opened known before n line value rest =
    let all : List PlacedToken = placed line (bit_layout n.bit) ++ (at (token.Sign sign.Assign) line ∷ value ++ rest) in
    let t : PlacedToken = at (token.Identifier n.text) line in
    let same : assigning line n value ++ rest ≡ t ∷ all = ap (λ (z : List PlacedToken). t ∷ z) (append_assoc (placed line (bit_layout n.bit)) (at (token.Sign sign.Assign) line ∷ value) rest) in
    ap (overfull known before) same
    ∙ ap (λ (o : Option Target). behind_target (length (t ∷ all)) known before (λ after. overfull known after all) o) (target_told n line (value ++ rest))
    ∙ ap (λ (k : ℕ). behind_bits k (λ after. overfull known after all) (taken before (counted_bits known (placed_target line n)))) (ap (λ (z : List PlacedToken). length z) (sym same))

over_value : (known : List Symbol) (after : List Name) (n : Name) (line : ℕ) (value rest : List PlacedToken) → Stretch value
    → overfull known after (placed line (bit_layout n.bit) ++ (at (token.Sign sign.Assign) line ∷ value ++ rest)) ≡ overfull known after rest
over_value known after n line value rest s = behind_name known after n line (value ++ rest) ∙ over_stretch known after value rest s

pub counted_unnamed : (known : List Symbol) (before : List Name) (n : Name) (line : ℕ) (value : List PlacedToken) (extra : Name → ℕ) → counted_bits known (placed_target line n) ≡ [] → Stretch value
    → Counted known before (assigning line n value) extra
counted_unnamed known before n line value extra none s = record {
  after = before;
  goes_over = λ rest.
      opened known before n line value rest
      ∙ ap (λ (ns : List Name). behind_bits (length (assigning line n value ++ rest)) (λ after. overfull known after (placed line (bit_layout n.bit) ++ (at (token.Sign sign.Assign) line ∷ value ++ rest))) (taken before ns)) none
      ∙ over_value known before n line value rest s;
  most = λ m. omega arith;
}

counted_named : (known : List Symbol) (before : List Name) (n : Name) (line : ℕ) (value : List PlacedToken) → counted_bits known (placed_target line n) ≡ n ∷ [] → times n before < CHAIN → Stretch value
    → Counted known before (assigning line n value) (λ m. once (is_same_name n m))
counted_named known before n line value one less s = record {
  after = n ∷ before;
  goes_over = λ rest.
      opened known before n line value rest
      ∙ ap (λ (ns : List Name). behind_bits (length (assigning line n value ++ rest)) (λ after. overfull known after (placed line (bit_layout n.bit) ++ (at (token.Sign sign.Assign) line ∷ value ++ rest))) (taken before ns)) one
      ∙ ap (λ (b : Bool). behind_bits (length (assigning line n value ++ rest)) (λ after. overfull known after (placed line (bit_layout n.bit) ++ (at (token.Sign sign.Assign) line ∷ value ++ rest))) (if b then Some (n ∷ before) else None)) (lt-ltb (times n before) CHAIN less)
      ∙ over_value known (n ∷ before) n line value rest s;
  most = λ m. at_most m (is_same_name n m);
} where
  at_most : (m : Name) (b : Bool) → (if b then times m before + 1 else times m before) ≤ times m before + once b
  at_most m true = omega arith
  at_most m false = omega arith

pub counted_assigned : (known : List Symbol) (before : List Name) (n : Name) (line : ℕ) (value : List PlacedToken) → IsOwn known n → Room before (λ m. once (is_same_name n m)) → Stretch value
    → Counted known before (assigning line n value) (λ m. once (is_same_name n m))
counted_assigned known before n line value own room s = elim (counted_own known n (placed_target line n) (own line)) [
  | inl none ↦ counted_unnamed known before n line value (λ m. once (is_same_name n m)) none s
  | inr one ↦
      let r = room n in
      let self : once (is_same_name n n) ≡ 1 = ap once (same_name-itself n) in
      counted_named known before n line value one (omega (arith, r, self)) s
]

-- ---- statements

-- the targets of statements are their own
pub record AreOwn (known : List Symbol) (w : Words) (f : Fsm) : Type 0 where
  pub outputs : (n : Name) → Contains (fsm_outputs f) n → IsOwn known n
  pub next : IsOwn known (scalar w.next)

pub stop_semicolon : (line : ℕ) → IsStop (at (token.Sign sign.Semicolon) line)
unfolding code_of
stop_semicolon line = record { assign = refl; name = refl; number = refl; opens = refl; close = refl; falls = refl; rises = refl }

stretch_value : (names : List Name) (e : Expression) (line : ℕ) → Stretch (placed line (expression_layout names e ++ end_of_line))
stretch_value names e line =
    subst Stretch (sym (placed_append line (expression_layout names e) end_of_line))
    (quiet_stretch (placed line (expression_layout names e)) (at (token.Sign sign.Semicolon) (line_of line (expression_layout names e)) ∷ []) (quiet_expression names e line)
    (last (at (token.Sign sign.Semicolon) (line_of line (expression_layout names e))) (stop_semicolon (line_of line (expression_layout names e)))))

flat_bit : (line : ℕ) (b : Option ℕ) → line_of line (bit_layout b) ≡ line
flat_bit line None = refl
flat_bit line (Some k) = refl

count_assignment : (known : List Symbol) (w : Words) (f : Fsm) (a : st.Assignment) (line : ℕ) (before : List Name) → AreOwn known w f → IsAssignmentOf f a → Room before (λ m. once (is_same_name (target_of w a) m))
    → Counted known before (placed line (assignment_layout w a)) (λ m. once (is_same_name (target_of w a) m))
count_assignment known w f (st.output n e) line before own of room =
    let E = placed line (expression_layout w.vars e ++ end_of_line) in
    counted_as known before (assigning line n E) (placed line (assignment_layout w (st.output n e))) _ _
    (sym (on_line line (name_layout n) (gap ∷ a_sign sign.Assign ∷ gap ∷ expression_layout w.vars e ++ end_of_line) (flat_bit line n.bit))) (λ m. omega arith)
    (counted_assigned known before n line E (own.outputs n of.0) room (stretch_value w.vars e line))
count_assignment known w f (st.next k) line before own of room =
    counted_assigned known before (scalar w.next) line (at (token.Identifier (state_text w k)) line ∷ at (token.Sign sign.Semicolon) line ∷ []) own.next room
    (more (at (token.Identifier (state_text w k)) line) (at (token.Sign sign.Semicolon) line ∷ []) (quiet_name (scalar (state_text w k)) line).0 (last (at (token.Sign sign.Semicolon) line) (stop_semicolon line)))

-- ---- words that end targets

abbrev pub IsStopped : Token → Type 0
IsStopped t = (line : ℕ) → IsStop (at t line)

pub stop_then : IsStopped (token.Keyword word.Then)
unfolding code_of
stop_then line = record { assign = refl; name = refl; number = refl; opens = refl; close = refl; falls = refl; rises = refl }

pub stop_if : IsStopped (token.Keyword word.If)
unfolding code_of
stop_if line = record { assign = refl; name = refl; number = refl; opens = refl; close = refl; falls = refl; rises = refl }

stop_else : IsStopped (token.Keyword word.Else)
unfolding code_of
stop_else line = record { assign = refl; name = refl; number = refl; opens = refl; close = refl; falls = refl; rises = refl }

stop_elsif : IsStopped (token.Keyword word.Elsif)
unfolding code_of
stop_elsif line = record { assign = refl; name = refl; number = refl; opens = refl; close = refl; falls = refl; rises = refl }

stop_case : IsStopped (token.Keyword word.Case)
unfolding code_of
stop_case line = record { assign = refl; name = refl; number = refl; opens = refl; close = refl; falls = refl; rises = refl }

pub stop_is : IsStopped (token.Keyword word.Is)
unfolding code_of
stop_is line = record { assign = refl; name = refl; number = refl; opens = refl; close = refl; falls = refl; rises = refl }

pub stop_end : IsStopped (token.Keyword word.End)
unfolding code_of
stop_end line = record { assign = refl; name = refl; number = refl; opens = refl; close = refl; falls = refl; rises = refl }

stop_when : IsStopped (token.Keyword word.When)
unfolding code_of
stop_when line = record { assign = refl; name = refl; number = refl; opens = refl; close = refl; falls = refl; rises = refl }

stop_others : IsStopped (token.Keyword word.Others)
unfolding code_of
stop_others line = record { assign = refl; name = refl; number = refl; opens = refl; close = refl; falls = refl; rises = refl }

stop_arrow : IsStopped (token.Sign sign.Arrow)
unfolding code_of
stop_arrow line = record { assign = refl; name = refl; number = refl; opens = refl; close = refl; falls = refl; rises = refl }

pub name_quiet : (text : List ℕ) (line : ℕ) → is_of (form.Sign sign.Assign) (at (token.Identifier text) line) ≡ false
unfolding code_of
name_quiet text line = refl

-- an `end` with a word that ends targets
pub stretch_ending : (k : Token) → IsStopped k → (line : ℕ) → Stretch (at (token.Keyword word.End) line ∷ at k line ∷ at (token.Sign sign.Semicolon) line ∷ [])
stretch_ending k ends line =
    let a = stop_end line in
    let b = ends line in
    more (at (token.Keyword word.End) line) (at k line ∷ at (token.Sign sign.Semicolon) line ∷ []) a.assign
    (more (at k line) (at (token.Sign sign.Semicolon) line ∷ []) b.assign (last (at (token.Sign sign.Semicolon) line) (stop_semicolon line)))

-- a condition with its `then`
stretch_test : (w : Words) (c : Expression) (line : ℕ) → Stretch (placed line (expression_layout w.vars c) ++ (at (token.Keyword word.Then) line ∷ []))
stretch_test w c line = quiet_stretch (placed line (expression_layout w.vars c)) (at (token.Keyword word.Then) line ∷ []) (quiet_expression w.vars c line) (last (at (token.Keyword word.Then) line) (stop_then line))

-- the states of a branch, with its `when` and its arrow
stretch_states : (w : Words) (ks : List ℕ) (line : ℕ) → Stretch (at (token.Keyword word.When) line ∷ placed line (states_layout w ks) ++ (at (token.Sign sign.Arrow) line ∷ []))
stretch_states w ks line =
    let a = stop_when line in
    more (at (token.Keyword word.When) line) (placed line (states_layout w ks) ++ (at (token.Sign sign.Arrow) line ∷ [])) a.assign
    (quiet_stretch (placed line (states_layout w ks)) (at (token.Sign sign.Arrow) line ∷ []) (quiet_states (map (state_text w) ks) line) (last (at (token.Sign sign.Arrow) line) (stop_arrow line)))

flat_bars : (line : ℕ) (ts : List (List ℕ)) → line_of line (behind bar ts) ≡ line
flat_bars line [] = refl
flat_bars line (t ∷ ts) = flat_bars line ts

flat_states : (line : ℕ) (ts : List (List ℕ)) → line_of line (separated bar ts) ≡ line
flat_states line [] = refl
flat_states line (t ∷ ts) = flat_bars line ts

-- what is counted over a layout, wherever it stands and whatever stands before
abbrev pub Counts : List Symbol → List Written → (Name → ℕ) → Type 0
Counts known ws extra = (line : ℕ) (before : List Name) → Room before extra → Counted known before (placed line ws) extra

pub counts_both : (known : List Symbol) (xs ys : List Written) (e g : Name → ℕ) → Counts known xs e → Counts known ys g → Counts known (xs ++ ys) (λ m. e m + g m)
counts_both known xs ys e g h i line before room =
    let c = h line before (room_less before (λ m. e m + g m) e (λ m. omega arith) room) in
    counted_as known before (placed line xs ++ placed (line_of line xs) ys) (placed line (xs ++ ys)) (λ m. e m + g m) (λ m. e m + g m) (sym (placed_append line xs ys)) (λ m. omega arith)
    (counted_both known before (placed line xs) (placed (line_of line xs) ys) e g c (i (line_of line xs) c.after (room_behind known before (placed line xs) e g room c)))

-- a stretch in front or behind counts nothing
pub none_counts : (known : List Symbol) (ws : List Written) → ((line : ℕ) → Stretch (placed line ws)) → Counts known ws (λ m. 0)
none_counts known ws s line before room = counted_none known before (placed line ws) (λ m. 0) (s line)

pub counts_as : (known : List Symbol) (ws : List Written) (e g : Name → ℕ) → ((m : Name) → e m ≡ g m) → Counts known ws e → Counts known ws g
counts_as known ws e g same h line before room =
    counted_as known before (placed line ws) (placed line ws) e g refl (λ m. (let p = same m in omega (arith, p)))
    (h line before (room_less before g e (λ m. (let p = same m in omega (arith, p))) room))

pub front_counts : (known : List Symbol) (xs ys : List Written) (e : Name → ℕ) → ((line : ℕ) → Stretch (placed line xs)) → Counts known ys e → Counts known (xs ++ ys) e
front_counts known xs ys e s h = counts_as known (xs ++ ys) (λ m. 0 + e m) e (λ m. omega arith) (counts_both known xs ys (λ m. 0) e (none_counts known xs s) h)

pub back_counts : (known : List Symbol) (xs ys : List Written) (e : Name → ℕ) → Counts known xs e → ((line : ℕ) → Stretch (placed line ys)) → Counts known (xs ++ ys) e
back_counts known xs ys e h s = counts_as known (xs ++ ys) (λ m. e m + 0) e (λ m. omega arith) (counts_both known xs ys e (λ m. 0) h (none_counts known ys s))

test_stretch : (w : Words) (c : Expression) (line : ℕ) → Stretch (placed line (expression_layout w.vars c ++ then_layout))
test_stretch w c line = subst Stretch (sym (on_line line (expression_layout w.vars c) then_layout (flat w.vars line c))) (stretch_test w c line)

part_counts : (known : List Symbol) (w : Words) (c : Expression) (a : st.Statements) → Counts known (body_layout w a) (λ m. times_in w m a) → Counts known (part_layout w c a) (λ m. times_in w m a)
part_counts known w c a h =
    subst (λ (ws : List Written). Counts known ws (λ m. times_in w m a)) (append_assoc (expression_layout w.vars c) then_layout (body_layout w a))
    (front_counts known (expression_layout w.vars c ++ then_layout) (body_layout w a) (λ m. times_in w m a) (test_stretch w c) h)

branch_stretch : (w : Words) (ks : List ℕ) (line : ℕ) → Stretch (placed line ((a_word word.When ∷ gap ∷ states_layout w ks) ++ arrow_layout))
branch_stretch w ks line =
    subst (λ (z : List PlacedToken). Stretch (at (token.Keyword word.When) line ∷ z)) (sym (on_line line (states_layout w ks) arrow_layout (flat_states line (map (state_text w) ks)))) (stretch_states w ks line)

branch_counts : (known : List Symbol) (w : Words) (ks : List ℕ) (a : st.Statements) → Counts known (body_layout w a) (λ m. times_in w m a) → Counts known (branch_layout w ks a) (λ m. times_in w m a)
branch_counts known w ks a h =
    subst (λ (ws : List Written). Counts known ws (λ m. times_in w m a)) (append_assoc (a_word word.When ∷ gap ∷ states_layout w ks) arrow_layout (body_layout w a))
    (front_counts known ((a_word word.When ∷ gap ∷ states_layout w ks) ++ arrow_layout) (body_layout w a) (λ m. times_in w m a) (branch_stretch w ks) h)

head_stretch : (w : Words) (line : ℕ) → Stretch (placed line (case_head w))
head_stretch w line =
    let a = stop_case line in
    more (at (token.Keyword word.Case) line) (at (token.Identifier w.current) line ∷ at (token.Keyword word.Is) line ∷ []) a.assign
    (more (at (token.Identifier w.current) line) (at (token.Keyword word.Is) line ∷ []) (name_quiet w.current line) (last (at (token.Keyword word.Is) line) (stop_is line)))

others_stretch : (line : ℕ) → Stretch (placed line (a_word word.When ∷ gap ∷ a_word word.Others ∷ arrow_layout))
others_stretch line =
    let a = stop_when line in
    let b = stop_others line in
    more (at (token.Keyword word.When) line) (at (token.Keyword word.Others) line ∷ at (token.Sign sign.Arrow) line ∷ []) a.assign
    (more (at (token.Keyword word.Others) line) (at (token.Sign sign.Arrow) line ∷ []) b.assign (last (at (token.Sign sign.Arrow) line) (stop_arrow line)))

mutual
  pub body_counts : (known : List Symbol) (w : Words) (f : Fsm) (b : st.Statements) → AreOwn known w f → IsBodyOf f b → Counts known (body_layout w b) (λ m. times_in w m b)
  body_counts known w f st.finish own of = λ line before room. counted_empty known before (λ m. 0)
  body_counts known w f (st.assign a rest) own of =
      counts_both known (assignment_layout w a) (body_layout w rest) (λ m. once (is_same_name (target_of w a) m)) (λ m. times_in w m rest)
      (λ line before room. count_assignment known w f a line before own of.0 room) (body_counts known w f rest own of.1)
  body_counts known w f (st.choose ps rest) own of =
      counts_both known (if_layout w ps) (body_layout w rest) (λ m. times_in_parts w m ps) (λ m. times_in w m rest)
      (front_counts known (a_word word.If ∷ gap ∷ []) (parts_layout w ps ++ ending word.If) (λ m. times_in_parts w m ps) (λ line. last (at (token.Keyword word.If) line) (stop_if line))
      (back_counts known (parts_layout w ps) (ending word.If) (λ m. times_in_parts w m ps) (parts_counts known w f ps own of.0) (stretch_ending (token.Keyword word.If) stop_if)))
      (body_counts known w f rest own of.1)
  body_counts known w f (st.select bs rest) own of =
      counts_both known (case_layout w bs) (body_layout w rest) (λ m. times_in_branches w m bs) (λ m. times_in w m rest)
      (front_counts known (case_head w) (branches_layout w bs ++ ending word.Case) (λ m. times_in_branches w m bs) (head_stretch w)
      (back_counts known (branches_layout w bs) (ending word.Case) (λ m. times_in_branches w m bs) (branches_counts known w f bs own of.0) (stretch_ending (token.Keyword word.Case) stop_case)))
      (body_counts known w f rest own of.1)

  parts_counts : (known : List Symbol) (w : Words) (f : Fsm) (ps : st.Parts) → AreOwn known w f → ArePartsOf f ps → Counts known (parts_layout w ps) (λ m. times_in_parts w m ps)
  parts_counts known w f (st.only c a) own of = part_counts known w c a (body_counts known w f a own of.1)
  parts_counts known w f (st.either c a b) own of =
      counts_both known (part_layout w c a) (a_word word.Else ∷ turn ∷ body_layout w b) (λ m. times_in w m a) (λ m. times_in w m b) (part_counts known w c a (body_counts known w f a own of.1.0))
      (front_counts known (a_word word.Else ∷ turn ∷ []) (body_layout w b) (λ m. times_in w m b) (λ line. last (at (token.Keyword word.Else) line) (stop_else line)) (body_counts known w f b own of.1.1))
  parts_counts known w f (st.further c a tail) own of =
      counts_both known (part_layout w c a) (a_word word.Elsif ∷ gap ∷ parts_layout w tail) (λ m. times_in w m a) (λ m. times_in_parts w m tail) (part_counts known w c a (body_counts known w f a own of.1.0))
      (front_counts known (a_word word.Elsif ∷ gap ∷ []) (parts_layout w tail) (λ m. times_in_parts w m tail) (λ line. last (at (token.Keyword word.Elsif) line) (stop_elsif line)) (parts_counts known w f tail own of.1.1))

  branches_counts : (known : List Symbol) (w : Words) (f : Fsm) (bs : st.Branches) → AreOwn known w f → AreBranchesOf f bs → Counts known (branches_layout w bs) (λ m. times_in_branches w m bs)
  branches_counts known w f st.closed own of = λ line before room. counted_empty known before (λ m. 0)
  branches_counts known w f (st.others a) own of =
      front_counts known (a_word word.When ∷ gap ∷ a_word word.Others ∷ arrow_layout) (body_layout w a) (λ m. times_in w m a) others_stretch (body_counts known w f a own of)
  branches_counts known w f (st.listed ks a tail) own of =
      counts_both known (branch_layout w ks a) (branches_layout w tail) (λ m. times_in w m a) (λ m. times_in_branches w m tail)
      (branch_counts known w ks a (body_counts known w f a own of.0)) (branches_counts known w f tail own of.1)
