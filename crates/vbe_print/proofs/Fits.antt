-- Each token of the text of a machine that is laid out is read again where it stands; so the text is a sentence.
use Rattle.std.proofs.Common.{◌≡◌, ℕ, ◌+◌, ◌-◌, ◌^◌, ◌<◌, ◌≤◌, Bool, true, false, List, [], ◌∷◌, ◌++◌, length, Option, None, Some, Ok, refl, sym, subst, arith, codes}
use Rattle.std.specs.List.{All}
use Rattle.std.proofs.lemmas.Fmt.{length-decimal-le}
use Rattle.std.proofs.lemmas.List.Elements.{All-head, All-tail}
use Rattle.vlsi_base.specs.declared.name.Name.{Name}
use Rattle.bool_expr.specs.declared.expr.Gate.{Gate}
use Rattle.bool_expr.specs.declared.expr.Gate.TheVariants as gate
use Rattle.bool_expr.specs.Expression.{Expression, constant, variable, inverse as not_of, pair, choice}
use Rattle.machine_core.specs.Machine.{Equation, Register}
use Rattle.vhdl_token.specs.Keyword.{keyword_of}
use Rattle.vhdl_token.specs.declared.keyword.Keyword.TheVariants as word
use Rattle.vhdl_token.specs.declared.token.PlacedToken.{PlacedToken}
use Rattle.vhdl_token.specs.declared.token.Sign.TheVariants as sign
use Rattle.vhdl_lexer.specs.Listing.{tokens_in, refusal_in}
use Rattle.grammar_theory.specs.declared.limits.TheConstants.{DEPTH}
use Rattle.grammar_theory.specs.Marks.{uncounted}
use Rattle.grammar_theory.specs.Outcome.{start}
use Rattle.grammar_theory.specs.Answers.{AnswersAll}
use Rattle.text_names.proofs.Numbered.{numbered}
use Rattle.spell_theory.specs.Layout.{Written, gap, turn, text_of, placed}
use Rattle.spell_theory.proofs.Layouts.{first_byte, cut_again}
use Rattle.spell_theory.proofs.Combinators.{accepts_all}
use Rattle.vhdl_print.specs.Outline.{Bounds, a_word, a_sign, a_name, entity_layout}
use Rattle.vhdl_print.specs.EntityAgain.{IsName, AreSmall, CanBeWritten}
use Rattle.vhdl_print.proofs.VhdlLexer.{vhdl, Fit, fit_both}
use Rattle.vhdl_print.proofs.Again.{EndsWord, fit_entity}
use Rattle.vbe_text.specs.Vbe.{vbe, IsSource}
use Rattle.vst_print.specs.Groups.{Group, bounds_of}
use Rattle.vst_print.specs.Structure.{bit_layout, name_layout, signal_layout, signals_layout, begin_layout}
use Rattle.vst_print.specs.Says.{IsSmall}
use Rattle.vst_print.proofs.Entries.{EntriesNew}
use Rattle.vst_print.proofs.Fits.{CanBeMentioned}
use Rattle.vst_print.proofs.Names.{name_of_identifier}
use Rattle.vbe_print.specs.Expressions.{Shape, atom, turned, joined, Laid, gate_word, chains, in_parentheses, unless, primary, operand, leading, laid, name_of, expression_layout, value_layout}
use Rattle.vbe_print.specs.Written.{architecture_name, head_layout, register_type, group_layout, groups_layout, equation_layout, equations_layout, condition_layout, guard_end, label, block_head_layout, block_end, block_layout, loading_layout, register_layout, blocks_layout, clocked_layout, storage_layout, last_layout}
use Rattle.vbe_print.proofs.Whole.{Parts, parts_layout, placed_parts, parts_entries, CanBeStated, spell_source}

-- what fits in front of whatever ends a word
abbrev pub Fitting : List Written → Type 0
Fitting ws = (next : ℕ) → EndsWord next → Fit ws next

-- the names that an expression reads can be mentioned
abbrev pub AreMentioned : List Name → Expression → Type 0
AreMentioned names (constant b) = Unit {0}
AreMentioned names (variable k) = CanBeMentioned (name_of names k)
AreMentioned names (not_of e) = AreMentioned names e
AreMentioned names (pair g a b) = AreMentioned names a × AreMentioned names b
AreMentioned names (choice c a b) = AreMentioned names c × (AreMentioned names a × AreMentioned names b)

-- ---- expressions

fit_name : (n : Name) → CanBeMentioned n → Fitting (name_layout n)
fit_name n can next ends = by n.bit can.1 where
  by : (b : Option ℕ) → IsSmall b → Fit (a_name n.text ∷ bit_layout b) next
  by None small = ((can.0, ends), tt)
  by (Some k) small = ((can.0, refl), ((tt, refl), ((small, refl), ((tt, refl), tt))))

fit_closed : (ws : List Written) → Fitting ws → (next : ℕ) → Fit (in_parentheses ws) next
fit_closed ws h next = ((tt, refl), fit_both ws (a_sign sign.RightParen ∷ []) next (h 41 refl) ((tt, refl), tt))

fit_primary : (l : Laid) → Fitting l.text → Fitting (primary l)
fit_primary l h next ends = by l.shape where
  by : (k : Shape) → Fit (primary (record { shape = k; text = l.text })) next
  by atom = h next ends
  by turned = fit_closed l.text h next
  by (joined g) = fit_closed l.text h next

fit_operand : (l : Laid) → Fitting l.text → Fitting (operand l)
fit_operand l h next ends = by l.shape where
  by : (k : Shape) → Fit (operand (record { shape = k; text = l.text })) next
  by atom = h next ends
  by turned = h next ends
  by (joined g) = fit_closed l.text h next

fit_leading : (g : Gate) (l : Laid) → Fitting l.text → Fitting (leading g l)
fit_leading g l h next ends = by l.shape where
  either : (b : Bool) → Fit (unless b l.text) next
  either true = h next ends
  either false = fit_closed l.text h next

  by : (k : Shape) → Fit (leading g (record { shape = k; text = l.text })) next
  by atom = h next ends
  by turned = h next ends
  by (joined i) = either (chains g i)

fit_pair : (names : List Name) (g : Gate) (a b : Expression) → Fitting (expression_layout names a) → Fitting (expression_layout names b) → Fitting (expression_layout names (pair g a b))
fit_pair names g a b p q next ends =
    fit_both (leading g (laid names a)) (gap ∷ a_word (gate_word g) ∷ gap ∷ operand (laid names b)) next (fit_leading g (laid names a) p 32 refl) ((tt, refl), fit_operand (laid names b) q next ends)

fit_turned : (names : List Name) (e : Expression) → Fitting (expression_layout names e) → Fitting (expression_layout names (not_of e))
fit_turned names e p next ends = ((tt, refl), fit_primary (laid names e) p next ends)

fit_expression : (names : List Name) (e : Expression) → AreMentioned names e → Fitting (expression_layout names e)
fit_expression names (constant b) can = λ next ends. ((tt, refl), tt)
fit_expression names (variable k) can = fit_name (name_of names k) can
fit_expression names (not_of e) can = fit_turned names e (fit_expression names e can)
fit_expression names (pair g a b) can = fit_pair names g a b (fit_expression names a can.0) (fit_expression names b can.1)
fit_expression names (choice c a b) can =
    let p = fit_expression names c can.0 in
    fit_pair names gate.Or (pair gate.And c a) (pair gate.And (not_of c) b)
    (fit_pair names gate.And c a p (fit_expression names a can.1.0))
    (fit_pair names gate.And (not_of c) b (fit_turned names c p) (fit_expression names b can.1.1))

fit_value : (names : List Name) (e : Expression) → AreMentioned names e → Fitting (value_layout names e)
fit_value names (constant b) can next ends = fit_expression names (constant b) can next ends
fit_value names (variable k) can next ends = fit_expression names (variable k) can next ends
fit_value names (not_of e) can next ends = fit_expression names (not_of e) can next ends
fit_value names (pair g a b) can next ends = fit_expression names (pair g a b) can next ends
fit_value names (choice c a b) can next ends =
    let last : List Written = gap ∷ a_word word.Else ∷ turn ∷ gap ∷ gap ∷ gap ∷ gap ∷ value_layout names b in
    fit_both (expression_layout names a) (gap ∷ a_word word.When ∷ gap ∷ expression_layout names c ++ last) next (fit_expression names a can.1.0 32 refl)
    ((tt, refl), fit_both (expression_layout names c) last next (fit_expression names c can.0 32 refl) ((tt, refl), fit_value names b can.1.1 next ends))

-- ---- declarations

fit_signals : (ss : List (List ℕ)) (next : ℕ) → All IsName ss → Fit (signals_layout ss) next
fit_signals [] next can = tt
fit_signals (x ∷ xs) next can =
    fit_both (signal_layout x) (signals_layout xs) next ((tt, refl), ((All-head IsName x xs can, refl), ((tt, refl), ((tt, refl), ((tt, refl), tt))))) (fit_signals xs next (All-tail IsName x xs can))

-- a group of registers can be declared
abbrev pub CanBeGroup : Group → Type 0
CanBeGroup g = IsName g.text × AreSmall (bounds_of g.low g.high)

fit_group : (g : Group) (next : ℕ) → CanBeGroup g → Fit (group_layout g) next
fit_group g next can = ((tt, refl), ((can.0, refl), ((tt, refl), by (bounds_of g.low g.high) can.1))) where
  by : (o : Option Bounds) → AreSmall o → Fit (register_type o ++ (a_sign sign.Semicolon ∷ turn ∷ [])) next
  by None small = ((tt, refl), ((tt, refl), ((tt, refl), tt)))
  by (Some b) small = ((tt, refl), ((tt, refl), ((small.0, refl), ((tt, refl), ((small.1, refl), ((tt, refl), ((tt, refl), ((tt, refl), tt))))))))

fit_groups : (gs : List Group) (next : ℕ) → All CanBeGroup gs → Fit (groups_layout gs) next
fit_groups [] next can = tt
fit_groups (g ∷ gs) next can =
    fit_both (group_layout g) (groups_layout gs) next (fit_group g (first_byte (groups_layout gs) next) (All-head CanBeGroup g gs can)) (fit_groups gs next (All-tail CanBeGroup g gs can))

-- ---- statements

fit_end : (next : ℕ) → Fit (a_sign sign.Semicolon ∷ turn ∷ []) next
fit_end next = ((tt, refl), tt)

fit_equation : (vars : List Name) (n : Name) (e : Expression) (next : ℕ) → CanBeMentioned n → AreMentioned vars e → Fit (equation_layout vars n e) next
fit_equation vars n e next can reads =
    fit_both (name_layout n) (gap ∷ a_sign sign.Assign ∷ gap ∷ value_layout vars e ++ (a_sign sign.Semicolon ∷ turn ∷ [])) next (fit_name n can 32 refl)
    ((tt, refl), fit_both (value_layout vars e) (a_sign sign.Semicolon ∷ turn ∷ []) next (fit_value vars e reads 59 refl) (fit_end next))

fit_equations : (vars names : List Name) (es : List Equation) (next : ℕ) → All CanBeMentioned names → All (λ e. AreMentioned vars e.expr) es → Fit (equations_layout vars names es) next
fit_equations vars [] es next can reads = tt
fit_equations vars (n ∷ names) [] next can reads = tt
fit_equations vars (n ∷ names) (e ∷ es) next can reads =
    let R : Equation → Type 0 = λ e. AreMentioned vars e.expr in
    let more = equations_layout vars names es in
    fit_both (equation_layout vars n e.expr) more next (fit_equation vars n e.expr (first_byte more next) (All-head CanBeMentioned n names can) (All-head R e es reads))
    (fit_equations vars names es next (All-tail CanBeMentioned n names can) (All-tail R e es reads))

-- ---- blocks

is_label : (k : ℕ) → k < 2 ^ 32 → IsName (label k)
is_label k small =
    let n = length-decimal-le 10 k (omega arith) (omega (arith, small)) (omega (arith, small)) in
    name_of_identifier (label k) (numbered 98 k refl refl (omega (arith, small))) (omega (arith, n))

stable_name : IsName (codes "stable")
unfolding keyword_of
stable_name = (record { begins = refl; letters = refl; short = omega arith }, refl)

data_flow : IsName architecture_name
unfolding keyword_of
data_flow = (record { begins = refl; letters = refl; short = omega arith }, refl)

fit_condition : (vars : List Name) (e : Expression) → AreMentioned vars e → Fit (condition_layout vars e) 41
fit_condition vars (constant true) reads = tt
fit_condition vars (constant false) reads = ((tt, refl), fit_operand (laid vars (constant false)) (fit_expression vars (constant false) reads) 41 refl)
fit_condition vars (variable k) reads = ((tt, refl), fit_operand (laid vars (variable k)) (fit_expression vars (variable k) reads) 41 refl)
fit_condition vars (not_of e) reads = ((tt, refl), fit_operand (laid vars (not_of e)) (fit_expression vars (not_of e) reads) 41 refl)
fit_condition vars (pair g a b) reads = ((tt, refl), fit_operand (laid vars (pair g a b)) (fit_expression vars (pair g a b) reads) 41 refl)
fit_condition vars (choice c a b) reads = ((tt, refl), fit_operand (laid vars (choice c a b)) (fit_expression vars (choice c a b) reads) 41 refl)

behind_stable : (vars : List Name) (e : Expression) (next : ℕ) → EndsWord (first_byte ((condition_layout vars e ++ guard_end) ++ begin_layout) next)
behind_stable vars (constant true) next = refl
behind_stable vars (constant false) next = refl
behind_stable vars (variable k) next = refl
behind_stable vars (not_of e) next = refl
behind_stable vars (pair g a b) next = refl
behind_stable vars (choice c a b) next = refl

fit_guard_end : (next : ℕ) → Fit guard_end next
fit_guard_end next = ((tt, refl), ((tt, refl), ((tt, refl), ((tt, refl), tt))))

fit_head : (vars : List Name) (clock : Name) (k : ℕ) (e : Expression) (next : ℕ) → IsName (label k) → IsName clock.text → AreMentioned vars e → Fit (block_head_layout vars clock k e) next
fit_head vars clock k e next named can reads =
    let C = condition_layout vars e in
    let first : Fit (C ++ guard_end) (first_byte begin_layout next) = fit_both C guard_end (first_byte begin_layout next) (fit_condition vars e reads) (fit_guard_end (first_byte begin_layout next)) in
    let begin : Fit begin_layout next = ((tt, refl), tt) in
    let tail : Fit ((C ++ guard_end) ++ begin_layout) next = fit_both (C ++ guard_end) begin_layout next first begin in (
      (named, refl),
      (
        (tt, refl),
        (
          (tt, refl),
          ((tt, refl), ((tt, refl), ((can, refl), ((tt, refl), ((tt, refl), ((can, refl), ((tt, refl), ((stable_name, behind_stable vars e next), tail)))))))),
        ),
      ),
    )

fit_block : (vars : List Name) (clock : Name) (k : ℕ) (e : Expression) (ws : List Written) (next : ℕ) → IsName (label k) → IsName clock.text → AreMentioned vars e → ((b : ℕ) → Fit ws b)
    → Fit (block_layout vars clock k e ws) next
fit_block vars clock k e ws next named can reads inside =
    let more : List Written = ws ++ block_end in
    fit_both (block_head_layout vars clock k e) more next (fit_head vars clock k e (first_byte more next) named can reads)
    (fit_both ws block_end next (inside (first_byte block_end next)) ((tt, refl), ((tt, refl), ((tt, refl), tt))))

-- what a register's block mentions
pub record IsMentioned (vars : List Name) (r : Register) : Type 0 where
  pub name : CanBeMentioned r.name
  pub next : AreMentioned vars r.next
  pub enable : AreMentioned vars r.enable

fit_loading : (vars : List Name) (r : Register) (next : ℕ) → IsMentioned vars r → Fit (loading_layout vars r) next
fit_loading vars r next can =
    fit_both (name_layout r.name) (gap ∷ a_sign sign.Assign ∷ gap ∷ a_word word.Guarded ∷ gap ∷ value_layout vars r.next ++ (a_sign sign.Semicolon ∷ turn ∷ [])) next (fit_name r.name can.name 32 refl)
    ((tt, refl), ((tt, refl), fit_both (value_layout vars r.next) (a_sign sign.Semicolon ∷ turn ∷ []) next (fit_value vars r.next can.next 59 refl) (fit_end next)))

fit_blocks : (vars : List Name) (clock : Name) (k : ℕ) (rs : List Register) (next : ℕ) → k + length rs ≤ 2 ^ 32 → IsName clock.text → All (IsMentioned vars) rs → Fit (blocks_layout vars clock k rs) next
fit_blocks vars clock k [] next few named can = tt
fit_blocks vars clock k (r ∷ rs) next few named can =
    let c = All-head (IsMentioned vars) r rs can in
    let more = blocks_layout vars clock (k + 1) rs in
    fit_both (register_layout vars clock k r) more next
    (fit_block vars clock k r.enable (loading_layout vars r) (first_byte more next) (is_label k (omega (arith, few))) named c.enable (λ b. fit_loading vars r b c))
    (fit_blocks vars clock (k + 1) rs next (omega (arith, few)) named (All-tail (IsMentioned vars) r rs can))

fit_clocked : (vars : List Name) (clock : Name) (rs : List Register) (next : ℕ) → length rs ≤ 2 ^ 32 → IsName clock.text → All (IsMentioned vars) rs → Fit (clocked_layout vars clock rs) next
fit_clocked vars clock [] next few named can = fit_block vars clock 0 (constant true) [] next (is_label 0 (omega arith)) named tt (λ b. tt)
fit_clocked vars clock (r ∷ rs) next few named can = fit_blocks vars clock 0 (r ∷ rs) next (omega (arith, few)) named can

fit_storage : (vars : List Name) (clock : Option Name) (rs : List Register) (next : ℕ) → length rs ≤ 2 ^ 32 → ((n : Name) → clock ≡ Some n → IsName n.text) → All (IsMentioned vars) rs → Fit (storage_layout vars clock rs) next
fit_storage vars None rs next few named can = tt
fit_storage vars (Some clock) rs next few named can = fit_clocked vars clock rs next few (named clock refl) can

-- ---- the whole text

-- Names are words, none of them reserved, and numbers have 32 bits.
pub record CanBeSaid (p : Parts) : Type 0 where
  pub entity : CanBeWritten p.entity
  pub signals : All IsName p.signals
  pub groups : All CanBeGroup p.groups
  pub names : All CanBeMentioned p.names
  pub equations : All (λ e. AreMentioned p.vars e.expr) p.equations
  pub few : length p.registers ≤ 2 ^ 32
  pub clock : (n : Name) → p.clock ≡ Some n → IsName n.text
  pub registers : All (IsMentioned p.vars) p.registers

fit_parts : (p : Parts) (next : ℕ) → CanBeSaid p → Fit (parts_layout p) next
fit_parts p next can =
    let r6 = storage_layout p.vars p.clock p.registers ++ last_layout in
    let r5 = equations_layout p.vars p.names p.equations ++ r6 in
    let r4 = begin_layout ++ r5 in
    let r3 = groups_layout p.groups ++ r4 in
    let r2 = signals_layout p.signals ++ r3 in
    let r1 = head_layout p.entity.name ++ r2 in
    let head : Fit (head_layout p.entity.name) (first_byte r2 next) = ((tt, refl), ((data_flow, refl), ((tt, refl), ((can.entity.name, refl), ((tt, refl), tt))))) in
    let last : Fit last_layout next = ((tt, refl), ((data_flow, refl), ((tt, refl), tt))) in
    fit_both (entity_layout p.entity) r1 next (fit_entity p.entity (first_byte r1 next) can.entity)
    (fit_both (head_layout p.entity.name) r2 next head
    (fit_both (signals_layout p.signals) r3 next (fit_signals p.signals (first_byte r3 next) can.signals)
    (fit_both (groups_layout p.groups) r4 next (fit_groups p.groups (first_byte r4 next) can.groups)
    (fit_both begin_layout r5 next ((tt, refl), tt)
    (fit_both (equations_layout p.vars p.names p.equations) r6 next (fit_equations p.vars p.names p.equations (first_byte r6 next) can.names can.equations)
    (fit_both (storage_layout p.vars p.clock p.registers) last_layout next (fit_storage p.vars p.clock p.registers (first_byte last_layout next) can.few can.clock can.registers) last))))))

-- the text is cut without a refusal, and its tokens are a sentence with this value
pub sentence : (p : Parts) → CanBeSaid p → EntriesNew (parts_entries p) uncounted → CanBeStated DEPTH (DEPTH - 2) p
    → (refusal_in (text_of (parts_layout p)) ≡ None) × IsSource (tokens_in (text_of (parts_layout p))) (placed_parts 1 p)
unfolding tokens_in refusal_in
sentence p can new stated =
    let r = spell_source DEPTH (DEPTH - 2) p 1 uncounted refl refl refl refl new stated in
    let c = cut_again vhdl false 1 (parts_layout p) (fit_parts p 0 can) in
    let Right : List PlacedToken → Type 0 = λ ts. AnswersAll vbe (start ts) (Ok (placed_parts 1 p, record { state = r.behind; rest = [] })) in (
      c.refusal,
      record {
        end = record { state = r.behind; rest = [] };
        read = subst Right (sym c.tokens_are) (accepts_all vbe (placed_parts 1 p) (placed 1 (parts_layout p)) r.behind r.spelled);
      },
    )
