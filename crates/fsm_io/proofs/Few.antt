-- A text has no more states than tokens, and no more tokens than bytes.
use Rattle.std.proofs.Common.{◌≡◌, ℕ, zero, suc, ◌-◌, ◌<◌, ◌≤◌, Bool, false, List, [], ◌∷◌, ◌++◌, drop, length, refl, ap, arith, length-append}
use Rattle.vlsi_base.specs.declared.limits.TheConstants.{MOST_SOURCE_BYTES}
use Rattle.vlsi_base.specs.declared.entity.Entity.{Entity}
use Rattle.vlsi_base.specs.declared.entity.NewName.{NewName}
use Rattle.lexer_base.specs.declared.piece.Piece.{Piece}
use Rattle.lexer_base.specs.declared.piece.Piece.TheVariants as piece
use Rattle.lexer_base.specs.Lexical.{length_of}
use Rattle.lexer_base.specs.Listing.{pieces_within, pieces_from, tokens_of as tokens_at, tokens_from, line_after}
use Rattle.vhdl_token.specs.declared.token.PlacedToken.{PlacedToken}
use Rattle.vhdl_token.specs.declared.token.Tokens.{Tokens}
use Rattle.vhdl_lexer.specs.Listing.{cut, behind, pieces, tokens_in}
use Rattle.grammar_theory.specs.declared.limits.TheConstants.{DEPTH}
use Rattle.grammar_theory.specs.Marks.{Item}
use Rattle.grammar_theory.specs.Grammar.{Grammar, Then, list}
use Rattle.grammar_theory.specs.Answers.{tokens_of}
use Rattle.vhdl_front.specs.Entity.{another}
use Rattle.fsm_text.specs.declared.file.StateType.{StateType}
use Rattle.fsm_text.specs.Written.{MachineTree}
use Rattle.fsm_text.specs.Fsm.{state_names, state_type, architecture, machine}
use Rattle.fsm_text.specs.Texts.{IsMachine}
use Rattle.fsm_io.specs.Verdict.{most_numbered}

-- ---- tokens and bytes

few_pieces : (n : ℕ) (state : Bool) (text : List ℕ) → length (pieces_within cut behind n state text) ≤ n
unfolding pieces_within
few_pieces zero state text = omega arith
few_pieces (suc n) state [] = omega arith
few_pieces (suc n) state (b ∷ bs) =
    let first = cut state (b ∷ bs) in
    let rest = few_pieces n (behind first state) (drop (length_of first - 1) bs) in
    omega (arith, rest)

one_token : (line : ℕ) (p : Piece) → length (tokens_at line p) ≤ 1
one_token line piece.Blank = omega arith
one_token line piece.NewLine = omega arith
one_token line (piece.Comment n) = omega arith
one_token line (piece.Pragma key name n) = omega arith
one_token line (piece.Token t n) = omega arith
one_token line (piece.TooLong n) = omega arith
one_token line (piece.TooGreat n) = omega arith
one_token line piece.Bad = omega arith

few_tokens : (line : ℕ) (ps : List Piece) → length (tokens_from line ps) ≤ length ps
few_tokens line [] = omega arith
few_tokens line (p ∷ ps) =
    let one = one_token line p in
    let rest = few_tokens (line_after line p) ps in
    let both = length-append (tokens_at line p) (tokens_from (line_after line p) ps) in
    omega (arith, one, rest, both)

pub tokens_few : (bytes : List ℕ) → length (tokens_in bytes).items ≤ length bytes
unfolding tokens_in pieces_from
tokens_few bytes = let a = few_tokens 1 (pieces bytes) in let b = few_pieces (length bytes) false bytes in omega (arith, a, b)

pub length_tokens : (items : List Item) → length (tokens_of items) ≡ length items
length_tokens [] = refl
length_tokens (i ∷ items) = ap suc (length_tokens items)

-- ---- states and tokens

pub front_less : {A C : Type 0} {L : Grammar A} {M : A → Grammar C} (items : List Item) {v : C} (s : Then L M items v) → length s.front ≤ length items
front_less items s = let all = ap length s.parts in let both = length-append s.front s.back in omega (arith, all, both)

pub back_less : {A C : Type 0} {L : Grammar A} {M : A → Grammar C} (items : List Item) {v : C} (s : Then L M items v) → length s.back ≤ length items
back_less items s = let all = ap length s.parts in let both = length-append s.front s.back in omega (arith, all, both)

another_some : (line : ℕ) (items : List Item) (n : NewName) → another line items n → 0 < length items
unfolding another
another_some line items n s =
    let comma : length s.front ≡ 1 = ap length s.before.alone in
    let less = front_less items s in
    omega (arith, comma, less)

pub few_others : (line : ℕ) (items : List Item) (names : List NewName) → list (another line) items names → length names ≤ length items
few_others line items [] s = omega arith
few_others line items (n ∷ names) s =
    let some = another_some line s.0 n s.3 in
    let rest = few_others line s.1 names s.4 in
    let all : length items ≡ length (s.0 ++ s.1) = ap length s.2 in
    let both = length-append s.0 s.1 in
    omega (arith, some, rest, all, both)

few_names : (room line : ℕ) (items : List Item) (names : List NewName) → state_names room line items names → length names ≤ length items
unfolding state_names
few_names room line items names s =
    let is : names ≡ s.behind.value ∷ s.behind.behind.value = s.behind.behind.behind.behind.behind.1 in
    let many : length names ≡ suc (length s.behind.behind.value) = ap length is in
    let paren : length s.front ≡ 1 = ap length s.before.alone in
    let all = ap length s.parts in
    let both = length-append s.front s.back in
    let inner = back_less s.back s.behind in
    let least = front_less s.behind.back s.behind.behind in
    let more = few_others line s.behind.behind.front s.behind.behind.value s.behind.behind.before in
    omega (arith, many, paren, all, both, inner, least, more)

few_of_type : (room : ℕ) (items : List Item) (t : StateType) → state_type room items t → length t.states ≤ length items
unfolding state_type
few_of_type room items t s =
    let all = s.behind.behind.behind.value in
    let is : t.states ≡ all = ap (λ (u : StateType). u.states) s.behind.behind.behind.behind.1 in
    let few : length all ≤ length s.behind.behind.behind.front = few_names room s.value.line s.behind.behind.behind.front all s.behind.behind.behind.before in
    let same : length t.states ≡ length all = ap length is in
    let a = back_less items s in
    let b = back_less s.back s.behind in
    let c = back_less s.behind.back s.behind.behind in
    let d = front_less s.behind.behind.back s.behind.behind.behind in
    omega (arith, few, same, a, b, c, d)

few_of_architecture : (room : ℕ) (e : Entity) (items : List Item) (m : MachineTree) → architecture room e items m → length m.states.states ≤ length items
unfolding architecture
few_of_architecture room e items m s =
    let type = s.behind.value in
    let is : m.states ≡ type = ap (λ (n : MachineTree). n.states) s.behind.behind.behind.behind.behind.1 in
    let few : length type.states ≤ length s.behind.front = few_of_type room s.behind.front type s.behind.before in
    let same : length m.states.states ≡ length type.states = ap (λ (u : StateType). length u.states) is in
    let a = back_less items s in
    let b = front_less s.back s.behind in
    omega (arith, few, same, a, b)

pub few_of_machine : (room : ℕ) (items : List Item) (m : MachineTree) → machine room items m → length m.states.states ≤ length items
unfolding machine
few_of_machine room items m s = let few = few_of_architecture room s.value s.back m s.behind in let a = back_less items s in omega (arith, few, a)

-- the tokens of a text are no more than its bytes
pub few_items : (bytes : List ℕ) (tokens : Tokens) (m : MachineTree) → length bytes ≤ MOST_SOURCE_BYTES → tokens ≡ tokens_in bytes → (h : IsMachine tokens m) → length h.read.0.front ≤ MOST_SOURCE_BYTES
few_items bytes tokens m short cut h =
    let a = h.read.0 in
    let all = ap (λ (ts : List PlacedToken). length ts) a.parts in
    let both = length-append (tokens_of a.front) h.end.rest in
    let same = length_tokens a.front in
    let same_tokens : length tokens.items ≡ length (tokens_in bytes).items = ap (λ (ts : Tokens). length ts.items) cut in
    let read = tokens_few bytes in
    omega (arith, all, both, same, same_tokens, read, short)

-- the states of a text can be numbered
pub few_states : (bytes : List ℕ) (tokens : Tokens) (m : MachineTree) → length bytes ≤ MOST_SOURCE_BYTES → tokens ≡ tokens_in bytes → IsMachine tokens m → length m.states.states ≤ most_numbered
few_states bytes tokens m short cut h =
    let a = h.read.0 in
    let few = few_of_machine DEPTH a.front m a.sentence in
    let read = few_items bytes tokens m short cut h in
    let most : MOST_SOURCE_BYTES ≡ 1048576 = refl in
    omega (arith, few, read, most)
