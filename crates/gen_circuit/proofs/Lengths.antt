-- How long the parts of a circuit's text are.
use Rattle.std.proofs.Common.{◌≡◌, ℕ, zero, suc, ◌+◌, ◌-◌, ◌*◌, ◌/◌, ◌%◌, ◌<◌, ◌≤◌, ◌^◌, Bool, true, false, List, [], ◌∷◌, ◌++◌, map, filter, length, codes, Some, nat_lt, length-append, refl, sym, ap, subst, ◌∙◌, arith, if◌then◌else◌}
use Rattle.std.specs.List.{All}
use Rattle.std.specs.Fmt.{decimal}
use Rattle.std.proofs.lemmas.Fmt.{length-decimal-le, decimal_digit}
use Rattle.std.proofs.lemmas.List.Elements.{All-head, All-tail, All-nil, All-cons, All-append, All-map, All-weaker, All-take, All-filter}
use Rattle.vlsi_base.specs.declared.name.Name.{Name}
use Rattle.vlsi_base.specs.Names.{scalar}
use Rattle.vlsi_base.specs.Range.{rising}
use Rattle.bool_expr.specs.declared.expr.Gate.{Gate}
use Rattle.bool_expr.specs.declared.expr.Gate.TheVariants as gate
use Rattle.bool_expr.specs.Expression.{Expression, constant, variable, pair}
use Rattle.machine_core.specs.Machine.{Equation, Register}
use Rattle.vhdl_token.specs.Keyword.{keyword_text}
use Rattle.vhdl_token.specs.declared.keyword.Keyword.TheVariants as word
use Rattle.vhdl_token.specs.declared.token.Sign.TheVariants as sign
use Rattle.vhdl_token.specs.declared.token.Token.{Token}
use Rattle.vhdl_token.specs.declared.token.Token.TheVariants as token
use Rattle.spell_theory.specs.Layout.{Written, gap, turn, says, spelling, text_of}
use Rattle.vhdl_print.specs.Outline.{a_word, a_sign, entity_layout}
use Rattle.vst_print.specs.Groups.{outline}
use Rattle.vst_print.specs.Structure.{name_layout, signal_layout, signals_layout}
use Rattle.vst_print.proofs.Texts.{text_append}
use Rattle.text_names.specs.Free.{is_free, numbered, free_numbers, free_texts}
use Rattle.vbe_print.specs.Expressions.{gate_word, name_of}
use Rattle.vbe_print.specs.Written.{with_supply_ports, registers_layout, equation_layout, equations_layout, guard_layout, block_head_layout, block_end, loading_layout, register_layout, storage_layout}
use Rattle.gen_circuit.specs.Generated.{clock, bit_of, four_bits, ports, of_gate, kind, choices, operand, gate_by, gates, output, register, circuit_by}
use Rattle.gen_circuit.proofs.Named.{each_all}

-- ---- operands are variables

pub operand_is : (j n : ℕ) → (k : ℕ) × (operand j n ≡ variable k)
operand_is j n = by (nat_lt n 8) where
  by : (b : Bool) → (k : ℕ) × ((if b then variable n else of_gate (j - 1 - (n - 8))) ≡ variable k)
  by true = (n, refl)
  by false = (8 + (j - 1 - (n - 8)), refl)

-- what holds of every gate of a kind between two variables holds of gate j
pub by_gate : (P : Expression → Type 0) → ((w a b : ℕ) → P (pair (kind w) (variable a) (variable b))) → (j w : ℕ) → P (gate_by j w).expr
by_gate P h j w =
    let a = operand_is j (w / 2 ^ 8 % choices j) in
    let b = operand_is j (w / 2 ^ 20 % choices j) in
    subst (λ x. P (pair (kind w) x (operand j (w / 2 ^ 20 % choices j)))) (sym a.1) (subst (λ x. P (pair (kind w) (variable a.0) x)) (sym b.1) (h w a.0 b.0))

pub by_gates : (P : Expression → Type 0) → ((w a b : ℕ) → P (pair (kind w) (variable a) (variable b))) → (j : ℕ) (ws : List ℕ) → All (λ (e : Equation). P e.expr) (gates j ws)
by_gates P h j [] = All-nil (λ (e : Equation). P e.expr)
by_gates P h j (w ∷ ws) = All-cons (λ (e : Equation). P e.expr) (gate_by j w) (gates (j + 1) ws) (by_gate P h j w) (by_gates P h (j + 1) ws)

pub by_outputs : (P : Expression → Type 0) → ((a : ℕ) → P (variable a)) → (size : ℕ) → All (λ (e : Equation). P e.expr) (map (output size) (rising 0 4))
by_outputs P h size =
    each_all (λ (e : Equation). P e.expr) (map (output size) (rising 0 4))
    (h (8 + (size - 1 - 0)), (h (8 + (size - 1 - 1)), (h (8 + (size - 1 - 2)), (h (8 + (size - 1 - 3)), tt))))

pub by_equations : (P : Expression → Type 0) → ((w a b : ℕ) → P (pair (kind w) (variable a) (variable b))) → ((a : ℕ) → P (variable a)) → (ws : List ℕ) (size : ℕ)
    → All (λ (e : Equation). P e.expr) (circuit_by ws size).equations
by_equations P h v ws size = All-append (λ (e : Equation). P e.expr) (gates 0 ws) (map (output size) (rising 0 4)) (by_gates P h 0 ws) (by_outputs P v size)

pub by_registers : (P : Register → Type 0) → ((t : ℕ) → t < 4 → (a : ℕ) → P (record { name = bit_of (codes "r") t; next = variable a; enable = constant true })) → (size : ℕ) → All P (map (register size) (rising 0 4))
by_registers P h size =
    each_all P (map (register size) (rising 0 4))
    (h 0 (omega arith) (8 + (size - 5 - 0)), (h 1 (omega arith) (8 + (size - 5 - 1)), (h 2 (omega arith) (8 + (size - 5 - 2)), (h 3 (omega arith) (8 + (size - 5 - 3)), tt))))

-- ---- lengths

abbrev pub size : List Written → ℕ
size ws = length (text_of ws)

pub size_both : (xs ys : List Written) → size (xs ++ ys) ≡ size xs + size ys
size_both xs ys = ap (λ (t : List ℕ). length t) (text_append xs ys) ∙ length-append (text_of xs) (text_of ys)

-- so many bytes more
more : ℕ → ℕ → ℕ
more zero k = k
more (suc n) k = suc (more n k)

more_is : (n k : ℕ) → more n k ≡ n + k
unfolding more
more_is zero k = omega arith
more_is (suc n) k = let h = more_is n k in omega (arith, h)

-- how many bytes a token has at the most, where numbers have 32 bits
abbrev width : Token → ℕ
width (token.Number n) = 10
width t = length (spelling t)

-- how long a text is at the most
abbrev pub most : List Written → ℕ
most [] = 0
most (gap ∷ ws) = 1 + most ws
most (turn ∷ ws) = 1 + most ws
most (says t ∷ ws) = width t + most ws

abbrev IsSmallToken : Token → Type 0
IsSmallToken (token.Number n) = n < 2 ^ 32
IsSmallToken t = Unit {0}

abbrev pub AreSmall : List Written → Type 0
AreSmall [] = Unit {0}
AreSmall (gap ∷ ws) = AreSmall ws
AreSmall (turn ∷ ws) = AreSmall ws
AreSmall (says t ∷ ws) = IsSmallToken t × AreSmall ws

token_most : (t : Token) → IsSmallToken t → length (spelling t) ≤ width t
token_most (token.Number n) small = length-decimal-le 10 n (omega arith) (omega (arith, small)) (omega (arith, small))
token_most (token.Identifier name) small = omega arith
token_most (token.Keyword w) small = omega arith
token_most (token.Bit b) small = omega arith
token_most (token.Quoted q) small = omega arith
token_most (token.BitString b d) small = omega arith
token_most (token.Digits d) small = omega arith
token_most (token.Sign s) small = omega arith

pub size_most : (ws : List Written) → AreSmall ws → size ws ≤ most ws
size_most [] h = omega arith
size_most (gap ∷ ws) h = let r = size_most ws h in omega (arith, r)
size_most (turn ∷ ws) h = let r = size_most ws h in omega (arith, r)
size_most (says t ∷ ws) h =
    let r = size_most ws h.1 in
    let own = token_most t h.0 in
    let both = length-append (spelling t) (text_of ws) in
    omega (arith, r, own, both)

-- a name of at most 24 bytes
abbrev pub IsBrief : Name → Type 0
IsBrief n = size (name_layout n) ≤ 24

pub scalar_brief : (t : List ℕ) → length t ≤ 11 → IsBrief (scalar t)
scalar_brief t few = let h = length-append t [] in omega (arith, h, few)

bit_brief : (t : List ℕ) (k : ℕ) → length t ≤ 1 → k < 4 → IsBrief (bit_of t k)
bit_brief t k few small =
    let d = length-decimal-le 1 k (omega arith) (omega (arith, small)) (omega (arith, small)) in
    let a = length-append t (40 ∷ decimal k ++ 41 ∷ []) in
    let b = length-append (decimal k) (41 ∷ []) in
    omega (arith, a, b, d, few)

pub four_brief : (t : List ℕ) → length t ≤ 1 → All IsBrief (four_bits t)
four_brief t few =
    each_all IsBrief (four_bits t) (bit_brief t 0 few (omega arith), (bit_brief t 1 few (omega arith), (bit_brief t 2 few (omega arith), (bit_brief t 3 few (omega arith), tt))))

name_brief : (vars : List Name) → All IsBrief vars → (k : ℕ) → IsBrief (name_of vars k)
name_brief [] h k = omega arith
name_brief (n ∷ vars) h zero = All-head IsBrief n vars h
name_brief (n ∷ vars) h (suc k) = name_brief vars (All-tail IsBrief n vars h) k

-- ---- texts of signals

rising_less : (m n : ℕ) → All (λ k. k < m + n) (rising m n)
rising_less m zero = All-nil (λ k. k < m + 0)
rising_less m (suc n) =
    All-cons (λ k. k < m + suc n) m (rising (m + 1) n) (omega arith) (All-weaker (λ k. k < m + 1 + n) (λ k. k < m + suc n) (λ k w. omega (arith, w)) (rising (m + 1) n) (rising_less (m + 1) n))

number_brief : (k : ℕ) → k < 2 ^ 32 → length (numbered (codes "g") k) ≤ 11
number_brief k small = let n = length-decimal-le 10 k (omega arith) (omega (arith, small)) (omega (arith, small)) in omega (arith, n)

pub texts_brief : (taken : List (List ℕ)) (many : ℕ) → many + length taken ≤ 2 ^ 32 → All (λ t. length t ≤ 11) (free_texts (codes "g") taken many)
texts_brief taken many few =
    let most = many + length taken in
    let p : ℕ → Bool = λ k. is_free taken (numbered (codes "g") k) in
    let G : ℕ → Type 0 = λ k. length (numbered (codes "g") k) ≤ 11 in
    All-map (λ t. length t ≤ 11) (numbered (codes "g")) (free_numbers (codes "g") taken many)
    (All-take G many (filter p (rising 0 most))
    (All-filter p G (rising 0 most) (All-weaker (λ k. k < 0 + most) G (λ k w. number_brief k (omega (arith, w, few))) (rising 0 most) (rising_less 0 most))))

-- ---- parts of the text

pub signals_size : (ss : List (List ℕ)) → All (λ t. length t ≤ 11) ss → size (signals_layout ss) ≤ 26 * length ss
unfolding more
signals_size [] h = omega arith
signals_size (s ∷ ss) h =
    let both = size_both (signal_layout s) (signals_layout ss) in
    let rest = signals_size ss (All-tail (λ t. length t ≤ 11) s ss h) in
    let own = All-head (λ t. length t ≤ 11) s ss h in
    let one = length-append s (text_of (gap ∷ a_sign sign.Colon ∷ gap ∷ a_word word.Bit ∷ a_sign sign.Semicolon ∷ turn ∷ [])) in
    let behind = text_of (gap ∷ a_sign sign.Colon ∷ gap ∷ a_word word.Bit ∷ a_sign sign.Semicolon ∷ turn ∷ []) in
    let is : size (signal_layout s) ≡ more 7 (length (s ++ behind)) = refl in
    let w = more_is 7 (length (s ++ behind)) in
    omega (arith, both, rest, own, one, is, w)

word_size : (g : Gate) → length (keyword_text (gate_word g)) ≤ 4
word_size gate.And = omega arith
word_size gate.Or = omega arith
word_size gate.Nand = omega arith
word_size gate.Nor = omega arith
word_size gate.Xor = omega arith
word_size gate.Xnor = omega arith

-- an equation under a short name, over short names
abbrev pub IsShortValue : List Name → Expression → Type 0
IsShortValue vars e = (n : Name) → IsBrief n → size (equation_layout vars n e) ≤ 84

pub name_short : (vars : List Name) → All IsBrief vars → (a : ℕ) → IsShortValue vars (variable a)
unfolding more
name_short vars h a n short =
    let A = name_layout (name_of vars a) in
    let E : List Written = a_sign sign.Semicolon ∷ turn ∷ [] in
    let V : List Written = gap ∷ a_sign sign.Assign ∷ gap ∷ A ++ E in
    let x = name_brief vars h a in
    let p = size_both (name_layout n) V in
    let q = size_both A E in
    let r : size V ≡ more 4 (size (A ++ E)) = refl in
    let w = more_is 4 (size (A ++ E)) in
    let z : size E ≡ 2 = refl in
    omega (arith, short, x, p, q, r, w, z)

pub gate_short : (vars : List Name) → All IsBrief vars → (g : Gate) (a b : ℕ) → IsShortValue vars (pair g (variable a) (variable b))
unfolding more
gate_short vars h g a b n short =
    let A = name_layout (name_of vars a) in
    let B = name_layout (name_of vars b) in
    let E : List Written = a_sign sign.Semicolon ∷ turn ∷ [] in
    let W : List Written = gap ∷ a_word (gate_word g) ∷ gap ∷ B in
    let V : List Written = gap ∷ a_sign sign.Assign ∷ gap ∷ (A ++ W) ++ E in
    let x = name_brief vars h a in
    let y = name_brief vars h b in
    let k = word_size g in
    let p = size_both (name_layout n) V in
    let q = size_both (A ++ W) E in
    let r = size_both A W in
    let l = length-append (keyword_text (gate_word g)) (32 ∷ text_of B) in
    let u : size V ≡ more 4 (size ((A ++ W) ++ E)) = refl in
    let w = more_is 4 (size ((A ++ W) ++ E)) in
    let v : size W ≡ suc (length (keyword_text (gate_word g) ++ 32 ∷ text_of B)) = refl in
    let z : size E ≡ 2 = refl in
    omega (arith, short, x, y, k, p, q, r, l, u, w, v, z)

pub equations_size : (vars names : List Name) (es : List Equation) → All IsBrief names → All (λ (e : Equation). IsShortValue vars e.expr) es
    → size (equations_layout vars names es) ≤ 84 * length es
equations_size vars [] es h short = omega arith
equations_size vars (n ∷ names) [] h short = omega arith
equations_size vars (n ∷ names) (e ∷ es) h short =
    let P : Equation → Type 0 = λ x. IsShortValue vars x.expr in
    let both = size_both (equation_layout vars n e.expr) (equations_layout vars names es) in
    let one = All-head P e es short n (All-head IsBrief n names h) in
    let rest = equations_size vars names es (All-tail IsBrief n names h) (All-tail P e es short) in
    omega (arith, both, one, rest)

-- the head of a block with a number of one digit
head_size : (vars : List Name) (k : ℕ) → k < 10 → size (block_head_layout vars clock k (constant true)) ≡ 48
head_size vars k small =
    let behind = text_of (gap ∷ a_sign sign.Colon ∷ gap ∷ a_word word.Block ∷ gap ∷ guard_layout vars clock (constant true) ++ (a_word word.Begin ∷ turn ∷ [])) in
    let is : size (block_head_layout vars clock k (constant true)) ≡ suc (length (decimal k ++ behind)) = refl in
    let both = length-append (decimal k) behind in
    let digit : length (decimal k) ≡ 1 = ap (λ (ds : List ℕ). length ds) (decimal_digit k small) in
    let rest : length behind ≡ 46 = refl in
    omega (arith, is, both, digit, rest)

-- the block of a register
block_size : (vars : List Name) → All IsBrief vars → (k t a : ℕ) → k < 10 → t < 4
    → size (register_layout vars clock k (record { name = bit_of (codes "r") t; next = variable a; enable = constant true })) ≤ 160
unfolding more
block_size vars h k t a digit small =
    let r : Register = record { name = bit_of (codes "r") t; next = variable a; enable = constant true } in
    let A = name_layout (name_of vars a) in
    let R = name_layout (bit_of (codes "r") t) in
    let E : List Written = a_sign sign.Semicolon ∷ turn ∷ [] in
    let L : List Written = gap ∷ a_sign sign.Assign ∷ gap ∷ a_word word.Guarded ∷ gap ∷ A ++ E in
    let head = head_size vars k digit in
    let x = name_brief vars h a in
    let y = bit_brief (codes "r") t (omega arith) small in
    let p = size_both (block_head_layout vars clock k (constant true)) (loading_layout vars r ++ block_end) in
    let q = size_both (loading_layout vars r) block_end in
    let u = size_both R L in
    let v = size_both A E in
    let load : size (loading_layout vars r) ≡ more 2 (size (R ++ L)) = refl in
    let lw = more_is 2 (size (R ++ L)) in
    let guarded : size L ≡ more 12 (size (A ++ E)) = refl in
    let gw = more_is 12 (size (A ++ E)) in
    let end : size E ≡ 2 = refl in
    let last : size block_end ≡ 11 = refl in
    omega (arith, x, y, p, q, u, v, load, lw, guarded, gw, end, last, head)

pub blocks_size : (vars : List Name) → All IsBrief vars → (n : ℕ) → size (storage_layout vars (Some clock) (map (register n) (rising 0 4))) ≤ 640
blocks_size vars h n =
    let L : ℕ → List Written = λ t. register_layout vars clock t (register n t) in
    let b0 = block_size vars h 0 0 (8 + (n - 5 - 0)) (omega arith) (omega arith) in
    let b1 = block_size vars h 1 1 (8 + (n - 5 - 1)) (omega arith) (omega arith) in
    let b2 = block_size vars h 2 2 (8 + (n - 5 - 2)) (omega arith) (omega arith) in
    let b3 = block_size vars h 3 3 (8 + (n - 5 - 3)) (omega arith) (omega arith) in
    let p0 = size_both (L 0) (L 1 ++ (L 2 ++ (L 3 ++ []))) in
    let p1 = size_both (L 1) (L 2 ++ (L 3 ++ [])) in
    let p2 = size_both (L 2) (L 3 ++ []) in
    let p3 = size_both (L 3) [] in
    let none : size [] ≡ 0 = refl in
    let all : size (storage_layout vars (Some clock) (map (register n) (rising 0 4))) ≡ size (L 0 ++ (L 1 ++ (L 2 ++ (L 3 ++ [])))) = refl in
    omega (arith, b0, b1, b2, b3, p0, p1, p2, p3, none, all)

-- the parts that all circuits have
pub entity_size : size (entity_layout (outline (codes "gen") (with_supply_ports ports))) ≤ 183
entity_size =
    let A = entity_layout (outline (codes "gen") (with_supply_ports ports)) in
    let m : most A ≡ 183 = refl in
    let digit : 3 < 2 ^ 32 = omega arith in
    let none : 0 < 2 ^ 32 = omega arith in
    let h = size_most A (tt, (tt, (tt, (tt, (tt, (tt, (tt, (tt, (tt, (tt, (tt, (tt, (tt, (tt, (tt, (digit, (tt, (none, (tt, (tt, (tt, (tt, (tt, (tt, (tt, (digit, (tt, (none, (tt, (tt, (tt, (tt, (tt, (tt, (tt, (tt, (tt, (tt, (tt, (tt, (tt, (tt, (tt, (tt, tt)))))))))))))))))))))))))))))))))))))))))))) in
    omega (arith, m, h)

pub stored_size : size (registers_layout (four_bits (codes "r"))) ≤ 63
stored_size =
    let D = registers_layout (four_bits (codes "r")) in
    let m : most D ≡ 63 = refl in
    let digit : 3 < 2 ^ 32 = omega arith in
    let none : 0 < 2 ^ 32 = omega arith in
    let h = size_most D (tt, (tt, (tt, (tt, (tt, (digit, (tt, (none, (tt, (tt, (tt, tt))))))))))) in
    omega (arith, m, h)
