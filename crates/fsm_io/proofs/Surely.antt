-- Whether statements assign a target doesn't hang on what they assign.
use Rattle.std.proofs.Common.{◌≡◌, ℕ, zero, suc, ◌+◌, ◌-◌, ◌<◌, ◌≤◌, Bool, true, false, cond, List, [], ◌∷◌, map, length, Option, Some, None, refl, sym, ap, subst, ◌∙◌, bytes_eq, arith, inl, inr}
use Rattle.std.specs.Prelude.{◌||◌, ◌&&◌, not, filter}
use Rattle.std.specs.List.{list_all}
use Rattle.vlsi_base.specs.Range.{rising}
use Rattle.vlsi_base.specs.declared.entity.NewName.{NewName}
use Rattle.vlsi_base.specs.declared.name.Name.{Name}
use Rattle.vlsi_base.specs.Member.{In, here, there}
use Rattle.bool_expr.specs.Expression.{Expression}
use Rattle.bool_expr.specs.Support.{among}
use Rattle.source_checks.specs.declared.symbol_table.Symbol.{Symbol}
use Rattle.source_checks.specs.declared.drivers.NameFault.{NameFault}
use Rattle.source_checks.specs.Symbols.{symbol_names, scalar}
use Rattle.std.proofs.lemmas.Bool.{cases_eq}
use Rattle.source_checks.specs.Drivers.{least, fault_at, target_names}
use Rattle.source_checks.specs.Formula.{Formula, formulas, numbered}
use Rattle.fsm_machine.specs.Statements as s
use Rattle.fsm_machine.specs.Assigned.{sure, sure_parts, sure_branches, sets_next, sets_output}
use Rattle.vlsi_model.proofs.FineAssignments.{and_left, and_right}
use Rattle.vlsi_model.proofs.Members.{In-cases}
use Rattle.fsm_text.specs.Written.{StatementTree, asserted, assigned, chosen, selected, BodyTree, finish, next, PartsTree, only, either, further, BranchesTree, closed, others, listed, MachineTree}
use Rattle.fsm_io.specs.Known.{Named, symbols, texts}
use Rattle.fsm_io.specs.Drivers.{is_output, unassigned_at, first_of, or_else}
use Rattle.fsm_io.specs.Elaboration.{frame_of, state_number, next_number, assign_bits, body_bits, statement_bits, parts_bits, branches_bits}
use Rattle.fsm_io.specs.Assigned.{always, left_out_at, next_left_out, left_out_of, left_out}
use Rattle.fsm_io.proofs.Fine.{of_else}
use Rattle.fsm_io.proofs.Leasts.{unassigned_agree, first_agree}

-- the test doesn't look at expressions
abbrev pub Blind : (s.Assignment → Bool) → Type 0
Blind sets = (n : Name) (a b : Expression) → sets (s.output n a) ≡ sets (s.output n b)

bits_same : (sets : s.Assignment → Bool) → Blind sets → (q : ℕ) (us vs : List Name) (ks : List Name) (xs : List Formula) (a b : s.Statements) → sure sets q a ≡ sure sets q b
    → sure sets q (assign_bits us ks xs a) ≡ sure sets q (assign_bits vs ks xs b)
bits_same sets blind q us vs [] xs a b e = e
bits_same sets blind q us vs (k ∷ ks) [] a b e = e
bits_same sets blind q us vs (k ∷ ks) (x ∷ xs) a b e =
    ap (λ t. t || sure sets q (assign_bits us ks xs a)) (blind k (numbered us x) (numbered vs x)) ∙ ap (λ t. sets (s.output k (numbered vs x)) || t) (bits_same sets blind q us vs ks xs a b e)

assignment_same : (sets : s.Assignment → Bool) → Blind sets → (q : ℕ) (m : MachineTree) (n : Named) (us vs : List Name) (g : s.Assignment) (ks : List Name) (xs : List Formula) (a b : s.Statements) → sure sets q a ≡ sure sets q b → (c : Bool)
    → sure sets q (cond c (s.assign g a) (assign_bits us ks xs a)) ≡ sure sets q (cond c (s.assign g b) (assign_bits vs ks xs b))
assignment_same sets blind q m n us vs g ks xs a b e true = ap (λ t. sets g || t) e
assignment_same sets blind q m n us vs g ks xs a b e false = bits_same sets blind q us vs ks xs a b e

abbrev numbers_of : MachineTree → List NewName → List ℕ
numbers_of m states = map (λ (n : NewName). state_number (texts m.states.states) n.text) states

mutual
  pub body_same : (sets : s.Assignment → Bool) → Blind sets → (q : ℕ) (m : MachineTree) (n : Named) (us vs : List Name) (b : BodyTree) → sure sets q (body_bits (frame_of m n us) b) ≡ sure sets q (body_bits (frame_of m n vs) b)
  body_same sets blind q m n us vs finish = refl
  body_same sets blind q m n us vs (next st rest) =
      statement_same sets blind q m n us vs st (body_bits (frame_of m n us) rest) (body_bits (frame_of m n vs) rest) (body_same sets blind q m n us vs rest)

  statement_same : (sets : s.Assignment → Bool) → Blind sets → (q : ℕ) (m : MachineTree) (n : Named) (us vs : List Name) (st : StatementTree) (a b : s.Statements) → sure sets q a ≡ sure sets q b
      → sure sets q (statement_bits (frame_of m n us) st a) ≡ sure sets q (statement_bits (frame_of m n vs) st b)
  statement_same sets blind q m n us vs (asserted e) a b h = h
  statement_same sets blind q m n us vs (assigned t line e) a b h = assignment_same sets blind q m n us vs (s.next (next_number (texts m.states.states) e)) (target_names (symbols m) t) (formulas (symbols m) e) a b h (bytes_eq t.name n.next)
  statement_same sets blind q m n us vs (chosen parts) a b h =
      ap (λ t. t || sure sets q a) (parts_same sets blind q m n us vs parts) ∙ ap (λ t. sure_parts sets q (parts_bits (frame_of m n vs) parts) || t) h
  statement_same sets blind q m n us vs (selected line called branches) a b h =
      ap (λ t. t || sure sets q a) (branches_same sets blind q m n us vs branches) ∙ ap (λ t. sure_branches sets q (branches_bits (frame_of m n vs) branches) || t) h

  parts_same : (sets : s.Assignment → Bool) → Blind sets → (q : ℕ) (m : MachineTree) (n : Named) (us vs : List Name) (p : PartsTree) → sure_parts sets q (parts_bits (frame_of m n us) p) ≡ sure_parts sets q (parts_bits (frame_of m n vs) p)
  parts_same sets blind q m n us vs (only line c a) = refl
  parts_same sets blind q m n us vs (either line c a b) =
      ap (λ t. t && sure sets q (body_bits (frame_of m n us) b)) (body_same sets blind q m n us vs a) ∙ ap (λ t. sure sets q (body_bits (frame_of m n vs) a) && t) (body_same sets blind q m n us vs b)
  parts_same sets blind q m n us vs (further line c a more) =
      ap (λ t. t && sure_parts sets q (parts_bits (frame_of m n us) more)) (body_same sets blind q m n us vs a) ∙ ap (λ t. sure sets q (body_bits (frame_of m n vs) a) && t) (parts_same sets blind q m n us vs more)

  branches_same : (sets : s.Assignment → Bool) → Blind sets → (q : ℕ) (m : MachineTree) (n : Named) (us vs : List Name) (b : BranchesTree) → sure_branches sets q (branches_bits (frame_of m n us) b) ≡ sure_branches sets q (branches_bits (frame_of m n vs) b)
  branches_same sets blind q m n us vs closed = refl
  branches_same sets blind q m n us vs (others a) = body_same sets blind q m n us vs a
  branches_same sets blind q m n us vs (listed states a more) =
      ap (λ t. cond (among q (numbers_of m states)) t (sure_branches sets q (branches_bits (frame_of m n us) more))) (body_same sets blind q m n us vs a)
      ∙ ap (λ t. cond (among q (numbers_of m states)) (sure sets q (body_bits (frame_of m n vs) a)) t) (branches_same sets blind q m n us vs more)

next_blind : Blind sets_next
next_blind n a b = refl

output_blind : (k : Name) → Blind (sets_output k)
output_blind k n a b = refl

-- ---- what isn't left out

all_rising : (p : ℕ → Bool) (k n q : ℕ) → list_all p (rising k n) ≡ true → k ≤ q → q < k + n → p q ≡ true
all_rising p k zero q e low high = absurd (omega arith)
all_rising p k (suc n) q e low high = by (all_rising p (k + 1) n q (and_right (p k) _ e)) where
  by : (k + 1 ≤ q → q < k + 1 + n → p q ≡ true) → p q ≡ true
  by rest = elim (cases_eq q k) [
    | inl same ↦ ap p same ∙ and_left (p k) _ e
    | inr other ↦ rest (omega (arith, other)) (omega arith)
  ]

pub always_each : (count : ℕ) (sets : s.Assignment → Bool) (b : s.Statements) (q : ℕ) → always count sets b ≡ true → q < count → sure sets q b ≡ true
always_each count sets b q e h = all_rising (λ k. sure sets k b) 0 count q e (omega arith) (omega arith)

none_first : {B : Type 0} (look : Symbol → Option B) (ss : List Symbol) → first_of look ss ≡ None → (x : Symbol) → In x ss → look x ≡ None
none_first look [] e x i = elim i [ ]
none_first look (y ∷ ss) e x i = elim (In-cases x y ss i) [
  | inl same ↦ subst (λ (z : Symbol). look z ≡ None) same (of_else (look y) (first_of look ss) e).0
  | inr j ↦ none_first look ss (of_else (look y) (first_of look ss) e).1 x j
]

least_none : (ns : List Name) (line : ℕ) → fault_at line (least ns) None ≡ None → ns ≡ []
least_none [] line e = refl
least_none (n ∷ ns) line e = absurd cc

filter_none : (p : Name → Bool) (ns : List Name) → filter (λ n. not (p n)) ns ≡ [] → (x : Name) → In x ns → p x ≡ true
filter_none p [] e x i = elim i [ ]
filter_none p (n ∷ ns) e x i = by (p n) refl e (filter_none p ns) x i where
  by : (b : Bool) → p n ≡ b → cond (not b) (n ∷ filter (λ n. not (p n)) ns) (filter (λ n. not (p n)) ns) ≡ [] → (filter (λ n. not (p n)) ns ≡ [] → (x : Name) → In x ns → p x ≡ true) → (x : Name) → In x (n ∷ ns) → p x ≡ true
  by true is e rest x here = is
  by true is e rest x (there i) = rest e x i
  by false is e rest x i = absurd cc

pub assigned_each : (test : Name → Bool) (ss : List Symbol) → first_of (unassigned_at test) ss ≡ None → (x : Symbol) → In x ss → is_output x.role ≡ true → (n : Name) → In n (symbol_names x) → test n ≡ true
assigned_each test ss e x i output n j =
    let none = none_first (unassigned_at test) ss e x i in
    let here : fault_at x.line (least (filter (λ k. not (test k)) (symbol_names x))) None ≡ None =
    sym (ap (λ b. cond b (fault_at x.line (least (filter (λ k. not (test k)) (symbol_names x))) None) None) output) ∙ none in
    filter_none test (symbol_names x) (least_none (filter (λ k. not (test k)) (symbol_names x)) x.line here) n j

next_each : (m : MachineTree) (n : Named) (body : s.Statements) → next_left_out m n body ≡ None → always (length m.states.states) sets_next body ≡ true
next_each m n body e = by (always (length m.states.states) sets_next body) e where
  by : (b : Bool) → cond {A = Option NameFault} b None (Some (record { line = m.signals.line; name = scalar n.next })) ≡ None → b ≡ true
  by true e = refl
  by false e = absurd cc

-- where nothing is left out, each state assigns the next state and each output on every path, whatever the port bits are
pub next_sure : (m : MachineTree) (n : Named) (vars : List Name) → left_out m n ≡ None → (q : ℕ) → q < length m.states.states → sure sets_next q (body_bits (frame_of m n vars) m.step.body) ≡ true
next_sure m n vars e q h =
    let body = body_bits (frame_of m n []) m.step.body in
    body_same sets_next next_blind q m n vars [] m.step.body
    ∙ always_each (length m.states.states) sets_next body q (next_each m n body (of_else (first_of (left_out_at (length m.states.states) body) (symbols m)) (next_left_out m n body) e).1) h

pub output_sure : (m : MachineTree) (n : Named) (vars : List Name) → left_out m n ≡ None → (q : ℕ) → q < length m.states.states
    → (x : Symbol) → In x (symbols m) → is_output x.role ≡ true → (k : Name) → In k (symbol_names x) → sure (sets_output k) q (body_bits (frame_of m n vars) m.step.body) ≡ true
output_sure m n vars e q h x i output k j =
    let body = body_bits (frame_of m n []) m.step.body in
    body_same (sets_output k) (output_blind k) q m n vars [] m.step.body
    ∙ always_each (length m.states.states) (sets_output k) body q
    (assigned_each (λ r. always (length m.states.states) (sets_output r) body) (symbols m) (of_else (first_of (left_out_at (length m.states.states) body) (symbols m)) (next_left_out m n body) e).0 x i output k j) h

-- one state more passes
pub always_step : (p : ℕ → Bool) (k n : ℕ) → k < n → p k ≡ true → list_all p (rising k (n - k)) ≡ list_all p (rising (k + 1) (n - (k + 1)))
always_step p k n h e =
    let more : n - k ≡ suc (n - (k + 1)) = omega arith in
    ap (λ (j : ℕ). list_all p (rising k j)) more ∙ ap (λ b. b && list_all p (rising (k + 1) (n - (k + 1)))) e

-- what is left out hangs on no port bits

all_same : (p q : ℕ → Bool) (ks : List ℕ) → ((k : ℕ) → p k ≡ q k) → list_all p ks ≡ list_all q ks
all_same p q [] h = refl
all_same p q (k ∷ ks) h = ap (λ b. b && list_all p ks) (h k) ∙ ap (λ b. q k && b) (all_same p q ks h)

always_same : (sets : s.Assignment → Bool) → Blind sets → (count : ℕ) (m : MachineTree) (n : Named) (us vs : List Name) → always count sets (body_bits (frame_of m n us) m.step.body) ≡ always count sets (body_bits (frame_of m n vs) m.step.body)
always_same sets blind count m n us vs =
    all_same (λ q. sure sets q (body_bits (frame_of m n us) m.step.body)) (λ q. sure sets q (body_bits (frame_of m n vs) m.step.body)) (rising 0 count) (λ q. body_same sets blind q m n us vs m.step.body)

pub over_any : (m : MachineTree) (n : Named) (us vs : List Name) → left_out_of m n (body_bits (frame_of m n us) m.step.body) ≡ left_out_of m n (body_bits (frame_of m n vs) m.step.body)
over_any m n us vs =
    let count = length m.states.states in
    let a = body_bits (frame_of m n us) m.step.body in
    let b = body_bits (frame_of m n vs) m.step.body in
    ap (λ (o : Option NameFault). or_else o (next_left_out m n a))
    (first_agree (left_out_at count a) (left_out_at count b) (symbols m) (λ x i. unassigned_agree (λ (k : Name). always count (sets_output k) a) (λ (k : Name). always count (sets_output k) b) x (λ k j. always_same (sets_output k) (output_blind k) count m n us vs)))
    ∙ ap (λ t. or_else (first_of (left_out_at count b) (symbols m)) (cond {A = Option NameFault} t None (Some (record { line = m.signals.line; name = scalar n.next })))) (always_same sets_next next_blind count m n us vs)
