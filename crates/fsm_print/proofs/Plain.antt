-- The expressions of a text of a state machine have no choice.
use Rattle.std.proofs.Common.{ℕ, zero, suc, ◌+◌, ◌/◌, Bool, true, false, cond, List, [], ◌∷◌, map, length, take, drop, bytes_eq, codes, Some}
use Rattle.vlsi_base.specs.declared.name.Name.{Name}
use Rattle.vlsi_base.specs.declared.expression.Operator.{Operator}
use Rattle.vlsi_base.specs.declared.expression.Operator.TheVariants as operator
use Rattle.vlsi_base.specs.Tree.{Tree, bit, literal, name, index, slice, stable, inverse, binary}
use Rattle.bool_expr.specs.declared.expr.Gate.{Gate}
use Rattle.bool_expr.specs.declared.expr.Gate.TheVariants as gate
use Rattle.source_checks.specs.declared.symbol_table.Symbol.{Symbol}
use Rattle.source_checks.specs.Symbols.{find, names_in, bit_name}
use Rattle.source_checks.specs.Formula.{Formula, fixed, named, opposite, joined, chosen, literal_bits, leaf, each_pair, equal_within, equal_bits, unequal_bits, operator_bits, names_of_found, formulas, first_bit, numbered}
use Rattle.source_checks.specs.Drivers.{target_names}
use Rattle.fsm_machine.specs.Statements as s
use Rattle.fsm_text.specs.Written.{StatementTree, asserted, assigned, chosen as chooses, selected, BodyTree, finish, next, PartsTree, only, either, further, BranchesTree, closed, others, listed}
use Rattle.fsm_io.specs.Elaboration.{Frame, next_number, assign_bits, condition_of, body_bits, statement_bits, parts_bits, branches_bits}
use Rattle.vbe_writable.proofs.Saying.{Every, every_append}
use Rattle.fsm_print.specs.Writable.{IsPlain, IsPlainBody, ArePlainParts, ArePlainBranches}

-- a formula without a choice
abbrev NoChoice : Formula → Type 0
NoChoice (fixed b) = Unit {0}
NoChoice (named n) = Unit {0}
NoChoice (opposite f) = NoChoice f
NoChoice (joined g a b) = NoChoice a × NoChoice b
NoChoice (chosen c a b) = ⊥

plain_numbered : (vars : List Name) (f : Formula) → NoChoice f → IsPlain (numbered vars f)
plain_numbered vars (fixed b) h = tt
plain_numbered vars (named n) h = tt
plain_numbered vars (opposite f) h = plain_numbered vars f h
plain_numbered vars (joined g a b) h = (plain_numbered vars a h.0, plain_numbered vars b h.1)
plain_numbered vars (chosen c a b) h = absurd h

plain_leaf : (n : Name) → NoChoice (leaf n)
plain_leaf n = by (bytes_eq n.text (codes "vdd")) (bytes_eq n.text (codes "vss")) where
  by : (p q : Bool) → NoChoice (cond p (fixed true) (cond q (fixed false) (named n)))
  by true q = tt
  by false true = tt
  by false false = tt

leaves : (ns : List Name) → Every NoChoice (map leaf ns)
leaves [] = tt
leaves (n ∷ ns) = (plain_leaf n, leaves ns)

bits : (bs : List Bool) → Every NoChoice (map fixed bs)
bits [] = tt
bits (b ∷ bs) = (tt, bits bs)

opposites : (fs : List Formula) → Every NoChoice fs → Every NoChoice (map opposite fs)
opposites [] h = tt
opposites (f ∷ fs) h = (h.0, opposites fs h.1)

pairs : (g : Gate) (xs ys : List Formula) → Every NoChoice xs → Every NoChoice ys → Every NoChoice (each_pair (joined g) xs ys)
pairs g [] ys h k = tt
pairs g (x ∷ xs) [] h k = tt
pairs g (x ∷ xs) (y ∷ ys) h k = ((h.0, k.0), pairs g xs ys h.1 k.1)

first_ones : (n : ℕ) (xs : List Formula) → Every NoChoice xs → Every NoChoice (take n xs)
first_ones zero xs h = tt
first_ones (suc n) [] h = tt
first_ones (suc n) (x ∷ xs) h = (h.0, first_ones n xs h.1)

last_ones : (n : ℕ) (xs : List Formula) → Every NoChoice xs → Every NoChoice (drop n xs)
last_ones zero xs h = h
last_ones (suc n) [] h = tt
last_ones (suc n) (x ∷ xs) h = last_ones n xs h.1

plain_equal : (bound : ℕ) (xs : List Formula) → Every NoChoice xs → NoChoice (equal_within bound xs)
plain_equal bound [] h = tt
plain_equal bound (x ∷ []) h = h.0
plain_equal zero (x ∷ y ∷ rest) h = h.0
plain_equal (suc bound) (x ∷ y ∷ rest) h =
    let all = x ∷ y ∷ rest in
    let half = (length all + 1) / 2 in
    (plain_equal bound (take half all) (first_ones half all h), plain_equal bound (drop half all) (last_ones half all h))

plain_equal_bits : (xs ys : List Formula) → Every NoChoice xs → Every NoChoice ys → NoChoice (equal_bits xs ys)
plain_equal_bits xs ys h k = plain_equal (length xs) (each_pair (joined gate.Xnor) xs ys) (pairs gate.Xnor xs ys h k)

plain_unequal_bits : (xs ys : List Formula) → Every NoChoice xs → Every NoChoice ys → NoChoice (unequal_bits xs ys)
plain_unequal_bits [] ys h k = plain_equal_bits [] ys h k
plain_unequal_bits (x ∷ []) [] h k = plain_equal_bits (x ∷ []) [] h k
plain_unequal_bits (x ∷ []) (y ∷ []) h k = (h.0, k.0)
plain_unequal_bits (x ∷ []) (y ∷ z ∷ ys) h k = plain_equal_bits (x ∷ []) (y ∷ z ∷ ys) h k
plain_unequal_bits (x ∷ w ∷ xs) ys h k = plain_equal_bits (x ∷ w ∷ xs) ys h k

plain_operator : (op : Operator) (xs ys : List Formula) → Every NoChoice xs → Every NoChoice ys → Every NoChoice (operator_bits op xs ys)
plain_operator operator.And xs ys h k = pairs gate.And xs ys h k
plain_operator operator.Or xs ys h k = pairs gate.Or xs ys h k
plain_operator operator.Xor xs ys h k = pairs gate.Xor xs ys h k
plain_operator operator.Xnor xs ys h k = pairs gate.Xnor xs ys h k
plain_operator operator.Nand xs ys h k = pairs gate.Nand xs ys h k
plain_operator operator.Nor xs ys h k = pairs gate.Nor xs ys h k
plain_operator operator.Join xs ys h k = every_append NoChoice xs ys h k
plain_operator operator.Equal xs ys h k = (plain_equal_bits xs ys h k, tt)
plain_operator operator.Unequal xs ys h k = (plain_unequal_bits xs ys h k, tt)

plain_formulas : (known : List Symbol) (e : Tree) → Every NoChoice (formulas known e)
plain_formulas known (bit b line) = (tt, tt)
plain_formulas known (literal r digits line) = bits (literal_bits r digits)
plain_formulas known (name text line) = leaves (names_of_found (find known text))
plain_formulas known (index text line k) = (plain_leaf (bit_name text k), tt)
plain_formulas known (slice text line range) = leaves (names_in text (Some range))
plain_formulas known (stable text line) = (tt, tt)
plain_formulas known (inverse line e) = opposites (formulas known e) (plain_formulas known e)
plain_formulas known (binary op line a b) = plain_operator op (formulas known a) (formulas known b) (plain_formulas known a) (plain_formulas known b)

plain_first : (fs : List Formula) → Every NoChoice fs → NoChoice (first_bit fs)
plain_first [] h = tt
plain_first (f ∷ fs) h = h.0

plain_condition : (fr : Frame) (c : Tree) → IsPlain (condition_of fr c)
plain_condition fr c = plain_numbered fr.vars (first_bit (formulas fr.known c)) (plain_first (formulas fr.known c) (plain_formulas fr.known c))

plain_assigned : (vars ns : List Name) (fs : List Formula) (rest : s.Statements) → Every NoChoice fs → IsPlainBody rest → IsPlainBody (assign_bits vars ns fs rest)
plain_assigned vars [] fs rest h k = k
plain_assigned vars (n ∷ ns) [] rest h k = k
plain_assigned vars (n ∷ ns) (f ∷ fs) rest h k = (plain_numbered vars f h.0, plain_assigned vars ns fs rest h.1 k)

mutual
  pub plain_body : (fr : Frame) (b : BodyTree) → IsPlainBody (body_bits fr b)
  plain_body fr finish = tt
  plain_body fr (next st rest) = plain_statement fr st (body_bits fr rest) (plain_body fr rest)

  plain_statement : (fr : Frame) (st : StatementTree) (rest : s.Statements) → IsPlainBody rest → IsPlainBody (statement_bits fr st rest)
  plain_statement fr (asserted e) rest k = k
  plain_statement fr (assigned t line e) rest k = by (bytes_eq t.name fr.next) where
    by : (b : Bool) → IsPlainBody (cond b (s.assign (s.next (next_number fr.states e)) rest) (assign_bits fr.vars (target_names fr.known t) (formulas fr.known e) rest))
    by true = (tt, k)
    by false = plain_assigned fr.vars (target_names fr.known t) (formulas fr.known e) rest (plain_formulas fr.known e) k
  plain_statement fr (chooses parts) rest k = (plain_parts fr parts, k)
  plain_statement fr (selected line called branches) rest k = (plain_branches fr branches, k)

  plain_parts : (fr : Frame) (ps : PartsTree) → ArePlainParts (parts_bits fr ps)
  plain_parts fr (only line c a) = (plain_condition fr c, plain_body fr a)
  plain_parts fr (either line c a b) = (plain_condition fr c, (plain_body fr a, plain_body fr b))
  plain_parts fr (further line c a more) = (plain_condition fr c, (plain_body fr a, plain_parts fr more))

  plain_branches : (fr : Frame) (bs : BranchesTree) → ArePlainBranches (branches_bits fr bs)
  plain_branches fr closed = tt
  plain_branches fr (others a) = plain_body fr a
  plain_branches fr (listed names a more) = (plain_body fr a, plain_branches fr more)
