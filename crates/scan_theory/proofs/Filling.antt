-- Bits of classes that go on over gates, each of which reads what stands before it.
use Rattle.std.proofs.Common.{◌≡◌, ◌≢◌, ℕ, suc, ◌+◌, ◌<◌, ◌≤◌, Bool, true, false, not, ◌&&◌, List, [], ◌∷◌, length, map, nat_eq, refl, sym, ap, ◌∙◌, subst, arith, if◌then◌else◌}
use Rattle.std.specs.Prelude.{nat_lt}
use Rattle.std.proofs.lemmas.Bool.{cond-true, cond-false, eq-eqb, ne_eqb}
use Rattle.std.proofs.lemmas.Bool.Decides.{nat_tests}
use Rattle.vlsi_base.specs.declared.name.Name.{Name}
use Rattle.vlsi_base.specs.Member.{In, here, there, AllDifferent}
use Rattle.bool_expr.specs.Expression.{val}
use Rattle.machine_core.specs.Named.{is_same_name}
use Rattle.machine_core.proofs.Names.{same_name-itself, same_name-false}
use Rattle.cell_model.specs.Cell.{Function, gate, flip_flop, other, opaque}
use Rattle.net_core.specs.Netlist.{Netlist}
use Rattle.scan_theory.specs.Gates.{Gate, read_class}
use Rattle.scan_theory.specs.Scan.{shown}
use Rattle.scan_theory.proofs.Chain.{Climbs}

-- what a gate's cell makes of bits
abbrev pub value_by : Function → List Bool → Bool
value_by (gate e) bits = val e bits
value_by (flip_flop d k) bits = false
value_by (other m) bits = false
value_by opaque bits = false

abbrev pub put : ℕ → Bool → (ℕ → Bool) → ℕ → Bool
put k v f x = if nat_eq x k then v else f x

abbrev pub filled : (ℕ → Bool) → List Gate → ℕ → Bool
filled f [] = f
filled f (g ∷ gs) = filled (put g.shows (value_by g.cell.function (map f g.reads)) f) gs

put_there : (k : ℕ) (v : Bool) (f : ℕ → Bool) → put k v f k ≡ v
put_there k v f = cond-true (nat_eq k k) v (f k) (eq-eqb k k refl)

put_elsewhere : (k : ℕ) (v : Bool) (f : ℕ → Bool) (x : ℕ) → x ≢ k → put k v f x ≡ f x
put_elsewhere k v f x apart = cond-false (nat_eq x k) v (f x) (ne_eqb x k apart)

pub filled_low : (n : Netlist) (b : ℕ) (gs : List Gate) (f : ℕ → Bool) → Climbs n b gs → (k : ℕ) → k < shown n b → filled f gs k ≡ f k
filled_low n b [] f climbs k low = refl
filled_low n b (g ∷ gs) f (m, least, named, shows, reads, rest) k low =
    filled_low n (suc m) gs (put g.shows (value_by g.cell.function (map f g.reads)) f) rest k (omega (arith, low, least))
    ∙ put_elsewhere g.shows (value_by g.cell.function (map f g.reads)) f k (λ e. omega (arith, low, least, shows, e))

map_same : (f g : ℕ → Bool) (xs : List ℕ) → ((x : ℕ) → In x xs → f x ≡ g x) → map f xs ≡ map g xs
map_same f g [] each = refl
map_same f g (x ∷ xs) each =
    ap (λ (y : Bool). y ∷ map f xs) (each x here) ∙ ap (λ (ys : List Bool). g x ∷ ys) (map_same f g xs (λ y h. each y (there h)))

pub filled_value : (n : Netlist) (b : ℕ) (gs : List Gate) (f : ℕ → Bool) → Climbs n b gs → (g : Gate) → In g gs
    → filled f gs g.shows ≡ value_by g.cell.function (map (filled f gs) g.reads)
filled_value n b [] f climbs g h = elim h [ ]
filled_value n b (x ∷ gs) f (m, least, named, shows, reads, rest) g (there h) =
    filled_value n (suc m) gs (put x.shows (value_by x.cell.function (map f x.reads)) f) rest g h
filled_value n b (g ∷ gs) f (m, least, named, shows, reads, rest) _ here =
    filled_low n (suc m) gs next rest g.shows (omega (arith, shows))
    ∙ put_there g.shows v f
    ∙ ap (value_by g.cell.function) (map_same f (filled next gs) g.reads (λ c c_in.
    let low = reads c c_in in
    sym (filled_low n (suc m) gs next rest c (omega (arith, low, shows)) ∙ put_elsewhere g.shows v f c (λ e. omega (arith, low, e))))) where
      v : Bool
      v = value_by g.cell.function (map f g.reads)

      next : ℕ → Bool
      next = put g.shows v f

-- ---- what the names of inputs read

pub reads_are : (ps : List Name) (reads : List ℕ) (shown : ℕ) → AllDifferent ps → length reads ≡ length ps → map (λ p. read_class ps reads shown p) ps ≡ reads
reads_are [] [] shown d many = refl
reads_are [] (k ∷ reads) shown d many = absurd (omega (arith, many))
reads_are (p ∷ ps) [] shown d many = absurd (omega (arith, many))
reads_are (p ∷ ps) (k ∷ reads) shown d many =
    ap (λ (x : ℕ). x ∷ map (λ y. read_class (p ∷ ps) (k ∷ reads) shown y) ps) (cond-true (is_same_name p p) k (read_class ps reads shown p) (same_name-itself p))
    ∙ ap (λ (xs : List ℕ). k ∷ xs) (tails ps (λ y h. h) ∙ reads_are ps reads shown d.1 (omega (arith, many))) where
      tails : (ys : List Name) → ((y : Name) → In y ys → In y ps) → map (λ y. read_class (p ∷ ps) (k ∷ reads) shown y) ys ≡ map (λ y. read_class ps reads shown y) ys
      tails [] inside = refl
      tails (y ∷ ys) inside =
          ap (λ (x : ℕ). x ∷ map (λ z. read_class (p ∷ ps) (k ∷ reads) shown z) ys)
          (cond-false (is_same_name p y) k (read_class ps reads shown y) (same_name-false p y (λ e. d.0 (subst (λ (z : Name). In z ps) (sym e) (inside y here)))))
          ∙ ap (λ (xs : List ℕ). read_class ps reads shown y ∷ xs) (tails ys (λ z h. inside z (there h)))

-- ---- a multiplexer of nands

pub twice_not : (a : Bool) → not (not a) ≡ a
twice_not true = refl
twice_not false = refl

pub multiplexed : (t a d : Bool) → not (not (t && a) && not (not t && d)) ≡ (if t then a else d)
multiplexed true true true = refl
multiplexed true true false = refl
multiplexed true false true = refl
multiplexed true false false = refl
multiplexed false true true = refl
multiplexed false true false = refl
multiplexed false false true = refl
multiplexed false false false = refl

-- ---- where to begin

-- the bits of the given classes, then those of scin and test, and of the supplies that are missing
abbrev pub start : Netlist → (ℕ → Bool) → Bool → Bool → ℕ → Bool
start n old a b k =
    if nat_lt k n.count then old k
    else if nat_eq k n.count then a
    else if nat_eq k (n.count + 1) then b
    else if nat_eq k (n.count + 2) then true
    else false

lt_true : (a b : ℕ) → a < b → nat_lt a b ≡ true
lt_true a b l = grind (arith, nat_tests)

lt_false : (a b : ℕ) → b ≤ a → nat_lt a b ≡ false
lt_false a b l = grind (arith, nat_tests)

module _ (n : Netlist) (old : ℕ → Bool) (a b : Bool) where
  abbrev at_vss : ℕ → Bool
  at_vss k = if nat_eq k (n.count + 2) then true else false

  abbrev at_test : ℕ → Bool
  at_test k = if nat_eq k (n.count + 1) then b else at_vss k

  abbrev at_scin : ℕ → Bool
  at_scin k = if nat_eq k n.count then a else at_test k

  pub start_old : (k : ℕ) → k < n.count → start n old a b k ≡ old k
  start_old k low = cond-true (nat_lt k n.count) (old k) (at_scin k) (lt_true k n.count low)

  pub start_scin : start n old a b n.count ≡ a
  start_scin = cond-false (nat_lt n.count n.count) (old n.count) (at_scin n.count) (lt_false n.count n.count (omega arith))
      ∙ cond-true (nat_eq n.count n.count) a (at_test n.count) (eq-eqb n.count n.count refl)

  behind : (k : ℕ) → n.count < k → start n old a b k ≡ at_test k
  behind k high = cond-false (nat_lt k n.count) (old k) (at_scin k) (lt_false k n.count (omega (arith, high)))
      ∙ cond-false (nat_eq k n.count) a (at_test k) (ne_eqb k n.count (λ e. omega (arith, high, e)))

  pub start_test : start n old a b (n.count + 1) ≡ b
  start_test = behind (n.count + 1) (omega arith) ∙ cond-true (nat_eq (n.count + 1) (n.count + 1)) b (at_vss (n.count + 1)) (eq-eqb (n.count + 1) (n.count + 1) refl)

  pub start_vdd : start n old a b (n.count + 2) ≡ true
  start_vdd = behind (n.count + 2) (omega arith)
      ∙ cond-false (nat_eq (n.count + 2) (n.count + 1)) b (at_vss (n.count + 2)) (ne_eqb (n.count + 2) (n.count + 1) (λ e. omega (arith, e)))
      ∙ cond-true (nat_eq (n.count + 2) (n.count + 2)) true false (eq-eqb (n.count + 2) (n.count + 2) refl)

  pub start_vss : start n old a b (n.count + 3) ≡ false
  start_vss = behind (n.count + 3) (omega arith)
      ∙ cond-false (nat_eq (n.count + 3) (n.count + 1)) b (at_vss (n.count + 3)) (ne_eqb (n.count + 3) (n.count + 1) (λ e. omega (arith, e)))
      ∙ cond-false (nat_eq (n.count + 3) (n.count + 2)) true false (ne_eqb (n.count + 3) (n.count + 2) (λ e. omega (arith, e)))
