-- Choices as expressions: their values, their sizes and what they read.
use Rattle.std.proofs.Common.{◌≡◌, ℕ, zero, suc, ◌+◌, ◌*◌, ◌<◌, ◌≤◌, Bool, true, false, not, ◌&&◌, List, [], ◌∷◌, ◌++◌, length, refl, sym, ap, ◌∙◌, arith, length-append, if◌then◌else◌}
use Rattle.std.specs.List.{fold}
use Rattle.bool_expr.specs.Expression.{Expression, bit, val, size_of, IsOver}
use Rattle.machine_core.specs.Built.{built}
use Rattle.machine_core.specs.Order.{EachReadsBelow}
use Rattle.boom_literal.specs.declared.literal.Literal.{Literal}
use Rattle.boom_literal.specs.declared.literal.Literal.TheVariants.{Constant, Name}
use Rattle.boom_muxes.specs.declared.mux.Mux.{Mux}
use Rattle.boom_literal.specs.Literals.{literal_expression}
use Rattle.boom_muxes.specs.Muxes.{literal_value, mux_value, chosen, mux_expression, weight_of, mux_weight, IsLiteralBelow, EachIsBelow, mux_values, muxes_weight}
use Rattle.boom_muxes.specs.Building.{mux_equations}

-- ---- one choice

literal_size : (l : Literal) → size_of (literal_expression l) ≡ 0
literal_size (Constant b) = refl
literal_size (Name k) = refl

by_bit : (x y : Bool) → (if x then y else false) ≡ (x && y)
by_bit true y = refl
by_bit false y = refl

pub chosen_value : (s : ℕ) (l h : Literal) (w : List Bool) → val (chosen s l h) w ≡ (if bit w s then literal_value h w else literal_value l w)
chosen_value s l h w = by l h (bit w s) refl where
  twice : (b : Bool) → not (true && not b) ≡ b
  twice true = refl
  twice false = refl

  -- each form by the bit of the selecting name; the values of the two sides stay open
  by : (l h : Literal) (x : Bool) → bit w s ≡ x → val (chosen s l h) w ≡ (if x then literal_value h w else literal_value l w)
  by (Constant false) (Constant true) true e = e
  by (Constant false) (Constant true) false e = e
  by (Constant true) (Constant false) true e = rw e refl
  by (Constant true) (Constant false) false e = rw e refl
  by (Constant false) (Constant false) true e = rw e refl
  by (Constant false) (Constant false) false e = rw e refl
  by (Constant false) (Name k) true e = rw e refl
  by (Constant false) (Name k) false e = rw e refl
  by (Constant true) (Constant true) true e = rw e refl
  by (Constant true) (Constant true) false e = rw e refl
  by (Constant true) (Name k) true e = rw e (twice (bit w k))
  by (Constant true) (Name k) false e = rw e refl
  by (Name j) (Constant true) true e = rw e refl
  by (Name j) (Constant true) false e = rw e refl
  by (Name j) (Constant false) true e = rw e refl
  by (Name j) (Constant false) false e = rw e refl
  by (Name j) (Name k) true e = rw e refl
  by (Name j) (Name k) false e = rw e refl

pub mux_value_is : (x : Mux) (w : List Bool) → val (mux_expression x) w ≡ mux_value x w
mux_value_is x w = chosen_value x.select x.low x.high w

pub chosen_size : (s : ℕ) (l h : Literal) → size_of (chosen s l h) ≡ weight_of l h
chosen_size s (Constant false) (Constant true) = refl
chosen_size s (Constant true) (Constant false) = refl
chosen_size s (Constant false) (Constant false) = refl
chosen_size s (Constant false) (Name k) = refl
chosen_size s (Constant true) (Constant true) = refl
chosen_size s (Constant true) (Name k) = refl
chosen_size s (Name j) (Constant true) = refl
chosen_size s (Name j) (Constant false) = refl
chosen_size s (Name j) (Name k) = refl

pub weight_most : (l h : Literal) → weight_of l h ≤ 4
weight_most (Constant false) (Constant true) = omega arith
weight_most (Constant true) (Constant false) = omega arith
weight_most (Constant false) (Constant false) = omega arith
weight_most (Constant false) (Name k) = omega arith
weight_most (Constant true) (Constant true) = omega arith
weight_most (Constant true) (Name k) = omega arith
weight_most (Name j) (Constant true) = omega arith
weight_most (Name j) (Constant false) = omega arith
weight_most (Name j) (Name k) = omega arith

pub chosen_over : (n s : ℕ) (l h : Literal) → s < n → IsLiteralBelow n l → IsLiteralBelow n h → IsOver (chosen s l h) n
chosen_over n s (Constant false) (Constant true) a b c = a
chosen_over n s (Constant true) (Constant false) a b c = a
chosen_over n s (Constant false) (Constant false) a b c = (a, tt)
chosen_over n s (Constant false) (Name k) a b c = (a, c)
chosen_over n s (Constant true) (Constant true) a b c = (a, tt)
chosen_over n s (Constant true) (Name k) a b c = (a, c)
chosen_over n s (Name j) (Constant true) a b c = (a, b)
chosen_over n s (Name j) (Constant false) a b c = (a, b)
chosen_over n s (Name j) (Name k) a b c = (a, (c, b))

-- a literal of size 0 in place of what weighs something
pub literal_smaller : (l : Literal) (e : Expression) → 0 < size_of e → size_of (literal_expression l) < size_of e
literal_smaller l e more = let z = literal_size l in omega (arith, z, more)

-- ---- choices one behind the other

-- what choices give is what their equations are built to
pub mux_built : (text : List ℕ) (k : ℕ) (xs : List Mux) (w : List Bool) → built w (mux_equations text k xs) ≡ mux_values w xs
mux_built text k [] w = refl
mux_built text k (x ∷ xs) w =
    mux_built text (suc k) xs (w ++ val (mux_expression x) w ∷ []) ∙ ap (λ (b : Bool). mux_values (w ++ b ∷ []) xs) (mux_value_is x w)

pub length-mux_values : (xs : List Mux) (w : List Bool) → length (mux_values w xs) ≡ length w + length xs
length-mux_values [] w = omega arith
length-mux_values (x ∷ xs) w =
    let n = length-mux_values xs (w ++ mux_value x w ∷ []) in
    let l = length-append w (mux_value x w ∷ []) in
    omega (arith, n, l)

pub mux_values-append : (xs ys : List Mux) (w : List Bool) → mux_values w (xs ++ ys) ≡ mux_values (mux_values w xs) ys
mux_values-append [] ys w = refl
mux_values-append (x ∷ xs) ys w = mux_values-append xs ys (w ++ mux_value x w ∷ [])

bit-front : (front rest : List Bool) (k : ℕ) → k < length front → bit (front ++ rest) k ≡ bit front k
bit-front [] rest k h = absurd (omega arith)
bit-front (b ∷ front) rest zero h = refl
bit-front (b ∷ front) rest (suc k) h = bit-front front rest k (omega arith)

-- what is known keeps its bits
pub bit-mux_values : (xs : List Mux) (w : List Bool) (k : ℕ) → k < length w → bit (mux_values w xs) k ≡ bit w k
bit-mux_values [] w k h = refl
bit-mux_values (x ∷ xs) w k h =
    let l = length-append w (mux_value x w ∷ []) in
    bit-mux_values xs (w ++ mux_value x w ∷ []) k (omega (arith, l, h)) ∙ bit-front w (mux_value x w ∷ []) k h

-- so a literal of the names before keeps its value
pub literal_kept : (l : Literal) (xs ys : List Mux) (w : List Bool) → IsLiteralBelow (length w + length xs) l
    → literal_value l (mux_values w (xs ++ ys)) ≡ literal_value l (mux_values w xs)
literal_kept (Constant b) xs ys w h = refl
literal_kept (Name k) xs ys w h =
    ap (λ (v : List Bool). bit v k) (mux_values-append xs ys w)
    ∙ bit-mux_values ys (mux_values w xs) k (let l = length-mux_values xs w in omega (arith, l, h))

bit-last : (front : List Bool) (b : Bool) → bit (front ++ b ∷ []) (length front) ≡ b
bit-last [] b = refl
bit-last (c ∷ front) b = bit-last front b

-- the last one's name has its value
pub bit-last_mux : (xs : List Mux) (x : Mux) (w : List Bool) → bit (mux_values w (xs ++ x ∷ [])) (length w + length xs) ≡ mux_value x (mux_values w xs)
bit-last_mux xs x w =
    ap (λ (v : List Bool). bit v (length w + length xs)) (mux_values-append xs (x ∷ []) w)
    ∙ ap (bit (mux_values w xs ++ mux_value x (mux_values w xs) ∷ [])) (sym (length-mux_values xs w))
    ∙ bit-last (mux_values w xs) (mux_value x (mux_values w xs))

-- each equation reads what is before it
pub muxes_below : (text : List ℕ) (held k n : ℕ) (xs : List Mux) → held ≤ n → EachIsBelow held n xs → EachReadsBelow n (mux_equations text k xs)
muxes_below text held k n [] less h = tt
muxes_below text held k n (x ∷ xs) less h =
    (chosen_over n x.select x.low x.high (omega (arith, h.0, less)) h.1.0 h.1.1.0, muxes_below text held (suc k) (n + 1) xs (omega arith) h.1.1.1)

-- ---- what they weigh together

fold-from : (f : Mux → ℕ) (n : ℕ) (xs : List Mux) → fold (λ (a : ℕ) (x : Mux). a + f x) n xs ≡ n + fold (λ (a : ℕ) (x : Mux). a + f x) 0 xs
fold-from f n [] = omega arith
fold-from f n (x ∷ xs) =
    let a = fold-from f (n + f x) xs in
    let b = fold-from f (0 + f x) xs in
    omega (arith, a, b)

pub weight-push : (xs : List Mux) (x : Mux) → muxes_weight (xs ++ x ∷ []) ≡ muxes_weight xs + mux_weight x
weight-push xs x = by xs 0 where
  by : (xs : List Mux) (n : ℕ) → fold (λ (a : ℕ) (y : Mux). a + mux_weight y) n (xs ++ x ∷ []) ≡ fold (λ (a : ℕ) (y : Mux). a + mux_weight y) n xs + mux_weight x
  by [] n = refl
  by (y ∷ xs) n = by xs (n + mux_weight y)

-- at most four each
pub weight_by_count : (xs : List Mux) → muxes_weight xs ≤ 4 * length xs
weight_by_count [] = omega arith
weight_by_count (x ∷ xs) =
    let a = fold-from mux_weight (0 + mux_weight x) xs in
    let m = weight_most x.low x.high in
    let r = weight_by_count xs in
    omega (arith, a, m, r)
