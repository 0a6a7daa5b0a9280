-- Values of expressions on all vectors of six bits, bit by bit.
use Rattle.std.proofs.Common.{◌≡◌, ◌≢◌, ℕ, ◌+◌, ◌≤◌, Bool, true, false, List, length, nat_eq, refl, sym, ap, ◌∙◌, arith}
use Rattle.std.specs.Prelude.{slice_set}
use Rattle.std.proofs.lemmas.List.{get_or-set_same, get_or-set_other}
use Rattle.std.proofs.lemmas.Bool.{eqb-true, eq-eqb}
use Rattle.bool_expr.specs.Expression.{Expression, constant, variable, inverse, pair, choice, bit, val, IsOver}
use Rattle.machine_core.proofs.Values.{val-agrees}
use Rattle.machine_core.proofs.Known.{IsOver-In}
use Rattle.cell_model.specs.Cell.{Function, gate, flip_flop, other, opaque, Cell, cell_inputs}
use Rattle.cell_model.specs.Library.{IsPlain, IsUsable}
use Rattle.loon_buffer.specs.Drives.{Agrees, HaveSameValues, IsNarrow}

pub over_more : (e : Expression) (n m : ℕ) → n ≤ m → IsOver e n → IsOver e m
over_more (constant b) n m l over = tt
over_more (variable k) n m l over = omega (arith, l, over)
over_more (inverse e) n m l over = over_more e n m l over
over_more (pair g a b) n m l over = (over_more a n m l over.0, over_more b n m l over.1)
over_more (choice c a b) n m l over = (over_more c n m l over.0, (over_more a n m l over.1.0, over_more b n m l over.1.1))

-- where all bits are known
one_vector : (e : Expression) → IsOver e 6 → (w bits : List Bool) → Agrees w bits 0 → val e w ≡ val e bits
one_vector e over w bits agrees = val-agrees e w bits (λ k i. agrees k (omega arith) (IsOver-In e 6 over k i))

pub known_same : (e x : Expression) → IsOver e 6 → IsOver x 6 → (bits : List Bool) → val e bits ≡ val x bits → HaveSameValues e x bits 0
known_same e x over narrower bits same w agrees = one_vector x narrower w bits agrees ∙ sym same ∙ sym (one_vector e over w bits agrees)

pub known_here : (e x : Expression) (bits : List Bool) (known : ℕ) → HaveSameValues e x bits known → val e bits ≡ val x bits
known_here e x bits known same = sym (same bits (λ k l m. refl))

-- one more bit is known
module _ (e x : Expression) (bits : List Bool) (known next : ℕ) (is : known ≡ next + 1) (within : known ≤ 6) (many : length bits ≡ 6) where
  past : (b : Bool) (k : ℕ) → known ≤ k → bit (slice_set bits next b) k ≡ bit bits k
  past b k l = get_or-set_other bits next k b false (λ q. absurd (omega (arith, is, l, q)))

  here : (b : Bool) → bit (slice_set bits next b) next ≡ b
  here b = get_or-set_same bits next b false (omega (arith, is, within, many))

  pub less_known : (b : Bool) → HaveSameValues e x bits known → HaveSameValues e x (slice_set bits next b) next
  less_known b same w agrees = same w (λ k l m. agrees k (omega (arith, l, is)) m ∙ past b k l)

  agrees_next : (b : Bool) (w : List Bool) → Agrees w bits known → bit w next ≡ b → Agrees w (slice_set bits next b) next
  agrees_next b w agrees q k l m = by (nat_eq k next) refl where
    by : (t : Bool) → nat_eq k next ≡ t → bit w k ≡ bit (slice_set bits next b) k
    by true t =
        let same : k ≡ next = eqb-true k next t in
        ap (λ j. bit w j) same ∙ q ∙ sym (here b) ∙ ap (λ j. bit (slice_set bits next b) j) (sym same)
    by false t =
        let apart : k ≢ next = λ p. (let no : true ≡ false = sym (eq-eqb k next p) ∙ t in absurd cc) in
        let more : known ≤ k = omega (arith, is, l, apart) in
        agrees k more m ∙ sym (past b k more)

  pub both_known : HaveSameValues e x (slice_set bits next false) next → HaveSameValues e x (slice_set bits next true) next → HaveSameValues e x bits known
  both_known low high w agrees = by (bit w next) refl where
    by : (b : Bool) → bit w next ≡ b → val x w ≡ val e w
    by false q = low w (agrees_next false w agrees q)
    by true q = high w (agrees_next true w agrees q)

-- ---- cells

narrow_function : (c : Cell) (f : Function) → IsPlain c f → IsNarrow f
narrow_function c (gate e) h = over_more e (length (cell_inputs c)) 6 h.1 h.2
narrow_function c (flip_flop d k) h = tt
narrow_function c (other m) h = tt
narrow_function c opaque h = tt

pub narrow : (c : Cell) → IsUsable c → IsNarrow c.function
narrow c usable = narrow_function c c.function usable.function
