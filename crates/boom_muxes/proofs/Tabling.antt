-- The table of choices.
use Rattle.std.proofs.Common.{◌≡◌, ◌⊎◌, inl, inr, ℕ, zero, suc, ◌+◌, ◌^◌, ◌<◌, ◌≤◌, Bool, true, false, List, [], ◌∷◌, ◌++◌, length, Some, slice_get, get_or, refl, sym, ap, subst, ◌∙◌, arith, length-append, append-nil, if◌then◌else◌}
use Rattle.std.specs.List.{position}
use Rattle.std.proofs.lemmas.List.Quantifiers.{position-Some}
use Rattle.std.proofs.lemmas.Option.{slice_get-get_or}
use Rattle.bool_expr.specs.Expression.{bit}
use Rattle.boom_literal.specs.declared.literal.Literal.{Literal}
use Rattle.boom_literal.specs.declared.literal.Literal.TheVariants.{Constant, Name}
use Rattle.boom_muxes.specs.declared.mux.Mux.{Mux}
use Rattle.boom_muxes.specs.declared.muxes.Muxes.{Muxes}
use Rattle.boom_muxes.specs.Muxes.{literal_value, mux_value, weight_of, mux_weight, IsLiteralBelow, EachIsBelow, mux_values, muxes_weight, IsTable, IsFurther, HasGrownBy, SaysMux}
use Rattle.boom_muxes.proofs.Weighing.{bit-mux_values, bit-last_mux, weight-push}
use Rattle.boom_muxes.proofs.Same.{mux_eq, mux_same}

literal_at : (n k : ℕ) (l : Literal) → n ≡ k → IsLiteralBelow n l → IsLiteralBelow k l
literal_at n k l e h = subst (λ (i : ℕ). IsLiteralBelow i l) e h

below_push : (held n : ℕ) (xs : List Mux) (x : Mux) → EachIsBelow held n xs → x.select < held → IsLiteralBelow (n + length xs) x.low → IsLiteralBelow (n + length xs) x.high
    → EachIsBelow held n (xs ++ x ∷ [])
below_push held n [] x h s l u = (s, (literal_at (n + 0) n x.low (omega arith) l, (literal_at (n + 0) n x.high (omega arith) u, tt)))
below_push held n (y ∷ xs) x h s l u = (
  h.0,
  (
    h.1.0,
    (h.1.1.0, below_push held (n + 1) xs x h.1.1.1 s (literal_at (n + suc (length xs)) (n + 1 + length xs) x.low (omega arith) l) (literal_at (n + suc (length xs)) (n + 1 + length xs) x.high (omega arith) u)),
  ),
)

-- what the choices weigh is within what was given, and so is their number
pub table_less : (t : Muxes) → IsTable t → t.weight ≤ t.given
table_less t table = by table.less where
  by : (t.weight < t.given) ⊎ (t.nodes.keys ≡ []) → t.weight ≤ t.given
  by (inl less) = omega (arith, less)
  by (inr none) = let w = table.weight in let e = ap muxes_weight none in omega (arith, w, e)

pub table_few : (t : Muxes) → IsTable t → t.held + length t.nodes.keys < 2 ^ 32
table_few t table =
    let l = table_less t table in
    let e = table.each in
    let f = table.few in
    omega (arith, l, e, f)

-- one more choice
module _ (t u : Muxes) (x : Mux) (weight : ℕ) (table : IsTable t) (further : IsFurther t x weight) (held : u.held ≡ t.held) (given : u.given ≡ t.given)
    (weighs : u.weight ≡ weight) (keys : u.nodes.keys ≡ t.nodes.keys ++ x ∷ []) where
  long : length u.nodes.keys ≡ length t.nodes.keys + 1
  long = ap length keys ∙ length-append t.nodes.keys (x ∷ [])

  pub table_pushed : IsTable u
  table_pushed = record {
    below = subst (λ (h : ℕ). EachIsBelow h h u.nodes.keys) (sym held)
        (subst (λ (xs : List Mux). EachIsBelow t.held t.held xs) (sym keys) (below_push t.held t.held t.nodes.keys x table.below further.select further.low further.high));
    weight =
        let a = ap muxes_weight keys in
        let b = weight-push t.nodes.keys x in
        let c = further.weighs in
        let d = table.weight in
        omega (arith, a, b, c, d, weighs);
    each =
        let l = long in
        let own = further.own in
        let c = further.weighs in
        let e = table.each in
        omega (arith, l, own, c, e, weighs);
    less = inl (let l = further.less in omega (arith, l, weighs, given));
    few = let f = table.few in omega (arith, f, held, given);
  }

  pub grown_pushed : HasGrownBy 1 t u
  grown_pushed = record { held = held; given = given; more = x ∷ []; nodes = keys; few = omega arith }

  pub says_pushed : (number : ℕ) → number ≡ t.held + length t.nodes.keys → SaysMux t u x (Name number)
  says_pushed number is = record {
    below = let l = long in omega (arith, l, held, is);
    value = λ w size.
        let at : number ≡ length w + length t.nodes.keys = omega (arith, is, size) in
        ap (λ (xs : List Mux). bit (mux_values w xs) number) keys ∙ ap (bit (mux_values w (t.nodes.keys ++ x ∷ []))) at ∙ bit-last_mux t.nodes.keys x w;
  }

pub grown_not : (t : Muxes) → HasGrownBy 1 t t
grown_not t = record { held = refl; given = refl; more = []; nodes = sym (append-nil t.nodes.keys); few = omega arith }

-- ---- a choice that is there

literal_stays : (l : Literal) (xs : List Mux) (w : List Bool) → IsLiteralBelow (length w) l → literal_value l (mux_values w xs) ≡ literal_value l w
literal_stays (Constant b) xs w h = refl
literal_stays (Name k) xs w h = bit-mux_values xs w k h

pub chosen_same : (x y a b c d : Bool) → x ≡ y → a ≡ c → b ≡ d → (if x then a else b) ≡ (if y then c else d)
chosen_same x y a b c d p q r = λ j. if p j then q j else r j

mux_stays : (x : Mux) (xs : List Mux) (w : List Bool) → x.select < length w → IsLiteralBelow (length w) x.low → IsLiteralBelow (length w) x.high
    → mux_value x (mux_values w xs) ≡ mux_value x w
mux_stays x xs w s l h =
    chosen_same (bit (mux_values w xs) x.select) (bit w x.select) (literal_value x.high (mux_values w xs)) (literal_value x.low (mux_values w xs)) (literal_value x.high w) (literal_value x.low w)
    (bit-mux_values xs w x.select s) (literal_stays x.high xs w h) (literal_stays x.low xs w l)

bit-end : (front : List Bool) (b : Bool) → bit (front ++ b ∷ []) (length front) ≡ b
bit-end [] b = refl
bit-end (c ∷ front) b = bit-end front b

pub mux_at : (held n : ℕ) (xs : List Mux) (w : List Bool) → held ≤ n → length w ≡ n → EachIsBelow held n xs → (i : ℕ) (x : Mux) → slice_get xs i ≡ Some x
    → bit (mux_values w xs) (n + i) ≡ mux_value x (mux_values w xs)
mux_at held n [] w less long h i x is = absurd (cc is)
mux_at held n (y ∷ xs) w less long h zero x is =
    let same : y ≡ x = cc is in
    let l = length-append w (mux_value y w ∷ []) in
    ap (bit (mux_values w (y ∷ xs))) (let e : n + zero ≡ length w = omega (arith, long) in e)
    ∙ bit-mux_values xs (w ++ mux_value y w ∷ []) (length w) (omega (arith, l))
    ∙ bit-end w (mux_value y w)
    ∙ sym (mux_stays y (y ∷ xs) w (let s = h.0 in omega (arith, s, less, long)) (literal_at n (length w) y.low (sym long) h.1.0) (literal_at n (length w) y.high (sym long) h.1.1.0))
    ∙ ap (λ (z : Mux). mux_value z (mux_values w (y ∷ xs))) same
mux_at held n (y ∷ xs) w less long h (suc i) x is =
    let l = length-append w (mux_value y w ∷ []) in
    ap (bit (mux_values w (y ∷ xs))) (let e : n + suc i ≡ n + 1 + i = omega arith in e)
    ∙ mux_at held (n + 1) xs (w ++ mux_value y w ∷ []) (omega (arith, less)) (omega (arith, l, long)) h.1.1.1 i x is

pub says_found : (t : Muxes) (x : Mux) (i number : ℕ) → IsTable t → slice_get t.nodes.keys i ≡ Some x → i < length t.nodes.keys → number ≡ t.held + i → SaysMux t t x (Name number)
says_found t x i number table at within is = record {
  below = omega (arith, within, is);
  value = λ w size. ap (bit (mux_values w t.nodes.keys)) is ∙ mux_at t.held t.held t.nodes.keys w (omega arith) size table.below i x at;
}

-- ---- a choice that is a name alone

if_itself : (b : Bool) → b ≡ (if b then true else false)
if_itself true = refl
if_itself false = refl

pub says_name : (t : Muxes) (x : Mux) → x.select < t.held → mux_weight x ≡ 0 → SaysMux t t x (Name x.select)
says_name t x s none = record { below = omega (arith, s); value = λ w size. by x.low x.high none (mux_values w t.nodes.keys) } where
  by : (l h : Literal) → weight_of l h ≡ 0 → (v : List Bool) → bit v x.select ≡ (if bit v x.select then literal_value h v else literal_value l v)
  by (Constant false) (Constant true) e v = if_itself (bit v x.select)
  by (Constant true) (Constant false) e v = absurd (omega (arith, e))
  by (Constant false) (Constant false) e v = absurd (omega (arith, e))
  by (Constant false) (Name k) e v = absurd (omega (arith, e))
  by (Constant true) (Constant true) e v = absurd (omega (arith, e))
  by (Constant true) (Name k) e v = absurd (omega (arith, e))
  by (Name j) (Constant true) e v = absurd (omega (arith, e))
  by (Name j) (Constant false) e v = absurd (omega (arith, e))
  by (Name j) (Name k) e v = absurd (omega (arith, e))

-- a choice by the place at which it was found
pub says_found_by : (t : Muxes) (x : Mux) (i number : ℕ) → IsTable t → position (mux_eq x) t.nodes.keys ≡ Some i → number ≡ t.held + i → SaysMux t t x (Name number)
says_found_by t x i number table at is =
    let p = position-Some (mux_eq x) t.nodes.keys i x at in
    let same : get_or t.nodes.keys i x ≡ x = sym (mux_same x (get_or t.nodes.keys i x) p.1) in
    says_found t x i number table (slice_get-get_or t.nodes.keys i x p.0 ∙ ap (λ (y : Mux). Some y) same) p.0 is
