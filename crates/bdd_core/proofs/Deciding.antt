-- An operator whose value follows of functions that are constant.
use Rattle.std.proofs.Common.{◌≡◌, ℕ, zero, suc, ◌-◌, ◌<◌, ◌≤◌, Bool, List, length, Option, Some, None, IfSome, refl, sym, ap, subst, ◌∙◌, arith}
use Rattle.bool_expr.specs.declared.expr.Gate.{Gate}
use Rattle.bool_expr.specs.Expression.{gate_value}
use Rattle.bdd_core.specs.declared.operators.Operator.{Operator}
use Rattle.bdd_core.specs.declared.operators.Operator.TheVariants.{Pair}
use Rattle.bdd_core.specs.declared.operators.Triple.{Triple}
use Rattle.bdd_core.specs.declared.operators.Decided.{Decided}
use Rattle.bdd_core.specs.declared.operators.Decided.TheVariants.{Constant, First, Second, Third}
use Rattle.bdd_core.specs.Truths.{Truths, constant, halves}
use Rattle.bdd_core.specs.Nodes.{raised, raised_to, height, place}
use Rattle.bdd_core.specs.Combined.{operator_value, combined, combined_at, AreFrom, IsPlaceOf}
use Rattle.bdd_core.specs.Decided.{decided_value, IsBit, IsDecided, IsBalanced}
use Rattle.bdd_core.proofs.Raised.{height-raised_to}
use Rattle.bdd_core.proofs.Balance.{balanced-raised_to}

-- what is decided, of truth lists over h variables
abbrev decided_truths : Decided → ℕ → Truths → Truths → Truths → Truths
decided_truths (Constant k) h x y z = raised h (constant k)
decided_truths First h x y z = x
decided_truths Second h x y z = y
decided_truths Third h x y z = z

-- each value is the one that is known, if one is
abbrev HasBit : Option Bool → Truths → Type 0
HasBit known (constant b) = IsBit known b
HasBit known (halves a b) = HasBit known a × HasBit known b

has_none : (t : Truths) → HasBit None t
has_none (constant b) = tt
has_none (halves a b) = (has_none a, has_none b)

has_raised : (j : ℕ) (b : Bool) → HasBit (Some b) (raised j (constant b))
has_raised zero b = refl
has_raised (suc j) b = (has_raised j b, has_raised j b)

has_bit : (known : Option Bool) (h : ℕ) (t : Truths) → IfSome known (λ b. t ≡ constant b) → HasBit known (raised_to h t)
unfolding raised_to
has_bit None h t is = has_none (raised (h - height t) t)
has_bit (Some b) h t is =
    subst (λ (u : Truths). HasBit (Some b) (raised (h - height u) u)) (sym is) (has_raised (h - height (constant b)) b)

at_bits : (d : Decided) (a b c : Bool) → constant (decided_value d a b c) ≡ decided_truths d zero (constant a) (constant b) (constant c)
at_bits (Constant k) a b c = refl
at_bits First a b c = refl
at_bits Second a b c = refl
at_bits Third a b c = refl

of_halves : (d : Decided) (h : ℕ) (x y u v z w : Truths)
    → halves (decided_truths d h x u z) (decided_truths d h y v w) ≡ decided_truths d (suc h) (halves x y) (halves u v) (halves z w)
of_halves (Constant k) h x y u v z w = refl
of_halves First h x y u v z w = refl
of_halves Second h x y u v z w = refl
of_halves Third h x y u v z w = refl

module _ (o : Operator) (kx ky kz : Option Bool) (d : Decided) (is : IsDecided o kx ky kz d) where
  decides : (h : ℕ) (x y z : Truths) → IsBalanced x → IsBalanced y → IsBalanced z → height x ≡ h → height y ≡ h → height z ≡ h
      → HasBit kx x → HasBit ky y → HasBit kz z → combined o x y z ≡ decided_truths d h x y z
  decides zero (constant a) (constant b) (constant c) bx by bz hx hy hz px py pz = ap constant (is a b c px py pz) ∙ at_bits d a b c
  decides zero (halves x0 x1) y z bx by bz hx hy hz px py pz = absurd (omega (arith, hx))
  decides zero (constant a) (halves y0 y1) z bx by bz hx hy hz px py pz = absurd (omega (arith, hy))
  decides zero (constant a) (constant b) (halves z0 z1) bx by bz hx hy hz px py pz = absurd (omega (arith, hz))
  decides (suc h) (constant a) y z bx by bz hx hy hz px py pz = absurd (omega (arith, hx))
  decides (suc h) (halves x0 x1) (constant b) z bx by bz hx hy hz px py pz = absurd (omega (arith, hy))
  decides (suc h) (halves x0 x1) (halves y0 y1) (constant c) bx by bz hx hy hz px py pz = absurd (omega (arith, hz))
  decides (suc h) (halves x0 x1) (halves y0 y1) (halves z0 z1) (ex, bx0, bx1) (ey, by0, by1) (ez, bz0, bz1) hx hy hz (px0, px1) (py0, py1) (pz0, pz1) =
      let lx : height x0 ≡ h = omega (arith, hx) in
      let ly : height y0 ≡ h = omega (arith, hy) in
      let lz : height z0 ≡ h = omega (arith, hz) in
      let low = decides h x0 y0 z0 bx0 by0 bz0 lx ly lz px0 py0 pz0 in
      let high = decides h x1 y1 z1 bx1 by1 bz1 (sym ex ∙ lx) (sym ey ∙ ly) (sym ez ∙ lz) px1 py1 pz1 in
      ap (λ (t : Truths). halves t (combined o x1 y1 z1)) low
      ∙ ap (λ (t : Truths). halves (decided_truths d h x0 y0 z0) t) high
      ∙ of_halves d h x0 x1 y0 y1 z0 z1

-- what is known of the functions at three places
pub record AreKnownBits (lists : List Truths) (k : Triple) (kx ky kz : Option Bool) : Type 0 where
  pub x : IfSome kx (λ b. place lists k.x ≡ constant b)
  pub y : IfSome ky (λ b. place lists k.y ≡ constant b)
  pub z : IfSome kz (λ b. place lists k.z ≡ constant b)

module _ (vars from : ℕ) (lists : List Truths) (o : Operator) (k : Triple) (kx ky kz : Option Bool) (are : AreFrom vars lists from k)
    (balanced : (i : ℕ) → i < length lists → IsBalanced (place lists i)) (known : AreKnownBits lists k kx ky kz) where
  decided_at : (d : Decided) → IsDecided o kx ky kz d
      → combined_at o vars lists from k
      ≡ decided_truths d (vars - from) (raised_to (vars - from) (place lists k.x)) (raised_to (vars - from) (place lists k.y)) (raised_to (vars - from) (place lists k.z))
  unfolding combined_at
  decided_at d is =
      let h = vars - from in
      let bx = are.x.below in
      let by = are.y.below in
      let bz = are.z.below in
      decides o kx ky kz d is h (raised_to h (place lists k.x)) (raised_to h (place lists k.y)) (raised_to h (place lists k.z))
      (balanced-raised_to h (place lists k.x) (balanced k.x are.x.within))
      (balanced-raised_to h (place lists k.y) (balanced k.y are.y.within))
      (balanced-raised_to h (place lists k.z) (balanced k.z are.z.within))
      (height-raised_to h (place lists k.x) (omega (arith, bx)))
      (height-raised_to h (place lists k.y) (omega (arith, by)))
      (height-raised_to h (place lists k.z) (omega (arith, bz)))
      (has_bit kx h (place lists k.x) known.x) (has_bit ky h (place lists k.y) known.y) (has_bit kz h (place lists k.z) known.z)

  pub first_is : IsDecided o kx ky kz First → IsPlaceOf vars lists from (combined_at o vars lists from k) k.x
  first_is is = record { from_on = are.x; is = sym (decided_at First is) }

  pub second_is : IsDecided o kx ky kz Second → IsPlaceOf vars lists from (combined_at o vars lists from k) k.y
  second_is is = record { from_on = are.y; is = sym (decided_at Second is) }

  pub third_is : IsDecided o kx ky kz Third → IsPlaceOf vars lists from (combined_at o vars lists from k) k.z
  third_is is = record { from_on = are.z; is = sym (decided_at Third is) }

  pub constant_is : (b : Bool) (at : ℕ) → IsDecided o kx ky kz (Constant b) → at < length lists → place lists at ≡ constant b
      → IsPlaceOf vars lists from (combined_at o vars lists from k) at
  unfolding raised_to
  constant_is b at is within e =
      let early = are.x.below in
      let none = ap height e in
      let whole : (vars - from) - height (constant b) ≡ vars - from = omega arith in
      record {
        from_on = record { within = within; below = omega (arith, none, early) };
        is = ap (λ (t : Truths). raised ((vars - from) - height t) t) e ∙ ap (λ (j : ℕ). raised j (constant b)) whole ∙ sym (decided_at (Constant b) is);
      }

-- what a gate gives by one constant
abbrev pub IsDecidedBy : Gate → Bool → Decided → Option Decided → Type 0
IsDecidedBy g bit other r =
    IfSome r (λ d. (a b c x : Bool) → x ≡ decided_value other a b c
    → (gate_value g bit x ≡ decided_value d a b c) × (gate_value g x bit ≡ decided_value d a b c))

pub by_first : (g : Gate) (bit : Bool) (y z : Option Bool) (r : Option Decided) → IsDecidedBy g bit Second r → IfSome r (IsDecided (Pair g) (Some bit) y z)
by_first g bit y z None h = tt
by_first g bit y z (Some d) h = λ a b c is yes also. ap (λ (t : Bool). gate_value g t b) is ∙ (h a b c b refl).0

pub by_second : (g : Gate) (bit : Bool) (x z : Option Bool) (r : Option Decided) → IsDecidedBy g bit First r → IfSome r (IsDecided (Pair g) x (Some bit) z)
by_second g bit x z None h = tt
by_second g bit x z (Some d) h = λ a b c yes is also. ap (λ (t : Bool). gate_value g a t) is ∙ (h a b c a refl).1
