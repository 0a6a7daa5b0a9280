-- One more bit in a set of bits.
use Rattle.std.proofs.Common.{◌≡◌, ℕ, Bool, true, false, cond, ◌&&◌, ◌==◌, refl, ap, ◌∙◌}
use Rattle.std.specs.Prelude.{◌||◌}
use Rattle.std.specs.Ordering.{nat_cmp, ordering_then, is_eq}
use Rattle.std.specs.declared.cmp.Ordering.{Ordering}
use Rattle.std.specs.declared.cmp.Ordering.TheVariants.{Less, Equal, Greater}
use Rattle.std.specs.Cmp.{unsigned_tied}
use Rattle.source_checks.specs.Marks.{key_cmp, is_key}

both_equal : (o p : Ordering) → is_eq (ordering_then o p) ≡ (is_eq o && is_eq p)
both_equal Less p = refl
both_equal Equal p = refl
both_equal Greater p = refl

pub is_eq-key_cmp : (a b : ℕ × ℕ) → is_eq (key_cmp a b) ≡ is_key a b
is_eq-key_cmp a b =
    both_equal (nat_cmp a.0 b.0) (nat_cmp a.1 b.1) ∙ ap (λ x. x && is_eq (nat_cmp a.1 b.1)) (unsigned_tied a.0 b.0) ∙ ap (λ x. (a.0 == b.0) && x) (unsigned_tied a.1 b.1)

pub either_way : (b old : Bool) → cond b true old ≡ (b || old)
either_way true old = refl
either_way false old = refl
