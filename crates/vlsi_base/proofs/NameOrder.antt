-- Names are totally ordered.
use Rattle.std.proofs.Common.{◌≡◌, ℕ, List, Option, None, Some, refl, ap, ◌∙◌}
use Rattle.std.specs.Cmp.{IsTotalOrder}
use Rattle.std.specs.Cmp.Lexicographic.{slice_cmp}
use Rattle.std.specs.FinMap.{IsAntisymmetric, nat_cmp-IsAntisymmetric, slice_cmp-IsAntisymmetric}
use Rattle.std.specs.Ordering.{nat_cmp, ordering_reverse, ordering_then}
use Rattle.std.specs.declared.cmp.Ordering.{Ordering}
use Rattle.std.specs.declared.cmp.Ordering.TheVariants.{Less, Equal, Greater}
use Rattle.std.proofs.lemmas.Cmp.{nat_cmp_total, lists_total, on_total, then_total}
use Rattle.vlsi_base.specs.declared.name.Name.{Name}
use Rattle.vlsi_base.specs.Name.{name_cmp, bit_cmp}

pub bit_total : IsTotalOrder bit_cmp
bit_total = record {
  antisymm = back;
  trans = less;
  congr = alike;
} where
  back : (x y : Option ℕ) → bit_cmp x y ≡ ordering_reverse (bit_cmp y x)
  back None None = refl
  back None (Some b) = refl
  back (Some a) None = refl
  back (Some a) (Some b) = nat_cmp_total.antisymm a b

  less : (x y z : Option ℕ) → bit_cmp x y ≡ Less → bit_cmp y z ≡ Less → bit_cmp x z ≡ Less
  less None None z p q = absurd cc
  less None (Some b) None p q = absurd cc
  less None (Some b) (Some c) p q = refl
  less (Some a) None z p q = absurd cc
  less (Some a) (Some b) None p q = absurd cc
  less (Some a) (Some b) (Some c) p q = nat_cmp_total.trans a b c p q

  alike : (x y z : Option ℕ) → bit_cmp x y ≡ Equal → bit_cmp x z ≡ bit_cmp y z
  alike None None z p = refl
  alike None (Some b) z p = absurd cc
  alike (Some a) None z p = absurd cc
  alike (Some a) (Some b) None p = refl
  alike (Some a) (Some b) (Some c) p = nat_cmp_total.congr a b c p

pub name_total : IsTotalOrder name_cmp
name_total = then_total (on_total (λ (n : Name). n.text) (lists_total nat_cmp_total)) (on_total (λ (n : Name). n.bit) bit_total)

bit_exact : IsAntisymmetric bit_cmp
bit_exact None None e = refl
bit_exact None (Some b) e = absurd cc
bit_exact (Some a) None e = absurd cc
bit_exact (Some a) (Some b) e = ap Some (nat_cmp-IsAntisymmetric a b e)

-- names that tie are one
pub name_exact : IsAntisymmetric name_cmp
name_exact a b e = by (slice_cmp nat_cmp a.text b.text) refl e where
  made : List ℕ → Option ℕ → Name
  made text bit = record { text = text; bit = bit }

  by : (o : Ordering) → slice_cmp nat_cmp a.text b.text ≡ o → ordering_then o (bit_cmp a.bit b.bit) ≡ Equal → a ≡ b
  by Less is e = absurd cc
  by Greater is e = absurd cc
  by Equal is e =
      ap (λ (t : List ℕ). made t a.bit) (slice_cmp-IsAntisymmetric nat_cmp-IsAntisymmetric a.text b.text is)
      ∙ ap (made b.text) (bit_exact a.bit b.bit e)
