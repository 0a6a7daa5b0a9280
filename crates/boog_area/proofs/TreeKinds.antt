-- What is said of all kinds, said of those that trees need.
use Rattle.std.proofs.Common.{◌≡◌, false, List, [], ◌∷◌, Option, None, Some, IfSome, IfNone, refl}
use Rattle.vlsi_base.specs.Member.{In, here, there}
use Rattle.vlsi_base.specs.declared.kind.Kind.{Kind}
use Rattle.vlsi_base.specs.declared.kind.Kind.TheVariants as kind
use Rattle.cell_model.specs.Cell.{Cell}
use Rattle.cell_model.specs.Covering.{HasCellOf, needed, IsFirstMissing, first, later}
use Rattle.boog_area.specs.Refused.{tree_kinds, tree_kind}

module _ (cells : List Cell) where
  missing_out : (k : Kind) (ks : List Kind) → IsFirstMissing cells k ks → HasCellOf cells k → ⊥
  missing_out k [] h has = elim h [ ]
  missing_out k (_ ∷ ks) (first out) has = out has
  missing_out k (_ ∷ ks) (later before rest) has = missing_out k ks rest has

  abbrev EachHad : List Kind → Type 0
  EachHad [] = Unit {0}
  EachHad (k ∷ ks) = HasCellOf cells k × EachHad ks

  each_in : (ks : List Kind) → EachHad ks → (k : Kind) → In k ks → HasCellOf cells k
  each_in [] had k h = elim h [ ]
  each_in (k ∷ ks) had _ here = had.0
  each_in (j ∷ ks) had k (there h) = each_in ks had.1 k h

  -- what is told of the first kind that is missing, or of none
  abbrev pub Told : Option Kind → Type 0
  Told None = (k : Kind) → In k tree_kinds → HasCellOf cells k
  Told (Some k) = IsFirstMissing cells k tree_kinds

  two_had : HasCellOf cells kind.Inv → HasCellOf cells kind.Nand2 → Told None
  two_had a b = each_in tree_kinds (a, (b, tt))

  behind_two : (k : Kind) → (k ≡ kind.Inv → ⊥) → (k ≡ kind.Nand2 → ⊥) → (ks : List Kind) → IsFirstMissing cells k (kind.Inv ∷ kind.Nand2 ∷ ks) → Told None
  behind_two k not_inv not_nand ks (first out) = absurd (not_inv refl)
  behind_two k not_inv not_nand ks (later a (first out)) = absurd (not_nand refl)
  behind_two k not_inv not_nand ks (later a (later b rest)) = two_had a b

  pub told : (k : Kind) → IsFirstMissing cells k (needed false) → Told (tree_kind k)
  told kind.Inv (first out) = first out
  told kind.Inv (later a rest) = absurd (missing_out kind.Inv _ rest a)
  told kind.Nand2 (later a (first out)) = later a (first out)
  told kind.Nand2 (later a (later b rest)) = absurd (missing_out kind.Nand2 _ rest b)
  told kind.Zero h = behind_two kind.Zero (λ e. cc) (λ e. cc) _ h
  told kind.One h = behind_two kind.One (λ e. cc) (λ e. cc) _ h
  told kind.Dff h = behind_two kind.Dff (λ e. cc) (λ e. cc) _ h

  pub told_none : ((k : Kind) → In k (needed false) → HasCellOf cells k) → Told None
  told_none all = two_had (all kind.Inv here) (all kind.Nand2 (there here))

  pub some_told : (r : Option Kind) → Told r → IfSome r (λ k. IsFirstMissing cells k tree_kinds)
  some_told None t = tt
  some_told (Some k) t = t

  pub none_told : (r : Option Kind) → Told r → IfNone r ((k : Kind) → In k tree_kinds → HasCellOf cells k)
  none_told None t = t
  none_told (Some k) t = tt
