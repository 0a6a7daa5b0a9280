-- What a line says, and when it says nothing.
use Rattle.std.proofs.Common.{◌≡◌, inl, inr, ℕ, ◌+◌, List, length, sym, Option, None, Some, Result, Ok, Err, IfOk, IfSome, subst}
use Rattle.std.specs.Prelude.{ℤ}
use Rattle.real_table.specs.declared.table.Rule.{Rule}
use Rattle.real_table.specs.declared.table.Entry.{Entry}
use Rattle.real_table.specs.declared.table.Entry.TheVariants as entry
use Rattle.real_table.specs.Fields.{fields_of}
use Rattle.real_table.specs.Lines.{IsLengthAt, IsMove, none, some, IsSegmentLine, IsContactLine, IsMetalLine, IsSpaceLine, IsLabelLine, IsGdsLine, IsRemark, IsEntry, segment, contact, metal, space, label, gds, remark, IsNoEntry}

-- no move stands where the line has other fields, and one of the lengths is none
pub no_move_x : (line : List ℕ) (k : ℕ) → (length (fields_of line) ≡ k → ⊥) → ((n : ℤ) → IsLengthAt line k n → ⊥) → (x y : ℤ) → IsMove line k x y → ⊥
no_move_x line k other lacking x y (none e p q) = other e
no_move_x line k other lacking x y (some e p q) = lacking x p

pub no_move_y : (line : List ℕ) (k j : ℕ) → j ≡ k + 1 → (length (fields_of line) ≡ k → ⊥) → ((n : ℤ) → IsLengthAt line j n → ⊥) → (x y : ℤ) → IsMove line k x y → ⊥
no_move_y line k j is other lacking x y (none e p q) = other e
no_move_y line k j is other lacking x y (some e p q) = lacking y (subst (λ (i : ℕ). IsLengthAt line i y) (sym is) q)

module _ (line : List ℕ) where
  pub segment_entry : (o : Option Rule) (r : Rule) → o ≡ Some r → IfSome o (λ x. IsSegmentLine line x) → IsEntry line (entry.Rule r)
  segment_entry o r is h = segment r (subst (λ (x : Option Rule). IfSome x (λ y. IsSegmentLine line y)) is h)

  pub contact_entry : {E : Type 0} (x : Result (Option Rule) E) → IfOk x (λ o. IfSome o (λ r. IsContactLine line r)) → IfOk x (λ o. IfSome o (λ r. IsEntry line (entry.Rule r)))
  contact_entry (Ok (Some r)) h = contact r h
  contact_entry (Ok None) h = tt
  contact_entry (Err e) h = tt

  pub metal_entry : (m : ℕ) (real word : List ℕ) → real ≡ word → IsMetalLine line m word → IsEntry line (entry.Metal m real)
  metal_entry m real word is h = metal m real (subst (λ (t : List ℕ). IsMetalLine line m t) (sym is) h)

  pub space_entry : (gap : ℕ) (real word : List ℕ) → real ≡ word → IsSpaceLine line word gap → IsEntry line (entry.Space real gap)
  space_entry gap real word is h = space real gap (subst (λ (t : List ℕ). IsSpaceLine line t gap) (sym is) h)

  pub label_entry : (layer real a b : List ℕ) → layer ≡ a → real ≡ b → IsLabelLine line a b → IsEntry line (entry.Label layer real)
  label_entry layer real a b p q h =
      label layer real (subst (λ (t : List ℕ). IsLabelLine line t real) (sym p) (subst (λ (t : List ℕ). IsLabelLine line a t) (sym q) h))

  -- a line that has none of the forms says nothing
  pub no_entry : ((r : Rule) → IsSegmentLine line r → ⊥) → ((r : Rule) → IsContactLine line r → ⊥) → ((m : ℕ) (real : List ℕ) → IsMetalLine line m real → ⊥)
      → ((real : List ℕ) (gap : ℕ) → IsSpaceLine line real gap → ⊥) → ((layer real : List ℕ) → IsLabelLine line layer real → ⊥) → (IsGdsLine line → ⊥) → (IsRemark line → ⊥)
      → IsNoEntry line
  no_entry no_segment no_contact no_metal no_space no_label no_gds no_remark _ (segment r k) = no_segment r k
  no_entry no_segment no_contact no_metal no_space no_label no_gds no_remark _ (contact r k) = no_contact r k
  no_entry no_segment no_contact no_metal no_space no_label no_gds no_remark _ (metal m real k) = no_metal m real k
  no_entry no_segment no_contact no_metal no_space no_label no_gds no_remark _ (space real gap k) = no_space real gap k
  no_entry no_segment no_contact no_metal no_space no_label no_gds no_remark _ (label layer real k) = no_label layer real k
  no_entry no_segment no_contact no_metal no_space no_label no_gds no_remark _ (gds k) = no_gds k
  no_entry no_segment no_contact no_metal no_space no_label no_gds no_remark _ (remark k) = no_remark k

-- what is known of what was read
pub known_of : (P : Entry → Type 0) (o : Option Entry) (e : Entry) → o ≡ Some e → IfSome o P → P e
known_of P o e is h = subst (λ (x : Option Entry). IfSome x P) is h
