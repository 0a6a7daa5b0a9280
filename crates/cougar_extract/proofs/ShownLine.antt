-- What is known of a line of a figure that is an instance.
use Rattle.std.proofs.Common.{◌≡◌, ◌⊎◌, inl, inr, List, [], ◌∷◌, None, Some, sym, subst}
use Rattle.sym_geom.specs.declared.item.Instance.{Instance as Placed}
use Rattle.sym_geom.specs.declared.item.Item.{Item}
use Rattle.sym_geom.specs.declared.item.Item.TheVariants as item
use Rattle.sym_geom.specs.Rect.{IsCoordinate}
use Rattle.vlsi_base.specs.Member.{In, here}
use Rattle.cell_model.specs.Cell.{Cell}
use Rattle.cell_model.specs.Library.{Library, cell_of}
use Rattle.cell_model.specs.Layout.{instances_of}
use Rattle.cougar_extract.specs.declared.error.ExtractError.{ExtractError}
use Rattle.cougar_extract.specs.declared.error.ExtractError.TheVariants as errors
use Rattle.cougar_extract.specs.Extracted.{AreKnown}
use Rattle.cougar_extract.specs.Stages.{IsUnknownRefusal}
use Rattle.cougar_extract.proofs.Steps.{known_one, unknown_one}

module _ (l : Library) (one : Item) (i : Placed) (is : one ≡ item.Instance i) where
  line_of : (P : List Placed → Type 0) → P (i ∷ []) → P (instances_of (one ∷ []))
  line_of P h = subst (λ (x : Item). P (instances_of (x ∷ []))) (sym is) h

  pub placed_known : (c : Cell) → cell_of l i.model ≡ Some c → AreKnown (instances_of (one ∷ [])) l
  placed_known c known = line_of (λ (xs : List Placed). AreKnown xs l) (known_one l i c known)

  pub placed_unknown : (e : ExtractError) → cell_of l i.model ≡ None → (e ≡ errors.Memory) ⊎ (e ≡ errors.UnknownCell i.model) → IsUnknownRefusal (instances_of (one ∷ [])) l e
  placed_unknown e none h =
      line_of (λ (xs : List Placed). IsUnknownRefusal xs l e)
      (elim h [
        | inl m ↦ subst (λ (x : ExtractError). IsUnknownRefusal (i ∷ []) l x) (sym m) tt
        | inr u ↦ subst (λ (x : ExtractError). IsUnknownRefusal (i ∷ []) l x) (sym u) (unknown_one l i none)
      ])

  pub placed_near : ((j : Placed) → In j (instances_of (one ∷ [])) → IsCoordinate j.x × IsCoordinate j.y) → IsCoordinate i.x × IsCoordinate i.y
  placed_near near = near i (line_of (λ (xs : List Placed). In i xs) here)
