-- Instances of mappable cells, line by line.
use Rattle.std.proofs.Common.{◌≡◌, ◌⊎◌, inl, inr, ℕ, ◌+◌, List, [], ◌∷◌, ◌++◌, take, None, Some, refl, sym, ◌∙◌, ap, subst, append_assoc}
use Rattle.std.proofs.lemmas.Option.{same_Some}
use Rattle.vlsi_base.specs.Member.{In, here, there}
use Rattle.sym_geom.specs.declared.item.Instance.{Instance as Placed}
use Rattle.sym_geom.specs.declared.item.Item.{Item}
use Rattle.sym_geom.specs.declared.item.Item.TheVariants as item
use Rattle.cell_model.specs.Cell.{Cell}
use Rattle.cell_model.specs.Library.{Library, cell_of}
use Rattle.cell_model.specs.Layout.{instances_of}
use Rattle.cell_model.specs.Usable.{IsMappable}
use Rattle.cell_model.proofs.Members.{In-split}
use Rattle.net_core.specs.Places.{Stands}
use Rattle.cougar_extract.proofs.Adding.{split_at}
use Rattle.cougar_extract.proofs.Instances.{instances_append}
use Rattle.cougar_extract.proofs.Steps.{placed_next}
use Rattle.s2r_cif.specs.declared.error.RealError.{RealError}
use Rattle.s2r_cif.specs.declared.error.RealError.TheVariants as error
use Rattle.s2r_cif.specs.Refused.{AreMappable, IsFirstUnmappable, IsMappingRefusal}

mappable_both : (l : Library) (a b : List Placed) → AreMappable a l → AreMappable b l → AreMappable (a ++ b) l
mappable_both l a b p q i c h known = elim (In-split i a b h) [ inl x ↦ p i c x known | inr y ↦ q i c y known ]

-- the instances of one line more
pub mappable_next : (items : List Item) (l : Library) (k : ℕ) (one : Item) → Stands items k one → AreMappable (instances_of (take k items)) l → AreMappable (instances_of (one ∷ [])) l
    → AreMappable (instances_of (take (k + 1) items)) l
mappable_next items l k one at before own =
    subst (λ (is : List Placed). AreMappable is l) (sym (placed_next items k one at)) (mappable_both l (instances_of (take k items)) (instances_of (one ∷ [])) before own)

-- the first of the rest is the first of all
later : (items : List Item) (l : Library) (k : ℕ) (one : Item) (model : List ℕ) → Stands items k one → AreMappable (instances_of (take k items)) l
    → IsFirstUnmappable (instances_of (one ∷ [])) l model → IsFirstUnmappable (instances_of items) l model
later items l k one model at before h =
    let r = split_at items k one at in
    let parts : instances_of items ≡ instances_of (take k items) ++ (instances_of (one ∷ []) ++ instances_of r.0) =
    ap instances_of r.1 ∙ instances_append (take k items) (one ∷ r.0)
    ∙ ap (λ (is : List Placed). instances_of (take k items) ++ is) (instances_append (one ∷ []) r.0) in
    record {
      before = instances_of (take k items) ++ h.before;
      instance = h.instance;
      behind = h.behind ++ instances_of r.0;
      all_are =
          parts
          ∙ ap (λ (is : List Placed). instances_of (take k items) ++ (is ++ instances_of r.0)) h.all_are
          ∙ ap (λ (is : List Placed). instances_of (take k items) ++ is) (append_assoc h.before (h.instance ∷ h.behind) (instances_of r.0))
          ∙ sym (append_assoc (instances_of (take k items)) h.before (h.instance ∷ (h.behind ++ instances_of r.0)));
      mappable = mappable_both l (instances_of (take k items)) h.before before h.mappable;
      cell = h.cell;
      known = h.known;
      unmappable = h.unmappable;
      model_is = h.model_is;
    }

pub refused_later : (items : List Item) (l : Library) (k : ℕ) (one : Item) (e : RealError) → Stands items k one → AreMappable (instances_of (take k items)) l
    → IsMappingRefusal (instances_of (one ∷ [])) l e → IsMappingRefusal (instances_of items) l e
refused_later items l k one error.Memory at before h = tt
refused_later items l k one (error.NotMappable model) at before h = later items l k one model at before h
refused_later items l k one (error.UnknownCell model) at before h = absurd h
refused_later items l k one (error.Limit limit) at before h = absurd h
refused_later items l k one (error.Near metal a b) at before h = absurd h

-- ---- one line

module _ (l : Library) (one : Item) (i : Placed) (is : one ≡ item.Instance i) where
  line_of : (P : List Placed → Type 0) → P (i ∷ []) → P (instances_of (one ∷ []))
  line_of P h = subst (λ (x : Item). P (instances_of (x ∷ []))) (sym is) h

  pub no_cell : cell_of l i.model ≡ None → AreMappable (instances_of (one ∷ [])) l
  no_cell none = line_of (λ (xs : List Placed). AreMappable xs l) (λ j c h known. of_none j c h known) where
    of_none : (j : Placed) (c : Cell) → In j (i ∷ []) → cell_of l j.model ≡ Some c → IsMappable c
    of_none j c here known = absurd (cc (none, known))
    of_none j c (there h) known = elim h [ ]

  pub mappable_cell : (c : Cell) → cell_of l i.model ≡ Some c → IsMappable c → AreMappable (instances_of (one ∷ [])) l
  mappable_cell c found m = line_of (λ (xs : List Placed). AreMappable xs l) (λ j d h known. of_one j d h known) where
    of_one : (j : Placed) (d : Cell) → In j (i ∷ []) → cell_of l j.model ≡ Some d → IsMappable d
    of_one j d here known = subst IsMappable (same_Some c d (sym found ∙ known)) m
    of_one j d (there h) known = elim h [ ]

  pub bad_cell : (c : Cell) (e : RealError) → cell_of l i.model ≡ Some c → (IsMappable c → ⊥) → (e ≡ error.Memory) ⊎ (e ≡ error.NotMappable i.model)
      → IsMappingRefusal (instances_of (one ∷ [])) l e
  bad_cell c e found n h =
      line_of (λ (xs : List Placed). IsMappingRefusal xs l e)
      (elim h [
        | inl m ↦ subst (λ (x : RealError). IsMappingRefusal (i ∷ []) l x) (sym m) tt
        | inr u ↦ subst (λ (x : RealError). IsMappingRefusal (i ∷ []) l x) (sym u)
            (record { before = []; instance = i; behind = []; all_are = refl; mappable = λ j d g known. elim g [ ]; cell = c; known = found; unmappable = n; model_is = refl })
      ])
