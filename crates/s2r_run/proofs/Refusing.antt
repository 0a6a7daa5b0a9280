-- From the refusals of readers and of the real layout to the tool's, and from the real layout to its answer.
use Rattle.std.proofs.Common.{◌≡◌, List, None, Ok, Err, inl, inr, refl, sym, subst}
use Rattle.ap_io.specs.declared.figure.Figure.{Figure}
use Rattle.cell_model.specs.Library.{Library}
use Rattle.s2r_cif.specs.declared.table.RealTable.{RealTable}
use Rattle.s2r_cif.specs.declared.layout.RealLayout.{RealLayout}
use Rattle.s2r_cif.specs.declared.error.RealError.{RealError}
use Rattle.s2r_cif.specs.declared.error.RealError.TheVariants as error
use Rattle.s2r_cif.specs.Real.{IsRealOf}
use Rattle.s2r_cif.specs.Refused.{CanBeReal, IsRealRefusal}
use Rattle.s2r_run.specs.declared.words.S2rCommand.{S2rCommand}
use Rattle.tool_drive.specs.declared.status.Status.{Status}
use Rattle.tool_drive.specs.declared.tool.Product.{Product}
use Rattle.tool_drive.specs.Table.{IsJudged, IsFair, refusal}
use Rattle.tool_drive.specs.Refusals.{MemoryOr, judged}
use Rattle.real_table.specs.declared.table.ProcessTable.{ProcessTable}
use Rattle.real_boxes.specs.declared.boxes.RealBox.{RealBox}
use Rattle.real_boxes.specs.declared.error.ProcessError.{ProcessError}
use Rattle.real_boxes.specs.declared.error.ProcessError.TheVariants as errors
use Rattle.real_boxes.specs.Refused.{CanBeMade, layout_boxes, IsProcessRefusal as HasNoBoxes}
use Rattle.s2r_run.specs.Process.{IsProcessTold, IsProcessProduct}
use Rattle.s2r_run.specs.S2r.{Texts, AreRead, AreReadOf, IsToldOf, IsProductOf, unreal, no_boxes, Makes}

module _ (c : S2rCommand) (x : Texts) (l : Library) (f : Figure) (t : RealTable) (read : AreRead x l f t) where
  told : (e : RealError) (s : Status) → IsRealRefusal t f.items l e → IsToldOf c e s → IsFair s None (Makes c x (Err (refusal s None)))
  told error.Memory s h k = absurd k
  told (error.UnknownCell model) s h k =
      subst (λ (u : Status). IsFair u None (Makes c x (Err (refusal u None)))) (sym k) (refl, unreal l f t (error.UnknownCell model) read h refl)
  told (error.NotMappable model) s h k =
      subst (λ (u : Status). IsFair u None (Makes c x (Err (refusal u None)))) (sym k) (refl, unreal l f t (error.NotMappable model) read h refl)
  told (error.Limit limit) s h k =
      subst (λ (u : Status). IsFair u None (Makes c x (Err (refusal u None)))) (sym k) (refl, unreal l f t (error.Limit limit) read h refl)
  told (error.Near metal a b) s h k =
      subst (λ (u : Status). IsFair u None (Makes c x (Err (refusal u None)))) (sym k) (refl, unreal l f t (error.Near metal a b) read h refl)

  pub by_real : (e : RealError) (s : Status) → IsRealRefusal t f.items l e → MemoryOr s (IsToldOf c e s) → IsJudged (Makes c x) (Err (refusal s None))
  by_real e s h k = judged (Makes c x) (λ u. IsToldOf c e u) (λ u r. told e u h r) s k

  pub made_real : (r : RealLayout) (p : Product) → IsRealOf t f.items l r → CanBeReal t f.items l → IsProductOf c r p → Makes c x (Ok p)
  made_real r p real able made = inl (record { l = l; f = f; t = t; read = read; able = able; r = r; real = real; name = made.name; file = made.file; text = made.text })

-- ---- tables of processes

module _ (c : S2rCommand) (x : Texts) (l : Library) (f : Figure) (t : ProcessTable) (read : AreReadOf x l f t) where
  told_of : (e : ProcessError) (s : Status) → HasNoBoxes t f.items l e → IsProcessTold c e s → IsFair s None (Makes c x (Err (refusal s None)))
  told_of errors.Memory s h k = absurd k
  told_of (errors.UnknownCell model) s h k =
      subst (λ (u : Status). IsFair u None (Makes c x (Err (refusal u None)))) (sym k) (refl, no_boxes l f t (errors.UnknownCell model) read h refl)
  told_of (errors.NotMappable model) s h k =
      subst (λ (u : Status). IsFair u None (Makes c x (Err (refusal u None)))) (sym k) (refl, no_boxes l f t (errors.NotMappable model) read h refl)
  told_of (errors.Limit limit) s h k =
      subst (λ (u : Status). IsFair u None (Makes c x (Err (refusal u None)))) (sym k) (refl, no_boxes l f t (errors.Limit limit) read h refl)
  told_of (errors.Lost word) s h k =
      subst (λ (u : Status). IsFair u None (Makes c x (Err (refusal u None)))) (sym k) (refl, no_boxes l f t (errors.Lost word) read h refl)
  told_of (errors.Joined metal a b) s h k =
      subst (λ (u : Status). IsFair u None (Makes c x (Err (refusal u None)))) (sym k) (refl, no_boxes l f t (errors.Joined metal a b) read h refl)
  told_of (errors.Parted metal a b) s h k =
      subst (λ (u : Status). IsFair u None (Makes c x (Err (refusal u None)))) (sym k) (refl, no_boxes l f t (errors.Parted metal a b) read h refl)
  told_of (errors.OffGrid real rect) s h k =
      subst (λ (u : Status). IsFair u None (Makes c x (Err (refusal u None)))) (sym k) (refl, no_boxes l f t (errors.OffGrid real rect) read h refl)
  told_of (errors.Near real a b) s h k =
      subst (λ (u : Status). IsFair u None (Makes c x (Err (refusal u None)))) (sym k) (refl, no_boxes l f t (errors.Near real a b) read h refl)

  pub by_process : (e : ProcessError) (s : Status) → HasNoBoxes t f.items l e → MemoryOr s (IsProcessTold c e s) → IsJudged (Makes c x) (Err (refusal s None))
  by_process e s h k = judged (Makes c x) (λ u. IsProcessTold c e u) (λ u r. told_of e u h r) s k

  pub made_process : (boxes : List RealBox) (p : Product) → boxes ≡ layout_boxes t f.items l → CanBeMade t f.items l → IsProcessProduct c t f boxes p → Makes c x (Ok p)
  made_process boxes p are able made =
      inr (record { l = l; f = f; t = t; read = read; able = able; product = subst (λ (bs : List RealBox). IsProcessProduct c t f bs p) are made })
