-- From the refusals of readers, of extraction and of writing to the tool's.
use Rattle.std.proofs.Common.{inl, inr, ℕ, List, None, Err, false, sym, subst, refl}
use Rattle.ap_io.specs.declared.figure.Figure.{Figure}
use Rattle.ap_io.specs.ApText.{IsApText}
use Rattle.cell_model.specs.Library.{Library}
use Rattle.cell_lib.specs.Library.{IsLibraryOf}
use Rattle.net_core.specs.Netlist.{Netlist}
use Rattle.vst_print.specs.declared.error.WriteError.{WriteError}
use Rattle.vst_print.specs.declared.error.WriteError.TheVariants as writing
use Rattle.vst_print.specs.Written.{IsWriteRefusal}
use Rattle.cougar_extract.specs.declared.error.ExtractError.{ExtractError}
use Rattle.cougar_extract.specs.declared.error.ExtractError.TheVariants as extracting
use Rattle.cougar_extract.specs.Extracted.{IsExtracted}
use Rattle.cougar_extract.specs.Refused.{CanBeNumbered, NoShort, IsExtractRefusal}
use Rattle.cougar_run.specs.declared.words.CougarCommand.{CougarCommand}
use Rattle.tool_drive.specs.declared.status.Status.{Status}
use Rattle.tool_drive.specs.Table.{IsJudged, IsFair, refusal}
use Rattle.tool_drive.specs.Refusals.{MemoryOr, judged}
use Rattle.cougar_run.specs.Cougar.{unknown_cell, too_large, many_terminals, shorted, bad_map, Extracts, IsToldOf, IsWriteToldOf}

module _ (c : CougarCommand) (source list : List ℕ) (cells : List (List ℕ)) where
  module _ (l : Library) (library : IsLibraryOf false list cells l) where
    module _ (f : Figure) (figure : IsApText source f) where
      told_extract : (e : ExtractError) → IsExtractRefusal f l e → (t : Status) → IsToldOf c e t → IsFair t None (Extracts c source list cells (Err (refusal t None)))
      told_extract extracting.Memory h t k = absurd k
      told_extract (extracting.UnknownCell model) h t k =
          subst (λ (s : Status). IsFair s None (Extracts c source list cells (Err (refusal s None)))) (sym k) (refl, unknown_cell l f model library figure h refl)
      told_extract (extracting.Limit limit) h t k =
          subst (λ (s : Status). IsFair s None (Extracts c source list cells (Err (refusal s None)))) (sym k) (
            refl,
            elim h.1 [
              | inl large ↦ too_large l f limit library figure h.0 large refl
              | inr many ↦ many_terminals l f limit library figure h.0 many.0 many.1 refl
            ],
          )
      told_extract (extracting.Shorted a b chain) h t k =
          subst (λ (s : Status). IsFair s None (Extracts c source list cells (Err (refusal s None)))) (sym k) (refl, shorted l f a b chain library figure h.0 h.1 h.2 h.3 refl)

      pub by_extract : (e : ExtractError) (s : Status) → IsExtractRefusal f l e → MemoryOr s (IsToldOf c e s) → IsJudged (Extracts c source list cells) (Err (refusal s None))
      by_extract e s h k = judged (Extracts c source list cells) (IsToldOf c e) (told_extract e h) s k

      module _ (n : Netlist) (extracted : IsExtracted f l n) (few : CanBeNumbered f.items l) (apart : NoShort f.items l) where
        told_write : (e : WriteError) → IsWriteRefusal n e → (t : Status) → IsWriteToldOf c e t → IsFair t None (Extracts c source list cells (Err (refusal t None)))
        told_write writing.Memory h t k = absurd k
        told_write writing.BadMap h t k =
            subst (λ (s : Status). IsFair s None (Extracts c source list cells (Err (refusal s None)))) (sym k) (refl, bad_map l f n library figure extracted few apart h refl)

        pub by_write : (e : WriteError) (s : Status) → IsWriteRefusal n e → MemoryOr s (IsWriteToldOf c e s) → IsJudged (Extracts c source list cells) (Err (refusal s None))
        by_write e s h k = judged (Extracts c source list cells) (IsWriteToldOf c e) (told_write e h) s k
