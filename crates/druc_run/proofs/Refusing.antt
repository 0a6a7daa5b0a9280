-- From the refusals of readers and of the rules' check to the tool's, and from the breaches to its answer.
use Rattle.std.proofs.Common.{ℕ, ◌<◌, ◌^◌, List, length, map, None, Result, Ok, Err, false, refl, sym, subst}
use Rattle.ap_io.specs.declared.figure.Figure.{Figure}
use Rattle.ap_io.specs.ApText.{IsApText}
use Rattle.cell_model.specs.Library.{Library}
use Rattle.cell_model.specs.Layout.{instances_of, shapes}
use Rattle.cell_lib.specs.Library.{IsLibraryOf}
use Rattle.net_meaning.specs.Breaches.{Breaches}
use Rattle.cougar_extract.specs.Extracted.{AreKnown}
use Rattle.druc_rules.specs.declared.breach.Breach.{Breach}
use Rattle.druc_rules.specs.declared.error.DrucError.{DrucError}
use Rattle.druc_rules.specs.declared.error.DrucError.TheVariants as ruling
use Rattle.druc_rules.specs.Breaches.{breach_of, IsBrokenRefusal}
use Rattle.druc_run.specs.declared.words.DrucCommand.{DrucCommand}
use Rattle.tool_drive.specs.declared.status.Status.{Status}
use Rattle.tool_drive.specs.declared.tool.Product.{Product}
use Rattle.tool_drive.specs.declared.tool.Refusal.{Refusal}
use Rattle.tool_drive.specs.Table.{IsJudged, IsFair, refusal}
use Rattle.tool_drive.specs.Refusals.{MemoryOr, judged, fair_then}
use Rattle.druc_run.specs.Druc.{AreListed, unknown_cell, too_large, broken, Checks, IsToldOf, IsAnswerOf}

module _ (c : DrucCommand) (source list : List ℕ) (cells : List (List ℕ)) where
  module _ (l : Library) (library : IsLibraryOf false list cells l) where
    module _ (f : Figure) (figure : IsApText source f) where
      told : (e : DrucError) (s : Status) → IsBrokenRefusal f.items l e → IsToldOf c e s → IsFair s None (Checks c source list cells (Err (refusal s None)))
      told ruling.Memory s h k = absurd k
      told (ruling.UnknownCell model) s h k =
          subst (λ (t : Status). IsFair t None (Checks c source list cells (Err (refusal t None)))) (sym k) (refl, unknown_cell l f model library figure h refl)
      told (ruling.Limit limit) s h k =
          subst (λ (t : Status). IsFair t None (Checks c source list cells (Err (refusal t None)))) (sym k) (refl, too_large l f limit library figure h.0 h.1 refl)

      pub by_rules : (e : DrucError) (s : Status) → IsBrokenRefusal f.items l e → MemoryOr s (IsToldOf c e s) → IsJudged (Checks c source list cells) (Err (refusal s None))
      by_rules e s h k = judged (Checks c source list cells) (λ t. IsToldOf c e t) (λ t r. told e t h r) s k

      module _ (known : AreKnown (instances_of f.items) l) (few : length (shapes f.items l) < 2 ^ 32) (found : List Breach) (breaches : Breaches f.items l (map breach_of found)) where
        listed : AreListed source list cells found
        listed = record { l = l; library = library; f = f; figure = figure; known = known; few = few; breaches = breaches }

        pub accepted : (p : Product) → IsAnswerOf c found (Ok p) → Checks c source list cells (Ok p)
        accepted p h = record { none = subst (λ (bs : List Breach). AreListed source list cells bs) h.0 listed; name = h.1; file = h.2; text = h.3 }

        pub answered : (r : Result Product Refusal) → IsJudged (IsAnswerOf c found) r → IsJudged (Checks c source list cells) r
        answered (Ok p) h = accepted p h
        answered (Err r) h =
            fair_then r.status r.part (IsAnswerOf c found (Err r)) (Checks c source list cells (Err r)) (λ a. (a.0, broken found listed a.1 a.2)) h
