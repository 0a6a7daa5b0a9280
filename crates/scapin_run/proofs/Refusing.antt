-- From the refusals of a scan path to the tool's.
use Rattle.std.proofs.Common.{◌≡◌, List, length, None, Err, refl, sym, subst}
use Rattle.cell_model.specs.Library.{Library}
use Rattle.net_core.specs.declared.pins.ModelPins.{ModelPins}
use Rattle.net_core.specs.Netlist.{Netlist}
use Rattle.path_io.specs.declared.reader.PathFile.{PathFile}
use Rattle.scan_checks.specs.declared.error.ScanError.{ScanError}
use Rattle.scan_checks.specs.declared.error.ScanError.TheVariants as error
use Rattle.scan_checks.specs.Refused.{IsScanRefusal}
use Rattle.scapin_run.specs.declared.words.ScapinCommand.{ScapinCommand}
use Rattle.tool_drive.specs.declared.status.Status.{Status}
use Rattle.tool_drive.specs.Table.{IsJudged, IsFair, refusal}
use Rattle.tool_drive.specs.Refusals.{MemoryOr, judged}
use Rattle.scapin_run.specs.Scapin.{Texts, AreRead, IsToldBy, IsToldOf, line_of, no_scan, Makes}
use Rattle.scapin_run.proofs.Placing.{as_many, first_line, second_line}

module _ (c : ScapinCommand) (x : Texts) (l : Library) (table : List ModelPins) (n : Netlist) (f : PathFile) (read : AreRead x l table n f) where
  many : length f.names.items ≡ length f.lines.items
  many = as_many 1 _ f.names.items f.lines.items read.path.lists

  placed : (e : ScanError) (s : Status) (h : IsScanRefusal l n f.names.items e) → IsToldOf c f e s → IsToldBy c l n f e h s
  placed error.Memory s h k = k
  placed (error.Taken text) s h k = k
  placed (error.NoCover kind) s h k = k
  placed (error.Unknown text) s h k = (
    line_of f text 0,
    first_line f.names.items f.lines.items f.last text h.fault.place many h.fault.stands (λ j low at. h.fault.first j text low at h.fault.holds),
    k,
  )
  placed (error.Twice text) s h k = (
    line_of f text 1,
    second_line f.names.items f.lines.items f.last text h.fault.first.place h.fault.first.before many h.fault.first.stands h.fault.first.earlier h.fault.first.stood h.fault.first.first,
    k,
  )
  placed (error.Left text) s h k = k

  told : (e : ScanError) (s : Status) → IsScanRefusal l n f.names.items e → IsToldOf c f e s → IsFair s None (Makes c x (Err (refusal s None)))
  told error.Memory s h k = absurd k
  told (error.Taken text) s h k =
      subst (λ (u : Status). IsFair u None (Makes c x (Err (refusal u None)))) (sym k) (refl, no_scan l table n f read (error.Taken text) h refl)
  told (error.NoCover kind) s h k =
      subst (λ (u : Status). IsFair u None (Makes c x (Err (refusal u None)))) (sym k) (refl, no_scan l table n f read (error.NoCover kind) h refl)
  told (error.Unknown text) s h k =
      subst (λ (u : Status). IsFair u None (Makes c x (Err (refusal u None)))) (sym k) (refl, no_scan l table n f read (error.Unknown text) h (placed (error.Unknown text) _ h refl))
  told (error.Twice text) s h k =
      subst (λ (u : Status). IsFair u None (Makes c x (Err (refusal u None)))) (sym k) (refl, no_scan l table n f read (error.Twice text) h (placed (error.Twice text) _ h refl))
  told (error.Left text) s h k =
      subst (λ (u : Status). IsFair u None (Makes c x (Err (refusal u None)))) (sym k) (refl, no_scan l table n f read (error.Left text) h refl)

  pub by_scan : (e : ScanError) (s : Status) → IsScanRefusal l n f.names.items e → MemoryOr s (IsToldOf c f e s) → IsJudged (Makes c x) (Err (refusal s None))
  by_scan e s h k = judged (Makes c x) (IsToldOf c f e) (λ t. told e t h) s k
