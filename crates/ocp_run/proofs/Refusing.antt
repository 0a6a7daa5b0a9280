-- From the refusals of a netlist to the tool's.
use Rattle.std.proofs.Common.{◌≡◌, ℕ, false, List, [], ◌∷◌, None, Err, refl}
use Rattle.vlsi_base.specs.declared.fault.FaultKind.{FaultKind}
use Rattle.vlsi_base.specs.declared.fault.FaultKind.TheVariants as kind
use Rattle.vlsi_base.specs.declared.fault.ReadError.{ReadError}
use Rattle.vlsi_base.specs.declared.name.Name.{Name}
use Rattle.vlsi_base.specs.Names.{vdd, vss}
use Rattle.cell_model.specs.Library.{Library}
use Rattle.cell_lib.specs.Library.{IsLibraryOf}
use Rattle.cell_pins.specs.Table.{IsTableOf}
use Rattle.net_core.specs.declared.pins.ModelPins.{ModelPins}
use Rattle.net_core.specs.Netlist.{Netlist}
use Rattle.vst_io.specs.Text.{IsVst, IsVstRefusal}
use Rattle.tool_drive.specs.declared.status.Status.{Status}
use Rattle.tool_drive.specs.declared.status.Status.TheVariants as status
use Rattle.tool_drive.specs.Table.{IsFair, IsJudged, refusal}
use Rattle.tool_drive.specs.Refusals.{MemoryOr, OfFile, of_file, memory_then, judged, whole_fault}
use Rattle.ocp_run.specs.Asked.{Asked}
use Rattle.ocp_run.specs.Source.{HasPort, IsNoSource, bad_text, no_vdd, no_vss}
use Rattle.ocp_run.specs.Ocp.{no_source, Places}

module _ (file source : List ℕ) (table : List ModelPins) where
  pub text_refused : (e : ReadError) (s : Status) → IsVstRefusal source table e → MemoryOr s (OfFile file (λ x. x ≡ e) s) → MemoryOr s (IsNoSource file source table s)
  text_refused e s h k =
      memory_then s (OfFile file (IsVstRefusal source table) s) (IsNoSource file source table s) (λ o. bad_text o) (of_file file (IsVstRefusal source table) e h s k)

  pub lacks_vdd : (n : Netlist) (s : Status) → IsVst source table n → (HasPort n vdd → ⊥) → MemoryOr s (s ≡ whole_fault file kind.Unknown (vdd ∷ []))
      → MemoryOr s (IsNoSource file source table s)
  lacks_vdd n s is none k = memory_then s (s ≡ whole_fault file kind.Unknown (vdd ∷ [])) (IsNoSource file source table s) (λ e. no_vdd n is none e) k

  pub lacks_vss : (n : Netlist) (s : Status) → IsVst source table n → HasPort n vdd → (HasPort n vss → ⊥)
      → MemoryOr s (s ≡ whole_fault file kind.Unknown (vss ∷ [])) → MemoryOr s (IsNoSource file source table s)
  lacks_vss n s is one none k = memory_then s (s ≡ whole_fault file kind.Unknown (vss ∷ [])) (IsNoSource file source table s) (λ e. no_vss n is one none e) k

  -- it is a fault of the file, or a limit
  pub never : (s : Status) → IsNoSource file source table s → (OfFile file (IsVstRefusal source table) s → ⊥)
      → ((k : FaultKind) (names : List Name) → s ≡ whole_fault file k names → ⊥) → ⊥
  never s (bad_text o) f g = f o
  never s (no_vdd n is none e) f g = g kind.Unknown (vdd ∷ []) e
  never s (no_vss n is one none e) f g = g kind.Unknown (vss ∷ []) e

pub by_source : (c : Asked) (source catal : List ℕ) (cells : List (List ℕ)) (l : Library) (table : List ModelPins) (s : Status) → IsLibraryOf false catal cells l
    → IsTableOf l false table → MemoryOr s (IsNoSource c.source source table s) → IsJudged (Places c source catal cells) (Err (refusal s None))
by_source c source catal cells l table s library pins h = judged (Places c source catal cells) (λ x. IsNoSource c.source source table x) told s h where
  told : (s : Status) → IsNoSource c.source source table s → IsFair s None (Places c source catal cells (Err (refusal s None)))
  told status.Memory u = refl
  told status.Accepted u = never c.source source table status.Accepted u (λ x. x) (λ k names e. cc e)
  told status.Usage u = never c.source source table status.Usage u (λ x. x) (λ k names e. cc e)
  told (status.File cause name) u = never c.source source table (status.File cause name) u (λ x. x) (λ k names e. cc e)
  told s u = (refl, no_source l table library pins u)
