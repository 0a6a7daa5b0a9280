-- From the refusals of readers and of buffering to the tool's.
use Rattle.std.proofs.Common.{ℕ, List, None, Err, false, sym, subst, refl}
use Rattle.cell_model.specs.Library.{Library}
use Rattle.cell_lib.specs.Library.{IsLibraryOf}
use Rattle.cell_pins.specs.Table.{IsTableOf}
use Rattle.net_core.specs.declared.pins.ModelPins.{ModelPins}
use Rattle.net_core.specs.Netlist.{Netlist}
use Rattle.vst_io.specs.Text.{IsVst}
use Rattle.loon_fanout.specs.declared.error.BufferError.{BufferError}
use Rattle.loon_fanout.specs.declared.error.BufferError.TheVariants as error
use Rattle.loon_fanout.specs.Limited.{IsBufferRefusal}
use Rattle.loon_drive.specs.Driven.{most_sinks}
use Rattle.loon_run.specs.declared.words.LoonCommand.{LoonCommand}
use Rattle.tool_drive.specs.declared.status.Status.{Status}
use Rattle.tool_drive.specs.Table.{IsJudged, IsFair, refusal}
use Rattle.tool_drive.specs.Refusals.{MemoryOr, judged}
use Rattle.loon_run.specs.Loon.{no_buffer, Limits, IsToldOf}

module _ (c : LoonCommand) (source list : List ℕ) (cells : List (List ℕ)) where
  module _ (l : Library) (table : List ModelPins) (library : IsLibraryOf false list cells l) (pins : IsTableOf l false table) where
    module _ (n : Netlist) (netlist : IsVst source table n) where
      told : (e : BufferError) → IsBufferRefusal n l (most_sinks c.fanout) e → (t : Status) → IsToldOf e t → IsFair t None (Limits c source list cells (Err (refusal t None)))
      told error.Memory h t k = absurd k
      told error.NoBuffer h t k =
          subst (λ (s : Status). IsFair s None (Limits c source list cells (Err (refusal s None)))) (sym k)
          (refl, no_buffer l table n (record { library = library; pins = pins; netlist = netlist }) h.0 h.1 refl)

      pub by_drive : (e : BufferError) (s : Status) → IsBufferRefusal n l (most_sinks c.fanout) e → MemoryOr s (IsToldOf e s) → IsJudged (Limits c source list cells) (Err (refusal s None))
      by_drive e s h k = judged (Limits c source list cells) (IsToldOf e) (told e h) s k
