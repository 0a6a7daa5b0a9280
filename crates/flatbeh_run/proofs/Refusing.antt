-- From the refusals of readers and of the netlist's machine to the tool's.
use Rattle.std.proofs.Common.{◌≡◌, ℕ, true, List, [], ◌∷◌, None, Err, false, sym, subst, refl}
use Rattle.vlsi_base.specs.declared.fault.FaultKind.TheVariants as kind
use Rattle.vlsi_base.specs.declared.name.Name.{Name}
use Rattle.machine_core.specs.Machine.{Machine}
use Rattle.cell_model.specs.Library.{Library}
use Rattle.cell_lib.specs.Library.{IsLibraryOf}
use Rattle.cell_pins.specs.Table.{IsTableOf}
use Rattle.net_core.specs.declared.pins.ModelPins.{ModelPins}
use Rattle.net_core.specs.Netlist.{Netlist}
use Rattle.net_flat.specs.declared.error.FlatError.{FlatError}
use Rattle.net_flat.specs.declared.error.FlatError.TheVariants as flat
use Rattle.net_flat.specs.Answers.{IsFlatRefusal}
use Rattle.net_flat.specs.Flat.{IsPlain, AreApart, IsFlat}
use Rattle.vst_io.specs.Text.{IsVst}
use Rattle.flatbeh_run.specs.declared.words.FlatbehCommand.{FlatbehCommand}
use Rattle.tool_drive.specs.declared.status.Status.{Status}
use Rattle.tool_drive.specs.Table.{IsJudged, IsFair, refusal}
use Rattle.tool_drive.specs.Refusals.{whole_fault, MemoryOr, judged}
use Rattle.flatbeh_run.specs.Flatbeh.{HasVectorClock, no_behaviour, twice, vector_clock, Flattens, IsToldOf}

module _ (c : FlatbehCommand) (source list : List ℕ) (cells : List (List ℕ)) where
  module _ (l : Library) (table : List ModelPins) (library : IsLibraryOf false list cells l) (pins : IsTableOf l true table) where
    module _ (n : Netlist) (netlist : IsVst source table n) where
      told_flat : (e : FlatError) → IsFlatRefusal n l e → (t : Status) → IsToldOf c e t → IsFair t None (Flattens c source list cells (Err (refusal t None)))
      told_flat flat.Memory h t k = absurd k
      told_flat (flat.NoBehaviour model) h t k =
          subst (λ (s : Status). IsFair s None (Flattens c source list cells (Err (refusal s None)))) (sym k)
          (refl, no_behaviour l table n model (record { library = library; pins = pins; netlist = netlist }) h refl)
      told_flat (flat.Twice text) h t k =
          subst (λ (s : Status). IsFair s None (Flattens c source list cells (Err (refusal s None)))) (sym k)
          (refl, twice l table n text (record { library = library; pins = pins; netlist = netlist }) h.0 h.1 refl)

      pub by_flat : (e : FlatError) (s : Status) → IsFlatRefusal n l e → MemoryOr s (IsToldOf c e s) → IsJudged (Flattens c source list cells) (Err (refusal s None))
      by_flat e s h k = judged (Flattens c source list cells) (IsToldOf c e) (told_flat e h) s k

      module _ (m : Machine) (plain : IsPlain n l) (apart : AreApart n l) (is : IsFlat n l table m) where
        pub by_clock : (name : Name) (s : Status) → HasVectorClock m name → MemoryOr s (s ≡ whole_fault c.source kind.ClockUse (name ∷ [])) → IsJudged (Flattens c source list cells) (Err (refusal s None))
        by_clock name s h k =
            judged (Flattens c source list cells) (λ t. t ≡ whole_fault c.source kind.ClockUse (name ∷ []))
            (λ t e.
            subst (λ (s : Status). IsFair s None (Flattens c source list cells (Err (refusal s None)))) (sym e)
            (refl, vector_clock l table n m name (record { library = library; pins = pins; netlist = netlist }) plain apart is h refl)) s k
