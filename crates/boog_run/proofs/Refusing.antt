-- From the refusals of readers and of mapping to the tool's.
use Rattle.std.proofs.Common.{ℕ, List, None, Err, false, sym, subst, refl}
use Rattle.machine_core.specs.Machine.{Machine}
use Rattle.vbe_io.specs.Text.{IsVbe}
use Rattle.cell_model.specs.Library.{Library}
use Rattle.cell_lib.specs.Library.{IsLibraryOf}
use Rattle.boog_run.specs.declared.words.BoogCommand.{BoogCommand}
use Rattle.tool_drive.specs.declared.status.Status.{Status}
use Rattle.tool_drive.specs.Table.{IsJudged, IsFair, refusal}
use Rattle.tool_drive.specs.Refusals.{MemoryOr, judged}
use Rattle.boog_run.specs.Boog.{IsNoNetlist, too_large, no_cover, no_netlist, Maps}

-- a machine without a netlist is refused by a status of judging
fair : (l : Library) (m : Machine) (s : Status) (P : Type 0) → IsNoNetlist l m s → P → IsFair s None P
fair l m s P (too_large big is) p = subst (λ (t : Status). IsFair t None P) (sym is) p
fair l m s P (no_cover small k missing is) p = subst (λ (t : Status). IsFair t None P) (sym is) p

pub by_netlist : (c : BoogCommand) (source list : List ℕ) (cells : List (List ℕ)) (l : Library) (m : Machine) (s : Status)
    → IsLibraryOf false list cells l → IsVbe source m → MemoryOr s (IsNoNetlist l m s)
    → IsJudged (Maps c source list cells) (Err (refusal s None))
by_netlist c source list cells l m s library machine h = judged (Maps c source list cells) (λ t. IsNoNetlist l m t) told s h where
  told : (t : Status) → IsNoNetlist l m t → IsFair t None (Maps c source list cells (Err (refusal t None)))
  told t k = fair l m t (Maps c source list cells (Err (refusal t None))) k (refl, no_netlist l m library machine k)
