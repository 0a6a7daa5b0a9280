-- That the words and the files decide the status of tools.
use Rattle.std.specs.Prelude.{◌≡◌, ◌⊎◌, Bool, List, ℕ}
use Rattle.net_core.specs.declared.pins.ModelPins.{ModelPins}
use Rattle.cell_model.specs.Library.{Library}
use Rattle.cell_lib.specs.Library.{IsLibraryOf}
use Rattle.cell_pins.specs.Table.{IsTableOf}
use Rattle.tool_drive.specs.declared.status.Status.{Status}
use Rattle.syf_run.specs.declared.words.SyfCommand.{SyfCommand}
use Rattle.syf_run.specs.Syf.{syf_plan, syf_answers}
use Rattle.fmi_run.specs.declared.words.FmiCommand.{FmiCommand}
use Rattle.fmi_run.specs.Fmi.{fmi_plan, fmi_answers}
use Rattle.boom_run.specs.declared.words.BoomCommand.{BoomCommand}
use Rattle.boom_run.specs.Boom.{boom_plan, boom_answers}
use Rattle.boog_run.specs.declared.words.BoogCommand.{BoogCommand}
use Rattle.boog_run.specs.Boog.{boog_plan, boog_answers}
use Rattle.area_run.specs.declared.words.AreaCommand.{AreaCommand}
use Rattle.area_run.specs.Area.{area_plan, area_answers}
use Rattle.druc_run.specs.declared.words.DrucCommand.{DrucCommand}
use Rattle.druc_run.specs.Druc.{druc_plan, druc_answers}
use Rattle.lvx_run.specs.declared.words.LvxCommand.{LvxCommand}
use Rattle.lvx_run.specs.Lvx.{lvx_plan, lvx_answers}
use Rattle.flow_run.specs.OneStatus.{RunsAgree, NamesSourceRing}

-- the two are the same, with the same names and numbers
abbrev pub AreSame : Status → Status → Type 0
AreSame s t = s ≡ t

-- they are the same, or both name a ring of this file: of several rings any may be named
abbrev pub AreSameOrRings : List ℕ → Status → Status → Type 0
AreSameOrRings file s t = (s ≡ t) ⊎ (NamesSourceRing file s × NamesSourceRing file t)

-- Two runs of one command over the same files, in which no call failed, have one status, up to out of memory. So it is of each of these
-- tools.
abbrev pub SyfHasOneStatus : Type 0
SyfHasOneStatus = (c : SyfCommand) → RunsAgree (syf_plan c) (syf_answers c) AreSame

abbrev pub FmiHasOneStatus : Type 0
FmiHasOneStatus = (c : FmiCommand) → RunsAgree (fmi_plan c) (fmi_answers c) AreSame

abbrev pub BoomHasOneStatus : Type 0
BoomHasOneStatus = (c : BoomCommand) → RunsAgree (boom_plan c) (boom_answers c) (AreSameOrRings c.source)

abbrev pub BoogHasOneStatus : Type 0
BoogHasOneStatus = (c : BoogCommand) → RunsAgree (boog_plan c) (boog_answers c) (AreSameOrRings c.source)

abbrev pub AreaHasOneStatus : Type 0
AreaHasOneStatus = (c : AreaCommand) → RunsAgree (area_plan c) (area_answers c) (AreSameOrRings c.source)

abbrev pub DrucHasOneStatus : Type 0
DrucHasOneStatus = (c : DrucCommand) → RunsAgree (druc_plan c) (druc_answers c) AreSame

-- ---- netlists

-- Two libraries of the same files, whether checked for tracks or not, have one table of pins.
abbrev pub TablesAreOne : Type 0
TablesAreOne =
    (tracks others : Bool) (catal : List ℕ) (files : List (List ℕ)) (l k : Library) (all : Bool) (t u : List ModelPins)
    → IsLibraryOf tracks catal files l → IsLibraryOf others catal files k → IsTableOf l all t → IsTableOf k all u → t ≡ u

-- they are the same, or both name a ring of instances of SOURCE, or both of the second file
abbrev pub AgreeOnNetlists : LvxCommand → Status → Status → Type 0
AgreeOnNetlists c s t = AreSameOrRings c.source s t ⊎ (NamesSourceRing c.other s × NamesSourceRing c.other t)

abbrev pub LvxHasOneStatus : Type 0
LvxHasOneStatus = (c : LvxCommand) → RunsAgree (lvx_plan c) (lvx_answers c) (AgreeOnNetlists c)
