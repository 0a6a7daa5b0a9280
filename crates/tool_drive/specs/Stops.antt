-- Why reading stops, stage by stage.
use Rattle.std.specs.Prelude.{◌≡◌, List, IfSome}
use Rattle.vlsi_shelf.specs.Counts.{Rose}
use Rattle.vlsi_shelf.specs.Seen.{ShelfSeen}
use Rattle.tool_drive.specs.declared.status.Status.{Status}
use Rattle.tool_drive.specs.declared.status.Status.TheVariants as status
use Rattle.tool_drive.specs.declared.status.FileCause.TheVariants.{Missing, ReadFault}
use Rattle.tool_drive.specs.declared.read.Stop.{Stop}
use Rattle.tool_drive.specs.declared.read.Stop.TheVariants as stop
use Rattle.tool_drive.specs.declared.tool.Wanted.{Wanted}
use Rattle.tool_drive.specs.Plan.{Plan, lacking, long, reading, Comes, Gathers, IsReached, IsAsked}
use Rattle.tool_drive.specs.Table.{file_limit}

-- why one file isn't read
abbrev pub IsFileStop : ShelfSeen → ShelfSeen → Wanted → Stop → Type 0
IsFileStop before now w stop.Memory = Unit {0}
IsFileStop before now w (stop.Missing name) = (name ≡ w.name) × Rose before.counts.misses now.counts.misses × Comes before.files w (lacking name)
IsFileStop before now w (stop.ReadFault name) = (name ≡ w.name) × Rose before.counts.read_faults now.counts.read_faults
IsFileStop before now w (stop.Long most) = Comes before.files w (long most)

-- why not all files of a list are read
abbrev pub IsListStop : ShelfSeen → ShelfSeen → List Wanted → Stop → Type 0
IsListStop before now ws stop.Memory = Unit {0}
IsListStop before now ws (stop.Missing name) =
    Rose before.counts.misses now.counts.misses × IsReached before.files ws name × Gathers before.files ws (lacking name)
IsListStop before now ws (stop.ReadFault name) = Rose before.counts.read_faults now.counts.read_faults × IsReached before.files ws name
IsListStop before now ws (stop.Long most) = Gathers before.files ws (long most)

-- why not all files of a plan are read
abbrev pub IsPlanStop : ShelfSeen → ShelfSeen → Plan → Stop → Type 0
IsPlanStop before now plan stop.Memory = Unit {0}
IsPlanStop before now plan (stop.Missing name) =
    Rose before.counts.misses now.counts.misses × IsAsked before.files plan name × IfSome before.files (λ files. reading files plan ≡ lacking name)
IsPlanStop before now plan (stop.ReadFault name) = Rose before.counts.read_faults now.counts.read_faults × IsAsked before.files plan name
IsPlanStop before now plan (stop.Long most) = IfSome before.files (λ files. reading files plan ≡ long most)

abbrev pub stopped : Stop → Status
stopped stop.Memory = status.Memory
stopped (stop.Missing name) = status.File Missing name
stopped (stop.ReadFault name) = status.File ReadFault name
stopped (stop.Long most) = status.Limit (file_limit most)
