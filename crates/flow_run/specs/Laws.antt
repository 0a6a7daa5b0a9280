-- What follows from the definitions of what `flow` reads and of its refusals.
use Rattle.std.specs.Prelude.{ℕ, List}
use Rattle.machine_core.specs.Machine.{Machine}
use Rattle.cell_model.specs.Library.{Library}
use Rattle.boog_map.specs.Netlist.{Covers}
use Rattle.flow_words.specs.declared.words.FlowCommand.{FlowCommand}
use Rattle.tool_drive.specs.declared.status.Status.{Status}
use Rattle.flow_run.specs.Origin.{Origin}
use Rattle.flow_run.specs.Flow.{AreRead, IsWithinNodes, IsFlowRefusal}

-- Where the source is a machine that isn't too large, the files are a library that covers it, and no diagram is over the budget, none
-- of the causes of a refusal holds of them.
abbrev pub WhatIsReadIsNeverRefused : Type 0
WhatIsReadIsNeverRefused =
    (c : FlowCommand) (source catal : List ℕ) (cells : List (List ℕ)) (o : Origin) (m : Machine) (l : Library) (s : Status)
    → AreRead c source catal cells o m l → Covers l m → IsWithinNodes m c.nodes → IsFlowRefusal c source catal cells s → ⊥
