-- The table's rows stand behind the line of a refusal.
use Rattle.std.proofs.Common.{◌≡◌, ◌⊎◌, ◌≤◌, arith, ℕ, List, true, Option, Result, ◌∙◌, subst, inl, inr}
use Rattle.vlsi_shelf.specs.Counts.{Rose}
use Rattle.vlsi_shelf.specs.Seen.{ShelfSeen, SinkSeen}
use Rattle.vlsi_shelf.specs.Sink.{Puts, PutsPart}
use Rattle.tool_drive.specs.declared.status.Status.{Status}
use Rattle.tool_drive.specs.declared.status.Status.TheVariants as status
use Rattle.tool_drive.specs.declared.status.FileCause.TheVariants.{Missing, ReadFault, WriteFault, OutFault}
use Rattle.tool_drive.specs.declared.tool.Product.{Product}
use Rattle.tool_drive.specs.declared.tool.Refusal.{Refusal}
use Rattle.tool_drive.specs.Status.{has_line}
use Rattle.tool_drive.specs.Outside.{Outside, outside, IsLine}
use Rattle.tool_drive.specs.Plan.{Plan, Inputs}
use Rattle.tool_drive.specs.Table.{Caused}

pub still : (plan : Plan) (A : Inputs → Result Product Refusal → Type 0) (before : Outside) (shelf : ShelfSeen) (mid now : SinkSeen) (s : Status) → has_line s ≡ true
    → Caused plan A before (outside shelf mid) s → Caused plan A before (outside shelf now) s
still plan A before shelf mid now status.Accepted l h = absurd (cc l)
still plan A before shelf mid now (status.File OutFault name) l h = absurd (cc l)
still plan A before shelf mid now (status.File WriteFault name) l h = h
still plan A before shelf mid now (status.File Missing name) l h = h
still plan A before shelf mid now (status.File ReadFault name) l h = h
still plan A before shelf mid now _ l h = h

-- a line behind a call that printed nothing
pub line_behind : (before mid now : SinkSeen) (line : List ℕ) → mid.told ≡ before.told → before.faults ≤ mid.faults → IsLine mid now line → IsLine before now line
line_behind before mid now line told faults h = elim h [
  | inl whole ↦ inl (subst (λ (t : Option (List ℕ)). Puts t now.told line) told whole)
  | inr rest ↦ inr (elim rest as (λ _. (PutsPart before.told now.told line × Rose before.faults now.faults) ⊎ (now.told ≡ before.told)) [
    | inl part ↦ inl (subst (λ (t : Option (List ℕ)). PutsPart t now.told line) told part.0, omega (arith, part.1))
    | inr none ↦ inr (none ∙ told)
  ])
]
