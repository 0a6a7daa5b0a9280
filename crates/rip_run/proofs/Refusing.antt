-- From the refusals of what is read and of routing to the tool's.
use Rattle.std.proofs.Common.{None, Result, Ok, Err, IfOk, IfErr, refl}
use Rattle.cell_model.specs.Library.{Library}
use Rattle.net_core.specs.Netlist.{Netlist}
use Rattle.ocp_place.specs.Placed.{InRow}
use Rattle.tool_drive.specs.declared.status.Status.{Status}
use Rattle.tool_drive.specs.declared.tool.Product.{Product}
use Rattle.tool_drive.specs.declared.tool.Refusal.{Refusal}
use Rattle.tool_drive.specs.Table.{IsFair, IsJudged, refusal}
use Rattle.tool_drive.specs.Refusals.{fair_then}
use Rattle.nero_run.specs.Nero.{Texts, IsPlainRefusal, IsRoutable}
use Rattle.rip_run.specs.Asked.{AskedRips}
use Rattle.rip_run.specs.Rip.{IsLaidOut, IsLeftStuck, plain, stuck, Rips}

-- what was refused before
pub by_given : (c : AskedRips) (t : Texts) (s : Status) → IsFair s None (IsPlainRefusal c.routing t s) → IsJudged (Rips c t) (Err (refusal s None))
by_given c t s h = fair_then s None (IsPlainRefusal c.routing t s) (Rips c t (Err (refusal s None))) (λ x. plain refl x) h

-- what routing comes to
pub by_routes : (c : AskedRips) (t : Texts) (l : Library) (n : Netlist) (p : InRow) → IsRoutable c.routing t l n p → (r : Result Product Refusal) → IfOk r (λ q. IsLaidOut c l n p q)
    → IfErr r (λ e. IsFair e.status e.part (IsLeftStuck c l n p e)) → IsJudged (Rips c t) r
by_routes c t l n p x (Ok q) good bad = record { l = l; n = n; placement = p; routable = x; laid = good }
by_routes c t l n p x (Err e) good bad = fair_then e.status e.part (IsLeftStuck c l n p e) (Rips c t (Err e)) (λ s. stuck l n p x s) bad
