use Rattle.std.proofs.Common.{◌∙◌, ℕ, List, sym, subst}
use Rattle.net_core.specs.Places.{IsThere}
use Rattle.loon_wiring.specs.Repeaters.{IsFirst}
use Rattle.scan_theory.specs.Path.{added, IsTaken}
use Rattle.scan_checks.proofs.Firsts.{first_by}
use Rattle.scan_checks.proofs.names.first_taken.Goals as goal

pub returns-in-Some-clause-found : goal.returns-in-Some-clause-found
returns-in-Some-clause-found c =
    subst (λ (t : List ℕ). IsFirst (IsTaken c.args.netlist.now) (added c.args.many) t) (sym c.in_ok-copy-in-Some.ensures)
    (subst (λ (ts : List (List ℕ)). IsFirst (IsTaken c.args.netlist.now) ts c.in-Some.text.now) (c.deref.ensures.value ∙ c.in_ok-names.ensures)
    (first_by (IsThere c.in_ok-used.used) (IsTaken c.args.netlist.now) c.deref.result.now c.in-Some.text.now c.in_ok-used.ensures c.in-Some.ensures.found))
