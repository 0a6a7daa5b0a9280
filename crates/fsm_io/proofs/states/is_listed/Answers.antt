use Rattle.std.proofs.Common.{List, ℕ, ap, ◌∙◌}
use Rattle.std.specs.Option.{is_some}
use Rattle.source_checks.specs.Known.{position_of}
use Rattle.fsm_io.proofs.StateNames.{place_listed}
use Rattle.fsm_io.proofs.states.is_listed.Goals as goal

pub returns-in-Some : goal.returns-in-Some
returns-in-Some c = ap is_some c.in-Some.ensures ∙ ap (λ (t : List ℕ). is_some (position_of c.args.names.now t)) c.as_bytes.ensures ∙ place_listed c.args.names.now c.args.text.now

pub returns-in-None : goal.returns-in-None
returns-in-None c = ap is_some c.in-None.ensures ∙ ap (λ (t : List ℕ). is_some (position_of c.args.names.now t)) c.as_bytes.ensures ∙ place_listed c.args.names.now c.args.text.now
