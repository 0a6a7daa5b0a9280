use Rattle.std.proofs.Common.{◌≡◌, drop}
use Rattle.fsm_text.specs.Chains.{named_by}
use Rattle.fsm_text.proofs.counting.named_by.Given as goal

abbrev pub invariant-loop-pragma : goal.invariant-loop-pragma
invariant-loop-pragma l = named_by l.key (drop l.pragma-index l.pragmas) ≡ named_by l.key l.fn.pragmas
