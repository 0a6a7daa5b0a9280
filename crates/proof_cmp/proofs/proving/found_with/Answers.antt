use Rattle.std.proofs.Common.{sym, ◌∙◌}
use Rattle.proof_cmp.proofs.Comparing.{kept_found}
use Rattle.proof_cmp.proofs.proving.found_with.Goals as goal

pub returns-then-is_some : goal.returns-then-is_some
returns-then-is_some c = λ b pairs p named joins w. kept_found c.args.m.now b pairs p c.args.found (sym c.is_some.ensures ∙ c.if-is_some.true) w
