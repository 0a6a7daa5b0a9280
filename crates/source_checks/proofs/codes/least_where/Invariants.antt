use Rattle.std.proofs.Common.{◌≡◌, drop}
use Rattle.std.specs.Prelude.{filter}
use Rattle.source_checks.specs.Codes.{least_code, same_bool}
use Rattle.source_checks.specs.Marks.{has}
use Rattle.source_checks.proofs.Least.{together}
use Rattle.source_checks.proofs.codes.least_where.Given as goal

abbrev pub invariant-loop-code : goal.invariant-loop-code
invariant-loop-code l =
    together l.least (least_code (filter (λ code. same_bool l.marked (has l.marks (l.place, code))) (drop l.code-index l.codes)))
    ≡ least_code (filter (λ code. same_bool l.marked (has l.marks (l.place, code))) l.codes)
