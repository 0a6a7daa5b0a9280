use Rattle.std.proofs.Common.{rules, ◌≡◌, subst, sym}
use Rattle.std.proofs.lemmas.Result.{err_from_is_err_and}
use Rattle.pat_meaning.specs.declared.patterns.Patterns.{Patterns}
use Rattle.pat_meaning.specs.Answers.{AreFor}
use Rattle.pat_io.specs.Digits.{patterns_for}
use Rattle.pat_io.proofs.ForPorts.{fault_refuses, are_for}
use Rattle.pat_io.proofs.reader.read_pat.Goals as goal

pub returns-in_err-check-clause-refused : goal.returns-in_err-check-clause-refused
returns-in_err-check-clause-refused c =
    let p = err_from_is_err_and c.from_residual-in_err-check.result c.from_residual-in_err-check.ensures.1 in
    rw (p.1, p.2) (fault_refuses c.args.bytes.now c.args.ports.now c.in_ok-parsed.parsed c.in_ok-parsed.ensures.written c.in_err-check.field-0.0 (search rules))

pub returns-clause-fits : goal.returns-clause-fits
returns-clause-fits c =
    let For : Patterns → Type 0 = λ p. AreFor c.args.ports.now p in
    let made : c.in_ok-made.made ≡ patterns_for c.in_ok-parsed.parsed = search rules in
    subst For (sym made) (are_for c.args.bytes.now c.args.ports.now c.in_ok-parsed.parsed c.in_ok-parsed.ensures.written (search rules))
