use Rattle.std.proofs.Common.{sym, subst, false}
use Rattle.source_checks.specs.Codes.{AreSmall, same_bool}
use Rattle.source_checks.specs.Marks.{has}
use Rattle.source_checks.proofs.Least.{least_small}
use Rattle.source_checks.proofs.drivers.undriven_bit.Goals as goal

pub name_at-requires : goal.name_at-requires
name_at-requires c =
    let small : AreSmall c.deref.result.now = subst AreSmall (sym c.deref.ensures.value) c.in_ok-codes.ensures.small in
    least_small 4294967296 (λ k. same_bool false (has c.args.marks.now (c.args.place, k))) c.deref.result.now small c.in-Some.code c.in-Some.ensures
