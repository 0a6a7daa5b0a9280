use Rattle.std.proofs.Common.{rules, ◌≡◌, true, false, bytes_eq}
use Rattle.pat_io.proofs.Firsts.{none_by_name, first_between}
use Rattle.pat_io.proofs.first_bit.first_in.Goals as goal

pub returns-then-eq : goal.returns-then-eq
returns-then-eq c =
    let named : bytes_eq c.args.column.now.name c.args.name.now ≡ true = search rules in
    first_between c.args.name.now c.args.range c.in-Some.other c.args.column.now c.first_in_both.result named c.in-Some.is c.first_in_both.ensures

pub returns : goal.returns
returns c =
    let other : bytes_eq c.args.column.now.name c.args.name.now ≡ false = search rules in
    none_by_name c.args.name.now c.args.range c.args.column.now other
