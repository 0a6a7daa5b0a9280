use Rattle.std.proofs.Common.{rules, ◌≡◌, Some, sym, ap, ◌∙◌}
use Rattle.source_checks.specs.Symbols.{find}
use Rattle.vbe_free.proofs.Single.{whole_bit, bits_bit}
use Rattle.vbe_free.proofs.misplaced.target_bit.Goals as goal

pub returns-in-Some : goal.returns-in-Some
returns-in-Some c =
    let found : find c.args.table.now c.args.target.now.name ≡ Some c.in-Some.symbol.now = search rules in
    whole_bit c.args.table.now c.args.target.now c.in-Some.symbol.now c.only_bit.result c.in-Whole.is found c.only_bit.ensures

pub returns-in-Bits : goal.returns-in-Bits
returns-in-Bits c = bits_bit c.args.table.now c.args.target.now c.in-Bits.range c.only_bit-in-Bits.result c.in-Bits.is c.only_bit-in-Bits.ensures
