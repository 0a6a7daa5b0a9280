use Rattle.std.proofs.Common.{◌≤◌, ℕ, List, length, arith, sym, subst}
use Rattle.vlsi_base.specs.declared.limits.TheConstants.{MOST_SOURCE_BYTES}
use Rattle.real_table.proofs.Listing.{few_lines, refused_lines}
use Rattle.real_table.proofs.reader.read_process.Goals as goal

pub read_lines-requires : goal.read_lines-requires
read_lines-requires c =
    let few = few_lines c.args.bytes.now in
    subst (λ (lines : List (List ℕ)). length lines ≤ MOST_SOURCE_BYTES) (sym c.new-lines.ensures) (omega (arith, few, c.if-bytes-gt-MOST_SOURCE_BYTES.false))

pub returns-clause-refused : goal.returns-clause-refused
returns-clause-refused c =
    refused_lines c.read_lines.result c.args.bytes.now c.new-lines.result c.new-lines.ensures c.if-bytes-gt-MOST_SOURCE_BYTES.false c.read_lines.ensures.refused
