use Rattle.std.proofs.Common.{rules, ◌≡◌, ℕ, List, subst}
use Rattle.std.specs.List.{list_any}
use Rattle.pat_io.specs.Known.{lists}
use Rattle.pat_io.specs.FirstBit.{FirstOf}
use Rattle.pat_io.proofs.Ranges.{bit_name}
use Rattle.pat_io.proofs.Firsts.{named_in_range}
use Rattle.pat_io.proofs.first_bit.first_again.Goals as goal

pub returns-in-Some : goal.returns-in-Some
returns-in-Some c =
    let named : c.as_bytes.result.now ≡ c.args.column.now.name = search rules in
    let First : List ℕ → Type 0 = λ text. FirstOf (λ k. list_any (lists (bit_name text k)) c.args.before.now) c.in-Some.range c.first_in_any.result in
    named_in_range c.args.before.now c.args.column.now c.in-Some.range c.first_in_any.result c.in-Some.is c.requires.again (subst First named c.first_in_any.ensures)
