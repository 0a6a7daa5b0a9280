use Rattle.std.proofs.Common.{rules, ◌≡◌, ◌∙◌, sym, take}
use Rattle.std.specs.List.{list_any}
use Rattle.pat_io.specs.Apart.{share_bit}
use Rattle.pat_io.proofs.Listing.{none_shared}
use Rattle.pat_io.proofs.Rising.{none_before}
use Rattle.pat_io.proofs.known.is_listed.Goals as goal

pub returns-then-place-apart-clause-shares : goal.returns-then-place-apart-clause-shares
returns-then-place-apart-clause-shares c = sym (none_before c.args.columns.now c.args.apart c.args.place c.args.column.now c.if-place-apart.true c.requires.inside c.requires.at c.requires.apart)

pub returns-then-place-apart-clause-none : goal.returns-then-place-apart-clause-none
returns-then-place-apart-clause-none c = λ f.
    none_shared (take c.args.place c.args.columns.now) c.args.column.now
    (none_before c.args.columns.now c.args.apart c.args.place c.args.column.now c.if-place-apart.true c.requires.inside c.requires.at c.requires.apart)

pub returns-clause-none : goal.returns-clause-none
returns-clause-none c =
    let is : c.shares_bit.result ≡ list_any (share_bit c.args.column.now) (take c.args.place c.args.columns.now) = search rules in
    λ f. none_shared (take c.args.place c.args.columns.now) c.args.column.now (sym is ∙ f)
