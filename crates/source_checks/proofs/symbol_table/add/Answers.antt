use Rattle.std.proofs.Common.{subst, ◌∙◌, List, ℕ}
use Rattle.source_checks.specs.Lookup.{Learns}
use Rattle.source_checks.proofs.Knowing.{still_knows}
use Rattle.source_checks.proofs.symbol_table.add.Goals as goal

pub returns-clause-knows : goal.returns-clause-knows
returns-clause-knows c =
    let learns = subst (λ (t : List ℕ). Learns c.args.places.now c.learn_place.new.places t c.len.result) c.as_bytes.ensures c.in_ok-learn_place.ensures in
    still_knows c.args.places.now c.learn_place.new.places c.args.items.now.items c.push.new.self.items c.args.symbol c.len.result c.requires (c.len.ensures ∙ c.args.items.now.ok.0) learns c.in_ok-push.ensures.items
