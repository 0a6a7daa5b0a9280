use Rattle.std.proofs.Common.{◌∙◌, ℕ, List, length, ap, arith}
use Rattle.text_names.specs.Free.{free_texts}
use Rattle.text_names.proofs.Enough.{are_free}
use Rattle.vbe_print.proofs.names.inner_texts.Goals as goal

pub free_texts-requires : goal.free_texts-requires
free_texts-requires c = let few = c.count_inner-many.ensures.few in omega (arith, few, c.requires)

pub returns-clause-are : goal.returns-clause-are
returns-clause-are c = c.in_ok-signals.ensures ∙ ap (free_texts c.args.stem.now c.args.taken.now) c.count_inner-many.ensures.count

pub returns-clause-each : goal.returns-clause-each
returns-clause-each c =
    let few = c.count_inner-many.ensures.few in
    let many = c.count_inner-many.result in
    ap (λ (ts : List (List ℕ)). length ts) c.in_ok-signals.ensures
    ∙ (are_free c.args.stem.now c.args.taken.now many (omega (arith, few, c.requires))).each ∙ c.count_inner-many.ensures.count
