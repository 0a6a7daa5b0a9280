use Rattle.std.proofs.Common.{◌<◌, arith}
use Rattle.std.proofs.lemmas.List.Elements.{All-from_get_or}
use Rattle.cell_match.proofs.Numbers.{times_some}
use Rattle.cell_match.proofs.table.ordered.Goals as goal

pub gathered-put-requires : goal.gathered-put-requires
gathered-put-requires c =
    let few = c.requires.few in (
      omega arith,
      (
        omega arith,
        (
          omega arith,
          (
            omega arith,
            (
              omega (arith, few),
              All-from_get_or (λ p. p < 6) c.args.order.now 0 (λ i low. c.requires.low _ (times_some c.args.order.now i low)),
            ),
          ),
        ),
      ),
    )
