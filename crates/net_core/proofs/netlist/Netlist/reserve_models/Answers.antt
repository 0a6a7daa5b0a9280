use Rattle.std.proofs.Common.{List, ℕ, subst}
use Rattle.net_core.specs.Frame.{ReservesNames}
use Rattle.net_core.proofs.Finishing.{on_ok}
use Rattle.net_core.proofs.Changing.{reserves_models}
use Rattle.net_core.proofs.netlist.Netlist.reserve_models.Goals as goal

pub returns-clause-reserved : goal.returns-clause-reserved
returns-clause-reserved c =
    on_ok c.reserve_models.result (λ (r : ReservesNames c.self.inside.frame c.reserve_models.new.self c.as_slice.result.now).
    reserves_models c.self.inside.name c.self.inside.frame c.reserve_models.new.self c.self.inside.classes.items c.self.inside.count c.args.self.now c.args.names.now c.self.view_is
    (subst (λ (xs : List (List ℕ)). ReservesNames c.self.inside.frame c.reserve_models.new.self xs) c.as_slice.ensures r)) c.reserve_models.ensures.reserved
