use Rattle.std.proofs.Common.{◌+◌, arith, sym, refl}
use Rattle.boom_muxes.proofs.Tabling.{says_found_by, table_less}
use Rattle.boom_muxes.proofs.muxes.Muxes.add.Goals as goal

pub returns-in-Some-clause-says : goal.returns-in-Some-clause-says
returns-in-Some-clause-says c =
    says_found_by c.args.self.now c.args.mux c.in-Some.place (c.args.self.now.held + c.in-Some.place) c.requires.table (sym c.in-Some.ensures.index) refl

pub overflow_add-weight : goal.overflow_add-weight
overflow_add-weight c =
    let l = table_less c.args.self.now c.requires.table in
    let f = c.requires.table.few in
    let o = c.weight-own.ensures.most in
    omega (arith, l, f, o)
