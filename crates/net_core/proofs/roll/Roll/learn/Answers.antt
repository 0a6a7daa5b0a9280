use Rattle.std.proofs.Common.{◌≡◌, sym, length, ◌++◌, ◌∷◌, [], arith}
use Rattle.net_core.proofs.Standing.{position_stands, stands_last}
use Rattle.net_core.proofs.roll.Roll.learn.Goals as goal

pub returns-in-Some-clause-place : goal.returns-in-Some-clause-place
returns-in-Some-clause-place c = position_stands c.args.self.now c.args.text.now c.in-Some.place (sym c.in-Some.ensures)

pub returns-in_ok-push-in-None-clause-place : goal.returns-in_ok-push-in-None-clause-place
returns-in_ok-push-in-None-clause-place c =
    let n : c.len-place.result ≡ length c.args.self.now = grind arith in
    let pushed : c.push.new.self ≡ c.args.self.now ++ c.args.text.now ∷ [] = grind arith in
    rw (n, pushed) (stands_last c.args.self.now c.args.text.now)
