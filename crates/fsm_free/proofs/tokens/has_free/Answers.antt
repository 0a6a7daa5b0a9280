use Rattle.fsm_free.proofs.Operands.{looked, found}
use Rattle.fsm_free.specs.declared.tokens.Place.TheVariants as place
use Rattle.fsm_free.specs.Tokens.{has_free}
use Rattle.std.proofs.Common.{false}
use Rattle.fsm_free.proofs.tokens.has_free.Goals as goal

pub returns-then-takes_free : goal.returns-then-takes_free
returns-then-takes_free c =
    found c.loop-rest.begins c.loop-rest.here c.loop-rest.rest.now c.takes_free.result (has_free false place.Before c.args.tokens.now) c.takes_free.ensures c.if-takes_free.true c.loop-rest.invariant

pub loop-rest-preserved : goal.loop-rest-preserved
loop-rest-preserved c =
    looked c.loop-rest.begins c.loop-rest.here c.loop-rest.rest.now c.behind_next-rest.result.now c.begins_behind-begins.result c.place_behind-here.result c.takes_free.result
    (has_free false place.Before c.args.tokens.now) c.takes_free.ensures c.if-takes_free.false c.begins_behind-begins.ensures c.place_behind-here.ensures c.behind_next-rest.ensures c.loop-rest.invariant
