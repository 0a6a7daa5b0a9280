use Rattle.std.proofs.Common.{false, refl}
use Rattle.std.proofs.lemmas.Result.{err_from_is_err_and}
use Rattle.lexer_base.proofs.Reading.{stands, goes_on, refuses, ends}
use Rattle.vhdl_lexer.specs.Listing.{cut, behind, refusal_in}
use Rattle.vhdl_lexer.proofs.listing.whole_text.Goals as goal

pub loop-at-preserved : goal.loop-at-preserved
loop-at-preserved c =
    let text = c.args.bytes.now in
    let here = stands cut text c.loop-at.at false c.in_ok-piece.piece c.loop-at-test.true c.in_ok-piece.ensures.piece c.in_ok-piece.ensures.within in
    let says = c.in_ok-take.ensures in
    rw c.length-at.ensures (goes_on cut behind text c.loop-at.at _ _ false _ _ c.in_ok-piece.piece _ _ false _ _ c.loop-at.invariant here says.items says.pragmas refl says.line says.last_line says.goes_on)

pub returns-in_err-take-clause-refused : goal.returns-in_err-take-clause-refused
unfolding refusal_in
returns-in_err-take-clause-refused c =
    let text = c.args.bytes.now in
    let here = stands cut text c.loop-at.at false c.in_ok-piece.piece c.loop-at-test.true c.in_ok-piece.ensures.piece c.in_ok-piece.ensures.within in
    let p = err_from_is_err_and c.from_residual-in_err-take.result c.from_residual-in_err-take.ensures.1 in
    rw (p.1, p.2) (refuses cut behind text c.loop-at.at _ _ false _ _ c.in_ok-piece.piece c.in_err-take.field-0.0 c.loop-at.invariant here c.in_err-take.ensures.refused)

pub returns-clause-read : goal.returns-clause-read
returns-clause-read c = ends cut behind c.args.bytes.now c.loop-at.at false c.loop-at.front c.loop-at.invariant c.loop-at-test.false
