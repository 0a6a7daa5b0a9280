use Rattle.std.proofs.Common.{◌<◌, ◌≤◌, ◌∙◌, length, rules, sym}
use Rattle.vhdl_reader.proofs.Places.{passed_one, passed_all, shorter}
use Rattle.vhdl_reader.proofs.done.pass.Goals as goal

pub loop-cursor-preserved : goal.loop-cursor-preserved
loop-cursor-preserved c =
    let more : c.args.left < length c.loop-cursor.cursor.rest = search rules in
    rw c.skip.ensures (passed_one c.args.left c.loop-cursor.cursor more ∙ c.loop-cursor.invariant)

pub loop-cursor-smaller : goal.loop-cursor-smaller
loop-cursor-smaller c =
    let more : c.args.left < length c.loop-cursor.cursor.rest = search rules in
    rw c.skip.ensures (shorter c.args.left c.loop-cursor.cursor.rest more)

pub returns : goal.returns
returns c =
    let few : length c.loop-cursor.cursor.rest ≤ c.args.left = search rules in
    sym (passed_all c.args.left c.loop-cursor.cursor few) ∙ c.loop-cursor.invariant
