use Rattle.std.proofs.Common.{◌<◌, length, arith, sym, ◌∙◌}
use Rattle.nero_maze.proofs.Theory.{read_at}
use Rattle.nero_maze.proofs.Reserving.{flag_at, reserved_flagged, reserved_free}
use Rattle.nero_maze.proofs.frontier.reserved_word.Goals as goal

pub returns-then-flag : goal.returns-then-flag
returns-then-flag c =
    let o = c.args.owners.now.items in
    let r = c.args.reserved.now.items in
    let lt = c.requires.node in
    let within : c.args.node < length r = (let size = c.requires.size in omega arith) in
    let flag = flag_at r c.args.node c.index-flag.result.now within c.index-flag.ensures ∙ c.if-flag.true in
    sym (reserved_flagged o r c.args.node lt flag ∙ read_at o c.args.node c.index-owner.result.now lt c.index-owner.ensures)

pub returns-else-flag : goal.returns-else-flag
returns-else-flag c =
    let r = c.args.reserved.now.items in
    let lt = c.requires.node in
    let within : c.args.node < length r = (let size = c.requires.size in omega arith) in
    let flag = flag_at r c.args.node c.index-flag.result.now within c.index-flag.ensures ∙ c.if-flag.false in
    sym (reserved_free c.args.owners.now.items r c.args.node lt flag)
