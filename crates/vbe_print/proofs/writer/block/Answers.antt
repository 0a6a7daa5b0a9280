use Rattle.std.proofs.Common.{◌++◌}
use Rattle.std.proofs.lemmas.Result.{on_ok_weaker}
use Rattle.bool_expr.specs.View.{view}
use Rattle.machine_core.specs.View.{register_view}
use Rattle.vbe_print.specs.Written.{block_head_layout, block_end, loading_layout}
use Rattle.vbe_print.proofs.Texts.{put_two}
use Rattle.vbe_print.proofs.writer.block.Goals as goal

pub returns : goal.returns
returns c =
    let names = c.args.speller.now.names.now in
    let r = c.args.register.now in
    let head = block_head_layout names c.args.clock.now c.args.number (view r.enable) in
    let load = loading_layout names (register_view r) in
    let a = c.begin_block.new.out in
    let z = c.append.new.self in
    on_ok_weaker c.append.result
    (λ e. put_two head (load ++ block_end) c.args.out.now a z c.in_ok-begin_block.ensures (put_two load block_end a c.loading.new.out z c.in_ok-loading.ensures e))
    c.append.ensures.ok
