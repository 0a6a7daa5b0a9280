use Rattle.std.proofs.Common.{ℕ, List, Option, ◌<◌, subst, sym}
use Rattle.std.specs.Prelude.{IfSome}
use Rattle.grid_core.specs.declared.grid.Grid.{Grid}
use Rattle.grid_core.specs.Numbers.{nodes}
use Rattle.nero_maze.specs.Search.{reserved_in}
use Rattle.nero_maze.specs.Ripping.{IsFreedAt}
use Rattle.nero_maze.proofs.Freeing.{Walks, left_to_free, walks_begin, walks_next, walks_end, walks_reserved, left_less}
use Rattle.nero_maze.proofs.tear.free_path.Goals as goal

pub loop-next-init : goal.loop-next-init
loop-next-init c =
    walks_begin c.args.net (reserved_in c.args.room.now.owners.items c.args.reserved.now.items) c.args.end c.args.room.now c.requires.room c.requires.end

pub loop-next-preserved : goal.loop-next-preserved
loop-next-preserved c =
    let net = c.args.net in
    let old = c.args.room.now in
    let mid = c.loop-next.room in
    let after = c.free_node-next.new.room in
    let node = c.in-Some.node in
    let flags = c.args.reserved.now.items in
    let reserved = reserved_in old.owners.items flags in
    let inv = c.loop-next.invariant in
    let e = c.free_node-next.ensures in
    let lt : node < nodes old.grid = subst (λ (o : Option ℕ). IfSome o (λ v. v < nodes old.grid)) c.in-Some.is inv.within in
    let h = subst (λ (o : Option ℕ). Walks net reserved c.args.end old mid o) c.in-Some.is inv in
    let same = walks_reserved net flags old mid c.requires.room inv.room inv.grid inv.either in
    let freed = subst (λ (r : List ℕ). IsFreedAt net r node mid after) same e.freed in
    let within = subst (λ (g : Grid). IfSome c.free_node-next.result (λ v. v < nodes g)) inv.grid e.within in
    walks_next net reserved c.args.end old mid after node c.free_node-next.result lt h freed within e.on e.none

pub loop-next-smaller : goal.loop-next-smaller
loop-next-smaller c =
    let mid = c.loop-next.room in
    let after = c.free_node-next.new.room in
    let less = left_less c.args.net (reserved_in mid.owners.items c.args.reserved.now.items) mid after c.in-Some.node c.free_node-next.result c.free_node-next.ensures.freed
    c.free_node-next.ensures.none in
    subst (λ (o : Option ℕ). left_to_free after c.free_node-next.result < left_to_free mid o) (sym c.in-Some.is) less

pub returns : goal.returns
returns c =
    walks_end c.args.net (reserved_in c.args.room.now.owners.items c.args.reserved.now.items) c.args.end c.args.room.now c.loop-next.room c.loop-next.next c.in_default.is
    c.loop-next.invariant
