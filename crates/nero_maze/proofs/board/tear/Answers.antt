use Rattle.std.proofs.Common.{refl}
use Rattle.nero_maze.proofs.Freed.{all_freed}
use Rattle.nero_maze.proofs.Tearing.{torn_hulls, torn_log}
use Rattle.nero_maze.proofs.board.tear.Goals as goal

pub returns-clause-torn : goal.returns-clause-torn
returns-clause-torn c =
    let b = c.args.board.now in
    let freed = all_freed b c.args.net c.requires.sound c.free_paths.new.room c.free_paths.ensures in
    record {
      freed = freed;
      log = torn_log b c.args.net c.requires.sound c.free_paths.new.room c.drop_freed.new.log freed c.drop_freed.ensures;
      frontier = refl;
      reserved = refl;
    }

pub returns-clause-holds : goal.returns-clause-holds
returns-clause-holds c =
    let b = c.args.board.now in
    let freed = all_freed b c.args.net c.requires.sound c.free_paths.new.room c.free_paths.ensures in
    let log = torn_log b c.args.net c.requires.sound c.free_paths.new.room c.drop_freed.new.log freed c.drop_freed.ensures in
    rw c.keep_hull.ensures (torn_hulls b c.args.net c.requires.sound c.free_paths.new.room c.drop_freed.new.log freed log
    c.hull_of_logged-hull.result c.hull_of_logged-hull.ensures)
