use Rattle.nero_maze.proofs.board.keep_off.Goals as goal

pub returns-clause-idle : goal.returns-clause-idle
returns-clause-idle c = c.requires.sound.idle
