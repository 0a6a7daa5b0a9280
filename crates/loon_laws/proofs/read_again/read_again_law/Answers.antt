use Rattle.loon_laws.proofs.Again.{read_meets, made_is_read_again, loon_is_read_again}
use Rattle.loon_laws.proofs.read_again.read_again_law.Goals as goal

pub returns-clause-read : goal.returns-clause-read
returns-clause-read c = read_meets c.library_law.ensures.passes

pub returns-clause-made : goal.returns-clause-made
returns-clause-made c = made_is_read_again (record {
  passes = c.library_law.ensures.passes;
  drivable = c.loon_law.ensures.drivable;
  writable = c.loon_law.ensures.writable;
  kept = record {
    passes = c.passes_law.ensures;
    remains = c.remains_law.ensures;
    cells = c.exchanged_law.ensures.cells;
    grown = c.driven_law.ensures.grown;
  };
  meets = c.meets_law.ensures.made;
  written = c.written_is_read_again.ensures;
  again = c.read_again.ensures;
})

pub returns-clause-loon : goal.returns-clause-loon
returns-clause-loon c = loon_is_read_again (record {
  passes = c.library_law.ensures.passes;
  drivable = c.loon_law.ensures.drivable;
  writable = c.loon_law.ensures.writable;
  kept = record {
    passes = c.passes_law.ensures;
    remains = c.remains_law.ensures;
    cells = c.exchanged_law.ensures.cells;
    grown = c.driven_law.ensures.grown;
  };
  meets = c.meets_law.ensures.made;
  written = c.written_is_read_again.ensures;
  again = c.read_again.ensures;
})
