use Rattle.loon_laws.proofs.Alike.{behaves}
use Rattle.loon_laws.proofs.Running.{run_alike}
use Rattle.loon_laws.proofs.meaning.driven_behaves_law.Goals as goal

pub returns-clause-behaves : goal.returns-clause-behaves
returns-clause-behaves c = behaves c.remains_law.ensures c.exchanged_law.ensures.cells

pub returns-clause-runs : goal.returns-clause-runs
returns-clause-runs c n l fanout k delay y x passed is_n is_k of_cells d seen_y seen_x =
    run_alike l y x (behaves c.remains_law.ensures c.exchanged_law.ensures.cells n l fanout k delay y x passed is_n is_k of_cells d seen_y seen_x)
