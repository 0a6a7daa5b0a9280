use Rattle.loon_drive.proofs.Exchanged.{cells_stay, right_stays, fanout_stays}
use Rattle.loon_drive.proofs.laws.exchanged_law.Goals as goal

pub returns-clause-cells : goal.returns-clause-cells
returns-clause-cells c = cells_stay

pub returns-clause-right : goal.returns-clause-right
returns-clause-right c = right_stays c.exchanged_law.ensures

pub returns-clause-fanout : goal.returns-clause-fanout
returns-clause-fanout c = fanout_stays
