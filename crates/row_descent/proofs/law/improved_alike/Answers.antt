use Rattle.row_descent.proofs.Alike.{improved_alike}
use Rattle.row_descent.proofs.law.improved_alike.Goals as goal

pub returns : goal.returns
returns c = improved_alike
