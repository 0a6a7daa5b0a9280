use Rattle.s2r_cif.proofs.Cutting.{edges_push}
use Rattle.s2r_cif.proofs.making.put_cut.Goals as goal

pub returns-clause-edges : goal.returns-clause-edges
returns-clause-edges c = edges_push c.args.cuts.now.items c.push.new.self.items _ c.in_ok-push.ensures.items c.requires.old_edges c.real_rect-rect.ensures.edges
