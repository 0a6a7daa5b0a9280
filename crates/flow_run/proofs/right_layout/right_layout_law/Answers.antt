use Rattle.flow_run.proofs.right_layout.right_layout_law.Goals as goal

pub returns : goal.returns
returns c = λ bytes o m l fanout route report right s t v size matched vectors. let one = right.agrees.once t v vectors in (one.0, one.1, right.agrees.same s t v one.0 size matched vectors one.1)
