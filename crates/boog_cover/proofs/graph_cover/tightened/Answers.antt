use Rattle.std.proofs.Common.{◌≡◌, ◌≤◌, ◌∙◌, ℕ, List, Option, None, Some, refl, sym, subst, arith}
use Rattle.cell_match.specs.declared.gate.CellWord.{CellWord}
use Rattle.cell_match.specs.declared.gate.Gate.{Gate}
use Rattle.cell_match.specs.Places.{times}
use Rattle.boog_tight.specs.Cover.{leaves_of, gate_at, IsCover}
use Rattle.boog_tight.specs.Tight.{IsTight}
use Rattle.boog_cover.proofs.Counting.{written}
use Rattle.boog_cover.proofs.graph_cover.tightened.Goals as goal

once_each : (cells : List CellWord) (held : ℕ) (gates : List (Option Gate)) (roots : List ℕ) (a x : ℕ) (o : Option Gate) → IsCover cells held gates roots
    → gate_at gates a ≡ o → times x (leaves_of o) ≤ 1
once_each cells held gates roots a x None cover e = omega arith
once_each cells held gates roots a x (Some g) cover e = (cover.gate a g e).once x

pub count-requires-clause-once : goal.count-requires-clause-once
count-requires-clause-once c = λ a x.
    subst (λ (gs : List (Option Gate)). times x (leaves_of (gate_at gs a)) ≤ 1) (sym c.deref.ensures.value)
    (once_each c.args.cells.now c.args.held c.args.gates.items c.args.roots.now a x (gate_at c.args.gates.items a) c.requires.cover refl)

pub returns-clause-tight : goal.returns-clause-tight
returns-clause-tight c =
    let long = c.tighten.auto.gates ∙ c.deref_mut-2.ensures.len in
    let is = written c.tighten.new.gates c.args.gates.items c.args.gates.len long in
    subst (λ (gs : List (Option Gate)). IsTight c.args.cells.now gs c.args.roots.now) (sym is) c.tighten.ensures.tight
