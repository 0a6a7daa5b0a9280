use Rattle.std.proofs.Common.{◌∙◌, sym}
use Rattle.vlsi_base.proofs.Cutting.{cut_at, some_bytes, lines_end}
use Rattle.vlsi_base.proofs.lines.Lines.next_line.Goals as goal

pub returns-clause-some : goal.returns-clause-some
returns-clause-some c =
    cut_at c.self.inside.text.now c.behind-self-inside.result.now c.line_length-length.result c.args.self.now c.self.view_is (some_bytes _ _ c.is_empty.ensures c.if-is_empty.false) c.line_length-length.ensures.count c.behind-self-inside.ensures

pub returns-then-is_empty-clause-none : goal.returns-then-is_empty-clause-none
returns-then-is_empty-clause-none c = λ _. sym c.self.view_is ∙ lines_end _ _ c.is_empty.ensures c.if-is_empty.true
