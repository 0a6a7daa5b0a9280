use Rattle.std.proofs.Common.{◌≡◌, ◌≤◌, map}
use Rattle.fsm_text.specs.declared.file.Body.{size-Body}
use Rattle.fsm_text.specs.Written.{statement_view, body_view, followed}
use Rattle.fsm_io.specs.Linked.{AreSmaller}
use Rattle.fsm_io.proofs.linked.statements.Given as goal

abbrev pub invariant-loop-rest : goal.invariant-loop-rest
invariant-loop-rest l = record {
  less : size-Body l.rest ≤ size-Body l.fn.body;
  whole : followed (map (λ s. statement_view s.now) l.list.items) (body_view l.rest) ≡ body_view l.fn.body;
  smaller : AreSmaller l.fn.body (map (λ s. s.now) l.list.items);
}
