use Rattle.std.proofs.Common.{◌≡◌, inl, inr, ℕ, List, Result, Ok, Err, IsErrOf, OnOk, refl, ap, subst, ◌∙◌}
use Rattle.vlsi_shelf.specs.declared.sink.SinkError.{SinkError}
use Rattle.vlsi_shelf.specs.declared.sink.SinkError.TheVariants as errors
use Rattle.vlsi_shelf.specs.Counts.{Rose}
use Rattle.vlsi_shelf.specs.Seen.{SinkSeen}
use Rattle.vlsi_shelf.specs.Sink.{Puts, PutsPart}
use Rattle.tool_drive.specs.Outside.{IsLine}
use Rattle.tool_words.specs.Table.{Entry}
use Rattle.tool_words.specs.Usage.{usage_of}
use Rattle.tool_run.proofs.usage.tell_usage.Goals as goal

-- however one put ends, what it put is this line, as far as it came
line_put : (before now : SinkSeen) (bytes line : List ℕ) (r : Result (Unit {0}) SinkError) → bytes ≡ line → OnOk r (Puts before.told now.told bytes)
    → (IsErrOf r errors.Memory → now.told ≡ before.told) → (IsErrOf r errors.Failed → Rose before.faults now.faults)
    → (IsErrOf r errors.Failed → PutsPart before.told now.told bytes) → IsLine before now line
line_put before now bytes line (Ok u) is ok memory failed part = inl (subst (λ (b : List ℕ). Puts before.told now.told b) is ok)
line_put before now bytes line (Err errors.Memory) is ok memory failed part = inr (inr (memory refl))
line_put before now bytes line (Err errors.Failed) is ok memory failed part =
    inr (inl (subst (λ (b : List ℕ). PutsPart before.told now.told b) is (part refl), failed refl))

pub returns-in-Ok : goal.returns-in-Ok
returns-in-Ok g c =
    line_put (g.T.Sink.seen c.args.out.now) (g.T.Sink.seen c.put.new.self) c.as_bytes.result.now _ c.put.result
    (c.as_bytes.ensures ∙ c.in-Ok.ensures ∙ ap (λ (es : List Entry). usage_of es c.args.words.now) c.entries.ensures)
    c.put.ensures.ok c.put.ensures.memory c.put.ensures.failed c.put.ensures.part
