use Rattle.std.proofs.Common.{◌≡◌, map, drop}
use Rattle.std.specs.List.{flat_map}
use Rattle.source_checks.specs.Lines.{first_line}
use Rattle.fsm_io.specs.Widths.{widths_at}
use Rattle.fsm_io.specs.Pieces.{mention_of, named_of}
use Rattle.fsm_io.proofs.widths.fault_in_mentions.Given as goal

abbrev pub invariant-loop-mention : goal.invariant-loop-mention
invariant-loop-mention l =
    first_line (flat_map (widths_at l.table (named_of l.roles)) (map mention_of (drop l.mention-index l.mentions)))
    ≡ first_line (flat_map (widths_at l.table (named_of l.roles)) (map mention_of l.mentions))
