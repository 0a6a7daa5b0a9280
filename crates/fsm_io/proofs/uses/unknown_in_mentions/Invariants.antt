use Rattle.std.proofs.Common.{◌≡◌, map, drop}
use Rattle.std.specs.List.{flat_map}
use Rattle.source_checks.specs.Places.{first_unknown}
use Rattle.fsm_io.specs.Looks.{uses_at}
use Rattle.fsm_io.specs.Pieces.{mention_of, named_of}
use Rattle.fsm_io.proofs.uses.unknown_in_mentions.Given as goal

abbrev pub invariant-loop-mention : goal.invariant-loop-mention
invariant-loop-mention l =
    first_unknown l.table (flat_map (uses_at (named_of l.roles)) (map mention_of (drop l.mention-index l.mentions)))
    ≡ first_unknown l.table (flat_map (uses_at (named_of l.roles)) (map mention_of l.mentions))
