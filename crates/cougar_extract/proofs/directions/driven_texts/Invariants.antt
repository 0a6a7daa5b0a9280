use Rattle.std.proofs.Common.{take}
use Rattle.cougar_extract.proofs.Linking.{TextsTo}
use Rattle.cougar_extract.proofs.directions.driven_texts.Given as goal

abbrev pub invariant-loop-link : goal.invariant-loop-link
invariant-loop-link l = TextsTo (take l.link-index l.links) l.links l.texts
