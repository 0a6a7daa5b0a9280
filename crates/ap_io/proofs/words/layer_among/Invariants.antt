use Rattle.std.proofs.Common.{◌≡◌, drop}
use Rattle.ap_io.specs.Words.{layer_among}
use Rattle.ap_io.proofs.words.layer_among.Given as goal

-- none of those before the index has the word
abbrev pub invariant-loop-layer : goal.invariant-loop-layer
invariant-loop-layer l = layer_among l.word (drop l.layer-index l.layers) ≡ layer_among l.word l.layers
