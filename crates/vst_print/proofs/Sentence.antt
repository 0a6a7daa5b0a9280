-- What is written of a netlist is a sentence.
use Rattle.std.proofs.Common.{◌≡◌}
use Rattle.vst_print.specs.Written.{structure_of, layout}
use Rattle.vst_print.specs.Says.{WrittenIsASentence}
use Rattle.vst_print.proofs.Fits.{sentence}
use Rattle.vst_print.proofs.Netlists.{facts, can_be_laid_out}

pub written_is_a_sentence : WrittenIsASentence
unfolding layout
written_is_a_sentence n table is fits pins named limits = sentence (structure_of n table) (can_be_laid_out n table is (facts n table is fits pins named limits) limits)
