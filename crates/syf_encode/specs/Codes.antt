-- The codes that an encoding gives to the states of a state machine.
use Rattle.std.specs.Prelude.{ℕ, ◌-◌, List, length}
use Rattle.rand_core.specs.Pcg32Seed.{pcg32_seed}
use Rattle.rand_core.specs.Steps.{first_words}
use Rattle.rand_pcg.specs.Pcg.{pcg32, pcg32_of_seed}
use Rattle.fsm_machine.specs.Fsm.{Fsm}
use Rattle.fsm_machine.specs.Codes.{Codes}
use Rattle.fsm_machine.specs.Encoding.{one_hot, random_codes, adjacent_codes}
use Rattle.syf_encode.specs.declared.style.Style.{Style}
use Rattle.syf_encode.specs.declared.style.Style.TheVariants as style

-- the first words of the generator PCG32 that this number seeds
abbrev pub words_of : ℕ → ℕ → List ℕ
words_of seed many = first_words pcg32 many (pcg32_of_seed (pcg32_seed 16 seed))

-- One bit for each state; or the numbers in order, shuffled by those words from the last place down; or these numbers, exchanged
-- again and again as long as an exchange brings states nearer of which one leads to the other.
abbrev pub codes_by : Style → Fsm → Codes
codes_by style.OneHot f = one_hot (length f.states)
codes_by (style.Random seed) f = random_codes (length f.states) (words_of seed (length f.states - 1))
codes_by style.Adjacent f = adjacent_codes f
