-- What is written of a state machine is a sentence.
use Rattle.std.specs.Prelude.{◌≡◌, ◌≤◌, length, None}
use Rattle.std.specs.List.{All}
use Rattle.vlsi_base.specs.declared.limits.TheConstants.{MOST_SOURCE_BYTES}
use Rattle.vlsi_base.specs.declared.name.Name.{Name}
use Rattle.fsm_machine.specs.Fsm.{Fsm}
use Rattle.fsm_core.specs.Checked.{IsCheckedFsm}
use Rattle.grammar_theory.specs.declared.limits.TheConstants.{DEPTH, CHAIN}
use Rattle.vst_print.specs.Says.{IsShort, IsSmallPort}
use Rattle.vhdl_lexer.specs.Listing.{tokens_in, refusal_in}
use Rattle.source_checks.specs.Checks.{most_ports}
use Rattle.fsm_text.specs.Texts.{IsMachine}
use Rattle.fsm_print.specs.declared.words.Words.{Words}
use Rattle.fsm_print.specs.Writable.{CanBeFsm}
use Rattle.fsm_print.specs.Written.{AreWords, text}
use Rattle.fsm_print.specs.Nesting.{IsBodyWithin, times_in}
use Rattle.fsm_print.specs.Placed.{placed_pragmas, machine_of}

-- The text is within the limits of texts: names have at most 64 bytes and bits numbers of 32 bits; no more ifs, cases and parentheses
-- are open together, no expression is longer, and no bit and not the next state is assigned more often than a text may have it; and
-- there are few enough ports and bytes.
pub record IsWithinLimits (w : Words) (f : Fsm) : Type 0 where
  pub name : IsShort f.name
  pub ports : All IsSmallPort f.ports
  pub states : All (λ s. IsShort s.text) f.states
  pub nested : IsBodyWithin w DEPTH f.body
  pub assigned : (n : Name) → times_in w n f.body ≤ CHAIN
  pub few_ports : length f.ports ≤ most_ports
  pub short : length (text w f) ≤ MOST_SOURCE_BYTES

-- The text has no place without a token, its tokens are a sentence of the grammar of state machines, whose value is this one, and its
-- pragmas are these.
pub record IsSentence (w : Words) (f : Fsm) : Type 0 where
  pub cut : refusal_in (text w f) ≡ None
  pub machine : IsMachine (tokens_in (text w f)) (machine_of w f)
  pub pragmas : (tokens_in (text w f)).pragmas ≡ placed_pragmas w f.clock.text

abbrev pub WrittenIsASentence : Type 0
WrittenIsASentence =
    (f : Fsm) (w : Words) → IsCheckedFsm f → CanBeFsm f → AreWords f w → IsWithinLimits w f → IsSentence w f
