-- What follows of the machine that a state machine's text is made by codes of its states.
use Rattle.std.specs.Prelude.{◌≡◌, ℕ, List}
use Rattle.machine_core.specs.Machine.{Machine}
use Rattle.fsm_machine.specs.Fsm.{Fsm}
use Rattle.fsm_machine.specs.Codes.{Codes}
use Rattle.syf_encode.specs.declared.style.Style.{Style}
use Rattle.vbe_writable.specs.Declared.{CanBeDeclared}
use Rattle.syf_run.specs.Syf.{IsEncodedSource}

-- With the supplies, an entity of a text can declare its name and ports, and these are short and few.
abbrev pub EncodedCanBeDeclared : Type 0
EncodedCanBeDeclared = (source : List ℕ) (how : Style) (f : Fsm) (c : Codes) (m : Machine) → IsEncodedSource source how f c m → CanBeDeclared m

-- A text is one machine by one style.
abbrev pub EncodedIsOne : Type 0
EncodedIsOne =
    (source : List ℕ) (how : Style) (f g : Fsm) (c k : Codes) (m n : Machine)
    → IsEncodedSource source how f c m → IsEncodedSource source how g k n → m ≡ n
