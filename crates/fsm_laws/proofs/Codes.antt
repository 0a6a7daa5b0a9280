-- The codes of each style, and how many bits they have.
use Rattle.std.proofs.Common.{ℕ, zero, suc, ◌+◌, ◌-◌, ◌^◌, ◌≤◌, Bool, true, false, [], length, arith, if◌then◌else◌}
use Rattle.std.specs.Prelude.{nat_le}
use Rattle.fsm_machine.specs.Fsm.{Fsm}
use Rattle.fsm_machine.specs.Codes.{AreCodes}
use Rattle.fsm_machine.specs.Encoding.{width_from, EncodingsAreCodes}
use Rattle.syf_encode.specs.declared.style.Style.{Style}
use Rattle.syf_encode.specs.declared.style.Style.TheVariants as style
use Rattle.syf_encode.specs.Codes.{words_of, codes_by}

pub codes_are : EncodingsAreCodes → (how : Style) (f : Fsm) → AreCodes (length f.states) (codes_by how f)
codes_are law style.OneHot f = (law f []).0
codes_are law (style.Random seed) f = (law f (words_of seed (length f.states - 1))).1
codes_are law style.Adjacent f = (law f []).2

from_low : (n b more : ℕ) → width_from n b more ≤ b + more
from_low n b zero = omega arith
from_low n b (suc more) = by (nat_le n (2 ^ b)) (from_low n (suc b) more) where
  by : (t : Bool) → width_from n (suc b) more ≤ suc b + more → (if t then b else width_from n (suc b) more) ≤ b + suc more
  by true h = omega arith
  by false h = omega (arith, h)

-- a code has no more bits than there are states
pub width_low : (how : Style) (f : Fsm) → (codes_by how f).width ≤ length f.states
width_low style.OneHot f = omega arith
width_low (style.Random seed) f = let low = from_low (length f.states) 0 (length f.states) in omega (arith, low)
width_low style.Adjacent f = let low = from_low (length f.states) 0 (length f.states) in omega (arith, low)
