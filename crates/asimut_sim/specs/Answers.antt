-- What one pattern comes to, and why patterns aren't filled in.
use Rattle.std.specs.Prelude.{◌≡◌, ℕ, Bool, List, Option, None, Some, length, slice_index_or}
use Rattle.vlsi_base.specs.declared.name.Name.{Name}
use Rattle.machine_core.specs.Named.{value_at}
use Rattle.machine_core.specs.Machine.{Machine, inputs}
use Rattle.pat_meaning.specs.declared.patterns.Column.{Column}
use Rattle.pat_meaning.specs.declared.patterns.Pattern.{Pattern}
use Rattle.pat_meaning.specs.declared.patterns.Patterns.{Patterns}
use Rattle.pat_meaning.specs.Circuit.{of_machine}
use Rattle.pat_meaning.specs.Simulation.{vector, clock_bit, rises, Takes, Compared, compared_values, first_difference, filled_values}
use Rattle.pat_meaning.specs.Answers.{DiffersAt}
use Rattle.asimut_sim.specs.Listed.{other_place}
use Rattle.asimut_sim.specs.declared.refusal.SimError.{SimError}
use Rattle.asimut_sim.specs.declared.refusal.SimError.TheVariants.{Memory, Differs}

-- One pattern is observed as w: the registers go from s to t, and the clock from `before` to `now`.
pub record Sees (m : Machine) (columns : List Column) (p : Pattern) (s : List Bool) (before : Bool) (t : List Bool) (now : Bool) (w : List Bool) : Type 0 where
  pub clock : now ≡ clock_bit m.clock columns p.values
  pub takes : Takes (rises before (clock_bit m.clock columns p.values)) (of_machine m) (vector (inputs m) columns p.values) s w t

-- the pattern expects what is observed as w, and `made` is the pattern with every output filled in
pub record Agrees (m : Machine) (columns : List Column) (p : Pattern) (number : ℕ) (w : List Bool) (made : Pattern) : Type 0 where
  pub none_differs : first_difference (compared_values (value_at m.vars w) number columns p.values) ≡ None
  pub answer : made ≡ record p { values = filled_values (value_at m.vars w) columns p.values }

-- of what is observed as w, this bit is the first that isn't what the pattern expects
pub record Disagrees (m : Machine) (columns : List Column) (p : Pattern) (number : ℕ) (w : List Bool) (pattern : ℕ) (bit : Name) : Type 0 where
  pub at : Compared
  pub first : first_difference (compared_values (value_at m.vars w) number columns p.values) ≡ Some at
  pub told : at.pattern ≡ pattern
  pub name : at.name ≡ bit

abbrev pub DisagreesIn : Machine → List Column → Pattern → ℕ → List Bool → SimError → Type 0
DisagreesIn m columns p number w Memory = Unit {0}
DisagreesIn m columns p number w (Differs pattern bit) = Disagrees m columns p number w pattern bit

-- one pattern from one state to the next
pub record Passes (m : Machine) (columns : List Column) (p : Pattern) (number : ℕ) (s : List Bool) (before : Bool) (t : List Bool) (now : Bool) (made : Pattern) : Type 0 where
  pub w : List Bool
  pub sees : Sees m columns p s before t now w
  pub agrees : Agrees m columns p number w made

pub record Stops (m : Machine) (columns : List Column) (p : Pattern) (number : ℕ) (s : List Bool) (before : Bool) (pattern : ℕ) (bit : Name) : Type 0 where
  pub w : List Bool
  pub t : List Bool
  pub now : Bool
  pub each : length t ≡ length m.registers
  pub sees : Sees m columns p s before t now w
  pub disagrees : Disagrees m columns p number w pattern bit

abbrev pub StopsAt : Machine → List Column → Pattern → ℕ → List Bool → Bool → SimError → Type 0
StopsAt m columns p number s before Memory = Unit {0}
StopsAt m columns p number s before (Differs pattern bit) = Stops m columns p number s before pattern bit

-- why the patterns aren't filled in: for lack of memory, or since they differ there
abbrev pub IsRefusal : Machine → Patterns → SimError → Type 0
IsRefusal m p Memory = Unit {0}
IsRefusal m p (Differs pattern bit) = DiffersAt m p pattern bit

-- this is the name and the pattern of the first bit of a list that is seen as another than is wanted
pub record IsOther (names : List Name) (wanted : List (Option Bool)) (seen : List Bool) (number told : ℕ) (bit : Name) : Type 0 where
  pub place : ℕ
  pub other : other_place wanted seen ≡ Some place
  pub pattern : told ≡ number
  pub name : bit ≡ slice_index_or names place bit

abbrev pub IsOtherIn : List Name → List (Option Bool) → List Bool → ℕ → SimError → Type 0
IsOtherIn names wanted seen number Memory = Unit {0}
IsOtherIn names wanted seen number (Differs pattern bit) = IsOther names wanted seen number pattern bit
