-- The checks of a text with each free bit 0, and of where its free bits stand.
use Rattle.std.specs.Prelude.{◌≡◌, ℕ, true, false, List, [], ◌∷◌, Option, None, Some, Result, Ok, Err}
use Rattle.vlsi_base.specs.declared.fault.ReadError.{ReadError}
use Rattle.vlsi_base.specs.declared.fault.ReadError.TheVariants as errors
use Rattle.source_checks.specs.declared.statement.DesignFile.{DesignFile}
use Rattle.source_checks.specs.Checks.{first_fault, Passes, IsRefused}
use Rattle.source_checks.specs.Elaboration.{IsMachineOf}
use Rattle.machine_core.specs.Machine.{Machine}
use Rattle.source_checks.specs.Symbols.{symbols}
use Rattle.vbe_text.specs.Source.{source_view}
use Rattle.machine_free.specs.declared.machine.FreeMachine.{FreeMachine}
use Rattle.machine_free.specs.Free.{AreFree}
use Rattle.vbe_free.specs.Filled.{filled, free_forms}
use Rattle.vbe_free.specs.Text.{unsupported, with_form, with_forms, IsFaulty}

-- what is answered where a free bit stands on this line where none may, and the checks answer so
abbrev pub form_fault : ℕ → Result Machine ReadError → ReadError
form_fault line (Ok m) = unsupported line
form_fault line (Err errors.Memory) = errors.Memory
form_fault line (Err (errors.Input f)) = with_form line (errors.Input f)
form_fault line (Err (errors.Limit l)) = with_form line (errors.Limit l)

-- the machine, where no free bit stands where none may
abbrev pub IsPlacedMachine : DesignFile → Option ℕ → Machine → Type 0
IsPlacedMachine low misplaced m = (misplaced ≡ None) × Passes low × IsMachineOf low m

-- the refusal, where the first free bit that stands where none may is on this line, if there is one; or memory has run out
abbrev pub IsPlacedRefusal : DesignFile → Option ℕ → ReadError → Type 0
IsPlacedRefusal low None e = IsRefused low e
IsPlacedRefusal low (Some line) errors.Memory = Unit {0}
IsPlacedRefusal low (Some line) (errors.Input f) = with_forms (line ∷ []) (first_fault low) ≡ Some (errors.Input f)
IsPlacedRefusal low (Some line) (errors.Limit l) = with_forms (line ∷ []) (first_fault low) ≡ Some (errors.Limit l)

-- ---- of what is written

-- the machine of what is written with each free bit 0, where each stands where it may
pub record IsLowOf (wrote : DesignFile) (m : Machine) : Type 0 where
  pub low : DesignFile
  pub zeros : source_view low ≡ filled false (source_view wrote)
  pub passes : Passes low
  pub placed : free_forms (symbols low) (source_view wrote) ≡ []
  pub machine : IsMachineOf low m

-- why it has none
pub record IsLowFault (wrote : DesignFile) (e : ReadError) : Type 0 where
  pub low : DesignFile
  pub zeros : source_view low ≡ filled false (source_view wrote)
  pub why : IsFaulty (source_view wrote) low e

abbrev pub IsLowRefusal : DesignFile → ReadError → Type 0
IsLowRefusal wrote errors.Memory = Unit {0}
IsLowRefusal wrote (errors.Input f) = IsLowFault wrote (errors.Input f)
IsLowRefusal wrote (errors.Limit l) = IsLowFault wrote (errors.Limit l)

-- the machines of what is written with each free bit 0 and with each 1
pub record AreMachinesOf (wrote : DesignFile) (m : FreeMachine) : Type 0 where
  pub first : IsLowOf wrote m.low
  pub high : DesignFile
  pub ones : source_view high ≡ filled true (source_view wrote)
  pub second : IsMachineOf high m.high
  pub agree : AreFree m.low m.high
