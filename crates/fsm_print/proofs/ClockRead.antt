-- The process at the clock has no fault: its condition is the clock's rise, and it loads the next state.
use Rattle.std.proofs.Common.{◌≡◌, ℕ, true, false, List, [], bytes_eq, is_none, Some, refl, ap, ◌∙◌}
use Rattle.vlsi_base.specs.Names.{scalar}
use Rattle.source_checks.specs.declared.symbol_table.Role.TheVariants as role
use Rattle.source_checks.specs.declared.symbol_table.Symbol.{Symbol}
use Rattle.source_checks.specs.Symbols.{find}
use Rattle.source_checks.specs.Widths.{declared_width, found_width, condition_faults, if_not}
use Rattle.vbe_laws.proofs.Plain.{AreUsed, nothing, width_found}
use Rattle.vbe_laws.proofs.Guards.{IsClock}
use Rattle.fsm_text.specs.Written.{ClockTree}
use Rattle.fsm_io.specs.Looks.{clock_uses}
use Rattle.fsm_io.specs.Widths.{wide_enough, clock_widths}
use Rattle.fsm_io.specs.Unsupported.{read_forms, clock_load, clock_forms}
use Rattle.fsm_io.specs.Clock.{is_edge}
use Rattle.fsm_print.specs.declared.words.Words.{Words}
use Rattle.fsm_print.specs.Placed.{named_at, rises}
use Rattle.fsm_print.proofs.KnownRead.{InRole}
use Rattle.fsm_print.proofs.Body.{itself}
use Rattle.fsm_print.proofs.Quiet.{roles_with}

-- the process, its condition on this line and what it loads on that
abbrev pub process_with : Words → List ℕ → ℕ → ℕ → ClockTree
process_with w clock rise load = record { sensitivity = []; condition_line = rise; condition = rises rise clock; target = named_at load w.current; value = named_at load w.next }

-- what is known of the names in it
pub record CanClock (known : List Symbol) (text : List ℕ) (w : Words) : Type 0 where
  pub clock : IsClock known text
  pub current : InRole known role.Inner (scalar w.current)
  pub next : InRole known role.Inner (scalar w.next)
  pub apart : bytes_eq w.current w.next ≡ false

clock_width : (known : List Symbol) (text : List ℕ) → IsClock known text → found_width (find known text) ≡ 1
clock_width known text c = ap found_width c.found ∙ ap declared_width c.scalar

pub process_uses : (known : List Symbol) (clock : List ℕ) (w : Words) (rise load : ℕ) → CanClock known clock w → AreUsed known (clock_uses (process_with w clock rise load))
process_uses known clock w rise load c =
    let u : is_none (find known clock) ≡ false = ap is_none c.clock.found in
    (u, (u, (ap is_none c.current.declared.found, (ap is_none c.next.declared.found, tt))))

pub process_widths : (known : List Symbol) (clock : List ℕ) (w : Words) (rise load : ℕ) → CanClock known clock w → clock_widths known (roles_with w clock) (process_with w clock rise load) ≡ []
process_widths known clock w rise load c =
    let a : condition_faults known rise (rises rise clock) ≡ [] = rw (clock_width known clock c.clock) refl in
    let next : found_width (find known w.next) ≡ 1 = width_found known (scalar w.next) c.next.declared refl in
    let current : found_width (find known w.current) ≡ 1 = width_found known (scalar w.current) c.current.declared refl in
    let b : wide_enough (bytes_eq w.current w.next) (Some (found_width (find known w.next))) (Some (found_width (find known w.current))) load ≡ [] =
    ap (λ (k : ℕ). wide_enough (bytes_eq w.current w.next) (Some k) (Some (found_width (find known w.current))) load) next
    ∙ ap (λ (k : ℕ). wide_enough (bytes_eq w.current w.next) (Some 1) (Some k) load) current
    ∙ ap (λ t. wide_enough t (Some 1) (Some 1) load) c.apart in
    nothing (condition_faults known rise (rises rise clock)) (wide_enough (bytes_eq w.current w.next) (Some (found_width (find known w.next))) (Some (found_width (find known w.current))) load) a b

pub process_forms : (clock : List ℕ) (w : Words) (rise load : ℕ) → clock_forms (roles_with w clock) (process_with w clock rise load) ≡ []
process_forms clock w rise load =
    let c = process_with w clock rise load in
    let n = roles_with w clock in
    let a : read_forms (λ text. bytes_eq text clock) true (rises rise clock) ≡ [] = rw (itself clock) refl in
    let b : clock_load n c ≡ [] =
    nothing (if_not (bytes_eq w.current w.current) load) (if_not (bytes_eq w.next w.next) load) (ap (λ t. if_not t load) (itself w.current)) (ap (λ t. if_not t load) (itself w.next)) in
    nothing (read_forms (λ text. bytes_eq text clock) true (rises rise clock)) (clock_load n c) a b

pub process_edge : (known : List Symbol) (clock : List ℕ) (rise : ℕ) → IsClock known clock → is_edge known clock (rises rise clock) ≡ true
process_edge known clock rise c = rw (itself clock, c.clocks, itself clock) refl
