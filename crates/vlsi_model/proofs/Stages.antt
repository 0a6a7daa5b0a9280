-- The first check that fails, stage by stage; and what is known where none fails.
use Rattle.std.proofs.Common.{◌≡◌, ℕ, List, [], ◌∷◌, Option, Some, None, refl, ap, ◌∙◌}
use Rattle.vlsi_base.specs.declared.fault.FaultKind.{FaultKind}
use Rattle.vlsi_base.specs.declared.fault.FaultKind.TheVariants as kind
use Rattle.vlsi_base.specs.declared.fault.ReadError.{ReadError}
use Rattle.source_checks.specs.declared.statement.DesignFile.{DesignFile}
use Rattle.source_checks.specs.declared.symbol_table.Symbol.{Symbol}
use Rattle.source_checks.specs.declared.drivers.NameFault.{NameFault}
use Rattle.source_checks.specs.Symbols.{symbols}
use Rattle.source_checks.specs.Places.{Use, in_statements, statement_uses, first_unknown}
use Rattle.source_checks.specs.Widths.{all_width_faults}
use Rattle.source_checks.specs.Drivers.{drivers, all_driven, first_second_driver, first_undriven}
use Rattle.source_checks.specs.Unsupported.{all_unsupported}
use Rattle.source_checks.specs.Clock.{all_clock_lines}
use Rattle.source_checks.specs.Checks.{first_fault, if_use, if_line, if_name, if_symbol, first_repeated}
use Rattle.source_checks.proofs.Turns.{or_first}
use Rattle.vlsi_model.specs.Stages.{name_fault, driver_fault, shape_fault, form_fault}

symbol_or : (o : Option Symbol) (e later : Option ReadError) → if_symbol o (or_first e later) ≡ or_first (if_symbol o e) later
symbol_or None e later = refl
symbol_or (Some s) e later = refl

use_or : (o : Option Use) (e later : Option ReadError) → if_use o (or_first e later) ≡ or_first (if_use o e) later
use_or None e later = refl
use_or (Some s) e later = refl

line_or : (k : FaultKind) (o : List ℕ) (e later : Option ReadError) → if_line k o (or_first e later) ≡ or_first (if_line k o e) later
line_or k [] e later = refl
line_or k (s ∷ _) e later = refl

name_or : (k : FaultKind) (o : Option NameFault) (e later : Option ReadError) → if_name k o (or_first e later) ≡ or_first (if_name k o e) later
name_or k None e later = refl
name_or k (Some s) e later = refl

pub stages : (design : DesignFile) → first_fault design ≡ or_first (name_fault design) (or_first (shape_fault design) (form_fault design))
stages design =
    let repeated = first_repeated [] (symbols design) in
    let unknown = first_unknown (symbols design) (in_statements statement_uses design.statements) in
    let again = first_second_driver [] (drivers design) in
    let missing = first_undriven (all_driven (drivers design)) (symbols design) in
    let last = form_fault design in
    let a : if_name kind.TwoDrivers again (if_name kind.Undriven missing last) ≡ or_first (driver_fault design) last =
    ap (if_name kind.TwoDrivers again) (name_or kind.Undriven missing None last) ∙ name_or kind.TwoDrivers again (if_name kind.Undriven missing None) last in
    let b : if_line kind.Width (all_width_faults design) (if_name kind.TwoDrivers again (if_name kind.Undriven missing last)) ≡ or_first (shape_fault design) last =
    ap (if_line kind.Width (all_width_faults design)) a ∙ line_or kind.Width (all_width_faults design) (driver_fault design) last in
    let c = or_first (shape_fault design) last in
    ap (λ (o : Option ReadError). if_symbol repeated (if_use unknown o)) b ∙ ap (if_symbol repeated) (use_or unknown None c) ∙ symbol_or repeated (if_use unknown None) c

-- no check fails
pub record NoFault (design : DesignFile) : Type 0 where
  pub repeated : first_repeated [] (symbols design) ≡ None
  pub unknown : first_unknown (symbols design) (in_statements statement_uses design.statements) ≡ None
  pub width : all_width_faults design ≡ []
  pub again : first_second_driver [] (drivers design) ≡ None
  pub missing : first_undriven (all_driven (drivers design)) (symbols design) ≡ None
  pub form : all_unsupported design ≡ []
  pub clock : all_clock_lines design ≡ []

of_symbol : (o : Option Symbol) (later : Option ReadError) → if_symbol o later ≡ None → (o ≡ None) × (later ≡ None)
of_symbol None later e = (refl, e)
of_symbol (Some s) later e = absurd cc

of_use : (o : Option Use) (later : Option ReadError) → if_use o later ≡ None → (o ≡ None) × (later ≡ None)
of_use None later e = (refl, e)
of_use (Some s) later e = absurd cc

of_line : (k : FaultKind) (o : List ℕ) (later : Option ReadError) → if_line k o later ≡ None → (o ≡ []) × (later ≡ None)
of_line k [] later e = (refl, e)
of_line k (s ∷ _) later e = absurd cc

of_name : (k : FaultKind) (o : Option NameFault) (later : Option ReadError) → if_name k o later ≡ None → (o ≡ None) × (later ≡ None)
of_name k None later e = (refl, e)
of_name k (Some s) later e = absurd cc

pub no_fault : (design : DesignFile) → first_fault design ≡ None → NoFault design
no_fault design e =
    let a = of_symbol (first_repeated [] (symbols design)) _ e in
    let b = of_use (first_unknown (symbols design) (in_statements statement_uses design.statements)) _ a.1 in
    let c = of_line kind.Width (all_width_faults design) _ b.1 in
    let d = of_name kind.TwoDrivers (first_second_driver [] (drivers design)) _ c.1 in
    let f = of_name kind.Undriven (first_undriven (all_driven (drivers design)) (symbols design)) _ d.1 in
    let g = of_line kind.Unsupported (all_unsupported design) _ f.1 in
    let h = of_line kind.ClockUse (all_clock_lines design) None g.1 in
    record { repeated = a.0; unknown = b.0; width = c.0; again = d.0; missing = f.0; form = g.0; clock = h.0 }
