-- Texts of one tree come to the same: no check tells them apart.
use Rattle.std.proofs.Common.{◌≡◌, ◌<◌, ℕ, List, [], ◌∷◌, ◌++◌, length, Option, None, inl, inr, refl, sym, ap, subst, ◌∙◌}
use Rattle.vlsi_base.specs.declared.fault.FaultKind.TheVariants as kind
use Rattle.vlsi_base.specs.declared.fault.LimitKind.TheVariants as limit
use Rattle.vlsi_base.specs.declared.fault.ReadError.{ReadError}
use Rattle.vlsi_base.specs.declared.fault.ReadError.TheVariants as errors
use Rattle.source_checks.specs.declared.statement.Statement.{Statement}
use Rattle.source_checks.specs.declared.statement.DesignFile.{DesignFile}
use Rattle.source_checks.specs.declared.symbol_table.Symbol.{Symbol}
use Rattle.source_checks.specs.Symbols.{symbols, port_symbols, signal_symbols}
use Rattle.source_checks.specs.Places.{Use, in_statements, statement_uses, first_unknown}
use Rattle.source_checks.specs.Widths.{port_faults, signal_faults, statement_faults, all_width_faults}
use Rattle.source_checks.specs.Drivers.{Driver, statement_drivers, drivers, all_driven, first_second_driver, first_undriven}
use Rattle.source_checks.specs.Unsupported.{port_forms, signal_forms, statement_forms, all_unsupported}
use Rattle.source_checks.specs.Clock.{statement_clocks, first_text, clock_text, statement_clock_lines, all_clock_lines}
use Rattle.source_checks.specs.Elaboration.{Definition, statement_definitions, definitions, port_bits}
use Rattle.source_checks.specs.Cycles.{IsRing}
use Rattle.source_checks.specs.Checks.{most_ports, if_use, if_line, if_name, if_symbol, first_repeated, first_fault, DrivenOn, IsCycle, HasNoRing, IsRefusedFor}
use Rattle.vbe_text.specs.Source.{SourceTree, statement_view, source_view}
use Rattle.vbe_io.proofs.Views.{SeenBy, of_view, of_both, of_each}
use Rattle.vbe_io.proofs.AlikeStatements.{uses_seen, widths_seen, drivers_seen, forms_seen, clocks_seen, clock_lines_seen, definitions_seen}

-- what a look at statements finds in all of them, where the look goes by what is declared, say
in_source : {K A : Type 0} (key : DesignFile → K) (look : K → Statement → List A) → SeenBy source_view key → ((k : K) → SeenBy statement_view (look k))
    → SeenBy source_view (λ design. in_statements (look (key design)) design.statements)
in_source key look keyed seen a b e =
    ap (λ k. in_statements (look k) a.statements) (keyed a b e)
    ∙ of_each statement_view (λ s xs. look (key b) s ++ xs) (in_statements (look (key b))) (λ s rest. refl) (λ s t same. ap (λ found. λ xs. found ++ xs) (seen (key b) s t same))
    a.statements b.statements (ap (λ (t : SourceTree). t.statements) e)

pub symbols_alike : SeenBy source_view symbols
symbols_alike = of_view source_view (λ t. port_symbols t.entity.ports ++ signal_symbols t.declarations.signals)

drivers_alike : SeenBy source_view drivers
drivers_alike = in_source symbols statement_drivers symbols_alike drivers_seen

definitions_alike : SeenBy source_view definitions
definitions_alike = in_source symbols statement_definitions symbols_alike definitions_seen

widths_alike : SeenBy source_view all_width_faults
widths_alike =
    of_both source_view (λ (t : SourceTree) faults. port_faults t.entity.ports ++ (signal_faults t.declarations.signals ++ faults)) source_view
    (λ design. in_statements (statement_faults (symbols design)) design.statements) (of_view source_view (λ t. t)) (in_source symbols statement_faults symbols_alike widths_seen)

forms_alike : SeenBy source_view all_unsupported
forms_alike =
    of_both source_view (λ (t : SourceTree) faults. port_forms t.entity.ports ++ (signal_forms t.declarations.signals ++ faults)) source_view
    (λ design. in_statements (statement_forms (symbols design)) design.statements) (of_view source_view (λ t. t)) (in_source symbols statement_forms symbols_alike forms_seen)

clock_alike : SeenBy source_view clock_text
clock_alike a b e = ap first_text (in_source symbols statement_clocks symbols_alike clocks_seen a b e)

clock_lines_alike : SeenBy source_view all_clock_lines
clock_lines_alike =
    in_source (λ design. (symbols design, clock_text design)) (λ (k : List Symbol × Option (List ℕ)). statement_clock_lines k.0 k.1)
    (of_both source_view (λ known ck. (known, ck)) symbols clock_text symbols_alike clock_alike) (λ k. clock_lines_seen k.0 k.1)

uses_alike : SeenBy source_view (λ design. in_statements statement_uses design.statements)
uses_alike = in_source (λ design. tt) (λ (k : Unit {0}). statement_uses) (λ a b e. refl) (λ k. uses_seen)

-- ---- the checks

-- the first fault by what the checks look at
faults_of : List Symbol → List Use → List ℕ → List Driver → List ℕ → List ℕ → Option ReadError
faults_of known uses widths all forms clocks =
    if_symbol (first_repeated [] known)
    (if_use (first_unknown known uses)
    (if_line kind.Width widths
    (if_name kind.TwoDrivers (first_second_driver [] all)
    (if_name kind.Undriven (first_undriven (all_driven all) known)
    (if_line kind.Unsupported forms
    (if_line kind.ClockUse clocks None))))))

same_faults : {known known' : List Symbol} {uses uses' : List Use} {widths widths' : List ℕ} {all all' : List Driver} {forms forms' clocks clocks' : List ℕ}
    → known ≡ known' → uses ≡ uses' → widths ≡ widths' → all ≡ all' → forms ≡ forms' → clocks ≡ clocks'
    → faults_of known uses widths all forms clocks ≡ faults_of known' uses' widths' all' forms' clocks'
same_faults k u w d f c = cc

faults_alike : SeenBy source_view first_fault
unfolding faults_of
faults_alike a b e =
    same_faults (symbols_alike a b e) (uses_alike a b e) (widths_alike a b e) (drivers_alike a b e) (forms_alike a b e) (clock_lines_alike a b e)

cycle_alike : (a b : DesignFile) → source_view a ≡ source_view b → (e : ReadError) → IsCycle a e → IsCycle b e
cycle_alike a b same e is = record {
  first = is.first;
  rest = is.rest;
  line = is.line;
  is = is.is;
  ring = subst (λ (ds : List Definition). IsRing ds (is.first ∷ is.rest)) (definitions_alike a b same) is.ring;
  driven = subst (λ (ds : List Driver). DrivenOn ds is.first is.line) (drivers_alike a b same) is.driven;
}

no_ring_alike : (a b : DesignFile) → source_view a ≡ source_view b → HasNoRing a → HasNoRing b
no_ring_alike a b same none ring is = none ring (subst (λ (ds : List Definition). IsRing ds ring) (sym (definitions_alike a b same)) is)

-- what the checks refuse, they refuse of each text of this tree
pub refused_alike : (a b : DesignFile) → source_view a ≡ source_view b → (e : ReadError) → IsRefusedFor a e → IsRefusedFor b e
refused_alike a b same errors.Memory is = is
refused_alike a b same (errors.Input f) (inl h) = inl (sym (faults_alike a b same) ∙ h)
refused_alike a b same (errors.Input f) (inr h) = inr (sym (faults_alike a b same) ∙ h.0, cycle_alike a b same (errors.Input f) h.1)
refused_alike a b same (errors.Limit l) is =
    let known = symbols_alike a b same in (
      sym (faults_alike a b same) ∙ is.0,
      no_ring_alike a b same is.1,
      subst (λ (s : List Symbol). most_ports < length (port_bits s)) known is.2,
      is.3 ∙ ap (λ (s : List Symbol). errors.Limit (record { which = limit.Ports; reached = length (port_bits s) })) known,
    )
