-- A source passes its checks and has a machine, or there is a reason why it is none.
use Rattle.std.proofs.Common.{◌≡◌, ◌⊎◌, inl, inr, ℕ, ◌<◌, ◌≤◌, List, [], ◌∷◌, length, Option, None, Some, refl, subst}
use Rattle.std.proofs.lemmas.Bool.{cases_lt}
use Rattle.vlsi_base.specs.declared.name.Name.{Name}
use Rattle.vlsi_base.specs.declared.name.Port.{Port}
use Rattle.vlsi_base.specs.Member.{In, here, AllDifferent}
use Rattle.vlsi_base.specs.declared.fault.FaultKind.{FaultKind}
use Rattle.vlsi_base.specs.declared.fault.FaultKind.TheVariants as kind
use Rattle.vlsi_base.specs.declared.fault.ReadError.{ReadError}
use Rattle.vlsi_base.specs.declared.fault.ReadError.TheVariants as error
use Rattle.machine_core.specs.Machine.{Machine, names_of}
use Rattle.source_checks.specs.declared.statement.DesignFile.{DesignFile}
use Rattle.source_checks.specs.declared.symbol_table.Symbol.{Symbol}
use Rattle.source_checks.specs.declared.drivers.NameFault.{NameFault}
use Rattle.source_checks.specs.Places.{Use, in_statements, statement_uses, first_unknown}
use Rattle.source_checks.specs.Symbols.{symbols, all_names}
use Rattle.source_checks.specs.Widths.{all_width_faults}
use Rattle.source_checks.specs.Drivers.{drivers, all_driven, first_second_driver, first_undriven}
use Rattle.source_checks.specs.Unsupported.{all_unsupported}
use Rattle.source_checks.specs.Clock.{all_clock_lines}
use Rattle.source_checks.specs.Checks.{most_ports, fault, if_use, if_line, if_name, first_repeated, if_symbol, first_fault, ports_error, HasNoRing, Passes, IsRefusedFor}
use Rattle.source_checks.specs.Elaboration.{Storage, definitions, storage, port_bits, IsMachineOf}
use Rattle.vlsi_model.specs.Laid.{names_defined}
use Rattle.vlsi_model.proofs.Assembled.{is_machine}
use Rattle.vlsi_model.proofs.Assembly.{assembled}
use Rattle.vlsi_model.proofs.Bits.{different_bits}
use Rattle.vlsi_model.proofs.FineSources.{Facts, facts}
use Rattle.vlsi_model.proofs.Members.{different_Sub}
use Rattle.vlsi_model.proofs.PortBits.{ports_sub}
use Rattle.vlsi_model.proofs.Stages.{no_fault}
use Rattle.vbe_laws.specs.EachText.{EachDesign}
use Rattle.vbe_laws.proofs.Arranging.{in_name_order}
use Rattle.vbe_laws.proofs.Loops.{Loop, ring_of, ring_reads}
use Rattle.vbe_laws.proofs.Orders.{Ordered, order_or_loop, no_ring, reader_is}
use Rattle.vbe_laws.proofs.Drivers.{driver_of_defined}

abbrev Answer : DesignFile → Type 0
Answer design = (Passes design × ((m : Machine) × IsMachineOf design m)) ⊎ ((e : ReadError) × IsRefusedFor design e)

-- ---- what a check finds is a fault of the input

abbrev IsOfInput : Option ReadError → Type 0
IsOfInput None = Unit {0}
IsOfInput (Some error.Memory) = ⊥
IsOfInput (Some (error.Input f)) = Unit {0}
IsOfInput (Some (error.Limit l)) = ⊥

of_symbol : (o : Option Symbol) (later : Option ReadError) → IsOfInput later → IsOfInput (if_symbol o later)
of_symbol None later h = h
of_symbol (Some s) later h = tt

of_use : (o : Option Use) (later : Option ReadError) → IsOfInput later → IsOfInput (if_use o later)
of_use None later h = h
of_use (Some u) later h = tt

of_line : (k : FaultKind) (lines : List ℕ) (later : Option ReadError) → IsOfInput later → IsOfInput (if_line k lines later)
of_line k [] later h = h
of_line k (line ∷ lines) later h = tt

of_name : (k : FaultKind) (o : Option NameFault) (later : Option ReadError) → IsOfInput later → IsOfInput (if_name k o later)
of_name k None later h = h
of_name k (Some f) later h = tt

of_input : (design : DesignFile) → IsOfInput (first_fault design)
of_input design =
    of_symbol (first_repeated [] (symbols design)) _ (of_use (first_unknown (symbols design) (in_statements statement_uses design.statements)) _ (of_line kind.Width (all_width_faults design) _
    (of_name kind.TwoDrivers (first_second_driver [] (drivers design)) _ (of_name kind.Undriven (first_undriven (all_driven (drivers design)) (symbols design)) _
    (of_line kind.Unsupported (all_unsupported design) _ (of_line kind.ClockUse (all_clock_lines design) None tt))))))

refused : (design : DesignFile) (e : ReadError) → first_fault design ≡ Some e → IsRefusedFor design e
refused design error.Memory is = absurd (subst IsOfInput is (of_input design))
refused design (error.Input f) is = inl is
refused design (error.Limit l) is = absurd (subst IsOfInput is (of_input design))

-- ---- where no check fails

ring_refused : (design : DesignFile) → first_fault design ≡ None → Facts design → Loop (definitions design) → (e : ReadError) × IsRefusedFor design e
ring_refused design sound f l =
    let r = ring_of (definitions design) l in
    let next = ring_reads (definitions design) r.first r.first r.rest r.ring.1 r.first (first_is r.first r.rest) in
    let on = driver_of_defined design f r.first (reader_is (definitions design) r.first next.0 next.2) in
    (fault kind.Cycle on.0 (r.first ∷ r.rest), inr (sound, record { first = r.first; rest = r.rest; line = on.0; is = refl; ring = r.ring; driven = on.1 })) where
      first_is : (n : Name) (names : List Name) → In n (n ∷ names)
      first_is n names = here

different_ports : (design : DesignFile) → Facts design → AllDifferent (names_of (port_bits (symbols design)))
different_ports design f = different_Sub (names_of (port_bits (symbols design))) (all_names (symbols design)) (ports_sub (symbols design)) (different_bits (symbols design) f.different)

machine_from : (design : DesignFile) → Facts design → Ordered (names_defined (definitions design)) [] (definitions design) → (m : Machine) × IsMachineOf design m
machine_from design f o =
    let ps = in_name_order (λ (p : Port). p.name) (port_bits (symbols design)) (different_ports design f) in
    let regs = in_name_order (λ (r : Storage). r.name) (storage design) f.stored_once in (
      assembled design ps.list regs.list o.order,
      is_machine design ps.list regs.list o.order f (record {
        ports = ps.moved;
        ports_order = ps.order;
        registers = regs.moved;
        registers_order = regs.order;
        equations = o.moved;
        earlier = o.in_turn;
      }),
    )

without_ring : (design : DesignFile) → first_fault design ≡ None → Facts design → Ordered (names_defined (definitions design)) [] (definitions design) → Answer design
without_ring design sound f o = by (cases_lt most_ports count) where
  count : ℕ
  count = length (port_bits (symbols design))

  none : HasNoRing design
  none = no_ring (definitions design) f.defined_once o

  by : (most_ports < count) ⊎ (count ≤ most_ports) → Answer design
  by (inl many) = inr (ports_error design, (sound, none, many, refl))
  by (inr few) = inl (record { no_fault = sound; no_ring = none; few_ports = few }, machine_from design f o)

pub each_design : EachDesign
each_design design = by (first_fault design) refl where
  sound : first_fault design ≡ None → Facts design → Answer design
  sound is f = elim (order_or_loop (definitions design)) [ inl o ↦ without_ring design is f o | inr l ↦ inr (ring_refused design is f l) ]

  by : (o : Option ReadError) → first_fault design ≡ o → Answer design
  by (Some e) is = inr (e, refused design e is)
  by None is = sound is (facts design (no_fault design is))
