-- What a text in which no early check fails gives for its statements.
use Rattle.std.proofs.Common.{◌≡◌, ℕ, true, false, cond, List, [], ◌∷◌, ◌++◌, map, length, Some, None, refl, sym, ap, subst, ◌∙◌, bytes_eq}
use Rattle.std.specs.Prelude.{◌&&◌, not}
use Rattle.vlsi_base.specs.Tree.{Tree}
use Rattle.vlsi_base.specs.declared.name.Name.{Name}
use Rattle.vlsi_base.specs.declared.name.Dir.TheVariants as dir
use Rattle.vlsi_base.specs.Member.{In, here, AllDifferent}
use Rattle.source_checks.specs.declared.symbol_table.Role.{Role}
use Rattle.source_checks.specs.declared.symbol_table.Role.TheVariants as role
use Rattle.source_checks.specs.declared.symbol_table.Symbol.{Symbol}
use Rattle.source_checks.specs.declared.statement.Target.{Target}
use Rattle.source_checks.specs.Symbols.{find, all_names, port_symbols}
use Rattle.source_checks.specs.Clock.{clock_lines}
use Rattle.source_checks.specs.Drivers.{target_names}
use Rattle.source_checks.specs.Formula.{Formula, formulas, formula_names}
use Rattle.source_checks.specs.Checks.{first_repeated}
use Rattle.source_checks.specs.Elaboration.{port_bits, port_of}
use Rattle.source_checks.specs.Unsupported.{port_forms}
use Rattle.source_checks.specs.Widths.{width, differ, target_width, target_faults, width_faults, if_not}
use Rattle.vlsi_model.proofs.Bits.{different_texts, in_found, found_in, bit_all}
use Rattle.vlsi_model.proofs.Expressions.{AreKnown, known_right, empty_left, empty_right, no_line, IsScalarClock}
use Rattle.vlsi_model.proofs.FineAssignments.{and_right}
use Rattle.vlsi_model.proofs.PortBits.{is_port_bit}
use Rattle.fsm_text.specs.declared.file.FirstToken.{FirstToken}
use Rattle.fsm_text.specs.Written.{MachineTree}
use Rattle.fsm_io.specs.Known.{Named, symbols, is_clock_port, is_state_signal}
use Rattle.fsm_io.specs.Looks.{assigning, testing, value_uses}
use Rattle.fsm_io.specs.Widths.{wide_enough}
use Rattle.fsm_io.specs.Drivers.{is_output}
use Rattle.fsm_io.specs.Unsupported.{may_assign, expression_forms, next_forms}
use Rattle.fsm_io.specs.Pieces.{HasRoles}
use Rattle.fsm_io.proofs.Fine.{EarlyFine, IsFine}
use Rattle.fsm_io.proofs.Readable.{IsRead, reads_ports}
use Rattle.fsm_io.proofs.Targets.{IsClock, clock_among, clock_less, output_port, output_no_supply, fine_target, equal_widths}

-- what is known of a text before its statements are looked at
pub record Facts (m : MachineTree) (n : Named) : Type 0 where
  pub fine : EarlyFine m n
  pub different : AllDifferent (map (λ (s : Symbol). s.text) (symbols m))
  pub clock : IsClock (symbols m) n.clock
  pub scalar : IsScalarClock (symbols m) (Some n.clock)

scalar_clock : (known : List Symbol) (text : List ℕ) → AllDifferent (map (λ (s : Symbol). s.text) known) → IsClock known text → IsScalarClock known (Some text)
scalar_clock known text different c t s is found =
    let same : text ≡ t = cc in
    let at : find known t ≡ Some c.symbol = ap (find known) (sym (c.text ∙ same)) ∙ in_found known c.symbol different c.declared in
    let one : Some c.symbol ≡ Some s = sym at ∙ found in
    let symbols : c.symbol ≡ s = cc in
    ap (λ (x : Symbol). x.range) (sym symbols) ∙ c.range

pub facts : (m : MachineTree) (n : Named) → EarlyFine m n → first_repeated [] (symbols m) ≡ None → HasRoles m n → Facts m n
facts m n f once roles =
    let different = different_texts (symbols m) once in
    let clock = clock_less (port_symbols m.entity.ports) _ n.clock (clock_among m.entity.ports n.clock (and_right (is_state_signal m n.current && (is_state_signal m n.next && not (bytes_eq n.current n.next))) (is_clock_port m.entity.ports n.clock) roles)) in
    record { fine = f; different = different; clock = clock; scalar = scalar_clock (symbols m) n.clock different clock }

-- an expression reads input bits other than the clock
abbrev pub ReadsPorts : MachineTree → Named → Tree → Type 0
ReadsPorts m n e = (x : Formula) → In x (formulas (symbols m) e) → (k : Name) → In k (formula_names x) → IsRead (symbols m) n.clock k

-- what is assigned to another target than the next state: its bits are those of outputs, as many as of the target
pub record IsFineAssignment (m : MachineTree) (n : Named) (t : Target) (e : Tree) : Type 0 where
  pub declared : (k : Name) → In k (target_names (symbols m) t) → In k (all_names (symbols m))
  pub output : (k : Name) → In k (target_names (symbols m) t) → In (port_of dir.Out k) (port_bits (symbols m))
  pub equal : length (target_names (symbols m) t) ≡ length (formulas (symbols m) e)
  pub read : ReadsPorts m n e

output_role : (r : Role) → is_output r ≡ true → r ≡ role.Output
output_role role.Input e = absurd cc
output_role role.Output e = refl
output_role role.Both e = absurd cc
output_role role.Inner e = absurd cc
output_role role.Register e = absurd cc

pub condition_reads : (m : MachineTree) (n : Named) → Facts m n → (line : ℕ) (e : Tree) → IsFine (symbols m) n (testing line e) → ReadsPorts m n e
condition_reads m n f line e x = reads_ports (symbols m) n.clock e f.scalar x.uses (empty_right _ (width_faults (symbols m) e) x.widths) x.clock x.forms

pub fine_assignment : (m : MachineTree) (n : Named) → Facts m n → (t : Target) (first : FirstToken) (e : Tree) → bytes_eq t.name n.next ≡ false → IsFine (symbols m) n (assigning t first e) → IsFineAssignment m n t e
fine_assignment m n f t first e other x =
    let known = symbols m in
    let uses : AreKnown known (value_uses false first e) = subst (λ b. AreKnown known (value_uses b first e)) other (known_right known (record { text = t.name; line = t.line } ∷ []) (value_uses (bytes_eq t.name n.next) first e) x.uses) in
    let target = x.uses (record { text = t.name; line = t.line }) here in
    let s = target.0 in
    let found : find known t.name ≡ Some s = target.1 in
    let widths : (if_not (not (differ (width known e) (target_width known t))) t.line ++ (target_faults known t ++ width_faults known e)) ≡ [] =
    subst (λ b. (wide_enough b (width known e) (target_width known t) t.line ++ (target_faults known t ++ width_faults known e)) ≡ []) other x.widths in
    let behind = empty_right (if_not (not (differ (width known e) (target_width known t))) t.line) _ widths in
    let wide = no_line (not (differ (width known e) (target_width known t))) t.line (empty_left _ (target_faults known t ++ width_faults known e) widths) in
    let fine = fine_target known t s found (empty_left (target_faults known t) _ behind) in
    let inside = empty_right (target_faults known t) (width_faults known e) behind in
    let forms : (if_not (may_assign (find known t.name)) t.line ++ expression_forms known e) ≡ [] = subst (λ b. cond b (next_forms first e) (if_not (may_assign (find known t.name)) t.line ++ expression_forms known e) ≡ []) other x.forms in
    let may = no_line (may_assign (find known t.name)) t.line (empty_left _ (expression_forms known e) forms) in
    let out : s.role ≡ role.Output = output_role s.role (ap may_assign (sym found) ∙ may) in
    let clock : clock_lines (Some n.clock) e ≡ [] = subst (λ b. cond b [] (clock_lines (Some n.clock) e) ≡ []) other x.clock in
    let declared = found_in known t.name s found in
    let no_supply = output_no_supply m.entity.ports s (empty_left (port_forms m.entity.ports) _ f.fine.form) (output_port m s declared out) out in
    record {
      declared = λ k i. bit_all known k s (fine.bits k i);
      output = λ k i. is_port_bit known s k dir.Out declared (fine.bits k i).among no_supply out;
      equal = equal_widths known t s e fine uses inside wide;
      read = reads_ports known n.clock e f.scalar uses inside clock (empty_right (if_not (may_assign (find known t.name)) t.line) (expression_forms known e) forms);
    }
