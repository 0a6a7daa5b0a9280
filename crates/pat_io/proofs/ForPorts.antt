-- What is read without a fault is for the ports.
use Rattle.std.proofs.Common.{◌≡◌, ℕ, zero, suc, ◌+◌, ◌-◌, ◌*◌, ◌/◌, ◌≤◌, Bool, true, false, not, ◌&&◌, ◌||◌, nat_eq, bytes_eq, List, [], ◌∷◌, ◌++◌, length, map, take, codes, Option, Some, None, refl, sym, ap, subst, ◌∙◌, ◌⊎◌, inl, inr, arith, length-drop}
use Rattle.std.specs.List.{All, list_all}
use Rattle.std.proofs.lemmas.Bool.{eqb-true}
use Rattle.std.proofs.lemmas.List.{length-append}
use Rattle.std.proofs.lemmas.List.Elements.{All-nil, All-cons, All-head, All-tail}
use Rattle.std.proofs.lemmas.Slice.Eq.{bytes_eq-Decides}
use Rattle.vlsi_base.specs.declared.name.Name.{Name}
use Rattle.vlsi_base.specs.declared.name.Dir.{Dir}
use Rattle.vlsi_base.specs.declared.name.Dir.TheVariants as dir
use Rattle.vlsi_base.specs.declared.name.Port.{Port}
use Rattle.vlsi_base.specs.declared.range.Range.{Range}
use Rattle.vlsi_base.specs.declared.fault.InputFault.{InputFault}
use Rattle.vlsi_base.specs.declared.fault.FaultKind.{FaultKind}
use Rattle.vlsi_base.specs.declared.fault.FaultKind.TheVariants as kind
use Rattle.vlsi_base.specs.declared.fault.ReadError.{ReadError}
use Rattle.vlsi_base.specs.declared.fault.ReadError.TheVariants as error
use Rattle.machine_core.specs.Named.{is_same_name}
use Rattle.machine_core.specs.Order.{In, here, there}
use Rattle.machine_core.proofs.Names.{same_name-true}
use Rattle.vlsi_base.specs.declared.radix.Radix.{Radix}
use Rattle.vlsi_base.specs.declared.radix.Radix.TheVariants.{Binary, Octal, Hexadecimal}
use Rattle.pat_meaning.specs.Columns.{column_names, Fits, FitsColumns}
use Rattle.pat_meaning.specs.Answers.{IsSupplyColumn, IsOfPorts, AreFor}
use Rattle.pat_text.specs.declared.parsed.ParsedColumn.{ParsedColumn}
use Rattle.pat_text.specs.declared.parsed.ParsedValue.{ParsedValue}
use Rattle.pat_text.specs.declared.parsed.ParsedPattern.{ParsedPattern}
use Rattle.pat_text.specs.declared.parsed.PatternFile.{PatternFile}
use Rattle.vlsi_base.specs.Radix.{digit_width}
use Rattle.vlsi_base.specs.Name.{is_supply}
use Rattle.vlsi_base.specs.Range.{rising, is_ordered, least}
use Rattle.pat_io.specs.Known.{is_same_dir, is_supply_input, unknown_faults}
use Rattle.pat_io.specs.Digits.{column_width, number_bits, digit_value, digits_bits, unused, column_bits, column_of, value_for, values_for, pattern_for, patterns_for}
use Rattle.pat_io.specs.Fitting.{if_not, is_port, column_fits, column_line, column_faults, value_fits, value_faults, pattern_faults, width_faults, time_faults}
use Rattle.pat_io.specs.PatternText.{first_fault, first_line, unknown_error, line_error, or_else, fault_in, OrMemory, IsWritten, IsPatternRefusal, faulty}
use Rattle.pat_io.proofs.Ranges.{and_parts, range_all, range_test, length_names}
use Rattle.pat_io.proofs.Different.{different}
use Rattle.pat_io.proofs.Matching.{Given, Matches, matching_file}

-- a fault of what is written refuses it
pub fault_refuses : (bytes : List ℕ) (ports : List Port) (parsed : PatternFile) → IsWritten bytes parsed → (e : ReadError) → OrMemory (fault_in ports parsed) e → IsPatternRefusal bytes ports e
fault_refuses bytes ports parsed w error.Memory h = tt
fault_refuses bytes ports parsed w (error.Input f) h = faulty parsed w h
fault_refuses bytes ports parsed w (error.Limit l) h = faulty parsed w h

-- ---- no fault

or_both : (a b : Option ReadError) → or_else a b ≡ None → (a ≡ None) × (b ≡ None)
or_both None b h = (refl, h)
or_both (Some e) b h = absurd cc

no_name : (fs : List InputFault) → unknown_error (first_fault fs) ≡ None → fs ≡ []
no_name [] h = refl
no_name (f ∷ fs) h = absurd cc

no_line : (k : FaultKind) (lines : List ℕ) → line_error k (first_line lines) ≡ None → lines ≡ []
no_line k [] h = refl
no_line k (line ∷ lines) h = absurd cc

no_append : (xs ys : List ℕ) → xs ++ ys ≡ [] → (xs ≡ []) × (ys ≡ [])
no_append [] ys h = (refl, h)
no_append (x ∷ xs) ys h = absurd cc

holds : (b : Bool) (line : ℕ) → if_not b line ≡ [] → b ≡ true
holds true line h = refl
holds false line h = absurd cc

pub record HasNoFault (ports : List Port) (parsed : PatternFile) : Type 0 where
  pub known : unknown_faults ports parsed.columns ≡ []
  pub columns : column_faults ports parsed.columns ≡ []
  pub values : pattern_faults parsed.columns parsed.patterns ≡ []

no_fault : (ports : List Port) (parsed : PatternFile) → fault_in ports parsed ≡ None → HasNoFault ports parsed
unfolding fault_in
no_fault ports parsed h =
    let a = or_both (unknown_error (first_fault (unknown_faults ports parsed.columns))) (or_else (line_error kind.Width (first_line (width_faults ports parsed))) (line_error kind.TimeBack (first_line (time_faults 0 parsed.patterns)))) h in
    let b = or_both (line_error kind.Width (first_line (width_faults ports parsed))) (line_error kind.TimeBack (first_line (time_faults 0 parsed.patterns))) a.1 in
    let w = no_append (column_faults ports parsed.columns) (pattern_faults parsed.columns parsed.patterns) (no_line kind.Width (width_faults ports parsed) b.0) in
    record { known = no_name (unknown_faults ports parsed.columns) a.0; columns = w.0; values = w.1 }

-- ---- columns

same_dir : (a b : Dir) → is_same_dir a b ≡ true → a ≡ b
same_dir dir.In dir.In h = refl
same_dir dir.Out dir.Out h = refl
same_dir dir.In dir.Out h = absurd cc
same_dir dir.Out dir.In h = absurd cc

or_true : (a b : Bool) → (a || b) ≡ true → (a ≡ true) ⊎ (b ≡ true)
or_true true b h = inl refl
or_true false b h = inr h

port_from_parts : (p : Port) (d : Dir) (name : Name) → p.name ≡ name → p.dir ≡ d → p ≡ record { name = name; dir = d }
port_from_parts p d name e f =
    let made : Name → Dir → Port = λ n x. record { name = n; dir = x } in
    ap (λ n. made n p.dir) e ∙ ap (made name) f

port_in : (ports : List Port) (d : Dir) (name : Name) → is_port ports d name ≡ true → In (record { name = name; dir = d }) ports
port_in [] d name h = absurd cc
port_in (p ∷ ports) d name h = elim (or_true (is_same_name p.name name && is_same_dir p.dir d) (is_port ports d name) h) [
  | inl first ↦
      let parts = and_parts (is_same_name p.name name) (is_same_dir p.dir d) first in
      let same = port_from_parts p d name (same_name-true p.name name parts.0) (same_dir p.dir d parts.1) in
      let There : Port → Type 0 = λ q. In q (p ∷ ports) in
      subst There same here
  | inr later ↦ there (port_in ports d name later)
]

supply_column : (c : ParsedColumn) → c.range ≡ None → is_supply_input c ≡ true → IsSupplyColumn (column_of c)
supply_column c scalar h =
    let parts = and_parts (is_supply c.name) (is_same_dir c.dir dir.In) h in
    record {
      name = elim (or_true (bytes_eq c.name (codes "vdd")) (bytes_eq c.name (codes "vss")) parts.0) [
        | inl a ↦ inl ((bytes_eq-Decides c.name (codes "vdd")).0 a)
        | inr b ↦ inr ((bytes_eq-Decides c.name (codes "vss")).0 b)
      ];
      dir = same_dir c.dir dir.In parts.1;
      range = rw scalar refl;
    }

fitting_range : (ports : List Port) (name : List ℕ) (line : ℕ) (d : Dir) (f : Radix) (range : Option Range)
    → column_fits ports (record { name = name; line = line; dir = d; range = range; format = f }) ≡ true
    → IsSupplyColumn (column_of (record { name = name; line = line; dir = d; range = range; format = f })) ⊎ IsOfPorts ports (column_of (record { name = name; line = line; dir = d; range = range; format = f }))
fitting_range ports name line d f None h =
    elim (or_true (is_supply_input (record { name = name; line = line; dir = d; range = None; format = f })) (is_port ports d (record { text = name; bit = None })) h) [
      | inl supply ↦ inl (supply_column (record { name = name; line = line; dir = d; range = None; format = f }) refl supply)
      | inr port ↦
          let P : Name → Type 0 = λ n. In (record { name = n; dir = d }) ports in
          inr (All-cons P (record { text = name; bit = None }) [] (port_in ports d (record { text = name; bit = None }) port) (All-nil P))
    ]
fitting_range ports name line d f (Some r) h =
    let p : ℕ → Bool = λ k. is_port ports d (record { text = name; bit = Some k }) in
    let a = and_parts (not (is_supply name)) (is_ordered r && list_all p (rising (least r) (column_width (Some r)))) h in
    let b = and_parts (is_ordered r) (list_all p (rising (least r) (column_width (Some r)))) a.1 in
    inr (range_all (λ n. In (record { name = n; dir = d }) ports) name r (λ j low high. port_in ports d (record { text = name; bit = Some j }) (range_test p r b.1 j low high)))

fitting_columns : (ports : List Port) (cs : List ParsedColumn) → column_faults ports cs ≡ [] → All (λ c. IsSupplyColumn c ⊎ IsOfPorts ports c) (map column_of cs)
fitting_columns ports [] h = All-nil (λ c. IsSupplyColumn c ⊎ IsOfPorts ports c)
fitting_columns ports (c ∷ cs) h =
    let parts = no_append (if_not (column_fits ports c) (column_line c)) (column_faults ports cs) h in
    All-cons (λ c. IsSupplyColumn c ⊎ IsOfPorts ports c) (column_of c) (map column_of cs) (fitting_range ports c.name c.line c.dir c.format c.range (holds (column_fits ports c) (column_line c) parts.0)) (fitting_columns ports cs parts.1)

-- ---- values

length_number : (k n : ℕ) → length (number_bits k n) ≡ k
length_number zero n = refl
length_number (suc k) n = ap suc (length_number k n)

length_digits : (f : Radix) (ds : List ℕ) → length (digits_bits f ds) ≡ digit_width f * length ds
length_digits f [] = omega arith
length_digits f (d ∷ ds) =
    let a = length-append (number_bits (digit_width f) (digit_value d)) (digits_bits f ds) in
    let b = length_number (digit_width f) (digit_value d) in
    let c = length_digits f ds in
    a ∙ ap (λ n. n + length (digits_bits f ds)) b ∙ ap (λ n. digit_width f + n) c ∙ more (digit_width f) (length ds) where
      more : (k n : ℕ) → k + k * n ≡ k * suc n
      more k n = omega arith

-- as many digits as are needed have enough bits
enough : (f : Radix) (width count : ℕ) → count ≡ (width + (digit_width f - 1)) / digit_width f → width ≤ digit_width f * count
enough Binary width count e = omega (arith, e)
enough Octal width count e = omega (arith, e)
enough Hexadecimal width count e = omega (arith, e)

fitting_digits : (c : ParsedColumn) (ds : List ℕ) → value_fits c (Some ds) ≡ true → length (column_bits c ds) ≡ length (column_names (column_of c))
fitting_digits c ds h =
    let parts = and_parts (nat_eq (length ds) ((column_width c.range + (digit_width c.format - 1)) / digit_width c.format)) (list_all not (take (unused c ds) (digits_bits c.format ds))) h in
    let count = eqb-true (length ds) ((column_width c.range + (digit_width c.format - 1)) / digit_width c.format) parts.0 in
    let more = enough c.format (column_width c.range) (length ds) count in
    let all = length_digits c.format ds in
    length-drop (unused c ds) (digits_bits c.format ds) ∙ rest (length (digits_bits c.format ds)) (digit_width c.format * length ds) (column_width c.range) all more ∙ sym (length_names c.name c.range) where
      rest : (n m w : ℕ) → n ≡ m → w ≤ m → n - (n - w) ≡ w
      rest n m w e le = omega arith

fitting_value : (c : ParsedColumn) (digits : Option (List ℕ)) → Given c.dir digits → value_fits c digits ≡ true → Fits (column_of c) (value_for c digits)
fitting_value c None g h = out c.dir g where
  out : (d : Dir) → Given d None → d ≡ dir.Out
  out dir.In g = absurd g
  out dir.Out g = refl
fitting_value c (Some ds) g h = fitting_digits c ds h

fitting_values : (cs : List ParsedColumn) (vs : List ParsedValue) → Matches cs vs → value_faults cs vs ≡ [] → FitsColumns (map column_of cs) (values_for cs vs)
fitting_values [] [] m h = tt
fitting_values [] (v ∷ vs) m h = absurd m
fitting_values (c ∷ cs) [] m h = absurd m
fitting_values (c ∷ cs) (v ∷ vs) m h =
    let parts = no_append (if_not (value_fits c v.digits) v.line) (value_faults cs vs) h in
    (fitting_value c v.digits m.0 (holds (value_fits c v.digits) v.line parts.0), fitting_values cs vs m.1 parts.1)

fitting_patterns : (cs : List ParsedColumn) (ps : List ParsedPattern) → All (λ p. Matches cs p.values) ps → pattern_faults cs ps ≡ [] → All (λ q. FitsColumns (map column_of cs) q.values) (map (pattern_for cs) ps)
fitting_patterns cs [] m h = All-nil (λ q. FitsColumns (map column_of cs) q.values)
fitting_patterns cs (p ∷ ps) m h =
    let parts = no_append (value_faults cs p.values) (pattern_faults cs ps) h in
    let M : ParsedPattern → Type 0 = λ p. Matches cs p.values in
    All-cons (λ q. FitsColumns (map column_of cs) q.values) (pattern_for cs p) (map (pattern_for cs) ps) (fitting_values cs p.values (All-head M p ps m) parts.0) (fitting_patterns cs ps (All-tail M p ps m) parts.1)

-- ---- all

pub are_for : (bytes : List ℕ) (ports : List Port) (parsed : PatternFile) → IsWritten bytes parsed → fault_in ports parsed ≡ None → AreFor ports (patterns_for parsed)
are_for bytes ports parsed w h =
    let none = no_fault ports parsed h in
    record {
      columns = fitting_columns ports parsed.columns none.columns;
      different = different ports [] parsed.columns none.known;
      values = fitting_patterns parsed.columns parsed.patterns (matching_file _ parsed w.file) none.values;
    }
