-- Whether what is written has a fault, and what it means, doesn't go by its lines.
use Rattle.std.proofs.Common.{◌≡◌, ℕ, Bool, true, false, ◌||◌, nat_le, List, [], ◌∷◌, ◌++◌, map, Option, None, Some, refl, sym, ap, ◌∙◌, if◌then◌else◌}
use Rattle.std.specs.List.{list_any, find}
use Rattle.vlsi_base.specs.declared.name.Name.{Name}
use Rattle.vlsi_base.specs.declared.name.Port.{Port}
use Rattle.vlsi_base.specs.declared.fault.InputFault.{InputFault}
use Rattle.vlsi_base.specs.declared.fault.FaultKind.{FaultKind}
use Rattle.vlsi_base.specs.declared.fault.FaultKind.TheVariants as kind
use Rattle.vlsi_base.specs.declared.fault.ReadError.{ReadError}
use Rattle.machine_core.specs.Named.{is_same_name}
use Rattle.pat_meaning.specs.Columns.{names_of_range}
use Rattle.pat_meaning.specs.declared.patterns.BitRange.{BitRange}
use Rattle.pat_meaning.specs.declared.patterns.Column.{Column}
use Rattle.pat_meaning.specs.declared.patterns.Pattern.{Pattern}
use Rattle.pat_meaning.specs.declared.patterns.Patterns.{Patterns}
use Rattle.pat_meaning.specs.declared.patterns.Value.{Value}
use Rattle.pat_text.specs.declared.parsed.ParsedColumn.{ParsedColumn}
use Rattle.pat_text.specs.declared.parsed.PatternFile.{PatternFile}
use Rattle.pat_io.specs.Known.{bits_of, lists, first_again, is_known, unknown_name, fault_of, unknown_behind, unknown_faults}
use Rattle.pat_io.specs.Digits.{bit_range, column_of, value_for, values_for, pattern_for, patterns_for}
use Rattle.pat_io.specs.Fitting.{if_not, column_fits, column_line, column_faults, value_fits, value_faults, pattern_faults, width_faults, time_behind, time_faults}
use Rattle.pat_io.specs.PatternText.{first_fault, first_line, unknown_error, line_error, or_else, fault_in}
use Rattle.pat_io.specs.ReadAgain.{written_range, written_column, written_digits, written_values, written_pattern, written}
use Rattle.pat_print.proofs.Places.{line_behind}
use Rattle.pat_print.proofs.Columns.{columns_from, lines_behind}
use Rattle.pat_print.proofs.Timed.{patterns_from}

-- ---- no fault

or_none : (a b : Option ReadError) → or_else a b ≡ None → (a ≡ None) × (b ≡ None)
or_none None b h = (refl, h)
or_none (Some e) b h = absurd cc

none_unknown : (fs : List InputFault) → unknown_error (first_fault fs) ≡ None → fs ≡ []
none_unknown [] h = refl
none_unknown (f ∷ fs) h = absurd cc

no_line : (k : FaultKind) (lines : List ℕ) → line_error k (first_line lines) ≡ None → lines ≡ []
no_line k [] h = refl
no_line k (n ∷ lines) h = absurd cc

no_lines : (xs ys : List ℕ) → xs ++ ys ≡ [] → (xs ≡ []) × (ys ≡ [])
no_lines [] ys h = (refl, h)
no_lines (x ∷ xs) ys h = absurd cc

held : (b : Bool) (line : ℕ) (rest : List ℕ) → if_not b line ++ rest ≡ [] → (b ≡ true) × (rest ≡ [])
held true line rest h = (refl, h)
held false line rest h = absurd cc

holds : (b : Bool) (line : ℕ) (rest : List ℕ) → b ≡ true → rest ≡ [] → if_not b line ++ rest ≡ []
holds b line rest h g = rw (h, g) refl

known : (c : ParsedColumn) (o : Option Name) (rest : List InputFault) → fault_of c o ++ rest ≡ [] → (o ≡ None) × (rest ≡ [])
known c None rest h = (refl, h)
known c (Some n) rest h = absurd cc

stays_known : (c : ParsedColumn) (o : Option Name) (rest : List InputFault) → o ≡ None → rest ≡ [] → fault_of c o ++ rest ≡ []
stays_known c o rest h g = rw (h, g) refl

-- ---- names

same_range : (r : Option BitRange) (l : ℕ) → bit_range (written_range l r) ≡ bit_range (written_range 1 r)
same_range None l = refl
same_range (Some r) l = refl

same_names : (c : Column) (l : ℕ) → bits_of (written_column l c) ≡ bits_of (written_column 1 c)
same_names c l = ap (names_of_range c.name) (same_range c.range l)

any_append : (p : ParsedColumn → Bool) (xs : List ParsedColumn) (y : ParsedColumn) → list_any p (xs ++ y ∷ []) ≡ (list_any p xs || p y)
any_append p [] y = or_false (p y) where
  or_false : (b : Bool) → (b || false) ≡ b
  or_false true = refl
  or_false false = refl
any_append p (x ∷ xs) y = ap (λ (b : Bool). p x || b) (any_append p xs y) ∙ sym (or_assoc (p x) (list_any p xs) (p y)) where
  or_assoc : (a b c : Bool) → ((a || b) || c) ≡ (a || (b || c))
  or_assoc true b c = refl
  or_assoc false b c = refl

-- the two list the same bits
abbrev ListAlike : List ParsedColumn → List ParsedColumn → Type 0
ListAlike xs ys = (n : Name) → list_any (lists n) xs ≡ list_any (lists n) ys

one_more : (xs ys : List ParsedColumn) (d : Column) (l : ℕ) → ListAlike xs ys → ListAlike (xs ++ written_column l d ∷ []) (ys ++ written_column 1 d ∷ [])
one_more xs ys d l h n =
    any_append (lists n) xs (written_column l d)
    ∙ ap (λ (b : Bool). b || lists n (written_column l d)) (h n)
    ∙ ap (λ (names : List Name). list_any (lists n) ys || list_any (is_same_name n) names) (same_names d l)
    ∙ sym (any_append (lists n) ys (written_column 1 d))

found_alike : (p q : Name → Bool) (ns : List Name) → ((n : Name) → p n ≡ q n) → find p ns ≡ find q ns
found_alike p q [] h = refl
found_alike p q (n ∷ ns) h = ap (λ (b : Bool). if b then Some n else find p ns) (h n) ∙ ap (λ (o : Option Name). if q n then Some n else o) (found_alike p q ns h)

again_alike : (xs ys : List ParsedColumn) (c : Column) (l : ℕ) → ListAlike xs ys → first_again xs (written_column l c) ≡ first_again ys (written_column 1 c)
again_alike xs ys c l h =
    ap (λ (names : List Name). find (λ n. list_any (lists n) xs) names) (same_names c l)
    ∙ found_alike (λ n. list_any (lists n) xs) (λ n. list_any (lists n) ys) (bits_of (written_column 1 c)) h

all_known : (ports : List Port) (cs : List Column) (l : ℕ) (xs ys : List ParsedColumn) → ListAlike xs ys
    → unknown_behind ports ys (map (written_column 1) cs) ≡ [] → unknown_behind ports xs (columns_from l cs) ≡ []
all_known ports [] l xs ys h none = refl
all_known ports (c ∷ cs) l xs ys h none =
    let parts = known (written_column 1 c) (unknown_name ports ys (written_column 1 c)) (unknown_behind ports (ys ++ written_column 1 c ∷ []) (map (written_column 1) cs)) none in
    let same : unknown_name ports xs (written_column l c) ≡ unknown_name ports ys (written_column 1 c) =
    ap (λ (o : Option Name). if is_known ports (written_column 1 c) then o else Some (record { text = c.name; bit = None })) (again_alike xs ys c l h) in
    stays_known (written_column l c) (unknown_name ports xs (written_column l c)) (unknown_behind ports (xs ++ written_column l c ∷ []) (columns_from (line_behind l) cs)) (same ∙ parts.0)
    (all_known ports cs (line_behind l) (xs ++ written_column l c ∷ []) (ys ++ written_column 1 c ∷ []) (one_more xs ys c l h) parts.1)

-- ---- widths

same_column : (ports : List Port) (c : Column) (r : Option BitRange) (l : ℕ)
    → column_fits ports (record { name = c.name; line = l; dir = c.dir; range = written_range l r; format = c.format }) ≡ column_fits ports (record { name = c.name; line = 1; dir = c.dir; range = written_range 1 r; format = c.format })
same_column ports c None l = refl
same_column ports c (Some r) l = refl

all_fit : (ports : List Port) (cs : List Column) (l : ℕ) → column_faults ports (map (written_column 1) cs) ≡ [] → column_faults ports (columns_from l cs) ≡ []
all_fit ports [] l none = refl
all_fit ports (c ∷ cs) l none =
    let parts = held (column_fits ports (written_column 1 c)) (column_line (written_column 1 c)) (column_faults ports (map (written_column 1) cs)) none in
    holds (column_fits ports (written_column l c)) (column_line (written_column l c)) (column_faults ports (columns_from (line_behind l) cs)) (same_column ports c c.range l ∙ parts.0) (all_fit ports cs (line_behind l) parts.1)

same_value : (c : Column) (r : Option BitRange) (d : Option (List ℕ)) (l : ℕ)
    → value_fits (record { name = c.name; line = l; dir = c.dir; range = written_range l r; format = c.format }) d ≡ value_fits (record { name = c.name; line = 1; dir = c.dir; range = written_range 1 r; format = c.format }) d
same_value c r None l = refl
same_value c None (Some digits) l = refl
same_value c (Some r) (Some digits) l = refl

values_fit : (cs : List Column) (vs : List Value) (l line : ℕ) → value_faults (map (written_column 1) cs) (written_values 1 cs vs) ≡ [] → value_faults (columns_from l cs) (written_values line cs vs) ≡ []
values_fit [] vs l line none = refl
values_fit (c ∷ cs) [] l line none = refl
values_fit (c ∷ cs) (v ∷ vs) l line none =
    let parts = held (value_fits (written_column 1 c) (written_digits c v)) 1 (value_faults (map (written_column 1) cs) (written_values 1 cs vs)) none in
    holds (value_fits (written_column l c) (written_digits c v)) line (value_faults (columns_from (line_behind l) cs) (written_values line cs vs))
    (same_value c c.range (written_digits c v) l ∙ parts.0) (values_fit cs vs (line_behind l) line parts.1)

both_empty : (xs ys : List ℕ) → xs ≡ [] → ys ≡ [] → xs ++ ys ≡ []
both_empty xs ys h g = rw (h, g) refl

patterns_fit : (cs : List Column) (qs : List Pattern) (l line : ℕ) → pattern_faults (map (written_column 1) cs) (map (written_pattern 1 cs) qs) ≡ [] → pattern_faults (columns_from l cs) (patterns_from line cs qs) ≡ []
patterns_fit cs [] l line none = refl
patterns_fit cs (q ∷ qs) l line none =
    let parts = no_lines (value_faults (map (written_column 1) cs) (written_values 1 cs q.values)) (pattern_faults (map (written_column 1) cs) (map (written_pattern 1 cs) qs)) none in
    both_empty (value_faults (columns_from l cs) (written_values line cs q.values)) (pattern_faults (columns_from l cs) (patterns_from (line_behind line) cs qs)) (values_fit cs q.values l line parts.0) (patterns_fit cs qs l (line_behind line) parts.1)

-- ---- times

times_rise : (cs : List Column) (qs : List Pattern) (line before : ℕ) → time_faults before (map (written_pattern 1 cs) qs) ≡ [] → time_faults before (patterns_from line cs qs) ≡ []
times_rise cs [] line before none = refl
times_rise cs (q ∷ qs) line before none =
    let now = time_behind before q.time in
    let parts = held (nat_le before now) 1 (time_faults now (map (written_pattern 1 cs) qs)) none in
    holds (nat_le before now) line (time_faults now (patterns_from (line_behind line) cs qs)) parts.0 (times_rise cs qs (line_behind line) now parts.1)

-- ---- what is meant

same_columns : (cs : List Column) (l : ℕ) → map column_of (columns_from l cs) ≡ map column_of (map (written_column 1) cs)
same_columns [] l = refl
same_columns (c ∷ cs) l =
    let made : Option BitRange → Column = λ r. record { name = c.name; dir = c.dir; range = r; format = c.format } in
    ap (λ (r : Option BitRange). made r ∷ map column_of (columns_from (line_behind l) cs)) (same_range c.range l) ∙ ap (λ (xs : List Column). column_of (written_column 1 c) ∷ xs) (same_columns cs (line_behind l))

same_bits : (c : Column) (r : Option BitRange) (d : Option (List ℕ)) (l : ℕ)
    → value_for (record { name = c.name; line = l; dir = c.dir; range = written_range l r; format = c.format }) d ≡ value_for (record { name = c.name; line = 1; dir = c.dir; range = written_range 1 r; format = c.format }) d
same_bits c r None l = refl
same_bits c None (Some digits) l = refl
same_bits c (Some r) (Some digits) l = refl

same_values : (cs : List Column) (vs : List Value) (l line : ℕ) → values_for (columns_from l cs) (written_values line cs vs) ≡ values_for (map (written_column 1) cs) (written_values 1 cs vs)
same_values [] vs l line = refl
same_values (c ∷ cs) [] l line = refl
same_values (c ∷ cs) (v ∷ vs) l line =
    ap (λ (x : Value). x ∷ values_for (columns_from (line_behind l) cs) (written_values line cs vs)) (same_bits c c.range (written_digits c v) l)
    ∙ ap (λ (xs : List Value). value_for (written_column 1 c) (written_digits c v) ∷ xs) (same_values cs vs (line_behind l) line)

same_patterns : (cs : List Column) (qs : List Pattern) (l line : ℕ) → map (pattern_for (columns_from l cs)) (patterns_from line cs qs) ≡ map (pattern_for (map (written_column 1) cs)) (map (written_pattern 1 cs) qs)
same_patterns cs [] l line = refl
same_patterns cs (q ∷ qs) l line =
    let made : List Value → Pattern = λ vs. record { time = q.time; label = q.label; values = vs } in
    ap (λ (vs : List Value). made vs ∷ map (pattern_for (columns_from l cs)) (patterns_from (line_behind line) cs qs)) (same_values cs q.values l line)
    ∙ ap (λ (xs : List Pattern). pattern_for (map (written_column 1) cs) (written_pattern 1 cs q) ∷ xs) (same_patterns cs qs l (line_behind line))

-- ---- all

-- with the lines on which they stand
abbrev pub placed : Patterns → PatternFile
placed p = record { columns = columns_from 1 p.columns; patterns = patterns_from (line_behind (lines_behind 1 p.columns)) p.columns p.patterns }

pub without_fault : (ports : List Port) (p : Patterns) → fault_in ports (written 1 p) ≡ None → fault_in ports (placed p) ≡ None
unfolding fault_in
without_fault ports p none =
    let cs = map (written_column 1) p.columns in
    let qs = map (written_pattern 1 p.columns) p.patterns in
    let line = line_behind (lines_behind 1 p.columns) in
    let names = or_none (unknown_error (first_fault (unknown_faults ports cs))) (or_else (line_error kind.Width (first_line (width_faults ports (written 1 p)))) (line_error kind.TimeBack (first_line (time_faults 0 qs)))) none in
    let more = or_none (line_error kind.Width (first_line (width_faults ports (written 1 p)))) (line_error kind.TimeBack (first_line (time_faults 0 qs))) names.1 in
    let widths = no_lines (column_faults ports cs) (pattern_faults cs qs) (no_line kind.Width (width_faults ports (written 1 p)) more.0) in
    let known : unknown_faults ports (columns_from 1 p.columns) ≡ [] = all_known ports p.columns 1 [] [] (λ n. refl) (none_unknown (unknown_faults ports cs) names.0) in
    let wide : width_faults ports (placed p) ≡ [] = both_empty (column_faults ports (columns_from 1 p.columns)) (pattern_faults (columns_from 1 p.columns) (patterns_from line p.columns p.patterns)) (all_fit ports p.columns 1 widths.0) (patterns_fit p.columns p.patterns 1 line widths.1) in
    let rise : time_faults 0 (patterns_from line p.columns p.patterns) ≡ [] = times_rise p.columns p.patterns line 0 (no_line kind.TimeBack (time_faults 0 qs) more.1) in
    rw (known, wide, rise) refl

pub same_meaning : (p : Patterns) → patterns_for (placed p) ≡ patterns_for (written 1 p)
same_meaning p =
    let made : List Column → List Pattern → Patterns = λ x y. record { columns = x; patterns = y } in
    let cs = map (written_column 1) p.columns in
    let line = line_behind (lines_behind 1 p.columns) in
    ap (λ (x : List Column). made x (map (pattern_for (columns_from 1 p.columns)) (patterns_from line p.columns p.patterns))) (same_columns p.columns 1)
    ∙ ap (made (map column_of cs)) (same_patterns p.columns p.patterns 1 line)
