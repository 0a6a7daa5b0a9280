-- What is written of patterns for ports has no fault, and means them.
use Rattle.std.proofs.Common.{◌≡◌, ℕ, zero, suc, ◌+◌, ◌≤◌, ◌<◌, Bool, true, false, not, ◌&&◌, ◌||◌, bytes_eq, List, [], ◌∷◌, ◌++◌, length, map, codes, Option, Some, None, refl, sym, ap, subst, ◌∙◌, ◌⊎◌, inl, inr, arith, if◌then◌else◌}
use Rattle.std.specs.List.{All, list_any, list_all}
use Rattle.std.proofs.lemmas.List.Elements.{All-nil, All-cons, All-head, All-tail}
use Rattle.std.proofs.lemmas.Bool.{le-leb}
use Rattle.std.proofs.lemmas.Bool.Decides.{leb_tells}
use Rattle.std.proofs.lemmas.Slice.Eq.{bytes_eq-Decides}
use Rattle.vlsi_base.specs.declared.name.Name.{Name}
use Rattle.vlsi_base.specs.declared.name.Dir.{Dir}
use Rattle.vlsi_base.specs.declared.name.Dir.TheVariants as dir
use Rattle.vlsi_base.specs.declared.name.Port.{Port}
use Rattle.vlsi_base.specs.declared.range.Range.{Range}
use Rattle.vlsi_base.specs.declared.fault.InputFault.{InputFault}
use Rattle.machine_core.specs.Named.{is_same_name}
use Rattle.machine_core.specs.Order.{In, here, there, AllDifferent}
use Rattle.machine_core.proofs.Names.{same_name-itself}
use Rattle.machine_core.proofs.Values.{In-split, In-left, In-right}
use Rattle.pat_meaning.specs.declared.patterns.BitRange.{BitRange}
use Rattle.vlsi_base.specs.declared.radix.Radix.{Radix}
use Rattle.pat_meaning.specs.declared.patterns.Column.{Column}
use Rattle.pat_meaning.specs.declared.patterns.Pattern.{Pattern}
use Rattle.pat_meaning.specs.declared.patterns.Patterns.{Patterns}
use Rattle.pat_meaning.specs.declared.patterns.Value.{Value}
use Rattle.pat_meaning.specs.declared.patterns.Value.TheVariants.{Digits, Any}
use Rattle.pat_meaning.specs.Columns.{names_of_range, column_names, listed, FitsColumns}
use Rattle.pat_meaning.specs.Answers.{IsSupplyColumn, IsOfPorts}
use Rattle.pat_text.specs.declared.parsed.ParsedColumn.{ParsedColumn}
use Rattle.vlsi_base.specs.Name.{is_supply}
use Rattle.vlsi_base.specs.Range.{rising, is_ordered, least, greatest}
use Rattle.pat_io.specs.Known.{is_same_dir, is_supply_input, is_of_port, is_known, bits_of, first_again, unknown_name, fault_of, unknown_behind, unknown_faults}
use Rattle.pat_io.specs.Digits.{column_width, bit_range, column_of, value_for, values_for, pattern_for}
use Rattle.pat_io.specs.Fitting.{if_not, is_port, column_fits, column_line, column_faults, value_fits, value_faults, pattern_faults, width_faults}
use Rattle.pat_io.specs.PatternText.{fault_in}
use Rattle.pat_io.specs.ReadAgain.{written_range, written_column, written_digits, written_values, written_pattern, written, WrittenMeansItself}
use Rattle.pat_io.proofs.Ranges.{all_in, names_in, ends_order, length_names}
use Rattle.pat_io.proofs.Listing.{IsNew, new_column}
use Rattle.pat_io.proofs.Again.{digits_read_again}

-- ---- columns stay as they are

range_back : (line : ℕ) (r : Option BitRange) → bit_range (written_range line r) ≡ r
range_back line None = refl
range_back line (Some r) = refl

column_back : (line : ℕ) (c : Column) → column_of (written_column line c) ≡ c
column_back line c = let made : Option BitRange → Column = λ r. record { name = c.name; dir = c.dir; range = r; format = c.format } in ap made (range_back line c.range)

columns_back : (line : ℕ) (cs : List Column) → map column_of (map (written_column line) cs) ≡ cs
columns_back line [] = refl
columns_back line (c ∷ cs) = ap (λ (x : Column). x ∷ map column_of (map (written_column line) cs)) (column_back line c) ∙ ap (λ (xs : List Column). c ∷ xs) (columns_back line cs)

-- the bounds stand in the order of the word
abbrev InOrder : Option Range → Type 0
InOrder None = Unit {0}
InOrder (Some r) = is_ordered r ≡ true

order_range : (line : ℕ) (r : Option BitRange) → InOrder (written_range line r)
order_range line None = tt
order_range line (Some r) = elim (leb_tells r.right r.left) [
  | inl t ↦ rw (t.0) refl
  | inr t ↦ let up = le-leb r.left r.right (omega (arith, t.1)) in rw (t.0) up
]

order_columns : (line : ℕ) (cs : List Column) → All (λ c. InOrder c.range) (map (written_column line) cs)
order_columns line [] = All-nil (λ c. InOrder c.range)
order_columns line (c ∷ cs) = All-cons (λ c. InOrder c.range) (written_column line c) (map (written_column line) cs) (order_range line c.range) (order_columns line cs)

-- ---- ports

or_left : (a b : Bool) → a ≡ true → (a || b) ≡ true
or_left a b h = rw h refl

or_right : (a b : Bool) → b ≡ true → (a || b) ≡ true
or_right true b h = refl
or_right false b h = h

both : (a b : Bool) → a ≡ true → b ≡ true → (a && b) ≡ true
both a b h g = rw (h, g) refl

dir_itself : (d : Dir) → is_same_dir d d ≡ true
dir_itself dir.In = refl
dir_itself dir.Out = refl

text_itself : (text : List ℕ) → bytes_eq text text ≡ true
text_itself text = (bytes_eq-Decides text text).1 refl

port_test : (ports : List Port) (d : Dir) (name : Name) → In (record { name = name; dir = d }) ports → is_port ports d name ≡ true
port_test (p ∷ ports) d name here = or_left (is_same_name name name && is_same_dir d d) (is_port ports d name) (both (is_same_name name name) (is_same_dir d d) (same_name-itself name) (dir_itself d))
port_test (p ∷ ports) d name (there i) = or_right (is_same_name p.name name && is_same_dir p.dir d) (is_port ports d name) (port_test ports d name i)
port_test [] d name i = elim i [ ]

text_test : (ports : List Port) (c : ParsedColumn) (b : Option ℕ) → In (record { name = record { text = c.name; bit = b }; dir = c.dir }) ports → list_any (is_of_port c) ports ≡ true
text_test (p ∷ ports) c b here = or_left (bytes_eq c.name c.name && is_same_dir c.dir c.dir) (list_any (is_of_port c) ports) (both (bytes_eq c.name c.name) (is_same_dir c.dir c.dir) (text_itself c.name) (dir_itself c.dir))
text_test (p ∷ ports) c b (there i) = or_right (is_of_port c p) (list_any (is_of_port c) ports) (text_test ports c b i)
text_test [] c b i = elim i [ ]

supply_input : (c : ParsedColumn) → IsSupplyColumn (column_of c) → is_supply_input c ≡ true
supply_input c s =
    let named : is_supply c.name ≡ true = elim s.name [
      | inl a ↦ or_left (bytes_eq c.name (codes "vdd")) (bytes_eq c.name (codes "vss")) ((bytes_eq-Decides c.name (codes "vdd")).1 a)
      | inr b ↦ or_right (bytes_eq c.name (codes "vdd")) (bytes_eq c.name (codes "vss")) ((bytes_eq-Decides c.name (codes "vss")).1 b)
    ] in
    let Inward : Dir → Type 0 = λ d. is_same_dir d dir.In ≡ true in
    both (is_supply c.name) (is_same_dir c.dir dir.In) named (subst Inward (sym s.dir) refl)

abbrev NoSupply : List Port → Type 0
NoSupply ports = All (λ port. is_supply port.name.text ≡ false) ports

abbrev Right : List Port → ParsedColumn → Type 0
Right ports c = IsSupplyColumn (column_of c) ⊎ IsOfPorts ports (column_of c)

-- a bit of a column of ports is a port
bit_of_port : (ports : List Port) (name : List ℕ) (d : Dir) (r : Option Range) → All (λ n. In (record { name = n; dir = d }) ports) (names_of_range name (bit_range r)) → (b : Option ℕ)
    → In (record { text = name; bit = b }) (names_of_range name (bit_range r)) → In (record { name = record { text = name; bit = b }; dir = d }) ports
bit_of_port ports name d r h b i = all_in (λ n. In (record { name = n; dir = d }) ports) (names_of_range name (bit_range r)) h (record { text = name; bit = b }) i

known_of : (ports : List Port) (name : List ℕ) (line : ℕ) (d : Dir) (f : Radix) (r : Option Range)
    → Right ports (record { name = name; line = line; dir = d; range = r; format = f }) → is_known ports (record { name = name; line = line; dir = d; range = r; format = f }) ≡ true
known_of ports name line d f r (inl s) =
    let c : ParsedColumn = record { name = name; line = line; dir = d; range = r; format = f } in
    or_left (is_supply_input c) (list_any (is_of_port c) ports) (supply_input c s)
known_of ports name line d f None (inr h) =
    let c : ParsedColumn = record { name = name; line = line; dir = d; range = None; format = f } in
    or_right (is_supply_input c) (list_any (is_of_port c) ports) (text_test ports c None (bit_of_port ports name d None h None (names_in name None None tt)))
known_of ports name line d f (Some r) (inr h) =
    let c : ParsedColumn = record { name = name; line = line; dir = d; range = Some r; format = f } in
    let first = names_in name (Some (least r)) (Some r) (omega arith, ends_order r) in
    or_right (is_supply_input c) (list_any (is_of_port c) ports) (text_test ports c (Some (least r)) (bit_of_port ports name d (Some r) h (Some (least r)) first))

rising_holds : (p : ℕ → Bool) (n k : ℕ) → ((j : ℕ) → k ≤ j → j < k + n → p j ≡ true) → list_all p (rising k n) ≡ true
rising_holds p zero k h = refl
rising_holds p (suc n) k h = both (p k) (list_all p (rising (k + 1) n)) (h k (omega arith) (omega arith)) (rising_holds p n (k + 1) (λ j a b. h j (omega arith) (omega arith)))

not_true : (b : Bool) → b ≡ false → not b ≡ true
not_true b h = rw h refl

column_fitting : (ports : List Port) → NoSupply ports → (name : List ℕ) (line : ℕ) (d : Dir) (f : Radix) (r : Option Range) → InOrder r
    → Right ports (record { name = name; line = line; dir = d; range = r; format = f }) → column_fits ports (record { name = name; line = line; dir = d; range = r; format = f }) ≡ true
column_fitting ports free name line d f None ordered (inl s) =
    let c : ParsedColumn = record { name = name; line = line; dir = d; range = None; format = f } in
    or_left (is_supply_input c) (is_port ports d (record { text = name; bit = None })) (supply_input c s)
column_fitting ports free name line d f None ordered (inr h) =
    let c : ParsedColumn = record { name = name; line = line; dir = d; range = None; format = f } in
    or_right (is_supply_input c) (is_port ports d (record { text = name; bit = None })) (port_test ports d (record { text = name; bit = None }) (bit_of_port ports name d None h None (names_in name None None tt)))
column_fitting ports free name line d f (Some r) ordered (inl s) = let e = s.range in absurd cc
column_fitting ports free name line d f (Some r) ordered (inr h) =
    let p : ℕ → Bool = λ k. is_port ports d (record { text = name; bit = Some k }) in
    let at : (j : ℕ) → least r ≤ j → j ≤ greatest r → In (record { name = record { text = name; bit = Some j }; dir = d }) ports = λ j a b. bit_of_port ports name d (Some r) h (Some j) (names_in name (Some j) (Some r) (a, b)) in
    let first = at (least r) (omega arith) (ends_order r) in
    let plain : is_supply name ≡ false = all_in (λ port. is_supply port.name.text ≡ false) ports free (record { name = record { text = name; bit = Some (least r) }; dir = d }) first in
    let ends = ends_order r in
    both (not (is_supply name)) (is_ordered r && list_all p (rising (least r) (column_width (Some r)))) (not_true (is_supply name) plain)
    (both (is_ordered r) (list_all p (rising (least r) (column_width (Some r)))) ordered
    (rising_holds p (column_width (Some r)) (least r) (λ j a b. port_test ports d (record { text = name; bit = Some j }) (at j a (omega (arith, ends))))))

no_line_of : (b : Bool) (line : ℕ) (rest : List ℕ) → b ≡ true → rest ≡ [] → if_not b line ++ rest ≡ []
no_line_of b line rest h g = rw (h, g) refl

columns_fitting : (ports : List Port) → NoSupply ports → (cs : List ParsedColumn) → All (λ c. InOrder c.range) cs → All (λ c. IsSupplyColumn c ⊎ IsOfPorts ports c) (map column_of cs) → column_faults ports cs ≡ []
columns_fitting ports free [] ordered h = refl
columns_fitting ports free (c ∷ cs) ordered h =
    let P : Column → Type 0 = λ c. IsSupplyColumn c ⊎ IsOfPorts ports c in
    let O : ParsedColumn → Type 0 = λ c. InOrder c.range in
    no_line_of (column_fits ports c) (column_line c) (column_faults ports cs)
    (column_fitting ports free c.name c.line c.dir c.format c.range (All-head O c cs ordered) (All-head P (column_of c) (map column_of cs) h))
    (columns_fitting ports free cs (All-tail O c cs ordered) (All-tail P (column_of c) (map column_of cs) h))

-- ---- no bit is listed once more

apart : (xs ys : List Name) → AllDifferent (xs ++ ys) → (n : Name) → In n xs → In n ys → ⊥
apart (x ∷ xs) ys h n here j = h.0 (In-right x xs ys j)
apart (x ∷ xs) ys h n (there i) j = apart xs ys h.1 n i j
apart [] ys h n i j = elim i [ ]

behind : (xs ys : List Name) → AllDifferent (xs ++ ys) → AllDifferent ys
behind [] ys h = h
behind (x ∷ xs) ys h = behind xs ys h.1

in_listed : (cs : List ParsedColumn) (d : ParsedColumn) (n : Name) → In d cs → In n (column_names (column_of d)) → In n (listed (map column_of cs))
in_listed (c ∷ cs) d n here j = In-left n (column_names (column_of c)) (listed (map column_of cs)) j
in_listed (c ∷ cs) d n (there i) j = In-right n (column_names (column_of c)) (listed (map column_of cs)) (in_listed cs d n i j)
in_listed [] d n i j = elim i [ ]

-- where all bits are different, a later column lists none of the first one's
unlisted : (c : ParsedColumn) (cs : List ParsedColumn) → AllDifferent (listed (map column_of (c ∷ cs))) → (d : ParsedColumn) → In d cs → (n : Name) → In n (bits_of c) → In n (bits_of d) → ⊥
unlisted c cs h d i n at_c at_d = apart (column_names (column_of c)) (listed (map column_of cs)) h n at_c (in_listed cs d n i at_d)

alone : (b c : ParsedColumn) → In b (c ∷ []) → c ≡ b
alone b c here = refl
alone b c (there i) = elim i [ ]

no_fault_of : (c : ParsedColumn) (o : Option Name) (rest : List InputFault) → o ≡ None → rest ≡ [] → fault_of c o ++ rest ≡ []
no_fault_of c o rest h g = rw (h, g) refl

nameless : (b : Bool) (o : Option Name) (n : Name) → b ≡ true → o ≡ None → (if b then o else Some n) ≡ None
nameless b o n h g = rw (h, g) refl

none_unknown : (ports : List Port) (before cs : List ParsedColumn) → All (λ c. IsSupplyColumn c ⊎ IsOfPorts ports c) (map column_of cs) → AllDifferent (listed (map column_of cs))
    → ((d : ParsedColumn) → In d cs → IsNew before d) → unknown_behind ports before cs ≡ []
none_unknown ports before [] right different earlier = refl
none_unknown ports before (c ∷ cs) right different earlier =
    let P : Column → Type 0 = λ c. IsSupplyColumn c ⊎ IsOfPorts ports c in
    let known = known_of ports c.name c.line c.dir c.format c.range (All-head P (column_of c) (map column_of cs) right) in
    no_fault_of c (unknown_name ports before c) (unknown_behind ports (before ++ c ∷ []) cs)
    (nameless (is_known ports c) (first_again before c) (record { text = c.name; bit = None }) known (new_column before c (earlier c here)))
    (none_unknown ports (before ++ c ∷ []) cs (All-tail P (column_of c) (map column_of cs) right) (behind (column_names (column_of c)) (listed (map column_of cs)) different)
    (λ d j b i. elim (In-split b before (c ∷ []) i) [
      | inl left ↦ earlier d (there j) b left
      | inr right ↦ let New : ParsedColumn → Type 0 = λ x. (n : Name) → In n (bits_of x) → In n (bits_of d) → ⊥ in subst New (alone b c right) (unlisted c cs different d j)
    ]))

-- ---- values

record ValueAgain (c : ParsedColumn) (digits : Option (List ℕ)) (v : Value) : Type 0 where
  pub fits : value_fits c digits ≡ true
  pub is : value_for c digits ≡ v

value_again : (line : ℕ) (c : Column) (v : Value) (cs : List Column) (vs : List Value) → FitsColumns (c ∷ cs) (v ∷ vs) → ValueAgain (written_column line c) (written_digits c v) v
value_again line c Any cs vs h = record { fits = refl; is = refl }
value_again line c (Digits bits) cs vs h =
    let width : length bits ≡ column_width (written_range line c.range) = h.0 ∙ sym (ap (λ (r : Option BitRange). length (names_of_range c.name r)) (range_back line c.range)) ∙ length_names c.name (written_range line c.range) in
    let again = digits_read_again (written_column line c) bits width in
    record { fits = again.0; is = ap (λ x. Digits x) again.1 }

values_fitting : (line : ℕ) (cs : List Column) (vs : List Value) → FitsColumns cs vs → value_faults (map (written_column line) cs) (written_values line cs vs) ≡ []
values_fitting line [] [] h = refl
values_fitting line [] (v ∷ vs) h = absurd h
values_fitting line (c ∷ cs) [] h = refl
values_fitting line (c ∷ cs) (v ∷ vs) h =
    no_line_of (value_fits (written_column line c) (written_digits c v)) line (value_faults (map (written_column line) cs) (written_values line cs vs)) (value_again line c v cs vs h).fits (values_fitting line cs vs h.1)

values_again : (line : ℕ) (cs : List Column) (vs : List Value) → FitsColumns cs vs → values_for (map (written_column line) cs) (written_values line cs vs) ≡ vs
values_again line [] [] h = refl
values_again line [] (v ∷ vs) h = absurd h
values_again line (c ∷ cs) [] h = refl
values_again line (c ∷ cs) (v ∷ vs) h =
    ap (λ (x : Value). x ∷ values_for (map (written_column line) cs) (written_values line cs vs)) (value_again line c v cs vs h).is ∙ ap (λ (xs : List Value). v ∷ xs) (values_again line cs vs h.1)

no_lines : (xs ys : List ℕ) → xs ≡ [] → ys ≡ [] → xs ++ ys ≡ []
no_lines xs ys h g = rw (h, g) refl

patterns_fitting : (line : ℕ) (cs : List Column) (qs : List Pattern) → All (λ q. FitsColumns cs q.values) qs → pattern_faults (map (written_column line) cs) (map (written_pattern line cs) qs) ≡ []
patterns_fitting line cs [] h = refl
patterns_fitting line cs (q ∷ qs) h =
    let F : Pattern → Type 0 = λ q. FitsColumns cs q.values in
    no_lines (value_faults (map (written_column line) cs) (written_values line cs q.values)) (pattern_faults (map (written_column line) cs) (map (written_pattern line cs) qs))
    (values_fitting line cs q.values (All-head F q qs h)) (patterns_fitting line cs qs (All-tail F q qs h))

pattern_again : (line : ℕ) (cs : List Column) (q : Pattern) → FitsColumns cs q.values → pattern_for (map (written_column line) cs) (written_pattern line cs q) ≡ q
pattern_again line cs q h = let made : List Value → Pattern = λ vs. record { time = q.time; label = q.label; values = vs } in ap made (values_again line cs q.values h)

patterns_again : (line : ℕ) (cs : List Column) (qs : List Pattern) → All (λ q. FitsColumns cs q.values) qs → map (pattern_for (map (written_column line) cs)) (map (written_pattern line cs) qs) ≡ qs
patterns_again line cs [] h = refl
patterns_again line cs (q ∷ qs) h =
    let F : Pattern → Type 0 = λ q. FitsColumns cs q.values in
    ap (λ (x : Pattern). x ∷ map (pattern_for (map (written_column line) cs)) (map (written_pattern line cs) qs)) (pattern_again line cs q (All-head F q qs h)) ∙ ap (λ (xs : List Pattern). q ∷ xs) (patterns_again line cs qs (All-tail F q qs h))

-- ---- all

pub written_means_itself : WrittenMeansItself
unfolding fault_in
written_means_itself ports p line for free rise =
    let cs = map (written_column line) p.columns in
    let Every : List Column → Type 0 = λ x. All (λ c. IsSupplyColumn c ⊎ IsOfPorts ports c) x in
    let Different : List Column → Type 0 = λ x. AllDifferent (listed x) in
    let right = subst Every (sym (columns_back line p.columns)) for.columns in
    let different = subst Different (sym (columns_back line p.columns)) for.different in
    let known : unknown_faults ports cs ≡ [] = none_unknown ports [] cs right different (λ d j b i. elim i [ ]) in
    let wide : width_faults ports (written line p) ≡ [] = no_lines (column_faults ports cs) (pattern_faults cs (map (written_pattern line p.columns) p.patterns)) (columns_fitting ports free cs (order_columns line p.columns) right) (patterns_fitting line p.columns p.patterns for.values) in
    let made : List Column → List Pattern → Patterns = λ x y. record { columns = x; patterns = y } in
    (rw (known, wide, rise) refl, ap (λ (x : List Column). made x (map (pattern_for cs) (map (written_pattern line p.columns) p.patterns))) (columns_back line p.columns) ∙ ap (made p.columns) (patterns_again line p.columns p.patterns for.values))
