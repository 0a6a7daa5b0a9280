-- Declared bits without a driver.
use Rattle.std.proofs.Common.{◌≡◌, ℕ, zero, suc, ◌+◌, ◌<◌, Bool, true, false, cond, List, [], ◌∷◌, length, drop, get_or, map, Option, Some, None, refl, sym, ap, ◌∙◌, bytes_eq, append-nil, arith}
use Rattle.std.specs.Prelude.{◌||◌, not, filter, option_map}
use Rattle.std.specs.BTreeSet.{BTreeSet}
use Rattle.std.proofs.lemmas.List.{at_drop_more}
use Rattle.vlsi_base.specs.declared.name.Name.{Name}
use Rattle.source_checks.specs.declared.symbol_table.Symbol.{Symbol}
use Rattle.source_checks.specs.declared.drivers.NameFault.{NameFault}
use Rattle.source_checks.specs.Symbols.{symbols, symbol_names}
use Rattle.source_checks.specs.Places.{in_statements}
use Rattle.source_checks.specs.declared.statement.Statement.{Statement}
use Rattle.source_checks.specs.declared.statement.DesignFile.{DesignFile}
use Rattle.source_checks.specs.Drivers.{Driver, is_among, needs_driver, least, fault_at, first_undriven, first_second_driver, all_driven, drivers, statement_drivers}
use Rattle.source_checks.specs.Known.{position_of}
use Rattle.source_checks.specs.Marks.{has, key_cmp}
use Rattle.std.specs.List.{list_any}
use Rattle.std.specs.BTreeMap.{is_at}
use Rattle.source_checks.proofs.Knowing.{not_behind}
use Rattle.source_checks.specs.Codes.{name_at, codes_in, least_code, Tied}
use Rattle.source_checks.specs.Driving.{fault_of, undriven_of, Drives}
use Rattle.source_checks.proofs.Lookups.{itself}
use Rattle.source_checks.proofs.Turns.{or_first}
use Rattle.source_checks.proofs.Names.{least_name}
use Rattle.source_checks.proofs.Driving.{coded_range}

free_names : (known : List Symbol) (marks : BTreeSet (ℕ × ℕ)) (driven : List Name) (t : List ℕ) (p : ℕ) → position_of known t ≡ Some p → Tied known marks driven → (codes : List ℕ)
    → filter (λ n. not (is_among driven n)) (map (name_at t) codes) ≡ map (name_at t) (filter (λ c. not (has marks (p, c))) codes)
free_names known marks driven t p at tied [] = refl
free_names known marks driven t p at tied (c ∷ codes) =
    ap (λ b. cond (not b) (name_at t c ∷ filter (λ n. not (is_among driven n)) (map (name_at t) codes)) (filter (λ n. not (is_among driven n)) (map (name_at t) codes))) (sym (tied.each t p c at))
    ∙ ap (λ (ns : List Name). cond (not (has marks (p, c))) (name_at t c ∷ ns) ns) (free_names known marks driven t p at tied codes) ∙ by (not (has marks (p, c))) where
      by : (b : Bool) → cond b (name_at t c ∷ map (name_at t) (filter (λ c. not (has marks (p, c))) codes)) (map (name_at t) (filter (λ c. not (has marks (p, c))) codes)) ≡ map (name_at t) (cond b (c ∷ filter (λ c. not (has marks (p, c))) codes) (filter (λ c. not (has marks (p, c))) codes))
      by true = refl
      by false = refl

fault_or : (line : ℕ) (t : List ℕ) (o : Option ℕ) (later : Option NameFault) → fault_at line (option_map (name_at t) o) later ≡ or_first (option_map (λ code. fault_of line (name_at t code)) o) later
fault_or line t None later = refl
fault_or line t (Some code) later = refl

undriven_first : (known : List Symbol) (marks : BTreeSet (ℕ × ℕ)) (driven : List Name) (s : Symbol) (p : ℕ) (rest : List Symbol) → Tied known marks driven → position_of known s.text ≡ Some p
    → first_undriven driven (s ∷ rest) ≡ or_first (undriven_of marks p s) (first_undriven driven rest)
undriven_first known marks driven s p rest tied at = by (needs_driver s.role) where
  by : (b : Bool) → cond b (fault_at s.line (least (filter (λ n. not (is_among driven n)) (symbol_names s))) (first_undriven driven rest)) (first_undriven driven rest)
      ≡ or_first (cond b (option_map (λ code. fault_of s.line (name_at s.text code)) (least_code (filter (λ c. not (has marks (p, c))) (codes_in s.range)))) None) (first_undriven driven rest)
  by false = refl
  by true =
      let names : least (filter (λ n. not (is_among driven n)) (symbol_names s)) ≡ option_map (name_at s.text) (least_code (filter (λ c. not (has marks (p, c))) (codes_in s.range))) =
      ap (λ (ns : List Name). least (filter (λ n. not (is_among driven n)) ns)) (coded_range s.text s.range) ∙ ap least (free_names known marks driven s.text p at tied (codes_in s.range)) ∙ least_name s.text (filter (λ c. not (has marks (p, c))) (codes_in s.range)) in
      ap (λ (o : Option Name). fault_at s.line o (first_undriven driven rest)) names ∙ fault_or s.line s.text (least_code (filter (λ c. not (has marks (p, c))) (codes_in s.range))) (first_undriven driven rest)

-- a turn of a loop over the declared names
pub undriven_turn : (known : List Symbol) (marks : BTreeSet (ℕ × ℕ)) (driven : List Name) (i p : ℕ) (s : Symbol) (found total : Option NameFault) → Tied known marks driven → i < length known → s ≡ get_or known i s → position_of known s.text ≡ Some p
    → found ≡ undriven_of marks p s → first_undriven driven (drop i known) ≡ total → or_first found (first_undriven driven (drop (i + 1) known)) ≡ total
undriven_turn known marks driven i p s found total tied within is at finds so_far =
    let rest = drop (i + 1) known in
    ap (λ (o : Option NameFault). or_first o (first_undriven driven rest)) finds ∙ sym (undriven_first known marks driven s p rest tied at) ∙ ap (λ (x : Symbol). first_undriven driven (x ∷ rest)) is ∙ sym (at_drop_more (first_undriven driven) known i s within) ∙ so_far

not_some : (n : ℕ) → Some n ≡ None → ⊥
not_some n e = absurd cc

-- each declared name has a place
pub has_place : (known : List Symbol) (i : ℕ) (d : Symbol) → i < length known → position_of known (get_or known i d).text ≡ None → ⊥
has_place [] i d within e = absurd (omega arith)
has_place (x ∷ known) zero d within e =
    let first : Some 0 ≡ None = ap (λ b. cond b (Some 0) (option_map suc (position_of known x.text))) (sym (itself x.text)) ∙ e in
    not_some 0 first
has_place (x ∷ known) (suc i) d within e = by (has_place known i d (omega arith)) (bytes_eq x.text (get_or known i d).text) e where
  by : (position_of known (get_or known i d).text ≡ None → ⊥) → (b : Bool) → cond b (Some 0) (option_map suc (position_of known (get_or known i d).text)) ≡ None → ⊥
  by rest true e = absurd cc
  by rest false e = rest (not_behind (position_of known (get_or known i d).text) e)

-- no bit is in an empty set
pub tied_empty : (known : List Symbol) (marks : BTreeSet (ℕ × ℕ)) → marks.keys ≡ [] → Tied known marks []
tied_empty known marks none = record { each = λ text place code at. ap (λ (ks : List (ℕ × ℕ)). list_any (is_at (key_cmp (place, code))) ks) none }

or_false : (b : Bool) → (b || false) ≡ b
or_false true = refl
or_false false = refl

-- after drivers with no fault, the set has the bits of all of them
pub all_tied : (known : List Symbol) (old new : BTreeSet (ℕ × ℕ)) (ds : List Driver) → Tied known old [] → Drives known old new ds None → Tied known new (all_driven ds)
all_tied known old new ds tied drives =
    let g = drives [] tied in
    record { each = λ text place code at. g.tied.each text place code at ∙ g.members (name_at text code) ∙ or_false (is_among (all_driven ds) (name_at text code)) }

pub no_second : (known : List Symbol) (old new : BTreeSet (ℕ × ℕ)) (ds : List Driver) → Tied known old [] → Drives known old new ds None → first_second_driver [] ds ≡ None
no_second known old new ds tied drives =
    let g = drives [] tied in
    ap (first_second_driver []) (sym (append-nil ds)) ∙ g.goes []

pub some_second : (known : List Symbol) (old new : BTreeSet (ℕ × ℕ)) (ds : List Driver) (f : NameFault) → Tied known old [] → Drives known old new ds (Some f) → first_second_driver [] ds ≡ Some f
some_second known old new ds f tied drives = ap (first_second_driver []) (sym (append-nil ds)) ∙ drives [] tied []

-- where no assignment drives a bit again, what is missing is the first that has no driver
pub missing_is : (known : List Symbol) (design : DesignFile) (old new : BTreeSet (ℕ × ℕ)) (ss : List Statement) (missing : Option NameFault) → known ≡ symbols design → ss ≡ design.statements → old.keys ≡ []
    → Drives known old new (in_statements (statement_drivers known) ss) None → ((driven : List Name) → Tied known new driven → missing ≡ first_undriven driven known)
    → (first_second_driver [] (drivers design) ≡ None) × (first_undriven (all_driven (drivers design)) (symbols design) ≡ missing)
missing_is known design old new ss missing declared written empty drives finds =
    let ds = in_statements (statement_drivers known) ss in
    let same : ds ≡ drivers design = ap (λ (k : List Symbol). in_statements (statement_drivers k) ss) declared ∙ ap (λ (xs : List Statement). in_statements (statement_drivers (symbols design)) xs) written in
    let tied = tied_empty known old empty in (
      ap (first_second_driver []) (sym same) ∙ no_second known old new ds tied drives,
      ap (λ (xs : List Driver). first_undriven (all_driven xs) (symbols design)) (sym same) ∙ ap (first_undriven (all_driven ds)) (sym declared) ∙ sym (finds (all_driven ds) (all_tied known old new ds tied drives)),
    )
