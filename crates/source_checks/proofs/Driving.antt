-- What assignments do to the set of driven bits.
use Rattle.std.proofs.Common.{◌≡◌, ℕ, ◌+◌, Bool, true, false, cond, List, [], ◌∷◌, ◌++◌, map, Option, Some, None, refl, sym, ap, ◌∙◌, append_assoc, append-nil, add-one}
use Rattle.std.specs.Prelude.{◌||◌, filter, option_map}
use Rattle.std.specs.List.{list_any}
use Rattle.std.specs.BTreeSet.{BTreeSet}
use Rattle.vlsi_base.specs.declared.name.Name.{Name}
use Rattle.vlsi_base.specs.declared.range.Range.{Range}
use Rattle.source_checks.specs.declared.statement.Selection.{Selection}
use Rattle.source_checks.specs.declared.statement.Selection.TheVariants as selection
use Rattle.source_checks.specs.declared.statement.Target.{Target}
use Rattle.source_checks.specs.declared.symbol_table.Symbol.{Symbol}
use Rattle.source_checks.specs.declared.drivers.NameFault.{NameFault}
use Rattle.vlsi_base.specs.Range.{range_bits}
use Rattle.source_checks.specs.Symbols.{find, names_in, bit_name}
use Rattle.source_checks.specs.Formula.{names_of_found}
use Rattle.source_checks.specs.Drivers.{Driver, is_among, needs_driver, counted_names, target_names, driver_at, least, fault_at, first_second_driver, all_driven}
use Rattle.source_checks.specs.Known.{position_of}
use Rattle.source_checks.specs.Marks.{has, is_key}
use Rattle.source_checks.specs.Codes.{name_at, codes_in, selected_codes, least_code}
use Rattle.source_checks.specs.Driving.{Drives, Counts}
use Rattle.source_checks.proofs.Names.{find_text, tied_more, driven_names, least_name, is_among-append}

pub counts_is : (known : List Symbol) (t : List ℕ) (s : Symbol) (p : ℕ) → find known t ≡ Some s → position_of known t ≡ Some p → needs_driver s.role ≡ true → Counts known t p s.range
counts_is known t s p found at needs = record {
  at = at;
  bits = ap names_of_found found ∙ ap (λ (x : List ℕ). names_in x s.range) (find_text known t s found);
  all = λ names. ap (λ (o : Option Symbol). counted_names o names) found ∙ ap (λ b. cond b names []) needs;
}

pub needs_none : (known : List Symbol) (t : List ℕ) (s : Symbol) → find known t ≡ Some s → needs_driver s.role ≡ false → (names : List Name) → counted_names (find known t) names ≡ []
needs_none known t s found needs names = ap (λ (o : Option Symbol). counted_names o names) found ∙ ap (λ b. cond b names []) needs

pub undeclared_none : (known : List Symbol) (t : List ℕ) → find known t ≡ None → (names : List Name) → counted_names (find known t) names ≡ []
undeclared_none known t found names = ap (λ (o : Option Symbol). counted_names o names) found

coded_names : (t : List ℕ) (ks : List ℕ) → map (bit_name t) ks ≡ map (name_at t) (map (λ k. k + 1) ks)
coded_names t [] = refl
coded_names t (k ∷ ks) =
    ap (λ n. name_at t n ∷ map (bit_name t) ks) (sym (add-one k)) ∙ ap (λ (ns : List Name). name_at t (k + 1) ∷ ns) (coded_names t ks)

pub coded_range : (t : List ℕ) (range : Option Range) → names_in t range ≡ map (name_at t) (codes_in range)
coded_range t None = refl
coded_range t (Some r) = coded_names t (range_bits r)

-- the names that a target drives, by their codes
coded_target : (known : List Symbol) (target : Target) (p : ℕ) (range : Option Range) → Counts known target.name p range → (driver_at known target).names ≡ map (name_at target.name) (selected_codes range target.selection)
coded_target known target p range counts = counts.all (target_names known target) ∙ by target.selection refl where
  by : (s : Selection) → target.selection ≡ s → target_names known target ≡ map (name_at target.name) (selected_codes range s)
  by selection.Whole e = rw e (counts.bits ∙ coded_range target.name range)
  by (selection.Bit k) e = rw e (ap (λ n. name_at target.name n ∷ []) (sym (add-one k)))
  by (selection.Bits r) e = rw e (coded_range target.name (Some r))

-- a target that doesn't count drives nothing
pub drives_nothing : (known : List Symbol) (marks : BTreeSet (ℕ × ℕ)) (target : Target) → ((names : List Name) → counted_names (find known target.name) names ≡ []) → Drives known marks marks (driver_at known target ∷ []) None
drives_nothing known marks target none driven tied =
    let names = none (target_names known target) in
    record {
      after = driven;
      tied = tied;
      goes = λ rest. ap (λ (ns : List Name). fault_at target.line (least (filter (is_among driven) ns)) (first_second_driver (ns ++ driven) rest)) names;
      members = λ n. ap (λ (ns : List Name). is_among (ns ++ []) n || is_among driven n) (sym names);
    }

-- a bit that is driven already
pub drives_again : (known : List Symbol) (old new : BTreeSet (ℕ × ℕ)) (target : Target) (p : ℕ) (range : Option Range) (code : ℕ) (name : Name) → Counts known target.name p range
    → Some code ≡ least_code (filter (λ c. has old (p, c)) (selected_codes range target.selection)) → name ≡ name_at target.name code → Drives known old new (driver_at known target ∷ []) (Some (record { line = target.line; name = name }))
drives_again known old new target p range code name counts least_is named driven tied = λ rest.
    let codes = selected_codes range target.selection in
    let names = coded_target known target p range counts in
    let first : least (filter (is_among driven) (driver_at known target).names) ≡ Some (name_at target.name code) =
    ap (λ (ns : List Name). least (filter (is_among driven) ns)) names ∙ ap least (driven_names known old driven target.name p counts.at tied codes) ∙ least_name target.name (filter (λ c. has old (p, c)) codes) ∙ ap (option_map (name_at target.name)) (sym least_is) in
    ap (λ (o : Option Name). fault_at target.line o (first_second_driver ((driver_at known target).names ++ driven) rest)) first ∙ ap (λ (n : Name). Some (fault_of target.line n)) (sym named) where
      fault_of : ℕ → Name → NameFault
      fault_of line n = record { line = line; name = n }

nothing_more : (xs : List Name) (n : Name) → is_among (xs ++ []) n ≡ is_among xs n
nothing_more xs n = ap (λ (ys : List Name). is_among ys n) (append-nil xs)

-- bits that are driven for the first time
pub drives_first : (known : List Symbol) (old new : BTreeSet (ℕ × ℕ)) (target : Target) (p : ℕ) (range : Option Range) → Counts known target.name p range
    → None ≡ least_code (filter (λ c. has old (p, c)) (selected_codes range target.selection)) → ((q : ℕ × ℕ) → has new q ≡ (list_any (λ c. is_key (p, c) q) (selected_codes range target.selection) || has old q))
    → Drives known old new (driver_at known target ∷ []) None
drives_first known old new target p range counts least_is marks driven tied =
    let codes = selected_codes range target.selection in
    let names = coded_target known target p range counts in
    let first : least (filter (is_among driven) (driver_at known target).names) ≡ None =
    ap (λ (ns : List Name). least (filter (is_among driven) ns)) names ∙ ap least (driven_names known old driven target.name p counts.at tied codes) ∙ least_name target.name (filter (λ c. has old (p, c)) codes) ∙ ap (option_map (name_at target.name)) (sym least_is) in
    record {
      after = map (name_at target.name) codes ++ driven;
      tied = tied_more known old new driven target.name p codes counts.at marks tied;
      goes = λ rest. ap (λ (o : Option Name). fault_at target.line o (first_second_driver ((driver_at known target).names ++ driven) rest)) first ∙ ap (λ (ns : List Name). first_second_driver (ns ++ driven) rest) names;
      members = λ n. is_among-append (map (name_at target.name) codes) driven n ∙ ap (λ b. b || is_among driven n) (ap (λ (ns : List Name). is_among ns n) (sym names) ∙ sym (nothing_more (driver_at known target).names n));
    }

-- ---- drivers one behind another

or_swap : (a b c : Bool) → (a || (b || c)) ≡ ((b || a) || c)
or_swap true true c = refl
or_swap true false c = refl
or_swap false true c = refl
or_swap false false c = refl

driven_append : (xs ys : List Driver) (n : Name) → is_among (all_driven (xs ++ ys)) n ≡ (is_among (all_driven xs) n || is_among (all_driven ys) n)
driven_append [] ys n = refl
driven_append (x ∷ xs) ys n =
    is_among-append x.names (all_driven (xs ++ ys)) n ∙ ap (λ b. is_among x.names n || b) (driven_append xs ys n) ∙ or_left (is_among x.names n) (is_among (all_driven xs) n) (is_among (all_driven ys) n)
    ∙ ap (λ b. b || is_among (all_driven ys) n) (sym (is_among-append x.names (all_driven xs) n)) where
      or_left : (a b c : Bool) → (a || (b || c)) ≡ ((a || b) || c)
      or_left true b c = refl
      or_left false b c = refl

pub drives_none : (known : List Symbol) (marks : BTreeSet (ℕ × ℕ)) → Drives known marks marks [] None
drives_none known marks driven tied = record { after = driven; tied = tied; goes = λ rest. refl; members = λ n. refl }

-- a fault among the first ones
pub drives_stops : (known : List Symbol) (old mid new : BTreeSet (ℕ × ℕ)) (xs ys : List Driver) (f : NameFault) → Drives known old mid xs (Some f) → Drives known old new (xs ++ ys) (Some f)
drives_stops known old mid new xs ys f first driven tied = λ rest.
    ap (first_second_driver driven) (append_assoc xs ys rest) ∙ first driven tied (ys ++ rest)

-- none among the first ones
pub drives_on : (known : List Symbol) (old mid new : BTreeSet (ℕ × ℕ)) (xs ys : List Driver) (found : Option NameFault) → Drives known old mid xs None → Drives known mid new ys found → Drives known old new (xs ++ ys) found
drives_on known old mid new xs ys None first next driven tied =
    let g = first driven tied in
    let h = next g.after g.tied in
    record {
      after = h.after;
      tied = h.tied;
      goes = λ rest. ap (first_second_driver driven) (append_assoc xs ys rest) ∙ g.goes (ys ++ rest) ∙ h.goes rest;
      members = λ n. h.members n ∙ ap (λ b. is_among (all_driven ys) n || b) (g.members n) ∙ or_swap (is_among (all_driven ys) n) (is_among (all_driven xs) n) (is_among driven n) ∙ ap (λ b. b || is_among driven n) (sym (driven_append xs ys n));
    }
drives_on known old mid new xs ys (Some f) first next driven tied = λ rest.
    let g = first driven tied in
    ap (first_second_driver driven) (append_assoc xs ys rest) ∙ g.goes (ys ++ rest) ∙ next g.after g.tied rest
