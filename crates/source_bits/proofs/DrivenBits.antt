-- Bits that assignments drive, over numbers.
use Rattle.std.proofs.Common.{◌≡◌, ℕ, List, [], ◌∷◌, ◌++◌, map, Option, None, refl, sym, ap, ◌∙◌}
use Rattle.std.proofs.lemmas.List.{map-append}
use Rattle.vlsi_base.specs.declared.name.Name.{Name}
use Rattle.source_checks.specs.declared.statement.Assignment.{Assignment}
use Rattle.source_checks.specs.declared.statement.Statement.{Statement}
use Rattle.source_checks.specs.declared.statement.Statement.TheVariants as statement
use Rattle.source_checks.specs.declared.symbol_table.Symbol.{Symbol}
use Rattle.source_checks.specs.Symbols.{all_names}
use Rattle.source_checks.specs.Formula.{Formula, place, numbered, choice_bits}
use Rattle.source_checks.specs.Drivers.{target_names}
use Rattle.source_checks.specs.Places.{in_assignments, in_statements}
use Rattle.source_checks.specs.Elaboration.{Definition, Storage, defined, stored, assignment_definitions, statement_storage}
use Rattle.source_bits.specs.declared.ranges.Declared.{Declared}
use Rattle.source_bits.specs.Numbering.{named_bit, number_in}
use Rattle.source_bits.specs.Driven.{Numbered, NumberedStorage, numbered_definition, numbered_storage, driven_pairs, stored_pairs, stored_in}

pub definitions_append : (vars : List Name) (xs ys : List Definition) → map (numbered_definition vars) (xs ++ ys) ≡ map (numbered_definition vars) xs ++ map (numbered_definition vars) ys
definitions_append vars xs ys = map-append (numbered_definition vars) xs ys

pub storage_append : (vars : List Name) (xs ys : List Storage) → map (numbered_storage vars) (xs ++ ys) ≡ map (numbered_storage vars) xs ++ map (numbered_storage vars) ys
storage_append vars xs ys = map-append (numbered_storage vars) xs ys

pub driven_defined : (vars ns : List Name) (fs : List Formula) → driven_pairs (map (place vars) ns) (map (numbered vars) fs) ≡ map (numbered_definition vars) (defined ns fs)
driven_defined vars [] fs = refl
driven_defined vars (n ∷ ns) [] = refl
driven_defined vars (n ∷ ns) (f ∷ fs) = ap (λ (ds : List Numbered). record { bit = place vars n; expr = numbered vars f } ∷ ds) (driven_defined vars ns fs)

stored_defined : (vars ns : List Name) (enable : Formula) (fs : List Formula) → stored_pairs (numbered vars enable) (map (place vars) ns) (map (numbered vars) fs) ≡ map (numbered_storage vars) (stored enable (defined ns fs))
stored_defined vars [] enable fs = refl
stored_defined vars (n ∷ ns) enable [] = refl
stored_defined vars (n ∷ ns) enable (f ∷ fs) = ap (λ (ds : List NumberedStorage). record { bit = place vars n; next = numbered vars f; enable = numbered vars enable } ∷ ds) (stored_defined vars ns enable fs)

stored_append : (enable : Formula) (xs ys : List Definition) → stored enable (xs ++ ys) ≡ stored enable xs ++ stored enable ys
stored_append enable [] ys = refl
stored_append enable (x ∷ xs) ys = ap (λ (ss : List Storage). record { name = x.name; next = x.formula; enable = enable } ∷ ss) (stored_append enable xs ys)

pub stored_in_all : (known : List Symbol) (enable : Formula) (xs : List Assignment) → in_assignments (stored_in known (numbered (all_names known) enable)) xs ≡ map (numbered_storage (all_names known)) (stored enable (in_assignments (assignment_definitions known) xs))
stored_in_all known enable [] = refl
stored_in_all known enable (a ∷ others) =
    let vars = all_names known in
    let here = assignment_definitions known a in
    let rest = in_assignments (assignment_definitions known) others in
    ap (λ (xs : List NumberedStorage). xs ++ in_assignments (stored_in known (numbered vars enable)) others) (stored_defined vars (target_names known a.target) enable (choice_bits known a.choice))
    ∙ ap (λ (ys : List NumberedStorage). map (numbered_storage vars) (stored enable here) ++ ys) (stored_in_all known enable others)
    ∙ sym (storage_append vars (stored enable here) (stored enable rest)) ∙ ap (map (numbered_storage vars)) (sym (stored_append enable here rest))

pub places_of : (vars : List Name) (total : ℕ) (declared : Option Declared) (text : List ℕ) (bits : List (Option ℕ)) → ((bit : Option ℕ) → number_in total declared (named_bit text bit) ≡ place vars (named_bit text bit))
    → map (λ b. number_in total declared (named_bit text b)) bits ≡ map (place vars) (map (named_bit text) bits)
places_of vars total declared text [] are = refl
places_of vars total declared text (b ∷ bits) are =
    ap (λ k. k ∷ map (λ b. number_in total declared (named_bit text b)) bits) (are b) ∙ ap (λ (ks : List ℕ). place vars (named_bit text b) ∷ ks) (places_of vars total declared text bits are)

pub no_storage : (known : List Symbol) (o : Option (List ℕ)) (ss : List Statement) → o ≡ None → [] ≡ map (numbered_storage (all_names known)) (in_statements (statement_storage known o) ss)
no_storage known o ss none = by ss ∙ ap (λ (x : Option (List ℕ)). map (numbered_storage (all_names known)) (in_statements (statement_storage known x) ss)) (sym none) where
  by : (ss : List Statement) → [] ≡ map (numbered_storage (all_names known)) (in_statements (statement_storage known None) ss)
  by [] = refl
  by (statement.Assert e ∷ ss) = by ss
  by (statement.Assign a ∷ ss) = by ss
  by (statement.Block b ∷ ss) = by ss
