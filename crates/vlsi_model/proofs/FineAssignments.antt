-- An assignment in which nothing is at fault: the bits that it drives, and what it assigns.
use Rattle.std.proofs.Common.{◌≡◌, ℕ, Bool, true, false, cond, ◌&&◌, List, [], ◌∷◌, map, length, Option, None, Some, refl, sym, ap, ◌∙◌, subst, arith}
use Rattle.std.specs.Prelude.{not}
use Rattle.std.proofs.lemmas.Bool.Decides.{nat_tests}
use Rattle.vlsi_base.specs.declared.name.Name.{Name}
use Rattle.vlsi_base.specs.declared.range.Range.{Range}
use Rattle.vlsi_base.specs.Tree.{Tree, view}
use Rattle.machine_core.specs.Order.{In, here, there, AllDifferent}
use Rattle.machine_core.proofs.Values.{In-map}
use Rattle.source_checks.specs.declared.statement.Selection.{Selection}
use Rattle.source_checks.specs.declared.statement.Selection.TheVariants as selection
use Rattle.source_checks.specs.declared.statement.Target.{Target}
use Rattle.source_checks.specs.declared.statement.Guarded.{Guarded}
use Rattle.source_checks.specs.declared.statement.Choice.{Choice}
use Rattle.source_checks.specs.declared.statement.Assignment.{Assignment}
use Rattle.source_checks.specs.declared.symbol_table.Role.{Role}
use Rattle.source_checks.specs.declared.symbol_table.Role.TheVariants as role
use Rattle.source_checks.specs.declared.symbol_table.Symbol.{Symbol}
use Rattle.vlsi_base.specs.Range.{range_bits}
use Rattle.source_checks.specs.Symbols.{find, names_in, bit_name, symbol_names}
use Rattle.source_checks.specs.Formula.{Formula, formulas, choice_bits, alternative_bits, chosen, first_bit, names_of_found}
use Rattle.source_checks.specs.Places.{reads, in_choice, in_alternatives, assignment_uses}
use Rattle.source_checks.specs.Widths.{width, width_faults, condition_faults, if_not, differ, found_width, index_fits, range_fits, all_wide, target_width, target_faults, assignment_faults}
use Rattle.source_checks.specs.Drivers.{target_names, needs_driver, counted_names, driver_at}
use Rattle.source_checks.specs.Unsupported.{may_drive, assignment_forms}
use Rattle.source_checks.specs.Clock.{clock_lines, assignment_clock_lines}
use Rattle.source_checks.specs.Elaboration.{defined}
use Rattle.source_checks.proofs.Names.{find_text}
use Rattle.vlsi_model.proofs.Members.{In-map_back}
use Rattle.vlsi_model.proofs.Bits.{IsBit, has-range, text_in, different_names_in}
use Rattle.vlsi_model.proofs.Formulas.{Each, Each-choose, Holds-first, length-pairs}
use Rattle.vlsi_model.proofs.Expressions.{AreKnown, known_left, known_right, empty_left, empty_right, no_line, index_range, range_range, length-names_in, width_is, IsReadable, IsScalarClock, reads_are}

-- the bits of a target

pub whole_bit : (known : List Symbol) (text : List ℕ) (s : Symbol) (n : Name) → find known text ≡ Some s → In n (symbol_names s) → IsBit known n s
whole_bit known text s n found i = record {
  found = ap (find known) (text_in s.text s.range n i ∙ find_text known text s found) ∙ found;
  among = i;
}

pub index_bit : (known : List Symbol) (text : List ℕ) (s : Symbol) (k : ℕ) → find known text ≡ Some s → index_fits (Some s) k ≡ true → IsBit known (bit_name text k) s
index_bit known text s k found fits =
    let r = index_range s k fits in
    let among : In (bit_name text k) (names_in text (Some r.0)) = In-map (bit_name text) k (range_bits r.0) (has-range r.0 k r.2) in record {
      found = found;
      among = subst (λ (o : Option Range). In (bit_name text k) (names_in s.text o)) (sym r.1) (subst (λ (t : List ℕ). In (bit_name text k) (names_in t (Some r.0))) (sym (find_text known text s found)) among);
    }

pub range_bit : (known : List Symbol) (text : List ℕ) (s : Symbol) (range : Range) (n : Name) → find known text ≡ Some s → range_fits (Some s) range ≡ true → In n (names_in text (Some range)) → IsBit known n s
range_bit known text s range n found fits i =
    let r = range_range s range fits in
    let m = In-map_back (bit_name text) n (range_bits range) i in
    let among : In n (names_in text (Some r.0)) = subst (λ (x : Name). In x (names_in text (Some r.0))) m.2 (In-map (bit_name text) m.0 (range_bits r.0) (r.3 m.0 m.1)) in record {
      found = ap (find known) (text_in text (Some range) n i) ∙ found;
      among = subst (λ (o : Option Range). In n (names_in s.text o)) (sym r.1) (subst (λ (t : List ℕ). In n (names_in t (Some r.0))) (sym (find_text known text s found)) among);
    }

pub record IsFineTarget (known : List Symbol) (t : Target) (s : Symbol) : Type 0 where
  pub bits : (n : Name) → In n (target_names known t) → IsBit known n s
  pub different : AllDifferent (target_names known t)
  pub width : target_width known t ≡ Some (length (target_names known t))

fine_target : (known : List Symbol) (t : Target) (s : Symbol) → find known t.name ≡ Some s → target_faults known t ≡ [] → IsFineTarget known t s
fine_target known t s found w = by t.selection w where
  whole : names_of_found (find known t.name) ≡ symbol_names s
  whole = ap names_of_found found

  by : (sel : Selection) → target_faults known (record t { selection = sel }) ≡ [] → IsFineTarget known (record t { selection = sel }) s
  by selection.Whole w = record {
    bits = λ n i. whole_bit known t.name s n found (subst (λ (ns : List Name). In n ns) whole i);
    different = subst (λ (ns : List Name). AllDifferent ns) (sym whole) (different_names_in s.text s.range);
    width = ap (λ (o : Option Symbol). Some (found_width o)) found ∙ ap Some (sym (length-names_in s.text s.range)) ∙ ap (λ (ns : List Name). Some (length ns)) (sym whole);
  }
  by (selection.Bit k) w =
      let fits : index_fits (Some s) k ≡ true = ap (λ (o : Option Symbol). index_fits o k) (sym found) ∙ no_line (index_fits (find known t.name) k) t.line w in record {
        bits = λ n i. subst (λ (m : Name). IsBit known m s) (by_one n i) (index_bit known t.name s k found fits);
        different = (λ h. elim h [ ], tt);
        width = refl;
      } where
        by_one : (n : Name) → In n (bit_name t.name k ∷ []) → bit_name t.name k ≡ n
        by_one n here = refl
        by_one n (there h) = elim h [ ]
  by (selection.Bits r) w =
      let fits : range_fits (Some s) r ≡ true = ap (λ (o : Option Symbol). range_fits o r) (sym found) ∙ no_line (range_fits (find known t.name) r) r.line w in record {
        bits = λ n i. range_bit known t.name s r n found fits i;
        different = different_names_in t.name (Some r);
        width = ap (λ b. cond b (Some (length (range_bits r))) None) (range_range s r fits).2 ∙ ap Some (sym (length-names_in t.name (Some r)));
      }

-- what is chosen

not_different : (a m : ℕ) → not (differ (Some a) (Some m)) ≡ true → a ≡ m
not_different a m e = grind (arith, nat_tests)

as_wide : (known : List Symbol) (e : Tree) (m : ℕ) → AreKnown known (reads e) → width_faults known e ≡ [] → not (differ (width known e) (Some m)) ≡ true → length (formulas known e) ≡ m
as_wide known e m k w d = not_different (length (formulas known e)) m (ap (λ (o : Option ℕ). not (differ o (Some m))) (sym (width_is known e k w)) ∙ d)

pub and_left : (a b : Bool) → (a && b) ≡ true → a ≡ true
and_left true b e = refl
and_left false b e = absurd cc

pub and_right : (a b : Bool) → (a && b) ≡ true → b ≡ true
and_right true b e = e
and_right false b e = absurd cc

-- the parts of a choice that is as wide as its target
pub record IsFineChoice (known : List Symbol) (ck : Option (List ℕ)) (m : ℕ) (fs : List Formula) : Type 0 where
  pub lengths : length fs ≡ m
  pub reads : Each (IsReadable known ck) fs

fine_value : (known : List Symbol) (ck : Option (List ℕ)) (m : ℕ) (e : Tree) → IsScalarClock known ck → AreKnown known (reads e) → width_faults known e ≡ [] → clock_lines ck e ≡ [] → not (differ (width known e) (Some m)) ≡ true
    → IsFineChoice known ck m (formulas known e)
fine_value known ck m e scalar k w c d = record { lengths = as_wide known e m k w d; reads = reads_are known ck scalar e k w c }

fine_alternatives : (known : List Symbol) (ck : Option (List ℕ)) (m : ℕ) (gs : List Guarded) (otherwise : Tree) → IsScalarClock known ck
    → AreKnown known (in_alternatives reads (λ line e. reads e) gs) → AreKnown known (reads otherwise)
    → in_alternatives (width_faults known) (condition_faults known) gs ≡ [] → width_faults known otherwise ≡ []
    → in_alternatives (clock_lines ck) (λ line e. clock_lines ck e) gs ≡ [] → clock_lines ck otherwise ≡ []
    → all_wide known (Some m) gs otherwise ≡ true
    → IsFineChoice known ck m (alternative_bits known gs (formulas known otherwise))
fine_alternatives known ck m [] otherwise scalar k k' w w' c c' d = fine_value known ck m otherwise scalar k' w' c' d
fine_alternatives known ck m (g ∷ gs) otherwise scalar k k' w w' c c' d =
    let value = view g.value in
    let condition = view g.condition in
    let wide = not (differ (width known value) (Some m)) in
    let ks = known_right known (reads value) _ k in
    let ws = empty_right (width_faults known value) _ w in
    let cs = empty_right (clock_lines ck value) _ c in
    let wc = empty_right (if_not (not (differ (width known condition) (Some 1))) g.line) _ (empty_left (condition_faults known g.line condition) _ ws) in
    let here = fine_value known ck m value scalar (known_left known (reads value) _ k) (empty_left (width_faults known value) _ w) (empty_left (clock_lines ck value) _ c) (and_left wide _ d) in
    let rest = fine_alternatives known ck m gs otherwise scalar (known_right known (reads condition) _ ks) k' (empty_right (condition_faults known g.line condition) _ ws) w' (empty_right (clock_lines ck condition) _ cs) c' (and_right wide _ d) in
    let asked = reads_are known ck scalar condition (known_left known (reads condition) _ ks) wc (empty_left (clock_lines ck condition) _ cs) in record {
      lengths = length-pairs (chosen (first_bit (formulas known condition))) (formulas known value) (alternative_bits known gs (formulas known otherwise)) (here.lengths ∙ sym rest.lengths) ∙ here.lengths;
      reads = Each-choose (IsReadable known ck) (first_bit (formulas known condition)) (formulas known value) (alternative_bits known gs (formulas known otherwise)) (Holds-first (IsReadable known ck) (formulas known condition) asked) here.reads rest.reads;
    }

fine_choice : (known : List Symbol) (ck : Option (List ℕ)) (m : ℕ) (a : Choice) → IsScalarClock known ck
    → AreKnown known (in_choice reads (λ line e. reads e) a) → in_choice (width_faults known) (condition_faults known) a ≡ [] → in_choice (clock_lines ck) (λ line e. clock_lines ck e) a ≡ []
    → all_wide known (Some m) a.alternatives (view a.otherwise) ≡ true → IsFineChoice known ck m (choice_bits known a)
fine_choice known ck m a scalar k w c d =
    fine_alternatives known ck m a.alternatives (view a.otherwise) scalar
    (known_left known (in_alternatives reads (λ line e. reads e) a.alternatives) (reads (view a.otherwise)) k) (known_right known (in_alternatives reads (λ line e. reads e) a.alternatives) (reads (view a.otherwise)) k)
    (empty_left (in_alternatives (width_faults known) (condition_faults known) a.alternatives) _ w) (empty_right (in_alternatives (width_faults known) (condition_faults known) a.alternatives) _ w)
    (empty_left (in_alternatives (clock_lines ck) (λ line e. clock_lines ck e) a.alternatives) _ c) (empty_right (in_alternatives (clock_lines ck) (λ line e. clock_lines ck e) a.alternatives) _ c) d

-- the roles of what is driven in blocks, and outside of them
abbrev pub RoleIn : Bool → Role → Type 0
RoleIn in_block role.Input = ⊥
RoleIn in_block role.Both = ⊥
RoleIn true role.Output = ⊥
RoleIn true role.Inner = ⊥
RoleIn true role.Register = Unit {0}
RoleIn false role.Output = Unit {0}
RoleIn false role.Inner = Unit {0}
RoleIn false role.Register = ⊥

fine_role : (in_block : Bool) (s : Symbol) → (s.role ≡ role.Both → ⊥) → may_drive in_block (Some s) ≡ true → RoleIn in_block s.role
fine_role b s both e = by b s.role both e where
  by : (b : Bool) (r : Role) → (r ≡ role.Both → ⊥) → may_drive b (Some (record s { role = r })) ≡ true → RoleIn b r
  by b role.Input both e = absurd cc
  by b role.Both both e = both refl
  by true role.Output both e = absurd cc
  by true role.Inner both e = absurd cc
  by true role.Register both e = tt
  by false role.Output both e = tt
  by false role.Inner both e = tt
  by false role.Register both e = absurd cc

role_needs : (b : Bool) (r : Role) → RoleIn b r → needs_driver r ≡ true
role_needs b role.Input h = absurd h
role_needs b role.Both h = absurd h
role_needs b role.Output h = refl
role_needs b role.Inner h = refl
role_needs b role.Register h = refl

-- an assignment in which nothing is at fault
pub record IsFine (known : List Symbol) (ck : Option (List ℕ)) (in_block : Bool) (a : Assignment) : Type 0 where
  pub symbol : Symbol
  pub role : RoleIn in_block symbol.role
  pub bits : (n : Name) → In n (target_names known a.target) → IsBit known n symbol
  pub different : AllDifferent (target_names known a.target)
  pub counted : (driver_at known a.target).names ≡ target_names known a.target
  pub lengths : length (target_names known a.target) ≡ length (choice_bits known a.choice)
  pub reads : Each (IsReadable known ck) (choice_bits known a.choice)

-- no port is of both directions
abbrev pub NoBoth : List Symbol → Type 0
NoBoth known = (text : List ℕ) (s : Symbol) → find known text ≡ Some s → s.role ≡ role.Both → ⊥

pub fine : (known : List Symbol) (ck : Option (List ℕ)) (in_block : Bool) (a : Assignment) → IsScalarClock known ck → NoBoth known
    → AreKnown known (assignment_uses a) → assignment_faults known a ≡ [] → assignment_forms known in_block a ≡ [] → assignment_clock_lines ck a ≡ [] → IsFine known ck in_block a
fine known ck in_block a scalar both k w f c =
    let found = k (record { text = a.target.name; line = a.target.line }) here in
    let s = found.0 in
    let wide = all_wide known (target_width known a.target) a.choice.alternatives (view a.choice.otherwise) in
    let rest = empty_right (if_not wide a.target.line) _ w in
    let t = fine_target known a.target s found.1 (empty_left (target_faults known a.target) _ rest) in
    let m = length (target_names known a.target) in
    let d : all_wide known (Some m) a.choice.alternatives (view a.choice.otherwise) ≡ true =
    ap (λ (o : Option ℕ). all_wide known o a.choice.alternatives (view a.choice.otherwise)) (sym t.width) ∙ no_line wide a.target.line (empty_left (if_not wide a.target.line) _ w) in
    let x = fine_choice known ck m a.choice scalar (λ u i. k u (there i)) (empty_right (target_faults known a.target) _ rest) c d in
    let drives : may_drive in_block (Some s) ≡ true = ap (may_drive in_block) (sym found.1) ∙ no_line (may_drive in_block (find known a.target.name)) a.target.line (empty_left (if_not (may_drive in_block (find known a.target.name)) a.target.line) _ f) in
    let r = fine_role in_block s (both a.target.name s found.1) drives in record {
      symbol = s;
      role = r;
      bits = t.bits;
      different = t.different;
      counted = ap (λ (o : Option Symbol). counted_names o (target_names known a.target)) found.1 ∙ ap (λ b. cond b (target_names known a.target) []) (role_needs in_block s.role r);
      lengths = sym x.lengths;
      reads = x.reads;
    }

-- the bits that are defined are those of the names
pub defined_names : (ns : List Name) (fs : List Formula) → length ns ≡ length fs → map (λ d. d.name) (defined ns fs) ≡ ns
defined_names [] fs e = refl
defined_names (n ∷ ns) [] e = absurd (omega arith)
defined_names (n ∷ ns) (f ∷ fs) e = ap (λ (ms : List Name). n ∷ ms) (defined_names ns fs (omega arith))
