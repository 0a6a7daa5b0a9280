-- Statements in which nothing is at fault: the bits that they define and store.
use Rattle.std.proofs.Common.{◌≡◌, inl, inr, ℕ, Bool, true, false, cond, ◌&&◌, List, [], ◌∷◌, ◌++◌, Option, None, Some, refl, sym, ap, ◌∙◌, subst, append-nil}
use Rattle.std.specs.Prelude.{not, is_none, ◌||◌}
use Rattle.std.proofs.lemmas.List.{map-append}
use Rattle.vlsi_base.specs.declared.name.Name.{Name}
use Rattle.vlsi_base.specs.declared.expression.Operator.TheVariants as operator
use Rattle.vlsi_base.specs.Tree.{Tree, binary, bit, view}
use Rattle.bool_expr.specs.declared.expr.Gate.TheVariants as gate
use Rattle.machine_core.specs.Order.{In, here, there, AllDifferent}
use Rattle.machine_core.proofs.Values.{In-split, In-left, In-right}
use Rattle.source_checks.specs.declared.statement.Assignment.{Assignment}
use Rattle.source_checks.specs.declared.statement.Statement.{Statement}
use Rattle.source_checks.specs.declared.statement.Statement.TheVariants as statement
use Rattle.source_checks.specs.declared.symbol_table.Role.{Role}
use Rattle.source_checks.specs.declared.symbol_table.Role.TheVariants as role
use Rattle.source_checks.specs.declared.symbol_table.Symbol.{Symbol}
use Rattle.vlsi_base.specs.Name.{is_supply}
use Rattle.source_checks.specs.Symbols.{find}
use Rattle.source_checks.specs.Formula.{Formula, joined, formulas, choice_bits}
use Rattle.source_checks.specs.Places.{Use, reads, in_assignments, assignment_uses, statement_uses}
use Rattle.source_checks.specs.Widths.{width_faults, if_not, assignment_faults, statement_faults, needs_equal, differ, width}
use Rattle.source_checks.specs.Drivers.{Driver, target_names, driver_at, driver_of, statement_drivers, all_driven}
use Rattle.source_checks.specs.Unsupported.{assignment_forms, statement_forms, literal_faults}
use Rattle.source_checks.specs.Clock.{clock_lines, assignment_clock_lines, statement_clock_lines, is_same_clock, clock_of, clock_of_parts, parts_of, steady_names, conditions_among, clocks_among, condition_bits, none_reads, is_single, may_clock, is_name, steady_name, all_of, enable_of, conjuncts, without_one}
use Rattle.source_checks.specs.Elaboration.{Definition, Storage, defined, stored, assignment_definitions, statement_definitions, statement_storage}
use Rattle.source_checks.proofs.Lookups.{same_of}
use Rattle.vlsi_model.specs.Laid.{names_defined, names_stored}
use Rattle.vlsi_model.proofs.Members.{In-cases}
use Rattle.vlsi_model.proofs.Bits.{IsBit}
use Rattle.vlsi_model.proofs.Formulas.{Holds, Each, Each-In, Holds-first}
use Rattle.vlsi_model.proofs.Expressions.{AreKnown, known_left, known_right, empty_left, empty_right, no_line, IsReadable, IsScalarClock, reads_are}
use Rattle.vlsi_model.proofs.FineAssignments.{IsFine, fine, NoBoth, RoleIn, defined_names, and_left, and_right}

-- an expression in which nothing is unknown and no width is at fault, and its parts

pub record IsSound (known : List Symbol) (e : Tree) : Type 0 where
  pub declared : AreKnown known (reads e)
  pub width : width_faults known e ≡ []

sound_left : (known : List Symbol) (line : ℕ) (l r : Tree) → IsSound known (binary operator.And line l r) → IsSound known l
sound_left known line l r h = record { declared = known_left known (reads l) (reads r) h.declared; width = empty_left (width_faults known l) _ h.width }

sound_right : (known : List Symbol) (line : ℕ) (l r : Tree) → IsSound known (binary operator.And line l r) → IsSound known r
sound_right known line l r h = record {
  declared = known_right known (reads l) (reads r) h.declared;
  width = empty_right (if_not (not (needs_equal operator.And && differ (width known l) (width known r))) line) _ (empty_right (width_faults known l) _ h.width);
}

sound_without : (known : List Symbol) (e : Tree) → IsSound known e → IsSound known (without_one e)
sound_without known (binary operator.Equal line e (bit true one)) h = record { declared = known_left known (reads e) [] h.declared; width = empty_left (width_faults known e) _ h.width }
sound_without known e h = h

only_one : {A : Type 0} (x y : A) → In x (y ∷ []) → y ≡ x
only_one x y i = elim (In-cases x y [] i) [ inl same ↦ same | inr later ↦ absurd (elim later [ ]) ]

sound_conjuncts : (known : List Symbol) (e : Tree) → IsSound known e → (x : Tree) → In x (conjuncts e) → IsSound known x
sound_conjuncts known (binary operator.And line l r) h x i = elim (In-split x (conjuncts l) (conjuncts r) i) [
  | inl a ↦ sound_conjuncts known l (sound_left known line l r h) x a
  | inr b ↦ sound_conjuncts known r (sound_right known line l r h) x b
]
sound_conjuncts known e h x i = subst (IsSound known) (only_one x e i) h

condition_part : (text : List ℕ) (parts : List Tree) (x : Tree) → In x (conditions_among text parts) → In x parts
condition_part text [] x i = elim i [ ]
condition_part text (e ∷ rest) x i = by (is_name text e || not (is_none (steady_name e))) i (condition_part text rest x) where
  by : (b : Bool) → In x (cond b (conditions_among text rest) (e ∷ conditions_among text rest)) → (In x (conditions_among text rest) → In x rest) → In x (e ∷ rest)
  by true i later = there (later i)
  by false i later = elim (In-cases x e (conditions_among text rest) i) [ inl same ↦ subst (λ (y : Tree). In x (y ∷ rest)) (sym same) here | inr j ↦ there (later j) ]

none_read : (ck : Option (List ℕ)) (parts : List Tree) (x : Tree) → none_reads ck parts ≡ true → In x parts → clock_lines ck x ≡ []
none_read ck [] x e i = elim i [ ]
none_read ck (p ∷ rest) x e i = elim (In-cases x p rest i) [
  | inl same ↦ subst (λ (y : Tree). clock_lines ck y ≡ []) same (by (clock_lines ck p) refl)
  | inr j ↦ none_read ck rest x (and_right _ (none_reads ck rest) e) j
] where
  by : (xs : List ℕ) → clock_lines ck p ≡ xs → clock_lines ck p ≡ []
  by [] is = is
  by (y ∷ ys) is = let h = rw is at e in absurd cc

-- guards

-- the clock of a guard
pub record IsGuard (known : List Symbol) (text : List ℕ) (guard : Tree) : Type 0 where
  pub may : may_clock (find known text) ≡ true
  pub unread : none_reads (Some text) (conditions_among text (parts_of guard)) ≡ true

guard_parts : (known : List Symbol) (parts : List Tree) (texts : List (List ℕ)) (text : List ℕ) → clock_of_parts known parts texts ≡ Some text
    → (may_clock (find known text) ≡ true) × (none_reads (Some text) (conditions_among text parts) ≡ true)
guard_parts known parts [] text e = absurd cc
guard_parts known parts (t ∷ more) text e = by (is_single (t ∷ more) && (may_clock (find known t) && (is_single (clocks_among t parts) && none_reads (Some t) (conditions_among t parts)))) refl e where
  by : (b : Bool) → (is_single (t ∷ more) && (may_clock (find known t) && (is_single (clocks_among t parts) && none_reads (Some t) (conditions_among t parts)))) ≡ b → cond b (Some t) None ≡ Some text
      → (may_clock (find known text) ≡ true) × (none_reads (Some text) (conditions_among text parts) ≡ true)
  by false is e = absurd cc
  by true is e =
      let same : t ≡ text = cc in
      let rest = and_right (is_single (t ∷ more)) _ is in (
        subst (λ (x : List ℕ). may_clock (find known x) ≡ true) same (and_left (may_clock (find known t)) _ rest),
        subst (λ (x : List ℕ). none_reads (Some x) (conditions_among x parts) ≡ true) same (and_right (is_single (clocks_among t parts)) _ (and_right (may_clock (find known t)) _ rest)),
      )

pub guard_of : (known : List Symbol) (guard : Tree) (text : List ℕ) → clock_of known guard ≡ Some text → IsGuard known text guard
guard_of known guard text e = let r = guard_parts known (parts_of guard) (steady_names (parts_of guard)) text e in record { may = r.0; unread = r.1 }

Holds-all : (P : Name → Type 0) (rest : List Formula) (x : Formula) → Holds P x → Each P rest → Holds P (all_of (x ∷ rest))
Holds-all P [] x h g = h
Holds-all P (y ∷ rest) x h g = Holds-all P rest (joined gate.And x y) (h, g.0) g.1

Holds-all_of : (P : Name → Type 0) (xs : List Formula) → Each P xs → Holds P (all_of xs)
Holds-all_of P [] h = tt
Holds-all_of P (x ∷ xs) h = Holds-all P xs x h.0 h.1

Each-conditions : (known : List Symbol) (P : Name → Type 0) (parts : List Tree) → ((x : Tree) → In x parts → Each P (formulas known x)) → Each P (condition_bits known parts)
Each-conditions known P [] h = tt
Each-conditions known P (e ∷ rest) h = (Holds-first P (formulas known e) (h e here), Each-conditions known P rest (λ x i. h x (there i)))

pub enable_reads : (known : List Symbol) (text : List ℕ) (guard : Tree) → IsScalarClock known (Some text) → IsSound known guard → IsGuard known text guard → Holds (IsReadable known (Some text)) (enable_of known text guard)
enable_reads known text guard scalar sound g =
    let P = IsReadable known (Some text) in
    let parts = conditions_among text (parts_of guard) in
    Holds-all_of P (condition_bits known parts) (Each-conditions known P parts (λ x i.
    let s = sound_conjuncts known (without_one guard) (sound_without known guard sound) x (condition_part text (parts_of guard) x i) in
    reads_are known (Some text) scalar x s.declared s.width (none_read (Some text) parts x g.unread i)))

-- the clock is an input of one bit, and no supply
pub record IsClock (known : List Symbol) (text : List ℕ) : Type 0 where
  pub symbol : Symbol
  pub found : find known text ≡ Some symbol
  pub role : symbol.role ≡ role.Input
  pub scalar : symbol.range ≡ None
  pub no_supply : is_supply symbol.text ≡ false

clock_role : (s : Symbol) → may_clock (Some s) ≡ true → s.role ≡ role.Input
clock_role s e = by s.role e where
  by : (r : Role) → may_clock (Some (record s { role = r })) ≡ true → r ≡ role.Input
  by role.Input e = refl
  by role.Output e = absurd cc
  by role.Both e = absurd cc
  by role.Inner e = absurd cc
  by role.Register e = absurd cc

not_false : (b : Bool) → not b ≡ true → b ≡ false
not_false true e = absurd cc
not_false false e = refl

is_nothing : {A : Type 0} (o : Option A) → is_none o ≡ true → o ≡ None
is_nothing None e = refl
is_nothing (Some x) e = absurd cc

pub is_clock : (known : List Symbol) (text : List ℕ) → may_clock (find known text) ≡ true → IsClock known text
is_clock known text e = by (find known text) refl e where
  by : (o : Option Symbol) → find known text ≡ o → may_clock o ≡ true → IsClock known text
  by None is e = absurd cc
  by (Some s) is e =
      let rest = and_right _ (is_none s.range && not (is_supply s.text)) e in record {
        symbol = s;
        found = is;
        role = clock_role s e;
        scalar = is_nothing s.range (and_left (is_none s.range) _ rest);
        no_supply = not_false (is_supply s.text) (and_right (is_none s.range) _ rest);
      }

pub same_clock : (o p : Option (List ℕ)) → is_same_clock o p ≡ true → (text : List ℕ) × (o ≡ Some text) × (p ≡ Some text)
same_clock (Some a) (Some b) e = (a, refl, ap Some (sym (same_of a b e)))
same_clock None p e = absurd cc
same_clock (Some a) None e = absurd cc

-- what a bit has the value of, in blocks or outside of them
pub record Defines (known : List Symbol) (ck : Option (List ℕ)) (in_block : Bool) (n : Name) (f : Formula) : Type 0 where
  pub symbol : Symbol
  pub bit : IsBit known n symbol
  pub role : RoleIn in_block symbol.role
  pub reads : Holds (IsReadable known ck) f

In-defined : (ns : List Name) (fs : List Formula) (d : Definition) → In d (defined ns fs) → In d.name ns × In d.formula fs
In-defined [] fs d i = elim i [ ]
In-defined (n ∷ ns) [] d i = elim i [ ]
In-defined (n ∷ ns) (f ∷ fs) d here = (here, here)
In-defined (n ∷ ns) (f ∷ fs) d (there i) = let r = In-defined ns fs d i in (there r.0, there r.1)

fine_defines : (known : List Symbol) (ck : Option (List ℕ)) (b : Bool) (a : Assignment) → IsFine known ck b a → (d : Definition) → In d (assignment_definitions known a) → Defines known ck b d.name d.formula
fine_defines known ck b a h d i =
    let r = In-defined (target_names known a.target) (choice_bits known a.choice) d i in
    record { symbol = h.symbol; bit = h.bits d.name r.0; role = h.role; reads = Each-In (IsReadable known ck) (choice_bits known a.choice) d.formula h.reads r.1 }

abbrev pub AllFine : List Symbol → Option (List ℕ) → Bool → List Assignment → Type 0
AllFine known ck b given = (a : Assignment) → In a given → IsFine known ck b a

all_defines : (known : List Symbol) (ck : Option (List ℕ)) (b : Bool) (given : List Assignment) → AllFine known ck b given → (d : Definition) → In d (in_assignments (assignment_definitions known) given) → Defines known ck b d.name d.formula
all_defines known ck b [] h d i = elim i [ ]
all_defines known ck b (a ∷ given) h d i = elim (In-split d (assignment_definitions known a) (in_assignments (assignment_definitions known) given) i) [
  | inl x ↦ fine_defines known ck b a (h a here) d x
  | inr y ↦ all_defines known ck b given (λ c j. h c (there j)) d y
]

fine_names : (known : List Symbol) (ck : Option (List ℕ)) (b : Bool) (a : Assignment) → IsFine known ck b a → (driver_at known a.target).names ≡ names_defined (assignment_definitions known a)
fine_names known ck b a h = h.counted ∙ sym (defined_names (target_names known a.target) (choice_bits known a.choice) h.lengths)

all_names_driven : (known : List Symbol) (ck : Option (List ℕ)) (b : Bool) (given : List Assignment) → AllFine known ck b given → all_driven (in_assignments (driver_of known) given) ≡ names_defined (in_assignments (assignment_definitions known) given)
all_names_driven known ck b [] h = refl
all_names_driven known ck b (a ∷ given) h =
    ap (λ (ns : List Name). ns ++ all_driven (in_assignments (driver_of known) given)) (fine_names known ck b a (h a here))
    ∙ ap (λ (ns : List Name). names_defined (assignment_definitions known a) ++ ns) (all_names_driven known ck b given (λ c j. h c (there j)))
    ∙ sym (map-append (λ (d : Definition). d.name) (assignment_definitions known a) (in_assignments (assignment_definitions known) given))

fine_different : (known : List Symbol) (ck : Option (List ℕ)) (b : Bool) (a : Assignment) → IsFine known ck b a → AllDifferent (driver_at known a.target).names
fine_different known ck b a h = subst (λ (ns : List Name). AllDifferent ns) (sym h.counted) h.different

all_different : (known : List Symbol) (ck : Option (List ℕ)) (b : Bool) (given : List Assignment) → AllFine known ck b given → (d : Driver) → In d (in_assignments (driver_of known) given) → AllDifferent d.names
all_different known ck b [] h d i = elim i [ ]
all_different known ck b (a ∷ given) h d i = elim (In-cases d (driver_at known a.target) (in_assignments (driver_of known) given) i) [
  | inl same ↦ subst (λ (x : Driver). AllDifferent x.names) same (fine_different known ck b a (h a here))
  | inr j ↦ all_different known ck b given (λ c k. h c (there k)) d j
]

-- what holds of a list of assignments holds of each
pub in_uses : (given : List Assignment) (a : Assignment) (u : Use) → In a given → In u (assignment_uses a) → In u (in_assignments assignment_uses given)
in_uses (b ∷ given) a u here i = In-left u (assignment_uses a) (in_assignments assignment_uses given) i
in_uses (b ∷ given) a u (there j) i = In-right u (assignment_uses b) (in_assignments assignment_uses given) (in_uses given a u j i)
in_uses [] a u j i = elim j [ ]

pub none_of : (look : Assignment → List ℕ) (given : List Assignment) (a : Assignment) → in_assignments look given ≡ [] → In a given → look a ≡ []
none_of look (b ∷ given) a e here = empty_left (look a) (in_assignments look given) e
none_of look (b ∷ given) a e (there j) = none_of look given a (empty_right (look b) (in_assignments look given) e) j
none_of look [] a e j = elim j [ ]

In-stored : (e : Formula) (ds : List Definition) (r : Storage) → In r (stored e ds) → (d : Definition) × In d ds × (d.name ≡ r.name) × (d.formula ≡ r.next) × (e ≡ r.enable)
In-stored e [] r i = elim i [ ]
In-stored e (d ∷ ds) r here = (d, here, refl, refl, refl)
In-stored e (d ∷ ds) r (there i) = let x = In-stored e ds r i in (x.0, there x.1, x.2, x.3, x.4)

stored_names : (e : Formula) (ds : List Definition) → names_stored (stored e ds) ≡ names_defined ds
stored_names e [] = refl
stored_names e (d ∷ ds) = ap (λ (ns : List Name). d.name ∷ ns) (stored_names e ds)

-- a statement in which nothing is at fault
pub record IsFineStatement (known : List Symbol) (ck : Option (List ℕ)) (st : Statement) : Type 0 where
  pub definitions : (d : Definition) → In d (statement_definitions known st) → Defines known ck false d.name d.formula
  pub storage : (r : Storage) → In r (statement_storage known ck st) → Defines known ck true r.name r.next × Holds (IsReadable known ck) r.enable
  pub names : all_driven (statement_drivers known st) ≡ names_defined (statement_definitions known st) ++ names_stored (statement_storage known ck st)
  pub different : (d : Driver) → In d (statement_drivers known st) → AllDifferent d.names
  pub counted : (a : Assignment) → st ≡ statement.Assign a → (driver_at known a.target).names ≡ target_names known a.target

pub fine_statement : (known : List Symbol) (ck : Option (List ℕ)) (st : Statement) → IsScalarClock known ck → NoBoth known
    → AreKnown known (statement_uses st) → statement_faults known st ≡ [] → statement_forms known st ≡ [] → statement_clock_lines known ck st ≡ [] → IsFineStatement known ck st
fine_statement known ck (statement.Assert e) scalar both k w f c = record {
  definitions = λ d i. elim i [ ];
  storage = λ r i. elim i [ ];
  names = refl;
  different = λ d i. elim i [ ];
  counted = λ a e. absurd cc;
}
fine_statement known ck (statement.Assign a) scalar both k w f c =
    let h = fine known ck false a scalar both k w f c in record {
      definitions = fine_defines known ck false a h;
      storage = λ r i. elim i [ ];
      names = append-nil (driver_at known a.target).names ∙ fine_names known ck false a h ∙ sym (append-nil (names_defined (assignment_definitions known a)));
      different = λ d i. subst (λ (x : Driver). AllDifferent x.names) (only_one d (driver_at known a.target) i) (fine_different known ck false a h);
      counted = λ x e. let same : a ≡ x = cc in subst (λ (y : Assignment). (driver_at known y.target).names ≡ target_names known y.target) same h.counted;
    }
fine_statement known ck (statement.Block b) scalar both k w f c =
    let guard = view b.guard in
    let test = is_same_clock ck (clock_of known guard) in
    let named = same_clock ck (clock_of known guard) (no_line test b.line (empty_left (if_not test b.line) _ c)) in
    let text = named.0 in
    let g = guard_of known guard text named.2 in
    let sound : IsSound known guard = record { declared = known_left known (reads guard) _ k; width = empty_left (width_faults known guard) _ w } in
    let scalar_text : IsScalarClock known (Some text) = subst (IsScalarClock known) named.1 scalar in
    let enable : Holds (IsReadable known ck) (enable_of known text guard) = subst (λ (o : Option (List ℕ)). Holds (IsReadable known o) (enable_of known text guard)) (sym named.1) (enable_reads known text guard scalar_text sound g) in
    let given = b.assignments in
    let h : AllFine known ck true given = λ a i.
    fine known ck true a scalar both (λ u j. k u (In-right u (reads guard) (in_assignments assignment_uses given) (in_uses given a u i j)))
    (none_of (assignment_faults known) given a (empty_right (width_faults known guard) _ w) i)
    (none_of (assignment_forms known true) given a (empty_right (literal_faults guard) _ f) i)
    (none_of (assignment_clock_lines ck) given a (empty_right (if_not test b.line) _ c) i) in
    let ds = in_assignments (assignment_definitions known) given in
    let storage_is : statement_storage known ck (statement.Block b) ≡ stored (enable_of known text guard) ds = ap (λ (o : Option (List ℕ)). statement_storage known o (statement.Block b)) named.1 in record {
      definitions = λ d i. elim i [ ];
      storage = λ r i.
          let x = In-stored (enable_of known text guard) ds r (subst (λ (rs : List Storage). In r rs) storage_is i) in
          let d = all_defines known ck true given h x.0 x.1 in
          (subst (λ (n : Name). Defines known ck true n r.next) x.2 (subst (λ (e : Formula). Defines known ck true x.0.name e) x.3 d), subst (Holds (IsReadable known ck)) x.4 enable);
      names = all_names_driven known ck true given h ∙ sym (stored_names (enable_of known text guard) ds) ∙ ap (λ (rs : List Storage). names_stored rs) (sym storage_is);
      different = all_different known ck true given h;
      counted = λ a e. absurd cc;
    }
