-- Statements without a fault, one behind the other, and what they come to.
use Rattle.std.proofs.Common.{◌≡◌, inl, inr, ℕ, Bool, true, false, cond, not, ◌||◌, List, [], ◌∷◌, ◌++◌, filter, Option, None, Some, bytes_eq, refl, sym, ap, subst, ◌∙◌, append_assoc, append-nil}
use Rattle.std.proofs.lemmas.Slice.Eq.{bytes_eq-Decides}
use Rattle.vlsi_base.specs.declared.name.Name.{Name}
use Rattle.vlsi_base.specs.Member.{In, here, there, AllDifferent}
use Rattle.vlsi_base.specs.Tree.{Tree}
use Rattle.machine_core.specs.Named.{is_same_name}
use Rattle.machine_core.proofs.Names.{same_name-true, same_name-itself}
use Rattle.machine_core.proofs.Values.{In-left, In-right, In-split}
use Rattle.source_checks.specs.declared.symbol_table.Symbol.{Symbol}
use Rattle.source_checks.specs.declared.drivers.NameFault.{NameFault}
use Rattle.source_checks.specs.Symbols.{symbol_names}
use Rattle.source_checks.specs.Places.{Use, reads, first_unknown}
use Rattle.source_checks.specs.Formula.{Formula}
use Rattle.source_checks.specs.Widths.{if_not, width_faults}
use Rattle.source_checks.specs.Unsupported.{literal_faults}
use Rattle.source_checks.specs.Drivers.{Driver, is_among, needs_driver, least, all_driven, fault_at, first_second_driver, first_undriven}
use Rattle.source_checks.specs.Clock.{is_same_clock, clock_of, enable_of}
use Rattle.source_checks.specs.Elaboration.{Definition, Storage, stored}
use Rattle.vbe_text.specs.Source.{AssignmentTree, StatementTree, assigned, blocked}
use Rattle.vbe_laws.proofs.RenamedTrees.{in_each, uses_in, widths_in, drivers_in, forms_in, clocks_in, definitions_in, one_clock, uses_at, widths_at, drivers_at, forms_at, clocks_at, clock_lines_at, definitions_at, storage_at}
use Rattle.vbe_laws.proofs.Plain.{AreUsed, used_both, nothing}
use Rattle.vbe_laws.proofs.Formulas.{IsAssigned}
use Rattle.vbe_laws.proofs.Guards.{IsGuard}

-- statements without a fault: what they define and store, the names that they drive, and the clocks that their guards name
pub record AreStated (known : List Symbol) (ck : Option (List ℕ)) (ss : List StatementTree) (ds : List Definition) (rs : List Storage) (ns : List Name) (cs : List (List ℕ)) : Type 0 where
  pub uses : AreUsed known (in_each uses_at ss)
  pub widths : in_each (widths_at known) ss ≡ []
  pub forms : in_each (forms_at known) ss ≡ []
  pub lines : in_each (clock_lines_at known ck) ss ≡ []
  pub definitions : in_each (definitions_at known) ss ≡ ds
  pub storage : in_each (storage_at known ck) ss ≡ rs
  pub drivers : all_driven (in_each (drivers_at known) ss) ≡ ns
  pub clocks : in_each (clocks_at known) ss ≡ cs

pub stated_none : (known : List Symbol) (ck : Option (List ℕ)) → AreStated known ck [] [] [] [] []
stated_none known ck = record { uses = tt; widths = refl; forms = refl; lines = refl; definitions = refl; storage = refl; drivers = refl; clocks = refl }

all_driven_both : (xs ys : List Driver) → all_driven (xs ++ ys) ≡ all_driven xs ++ all_driven ys
all_driven_both [] ys = refl
all_driven_both (x ∷ xs) ys = ap (λ (ns : List Name). x.names ++ ns) (all_driven_both xs ys) ∙ sym (append_assoc x.names (all_driven xs) (all_driven ys))

-- two parts that are known
parts : {A : Type 0} (xs ys us vs : List A) → xs ≡ us → ys ≡ vs → xs ++ ys ≡ us ++ vs
parts {A} xs ys us vs e f = ap (λ (z : List A). z ++ ys) e ∙ ap (λ (z : List A). us ++ z) f

pub stated_equation : (known : List Symbol) (ck : Option (List ℕ)) (a : AssignmentTree) (n : Name) (f : Formula) (ss : List StatementTree) (ds : List Definition) (rs : List Storage) (ns : List Name) (cs : List (List ℕ))
    → IsAssigned known ck false a n f → AreStated known ck ss ds rs ns cs → AreStated known ck (assigned a ∷ ss) (record { name = n; formula = f } ∷ ds) rs (n ∷ ns) cs
stated_equation known ck a n f ss ds rs ns cs p q = record {
  uses = used_both known (uses_in a) (in_each uses_at ss) p.uses q.uses;
  widths = nothing (widths_in known a) (in_each (widths_at known) ss) p.widths q.widths;
  forms = nothing (forms_in known false a) (in_each (forms_at known) ss) p.forms q.forms;
  lines = nothing (clocks_in ck a) (in_each (clock_lines_at known ck) ss) p.clocks q.lines;
  definitions = parts (definitions_in known a) (in_each (definitions_at known) ss) (record { name = n; formula = f } ∷ []) ds p.definitions q.definitions;
  storage = q.storage;
  drivers =
      all_driven_both (drivers_in known a) (in_each (drivers_at known) ss)
      ∙ parts (all_driven (drivers_in known a)) (all_driven (in_each (drivers_at known) ss)) (n ∷ []) ns (ap all_driven p.drivers) q.drivers;
  clocks = q.clocks;
}

itself : (x : List ℕ) → bytes_eq x x ≡ true
itself x = (bytes_eq-Decides x x).1 refl

-- a block with a guard that names the text's clock, and with these assignments
record IsInside (known : List Symbol) (text : List ℕ) (loads : List AssignmentTree) (ds : List Definition) (ns : List Name) : Type 0 where
  uses : AreUsed known (in_each uses_in loads)
  widths : in_each (widths_in known) loads ≡ []
  forms : in_each (forms_in known true) loads ≡ []
  lines : in_each (clocks_in (Some text)) loads ≡ []
  definitions : in_each (definitions_in known) loads ≡ ds
  drivers : all_driven (in_each (drivers_in known) loads) ≡ ns

stated_block : (known : List Symbol) (text : List ℕ) (g : Tree) (f : Formula) (line : ℕ) (loads : List AssignmentTree) (own : List Definition) (driven : List Name) (ss : List StatementTree) (ds : List Definition) (rs : List Storage) (ns : List Name) (cs : List (List ℕ))
    → IsGuard known text g f → IsInside known text loads own driven → AreStated known (Some text) ss ds rs ns cs
    → AreStated known (Some text) (blocked (record { guard = g; line = line; assignments = loads }) ∷ ss) ds (stored f own ++ rs) (driven ++ ns) (text ∷ cs)
stated_block known text g f line loads own driven ss ds rs ns cs p i q = record {
  uses = used_both known (reads g ++ in_each uses_in loads) (in_each uses_at ss) (used_both known (reads g) (in_each uses_in loads) p.uses i.uses) q.uses;
  widths =
      nothing (width_faults known g ++ in_each (widths_in known) loads) (in_each (widths_at known) ss)
      (nothing (width_faults known g) (in_each (widths_in known) loads) p.faults i.widths) q.widths;
  forms =
      nothing (literal_faults g ++ in_each (forms_in known true) loads) (in_each (forms_at known) ss)
      (nothing (literal_faults g) (in_each (forms_in known true) loads) p.forms i.forms) q.forms;
  lines =
      nothing (if_not (is_same_clock (Some text) (clock_of known g)) line ++ in_each (clocks_in (Some text)) loads) (in_each (clock_lines_at known (Some text)) ss)
      (nothing (if_not (is_same_clock (Some text) (clock_of known g)) line) (in_each (clocks_in (Some text)) loads)
      (ap (λ (o : Option (List ℕ)). if_not (is_same_clock (Some text) o) line) p.clock ∙ ap (λ b. if_not b line) (itself text)) i.lines) q.lines;
  definitions = q.definitions;
  storage =
      parts (stored (enable_of known text g) (in_each (definitions_in known) loads)) (in_each (storage_at known (Some text)) ss) (stored f own) rs
      (ap (λ (e : Formula). stored e (in_each (definitions_in known) loads)) p.enable ∙ ap (stored f) i.definitions) q.storage;
  drivers =
      all_driven_both (in_each (drivers_in known) loads) (in_each (drivers_at known) ss)
      ∙ parts (all_driven (in_each (drivers_in known) loads)) (all_driven (in_each (drivers_at known) ss)) driven ns i.drivers q.drivers;
  clocks = parts (one_clock (clock_of known g)) (in_each (clocks_at known) ss) (text ∷ []) cs (ap one_clock p.clock) q.clocks;
}

pub stated_empty : (known : List Symbol) (text : List ℕ) (g : Tree) (f : Formula) (line : ℕ) → IsGuard known text g f → AreStated known (Some text) (blocked (record { guard = g; line = line; assignments = [] }) ∷ []) [] [] [] (text ∷ [])
stated_empty known text g f line p =
    stated_block known text g f line [] [] [] [] [] [] [] [] p (record { uses = tt; widths = refl; forms = refl; lines = refl; definitions = refl; drivers = refl }) (stated_none known (Some text))

pub stated_register : (known : List Symbol) (text : List ℕ) (g : Tree) (f : Formula) (line : ℕ) (a : AssignmentTree) (n : Name) (next : Formula) (ss : List StatementTree) (ds : List Definition) (rs : List Storage) (ns : List Name) (cs : List (List ℕ))
    → IsGuard known text g f → IsAssigned known (Some text) true a n next → AreStated known (Some text) ss ds rs ns cs
    → AreStated known (Some text) (blocked (record { guard = g; line = line; assignments = a ∷ [] }) ∷ ss) ds (record { name = n; next = next; enable = f } ∷ rs) (n ∷ ns) (text ∷ cs)
stated_register known text g f line a n next ss ds rs ns cs p i q =
    stated_block known text g f line (a ∷ []) (record { name = n; formula = next } ∷ []) (n ∷ []) ss ds rs ns cs p
    (record {
      uses = used_both known (uses_in a) [] i.uses tt;
      widths = nothing (widths_in known a) [] i.widths refl;
      forms = nothing (forms_in known true a) [] i.forms refl;
      lines = nothing (clocks_in (Some text) a) [] i.clocks refl;
      definitions = append-nil (definitions_in known a) ∙ i.definitions;
      drivers = ap all_driven (append-nil (drivers_in known a) ∙ i.drivers);
    }) q

-- ---- all names are declared

pub none_unknown : (known : List Symbol) (us : List Use) → AreUsed known us → first_unknown known us ≡ None
none_unknown known [] a = refl
none_unknown known (u ∷ us) a = ap (λ b. cond b (Some u) (first_unknown known us)) a.0 ∙ none_unknown known us a.1

-- ---- each bit is driven once

among_in : (names : List Name) (n : Name) → is_among names n ≡ true → In n names
among_in [] n e = absurd cc
among_in (m ∷ names) n e = by (among_in names n) (is_same_name m n) refl e where
  by : (is_among names n ≡ true → In n names) → (b : Bool) → is_same_name m n ≡ b → (b || is_among names n) ≡ true → In n (m ∷ names)
  by later true same e = subst (λ (z : Name). In n (z ∷ names)) (sym (same_name-true m n same)) here
  by later false same e = there (later e)

in_among : (names : List Name) (n : Name) → In n names → is_among names n ≡ true
in_among (m ∷ names) n here = ap (λ b. b || is_among names n) (same_name-itself m)
in_among (m ∷ names) n (there h) = by (in_among names n h) (is_same_name m n) where
  by : is_among names n ≡ true → (b : Bool) → (b || is_among names n) ≡ true
  by rest true = refl
  by rest false = rest
in_among [] n h = elim h [ ]

-- none of these names passes
none_pass : (p : Name → Bool) (names : List Name) → ((n : Name) → In n names → p n ≡ false) → filter p names ≡ []
none_pass p [] h = refl
none_pass p (n ∷ names) h = ap (λ b. cond b (n ∷ filter p names) (filter p names)) (h n here) ∙ none_pass p names (λ m i. h m (there i))

apart_true : (b : Bool) → (b ≡ true → ⊥) → b ≡ false
apart_true true h = absurd (h refl)
apart_true false h = refl

pub split_different : (xs ys : List Name) → AllDifferent (xs ++ ys) → AllDifferent ys × ((n : Name) → In n xs → In n ys → ⊥)
split_different [] ys d = (d, λ n h g. elim h [ ])
split_different (x ∷ xs) ys d = let rest = split_different xs ys d.1 in (rest.0, both rest.1) where
  both : ((n : Name) → In n xs → In n ys → ⊥) → (n : Name) → In n (x ∷ xs) → In n ys → ⊥
  both later n here g = d.0 (In-right x xs ys g)
  both later n (there h) g = later n h g

no_second : (driven : List Name) (all : List Driver) → AllDifferent (all_driven all) → ((n : Name) → In n driven → In n (all_driven all) → ⊥) → first_second_driver driven all ≡ None
no_second driven [] d apart = refl
no_second driven (x ∷ rest) d apart =
    let s = split_different x.names (all_driven rest) d in
    let none : filter (is_among driven) x.names ≡ [] =
    none_pass (is_among driven) x.names (λ n h. apart_true (is_among driven n) (λ e. apart n (among_in driven n e) (In-left n x.names (all_driven rest) h))) in
    ap (λ (ns : List Name). fault_at x.line (least ns) (first_second_driver (x.names ++ driven) rest)) none
    ∙ no_second (x.names ++ driven) rest s.0
    (λ n h g. elim (In-split n x.names driven h) [
      | inl i ↦ s.1 n i g
      | inr j ↦ apart n j (In-right n x.names (all_driven rest) g)
    ])

pub driven_once : (all : List Driver) → AllDifferent (all_driven all) → first_second_driver [] all ≡ None
driven_once all d = no_second [] all d (λ n h g. elim h [ ])

-- each bit that needs it is driven
pub all_are_driven : (driven : List Name) (known : List Symbol) → ((s : Symbol) → In s known → needs_driver s.role ≡ true → (n : Name) → In n (symbol_names s) → In n driven) → first_undriven driven known ≡ None
all_are_driven driven [] h = refl
all_are_driven driven (s ∷ known) h = by (needs_driver s.role) refl (all_are_driven driven known (λ t i. h t (there i))) where
  found : Option NameFault
  found = fault_at s.line (least (filter (λ n. not (is_among driven n)) (symbol_names s))) (first_undriven driven known)

  by : (b : Bool) → needs_driver s.role ≡ b → first_undriven driven known ≡ None
      → cond b (fault_at s.line (least (filter (λ n. not (is_among driven n)) (symbol_names s))) (first_undriven driven known)) (first_undriven driven known) ≡ None
  by false e rest = rest
  by true e rest =
      ap (λ (ns : List Name). fault_at s.line (least ns) (first_undriven driven known)) (none_pass (λ n. not (is_among driven n)) (symbol_names s) (λ n i. ap not (in_among driven n (h s here e n i))))
      ∙ rest
