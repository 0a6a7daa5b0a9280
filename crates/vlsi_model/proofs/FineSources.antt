-- A source in which no check fails.
use Rattle.std.proofs.Common.{◌≡◌, ◌⊎◌, inl, inr, ℕ, Bool, true, false, cond, ◌&&◌, List, [], ◌∷◌, ◌++◌, Option, None, Some, refl, sym, ap, ◌∙◌, subst, append_assoc, append-nil}
use Rattle.std.specs.Prelude.{not, ◌||◌, filter}
use Rattle.std.proofs.lemmas.List.{map-append}
use Rattle.vlsi_base.specs.declared.name.Name.{Name}
use Rattle.vlsi_base.specs.declared.range.Range.{Range}
use Rattle.vlsi_base.specs.declared.entity.NewName.{NewName}
use Rattle.vlsi_base.specs.declared.entity.Mode.{Mode}
use Rattle.vlsi_base.specs.declared.entity.Mode.TheVariants as mode
use Rattle.vlsi_base.specs.declared.entity.TypeWord.{TypeWord}
use Rattle.vlsi_base.specs.declared.entity.TypeWord.TheVariants as word
use Rattle.vlsi_base.specs.declared.entity.PortGroup.{PortGroup}
use Rattle.vlsi_base.specs.declared.entity.SignalGroup.{SignalGroup}
use Rattle.vlsi_base.specs.Tree.{view}
use Rattle.machine_core.specs.Named.{is_same_name}
use Rattle.machine_core.specs.Order.{In, here, there, AllDifferent}
use Rattle.machine_core.proofs.Names.{same_name-true, same_name-itself}
use Rattle.machine_core.proofs.Values.{In-split, In-left, In-right}
use Rattle.source_checks.specs.declared.statement.Assignment.{Assignment}
use Rattle.source_checks.specs.declared.statement.Statement.{Statement}
use Rattle.source_checks.specs.declared.statement.Statement.TheVariants as statement
use Rattle.source_checks.specs.declared.statement.DesignFile.{DesignFile}
use Rattle.source_checks.specs.declared.drivers.NameFault.{NameFault}
use Rattle.source_checks.specs.declared.symbol_table.Role.{Role}
use Rattle.source_checks.specs.declared.symbol_table.Role.TheVariants as role
use Rattle.source_checks.specs.declared.symbol_table.Symbol.{Symbol}
use Rattle.vlsi_base.specs.Name.{is_supply}
use Rattle.source_checks.specs.Symbols.{symbols, find, symbols_named, port_symbols, signal_symbols, role_of_mode, role_of_word, symbol_names}
use Rattle.source_checks.specs.Places.{Use, in_statements, statement_uses}
use Rattle.source_checks.specs.Widths.{if_not, statement_faults, port_faults, signal_faults}
use Rattle.source_checks.specs.Drivers.{Driver, driver_at, target_names, statement_drivers, drivers, all_driven, is_among, least, fault_at, needs_driver, first_second_driver, first_undriven}
use Rattle.source_checks.specs.Unsupported.{statement_forms, port_form, port_forms, signal_form, signal_forms, supply_faults, is_in_mode, is_inout, is_bit_word, all_unsupported}
use Rattle.source_checks.specs.Clock.{statement_clock_lines, clock_text, first_text, statement_clocks, may_clock, clock_of}
use Rattle.source_checks.specs.Elaboration.{Definition, Storage, definitions, storage, statement_definitions, statement_storage}
use Rattle.source_checks.proofs.Names.{is_among-append}
use Rattle.vlsi_model.specs.Laid.{names_defined, names_stored}
use Rattle.vlsi_model.proofs.Stages.{NoFault}
use Rattle.vlsi_model.proofs.Members.{In-cases, Sub, none, different_Sub, Sub-append, Sub-nothing, Sub-itself, different_append}
use Rattle.vlsi_model.proofs.Bits.{IsBit, texts, different_texts, found_in}
use Rattle.vlsi_model.proofs.Formulas.{Holds}
use Rattle.vlsi_model.proofs.Expressions.{known_uses, empty_left, empty_right, no_line, IsReadable, IsScalarClock}
use Rattle.vlsi_model.proofs.FineAssignments.{NoBoth, and_left}
use Rattle.vlsi_model.proofs.FineStatements.{Defines, IsFineStatement, fine_statement, IsClock, is_clock, guard_of}

-- declared names

-- no port of both directions, and a supply is an input
pub record IsFineSymbol (s : Symbol) : Type 0 where
  pub not_both : s.role ≡ role.Both → ⊥
  pub supply : is_supply s.text ≡ true → s.role ≡ role.Input

record IsNamed (r : Role) (names : List NewName) (s : Symbol) : Type 0 where
  role : s.role ≡ r
  new : NewName
  among : In new names
  text : s.text ≡ new.text

named : (r : Role) (range : Option Range) (line : ℕ) (names : List NewName) (s : Symbol) → In s (symbols_named r range line names) → IsNamed r names s
named r range line [] s i = elim i [ ]
named r range line (n ∷ names) s here = record { role = refl; new = n; among = here; text = refl }
named r range line (n ∷ names) s (there i) = let h = named r range line names s i in record { role = h.role; new = h.new; among = there h.among; text = h.text }

no_supply : (fits : Bool) (names : List NewName) (n : NewName) → supply_faults fits names ≡ [] → In n names → is_supply n.text ≡ true → fits ≡ true
no_supply fits (m ∷ names) n e here s =
    let h : (fits || not (is_supply n.text)) ≡ true = no_line (fits || not (is_supply n.text)) n.line (empty_left (if_not (fits || not (is_supply n.text)) n.line) _ e) in
    by fits (ap (λ b. fits || not b) (sym s) ∙ h) where
      by : (b : Bool) → (b || false) ≡ true → b ≡ true
      by true h = refl
      by false h = h
no_supply fits (m ∷ names) n e (there i) s = no_supply fits names n (empty_right (if_not (fits || not (is_supply m.text)) m.line) _ e) i s
no_supply fits [] n e i s = elim i [ ]

mode_role : (m : Mode) → not (is_inout m) ≡ true → role_of_mode m ≡ role.Both → ⊥
mode_role mode.In e h = cc
mode_role mode.Out e h = cc
mode_role mode.Inout e h = cc

in_role : (m : Mode) → is_in_mode m ≡ true → role_of_mode m ≡ role.Input
in_role mode.In e = refl
in_role mode.Out e = absurd cc
in_role mode.Inout e = absurd cc

fine_group : (g : PortGroup) (s : Symbol) → port_form g ≡ [] → In s (symbols_named (role_of_mode g.mode) g.kind.range g.line g.names) → IsFineSymbol s
fine_group g s e i =
    let n = named (role_of_mode g.mode) g.kind.range g.line g.names s i in
    let fits = is_in_mode g.mode && is_bit_word g.kind.word in
    let rest = empty_right (supply_faults fits g.names) _ e in
    let plain = no_line (not (is_inout g.mode)) g.mode_line (empty_left (if_not (not (is_inout g.mode)) g.mode_line) _ rest) in record {
      not_both = λ h. mode_role g.mode plain (sym n.role ∙ h);
      supply = λ h.
          let fit : fits ≡ true = no_supply fits g.names n.new (empty_left (supply_faults fits g.names) _ e) n.among (ap is_supply (sym n.text) ∙ h) in
          n.role ∙ in_role g.mode (and_left (is_in_mode g.mode) (is_bit_word g.kind.word) fit);
    }

fine_ports : (gs : List PortGroup) (s : Symbol) → port_forms gs ≡ [] → In s (port_symbols gs) → IsFineSymbol s
fine_ports [] s e i = elim i [ ]
fine_ports (g ∷ gs) s e i = elim (In-split s (symbols_named (role_of_mode g.mode) g.kind.range g.line g.names) (port_symbols gs) i) [
  | inl a ↦ fine_group g s (empty_left (port_form g) _ e) a
  | inr b ↦ fine_ports gs s (empty_right (port_form g) _ e) b
]

word_role : (w : TypeWord) → role_of_word w ≡ role.Both → ⊥
word_role word.RegBit h = cc
word_role word.RegVector h = cc
word_role word.RegBitVector h = cc
word_role w h = cc

fine_signal : (g : SignalGroup) (s : Symbol) → signal_form g ≡ [] → In s (symbols_named (role_of_word g.kind.word) g.kind.range g.line g.names) → IsFineSymbol s
fine_signal g s e i =
    let n = named (role_of_word g.kind.word) g.kind.range g.line g.names s i in record {
      not_both = λ h. word_role g.kind.word (sym n.role ∙ h);
      supply = λ h. let fit : false ≡ true = no_supply false g.names n.new (empty_left (supply_faults false g.names) _ e) n.among (ap is_supply (sym n.text) ∙ h) in absurd cc;
    }

fine_signals : (gs : List SignalGroup) (s : Symbol) → signal_forms gs ≡ [] → In s (signal_symbols gs) → IsFineSymbol s
fine_signals [] s e i = elim i [ ]
fine_signals (g ∷ gs) s e i = elim (In-split s (symbols_named (role_of_word g.kind.word) g.kind.range g.line g.names) (signal_symbols gs) i) [
  | inl a ↦ fine_signal g s (empty_left (signal_form g) _ e) a
  | inr b ↦ fine_signals gs s (empty_right (signal_form g) _ e) b
]

fine_symbols : (design : DesignFile) → all_unsupported design ≡ [] → (s : Symbol) → In s (symbols design) → IsFineSymbol s
fine_symbols design e s i = elim (In-split s (port_symbols design.entity.ports) (signal_symbols design.declarations.signals) i) [
  | inl a ↦ fine_ports design.entity.ports s (empty_left (port_forms design.entity.ports) _ e) a
  | inr b ↦ fine_signals design.declarations.signals s (empty_left (signal_forms design.declarations.signals) _ (empty_right (port_forms design.entity.ports) _ e)) b
]

-- the clock

clock_may : (known : List Symbol) (ss : List Statement) (text : List ℕ) → first_text (in_statements (statement_clocks known) ss) ≡ Some text → may_clock (find known text) ≡ true
clock_may known [] text e = absurd cc
clock_may known (statement.Assert x ∷ ss) text e = clock_may known ss text e
clock_may known (statement.Assign x ∷ ss) text e = clock_may known ss text e
clock_may known (statement.Block b ∷ ss) text e = by (clock_of known (view b.guard)) refl (clock_may known ss text) where
  by : (o : Option (List ℕ)) → clock_of known (view b.guard) ≡ o → (first_text (in_statements (statement_clocks known) ss) ≡ Some text → may_clock (find known text) ≡ true) → may_clock (find known text) ≡ true
  by None is rest = let h = rw is at e in rest h
  by (Some x) is rest =
      let h = rw is at e in
      let same : x ≡ text = cc in
      subst (λ (t : List ℕ). may_clock (find known t) ≡ true) same (guard_of known (view b.guard) x is).may

-- statements

pub uses_of : (ss : List Statement) (st : Statement) (u : Use) → In st ss → In u (statement_uses st) → In u (in_statements statement_uses ss)
uses_of (x ∷ ss) st u here i = In-left u (statement_uses st) (in_statements statement_uses ss) i
uses_of (x ∷ ss) st u (there j) i = In-right u (statement_uses x) (in_statements statement_uses ss) (uses_of ss st u j i)
uses_of [] st u j i = elim j [ ]

none_in : (look : Statement → List ℕ) (ss : List Statement) (st : Statement) → in_statements look ss ≡ [] → In st ss → look st ≡ []
none_in look (x ∷ ss) st e here = empty_left (look st) (in_statements look ss) e
none_in look (x ∷ ss) st e (there j) = none_in look ss st (empty_right (look x) (in_statements look ss) e) j
none_in look [] st e j = elim j [ ]

abbrev AllFineStatements : List Symbol → Option (List ℕ) → List Statement → Type 0
AllFineStatements known ck ss = (st : Statement) → In st ss → IsFineStatement known ck st

pub In-statements : {A : Type 0} (look : Statement → List A) (ss : List Statement) (x : A) → In x (in_statements look ss) → (st : Statement) × In st ss × In x (look st)
In-statements look [] x i = elim i [ ]
In-statements look (st ∷ ss) x i = elim (In-split x (look st) (in_statements look ss) i) [
  | inl a ↦ (st, here, a)
  | inr b ↦ let r = In-statements look ss x b in (r.0, there r.1, r.2)
]

driven-append : (ds es : List Driver) → all_driven (ds ++ es) ≡ all_driven ds ++ all_driven es
driven-append [] es = refl
driven-append (d ∷ ds) es = ap (λ (ns : List Name). d.names ++ ns) (driven-append ds es) ∙ sym (append_assoc d.names (all_driven ds) (all_driven es))

-- what statements drive, they define or store
record IsSplit (ds rs driven : List Name) : Type 0 where
  defined : Sub ds driven
  stored : Sub rs driven
  both : (n : Name) → In n driven → In n ds ⊎ In n rs

split_one : (ds rs ns : List Name) → ns ≡ ds ++ rs → IsSplit ds rs ns
split_one ds rs ns e = subst (IsSplit ds rs) (sym e) (record {
  defined = subst (λ (xs : List Name). Sub xs (ds ++ rs)) (append-nil ds) (Sub-append ds ds [] rs (Sub-itself ds) (Sub-nothing rs));
  stored = Sub-append [] ds rs rs (Sub-nothing ds) (Sub-itself rs);
  both = λ n i. In-split n ds rs i;
})

split_more : (ds rs ns ds' rs' ns' : List Name) → IsSplit ds rs ns → IsSplit ds' rs' ns' → IsSplit (ds ++ ds') (rs ++ rs') (ns ++ ns')
split_more ds rs ns ds' rs' ns' a b = record {
  defined = Sub-append ds ns ds' ns' a.defined b.defined;
  stored = Sub-append rs ns rs' ns' a.stored b.stored;
  both = λ n i. elim (In-split n ns ns' i) [
    | inl x ↦ elim (a.both n x) [ inl p ↦ inl (In-left n ds ds' p) | inr q ↦ inr (In-left n rs rs' q) ]
    | inr y ↦ elim (b.both n y) [ inl p ↦ inl (In-right n ds ds' p) | inr q ↦ inr (In-right n rs rs' q) ]
  ];
}

statements_split : (known : List Symbol) (ck : Option (List ℕ)) (ss : List Statement) → AllFineStatements known ck ss
    → IsSplit (names_defined (in_statements (statement_definitions known) ss)) (names_stored (in_statements (statement_storage known ck) ss)) (all_driven (in_statements (statement_drivers known) ss))
statements_split known ck [] h = record { defined = none; stored = none; both = λ n i. elim i [ ] }
statements_split known ck (st ∷ ss) h =
    let ds = names_defined (statement_definitions known st) in
    let rs = names_stored (statement_storage known ck st) in
    let ns = all_driven (statement_drivers known st) in
    let ds' = names_defined (in_statements (statement_definitions known) ss) in
    let rs' = names_stored (in_statements (statement_storage known ck) ss) in
    let ns' = all_driven (in_statements (statement_drivers known) ss) in
    let all : IsSplit (ds ++ ds') (rs ++ rs') (ns ++ ns') = split_more ds rs ns ds' rs' ns' (split_one ds rs ns (h st here).names) (statements_split known ck ss (λ x i. h x (there i))) in
    rw (
      map-append (λ (d : Definition). d.name) (statement_definitions known st) (in_statements (statement_definitions known) ss),
      map-append (λ (r : Storage). r.name) (statement_storage known ck st) (in_statements (statement_storage known ck) ss),
      driven-append (statement_drivers known st) (in_statements (statement_drivers known) ss),
    ) all

-- drivers

among_In : (ns : List Name) (n : Name) → is_among ns n ≡ true → In n ns
among_In [] n e = absurd cc
among_In (m ∷ ns) n e = by (is_same_name m n) refl e (among_In ns n) where
  by : (b : Bool) → is_same_name m n ≡ b → (b || is_among ns n) ≡ true → (is_among ns n ≡ true → In n ns) → In n (m ∷ ns)
  by true is e rest = subst (λ (x : Name). In x (m ∷ ns)) (same_name-true m n is) here
  by false is e rest = there (rest e)

In_among : (ns : List Name) (n : Name) → In n ns → is_among ns n ≡ true
In_among (m ∷ ns) n here = ap (λ b. b || is_among ns n) (same_name-itself n)
In_among (m ∷ ns) n (there i) = by (is_same_name m n) (In_among ns n i) where
  by : (b : Bool) → is_among ns n ≡ true → (b || is_among ns n) ≡ true
  by true h = refl
  by false h = h
In_among [] n i = elim i [ ]

least_none : (ns : List Name) → least ns ≡ None → ns ≡ []
least_none [] e = refl
least_none (n ∷ ns) e = absurd cc

no_fault_at : (line : ℕ) (o : Option Name) (later : Option NameFault) → fault_at line o later ≡ None → (o ≡ None) × (later ≡ None)
no_fault_at line None later e = (refl, e)
no_fault_at line (Some n) later e = absurd cc

none_passes : (p : Name → Bool) (ns : List Name) → filter p ns ≡ [] → (n : Name) → In n ns → p n ≡ false
none_passes p (m ∷ ns) e n i = by (p m) refl e (none_passes p ns) (In-cases n m ns i) where
  by : (b : Bool) → p m ≡ b → cond b (m ∷ filter p ns) (filter p ns) ≡ [] → (filter p ns ≡ [] → (n : Name) → In n ns → p n ≡ false) → (m ≡ n) ⊎ In n ns → p n ≡ false
  by true is e rest i = absurd cc
  by false is e rest (inl same) = ap p (sym same) ∙ is
  by false is e rest (inr j) = rest e n j
none_passes p [] e n i = elim i [ ]

or_both : (a b : Bool) → (a || b) ≡ false → (a ≡ false) × (b ≡ false)
or_both false false e = (refl, refl)
or_both false true e = absurd cc
or_both true b e = absurd cc

-- no assignment drives a bit again: all driven bits are different
drivers_once : (driven : List Name) (ds : List Driver) → ((d : Driver) → In d ds → AllDifferent d.names) → first_second_driver driven ds ≡ None
    → AllDifferent (all_driven ds) × ((n : Name) → In n (all_driven ds) → is_among driven n ≡ false)
drivers_once driven [] h e = (tt, λ n i. elim i [ ])
drivers_once driven (d ∷ ds) h e =
    let a = no_fault_at d.line (least (filter (is_among driven) d.names)) (first_second_driver (d.names ++ driven) ds) e in
    let new = none_passes (is_among driven) d.names (least_none (filter (is_among driven) d.names) a.0) in
    let rest = drivers_once (d.names ++ driven) ds (λ x i. h x (there i)) a.1 in
    let apart = λ (n : Name) (i : In n (all_driven ds)). or_both (is_among d.names n) (is_among driven n) (sym (is_among-append d.names driven n) ∙ rest.1 n i) in (
      different_append d.names (all_driven ds) (h d here) rest.0 (λ n i j. let e : true ≡ false = sym (In_among d.names n i) ∙ (apart n j).0 in absurd cc),
      λ n i. elim (In-split n d.names (all_driven ds) i) [ inl x ↦ new n x | inr y ↦ (apart n y).1 ],
    )

not_not : (b : Bool) → not b ≡ false → b ≡ true
not_not true e = refl
not_not false e = absurd cc

-- each bit that needs a driver has one
all_have : (driven : List Name) (known : List Symbol) → first_undriven driven known ≡ None → (s : Symbol) → In s known → needs_driver s.role ≡ true → (n : Name) → In n (symbol_names s) → is_among driven n ≡ true
all_have driven (x ∷ known) e s i needs n j = by (needs_driver x.role) refl e (all_have driven known) (In-cases s x known i) where
  by : (b : Bool) → needs_driver x.role ≡ b → cond b (fault_at x.line (least (filter (λ n. not (is_among driven n)) (symbol_names x))) (first_undriven driven known)) (first_undriven driven known) ≡ None
      → (first_undriven driven known ≡ None → (s : Symbol) → In s known → needs_driver s.role ≡ true → (n : Name) → In n (symbol_names s) → is_among driven n ≡ true)
      → (x ≡ s) ⊎ In s known → is_among driven n ≡ true
  by false is e rest (inl same) = let h : true ≡ false = sym needs ∙ ap (λ (y : Symbol). needs_driver y.role) (sym same) ∙ is in absurd cc
  by false is e rest (inr k) = rest e s k needs n j
  by true is e rest (inl same) =
      let a = no_fault_at x.line (least (filter (λ n. not (is_among driven n)) (symbol_names x))) (first_undriven driven known) e in
      not_not (is_among driven n) (none_passes (λ n. not (is_among driven n)) (symbol_names x) (least_none _ a.0) n (subst (λ (y : Symbol). In n (symbol_names y)) (sym same) j))
  by true is e rest (inr k) =
      let a = no_fault_at x.line (least (filter (λ n. not (is_among driven n)) (symbol_names x))) (first_undriven driven known) e in
      rest a.1 s k needs n j
all_have driven [] e s i needs n j = elim i [ ]

-- what is known of a source in which no check fails
pub record Facts (design : DesignFile) : Type 0 where
  pub different : AllDifferent (texts (symbols design))
  pub fine : (s : Symbol) → In s (symbols design) → IsFineSymbol s
  pub clock : (text : List ℕ) → clock_text design ≡ Some text → IsClock (symbols design) text
  pub defines : (d : Definition) → In d (definitions design) → Defines (symbols design) (clock_text design) false d.name d.formula
  pub stores : (r : Storage) → In r (storage design) → Defines (symbols design) (clock_text design) true r.name r.next × Holds (IsReadable (symbols design) (clock_text design)) r.enable
  pub defined_once : AllDifferent (names_defined (definitions design))
  pub stored_once : AllDifferent (names_stored (storage design))
  pub driven : (n : Name) (s : Symbol) → IsBit (symbols design) n s → needs_driver s.role ≡ true → In n (names_defined (definitions design)) ⊎ In n (names_stored (storage design))
  pub counted : (a : Assignment) → In (statement.Assign a) design.statements → (driver_at (symbols design) a.target).names ≡ target_names (symbols design) a.target

pub facts : (design : DesignFile) → NoFault design → Facts design
facts design h =
    let known = symbols design in
    let ck = clock_text design in
    let ss = design.statements in
    let clock : (text : List ℕ) → ck ≡ Some text → IsClock known text = λ text e. is_clock known text (clock_may known ss text e) in
    let scalar : IsScalarClock known ck = λ text s e found. let c = clock text e in let same : c.symbol ≡ s = cc in ap (λ (x : Symbol). x.range) (sym same) ∙ c.scalar in
    let fine = fine_symbols design h.form in
    let both : NoBoth known = λ text s found. (fine s (found_in known text s found)).not_both in
    let uses = known_uses known (in_statements statement_uses ss) h.unknown in
    let widths = empty_right (signal_faults design.declarations.signals) _ (empty_right (port_faults design.entity.ports) _ h.width) in
    let forms = empty_right (signal_forms design.declarations.signals) _ (empty_right (port_forms design.entity.ports) _ h.form) in
    let all : AllFineStatements known ck ss = λ st i.
    fine_statement known ck st scalar both (λ u j. uses u (uses_of ss st u i j)) (none_in (statement_faults known) ss st widths i) (none_in (statement_forms known) ss st forms i) (none_in (statement_clock_lines known ck) ss st h.clock i) in
    let split = statements_split known ck ss all in
    let once = (drivers_once [] (drivers design) (λ d i. let r = In-statements (statement_drivers known) ss d i in (all r.0 r.1).different d r.2) h.again).0 in record {
      different = different_texts known h.repeated;
      fine = fine;
      clock = clock;
      defines = λ d i. let r = In-statements (statement_definitions known) ss d i in (all r.0 r.1).definitions d r.2;
      stores = λ x i. let r = In-statements (statement_storage known ck) ss x i in (all r.0 r.1).storage x r.2;
      defined_once = different_Sub (names_defined (definitions design)) (all_driven (drivers design)) split.defined once;
      stored_once = different_Sub (names_stored (storage design)) (all_driven (drivers design)) split.stored once;
      driven = λ n s b needs. split.both n (among_In (all_driven (drivers design)) n (all_have (all_driven (drivers design)) known h.missing s (found_in known n.text s b.found) needs n b.among));
      counted = λ a i. (all (statement.Assign a) i).counted a refl;
    }
