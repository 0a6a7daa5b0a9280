-- The equations of the machine with each free bit 1.
use Rattle.std.proofs.Common.{◌≡◌, ◌⊎◌, inl, inr, ℕ, suc, ◌+◌, ◌<◌, Bool, true, false, cond, not, List, [], ◌∷◌, ◌++◌, map, length, filter, Option, None, Some, get_or, refl, sym, ap, ◌∙◌, subst, arith}
use Rattle.std.specs.Prelude.{slice_index, ◌||◌}
use Rattle.std.specs.List.{All, AllZip, slice_get, slice_index_or}
use Rattle.std.specs.List.Sorted.{IsPermutation}
use Rattle.std.proofs.lemmas.List.Sorted.{IsPermutation-sym, IsPermutation-map}
use Rattle.std.proofs.lemmas.Option.{slice_get-get_or}
use Rattle.vlsi_base.specs.declared.name.Name.{Name}
use Rattle.vlsi_base.specs.declared.name.Port.{Port}
use Rattle.vlsi_base.specs.declared.name.Dir.TheVariants as dir
use Rattle.vlsi_base.specs.Name.{is_supply}
use Rattle.bool_expr.specs.Expression.{Expression, constant, variables, IsOver}
use Rattle.bool_expr.specs.Renumbering.{renumbered}
use Rattle.machine_core.specs.Named.{is_same_name}
use Rattle.machine_core.specs.Machine.{Machine, Equation, Register, is_input, is_clock, names_of, input_ports, inputs, outputs, register_names}
use Rattle.machine_core.specs.Order.{In, here, there, AllDifferent, held_names, equation_names}
use Rattle.machine_core.proofs.Names.{same_name-true, same_name-itself, same_name-false}
use Rattle.machine_core.proofs.Known.{ReadsKnown, EachReadsKnown, known as known_names}
use Rattle.machine_core.proofs.Values.{In-map, In-left, In-right, In-split}
use Rattle.source_checks.specs.declared.statement.Selection.{Selection}
use Rattle.source_checks.specs.declared.statement.Selection.TheVariants as selection
use Rattle.source_checks.specs.declared.statement.Target.{Target}
use Rattle.source_checks.specs.declared.statement.DesignFile.{DesignFile}
use Rattle.source_checks.specs.declared.symbol_table.Role.{Role}
use Rattle.source_checks.specs.declared.symbol_table.Role.TheVariants as role
use Rattle.source_checks.specs.declared.symbol_table.Symbol.{Symbol}
use Rattle.source_checks.specs.Symbols.{symbols, find, names_in, symbol_names, all_names}
use Rattle.source_checks.specs.Formula.{Formula, fixed, named, opposite, joined, chosen, formula_names, numbered, names_of_found, place}
use Rattle.source_checks.specs.Drivers.{is_among, target_names}
use Rattle.source_checks.specs.Elaboration.{Definition, Storage, definitions, storage, port_of, port_bits}
use Rattle.source_checks.proofs.Names.{find_text}
use Rattle.source_bits.specs.Driven.{Numbered, numbered_definition}
use Rattle.vlsi_model.specs.Laid.{names_defined, names_stored}
use Rattle.vlsi_model.specs.Numbered.{HasVars, driven_at}
use Rattle.vlsi_model.proofs.Members.{In-map_back, In-Sub}
use Rattle.vlsi_model.proofs.Bits.{IsBit, text_in, found_in}
use Rattle.vlsi_model.proofs.FineSources.{Facts}
use Rattle.vlsi_model.proofs.Formulas.{Holds}
use Rattle.vlsi_model.proofs.Numbering.{place_within, place_at, place_In, holds_In, In_holds, numbered_variables, renumber, over_below}
use Rattle.vlsi_model.proofs.Assembly.{equation_of, register_of, names-registers, In-permutation, All-from_In, IsDriven, defined_is, false_or_true}
use Rattle.vlsi_model.proofs.Building.{defined_declared, stored_declared, map-then}
use Rattle.vlsi_model.proofs.PortBits.{is_port_bit, ports_sub, In-filter, filter-In}
use Rattle.vlsi_model.proofs.SourceBits.{sound}
use Rattle.machine_free.specs.Free.{AreFreed, Reads, IsFreeOutput, MayDiffer}
use Rattle.vbe_free.specs.Filled.{filled_statement, is_output}
use Rattle.vbe_free.specs.Second.{IsFirstOf, equation_for, IsFound, AreOnes}
use Rattle.vbe_free.proofs.Freed.{AreFreedFormulas, freed_numbered}
use Rattle.vbe_free.proofs.Drives.{in_trees, tree_definitions, IsFreeName, IsPair, ArePairs}
use Rattle.vbe_free.proofs.Covered.{source_in}
use Rattle.vbe_free.proofs.Agree.{known, read, statements, same_symbols, low_definitions, pairs}

-- ---- formulas

freed_names : (f g : Formula) → AreFreedFormulas f g → (n : Name) → In n (formula_names g) → In n (formula_names f)
freed_names (fixed b) g (inl h) n i = subst (λ x. In n (formula_names x)) h i
freed_names (fixed b) g (inr h) n i = absurd (elim (subst (λ x. In n (formula_names x)) h.1 i) [ ])
freed_names (named m) g h n i = subst (λ x. In n (formula_names x)) h i
freed_names (opposite e) g h n i = subst (λ x. In n (formula_names x)) h i
freed_names (joined o a b) g h n i = subst (λ x. In n (formula_names x)) h i
freed_names (chosen c a b) g h n i =
    by (freed_names a h.0 h.3.0 n) (freed_names b h.1 h.3.1 n) (In-split n (formula_names c) (formula_names h.0 ++ formula_names h.1) (subst (λ x. In n (formula_names x)) h.2 i)) where
      rest : (In n (formula_names h.0) → In n (formula_names a)) → (In n (formula_names h.1) → In n (formula_names b)) → In n (formula_names h.0) ⊎ In n (formula_names h.1)
          → In n (formula_names a ++ formula_names b)
      rest f k (inl j) = In-left n (formula_names a) (formula_names b) (f j)
      rest f k (inr j) = In-right n (formula_names a) (formula_names b) (k j)

      by : (In n (formula_names h.0) → In n (formula_names a)) → (In n (formula_names h.1) → In n (formula_names b))
          → In n (formula_names c) ⊎ In n (formula_names h.0 ++ formula_names h.1) → In n (formula_names c ++ (formula_names a ++ formula_names b))
      by f k (inl j) = In-left n (formula_names c) (formula_names a ++ formula_names b) j
      by f k (inr j) = In-right n (formula_names c) (formula_names a ++ formula_names b) (rest f k (In-split n (formula_names h.0) (formula_names h.1) j))

-- ---- pairs

record Partner (ks : List Symbol) (rs : List Name) (es : List Definition) (d : Definition) : Type 0 where
  pub other : Definition
  pub among : In other es
  pub pair : IsPair ks rs d other

partner : (ks : List Symbol) (rs : List Name) (ds es : List Definition) → ArePairs ks rs ds es → (d : Definition) → In d ds → Partner ks rs es d
partner ks rs [] es h d i = elim i [ ]
partner ks rs (x ∷ ds) [] h d i = absurd h
partner ks rs (x ∷ ds) (e ∷ es) h d here = record { other = e; among = here; pair = h.0 }
partner ks rs (x ∷ ds) (e ∷ es) h d (there i) = let p = partner ks rs ds es h.1 d i in record { other = p.other; among = there p.among; pair = p.pair }

record Origin (ks : List Symbol) (rs : List Name) (ds : List Definition) (e : Definition) : Type 0 where
  pub other : Definition
  pub among : In other ds
  pub pair : IsPair ks rs other e

origin : (ks : List Symbol) (rs : List Name) (ds es : List Definition) → ArePairs ks rs ds es → (e : Definition) → In e es → Origin ks rs ds e
origin ks rs [] [] h e i = elim i [ ]
origin ks rs [] (x ∷ es) h e i = absurd h
origin ks rs (d ∷ ds) [] h e i = elim i [ ]
origin ks rs (d ∷ ds) (x ∷ es) h e here = record { other = d; among = here; pair = h.0 }
origin ks rs (d ∷ ds) (x ∷ es) h e (there i) = let p = origin ks rs ds es h.1 e i in record { other = p.other; among = there p.among; pair = p.pair }

names_same : (ks : List Symbol) (rs : List Name) (ds es : List Definition) → ArePairs ks rs ds es → names_defined es ≡ names_defined ds
names_same ks rs [] [] h = refl
names_same ks rs [] (e ∷ es) h = absurd h
names_same ks rs (d ∷ ds) [] h = absurd h
names_same ks rs (d ∷ ds) (e ∷ es) h = let rest = names_same ks rs ds es h.1 in λ j. h.0.0 j ∷ rest j

pair_names : (ks : List Symbol) (rs : List Name) (d e : Definition) → IsPair ks rs d e → (n : Name) → In n (formula_names e.formula) → In n (formula_names d.formula)
pair_names ks rs d e (same, inl h) n i = subst (λ x. In n (formula_names x)) h i
pair_names ks rs d e (same, inr h) n i = freed_names d.formula e.formula h.0 n i

-- what stands at the place of a definition's name
at_place : {B : Type 0} (f : Definition → B) (ds : List Definition) (d : Definition) (b : B) → AllDifferent (names_defined ds) → In d ds
    → slice_index_or (map f ds) (place (names_defined ds) d.name) b ≡ f d
at_place f [] d b h i = elim i [ ]
at_place f (x ∷ ds) d b h here = ap (λ t. slice_index_or (map f (x ∷ ds)) (cond t 0 (place (names_defined ds) x.name + 1)) b) (same_name-itself x.name)
at_place f (x ∷ ds) d b h (there i) =
    let apart : is_same_name x.name d.name ≡ false = same_name-false x.name d.name (λ e. h.0 (subst (λ n. In n (names_defined ds)) (sym e) (In-map (λ (y : Definition). y.name) d ds i))) in
    ap (λ t. slice_index_or (map f (x ∷ ds)) (cond t 0 (place (names_defined ds) d.name + 1)) b) apart
    ∙ ap (λ k. slice_index_or (map f (x ∷ ds)) k b) (next (place (names_defined ds) d.name)) ∙ at_place f ds d b h.1 i where
      next : (k : ℕ) → k + 1 ≡ suc k
      next k = omega arith

-- ---- lists

zip_map : {A B : Type 0} (R : A → B → Type 0) (f : A → B) (xs : List A) → ((x : A) → In x xs → R x (f x)) → AllZip R xs (map f xs)
zip_map R f [] h = tt
zip_map R f (x ∷ xs) h = (h x here, zip_map R f xs (λ y i. h y (there i)))

pub is_among_In : (names : List Name) (n : Name) → In n names → is_among names n ≡ true
is_among_In [] n i = elim i [ ]
is_among_In (m ∷ names) n here = ap (λ b. b || is_among names m) (same_name-itself m)
is_among_In (m ∷ names) n (there i) = by (is_same_name m n) (is_among_In names n i) where
  by : (b : Bool) → is_among names n ≡ true → (b || is_among names n) ≡ true
  by true h = refl
  by false h = h

each_known : (vars ks : List Name) (es : List Equation) → EachReadsKnown vars ks es → (e : Equation) → In e es → (k : ℕ) → In k (variables e.expr) → k < length vars
each_known vars ks [] h e i k g = elim i [ ]
each_known vars ks (x ∷ es) h e here k g = (h.0 k g).0
each_known vars ks (x ∷ es) h e (there i) k g = each_known vars (x.name ∷ ks) es h.1 e i k g

-- ---- targets

selected_text : (ks : List Symbol) (text : List ℕ) (line : ℕ) (s : Selection) (n : Name) → In n (target_names ks (record { name = text; line = line; selection = s })) → n.text ≡ text
selected_text ks text line selection.Whole n i = by (find ks text) refl i where
  by : (o : Option Symbol) → find ks text ≡ o → In n (names_of_found o) → n.text ≡ text
  by None is i = elim i [ ]
  by (Some s) is i = text_in s.text s.range n i ∙ find_text ks text s is
selected_text ks text line (selection.Bit k) n here = refl
selected_text ks text line (selection.Bit k) n (there i) = elim i [ ]
selected_text ks text line (selection.Bits r) n i = text_in text (Some r) n i

target_text : (ks : List Symbol) (t : Target) (n : Name) → target_names ks t ≡ n ∷ [] → n.text ≡ t.name
target_text ks t n h = selected_text ks t.name t.line t.selection n (subst (λ (l : List Name). In n l) (sym h) here)

output_role : (s : Symbol) → is_output (Some s) ≡ true → s.role ≡ role.Output
output_role s h = by s.role h where
  by : (r : Role) → is_output (Some (record s { role = r })) ≡ true → r ≡ role.Output
  by role.Input h = absurd cc
  by role.Output h = refl
  by role.Both h = absurd cc
  by role.Inner h = absurd cc
  by role.Register h = absurd cc

module _ (m : Machine) (high : DesignFile) (first : IsFirstOf m high) where
  abbrev low : DesignFile
  low = first.low

  abbrev ks : List Symbol
  ks = known m high first

  abbrev rs : List Name
  rs = read m high first

  abbrev all : List Name
  all = all_names ks

  pub lows : Facts low
  lows = sound low first.passes.no_fault

  paired : ArePairs ks rs (definitions low) (definitions high)
  paired = pairs m high first

  pub defined_same : names_defined (definitions high) ≡ names_defined (definitions low)
  defined_same = names_same ks rs (definitions low) (definitions high) paired

  pub high_once : AllDifferent (names_defined (definitions high))
  high_once = subst (λ (l : List Name). AllDifferent l) (sym defined_same) lows.defined_once

  pub high_declared : (n : Name) → In n (names_defined (definitions high)) → In n all
  high_declared n i = defined_declared low lows n (subst (λ (l : List Name). In n l) defined_same i)

  -- an equation is that of a definition
  equation_from : (q : Equation) → In q m.equations → (d : Definition) × In d (definitions low) × (equation_of m.vars d ≡ q)
  equation_from q i =
      In-map_back (equation_of m.vars) q (definitions low) (In-permutation m.equations (map (equation_of m.vars) (definitions low)) q first.machine.equations i)

  equation_in : (d : Definition) → In d (definitions low) → In (equation_of m.vars d) m.equations
  equation_in d i =
      In-permutation (map (equation_of m.vars) (definitions low)) m.equations (equation_of m.vars d)
      (IsPermutation-sym m.equations (map (equation_of m.vars) (definitions low)) first.machine.equations) (In-map (equation_of m.vars) d (definitions low) i)

  low_names : (d : Definition) → In d (definitions low) → (n : Name) → In n (formula_names d.formula) → place m.vars n < length m.vars
  low_names d i n j =
      let read_by : In (place m.vars n) (variables (numbered m.vars d.formula)) =
      subst (λ (l : List ℕ). In (place m.vars n) l) (sym (numbered_variables m.vars d.formula)) (In-map (place m.vars) n (formula_names d.formula) j) in
      each_known m.vars (held_names m) m.equations (known_names m first.machine.checked.ordered).ordered (equation_of m.vars d) (equation_in d i) (place m.vars n) read_by

  -- what a definition reads is a name of the machine
  high_names : (e : Definition) → In e (definitions high) → (n : Name) → In n (formula_names e.formula) → In n m.vars
  high_names e i n j =
      let o = origin ks rs (definitions low) (definitions high) paired e i in
      place_In m.vars n (low_names o.other o.among n (pair_names ks rs o.other e o.pair n j))

  -- each name of the machine is declared
  held_declared : (n : Name) → In n (held_names m) → In n all
  held_declared n i = by (In-split n (inputs m) (register_names m) i) where
    by : In n (inputs m) ⊎ In n (register_names m) → In n all
    by (inl j) =
        let port = (In-filter (λ name. not (is_clock m.clock name)) (input_ports m) n j).0 in
        let p = In-map_back (λ (q : Port). q.name) n (filter (λ (q : Port). is_input q.dir) m.ports) port in
        let there_is = (In-filter (λ (q : Port). is_input q.dir) m.ports p.0 p.1).0 in
        let bit = In-permutation m.ports (port_bits ks) p.0 first.machine.ports there_is in
        In-Sub n (names_of (port_bits ks)) all (ports_sub ks) (subst (λ (x : Name). In x (names_of (port_bits ks))) p.2 (In-map (λ (q : Port). q.name) p.0 (port_bits ks) bit))
    by (inr j) =
        let r = In-map_back (λ (x : Register). x.name) n m.registers j in
        let stands = In-permutation m.registers (map (register_of m.vars) (storage low)) r.0 first.machine.registers r.1 in
        let named_so : In n (map (λ (x : Register). x.name) (map (register_of m.vars) (storage low))) =
        subst (λ (x : Name). In x (map (λ (y : Register). y.name) (map (register_of m.vars) (storage low)))) r.2
        (In-map (λ (x : Register). x.name) r.0 (map (register_of m.vars) (storage low)) stands) in
        stored_declared low lows n (subst (λ (l : List Name). In n l) (names-registers m.vars (storage low)) named_so)

  pub vars_declared : (n : Name) → In n m.vars → In n all
  vars_declared n i = by (In-split n (held_names m) (equation_names m) (subst (λ (l : List Name). In n l) first.machine.checked.ordered.vars i)) where
    by : In n (held_names m) ⊎ In n (equation_names m) → In n all
    by (inl j) = held_declared n j
    by (inr j) =
        let q = In-map_back (λ (x : Equation). x.name) n m.equations j in
        let d = equation_from q.0 q.1 in
        let is : d.0.name ≡ n = ap (λ (x : Equation). x.name) d.2 ∙ q.2 in
        defined_declared low lows n (subst (λ (x : Name). In x (names_defined (definitions low))) is (In-map (λ (x : Definition). x.name) d.0 (definitions low) d.1))

  -- each equation's name is defined
  pub equation_defined : (q : Equation) → In q m.equations → In q.name (names_defined (definitions high))
  equation_defined q i =
      let d = equation_from q i in
      subst (λ (l : List Name). In q.name l) (sym defined_same)
      (subst (λ (x : Name). In x (names_defined (definitions low))) (ap (λ (x : Equation). x.name) d.2) (In-map (λ (x : Definition). x.name) d.0 (definitions low) d.1))

  -- ---- no equation reads a name that may be left free

  read_names : (d : Definition) → In d (definitions low) → (n : Name) → In n (formula_names d.formula) → In n rs
  read_names d i n j =
      holds_In (λ x. In x rs) d.formula
      (source_in ks false (statements m high first) d (subst (λ (l : List Definition). In d l) (low_definitions m high first) i)) n j

  never_read : (n : Name) → is_among rs n ≡ false → (g : Equation) → In g m.equations → Reads m.vars g.expr n → ⊥
  never_read n out g i (k, among, at) =
      let d = equation_from g i in
      let here_is : In k (map (place m.vars) (formula_names d.0.formula)) =
      subst (λ (l : List ℕ). In k l) (numbered_variables m.vars d.0.formula) (subst (λ (q : Equation). In k (variables q.expr)) (sym d.2) among) in
      let x = In-map_back (place m.vars) k (formula_names d.0.formula) here_is in
      let inside = low_names d.0 d.1 x.0 x.1 in
      let first_is : slice_get m.vars k ≡ Some x.0 =
      ap (slice_get m.vars) (sym x.2) ∙ slice_get-get_or m.vars (place m.vars x.0) x.0 inside ∙ ap Some (place_at m.vars x.0 x.0 inside) in
      let same : Some x.0 ≡ Some n = sym first_is ∙ at in
      let is : x.0 ≡ n = cc in
      let yes : is_among rs n ≡ true = is_among_In rs n (subst (λ (y : Name). In y rs) is (read_names d.0 d.1 x.0 x.1)) in
      let both : true ≡ false = sym yes ∙ out in absurd cc

  is_out : (n : Name) → In n (names_defined (definitions low)) → IsFreeName ks rs n → In n (outputs m)
  is_out n i free =
      let d = defined_is low lows n i in
      let text : n.text ≡ free.target.name = target_text ks free.target n free.bits in
      let found : find ks free.target.name ≡ Some d.symbol = ap (find ks) (sym text) ∙ d.bit.found in
      let is : d.symbol.role ≡ role.Output = output_role d.symbol (ap is_output (sym found) ∙ free.output) in
      let declared = found_in ks n.text d.symbol d.bit.found in
      let plain : is_supply d.symbol.text ≡ false = false_or_true (is_supply d.symbol.text) (λ e. apart d.symbol.role is ((lows.fine d.symbol declared).supply e)) in
      let port = is_port_bit ks d.symbol n dir.Out declared d.bit.among plain is in
      let stands = In-permutation (port_bits ks) m.ports (port_of dir.Out n) (IsPermutation-sym m.ports (port_bits ks) first.machine.ports) port in
      In-map (λ (q : Port). q.name) (port_of dir.Out n) (filter (λ (q : Port). not (is_input q.dir)) m.ports)
      (filter-In (λ (q : Port). not (is_input q.dir)) m.ports (port_of dir.Out n) stands refl) where
        apart : (r : Role) → r ≡ role.Output → r ≡ role.Input → ⊥
        apart r a b = let e : role.Output ≡ role.Input = sym a ∙ b in absurd cc

  may_differ : (d e : Definition) → In d (definitions low) → IsPair ks rs d e → MayDiffer m (equation_of m.vars d) (equation_of m.vars e)
  may_differ d e i (same, inl h) = (same, inl (ap (numbered m.vars) h))
  may_differ d e i (same, inr h) = (
    same,
    inr (record {
      output = is_out d.name (In-map (λ (x : Definition). x.name) d (definitions low) i) h.1;
      freed = freed_numbered m.vars d.formula e.formula h.0;
      unread = never_read d.name h.1.unread;
    }),
  )

  -- ---- over the tables

  module _ (driven : List Numbered) (places vars : List ℕ) (is : driven ≡ map (numbered_definition all) (definitions high))
      (at_places : HasVars all (names_defined (definitions high)) places) (at_vars : HasVars all m.vars vars) where
    abbrev G : Name → Equation
    G n = equation_for all driven places vars n

    found : (e : Definition) → In e (definitions high) → G e.name ≡ equation_of m.vars e
    found e i =
        let named_so = In-map (λ (x : Definition). x.name) e (definitions high) i in
        let stands : driven_at driven (slice_index places (place all e.name)) ≡ numbered_definition all e =
        ap (λ k. driven_at driven k) (at_places.there e.name named_so) ∙ ap (λ (l : List Numbered). driven_at l (place (names_defined (definitions high)) e.name)) is
        ∙ at_place (numbered_definition all) (definitions high) e (record { bit = 0; expr = constant false }) high_once i in
        let over : renumbered vars (numbered all e.formula) ≡ numbered m.vars e.formula =
        renumber all m.vars vars e.formula (In_holds (λ n. slice_index vars (place all n) ≡ place m.vars n) e.formula (λ n j. at_vars.there n (high_names e i n j))) in
        ap (λ (x : Numbered). equation_with e.name (renumbered vars x.expr)) stands ∙ ap (equation_with e.name) over where
          equation_with : Name → Expression → Equation
          equation_with n x = record { name = n; expr = x }

    turned : (ds es : List Definition) → ArePairs ks rs ds es → ((e : Definition) → In e es → G e.name ≡ equation_of m.vars e)
        → map (λ (q : Equation). G q.name) (map (equation_of m.vars) ds) ≡ map (equation_of m.vars) es
    turned [] [] h f = refl
    turned [] (e ∷ es) h f = absurd h
    turned (d ∷ ds) [] h f = absurd h
    turned (d ∷ ds) (e ∷ es) h f =
        let one : G d.name ≡ equation_of m.vars e = ap G (sym h.0.0) ∙ f e here in
        let rest = turned ds es h.1 (λ x i. f x (there i)) in
        λ j. one j ∷ rest j

    pub ones : AreOnes m high (map (λ (q : Equation). G q.name) m.equations)
    ones = record {
      all = subst (λ (l : List Equation). IsPermutation (map (λ (q : Equation). G q.name) m.equations) l) (turned (definitions low) (definitions high) paired found)
          (IsPermutation-map (λ (q : Equation). G q.name) m.equations (map (equation_of m.vars) (definitions low)) first.machine.equations);
      agree = zip_map (MayDiffer m) (λ q. G q.name) m.equations (λ q i.
          let d = equation_from q i in
          let p = partner ks rs (definitions low) (definitions high) paired d.0 d.1 in
          let goes : G d.0.name ≡ equation_of m.vars p.other = ap G (sym p.pair.0) ∙ found p.other p.among in
          subst (λ (x : Equation). MayDiffer m x (G x.name)) d.2
          (subst (λ (y : Equation). MayDiffer m (equation_of m.vars d.0) y) (sym goes) (may_differ d.0 p.other d.1 p.pair)));
    }

    pub each_found : (q : Equation) → In q m.equations → IsFound all driven places q.name
    each_found q i =
        let named_so = equation_defined q i in
        let long : length driven ≡ length (names_defined (definitions high)) = ap (λ (l : List Numbered). length l) is ∙ both_long (definitions high) in
        record {
          known = subst (λ k. place all q.name < k) (sym at_places.each) (place_within all q.name (high_declared q.name named_so));
          placed = subst (λ k. k < length driven) (sym (at_places.there q.name named_so))
              (subst (λ k. place (names_defined (definitions high)) q.name < k) (sym long) (place_within (names_defined (definitions high)) q.name named_so));
        } where
          both_long : (ds : List Definition) → length (map (numbered_definition all) ds) ≡ length (names_defined ds)
          both_long [] = refl
          both_long (d ∷ ds) = ap suc (both_long ds)

    pub each_over : (x : Numbered) → In x driven → IsOver x.expr (length vars)
    each_over x i =
        let e = In-map_back (numbered_definition all) x (definitions high) (subst (λ (l : List Numbered). In x l) is i) in
        subst (λ (y : Numbered). IsOver y.expr (length vars)) e.2
        (subst (λ k. IsOver (numbered all e.0.formula) k) (sym at_vars.each)
        (over_below all (length all) e.0.formula (In_holds (λ n. place all n < length all) e.0.formula (λ n j. place_within all n (vars_declared n (high_names e.0 e.1 n j))))))
