-- The ring of a source: its names from the least on, and the line of the first one's assignment.
use Rattle.std.proofs.Common.{◌≡◌, ◌⊎◌, inl, inr, ℕ, zero, suc, ◌+◌, ◌<◌, ◌≤◌, Bool, true, false, List, [], ◌∷◌, ◌++◌, map, length, get_or, take, drop, None, refl, sym, ap, ◌∙◌, subst, arith}
use Rattle.std.specs.Prelude.{slice_index, nat_eq, ◌||◌}
use Rattle.std.specs.List.{All, list_any}
use Rattle.std.specs.Ordering.{is_lt, ordering_reverse}
use Rattle.std.specs.declared.cmp.Ordering.{Ordering}
use Rattle.std.specs.declared.cmp.Ordering.TheVariants.{Less, Equal, Greater}
use Rattle.std.proofs.lemmas.Bool.{cases_lt}
use Rattle.std.proofs.lemmas.Bool.Decides.{nat_tests}
use Rattle.std.proofs.lemmas.List.{map-append, length-map, get_or-map}
use Rattle.vlsi_base.specs.declared.name.Name.{Name}
use Rattle.vlsi_base.specs.Name.{name_cmp}
use Rattle.machine_core.specs.Order.{In, here, there}
use Rattle.machine_core.proofs.Values.{In-left, In-right, In-map}
use Rattle.source_checks.specs.declared.statement.Assignment.{Assignment}
use Rattle.source_checks.specs.declared.statement.Statement.{Statement}
use Rattle.source_checks.specs.declared.statement.Statement.TheVariants as statement
use Rattle.source_checks.specs.declared.statement.DesignFile.{DesignFile}
use Rattle.source_checks.specs.declared.symbol_table.Symbol.{Symbol}
use Rattle.source_checks.specs.Symbols.{symbols, all_names}
use Rattle.source_checks.specs.Formula.{Formula, place, choice_bits}
use Rattle.source_checks.specs.Places.{in_statements}
use Rattle.source_checks.specs.Drivers.{driver_at, drivers, statement_drivers, target_names}
use Rattle.source_checks.specs.Elaboration.{Definition, definitions, defined, statement_definitions}
use Rattle.source_checks.specs.Cycles.{Reads, IsRing}
use Rattle.source_checks.specs.Checks.{DrivenOn}
use Rattle.source_bits.specs.declared.driven.DrivenBit.{DrivenBit}
use Rattle.vlsi_model.specs.declared.source.Source.{Source}
use Rattle.vlsi_model.specs.Sources.{IsSourceOf}
use Rattle.vlsi_model.specs.Numbered.{name_at}
use Rattle.vlsi_model.specs.Laid.{names_defined}
use Rattle.vlsi_model.specs.Ordered.{IsNodeRing, IsDrivenIn, name_of_node}
use Rattle.vlsi_model.proofs.Members.{In-cases, In-map_back}
use Rattle.vlsi_model.proofs.FineSources.{Facts, In-statements}
use Rattle.vlsi_base.proofs.NameOrder.{name_total}
use Rattle.vlsi_model.proofs.Sorting.{In-at, place_of_In}
use Rattle.vlsi_model.proofs.Numbering.{place_same}
use Rattle.vlsi_model.proofs.Naming.{same_default}
use Rattle.vlsi_model.proofs.Orders.{name_of_at, names_count}
use Rattle.vlsi_model.proofs.Building.{map_same, name_back, defined_declared}
use Rattle.vlsi_model.proofs.SourceBits.{driven_bits_are}
use Rattle.vlsi_model.proofs.Rings.{is_ring}

-- the least of the first names

-- none of the first names is before the one at a place
pub record LeastSoFar (names : List Name) (least k : ℕ) : Type 0 where
  pub within : least < length names
  pub none : (j : ℕ) → j < k → j < length names → name_cmp (name_at names least) (name_at names j) ≡ Greater → ⊥

above : (a b : Name) → name_cmp a b ≡ Greater → name_cmp b a ≡ Less
above a b e = name_total.antisymm b a ∙ ap ordering_reverse e

is_less : (o : Ordering) → is_lt o ≡ true → o ≡ Less
is_less Less e = refl
is_less Equal e = absurd cc
is_less Greater e = absurd cc

not_above_itself : (a : Name) → name_cmp a a ≡ Greater → ⊥
not_above_itself a e = let f : Greater ≡ Less = sym e ∙ above a a e in absurd cc

before_or_last : (j k : ℕ) → j < k + 1 → (j < k) ⊎ (j ≡ k)
before_or_last j zero h = inr (omega arith)
before_or_last zero (suc k) h = inl (omega arith)
before_or_last (suc j) (suc k) h = elim (before_or_last j k (omega arith)) [ inl a ↦ inl (omega (arith, a)) | inr e ↦ inr (ap suc e) ]

pub least_first : (names : List Name) → 0 < length names → LeastSoFar names 0 1
least_first names h = record {
  within = h;
  none = λ j low inside e. elim (before_or_last j 0 low) [ inl a ↦ absurd (omega (arith, a)) | inr same ↦ not_above_itself (name_at names 0) (subst (λ i. name_cmp (name_at names 0) (name_at names i) ≡ Greater) same e) ];
}

pub compared : (names : List Name) (k least : ℕ) (a b : Name) (o : Ordering) → k < length names → least < length names → a ≡ get_or names k a → b ≡ get_or names least b → o ≡ name_cmp a b
    → is_lt o ≡ is_lt (name_cmp (name_at names k) (name_at names least))
compared names k least a b o low within a_is b_is e =
    let empty : Name = record { text = []; bit = None } in
    let x : a ≡ name_at names k = a_is ∙ same_default names k a empty low in
    let y : b ≡ name_at names least = b_is ∙ same_default names least b empty within in
    ap is_lt e ∙ ap (λ (n : Name). is_lt (name_cmp n b)) x ∙ ap (λ (n : Name). is_lt (name_cmp (name_at names k) n)) y

pub least_of_all : (names : List Name) (least k : ℕ) → LeastSoFar names least k → length names < k + 1 → All (λ n. name_cmp (name_at names least) n ≡ Greater → ⊥) names
least_of_all names least k h all i d within e =
    h.none i (omega (arith, within, all)) within (subst (λ (n : Name). name_cmp (name_at names least) n ≡ Greater) (same_default names i d (record { text = []; bit = None }) within) e)

pub least_then : (names : List Name) (least k : ℕ) → LeastSoFar names least k → k < length names → is_lt (name_cmp (name_at names k) (name_at names least)) ≡ true → LeastSoFar names k (k + 1)
least_then names least k h within t = record {
  within = within;
  none = λ j low inside e. elim (before_or_last j k low) [
    | inl a ↦
        let down = name_total.trans (name_at names j) (name_at names k) (name_at names least) (above (name_at names k) (name_at names j) e) (is_less (name_cmp (name_at names k) (name_at names least)) t) in
        h.none j a inside (name_total.antisymm (name_at names least) (name_at names j) ∙ ap ordering_reverse down)
    | inr same ↦ not_above_itself (name_at names k) (subst (λ i. name_cmp (name_at names k) (name_at names i) ≡ Greater) same e)
  ];
}

pub least_else : (names : List Name) (least k : ℕ) → LeastSoFar names least k → is_lt (name_cmp (name_at names k) (name_at names least)) ≡ false → LeastSoFar names least (k + 1)
least_else names least k h t = record {
  within = h.within;
  none = λ j low inside e. elim (before_or_last j k low) [
    | inl a ↦ h.none j a inside e
    | inr same ↦
        let down = above (name_at names least) (name_at names k) (subst (λ i. name_cmp (name_at names least) (name_at names i) ≡ Greater) same e) in
        let f : true ≡ false = sym (ap is_lt down) ∙ t in absurd cc
  ];
}

-- names of nodes

pub ring_names_are : (design : DesignFile) (s : Source) (bits nodes : List ℕ) → Facts design → IsSourceOf design s → bits ≡ map (λ (d : DrivenBit). d.bit) s.driven.items → IsNodeRing design nodes
    → map (λ k. name_at (all_names s.numbers) (slice_index bits k)) nodes ≡ map (name_of_node design) nodes
ring_names_are design s bits nodes f h is ring =
    let all = all_names (symbols design) in
    let defs = definitions design in
    let bits_are : bits ≡ map (place all) (names_defined defs) = is ∙ driven_bits_are design s h in
    ap (λ (known : List Symbol). map (λ k. name_at (all_names known) (slice_index bits k)) nodes) h.numbers
    ∙ map_same (λ k. name_at all (slice_index bits k)) (name_of_node design) nodes (λ k i.
    let r = place_of_In nodes k i in
    let low : k < length defs = subst (λ n. n < length defs) (r.2 0) (ring.inside r.0 0 r.1) in
    let inside : k < length (names_defined defs) = omega (arith, names_count defs, low) in
    let n = get_or (names_defined defs) k (record { text = []; bit = None }) in
    ap (λ (bs : List ℕ). name_at all (slice_index bs k)) bits_are ∙ ap (name_at all) (get_or-map (place all) (names_defined defs) k (record { text = []; bit = None }) 0 inside)
    ∙ name_back all n (defined_declared design f n (In-at (names_defined defs) k (record { text = []; bit = None }) inside)) ∙ name_of_at defs k (record { text = []; bit = None }) low)

-- a turned ring

record Split (nodes : List ℕ) (m : ℕ) : Type 0 where
  front : List ℕ
  node : ℕ
  back : List ℕ
  is : nodes ≡ front ++ node ∷ back
  count : m ≡ length front

split_at : (nodes : List ℕ) (m : ℕ) → m < length nodes → Split nodes m
split_at [] m h = absurd (omega arith)
split_at (x ∷ xs) zero h = record { front = []; node = x; back = xs; is = refl; count = refl }
split_at (x ∷ xs) (suc m) h =
    let r = split_at xs m (omega arith) in
    record { front = x ∷ r.front; node = r.node; back = r.back; is = ap (λ (ys : List ℕ). x ∷ ys) r.is; count = ap suc r.count }

drop_front : (f : ℕ → Name) (xs ys : List ℕ) → drop (length xs) (map f (xs ++ ys)) ≡ map f ys
drop_front f [] ys = refl
drop_front f (x ∷ xs) ys = drop_front f xs ys

take_front : (f : ℕ → Name) (xs ys : List ℕ) → take (length xs) (map f (xs ++ ys)) ≡ map f xs
take_front f [] ys = refl
take_front f (x ∷ xs) ys = ap (λ (ns : List Name). f x ∷ ns) (take_front f xs ys)

at_front : (f : ℕ → Name) (xs : List ℕ) (y : ℕ) (ys : List ℕ) (d : Name) → get_or (map f (xs ++ y ∷ ys)) (length xs) d ≡ f y
at_front f [] y ys d = refl
at_front f (x ∷ xs) y ys d = at_front f xs y ys d

turned_at : (design : DesignFile) (xs : List ℕ) (y : ℕ) (ys : List ℕ) → Facts design → IsNodeRing design (xs ++ y ∷ ys)
    → All (λ n. name_cmp (name_at (map (name_of_node design) (xs ++ y ∷ ys)) (length xs)) n ≡ Greater → ⊥) (map (name_of_node design) (xs ++ y ∷ ys))
    → IsRing (definitions design) (drop (length xs) (map (name_of_node design) (xs ++ y ∷ ys)) ++ take (length xs) (map (name_of_node design) (xs ++ y ∷ ys)))
turned_at design xs y ys f ring least =
    let g = name_of_node design in
    let nodes = xs ++ y ∷ ys in
    let names : map g ((y ∷ ys) ++ xs) ≡ drop (length xs) (map g nodes) ++ take (length xs) (map g nodes) =
    map-append g (y ∷ ys) xs ∙ ap (λ (ns : List Name). ns ++ map g xs) (sym (drop_front g xs (y ∷ ys))) ∙ ap (λ (ns : List Name). drop (length xs) (map g nodes) ++ ns) (sym (take_front g xs (y ∷ ys))) in
    subst (λ (ns : List Name). IsRing (definitions design) ns) names (is_ring design xs y ys f.defined_once ring (λ n i e.
    let r = place_of_In (map g nodes) n i in
    least r.0 n r.1 (ap (λ (m : Name). name_cmp m (get_or (map g nodes) r.0 n)) (at_front g xs y ys (record { text = []; bit = None })) ∙ ap (name_cmp (g y)) (r.2 n) ∙ e)))

abbrev Turned : DesignFile → List ℕ → ℕ → Type 0
Turned design nodes m =
    IsNodeRing design nodes → All (λ n. name_cmp (name_at (map (name_of_node design) nodes) m) n ≡ Greater → ⊥) (map (name_of_node design) nodes)
    → IsRing (definitions design) (drop m (map (name_of_node design) nodes) ++ take m (map (name_of_node design) nodes))

pub turned_to_least : (design : DesignFile) (nodes : List ℕ) (names : List Name) (m : ℕ) → Facts design → IsNodeRing design nodes → names ≡ map (name_of_node design) nodes → m < length names
    → All (λ n. name_cmp (name_at names m) n ≡ Greater → ⊥) names → IsRing (definitions design) (drop m names ++ take m names)
turned_to_least design nodes names m f ring is within least =
    let g = name_of_node design in
    let count : length names ≡ length nodes = ap (λ (ns : List Name). length ns) is ∙ length-map nodes g in
    let r = split_at nodes m (omega (arith, within, count)) in
    let turned : Turned design nodes m = subst (λ k. Turned design nodes k) (sym r.count) (subst (λ (ks : List ℕ). Turned design ks (length r.front)) (sym r.is) (turned_at design r.front r.node r.back f)) in
    subst (λ (ns : List Name). IsRing (definitions design) (drop m ns ++ take m ns)) (sym is) (turned ring (subst (λ (ns : List Name). All (λ n. name_cmp (name_at ns m) n ≡ Greater → ⊥) ns) is least))

-- the first name of a ring

reads_defined : (defs : List Definition) (a b : Name) → Reads defs a b → In a (names_defined defs)
reads_defined defs a b r = subst (λ (n : Name). In n (names_defined defs)) r.2 (In-map (λ (d : Definition). d.name) r.0 defs r.1)

pub first_defined : (defs : List Definition) (names : List Name) (d : Name) → IsRing defs names → In (get_or names 0 d) (names_defined defs)
first_defined defs [] d h = absurd h
first_defined defs (a ∷ []) d h = reads_defined defs a a h.1
first_defined defs (a ∷ b ∷ rest) d h = reads_defined defs a b h.1.0

-- what drives it

pub any_In : (x : ℕ) (xs : List ℕ) → list_any (λ y. nat_eq y x) xs ≡ true → In x xs
any_In x [] e = absurd cc
any_In x (y ∷ xs) e = by (nat_eq y x) refl e (any_In x xs) where
  by : (b : Bool) → nat_eq y x ≡ b → (b || list_any (λ z. nat_eq z x) xs) ≡ true → (list_any (λ z. nat_eq z x) xs ≡ true → In x xs) → In x (y ∷ xs)
  by true is e rest = let same : y ≡ x = grind (arith, nat_tests) in subst (λ z. In z (y ∷ xs)) same here
  by false is e rest = there (rest e)

of_statement : {A : Type 0} (look : Statement → List A) (ss : List Statement) (st : Statement) (x : A) → In st ss → In x (look st) → In x (in_statements look ss)
of_statement look (s ∷ ss) st x here i = In-left x (look st) (in_statements look ss) i
of_statement look (s ∷ ss) st x (there j) i = In-right x (look s) (in_statements look ss) (of_statement look ss st x j i)
of_statement look [] st x j i = elim j [ ]

pub driven_on : (design : DesignFile) (st : Statement) (name : Name) (number line : ℕ) → Facts design → In st design.statements → In name (all_names (symbols design)) → number ≡ place (all_names (symbols design)) name
    → IsDrivenIn (symbols design) st number line → DrivenOn (drivers design) name line
driven_on design st name number line f i declared is h =
    let known = symbols design in
    let all = all_names known in
    let target = h.assignment.target in
    let among = subst (λ (s : Statement). In s design.statements) h.is i in
    let m = In-map_back (place all) number (target_names known target) h.among in
    let same : name ≡ m.0 = place_same all name m.0 declared (sym is ∙ sym m.2) in
    let one : In (driver_at known target) (statement_drivers known (statement.Assign h.assignment)) = here in (
      driver_at known target,
      of_statement (statement_drivers known) design.statements (statement.Assign h.assignment) (driver_at known target) among one,
      subst (λ (ns : List Name). In name ns) (sym (f.counted h.assignment among)) (subst (λ (n : Name). In n (target_names known target)) (sym same) m.1),
      h.on,
    )

-- ---- some assignment drives what is defined

pub In_any : (x : ℕ) (xs : List ℕ) → In x xs → list_any (λ y. nat_eq y x) xs ≡ true
In_any x (y ∷ xs) i = by (nat_eq y x) refl (In-cases x y xs i) (In_any x xs) where
  by : (b : Bool) → nat_eq y x ≡ b → (y ≡ x) ⊎ In x xs → (In x xs → list_any (λ z. nat_eq z x) xs ≡ true) → (b || list_any (λ z. nat_eq z x) xs) ≡ true
  by true is h rest = refl
  by false is (inl same) rest = let t : nat_eq y x ≡ true = grind (arith, nat_tests) in let clash : true ≡ false = sym t ∙ is in absurd (cc clash)
  by false is (inr i) rest = rest i
In_any x [] i = elim i [ ]

defined_name : (names : List Name) (formulas : List Formula) (d : Definition) → In d (defined names formulas) → In d.name names
defined_name [] formulas d i = elim i [ ]
defined_name (n ∷ names) [] d i = elim i [ ]
defined_name (n ∷ names) (f ∷ formulas) d i = elim (In-cases d (record { name = n; formula = f }) (defined names formulas) i) [
  | inl same ↦ subst (λ (e : Definition). In e.name (n ∷ names)) same here
  | inr j ↦ there (defined_name names formulas d j)
]

-- an assignment outside of blocks with this name among those of its target
record Assigns (design : DesignFile) (name : Name) : Type 0 where
  assignment : Assignment
  listed : In (statement.Assign assignment) design.statements
  among : In name (target_names (symbols design) assignment.target)

assigned_by : (design : DesignFile) (name : Name) (st : Statement) (d : Definition) → d.name ≡ name → In st design.statements → In d (statement_definitions (symbols design) st) → Assigns design name
assigned_by design name (statement.Assert e) d is i j = elim j [ ]
assigned_by design name (statement.Assign a) d is i j = record {
  assignment = a;
  listed = i;
  among = subst (λ (n : Name). In n (target_names (symbols design) a.target)) is (defined_name (target_names (symbols design) a.target) (choice_bits (symbols design) a.choice) d j);
}
assigned_by design name (statement.Block b) d is i j = elim j [ ]

assigned : (design : DesignFile) (name : Name) → In name (names_defined (definitions design)) → Assigns design name
assigned design name i =
    let m = In-map_back (λ (d : Definition). d.name) name (definitions design) i in
    let r = In-statements (statement_definitions (symbols design)) design.statements m.0 m.1 in
    assigned_by design name r.0 m.0 m.2 r.1 r.2

-- the first statements have no such assignment
abbrev pub NoneDrives : List Symbol → List Statement → ℕ → ℕ → Type 0
NoneDrives known ss number k = (j : ℕ) (d : Statement) → j < k → (line : ℕ) → IsDrivenIn known (get_or ss j d) number line → ⊥

pub none_first : (known : List Symbol) (ss : List Statement) (number : ℕ) → NoneDrives known ss number 0
none_first known ss number j d h line t = absurd (omega (arith, h))

pub none_more : (known : List Symbol) (ss : List Statement) (number k : ℕ) (st : Statement) → k < length ss → st ≡ get_or ss k st → ((line : ℕ) → IsDrivenIn known st number line → ⊥) → NoneDrives known ss number k → NoneDrives known ss number (k + 1)
none_more known ss number k st within at none before j d h line t = by (cases_lt j k) where
  by : (j < k) ⊎ (k ≤ j) → ⊥
  by (inl less) = before j d less line t
  by (inr same) =
      let e : j ≡ k = omega (arith, h, same) in
      let here_is : get_or ss j d ≡ st = ap (λ i. get_or ss i d) e ∙ same_default ss k d st within ∙ sym at in
      none line (subst (λ (s : Statement). IsDrivenIn known s number line) here_is t)

pub some_drives : (design : DesignFile) (name : Name) (number k : ℕ) → In name (names_defined (definitions design)) → number ≡ place (all_names (symbols design)) name
    → length design.statements ≤ k → NoneDrives (symbols design) design.statements number k → ⊥
some_drives design name number k i is whole none =
    let a = assigned design name i in
    let st : Statement = statement.Assign a.assignment in
    let r = place_of_In design.statements st a.listed in
    let number_among : In number (map (place (all_names (symbols design))) (target_names (symbols design) a.assignment.target)) =
    subst (λ (n : ℕ). In n (map (place (all_names (symbols design))) (target_names (symbols design) a.assignment.target))) (sym is) (In-map (place (all_names (symbols design))) name (target_names (symbols design) a.assignment.target) a.among) in
    let found : IsDrivenIn (symbols design) st number a.assignment.target.line = record { assignment = a.assignment; is = refl; among = number_among; on = refl } in
    none r.0 st (let l = r.1 in omega (arith, l, whole)) a.assignment.target.line (subst (λ (s : Statement). IsDrivenIn (symbols design) s number a.assignment.target.line) (sym (r.2 st)) found)
