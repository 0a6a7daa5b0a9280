-- From orders and rings of nodes to those of definitions.
use Rattle.std.proofs.Common.{◌≡◌, ℕ, zero, suc, ◌+◌, ◌-◌, ◌<◌, List, [], ◌∷◌, ◌++◌, map, length, get_or, refl, sym, ap, ◌∙◌, subst, arith, append_assoc, length-append}
use Rattle.std.specs.Prelude.{slice_index, Contains}
use Rattle.std.specs.List.Sorted.{IsPermutation}
use Rattle.std.proofs.lemmas.List.{length-map, get_or-map}
use Rattle.std.proofs.lemmas.List.Sorted.{IsPermutation-map}
use Rattle.vlsi_base.specs.declared.name.Name.{Name}
use Rattle.bool_expr.specs.Expression.{variables}
use Rattle.bit_order.specs.Order as order
use Rattle.machine_core.specs.Order.{In, AllDifferent}
use Rattle.machine_core.proofs.Values.{In-map}
use Rattle.vlsi_base.specs.Range.{rising}
use Rattle.source_checks.specs.Formula.{formula_names, place, numbered}
use Rattle.source_checks.specs.Elaboration.{Definition}
use Rattle.source_checks.specs.Cycles.{Reads, ReadsAlong, IsRing}
use Rattle.vlsi_model.specs.Laid.{EachReadsEarlier, no_definition, definition_at, names_defined}
use Rattle.vlsi_model.specs.Nodes.{HasNodes, nodes_read}
use Rattle.vlsi_model.proofs.Members.{In-map_back}
use Rattle.vlsi_model.proofs.Bits.{In-rising, rising-In, different_rising}
use Rattle.vlsi_model.proofs.Sorting.{In-at, place_of_In, different_from_pairs, permutation_same}
use Rattle.vlsi_model.proofs.Numbering.{place_within, place_at, place_same, place_of_at, numbered_variables}
use Rattle.vlsi_model.proofs.Naming.{at_places, same_default}
use Rattle.vlsi_model.proofs.NodeLemmas.{read_In, In_read}

-- the definitions over numbers, and a table of their nodes
pub record IsNoded (all : List Name) (defs : List Definition) (table : List ℕ) : Type 0 where
  pub declared : (n : Name) → In n (names_defined defs) → In n all
  pub readable : (d : Definition) → In d defs → (n : Name) → In n (formula_names d.formula) → In n all
  pub has : HasNodes (map (place all) (names_defined defs)) table (length all)

abbrev pub reads_in : List Name → List Definition → List ℕ → List (List ℕ)
reads_in all defs table = map (λ (d : Definition). nodes_read (length defs) table (numbered all d.formula)) defs

pub names_count : (defs : List Definition) → length (names_defined defs) ≡ length defs
names_count defs = length-map defs (λ (d : Definition). d.name)

pub name_of_at : (defs : List Definition) (k : ℕ) (e : Name) → k < length defs → get_or (names_defined defs) k e ≡ (definition_at defs k).name
name_of_at defs k e h = get_or-map (λ (d : Definition). d.name) defs k no_definition e h

-- a definition reads each other one whose name its formula has
pub edge : (all : List Name) (defs : List Definition) (table : List ℕ) → IsNoded all defs table → (k j : ℕ) → k < length defs → j < length defs → In (definition_at defs j).name (formula_names (definition_at defs k).formula)
    → In j (order.reads_of (reads_in all defs table) k)
edge all defs table h k j kd jd i =
    let f = λ (d : Definition). nodes_read (length defs) table (numbered all d.formula) in
    let d = definition_at defs k in
    let n = (definition_at defs j).name in
    let here_is : order.reads_of (reads_in all defs table) k ≡ f d = get_or-map f defs k no_definition [] kd in
    let var : In (place all n) (variables (numbered all d.formula)) = subst (λ (ks : List ℕ). In (place all n) ks) (sym (numbered_variables all d.formula)) (In-map (place all) n (formula_names d.formula) i) in
    let count : length (map (place all) (names_defined defs)) ≡ length defs = length-map (names_defined defs) (place all) ∙ names_count defs in
    let bit : slice_index (map (place all) (names_defined defs)) j ≡ place all n = get_or-map (place all) (names_defined defs) j n 0 (omega (arith, names_count defs, jd)) ∙ ap (place all) (name_of_at defs j n jd) in
    let node : slice_index table (place all n) ≡ j = ap (slice_index table) (sym bit) ∙ h.has.there j (omega (arith, count, jd)) in
    subst (λ (xs : List ℕ). In j xs) (sym here_is) (In_read (length defs) table (numbered all d.formula) j (place all n) var node jd)

-- and only those
pub edge_back : (all : List Name) (defs : List Definition) (table : List ℕ) → IsNoded all defs table → (k j : ℕ) → k < length defs → In j (order.reads_of (reads_in all defs table) k)
    → (j < length defs) × In (definition_at defs j).name (formula_names (definition_at defs k).formula)
edge_back all defs table h k j kd i =
    let f = λ (d : Definition). nodes_read (length defs) table (numbered all d.formula) in
    let d = definition_at defs k in
    let here_is : order.reads_of (reads_in all defs table) k ≡ f d = get_or-map f defs k no_definition [] kd in
    let r = read_In (length defs) table (numbered all d.formula) j (subst (λ (xs : List ℕ). In j xs) here_is i) in
    let m = In-map_back (place all) r.0 (formula_names d.formula) (subst (λ (ks : List ℕ). In r.0 ks) (numbered_variables all d.formula) r.1) in
    let jd : j < length defs = r.3 in
    let count : length (map (place all) (names_defined defs)) ≡ length defs = length-map (names_defined defs) (place all) ∙ names_count defs in
    let at : slice_index table (place all m.0) ≡ j = ap (slice_index table) m.2 ∙ r.2 in
    let bit : slice_index (map (place all) (names_defined defs)) j ≡ place all (definition_at defs j).name = get_or-map (place all) (names_defined defs) j (definition_at defs j).name 0 (omega (arith, names_count defs, jd)) ∙ ap (place all) (name_of_at defs j (definition_at defs j).name jd) in
    let inside = h.readable d (In-at defs k no_definition kd) m.0 m.1 in
    let back = h.has.back (place all m.0) (place_within all m.0 inside) (omega (arith, at, count, jd)) in
    let same : place all m.0 ≡ place all (definition_at defs j).name = sym back ∙ ap (slice_index (map (place all) (names_defined defs))) at ∙ bit in
    let name : m.0 ≡ (definition_at defs j).name = place_same all m.0 (definition_at defs j).name inside same in
    (jd, subst (λ (x : Name). In x (formula_names d.formula)) name m.1)

-- a sorted order

pub different_nodes : (nodes : List ℕ) → order.NoneTwice nodes → AllDifferent nodes
different_nodes nodes h = different_from_pairs nodes (λ i j d p q e. let same : i ≡ j = h i j (omega (arith, p, q)) q (same_default nodes i 0 d (omega (arith, p, q)) ∙ e ∙ same_default nodes j d 0 q) in absurd (omega (arith, same, p)))

pub sorted_permutation : (reads : List (List ℕ)) (nodes : List ℕ) → order.IsSortedOrder reads nodes → IsPermutation (rising 0 (length reads)) nodes
sorted_permutation reads nodes h =
    permutation_same (rising 0 (length reads)) nodes (different_rising 0 (length reads)) (different_nodes nodes h.once)
    (λ k i. let r = h.complete k (omega (arith, (In-rising 0 (length reads) k i).1)) in subst (λ z. In z nodes) r.2 (In-at nodes r.0 0 r.1))
    (λ k i. let r = place_of_In nodes k i in let low : get_or nodes r.0 0 < length reads = h.inside r.0 0 r.1 in rising-In 0 (length reads) k (omega arith) (omega (arith, low, r.2 0)))

pub sorted_definitions : (defs : List Definition) (reads : List (List ℕ)) (nodes : List ℕ) → length reads ≡ length defs → order.IsSortedOrder reads nodes → IsPermutation defs (map (definition_at defs) nodes)
sorted_definitions defs reads nodes count h =
    let p = subst (λ n. IsPermutation (rising 0 n) nodes) count (sorted_permutation reads nodes h) in
    subst (λ (ds : List Definition). IsPermutation ds (map (definition_at defs) nodes)) (at_places defs no_definition) (IsPermutation-map (definition_at defs) (rising 0 (length defs)) nodes p)

get_next : {A : Type 0} (xs ys : List A) (x d : A) → get_or (xs ++ x ∷ ys) (length xs) d ≡ x
get_next [] ys x d = refl
get_next (z ∷ xs) ys x d = get_next xs ys x d

get_front : {A : Type 0} (xs ys : List A) (k : ℕ) (d : A) → k < length xs → get_or (xs ++ ys) k d ≡ get_or xs k d
get_front [] ys k d h = absurd (omega arith)
get_front (x ∷ xs) ys zero d h = refl
get_front (x ∷ xs) ys (suc k) d h = get_front xs ys k d (omega arith)

earlier_from : (all : List Name) (defs : List Definition) (table : List ℕ) → IsNoded all defs table → (nodes done rest : List ℕ) → nodes ≡ done ++ rest → order.IsSortedOrder (reads_in all defs table) nodes
    → EachReadsEarlier (names_defined defs) (names_defined (map (definition_at defs) done)) (map (definition_at defs) rest)
earlier_from all defs table h nodes done [] is s = tt
earlier_from all defs table h nodes done (k ∷ rest) is s =
    let reads = reads_in all defs table in
    let count : length reads ≡ length defs = length-map defs (λ (d : Definition). nodes_read (length defs) table (numbered all d.formula)) in
    let p = length done in
    let long : length nodes ≡ length done + length (k ∷ rest) = ap (λ (xs : List ℕ). length xs) is ∙ length-append done (k ∷ rest) in
    let within : p < length nodes = omega (arith, long) in
    let at : slice_index nodes p ≡ k = ap (λ (xs : List ℕ). slice_index xs p) is ∙ get_next done rest k 0 in
    let kd : k < length defs = omega (arith, s.inside p 0 within, at, count) in
    let first = λ (n : Name) (i : In n (formula_names (definition_at defs k).formula)) (j : In n (names_defined defs)).
    let m = place_of_In (names_defined defs) n j in
    let jd : m.0 < length defs = omega (arith, m.1, names_count defs) in
    let name : (definition_at defs m.0).name ≡ n = sym (name_of_at defs m.0 n jd) ∙ m.2 n in
    let e = edge all defs table h k m.0 kd jd (subst (λ (x : Name). In x (formula_names (definition_at defs k).formula)) (sym name) i) in
    let e2 = subst (λ q. In m.0 (order.reads_of reads q)) (sym at) e in
    let q = place_of_In (order.reads_of reads (slice_index nodes p)) m.0 e2 in
    let before = s.behind p within q.0 0 q.1 in
    let node : get_or done before.0 0 ≡ m.0 = sym (get_front done (k ∷ rest) before.0 0 before.1) ∙ ap (λ (xs : List ℕ). slice_index xs before.0) (sym is) ∙ before.2 ∙ q.2 0 in
    let d = definition_at defs m.0 in
    let there_is : In d (map (definition_at defs) done) = In-map (definition_at defs) m.0 done (subst (λ z. In z done) node (In-at done before.0 0 before.1)) in
    subst (λ (x : Name). In x (names_defined (map (definition_at defs) done))) name (In-map (λ (c : Definition). c.name) d (map (definition_at defs) done) there_is) in
    let more : names_defined (map (definition_at defs) (done ++ k ∷ [])) ≡ names_defined (map (definition_at defs) done) ++ (definition_at defs k).name ∷ [] = snoc done k in
    (first, subst (λ (ns : List Name). EachReadsEarlier (names_defined defs) ns (map (definition_at defs) rest)) more (earlier_from all defs table h nodes (done ++ k ∷ []) rest (is ∙ sym (append_assoc done (k ∷ []) rest)) s)) where
      snoc : (done : List ℕ) (k : ℕ) → names_defined (map (definition_at defs) (done ++ k ∷ [])) ≡ names_defined (map (definition_at defs) done) ++ (definition_at defs k).name ∷ []
      snoc [] k = refl
      snoc (j ∷ done) k = ap (λ (ns : List Name). (definition_at defs j).name ∷ ns) (snoc done k)

pub sorted_earlier : (all : List Name) (defs : List Definition) (table nodes : List ℕ) → IsNoded all defs table → order.IsSortedOrder (reads_in all defs table) nodes → EachReadsEarlier (names_defined defs) [] (map (definition_at defs) nodes)
sorted_earlier all defs table nodes h s = earlier_from all defs table h nodes [] nodes refl s

-- where there is an order, there is no ring of definitions

abbrev node : List Definition → Name → ℕ
node defs n = place (names_defined defs) n

node_below : (defs : List Definition) (n : Name) → In n (names_defined defs) → node defs n < length defs
node_below defs n i = omega (arith, place_within (names_defined defs) n i, names_count defs)

name_at_node : (defs : List Definition) (n : Name) → In n (names_defined defs) → (definition_at defs (node defs n)).name ≡ n
name_at_node defs n i = sym (name_of_at defs (node defs n) n (node_below defs n i)) ∙ place_at (names_defined defs) n n (place_within (names_defined defs) n i)

-- where names of definitions are different, a definition of a name is that at its node
one_definition : (defs : List Definition) (d : Definition) → AllDifferent (names_defined defs) → In d defs → definition_at defs (node defs d.name) ≡ d
one_definition defs d different i =
    let r = place_of_In defs d i in
    let here_is : get_or (names_defined defs) r.0 d.name ≡ d.name = name_of_at defs r.0 d.name r.1 ∙ ap (λ (x : Definition). x.name) (r.2 no_definition) in
    let at : node defs d.name ≡ r.0 = ap (place (names_defined defs)) (sym here_is) ∙ place_of_at (names_defined defs) r.0 d.name different (omega (arith, r.1, names_count defs)) in
    ap (definition_at defs) at ∙ r.2 no_definition

reads_name : (defs : List Definition) (a b : Name) → Reads defs a b → In a (names_defined defs)
reads_name defs a b r = subst (λ (x : Name). In x (names_defined defs)) r.2 (In-map (λ (d : Definition). d.name) r.0 defs r.1)

reads_edge : (all : List Name) (defs : List Definition) (table : List ℕ) → IsNoded all defs table → AllDifferent (names_defined defs) → (a b : Name) → Reads defs a b → In b (names_defined defs)
    → Contains (order.reads_of (reads_in all defs table) (node defs a)) (node defs b)
reads_edge all defs table h different a b r i =
    let same : definition_at defs (node defs a) ≡ r.0 = ap (λ (x : Name). definition_at defs (node defs x)) (sym r.2) ∙ one_definition defs r.0 different r.1 in
    let reads : In (definition_at defs (node defs b)).name (formula_names (definition_at defs (node defs a)).formula) =
    subst (λ (d : Definition). In (definition_at defs (node defs b)).name (formula_names d.formula)) (sym same) (subst (λ (x : Name). In x (formula_names r.0.formula)) (sym (name_at_node defs b i)) r.3) in
    let e = edge all defs table h (node defs a) (node defs b) (node_below defs a (reads_name defs a b r)) (node_below defs b i) reads in
    let q = place_of_In (order.reads_of (reads_in all defs table) (node defs a)) (node defs b) e in
    (q.0, q.1, q.2 (node defs b))

-- the names of a ring are those of definitions
along_first : (defs : List Definition) (first a : Name) (rest : List Name) → ReadsAlong defs first a rest → In a (names_defined defs)
along_first defs first a [] r = reads_name defs a first r
along_first defs first a (b ∷ rest) r = reads_name defs a b r.0

along_next : (all : List Name) (defs : List Definition) (table : List ℕ) → IsNoded all defs table → AllDifferent (names_defined defs) → (first a : Name) (rest : List Name) → In first (names_defined defs) → ReadsAlong defs first a rest
    → (p : ℕ) → p + 1 < length (a ∷ rest) → order.Reads (reads_in all defs table) (slice_index (map (node defs) (a ∷ rest)) p) (slice_index (map (node defs) (a ∷ rest)) (p + 1))
along_next all defs table h different first a [] i r p q = absurd (omega arith)
along_next all defs table h different first a (b ∷ rest) i r zero q = reads_edge all defs table h different a b r.0 (along_first defs first b rest r.1)
along_next all defs table h different first a (b ∷ rest) i r (suc p) q =
    let next : suc (p + 1) ≡ suc p + 1 = omega arith in
    subst (λ k. order.Reads (reads_in all defs table) (slice_index (map (node defs) (b ∷ rest)) p) (slice_index (map (node defs) (a ∷ b ∷ rest)) k)) next
    (along_next all defs table h different first b rest i r.1 p (omega arith))

along_last : (all : List Name) (defs : List Definition) (table : List ℕ) → IsNoded all defs table → AllDifferent (names_defined defs) → (first a : Name) (rest : List Name) → In first (names_defined defs) → ReadsAlong defs first a rest
    → order.Reads (reads_in all defs table) (slice_index (map (node defs) (a ∷ rest)) (length rest)) (node defs first)
along_last all defs table h different first a [] i r = reads_edge all defs table h different a first r i
along_last all defs table h different first a (b ∷ rest) i r = along_last all defs table h different first b rest i r.1

pub sorted_no_ring : (all : List Name) (defs : List Definition) (table nodes : List ℕ) → IsNoded all defs table → AllDifferent (names_defined defs) → order.SortedLeavesNoRing → order.IsSortedOrder (reads_in all defs table) nodes
    → (ring : List Name) → IsRing defs ring → ⊥
sorted_no_ring all defs table nodes h different law s [] r = r
sorted_no_ring all defs table nodes h different law s (a ∷ rest) r =
    let i = along_first defs a a rest r.1 in
    let ring = map (node defs) (a ∷ rest) in
    let count : length ring ≡ length (a ∷ rest) = length-map (a ∷ rest) (node defs) in
    let last : length ring - 1 ≡ length rest = omega (arith, count) in
    law (reads_in all defs table) nodes ring s (record {
      some = omega (arith, count);
      next = λ p q. along_next all defs table h different a a rest i r.1 p (omega (arith, count, q));
      first = subst (λ k. order.Reads (reads_in all defs table) (slice_index ring k) (node defs a)) (sym last) (along_last all defs table h different a a rest i r.1);
    })
