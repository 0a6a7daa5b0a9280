-- Rings of names, turned so that the least comes first.
use Rattle.std.proofs.Common.{◌≡◌, inl, inr, ℕ, suc, ◌+◌, ◌-◌, ◌<◌, List, [], ◌∷◌, ◌++◌, map, length, sym, ap, ◌∙◌, subst, arith, append_assoc, append-nil}
use Rattle.std.specs.Prelude.{slice_index}
use Rattle.std.proofs.lemmas.List.{map-append}
use Rattle.std.specs.declared.cmp.Ordering.TheVariants.{Greater}
use Rattle.vlsi_base.specs.declared.name.Name.{Name}
use Rattle.vlsi_base.specs.Name.{name_cmp}
use Rattle.machine_core.specs.Order.{In, here, there, AllDifferent}
use Rattle.machine_core.proofs.Values.{In-left, In-right, In-split, In-map}
use Rattle.source_checks.specs.declared.statement.DesignFile.{DesignFile}
use Rattle.source_checks.specs.Elaboration.{Definition, definitions}
use Rattle.source_checks.specs.Formula.{place}
use Rattle.source_checks.specs.Cycles.{Reads, ReadsAlong, IsRing}
use Rattle.vlsi_model.specs.Laid.{names_defined}
use Rattle.vlsi_model.specs.Ordered.{IsNodeRing, name_of_node}
use Rattle.vlsi_model.proofs.Members.{different_left, different_right, different_append, different_map, In-map_back}
use Rattle.vlsi_model.proofs.Sorting.{place_of_In}
use Rattle.vlsi_model.proofs.Orders.{different_nodes, name_of_at, names_count}
use Rattle.vlsi_model.proofs.Numbering.{place_of_at}
use Rattle.vlsi_model.proofs.Assembly.{All-from_In}

-- each name reads the next
abbrev pub Linked : List Definition → List Name → Type 0
Linked defs [] = Unit {0}
Linked defs (a ∷ []) = Unit {0}
Linked defs (a ∷ b ∷ rest) = Reads defs a b × Linked defs (b ∷ rest)

linked_front : (defs : List Definition) (xs ys : List Name) → Linked defs (xs ++ ys) → Linked defs xs
linked_front defs [] ys h = tt
linked_front defs (a ∷ []) ys h = tt
linked_front defs (a ∷ b ∷ xs) ys h = (h.0, linked_front defs (b ∷ xs) ys h.1)

linked_back : (defs : List Definition) (xs ys : List Name) → Linked defs (xs ++ ys) → Linked defs ys
linked_back defs [] ys h = h
linked_back defs (a ∷ []) [] h = tt
linked_back defs (a ∷ []) (y ∷ ys) h = h.1
linked_back defs (a ∷ b ∷ xs) ys h = linked_back defs (b ∷ xs) ys h.1

-- two ways that meet in a name
linked_join : (defs : List Definition) (xs : List Name) (n : Name) (ys : List Name) → Linked defs (xs ++ n ∷ []) → Linked defs (n ∷ ys) → Linked defs (xs ++ n ∷ ys)
linked_join defs [] n ys h g = g
linked_join defs (a ∷ []) n ys h g = (h.0, g)
linked_join defs (a ∷ b ∷ xs) n ys h g = (h.0, linked_join defs (b ∷ xs) n ys h.1 g)

along : (defs : List Definition) (first a : Name) (rest : List Name) → Linked defs (a ∷ (rest ++ first ∷ [])) → ReadsAlong defs first a rest
along defs first a [] h = h.0
along defs first a (b ∷ rest) h = (h.0, along defs first b rest h.1)

-- a ring turned by some names
turned_ring : (defs : List Definition) (x : Name) (xs : List Name) (y : Name) (ys : List Name) → Linked defs ((x ∷ xs) ++ ((y ∷ ys) ++ x ∷ [])) → Linked defs ((y ∷ ys) ++ ((x ∷ xs) ++ y ∷ []))
turned_ring defs x xs y ys h =
    let back = linked_back defs (x ∷ xs) ((y ∷ ys) ++ x ∷ []) h in
    let split : (x ∷ xs) ++ ((y ∷ ys) ++ x ∷ []) ≡ ((x ∷ xs) ++ y ∷ []) ++ (ys ++ x ∷ []) = sym (append_assoc (x ∷ xs) (y ∷ []) (ys ++ x ∷ [])) in
    let front = linked_front defs ((x ∷ xs) ++ y ∷ []) (ys ++ x ∷ []) (subst (Linked defs) split h) in
    linked_join defs (y ∷ ys) x (xs ++ y ∷ []) back front

from_next : (defs : List Definition) (f : ℕ → Name) (nodes : List ℕ) → ((p : ℕ) → p + 1 < length nodes → Reads defs (f (slice_index nodes p)) (f (slice_index nodes (p + 1)))) → Linked defs (map f nodes)
from_next defs f [] h = tt
from_next defs f (a ∷ []) h = tt
from_next defs f (a ∷ b ∷ nodes) h = (
  h 0 (omega arith),
  from_next defs f (b ∷ nodes) (λ p q.
      let next : suc p + 1 ≡ suc (p + 1) = omega arith in
      subst (λ k. Reads defs (f (slice_index (b ∷ nodes) p)) (f (slice_index (a ∷ b ∷ nodes) k))) next (h (suc p) (omega arith))),
)

linked_end : (defs : List Definition) (f : ℕ → Name) (a : ℕ) (rest : List ℕ) (n : Name) → Linked defs (map f (a ∷ rest)) → Reads defs (f (slice_index (a ∷ rest) (length rest))) n → Linked defs (map f (a ∷ rest) ++ n ∷ [])
linked_end defs f a [] n h r = (r, tt)
linked_end defs f a (b ∷ rest) n h r = (h.0, linked_end defs f b rest n h.1 r)

-- the whole ring, back to its first name
pub ring_linked : (design : DesignFile) (a : ℕ) (rest : List ℕ) → IsNodeRing design (a ∷ rest) → Linked (definitions design) (map (name_of_node design) (a ∷ rest) ++ name_of_node design a ∷ [])
ring_linked design a rest h =
    let last : length (a ∷ rest) - 1 ≡ length rest = omega arith in
    linked_end (definitions design) (name_of_node design) a rest (name_of_node design a) (from_next (definitions design) (name_of_node design) (a ∷ rest) h.next)
    (subst (λ k. Reads (definitions design) (name_of_node design (slice_index (a ∷ rest) k)) (name_of_node design a)) last h.first)

swap_different : {A : Type 0} (xs ys : List A) → AllDifferent (xs ++ ys) → AllDifferent (ys ++ xs)
swap_different {A} xs ys h = different_append ys xs (different_right xs ys h) (different_left xs ys h) (λ x i j. apart xs h x j i) where
  apart : (xs : List A) → AllDifferent (xs ++ ys) → (x : A) → In x xs → In x ys → ⊥
  apart (z ∷ zs) h x here j = h.0 (In-right x zs ys j)
  apart (z ∷ zs) h x (there i) j = apart zs h.1 x i j
  apart [] h x i j = elim i [ ]

different_ring : (design : DesignFile) (nodes : List ℕ) → AllDifferent (names_defined (definitions design)) → IsNodeRing design nodes → AllDifferent (map (name_of_node design) nodes)
different_ring design nodes different h =
    let defs = definitions design in
    different_map (name_of_node design) nodes (λ a b i j e.
    let ra = place_of_In nodes a i in
    let rb = place_of_In nodes b j in
    let low_a : a < length defs = subst (λ k. k < length defs) (ra.2 0) (h.inside ra.0 0 ra.1) in
    let low_b : b < length defs = subst (λ k. k < length defs) (rb.2 0) (h.inside rb.0 0 rb.1) in
    let n = name_of_node design a in
    sym (place_of_at (names_defined defs) a n different (omega (arith, names_count defs, low_a))) ∙ ap (place (names_defined defs)) (name_of_at defs a n low_a ∙ e ∙ sym (name_of_at defs b n low_b))
    ∙ place_of_at (names_defined defs) b n different (omega (arith, names_count defs, low_b))) (different_nodes nodes h.once)

linked_round : (design : DesignFile) (xs : List ℕ) (y : ℕ) (ys : List ℕ) → IsNodeRing design (xs ++ y ∷ ys)
    → Linked (definitions design) (name_of_node design y ∷ ((map (name_of_node design) ys ++ map (name_of_node design) xs) ++ name_of_node design y ∷ []))
linked_round design [] y ys h = subst (λ (ns : List Name). Linked (definitions design) (name_of_node design y ∷ (ns ++ name_of_node design y ∷ []))) (sym (append-nil (map (name_of_node design) ys))) (ring_linked design y ys h)
linked_round design (x ∷ xs) y ys h =
    let f = name_of_node design in
    let whole = ring_linked design x (xs ++ y ∷ ys) h in
    let split : map f (x ∷ (xs ++ y ∷ ys)) ++ f x ∷ [] ≡ map f (x ∷ xs) ++ (map f (y ∷ ys) ++ f x ∷ []) = ap (λ (ns : List Name). f x ∷ (ns ++ f x ∷ [])) (map-append f xs (y ∷ ys)) ∙ append_assoc (map f (x ∷ xs)) (map f (y ∷ ys)) (f x ∷ []) in
    let turn = turned_ring (definitions design) (f x) (map f xs) (f y) (map f ys) (subst (Linked (definitions design)) split whole) in
    subst (λ (ns : List Name). Linked (definitions design) (f y ∷ ns)) (sym (append_assoc (map f ys) (map f (x ∷ xs)) (f y ∷ []))) turn

moved : (f : ℕ → Name) (n : Name) (xs : List ℕ) (y : ℕ) (ys : List ℕ) → In n (map f (ys ++ xs)) → In n (map f (xs ++ y ∷ ys))
moved f n xs y ys i =
    let m = In-map_back f n (ys ++ xs) i in
    subst (λ (z : Name). In z (map f (xs ++ y ∷ ys))) m.2 (In-map f m.0 (xs ++ y ∷ ys) (elim (In-split m.0 ys xs m.1) [ inl a ↦ In-right m.0 xs (y ∷ ys) (there a) | inr b ↦ In-left m.0 xs (y ∷ ys) b ]))

-- a ring turned to a name that none of it is before
pub is_ring : (design : DesignFile) (xs : List ℕ) (y : ℕ) (ys : List ℕ) → AllDifferent (names_defined (definitions design)) → IsNodeRing design (xs ++ y ∷ ys) → ((n : Name) → In n (map (name_of_node design) (xs ++ y ∷ ys)) → name_cmp (name_of_node design y) n ≡ Greater → ⊥)
    → IsRing (definitions design) (map (name_of_node design) ((y ∷ ys) ++ xs))
is_ring design xs y ys different h least =
    let f = name_of_node design in
    let all = xs ++ y ∷ ys in
    let names : map f ((y ∷ ys) ++ xs) ≡ map f (y ∷ ys) ++ map f xs = map-append f (y ∷ ys) xs in
    let parts : map f all ≡ map f xs ++ map f (y ∷ ys) = map-append f xs (y ∷ ys) in
    let apart = subst (λ (ns : List Name). AllDifferent ns) parts (different_ring design all different h) in
    let round = subst (λ (ns : List Name). AllDifferent ns) (sym names) (swap_different (map f xs) (map f (y ∷ ys)) apart) in (
      round,
      along (definitions design) (f y) (f y) (map f (ys ++ xs)) (subst (λ (ns : List Name). Linked (definitions design) (f y ∷ (ns ++ f y ∷ []))) (sym (map-append f ys xs)) (linked_round design xs y ys h)),
      All-from_In (λ n. name_cmp (f y) n ≡ Greater → ⊥) (map f (ys ++ xs)) (λ n i. least n (moved f n xs y ys i)),
    )
