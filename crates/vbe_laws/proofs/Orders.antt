-- Definitions stand in an order in which each reads only what is known before it, or some of them read each other in a loop.
use Rattle.std.proofs.Common.{◌≡◌, ◌⊎◌, inl, inr, ℕ, zero, suc, ◌+◌, List, [], ◌∷◌, ◌++◌, length, refl, sym, ap, ◌∙◌, subst, arith}
use Rattle.std.specs.List.Sorted.{IsPermutation}
use Rattle.std.proofs.lemmas.List.Sorted.{IsPermutation-refl, IsPermutation-sym, IsPermutation-cons, IsPermutation-trans, IsPermutation-middle, IsPermutation-map}
use Rattle.vlsi_base.specs.declared.name.Name.{Name}
use Rattle.vlsi_base.specs.Member.{In, here, there, AllDifferent}
use Rattle.machine_core.proofs.Values.{In-split, In-left, In-right, In-map}
use Rattle.source_checks.specs.Formula.{formula_names}
use Rattle.source_checks.specs.Cycles.{Reads, IsRing}
use Rattle.source_checks.specs.Elaboration.{Definition}
use Rattle.vlsi_model.specs.Laid.{EachReadsEarlier, names_defined}
use Rattle.vlsi_model.proofs.Assembly.{In-permutation}
use Rattle.vlsi_model.proofs.Members.{In-cases, In-map_back}
use Rattle.vbe_laws.proofs.Counting.{count_around, there_or_not}
use Rattle.vbe_laws.proofs.Loops.{Loop, EachReadsOne, loop_among, ring_reads}

pub record Ordered (driven earlier : List Name) (rest : List Definition) : Type 0 where
  pub order : List Definition
  pub moved : IsPermutation rest order
  pub in_turn : EachReadsEarlier driven earlier order

-- ---- the next definition

-- of what is driven, the definition reads only what is known
abbrev IsReady : List Name → List Name → Definition → Type 0
IsReady driven earlier d = (n : Name) → In n (formula_names d.formula) → In n driven → In n earlier

-- it reads something that isn't known yet
abbrev Waits : List Name → List Name → Definition → Type 0
Waits driven earlier d = (n : Name) × In n (formula_names d.formula) × In n driven × (In n earlier → ⊥)

known_or_not : (driven earlier names : List Name) → ((n : Name) → In n names → In n driven → In n earlier) ⊎ ((n : Name) × In n names × In n driven × (In n earlier → ⊥))
known_or_not driven earlier [] = inl (λ n i. elim i [ ])
known_or_not driven earlier (a ∷ names) = by (there_or_not a driven) (there_or_not a earlier) (known_or_not driven earlier names) where
  by : In a driven ⊎ (In a driven → ⊥) → In a earlier ⊎ (In a earlier → ⊥)
      → ((n : Name) → In n names → In n driven → In n earlier) ⊎ ((n : Name) × In n names × In n driven × (In n earlier → ⊥))
      → ((n : Name) → In n (a ∷ names) → In n driven → In n earlier) ⊎ ((n : Name) × In n (a ∷ names) × In n driven × (In n earlier → ⊥))
  by d e (inr w) = inr (w.0, there w.1, w.2, w.3)
  by (inl d) (inr e) (inl h) = inr (a, here, d, e)
  by (inl d) (inl e) (inl h) = inl (λ n i j. elim (In-cases n a names i) [ inl same ↦ subst (λ z. In z earlier) same e | inr k ↦ h n k j ])
  by (inr d) e (inl h) = inl (λ n i j. elim (In-cases n a names i) [ inl same ↦ absurd (d (subst (λ z. In z driven) (sym same) j)) | inr k ↦ h n k j ])

record Next (driven earlier : List Name) (rest : List Definition) : Type 0 where
  front : List Definition
  definition : Definition
  back : List Definition
  is : rest ≡ front ++ definition ∷ back
  ready : IsReady driven earlier definition

next_or_none : (driven earlier : List Name) (rest : List Definition) → Next driven earlier rest ⊎ ((d : Definition) → In d rest → Waits driven earlier d)
next_or_none driven earlier [] = inr (λ d i. elim i [ ])
next_or_none driven earlier (a ∷ rest) = by (known_or_not driven earlier (formula_names a.formula)) (next_or_none driven earlier rest) where
  by : IsReady driven earlier a ⊎ Waits driven earlier a → Next driven earlier rest ⊎ ((d : Definition) → In d rest → Waits driven earlier d)
      → Next driven earlier (a ∷ rest) ⊎ ((d : Definition) → In d (a ∷ rest) → Waits driven earlier d)
  by (inl h) later = inl (record { front = []; definition = a; back = rest; is = refl; ready = h })
  by (inr w) (inl r) = inl (record { front = a ∷ r.front; definition = r.definition; back = r.back; is = ap (λ (ds : List Definition). a ∷ ds) r.is; ready = r.ready })
  by (inr w) (inr all) = inr (λ d i. elim (In-cases d a rest i) [ inl same ↦ subst (Waits driven earlier) same w | inr j ↦ all d j ])

-- ---- one after the other

-- each name that is driven is known, or one of those to come
abbrev Covered : List Name → List Name → List Definition → Type 0
Covered driven earlier rest = (n : Name) → In n driven → In n earlier ⊎ In n (names_defined rest)

covered_behind : (driven earlier : List Name) (front : List Definition) (d : Definition) (back : List Definition) → Covered driven earlier (front ++ d ∷ back) → Covered driven (earlier ++ d.name ∷ []) (front ++ back)
covered_behind driven earlier front d back h n i = elim (h n i) [
  | inl a ↦ inl (In-left n earlier (d.name ∷ []) a)
  | inr b ↦ (let m = In-map_back (λ (e : Definition). e.name) n (front ++ d ∷ back) b in elim (In-split m.0 front (d ∷ back) m.1) [
    | inl c ↦ inr (subst (λ (z : Name). In z (names_defined (front ++ back))) m.2 (In-map (λ (e : Definition). e.name) m.0 (front ++ back) (In-left m.0 front back c)))
    | inr c ↦ elim (In-cases m.0 d back c) [
      | inl same ↦ inl (subst (λ (z : Name). In z (earlier ++ d.name ∷ [])) (ap (λ (e : Definition). e.name) same ∙ m.2) (In-right d.name earlier (d.name ∷ []) here))
      | inr k ↦ inr (subst (λ (z : Name). In z (names_defined (front ++ back))) m.2 (In-map (λ (e : Definition). e.name) m.0 (front ++ back) (In-right m.0 front back k)))
    ]
  ])
]

inside_behind : {A : Type 0} (x y : A) (front back : List A) → In y (front ++ back) → In y (front ++ x ∷ back)
inside_behind x y front back i = elim (In-split y front back i) [ inl a ↦ In-left y front (x ∷ back) a | inr b ↦ In-right y front (x ∷ back) (there b) ]

-- where each of the rest waits, each waits for one of the rest
each_reads_one : (defs rest : List Definition) (earlier : List Name) → ((d : Definition) → In d rest → In d defs) → Covered (names_defined defs) earlier rest
    → ((d : Definition) → In d rest → Waits (names_defined defs) earlier d) → EachReadsOne defs (names_defined rest)
each_reads_one defs rest earlier inside covered waits n i =
    let m = In-map_back (λ (e : Definition). e.name) n rest i in
    let w = waits m.0 m.1 in
    (w.0, elim (covered w.0 w.2) [ inl a ↦ absurd (w.3 a) | inr b ↦ b ], (m.0, inside m.0 m.1, m.2, w.1))

-- what an answer for all but the next definition makes of the answer for all
with_next : (defs : List Definition) (driven earlier : List Name) (rest : List Definition) (r : Next driven earlier rest)
    → Ordered driven (earlier ++ r.definition.name ∷ []) (r.front ++ r.back) ⊎ Loop defs → Ordered driven earlier rest ⊎ Loop defs
with_next defs driven earlier rest r (inr l) = inr l
with_next defs driven earlier rest r (inl o) =
    let d = r.definition in
    let moved = subst (λ (ds : List Definition). IsPermutation ds (d ∷ (r.front ++ r.back))) (sym r.is) (IsPermutation-middle r.front d r.back) in
    inl (record {
      order = d ∷ o.order;
      moved = IsPermutation-trans rest (d ∷ (r.front ++ r.back)) (d ∷ o.order) moved (IsPermutation-cons d (r.front ++ r.back) o.order o.moved);
      in_turn = (r.ready, o.in_turn);
    })

order_from : (count : ℕ) (defs rest : List Definition) (earlier : List Name) → length rest ≡ count → ((d : Definition) → In d rest → In d defs) → Covered (names_defined defs) earlier rest
    → Ordered (names_defined defs) earlier rest ⊎ Loop defs
order_from zero defs [] earlier many inside covered = inl (record { order = []; moved = IsPermutation-refl []; in_turn = tt })
order_from zero defs (a ∷ rest) earlier many inside covered = absurd (omega (arith, many))
order_from (suc count) defs [] earlier many inside covered = absurd (omega (arith, many))
order_from (suc count) defs (a ∷ rest) earlier many inside covered =
    let driven = names_defined defs in
    let all = a ∷ rest in
    elim (next_or_none driven earlier all) [
      | inr waits ↦ inr (loop_among defs (names_defined all) (each_reads_one defs all earlier inside covered waits) a.name here)
      | inl r ↦
          let d = r.definition in
          let long : length all ≡ length (r.front ++ r.back) + 1 = ap (λ (ds : List Definition). length ds) r.is ∙ count_around d r.front r.back in
          with_next defs driven earlier all r
          (order_from count defs (r.front ++ r.back) (earlier ++ d.name ∷ []) (omega (arith, long, many))
          (λ e i. inside e (subst (λ (ds : List Definition). In e ds) (sym r.is) (inside_behind d e r.front r.back i)))
          (covered_behind driven earlier r.front d r.back (subst (Covered driven earlier) r.is covered)))
    ]

pub order_or_loop : (defs : List Definition) → Ordered (names_defined defs) [] defs ⊎ Loop defs
order_or_loop defs = order_from (length defs) defs defs [] refl (λ d i. i) (λ n i. inr i)

-- ---- where there is an order, there is no ring

same_named : (defs : List Definition) (a b : Definition) → AllDifferent (names_defined defs) → In a defs → In b defs → a.name ≡ b.name → a ≡ b
same_named (d ∷ defs) a b apart here here e = refl
same_named (d ∷ defs) a b apart here (there j) e = absurd (apart.0 (subst (λ (n : Name). In n (names_defined defs)) (sym e) (In-map (λ (x : Definition). x.name) b defs j)))
same_named (d ∷ defs) a b apart (there i) here e = absurd (apart.0 (subst (λ (n : Name). In n (names_defined defs)) e (In-map (λ (x : Definition). x.name) a defs i)))
same_named (d ∷ defs) a b apart (there i) (there j) e = same_named defs a b apart.1 i j e
same_named [] a b apart i j e = elim i [ ]

pub reader_is : (defs : List Definition) (n m : Name) → Reads defs n m → In n (names_defined defs)
reader_is defs n m r = subst (λ (z : Name). In z (names_defined defs)) r.2 (In-map (λ (d : Definition). d.name) r.0 defs r.1)

-- none of names that read each other is ever known
never_known : (defs : List Definition) (names : List Name) → AllDifferent (names_defined defs) → EachReadsOne defs names → (earlier : List Name) (order : List Definition)
    → ((d : Definition) → In d order → In d defs) → ((n : Name) → In n names → In n earlier → ⊥) → EachReadsEarlier (names_defined defs) earlier order
    → (n : Name) → In n names → In n earlier ⊎ In n (names_defined order) → ⊥
never_known defs names apart each earlier [] inside none h n i (inl a) = none n i a
never_known defs names apart each earlier [] inside none h n i (inr b) = elim b [ ]
never_known defs names apart each earlier (d ∷ order) inside none h n i (inl a) = none n i a
never_known defs names apart each earlier (d ∷ order) inside none h n i (inr b) =
    never_known defs names apart each (earlier ++ d.name ∷ []) order (λ e j. inside e (there j)) still h.1 n i (elim (In-cases n d.name (names_defined order) b) [
      | inl same ↦ inl (subst (λ (z : Name). In z (earlier ++ d.name ∷ [])) same (In-right d.name earlier (d.name ∷ []) here))
      | inr k ↦ inr k
    ]) where
      reads_known : (m : Name) → In m names → d.name ≡ m → ⊥
      reads_known m j same =
          let r = each m j in
          let is : r.2.0 ≡ d = same_named defs r.2.0 d apart r.2.1 (inside d here) (r.2.2 ∙ sym same) in
          let read = subst (λ (x : Definition). In r.0 (formula_names x.formula)) is r.2.3 in
          let later = each r.0 r.1 in
          none r.0 r.1 (h.0 r.0 read (reader_is defs r.0 later.0 later.2))

      still : (m : Name) → In m names → In m (earlier ++ d.name ∷ []) → ⊥
      still m j k = elim (In-split m earlier (d.name ∷ []) k) [
        | inl a ↦ none m j a
        | inr b ↦ elim (In-cases m d.name [] b) [ inl same ↦ reads_known m j same | inr c ↦ elim c [ ] ]
      ]

pub no_ring : (defs : List Definition) → AllDifferent (names_defined defs) → Ordered (names_defined defs) [] defs → (ring : List Name) → IsRing defs ring → ⊥
no_ring defs apart o [] h = h
no_ring defs apart o (a ∷ rest) h =
    let each : EachReadsOne defs (a ∷ rest) = λ n i. let r = ring_reads defs a a rest h.1 n i in (r.0, elim r.1 [ inl same ↦ subst (λ (z : Name). In z (a ∷ rest)) same here | inr j ↦ there j ], r.2) in
    let first = each a here in
    let ordered : In a (names_defined o.order) = In-permutation (names_defined defs) (names_defined o.order) a (IsPermutation-map (λ (d : Definition). d.name) defs o.order o.moved) (reader_is defs a first.0 first.2) in
    never_known defs (a ∷ rest) apart each [] o.order (λ d i. In-permutation o.order defs d (IsPermutation-sym defs o.order o.moved) i) (λ n i j. elim j [ ]) o.in_turn a here (inr ordered)
