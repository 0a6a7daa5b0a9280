-- Names that read each other in a loop, and the ring that a loop is when it is named from the least of them on.
use Rattle.std.proofs.Common.{◌≡◌, ◌⊎◌, inl, inr, ℕ, zero, suc, List, [], ◌∷◌, ◌++◌, length, refl, sym, ap, ◌∙◌, subst, arith, append_assoc, append-nil}
use Rattle.std.specs.Ordering.{ordering_reverse}
use Rattle.std.specs.declared.cmp.Ordering.{Ordering}
use Rattle.std.specs.declared.cmp.Ordering.TheVariants.{Less, Equal, Greater}
use Rattle.vlsi_base.specs.declared.name.Name.{Name}
use Rattle.vlsi_base.specs.Name.{name_cmp}
use Rattle.vlsi_base.specs.Member.{In, here, there, AllDifferent}
use Rattle.vlsi_base.proofs.NameOrder.{name_total}
use Rattle.machine_core.proofs.Values.{In-split, In-left, In-right}
use Rattle.source_checks.specs.Cycles.{Reads, ReadsAlong, IsRing}
use Rattle.source_checks.specs.Elaboration.{Definition}
use Rattle.vlsi_model.proofs.Assembly.{All-from_In}
use Rattle.vlsi_model.proofs.Members.{In-cases, different_left, different_append}
use Rattle.vlsi_model.proofs.Sorting.{name_equal}
use Rattle.vbe_laws.proofs.Counting.{around, no_more, there_or_not}

-- different names, of which each reads the next and the last reads the first
abbrev IsRound : List Definition → List Name → Type 0
IsRound defs [] = ⊥
IsRound defs (a ∷ rest) = AllDifferent (a ∷ rest) × ReadsAlong defs a a rest

pub record Loop (defs : List Definition) : Type 0 where
  pub first : Name
  pub rest : List Name
  pub round : IsRound defs (first ∷ rest)

-- ---- a way that goes on among so many names comes round

-- the name reads the first, and each the next
abbrev Leads : List Definition → Name → List Name → Type 0
Leads defs a [] = Unit {0}
Leads defs a (b ∷ way) = Reads defs a b × Leads defs b way

closes : (defs : List Definition) (first a : Name) (front back : List Name) → Leads defs a (front ++ first ∷ back) → ReadsAlong defs first a front
closes defs first a [] back h = h.0
closes defs first a (b ∷ front) back h = (h.0, closes defs first b front back h.1)

apart_front : {A : Type 0} (x : A) (front back : List A) → AllDifferent (front ++ x ∷ back) → In x front → ⊥
apart_front x [] back d i = elim i [ ]
apart_front x (y ∷ front) back d here = d.0 (In-right x front (x ∷ back) here)
apart_front x (y ∷ front) back d (there i) = apart_front x front back d.1 i

loop_or_different : (defs : List Definition) (a : Name) (way : List Name) → Leads defs a way → Loop defs ⊎ AllDifferent (a ∷ way)
loop_or_different defs a [] h = inr (λ i. elim i [ ], tt)
loop_or_different defs a (b ∷ way) h = by (loop_or_different defs b way h.1) (there_or_not a (b ∷ way)) where
  by : Loop defs ⊎ AllDifferent (b ∷ way) → In a (b ∷ way) ⊎ (In a (b ∷ way) → ⊥) → Loop defs ⊎ AllDifferent (a ∷ b ∷ way)
  by (inl l) t = inl l
  by (inr d) (inr none) = inr (none, d)
  by (inr d) (inl i) =
      let r = around a (b ∷ way) i in
      let apart = subst (λ (ns : List Name). AllDifferent ns) r.is d in
      inl (record {
        first = a;
        rest = r.front;
        round = ((apart_front a r.front r.back apart, different_left r.front (a ∷ r.back) apart), closes defs a a r.front r.back (subst (Leads defs a) r.is h));
      })

-- each of the names reads one of them
abbrev pub EachReadsOne : List Definition → List Name → Type 0
EachReadsOne defs names = (n : Name) → In n names → (m : Name) × In m names × Reads defs n m

record Way (defs : List Definition) (names : List Name) (a : Name) (count : ℕ) : Type 0 where
  steps : List Name
  many : length steps ≡ count
  leads : Leads defs a steps
  among : (n : Name) → In n steps → In n names

way : (defs : List Definition) (names : List Name) → EachReadsOne defs names → (count : ℕ) (a : Name) → In a names → Way defs names a count
way defs names next zero a i = record { steps = []; many = refl; leads = tt; among = λ n j. elim j [ ] }
way defs names next (suc count) a i =
    let s = next a i in
    let r = way defs names next count s.0 s.1 in record {
      steps = s.0 ∷ r.steps;
      many = ap suc r.many;
      leads = (s.2, r.leads);
      among = λ n j. elim (In-cases n s.0 r.steps j) [ inl same ↦ subst (λ z. In z names) same s.1 | inr k ↦ r.among n k ];
    }

pub loop_among : (defs : List Definition) (names : List Name) → EachReadsOne defs names → (a : Name) → In a names → Loop defs
loop_among defs names next a i =
    let w = way defs names next (length names) a i in
    elim (loop_or_different defs a w.steps w.leads) [
      | inl l ↦ l
      | inr d ↦
          let few = no_more (a ∷ w.steps) names d (λ n j. elim (In-cases n a w.steps j) [ inl same ↦ subst (λ z. In z names) same i | inr k ↦ w.among n k ]) in
          let e = w.many in
          absurd (omega (arith, few, e))
    ]

-- ---- turning a loop

along_more : (defs : List Definition) (first new a : Name) (rest : List Name) → ReadsAlong defs first a rest → Reads defs first new → ReadsAlong defs new a (rest ++ first ∷ [])
along_more defs first new a [] h r = (h, r)
along_more defs first new a (b ∷ rest) h r = (h.0, along_more defs first new b rest h.1 r)

one_turn : (defs : List Definition) (a : Name) (rest : List Name) → IsRound defs (a ∷ rest) → IsRound defs (rest ++ a ∷ [])
one_turn defs a [] h = h
one_turn defs a (b ∷ rest) h = (
  different_append (b ∷ rest) (a ∷ []) h.0.1 (λ i. elim i [ ], tt) (λ n i j. elim (In-cases n a [] j) [ inl same ↦ h.0.0 (subst (λ z. In z (b ∷ rest)) (sym same) i) | inr k ↦ elim k [ ] ]),
  along_more defs a b b rest h.1.1 h.1.0,
)

turned : (defs : List Definition) (front : List Name) (a : Name) (back : List Name) → IsRound defs (front ++ a ∷ back) → IsRound defs (a ∷ (back ++ front))
turned defs [] a back h = subst (λ (ns : List Name). IsRound defs (a ∷ ns)) (sym (append-nil back)) h
turned defs (b ∷ front) a back h =
    let once = subst (IsRound defs) (append_assoc front (a ∷ back) (b ∷ [])) (one_turn defs b (front ++ a ∷ back) h) in
    subst (λ (ns : List Name). IsRound defs (a ∷ ns)) (append_assoc back (b ∷ []) front) (turned defs front a (back ++ b ∷ []) once)

-- ---- the least name

record Least (names : List Name) : Type 0 where
  front : List Name
  name : Name
  back : List Name
  is : names ≡ front ++ name ∷ back
  least : (n : Name) → In n names → name_cmp name n ≡ Greater → ⊥

above : (a b : Name) → name_cmp a b ≡ Greater → name_cmp b a ≡ Less
above a b e = name_total.antisymm b a ∙ ap ordering_reverse e

not_above_itself : (a : Name) → name_cmp a a ≡ Greater → ⊥
not_above_itself a e = let f : Greater ≡ Less = sym e ∙ above a a e in absurd cc

-- the least of a name and of others
least_of : (a : Name) (names : List Name) → Least (a ∷ names)
least_of a [] = record {
  front = [];
  name = a;
  back = [];
  is = refl;
  least = λ n i e. elim (In-cases n a [] i) [ inl same ↦ not_above_itself a (subst (λ (m : Name). name_cmp a m ≡ Greater) (sym same) e) | inr j ↦ elim j [ ] ];
}
least_of a (b ∷ names) = by (least_of b names) where
  first : (r : Least (b ∷ names)) → ((n : Name) → In n (b ∷ names) → name_cmp a n ≡ Greater → name_cmp r.name n ≡ Greater) → Least (a ∷ b ∷ names)
  first r lower = record {
    front = [];
    name = a;
    back = b ∷ names;
    is = refl;
    least = λ n i e. elim (In-cases n a (b ∷ names) i) [ inl same ↦ not_above_itself a (subst (λ (m : Name). name_cmp a m ≡ Greater) (sym same) e) | inr j ↦ r.least n j (lower n j e) ];
  }

  at : (r : Least (b ∷ names)) (o : Ordering) → name_cmp r.name a ≡ o → Least (a ∷ b ∷ names)
  at r Less is = record {
    front = a ∷ r.front;
    name = r.name;
    back = r.back;
    is = ap (λ (ns : List Name). a ∷ ns) r.is;
    least = λ n i e. elim (In-cases n a (b ∷ names) i) [
      | inl same ↦ (let both : Less ≡ Greater = sym is ∙ subst (λ (m : Name). name_cmp r.name m ≡ Greater) (sym same) e in absurd cc)
      | inr j ↦ r.least n j e
    ];
  }
  at r Equal is = first r (λ n j e. ap (λ (m : Name). name_cmp m n) (name_equal r.name a is) ∙ e)
  at r Greater is = first r (λ n j e. name_total.antisymm r.name n ∙ ap ordering_reverse (name_total.trans n a r.name (above a n e) (above r.name a is)))

  by : Least (b ∷ names) → Least (a ∷ b ∷ names)
  by r = at r (name_cmp r.name a) refl

-- ---- a loop as a ring

pub record SomeRing (defs : List Definition) : Type 0 where
  pub first : Name
  pub rest : List Name
  pub ring : IsRing defs (first ∷ rest)

within_turned : {A : Type 0} (x y : A) (front back : List A) → In y (back ++ front) → In y (front ++ x ∷ back)
within_turned x y front back i = elim (In-split y back front i) [ inl a ↦ In-right y front (x ∷ back) (there a) | inr b ↦ In-left y front (x ∷ back) b ]

pub ring_of : (defs : List Definition) → Loop defs → SomeRing defs
ring_of defs l =
    let r = least_of l.first l.rest in
    let t = turned defs r.front r.name r.back (subst (IsRound defs) r.is l.round) in record {
      first = r.name;
      rest = r.back ++ r.front;
      ring = (
        t.0,
        t.1,
        All-from_In (λ n. name_cmp r.name n ≡ Greater → ⊥) (r.back ++ r.front)
            (λ n i. r.least n (subst (λ (ns : List Name). In n ns) (sym r.is) (within_turned r.name n r.front r.back i))),
      );
    }

-- in a ring each reads one
pub ring_reads : (defs : List Definition) (first a : Name) (rest : List Name) → ReadsAlong defs first a rest → (n : Name) → In n (a ∷ rest) → (m : Name) × ((first ≡ m) ⊎ In m rest) × Reads defs n m
ring_reads defs first a [] h n i = elim (In-cases n a [] i) [ inl same ↦ (first, inl refl, subst (λ (z : Name). Reads defs z first) same h) | inr j ↦ elim j [ ] ]
ring_reads defs first a (b ∷ rest) h n i = elim (In-cases n a (b ∷ rest) i) [
  | inl same ↦ (b, inr here, subst (λ (z : Name). Reads defs z b) same h.0)
  | inr j ↦ (let r = ring_reads defs first b rest h.1 n j in (r.0, elim r.1 [ inl e ↦ inl e | inr k ↦ inr (there k) ], r.2))
]
