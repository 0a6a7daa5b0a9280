-- Which numbers are reached, found from the last node to the first.
use Rattle.std.proofs.Common.{◌≡◌, ◌≢◌, ◌⊎◌, inl, inr, ◌↔◌, ℕ, zero, suc, ◌+◌, ◌<◌, ◌≤◌, ◌==◌, ◌||◌, ◌&&◌, Bool, true, false, List, [], ◌∷◌, length, refl, sym, ◌∙◌, ap, subst, arith}
use Rattle.std.specs.Prelude.{IsTrue}
use Rattle.std.proofs.lemmas.Bool.{eqb-true, eq-eqb}
use Rattle.vlsi_base.specs.Member.{In, here, there}
use Rattle.bool_expr.specs.Support.{among}
use Rattle.net_theory.specs.Sources.{IsNumber}
use Rattle.net_theory.proofs.Basics.{number_once, number_below, at_number}
use Rattle.graph_theory.specs.Graph.{Node, fixed, inv, nand, Graph, ReadsBelow, EachReadsEarlier}
use Rattle.graph_theory.proofs.Values.{reads_at}
use Rattle.cell_match.specs.Places.{times}
use Rattle.cell_match.proofs.Pigeons.{times_append}
use Rattle.cell_match.proofs.Numbers.{one_tells}
use Rattle.boog_cuts.specs.Reads.{reads}
use Rattle.boog_cover.specs.Covered.{IsNeeded, root, read as needed_read}
use Rattle.boog_map.specs.Reached.{IsReached, shown, loaded, read}
use Rattle.boog_map.specs.Mapped.{root_numbers}

or_cases : (a b : Bool) → (a || b) ≡ true → (a ≡ true) ⊎ (b ≡ true)
or_cases true b h = inl refl
or_cases false b h = inr h

or_left : (a b : Bool) → a ≡ true → (a || b) ≡ true
or_left true b h = refl
or_left false b h = absurd (cc h)

or_right : (a b : Bool) → b ≡ true → (a || b) ≡ true
or_right true b h = refl
or_right false b h = h

and_both : (a b : Bool) → (a && b) ≡ true → (a ≡ true) × (b ≡ true)
and_both true b h = (refl, h)
and_both false b h = absurd (cc h)

both_and : (a b : Bool) → a ≡ true → b ≡ true → (a && b) ≡ true
both_and true b h k = k
both_and false b h k = absurd (cc h)

among_in : (a : ℕ) (xs : List ℕ) → among a xs ≡ true → In a xs
among_in a [] h = absurd (cc h)
among_in a (x ∷ xs) h = elim (or_cases (x == a) (among a xs) h) [
  | inl e ↦ let same : x ≡ a = eqb-true x a e in subst (λ (y : ℕ). In y (x ∷ xs)) same here
  | inr r ↦ there (among_in a xs r)
]

in_among : (a : ℕ) (xs : List ℕ) → In a xs → among a xs ≡ true
in_among a [] h = elim h [ ]
in_among a (x ∷ xs) here = or_left (a == a) (among a xs) (eq-eqb a a refl)
in_among a (x ∷ xs) (there h) = or_right (x == a) (among a xs) (in_among a xs h)

-- ---- from the last node to the first

-- Roots are marked, and so is what marked nodes read from this node on; and all that is marked is reached.
record Marking (held : ℕ) (g : Graph) (marks : ℕ → Bool) (rest : ℕ) : Type 0 where
  pub on_shown : (a : ℕ) → In a g.outputs → marks a ≡ true
  pub on_loaded : (a : ℕ) → In a g.loads → marks a ≡ true
  pub closed : (j : ℕ) (one : Node) (a : ℕ) → rest ≤ j → IsNumber g.nodes j one → marks (held + j) ≡ true → reads one a ≡ true → marks a ≡ true
  pub only : (a : ℕ) → marks a ≡ true → IsReached held g a

-- a node reads lower numbers alone
reads_low : (one : Node) (n a : ℕ) → ReadsBelow n one → reads one a ≡ true → a < n
reads_low (fixed b) n a below h = absurd (cc h)
reads_low (inv x) n a below h = let e : x ≡ a = eqb-true x a h in omega (arith, e, below)
reads_low (nand x y) n a below h = elim (or_cases (x == a) (y == a) h) [
  | inl p ↦ let e : x ≡ a = eqb-true x a p in let low = below.0 in omega (arith, e, low)
  | inr q ↦ let e : y ≡ a = eqb-true y a q in let low = below.1 in omega (arith, e, low)
]

roots_marked : Graph → ℕ → Bool
roots_marked g a = among a g.outputs || among a g.loads

starts : (held : ℕ) (g : Graph) (rest : ℕ) → length g.nodes ≤ rest → Marking held g (roots_marked g) rest
unfolding roots_marked
starts held g rest all = record {
  on_shown = λ a h. or_left (among a g.outputs) (among a g.loads) (in_among a g.outputs h);
  on_loaded = λ a h. or_right (among a g.outputs) (among a g.loads) (in_among a g.loads h);
  closed = λ j one a high h is reads_it. absurd (let low = number_below g.nodes j one h in omega (arith, low, high, all));
  only = λ a h. elim (or_cases (among a g.outputs) (among a g.loads) h) [
    | inl o ↦ shown (among_in a g.outputs o)
    | inr l ↦ loaded (among_in a g.loads l)
  ];
}

-- what a node reads is marked where the node is
with_node : (ℕ → Bool) → ℕ → Node → ℕ → Bool
with_node marks number one a = marks a || (marks number && reads one a)

next_marked : (held : ℕ) (g : Graph) (marks : ℕ → Bool) (next : ℕ) (one : Node) → EachReadsEarlier held g.nodes → Marking held g marks (suc next) → IsNumber g.nodes next one
    → Marking held g (with_node marks (held + next) one) next
unfolding with_node
next_marked held g marks next one earlier mk h = record {
  on_shown = λ a i. or_left (marks a) (marks (held + next) && reads one a) (mk.on_shown a i);
  on_loaded = λ a i. or_left (marks a) (marks (held + next) && reads one a) (mk.on_loaded a i);
  closed = closes;
  only = λ a i. elim (or_cases (marks a) (marks (held + next) && reads one a) i) [
    | inl o ↦ mk.only a o
    | inr r ↦ let b = and_both (marks (held + next)) (reads one a) r in read next one (mk.only (held + next) b.0) h b.1
  ];
} where
  -- a node from this one on was marked before
  was : (x : ℕ) → held + next ≤ x → with_node marks (held + next) one x ≡ true → marks x ≡ true
  was x high on = elim (or_cases (marks x) (marks (held + next) && reads one x) on) [
    | inl o ↦ o
    | inr r ↦
        let b = and_both (marks (held + next)) (reads one x) r in
        absurd (let less = reads_low one (held + next) x (reads_at held g.nodes next one earlier h) b.1 in omega (arith, less, high))
  ]

  closes : (j : ℕ) (two : Node) (a : ℕ) → next ≤ j → IsNumber g.nodes j two → with_node marks (held + next) one (held + j) ≡ true → reads two a ≡ true
      → with_node marks (held + next) one a ≡ true
  closes j two a low i on reads_it = by (j == next) refl where
    on_before : marks (held + j) ≡ true
    on_before = was (held + j) (omega (arith, low)) on

    by : (b : Bool) → (j == next) ≡ b → with_node marks (held + next) one a ≡ true
    by true e =
        let same : j ≡ next = eqb-true j next e in
        let two_is : two ≡ one = number_once g.nodes next two one (let P : ℕ → Type 0 = λ x. IsNumber g.nodes x two in subst P same i) h in
        let P : ℕ → Type 0 = λ x. marks (held + x) ≡ true in
        or_right (marks a) (marks (held + next) && reads one a)
        (both_and (marks (held + next)) (reads one a) (subst P same on_before) (ap (λ (x : Node). reads x a) (sym two_is) ∙ reads_it))
    by false e =
        let far : next < j = omega (arith, low, different e) in
        or_left (marks a) (marks (held + next) && reads one a) (mk.closed j two a (omega (arith, far)) i on_before reads_it) where
          different : (j == next) ≡ false → j ≢ next
          different f s = let t : (j == next) ≡ true = eq-eqb j next s in let no : true ≡ false = sym t ∙ f in cc

-- marks of all that is reached
pub record Marks (held : ℕ) (g : Graph) : Type 0 where
  pub marks : ℕ → Bool
  pub each : (a : ℕ) → IsTrue (marks a) ↔ IsReached held g a

walk : (held : ℕ) (g : Graph) → EachReadsEarlier held g.nodes → (rest : ℕ) → rest ≤ length g.nodes → (marks : ℕ → Bool) → Marking held g marks rest → Marks held g
walk held g earlier zero few marks mk = record { marks = marks; each = λ a. (mk.only a, back a) } where
  back : (a : ℕ) → IsReached held g a → marks a ≡ true
  back a (shown h) = mk.on_shown a h
  back a (loaded h) = mk.on_loaded a h
  back a (read j one r h reads_it) = mk.closed j one a (omega arith) h (back (held + j) r) reads_it
walk held g earlier (suc next) few marks mk =
    let one = at_number g.nodes next (omega (arith, few)) in
    walk held g earlier next (omega (arith, few)) (with_node marks (held + next) one.0) (next_marked held g marks next one.0 earlier mk one.1)

pub marks_of : (held : ℕ) (g : Graph) → EachReadsEarlier held g.nodes → Marks held g
marks_of held g earlier = walk held g earlier (length g.nodes) (omega arith) (roots_marked g) (starts held g (length g.nodes) (omega arith))

-- ---- what a cover needs is reached

pub times_in : (x : ℕ) (xs : List ℕ) → 0 < times x xs → In x xs
times_in x [] h = absurd (omega (arith, h))
times_in x (y ∷ xs) h = elim (one_tells y x) [
  | inl is ↦ subst (λ (n : ℕ). In x (n ∷ xs)) (sym is.0) here
  | inr isnt ↦ let o = isnt.1 in there (times_in x xs (omega (arith, h, o)))
]

pub in_times : (x : ℕ) (xs : List ℕ) → In x xs → 0 < times x xs
in_times x [] h = elim h [ ]
in_times x (y ∷ xs) here = elim (one_tells x x) [
  | inl is ↦ let o = is.1 in omega (arith, o)
  | inr isnt ↦ absurd (isnt.0 refl)
]
in_times x (y ∷ xs) (there h) = let r = in_times x xs h in omega (arith, r)

pub root_cases : (g : Graph) (x : ℕ) → 0 < times x (root_numbers g) → In x g.outputs ⊎ In x g.loads
root_cases g x h = by (times_in x g.outputs) (times_in x g.loads) (times x g.outputs) refl where
  by : (0 < times x g.outputs → In x g.outputs) → (0 < times x g.loads → In x g.loads) → (n : ℕ) → times x g.outputs ≡ n → In x g.outputs ⊎ In x g.loads
  by first second zero e = let both = times_append x g.outputs g.loads in inr (second (omega (arith, h, both, e)))
  by first second (suc n) e = inl (first (omega (arith, e)))

pub needed_reached : (held : ℕ) (g : Graph) (a : ℕ) → IsNeeded held g.nodes (root_numbers g) a → IsReached held g a
needed_reached held g a (root h) = elim (root_cases g a h) [ inl o ↦ shown o | inr l ↦ loaded l ]
needed_reached held g a (needed_read j one r h reads_it) = read j one (needed_reached held g (held + j) r) h reads_it
