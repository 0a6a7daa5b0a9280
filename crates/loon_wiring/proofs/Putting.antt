-- Groups of sinks, one after the other.
use Rattle.std.proofs.Common.{◌≡◌, ◌⊎◌, inl, inr, ℕ, zero, suc, ◌+◌, ◌-◌, ◌*◌, ◌<◌, ◌≤◌, List, [], ◌∷◌, ◌++◌, length, take, drop, sym, ◌∙◌, ap, subst, arith, length-append, length-drop, get_or, add-one, drop-cons}
use Rattle.std.proofs.lemmas.List.{take-append-drop, length-take-le, drop_all}
use Rattle.std.proofs.lemmas.List.Elements.{All-append, All-cons}
use Rattle.std.specs.Global.{Vec}
use Rattle.std.specs.List.{All}
use Rattle.loon_wiring.specs.declared.repeater.Repeater.{Repeater}
use Rattle.loon_wiring.specs.declared.wiring.Wiring.{Wiring}
use Rattle.loon_wiring.specs.Stages.{EndsGroup, PutsBehind, PutsGroups, none, one, LimitsClass, few, many, LimitsAll, done, more}

pub below_more : (a b : ℕ) (xs : List ℕ) → a ≤ b → All (λ place. place < a) xs → All (λ place. place < b) xs
below_more a b xs le h k d low = let r = h k d low in omega (arith, r, le)

drop_both : {A : Type 0} (i j : ℕ) (xs : List A) → drop j (drop i xs) ≡ drop (i + j) xs
drop_both {A} zero j xs = ap (λ (k : ℕ). drop k xs) (let e : j ≡ 0 + j = omega arith in e)
drop_both {A} (suc i) j [] = drop_all j [] (omega arith) ∙ sym (drop_all (suc i + j) [] (omega arith))
drop_both {A} (suc i) j (x ∷ xs) = drop_both i j xs ∙ ap (λ (k : ℕ). drop k (x ∷ xs)) (let e : suc (i + j) ≡ suc i + j = omega arith in e)

-- what a round keeps
pub record Rounding (r : Repeater) (limit class : ℕ) (first now : Wiring) (sinks inputs : List ℕ) (start : ℕ) : Type 0 where
  pub within : start ≤ length sinks
  pub groups : (u : Wiring) (all : List ℕ) → PutsGroups r limit class now (drop start sinks) inputs u all → PutsGroups r limit class first sinks [] u all
  pub halves : (2 * length inputs ≤ start) ⊎ ((start ≡ length sinks) × (2 * length inputs ≤ start + 1))
  pub places : All (λ place. place < length now.classes.items) sinks
  pub inside : All (λ place. place < length now.classes.items) inputs
  pub grown : length first.classes.items ≤ length now.classes.items

pub round_start : (r : Repeater) (limit class : ℕ) (first : Wiring) (sinks inputs : List ℕ) → inputs ≡ [] → All (λ place. place < length first.classes.items) sinks
    → Rounding r limit class first first sinks inputs 0
round_start r limit class first sinks inputs is places = subst (λ (xs : List ℕ). Rounding r limit class first first sinks xs 0) (sym is) (record {
  within = omega arith;
  groups = λ u all h. h;
  halves = inl (omega arith);
  places = places;
  inside = λ k d low. absurd (omega (arith, low));
  grown = omega arith;
})

module _ (r : Repeater) (limit class : ℕ) (first now next : Wiring) (sinks inputs : List ℕ) (start end : ℕ) (group : List ℕ) (input : ℕ) where
  pub round_step : 2 ≤ limit → start < length sinks → EndsGroup (length sinks) start limit end → group ≡ take (end - start) (drop start sinks)
      → PutsBehind r now next class group input → input < length next.classes.items → length now.classes.items ≤ length next.classes.items
      → Rounding r limit class first now sinks inputs start → Rounding r limit class first next sinks (inputs ++ input ∷ []) end
  round_step size low ends is behind inside_one longer so_far = record {
    within = ends.within;
    groups = λ u all h. so_far.groups u all (subst (λ (xs : List ℕ). PutsGroups r limit class now xs inputs u all) parts (one some small_one full_one behind h));
    halves = halves;
    places = below_more (length now.classes.items) (length next.classes.items) sinks longer so_far.places;
    inside = All-append (λ place. place < length next.classes.items) inputs (input ∷ [])
        (below_more (length now.classes.items) (length next.classes.items) inputs longer so_far.inside)
        (All-cons (λ place. place < length next.classes.items) input [] inside_one (λ k d h. absurd (omega (arith, h))));
    grown = let a = so_far.grown in omega (arith, a, longer);
  } where
    rest_many : length (drop start sinks) ≡ length sinks - start
    rest_many = length-drop start sinks

    group_many : length group ≡ end - start
    group_many = ap length is ∙ length-take-le (end - start) (drop start sinks) (let a = rest_many in let b = ends.within in omega (arith, a, b))

    parts : group ++ drop end sinks ≡ drop start sinks
    parts =
        ap (λ (xs : List ℕ). xs ++ drop end sinks) is
        ∙ ap (λ (j : ℕ). take (end - start) (drop start sinks) ++ drop j sinks) (let b = ends.more in omega (arith, b))
        ∙ ap (λ (xs : List ℕ). take (end - start) (drop start sinks) ++ xs) (sym (drop_both start (end - start) sinks))
        ∙ take-append-drop (end - start) (drop start sinks)

    some : 0 < length group
    some = let a = group_many in let b = ends.more in omega (arith, a, b)

    small_one : length group ≤ limit
    small_one = let a = group_many in let b = ends.small in omega (arith, a, b)

    full_one : (drop end sinks ≡ []) ⊎ (length group ≡ limit)
    full_one = elim ends.full [
      | inl all ↦ inl (drop_all end sinks (omega (arith, all)))
      | inr whole ↦ inr (let a = group_many in omega (arith, a, whole))
    ]

    longer_inputs : length (inputs ++ input ∷ []) ≡ length inputs + 1
    longer_inputs = length-append inputs (input ∷ [])

    halves : (2 * length (inputs ++ input ∷ []) ≤ end) ⊎ ((end ≡ length sinks) × (2 * length (inputs ++ input ∷ []) ≤ end + 1))
    halves = let n = longer_inputs in let b = ends.more in elim so_far.halves [
      | inl half ↦ elim ends.full [
        | inl all ↦ inr (all, omega (arith, n, half, b))
        | inr whole ↦ inl (omega (arith, n, half, whole, size))
      ]
      | inr over ↦ absurd (let same = over.0 in omega (arith, same, low))
    ]

pub round_groups : (r : Repeater) (limit class : ℕ) (first now : Wiring) (sinks inputs : List ℕ) (start : ℕ) → length sinks ≤ start
    → Rounding r limit class first now sinks inputs start → PutsGroups r limit class first sinks [] now inputs
round_groups r limit class first now sinks inputs start over so_far =
    so_far.groups now inputs (subst (λ (xs : List ℕ). PutsGroups r limit class now xs inputs now inputs) (sym (drop_all start sinks over)) none)

pub round_fewer : (r : Repeater) (limit class : ℕ) (first now : Wiring) (sinks inputs : List ℕ) (start : ℕ) → 2 ≤ limit → limit < length sinks
    → Rounding r limit class first now sinks inputs start → length inputs < length sinks
round_fewer r limit class first now sinks inputs start size large so_far = let w = so_far.within in elim so_far.halves [
  | inl half ↦ omega (arith, half, w, size, large)
  | inr over ↦ let same = over.0 in let half = over.1 in omega (arith, half, same, size, large)
]

-- what the rounds on a class keep
pub record Limiting (r : Repeater) (limit class : ℕ) (first now : Wiring) (sinks left : List ℕ) : Type 0 where
  pub steps : (u : Wiring) → LimitsClass r limit class now left u → LimitsClass r limit class first sinks u
  pub places : All (λ place. place < length now.classes.items) left
  pub grown : length first.classes.items ≤ length now.classes.items

pub limiting_start : (r : Repeater) (limit class : ℕ) (first now : Wiring) (sinks left : List ℕ) → limit < length sinks → PutsGroups r limit class first sinks [] now left
    → All (λ place. place < length now.classes.items) left → length first.classes.items ≤ length now.classes.items → Limiting r limit class first now sinks left
limiting_start r limit class first now sinks left large groups places longer = record {
  steps = λ u h. many large groups h;
  places = places;
  grown = longer;
}

pub limiting_step : (r : Repeater) (limit class : ℕ) (first now next : Wiring) (sinks left fewer : List ℕ) → Limiting r limit class first now sinks left → limit < length left
    → PutsGroups r limit class now left [] next fewer → All (λ place. place < length next.classes.items) fewer → length now.classes.items ≤ length next.classes.items
    → Limiting r limit class first next sinks fewer
limiting_step r limit class first now next sinks left fewer so_far large groups places longer = record {
  steps = λ u h. so_far.steps u (many large groups h);
  places = places;
  grown = let a = so_far.grown in omega (arith, a, longer);
}

pub limiting_end : (r : Repeater) (limit class : ℕ) (first now : Wiring) (sinks left : List ℕ) → Limiting r limit class first now sinks left → length left ≤ limit
    → LimitsClass r limit class first sinks now
limiting_end r limit class first now sinks left so_far small = so_far.steps now (few small)

-- what is kept from class to class
pub record LimitingAll (r : Repeater) (limit : ℕ) (first now : Wiring) (loads : List (Vec ℕ)) (class : ℕ) : Type 0 where
  pub steps : (u : Wiring) → LimitsAll r limit class (drop class loads) now u → LimitsAll r limit 0 loads first u
  pub places : All (λ sinks. All (λ place. place < length now.classes.items) sinks.items) loads

pub all_start : (r : Repeater) (limit : ℕ) (first : Wiring) (loads : List (Vec ℕ)) → All (λ sinks. All (λ place. place < length first.classes.items) sinks.items) loads
    → LimitingAll r limit first first loads 0
all_start r limit first loads places = record { steps = λ u h. h; places = places }

pub all_step : (r : Repeater) (limit : ℕ) (first now next : Wiring) (loads : List (Vec ℕ)) (class : ℕ) (sinks : Vec ℕ) → class < length loads → sinks ≡ get_or loads class sinks
    → LimitsClass r limit class now sinks.items next → length now.classes.items ≤ length next.classes.items
    → LimitingAll r limit first now loads class → LimitingAll r limit first next loads (class + 1)
all_step r limit first now next loads class sinks low is limited longer so_far = record {
  steps = λ u h. so_far.steps u
      (subst (λ (vs : List (Vec ℕ)). LimitsAll r limit class vs now u) (sym (drop-cons loads class sinks low ∙ ap (λ (v : Vec ℕ). v ∷ drop (suc class) loads) (sym is)))
      (more limited (subst (λ (k : ℕ). LimitsAll r limit k (drop k loads) next u) (add-one class) h)));
  places = λ k d inside. below_more (length now.classes.items) (length next.classes.items) (get_or loads k d).items longer (so_far.places k d inside);
}

pub all_end : (r : Repeater) (limit : ℕ) (first now : Wiring) (loads : List (Vec ℕ)) (class : ℕ) → length loads ≤ class → LimitingAll r limit first now loads class
    → LimitsAll r limit 0 loads first now
all_end r limit first now loads class over so_far =
    so_far.steps now (subst (λ (vs : List (Vec ℕ)). LimitsAll r limit class vs now now) (sym (drop_all class loads over)) done)
