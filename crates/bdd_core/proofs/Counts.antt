-- The nodes are exactly what the functions count.
use Rattle.std.proofs.Common.{◌≡◌, ℕ, zero, suc, ◌+◌, ◌-◌, ◌<◌, ◌≤◌, ◌⊎◌, inl, inr, Bool, false, true, List, [], ◌∷◌, length, Ok, Err, sym, ap, subst, ◌∙◌, arith, length-append}
use Rattle.std.specs.List.{Contains}
use Rattle.std.proofs.lemmas.List.Elements.{Contains-append_cases, Contains-append_left, Contains-append_right, Contains-get_or}
use Rattle.bdd_core.specs.Truths.{Truths, constant, IsPart, IsUneven, IsCounted, IsDistinct, IsCountOf, IsOver}
use Rattle.bdd_core.specs.Nodes.{raised_to, place, Lists, IsWhole}
use Rattle.bdd_core.specs.Combined.{Grown, IsOverBy, IsOutcome, combined, combined_at}
use Rattle.bdd_core.specs.declared.node.BddError.{BddError}
use Rattle.bdd_core.specs.declared.node.BddError.TheVariants.{Budget}
use Rattle.bdd_core.specs.declared.operators.Operator.{Operator}
use Rattle.bdd_core.specs.declared.operators.Triple.{Triple}
use Rattle.bdd_core.specs.Counting.{function, Holds}
use Rattle.bdd_core.proofs.Standing.{KeepsPlaces, Stands}
use Rattle.bdd_core.proofs.Raised.{part-raised_to}
use Rattle.bdd_core.proofs.Closing.{place_in, at_place}
use Rattle.bdd_core.proofs.Pushing.{place-kept}

head_in : (x : Truths) (xs : List Truths) → Contains (x ∷ xs) x
head_in x xs = Contains-get_or (x ∷ xs) 0 x (omega arith)

only : (x y : Truths) → Contains (x ∷ []) y → y ≡ x
only x y c = by c.0 c.1 (at_place (x ∷ []) y c)
  where
    by : (i : ℕ) → i < 1 → place (x ∷ []) i ≡ y → y ≡ x
    by zero w e = sym e
    by (suc i) w e = absurd (omega arith)

counted_more : (f : Truths) (fs : List Truths) (x : Truths) → IsCounted fs x → IsCounted (f ∷ fs) x
counted_more f fs x c = (c.0, (c.1.0, Contains-append_right (f ∷ []) fs c.1.0 c.1.1, c.1.2))

counted_new : (f : Truths) (fs : List Truths) (x : Truths) → IsUneven x → IsPart x f → IsCounted (f ∷ fs) x
counted_new f fs x uneven part = (uneven, (f, head_in f fs, part))

in_grown : (old new : List Truths) (f x : Truths) → Grown old new f → Contains old x → Contains new x
in_grown old new f x g c = subst (λ (l : List Truths). Contains l x) (sym g.grown) (Contains-append_left old g.more x c)

counted_grown : (d0 : Lists) (new : List Truths) (f : Truths) (fs : List Truths) (x : Truths) → Grown d0.lists new f → Holds fs d0 → IsUneven x → Contains new x → IsCounted (f ∷ fs) x
counted_grown d0 new f fs x g h uneven c = by (Contains-append_cases d0.lists g.more x (subst (λ (l : List Truths). Contains l x) g.grown c))
  where
    by : (Contains d0.lists x ⊎ Contains g.more x) → IsCounted (f ∷ fs) x
    by (inl c) = counted_more f fs x (h.counted x uneven c)
    by (inr c) = counted_new f fs x uneven (g.parts x c).1

pub holds_asked : (d0 d1 : Lists) (f : Truths) (fs : List Truths) (at : ℕ) → IsWhole d1 → Grown d0.lists d1.lists f → at < length d1.lists → function d1 at ≡ f → Holds fs d0 → Holds (f ∷ fs) d1
holds_asked d0 d1 f fs at whole g within is h = record {
  counted = λ x uneven c. counted_grown d0 d1.lists f fs x g h uneven c;
  complete = λ x c. complete x c.0 c.1.0 c.1.2 (Contains-append_cases (f ∷ []) fs c.1.0 c.1.1);
}
  where
    complete : (x : Truths) → IsUneven x → (q : Truths) → IsPart x q → (Contains (f ∷ []) q ⊎ Contains fs q) → Contains d1.lists x
    complete x uneven q part (inl c) =
        whole.closed at within x uneven
        (part-raised_to d1.vars (place d1.lists at) x uneven (subst (λ (t : Truths). IsPart x t) (only f q c ∙ sym is) part))
    complete x uneven q part (inr c) = in_grown d0.lists d1.lists f x g (h.complete x (uneven, (q, c, part)))

-- the nodes besides the constants
abbrev pub rest : List Truths → List Truths
rest [] = []
rest (a ∷ []) = []
rest (a ∷ (b ∷ r)) = r

distinct_places : (xs : List Truths) → ((i j : ℕ) → i < length xs → j < length xs → place xs i ≡ place xs j → i ≡ j) → IsDistinct xs
distinct_places [] h = tt
distinct_places (x ∷ xs) h = (λ c. absurd (apart c), distinct_places xs (λ i j wi wj e. let s : suc i ≡ suc j = h (suc i) (suc j) (omega arith) (omega arith) e in omega arith))
  where
    apart : Contains xs x → ⊥
    apart c = let s : 0 ≡ suc c.0 = h 0 (suc c.0) (omega arith) (let w : c.0 < length xs = c.1 in omega arith) (sym (at_place xs x c)) in omega arith

pub rest_distinct : (vars budget : ℕ) (lists : List Truths) → IsWhole (record { vars = vars; budget = budget; lists = lists }) → IsDistinct (rest lists)
rest_distinct vars budget [] w = tt
rest_distinct vars budget (a ∷ []) w = tt
rest_distinct vars budget (a ∷ (b ∷ r)) w =
    distinct_places r (λ i j wi wj e. let s : suc (suc i) ≡ suc (suc j) = w.distinct (suc (suc i)) (suc (suc j)) (omega arith) (omega arith) e in omega arith)

pub rest_length : (vars budget : ℕ) (lists : List Truths) → IsWhole (record { vars = vars; budget = budget; lists = lists }) → length (rest lists) + 2 ≡ length lists
rest_length vars budget [] w = let s : 2 ≤ 0 = w.some in absurd (omega arith)
rest_length vars budget (a ∷ []) w = let s : 2 ≤ 1 = w.some in absurd (omega arith)
rest_length vars budget (a ∷ (b ∷ r)) w = omega arith

-- those in the rest are uneven, and stand in the whole
pub rest_in : (vars budget : ℕ) (lists : List Truths) → IsWhole (record { vars = vars; budget = budget; lists = lists }) → (x : Truths) → Contains (rest lists) x → IsUneven x × Contains lists x
rest_in vars budget [] w x c = let s : 2 ≤ 0 = w.some in absurd (omega arith)
rest_in vars budget (a ∷ []) w x c = let s : 2 ≤ 1 = w.some in absurd (omega arith)
rest_in vars budget (a ∷ (b ∷ r)) w x c =
    let i : ℕ = c.0 in
    let within : i < length r = c.1 in
    let two : i + 2 ≡ suc (suc i) = omega arith in
    let is : place (a ∷ (b ∷ r)) (i + 2) ≡ x = ap (λ (m : ℕ). place (a ∷ (b ∷ r)) m) two ∙ at_place r x c in
    (subst IsUneven is (w.uneven i (omega arith)), Contains-append_right (a ∷ (b ∷ [])) r x c)

pub in_rest : (vars budget : ℕ) (lists : List Truths) → IsWhole (record { vars = vars; budget = budget; lists = lists }) → (x : Truths) → IsUneven x → Contains lists x → Contains (rest lists) x
in_rest vars budget [] w x uneven c = c
in_rest vars budget (a ∷ []) w x uneven c = let s : 2 ≤ 1 = w.some in absurd (omega arith)
in_rest vars budget (a ∷ (b ∷ r)) w x uneven c = by c.0 c.1 (at_place (a ∷ (b ∷ r)) x c)
  where
    never : (t : Truths) (v : Bool) → t ≡ constant v → t ≡ x → ⊥
    never t v e is = subst IsUneven (sym is ∙ e) uneven

    by : (i : ℕ) → i < length (a ∷ (b ∷ r)) → place (a ∷ (b ∷ r)) i ≡ x → Contains r x
    by zero within is = absurd (never a false w.zero_is is)
    by (suc zero) within is = absurd (never b true w.one_is is)
    by (suc (suc i)) within is = place_in r i x (omega arith) is

-- how many nodes there are is the count
pub count_is : (d : Lists) (n : ℕ) (fs : List Truths) → IsWhole d → n + 2 ≡ length d.lists → Holds fs d → IsCountOf fs n
count_is d n fs w e h = (
  rest d.lists,
  (
    rest_distinct d.vars d.budget d.lists w,
    λ x c. h.counted x (rest_in d.vars d.budget d.lists w x c).0 (rest_in d.vars d.budget d.lists w x c).1,
    λ x c. in_rest d.vars d.budget d.lists w x c.0 (h.complete x c),
  ),
  omega (arith, rest_length d.vars d.budget d.lists w),
)

pub over_is : (d0 d1 : Lists) (budget : ℕ) (f : Truths) (fs : List Truths) → IsWhole d1 → Grown d0.lists d1.lists f → IsOverBy budget d1.lists f → Holds fs d0 → IsOver (f ∷ fs) budget
over_is d0 d1 budget f fs w g o h = (
  o.part ∷ rest d1.lists,
  (λ c. o.absent (rest_in d1.vars d1.budget d1.lists w o.part c).1, rest_distinct d1.vars d1.budget d1.lists w),
  λ x c. by x (Contains-append_cases (o.part ∷ []) (rest d1.lists) x c),
  omega (arith, rest_length d1.vars d1.budget d1.lists w, o.full),
)
  where
    by : (x : Truths) → (Contains (o.part ∷ []) x ⊎ Contains (rest d1.lists) x) → IsCounted (f ∷ fs) x
    by x (inl c) = subst (λ (y : Truths). IsCounted (f ∷ fs) y) (sym (only o.part x c)) (counted_new f fs o.part o.uneven o.is_part)
    by x (inr c) =
        let p = rest_in d1.vars d1.budget d1.lists w x c in
        counted_grown d0 d1.lists f fs x g h p.0 p.1

pub keeps_grown : (d0 d1 : Lists) (f : Truths) → d1.vars ≡ d0.vars → Grown d0.lists d1.lists f → KeepsPlaces d0 d1
keeps_grown d0 d1 f vars g i within = (
  omega (arith, ap length g.grown, length-append d0.lists g.more),
  (λ j. raised_to (vars j) (place d1.lists i)) ∙ ap (λ (t : Truths). raised_to d0.vars t) (ap (λ (l : List Truths). place l i) g.grown ∙ place-kept d0.lists g.more i within),
)

first_is : (o : Operator) (d : Lists) (k : Triple) → combined_at o d.vars d.lists 0 k ≡ combined o (function d k.x) (function d k.y) (function d k.z)
unfolding combined_at
first_is o d k =
    let e : d.vars - 0 ≡ d.vars = omega arith in
    λ j. combined o (raised_to (e j) (place d.lists k.x)) (raised_to (e j) (place d.lists k.y)) (raised_to (e j) (place d.lists k.z))

pub asked_is : (o : Operator) (d0 d1 : Lists) (k : Triple) (at : ℕ) → IsWhole d1 → d1.vars ≡ d0.vars
    → IsOutcome d0.vars d0.budget d0.lists d1.lists 0 (combined_at o d0.vars d0.lists 0 k) (Ok at) → Stands d0 d1 (combined o (function d0 k.x) (function d0 k.y) (function d0 k.z)) at
asked_is o d0 d1 k at w vars out =
    let e : d0.vars - 0 ≡ d0.vars = omega arith in
    let is : function d1 at ≡ combined o (function d0 k.x) (function d0 k.y) (function d0 k.z) =
    ap (λ (n : ℕ). raised_to n (place d1.lists at)) (vars ∙ sym e) ∙ out.ok.is ∙ first_is o d0 k in
    let g = subst (λ (f : Truths). Grown d0.lists d1.lists f) (first_is o d0 k) out.grown in
    record {
      within = out.ok.from_on.within;
      is = is;
      holds = λ fs h. holds_asked d0 d1 _ fs at w g out.ok.from_on.within is h;
    }

pub over_asked : (o : Operator) (d0 d1 : Lists) (k : Triple) (r : BddError) (fs : List Truths) → IsWhole d1
    → IsOutcome d0.vars d0.budget d0.lists d1.lists 0 (combined_at o d0.vars d0.lists 0 k) (Err r) → r ≡ Budget → Holds fs d0
    → IsOver (combined o (function d0 k.x) (function d0 k.y) (function d0 k.z) ∷ fs) d0.budget
over_asked o d0 d1 k r fs w out b h =
    over_is d0 d1 d0.budget _ fs w (subst (λ (f : Truths). Grown d0.lists d1.lists f) (first_is o d0 k) out.grown)
    (subst (λ (f : Truths). IsOverBy d0.budget d1.lists f) (first_is o d0 k) (out.over b)) h
