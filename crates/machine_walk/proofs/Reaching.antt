-- A walk through an expansion: what is met, and what is still to be met.
use Rattle.std.proofs.Common.{◌≡◌, ◌⊎◌, inl, inr, ℕ, zero, suc, ◌+◌, ◌<◌, Bool, true, false, List, [], ◌∷◌, ◌++◌, length, slice_get, Some, refl, sym, ap, subst, ◌∙◌, arith, append_assoc, append-nil, if◌then◌else◌, ◌||◌}
use Rattle.std.specs.Prelude.{nat_eq}
use Rattle.std.proofs.Math.ListN.{set}
use Rattle.std.proofs.lemmas.Bool.{eqb-true}
use Rattle.std.proofs.lemmas.List.{length-set, get_or-set_same, get_or-set_other}
use Rattle.vlsi_base.specs.Member.{In, here, there}
use Rattle.bool_expr.specs.Expression.{Expression, constant, variable, inverse, pair, choice, variables, bit, IsOver}
use Rattle.bool_expr.specs.Support.{among, meetings_after}
use Rattle.machine_core.specs.Machine.{Machine, Equation}
use Rattle.machine_core.specs.Order.{EachReadsBelow, IsOrdered}
use Rattle.machine_core.proofs.Values.{In-left, In-right, In-split}
use Rattle.machine_walk.specs.Expansion.{with_variables, held_count}
use Rattle.machine_walk.specs.Walk.{Meets, reads, through}
use Rattle.machine_walk.proofs.Names.{over_in}

-- ---- what a name reaches

abbrev pub Reach : Machine → ℕ → ℕ → Type 0
Reach m k j = Meets m (variable k) j

pub only : (x k : ℕ) → In x (k ∷ []) → x ≡ k
only x k here = refl
only x k (there h) = elim h [ ]

pub only_in : {A : Type 0} (x k : A) → In x (k ∷ []) → x ≡ k
only_in x k here = refl
only_in x k (there h) = elim h [ ]

pub also_in : {A : Type 0} (x k : A) (xs : List A) → In x (k ∷ xs) → (x ≡ k) ⊎ In x xs
also_in x k xs here = inl refl
also_in x k xs (there h) = inr h

pub reach_itself : (m : Machine) (k : ℕ) → Reach m k k
reach_itself m k = reads {e = variable k} here

-- an expression meets what the names that it reads reach
pub meets_by : (m : Machine) (e : Expression) (k j : ℕ) → In k (variables e) → Reach m k j → Meets m e j
meets_by m e k j i (reads h) = reads (subst (λ (x : ℕ). In x (variables e)) (sym (only j k h)) i)
meets_by m e k j i (through n x h at r) = through n x (subst (λ (y : ℕ). In y (variables e)) (sym (only (held_count m + n) k h)) i) at r

pub record MetBy (m : Machine) (e : Expression) (j : ℕ) : Type 0 where
  pub name : ℕ
  pub inside : In name (variables e)
  pub reach : Reach m name j

pub meets_at : (m : Machine) (e : Expression) (j : ℕ) → Meets m e j → MetBy m e j
meets_at m e j (reads h) = record { name = j; inside = h; reach = reach_itself m j }
meets_at m e j (through n x h at r) = record { name = held_count m + n; inside = h; reach = through {e = variable (held_count m + n)} n x here at r }

-- a name reaches itself, and what its equation meets
pub record Deeper (m : Machine) (k j : ℕ) : Type 0 where
  pub number : ℕ
  pub equation : Equation
  pub is : held_count m + number ≡ k
  pub at : slice_get m.equations number ≡ Some equation
  pub meets : Meets m equation.expr j

pub reach_cases : (m : Machine) (k j : ℕ) → Reach m k j → (j ≡ k) ⊎ Deeper m k j
reach_cases m k j (reads h) = inl (only j k h)
reach_cases m k j (through n x h at r) = inr (record { number = n; equation = x; is = only (held_count m + n) k h; at = at; meets = r })

-- an input or register reaches itself alone
pub reach_held : (m : Machine) (k j : ℕ) → k < held_count m → Reach m k j → j ≡ k
reach_held m k j h r = elim (reach_cases m k j r) [ inl e ↦ e | inr d ↦ absurd (let is : held_count m + d.number ≡ k = d.is in omega (arith, is, h)) ]

one_equation : (m : Machine) (n : ℕ) (x y : Equation) → slice_get m.equations n ≡ Some x → slice_get m.equations n ≡ Some y → y ≡ x
one_equation m n x y at to = cc (at, to)

-- the name of an equation reaches itself and what the equation meets
pub reach_inner : (m : Machine) (n : ℕ) (x : Equation) (j : ℕ) → slice_get m.equations n ≡ Some x → Reach m (held_count m + n) j → (j ≡ held_count m + n) ⊎ Meets m x.expr j
reach_inner m n x j at r = by (reach_cases m (held_count m + n) j r) where
  by : (j ≡ held_count m + n) ⊎ Deeper m (held_count m + n) j → (j ≡ held_count m + n) ⊎ Meets m x.expr j
  by (inl e) = inl e
  by (inr d) =
      let number : d.number ≡ n = (let is : held_count m + d.number ≡ held_count m + n = d.is in omega (arith, is)) in
      let same : d.equation ≡ x = one_equation m n x d.equation at (subst (λ (i : ℕ). slice_get m.equations i ≡ Some d.equation) number d.at) in
      inr (subst (λ (y : Equation). Meets m y.expr j) same d.meets)

-- ---- equations read only earlier names

pub equation_below : (es : List Equation) (b n : ℕ) (x : Equation) → EachReadsBelow b es → slice_get es n ≡ Some x → IsOver x.expr (b + n)
equation_below [] b n x below at = absurd (cc at)
equation_below (e ∷ es) b zero x below at =
    let same : e ≡ x = cc at in
    let place : b ≡ b + 0 = omega arith in
    subst (λ (i : ℕ). IsOver x.expr i) place (subst (λ (y : Equation). IsOver y.expr b) same below.0)
equation_below (e ∷ es) b (suc n) x below at =
    let place : (b + 1) + n ≡ b + suc n = omega arith in
    subst (λ (i : ℕ). IsOver x.expr i) place (equation_below es (b + 1) n x below.1 at)

pub meets_below : (m : Machine) → IsOrdered m → (e : Expression) (j : ℕ) → Meets m e j → (b : ℕ) → IsOver e b → j < b
meets_below m ordered e j (reads h) b o = over_in e b j o h
meets_below m ordered e j (through n x h at r) b o =
    let first : held_count m + n < b = over_in e b (held_count m + n) o h in
    let rest : j < held_count m + n = meets_below m ordered x.expr j r (held_count m + n) (equation_below m.equations (held_count m) n x ordered.below at) in
    omega (arith, first, rest)

-- ---- what is met already, or by the names that come first

pub record From (m : Machine) (front : List ℕ) (i : ℕ) : Type 0 where
  pub name : ℕ
  pub inside : In name front
  pub reach : Reach m name i

abbrev pub Known : Machine → List Bool → List ℕ → ℕ → Type 0
Known m met front i = (bit met i ≡ true) ⊎ From m front i

-- What a name reaches that is met, is all known once the walk gets to the name.
abbrev pub Ready : Machine → List Bool → List ℕ → List ℕ → Type 0
Ready m met front [] = Unit {0}
Ready m met front (k ∷ rest) = ((j i : ℕ) → Reach m k j → bit met j ≡ true → Reach m j i → Known m met front i) × Ready m met (k ∷ front) rest

pub known_behind : (m : Machine) (met : List Bool) (k : ℕ) (front : List ℕ) (i : ℕ) → Known m met front i → Known m met (k ∷ front) i
known_behind m met k front i (inl e) = inl e
known_behind m met k front i (inr f) = inr (record { name = f.name; inside = there f.inside; reach = f.reach })

pub ready_sub : (m : Machine) (met met' : List Bool) (front front' R : List ℕ) → ((i : ℕ) → Known m met front i → Known m met' front' i)
    → ((j i : ℕ) → bit met' j ≡ true → Reach m j i → (bit met j ≡ true) ⊎ Known m met' front' i) → Ready m met front R → Ready m met' front' R
ready_sub m met met' front front' [] sub new r = tt
ready_sub m met met' front front' (k ∷ rest) sub new r = (
  λ j i reach marked far. by j i reach far (new j i marked far),
  ready_sub m met met' (k ∷ front) (k ∷ front') rest sub2 new2 r.1,
)
  where
    by : (j i : ℕ) → Reach m k j → Reach m j i → (bit met j ≡ true) ⊎ Known m met' front' i → Known m met' front' i
    by j i reach far (inl old) = sub i (r.0 j i reach old far)
    by j i reach far (inr known) = known

    deeper : (i : ℕ) (f : From m (k ∷ front) i) → (f.name ≡ k) ⊎ In f.name front → Known m met' (k ∷ front') i
    deeper i f (inl e) = inr (record { name = f.name; inside = subst (λ (x : ℕ). In x (k ∷ front')) (sym e) here; reach = f.reach })
    deeper i f (inr h) = known_behind m met' k front' i (sub i (inr (record { name = f.name; inside = h; reach = f.reach })))

    sub2 : (i : ℕ) → Known m met (k ∷ front) i → Known m met' (k ∷ front') i
    sub2 i (inl e) = known_behind m met' k front' i (sub i (inl e))
    sub2 i (inr f) = deeper i f (also_in f.name k front f.inside)

    wide : (j i : ℕ) → (bit met j ≡ true) ⊎ Known m met' front' i → (bit met j ≡ true) ⊎ Known m met' (k ∷ front') i
    wide j i (inl e) = inl e
    wide j i (inr known) = inr (known_behind m met' k front' i known)

    new2 : (j i : ℕ) → bit met' j ≡ true → Reach m j i → (bit met j ≡ true) ⊎ Known m met' (k ∷ front') i
    new2 j i marked far = wide j i (new j i marked far)

-- the first list, last first, in front of the second
abbrev pub onto : List ℕ → List ℕ → List ℕ
onto [] front = front
onto (a ∷ A) front = onto A (a ∷ front)

pub In-onto : (x : ℕ) (A front : List ℕ) → In x A ⊎ In x front → In x (onto A front)
In-onto x [] front (inl h) = elim h [ ]
In-onto x [] front (inr h) = h
In-onto x (a ∷ A) front (inl h) = by (also_in x a A h) (λ p. In-onto x A (a ∷ front) p) where
  by : (x ≡ a) ⊎ In x A → (In x A ⊎ In x (a ∷ front) → In x (onto A (a ∷ front))) → In x (onto A (a ∷ front))
  by (inl e) rest = rest (inr (subst (λ (y : ℕ). In x (y ∷ front)) e here))
  by (inr p) rest = rest (inl p)
In-onto x (a ∷ A) front (inr h) = In-onto x A (a ∷ front) (inr (there h))

pub ready_append : (m : Machine) (met : List Bool) (A front R : List ℕ)
    → ((a j i : ℕ) → In a A → Reach m a j → bit met j ≡ true → Reach m j i → bit met i ≡ true) → Ready m met (onto A front) R → Ready m met front (A ++ R)
ready_append m met [] front R each r = r
ready_append m met (a ∷ A) front R each r = (
  λ j i reach marked far. inl (each a j i here reach marked far),
  ready_append m met A (a ∷ front) R (λ b j i h reach marked far. each b j i (there h) reach marked far) r,
)

pub ready_none : (m : Machine) (met : List Bool) (front R : List ℕ) → ((j : ℕ) → bit met j ≡ true → ⊥) → Ready m met front R
ready_none m met front [] none = tt
ready_none m met front (k ∷ R) none = ((λ j i reach marked far. absurd (none j marked)), ready_none m met (k ∷ front) R none)

-- ---- a further mark

pub record IsMarked (met : List Bool) (k : ℕ) (met' : List Bool) : Type 0 where
  pub each : length met' ≡ length met
  pub here_is : bit met' k ≡ true
  pub others : (j : ℕ) → (j ≡ k → ⊥) → bit met' j ≡ bit met j

pub marked_set : (met : List Bool) (k : ℕ) → k < length met → IsMarked met k (set met k true)
marked_set met k within = record {
  each = length-set met k true;
  here_is = get_or-set_same met k true false within;
  others = λ j apart. get_or-set_other met k j true false apart;
}

pub same_or_not : (j k : ℕ) → (j ≡ k) ⊎ (j ≡ k → ⊥)
same_or_not j k = by (nat_eq j k) refl where
  by : (b : Bool) → nat_eq j k ≡ b → (j ≡ k) ⊎ (j ≡ k → ⊥)
  by true e = inl (eqb-true j k e)
  by false e = inr (λ p. let t : nat_eq k k ≡ true = search arith in let f : nat_eq k k ≡ false = subst (λ (x : ℕ). nat_eq x k ≡ false) p e in absurd (cc (t, f)))

pub marked_cases : (met : List Bool) (k : ℕ) (met' : List Bool) → IsMarked met k met' → (j : ℕ) → bit met' j ≡ true → (j ≡ k) ⊎ (bit met j ≡ true)
marked_cases met k met' marks j e = by (same_or_not j k) where
  by : (j ≡ k) ⊎ (j ≡ k → ⊥) → (j ≡ k) ⊎ (bit met j ≡ true)
  by (inl p) = inl p
  by (inr p) = inr (sym (marks.others j p) ∙ e)

pub still_marked : (met : List Bool) (k : ℕ) (met' : List Bool) → IsMarked met k met' → (j : ℕ) → bit met j ≡ true → bit met' j ≡ true
still_marked met k met' marks j e = by (same_or_not j k) where
  by : (j ≡ k) ⊎ (j ≡ k → ⊥) → bit met' j ≡ true
  by (inl p) = subst (λ (i : ℕ). bit met' i ≡ true) (sym p) marks.here_is
  by (inr p) = marks.others j p ∙ e

-- ---- what names stand for

-- the variables of what stands in place of some names, one after another
abbrev pub reads_of : (ℕ → Expression) → List ℕ → List ℕ
reads_of f [] = []
reads_of f (k ∷ R) = variables (f k) ++ reads_of f R

pub reads_of-append : (f : ℕ → Expression) (A R : List ℕ) → reads_of f (A ++ R) ≡ reads_of f A ++ reads_of f R
reads_of-append f [] R = refl
reads_of-append f (a ∷ A) R =
    ap (λ (xs : List ℕ). variables (f a) ++ xs) (reads_of-append f A R) ∙ sym (append_assoc (variables (f a)) (reads_of f A) (reads_of f R))

pub variables-with : (f : ℕ → Expression) (e : Expression) → variables (with_variables f e) ≡ reads_of f (variables e)
variables-with f (constant b) = refl
variables-with f (variable k) = sym (append-nil (variables (f k)))
variables-with f (inverse e) = variables-with f e
variables-with f (pair g a b) =
    (λ j. variables-with f a j ++ variables-with f b j) ∙ sym (reads_of-append f (variables a) (variables b))
variables-with f (choice c a b) =
    (λ j. variables-with f c j ++ (variables-with f a j ++ variables-with f b j))
    ∙ ap (λ (xs : List ℕ). reads_of f (variables c) ++ xs) (sym (reads_of-append f (variables a) (variables b)))
    ∙ sym (reads_of-append f (variables c) (variables a ++ variables b))

pub In-reads : (f : ℕ → Expression) (k v : ℕ) (R : List ℕ) → In k R → In v (variables (f k)) → In v (reads_of f R)
In-reads f k v (r ∷ R) here h = In-left v (variables (f k)) (reads_of f R) h
In-reads f k v (r ∷ R) (there i) h = In-right v (variables (f r)) (reads_of f R) (In-reads f k v R i h)
In-reads f k v [] i h = elim i [ ]

pub record ReadBy (f : ℕ → Expression) (R : List ℕ) (v : ℕ) : Type 0 where
  pub name : ℕ
  pub inside : In name R
  pub reads_it : In v (variables (f name))

pub In-reads_split : (f : ℕ → Expression) (v : ℕ) (R : List ℕ) → In v (reads_of f R) → ReadBy f R v
In-reads_split f v [] h = elim h [ ]
In-reads_split f v (k ∷ R) h = by (λ p. In-reads_split f v R p) (In-split v (variables (f k)) (reads_of f R) h) where
  deeper : ReadBy f R v → ReadBy f (k ∷ R) v
  deeper r = record { name = r.name; inside = there r.inside; reads_it = r.reads_it }

  by : (In v (reads_of f R) → ReadBy f R v) → In v (variables (f k)) ⊎ In v (reads_of f R) → ReadBy f (k ∷ R) v
  by rest (inl p) = record { name = k; inside = here; reads_it = p }
  by rest (inr p) = deeper (rest p)

-- ---- what is met holds nothing new

pub meetings_skip : (seen xs rest : List ℕ) → ((v : ℕ) → In v xs → among v seen ≡ true) → meetings_after seen (xs ++ rest) ≡ meetings_after seen rest
meetings_skip seen [] rest all = refl
meetings_skip seen (x ∷ xs) rest all =
    ap (λ (b : Bool). if b then meetings_after seen (xs ++ rest) else x ∷ meetings_after (seen ++ x ∷ []) (xs ++ rest)) (all x here)
    ∙ meetings_skip seen xs rest (λ v h. all v (there h))

same_is : (k : ℕ) → nat_eq k k ≡ true
same_is k = search arith

-- the last one is among them, and of others it changes nothing
pub among_new : (order : List ℕ) (k : ℕ) → among k (order ++ k ∷ []) ≡ true
among_new [] k = ap (λ (b : Bool). b || false) (same_is k)
among_new (x ∷ order) k = by (nat_eq x k) (among_new order k) where
  by : (b : Bool) → among k (order ++ k ∷ []) ≡ true → (b || among k (order ++ k ∷ [])) ≡ true
  by true rest = refl
  by false rest = rest

pub among_old : (order : List ℕ) (k j : ℕ) → (j ≡ k → ⊥) → among j (order ++ k ∷ []) ≡ among j order
among_old [] k j apart = by (nat_eq k j) refl where
  by : (b : Bool) → nat_eq k j ≡ b → (b || false) ≡ false
  by true e = absurd (apart (sym (eqb-true k j e)))
  by false e = refl
among_old (x ∷ order) k j apart = by (nat_eq x j) (among_old order k j apart) where
  by : (b : Bool) → among j (order ++ k ∷ []) ≡ among j order → (b || among j (order ++ k ∷ [])) ≡ (b || among j order)
  by true rest = refl
  by false rest = rest
