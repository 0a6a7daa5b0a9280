-- One grammar behind another.
use Rattle.std.proofs.Common.{◌≡◌, Bool, true, false, cond, List, [], ◌∷◌, ◌++◌, ◌⊎◌, inl, inr, refl, sym, ap, subst, ◌∙◌, append_assoc, Result, Ok, Err}
use Rattle.std.proofs.lemmas.List.{append-nil}
use Rattle.vhdl_token.specs.declared.token.PlacedToken.{PlacedToken}
use Rattle.grammar_theory.specs.Tokens.{code_of}
use Rattle.grammar_theory.specs.declared.refusal.Breach.{Breach}
use Rattle.grammar_theory.specs.declared.refusal.Reason.{Reason}
use Rattle.grammar_theory.specs.declared.refusal.Reason.TheVariants as reason
use Rattle.grammar_theory.specs.declared.refusal.Refusal.{Refusal}
use Rattle.grammar_theory.specs.Marks.{Item, State, run, step, go_on}
use Rattle.grammar_theory.specs.Grammar.{Grammar, Then, Begins}
use Rattle.grammar_theory.specs.Outcome.{At, Outcome, Reader, ◌>>=◌}
use Rattle.grammar_theory.specs.Answers.{Meets, Accepts, Faults, Breaks, Blames, Answers, tokens_of}
use Rattle.grammar_theory.proofs.Sets.{Set, elem, has, disjoint, clash, elem-left, elem-right, Over, Under, split}
use Rattle.grammar_theory.proofs.Exact.{Shape, Reads}

-- The first part of a sentence reaches as far as each list with which a sentence of the first grammar begins.
reach : {A C : Type 0} (L : Grammar A) (M : A → Grammar C) (nl : Bool) (fl ll : Set) (nm : Bool) (fm lm : Set)
    → Shape L nl fl ll → ((x : A) → Shape (M x) nm fm lm) → disjoint ll fm ≡ true
    → (p w0 : List Item) (x0 : A) → L (p ++ w0) x0
    → (front back : List Item) (x : A) (y : C) (w : List Item) → L front x → M x back y → p ++ w ≡ front ++ back → Over front back p w
reach L M nl fl ll nm fm lm shl shm apart p w0 x0 h0 front back x y w before behind parts =
    elim (split front back p w (sym parts)) [
      | inl o ↦ o
      | inr u ↦
          let e : p ++ w0 ≡ front ++ u.next ∷ (u.more ++ w0) = ap (λ (z : List Item). z ++ w0) u.first ∙ append_assoc front (u.next ∷ u.more) w0 in
          let goes = shl.goes_on front u.next (u.more ++ w0) x x0 before (subst (λ (z : List Item). L z x0) e h0) in
          let begins = (shm x).begins u.next (u.more ++ w) y (subst (λ (z : List Item). M x z y) u.second behind) in
          absurd (clash (code_of u.next.token) ll fm apart goes begins)
    ]

at_end : {A : Type 0} (L : Grammar A) (p : List Item) (x : A) → L p x → L (p ++ []) x
at_end L p x h = subst (λ (z : List Item). L z x) (sym (append-nil p)) h

-- Two ways to part a sentence are one.
pub record Aligned (a b c d : List Item) : Type 0 where
  pub front : a ≡ c
  pub back : b ≡ d

align : {A C : Type 0} (L : Grammar A) (M : A → Grammar C) (nl : Bool) (fl ll : Set) (nm : Bool) (fm lm : Set)
    → Shape L nl fl ll → ((x : A) → Shape (M x) nm fm lm) → disjoint ll fm ≡ true
    → (a b c d : List Item) (x u : A) (y v : C) → L a x → M x b y → L c u → M u d v → a ++ b ≡ c ++ d → Aligned a b c d
align L M nl fl ll nm fm lm shl shm apart a b c d x u y v la mb lc md e =
    let one = reach L M nl fl ll nm fm lm shl shm apart a [] x (at_end L a x la) c d u v b lc md e in
    let two = reach L M nl fl ll nm fm lm shl shm apart c [] u (at_end L c u lc) a b x y d la mb (sym e) in
    both a b c d one.more two.more one.first two.first two.second one.second where
      both : (a b c d m n : List Item) → c ≡ a ++ m → a ≡ c ++ n → d ≡ n ++ b → b ≡ m ++ d → Aligned a b c d
      both a b c d [] n e f g h = record { front = sym (e ∙ append-nil a); back = h }
      both a b c d (t ∷ m) n e f g h = absurd (longer a (t ∷ m) n t m refl (f ∙ ap (λ (z : List Item). z ++ n) e ∙ append_assoc a (t ∷ m) n)) where
        longer : (a m n : List Item) (t : Item) (k : List Item) → m ≡ t ∷ k → a ≡ a ++ (m ++ n) → ⊥
        longer [] [] n t k s r = cc
        longer [] (z ∷ m) n t k s r = cc
        longer (x ∷ a) m n t k s r = longer a m n t k s cc

-- ---- the shape of a sequence

abbrev pub null_both : Bool → Bool → Bool
null_both a b = cond a b false

abbrev pub when_null : Bool → Set → Set
when_null b s = cond b s []

both_null : (a b : Bool) → a ≡ true → b ≡ true → null_both a b ≡ true
both_null true b e f = f
both_null false b e f = absurd cc

pub in_null : (b : Bool) (s : Set) (t : Item) → b ≡ true → has s t ≡ true → has (when_null b s) t ≡ true
in_null true s t e h = h
in_null false s t e h = absurd cc

-- where the front of a sentence ends: behind the next token, or before it
inside_of : (a b p : List Item) (i : Item) (w : List Item) → p ++ i ∷ w ≡ a ++ b → ((m : List Item) × (a ≡ p ++ i ∷ m)) ⊎ ((n : List Item) × (p ≡ a ++ n) × (b ≡ n ++ i ∷ w))
inside_of [] b p i w e = inr (p, refl, sym e)
inside_of (x ∷ a) b [] i w e = let same : x ≡ i = cc in inl (a, ap (λ (t : Item). t ∷ a) same)
inside_of (x ∷ a) b (t ∷ p) i w e =
    let heads : t ≡ x = cc in
    let tails : p ++ i ∷ w ≡ a ++ b = cc in
    elim (inside_of a b p i w tails) [
      | inl h ↦ inl (h.0, ap (λ (u : Item). u ∷ a) (sym heads) ∙ ap (λ (z : List Item). t ∷ z) h.1)
      | inr h ↦ inr (h.0, ap (λ (u : Item). u ∷ p) heads ∙ ap (λ (z : List Item). x ∷ z) h.1, h.2)
    ]

-- one front goes on where the other ends
cross_marks : {A C : Type 0} (L : Grammar A) (M : A → Grammar C) (nl : Bool) (fl ll : Set) (nm : Bool) (fm lm : Set)
    → Shape L nl fl ll → ((x : A) → Shape (M x) nm fm lm) → disjoint ll fm ≡ true
    → (c n : List Item) (i j : Item) (m z : List Item) (x u : A) (y : C) → L ((c ++ n) ++ i ∷ m) x → L c u → M u (n ++ j ∷ z) y → i.token ≡ j.token → ⊥
cross_marks L M nl fl ll nm fm lm shl shm apart c [] i j m z x u y la lc md e =
    let whole : L (c ++ i ∷ m) x = subst (λ (k : List Item). L (k ++ i ∷ m) x) (append-nil c) la in
    let goes : elem (code_of j.token) ll ≡ true = subst (λ (t : PlacedToken). elem (code_of t) ll ≡ true) e (shl.goes_on c i m u x lc whole) in
    clash (code_of j.token) ll fm apart goes ((shm u).begins j z y md)
cross_marks L M nl fl ll nm fm lm shl shm apart c (s ∷ n) i j m z x u y la lc md e =
    let whole : L (c ++ s ∷ (n ++ i ∷ m)) x = subst (λ (k : List Item). L k x) (append_assoc c (s ∷ n) (i ∷ m)) la in
    clash (code_of s.token) ll fm apart (shl.goes_on c s (n ++ i ∷ m) u x lc whole) ((shm u).begins s (n ++ j ∷ z) y md)

-- two fronts of one list are one, if what stands behind each begins the second grammar
same_fronts : {A C : Type 0} (L : Grammar A) (M : A → Grammar C) (nl : Bool) (fl ll : Set) (nm : Bool) (fm lm : Set)
    → Shape L nl fl ll → ((x : A) → Shape (M x) nm fm lm) → disjoint ll fm ≡ true
    → (a n c m : List Item) (x u : A) (y v : C) (k l : List Item) → L a x → M x (n ++ k) y → L c u → M u (m ++ l) v → a ++ n ≡ c ++ m → (a ≡ c) × (n ≡ m)
same_fronts L M nl fl ll nm fm lm shl shm apart a n c m x u y v k l la mb lc md e =
    elim (split a n c m e) [
      | inl o ↦ longer o.more o.first o.second
      | inr o ↦
          let begins : M x (o.next ∷ ((o.more ++ m) ++ k)) y = subst (λ (z : List Item). M x (z ++ k) y) o.second mb in
          absurd (clash (code_of o.next.token) ll fm apart (shl.goes_on a o.next o.more x u la (subst (λ (z : List Item). L z u) o.first lc)) ((shm x).begins o.next ((o.more ++ m) ++ k) y begins))
    ] where
      longer : (q : List Item) → a ≡ c ++ q → m ≡ q ++ n → (a ≡ c) × (n ≡ m)
      longer [] f g = (f ∙ append-nil c, sym g)
      longer (t ∷ q) f g =
          let begins : M u (t ∷ ((q ++ n) ++ l)) v = subst (λ (z : List Item). M u (z ++ l) v) g md in
          absurd (clash (code_of t.token) ll fm apart (shl.goes_on c t q u x lc (subst (λ (z : List Item). L z x) f la)) ((shm u).begins t ((q ++ n) ++ l) v begins))

then_marks : {A C : Type 0} (L : Grammar A) (M : A → Grammar C) (nl : Bool) (fl ll : Set) (nm : Bool) (fm lm : Set)
    → Shape L nl fl ll → ((x : A) → Shape (M x) nm fm lm) → disjoint ll fm ≡ true
    → (p : List Item) (i j : Item) (w z : List Item) (v u : C) → Then L M (p ++ i ∷ w) v → Then L M (p ++ j ∷ z) u → i.token ≡ j.token → i ≡ j
then_marks {A} {C} L M nl fl ll nm fm lm shl shm apart p i j w z v u h g e =
    elim (inside_of h.front h.back p i w h.parts) [
      | inl a ↦ elim (inside_of g.front g.back p j z g.parts) [
        | inl b ↦ shl.marks p i j a.0 b.0 h.value g.value (subst (λ (k : List Item). L k h.value) a.1 h.before) (subst (λ (k : List Item). L k g.value) b.1 g.before) e
        | inr b ↦ absurd (cross_marks L M nl fl ll nm fm lm shl shm apart g.front b.0 i j a.0 z h.value g.value u
            (subst (λ (k : List Item). L (k ++ i ∷ a.0) h.value) b.1 (subst (λ (k : List Item). L k h.value) a.1 h.before)) g.before (subst (λ (k : List Item). M g.value k u) b.2 g.behind) e)
      ]
      | inr a ↦ elim (inside_of g.front g.back p j z g.parts) [
        | inl b ↦ absurd (cross_marks L M nl fl ll nm fm lm shl shm apart h.front a.0 j i b.0 w g.value h.value v
            (subst (λ (k : List Item). L (k ++ j ∷ b.0) g.value) a.1 (subst (λ (k : List Item). L k g.value) b.1 g.before)) h.before (subst (λ (k : List Item). M h.value k v) a.2 h.behind) (sym e))
        | inr b ↦
            let ma = subst (λ (k : List Item). M h.value k v) a.2 h.behind in
            let mb = subst (λ (k : List Item). M g.value k u) b.2 g.behind in
            let same = same_fronts L M nl fl ll nm fm lm shl shm apart h.front a.0 g.front b.0 h.value g.value v u (i ∷ w) (j ∷ z) h.before ma g.before mb (sym a.1 ∙ b.1) in
            let x : h.value ≡ g.value = shl.same g.front h.value g.value (subst (λ (k : List Item). L k h.value) same.0 h.before) g.before in
            (shm g.value).marks b.0 i j w z v u (subst (λ (k : List Item). M g.value (k ++ i ∷ w) v) same.1 (subst (λ (t : A). M t (a.0 ++ i ∷ w) v) x ma)) mb e
      ]
    ]

pub then_shape : {A C : Type 0} (L : Grammar A) (M : A → Grammar C) (nl : Bool) (fl ll : Set) (nm : Bool) (fm lm : Set)
    → Shape L nl fl ll → ((x : A) → Shape (M x) nm fm lm) → disjoint ll fm ≡ true
    → Shape (Then L M) (null_both nl nm) (fl ++ when_null nl fm) (lm ++ when_null nm ll)
then_shape {A} {C} L M nl fl ll nm fm lm shl shm apart = record {
  same = λ p v w h g.
      let al = align L M nl fl ll nm fm lm shl shm apart h.front h.back g.front g.back h.value g.value v w h.before h.behind g.before g.behind (sym h.parts ∙ g.parts) in
      let x : h.value ≡ g.value = shl.same g.front h.value g.value (subst (λ (z : List Item). L z h.value) al.front h.before) g.before in
      (shm g.value).same g.back v w (subst (λ (u : A). M u g.back v) x (subst (λ (z : List Item). M h.value z v) al.back h.behind)) g.behind;
  empty = λ v h. empties h.front h.back h.value v h.before h.behind h.parts;
  begins = λ t q v h. firsts t q h.front h.back h.value v h.before h.behind h.parts;
  goes_on = λ p t q v w h g. onward p t q h.front h.back h.value v g.front g.back g.value w h.before h.behind g.before g.behind h.parts g.parts;
  marks = λ p i j w z v u h g e. then_marks L M nl fl ll nm fm lm shl shm apart p i j w z v u h g e;
} where
  empties : (a b : List Item) (x : A) (v : C) → L a x → M x b v → [] ≡ a ++ b → null_both nl nm ≡ true
  empties [] b x v la mb e = both_null nl nm (shl.empty x la) ((shm x).empty v (subst (λ (z : List Item). M x z v) (sym e) mb))
  empties (u ∷ a) b x v la mb e = absurd cc

  firsts : (t : Item) (q a b : List Item) (x : A) (v : C) → L a x → M x b v → t ∷ q ≡ a ++ b → has (fl ++ when_null nl fm) t ≡ true
  firsts t q [] b x v la mb e = elem-right (code_of t.token) fl (when_null nl fm) (in_null nl fm t (shl.empty x la) ((shm x).begins t q v (subst (λ (z : List Item). M x z v) (sym e) mb)))
  firsts t q (u ∷ a) b x v la mb e = let same : u ≡ t = cc in elem-left (code_of t.token) fl (when_null nl fm) (subst (λ (z : Item). has fl z ≡ true) same (shl.begins u a x la))

  after : (t : Item) (q a b c d m : List Item) (x : A) (v : C) (u : A) (w : C) → L a x → M x b v → L c u → M u d w → c ≡ a ++ m → b ++ t ∷ q ≡ m ++ d → has (lm ++ when_null nm ll) t ≡ true
  after t q a b c d [] x v u w la mb lc md e f =
      let lc_a : L a u = subst (λ (z : List Item). L z u) (e ∙ append-nil a) lc in
      let same : x ≡ u = shl.same a x u la lc_a in
      let mb_u : M u b v = subst (λ (z : A). M z b v) same mb in
      elem-left (code_of t.token) lm (when_null nm ll) ((shm u).goes_on b t q v w mb_u (subst (λ (z : List Item). M u z w) (sym f) md))
  after t q a [] c d (s ∷ m) x v u w la mb lc md e f =
      let same : s ≡ t = cc in
      elem-right (code_of t.token) lm (when_null nm ll) (in_null nm ll t ((shm x).empty v mb) (subst (λ (z : Item). has ll z ≡ true) same (shl.goes_on a s m x u la (subst (λ (z : List Item). L z u) e lc))))
  after t q a (r ∷ b) c d (s ∷ m) x v u w la mb lc md e f =
      let same : s ≡ r = cc in
      absurd (clash (code_of s.token) ll fm apart (shl.goes_on a s m x u la (subst (λ (z : List Item). L z u) e lc)) (subst (λ (z : Item). has fm z ≡ true) (sym same) ((shm x).begins r b v mb)))

  onward : (p : List Item) (t : Item) (q a b : List Item) (x : A) (v : C) (c d : List Item) (u : A) (w : C) → L a x → M x b v → L c u → M u d w → p ≡ a ++ b → p ++ t ∷ q ≡ c ++ d → has (lm ++ when_null nm ll) t ≡ true
  onward p t q a b x v c d u w la mb lc md e f =
      let whole : a ++ (b ++ t ∷ q) ≡ c ++ d = sym (append_assoc a b (t ∷ q)) ∙ ap (λ (z : List Item). z ++ t ∷ q) (sym e) ∙ f in
      let o = reach L M nl fl ll nm fm lm shl shm apart a [] x (at_end L a x la) c d u w (b ++ t ∷ q) lc md whole in
      after t q a b c d o.more x v u w la mb lc md o.first o.second

-- ---- what items come to, one list behind the other

pub tokens_of-append : (p q : List Item) → tokens_of (p ++ q) ≡ tokens_of p ++ tokens_of q
tokens_of-append [] q = refl
tokens_of-append (i ∷ p) q = ap (λ (z : List PlacedToken). i.token ∷ z) (tokens_of-append p q)

pub run-append : (p q : List Item) (s mid : State) → run p s ≡ Ok mid → run (p ++ q) s ≡ run q mid
run-append [] q s mid e = let same : s ≡ mid = cc in ap (run q) same
run-append (i ∷ p) q s mid e = go (λ t f. run-append p q t mid f) (step i.mark s) e where
  go : ((t : State) → run p t ≡ Ok mid → run (p ++ q) t ≡ run q mid) → (r : Result State Breach) → go_on r (run p) ≡ Ok mid → go_on r (run (p ++ q)) ≡ run q mid
  go later (Ok t) f = later t f
  go later (Err b) f = absurd cc

both_parts : (p q : List Item) (ts rest left : List PlacedToken) → ts ≡ tokens_of p ++ rest → rest ≡ tokens_of q ++ left → ts ≡ tokens_of (p ++ q) ++ left
both_parts p q ts rest left e f =
    e ∙ ap (λ (z : List PlacedToken). tokens_of p ++ z) f ∙ sym (append_assoc (tokens_of p) (tokens_of q) left) ∙ ap (λ (z : List PlacedToken). z ++ left) (sym (tokens_of-append p q))

-- ---- the reader of a sequence

-- a sentence goes on from here, and not with the next of the tokens that are left
pub record Away (w : List Item) (rest : List PlacedToken) : Type 0 where
  pub more : w ≡ [] → ⊥
  pub apart : Meets w rest → ⊥

-- behind what the first reader took, a sentence goes on as one of the second grammar
onward_step : {A C : Type 0} (L : Grammar A) (M : A → Grammar C) (nl : Bool) (fl ll : Set) (nm : Bool) (fm lm : Set)
    → Shape L nl fl ll → ((x : A) → Shape (M x) nm fm lm) → disjoint ll fm ≡ true
    → (p q : List Item) (rest left : List PlacedToken) (x : A) → L p x → rest ≡ tokens_of q ++ left → ((w : List Item) (v : A) → L (p ++ w) v → Meets w rest → ⊥)
    → (w : List Item) (y : C) → Then L M ((p ++ q) ++ w) y → M x (q ++ w) y ⊎ Away w left
onward_step {A} {C} L M nl fl ll nm fm lm shl shm apart p q rest left x lp parts longest w y h =
    let whole : p ++ (q ++ w) ≡ h.front ++ h.back = sym (append_assoc p q w) ∙ h.parts in
    let o = reach L M nl fl ll nm fm lm shl shm apart p [] x (at_end L p x lp) h.front h.back h.value y (q ++ w) h.before h.behind whole in
    go h.front h.back h.value o.more q h.before h.behind o.first o.second parts where
      go : (a b : List Item) (u : A) (m q : List Item) → L a u → M u b y → a ≡ p ++ m → q ++ w ≡ m ++ b → rest ≡ tokens_of q ++ left → M x (q ++ w) y ⊎ Away w left
      go a b u [] q la mb e f r =
          let la_p : L p u = subst (λ (z : List Item). L z u) (e ∙ append-nil p) la in
          let same : u ≡ x = shl.same p u x la_p lp in
          inl (subst (λ (z : List Item). M x z y) (sym f) (subst (λ (z : A). M z b y) same mb))
      go a b u (s ∷ m) [] la mb e f r =
          inr (record {
            more = λ g. some_left g f;
            apart = λ n. longest (s ∷ m) u (subst (λ (z : List Item). L z u) e la) (record { next = n.next; w_more = m; rest_more = n.rest_more; w_is = heads n.next n.w_more n.w_is f; rest_is = r ∙ n.rest_is });
          }) where
            some_left : w ≡ [] → w ≡ s ∷ (m ++ b) → ⊥
            some_left g f = cc

            heads : (t : Item) (k : List Item) → w ≡ t ∷ k → w ≡ s ∷ (m ++ b) → s ∷ m ≡ t ∷ m
            heads t k g f = cc
      go a b u (s ∷ m) (t ∷ q) la mb e f r =
          let same : s ∷ m ≡ t ∷ m = cc in
          absurd (longest (s ∷ m) u (subst (λ (z : List Item). L z u) e la) (record { next = t; w_more = m; rest_more = tokens_of q ++ left; w_is = same; rest_is = r }))

-- what a sequence is made of
pub record Parts {A C : Type 0} (L : Grammar A) (M : A → Grammar C) (nl : Bool) (fl ll : Set) (nm : Bool) (fm lm : Set) : Type 0 where
  pub shl : Shape L nl fl ll
  pub shm : (x : A) → Shape (M x) nm fm lm
  pub apart : disjoint ll fm ≡ true
  pub some_items : A → List Item
  pub some_value : A → C
  pub some : (x : A) → M x (some_items x) (some_value x)

-- ---- where the first reader refuses

first_viable : {A C : Type 0} (L : Grammar A) (M : A → Grammar C) (some : (x : A) → (q : List Item) × (y : C) × M x q y) (p : List Item) → Begins L p → Begins (Then L M) p
first_viable L M some p b =
    let s = some b.1 in
    (b.0 ++ s.0, s.1, record { front = p ++ b.0; back = s.0; value = b.1; parts = sym (append_assoc p b.0 s.0); before = b.2; behind = s.2 })

meets_more : (w m b : List Item) (rest : List PlacedToken) → w ≡ m ++ b → (m ≡ [] → ⊥) → Meets w rest → Meets m rest
meets_more w [] b rest e ne n = absurd (ne refl)
meets_more w (t ∷ m) b rest e ne n = record { next = n.next; w_more = m; rest_more = n.rest_more; w_is = head w t (m ++ b) n.next n.w_more e n.w_is m; rest_is = n.rest_is } where
  head : (w : List Item) (t : Item) (k : List Item) (u : Item) (l : List Item) → w ≡ t ∷ k → w ≡ u ∷ l → (m : List Item) → t ∷ m ≡ u ∷ m
  head w t k u l e f m = cc

empty_part : (w m b : List Item) → w ≡ m ++ b → w ≡ [] → m ≡ []
empty_part w [] b e f = refl
empty_part w (t ∷ m) b e f = absurd cc

first_faults : {A C : Type 0} (L : Grammar A) (M : A → Grammar C) (nl : Bool) (fl ll : Set) (nm : Bool) (fm lm : Set) → Parts L M nl fl ll nm fm lm
    → (p : List Item) (rest : List PlacedToken) → Begins L p → Faults L p rest → Faults (Then L M) p rest
first_faults {A} {C} L M nl fl ll nm fm lm ps p rest via f = record {
  unfinished = λ w v h e. let o = over w v h in f.unfinished o.more h.value (subst (λ (z : List Item). L z h.value) o.first h.before) (empty_part w o.more h.back o.second e);
  dead = λ w v h m.
      let o = over w v h in
      let lb = subst (λ (z : List Item). L z h.value) o.first h.before in
      f.dead o.more h.value lb (meets_more w o.more h.back rest o.second (f.unfinished o.more h.value lb) m);
} where
  over : (w : List Item) (v : C) → (h : Then L M (p ++ w) v) → Over h.front h.back p w
  over w v h = reach L M nl fl ll nm fm lm ps.shl ps.shm ps.apart p via.0 via.1 via.2 h.front h.back h.value v w h.before h.behind h.parts

first_blames : {A C : Type 0} (L : Grammar A) (M : A → Grammar C) (nl : Bool) (fl ll : Set) (nm : Bool) (fm lm : Set) → Parts L M nl fl ll nm fm lm
    → (s : State) (p : List Item) (rest : List PlacedToken) → Begins L p → (which : Reason) → Blames L s which p rest → Blames (Then L M) s which p rest
first_blames L M nl fl ll nm fm lm ps s p rest via reason.Syntax f = first_faults L M nl fl ll nm fm lm ps p rest via f
first_blames L M nl fl ll nm fm lm ps s p rest via (reason.Breach b) f = record {
  next = f.next;
  more = f.more;
  rest_is = f.rest_is;
  alive = first_viable L M (λ x. (ps.some_items x, ps.some_value x, ps.some x)) (p ++ f.next ∷ []) f.alive;
  broken = f.broken;
}

-- ---- where the first reader accepts

accepted_step : {A C : Type 0} (L : Grammar A) (M : A → Grammar C) (nl : Bool) (fl ll : Set) (nm : Bool) (fm lm : Set) → Parts L M nl fl ll nm fm lm
    → (here there : At) (x : A) (a : Accepts L here x there) (q : List Item) (left : List PlacedToken) → there.rest ≡ tokens_of q ++ left
    → (w : List Item) (y : C) → Then L M ((a.front ++ q) ++ w) y → M x (q ++ w) y ⊎ Away w left
accepted_step L M nl fl ll nm fm lm ps here there x a q left parts w y h =
    onward_step L M nl fl ll nm fm lm ps.shl ps.shm ps.apart a.front q there.rest left x a.sentence parts a.longest w y h

second_blames : {A C : Type 0} (L : Grammar A) (M : A → Grammar C) (nl : Bool) (fl ll : Set) (nm : Bool) (fm lm : Set) → Parts L M nl fl ll nm fm lm
    → (here there : At) (x : A) (a : Accepts L here x there) (q : List Item) (left : List PlacedToken) → there.rest ≡ tokens_of q ++ left
    → (s : State) (which : Reason) → Blames (M x) s which q left → Blames (Then L M) s which (a.front ++ q) left
second_blames L M nl fl ll nm fm lm ps here there x a q left parts s reason.Syntax f = record {
  unfinished = λ w v h e. elim (accepted_step L M nl fl ll nm fm lm ps here there x a q left parts w v h) [ inl g ↦ f.unfinished w v g e | inr g ↦ g.more e ];
  dead = λ w v h m. elim (accepted_step L M nl fl ll nm fm lm ps here there x a q left parts w v h) [ inl g ↦ f.dead w v g m | inr g ↦ g.apart m ];
}
second_blames L M nl fl ll nm fm lm ps here there x a q left parts s (reason.Breach b) f = record {
  next = f.next;
  more = f.more;
  rest_is = f.rest_is;
  alive = (f.alive.0, f.alive.1, record { front = a.front; back = (q ++ f.next ∷ []) ++ f.alive.0; value = x; parts = ap (λ (z : List Item). z ++ f.alive.0) (append_assoc a.front q (f.next ∷ [])) ∙ append_assoc a.front (q ++ f.next ∷ []) f.alive.0; before = a.sentence; behind = f.alive.2 });
  broken = f.broken;
}

-- ---- both

second_answers : {A C : Type 0} (L : Grammar A) (M : A → Grammar C) (nl : Bool) (fl ll : Set) (nm : Bool) (fm lm : Set) → Parts L M nl fl ll nm fm lm
    → (here there : At) (x : A) (a : Accepts L here x there) (o : Outcome C) → Answers (M x) there o → Answers (Then L M) here o
second_answers L M nl fl ll nm fm lm ps here there x a (Ok (y, end)) b = record {
  front = a.front ++ b.front;
  parts = both_parts a.front b.front here.rest there.rest end.rest a.parts b.parts;
  sentence = record { front = a.front; back = b.front; value = x; parts = refl; before = a.sentence; behind = b.sentence };
  clean = run-append a.front b.front here.state there.state a.clean ∙ b.clean;
  longest = λ w v h m. elim (accepted_step L M nl fl ll nm fm lm ps here there x a b.front end.rest b.parts w v h) [ inl g ↦ b.longest w v g m | inr g ↦ g.apart m ];
}
second_answers L M nl fl ll nm fm lm ps here there x a (Err r) b = record {
  front = a.front ++ b.front;
  rest = b.rest;
  state = b.state;
  parts = both_parts a.front b.front here.rest there.rest b.rest a.parts b.parts;
  place = b.place;
  viable = (b.viable.0, b.viable.1, record { front = a.front; back = b.front ++ b.viable.0; value = x; parts = append_assoc a.front b.front b.viable.0; before = a.sentence; behind = b.viable.2 });
  clean = run-append a.front b.front here.state there.state a.clean ∙ b.clean;
  blame = second_blames L M nl fl ll nm fm lm ps here there x a b.front b.rest b.parts b.state r.reason b.blame;
}

pub then_answers : {A C : Type 0} (L : Grammar A) (M : A → Grammar C) (nl : Bool) (fl ll : Set) (nm : Bool) (fm lm : Set) → Parts L M nl fl ll nm fm lm
    → (s : A → Reader C) → (here : At) (o : Outcome A) → Answers L here o
    → ((x : A) (there : At) → o ≡ Ok (x, there) → Answers (M x) there (s x there)) → Answers (Then L M) here (o >>= λ x. s x.0 x.1)
then_answers L M nl fl ll nm fm lm ps s here (Ok (x, there)) a good = second_answers L M nl fl ll nm fm lm ps here there x a (s x there) (good x there refl)
then_answers L M nl fl ll nm fm lm ps s here (Err r) a good = record {
  front = a.front;
  rest = a.rest;
  state = a.state;
  parts = a.parts;
  place = a.place;
  viable = first_viable L M (λ x. (ps.some_items x, ps.some_value x, ps.some x)) a.front a.viable;
  clean = a.clean;
  blame = first_blames L M nl fl ll nm fm lm ps a.state a.front a.rest a.viable r.reason a.blame;
}

pub then_reads : {A C : Type 0} (L : Grammar A) (M : A → Grammar C) (nl : Bool) (fl ll : Set) (nm : Bool) (fm lm : Set)
    → Shape L nl fl ll → ((x : A) → Shape (M x) nm fm lm) → disjoint ll fm ≡ true
    → (r : Reader A) (s : A → Reader C) → Reads L r → ((x : A) → Reads (M x) (s x))
    → Reads (Then L M) (λ here. r here >>= λ x. s x.0 x.1)
then_reads {A} {C} L M nl fl ll nm fm lm shl shm apart r s rl rm =
    let ps : Parts L M nl fl ll nm fm lm = record {
      shl = shl;
      shm = shm;
      apart = apart;
      some_items = λ x. (rm x).some_items;
      some_value = λ x. (rm x).some_value;
      some = λ x. (rm x).some;
    } in
    let x : A = rl.some_value in
    record {
      some_items = rl.some_items ++ (rm x).some_items;
      some_value = (rm x).some_value;
      some = record { front = rl.some_items; back = (rm x).some_items; value = x; parts = refl; before = rl.some; behind = (rm x).some };
      answers = λ here. then_answers L M nl fl ll nm fm lm ps s here (r here) (rl.answers here) (λ u there e. (rm u).answers there);
    }
