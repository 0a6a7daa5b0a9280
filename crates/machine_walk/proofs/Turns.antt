-- The turns of a walk.
use Rattle.std.proofs.Common.{◌≡◌, ◌⊎◌, inl, inr, ℕ, zero, suc, ◌+◌, ◌-◌, ◌<◌, ◌≤◌, Bool, true, false, List, [], ◌∷◌, ◌++◌, length, replicate, slice_get, None, Some, refl, sym, ap, subst, ◌∙◌, arith, append_assoc, append-nil, if◌then◌else◌}
use Rattle.std.specs.List.{slice_index_or}
use Rattle.std.proofs.lemmas.Bool.{cases_lt}
use Rattle.vlsi_base.specs.Member.{In, here, there}
use Rattle.bool_expr.specs.Expression.{Expression, variable, variables, bit, IsOver}
use Rattle.bool_expr.specs.Support.{among, meetings_after, first_meetings}
use Rattle.bool_expr.proofs.Waiting.{weight}
use Rattle.machine_core.specs.Machine.{Machine, Equation}
use Rattle.machine_core.specs.Order.{IsOrdered}
use Rattle.machine_core.proofs.Values.{In-left, In-right, In-split}
use Rattle.machine_walk.specs.Expansion.{put_in, expansions, held_count}
use Rattle.machine_walk.specs.Walk.{order_of, Meets, through, AreMet}
use Rattle.machine_walk.proofs.Names.{over_in, name_of, expansion_held, expansion_at, length-vars}
use Rattle.machine_walk.proofs.Reaching.{Reach, only, also_in, reach_itself, meets_by, MetBy, meets_at, reach_held, reach_inner, equation_below, meets_below, From, Known, Ready, ready_sub, ready_append, ready_none, onto, In-onto, IsMarked, marked_cases, still_marked, same_or_not, reads_of, reads_of-append, variables-with, In-reads_split, ReadBy, meetings_skip, among_new, among_old}
use Rattle.std.proofs.lemmas.List.{length-replicate}
use Rattle.std.proofs.lemmas.Option.{slice_get-get_or}

-- the names that were met, those among them that are held in the order of the walk, and the names that are still to be walked through
pub record IsWalking (m : Machine) (e : Expression) (met : List Bool) (order R : List ℕ) : Type 0 where
  pub each : length met ≡ length m.vars
  pub over : (k : ℕ) → In k R → k < length m.vars
  pub held : (k : ℕ) → k < held_count m → among k order ≡ bit met k
  pub goes : order ++ meetings_after order (reads_of (name_of (expansions m)) R) ≡ order_of m e
  pub inside : (k j : ℕ) → In k R → Reach m k j → Meets m e j
  pub marks : (j : ℕ) → bit met j ≡ true → Meets m e j
  pub left : (j : ℕ) → Meets m e j → Known m met R j
  pub ready : Ready m met [] R

-- with nothing in front it was met
met_alone : (m : Machine) (met : List Bool) (i : ℕ) → Known m met [] i → bit met i ≡ true
met_alone m met i (inl e) = e
met_alone m met i (inr f) = elim f.inside [ ]

no_bit : (n j : ℕ) → bit (replicate n false) j ≡ false
no_bit zero j = refl
no_bit (suc n) zero = refl
no_bit (suc n) (suc j) = no_bit n j

module _ (m : Machine) (ordered : IsOrdered m) where
  -- the inputs and registers of a name's expansion are reached from it
  pub expansion_reach : (b k v : ℕ) → k < b → k < length m.vars → In v (variables (name_of (expansions m) k)) → Reach m k v × (v < held_count m)
  expansion_reach zero k v small within h = absurd (omega arith)
  expansion_reach (suc b) k v small within h = by (cases_lt k (held_count m)) (λ j low inside i. expansion_reach b j v low inside i) where
    own : (x : ℕ) → k < held_count m → In x (variables (name_of (expansions m) k)) → x ≡ k
    own x low i = only x k (subst (λ (y : Expression). In x (variables y)) (expansion_held m k low) i)

    deeper : ((j : ℕ) → j < b → j < length m.vars → In v (variables (name_of (expansions m) j)) → Reach m j v × (v < held_count m)) → (n : ℕ) (x : Equation) → k ≡ held_count m + n → slice_get m.equations n ≡ Some x → ReadBy (name_of (expansions m)) (variables x.expr) v → Reach m k v × (v < held_count m)
    deeper ih n x is at r =
        let below : r.name < k =
        omega (arith, is, over_in x.expr (held_count m + n) r.name (equation_below m.equations (held_count m) n x ordered.below at) r.inside) in
        let rest = ih r.name (omega (arith, small, below)) (omega (arith, within, below)) r.reads_it in
        let first : In (held_count m + n) (variables (variable k)) = subst (λ (y : ℕ). In y (k ∷ [])) is here in
        (through n x first at (meets_by m x.expr r.name v r.inside rest.0), rest.1)

    inner : ((j : ℕ) → j < b → j < length m.vars → In v (variables (name_of (expansions m) j)) → Reach m j v × (v < held_count m)) → (n : ℕ) (x : Equation) → k ≡ held_count m + n → slice_get m.equations n ≡ Some x → Reach m k v × (v < held_count m)
    inner ih n x is at =
        let put : name_of (expansions m) k ≡ put_in (expansions m) x.expr = ap (name_of (expansions m)) is ∙ expansion_at m ordered n x at in
        let h2 : In v (reads_of (name_of (expansions m)) (variables x.expr)) =
        subst (λ (vs : List ℕ). In v vs) (ap (λ (y : Expression). variables y) put ∙ variables-with (name_of (expansions m)) x.expr) h in
        deeper ih n x is at (In-reads_split (name_of (expansions m)) v (variables x.expr) h2)

    by : (k < held_count m) ⊎ (held_count m ≤ k) → ((j : ℕ) → j < b → j < length m.vars → In v (variables (name_of (expansions m) j)) → Reach m j v × (v < held_count m)) → Reach m k v × (v < held_count m)
    by (inl low) ih =
        let e : v ≡ k = own v low h in
        (subst (λ (x : ℕ). Reach m k x) (sym e) (reach_itself m k), omega (arith, e, low))
    by (inr high) ih =
        let long = length-vars m ordered in
        let small_n : k - held_count m < length m.equations = omega (arith, long, within, high) in
        inner ih (k - held_count m) (slice_index_or m.equations (k - held_count m) (record { name = record { text = []; bit = None }; expr = variable 0 })) (omega (arith, high))
        (slice_get-get_or m.equations (k - held_count m) (record { name = record { text = []; bit = None }; expr = variable 0 }) small_n)

  module _ (e : Expression) where
    -- nothing was met
    pub start : (n : ℕ) → n ≡ length m.vars → IsOver e (length m.vars) → IsWalking m e (replicate n false) [] (variables e)
    start n long over = record {
      each = length-replicate n false ∙ long;
      over = λ k h. over_in e (length m.vars) k over h;
      held = λ k h. sym (no_bit n k);
      goes = ap first_meetings (sym (variables-with (name_of (expansions m)) e));
      inside = λ k j h r. meets_by m e k j h r;
      marks = λ j marked. absurd (none j marked);
      left = λ j meets. inr (from (meets_at m e j meets));
      ready = ready_none m (replicate n false) [] (variables e) none;
    }
      where
        none : (j : ℕ) → bit (replicate n false) j ≡ true → ⊥
        none j marked = let f : bit (replicate n false) j ≡ false = no_bit n j in absurd (cc (marked, f))

        from : {j : ℕ} → MetBy m e j → From m (variables e) j
        from r = record { name = r.name; inside = r.inside; reach = r.reach }

    -- all was met
    pub finish : (met : List Bool) (order : List ℕ) → IsWalking m e met order [] → (order ≡ order_of m e) × AreMet m e met
    finish met order w = (
      sym (append-nil order) ∙ w.goes,
      record { each = w.each; marked = λ k h. ((λ marked. w.marks k marked), (λ meets. met_of k (w.left k meets))) },
    )
      where
        met_of : (k : ℕ) → Known m met [] k → bit met k ≡ true
        met_of k known = met_alone m met k known

    -- the next name was met already
    pub step_met : (met : List Bool) (order : List ℕ) (k : ℕ) (R : List ℕ) → IsWalking m e met order (k ∷ R) → bit met k ≡ true → IsWalking m e met order R
    step_met met order k R w marked = record {
      each = w.each;
      over = λ j h. w.over j (there h);
      held = w.held;
      goes = ap (λ (xs : List ℕ). order ++ xs) (sym (meetings_skip order (variables (name_of (expansions m) k)) (reads_of (name_of (expansions m)) R) all)) ∙ w.goes;
      inside = λ j i h r. w.inside j i (there h) r;
      marks = w.marks;
      left = λ j meets. left (w.left j meets);
      ready = ready_sub m met met (k ∷ []) [] R (λ i known. sub i known) (λ j i old far. inl old) w.ready.1;
    }
      where
        own : (i : ℕ) → Reach m k i → bit met i ≡ true
        own i r = met_alone m met i (w.ready.0 k i (reach_itself m k) marked r)

        all : (v : ℕ) → In v (variables (name_of (expansions m) k)) → among v order ≡ true
        all v h = let r = expansion_reach (suc k) k v (omega arith) (w.over k here) h in w.held v r.1 ∙ own v r.0

        behind : (j : ℕ) (f : From m (k ∷ R) j) → (f.name ≡ k) ⊎ In f.name R → Known m met R j
        behind j f (inl p) = inl (own j (subst (λ (x : ℕ). Reach m x j) p f.reach))
        behind j f (inr h) = inr (record { name = f.name; inside = h; reach = f.reach })

        left : {j : ℕ} → Known m met (k ∷ R) j → Known m met R j
        left (inl marks) = inl marks
        left {j = j} (inr f) = behind j f (also_in f.name k R f.inside)

        sub : (i : ℕ) → Known m met (k ∷ []) i → Known m met [] i
        sub i (inl old) = inl old
        sub i (inr f) = inl (own i (subst (λ (x : ℕ). Reach m x i) (only f.name k f.inside) f.reach))

    module _ (met met' : List Bool) (order : List ℕ) (k : ℕ) (R : List ℕ) (w : IsWalking m e met order (k ∷ R)) (unmarked : bit met k ≡ false) (marks : IsMarked met k met') where
      -- the new mark, and those that were there
      marks2 : (j : ℕ) → (j ≡ k) ⊎ (bit met j ≡ true) → Meets m e j
      marks2 j (inl p) = subst (λ (x : ℕ). Meets m e x) (sym p) (w.inside k k here (reach_itself m k))
      marks2 j (inr old) = w.marks j old

      at_k : (i : ℕ) → i ≡ k → bit met' i ≡ true
      at_k i p = subst (λ (x : ℕ). bit met' x ≡ true) (sym p) marks.here_is

      -- the next name is an input or a register
      pub step_held : k < held_count m → IsWalking m e met' (order ++ k ∷ []) R
      step_held low = record {
        each = marks.each ∙ w.each;
        over = λ j h. w.over j (there h);
        held = λ j h. held j h (same_or_not j k);
        goes = append_assoc order (k ∷ []) (meetings_after (order ++ k ∷ []) (reads_of (name_of (expansions m)) R)) ∙ ap (λ (xs : List ℕ). order ++ xs) (sym first) ∙ w.goes;
        inside = λ j i h r. w.inside j i (there h) r;
        marks = λ j marked. marks2 j (marked_cases met k met' marks j marked);
        left = λ j meets. left j (w.left j meets);
        ready = ready_sub m met met' (k ∷ []) [] R sub (λ j i marked far. new j i far (marked_cases met k met' marks j marked)) w.ready.1;
      }
        where
          held : (j : ℕ) → j < held_count m → (j ≡ k) ⊎ (j ≡ k → ⊥) → among j (order ++ k ∷ []) ≡ bit met' j
          held j h (inl p) = ap (λ (x : ℕ). among x (order ++ k ∷ [])) p ∙ among_new order k ∙ sym (at_k j p)
          held j h (inr p) = among_old order k j p ∙ w.held j h ∙ sym (marks.others j p)

          first : meetings_after order (variables (name_of (expansions m) k) ++ reads_of (name_of (expansions m)) R) ≡ k ∷ meetings_after (order ++ k ∷ []) (reads_of (name_of (expansions m)) R)
          first =
              ap (λ (y : Expression). meetings_after order (variables y ++ reads_of (name_of (expansions m)) R)) (expansion_held m k low)
              ∙ ap (λ (b : Bool). if b then meetings_after order (reads_of (name_of (expansions m)) R) else k ∷ meetings_after (order ++ k ∷ []) (reads_of (name_of (expansions m)) R)) (w.held k low ∙ unmarked)

          behind : (j : ℕ) (f : From m (k ∷ R) j) → (f.name ≡ k) ⊎ In f.name R → Known m met' R j
          behind j f (inl p) = inl (at_k j (reach_held m k j low (subst (λ (x : ℕ). Reach m x j) p f.reach)))
          behind j f (inr h) = inr (record { name = f.name; inside = h; reach = f.reach })

          left : (j : ℕ) → Known m met (k ∷ R) j → Known m met' R j
          left j (inl old) = inl (still_marked met k met' marks j old)
          left j (inr f) = behind j f (also_in f.name k R f.inside)

          sub : (i : ℕ) → Known m met (k ∷ []) i → Known m met' [] i
          sub i (inl old) = inl (still_marked met k met' marks i old)
          sub i (inr f) = inl (at_k i (reach_held m k i low (subst (λ (x : ℕ). Reach m x i) (only f.name k f.inside) f.reach)))

          new : (j i : ℕ) → Reach m j i → (j ≡ k) ⊎ (bit met j ≡ true) → (bit met j ≡ true) ⊎ Known m met' [] i
          new j i far (inl p) = inr (inl (at_k i (reach_held m k i low (subst (λ (x : ℕ). Reach m x i) p far))))
          new j i far (inr old) = inl old

      -- the next name has an equation, in which the walk goes on
      module _ (n : ℕ) (x : Equation) (is : k ≡ held_count m + n) (at : slice_get m.equations n ≡ Some x) where
        into : (j : ℕ) → Meets m x.expr j → Reach m k j
        into j meets = through n x (subst (λ (y : ℕ). In y (k ∷ [])) is here) at meets

        out_of : (j : ℕ) → Reach m k j → (j ≡ k) ⊎ Meets m x.expr j
        out_of j r = by (reach_inner m n x j at (subst (λ (y : ℕ). Reach m y j) is r)) where
          by : (j ≡ held_count m + n) ⊎ Meets m x.expr j → (j ≡ k) ⊎ Meets m x.expr j
          by (inl p) = inl (p ∙ sym is)
          by (inr meets) = inr meets

        below : IsOver x.expr k
        below = subst (λ (y : ℕ). IsOver x.expr y) (sym is) (equation_below m.equations (held_count m) n x ordered.below at)

        pub step_inner : IsWalking m e met' order (variables x.expr ++ R)
        step_inner = record {
          each = marks.each ∙ w.each;
          over = λ j h. over j (In-split j (variables x.expr) R h);
          held = λ j h. w.held j h ∙ sym (marks.others j (λ p. absurd (omega (arith, p, h, is))));
          goes = ap (λ (xs : List ℕ). order ++ meetings_after order xs) same ∙ w.goes;
          inside = λ j i h r. inside j i r (In-split j (variables x.expr) R h);
          marks = λ j marked. marks2 j (marked_cases met k met' marks j marked);
          left = λ j meets. left j (w.left j meets);
          ready =
              ready_append m met' (variables x.expr) [] R (λ a j i h reach marked far. each_of a j i h reach far (marked_cases met k met' marks j marked))
              (ready_sub m met met' (k ∷ []) (onto (variables x.expr) []) R sub (λ j i marked far. new j i far (marked_cases met k met' marks j marked)) w.ready.1);
        }
          where
            over : (j : ℕ) → In j (variables x.expr) ⊎ In j R → j < length m.vars
            over j (inl h) = omega (arith, over_in x.expr k j below h, w.over k here)
            over j (inr h) = w.over j (there h)

            same : reads_of (name_of (expansions m)) (variables x.expr ++ R) ≡ variables (name_of (expansions m) k) ++ reads_of (name_of (expansions m)) R
            same =
                reads_of-append (name_of (expansions m)) (variables x.expr) R
                ∙ ap (λ (xs : List ℕ). xs ++ reads_of (name_of (expansions m)) R)
                (sym (variables-with (name_of (expansions m)) x.expr) ∙ ap (λ (y : Expression). variables y) (sym (ap (name_of (expansions m)) is ∙ expansion_at m ordered n x at)))

            inside : (j i : ℕ) → Reach m j i → In j (variables x.expr) ⊎ In j R → Meets m e i
            inside j i r (inl h) = w.inside k i here (into i (meets_by m x.expr j i h r))
            inside j i r (inr h) = w.inside j i (there h) r

            deeper : (j : ℕ) → (j ≡ k) ⊎ Meets m x.expr j → Known m met' (variables x.expr ++ R) j
            deeper j (inl p) = inl (at_k j p)
            deeper j (inr meets) =
                let r = meets_at m x.expr j meets in
                inr (record { name = r.name; inside = In-left r.name (variables x.expr) R r.inside; reach = r.reach })

            behind : (j : ℕ) (f : From m (k ∷ R) j) → (f.name ≡ k) ⊎ In f.name R → Known m met' (variables x.expr ++ R) j
            behind j f (inl p) = deeper j (out_of j (subst (λ (y : ℕ). Reach m y j) p f.reach))
            behind j f (inr h) = inr (record { name = f.name; inside = In-right f.name (variables x.expr) R h; reach = f.reach })

            left : (j : ℕ) → Known m met (k ∷ R) j → Known m met' (variables x.expr ++ R) j
            left j (inl old) = inl (still_marked met k met' marks j old)
            left j (inr f) = behind j f (also_in f.name k R f.inside)

            each_of : (a j i : ℕ) → In a (variables x.expr) → Reach m a j → Reach m j i → (j ≡ k) ⊎ (bit met j ≡ true) → bit met' i ≡ true
            each_of a j i h reach far (inl p) =
                let one : j < suc a = meets_below m ordered (variable a) j reach (suc a) (omega arith) in
                absurd (omega (arith, one, p, over_in x.expr k a below h))
            each_of a j i h reach far (inr old) =
                still_marked met k met' marks i (met_alone m met i (w.ready.0 j i (into j (meets_by m x.expr a j h reach)) old far))

            front : (i : ℕ) → (i ≡ k) ⊎ Meets m x.expr i → Known m met' (onto (variables x.expr) []) i
            front i (inl p) = inl (at_k i p)
            front i (inr meets) =
                let r = meets_at m x.expr i meets in
                inr (record { name = r.name; inside = In-onto r.name (variables x.expr) [] (inl r.inside); reach = r.reach })

            sub : (i : ℕ) → Known m met (k ∷ []) i → Known m met' (onto (variables x.expr) []) i
            sub i (inl old) = inl (still_marked met k met' marks i old)
            sub i (inr f) = front i (out_of i (subst (λ (y : ℕ). Reach m y i) (only f.name k f.inside) f.reach))

            new : (j i : ℕ) → Reach m j i → (j ≡ k) ⊎ (bit met j ≡ true) → (bit met j ≡ true) ⊎ Known m met' (onto (variables x.expr) []) i
            new j i far (inl p) = inr (front i (out_of i (subst (λ (y : ℕ). Reach m y i) p far)))
            new j i far (inr old) = inl old

-- ---- the walk ends

-- what the equations weigh that aren't met, the first of which has number b
abbrev pub pending : List Bool → ℕ → List Equation → ℕ
pending met b [] = 0
pending met b (x ∷ es) = (if bit met b then 0 else weight x.expr) + pending met (suc b) es

pub pending_same : (met met' : List Bool) (b : ℕ) (es : List Equation) → ((j : ℕ) → b ≤ j → bit met' j ≡ bit met j) → pending met' b es ≡ pending met b es
pending_same met met' b [] same = refl
pending_same met met' b (x ∷ es) same =
    ap (λ (c : Bool). (if c then 0 else weight x.expr) + pending met' (suc b) es) (same b (omega arith))
    ∙ ap (λ (n : ℕ). (if bit met b then 0 else weight x.expr) + n) (pending_same met met' (suc b) es (λ j h. same j (omega arith)))

pub pending_less : (es : List Equation) (met met' : List Bool) (b n : ℕ) (x : Equation) → IsMarked met (b + n) met' → bit met (b + n) ≡ false → slice_get es n ≡ Some x
    → pending met' b es + weight x.expr ≡ pending met b es
pending_less [] met met' b n x marks unmarked at = absurd (cc at)
pending_less (y ∷ es) met met' b zero x marks unmarked at =
    let same : y ≡ x = cc at in
    let place : b + 0 ≡ b = omega arith in
    let on : bit met' b ≡ true = subst (λ (i : ℕ). bit met' i ≡ true) place marks.here_is in
    let off : bit met b ≡ false = subst (λ (i : ℕ). bit met i ≡ false) place unmarked in
    let rest : pending met' (suc b) es ≡ pending met (suc b) es = pending_same met met' (suc b) es (λ j h. marks.others j (λ p. omega (arith, p, h))) in
    let new : pending met' b (y ∷ es) ≡ pending met' (suc b) es = ap (λ (c : Bool). (if c then 0 else weight y.expr) + pending met' (suc b) es) on ∙ omega arith in
    let old : pending met b (y ∷ es) ≡ weight y.expr + pending met (suc b) es = ap (λ (c : Bool). (if c then 0 else weight y.expr) + pending met (suc b) es) off in
    let w : weight y.expr ≡ weight x.expr = ap (λ (z : Equation). weight z.expr) same in
    omega (arith, rest, new, old, w)
pending_less (y ∷ es) met met' b (suc n) x marks unmarked at =
    let place : b + suc n ≡ suc b + n = omega arith in
    let less = pending_less es met met' (suc b) n x (subst (λ (i : ℕ). IsMarked met i met') place marks) (subst (λ (i : ℕ). bit met i ≡ false) place unmarked) at in
    let first : bit met' b ≡ bit met b = marks.others b (λ p. omega (arith, p)) in
    let new : pending met' b (y ∷ es) ≡ (if bit met b then 0 else weight y.expr) + pending met' (suc b) es = ap (λ (c : Bool). (if c then 0 else weight y.expr) + pending met' (suc b) es) first in
    omega (arith, less, new)
