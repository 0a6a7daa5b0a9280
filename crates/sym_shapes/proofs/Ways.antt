-- Ways from step to step are chains of links.
use Rattle.std.proofs.Common.{◌≡◌, ◌≢◌, ℕ, zero, suc, ◌+◌, ◌-◌, ◌<◌, ◌≤◌, inl, inr, List, [], ◌∷◌, ◌++◌, length, length-append, get_or, refl, sym, ◌∙◌, ap, subst, arith}
use Rattle.std.proofs.lemmas.Bool.{cases_lt}
use Rattle.std.proofs.lemmas.List.{get_or_append_left, get_or_push}
use Rattle.std.specs.List.Sorted.{IsPermutation}
use Rattle.std.proofs.lemmas.List.Sorted.{IsPermutation-sym, Contains-permutation}
use Rattle.sym_groups.proofs.Steps.{tied_back}
use Rattle.sym_shapes.specs.Shape.{Shape}
use Rattle.sym_shapes.specs.declared.forest.Link.{Link}
use Rattle.sym_shapes.specs.declared.forest.Forest.{Forest}
use Rattle.sym_shapes.specs.Joints.{link, Leads, AllLinked, Spans, Covers}
use Rattle.sym_shapes.specs.Joined.{Linked, Joined, itself, through}
use Rattle.sym_shapes.specs.Chain.{LinkedAt, IsChain, Apart}
use Rattle.sym_shapes.specs.declared.search.Step.{Step}
use Rattle.sym_shapes.specs.Search.{step, Falls, Follows, HasLink, EndWithin, StepsDiffer, AreOver}
use Rattle.sym_shapes.proofs.Joins.{in_at, linked_back, joined_then, leads_more, tied_so}

pub chain_one : (shapes : List Shape) (k : ℕ) → k < length shapes → IsChain shapes (k ∷ []) k k
chain_one shapes k h = record {
  some = omega arith;
  first = refl;
  last = refl;
  within = λ n low. let e : 0 ≡ n = omega (arith, low) in subst (λ (x : ℕ). get_or (k ∷ []) x 0 < length shapes) e h;
  linked = λ n low. absurd (omega (arith, low));
  different = λ m n before low. absurd (omega (arith, before, low));
}

-- a chain goes on to one more shape
pub chain_on : (shapes : List Shape) (places : List ℕ) (from mid to : ℕ) → IsChain shapes places from mid → LinkedAt shapes mid to → to < length shapes
    → ((k : ℕ) → k < length places → get_or places k 0 ≢ to) → IsChain shapes (places ++ to ∷ []) from to
chain_on shapes places from mid to c truly within new =
    let more : List ℕ = places ++ to ∷ [] in
    let many : length more ≡ length places + 1 = length-append places (to ∷ []) in
    let kept : (k : ℕ) → k < length places → get_or more k 0 ≡ get_or places k 0 = λ k h. get_or_append_left places (to ∷ []) 0 k h in
    let last : (k : ℕ) → length places ≡ k → get_or more k 0 ≡ to = λ k e. get_or_push places to 0 k e in
    record {
      some = omega (arith, many);
      first = kept 0 c.some ∙ c.first;
      last = last (length more - 1) (omega (arith, many));
      within = λ k low. elim (cases_lt k (length places)) [
        | inl lt ↦ rw (kept k lt) (c.within k lt)
        | inr ge ↦ rw (last k (omega (arith, many, low, ge))) within
      ];
      linked = λ k low. elim (cases_lt (k + 1) (length places)) [
        | inl lt ↦ rw (kept k (omega (arith, lt)), kept (k + 1) lt) (c.linked k lt)
        | inr ge ↦
            let end : length places ≡ k + 1 = omega (arith, many, low, ge) in
            let is : get_or places k 0 ≡ mid = ap (λ (x : ℕ). get_or places x 0) (let e : k ≡ length places - 1 = omega (arith, end) in e) ∙ c.last in
            rw (kept k (omega (arith, end)), last (k + 1) end, is) truly
      ];
      different = λ j k before low. elim (cases_lt k (length places)) [
        | inl lt ↦ rw (kept k lt, kept j (omega (arith, before, lt))) (c.different j k before lt)
        | inr ge ↦ let hj : j < length places = omega (arith, many, low, before) in rw (last k (omega (arith, many, low, ge)), kept j hj) (new j hj)
      ];
    }

-- the way from one step to another, so far: a chain, over places of steps at or behind that one
pub record WayTo (steps : List Step) (places : List ℕ) (start at : ℕ) : Type 0 where
  pub chain : (shapes : List Shape) → AreOver shapes steps → IsChain shapes places (step steps start).place (step steps at).place
  pub over : (k : ℕ) → k < length places → (j : ℕ) × (at ≤ j) × (j < length steps) × ((step steps j).place ≡ get_or places k 0)

pub way_begin : (steps : List Step) (start : ℕ) → start < length steps → WayTo steps ((step steps start).place ∷ []) start start
way_begin steps start low = record {
  chain = λ shapes over. chain_one shapes (step steps start).place (over.within start low);
  over = λ n upto. let e : 0 ≡ n = omega (arith, upto) in
      (start, omega arith, low, ap (λ (x : ℕ). get_or ((step steps start).place ∷ []) x 0) e);
}

pub way_on : (steps : List Step) (places : List ℕ) (start at next : ℕ) → Falls steps → at < length steps → at ≢ 0 → next ≡ (step steps at).next
    → WayTo steps places start at → WayTo steps (places ++ (step steps next).place ∷ []) start next
way_on steps places start at next falls low moves is w =
    let pos : 0 < at = omega (arith, moves) in
    let less : next < at = rw is (falls at pos low) in
    let place : ℕ = (step steps next).place in
    let more : List ℕ = places ++ place ∷ [] in
    record {
      chain = λ shapes over.
          let truly : LinkedAt shapes (step steps at).place place = λ d. linked_back (rw is (over.linked at pos low d)) in
          chain_on shapes places (step steps start).place (step steps at).place place (w.chain shapes over) truly (over.within next (omega (arith, less, low)))
          (λ k hk e. let r = w.over k hk in let from = r.1 in over.differ next r.0 (omega (arith, less, from)) r.2 (sym (r.3 ∙ e)));
      over = λ k upto. elim (cases_lt k (length places)) [
        | inl lt ↦ let r = w.over k lt in (r.0, let from = r.1 in omega (arith, less, from), r.2, r.3 ∙ sym (get_or_append_left places (place ∷ []) 0 k lt))
        | inr ge ↦ (
          next,
          omega arith,
          omega (arith, less, low),
          sym (get_or_push places place 0 k (let many = length-append places (place ∷ []) in omega (arith, many, upto, ge))),
        )
      ];
    }

joined_upto : (shapes : List Shape) (places : List ℕ) (from to : ℕ) (d : Shape) → IsChain shapes places from to → (k : ℕ) → k < length places
    → Joined shapes (get_or shapes from d) (get_or shapes (get_or places k 0) d)
joined_upto shapes places from to d c zero low = rw c.first (itself (in_at shapes from d (rw (← c.first) (c.within 0 low))))
joined_upto shapes places from to d c (suc k) low =
    let before : k < length places = omega arith in
    let e : k + 1 ≡ suc k = omega arith in
    let next : k + 1 < length places = omega arith in
    let step : Linked (get_or shapes (get_or places k 0) d) (get_or shapes (get_or places (suc k) 0) d) =
    subst (λ (x : ℕ). Linked (get_or shapes (get_or places k 0) d) (get_or shapes (get_or places x 0) d)) e (c.linked k next d) in
    joined_then (joined_upto shapes places from to d c k before)
    (through (in_at shapes (get_or places k 0) d (c.within k before)) step (itself (in_at shapes (get_or places (suc k) 0) d (c.within (suc k) low))))

-- a chain joins its ends
pub chain_joined : (shapes : List Shape) (places : List ℕ) (from to : ℕ) (d : Shape) → IsChain shapes places from to
    → Joined shapes (get_or shapes from d) (get_or shapes to d)
chain_joined shapes places from to d c =
    let end : length places - 1 < length places = let s = c.some in omega (arith, s) in
    subst (λ (x : ℕ). Joined shapes (get_or shapes from d) (get_or shapes x d)) c.last (joined_upto shapes places from to d c (length places - 1) end)

-- links in another order
pub links_moved : (shapes : List Shape) (olds news : List Link) → IsPermutation olds news → AllLinked shapes olds → AllLinked shapes news
links_moved shapes olds news moved all i j has = all i j (Contains-permutation news olds (link i j) (IsPermutation-sym olds news moved) has)

pub ends_within : (shapes : List Shape) (links : List Link) → AllLinked shapes links → EndWithin links (length shapes)
ends_within shapes links all i j has = (all i j has).1

-- steps along links are steps from shape to shape
pub over_shapes : (shapes : List Shape) (links : List Link) (steps : List Step) → AllLinked shapes links → Follows (HasLink links) steps
    → StepsDiffer steps → (step steps 0).place < length shapes → AreOver shapes steps
over_shapes shapes links steps all follows differ first = record {
  within = λ k low. elim (cases_lt 0 k) [
    | inl pos ↦ (all _ _ (follows k pos low)).1
    | inr none ↦ let e : 0 ≡ k = omega (arith, none) in subst (λ (x : ℕ). (step steps x).place < length shapes) e first
  ];
  linked = λ k pos low. (all _ _ (follows k pos low)).2;
  differ = differ;
}

-- where links tell the groups of joined shapes, they lead from each shape to all that it is joined to
pub joined_leads : (shapes : List Shape) (f : Forest) (links : List Link) (from to : ℕ) (d : Shape) → Spans shapes f → Covers shapes f.groups
    → IsPermutation f.links.items links → from < length shapes → to < length shapes → Joined shapes (get_or shapes from d) (get_or shapes to d) → Leads links to from
joined_leads shapes f links from to d spans covers moved hf ht joined =
    leads_more (λ l has. Contains-permutation f.links.items links l moved has)
    (spans.leads to from (tied_back (tied_so shapes f.groups d covers joined from to hf ht refl refl)))

pub not_apart : (shapes : List Shape) (places : List ℕ) (from to : ℕ) → from < length shapes → IsChain shapes places from to → Apart shapes from to → ⊥
not_apart [] places from to low c apart = absurd (omega (arith, low))
not_apart (s ∷ shapes) places from to low c apart = apart s (chain_joined (s ∷ shapes) places from to s c)
