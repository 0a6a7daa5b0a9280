-- What a search along links reaches.
use Rattle.std.proofs.Common.{◌≡◌, ◌≢◌, ℕ, zero, suc, ◌+◌, ◌<◌, ◌≤◌, inl, inr, Bool, true, false, cond, List, [], ◌∷◌, ◌++◌, length, length-append, get_or, slice_set, length-set, get_or-set_same, get_or-set_other, refl, sym, ◌∙◌, ap, subst, arith}
use Rattle.std.specs.List.Sorted.{IsNonDecreasingBy}
use Rattle.std.proofs.lemmas.Bool.{cases_lt, cases_eq}
use Rattle.std.proofs.lemmas.List.{get_or_append_left, get_or_push}
use Rattle.std.proofs.lemmas.List.Sums.{sum_by-set}
use Rattle.sym_shapes.specs.declared.forest.Link.{Link}
use Rattle.sym_shapes.specs.declared.search.Step.{Step}
use Rattle.sym_shapes.specs.Joints.{link, Leads, arrived, along}
use Rattle.sym_shapes.specs.Search.{step, HasLink, IsSeen, IsSearch, GoesOn, Spread, EndWithin, IsFirstFrom}

pub marked_more : (seen : List Bool) (place p : ℕ) → place < length seen → IsSeen seen p → IsSeen (slice_set seen place true) p
marked_more seen place p within is = elim (cases_eq p place) [
  | inl e ↦ subst (λ (x : ℕ). IsSeen (slice_set seen place true) x) (sym e) (get_or-set_same seen place true false within)
  | inr other ↦ get_or-set_other seen place p true false other ∙ is
]

-- a search reaches a place that had no step
module _ (links : List Link) (steps : List Step) (seen : List Bool) (place next : ℕ) (within : place < length seen) (fresh : get_or seen place false ≡ false)
    (low : next < length steps) where
  abbrev new : Step
  new = record { place = place; next = next }

  abbrev more : List Step
  more = steps ++ new ∷ []

  abbrev now : List Bool
  now = slice_set seen place true

  many : length more ≡ length steps + 1
  many = length-append steps (new ∷ [])

  kept : (k : ℕ) → k < length steps → step more k ≡ step steps k
  kept k h = get_or_append_left steps (new ∷ []) _ k h

  last : step more (length steps) ≡ new
  last = get_or_push steps new _ (length steps) refl

  pub reached_on : GoesOn steps more seen now
  reached_on = record { many = omega (arith, many); kept = kept; places = sym (length-set seen place true); marked = λ p is. marked_more seen place p within is }

  pub reached_search : HasLink links (step steps next).place place → IsSearch links steps seen → IsSearch links more now
  reached_search has s = record {
    some = omega (arith, many);
    falls = λ k pos upto. elim (cases_lt k (length steps)) [
      | inl lt ↦ rw (kept k lt) (s.falls k pos lt)
      | inr ge ↦ let e : length steps ≡ k = omega (arith, many, upto, ge) in subst (λ (x : ℕ). (step more x).next < x) e (rw last low)
    ];
    follows = λ k pos upto. elim (cases_lt k (length steps)) [
      | inl lt ↦ let f = s.falls k pos lt in rw (kept k lt, kept (step steps k).next (omega (arith, f, lt))) (s.follows k pos lt)
      | inr ge ↦ let e : length steps ≡ k = omega (arith, many, upto, ge) in
          subst (λ (x : ℕ). HasLink links (step more (step more x).next).place (step more x).place) e (rw (last, kept next low) has)
    ];
    differ = λ j k before upto. elim (cases_lt k (length steps)) [
      | inl lt ↦ rw (kept k lt, kept j (omega (arith, before, lt))) (s.differ j k before lt)
      | inr ge ↦ λ one.
          let e : length steps ≡ k = omega (arith, many, upto, ge) in
          let hj : j < length steps = omega (arith, before, e) in
          let is : (step steps j).place ≡ place =
          ap (λ (x : Step). x.place) (sym (kept j hj)) ∙ (one ∙ (ap (λ (x : ℕ). (step more x).place) (sym e) ∙ ap (λ (x : Step). x.place) last)) in
          let twice : false ≡ true = sym fresh ∙ subst (λ (x : ℕ). IsSeen seen x) is (s.told j hj) in
          absurd (cc twice)
    ];
    told = λ k upto. elim (cases_lt k (length steps)) [
      | inl lt ↦ rw (kept k lt) (marked_more seen place (step steps k).place within (s.told k lt))
      | inr ge ↦ let e : length steps ≡ k = omega (arith, many, upto, ge) in
          subst (λ (x : ℕ). IsSeen now (step more x).place) e (rw last (get_or-set_same seen place true false within))
    ];
    found = λ p is. elim (cases_eq p place) [
      | inl e ↦ (length steps, omega (arith, many), ap (λ (x : Step). x.place) last ∙ sym e)
      | inr other ↦
          let r = s.found p (sym (get_or-set_other seen place p true false other) ∙ is) in
          (r.0, let h = r.1 in omega (arith, many, h), ap (λ (x : Step). x.place) (kept r.0 r.1) ∙ r.2)
    ];
    room =
        let one = sum_by-set (λ (b : Bool). cond b 0 1) seen place true false within in
        let was : Path ℕ (cond (get_or seen place false) 0 1) 1 = ap (λ (b : Bool). cond b 0 1) fresh in
        omega (arith, many, one, was, s.room, length-set seen place true);
  }

pub on_then : {a b c : List Step} {x y z : List Bool} → GoesOn a b x y → GoesOn b c y z → GoesOn a c x z
on_then v w = record {
  many = omega (arith, v.many, w.many);
  kept = λ k h. w.kept k (omega (arith, h, v.many)) ∙ v.kept k h;
  places = v.places ∙ w.places;
  marked = λ p is. w.marked p (v.marked p is);
}

pub on_none : (a : List Step) (x : List Bool) → GoesOn a a x x
on_none a x = record { many = omega arith; kept = λ k h. refl; places = refl; marked = λ p is. is }

-- what every place that has a step leads to has one
pub all_reached : (links : List Link) (steps : List Step) (seen : List Bool) → IsSearch links steps seen
    → ((k : ℕ) → k < length steps → Spread links seen (step steps k).place) → {i j : ℕ} → IsSeen seen i → Leads links i j → IsSeen seen j
all_reached links steps seen s spread is arrived = is
all_reached links steps seen s spread is (along {i} {k} h rest) =
    let r = s.found i is in
    let next : IsSeen seen k = spread r.0 r.1 k (subst (λ (x : ℕ). HasLink links x k) (sym r.2) h) in
    all_reached links steps seen s spread next rest

abbrev pub nolink : Link
nolink = record { from = 0; to = 0 }

pub any_link : (xs : List Link) (k : ℕ) (d e : Link) → k < length xs → get_or xs k d ≡ get_or xs k e
any_link [] k d e h = absurd (omega arith)
any_link (x ∷ xs) zero d e h = refl
any_link (x ∷ xs) (suc k) d e h = any_link xs k d e (omega arith)

-- the links from a place have been followed as far as one before which none is left out
pub record Spreading (links : List Link) (seen : List Bool) (place k : ℕ) : Type 0 where
  pub within : k ≤ length links
  pub done : (p : ℕ) → p < k → (get_or links p nolink).from ≡ place → IsSeen seen (get_or links p nolink).to
  pub behind : (p : ℕ) → k ≤ p → p < length links → place ≤ (get_or links p nolink).from

pub spread_first : (links : List Link) (seen : List Bool) (place k : ℕ) → IsFirstFrom links place k → Spreading links seen place k
spread_first links seen place k f = record {
  within = f.within;
  done = λ p low is. let below = f.below p nolink low in absurd (omega (arith, below, is));
  behind = λ p from upto. f.behind p nolink from upto;
}

pub spread_next : (links : List Link) (seen now : List Bool) (place k : ℕ) → k < length links → ((p : ℕ) → IsSeen seen p → IsSeen now p)
    → IsSeen now (get_or links k nolink).to → Spreading links seen place k → Spreading links now place (k + 1)
spread_next links seen now place k hk marked last s = record {
  within = omega arith;
  done = λ p low is. elim (cases_lt p k) [
    | inl lt ↦ marked _ (s.done p lt is)
    | inr ge ↦ let e : k ≡ p = omega (arith, low, ge) in subst (λ (x : ℕ). IsSeen now (get_or links x nolink).to) e last
  ];
  behind = λ p from upto. s.behind p (omega (arith, from)) upto;
}

pub spread_whole : (links : List Link) (seen : List Bool) (place k : ℕ) → IsNonDecreasingBy (λ l. l.from) links → Spreading links seen place k
    → (k < length links → (get_or links k nolink).from ≢ place) → Spread links seen place
spread_whole links seen place k ordered s ends end has =
    let p : ℕ = has.0 in
    let is : get_or links p nolink ≡ link place end = any_link links p nolink (link place end) has.1 ∙ has.2 in
    let from_is : (get_or links p nolink).from ≡ place = ap (λ (l : Link). l.from) is in
    elim (cases_lt p k) [
      | inl lt ↦ subst (λ (l : Link). IsSeen seen l.to) is (s.done p lt from_is)
      | inr ge ↦
          let low = has.1 in
          let hk : k < length links = omega (arith, low, ge) in
          let first = s.behind k (omega arith) hk in
          let rises = ordered k p nolink ge low in
          absurd (ends hk (omega (arith, first, rises, from_is)))
    ]

-- the link of a number is one of the list
pub has_link : (links : List Link) (k place : ℕ) → k < length links → (get_or links k nolink).from ≡ place → HasLink links place (get_or links k nolink).to
has_link links k place hk is =
    subst (λ (x : ℕ). HasLink links x (get_or links k nolink).to) is (k, hk, any_link links k (get_or links k nolink) nolink hk)

-- a link of the list ends within
pub ends_at : (links : List Link) (n k : ℕ) → EndWithin links n → k < length links → (get_or links k nolink).to < n
ends_at links n k ends hk = ends (get_or links k nolink).from (get_or links k nolink).to (k, hk, any_link links k (get_or links k nolink) nolink hk)

-- what was read at a number is the step of that number
pub read_step : (steps : List Step) (k : ℕ) (s : Step) → k < length steps → s ≡ get_or steps k s → step steps k ≡ s
read_step [] k s h e = absurd (omega arith)
read_step (x ∷ steps) zero s h e = sym e
read_step (x ∷ steps) (suc k) s h e = read_step steps k s (omega arith) e
