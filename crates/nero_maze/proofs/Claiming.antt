-- How a path is claimed, node by node from the tree on to the target.
use Rattle.std.proofs.Common.{ℕ, ◌≡◌, ◌≢◌, ◌+◌, ◌-◌, ◌<◌, ◌≤◌, ◌⊎◌, inl, inr, List, [], ◌∷◌, length, set, Some, slice_index, arith, sym, ◌∙◌, ap, refl, subst, get_or-set_same, get_or-set_other, length-set}
use Rattle.std.proofs.lemmas.Bool.{cases_eq}
use Rattle.vlsi_base.specs.Member.{In, here, there}
use Rattle.grid_core.specs.declared.grid.Grid.{Grid}
use Rattle.grid_core.specs.Numbers.{nodes}
use Rattle.grid_core.proofs.Owners.{first_or}
use Rattle.nero_maze.specs.declared.frontier.Room.{Room}
use Rattle.nero_maze.specs.Ways.{next, weight, opposite}
use Rattle.nero_maze.specs.Search.{IsRoom, IsFree, IsOwn, NoneBelow, Trace}
use Rattle.nero_maze.specs.Claims.{LeadsBack, Told, Changed, Claimed}
use Rattle.nero_maze.proofs.Theory.{leads-trace, weight_least}

-- the links tell what is after x, or the walk begins there
abbrev pub IsTold : Grid → List ℕ → ℕ → List ℕ → ℕ → Type 0
IsTold g links x after joining = ((joining ≡ 4) × (after ≡ [])) ⊎ ((joining ≡ 0) × Told g links x after)

-- the walk has come to x
pub record Walk (net target cost : ℕ) (old new : Room) (marks : List ℕ) (x left joining : ℕ) : Type 0 where
  pub after : List ℕ
  pub rest : List ℕ
  pub room : IsRoom new
  pub grid : new.grid ≡ old.grid
  pub within : x < nodes old.grid
  pub trace : Trace old.grid old.owners.items net marks target x rest left
  pub least : NoneBelow old.grid old.owners.items net target x left
  pub far : (v : ℕ) → slice_index new.links.items v ≢ 0 → NoneBelow old.grid old.owners.items net target v left
  pub passed : ℕ
  pub leads : LeadsBack old.grid old.owners.items old.links.items net x after passed
  pub whole : passed + left ≡ cost
  pub told : IsTold old.grid new.links.items x after joining
  pub short : length after + length rest < nodes old.grid
  pub changed : Changed net (x ∷ after) old.owners.items old.links.items new.owners.items new.links.items

-- links that stay where they are not 0 tell the same
pub Told-more : (g : Grid) (links links' : List ℕ) → ((v : ℕ) → slice_index links v ≢ 0 → slice_index links' v ≡ slice_index links v)
    → (q : ℕ) (rest : List ℕ) → Told g links q rest → Told g links' q rest
Told-more g l l' f q [] t = t
Told-more g l l' f q (p ∷ []) (k, k4, link, is) =
    let ne : slice_index l q ≢ 0 = omega arith in (k, k4, f q ne ∙ link, is)
Told-more g l l' f q (p ∷ r ∷ rest) (k, k4, link, is, more) =
    let ne : slice_index l q ≢ 0 = omega arith in (k, k4, f q ne ∙ link, is, Told-more g l l' f p (r ∷ rest) more)

-- one node more that tells
told_step : (g : Grid) (links links' : List ℕ) (u x : ℕ) (after : List ℕ) (k joining : ℕ) → k < 4 → slice_index links' u ≡ k + 1 + joining → next g u k ≡ Some x
    → ((v : ℕ) → slice_index links v ≢ 0 → slice_index links' v ≡ slice_index links v)
    → IsTold g links x after joining → Told g links' u (x ∷ after)
told_step g l l' u x [] k j k4 link is f (inl t) = let t0 = t.0 in (k, k4, omega arith, is)
told_step g l l' u x (y ∷ after) k j k4 link is f (inl t) = let e = ap (λ (xs : List ℕ). length xs) t.1 in let impossible : ⊥ = omega arith in absurd impossible
told_step g l l' u x [] k j k4 link is f (inr t) = absurd t.1
told_step g l l' u x (y ∷ after) k j k4 link is f (inr t) =
    let t0 = t.0 in (k, k4, omega arith, is, Told-more g l l' f x (y ∷ after) t.1)

-- what a walk from a node that isn't the target finds there
pub record Turn (net target : ℕ) (old new : Room) (marks : List ℕ) (x left : ℕ) : Type 0 where
  pub on : ℕ
  pub rest : List ℕ
  pub way : ℕ
  pub few : way < 4
  pub mark : slice_index marks x ≡ way + 1
  pub ahead : next old.grid x (opposite way) ≡ Some on
  pub behind : next old.grid on way ≡ Some x
  pub free : IsFree old.owners.items net x
  pub enough : weight way ≤ left
  pub trace : Trace old.grid old.owners.items net marks target on rest (left - weight way)

pub turn : (net target cost : ℕ) (old new : Room) (marks : List ℕ) (x left joining : ℕ) → (w : Walk net target cost old new marks x left joining)
    → slice_index marks x ≢ 5 → (t : Turn net target old new marks x left) × (w.rest ≡ t.on ∷ t.rest)
turn net target cost old new marks x left joining w ne = by w.rest refl w.trace
  where
    by : (rest : List ℕ) → w.rest ≡ rest → Trace old.grid old.owners.items net marks target x rest left → (t : Turn net target old new marks x left) × (w.rest ≡ t.on ∷ t.rest)
    by [] e tr = absurd (ne tr.0)
    by (u ∷ q) e (free, (k, k4, is, mark, from_is, (b, tr, sum))) =
        let rest_is : left - weight k ≡ b = omega arith in (
          record {
            on = u;
            rest = q;
            way = k;
            few = k4;
            mark = mark;
            ahead = from_is;
            behind = is;
            free = free;
            enough = omega arith;
            trace = rw rest_is tr;
          },
          e,
        )

-- the node that a walk goes on to is free
free_on : (g : Grid) (o : List ℕ) (t : ℕ) (m : List ℕ) (z u : ℕ) (rest : List ℕ) (c : ℕ) → IsFree o t z → Trace g o t m z u rest c → IsFree o t u
free_on g o t m z u [] c free tr = subst (λ (v : ℕ). IsFree o t v) (sym tr.1) free
free_on g o t m z u (v ∷ rest) c free tr = tr.0

pub walk_begin : (net target : ℕ) (old : Room) (marks : List ℕ) (x cost : ℕ) → IsRoom old → x < nodes old.grid → IsOwn old.owners.items old.links.items net x
    → (t : (back : List ℕ) × (length back < nodes old.grid) × Trace old.grid old.owners.items net marks target x back cost)
    → ((v : ℕ) → slice_index old.links.items v ≢ 0 → NoneBelow old.grid old.owners.items net target v cost)
    → Walk net target cost old old marks x cost 4
walk_begin net target old marks x cost room within own t far =
    record {
      after = [];
      rest = t.0;
      room = room;
      grid = refl;
      within = within;
      trace = t.2;
      least = far x own.0;
      far = far;
      passed = 0;
      leads = (own, refl);
      whole = omega arith;
      told = inl (refl, refl);
      short = (let h = t.1 in omega arith);
      changed = record {
        mine = λ v i. elim (first_or v x [] i) [
          | inl e ↦ (let own' : IsOwn old.owners.items old.links.items net v = subst (λ (w : ℕ). IsOwn old.owners.items old.links.items net w) (sym e) own in (own'.1, own'.0))
          | inr g ↦ elim g [ ]
        ];
        kept = λ v nz. (refl, refl);
        others = λ v out. (refl, refl);
      };
    }

-- the node that a walk goes on to has no link yet, since none that has leads to the target at so little cost
fresh : (net target cost : ℕ) (old mid : Room) (marks : List ℕ) (x left joining : ℕ) → Walk net target cost old mid marks x left joining
    → (t : Turn net target old mid marks x left) → slice_index mid.links.items t.on ≡ 0
fresh net target cost old mid marks x left joining w t = elim (cases_eq (slice_index mid.links.items t.on) 0) [
  | inl e ↦ e
  | inr ne ↦ (
      let low = w.far t.on ne t.rest (left - weight t.way) (leads-trace old.grid old.owners.items net target marks t.on t.rest (left - weight t.way) t.trace) in
      let some = weight_least t.way in
      let enough = t.enough in
      let impossible : ⊥ = omega arith in absurd impossible)
]

pub changed_more : (net u link : ℕ) (path o l mo ml po pl : List ℕ) → po ≡ set mo u net → pl ≡ set ml u link → link ≢ 0 → u < length mo → u < length ml
    → slice_index ml u ≡ 0 → Changed net path o l mo ml → Changed net (u ∷ path) o l po pl
changed_more net u link path o l mo ml po pl eo el nz lo ll z h =
    let other : (v : ℕ) → v ≢ u → (slice_index po v ≡ slice_index mo v) × (slice_index pl v ≡ slice_index ml v) =
    λ v ne. (rw eo (get_or-set_other mo u v net 0 ne), rw el (get_or-set_other ml u v link 0 ne)) in
    record {
      mine = λ v i. elim (first_or v u path i) [
        | inl e ↦ (rw (eo, e) (get_or-set_same mo u net 0 lo), (let is : slice_index pl v ≡ link = rw (el, e) (get_or-set_same ml u link 0 ll) in λ z'. nz (sym is ∙ z')))
        | inr i' ↦ (
            let m = h.mine v i' in
            let ne : v ≢ u = λ e. m.1 (ap (λ w. slice_index ml w) e ∙ z) in
            let same = other v ne in
            (same.0 ∙ m.0, λ z'. m.1 (sym same.1 ∙ z')))
      ];
      kept = λ v some.
          let k = h.kept v some in
          let ne : v ≢ u = λ e. some (sym k.1 ∙ (ap (λ w. slice_index ml w) e ∙ z)) in
          let same = other v ne in (same.0 ∙ k.0, same.1 ∙ k.1);
      others = λ v out.
          let ne : v ≢ u = λ e. out (subst (λ (w : ℕ). In w (u ∷ path)) (sym e) here) in
          let same = other v ne in
          let k = h.others v (λ i. out (there i)) in (same.0 ∙ k.0, same.1 ∙ k.1);
    }

pub walk_on : (net target cost : ℕ) (old mid new : Room) (marks : List ℕ) (x left joining link : ℕ) → (w : Walk net target cost old mid marks x left joining)
    → (t : Turn net target old mid marks x left) → w.rest ≡ t.on ∷ t.rest → IsFree old.owners.items net target → t.on < nodes old.grid
    → new.grid ≡ mid.grid → new.owners.items ≡ set mid.owners.items t.on net → new.links.items ≡ set mid.links.items t.on link → link ≡ t.way + 1 + joining
    → Walk net target cost old new marks t.on (left - weight t.way) 0
walk_on net target cost old mid new marks x left joining link w t rest_is free u_lt eg eo el link_is =
    let g = old.grid in
    let o = old.owners.items in
    let u = t.on in
    let k = t.way in
    let ml = mid.links.items in
    let mo = mid.owners.items in
    let some = weight_least k in
    let enough = t.enough in
    let z = fresh net target cost old mid marks x left joining w t in
    let sized : length mo ≡ nodes g = w.room.owners ∙ ap nodes w.grid in
    let sized_l : length ml ≡ nodes g = w.room.links ∙ ap nodes w.grid in
    let lo : u < length mo = omega arith in
    let ll : u < length ml = omega arith in
    let same_u = get_or-set_same ml u link 0 ll in
    let stays : (v : ℕ) → slice_index ml v ≢ 0 → slice_index new.links.items v ≡ slice_index ml v =
    λ v nz. let ne : v ≢ u = (λ e. nz (ap (λ i. slice_index ml i) e ∙ z)) in rw el (get_or-set_other ml u v link 0 ne) in
    let least : NoneBelow g o net target u (left - weight k) =
    λ back b p. let h = w.least (u ∷ back) (b + weight k) (t.free, (k, t.few, t.behind, (b, p, refl))) in omega arith in
    let nz : link ≢ 0 = omega arith in
    record {
      after = x ∷ w.after;
      rest = t.rest;
      room = record {
        few = rw eg w.room.few;
        owners = rw (eo, eg) (length-set mo u net ∙ w.room.owners);
        links = rw (el, eg) (length-set ml u link ∙ w.room.links);
      };
      grid = eg ∙ w.grid;
      within = u_lt;
      trace = t.trace;
      least = least;
      far = λ v some_v. elim (cases_eq v u) [
        | inl e ↦ subst (λ (i : ℕ). NoneBelow g o net target i (left - weight k)) (sym e) least
        | inr ne ↦ (
            let before : slice_index ml v ≢ 0 = (let same : slice_index new.links.items v ≡ slice_index ml v = rw el (get_or-set_other ml u v link 0 ne) in λ z'. some_v (same ∙ z')) in
            λ back b p. let h = w.far v before back b p in omega arith)
      ];
      passed = w.passed + weight k;
      leads = (free_on g o net marks target u t.rest (left - weight k) free t.trace, (k, t.few, t.behind, (w.passed, w.leads, refl)));
      whole = (let h = w.whole in omega arith);
      told = inr (refl, told_step g ml new.links.items u x w.after k joining t.few (rw el (same_u ∙ link_is)) t.behind stays w.told);
      short = (let e = ap (λ (xs : List ℕ). length xs) rest_is in let h = w.short in omega arith);
      changed = changed_more net u link (x ∷ w.after) o old.links.items mo ml new.owners.items new.links.items eo el nz lo ll z w.changed;
    }

pub walk_end : (net target cost : ℕ) (old new : Room) (marks : List ℕ) (x left joining : ℕ) → Walk net target cost old new marks x left joining
    → slice_index marks x ≡ 5 → (IsOwn old.owners.items old.links.items net target → ⊥) → (rest : List ℕ) × Claimed net target cost old new rest
walk_end net target cost old new marks x left joining w five outside =
    let is = there_is w.rest w.trace in
    let whole = w.whole in
    let all : w.passed ≡ cost = (let z = is.1 in omega arith) in
    let told : Told old.grid new.links.items x w.after = elim w.told [
      | inl t ↦ absurd (outside (by w.after t.1 w.leads is.0))
      | inr t ↦ t.1
    ] in (
      w.after,
      record {
        grid = w.grid;
        leads = subst (λ (c : ℕ). LeadsBack old.grid old.owners.items old.links.items net target w.after c) all
            (subst (λ (v : ℕ). LeadsBack old.grid old.owners.items old.links.items net v w.after w.passed) is.0 w.leads);
        told = subst (λ (v : ℕ). Told old.grid new.links.items v w.after) is.0 told;
        short = (let h = w.short in omega arith);
        changed = subst (λ (v : ℕ). Changed net (v ∷ w.after) old.owners.items old.links.items new.owners.items new.links.items) is.0 w.changed;
      },
    )
  where
    there_is : (rest : List ℕ) → Trace old.grid old.owners.items net marks target x rest left → (x ≡ target) × (left ≡ 0)
    there_is [] tr = (tr.1, tr.2)
    there_is (u ∷ q) (free, (k, k4, is, mark, from_is, more)) = let impossible : ⊥ = omega arith in absurd impossible

    by : (after : List ℕ) → after ≡ [] → LeadsBack old.grid old.owners.items old.links.items net x after w.passed → x ≡ target → IsOwn old.owners.items old.links.items net target
    by [] e h at = subst (λ (v : ℕ). IsOwn old.owners.items old.links.items net v) at h.0
    by (y ∷ ys) e h at = absurd (cc e)
