-- Nodes of a net's paths are freed one after another.
use Rattle.std.proofs.Common.{ℕ, ◌≡◌, ◌≢◌, ◌+◌, ◌-◌, ◌*◌, ◌%◌, ◌<◌, ◌≤◌, ◌⊎◌, inl, inr, List, [], ◌∷◌, zero, suc, length, Bool, Option, None, Some, set, slice_index, arith, sym, ◌∙◌, ap, refl, subst, get_or-set_same, get_or-set_other, length-set}
use Rattle.std.proofs.lemmas.Bool.{cases_eq}
use Rattle.std.specs.Prelude.{IfSome}
use Rattle.grid_core.specs.declared.grid.Grid.{Grid}
use Rattle.grid_core.specs.Numbers.{nodes}
use Rattle.nero_maze.specs.declared.frontier.Room.{Room}
use Rattle.nero_maze.specs.Ways.{next}
use Rattle.nero_maze.specs.Search.{IsRoom, zeros, reserved_in}
use Rattle.nero_maze.specs.Ripping.{IsOnPath, IsFreedFrom, IsFreedAt, onward}
use Rattle.nero_maze.proofs.Reserving.{reserved_flagged, reserved_same}
use Rattle.nero_maze.proofs.Shortening.{below_links, zeros_clear}

pub on_path : (net : ℕ) (r : Room) (v : ℕ) → IsOnPath net r v ⊎ (IsOnPath net r v → ⊥)
on_path net r v = elim (cases_eq (slice_index r.links.items v) 0) [
  | inl z ↦ inr (λ p. p.linked z)
  | inr linked ↦ elim (cases_eq (slice_index r.links.items v) 9) [
    | inl nine ↦ inr (λ p. p.joined nine)
    | inr joined ↦ elim (cases_eq (slice_index r.owners.items v) net) [
      | inl own ↦ inl (record { linked = linked; joined = joined; own = own })
      | inr other ↦ inr (λ p. other p.own)
    ]
  ]
]

-- the owner and the link of the node are those before
abbrev pub IsKept : Room → Room → ℕ → Type 0
IsKept old new v = (slice_index new.owners.items v ≡ slice_index old.owners.items v) × (slice_index new.links.items v ≡ slice_index old.links.items v)

-- or it was on a path, and is free for whom it is reserved
abbrev pub IsGone : ℕ → List ℕ → Room → Room → ℕ → Type 0
IsGone net reserved old new v = IsOnPath net old v × (slice_index new.owners.items v ≡ slice_index reserved v) × (slice_index new.links.items v ≡ 0)

-- what is on a path by arrays that have the same there
on_same : (net : ℕ) (r r' : Room) (v : ℕ) → IsKept r r' v → IsOnPath net r v → IsOnPath net r' v
on_same net r r' v kept p = record { linked = λ z. p.linked (sym kept.1 ∙ z); joined = λ n. p.joined (sym kept.1 ∙ n); own = kept.0 ∙ p.own }

on_back : (net : ℕ) (r r' : Room) (v : ℕ) → IsKept r r' v → IsOnPath net r' v → IsOnPath net r v
on_back net r r' v kept p = on_same net r' r v (sym kept.0, sym kept.1) p

onward_same : (r r' : Room) (v : ℕ) → r'.grid ≡ r.grid → slice_index r'.links.items v ≡ slice_index r.links.items v → onward r' v ≡ onward r v
onward_same r r' v grid link = ap (λ (g : Grid). next g v ((slice_index r'.links.items v - 1) % 4)) grid ∙ ap (λ (l : ℕ). next r.grid v ((l - 1) % 4)) link

-- ---- one walk, node by node

-- the nodes before the next one have been freed
pub record Walks (net : ℕ) (reserved : List ℕ) (end : ℕ) (old new : Room) (at : Option ℕ) : Type 0 where
  pub room : IsRoom new
  pub grid : new.grid ≡ old.grid
  pub within : IfSome at (λ v. v < nodes old.grid)
  pub either : (v : ℕ) → IsKept old new v ⊎ IsGone net reserved old new v
  pub ended : IsOnPath net old end → (slice_index new.links.items end ≡ 0) ⊎ (at ≡ Some end)
  pub closed : (v w : ℕ) → IsOnPath net old v → slice_index new.links.items v ≡ 0 → onward old v ≡ Some w → IsOnPath net old w
      → (slice_index new.links.items w ≡ 0) ⊎ (at ≡ Some w)

pub walks_begin : (net : ℕ) (reserved : List ℕ) (end : ℕ) (old : Room) → IsRoom old → end < nodes old.grid → Walks net reserved end old old (Some end)
walks_begin net reserved end old room lt = record {
  room = room;
  grid = refl;
  within = lt;
  either = λ v. inl (refl, refl);
  ended = λ on. inr refl;
  closed = λ v w on z is on'. absurd (on.linked z);
}

some_one : (v w : ℕ) → Some v ≡ Some w → v ≡ w
some_one v w e = cc

-- what is reserved stays
pub walks_reserved : (net : ℕ) (flags : List Bool) (old new : Room) → IsRoom old → IsRoom new → new.grid ≡ old.grid
    → ((v : ℕ) → IsKept old new v ⊎ IsGone net (reserved_in old.owners.items flags) old new v)
    → reserved_in new.owners.items flags ≡ reserved_in old.owners.items flags
walks_reserved net flags old new room room' grid either =
    let size : length new.owners.items ≡ length old.owners.items = (let x = room'.owners in let y = room.owners in let z = ap nodes grid in omega arith) in
    reserved_same old.owners.items new.owners.items flags size (λ v lt flag. elim (either v) [
      | inl kept ↦ kept.0
      | inr gone ↦ gone.1 ∙ reserved_flagged old.owners.items flags v lt flag
    ])

module _ (net : ℕ) (reserved : List ℕ) (end : ℕ) (old mid after : Room) (node : ℕ) (at : Option ℕ) (lt : node < nodes old.grid) (h : Walks net reserved end old mid (Some node))
    (s : IsFreedAt net reserved node mid after) (within : IfSome at (λ v. v < nodes old.grid)) where
  -- the node was freed before, or was never on a path
  walks_off : (IsOnPath net mid node → ⊥) → at ≡ None → Walks net reserved end old after at
  walks_off off none =
      let same = s.same off in
      let gone : IsOnPath net old node → slice_index mid.links.items node ≡ 0 = λ on. elim (h.either node) [
        | inl kept ↦ absurd (off (on_same net old mid node kept on))
        | inr gone ↦ gone.2
      ] in
      subst (λ (r : Room). Walks net reserved end old r at) (sym same) (record {
        room = h.room;
        grid = h.grid;
        within = within;
        either = h.either;
        ended = λ on. elim (h.ended on) [
          | inl z ↦ inl z
          | inr is ↦ (
              let e = some_one node end is in
              inl (subst (λ (w : ℕ). slice_index mid.links.items w ≡ 0) e (gone (subst (λ (w : ℕ). IsOnPath net old w) (sym e) on))))
        ];
        closed = λ v w on z is on'. elim (h.closed v w on z is on') [
          | inl z' ↦ inl z'
          | inr is' ↦ (
              let e = some_one node w is' in
              inl (subst (λ (u : ℕ). slice_index mid.links.items u ≡ 0) e (gone (subst (λ (u : ℕ). IsOnPath net old u) (sym e) on'))))
        ];
      })

  -- it is freed now
  walks_one : IsOnPath net mid node → at ≡ onward mid node → Walks net reserved end old after at
  walks_one on next_is =
      let word = slice_index reserved node in
      let f = s.freed on in
      let lo : node < length mid.owners.items = (let e = h.room.owners in let g = ap nodes h.grid in omega arith) in
      let ll : node < length mid.links.items = (let e = h.room.links in let g = ap nodes h.grid in omega arith) in
      let here_o : slice_index after.owners.items node ≡ word = rw f.0 (get_or-set_same mid.owners.items node word 0 lo) in
      let here_l : slice_index after.links.items node ≡ 0 = rw f.1 (get_or-set_same mid.links.items node 0 0 ll) in
      let off_o : (v : ℕ) → v ≢ node → slice_index after.owners.items v ≡ slice_index mid.owners.items v =
      λ v ne. rw f.0 (get_or-set_other mid.owners.items node v word 0 ne) in
      let off_l : (v : ℕ) → v ≢ node → slice_index after.links.items v ≡ slice_index mid.links.items v =
      λ v ne. rw f.1 (get_or-set_other mid.links.items node v 0 0 ne) in
      let zero_still : (v : ℕ) → slice_index mid.links.items v ≡ 0 → slice_index after.links.items v ≡ 0 = λ v z. elim (cases_eq v node) [
        | inl e ↦ ap (λ (u : ℕ). slice_index after.links.items u) e ∙ here_l
        | inr ne ↦ off_l v ne ∙ z
      ] in
      let kept_here : IsKept old mid node = elim (h.either node) [ inl kept ↦ kept | inr gone ↦ absurd (on.linked gone.2) ] in
      record {
        room = record {
          few = rw s.grid h.room.few;
          owners = rw (f.0, s.grid) (length-set mid.owners.items node word ∙ h.room.owners);
          links = rw (f.1, s.grid) (length-set mid.links.items node 0 ∙ h.room.links);
        };
        grid = s.grid ∙ h.grid;
        within = within;
        either = λ v. elim (cases_eq v node) [
          | inl e ↦ inr (
            subst (λ (u : ℕ). IsOnPath net old u) (sym e) (on_back net old mid node kept_here on),
            ap (λ (u : ℕ). slice_index after.owners.items u) e ∙ (here_o ∙ ap (λ (u : ℕ). slice_index reserved u) (sym e)),
            ap (λ (u : ℕ). slice_index after.links.items u) e ∙ here_l,
          )
          | inr ne ↦ elim (h.either v) [
            | inl kept ↦ inl (off_o v ne ∙ kept.0, off_l v ne ∙ kept.1)
            | inr gone ↦ inr (gone.0, off_o v ne ∙ gone.1, off_l v ne ∙ gone.2)
          ]
        ];
        ended = λ on'. elim (h.ended on') [
          | inl z ↦ inl (zero_still end z)
          | inr is ↦ inl (subst (λ (u : ℕ). slice_index after.links.items u ≡ 0) (some_one node end is) here_l)
        ];
        closed = λ v w was z is was'. elim (cases_eq v node) [
          | inl e ↦ inr (next_is ∙ (onward_same old mid node h.grid kept_here.1 ∙ (ap (λ (u : ℕ). onward old u) (sym e) ∙ is)))
          | inr ne ↦ elim (h.closed v w was (sym (off_l v ne) ∙ z) is was') [
            | inl z' ↦ inl (zero_still w z')
            | inr is' ↦ inl (subst (λ (u : ℕ). slice_index after.links.items u ≡ 0) (some_one node w is') here_l)
          ]
        ];
      }

  pub walks_next : (IsOnPath net mid node → at ≡ onward mid node) → ((IsOnPath net mid node → ⊥) → at ≡ None) → Walks net reserved end old after at
  walks_next on none = elim (on_path net mid node) [
    | inl is ↦ walks_one is (on is)
    | inr not ↦ walks_off not (none not)
  ]

pub walks_end : (net : ℕ) (reserved : List ℕ) (end : ℕ) (old new : Room) (at : Option ℕ) → at ≡ None → Walks net reserved end old new at
    → IsFreedFrom net reserved (λ v. v ≡ end) old new
walks_end net reserved end old new at none h =
    let not : (v : ℕ) → at ≡ Some v → ⊥ = λ v is. (let no : ◌≡◌ {A = Option ℕ} None (Some v) = sym none ∙ is in absurd (cc no)) in
    record {
      room = h.room;
      grid = h.grid;
      either = h.either;
      ended = λ v is on. subst (λ (u : ℕ). slice_index new.links.items u ≡ 0) (sym is) (elim (h.ended (subst (λ (u : ℕ). IsOnPath net old u) is on)) [
        | inl z ↦ z
        | inr more ↦ absurd (not end more)
      ]);
      closed = λ v w on z is on'. elim (h.closed v w on z is on') [ inl z' ↦ z' | inr more ↦ absurd (not w more) ];
    }

-- how many nodes are left to free, and one more where there is a next one
zeros_few : (xs : List ℕ) → zeros xs ≤ length xs
zeros_few [] = omega arith
zeros_few (zero ∷ xs) = let r = zeros_few xs in omega arith
zeros_few (suc x ∷ xs) = let r = zeros_few xs in omega arith

abbrev one_more : Option ℕ → ℕ
one_more None = 0
one_more (Some v) = 1

abbrev pub left_to_free : Room → Option ℕ → ℕ
left_to_free r at = 2 * (length r.links.items - zeros r.links.items) + one_more at

one_at_most : (at : Option ℕ) → one_more at ≤ 1
one_at_most None = omega arith
one_at_most (Some v) = omega arith

pub left_less : (net : ℕ) (reserved : List ℕ) (mid after : Room) (node : ℕ) (at : Option ℕ) → IsFreedAt net reserved node mid after
    → ((IsOnPath net mid node → ⊥) → at ≡ None) → left_to_free after at < left_to_free mid (Some node)
left_less net reserved mid after node at s none = elim (on_path net mid node) [
  | inl on ↦ (
      let f = s.freed on in
      let lt = below_links mid.links.items node on.linked in
      let more = zeros_clear mid.links.items node on.linked lt in
      let few = zeros_few (set mid.links.items node 0) in
      let size = length-set mid.links.items node 0 in
      let one = one_at_most at in
      rw f.1 (omega (arith, more, few, size, one)))
  | inr not ↦ (
      let e = s.same not in
      let z = none not in
      rw (e, z) (omega arith))
]

-- ---- one walk after another

pub freed_none : (net : ℕ) (reserved : List ℕ) (ends : ℕ → Type 0) (old : Room) → IsRoom old → ((v : ℕ) → ends v → ⊥) → IsFreedFrom net reserved ends old old
freed_none net reserved ends old room none = record {
  room = room;
  grid = refl;
  either = λ v. inl (refl, refl);
  ended = λ v is. absurd (none v is);
  closed = λ v w on z. absurd (on.linked z);
}

pub freed_both : (net : ℕ) (reserved : List ℕ) (ends more all : ℕ → Type 0) (old mid new : Room) → IsFreedFrom net reserved ends old mid → IsFreedFrom net reserved more mid new
    → ((v : ℕ) → all v → ends v ⊎ more v) → IsFreedFrom net reserved all old new
freed_both net reserved ends more all old mid new a b which =
    let still : (v : ℕ) → slice_index mid.links.items v ≡ 0 → slice_index new.links.items v ≡ 0 = λ v z. elim (b.either v) [
      | inl kept ↦ kept.1 ∙ z
      | inr gone ↦ gone.2
    ] in
    -- on a path that goes, or gone already
    let mid_on : (v : ℕ) → IsOnPath net old v → IsOnPath net mid v ⊎ (slice_index mid.links.items v ≡ 0) = λ v on. elim (a.either v) [
      | inl kept ↦ inl (on_same net old mid v kept on)
      | inr gone ↦ inr gone.2
    ] in
    record {
      room = b.room;
      grid = b.grid ∙ a.grid;
      either = λ v. elim (a.either v) [
        | inl kept ↦ elim (b.either v) [
          | inl kept' ↦ inl (kept'.0 ∙ kept.0, kept'.1 ∙ kept.1)
          | inr gone ↦ inr (on_back net old mid v kept gone.0, gone.1, gone.2)
        ]
        | inr gone ↦ elim (b.either v) [
          | inl kept ↦ inr (gone.0, kept.0 ∙ gone.1, kept.1 ∙ gone.2)
          | inr again ↦ inr (gone.0, again.1, again.2)
        ]
      ];
      ended = λ v is on. elim (mid_on v on) [
        | inr z ↦ still v z
        | inl on' ↦ elim (which v is) [
          | inl before ↦ absurd (on'.linked (a.ended v before on))
          | inr now ↦ b.ended v now on'
        ]
      ];
      closed = λ v w on z is on'. elim (mid_on w on') [
        | inr z' ↦ still w z'
        | inl w_mid ↦ elim (a.either v) [
          | inr gone ↦ absurd (w_mid.linked (a.closed v w on gone.2 is on'))
          | inl kept ↦ b.closed v w (on_same net old mid v kept on) z (onward_same old mid v a.grid kept.1 ∙ is) w_mid
        ]
      ];
    }
