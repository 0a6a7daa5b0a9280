-- The nodes of the grid and their numbers: who is free, and which paths lead where.
use Rattle.std.proofs.Common.{ℕ, ◌≡◌, ◌≢◌, ◌+◌, ◌<◌, ◌⊎◌, inl, inr, List, [], ◌∷◌, map, Bool, true, false, Some, None, slice_index, arith, sym, ◌∙◌, ap, refl, subst, nat_eq}
use Rattle.std.proofs.lemmas.Bool.{cases_eq, eqb-true}
use Rattle.vlsi_base.specs.Member.{In}
use Rattle.grid_core.specs.declared.grid.Grid.{Grid}
use Rattle.grid_core.specs.declared.grid.Node.{Node}
use Rattle.grid_core.specs.Grid as field
use Rattle.grid_core.specs.Grid.{IsInGrid, IsNext, move_cost, cost_from}
use Rattle.grid_core.specs.Numbers.{nodes, number, node_of}
use Rattle.grid_core.specs.Owners as owners
use Rattle.grid_core.specs.Owners.{Owners, owner_in, owner_of}
use Rattle.grid_core.proofs.Numbers.{node_in_grid, number-node_of}
use Rattle.nero_maze.specs.Ways.{weight}
use Rattle.nero_maze.specs.Search.{IsFree, IsOwn, LeadsTo, NoneBelow}
use Rattle.nero_maze.specs.Claims.{LeadsBack}
use Rattle.nero_maze.proofs.Neighbours.{facts, move_of, way_of}

abbrev pub table : Grid → List ℕ → Owners
table g o = record { grid = g; words = o }

-- ---- words of owners
word_cases : (word : ℕ) → ((word ≡ 4294967295) × (owner_in word ≡ None)) ⊎ (owner_in word ≡ Some word)
word_cases word = by (nat_eq word 4294967295) refl
  where
    by : (b : Bool) → nat_eq word 4294967295 ≡ b → ((word ≡ 4294967295) × (owner_in word ≡ None)) ⊎ (owner_in word ≡ Some word)
    by true e = inl (eqb-true word 4294967295 e, rw e refl)
    by false e = inr (rw e refl)

pub owner_not : (word : ℕ) → word ≢ 4294967295 → owner_in word ≡ Some word
owner_not word ne = elim (word_cases word) [ inl h ↦ absurd (ne h.0) | inr h ↦ h ]

pub free_node : (g : Grid) (o : List ℕ) (net v : ℕ) → v < nodes g → IsFree o net v → owners.IsFree (table g o) net (node_of g v)
free_node g o net v lt h =
    let at : owner_of (table g o) (node_of g v) ≡ owner_in (slice_index o v) = ap (λ n. owner_in (slice_index o n)) (number-node_of g v) in
    record {
      within = node_in_grid g v lt;
      apart = elim (word_cases (slice_index o v)) [
        | inl e ↦ inl (at ∙ e.1)
        | inr e ↦ elim h [
          | inl none ↦ inl (at ∙ ap owner_in none)
          | inr mine ↦ inr (at ∙ (e ∙ ap Some mine))
        ]
      ];
    }

pub free_word : (g : Grid) (o : List ℕ) (net : ℕ) (p : Node) → owners.IsFree (table g o) net p → IsFree o net (number g p)
free_word g o net p h =
    let w = slice_index o (number g p) in
    elim (word_cases w) [
      | inl e ↦ inl e.0
      | inr e ↦ elim h.apart [
        | inl none ↦ (let both : Some w ≡ None = sym e ∙ none in absurd (cc both))
        | inr mine ↦ (let both : Some w ≡ Some net = sym e ∙ mine in inr (cc both))
      ]
    ]

-- ---- paths
pub turned : (p q : Node) → IsNext p q → IsNext q p
turned p q (field.forth e) = field.back e
turned p q (field.back e) = field.forth e
turned p q (field.up e) = field.down e
turned p q (field.down e) = field.up e

abbrev pub IsForth : Grid → List ℕ → List ℕ → ℕ → List Node → Type 0
IsForth g o l net tree = (v : ℕ) → v < nodes g → IsOwn o l net v → In (node_of g v) tree

abbrev pub IsBack : Grid → List ℕ → List ℕ → ℕ → List Node → Type 0
IsBack g o l net tree = (q : Node) → In q tree → IsInGrid g q × IsOwn o l net (number g q)

pub leads_nodes : (g : Grid) (o l : List ℕ) (net : ℕ) (tree : List Node) → IsForth g o l net tree
    → (q : ℕ) (rest : List ℕ) (c : ℕ) → q < nodes g → LeadsBack g o l net q rest c
    → field.LeadsBack (owners.IsFree (table g o) net) tree (node_of g q) (map (node_of g) rest) × (cost_from (node_of g q) (map (node_of g) rest) ≡ c)
leads_nodes g o l net tree forth q [] c lt h = (forth q lt h.0, sym h.1)
leads_nodes g o l net tree forth q (p ∷ rest) c lt (free, (k, k4, is, (b, more, e))) =
    let f = facts g q k p lt k4 is in
    let m = move_of g q k p lt k4 is in
    let r = leads_nodes g o l net tree forth p rest b f.0 more in
    let paid = m.cost in
    let cheap = r.1 in
    ((free_node g o net q lt free, turned (node_of g q) (node_of g p) m.next, r.0), rw (cheap, paid) (sym e))

-- the net's own nodes are free by these words too
abbrev pub IsKin : List ℕ → List ℕ → List ℕ → ℕ → Type 0
IsKin f o l net = (v : ℕ) → IsOwn o l net v → IsFree f net v

-- where a path begins it is free
head_free : (g : Grid) (f o l : List ℕ) (net : ℕ) (tree : List Node) → IsKin f o l net → IsBack g o l net tree → (p : Node) (rest : List Node)
    → field.LeadsBack (owners.IsFree (table g f) net) tree p rest → IsInGrid g p × IsFree f net (number g p)
head_free g f o l net tree kin ok p [] h = let b = ok p h in (b.0, kin (number g p) b.1)
head_free g f o l net tree kin ok p (r ∷ rest) h = (h.0.within, free_word g f net p h.0)

-- a way to a target, and one of a net's nodes from which it leads
pub record Comes (g : Grid) (f o l : List ℕ) (net target c : ℕ) : Type 0 where
  pub from : ℕ
  pub back : List ℕ
  pub own : IsOwn o l net from
  pub leads : LeadsTo g f net target from back c

pub leads_numbers : (g : Grid) (f o l : List ℕ) (net : ℕ) (tree : List Node) → IsKin f o l net → IsBack g o l net tree → (target : ℕ) (q : Node) (rest : List Node)
    (after : List ℕ) (b : ℕ) → IsInGrid g q → LeadsTo g f net target (number g q) after b → field.LeadsBack (owners.IsFree (table g f) net) tree q rest
    → Comes g f o l net target (b + cost_from q rest)
leads_numbers g f o l net tree kin ok target q [] after b hq lead h =
    let same : b ≡ b + 0 = omega arith in
    record { from = number g q; back = after; own = (ok q h).1; leads = subst (λ (n : ℕ). LeadsTo g f net target (number g q) after n) same lead }
leads_numbers g f o l net tree kin ok target q (p ∷ rest) after b hq lead (free, nxt, more) =
    let hp = head_free g f o l net tree kin ok p rest more in
    let w = way_of g q p hq hp.0 (turned p q nxt) in
    let r = leads_numbers g f o l net tree kin ok target p rest (number g q ∷ after) (b + weight w.way) hp.0 (hp.1, (w.way, w.few, w.leads, (b, lead, refl))) more in
    let paid = w.cost in
    let same : b + weight w.way + cost_from p rest ≡ b + (cost_from p rest + move_cost p q) = rw paid (omega arith) in
    record { from = r.from; back = r.back; own = r.own; leads = subst (λ (n : ℕ). LeadsTo g f net target r.from r.back n) same r.leads }

-- ---- where the tree is left
pub free_first : (g : Grid) (o : List ℕ) (net target v : ℕ) (after : List ℕ) (b : ℕ) → IsFree o net target → LeadsTo g o net target v after b → IsFree o net v
free_first g o net target v [] b free h = subst (λ (n : ℕ). IsFree o net n) (sym h.0) free
free_first g o net target v (u ∷ back) b free h = h.0

-- what holds of the net's own nodes holds of all that have a link: those of other nets aren't free
pub far_all : (g : Grid) (o l : List ℕ) (net target cost : ℕ) → ((v : ℕ) → slice_index l v ≢ 0 → slice_index o v ≢ 4294967295) → IsFree o net target
    → ((v : ℕ) → IsOwn o l net v → NoneBelow g o net target v cost) → (v : ℕ) → slice_index l v ≢ 0 → NoneBelow g o net target v cost
far_all g o l net target cost owned free least v nz = elim (cases_eq (slice_index o v) net) [
  | inl mine ↦ least v (nz, mine)
  | inr other ↦ (λ after b p. elim (free_first g o net target v after b free p) [
    | inl none ↦ absurd (owned v nz none)
    | inr mine ↦ absurd (other mine)
  ])
]
