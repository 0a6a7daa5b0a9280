-- Moves without those that gave a net its paths.
use Rattle.std.proofs.Common.{ℕ, ◌≡◌, ◌≢◌, inl, inr, List, [], ◌∷◌, ◌++◌, Bool, true, false, Option, Some, None, sym, ◌∙◌, ap, refl, subst, nat_eq}
use Rattle.std.specs.Prelude.{filter, cond}
use Rattle.std.proofs.lemmas.Bool.{cases_eq, eq-eqb}
use Rattle.vlsi_base.specs.Member.{In, here, there}
use Rattle.grid_core.specs.declared.grid.Node.{Node}
use Rattle.grid_core.specs.Routes.{Tree, tree_nodes, grown}
use Rattle.nero_maze.specs.Routing.{Move, Began, Joined, routes_of, first_alone}
use Rattle.nero_maze.specs.Board.{AreBegun}
use Rattle.nero_maze.proofs.Growth.{test_other, joined_grows, began_grows}

-- a move that gave net k no path
abbrev pub keeps : ℕ → Move → Bool
keeps net (Began k q) = true
keeps net (Joined k path) = cond (nat_eq k net) false true

keeps_other : (net k : ℕ) (path : List Node) → k ≢ net → keeps net (Joined k path) ≡ true
keeps_other net k path ne = rw (test_other k net ne) refl

keeps_not : (net k : ℕ) (path : List Node) → k ≡ net → keeps net (Joined k path) ≡ false
keeps_not net k path e = rw (eq-eqb k net e) refl

-- the trees are those before, but for the net's, which is its first point alone
pub record Cut (net : ℕ) (ms ms' : List Move) : Type 0 where
  pub begun : AreBegun ms'
  pub others : (k : ℕ) → k ≢ net → routes_of ms' k ≡ routes_of ms k
  pub alone : routes_of ms' net ≡ first_alone (routes_of ms net)

alone_grown : (path : List Node) (t : Option Tree) → first_alone (grown path t) ≡ first_alone t
alone_grown path None = refl
alone_grown path (Some t) = refl

began_at : (before : List Move) (k : ℕ) (q : Node) (j : ℕ) → j ≡ k → routes_of (Began k q ∷ before) j ≡ Some (record { start = q; paths = [] })
began_at before k q j e = rw (eq-eqb j k e) refl

began_off : (before : List Move) (k : ℕ) (q : Node) (j : ℕ) → j ≢ k → routes_of (Began k q ∷ before) j ≡ routes_of before j
began_off before k q j ne = rw (test_other j k ne) refl

joined_at : (before : List Move) (k : ℕ) (path : List Node) (j : ℕ) → j ≡ k → routes_of (Joined k path ∷ before) j ≡ grown path (routes_of before k)
joined_at before k path j e = rw (eq-eqb j k e) refl

joined_off : (before : List Move) (k : ℕ) (path : List Node) (j : ℕ) → j ≢ k → routes_of (Joined k path ∷ before) j ≡ routes_of before j
joined_off before k path j ne = rw (test_other j k ne) refl

pub cut : (net : ℕ) (ms : List Move) → AreBegun ms → Cut net ms (filter (keeps net) ms)
cut net [] h = record { begun = tt; others = λ k ne. refl; alone = refl }
cut net (Began k q ∷ before) (none, h) =
    let r = cut net before h in
    let before' = filter (keeps net) before in
    record {
      begun = (
        elim (cases_eq k net) [
          | inl e ↦ ap (routes_of before') e ∙ (r.alone ∙ (ap (λ (j : ℕ). first_alone (routes_of before j)) (sym e) ∙ ap first_alone none))
          | inr ne ↦ r.others k ne ∙ none
        ],
        r.begun,
      );
      others = λ j ne. elim (cases_eq j k) [
        | inl e ↦ began_at before' k q j e ∙ sym (began_at before k q j e)
        | inr off ↦ began_off before' k q j off ∙ (r.others j ne ∙ sym (began_off before k q j off))
      ];
      alone = elim (cases_eq net k) [
        | inl e ↦ began_at before' k q net e ∙ ap first_alone (sym (began_at before k q net e))
        | inr off ↦ began_off before' k q net off ∙ (r.alone ∙ ap first_alone (sym (began_off before k q net off)))
      ];
    }
cut net (Joined k path ∷ before) (tree, h) =
    let r = cut net before h in
    elim (cases_eq k net) [
      | inl e ↦ (
          let test = keeps_not net k path e in
          rw test (record {
            begun = r.begun;
            others = λ j ne. r.others j ne ∙ sym (joined_off before k path j (λ same. ne (same ∙ e)));
            alone = r.alone ∙ (ap (λ (j : ℕ). first_alone (routes_of before j)) (sym e) ∙ (sym (alone_grown path (routes_of before k)) ∙ ap first_alone (sym (joined_at before k path net (sym e)))));
          }))
      | inr ne ↦ (
          let test = keeps_other net k path ne in
          rw test (record {
            begun = ((tree.0, r.others k ne ∙ tree.1), r.begun);
            others = λ j off. elim (cases_eq j k) [
              | inl e ↦ joined_at (filter (keeps net) before) k path j e ∙ (ap (grown path) (r.others k ne) ∙ sym (joined_at before k path j e))
              | inr other ↦ joined_off (filter (keeps net) before) k path j other ∙ (r.others j off ∙ sym (joined_off before k path j other))
            ];
            alone =
                let off : net ≢ k = λ e. ne (sym e) in
                joined_off (filter (keeps net) before) k path net off ∙ (r.alone ∙ ap first_alone (sym (joined_off before k path net off)));
          }))
    ]

-- ---- what is known of moves that were made

-- the nodes of a path that a net got are in its tree
pub path_known : (ms : List Move) → AreBegun ms → (k : ℕ) (path : List Node) → In (Joined k path) ms → (q : Node) → In q path → In q (tree_nodes (routes_of ms k))
path_known [] h k path i q iq = elim i [ ]
path_known (m ∷ before) h k path here q iq = (joined_grows (routes_of before) k path h.0.0 h.0.1).fresh q iq
path_known (Began j q0 ∷ before) h k path (there i) q iq = (began_grows (routes_of before) j q0 h.0).old k q (path_known before h.1 k path i q iq)
path_known (Joined j p ∷ before) h k path (there i) q iq = (joined_grows (routes_of before) j p h.0.0 h.0.1).old k q (path_known before h.1 k path i q iq)

-- a tree that began has begun at that node
pub start_known : (ms : List Move) → AreBegun ms → (k : ℕ) (q : Node) → In (Began k q) ms → (t : Tree) × (routes_of ms k ≡ Some t) × (t.start ≡ q)
start_known [] h k q i = elim i [ ]
start_known (m ∷ before) h k q here = (record { start = q; paths = [] }, began_at before k q k refl, refl)
start_known (Began j p ∷ before) h k q (there i) =
    let (t, is, at) = start_known before h.1 k q i in
    elim (cases_eq k j) [
      | inl e ↦ (let both : None ≡ Some t = sym (ap (routes_of before) e ∙ h.0) ∙ is in absurd (cc both))
      | inr ne ↦ (t, began_off before j p k ne ∙ is, at)
    ]
start_known (Joined j p ∷ before) h k q (there i) =
    let (t, is, at) = start_known before h.1 k q i in
    elim (cases_eq k j) [
      | inl e ↦ (record { start = t.start; paths = t.paths ++ p ∷ [] }, joined_at before j p k e ∙ ap (grown p) (ap (routes_of before) (sym e) ∙ is), at)
      | inr ne ↦ (t, joined_off before j p k ne ∙ is, at)
    ]

-- and one that has begun did so by a move
pub began_known : (ms : List Move) (k : ℕ) (t : Tree) → routes_of ms k ≡ Some t → In (Began k t.start) ms
began_known [] k t is = let no : None ≡ Some t = is in absurd (cc no)
began_known (Began j q ∷ before) k t is = elim (cases_eq k j) [
  | inl e ↦ (
      let same : Some (record { start = q; paths = [] }) ≡ Some t = sym (began_at before j q k e) ∙ is in
      let at : q ≡ t.start = ap (λ (o : Option Tree). start_or q o) same in
      subst (λ (n : Node). In (Began k n) (Began j q ∷ before)) at (subst (λ (i : ℕ). In (Began k q) (Began i q ∷ before)) e here))
  | inr ne ↦ there (began_known before k t (sym (began_off before j q k ne) ∙ is))
]
  where
    start_or : Node → Option Tree → Node
    start_or d None = d
    start_or d (Some s) = s.start
began_known (Joined j p ∷ before) k t is = elim (cases_eq k j) [
  | inl e ↦ (
      let same : grown p (routes_of before j) ≡ Some t = sym (joined_at before j p k e) ∙ is in
      let (s, was, at) = ungrown (routes_of before j) same in
      there (subst (λ (n : Node). In (Began k n) before) at (began_known before k s (ap (routes_of before) e ∙ was))))
  | inr ne ↦ there (began_known before k t (sym (joined_off before j p k ne) ∙ is))
]
  where
    start_of : Node → Option Tree → Node
    start_of d None = d
    start_of d (Some s) = s.start

    ungrown : (o : Option Tree) → grown p o ≡ Some t → (s : Tree) × (o ≡ Some s) × (s.start ≡ t.start)
    ungrown None h = absurd (cc h)
    ungrown (Some s) h = (s, refl, ap (λ (o : Option Tree). start_of s.start o) h)
