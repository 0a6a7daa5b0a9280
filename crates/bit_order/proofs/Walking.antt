-- What stays true where a walk puts a node on the path, puts one in order, or passes one.
use Rattle.std.proofs.Common.{◌≡◌, ◌≢◌, ℕ, ◌+◌, ◌<◌, ◌≤◌, ◌⊎◌, inl, inr, List, [], ◌∷◌, ◌++◌, length, get_or, set, arith, sym, ◌∙◌, refl, subst, ap, length-append, length-set, get_or-set_other, get_or-set_same}
use Rattle.std.proofs.lemmas.Bool.{cases_lt, cases_eq}
use Rattle.std.proofs.lemmas.List.{get_or_past, get_or_append_left}
use Rattle.std.proofs.Math.Seq.{get_or-append_seam}
use Rattle.bit_order.specs.declared.walk.Mark.{Mark}
use Rattle.bit_order.specs.declared.walk.Mark.TheVariants as mark
use Rattle.bit_order.specs.Order.{reads_of, Reads, StandsBefore}
use Rattle.bit_order.specs.Walk.{mark_of, IsWalk}

-- a node with a mark is one of the nodes
pub marked_inside : (marks : List Mark) (node : ℕ) → mark_of marks node ≢ mark.New → node < length marks
marked_inside marks node met = elim (cases_lt node (length marks)) [
  | inl h ↦ h
  | inr h ↦ absurd (met (get_or_past marks node mark.New h))
]

pub new_or_not : (m : Mark) → (m ≡ mark.New) ⊎ (m ≢ mark.New)
new_or_not mark.New = inl refl
new_or_not (mark.Open place) = inr (λ h. absurd (cc))
new_or_not (mark.Done place) = inr (λ h. absurd (cc))

-- other nodes keep their mark
pub mark_other : (marks : List Mark) (node : ℕ) (m : Mark) (k : ℕ) → mark_of marks k ≢ mark_of marks node → mark_of (set marks node m) k ≡ mark_of marks k
mark_other marks node m k apart = get_or-set_other marks node k m mark.New (λ h. apart (ap (mark_of marks) h))

-- the mark of a node, after one was written: it is that node, or the mark is as it was
mark_cases : (marks : List Mark) (node : ℕ) (m : Mark) (k : ℕ) → node < length marks
    → ((k ≡ node) × (mark_of (set marks node m) k ≡ m)) ⊎ ((k ≢ node) × (mark_of (set marks node m) k ≡ mark_of marks k))
mark_cases marks node m k inside = elim (cases_eq k node) [
  | inl h ↦ inl (h, ap (mark_of (set marks node m)) h ∙ get_or-set_same marks node m mark.New inside)
  | inr h ↦ inr (h, get_or-set_other marks node k m mark.New h)
]

-- a place of a list with one node more: the last one, or one that was there
place_cases : (nodes : List ℕ) (node place : ℕ) → place < length (nodes ++ node ∷ [])
    → ((place < length nodes) × (get_or (nodes ++ node ∷ []) place 0 ≡ get_or nodes place 0)) ⊎ ((place ≡ length nodes) × (get_or (nodes ++ node ∷ []) place 0 ≡ node))
place_cases nodes node place low = elim (cases_lt place (length nodes)) [
  | inl h ↦ inl (h, get_or_append_left nodes (node ∷ []) 0 place h)
  | inr h ↦
      let last : place ≡ length nodes = omega (arith, length-append nodes (node ∷ [])) in
      inr (last, ap (λ (k : ℕ). get_or (nodes ++ node ∷ []) k 0) last ∙ get_or-append_seam nodes node [] 0)
]

stands_longer : (sorted : List ℕ) (node place read : ℕ) → place ≤ length sorted → StandsBefore sorted place read → StandsBefore (sorted ++ node ∷ []) place read
stands_longer sorted node place read high (k, low, is) = (k, low, get_or_append_left sorted (node ∷ []) 0 k (omega arith) ∙ is)

stands_higher : (sorted : List ℕ) (place more read : ℕ) → place ≤ more → StandsBefore sorted place read → StandsBefore sorted more read
stands_higher sorted place more read high (k, low, is) = (k, omega arith, is)

longer : (nodes : List ℕ) (node : ℕ) → length (nodes ++ node ∷ []) ≡ length nodes + 1
longer nodes node = length-append nodes (node ∷ [])

-- the links of a path with one node more
links_more : (reads : List (List ℕ)) (path : List ℕ) (node : ℕ)
    → ((place : ℕ) → place + 1 < length path → Reads reads (get_or path place 0) (get_or path (place + 1) 0))
    → ((place : ℕ) → place + 1 ≡ length path → Reads reads (get_or path place 0) node)
    → (place : ℕ) → place + 1 < length (path ++ node ∷ []) → Reads reads (get_or (path ++ node ∷ []) place 0) (get_or (path ++ node ∷ []) (place + 1) 0)
links_more reads path node links linked place low =
    let front : get_or (path ++ node ∷ []) place 0 ≡ get_or path place 0 = get_or_append_left path (node ∷ []) 0 place (omega (arith, longer path node)) in
    elim (place_cases path node (place + 1) low) [
      | inl h ↦ rw (front, h.1) (links place h.0)
      | inr h ↦ rw (front, h.1) (linked place h.0)
    ]

-- the links of a path with its last node taken away
links_less : (reads : List (List ℕ)) (path : List ℕ) (node : ℕ)
    → ((place : ℕ) → place + 1 < length (path ++ node ∷ []) → Reads reads (get_or (path ++ node ∷ []) place 0) (get_or (path ++ node ∷ []) (place + 1) 0))
    → (place : ℕ) → place + 1 < length path → Reads reads (get_or path place 0) (get_or path (place + 1) 0)
links_less reads path node links place low =
    let a : get_or (path ++ node ∷ []) place 0 ≡ get_or path place 0 = get_or_append_left path (node ∷ []) 0 place (omega arith) in
    let b : get_or (path ++ node ∷ []) (place + 1) 0 ≡ get_or path (place + 1) 0 = get_or_append_left path (node ∷ []) 0 (place + 1) low in
    let h : Reads reads (get_or (path ++ node ∷ []) place 0) (get_or (path ++ node ∷ []) (place + 1) 0) = links place (omega (arith, longer path node)) in
    rw (a, b) at h

-- a node is put at the end of the path
pub walk_entered : (reads : List (List ℕ)) (marks : List Mark) (nexts path sorted : List ℕ) (node : ℕ) → IsWalk reads marks nexts path sorted
    → node < length marks → mark_of marks node ≡ mark.New
    → ((place : ℕ) → place + 1 ≡ length path → Reads reads (get_or path place 0) node)
    → IsWalk reads (set marks node (mark.Open (length path))) nexts (path ++ node ∷ []) sorted
walk_entered reads marks nexts path sorted node w inside new linked = record {
  marked = length-set marks node (mark.Open (length path)) ∙ w.marked;
  counted = w.counted;
  path_marks = λ place low. elim (place_cases path node place low) [
    | inl h ↦ ap (mark_of (set marks node (mark.Open (length path)))) h.1 ∙ kept (get_or path place 0) (mark.Open place) (w.path_marks place h.0) (λ e. absurd (cc))
    | inr h ↦ ap (mark_of (set marks node (mark.Open (length path)))) h.1 ∙ get_or-set_same marks node (mark.Open (length path)) mark.New inside ∙ ap (λ (k : ℕ). mark.Open k) (sym h.0)
  ];
  open_places = λ k place is. elim (mark_cases marks node (mark.Open (length path)) k inside) [
    | inl h ↦ let at : place ≡ length path = cc in (omega (arith, longer path node), ap (λ (i : ℕ). get_or (path ++ node ∷ []) i 0) at ∙ get_or-append_seam path node [] 0 ∙ sym h.0)
    | inr h ↦ let there_it_is = w.open_places k place (sym h.1 ∙ is) in (omega (arith, longer path node), get_or_append_left path (node ∷ []) 0 place there_it_is.0 ∙ there_it_is.1)
  ];
  sorted_marks = λ place low. kept (get_or sorted place 0) (mark.Done place) (w.sorted_marks place low) (λ e. absurd (cc));
  done_places = λ k place is. elim (mark_cases marks node (mark.Open (length path)) k inside) [
    | inl h ↦ let no_way : mark.Open (length path) ≡ mark.Done place = sym h.1 ∙ is in absurd (cc)
    | inr h ↦ w.done_places k place (sym h.1 ∙ is)
  ];
  links = links_more reads path node w.links linked;
  passed = w.passed;
  behind = w.behind;
} where
  kept : (k : ℕ) (m : Mark) → mark_of marks k ≡ m → m ≢ mark.New → mark_of (set marks node (mark.Open (length path))) k ≡ m
  kept k m is met = mark_other marks node (mark.Open (length path)) k (λ same. met (sym is ∙ same ∙ new)) ∙ is

-- the last node of the path, all of whose reads are in order, is put behind them
pub walk_finished : (reads : List (List ℕ)) (marks : List Mark) (nexts path sorted : List ℕ) (node : ℕ) → IsWalk reads marks nexts (path ++ node ∷ []) sorted
    → length (reads_of reads node) ≤ get_or nexts node 0
    → IsWalk reads (set marks node (mark.Done (length sorted))) nexts path (sorted ++ node ∷ [])
walk_finished reads marks nexts path sorted node w read = record {
  marked = length-set marks node (mark.Done (length sorted)) ∙ w.marked;
  counted = w.counted;
  path_marks = λ place low.
      let here : mark_of marks (get_or path place 0) ≡ mark.Open place = let h = w.path_marks place (omega (arith, longer path node)) in rw (get_or_append_left path (node ∷ []) 0 place low) at h in
      kept (get_or path place 0) (mark.Open place) here (λ e. let at : place ≡ length path = cc in absurd (omega arith));
  open_places = λ k place is. elim (mark_cases marks node (mark.Done (length sorted)) k inside) [
    | inl h ↦ let no_way : mark.Done (length sorted) ≡ mark.Open place = sym h.1 ∙ is in absurd (cc)
    | inr h ↦
        let old = w.open_places k place (sym h.1 ∙ is) in
        elim (place_cases path node place old.0) [
          | inl p ↦ (p.0, sym p.1 ∙ old.1)
          | inr p ↦ absurd (h.0 (sym old.1 ∙ p.1))
        ]
  ];
  sorted_marks = λ place low. elim (place_cases sorted node place low) [
    | inl h ↦ ap (mark_of (set marks node (mark.Done (length sorted)))) h.1 ∙ kept (get_or sorted place 0) (mark.Done place) (w.sorted_marks place h.0) (λ e. absurd (cc))
    | inr h ↦ ap (mark_of (set marks node (mark.Done (length sorted)))) h.1 ∙ get_or-set_same marks node (mark.Done (length sorted)) mark.New inside ∙ ap (λ (k : ℕ). mark.Done k) (sym h.0)
  ];
  done_places = λ k place is. elim (mark_cases marks node (mark.Done (length sorted)) k inside) [
    | inl h ↦ let at : place ≡ length sorted = cc in (omega (arith, longer sorted node), ap (λ (i : ℕ). get_or (sorted ++ node ∷ []) i 0) at ∙ get_or-append_seam sorted node [] 0 ∙ sym h.0)
    | inr h ↦ let old = w.done_places k place (sym h.1 ∙ is) in (omega (arith, longer sorted node), get_or_append_left sorted (node ∷ []) 0 place old.0 ∙ old.1)
  ];
  links = links_less reads path node w.links;
  passed = λ other k low.
      stands_higher (sorted ++ node ∷ []) (length sorted) (length (sorted ++ node ∷ [])) (get_or (reads_of reads other) k 0) (omega (arith, longer sorted node))
      (stands_longer sorted node (length sorted) (get_or (reads_of reads other) k 0) (omega arith) (w.passed other k low));
  behind = λ place k low inner. elim (place_cases sorted node place low) [
    | inl h ↦
        let old_inner : k < length (reads_of reads (get_or sorted place 0)) = rw h.1 at inner in
        rw h.1 (stands_longer sorted node place (get_or (reads_of reads (get_or sorted place 0)) k 0) (omega arith) (w.behind place k h.0 old_inner))
    | inr h ↦
        let old_inner : k < length (reads_of reads node) = rw h.1 at inner in
        rw h.1 (stands_longer sorted node place (get_or (reads_of reads node) k 0) (omega arith)
        (stands_higher sorted (length sorted) place (get_or (reads_of reads node) k 0) (omega arith) (w.passed node k (omega arith))))
  ];
} where
  last : mark_of marks node ≡ mark.Open (length path)
  last = let h = w.path_marks (length path) (omega (arith, longer path node)) in rw (get_or-append_seam path node [] 0) at h

  inside : node < length marks
  inside = marked_inside marks node (λ e. let no_way : mark.New ≡ mark.Open (length path) = sym e ∙ last in absurd (cc))

  kept : (k : ℕ) (m : Mark) → mark_of marks k ≡ m → m ≢ mark.Open (length path) → mark_of (set marks node (mark.Done (length sorted))) k ≡ m
  kept k m is apart = mark_other marks node (mark.Done (length sorted)) k (λ same. apart (sym is ∙ same ∙ last)) ∙ is

-- the node that is read next is in order already
pub walk_passed : (reads : List (List ℕ)) (marks : List Mark) (nexts path sorted : List ℕ) (node place : ℕ) → IsWalk reads marks nexts path sorted
    → node < length nexts → mark_of marks (get_or (reads_of reads node) (get_or nexts node 0) 0) ≡ mark.Done place
    → IsWalk reads marks (set nexts node (get_or nexts node 0 + 1)) path sorted
walk_passed reads marks nexts path sorted node place w inside done = record {
  marked = w.marked;
  counted = length-set nexts node (get_or nexts node 0 + 1) ∙ w.counted;
  path_marks = w.path_marks;
  open_places = w.open_places;
  sorted_marks = w.sorted_marks;
  done_places = w.done_places;
  links = w.links;
  passed = λ other k low. elim (cases_eq other node) [
    | inl same ↦
        let now_low : k < get_or nexts node 0 + 1 = let P : ℕ → Type 0 = λ n. k < n in
        subst P (ap (λ (n : ℕ). get_or (set nexts node (get_or nexts node 0 + 1)) n 0) same ∙ get_or-set_same nexts node (get_or nexts node 0 + 1) 0 inside) low in
        let P : ℕ → Type 0 = λ n. StandsBefore sorted (length sorted) (get_or (reads_of reads n) k 0) in
        subst P (sym same) (elim (cases_lt k (get_or nexts node 0)) [
          | inl h ↦ w.passed node k h
          | inr h ↦
              let at : k ≡ get_or nexts node 0 = omega arith in
              let Q : ℕ → Type 0 = λ i. StandsBefore sorted (length sorted) (get_or (reads_of reads node) i 0) in
              let stands = w.done_places (get_or (reads_of reads node) (get_or nexts node 0) 0) place done in
              subst Q (sym at) (place, stands.0, stands.1)
        ])
    | inr apart ↦
        let was_low : k < get_or nexts other 0 = let P : ℕ → Type 0 = λ n. k < n in
        subst P (get_or-set_other nexts node other (get_or nexts node 0 + 1) 0 apart) low in
        w.passed other k was_low
  ];
  behind = w.behind;
}
