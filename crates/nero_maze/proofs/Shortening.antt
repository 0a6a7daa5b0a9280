-- The log gets shorter.
use Rattle.std.proofs.Common.{ℕ, zero, suc, ◌≡◌, ◌≢◌, ◌+◌, ◌<◌, ◌≤◌, ◌⊎◌, inl, inr, List, [], ◌∷◌, length, Bool, true, false, set, slice_index, get_or, arith, sym, ◌∙◌, ap, refl, subst, get_or-set_same, get_or-set_other, length-set, add-one}
use Rattle.std.specs.Prelude.{filter}
use Rattle.std.proofs.lemmas.Bool.{cases_eq}
use Rattle.nero_maze.specs.declared.frontier.Marked.{Marked}
use Rattle.vlsi_base.specs.Member.{In, here, there}
use Rattle.grid_core.proofs.Owners.{first_or}
use Rattle.nero_maze.specs.Search.{Kept, zeros}
use Rattle.nero_maze.specs.Ripping.{entries, IsSifted, IsShorter}

-- ---- lists

pub zeros_clear : (xs : List ℕ) (i : ℕ) → get_or xs i 0 ≢ 0 → i < length xs → zeros (set xs i 0) ≡ zeros xs + 1
zeros_clear [] i ne lt = let no : ⊥ = omega arith in absurd no
zeros_clear (zero ∷ xs) zero ne lt = absurd (ne refl)
zeros_clear (suc y ∷ xs) zero ne lt = omega arith
zeros_clear (zero ∷ xs) (suc i) ne lt = let r = zeros_clear xs i ne (omega arith) in omega arith
zeros_clear (suc y ∷ xs) (suc i) ne lt = zeros_clear xs i ne (omega arith)

-- entries before a place that is written
entries_before : (ord : List ℕ) (n k v : ℕ) → n ≤ k → entries (set ord k v) n ≡ entries ord n
entries_before ord zero k v le = refl
entries_before ord (suc n) k v le =
    let ne : n ≢ k = omega arith in
    let same = get_or-set_other ord k n v 0 ne in
    let rest = entries_before ord n k v (omega arith) in
    rw (same, rest) refl

bool_cases : (b : Bool) → (b ≡ true) ⊎ (b ≢ true)
bool_cases true = inl refl
bool_cases false = inr (λ e. absurd (cc e))

not_true : (b : Bool) → b ≢ true → b ≡ false
not_true true ne = absurd (ne refl)
not_true false ne = refl

filter_in : (st : ℕ → Bool) (v : ℕ) (vs : List ℕ) → st v ≡ true → filter st (v ∷ vs) ≡ v ∷ filter st vs
filter_in st v vs e = rw e refl

filter_out : (st : ℕ → Bool) (v : ℕ) (vs : List ℕ) → st v ≢ true → filter st (v ∷ vs) ≡ filter st vs
filter_out st v vs ne = let e = not_true (st v) ne in rw e refl

-- ---- the log, entry by entry

-- so many entries have been looked at, and so many of them kept
pub record Sifts (st : ℕ → Bool) (old new : Marked) (i count : ℕ) : Type 0 where
  pub few : count ≤ i
  pub order : length new.order.items ≡ length old.order.items
  pub marks : length new.marks.items ≡ length old.marks.items
  pub later : (j : ℕ) → i ≤ j → slice_index new.order.items j ≡ slice_index old.order.items j
  pub entries : entries new.order.items count ≡ filter st (entries old.order.items i)
  pub full : zeros new.marks.items + count + old.count ≡ length old.marks.items + i
  pub same : (v : ℕ) → st v ≡ true → slice_index new.marks.items v ≡ slice_index old.marks.items v
  pub gone : (j : ℕ) → j < i → st (slice_index old.order.items j) ≢ true → slice_index new.marks.items (slice_index old.order.items j) ≡ 0
  pub still : (v : ℕ) → (slice_index new.marks.items v ≡ slice_index old.marks.items v)
      ⊎ ((j : ℕ) × (j < i) × (slice_index old.order.items j ≡ v) × (slice_index new.marks.items v ≡ 0))
  pub placed : (a : ℕ) → a < count
      → (j : ℕ) × (j < i) × (slice_index new.order.items a ≡ slice_index old.order.items j) × (st (slice_index old.order.items j) ≡ true)
  pub kept : (j : ℕ) → j < i → st (slice_index old.order.items j) ≡ true
      → (a : ℕ) × (a < count) × (slice_index new.order.items a ≡ slice_index old.order.items j)
  pub apart : (a b : ℕ) → a < b → b < count → slice_index new.order.items a ≢ slice_index new.order.items b

pub sifts_begin : (st : ℕ → Bool) (old : Marked) → Kept old.order.items old.marks.items old.count → Sifts st old old 0 0
sifts_begin st old k = record {
  few = omega arith;
  order = refl;
  marks = refl;
  later = λ j le. refl;
  entries = refl;
  full = (let f = k.full in omega arith);
  same = λ v e. refl;
  gone = λ j lt. (let no : ⊥ = omega arith in absurd no);
  still = λ v. inl refl;
  placed = λ a lt. (let no : ⊥ = omega arith in absurd no);
  kept = λ j lt. (let no : ⊥ = omega arith in absurd no);
  apart = λ a b lt low. (let no : ⊥ = omega arith in absurd no);
}

-- an entry that goes
pub sifts_out : (st : ℕ → Bool) (old new : Marked) (i count node : ℕ) → Kept old.order.items old.marks.items old.count → i < old.count → Sifts st old new i count
    → slice_index old.order.items i ≡ node → st node ≢ true → (after : Marked) → after.order.items ≡ new.order.items → after.marks.items ≡ set new.marks.items node 0
    → Sifts st old after (i + 1) count
sifts_out st old new i count node k lt h at out after eo em =
    let ord = old.order.items in
    let ms = old.marks.items in
    let listed : node < length ms = subst (λ (v : ℕ). v < length ms) at (k.listed i lt) in
    let size = h.marks in
    let lt_m : node < length new.marks.items = omega arith in
    let some_old : slice_index ms node ≢ 0 = subst (λ (v : ℕ). slice_index ms v ≢ 0) at (k.marked i lt) in
    let some : slice_index new.marks.items node ≢ 0 = elim (h.still node) [
      | inl e ↦ (λ z. some_old (sym e ∙ z))
      | inr (j, lt_j, at_j, z) ↦ absurd (k.apart j i lt_j lt (at_j ∙ sym at))
    ] in
    let cleared = get_or-set_same new.marks.items node 0 0 lt_m in
    let other : (v : ℕ) → v ≢ node → slice_index after.marks.items v ≡ slice_index new.marks.items v = λ v ne. rw em (get_or-set_other new.marks.items node v 0 0 ne) in
    record {
      few = (let f = h.few in omega arith);
      order = rw eo h.order;
      marks = rw em (length-set new.marks.items node 0 ∙ h.marks);
      later = λ j le. rw eo (h.later j (omega arith));
      entries = rw (eo, add-one i, at) (h.entries ∙ sym (filter_out st node (entries ord i) out));
      full = (let z = zeros_clear new.marks.items node some lt_m in let f = h.full in rw em (omega arith));
      same = λ v is. (let ne : v ≢ node = λ e. out (ap st (sym e) ∙ is) in other v ne ∙ h.same v is);
      gone = λ j lt_j off. elim (cases_eq (slice_index ord j) node) [
        | inl e ↦ rw (em, e) cleared
        | inr ne ↦ (
            let j_ne : j ≢ i = λ e. ne (ap (λ (x : ℕ). slice_index ord x) e ∙ at) in
            let j_lt : j < i = omega arith in
            other (slice_index ord j) ne ∙ h.gone j j_lt off)
      ];
      still = λ v. elim (cases_eq v node) [
        | inl e ↦ inr (i, omega arith, at ∙ sym e, rw (em, e) cleared)
        | inr ne ↦ elim (h.still v) [
          | inl same ↦ inl (other v ne ∙ same)
          | inr (j, lt_j, at_j, z) ↦ inr (j, omega arith, at_j, other v ne ∙ z)
        ]
      ];
      placed = λ a lt_a. (let (j, lt_j, is, stay) = h.placed a lt_a in (j, omega arith, ap (λ (xs : List ℕ). slice_index xs a) eo ∙ is, stay));
      kept = λ j lt_j stay. elim (cases_eq j i) [
        | inl e ↦ absurd (out (ap st (sym at) ∙ (ap (λ (x : ℕ). st (slice_index ord x)) (sym e) ∙ stay)))
        | inr ne ↦ (
            let j_lt : j < i = omega arith in
            let (a, lt_a, is) = h.kept j j_lt stay in (a, lt_a, ap (λ (xs : List ℕ). slice_index xs a) eo ∙ is))
      ];
      apart = λ a b lt_ab lt_b e. h.apart a b lt_ab lt_b (sym (ap (λ (xs : List ℕ). slice_index xs a) eo) ∙ (e ∙ ap (λ (xs : List ℕ). slice_index xs b) eo));
    }

-- and one that stays
pub sifts_in : (st : ℕ → Bool) (old new : Marked) (i count node : ℕ) → Kept old.order.items old.marks.items old.count → i < old.count → Sifts st old new i count
    → slice_index old.order.items i ≡ node → st node ≡ true → (after : Marked) → after.order.items ≡ set new.order.items count node → after.marks.items ≡ new.marks.items
    → Sifts st old after (i + 1) (count + 1)
sifts_in st old new i count node k lt h at stay after eo em =
    let ord = old.order.items in
    let few = h.few in
    let size = h.order in
    let full = k.full in
    let same_len = k.same in
    let lt_o : count < length new.order.items = omega arith in
    let here_is : slice_index after.order.items count ≡ node = rw eo (get_or-set_same new.order.items count node 0 lt_o) in
    let other : (a : ℕ) → a ≢ count → slice_index after.order.items a ≡ slice_index new.order.items a = λ a ne. rw eo (get_or-set_other new.order.items count a node 0 ne) in
    let placed_new : (a : ℕ) → a < count → slice_index after.order.items a ≡ slice_index new.order.items a = λ a lt_a. other a (omega arith) in
    record {
      few = omega arith;
      order = rw eo (length-set new.order.items count node ∙ h.order);
      marks = rw em h.marks;
      later = λ j le. (let ne : j ≢ count = omega arith in other j ne ∙ h.later j (omega arith));
      entries =
          let before : entries after.order.items count ≡ entries new.order.items count = rw eo (entries_before new.order.items count count node (omega arith)) in
          rw (add-one count, add-one i, here_is, at, before) (ap (λ (vs : List ℕ). node ∷ vs) h.entries ∙ sym (filter_in st node (entries ord i) stay));
      full = (let f = h.full in rw em (omega arith));
      same = λ v is. ap (λ (xs : List ℕ). slice_index xs v) em ∙ h.same v is;
      gone = λ j lt_j off. elim (cases_eq j i) [
        | inl e ↦ absurd (off (ap (λ (x : ℕ). st (slice_index ord x)) e ∙ (ap st at ∙ stay)))
        | inr ne ↦ (let j_lt : j < i = omega arith in ap (λ (xs : List ℕ). slice_index xs (slice_index ord j)) em ∙ h.gone j j_lt off)
      ];
      still = λ v. elim (h.still v) [
        | inl same ↦ inl (ap (λ (xs : List ℕ). slice_index xs v) em ∙ same)
        | inr (j, lt_j, at_j, z) ↦ inr (j, omega arith, at_j, ap (λ (xs : List ℕ). slice_index xs v) em ∙ z)
      ];
      placed = λ a lt_a. elim (cases_eq a count) [
        | inl e ↦ (i, omega arith, ap (λ (x : ℕ). slice_index after.order.items x) e ∙ (here_is ∙ sym at), ap st at ∙ stay)
        | inr ne ↦ (
            let a_lt : a < count = omega arith in
            let (j, lt_j, is, st_j) = h.placed a a_lt in (j, omega arith, placed_new a a_lt ∙ is, st_j))
      ];
      kept = λ j lt_j st_j. elim (cases_eq j i) [
        | inl e ↦ (count, omega arith, here_is ∙ (sym at ∙ ap (λ (x : ℕ). slice_index ord x) (sym e)))
        | inr ne ↦ (
            let j_lt : j < i = omega arith in
            let (a, lt_a, is) = h.kept j j_lt st_j in (a, omega arith, placed_new a lt_a ∙ is))
      ];
      apart = λ a b lt_ab lt_b. elim (cases_eq b count) [
        | inl e ↦ (
            let a_lt : a < count = omega arith in
            let (j, lt_j, is, st_j) = h.placed a a_lt in
            λ same. k.apart j i lt_j lt (sym is ∙ (sym (placed_new a a_lt) ∙ (same ∙ (ap (λ (x : ℕ). slice_index after.order.items x) e ∙ (here_is ∙ sym at))))))
        | inr ne ↦ (
            let b_lt : b < count = omega arith in
            let a_lt : a < count = omega arith in
            λ same. h.apart a b lt_ab b_lt (sym (placed_new a a_lt) ∙ (same ∙ placed_new b b_lt)))
      ];
    }

-- the next entry goes or stays
pub sifts_on : (st : ℕ → Bool) (old new after : Marked) (i count result : ℕ) → Kept old.order.items old.marks.items old.count → i < old.count → Sifts st old new i count
    → IsSifted st i count new after result → Sifts st old after (i + 1) result
sifts_on st old new after i count result k lt h s =
    let node = slice_index new.order.items i in
    let at : slice_index old.order.items i ≡ node = sym (h.later i (omega arith)) in
    elim (bool_cases (st node)) [
      | inl stay ↦ (
          let e = s.keeps stay in
          subst (λ (n : ℕ). Sifts st old after (i + 1) n) (sym e.0) (sifts_in st old new i count node k lt h at stay after e.1 e.2))
      | inr out ↦ (
          let e = s.goes out in
          subst (λ (n : ℕ). Sifts st old after (i + 1) n) (sym e.0) (sifts_out st old new i count node k lt h at out after e.1 e.2))
    ]

pub sifts_end : (st : ℕ → Bool) (old new : Marked) (count : ℕ) → Kept old.order.items old.marks.items old.count → Sifts st old new old.count count
    → (after : Marked) → after.order.items ≡ new.order.items → after.marks.items ≡ new.marks.items → after.count ≡ count → IsShorter st old after
sifts_end st old new count k h after eo em ec =
    let ord = old.order.items in
    let ms = old.marks.items in
    let gone : (v : ℕ) → st v ≢ true → slice_index new.marks.items v ≡ 0 = λ v off. elim (cases_eq (slice_index ms v) 0) [
      | inl z ↦ elim (h.still v) [ inl e ↦ e ∙ z | inr (j, lt_j, at_j, zero_now) ↦ zero_now ]
      | inr some ↦ (
          let (j, lt_j, at_j) = k.found v some in
          subst (λ (w : ℕ). slice_index new.marks.items w ≡ 0) at_j (h.gone j lt_j (λ is. off (ap st (sym at_j) ∙ is))))
    ] in
    let size = h.marks in
    record {
      kept = rw (eo, em, ec) (record {
        same = h.order ∙ (k.same ∙ sym h.marks);
        full = (let f = h.full in omega arith);
        listed = λ a lt_a. (let (j, lt_j, is, stay) = h.placed a lt_a in let low = k.listed j lt_j in rw is (omega arith));
        marked = λ a lt_a. (let (j, lt_j, is, stay) = h.placed a lt_a in rw is (let same = h.same (slice_index ord j) stay in let some = k.marked j lt_j in λ z. some (sym same ∙ z)));
        found = λ v some. elim (bool_cases (st v)) [
          | inr off ↦ absurd (some (gone v off))
          | inl stay ↦ (
              let was : slice_index ms v ≢ 0 = λ z. some (h.same v stay ∙ z) in
              let (j, lt_j, at_j) = k.found v was in
              let (a, lt_a, is) = h.kept j lt_j (ap st at_j ∙ stay) in (a, lt_a, is ∙ at_j))
        ];
        apart = h.apart;
      });
      size = rw em h.marks;
      same = λ v is. rw em (h.same v is);
      gone = λ v off. rw em (gone v off);
      entries = rw (eo, ec) h.entries;
    }

-- ---- entries that stay by another test, which is the same on what is in the log
pub entry_in : (ord : List ℕ) (n i : ℕ) → i < n → In (slice_index ord i) (entries ord n)
entry_in ord zero i lt = let no : ⊥ = omega arith in absurd no
entry_in ord (suc n) i lt = elim (cases_eq i n) [
  | inl e ↦ subst (λ (k : ℕ). In (slice_index ord k) (entries ord (suc n))) (sym e) here
  | inr ne ↦ there (entry_in ord n i (omega arith))
]

pub entry_at : (ord : List ℕ) (n v : ℕ) → In v (entries ord n) → (i : ℕ) × (i < n) × (slice_index ord i ≡ v)
entry_at ord zero v h = elim h [ ]
entry_at ord (suc n) v h = elim (first_or v (slice_index ord n) (entries ord n) h) [
  | inl e ↦ (n, omega arith, sym e)
  | inr j ↦ (let (i, lt, at) = entry_at ord n v j in (i, omega arith, at))
]

filter_same : (st st' : ℕ → Bool) (vs : List ℕ) → ((v : ℕ) → In v vs → st v ≡ st' v) → filter st vs ≡ filter st' vs
filter_same st st' [] same = refl
filter_same st st' (v ∷ vs) same =
    let rest = filter_same st st' vs (λ w i. same w (there i)) in
    let e = same v here in
    elim (bool_cases (st v)) [
      | inl is ↦ filter_in st v vs is ∙ (ap (λ (ws : List ℕ). v ∷ ws) rest ∙ sym (filter_in st' v vs (sym e ∙ is)))
      | inr not ↦ filter_out st v vs not ∙ (rest ∙ sym (filter_out st' v vs (λ is. not (e ∙ is))))
    ]

pub shorter_same : (st st' : ℕ → Bool) (old new : Marked) → Kept old.order.items old.marks.items old.count
    → ((v : ℕ) → slice_index old.marks.items v ≢ 0 → st v ≡ st' v) → IsShorter st old new → IsShorter st' old new
shorter_same st st' old new k same h =
    let unmarked : (v : ℕ) → slice_index old.marks.items v ≡ 0 → slice_index new.marks.items v ≡ 0 = λ v z. elim (bool_cases (st v)) [
      | inl is ↦ h.same v is ∙ z
      | inr not ↦ h.gone v not
    ] in
    record {
      kept = h.kept;
      size = h.size;
      same = λ v is. elim (cases_eq (slice_index old.marks.items v) 0) [
        | inl z ↦ unmarked v z ∙ sym z
        | inr some ↦ h.same v (same v some ∙ is)
      ];
      gone = λ v not. elim (cases_eq (slice_index old.marks.items v) 0) [
        | inl z ↦ unmarked v z
        | inr some ↦ h.gone v (λ is. not (sym (same v some) ∙ is))
      ];
      entries = h.entries ∙ filter_same st st' (entries old.order.items old.count) (λ v i.
          let (at, lt, is) = entry_at old.order.items old.count v i in
          same v (subst (λ (w : ℕ). slice_index old.marks.items w ≢ 0) is (k.marked at lt)));
    }

-- ---- nodes

pub below_links : (l : List ℕ) (v : ℕ) → get_or l v 0 ≢ 0 → v < length l
below_links [] v some = absurd (some refl)
below_links (x ∷ xs) zero some = omega arith
below_links (x ∷ xs) (suc v) some = let r = below_links xs v some in omega arith
