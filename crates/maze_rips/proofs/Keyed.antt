-- Paths under keys, as one comes or goes.
use Rattle.std.proofs.Common.{◌≡◌, ◌≢◌, ◌⊎◌, ℕ, zero, suc, ◌<◌, List, [], ◌∷◌, ◌++◌, map, length, get_or, set, Option, Some, None, is_some, IsSome, refl, sym, ap, subst, ◌∙◌, inl, inr, arith, length-set, true≢false}
use Rattle.std.specs.Prelude.{slice_get, Result, Ok, Err, OnOk, OnErr, IfSome, IfNone}
use Rattle.std.specs.Global.{Vec}
use Rattle.std.proofs.lemmas.Bool.{cases_eq}
use Rattle.std.proofs.lemmas.List.{length-map, map_push}
use Rattle.std.proofs.lemmas.Option.{slice_get_past, slice_get_read, none-some, same_Some}
use Rattle.slab.specs.Slab.{Slab, get, ContainsKey, SameValues, Updates}
use Rattle.grid_core.specs.declared.grid.Node.{Node}
use Rattle.maze_rips.specs.Paths.{paths_in, HasNow, nodes_of, path_under, paths_under, keys_or_none, keys_of, key_at, AreKeys, IsOneMore}

-- ---- lists
get_end : (xs : List ℕ) (x : ℕ) → slice_get (xs ++ x ∷ []) (length xs) ≡ Some x
get_end [] x = refl
get_end (y ∷ xs) x = get_end xs x

get_but_end : (xs : List ℕ) (x i : ℕ) → i ≢ length xs → slice_get (xs ++ x ∷ []) i ≡ slice_get xs i
get_but_end [] x zero ne = absurd (ne refl)
get_but_end [] x (suc i) ne = refl
get_but_end (y ∷ xs) x zero ne = refl
get_but_end (y ∷ xs) x (suc i) ne = get_but_end xs x i (λ e. ne (ap suc e))

get_set_same : (keys : List (Vec ℕ)) (net : ℕ) (w : Vec ℕ) → net < length keys → slice_get (set keys net w) net ≡ Some w
get_set_same [] net w lt = let no : ⊥ = omega arith in absurd no
get_set_same (v ∷ keys) zero w lt = refl
get_set_same (v ∷ keys) (suc net) w lt = let lt' : net < length keys = omega arith in get_set_same keys net w lt'

get_set_other : (keys : List (Vec ℕ)) (net k : ℕ) (w : Vec ℕ) → k ≢ net → slice_get (set keys net w) k ≡ slice_get keys k
get_set_other [] net k w ne = refl
get_set_other (v ∷ keys) zero zero w ne = absurd (ne refl)
get_set_other (v ∷ keys) zero (suc k) w ne = refl
get_set_other (v ∷ keys) (suc net) zero w ne = refl
get_set_other (v ∷ keys) (suc net) (suc k) w ne = get_set_other keys net k w (λ e. ne (ap suc e))

map_same : (f g : ℕ → List Node) (xs : List ℕ) → ((i x : ℕ) → slice_get xs i ≡ Some x → f x ≡ g x) → map f xs ≡ map g xs
map_same f g [] h = refl
map_same f g (x ∷ xs) h = rw (h 0 x refl, map_same f g xs (λ i y e. h (suc i) y e)) refl

place_cases : (k net i end : ℕ) → ((k ≡ net) × (i ≡ end)) ⊎ ((k ≡ net) × (i ≡ end) → ⊥)
place_cases k net i end = elim (cases_eq k net) [
  | inl e ↦ elim (cases_eq i end) [ inl f ↦ inl (e, f) | inr ne ↦ inr (λ p. ne p.1) ]
  | inr ne ↦ inr (λ p. ne p.0)
]

pub by_none : {X P Q : Type 0} (o : Option X) → (P → Q) → IfNone o P → IfNone o Q
by_none (Some x) f h = tt
by_none None f h = f h

pub by_three : {X P Q R S : Type 0} (o : Option X) → (P → Q → R → S) → IfNone o P → IfNone o Q → IfNone o R → IfNone o S
by_three (Some x) f p q r = tt
by_three None f p q r = f p q r

-- ---- keys, and the paths under them
abbrev pub seen : Slab (Vec Node) → List (Vec ℕ) → List (List (List Node))
seen kept keys = map (paths_under kept) keys

seen_at : (kept : Slab (Vec Node)) (keys : List (Vec ℕ)) (k : ℕ) → paths_in (seen kept keys) k ≡ map (path_under kept) (keys_of keys k)
seen_at kept [] k = refl
seen_at kept (v ∷ keys) zero = refl
seen_at kept (v ∷ keys) (suc k) = seen_at kept keys k

pub keys_read : (keys : List (Vec ℕ)) (net : ℕ) (v : Vec ℕ) → net < length keys → v ≡ get_or keys net v → keys_of keys net ≡ v.items
keys_read keys net v lt read = ap keys_or_none (slice_get_read keys (length keys) net v refl lt read)

keys_set_same : (keys : List (Vec ℕ)) (net : ℕ) (w : Vec ℕ) → net < length keys → keys_of (set keys net w) net ≡ w.items
keys_set_same keys net w lt = ap keys_or_none (get_set_same keys net w lt)

keys_set_other : (keys : List (Vec ℕ)) (net k : ℕ) (w : Vec ℕ) → k ≢ net → keys_of (set keys net w) k ≡ keys_of keys k
keys_set_other keys net k w ne = ap keys_or_none (get_set_other keys net k w ne)

pub none_seen : (kept : Slab (Vec Node)) (keys : List (Vec ℕ)) → ((net : ℕ) → keys_of keys net ≡ []) → (k : ℕ) → paths_in (seen kept keys) k ≡ []
none_seen kept keys none k = seen_at kept keys k ∙ ap (map (path_under kept)) (none k)

-- the net has one key more in b than in a
pub record IsLonger (a b : List (Vec ℕ)) (net key : ℕ) : Type 0 where
  pub size : length b ≡ length a
  pub mine : keys_of b net ≡ keys_of a net ++ key ∷ []
  pub others : (k : ℕ) → k ≢ net → keys_of b k ≡ keys_of a k

module _ (a b : List (Vec ℕ)) (net key : ℕ) (longer : IsLonger a b net key) (old new : Slab (Vec Node)) (path : Vec Node) (vacant : get old key ≡ None)
    (up : Updates old new key (Some path)) where
  abbrev end : ℕ
  end = length (keys_of a net)

  before : key_at a net end ≡ None
  before = slice_get_past (keys_of a net) end (omega arith)

  after : key_at b net end ≡ Some key
  after = ap (λ (xs : List ℕ). slice_get xs end) longer.mine ∙ get_end (keys_of a net) key

  elsewhere : (k i : ℕ) → ((k ≡ net) × (i ≡ end) → ⊥) → key_at b k i ≡ key_at a k i
  elsewhere k i out = elim (cases_eq k net) [
    | inl e ↦ (
        let ne : i ≢ end = λ f. out (e, f) in
        ap (λ (n : ℕ). key_at b n i) e ∙ (ap (λ (xs : List ℕ). slice_get xs i) longer.mine ∙ (get_but_end (keys_of a net) key i ne ∙ ap (λ (n : ℕ). key_at a n i) (sym e))))
    | inr ne ↦ ap (λ (xs : List ℕ). slice_get xs i) (longer.others k ne)
  ]

  here_key : (k i x : ℕ) → (k ≡ net) × (i ≡ end) → key_at b k i ≡ Some x → x ≡ key
  here_key k i x p e = same_Some x key (sym e ∙ (ap (λ (n : ℕ). key_at b n i) p.0 ∙ (ap (λ (j : ℕ). key_at b net j) p.1 ∙ after)))

  gone : (k i x : ℕ) → (k ≡ net) × (i ≡ end) → key_at a k i ≡ Some x → ⊥
  gone k i x p e = none-some x (sym before ∙ (ap (λ (j : ℕ). key_at a net j) (sym p.1) ∙ (ap (λ (n : ℕ). key_at a n i) (sym p.0) ∙ e)))

  other_key : (x : ℕ) → ContainsKey old x → x ≢ key
  other_key x some e = true≢false (sym (subst (λ (n : ℕ). ContainsKey old n) e some) ∙ ap is_some vacant)

  still : (x : ℕ) → x ≢ key → ContainsKey old x → ContainsKey new x
  still x ne some = subst (λ (o : Option (Vec Node)). IsSome o) (sym (up.others x ne)) some

  was : (x : ℕ) → x ≢ key → ContainsKey new x → ContainsKey old x
  was x ne some = subst (λ (o : Option (Vec Node)). IsSome o) (up.others x ne) some

  has_key : ContainsKey new key
  has_key = subst (λ (o : Option (Vec Node)). IsSome o) (sym up.changed) refl

  pub more_keys : AreKeys old a → AreKeys new b
  more_keys h = record {
    lead = λ k i x e. elim (place_cases k net i end) [
      | inl p ↦ subst (λ (n : ℕ). ContainsKey new n) (sym (here_key k i x p e)) has_key
      | inr out ↦ (let some = h.lead k i x (sym (elsewhere k i out) ∙ e) in still x (other_key x some) some)
    ];
    apart = λ j k c d x ej ek. elim (place_cases j net c end) [
      | inl p ↦ elim (place_cases k net d end) [
        | inl q ↦ (p.0 ∙ sym q.0, p.1 ∙ sym q.1)
        | inr out ↦ absurd (other_key x (h.lead k d x (sym (elsewhere k d out) ∙ ek)) (here_key j c x p ej))
      ]
      | inr out ↦ elim (place_cases k net d end) [
        | inl q ↦ absurd (other_key x (h.lead j c x (sym (elsewhere j c out) ∙ ej)) (here_key k d x q ek))
        | inr off ↦ h.apart j k c d x (sym (elsewhere j c out) ∙ ej) (sym (elsewhere k d off) ∙ ek)
      ]
    ];
    known = λ x some. elim (cases_eq x key) [
      | inl e ↦ (net, end, after ∙ ap Some (sym e))
      | inr ne ↦ (let (k, i, e) = h.known x (was x ne some) in (k, i, elsewhere k i (λ p. gone k i x p e) ∙ e))
    ];
  }

  pub fewer_keys : AreKeys new b → AreKeys old a
  fewer_keys h = record {
    lead = λ k i x e.
        let out : (k ≡ net) × (i ≡ end) → ⊥ = λ p. gone k i x p e in
        let inside = elsewhere k i out ∙ e in
        was x (λ same. out (h.apart k net i end x inside (after ∙ ap Some (sym same)))) (h.lead k i x inside);
    apart = λ j k c d x ej ek. h.apart j k c d x (elsewhere j c (λ p. gone j c x p ej) ∙ ej) (elsewhere k d (λ p. gone k d x p ek) ∙ ek);
    known = λ x some.
        let ne = other_key x some in
        let (k, i, e) = h.known x (still x ne some) in
        (k, i, sym (elsewhere k i (λ p. ne (here_key k i x p e))) ∙ e);
  }

  same_under : AreKeys old a → (k : ℕ) → map (path_under new) (keys_of a k) ≡ map (path_under old) (keys_of a k)
  same_under h k = map_same (path_under new) (path_under old) (keys_of a k) (λ i x e. ap nodes_of (up.others x (other_key x (h.lead k i x e))))

  mine_now : AreKeys old a → paths_in (seen new b) net ≡ paths_in (seen old a) net ++ path.items ∷ []
  mine_now h =
      let one : path_under new key ≡ path.items = ap nodes_of up.changed in
      let both : map (path_under new) (keys_of a net ++ key ∷ []) ≡ map (path_under old) (keys_of a net) ++ path.items ∷ [] =
      map_push (path_under new) (keys_of a net) key ∙ (rw (same_under h net, one) refl) in
      seen_at new b net ∙ (ap (map (path_under new)) longer.mine ∙ (both ∙ ap (λ (ps : List (List Node)). ps ++ path.items ∷ []) (sym (seen_at old a net))))

  others_now : AreKeys old a → (k : ℕ) → k ≢ net → paths_in (seen new b) k ≡ paths_in (seen old a) k
  others_now h k ne = seen_at new b k ∙ (ap (map (path_under new)) (longer.others k ne) ∙ (same_under h k ∙ sym (seen_at old a k)))

  sizes : length (seen new b) ≡ length (seen old a)
  sizes = length-map b (paths_under new) ∙ (longer.size ∙ sym (length-map a (paths_under old)))

  pub more_paths : AreKeys old a → HasNow net (paths_in (seen old a) net ++ path.items ∷ []) (seen old a) (seen new b)
  more_paths h = record { size = sizes; mine = mine_now h; others = others_now h }

  pub fewer_paths : AreKeys new b → (rest : List (List Node)) × (paths_in (seen new b) net ≡ rest ++ path.items ∷ []) × HasNow net rest (seen new b) (seen old a)
  fewer_paths h =
      let was_keys = fewer_keys h in (
        paths_in (seen old a) net,
        mine_now was_keys,
        record { size = sym sizes; mine = refl; others = λ k ne. sym (others_now was_keys k ne) },
      )

-- ---- the same keys
module _ (a b : List (Vec ℕ)) (size : length b ≡ length a) (same : (k : ℕ) → keys_of b k ≡ keys_of a k) (old new : Slab (Vec Node)) (values : SameValues old new) where
  pub kept_keys : AreKeys old a → AreKeys new b
  kept_keys h =
      let at : (k i : ℕ) → key_at b k i ≡ key_at a k i = λ k i. ap (λ (xs : List ℕ). slice_get xs i) (same k) in
      record {
        lead = λ k i x e. subst (λ (o : Option (Vec Node)). IsSome o) (sym (values x)) (h.lead k i x (sym (at k i) ∙ e));
        apart = λ j k c d x ej ek. h.apart j k c d x (sym (at j c) ∙ ej) (sym (at k d) ∙ ek);
        known = λ x some. (let (k, i, e) = h.known x (subst (λ (o : Option (Vec Node)). IsSome o) (values x) some) in (k, i, at k i ∙ e));
      }

  pub kept_paths : (net : ℕ) → keys_of a net ≡ [] → HasNow net [] (seen old a) (seen new b)
  kept_paths net none =
      let each : (k : ℕ) → paths_in (seen new b) k ≡ paths_in (seen old a) k =
      λ k. seen_at new b k ∙ (ap (map (path_under new)) (same k) ∙ (map_same (path_under new) (path_under old) (keys_of a k) (λ i x e. ap nodes_of (values x)) ∙ sym (seen_at old a k))) in
      record {
        size = length-map b (paths_under new) ∙ (size ∙ sym (length-map a (paths_under old)));
        mine = each net ∙ (seen_at old a net ∙ ap (map (path_under old)) none);
        others = λ k ne. each k;
      }

-- ---- a net's keys are written
module _ (keys : List (Vec ℕ)) (net : ℕ) (v w : Vec ℕ) (lt : net < length keys) (read : v ≡ get_or keys net v) where
  -- one more
  pub longer_set : (key : ℕ) → w.items ≡ v.items ++ key ∷ [] → IsLonger keys (set keys net w) net key
  longer_set key e = record {
    size = length-set keys net w;
    mine = keys_set_same keys net w lt ∙ (e ∙ ap (λ (xs : List ℕ). xs ++ key ∷ []) (sym (keys_read keys net v lt read)));
    others = λ k ne. keys_set_other keys net k w ne;
  }

  -- one fewer
  pub shorter_set : (key : ℕ) → v.items ≡ w.items ++ key ∷ [] → IsLonger (set keys net w) keys net key
  shorter_set key e = record {
    size = sym (length-set keys net w);
    mine = keys_read keys net v lt read ∙ (e ∙ ap (λ (xs : List ℕ). xs ++ key ∷ []) (sym (keys_set_same keys net w lt)));
    others = λ k ne. sym (keys_set_other keys net k w ne);
  }

  pub same_set : w.items ≡ v.items → (k : ℕ) → keys_of (set keys net w) k ≡ keys_of keys k
  same_set e k = elim (cases_eq k net) [
    | inl is ↦ ap (keys_of (set keys net w)) is ∙ (keys_set_same keys net w lt ∙ (e ∙ (sym (keys_read keys net v lt read) ∙ ap (keys_of keys) (sym is))))
    | inr ne ↦ keys_set_other keys net k w ne
  ]

  -- ---- what the calls on the two leave
  module _ (old new : Slab (Vec Node)) (h : AreKeys old keys) where
    pub inserted_keys : {X E : Type 0} (r : Result X E) (path : Vec Node) → OnOk r (IsOneMore old new v.items w.items path) → OnErr r (SameValues old new) → OnErr r (w.items ≡ v.items)
        → AreKeys new (set keys net w)
    inserted_keys (Ok x) path m values same = more_keys keys (set keys net w) net m.key (longer_set m.key m.listed) old new path m.vacant m.updates h
    inserted_keys (Err x) path m values same = kept_keys keys (set keys net w) (length-set keys net w) (same_set same) old new values h

    pub inserted_paths : (path : Vec Node) → IsOneMore old new v.items w.items path
        → HasNow net (paths_in (seen old keys) net ++ path.items ∷ []) (seen old keys) (seen new (set keys net w))
    inserted_paths path m = more_paths keys (set keys net w) net m.key (longer_set m.key m.listed) old new path m.vacant m.updates h

    pub taken_keys : (r : Option (Vec Node)) → IfSome r (λ path. IsOneMore new old w.items v.items path) → IfNone r (v.items ≡ []) → IfNone r (new ≡ old) → IfNone r (w.items ≡ [])
        → AreKeys new (set keys net w)
    taken_keys (Some path) m none same empty = fewer_keys (set keys net w) keys net m.key (shorter_set m.key m.listed) new old path m.vacant m.updates h
    taken_keys None m none same empty = kept_keys keys (set keys net w) (length-set keys net w) (same_set (empty ∙ sym none)) old new (λ x. ap (λ (s : Slab (Vec Node)). get s x) same) h

    pub taken_paths : (path : Vec Node) → IsOneMore new old w.items v.items path
        → (rest : List (List Node)) × (paths_in (seen old keys) net ≡ rest ++ path.items ∷ []) × HasNow net rest (seen old keys) (seen new (set keys net w))
    taken_paths path m = fewer_paths (set keys net w) keys net m.key (shorter_set m.key m.listed) new old path m.vacant m.updates h

    pub none_before : v.items ≡ [] → paths_in (seen old keys) net ≡ []
    none_before none = seen_at old keys net ∙ ap (map (path_under old)) (keys_read keys net v lt read ∙ none)

    pub none_taken : v.items ≡ [] → new ≡ old → w.items ≡ [] → HasNow net [] (seen old keys) (seen new (set keys net w))
    none_taken none same empty =
        kept_paths keys (set keys net w) (length-set keys net w) (same_set (empty ∙ sym none)) old new (λ x. ap (λ (s : Slab (Vec Node)). get s x) same) net (keys_read keys net v lt read ∙ none)
