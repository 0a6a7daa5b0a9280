-- From a block by numbers to a layout: shapes that are shown by other shapes are joined as those are.
use Rattle.std.proofs.Common.{◌≡◌, ℕ, ◌<◌, ◌⊎◌, inl, inr, ⊎_elim, List, [], ◌∷◌, ◌++◌, map, Option, Some, None, refl, sym, ap, ◌∙◌, subst, arith}
use Rattle.std.specs.Prelude.{◌↔◌}
use Rattle.std.proofs.lemmas.Int.{ints}
use Rattle.vlsi_base.specs.declared.name.Name as name
use Rattle.sym_geom.specs.Rect.{Within, Near, Apart}
use Rattle.sym_geom.specs.declared.rect.Rect.{Rect}
use Rattle.vlsi_base.specs.Member as member
use Rattle.sym_shapes.specs.Shape as shape
use Rattle.sym_shapes.specs.Joined as joined
use Rattle.cell_model.specs.Layout as layout
use Rattle.net_meaning.specs.Breaches as breaches
use Rattle.sym_shapes.proofs.Labels.{first_In, last_In}
use Rattle.block_geom.specs.Figure.{Shape, Name, Power, Bit, In}
use Rattle.block_geom.specs.Joined.{Linked, touching, one_line, one_name, Joined, same, link}
use Rattle.block_geom.specs.Block.{Block, Terminal, AtPort, AtPin, Exists, net_of, IsOf, AreJoined, shapes, terminal_at}
use Rattle.block_geom.specs.Breach.{IsExcused, one_instance, in_connector, connector_of, joined_first, joined_second, first_within, second_within, HasNoBreach}
use Rattle.block_geom.proofs.TracksAll.{IsKnown, known}
use Rattle.block_geom.specs.Tracks.{block_lines}
use Rattle.block_geom.proofs.TracksAll.{tracks_join}
use Rattle.block_geom.proofs.TracksClean.{tracks_clean}
use Rattle.net_drawing.specs.Picture.{option_map, shown, terminal_of, AreApart, PicturesJoin}

pub In_shown_cases : (g : Shape → shape.Shape) (ys : List Shape) (x : shape.Shape) → member.In x (map g ys) → (s : Shape) × In s ys × (x ≡ g s)
In_shown_cases g [] x h = elim h [ ]
In_shown_cases g (y ∷ ys) x member.here = (y, inl refl, refl)
In_shown_cases g (y ∷ ys) x (member.there h) = let r = In_shown_cases g ys x h in (r.0, inr r.1, r.2)

pub In_shown : (g : Shape → shape.Shape) (ys : List Shape) (s : Shape) → In s ys → member.In (g s) (map g ys)
In_shown g [] s h = absurd h
In_shown g (y ∷ ys) s (inl e) = subst (λ v. member.In (g v) (map g (y ∷ ys))) (sym e) member.here
In_shown g (y ∷ ys) s (inr h) = member.there (In_shown g ys s h)

picks_none : {A : Type 0} (P : A → Type 0) (xs : List A) → ((x : A) → member.In x xs → P x → ⊥) → member.Picks P xs []
picks_none P [] f = member.done
picks_none P (x ∷ xs) f = member.skips (f x member.here) (picks_none P xs (λ y h. f y (member.there h)))

In_append_either : {A : Type 0} (xs ys : List A) (x : A) → member.In x (xs ++ ys) → member.In x xs ⊎ member.In x ys
In_append_either [] ys x h = inr h
In_append_either (y ∷ xs) ys x member.here = inl member.here
In_append_either (y ∷ xs) ys x (member.there h) = ⊎_elim (λ g. inl (member.there g)) (λ g. inr g) (In_append_either xs ys x h)

In_pair_row : {A : Type 0} (x : A) (xs : List A) (p : A × A) → member.In p (map (λ y. (x, y)) xs) → (p.0 ≡ x) × member.In p.1 xs
In_pair_row x [] p h = elim h [ ]
In_pair_row x (y ∷ xs) p member.here = (refl, member.here)
In_pair_row x (y ∷ xs) p (member.there h) = let r = In_pair_row x xs p h in (r.0, member.there r.1)

In_pairs : {A : Type 0} (xs : List A) (p : A × A) → member.In p (member.pairs xs) → member.In p.0 xs × member.In p.1 xs
In_pairs [] p h = elim h [ ]
In_pairs (x ∷ xs) p h =
    ⊎_elim
    (λ g. let r = In_pair_row x xs p g in (subst (λ v. member.In v (x ∷ xs)) (sym r.0) member.here, member.there r.1))
    (λ g. let r = In_pairs xs p g in (member.there r.0, member.there r.1))
    (In_append_either (map (λ y. (x, y)) xs) (member.pairs xs) p h)

not_near : (a b : Rect) → Near 200 a b → Apart 200 a b → ⊥
not_near a b n f = omega (arith, ints)

owner_same : (n : ℕ) (own : ℕ → List ℕ) → ((i k : ℕ) → i < n → k < n → own i ≡ own k → i ≡ k) → (o q : Option ℕ) → ((i : ℕ) → o ≡ Some i → i < n) → ((i : ℕ) → q ≡ Some i → i < n) → option_map own o ≡ option_map own q → o ≡ q
owner_same n own inj None None f g e = refl
owner_same n own inj None (Some k) f g e = absurd (cc e)
owner_same n own inj (Some i) None f g e = absurd (cc e)
owner_same n own inj (Some i) (Some k) f g e = let h : own i ≡ own k = cc in ap (λ v. Some v) (inj i k (f i refl) (g k refl) h)

name_same : (call : Name → name.Name) (P : Name → Type 0) → ((m d : Name) → P m → P d → call m ≡ call d → m ≡ d) → (o q : Option Name) → ((m : Name) → o ≡ Some m → P m) → ((m : Name) → q ≡ Some m → P m) → option_map call o ≡ option_map call q → o ≡ q
name_same call P inj None None f g e = refl
name_same call P inj None (Some k) f g e = absurd (cc e)
name_same call P inj (Some i) None f g e = absurd (cc e)
name_same call P inj (Some i) (Some k) f g e = let h : call i ≡ call k = cc in ap (λ v. Some v) (inj i k (f i refl) (g k refl) h)

-- the name that a shown shape has comes from one
name_from : (call : Name → name.Name) (o : Option Name) (x : name.Name) → option_map call o ≡ Some x → (m : Name) × (o ≡ Some m) × (call m ≡ x)
name_from call None x e = absurd (cc e)
name_from call (Some m) x e = (m, refl, cc)

module _ (b : Block) (own : ℕ → List ℕ) (call : Option ℕ → Name → name.Name) (apart : AreApart b own call) (ys : List Shape) (known : (s : Shape) → In s ys → IsKnown b s) where
  one_owner : (s t : Shape) → In s ys → In t ys → option_map own s.owner ≡ option_map own t.owner → s.owner ≡ t.owner
  one_owner s t hs ht e = owner_same b.count own apart.owners s.owner t.owner (known s hs).owner (known t ht).owner e

  one_name_of : (s t : Shape) → In s ys → In t ys → s.owner ≡ t.owner → option_map (call s.owner) s.name ≡ option_map (call t.owner) t.name → s.name ≡ t.name
  one_name_of s t hs ht o e =
      let k : option_map (call s.owner) s.name ≡ option_map (call s.owner) t.name = e ∙ ap (λ v. option_map (call v) t.name) (sym o) in
      name_same (call s.owner) (λ m. Exists b (terminal_at s.owner m)) (apart.names s.owner) s.name t.name (known s hs).name (λ m h. subst (λ v. Exists b (terminal_at v m)) (sym o) ((known t ht).name m h)) k

  shown_same : (s t : Shape) → In s ys → In t ys → shown own call s ≡ shown own call t → s ≡ t
  shown_same s t hs ht e =
      let o = one_owner s t hs ht (ap (λ v. v.owner) e) in
      let n = one_name_of s t hs ht o (ap (λ v. v.name) e) in
      make s t (ap (λ v. v.metal) e) (ap (λ v. v.rect) e) o (ap (λ v. v.line) e) n
    where
      make : (s t : Shape) → s.metal ≡ t.metal → s.rect ≡ t.rect → s.owner ≡ t.owner → s.line ≡ t.line → s.name ≡ t.name → s ≡ t
      make s t a c d e f =
          ap (λ v. record { metal = v; rect = s.rect; owner = s.owner; line = s.line; name = s.name }) a
          ∙ ap (λ v. record { metal = t.metal; rect = v; owner = s.owner; line = s.line; name = s.name }) c
          ∙ ap (λ v. record { metal = t.metal; rect = t.rect; owner = v; line = s.line; name = s.name }) d
          ∙ ap (λ v. record { metal = t.metal; rect = t.rect; owner = t.owner; line = v; name = s.name }) e
          ∙ ap (λ v. record { metal = t.metal; rect = t.rect; owner = t.owner; line = t.line; name = v }) f

  link_up : (s t : Shape) → Linked s t → joined.Linked (shown own call s) (shown own call t)
  link_up s t (touching m h) = joined.touching m h
  link_up s t (one_line o l) = joined.one_line (ap (option_map own) o) l
  link_up s t (one_name o n p q) = joined.one_name (ap (option_map own) o) (call s.owner n) (ap (option_map (call s.owner)) p) (ap (option_map (call t.owner)) q ∙ ap (λ v. Some (call v n)) (sym o))

  link_down : (s t : Shape) → In s ys → In t ys → joined.Linked (shown own call s) (shown own call t) → Linked s t
  link_down s t hs ht (joined.touching m h) = touching m h
  link_down s t hs ht (joined.one_line o l) = one_line (one_owner s t hs ht o) l
  link_down s t hs ht (joined.one_name o n p q) =
      let e = one_owner s t hs ht o in
      let f = name_from (call s.owner) s.name n p in
      let k = one_name_of s t hs ht e (p ∙ sym q) in
      one_name e f.0 f.1 (sym k ∙ f.1)

  pub joined_up : (s t : Shape) → In s ys → Joined ys s t → joined.Joined (map (shown own call) ys) (shown own call s) (shown own call t)
  joined_up s t h same = joined.itself (In_shown (shown own call) ys s h)
  joined_up s t h (link {b = d} k l j) = joined.through (In_shown (shown own call) ys s h) (link_up s d l) (joined_up d t k j)

  pub joined_down : (x y : shape.Shape) → joined.Joined (map (shown own call) ys) x y → (s t : Shape) → In s ys → In t ys → x ≡ shown own call s → y ≡ shown own call t → Joined ys s t
  joined_down x y (joined.itself h) s t hs ht e f = subst (λ v. Joined ys s v) (shown_same s t hs ht (sym e ∙ f)) same
  joined_down x y (joined.through {b = z} h l j) s t hs ht e f =
      let r = In_shown_cases (shown own call) ys z (first_In j) in
      let l1 : joined.Linked (shown own call s) z = subst (λ v. joined.Linked v z) e l in
      let l2 : joined.Linked (shown own call s) (shown own call r.0) = subst (λ v. joined.Linked (shown own call s) v) r.2 l1 in
      link r.1 (link_down s r.0 hs r.1 l2) (joined_down z y j r.0 t r.1 ht r.2 f)

  -- ---- terminals
  shows_up : (t : Terminal) (s : Shape) → IsOf t s → joined.Shows (terminal_of own call t) (shown own call s)
  shows_up (AtPort m) s (o, n) = record { owner = ap (option_map own) o; name = ap (λ v. option_map (call v) s.name) o ∙ ap (option_map (call None)) n }
  shows_up (AtPin i m) s (o, n) = record { owner = ap (option_map own) o; name = ap (λ v. option_map (call v) s.name) o ∙ ap (option_map (call (Some i))) n }

  shows_down : (t : Terminal) (s : Shape) → Exists b t → In s ys → joined.Shows (terminal_of own call t) (shown own call s) → IsOf t s
  shows_down (AtPort m) s h hs f =
      let o : s.owner ≡ None = owner_same b.count own apart.owners s.owner None (known s hs).owner (λ i e. absurd (cc e)) f.owner in
      let n : option_map (call s.owner) s.name ≡ option_map (call s.owner) (Some m) = f.name ∙ ap (λ v. Some (call v m)) (sym o) in
      (o, name_same (call s.owner) (λ d. Exists b (terminal_at s.owner d)) (apart.names s.owner) s.name (Some m) (known s hs).name (λ d e. let k : m ≡ d = cc in subst (λ v. Exists b (terminal_at s.owner v)) k (subst (λ v. Exists b (terminal_at v m)) (sym o) h)) n)
  shows_down (AtPin i m) s h hs f =
      let lt : i < b.count = instance_there i m h in
      let o : s.owner ≡ Some i = owner_same b.count own apart.owners s.owner (Some i) (known s hs).owner (λ k e. let a : i ≡ k = cc in subst (λ v. v < b.count) a lt) f.owner in
      let n : option_map (call s.owner) s.name ≡ option_map (call s.owner) (Some m) = f.name ∙ ap (λ v. Some (call v m)) (sym o) in
      (o, name_same (call s.owner) (λ d. Exists b (terminal_at s.owner d)) (apart.names s.owner) s.name (Some m) (known s hs).name (λ d e. let k : m ≡ d = cc in subst (λ v. Exists b (terminal_at s.owner v)) k (subst (λ v. Exists b (terminal_at v m)) (sym o) h)) n)
    where
      instance_there : (i : ℕ) (m : Name) → Exists b (AtPin i m) → i < b.count
      instance_there i (Power u) h = h
      instance_there i (Bit p) h = h.0

  pub terminals_up : (t u : Terminal) → AreJoined ys t u → joined.AreJoined (map (shown own call) ys) (terminal_of own call t) (terminal_of own call u)
  terminals_up t u j = record { from = shown own call j.from; to = shown own call j.to; shows_from = shows_up t j.from j.from_of; shows_to = shows_up u j.to j.to_of; joined = joined_up j.from j.to j.from_in j.joined }

  pub terminals_down : (t u : Terminal) → Exists b t → Exists b u → joined.AreJoined (map (shown own call) ys) (terminal_of own call t) (terminal_of own call u) → AreJoined ys t u
  terminals_down t u ht hu j =
      let f = In_shown_cases (shown own call) ys j.from (first_In j.joined) in
      let k = In_shown_cases (shown own call) ys j.to (last_In j.joined) in
      record {
        from = f.0;
        to = k.0;
        from_in = f.1;
        to_in = k.1;
        from_of = shows_down t f.0 ht f.1 (subst (joined.Shows (terminal_of own call t)) f.2 j.shows_from);
        to_of = shows_down u k.0 hu k.1 (subst (joined.Shows (terminal_of own call u)) k.2 j.shows_to);
        joined = joined_down j.from j.to j.joined f.0 k.0 f.1 k.1 f.2 k.2;
      }

  -- ---- breaches
  over_pin : (s t c : Shape) (i : ℕ) (n : Name) → s.owner ≡ None → t.owner ≡ Some i → In c ys → c.owner ≡ Some i → c.name ≡ Some n → c.metal ≡ s.metal → Within s.rect c.rect → breaches.IsOverPin (map (shown own call) ys) (shown own call s) (shown own call t)
  over_pin s t c i n p q h o m w v = record {
    drawn = ap (option_map own) p;
    owner = own i;
    owned = ap (option_map own) q;
    pin = shown own call c;
    name = call c.owner n;
    listed = In_shown (shown own call) ys c h;
    of_owner = ap (option_map own) o;
    named = ap (option_map (call c.owner)) m;
    metal = w;
    within = v;
  }

  excused_up : (s t : Shape) → In s ys → In t ys → IsExcused ys s t → breaches.IsExcused (map (shown own call) ys) (shown own call s) (shown own call t)
  excused_up s t hs ht (one_instance i p q) = breaches.one_instance (own i) (ap (option_map own) p) (ap (option_map own) q)
  excused_up s t hs ht (in_connector i n c p q h o m w v) = breaches.first_over_pin (over_pin s t c i n p q h o m w v)
  excused_up s t hs ht (connector_of i n c p q h o m w v) = breaches.second_over_pin (over_pin t s c i n p q h o m w v)
  excused_up s t hs ht (joined_first i p j) = breaches.joined_first (own i) (ap (option_map own) p) (joined_up s t hs j)
  excused_up s t hs ht (joined_second i p j) = breaches.joined_second (own i) (ap (option_map own) p) (joined_up s t hs j)
  excused_up s t hs ht (first_within c h m w v) = breaches.first_bridged (record { third = shown own call c; listed = In_shown (shown own call) ys c h; metal = m; within = w; touches = v })
  excused_up s t hs ht (second_within c h m w v) = breaches.second_bridged (record { third = shown own call c; listed = In_shown (shown own call) ys c h; metal = m; within = w; touches = v })

  not_too_near : HasNoBreach ys → (x y : shape.Shape) → member.In x (map (shown own call) ys) → member.In y (map (shown own call) ys) → breaches.AreTooNear (map (shown own call) ys) x y → ⊥
  not_too_near ok x y hx hy near =
      let f = In_shown_cases (shown own call) ys x hx in
      let k = In_shown_cases (shown own call) ys y hy in
      let n1 : breaches.AreTooNear (map (shown own call) ys) (shown own call f.0) y = subst (λ v. breaches.AreTooNear (map (shown own call) ys) v y) f.2 near in
      let n2 : breaches.AreTooNear (map (shown own call) ys) (shown own call f.0) (shown own call k.0) = subst (λ v. breaches.AreTooNear (map (shown own call) ys) (shown own call f.0) v) k.2 n1 in
      ok.gap f.0 k.0 f.1 k.1 (record { metal = n2.metal; not_touching = n2.apart; too_near = λ a. not_near f.0.rect k.0.rect n2.near a; not_excused = λ e. n2.unexcused (excused_up f.0 k.0 f.1 k.1 e) })

  not_narrow : HasNoBreach ys → (x : shape.Shape) → member.In x (map (shown own call) ys) → breaches.IsNarrow x → ⊥
  not_narrow ok x hx narrow =
      let f = In_shown_cases (shown own call) ys x hx in
      let n : breaches.IsNarrow (shown own call f.0) = subst breaches.IsNarrow f.2 narrow in
      let o : f.0.owner ≡ None = owner_same b.count own apart.owners f.0.owner None (known f.0 f.1).owner (λ i e. absurd (cc e)) n.drawn in
      ok.width f.0 f.1 (record { drawn = o; narrow = ⊎_elim (λ a. inl (omega (arith, ints))) (λ a. inr (omega (arith, ints))) n.narrow })

  pub no_width : HasNoBreach ys → member.Picks breaches.IsNarrow (map (shown own call) ys) []
  no_width ok = picks_none breaches.IsNarrow (map (shown own call) ys) (not_narrow ok)

  pub no_gap : HasNoBreach ys → member.Picks (λ (p : shape.Shape × shape.Shape). breaches.AreTooNear (map (shown own call) ys) p.0 p.1) (member.pairs (map (shown own call) ys)) []
  no_gap ok = picks_none (λ (p : shape.Shape × shape.Shape). breaches.AreTooNear (map (shown own call) ys) p.0 p.1) (member.pairs (map (shown own call) ys)) (λ p h. let r = In_pairs (map (shown own call) ys) p h in not_too_near ok p.0 p.1 r.0 r.1)

pub pictures_join : PicturesJoin
pictures_join items l b lo hi own call pic =
    let ys = shapes b (block_lines b lo hi) in
    let all_known = known b lo hi pic.sound pic.tracks in
    let clean = tracks_clean b lo hi pic.sound pic.tracks in (
      λ t u ht hu. nets t u ht hu,
      record {
        narrow = [];
        near = [];
        widths = subst (λ (xs : List shape.Shape). member.Picks breaches.IsNarrow xs []) (sym pic.shapes) (no_width b own call pic.apart ys all_known clean);
        gaps = subst (λ (xs : List shape.Shape). member.Picks (λ (p : shape.Shape × shape.Shape). breaches.AreTooNear xs p.0 p.1) (member.pairs xs) []) (sym pic.shapes) (no_gap b own call pic.apart ys all_known clean);
        listed = refl;
      },
    )
  where
    nets : (t u : Terminal) → Exists b t → Exists b u → (net_of b t ≡ net_of b u) ↔ joined.AreJoined (layout.shapes items l) (terminal_of own call t) (terminal_of own call u)
    nets t u ht hu =
        let ys = shapes b (block_lines b lo hi) in
        let all_known = known b lo hi pic.sound pic.tracks in
        let join = tracks_join b lo hi pic.sound pic.tracks in (
          λ e. subst (λ (xs : List shape.Shape). joined.AreJoined xs (terminal_of own call t) (terminal_of own call u)) (sym pic.shapes)
              (terminals_up b own call pic.apart ys all_known t u (join.all t u ht hu e)),
          λ j. join.only t u ht hu (terminals_down b own call pic.apart ys all_known t u ht hu
              (subst (λ (xs : List shape.Shape). joined.AreJoined xs (terminal_of own call t) (terminal_of own call u)) pic.shapes j)),
        )
