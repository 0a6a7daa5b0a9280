-- Ports of one text, which are declared together.
use Rattle.std.proofs.Common.{◌≡◌, ◌⊎◌, inl, inr, ℕ, zero, suc, ◌+◌, ◌-◌, ◌<◌, ◌≤◌, Bool, true, false, cond, List, [], ◌∷◌, ◌++◌, map, length, drop, get_or, bytes_eq, refl, sym, ap, subst, ◌∙◌, append_assoc, append-nil, drop-cons, arith}
use Rattle.std.proofs.lemmas.Bool.{cases_lt}
use Rattle.std.proofs.lemmas.List.{drop_all, length-map}
use Rattle.std.proofs.lemmas.Option.{slice_get_within, get_or_from_slice_get, slice_get-get_or}
use Rattle.std.proofs.lemmas.Slice.Eq.{bytes_eq-Decides}
use Rattle.vlsi_base.specs.declared.name.Port.{Port}
use Rattle.spell_theory.specs.Layout.{text_of}
use Rattle.vhdl_print.specs.Outline.{port_layout, ports_layout}
use Rattle.net_core.specs.Places.{Stands}
use Rattle.net_core.proofs.Standing.{stands_same}
use Rattle.net_core.proofs.Lookups.{same_of}
use Rattle.vst_print.specs.Groups.{Group, group_of, led_by, grouped, declared}
use Rattle.vst_print.specs.Pieces.{ports_text, IsRunEnd}
use Rattle.vst_print.proofs.Texts.{text_append, three}

pub stands_cons : {X : Type 0} (xs : List X) (k : ℕ) (x : X) → Stands xs k x → drop k xs ≡ x ∷ drop (suc k) xs
stands_cons xs k x s = drop-cons xs k x (slice_get_within xs k x s) ∙ ap (λ y. y ∷ drop (suc k) xs) (get_or_from_slice_get xs k x x s)

pub stands_drop : {X : Type 0} (xs : List X) (k j : ℕ) (x : X) → Stands (drop k xs) j x → Stands xs (k + j) x
stands_drop xs zero j x s = let n : j ≡ 0 + j = omega arith in subst (λ i. Stands xs i x) n s
stands_drop [] (suc k) j x s = absurd cc
stands_drop (y ∷ xs) (suc k) j x s = let n : suc (k + j) ≡ suc k + j = omega arith in subst (λ i. Stands (y ∷ xs) i x) n (stands_drop xs k j x s)

-- two texts that differ
pub not_same : (x y : List ℕ) → (x ≡ y → ⊥) → bytes_eq x y ≡ false
not_same x y other = by (bytes_eq x y) refl where
  by : (b : Bool) → bytes_eq x y ≡ b → b ≡ false
  by false e = refl
  by true e = absurd (other (same_of x y e))

-- the first group behind a port that leads others has its text
lead : (p : Port) (gs : List Group) → (g : Group) × (rest : List Group) × (led_by p gs ≡ g ∷ rest) × (g.text ≡ p.name.text)
lead p [] = (group_of p p, [], refl, refl)
lead p (g ∷ gs) = by (bytes_eq p.name.text g.text) refl where
  by : (b : Bool) → bytes_eq p.name.text g.text ≡ b
      → (h : Group) × (rest : List Group) × (cond b (record g { dir = p.dir; low = p.name.bit } ∷ gs) (group_of p p ∷ g ∷ gs) ≡ h ∷ rest) × (h.text ≡ p.name.text)
  by true e = (record g { dir = p.dir; low = p.name.bit }, gs, refl, sym (same_of p.name.text g.text e))
  by false e = (group_of p p, g ∷ gs, refl, refl)

-- there are groups where there are ports
pub some_groups : (ports : List Port) → 0 < length ports → 0 < length (map declared (grouped ports))
some_groups [] some = absurd (omega arith)
some_groups (p ∷ ps) some =
    let l = lead p (grouped ps) in
    let n : length (map declared (grouped (p ∷ ps))) ≡ length (l.0 ∷ l.1) = length-map (grouped (p ∷ ps)) declared ∙ ap (λ (gs : List Group). length gs) l.2 in
    omega (arith, n)

leads_other : (a : Port) (g : Group) (gs : List Group) → (a.name.text ≡ g.text → ⊥) → led_by a (g ∷ gs) ≡ group_of a a ∷ g ∷ gs
leads_other a g gs other = ap (λ (b : Bool). cond b (record g { dir = a.dir; low = a.name.bit } ∷ gs) (group_of a a ∷ g ∷ gs)) (not_same a.name.text g.text other)

alone : (a : Port) (rest : List Port) → ((q : Port) → Stands rest 0 q → a.name.text ≡ q.name.text → ⊥) → led_by a (grouped rest) ≡ group_of a a ∷ grouped rest
alone a [] other = refl
alone a (y ∷ ys) other =
    let l = lead y (grouped ys) in
    ap (led_by a) l.2 ∙ leads_other a l.0 l.1 (λ e. other y refl (e ∙ l.3)) ∙ ap (λ (gs : List Group). group_of a a ∷ gs) (sym l.2)

leads_same : (a x z : Port) (gs : List Group) → a.name.text ≡ x.name.text → led_by a (group_of x z ∷ gs) ≡ group_of a z ∷ gs
leads_same a x z gs same =
    ap (λ (b : Bool). cond b (record (group_of x z) { dir = a.dir; low = a.name.bit } ∷ gs) (group_of a a ∷ group_of x z ∷ gs)) ((bytes_eq-Decides a.name.text x.name.text).1 same)
    ∙ ap (λ (t : List ℕ). record { text = t; dir = a.dir; low = a.name.bit; high = z.name.bit } ∷ gs) (sym same)

-- the ports from one to the last that has its text are the first group
pub run_front : (ports : List Port) (n start last : ℕ) (a z : Port) → last ≡ start + n → Stands ports start a → Stands ports last z → IsRunEnd ports start (suc last)
    → grouped (drop start ports) ≡ group_of a z ∷ grouped (drop (suc last) ports)
run_front ports zero start last a z at s t r =
    let e : start ≡ last = omega (arith, at) in
    let same : a ≡ z = stands_same ports last a z (subst (λ k. Stands ports k a) e s) t in
    let m : suc start + 0 ≡ suc last = omega (arith, at) in
    ap grouped (stands_cons ports start a s)
    ∙ alone a (drop (suc start) ports) (λ q there. r.other a q s (subst (λ k. Stands ports k q) m (stands_drop ports (suc start) 0 q there)))
    ∙ ap (λ (x : Port). group_of a x ∷ grouped (drop (suc start) ports)) same
    ∙ ap (λ k. group_of a z ∷ grouped (drop (suc k) ports)) e
run_front ports (suc n) start last a z at s t r =
    let w = r.within in
    let x = get_or ports (suc start) a in
    let sx : Stands ports (suc start) x = slice_get-get_or ports (suc start) a (omega (arith, at, w)) in
    let ax : a.name.text ≡ x.name.text = r.same (suc start) a x s sx (omega arith) (omega (arith, at)) in
    let inner : IsRunEnd ports (suc start) (suc last) = record {
      some = omega (arith, at);
      within = w;
      same = λ k p q sp sq l m. sym (r.same (suc start) a p s sp (omega arith) (omega (arith, at))) ∙ r.same k a q s sq (omega (arith, l)) m;
      other = λ p q sp sq f. r.other a q s sq (r.same (suc start) a p s sp (omega arith) (omega (arith, at)) ∙ f);
    } in
    ap grouped (stands_cons ports start a s)
    ∙ ap (led_by a) (run_front ports n (suc start) last x z (omega (arith, at)) sx t inner)
    ∙ leads_same a x z (grouped (drop (suc last) ports)) ax

-- ---- as they are written

-- what was written so far, and what is written of the ports from number k on, is the whole
pub record Groups (start : List ℕ) (ports : List Port) (k : ℕ) (out : List ℕ) : Type 0 where
  pub within : k ≤ length ports
  pub whole : out ++ text_of (ports_layout (map declared (grouped (drop k ports)))) ≡ start ++ ports_text (map declared (grouped ports))

pub groups_first : (start : List ℕ) (ports : List Port) (end last : ℕ) (a z : Port) (out : List ℕ) → suc last ≡ end → Stands ports 0 a → Stands ports last z → IsRunEnd ports 0 end
    → out ≡ start ++ text_of (port_layout (declared (group_of a z))) → Groups start ports end out
groups_first start ports end last a z out e s t r put =
    let f : grouped ports ≡ group_of a z ∷ grouped (drop (suc last) ports) = run_front ports last 0 last a z (omega arith) s t (subst (IsRunEnd ports 0) (sym e) r) in
    let first = port_layout (declared (group_of a z)) in
    let more = ports_layout (map declared (grouped (drop (suc last) ports))) in
    record {
      within = r.within;
      whole =
          ap (λ k. out ++ text_of (ports_layout (map declared (grouped (drop k ports))))) (sym e)
          ∙ ap (λ (x : List ℕ). x ++ text_of more) put
          ∙ append_assoc start (text_of first) (text_of more)
          ∙ ap (λ (x : List ℕ). start ++ x) (sym (text_append first more))
          ∙ ap (λ (gs : List Group). start ++ ports_text (map declared gs)) (sym f);
    }

pub groups_next : (start : List ℕ) (ports : List Port) (k end last : ℕ) (a z : Port) (out new : List ℕ) → suc last ≡ end → Stands ports k a → Stands ports last z → IsRunEnd ports k end
    → new ≡ (out ++ 59 ∷ 10 ∷ []) ++ text_of (port_layout (declared (group_of a z))) → Groups start ports k out → Groups start ports end new
groups_next start ports k end last a z out new e s t r put w =
    let some = r.some in
    let f : grouped (drop k ports) ≡ group_of a z ∷ grouped (drop (suc last) ports) = run_front ports (last - k) k last a z (omega (arith, some, e)) s t (subst (IsRunEnd ports k) (sym e) r) in
    let first = port_layout (declared (group_of a z)) in
    let more = ports_layout (map declared (grouped (drop (suc last) ports))) in
    record {
      within = r.within;
      whole =
          ap (λ k. new ++ text_of (ports_layout (map declared (grouped (drop k ports))))) (sym e)
          ∙ ap (λ (x : List ℕ). x ++ text_of more) put
          ∙ three out (59 ∷ 10 ∷ []) (text_of first) (text_of more)
          ∙ ap (λ (x : List ℕ). out ++ 59 ∷ 10 ∷ x) (sym (text_append first more))
          ∙ ap (λ (gs : List Group). out ++ text_of (ports_layout (map declared gs))) (sym f)
          ∙ w.whole;
    }

pub groups_end : (start : List ℕ) (ports : List Port) (k : ℕ) (out : List ℕ) → length ports ≤ k → Groups start ports k out → out ≡ start ++ ports_text (map declared (grouped ports))
groups_end start ports k out past w =
    sym (append-nil out) ∙ sym (ap (λ (ps : List Port). out ++ text_of (ports_layout (map declared (grouped ps)))) (drop_all k ports past)) ∙ w.whole

-- ---- where a run ends

-- the ports from one on up to this place have its text
pub record OneText (ports : List Port) (start end : ℕ) : Type 0 where
  pub some : start < end
  pub within : end ≤ length ports
  pub same : (k : ℕ) (p q : Port) → Stands ports start p → Stands ports k q → start ≤ k → k < end → p.name.text ≡ q.name.text

pub one_first : (ports : List Port) (start : ℕ) → start < length ports → OneText ports start (start + 1)
one_first ports start less = record {
  some = omega arith;
  within = omega (arith, less);
  same = λ k p q s t l m.
      let e : start ≡ k = omega (arith, l, m) in
      ap (λ (x : Port). x.name.text) (stands_same ports k p q (subst (λ i. Stands ports i p) e s) t);
}

pub one_more : (ports : List Port) (start end : ℕ) (a z : Port) → Stands ports start a → Stands ports end z → a.name.text ≡ z.name.text → end < length ports → OneText ports start end → OneText ports start (end + 1)
one_more ports start end a z s t same less w = record {
  some = let l = w.some in omega (arith, l);
  within = omega (arith, less);
  same = λ k p q u v l m. by k p q u v l m (cases_lt k end);
} where
  by : (k : ℕ) (p q : Port) → Stands ports start p → Stands ports k q → start ≤ k → k < end + 1 → (k < end) ⊎ (end ≤ k) → p.name.text ≡ q.name.text
  by k p q u v l m (inl lower) = w.same k p q u v l lower
  by k p q u v l m (inr upper) =
      let e : end ≡ k = omega (arith, m, upper) in
      ap (λ (x : Port). x.name.text) (stands_same ports start p a u s) ∙ same ∙ ap (λ (x : Port). x.name.text) (stands_same ports k z q (subst (λ i. Stands ports i z) e t) v)

-- it ends at the end of all ports, or in front of another text
pub one_all : (ports : List Port) (start end : ℕ) → length ports ≤ end → OneText ports start end → IsRunEnd ports start end
one_all ports start end past w = record {
  some = w.some;
  within = w.within;
  same = w.same;
  other = λ p q s t e. let l = slice_get_within ports end q t in absurd (omega (arith, l, past));
}

pub one_other : (ports : List Port) (start end : ℕ) (a z : Port) → Stands ports start a → Stands ports end z → (a.name.text ≡ z.name.text → ⊥) → OneText ports start end → IsRunEnd ports start end
one_other ports start end a z s t other w = record {
  some = w.some;
  within = w.within;
  same = w.same;
  other = λ p q u v e. other (ap (λ (x : Port). x.name.text) (stands_same ports start a p s u) ∙ e ∙ ap (λ (x : Port). x.name.text) (stands_same ports end q z v t));
}
