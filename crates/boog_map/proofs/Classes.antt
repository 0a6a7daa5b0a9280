-- Classes of a netlist whose terminals are joined to the drivers of their signals: each class has one signal, and each signal
-- one class.
use Rattle.std.proofs.Common.{◌≡◌, ◌↔◌, ℕ, zero, suc, ◌+◌, ◌<◌, ◌≤◌, ◌==◌, Bool, true, false, List, [], ◌∷◌, map, length, refl, sym, ap, ◌∙◌, subst, arith, if◌then◌else◌, ◌⊎◌, inl, inr, Some}
use Rattle.std.proofs.lemmas.Bool.{eqb-true, eq-eqb, cases_lt}
use Rattle.vlsi_base.specs.declared.name.Terminal.{Terminal}
use Rattle.vlsi_base.specs.Member.{In, here, there}
use Rattle.net_core.specs.Places.{Stands}
use Rattle.net_core.specs.Netlist.{Netlist as InMemory, IsNetlist, InTurn, ended, again, first, terminals, HasClass}
use Rattle.net_core.specs.Joins.{Joined, same, along, against}
use Rattle.net_core.proofs.Frames.{mapped}
use Rattle.net_core.proofs.Standing.{stands_same}
use Rattle.net_core.proofs.Finishing.{netlist_terminals_once}
use Rattle.net_meaning.specs.Netlist.{AbstractNetlist}
use Rattle.net_theory.specs.Sources.{Sourced, source_of}
use Rattle.net_theory.proofs.Basics.{In-map, In-map_back, length-map}
use Rattle.net_right.specs.View.{IsSeenAs}
use Rattle.boog_map.specs.declared.place.Signal.{Signal}
use Rattle.boog_map.specs.declared.place.Signal.TheVariants as signal
use Rattle.boog_map.specs.declared.drivers.Drivers.{Drivers}
use Rattle.boog_map.specs.Draft.{driver, join_of, source_of_signal}
use Rattle.boog_map.proofs.Lists.{in_there, there_in, stands_at, within}

-- ---- numbers of classes

met_below : {met count : ℕ} {ks : List ℕ} → InTurn met ks count → met ≤ count
met_below ended = omega arith
met_below (again l t) = met_below t
met_below (first t) = let h = met_below t in omega (arith, h)

turn_below : {met count : ℕ} {ks : List ℕ} → InTurn met ks count → (k : ℕ) → In k ks → k < count
turn_below ended k h = elim h [ ]
turn_below (again l t) k here = let h = met_below t in omega (arith, h, l)
turn_below (again l t) k (there h) = turn_below t k h
turn_below (first t) k here = let h = met_below t in omega (arith, h)
turn_below (first t) k (there h) = turn_below t k h

turn_used : {met count : ℕ} {ks : List ℕ} → InTurn met ks count → (k : ℕ) → met ≤ k → k < count → In k ks
turn_used ended k low high = absurd (omega (arith, low, high))
turn_used (again l t) k low high = there (turn_used t k low high)
turn_used {met} {count} (first {rest = rest} t) k low high = by (λ l. turn_used t k l high) (cases_lt met k) where
  by : (met + 1 ≤ k → In k rest) → (met < k) ⊎ (k ≤ met) → In k (met ∷ rest)
  by later (inl less) = there (later (omega (arith, less)))
  by later (inr most) = let e : met ≡ k = omega (arith, low, most) in subst (λ (x : ℕ). In k (x ∷ rest)) (sym e) here

-- ---- the signal of a class: that of the first terminal in it

pub signal_at : List ℕ → List (Terminal × Signal) → ℕ → Signal
signal_at [] told c = signal.Low
signal_at (k ∷ ks) [] c = signal.Low
signal_at (k ∷ ks) (t ∷ ts) c = if k == c then t.1 else signal_at ks ts c

signal_is : (ks : List ℕ) (told : List (Terminal × Signal)) (c i : ℕ) (x : Terminal × Signal)
    → ((i j : ℕ) (x y : Terminal × Signal) → Stands ks i c → Stands ks j c → Stands told i x → Stands told j y → x.1 ≡ y.1)
    → Stands ks i c → Stands told i x → signal_at ks told c ≡ x.1
unfolding signal_at
signal_is [] told c i x alike p q = absurd cc
signal_is (k ∷ ks) [] c i x alike p q = absurd cc
signal_is (k ∷ ks) (t ∷ ts) c i x alike p q = by (λ j f g. signal_is ks ts c j x (λ i j x y a b f g. alike (suc i) (suc j) x y a b f g) f g) (k == c) refl i p q where
  by : ((j : ℕ) → Stands ks j c → Stands ts j x → signal_at ks ts c ≡ x.1) → (b : Bool) → (k == c) ≡ b → (i : ℕ) → Stands (k ∷ ks) i c → Stands (t ∷ ts) i x → (if b then t.1 else signal_at ks ts c) ≡ x.1
  by rest true e i p q = let same_number : k ≡ c = eqb-true k c e in alike 0 i t x (ap Some same_number) p refl q
  by rest false e zero p q = let same_number : k ≡ c = cc in absurd (let t : (k == c) ≡ true = eq-eqb k c same_number in let no : true ≡ false = sym t ∙ e in cc)
  by rest false e (suc i) p q = rest i p q

unsourced : (s u : Signal) → source_of_signal s ≡ source_of_signal u → s ≡ u
unsourced signal.High signal.High e = refl
unsourced signal.High signal.Low e = absurd (cc e)
unsourced signal.High signal.Clock e = absurd (cc e)
unsourced signal.High (signal.Node b) e = absurd (cc e)
unsourced signal.Low signal.High e = absurd (cc e)
unsourced signal.Low signal.Low e = refl
unsourced signal.Low signal.Clock e = absurd (cc e)
unsourced signal.Low (signal.Node b) e = absurd (cc e)
unsourced signal.Clock signal.High e = absurd (cc e)
unsourced signal.Clock signal.Low e = absurd (cc e)
unsourced signal.Clock signal.Clock e = refl
unsourced signal.Clock (signal.Node b) e = absurd (cc e)
unsourced (signal.Node a) signal.High e = absurd (cc e)
unsourced (signal.Node a) signal.Low e = absurd (cc e)
unsourced (signal.Node a) signal.Clock e = absurd (cc e)
unsourced (signal.Node a) (signal.Node b) e = let same_number : a ≡ b = cc e in ap signal.Node same_number

-- the netlist with the sources of its classes
abbrev pub sourced_by : InMemory → List (Terminal × Signal) → AbstractNetlist → Sourced
sourced_by n told k = record { netlist = k; source = λ c. source_of_signal (signal_at n.classes told c); rank = λ a. a }

abbrev first_part : Terminal × Signal → Terminal
first_part t = t.0

module _ (n : InMemory) (sound : IsNetlist n) (told : List (Terminal × Signal)) (d : Drivers) (all : terminals n ≡ map (λ t. t.0) told)
    (driven : (t : Terminal × Signal) → In t told → In (driver d t.1, t.1) told)
    (joined : (a b : Terminal) (j k : ℕ) → HasClass n a j → HasClass n b k → (j ≡ k) ↔ Joined (map (join_of d) told) a b) where
  placed : (k : ℕ) (x : Terminal × Signal) → Stands told k x → Stands (terminals n) k x.0
  placed k x h = subst (λ (ts : List Terminal). Stands ts k x.0) (sym all) (mapped first_part told k x h)

  one_signal : (t : Terminal) (s u : Signal) → In (t, s) told → In (t, u) told → s ≡ u
  one_signal t s u p q =
      let a = in_there (t, s) told p in
      let b = in_there (t, u) told q in
      let e : a.0 ≡ b.0 = netlist_terminals_once n sound a.0 b.0 t (placed a.0 (t, s) a.1) (placed b.0 (t, u) b.1) in
      let one : Stands told b.0 (t, s) = let P : ℕ → Type 0 = λ k. Stands told k (t, s) in subst P e a.1 in
      let alike : (t, s) ≡ (t, u) = stands_same told b.0 (t, s) (t, u) one b.1 in
      ap (λ (x : Terminal × Signal). x.1) alike

  -- ---- along the pairs

  from_pair : (a b : Terminal) → In (a, b) (map (join_of d) told) → (s : Signal) × In (a, s) told × (b ≡ driver d s)
  from_pair a b h =
      let r = In-map_back (join_of d) (a, b) told h in
      (r.0.1, subst (λ (t : Terminal). In (t, r.0.1) told) (ap (λ (p : Terminal × Terminal). p.0) r.2) r.1, sym (ap (λ (p : Terminal × Terminal). p.1) r.2))

  driver_told : (a b : Terminal) (s : Signal) → In (a, s) told → b ≡ driver d s → In (b, s) told
  driver_told a b s h is = subst (λ (t : Terminal). In (t, s) told) (sym is) (driven (a, s) h)

  next : (a b : Terminal) (s : Signal) → In (a, b) (map (join_of d) told) → In (a, s) told → In (b, s) told
  next a b s p h =
      let r = from_pair a b p in
      let e : r.0 ≡ s = one_signal a r.0 s r.1 h in
      subst (λ (u : Signal). In (b, u) told) e (driver_told a b r.0 r.1 r.2)

  back : (a b : Terminal) (s : Signal) → In (a, b) (map (join_of d) told) → In (b, s) told → In (a, s) told
  back a b s p h =
      let r = from_pair a b p in
      let e : r.0 ≡ s = one_signal b r.0 s (driver_told a b r.0 r.1 r.2) h in
      subst (λ (u : Signal). In (a, u) told) e r.1

  keeps : {a b : Terminal} → Joined (map (join_of d) told) a b → (s : Signal) → In (a, s) told → In (b, s) told
  keeps same s h = h
  keeps (along {a = a} {b = b} p rest) s h = keeps rest s (next a b s p h)
  keeps (against {a = a} {b = b} p rest) s h = keeps rest s (back a b s p h)

  meet : (a b : Terminal) (s : Signal) → In (a, s) told → In (b, s) told → Joined (map (join_of d) told) a b
  meet a b s p q = along (In-map (join_of d) (a, s) told p) (against (In-map (join_of d) (b, s) told q) same)

  -- ---- classes

  alike : (c i j : ℕ) (x y : Terminal × Signal) → Stands n.classes i c → Stands n.classes j c → Stands told i x → Stands told j y → x.1 ≡ y.1
  alike c i j x y p q f g =
      let path = (joined x.0 y.0 c c (i, placed i x f, p) (j, placed j y g, q)).0 refl in
      one_signal y.0 x.1 y.1 (keeps path x.1 (there_in told i x f)) (there_in told j y g)

  pub signal_of_class : (c i : ℕ) (x : Terminal × Signal) → Stands n.classes i c → Stands told i x → signal_at n.classes told c ≡ x.1
  signal_of_class c i x p q = signal_is n.classes told c i x (alike c) p q

  abbrev At : Terminal → Signal → Type 0
  At t s = (i : ℕ) × (c : ℕ) × Stands told i (t, s) × Stands (terminals n) i t × Stands n.classes i c

  at : (t : Terminal) (s : Signal) → In (t, s) told → At t s
  at t s h =
      let r = in_there (t, s) told h in
      let p = placed r.0 (t, s) r.1 in
      let low = within (terminals n) r.0 t p in
      let each = sound.each in
      let c = stands_at n.classes r.0 (omega (arith, low, each)) in
      (r.0, c.0, r.1, p, c.1)

  module _ (k : AbstractNetlist) (seen : IsSeenAs n k) where
    class_is : (t : Terminal) (s : Signal) (a : At t s) → k.class t ≡ a.1
    class_is t s a = seen.classes.each t a.1 (a.0, a.3, a.4)

    pub signal_told : (t : Terminal) (s : Signal) → In (t, s) told → signal_at n.classes told (k.class t) ≡ s
    signal_told t s h = let a = at t s h in ap (signal_at n.classes told) (class_is t s a) ∙ signal_of_class a.1 a.0 (t, s) a.4 a.2

    pub source_told : (t : Terminal) (s : Signal) → In (t, s) told → source_of (sourced_by n told k) t ≡ source_of_signal s
    source_told t s h = ap source_of_signal (signal_told t s h)

    -- terminals of one signal are in one class
    pub class_alike : (t u : Terminal) (s : Signal) → In (t, s) told → In (u, s) told → k.class t ≡ k.class u
    class_alike t u s p q =
        let a = at t s p in
        let b = at u s q in
        class_is t s a ∙ (joined t u a.1 b.1 (a.0, a.3, a.4) (b.0, b.3, b.4)).1 (meet t u s p q) ∙ sym (class_is u s b)

    count_is : k.classes ≡ n.count
    count_is = ap (λ (x : AbstractNetlist). x.classes) seen.is

    pub class_told : (t : Terminal) (s : Signal) → In (t, s) told → k.class t < k.classes
    class_told t s h =
        let a = at t s h in
        let e = class_is t s a in
        let low = turn_below sound.turns a.1 (there_in n.classes a.0 a.1 a.4) in
        let count = count_is in
        omega (arith, e, low, count)

    -- a class with one of its terminals
    abbrev Held : ℕ → Type 0
    Held c = (i : ℕ) × (x : Terminal × Signal) × Stands n.classes i c × Stands told i x

    held : (c : ℕ) → c < k.classes → Held c
    held c h =
        let count = count_is in
        let r = in_there c n.classes (turn_used sound.turns c (omega arith) (omega (arith, h, count))) in
        let low = within n.classes r.0 c r.1 in
        let each = sound.each in
        let long : length (terminals n) ≡ length told = ap (λ (ts : List Terminal). length ts) all ∙ length-map first_part told in
        let x = stands_at told r.0 (omega (arith, low, each, long)) in
        (r.0, x.0, r.1, x.1)

    pub one_class : (a b : ℕ) → a < k.classes → b < k.classes → source_of_signal (signal_at n.classes told a) ≡ source_of_signal (signal_at n.classes told b) → a ≡ b
    one_class a b p q e =
        let x = held a p in
        let y = held b q in
        let s : x.1.1 ≡ y.1.1 = sym (signal_of_class a x.0 x.1 x.2 x.3) ∙ unsourced _ _ e ∙ signal_of_class b y.0 y.1 y.2 y.3 in
        let other : In (y.1.0, x.1.1) told = subst (λ (u : Signal). In (y.1.0, u) told) (sym s) (there_in told y.0 y.1 y.3) in
        (joined x.1.0 y.1.0 a b (x.0, placed x.0 x.1 x.3, x.2) (y.0, placed y.0 y.1 y.3, y.2)).1 (meet x.1.0 y.1.0 x.1.1 (there_in told x.0 x.1 x.3) other)

    pub class_origin : (c : ℕ) → c < k.classes → (t : Terminal) × (s : Signal) × In (t, s) told × (source_of_signal (signal_at n.classes told c) ≡ source_of_signal s)
    class_origin c h = let x = held c h in (x.1.0, x.1.1, there_in told x.0 x.1 x.3, ap source_of_signal (signal_of_class c x.0 x.1 x.2 x.3))
