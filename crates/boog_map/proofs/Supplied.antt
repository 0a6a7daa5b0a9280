-- Ports in the order of names, with the supplies among them.
use Rattle.std.proofs.Common.{◌≡◌, ◌≢◌, ◌⊎◌, inl, inr, ◌↔◌, ◌+◌, Bool, true, false, List, [], ◌∷◌, ◌++◌, length, filter, refl, sym, ◌∙◌, ap, subst, arith, length-append, cond}
use Rattle.std.specs.Ordering.{is_lt, ordering_reverse}
use Rattle.std.specs.declared.cmp.Ordering.{Ordering}
use Rattle.std.specs.declared.cmp.Ordering.TheVariants.{Less, Equal, Greater}
use Rattle.vlsi_base.specs.declared.name.Name.{Name}
use Rattle.vlsi_base.specs.declared.name.Port.{Port}
use Rattle.vlsi_base.specs.Name.{name_cmp}
use Rattle.vlsi_base.specs.Names.{vdd, vss, comes_before}
use Rattle.vlsi_base.specs.Member.{In, here, there}
use Rattle.vlsi_base.proofs.NameOrder.{name_total, name_exact}
use Rattle.machine_core.specs.Machine.{names_of}
use Rattle.machine_core.specs.Named.{is_same_name}
use Rattle.net_theory.proofs.Basics.{In-map, In-map_back}
use Rattle.cell_pins.specs.Pins.{supply, with_supply}
use Rattle.cell_pins.proofs.Ports.{Sorted, sorted_supply, with_cases, before_less}
use Rattle.boog_map.proofs.Lists.{in_insert, in_middle}

-- ---- the order of names

after_false : (a b : Name) → comes_before a b ≡ true → comes_before b a ≡ false
after_false a b h = let turned : name_cmp b a ≡ Greater = name_total.antisymm b a ∙ ap ordering_reverse (before_less a b h) in ap is_lt turned

after_true : (a b : Name) → comes_before a b ≡ false → a ≢ b → comes_before b a ≡ true
after_true a b h apart = by (name_cmp a b) refl h where
  by : (o : Ordering) → name_cmp a b ≡ o → is_lt o ≡ false → comes_before b a ≡ true
  by Less e f = absurd cc
  by Equal e f = absurd (apart (name_exact a b e))
  by Greater e f = let turned : name_cmp b a ≡ Less = name_total.antisymm b a ∙ ap ordering_reverse e in ap is_lt turned

before_trans : (a b c : Name) → comes_before a b ≡ true → comes_before b c ≡ true → comes_before a c ≡ true
before_trans a b c p q = ap is_lt (name_total.trans a b c (before_less a b p) (before_less b c q))

-- ---- a supply stands between the ports before it and those behind

filter_all : (t : Port → Bool) (ps : List Port) → ((p : Port) → In p ps → t p ≡ true) → filter t ps ≡ ps
filter_all t [] each = refl
filter_all t (p ∷ ps) each = by (t p) (each p here) (filter_all t ps (λ q i. each q (there i))) where
  by : (b : Bool) → b ≡ true → filter t ps ≡ ps → cond b (p ∷ filter t ps) (filter t ps) ≡ p ∷ ps
  by true e rest = ap (λ (qs : List Port). p ∷ qs) rest
  by false e rest = absurd cc

filter_none : (t : Port → Bool) (ps : List Port) → ((p : Port) → In p ps → t p ≡ false) → filter t ps ≡ []
filter_none t [] each = refl
filter_none t (p ∷ ps) each = by (t p) (each p here) (filter_none t ps (λ q i. each q (there i))) where
  by : (b : Bool) → b ≡ false → filter t ps ≡ [] → cond b (p ∷ filter t ps) (filter t ps) ≡ []
  by true e rest = absurd cc
  by false e rest = rest

pub parted : (name : Name) (ps : List Port) → Sorted ps → ((p : Port) → In p ps → p.name ≢ name)
    → ps ≡ filter (λ p. comes_before p.name name) ps ++ filter (λ p. comes_before name p.name) ps
parted name [] s apart = refl
parted name (p ∷ ps) s apart = by (comes_before p.name name) refl (parted name ps s.1 (λ q i. apart q (there i))) where
  by : (b : Bool) → comes_before p.name name ≡ b
      → ps ≡ filter (λ p. comes_before p.name name) ps ++ filter (λ p. comes_before name p.name) ps
      → p ∷ ps
      ≡ cond b (p ∷ filter (λ p. comes_before p.name name) ps) (filter (λ p. comes_before p.name name) ps) ++ filter (λ p. comes_before name p.name) (p ∷ ps)
  by true e rest =
      let behind : filter (λ p. comes_before name p.name) (p ∷ ps) ≡ filter (λ p. comes_before name p.name) ps =
      ap (λ (b : Bool). cond b (p ∷ filter (λ p. comes_before name p.name) ps) (filter (λ p. comes_before name p.name) ps)) (after_false p.name name e) in
      ap (λ (qs : List Port). p ∷ qs) rest ∙ ap (λ (qs : List Port). p ∷ (filter (λ p. comes_before p.name name) ps ++ qs)) (sym behind)
  by false e rest =
      let high : comes_before name p.name ≡ true = after_true p.name name e (apart p here) in
      let later = λ (q : Port) (i : In q ps). before_trans name p.name q.name high (s.0 q i) in
      let none : filter (λ p. comes_before p.name name) ps ≡ [] = filter_none (λ p. comes_before p.name name) ps (λ q i. after_false name q.name (later q i)) in
      let every : filter (λ p. comes_before name p.name) ps ≡ ps = filter_all (λ p. comes_before name p.name) ps later in
      let behind : filter (λ p. comes_before name p.name) (p ∷ ps) ≡ p ∷ ps =
      ap (λ (b : Bool). cond b (p ∷ filter (λ p. comes_before name p.name) ps) (filter (λ p. comes_before name p.name) ps)) high
      ∙ ap (λ (qs : List Port). p ∷ qs) every in
      sym behind ∙ ap (λ (qs : List Port). qs ++ filter (λ p. comes_before name p.name) (p ∷ ps)) (sym none)

-- what is true of lists without a supply, and of those with it, is true of ports with a supply
pub supplied : (name : Name) (ps : List Port) → Sorted ps → ((p : Port) → In p ps → p.name ≢ name) → (P : List Port → List Port → Type 0)
    → ((xs ys : List Port) → P (xs ++ ys) (xs ++ supply name ∷ ys)) → P ps (with_supply name ps)
supplied name ps s apart P each =
    let xs = filter (λ p. comes_before p.name name) ps in
    let ys = filter (λ p. comes_before name p.name) ps in
    subst (λ (qs : List Port). P qs (xs ++ supply name ∷ ys)) (sym (parted name ps s apart)) (each xs ys)

own_of : (name : Name) (p : Port) (ps : List Port) → Sorted ps → ((q : Port) → In q ps → q.name ≢ name) → In p ps → In p (with_supply name ps)
own_of name p ps s apart = supplied name ps s apart (λ qs rs. In p qs → In p rs) (λ xs ys. in_insert p (supply name) xs ys)

supply_of : (name : Name) (ps : List Port) → In (supply name) (with_supply name ps)
supply_of name ps = in_middle (supply name) (filter (λ p. comes_before p.name name) ps) (filter (λ p. comes_before name p.name) ps)

one_longer : (name : Name) (ps : List Port) → Sorted ps → ((q : Port) → In q ps → q.name ≢ name) → length (with_supply name ps) ≡ length ps + 1
one_longer name ps s apart =
    supplied name ps s apart (λ qs rs. length rs ≡ length qs + 1)
    (λ xs ys. let a = length-append xs ys in let b = length-append xs (supply name ∷ ys) in omega (arith, a, b))

abbrev name_in : Port → Name
name_in p = p.name

vdd_is_not : vdd ≢ vss
vdd_is_not e = let a : is_same_name vdd vdd ≡ is_same_name vdd vss = ap (is_same_name vdd) e in let b : true ≡ false = a in cc b

module _ (ps : List Port) (sorted : Sorted ps) (apart : (p : Port) → In p ps → (p.name ≢ vdd) × (p.name ≢ vss)) where
  abbrev pub with_vdd : List Port
  with_vdd = with_supply vdd ps

  abbrev pub with_both : List Port
  with_both = with_supply vss with_vdd

  pub no_vdd : (p : Port) → In p ps → p.name ≢ vdd
  no_vdd p i = (apart p i).0

  pub no_vss : (p : Port) → In p with_vdd → p.name ≢ vss
  no_vss p i = elim (with_cases vdd ps p i) [ inl is ↦ λ e. vdd_is_not (sym (ap (λ (q : Port). q.name) is) ∙ e) | inr j ↦ (apart p j).1 ]

  pub sorted_vdd : Sorted with_vdd
  sorted_vdd = sorted_supply vdd ps sorted

  pub sorted_both : Sorted with_both
  sorted_both = sorted_supply vss with_vdd sorted_vdd

  pub own : (p : Port) → In p ps → In p with_both
  own p i = own_of vss p with_vdd sorted_vdd no_vss (own_of vdd p ps sorted no_vdd i)

  pub has_vdd : In (supply vdd) with_both
  has_vdd = own_of vss (supply vdd) with_vdd sorted_vdd no_vss (supply_of vdd ps)

  pub has_vss : In (supply vss) with_both
  has_vss = supply_of vss with_vdd

  pub cases : (p : Port) → In p with_both → (p.name ≡ vdd) ⊎ ((p.name ≡ vss) ⊎ In p ps)
  cases p i = elim (with_cases vss with_vdd p i) [
    | inl is ↦ inr (inl (ap (λ (q : Port). q.name) is))
    | inr j ↦ elim (with_cases vdd ps p j) [ inl is ↦ inl (ap (λ (q : Port). q.name) is) | inr k ↦ inr (inr k) ]
  ]

  pub names : (name : Name) → In name (names_of with_both) ↔ ((name ≡ vdd) ⊎ ((name ≡ vss) ⊎ In name (names_of ps)))
  names name = (to, from) where
    to : In name (names_of with_both) → (name ≡ vdd) ⊎ ((name ≡ vss) ⊎ In name (names_of ps))
    to h =
        let r = In-map_back name_in name with_both h in
        elim (cases r.0 r.1) [
          | inl is ↦ inl (sym r.2 ∙ is)
          | inr rest ↦ elim rest [
            | inl is ↦ inr (inl (sym r.2 ∙ is))
            | inr k ↦ inr (inr (subst (λ (x : Name). In x (names_of ps)) r.2 (In-map name_in r.0 ps k)))
          ]
        ]

    from : (name ≡ vdd) ⊎ ((name ≡ vss) ⊎ In name (names_of ps)) → In name (names_of with_both)
    from h = elim h [
      | inl is ↦ subst (λ (x : Name). In x (names_of with_both)) (sym is) (In-map name_in (supply vdd) with_both has_vdd)
      | inr rest ↦ elim rest [
        | inl is ↦ subst (λ (x : Name). In x (names_of with_both)) (sym is) (In-map name_in (supply vss) with_both has_vss)
        | inr k ↦
            let r = In-map_back name_in name ps k in
            subst (λ (x : Name). In x (names_of with_both)) r.2 (In-map name_in r.0 with_both (own r.0 r.1))
      ]
    ]

  pub two_longer : length with_both ≡ length ps + 2
  two_longer = let a = one_longer vdd ps sorted no_vdd in let b = one_longer vss with_vdd sorted_vdd no_vss in omega (arith, a, b)
