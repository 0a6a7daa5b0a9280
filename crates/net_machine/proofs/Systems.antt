-- The bits of a netlist: each has one role, and all have one.
use Rattle.std.proofs.Common.{◌≡◌, ◌⊎◌, inl, inr, ℕ, ◌+◌, ◌<◌, ◌≤◌, Bool, true, false, cond, ◌&&◌, List, [], ◌∷◌, ◌++◌, map, length, Option, refl, sym, ap, ◌∙◌, subst, arith}
use Rattle.std.proofs.lemmas.List.{map-append}
use Rattle.std.proofs.lemmas.Bool.{cases_lt}
use Rattle.vlsi_base.specs.declared.name.Name.{Name}
use Rattle.vlsi_base.specs.declared.name.Port.{Port}
use Rattle.vlsi_base.specs.declared.name.Dir.{Dir}
use Rattle.vlsi_base.specs.declared.name.Dir.TheVariants as dir
use Rattle.vlsi_base.specs.declared.name.Terminal.{Terminal}
use Rattle.vlsi_base.specs.Member.{In, here, there, AllDifferent}
use Rattle.machine_core.specs.Machine.{is_input}
use Rattle.machine_core.proofs.Values.{In-split, In-left, In-right}
use Rattle.source_bits.specs.Driven.{Numbered}
use Rattle.vlsi_model.proofs.Members.{In-cases}
use Rattle.net_core.specs.Netlist.{port}
use Rattle.net_machine.specs.Bits.{is_signal, port_inputs, own_of, port_driven, class_of_port, classes_driven}

-- ---- numbers that rise

abbrev pub Rises : ℕ → List ℕ → Type 0
Rises k [] = Unit {0}
Rises k (x ∷ xs) = (k ≤ x) × Rises (x + 1) xs

pub rises_weaker : (j k : ℕ) (xs : List ℕ) → j ≤ k → Rises k xs → Rises j xs
rises_weaker j k [] l h = tt
rises_weaker j k (x ∷ xs) l h = (omega (arith, l, h.0), h.1)

pub rises_low : (k : ℕ) (xs : List ℕ) → Rises k xs → (x : ℕ) → In x xs → k ≤ x
rises_low k (y ∷ xs) h x here = h.0
rises_low k (y ∷ xs) h x (there i) = let r = rises_low (y + 1) xs h.1 x i in omega (arith, r, h.0)
rises_low k [] h x i = elim i [ ]

pub rises_different : (k : ℕ) (xs : List ℕ) → Rises k xs → AllDifferent xs
rises_different k [] h = tt
rises_different k (x ∷ xs) h = (λ i. let r = rises_low (x + 1) xs h.1 x i in absurd (omega (arith, r)), rises_different (x + 1) xs h.1)

pub rises_append : (k m : ℕ) (xs ys : List ℕ) → Rises k xs → ((x : ℕ) → In x xs → x < m) → Rises m ys → k ≤ m → Rises k (xs ++ ys)
rises_append k m [] ys h low g l = rises_weaker k m ys l g
rises_append k m (x ∷ xs) ys h low g l = (h.0, rises_append (x + 1) m xs ys h.1 (λ y i. low y (there i)) g (let a = low x here in omega (arith, a)))

-- ---- the bits of ports

abbrev bits_of : List Numbered → List ℕ
bits_of ds = map (λ (d : Numbered). d.bit) ds

bits_append : (xs ys : List Numbered) → bits_of (xs ++ ys) ≡ bits_of xs ++ bits_of ys
bits_append xs ys = map-append (λ (d : Numbered). d.bit) xs ys

pub inputs_rise : (clock : Option Name) (k : ℕ) (ps : List Port) → Rises k (port_inputs clock k ps)
inputs_rise clock k [] = tt
inputs_rise clock k (p ∷ ps) = by (is_input p.dir && is_signal clock p) (inputs_rise clock (k + 1) ps) where
  by : (b : Bool) → Rises (k + 1) (port_inputs clock (k + 1) ps) → Rises k (cond b (k ∷ port_inputs clock (k + 1) ps) (port_inputs clock (k + 1) ps))
  by true h = (omega arith, h)
  by false h = rises_weaker k (k + 1) (port_inputs clock (k + 1) ps) (omega arith) h

pub inputs_high : (clock : Option Name) (k : ℕ) (ps : List Port) (x : ℕ) → In x (port_inputs clock k ps) → x < k + length ps
inputs_high clock k [] x i = elim i [ ]
inputs_high clock k (p ∷ ps) x i = by (is_input p.dir && is_signal clock p) i (inputs_high clock (k + 1) ps x) where
  by : (b : Bool) → In x (cond b (k ∷ port_inputs clock (k + 1) ps) (port_inputs clock (k + 1) ps)) → (In x (port_inputs clock (k + 1) ps) → x < k + 1 + length ps) → x < k + length (p ∷ ps)
  by true i rest = elim (In-cases x k (port_inputs clock (k + 1) ps) i) [ inl e ↦ omega (arith, e) | inr j ↦ let r = rest j in omega (arith, r) ]
  by false i rest = let r = rest i in omega (arith, r)

-- a port has its own bit driven, or none
own_cases : (class : Terminal → ℕ) (clock : Option Name) (k : ℕ) (p : Port) (d : Dir)
    → ((bits_of (own_of class clock k p d) ≡ []) × ((is_input d && is_signal clock p) ≡ true)) ⊎ ((bits_of (own_of class clock k p d) ≡ k ∷ []) × ((is_input d && is_signal clock p) ≡ false))
own_cases class clock k p dir.In = by (is_signal clock p) refl where
  by : (b : Bool) → is_signal clock p ≡ b → ((bits_of (own_of class clock k p dir.In) ≡ []) × (is_signal clock p ≡ true)) ⊎ ((bits_of (own_of class clock k p dir.In) ≡ k ∷ []) × (is_signal clock p ≡ false))
  by true e = inl (rw e refl, e)
  by false e = inr (rw e refl, e)
own_cases class clock k p dir.Out = inr (refl, refl)

pub ports_rise : (class : Terminal → ℕ) (clock : Option Name) (k : ℕ) (ps : List Port) → Rises k (bits_of (port_driven class clock k ps))
ports_rise class clock k [] = tt
ports_rise class clock k (p ∷ ps) =
    subst (λ (xs : List ℕ). Rises k xs) (sym (bits_append (own_of class clock k p p.dir) (port_driven class clock (k + 1) ps)))
    (by (own_cases class clock k p p.dir) (ports_rise class clock (k + 1) ps)) where
      rest : List ℕ
      rest = bits_of (port_driven class clock (k + 1) ps)

      by : ((bits_of (own_of class clock k p p.dir) ≡ []) × ((is_input p.dir && is_signal clock p) ≡ true)) ⊎ ((bits_of (own_of class clock k p p.dir) ≡ k ∷ []) × ((is_input p.dir && is_signal clock p) ≡ false))
          → Rises (k + 1) rest → Rises k (bits_of (own_of class clock k p p.dir) ++ rest)
      by (inl e) h = subst (λ (xs : List ℕ). Rises k (xs ++ rest)) (sym e.0) (rises_weaker k (k + 1) rest (omega arith) h)
      by (inr e) h = subst (λ (xs : List ℕ). Rises k (xs ++ rest)) (sym e.0) (omega arith, h)

pub ports_high : (class : Terminal → ℕ) (clock : Option Name) (k : ℕ) (ps : List Port) (x : ℕ) → In x (bits_of (port_driven class clock k ps)) → x < k + length ps
ports_high class clock k [] x i = elim i [ ]
ports_high class clock k (p ∷ ps) x i =
    elim (In-split x (bits_of (own_of class clock k p p.dir)) (bits_of (port_driven class clock (k + 1) ps)) (subst (λ (xs : List ℕ). In x xs) (bits_append (own_of class clock k p p.dir) (port_driven class clock (k + 1) ps)) i)) [
      | inl a ↦ own (own_cases class clock k p p.dir) a
      | inr b ↦ let r = ports_high class clock (k + 1) ps x b in omega (arith, r)
    ] where
      own : ((bits_of (own_of class clock k p p.dir) ≡ []) × ((is_input p.dir && is_signal clock p) ≡ true)) ⊎ ((bits_of (own_of class clock k p p.dir) ≡ k ∷ []) × ((is_input p.dir && is_signal clock p) ≡ false))
          → In x (bits_of (own_of class clock k p p.dir)) → x < k + length (p ∷ ps)
      own (inl e) a = absurd (elim (subst (λ (xs : List ℕ). In x xs) e.0 a) [ ])
      own (inr e) a = elim (In-cases x k [] (subst (λ (xs : List ℕ). In x xs) e.0 a)) [ inl same ↦ omega (arith, same) | inr j ↦ absurd (elim j [ ]) ]

-- each port's bit is an input or driven, and not both
pub port_parts : (class : Terminal → ℕ) (clock : Option Name) (k : ℕ) (ps : List Port) (x : ℕ) → k ≤ x → x < k + length ps → In x (port_inputs clock k ps) ⊎ In x (bits_of (port_driven class clock k ps))
port_parts class clock k [] x l h = absurd (omega (arith, l, h))
port_parts class clock k (p ∷ ps) x l h = by (cases_lt k x) (own_cases class clock k p p.dir) (port_parts class clock (k + 1) ps x) where
  joined : bits_of (port_driven class clock k (p ∷ ps)) ≡ bits_of (own_of class clock k p p.dir) ++ bits_of (port_driven class clock (k + 1) ps)
  joined = bits_append (own_of class clock k p p.dir) (port_driven class clock (k + 1) ps)

  later_input : In x (port_inputs clock (k + 1) ps) → In x (port_inputs clock k (p ∷ ps))
  later_input i = here_or (is_input p.dir && is_signal clock p) where
    here_or : (b : Bool) → In x (cond b (k ∷ port_inputs clock (k + 1) ps) (port_inputs clock (k + 1) ps))
    here_or true = there i
    here_or false = i

  by : (k < x) ⊎ (x ≤ k)
      → ((bits_of (own_of class clock k p p.dir) ≡ []) × ((is_input p.dir && is_signal clock p) ≡ true)) ⊎ ((bits_of (own_of class clock k p p.dir) ≡ k ∷ []) × ((is_input p.dir && is_signal clock p) ≡ false))
      → (k + 1 ≤ x → x < k + 1 + length ps → In x (port_inputs clock (k + 1) ps) ⊎ In x (bits_of (port_driven class clock (k + 1) ps)))
      → In x (port_inputs clock k (p ∷ ps)) ⊎ In x (bits_of (port_driven class clock k (p ∷ ps)))
  by (inl m) c rest = elim (rest (omega (arith, m)) (omega (arith, h))) [
    | inl i ↦ inl (later_input i)
    | inr i ↦ inr (subst (λ (xs : List ℕ). In x xs) (sym joined) (In-right x (bits_of (own_of class clock k p p.dir)) (bits_of (port_driven class clock (k + 1) ps)) i))
  ]
  by (inr m) (inl e) rest =
      let same : k ≡ x = omega (arith, l, m) in
      inl (subst (λ (b : Bool). In x (cond b (k ∷ port_inputs clock (k + 1) ps) (port_inputs clock (k + 1) ps))) (sym e.1) (subst (λ z. In z (k ∷ port_inputs clock (k + 1) ps)) same here))
  by (inr m) (inr e) rest =
      let same : k ≡ x = omega (arith, l, m) in
      inr (subst (λ (xs : List ℕ). In x xs) (sym joined) (In-left x (bits_of (own_of class clock k p p.dir)) (bits_of (port_driven class clock (k + 1) ps)) (subst (λ (xs : List ℕ). In x xs) (sym e.0) (subst (λ z. In z (k ∷ [])) same here))))

pub port_apart : (class : Terminal → ℕ) (clock : Option Name) (k : ℕ) (ps : List Port) (x : ℕ) → In x (port_inputs clock k ps) → In x (bits_of (port_driven class clock k ps)) → ⊥
port_apart class clock k [] x a b = elim a [ ]
port_apart class clock k (p ∷ ps) x a b = by (own_cases class clock k p p.dir) a (In-split x (bits_of (own_of class clock k p p.dir)) (bits_of (port_driven class clock (k + 1) ps)) (subst (λ (xs : List ℕ). In x xs) (bits_append (own_of class clock k p p.dir) (port_driven class clock (k + 1) ps)) b)) (port_apart class clock (k + 1) ps x) where
  inputs : List ℕ
  inputs = port_inputs clock (k + 1) ps

  high_driven : In k (bits_of (port_driven class clock (k + 1) ps)) → ⊥
  high_driven i = let r = rises_low (k + 1) (bits_of (port_driven class clock (k + 1) ps)) (ports_rise class clock (k + 1) ps) k i in omega (arith, r)

  high_input : In k inputs → ⊥
  high_input i = let r = rises_low (k + 1) inputs (inputs_rise clock (k + 1) ps) k i in omega (arith, r)

  by : ((bits_of (own_of class clock k p p.dir) ≡ []) × ((is_input p.dir && is_signal clock p) ≡ true)) ⊎ ((bits_of (own_of class clock k p p.dir) ≡ k ∷ []) × ((is_input p.dir && is_signal clock p) ≡ false))
      → In x (port_inputs clock k (p ∷ ps)) → In x (bits_of (own_of class clock k p p.dir)) ⊎ In x (bits_of (port_driven class clock (k + 1) ps))
      → (In x (port_inputs clock (k + 1) ps) → In x (bits_of (port_driven class clock (k + 1) ps)) → ⊥) → ⊥
  by (inl e) i (inl j) rest = elim (subst (λ (xs : List ℕ). In x xs) e.0 j) [ ]
  by (inl e) i (inr j) rest = elim (In-cases x k inputs (subst (λ (b : Bool). In x (cond b (k ∷ inputs) inputs)) e.1 i)) [
    | inl same ↦ high_driven (subst (λ z. In z (bits_of (port_driven class clock (k + 1) ps))) (sym same) j)
    | inr i' ↦ rest i' j
  ]
  by (inr e) i (inl j) rest =
      let i' : In x inputs = subst (λ (b : Bool). In x (cond b (k ∷ inputs) inputs)) e.1 i in
      elim (In-cases x k [] (subst (λ (xs : List ℕ). In x xs) e.0 j)) [ inl same ↦ high_input (subst (λ z. In z inputs) (sym same) i') | inr g ↦ elim g [ ] ]
  by (inr e) i (inr j) rest = rest (subst (λ (b : Bool). In x (cond b (k ∷ inputs) inputs)) e.1 i) j

-- ---- the classes of input ports

pub record IsInputClass (class : Terminal → ℕ) (ps : List Port) (x : ℕ) : Type 0 where
  pub p : Port
  pub listed : In p ps
  pub takes : p.dir ≡ dir.In
  pub is : x ≡ class (port p.name)

class_cases : (class : Terminal → ℕ) (k : ℕ) (p : Port) (d : Dir) → ((bits_of (class_of_port class k p d) ≡ class (port p.name) ∷ []) × (d ≡ dir.In)) ⊎ ((bits_of (class_of_port class k p d) ≡ []) × (d ≡ dir.Out))
class_cases class k p dir.In = inl (refl, refl)
class_cases class k p dir.Out = inr (refl, refl)

later_class : (class : Terminal → ℕ) (p : Port) (ps : List Port) (x : ℕ) → IsInputClass class ps x → IsInputClass class (p ∷ ps) x
later_class class p ps x r = record { p = r.p; listed = there r.listed; takes = r.takes; is = r.is }

pub class_in : (class : Terminal → ℕ) (k : ℕ) (ps : List Port) (x : ℕ) → In x (bits_of (classes_driven class k ps)) → IsInputClass class ps x
class_in class k [] x i = elim i [ ]
class_in class k (p ∷ ps) x i =
    elim (In-split x (bits_of (class_of_port class k p p.dir)) (bits_of (classes_driven class (k + 1) ps)) (subst (λ (xs : List ℕ). In x xs) (bits_append (class_of_port class k p p.dir) (classes_driven class (k + 1) ps)) i)) [
      | inl a ↦ first (class_cases class k p p.dir) a
      | inr b ↦ later_class class p ps x (class_in class (k + 1) ps x b)
    ] where
      first : ((bits_of (class_of_port class k p p.dir) ≡ class (port p.name) ∷ []) × (p.dir ≡ dir.In)) ⊎ ((bits_of (class_of_port class k p p.dir) ≡ []) × (p.dir ≡ dir.Out)) → In x (bits_of (class_of_port class k p p.dir)) → IsInputClass class (p ∷ ps) x
      first (inl e) a = elim (In-cases x (class (port p.name)) [] (subst (λ (xs : List ℕ). In x xs) e.0 a)) [ inl same ↦ record { p = p; listed = here; takes = e.1; is = sym same } | inr g ↦ absurd (elim g [ ]) ]
      first (inr e) a = absurd (elim (subst (λ (xs : List ℕ). In x xs) e.0 a) [ ])

pub in_class : (class : Terminal → ℕ) (k : ℕ) (ps : List Port) (p : Port) → In p ps → p.dir ≡ dir.In → In (class (port p.name)) (bits_of (classes_driven class k ps))
in_class class k (q ∷ ps) p i d =
    subst (λ (xs : List ℕ). In (class (port p.name)) xs) (sym (bits_append (class_of_port class k q q.dir) (classes_driven class (k + 1) ps)))
    (by (In-cases p q ps i) (λ j. in_class class (k + 1) ps p j d)) where
      by : (q ≡ p) ⊎ In p ps → (In p ps → In (class (port p.name)) (bits_of (classes_driven class (k + 1) ps))) → In (class (port p.name)) (bits_of (class_of_port class k q q.dir) ++ bits_of (classes_driven class (k + 1) ps))
      by (inl e) rest =
          let at : bits_of (class_of_port class k q q.dir) ≡ class (port p.name) ∷ [] = ap (λ (x : Port). bits_of (class_of_port class k x x.dir)) e ∙ ap (λ (x : Dir). bits_of (class_of_port class k p x)) d in
          In-left (class (port p.name)) (bits_of (class_of_port class k q q.dir)) (bits_of (classes_driven class (k + 1) ps)) (subst (λ (xs : List ℕ). In (class (port p.name)) xs) (sym at) here)
      by (inr j) rest = In-right (class (port p.name)) (bits_of (class_of_port class k q q.dir)) (bits_of (classes_driven class (k + 1) ps)) (rest j)
in_class class k [] p i d = elim i [ ]

pub classes_different : (class : Terminal → ℕ) (k : ℕ) (ps : List Port) → AllDifferent ps → ((p q : Port) → In p ps → In q ps → p.dir ≡ dir.In → q.dir ≡ dir.In → class (port p.name) ≡ class (port q.name) → p ≡ q)
    → AllDifferent (bits_of (classes_driven class k ps))
classes_different class k [] d tells = tt
classes_different class k (p ∷ ps) d tells =
    subst (λ (xs : List ℕ). AllDifferent xs) (sym (bits_append (class_of_port class k p p.dir) (classes_driven class (k + 1) ps)))
    (by (class_cases class k p p.dir) (classes_different class (k + 1) ps d.1 (λ a b i j e f g. tells a b (there i) (there j) e f g))) where
      rest : List ℕ
      rest = bits_of (classes_driven class (k + 1) ps)

      by : ((bits_of (class_of_port class k p p.dir) ≡ class (port p.name) ∷ []) × (p.dir ≡ dir.In)) ⊎ ((bits_of (class_of_port class k p p.dir) ≡ []) × (p.dir ≡ dir.Out)) → AllDifferent rest → AllDifferent (bits_of (class_of_port class k p p.dir) ++ rest)
      by (inl e) h =
          subst (λ (xs : List ℕ). AllDifferent (xs ++ rest)) (sym e.0)
          (λ i. let r = class_in class (k + 1) ps (class (port p.name)) i in d.0 (subst (λ (z : Port). In z ps) (sym (tells p r.p here (there r.listed) e.1 r.takes r.is)) r.listed), h)
      by (inr e) h = subst (λ (xs : List ℕ). AllDifferent (xs ++ rest)) (sym e.0) h
