-- Ports that were tested one after the other.
use Rattle.std.proofs.Common.{◌≡◌, ℕ, ◌+◌, ◌-◌, ◌<◌, ◌≤◌, ◌⊎◌, inl, inr, true, false, nat_eq, List, [], ◌∷◌, map, length, take, get_or, refl, sym, ap, subst, ◌∙◌, arith}
use Rattle.std.specs.List.{All}
use Rattle.std.proofs.lemmas.Bool.{cases_lt, eqb-true}
use Rattle.std.proofs.lemmas.List.{take_all}
use Rattle.std.proofs.lemmas.List.Elements.{All-nil, All-more}
use Rattle.std.proofs.lemmas.Option.{slice_get_within, get_or_from_slice_get, slice_get_read, slice_get-map}
use Rattle.vlsi_base.specs.declared.name.Port.{Port}
use Rattle.std.specs.Prelude.{option_map}
use Rattle.net_core.specs.declared.frame.Node.{Node}
use Rattle.net_core.specs.Frame.{instance_of}
use Rattle.net_core.specs.Netlist.{Instance}
use Rattle.net_core.specs.Places.{Stands}
use Rattle.net_core.proofs.Standing.{stands_same}
use Rattle.net_right.specs.Writable.{IsIdentifier, GoesOn, CanBePorts}

abbrev pub Goes : Port → Port → Type 0
Goes p q = p.name.text ≡ q.name.text → GoesOn p q

pub record Tested (ports : List Port) (k : ℕ) : Type 0 where
  pub words : All (λ p. IsIdentifier p.name.text) (take k ports)
  pub runs : (j : ℕ) (p q : Port) → Stands ports j p → Stands ports (j + 1) q → j + 1 < k → p.name.text ≡ q.name.text → GoesOn p q

pub tested_start : (ports : List Port) → Tested ports 0
tested_start ports = record { words = All-nil (λ (p : Port). IsIdentifier p.name.text); runs = λ j p q s t l e. absurd (omega (arith, l)) }

words_more : (ports : List Port) (k : ℕ) (p : Port) → k < length ports → p ≡ get_or ports k p → IsIdentifier p.name.text → All (λ q. IsIdentifier q.name.text) (take k ports)
    → All (λ q. IsIdentifier q.name.text) (take (k + 1) ports)
words_more ports k p less is word all = All-more (λ (q : Port). IsIdentifier q.name.text) ports k p less all (subst (λ (q : Port). IsIdentifier q.name.text) is word)

-- one more, of which the one before it is known where there is one
pub tested_more : (ports : List Port) (k : ℕ) (p : Port) → k < length ports → p ≡ get_or ports k p → IsIdentifier p.name.text
    → ((b : Port) → 0 < k → b ≡ get_or ports (k - 1) b → Goes b p) → Tested ports k → Tested ports (k + 1)
tested_more ports k p less is word goes t = record {
  words = words_more ports k p less is word t.words;
  runs = λ j a b s u l e. by j a b s u l e (cases_lt (j + 1) k);
} where
  by : (j : ℕ) (a b : Port) → Stands ports j a → Stands ports (j + 1) b → j + 1 < k + 1 → a.name.text ≡ b.name.text → (j + 1 < k) ⊎ (k ≤ j + 1) → GoesOn a b
  by j a b s u l e (inl lower) = t.runs j a b s u lower e
  by j a b s u l e (inr upper) =
      let here : j + 1 ≡ k = omega (arith, l, upper) in
      let at : j ≡ k - 1 = omega (arith, here) in
      let same : p ≡ b = stands_same ports k p b (slice_get_read ports (length ports) k p refl less is) (subst (λ i. Stands ports i b) here u) in
      let before : a ≡ get_or ports (k - 1) a = sym (get_or_from_slice_get ports (k - 1) a a (subst (λ i. Stands ports i a) at s)) in
      subst (λ (x : Port). a.name.text ≡ x.name.text → GoesOn a x) same (goes a (omega (arith, here)) before) e

pub tested_all : (ports : List Port) (k : ℕ) → length ports ≤ k → 0 < length ports → Tested ports k → CanBePorts ports
tested_all ports k past some t = record {
  some = some;
  words = subst (All (λ (p : Port). IsIdentifier p.name.text)) (take_all k ports past) t.words;
  runs = λ j p q s u e. t.runs j p q s u (let w = slice_get_within ports (j + 1) q u in omega (arith, w, past)) e;
}

-- a port at a place, as it is read
pub at_place : (ports : List Port) (k : ℕ) (p : Port) → k < length ports → p ≡ get_or ports k p → Stands ports k p
at_place ports k p less is = slice_get_read ports (length ports) k p refl less is

-- the port before it, as both are read
pub goes_here : (ports : List Port) (k : ℕ) (p a z : Port) → k < length ports → p ≡ get_or ports k p → a ≡ get_or ports (k - 1) a → z ≡ get_or ports k z → Goes a z
    → (b : Port) → 0 < k → b ≡ get_or ports (k - 1) b → Goes b p
goes_here ports k p a z less is before here goes b some at =
    let same : z ≡ p = stands_same ports k z p (at_place ports k z less here) (at_place ports k p less is) in
    let inner : k - 1 < length ports = omega (arith, less) in
    let first : a ≡ b = stands_same ports (k - 1) a b (at_place ports (k - 1) a inner before) (at_place ports (k - 1) b inner at) in
    subst (λ (x : Port). Goes b x) same (subst (λ (x : Port). Goes x z) first goes)

pub some_ports : (ports : List Port) → nat_eq (length ports) 0 ≡ false → 0 < length ports
some_ports [] e = absurd cc
some_ports (p ∷ ps) e = omega arith

pub none_can_be : (ports : List Port) → nat_eq (length ports) 0 ≡ true → CanBePorts ports → ⊥
none_can_be ports e w = let some = w.some in let none = eqb-true (length ports) 0 e in absurd (omega (arith, some, none))

-- ---- instances, whose models are given by their places

-- a text at a place, as it is read
pub text_here : (texts : List (List ℕ)) (k : ℕ) (t : List ℕ) → k < length texts → t ≡ get_or texts k t → t ≡ get_or texts k []
text_here texts k t less is = sym (get_or_from_slice_get texts k t [] (slice_get_read texts (length texts) k t refl less is))

-- an instance at a place, as it is read
pub node_here : (models : List (List ℕ)) (nodes : List Node) (k : ℕ) (d : Node) → k < length nodes → d ≡ get_or nodes k d
    → Stands (map (instance_of models) nodes) k (instance_of models d)
node_here models nodes k d less is =
    slice_get-map (instance_of models) nodes k ∙ ap (option_map (instance_of models)) (slice_get_read nodes (length nodes) k d refl less is)

pub of_node : (P : Instance → Type 0) (models : List (List ℕ)) (nodes : List Node) (k : ℕ) (d : Node) → k < length nodes → d ≡ get_or nodes k d
    → All P (map (instance_of models) nodes) → P (instance_of models d)
of_node P models nodes k d less is all =
    let there = node_here models nodes k d less is in
    let i = instance_of models d in
    subst P (get_or_from_slice_get (map (instance_of models) nodes) k i i there) (all k i (slice_get_within (map (instance_of models) nodes) k i there))
