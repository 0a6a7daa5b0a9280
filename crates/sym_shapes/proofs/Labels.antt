-- A numbering of shapes that every link keeps is kept by chains of links.
use Rattle.std.proofs.Common.{◌≡◌, ℕ, Bool, true, false, not, ◌||◌, List, [], ◌∷◌, map, Option, None, Some, refl, sym, ◌∙◌, subst, nat_eq}
use Rattle.std.specs.List.{list_all}
use Rattle.vlsi_base.specs.declared.name.Name.{Name}
use Rattle.vlsi_base.specs.declared.name.Terminal.{Terminal}
use Rattle.vlsi_base.specs.Member.{In, here, there}
use Rattle.sym_shapes.specs.Shape.{Shape}
use Rattle.sym_shapes.specs.Joined.{Linked, touching, one_line, one_name, Joined, itself, through, Shows}
use Rattle.sym_shapes.proofs.Tests.{touch, share_line, linked, number_told, number_so, owner_told, meets_told, and_told, or_left, or_right, list_all_In}

-- shapes with their labels
abbrev pub Labelled : Type 0
Labelled = List (Shape × ℕ)

abbrev pub plain : Labelled → List Shape
plain ls = map (λ p. p.0) ls

abbrev pub with_labels : List Shape → List ℕ → Labelled
with_labels [] ns = []
with_labels (s ∷ ss) [] = []
with_labels (s ∷ ss) (n ∷ ns) = (s, n) ∷ with_labels ss ns

pub labelled : (ls : Labelled) (s : Shape) → In s (plain ls) → (n : ℕ) × In (s, n) ls
labelled [] s h = elim h [ ]
labelled (p ∷ ls) s here = (p.1, here)
labelled (p ∷ ls) s (there h) = let r = labelled ls s h in (r.0, there r.1)

pub first_In : {all : List Shape} {a b : Shape} → Joined all a b → In a all
first_In (itself h) = h
first_In (through h link rest) = h

pub last_In : {all : List Shape} {a b : Shape} → Joined all a b → In b all
last_In (itself h) = h
last_In (through h link rest) = last_In rest

-- linked shapes have one label
abbrev pub KeepsLabels : Labelled → Type 0
KeepsLabels ls = (p q : Shape × ℕ) → In p ls → In q ls → Linked p.0 q.0 → p.1 ≡ q.1

pub label_Joined : (ls : Labelled) → KeepsLabels ls → (a b : Shape) → Joined (plain ls) a b → (m n : ℕ) → In (a, m) ls → In (b, n) ls → m ≡ n
label_Joined ls keeps a b (itself h) m n first second = keeps (a, m) (a, n) first second (one_line refl refl)
label_Joined ls keeps a b (through {b = mid} h link rest) m n first second =
    let k = labelled ls mid (first_In rest) in
    keeps (a, m) (mid, k.0) first k.1 link ∙ label_Joined ls keeps mid b rest k.0 n k.1 second

-- what a computation over all pairs can see: touching shapes and shared lines, whatever the names are
abbrev pub agrees_but_names : Shape × ℕ → Shape × ℕ → Bool
agrees_but_names p q = not (linked p.0 q.0) || nat_eq p.1 q.1

abbrev pub all_agree : Labelled → Bool
all_agree ls = list_all (λ p. list_all (agrees_but_names p) ls) ls

-- a connector has the label of its terminal's class
abbrev pub PinAgrees : (Terminal → ℕ) → Option (List ℕ) → Option Name → ℕ → Type 0
PinAgrees class owner None n = Unit {0}
PinAgrees class owner (Some name) n = n ≡ class (record { instance = owner; pin = name })

abbrev pub PinsAgree : (Terminal → ℕ) → Labelled → Type 0
PinsAgree class [] = Unit {0}
PinsAgree class (p ∷ ls) = PinAgrees class p.0.owner p.0.name p.1 × PinsAgree class ls

pin_agrees : (class : Terminal → ℕ) (ls : Labelled) → PinsAgree class ls → (p : Shape × ℕ) → In p ls → PinAgrees class p.0.owner p.0.name p.1
pin_agrees class [] all p h = elim h [ ]
pin_agrees class (q ∷ ls) all p here = all.0
pin_agrees class (q ∷ ls) all p (there h) = pin_agrees class ls all.1 p h

-- a connector's label is the class of the terminal that it shows
pub label_of_shown : (class : Terminal → ℕ) (ls : Labelled) → PinsAgree class ls → (t : Terminal) (s : Shape) (n : ℕ) → Shows t s → In (s, n) ls → n ≡ class t
label_of_shown class ls pins t s n shows h =
    subst (λ (name : Option Name). PinAgrees class t.instance name n) shows.name
    (subst (λ (owner : Option (List ℕ)). PinAgrees class owner s.name n) shows.owner (pin_agrees class ls pins (s, n) h))

implied : (a b : Bool) → (not a || b) ≡ true → a ≡ true → b ≡ true
implied true b h is = h
implied false b h is = absurd (cc is)

seen : (ls : Labelled) → all_agree ls ≡ true → (p q : Shape × ℕ) → In p ls → In q ls → linked p.0 q.0 ≡ true → p.1 ≡ q.1
seen ls agree p q first second is =
    let test : agrees_but_names p q ≡ true = list_all_In (agrees_but_names p) ls (list_all_In (λ r. list_all (agrees_but_names r) ls) ls agree p first) q second in
    number_so p.1 q.1 (implied (linked p.0 q.0) (nat_eq p.1 q.1) test is)

pub keeps_labels : (class : Terminal → ℕ) (ls : Labelled) → all_agree ls ≡ true → PinsAgree class ls → KeepsLabels ls
keeps_labels class ls agree pins p q first second (touching metal meet) =
    seen ls agree p q first second (or_left (touch p.0 q.0) (share_line p.0 q.0) (and_told _ _ (number_told p.0.metal q.0.metal metal) (meets_told p.0.rect q.0.rect meet)))
keeps_labels class ls agree pins p q first second (one_line owner line) =
    seen ls agree p q first second (or_right (touch p.0 q.0) (share_line p.0 q.0) (and_told _ _ (owner_told p.0.owner q.0.owner owner) (number_told p.0.line q.0.line line)))
keeps_labels class ls agree pins p q first second (one_name owner name is_first is_second) =
    let t : Terminal = record { instance = q.0.owner; pin = name } in
    label_of_shown class ls pins t p.0 p.1 (record { owner = owner; name = is_first }) first
    ∙ sym (label_of_shown class ls pins t q.0 q.1 (record { owner = refl; name = is_second }) second)
