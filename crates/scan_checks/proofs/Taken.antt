-- Names that are added, and names that are used.
use Rattle.std.proofs.Common.{◌≡◌, ◌↔◌, inl, inr, ℕ, suc, zero, ◌+◌, ◌-◌, ◌*◌, ◌≤◌, Bool, true, false, List, [], ◌∷◌, ◌++◌, map, nat_eq, refl, sym, ap, ◌∙◌, subst, arith, append_assoc, if◌then◌else◌}
use Rattle.std.specs.List.{All}
use Rattle.std.proofs.lemmas.Bool.{eqb-true}
use Rattle.std.proofs.lemmas.List.{append-nil, map-append}
use Rattle.vlsi_base.specs.declared.name.Port.{Port}
use Rattle.vlsi_base.specs.Member.{In}
use Rattle.vlsi_base.specs.Range.{rising}
use Rattle.cell_model.proofs.Members.{All-In}
use Rattle.cell_pins.proofs.Sound.{member_at}
use Rattle.net_core.specs.declared.frame.Node.{Node}
use Rattle.net_core.specs.Frame.{instance_of}
use Rattle.net_core.specs.Places.{Stands, IsThere, Begins, AddsOnly}
use Rattle.net_core.specs.Netlist.{Instance, Netlist}
use Rattle.scan_theory.specs.Scan.{gate_name}
use Rattle.scan_theory.specs.Path.{gate_numbers, IsTaken}

-- ---- numbers

-- one number more
pub rising_more : (m n : ℕ) → rising m (suc n) ≡ rising m n ++ (m + n) ∷ []
rising_more m zero = let e : m ≡ m + 0 = omega arith in ap (λ (k : ℕ). k ∷ []) e
rising_more m (suc n) =
    let e : m + 1 + n ≡ m + suc n = omega arith in
    ap (λ (xs : List ℕ). m ∷ xs) (rising_more (m + 1) n ∙ ap (λ (k : ℕ). rising (m + 1) n ++ k ∷ []) e)

-- the first number, and how many there are
abbrev pub first_number : ℕ → ℕ
first_number many = if nat_eq many 0 then 1 else 0

pub all_numbers : (many left : ℕ) → first_number many + left ≡ 3 * many + 3 → rising (first_number many) left ≡ gate_numbers many
all_numbers many left all = by (nat_eq many 0) refl all where
  by : (b : Bool) → nat_eq many 0 ≡ b → (if b then 1 else 0) + left ≡ 3 * many + 3
      → rising (if b then 1 else 0) left ≡ (if b then 1 ∷ 2 ∷ [] else rising 0 (3 * many + 3))
  by true e h = let none = eqb-true many 0 e in let two : left ≡ 2 = omega (arith, none, h) in ap (rising 1) two
  by false e h = let same : left ≡ 3 * many + 3 = omega (arith, h) in ap (rising 0) same

-- names of gates, one after the other
pub start_names : (names : List (List ℕ)) (first : ℕ) → names ≡ names ++ map gate_name (rising first (first - first))
start_names names first = let e : 0 ≡ first - first = omega arith in sym (append-nil names) ∙ ap (λ (k : ℕ). names ++ map gate_name (rising first k)) e

pub more_names : (names now new : List (List ℕ)) (first k : ℕ) → first ≤ k → now ≡ names ++ map gate_name (rising first (k - first)) → new ≡ now ++ gate_name k ∷ []
    → new ≡ names ++ map gate_name (rising first (k + 1 - first))
more_names names now new first k low so pushed =
    let last : first + (k - first) ≡ k = omega (arith, low) in
    let many : suc (k - first) ≡ k + 1 - first = omega (arith, low) in
    pushed
    ∙ ap (λ (xs : List (List ℕ)). xs ++ gate_name k ∷ []) so
    ∙ append_assoc names (map gate_name (rising first (k - first))) (gate_name k ∷ [])
    ∙ ap (λ (xs : List (List ℕ)). names ++ xs)
    (sym (map-append gate_name (rising first (k - first)) (k ∷ []))
    ∙ ap (λ (j : ℕ). map gate_name (rising first (k - first) ++ j ∷ [])) (sym last)
    ∙ ap (map gate_name) (sym (rising_more first (k - first)))
    ∙ ap (λ (j : ℕ). map gate_name (rising first j)) many)

pub end_names : (names now : List (List ℕ)) (many first k : ℕ) → first ≡ first_number many → 3 * many + 3 ≡ k → first ≤ k → now ≡ names ++ map gate_name (rising first (k - first))
    → now ≡ names ++ map gate_name (gate_numbers many)
end_names names now many first k is last low so =
    let all : first + (k - first) ≡ 3 * many + 3 = omega (arith, last, low) in
    so
    ∙ ap (λ (xs : List ℕ). names ++ map gate_name xs)
    (ap (λ (j : ℕ). rising j (k - first)) is ∙ all_numbers many (k - first) (subst (λ (j : ℕ). j + (k - first) ≡ 3 * many + 3) is all))

-- ---- texts of a netlist

names_of_nodes : (models : List (List ℕ)) (nodes : List Node) → map (λ (i : Instance). i.name) (map (instance_of models) nodes) ≡ map (λ (i : Node). i.name) nodes
names_of_nodes models [] = refl
names_of_nodes models (i ∷ nodes) = ap (λ (ns : List (List ℕ)). i.name ∷ ns) (names_of_nodes models nodes)

pub node_names : (n : Netlist) (nodes : List Node) → map (instance_of n.models) nodes ≡ n.instances → map (λ (i : Node). i.name) nodes ≡ map (λ (i : Instance). i.name) n.instances
node_names n nodes seen = sym (names_of_nodes n.models nodes) ∙ ap (map (λ (i : Instance). i.name)) seen

there_in : (xs : List (List ℕ)) (x : List ℕ) → IsThere xs x → In x xs
there_in xs x h = member_at xs h.0 x h.1

stays : (xs more : List (List ℕ)) (k : ℕ) (x : List ℕ) → Stands xs k x → Stands (xs ++ more) k x
stays [] more k x e = absurd cc
stays (y ∷ xs) more zero x e = e
stays (y ∷ xs) more (suc k) x e = stays xs more k x e

begins_there : (old new : List (List ℕ)) (x : List ℕ) → Begins old new → IsThere old x → IsThere new x
begins_there old new x b h = (h.0, subst (λ (xs : List (List ℕ)). Stands xs h.0 x) (sym b.1) (stays old b.0 h.0 x h.1))

-- what is on the roll behind both lists is taken
pub used_is_taken : (n : Netlist) (nodes : List Node) (texts names none half used : List (List ℕ)) → map (instance_of n.models) nodes ≡ n.instances
    → texts ≡ map (λ (p : Port). p.name.text) n.ports → names ≡ map (λ (i : Node). i.name) nodes → none ≡ []
    → Begins half used → All (IsThere half) texts → AddsOnly none half texts → All (IsThere used) names → AddsOnly half used names
    → (text : List ℕ) → IsThere used text ↔ IsTaken n text
used_is_taken n nodes texts names none half used seen texts_are names_are none_is grown at_texts only_texts at_names only_names text = (out, back) where
  are : names ≡ map (λ (i : Instance). i.name) n.instances
  are = names_are ∙ node_names n nodes seen

  in_texts : IsThere texts text → IsTaken n text
  in_texts h = inl (subst (λ (ts : List (List ℕ)). In text ts) texts_are (there_in texts text h))

  in_names : IsThere names text → IsTaken n text
  in_names h = inr (subst (λ (ts : List (List ℕ)). In text ts) are (there_in names text h))

  in_half : IsThere half text → IsTaken n text
  in_half h = elim (only_texts text h) [
    | inl never ↦ absurd (nowhere (subst (λ (xs : List (List ℕ)). IsThere xs text) none_is never))
    | inr t ↦ in_texts t
  ] where
    nowhere : IsThere [] text → ⊥
    nowhere f = absurd (let e = f.1 in cc)

  out : IsThere used text → IsTaken n text
  out h = elim (only_names text h) [ inl a ↦ in_half a | inr b ↦ in_names b ]

  back : IsTaken n text → IsThere used text
  back (inl i) = begins_there half used text grown (All-In (IsThere half) texts at_texts text (subst (λ (ts : List (List ℕ)). In text ts) (sym texts_are) i))
  back (inr i) = All-In (IsThere used) names at_names text (subst (λ (ts : List (List ℕ)). In text ts) (sym are) i)
