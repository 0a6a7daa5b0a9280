-- Values of formulas by name: the numbers of names make no difference.
use Rattle.std.proofs.Common.{◌≡◌, ◌⊎◌, ℕ, ◌+◌, Bool, true, false, not, cond, List, [], ◌∷◌, map, length, refl, sym, ap, ◌∙◌, subst, inl, inr, arith, add-one, if◌then◌else◌}
use Rattle.vlsi_base.specs.declared.name.Name.{Name}
use Rattle.vlsi_base.specs.Member.{In, here, there}
use Rattle.bool_expr.specs.Expression.{bit, val, gate_value}
use Rattle.machine_core.specs.Named.{is_same_name, value_at, values_at}
use Rattle.machine_core.proofs.Names.{same_name-true, same_name-itself, same_name-false}
use Rattle.source_checks.specs.Formula.{Formula, fixed, named, opposite, joined, chosen, place, numbered}
use Rattle.vlsi_model.proofs.Members.{In-cases}

-- the value of a formula, by the bits of names
said : Formula → (Name → Bool) → Bool
said (fixed b) bit_of = b
said (named n) bit_of = bit_of n
said (opposite e) bit_of = not (said e bit_of)
said (joined g a b) bit_of = gate_value g (said a bit_of) (said b bit_of)
said (chosen c a b) bit_of = if said c bit_of then said a bit_of else said b bit_of

bit_later : (b : Bool) (w : List Bool) (k : ℕ) → bit (b ∷ w) (k + 1) ≡ bit w k
bit_later b w k = ap (λ n. bit (b ∷ w) n) (add-one k)

bit_place : (vars : List Name) (w : List Bool) (n : Name) → length w ≡ length vars → bit w (place vars n) ≡ value_at vars w n
bit_place [] [] n lengths = refl
bit_place [] (b ∷ w) n lengths = absurd (omega arith)
bit_place (m ∷ vars) [] n lengths = absurd (omega arith)
bit_place (m ∷ vars) (b ∷ w) n lengths = by (is_same_name m n) (bit_place vars w n (omega arith)) where
  by : (r : Bool) → bit w (place vars n) ≡ value_at vars w n → bit (b ∷ w) (cond r 0 (place vars n + 1)) ≡ cond r b (value_at vars w n)
  by true rest = refl
  by false rest = bit_later b w (place vars n) ∙ rest

val_numbered : (vars : List Name) (w : List Bool) (f : Formula) → length w ≡ length vars → val (numbered vars f) w ≡ said f (value_at vars w)
unfolding said
val_numbered vars w (fixed b) lengths = refl
val_numbered vars w (named n) lengths = bit_place vars w n lengths
val_numbered vars w (opposite e) lengths = ap not (val_numbered vars w e lengths)
val_numbered vars w (joined g a b) lengths =
    ap (λ x. gate_value g x (val (numbered vars b) w)) (val_numbered vars w a lengths)
    ∙ ap (λ x. gate_value g (said a (value_at vars w)) x) (val_numbered vars w b lengths)
val_numbered vars w (chosen c a b) lengths =
    ap (λ x. if x then val (numbered vars a) w else val (numbered vars b) w) (val_numbered vars w c lengths)
    ∙ ap (λ x. if said c (value_at vars w) then x else val (numbered vars b) w) (val_numbered vars w a lengths)
    ∙ ap (λ x. if said c (value_at vars w) then said a (value_at vars w) else x) (val_numbered vars w b lengths)

said_same : (f : Formula) (p q : Name → Bool) → ((n : Name) → p n ≡ q n) → said f p ≡ said f q
unfolding said
said_same (fixed b) p q same = refl
said_same (named n) p q same = same n
said_same (opposite e) p q same = ap not (said_same e p q same)
said_same (joined g a b) p q same =
    ap (λ x. gate_value g x (said b p)) (said_same a p q same) ∙ ap (λ x. gate_value g (said a q) x) (said_same b p q same)
said_same (chosen c a b) p q same =
    ap (λ x. if x then said a p else said b p) (said_same c p q same)
    ∙ ap (λ x. if said c q then x else said b p) (said_same a p q same)
    ∙ ap (λ x. if said c q then said a q else x) (said_same b p q same)

-- two valuations that give each name one bit give a formula one value
pub same_value : (vars others : List Name) (w v : List Bool) (f : Formula) → length w ≡ length vars → length v ≡ length others
    → ((n : Name) → value_at vars w n ≡ value_at others v n) → val (numbered vars f) w ≡ val (numbered others f) v
same_value vars others w v f p q same =
    val_numbered vars w f p ∙ said_same f (value_at vars w) (value_at others v) same ∙ sym (val_numbered others v f q)

-- ---- bits over other numbers

in_or_apart : (names : List Name) (n : Name) → In n names ⊎ (In n names → ⊥)
in_or_apart [] n = inr (λ h. elim h [ ])
in_or_apart (m ∷ names) n = by (is_same_name m n) refl (in_or_apart names n) where
  by : (r : Bool) → is_same_name m n ≡ r → In n names ⊎ (In n names → ⊥) → In n (m ∷ names) ⊎ (In n (m ∷ names) → ⊥)
  by true e rest = inl (subst (λ x. In n (x ∷ names)) (sym (same_name-true m n e)) here)
  by false e (inl h) = inl (there h)
  by false e (inr apart) = inr (λ h. elim (In-cases n m names h) [
    | inl same ↦
        let one : is_same_name m n ≡ true = subst (λ x. is_same_name m x ≡ true) same (same_name-itself m) in
        let never : true ≡ false = sym one ∙ e in absurd cc
    | inr i ↦ apart i
  ])

value_apart : (names : List Name) (w : List Bool) (n : Name) → (In n names → ⊥) → value_at names w n ≡ false
value_apart [] w n apart = refl
value_apart (m ∷ names) [] n apart = refl
value_apart (m ∷ names) (b ∷ w) n apart =
    ap (λ r. cond r b (value_at names w n)) (same_name-false m n (λ e. apart (subst (λ x. In n (x ∷ names)) (sym e) here)))
    ∙ value_apart names w n (λ h. apart (there h))

value_mapped : (bit_of : Name → Bool) (names : List Name) (n : Name) → In n names → value_at names (map bit_of names) n ≡ bit_of n
value_mapped bit_of [] n h = elim h [ ]
value_mapped bit_of (m ∷ names) n h = by (is_same_name m n) refl (λ i. value_mapped bit_of names n i) where
  by : (r : Bool) → is_same_name m n ≡ r → (In n names → value_at names (map bit_of names) n ≡ bit_of n)
      → cond r (bit_of m) (value_at names (map bit_of names) n) ≡ bit_of n
  by true e rest = ap bit_of (same_name-true m n e)
  by false e rest = elim (In-cases n m names h) [
    | inl same ↦
        let one : is_same_name m n ≡ true = subst (λ x. is_same_name m x ≡ true) same (same_name-itself m) in
        let never : true ≡ false = sym one ∙ e in absurd cc
    | inr i ↦ rest i
  ]

-- the names of each are names of the other
pub record AreSameNames (vars others : List Name) : Type 0 where
  pub first : (n : Name) → In n vars → In n others
  pub second : (n : Name) → In n others → In n vars

pub same_assigned : (bit_of : Name → Bool) (vars others : List Name) → AreSameNames vars others
    → (n : Name) → value_at vars (map bit_of vars) n ≡ value_at others (map bit_of others) n
same_assigned bit_of vars others same n = elim (in_or_apart vars n) [
  | inl h ↦ value_mapped bit_of vars n h ∙ sym (value_mapped bit_of others n (same.first n h))
  | inr apart ↦ value_apart vars (map bit_of vars) n apart ∙ sym (value_apart others (map bit_of others) n (λ h. apart (same.second n h)))
]

-- the bits of other names, from a valuation of the same names in another order
abbrev pub carried : List Name → List Bool → List Name → List Bool
carried vars w others = map (value_at vars w) others

pub carried_value : (vars others : List Name) (w : List Bool) → AreSameNames vars others
    → (n : Name) → value_at vars w n ≡ value_at others (carried vars w others) n
carried_value vars others w same n = elim (in_or_apart vars n) [
  | inl h ↦ sym (value_mapped (value_at vars w) others n (same.first n h))
  | inr apart ↦ value_apart vars w n apart ∙ sym (value_apart others (carried vars w others) n (λ h. apart (same.second n h)))
]

pub same_values : (vars others : List Name) (w v : List Bool) → ((n : Name) → value_at vars w n ≡ value_at others v n)
    → (asked : List Name) → values_at vars w asked ≡ values_at others v asked
same_values vars others w v same [] = refl
same_values vars others w v same (n ∷ asked) =
    ap (λ b. b ∷ values_at vars w asked) (same n) ∙ ap (λ bs. value_at others v n ∷ bs) (same_values vars others w v same asked)
