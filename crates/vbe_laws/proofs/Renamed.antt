-- Names of which some are replaced by others.
use Rattle.std.proofs.Common.{◌≡◌, ◌⊎◌, inl, inr, ℕ, suc, ◌≤◌, Bool, true, false, cond, not, List, [], ◌∷◌, length, filter, refl, sym, ap, subst, ◌∙◌, arith}
use Rattle.vlsi_base.specs.declared.name.Name.{Name}
use Rattle.vlsi_base.specs.Member.{In, here, there, AllDifferent}
use Rattle.machine_core.specs.Named.{is_same_name, value_at}
use Rattle.machine_core.proofs.Names.{same_name-false}
use Rattle.vlsi_model.proofs.Members.{In-cases}
use Rattle.vbe_print.specs.Written.{renamed}

-- how many are replaced
abbrev pub replaced : (Name → Bool) → List Name → ℕ
replaced keeps names = length (filter (λ n. not (keeps n)) names)

count_kept : (keeps : Name → Bool) (n : Name) (names : List Name) (b : Bool) → keeps n ≡ b → replaced keeps (n ∷ names) ≡ cond b (replaced keeps names) (suc (replaced keeps names))
count_kept keeps n names true e = ap (λ c. length (cond (not c) (n ∷ filter (λ n. not (keeps n)) names) (filter (λ n. not (keeps n)) names))) e
count_kept keeps n names false e = ap (λ c. length (cond (not c) (n ∷ filter (λ n. not (keeps n)) names) (filter (λ n. not (keeps n)) names))) e

-- what is here is a name that is kept or one of the others
abbrev pub Whence : (Name → Bool) → List Name → List Name → Name → Type 0
Whence keeps names others x = (In x names × (keeps x ≡ true)) ⊎ In x others

later_whence : (keeps : Name → Bool) (n : Name) (names others more : List Name) (x : Name) → ((y : Name) → In y others → In y more) → Whence keeps names others x → Whence keeps (n ∷ names) more x
later_whence keeps n names others more x also (inl h) = inl (there h.0, h.1)
later_whence keeps n names others more x also (inr h) = inr (also x h)

pub whence : (keeps : Name → Bool) (names others : List Name) (x : Name) → replaced keeps names ≤ length others → In x (renamed keeps names others) → Whence keeps names others x
whence keeps [] others x few h = elim h [ ]
whence keeps (n ∷ names) [] x few h = by (keeps n) refl (count_kept keeps n names) (λ f. whence keeps names [] x f) where
  by : (b : Bool) → keeps n ≡ b → ((b : Bool) → keeps n ≡ b → replaced keeps (n ∷ names) ≡ cond b (replaced keeps names) (suc (replaced keeps names)))
      → (replaced keeps names ≤ 0 → In x (renamed keeps names []) → Whence keeps names [] x) → Whence keeps (n ∷ names) [] x
  by true e count later =
      let c = count true e in
      elim (In-cases x n (renamed keeps names []) h) [
        | inl same ↦ inl (subst (λ (y : Name). In y (n ∷ names)) same here, subst (λ (y : Name). keeps y ≡ true) same e)
        | inr g ↦ later_whence keeps n names [] [] x (λ y i. i) (later (omega (arith, c, few)) g)
      ]
  by false e count later = let c = count false e in absurd (omega (arith, c, few))
whence keeps (n ∷ names) (o ∷ others) x few h = by (keeps n) refl (count_kept keeps n names) h (λ f. whence keeps names (o ∷ others) x f) (λ f. whence keeps names others x f) where
  by : (b : Bool) → keeps n ≡ b → ((b : Bool) → keeps n ≡ b → replaced keeps (n ∷ names) ≡ cond b (replaced keeps names) (suc (replaced keeps names)))
      → In x (cond b (n ∷ renamed keeps names (o ∷ others)) (o ∷ renamed keeps names others))
      → (replaced keeps names ≤ suc (length others) → In x (renamed keeps names (o ∷ others)) → Whence keeps names (o ∷ others) x)
      → (replaced keeps names ≤ length others → In x (renamed keeps names others) → Whence keeps names others x) → Whence keeps (n ∷ names) (o ∷ others) x
  by true e count h keep replace =
      let c = count true e in
      elim (In-cases x n (renamed keeps names (o ∷ others)) h) [
        | inl same ↦ inl (subst (λ (y : Name). In y (n ∷ names)) same here, subst (λ (y : Name). keeps y ≡ true) same e)
        | inr g ↦ later_whence keeps n names (o ∷ others) (o ∷ others) x (λ y i. i) (keep (omega (arith, c, few)) g)
      ]
  by false e count h keep replace =
      let c = count false e in
      elim (In-cases x o (renamed keeps names others) h) [
        | inl same ↦ inr (subst (λ (y : Name). In y (o ∷ others)) same here)
        | inr g ↦ later_whence keeps n names others (o ∷ others) x (λ y i. there i) (replace (omega (arith, c, few)) g)
      ]

-- a name that is kept is there
pub kept_there : (keeps : Name → Bool) (names others : List Name) (x : Name) → keeps x ≡ true → In x names → In x (renamed keeps names others)
kept_there keeps [] others x k h = elim h [ ]
kept_there keeps (n ∷ names) [] x k h = elim (In-cases x n names h) [
  | inl same ↦ subst (λ (y : Name). In x (y ∷ renamed keeps names [])) (sym same) here
  | inr g ↦ there (kept_there keeps names [] x k g)
]
kept_there keeps (n ∷ names) (o ∷ others) x k h = by (keeps n) refl (kept_there keeps names (o ∷ others) x k) (kept_there keeps names others x k) where
  by : (b : Bool) → keeps n ≡ b → (In x names → In x (renamed keeps names (o ∷ others))) → (In x names → In x (renamed keeps names others))
      → In x (cond b (n ∷ renamed keeps names (o ∷ others)) (o ∷ renamed keeps names others))
  by true e keep replace = elim (In-cases x n names h) [
    | inl same ↦ subst (λ (y : Name). In x (y ∷ renamed keeps names (o ∷ others))) (sym same) here
    | inr g ↦ there (keep g)
  ]
  by false e keep replace = elim (In-cases x n names h) [
    | inl same ↦ let no : true ≡ false = sym k ∙ ap keeps (sym same) ∙ e in absurd cc
    | inr g ↦ there (replace g)
  ]

-- each of the others is there, where no more of them are than are replaced
pub other_there : (keeps : Name → Bool) (names others : List Name) (x : Name) → length others ≤ replaced keeps names → In x others → In x (renamed keeps names others)
other_there keeps [] [] x many h = elim h [ ]
other_there keeps [] (o ∷ others) x many h = absurd (omega (arith, many))
other_there keeps (n ∷ names) [] x many h = elim h [ ]
other_there keeps (n ∷ names) (o ∷ others) x many h = by (keeps n) refl (count_kept keeps n names) (λ f. other_there keeps names (o ∷ others) x f) (λ f. other_there keeps names others x f) where
  by : (b : Bool) → keeps n ≡ b → ((b : Bool) → keeps n ≡ b → replaced keeps (n ∷ names) ≡ cond b (replaced keeps names) (suc (replaced keeps names)))
      → (suc (length others) ≤ replaced keeps names → In x (o ∷ others) → In x (renamed keeps names (o ∷ others)))
      → (length others ≤ replaced keeps names → In x others → In x (renamed keeps names others)) → In x (cond b (n ∷ renamed keeps names (o ∷ others)) (o ∷ renamed keeps names others))
  by true e count keep replace = let c = count true e in there (keep (omega (arith, c, many)) h)
  by false e count keep replace =
      let c = count false e in
      elim (In-cases x o others h) [
        | inl same ↦ subst (λ (y : Name). In x (y ∷ renamed keeps names others)) (sym same) here
        | inr g ↦ there (replace (omega (arith, c, many)) g)
      ]

-- none stands twice
pub renamed_differ : (keeps : Name → Bool) (names others : List Name) → replaced keeps names ≤ length others → AllDifferent names → AllDifferent others → ((x : Name) → keeps x ≡ true → In x others → ⊥)
    → AllDifferent (renamed keeps names others)
renamed_differ keeps [] others few d f apart = tt
renamed_differ keeps (n ∷ names) [] few d f apart = by (keeps n) refl (count_kept keeps n names) (λ g. renamed_differ keeps names [] g d.1 f apart) (λ g. whence keeps names [] n g) where
  by : (b : Bool) → keeps n ≡ b → ((b : Bool) → keeps n ≡ b → replaced keeps (n ∷ names) ≡ cond b (replaced keeps names) (suc (replaced keeps names)))
      → (replaced keeps names ≤ 0 → AllDifferent (renamed keeps names [])) → (replaced keeps names ≤ 0 → In n (renamed keeps names []) → Whence keeps names [] n) → AllDifferent (n ∷ renamed keeps names [])
  by true e count later from =
      let c = count true e in
      let less : replaced keeps names ≤ 0 = omega (arith, c, few) in
      (λ h. elim (from less h) [ inl i ↦ d.0 i.0 | inr j ↦ elim j [ ] ], later less)
  by false e count later from = let c = count false e in absurd (omega (arith, c, few))
renamed_differ keeps (n ∷ names) (o ∷ others) few d f apart =
    by (keeps n) refl (count_kept keeps n names) (λ g. renamed_differ keeps names (o ∷ others) g d.1 f apart) (λ g. renamed_differ keeps names others g d.1 f.1 (λ x k h. apart x k (there h)))
    (λ g. whence keeps names (o ∷ others) n g) (λ g. whence keeps names others o g) where
      by : (b : Bool) → keeps n ≡ b → ((b : Bool) → keeps n ≡ b → replaced keeps (n ∷ names) ≡ cond b (replaced keeps names) (suc (replaced keeps names)))
          → (replaced keeps names ≤ suc (length others) → AllDifferent (renamed keeps names (o ∷ others))) → (replaced keeps names ≤ length others → AllDifferent (renamed keeps names others))
          → (replaced keeps names ≤ suc (length others) → In n (renamed keeps names (o ∷ others)) → Whence keeps names (o ∷ others) n)
          → (replaced keeps names ≤ length others → In o (renamed keeps names others) → Whence keeps names others o)
          → AllDifferent (cond b (n ∷ renamed keeps names (o ∷ others)) (o ∷ renamed keeps names others))
      by true e count keep replace from_kept from_other =
          let c = count true e in
          let less : replaced keeps names ≤ suc (length others) = omega (arith, c, few) in
          (λ h. elim (from_kept less h) [ inl i ↦ d.0 i.0 | inr j ↦ apart n e j ], keep less)
      by false e count keep replace from_kept from_other =
          let c = count false e in
          let less : replaced keeps names ≤ length others = omega (arith, c, few) in
          (λ h. elim (from_other less h) [ inl i ↦ apart o i.1 here | inr j ↦ f.0 j ], replace less)

-- a name that is kept has the bit that it had
pub kept_value : (keeps : Name → Bool) (names others : List Name) (x : Name) → keeps x ≡ true → (In x others → ⊥) → (w : List Bool) → value_at (renamed keeps names others) w x ≡ value_at names w x
kept_value keeps [] others x k apart w = refl
kept_value keeps (n ∷ names) [] x k apart [] = refl
kept_value keeps (n ∷ names) [] x k apart (b ∷ w) = ap (λ c. cond (is_same_name n x) b c) (kept_value keeps names [] x k apart w)
kept_value keeps (n ∷ names) (o ∷ others) x k apart w = by (keeps n) refl w (kept_value keeps names (o ∷ others) x k apart) (kept_value keeps names others x k (λ h. apart (there h))) where
  by : (r : Bool) → keeps n ≡ r → (w : List Bool) → ((w : List Bool) → value_at (renamed keeps names (o ∷ others)) w x ≡ value_at names w x) → ((w : List Bool) → value_at (renamed keeps names others) w x ≡ value_at names w x)
      → value_at (cond r (n ∷ renamed keeps names (o ∷ others)) (o ∷ renamed keeps names others)) w x ≡ value_at (n ∷ names) w x
  by true e [] keep replace = refl
  by false e [] keep replace = refl
  by true e (b ∷ w) keep replace = ap (λ c. cond (is_same_name n x) b c) (keep w)
  by false e (b ∷ w) keep replace =
      let other : is_same_name o x ≡ false = same_name-false o x (λ same. apart (subst (λ (y : Name). In y (o ∷ others)) same here)) in
      let own : is_same_name n x ≡ false = same_name-false n x (λ same. (let no : true ≡ false = sym k ∙ ap keeps (sym same) ∙ e in absurd cc)) in
      ap (λ c. cond c b (value_at (renamed keeps names others) w x)) other ∙ replace w ∙ sym (ap (λ c. cond c b (value_at names w x)) own)
