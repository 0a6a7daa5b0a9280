-- What assignments give to the outputs, all at once.
use Rattle.std.proofs.Common.{◌≡◌, ◌≢◌, ℕ, zero, suc, ◌+◌, ◌<◌, ◌≤◌, Bool, false, List, [], ◌∷◌, length, map, drop, get_or, replicate, set, Option, None, Some, if◌then◌else◌, Bor, inl, inr, refl, sym, ap, ◌∙◌, subst, arith}
use Rattle.std.proofs.lemmas.List.{drop_more, drop_all, ext_get_or, get_or-replicate, get_or-set_same, get_or-set_other, get_or-map, length-map, length-set}
use Rattle.std.proofs.lemmas.Bool.{cases_lt}
use Rattle.vlsi_base.specs.declared.name.Name.{Name}
use Rattle.bool_expr.specs.Expression.{Expression, val, bit}
use Rattle.machine_core.specs.Named.{is_same_name}
use Rattle.machine_core.specs.Checked.{AreInOrder}
use Rattle.machine_core.proofs.Names.{same_name-itself, same_name-false}
use Rattle.fsm_machine.specs.Statements as s
use Rattle.fsm_machine.specs.Statements.{output, next}
use Rattle.fsm_machine.specs.Walk.{given_output}
use Rattle.fsm_code.specs.declared.statements.Assignment.{Assignment}
use Rattle.fsm_code.specs.Sought.{nameless, Stands, IsNowhere}
use Rattle.fsm_code.specs.View.{assignment_view}
use Rattle.fsm_code.proofs.Targeted.{differ}
use Rattle.fsm_walk.specs.Trail.{given_or, last_given, EachGiven}

given_where : (w : List Bool) (a b : Name) (e : Expression) → a ≡ b → given_output w b (output a e) ≡ Some (val e w)
given_where w a b e p = rw (← p, same_name-itself a) refl

given_elsewhere : (w : List Bool) (a b : Name) (e : Expression) → a ≢ b → given_output w b (output a e) ≡ None
given_elsewhere w a b e p = rw (same_name-false a b p) refl

-- what assignments give to the output at a place
abbrev pub given_at : List Bool → List Name → ℕ → s.Assignment → Option Bool
given_at w names k = given_output w (get_or names k nameless)

-- where the target is no output, nothing is given
pub given_nowhere : (w : List Bool) (names : List Name) (target : Name) (e : Expression) (olds : List Bool) → length olds ≡ length names → IsNowhere names target
    → EachGiven (given_at w names) (output target e) olds olds
given_nowhere w names target e olds many nowhere = (
  refl,
  λ k low.
      ap (λ (o : Option Bool). given_or o (bit olds k))
      (sym (given_elsewhere w target (get_or names k nameless) e (λ is. nowhere k nameless (omega (arith, low, many)) (sym is)))),
)

-- the value is put in the target's place
pub given_there : (w : List Bool) (names : List Name) (place : ℕ) (target : Name) (e : Expression) (v : Bool) (olds news : List Bool) → AreInOrder names
    → length olds ≡ length names → Stands names place target → v ≡ val e w → news ≡ set olds place v → EachGiven (given_at w names) (output target e) olds news
given_there w names place target e v olds news ordered many stands is put = (ap (λ (bs : List Bool). length bs) put ∙ length-set olds place v, each) where
  here : (k : ℕ) → k < length olds → k ≡ place → bit news k ≡ given_or (given_at w names k (output target e)) (bit olds k)
  here k low at =
      ap (λ (bs : List Bool). bit bs k) put
      ∙ ap (λ (j : ℕ). bit (set olds place v) j) at
      ∙ get_or-set_same olds place v false (subst (λ (j : ℕ). j < length olds) at low)
      ∙ is
      ∙ ap (λ (o : Option Bool). given_or o (bit olds k))
      (sym (given_where w target (get_or names k nameless) e (sym (stands.1 nameless) ∙ ap (λ (j : ℕ). get_or names j nameless) (sym at))))

  there : (k : ℕ) → k < length olds → k ≢ place → bit news k ≡ given_or (given_at w names k (output target e)) (bit olds k)
  there k low apart =
      ap (λ (bs : List Bool). bit bs k) put
      ∙ get_or-set_other olds place k v false apart
      ∙ ap (λ (o : Option Bool). given_or o (bit olds k))
      (sym (given_elsewhere w target (get_or names k nameless) e
      (λ same. differ names k place ordered (omega (arith, low, many)) stands.0 apart (sym same ∙ sym (stands.1 nameless)))))

  each : (k : ℕ) → k < length olds → bit news k ≡ given_or (given_at w names k (output target e)) (bit olds k)
  each k low = elim (cases_lt k place) [
    | inl lt ↦ there k low (λ at. omega (arith, lt, at))
    | inr ge ↦ elim (cases_lt place k) [
      | inl lt ↦ there k low (λ at. omega (arith, lt, at))
      | inr ge2 ↦ here k low (omega (arith, ge, ge2))
    ]
  ]

-- the values so far, from which the rest of the assignments leads to what all lead to
pub record GivenSoFar (w : List Bool) (names : List Name) (trail : List (Bor Assignment)) (i : ℕ) (outs : List Bool) : Type 0 where
  pub count : length outs ≡ length names
  pub given : (k : ℕ) → k < length names
      → last_given (given_at w names k) (bit outs k) (map (λ (a : Bor Assignment). assignment_view a.now) (drop i trail))
      ≡ last_given (given_at w names k) false (map (λ (a : Bor Assignment). assignment_view a.now) trail)

pub given_none : (w : List Bool) (names : List Name) (trail : List (Bor Assignment)) (outs : List Bool) → outs ≡ replicate (length names) false → GivenSoFar w names trail 0 outs
given_none w names trail outs is = record {
  count = ap (λ (bs : List Bool). length bs) is ∙ length_of (length names);
  given = λ k low.
      ap (λ (v : Bool). last_given (given_at w names k) v (map (λ (a : Bor Assignment). assignment_view a.now) trail))
      (ap (λ (bs : List Bool). bit bs k) is ∙ get_or-replicate (length names) k false false low);
} where
  length_of : (n : ℕ) → length (replicate n false) ≡ n
  length_of zero = refl
  length_of (suc n) = ap suc (length_of n)

pub given_more : (w : List Bool) (names : List Name) (trail : List (Bor Assignment)) (i : ℕ) (d a : Bor Assignment) (olds news : List Bool) → i < length trail
    → a ≡ get_or trail i d → EachGiven (given_at w names) (assignment_view a.now) olds news → GivenSoFar w names trail i olds → GivenSoFar w names trail (i + 1) news
given_more w names trail i d a olds news low at put so = record {
  count = put.0 ∙ so.count;
  given = λ k lk.
      let g : s.Assignment → Option Bool = given_at w names k in
      let viewed : List (Bor Assignment) → List s.Assignment = λ xs. map (λ (x : Bor Assignment). assignment_view x.now) xs in
      let rest : drop i trail ≡ a ∷ drop (i + 1) trail = drop_more trail i d low ∙ ap (λ (x : Bor Assignment). x ∷ drop (i + 1) trail) (sym at) in
      let many = so.count in
      ap (λ (v : Bool). last_given g v (viewed (drop (i + 1) trail))) (put.1 k (omega (arith, lk, many)))
      ∙ ap (λ (xs : List (Bor Assignment)). last_given g (bit olds k) (viewed xs)) (sym rest)
      ∙ so.given k lk;
}

-- once all assignments are taken
pub given_all : (w : List Bool) (names : List Name) (trail : List (Bor Assignment)) (i : ℕ) (outs : List Bool) → length trail ≤ i → GivenSoFar w names trail i outs
    → outs ≡ map (λ (name : Name). last_given (given_output w name) false (map (λ (a : Bor Assignment). assignment_view a.now) trail)) names
given_all w names trail i outs past so =
    let f : Name → Bool = λ name. last_given (given_output w name) false (map (λ (a : Bor Assignment). assignment_view a.now) trail) in
    let many = so.count in
    let size = length-map names f in
    ext_get_or false outs (map f names) (omega (arith, many, size))
    (λ k low.
    let lk : k < length names = omega (arith, low, many) in
    ap (λ (xs : List (Bor Assignment)). last_given (given_at w names k) (bit outs k) (map (λ (a : Bor Assignment). assignment_view a.now) xs)) (sym (drop_all i trail past))
    ∙ so.given k lk
    ∙ sym (get_or-map f names k nameless false lk))
