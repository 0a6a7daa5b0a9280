-- A level for each bit of a body, above the levels of the bits that it reads.
use Rattle.std.proofs.Common.{◌≡◌, ◌≢◌, ◌⊎◌, inl, inr, ℕ, zero, suc, ◌+◌, ◌-◌, ◌<◌, ◌≤◌, true, false, cond, List, [], ◌∷◌, ◌++◌, map, length, get_or, replicate, None, refl, sym, ap, ◌∙◌, subst, arith, length-append, append_assoc}
use Rattle.std.specs.Prelude.{slice_index, nat_lt}
use Rattle.std.proofs.lemmas.List.{length-map, length-replicate, get_or-replicate, get_or-map}
use Rattle.std.proofs.lemmas.Option.{get_or_from_slice_get}
use Rattle.std.proofs.lemmas.Bool.{cases_lt}
use Rattle.std.proofs.lemmas.Bool.Decides.{nat_tests}
use Rattle.vlsi_base.specs.declared.name.Name.{Name}
use Rattle.vlsi_base.specs.declared.name.Port.{Port}
use Rattle.vlsi_base.specs.Names.{vdd, vss}
use Rattle.vlsi_base.specs.Member.{In, here, there}
use Rattle.bool_expr.specs.Expression.{Expression, constant, variable, inverse, pair, choice, variables, IsOver}
use Rattle.bool_expr.specs.Renumbering.{renumbered}
use Rattle.machine_core.specs.Machine.{Machine, Equation, Register, names_of, inputs, outputs, register_names}
use Rattle.machine_core.specs.Order.{held_names, equation_names, EachReadsBelow}
use Rattle.machine_core.proofs.Known.{IsOver-In}
use Rattle.machine_core.proofs.Values.{In-split, In-left, In-right, In-map}
use Rattle.source_checks.specs.Formula.{place}
use Rattle.vlsi_model.proofs.Members.{In-map_back}
use Rattle.vlsi_model.proofs.Numbering.{place_within, place_at}
use Rattle.vlsi_model.proofs.Sorting.{In-at}
use Rattle.cell_model.specs.Cell.{Function, gate, flip_flop, other, opaque, Cell, pin_ports, cell_inputs, cell_outputs}
use Rattle.cell_model.specs.Usable.{FitsPins}
use Rattle.cell_pins.specs.Follows.{Reads, Follows, itself, reads, DependsAtOnce}
use Rattle.net_core.specs.Places.{Stands}
use Rattle.net_core.proofs.Frames.{mapped, unmapped}
use Rattle.net_machine.specs.Body.{Load, Shown, Body, body_of}
use Rattle.net_machine.proofs.Drivers.{there_In}
use Rattle.net_machine.proofs.Bodies.{machine_bits, input_pin}

-- ---- the greatest of some numbers

abbrev pub larger : ℕ → ℕ → ℕ
larger a b = cond (nat_lt a b) b a

pub lt_true : (a b : ℕ) → a < b → nat_lt a b ≡ true
lt_true a b l = grind (arith, nat_tests)

pub lt_false : (a b : ℕ) → b ≤ a → nat_lt a b ≡ false
lt_false a b l = grind (arith, nat_tests)

pub larger_cases : (a b : ℕ) → ((larger a b ≡ b) × (a < b)) ⊎ ((larger a b ≡ a) × (b ≤ a))
larger_cases a b = by (cases_lt a b) where
  by : (a < b) ⊎ (b ≤ a) → ((larger a b ≡ b) × (a < b)) ⊎ ((larger a b ≡ a) × (b ≤ a))
  by (inl l) = inl (ap (λ t. cond t b a) (lt_true a b l), l)
  by (inr l) = inr (ap (λ t. cond t b a) (lt_false a b l), l)

-- the greatest level at these places
abbrev pub greatest : List ℕ → List ℕ → ℕ
greatest ls [] = 0
greatest ls (k ∷ ks) = larger (slice_index ls k) (greatest ls ks)

pub greatest_over : (ls ks : List ℕ) (k : ℕ) → In k ks → slice_index ls k ≤ greatest ls ks
greatest_over ls (j ∷ ks) k here = elim (larger_cases (slice_index ls k) (greatest ls ks)) [ inl c ↦ omega (arith, c.0, c.1) | inr c ↦ omega (arith, c.0) ]
greatest_over ls (j ∷ ks) k (there i) = let r = greatest_over ls ks k i in elim (larger_cases (slice_index ls j) (greatest ls ks)) [ inl c ↦ omega (arith, c.0, r) | inr c ↦ omega (arith, c.0, c.1, r) ]
greatest_over ls [] k i = elim i [ ]

pub greatest_under : (ls ks : List ℕ) (n : ℕ) → ((k : ℕ) → In k ks → slice_index ls k ≤ n) → greatest ls ks ≤ n
greatest_under ls [] n h = omega arith
greatest_under ls (j ∷ ks) n h =
    let r = greatest_under ls ks n (λ k i. h k (there i)) in
    let f = h j here in
    elim (larger_cases (slice_index ls j) (greatest ls ks)) [ inl c ↦ omega (arith, c.0, r) | inr c ↦ omega (arith, c.0, f) ]

-- ---- levels, one expression after another

abbrev pub levels_after : List ℕ → List Expression → List ℕ
levels_after ls [] = ls
levels_after ls (e ∷ es) = levels_after (ls ++ (greatest ls (variables e) + 1) ∷ []) es

pub num_left : (xs ys : List ℕ) (k : ℕ) → k < length xs → slice_index (xs ++ ys) k ≡ slice_index xs k
num_left [] ys k l = absurd (omega (arith, l))
num_left (x ∷ xs) ys zero l = refl
num_left (x ∷ xs) ys (suc k) l = num_left xs ys k (omega (arith, l))

pub num_right : (xs ys : List ℕ) (k : ℕ) → slice_index (xs ++ ys) (length xs + k) ≡ slice_index ys k
num_right [] ys k = let e : 0 + k ≡ k = omega arith in ap (slice_index ys) e
num_right (x ∷ xs) ys k = let e : length (x ∷ xs) + k ≡ suc (length xs + k) = omega arith in ap (slice_index (x ∷ (xs ++ ys))) e ∙ num_right xs ys k

num_last : (xs : List ℕ) (y : ℕ) → slice_index (xs ++ y ∷ []) (length xs) ≡ y
num_last xs y = let e : length xs ≡ length xs + 0 = omega arith in ap (slice_index (xs ++ y ∷ [])) e ∙ num_right xs (y ∷ []) 0

longer_by : (xs : List ℕ) (y : ℕ) → length (xs ++ y ∷ []) ≡ length xs + 1
longer_by xs y = length-append xs (y ∷ [])

pub levels_keep : (ls : List ℕ) (es : List Expression) (k : ℕ) → k < length ls → slice_index (levels_after ls es) k ≡ slice_index ls k
levels_keep ls [] k l = refl
levels_keep ls (e ∷ es) k l =
    let y = greatest ls (variables e) + 1 in
    let n = longer_by ls y in
    levels_keep (ls ++ y ∷ []) es k (omega (arith, l, n)) ∙ num_left ls (y ∷ []) k l

-- the level of an expression is above those of its variables
pub levels_rise : (ls : List ℕ) (es : List Expression) (q : ℕ) (e : Expression) (k : ℕ) → Stands es q e → In k (variables e) → k < length ls + q
    → slice_index (levels_after ls es) k < slice_index (levels_after ls es) (length ls + q)
levels_rise ls [] q e k s i l = absurd cc
levels_rise ls (x ∷ es) zero e k s i l =
    let same : x ≡ e = cc in
    let y = greatest ls (variables x) + 1 in
    let n = longer_by ls y in
    let z : length ls + 0 ≡ length ls = omega arith in
    let a : slice_index (levels_after (ls ++ y ∷ []) es) (length ls + 0) ≡ y =
    ap (slice_index (levels_after (ls ++ y ∷ []) es)) z ∙ levels_keep (ls ++ y ∷ []) es (length ls) (omega (arith, n)) ∙ num_last ls y in
    let b : slice_index (levels_after (ls ++ y ∷ []) es) k ≡ slice_index ls k =
    levels_keep (ls ++ y ∷ []) es k (omega (arith, n, l)) ∙ num_left ls (y ∷ []) k (omega (arith, l)) in
    let o = greatest_over ls (variables x) k (subst (λ (v : Expression). In k (variables v)) (sym same) i) in
    omega (arith, a, b, o)
levels_rise ls (x ∷ es) (suc q) e k s i l =
    let y = greatest ls (variables x) + 1 in
    let n = longer_by ls y in
    let z : length (ls ++ y ∷ []) + q ≡ length ls + suc q = omega (arith, n) in
    subst (λ j. slice_index (levels_after (ls ++ y ∷ []) es) k < slice_index (levels_after (ls ++ y ∷ []) es) j) z (levels_rise (ls ++ y ∷ []) es q e k s i (omega (arith, n, l)))

-- The levels of places that lead to some place only through places that are kept below r.
pub levels_bound : (good : ℕ → Type 0) (r : ℕ) (ls : List ℕ) (es : List Expression) → ((j : ℕ) → j < length ls → good j → slice_index ls j ≤ r + j + 1)
    → ((q : ℕ) (e : Expression) (k : ℕ) → Stands es q e → good (length ls + q) → In k (variables e) → (k < length ls + q) × good k)
    → (j : ℕ) → j < length ls + length es → good j → slice_index (levels_after ls es) j ≤ r + j + 1
levels_bound good r ls [] low leads j l g = low j (omega (arith, l)) g
levels_bound good r ls (x ∷ es) low leads j l g =
    levels_bound good r (ls ++ y ∷ []) es (λ i m h. by i m h (cases_lt i (length ls)))
    (λ q e k s h i.
    let z : length (ls ++ y ∷ []) + q ≡ length ls + suc q = omega (arith, n) in
    let w = leads (suc q) e k s (subst good z h) i in
    (omega (arith, w.0, z), w.1))
    j (omega (arith, n, l)) g where
      y : ℕ
      y = greatest ls (variables x) + 1

      n : length (ls ++ y ∷ []) ≡ length ls + 1
      n = longer_by ls y

      top : good (length ls) → greatest ls (variables x) ≤ r + length ls
      top h =
          let z : length ls ≡ length ls + 0 = omega arith in
          greatest_under ls (variables x) (r + length ls)
          (λ k i. let w = leads 0 x k refl (subst good z h) i in let low_k : k < length ls = omega (arith, w.0) in let b = low k low_k w.1 in omega (arith, b, low_k))

      by : (i : ℕ) → i < length (ls ++ y ∷ []) → good i → (i < length ls) ⊎ (length ls ≤ i) → slice_index (ls ++ y ∷ []) i ≤ r + i + 1
      by i m h (inl c) = let e = num_left ls (y ∷ []) i c in let b = low i c h in omega (arith, e, b)
      by i m h (inr c) =
          let same : i ≡ length ls = omega (arith, m, n, c) in
          let e : slice_index (ls ++ y ∷ []) i ≡ y = ap (slice_index (ls ++ y ∷ [])) same ∙ num_last ls y in
          let t = top (subst good same h) in
          omega (arith, e, t, same)

-- ---- the levels of a body

-- those of the pins that it reads are given, and what is held has the lowest
abbrev pub start_levels : (Name → ℕ) → Body → List ℕ
start_levels rank b = map rank b.reads ++ replicate (length b.loads) 0

abbrev pub body_levels : (Name → ℕ) → Body → List ℕ
body_levels rank b = levels_after (start_levels rank b) b.inner

pub start_count : (rank : Name → ℕ) (b : Body) → length (start_levels rank b) ≡ length b.reads + length b.loads
start_count rank b =
    let a = length-append (map rank b.reads) (replicate (length b.loads) 0) in
    let m = length-map b.reads rank in
    let r = length-replicate {A = ℕ} (length b.loads) 0 in
    omega (arith, a, m, r)

pub read_start : (rank : Name → ℕ) (b : Body) (k : ℕ) (d : Name) → k < length b.reads → slice_index (start_levels rank b) k ≡ rank (get_or b.reads k d)
read_start rank b k d l =
    let m = length-map b.reads rank in
    num_left (map rank b.reads) (replicate (length b.loads) 0) k (omega (arith, l, m)) ∙ get_or-map rank b.reads k d 0 l

held_start : (rank : Name → ℕ) (b : Body) (k : ℕ) → length b.reads ≤ k → k < length b.reads + length b.loads → slice_index (start_levels rank b) k ≡ 0
held_start rank b k l h =
    let m = length-map b.reads rank in
    let e : k ≡ length (map rank b.reads) + (k - length b.reads) = omega (arith, m, l) in
    ap (slice_index (start_levels rank b)) e ∙ num_right (map rank b.reads) (replicate (length b.loads) 0) (k - length b.reads)
    ∙ get_or-replicate (length b.loads) (k - length b.reads) 0 0 (omega (arith, l, h))

pub read_level : (rank : Name → ℕ) (b : Body) (k : ℕ) (d : Name) → k < length b.reads → slice_index (body_levels rank b) k ≡ rank (get_or b.reads k d)
read_level rank b k d l = let n = start_count rank b in levels_keep (start_levels rank b) b.inner k (omega (arith, l, n)) ∙ read_start rank b k d l

-- an equation reads only what stands before it
below_at : (n : ℕ) (es : List Equation) → EachReadsBelow n es → (q : ℕ) (e : Expression) → Stands (map (λ (x : Equation). x.expr) es) q e → IsOver e (n + q)
below_at n [] h q e s = absurd cc
below_at n (x ∷ es) h zero e s = let same : x.expr ≡ e = cc in let z : n ≡ n + 0 = omega arith in subst (λ (v : Expression). IsOver v (n + 0)) same (subst (IsOver x.expr) z h.0)
below_at n (x ∷ es) h (suc q) e s = let z : n + 1 + q ≡ n + suc q = omega arith in subst (IsOver e) z (below_at (n + 1) es h.1 q e s)

held_count : (c : Cell) (m : Machine) → length (held_names m) ≡ length (body_of c (other m)).reads + length (body_of c (other m)).loads
held_count c m =
    let a = length-append (inputs m) (register_names m) in
    let r = length-map m.registers (λ (r : Register). r.name) in
    let l = length-map {B = Load} m.registers (λ (r : Register). record { next = r.next; enable = r.enable }) in
    omega (arith, a, r, l)

pub inner_below : (c : Cell) (f : Function) → FitsPins c f → (q : ℕ) (e : Expression) (k : ℕ) → Stands (body_of c f).inner q e → In k (variables e)
    → k < length (body_of c f).reads + length (body_of c f).loads + q
inner_below c (gate x) fits q e k s i = absurd cc
inner_below c (flip_flop a b) fits q e k s i = absurd cc
inner_below c (other m) fits q e k s i =
    let o = below_at (length (held_names m)) m.equations fits.1.ordered.below q e s in
    let l = IsOver-In e (length (held_names m) + q) o k i in
    let n = held_count c m in
    omega (arith, l, n)
inner_below c opaque fits q e k s i = absurd cc

-- The variables of what an output pin shows are at most so high, where the pins on which it depends at once are.
module _ (c : Cell) (rank : Name → ℕ) (signals : (name : Name) → In name (names_of (pin_ports c)) → (name ≢ vdd) × (name ≢ vss)) where
  gate_level : (f : Function) (e : Expression) → f ≡ gate e → FitsPins c (gate e) → (out : Name) (r : ℕ) → ((pin : Name) → In pin (cell_inputs c) → DependsAtOnce (gate e) out pin → rank pin ≤ r)
      → (k : ℕ) → In k (variables e) → slice_index (body_levels rank (body_of c (gate e))) k ≤ r + k + 1
  gate_level f e is fits out r low k i =
      let l = IsOver-In e (length (cell_inputs c)) fits.2 k i in
      let pin = get_or (cell_inputs c) k (record { text = []; bit = None }) in
      let j : In pin (cell_inputs c) = In-at (cell_inputs c) k (record { text = []; bit = None }) l in
      let p = input_pin c pin j in
      let g = signals pin (subst (λ (n : Name). In n (names_of (pin_ports c))) p.name_is (In-map (λ (q : Port). q.name) p.port (pin_ports c) p.listed)) in
      let b = low pin j g in
      let at = read_level rank (body_of c (gate e)) k (record { text = []; bit = None }) l in
      omega (arith, at, b)

  flip_level : (d k : Name) (r : ℕ) → slice_index (body_levels rank (body_of c (flip_flop d k))) 1 ≤ r + 1 + 1
  flip_level d k r = omega arith

  module _ (m : Machine) (fits : FitsPins c (other m)) (out : Name) (r : ℕ) (low : (pin : Name) → In pin (inputs m) → Follows m pin out → rank pin ≤ r) where
    abbrev good : ℕ → Type 0
    good j = (name input : Name) → Stands m.vars j name → Follows m input name → Follows m input out

    held_length : length (held_names m) ≡ length (inputs m) + length m.registers
    held_length = length-append (inputs m) (register_names m) ∙ ap (λ n. length (inputs m) + n) (length-map m.registers (λ (x : Register). x.name))

    loads_length : length (body_of c (other m)).loads ≡ length m.registers
    loads_length = length-map {B = Load} m.registers (λ (x : Register). record { next = x.next; enable = x.enable })

    vars_split : m.vars ≡ inputs m ++ (register_names m ++ equation_names m)
    vars_split = fits.1.ordered.vars ∙ append_assoc (inputs m) (register_names m) (equation_names m)

    stands_left : (xs ys : List Name) (j : ℕ) → j < length xs → Stands (xs ++ ys) j (get_or xs j (record { text = []; bit = None }))
    stands_left [] ys j l = absurd (omega (arith, l))
    stands_left (x ∷ xs) ys zero l = refl
    stands_left (x ∷ xs) ys (suc j) l = stands_left xs ys j (omega (arith, l))

    stands_right : (xs ys : List Name) (j : ℕ) (n : Name) → Stands ys j n → Stands (xs ++ ys) (length xs + j) n
    stands_right [] ys j n s = let z : j ≡ 0 + j = omega arith in subst (λ i. Stands ys i n) z s
    stands_right (x ∷ xs) ys j n s = let z : suc (length xs + j) ≡ length (x ∷ xs) + j = omega arith in subst (λ i. Stands (x ∷ (xs ++ ys)) i n) z (stands_right xs ys j n s)

    start_low : (j : ℕ) → j < length (start_levels rank (body_of c (other m))) → good j → slice_index (start_levels rank (body_of c (other m))) j ≤ r + j + 1
    start_low j l g = by (cases_lt j (length (inputs m))) where
      n : length (start_levels rank (body_of c (other m))) ≡ length (inputs m) + length (body_of c (other m)).loads
      n = start_count rank (body_of c (other m))

      by : (j < length (inputs m)) ⊎ (length (inputs m) ≤ j) → slice_index (start_levels rank (body_of c (other m))) j ≤ r + j + 1
      by (inl h) =
          let name = get_or (inputs m) j (record { text = []; bit = None }) in
          let i : In name (inputs m) = In-at (inputs m) j (record { text = []; bit = None }) h in
          let s : Stands m.vars j name = subst (λ (ns : List Name). Stands ns j name) (sym vars_split) (stands_left (inputs m) (register_names m ++ equation_names m) j h) in
          let w = low name i (g name name s (itself i)) in
          let e = read_start rank (body_of c (other m)) j (record { text = []; bit = None }) h in
          omega (arith, e, w)
      by (inr h) = let e = held_start rank (body_of c (other m)) j h (omega (arith, l, n)) in omega (arith, e)

    leads : (q : ℕ) (e : Expression) (k : ℕ) → Stands (body_of c (other m)).inner q e → good (length (start_levels rank (body_of c (other m))) + q) → In k (variables e)
        → (k < length (start_levels rank (body_of c (other m))) + q) × good k
    leads q e k s g i =
        let n = start_count rank (body_of c (other m)) in
        let l = inner_below c (other m) fits q e k s i in (
          omega (arith, l, n),
          λ name input t f.
              let u = unmapped (λ (x : Equation). x.expr) m.equations q e s in
              let z : length (held_names m) + q ≡ length (start_levels rank (body_of c (other m))) + q = omega (arith, n, held_length, loads_length) in
              let at : Stands m.vars (length (held_names m) + q) u.0.name =
              subst (λ (ns : List Name). Stands ns (length (held_names m) + q) u.0.name) (sym fits.1.ordered.vars) (stands_right (held_names m) (equation_names m) q u.0.name (mapped (λ (x : Equation). x.name) m.equations q u.0 u.1)) in
              let reads_it : Reads m u.0.expr name = (k, subst (λ (v : Expression). In k (variables v)) (sym u.2) i, t) in
              g u.0.name input (subst (λ j. Stands m.vars j u.0.name) z at) (reads u.0 name (there_In m.equations q u.0 u.1) reads_it f),
        )

    machine_level : In out (outputs m) → slice_index (body_levels rank (body_of c (other m))) (place m.vars out) ≤ r + place m.vars out + 1
    machine_level o =
        let listed : In out m.vars = subst (λ (ns : List Name). In out ns) (sym fits.1.ordered.vars) (In-right out (held_names m) (equation_names m) (fits.1.driven out o)) in
        let w = place_within m.vars out listed in
        let n = start_count rank (body_of c (other m)) in
        let v = machine_bits c m fits.1 in
        levels_bound good r (start_levels rank (body_of c (other m))) (body_of c (other m)).inner start_low leads (place m.vars out) (omega (arith, w, n, v))
        (λ name input s f.
        let same : name ≡ out = sym (get_or_from_slice_get m.vars (place m.vars out) name out s) ∙ place_at m.vars out out w in
        subst (λ (x : Name). Follows m input x) same f)

  pub shown_level : (f : Function) → FitsPins c f → (x : Shown) → In x (body_of c f).shows → (r : ℕ) → ((pin : Name) → In pin (body_of c f).reads → DependsAtOnce f x.pin pin → rank pin ≤ r)
      → (k : ℕ) → In k (variables x.expr) → slice_index (body_levels rank (body_of c f)) k ≤ r + k + 1
  shown_level (gate e) fits x j r low k i =
      let u = In-map_back (λ (o : Name). record { pin = o; expr = e }) x (cell_outputs c) j in
      let same : e ≡ x.expr = ap (λ (y : Shown). y.expr) u.2 in
      gate_level (gate e) e refl fits x.pin r low k (subst (λ (v : Expression). In k (variables v)) (sym same) i)
  shown_level (flip_flop d p) fits x j r low k i =
      let u = In-map_back (λ (o : Name). record { pin = o; expr = variable 1 }) x (cell_outputs c) j in
      let l : In k (1 ∷ []) = subst (λ (v : Expression). In k (variables v)) (ap (λ (y : Shown). y.expr) (sym u.2)) i in
      one k l where
        one : (k : ℕ) → In k (1 ∷ []) → slice_index (body_levels rank (body_of c (flip_flop d p))) k ≤ r + k + 1
        one k here = flip_level d p r
        one k (there g) = absurd (elim g [ ])
  shown_level (other m) fits x j r low k i =
      let u = In-map_back (λ (o : Name). record { pin = o; expr = variable (place m.vars o) }) x (outputs m) j in
      let pin : u.0 ≡ x.pin = ap (λ (y : Shown). y.pin) u.2 in
      let l : In k (place m.vars u.0 ∷ []) = subst (λ (v : Expression). In k (variables v)) (ap (λ (y : Shown). y.expr) (sym u.2)) i in
      let level = machine_level m fits u.0 r (λ p q f. low p q (subst (λ (n : Name). Follows m p n) pin f)) u.1 in
      one u.0 level k l where
        one : (o : Name) → slice_index (body_levels rank (body_of c (other m))) (place m.vars o) ≤ r + place m.vars o + 1 → (k : ℕ) → In k (place m.vars o ∷ []) → slice_index (body_levels rank (body_of c (other m))) k ≤ r + k + 1
        one o h k here = h
        one o h k (there g) = absurd (elim g [ ])
  shown_level opaque fits x j r low k i = absurd (elim j [ ])

-- the variables of an expression over other numbers
pub variables_renumbered : (e : Expression) (table : List ℕ) (v : ℕ) → In v (variables (renumbered table e)) → (k : ℕ) × In k (variables e) × (slice_index table k ≡ v)
variables_renumbered (constant b) table v i = elim i [ ]
variables_renumbered (variable k) table v here = (k, here, refl)
variables_renumbered (variable k) table v (there i) = absurd (elim i [ ])
variables_renumbered (inverse e) table v i = variables_renumbered e table v i
variables_renumbered (pair g a b) table v i = elim (In-split v (variables (renumbered table a)) (variables (renumbered table b)) i) [
  | inl j ↦ let r = variables_renumbered a table v j in (r.0, In-left r.0 (variables a) (variables b) r.1, r.2)
  | inr j ↦ let r = variables_renumbered b table v j in (r.0, In-right r.0 (variables a) (variables b) r.1, r.2)
]
variables_renumbered (choice c a b) table v i = elim (In-split v (variables (renumbered table c)) (variables (renumbered table a) ++ variables (renumbered table b)) i) [
  | inl j ↦ let r = variables_renumbered c table v j in (r.0, In-left r.0 (variables c) (variables a ++ variables b) r.1, r.2)
  | inr j ↦ elim (In-split v (variables (renumbered table a)) (variables (renumbered table b)) j) [
    | inl h ↦ let r = variables_renumbered a table v h in (r.0, In-right r.0 (variables c) (variables a ++ variables b) (In-left r.0 (variables a) (variables b) r.1), r.2)
    | inr h ↦ let r = variables_renumbered b table v h in (r.0, In-right r.0 (variables c) (variables a ++ variables b) (In-right r.0 (variables a) (variables b) r.1), r.2)
  ]
]
