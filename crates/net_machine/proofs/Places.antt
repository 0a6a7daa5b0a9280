-- Where the bits of an instance stand among all.
use Rattle.std.proofs.Common.{◌≡◌, inl, inr, ℕ, zero, suc, ◌+◌, ◌<◌, ◌≤◌, Bool, true, false, cond, List, [], ◌∷◌, ◌++◌, map, length, Option, None, Some, refl, sym, ap, ◌∙◌, subst, arith, length-append, append_assoc}
use Rattle.std.specs.List.{flat_map}
use Rattle.std.proofs.lemmas.List.{length-map, map-append}
use Rattle.vlsi_base.specs.Range.{rising}
use Rattle.vlsi_base.specs.Member.{In, here, there, AllDifferent}
use Rattle.bool_expr.specs.Expression.{bit}
use Rattle.machine_core.specs.Named.{is_same_text}
use Rattle.machine_core.specs.Machine.{Register}
use Rattle.machine_core.proofs.Values.{In-split, In-left, In-right, In-map}
use Rattle.source_bits.specs.Driven.{Numbered, NumberedStorage}
use Rattle.cell_model.specs.Cell.{Function, gate, flip_flop, other, opaque, Cell}
use Rattle.cell_model.specs.Library.{cell_of}
use Rattle.net_core.specs.Netlist.{Instance}
use Rattle.net_meaning.specs.Behaviour.{Contents}
use Rattle.net_machine.specs.Step.{held_in, held_at}
use Rattle.net_machine.specs.Body.{body_of, body_at, width}
use Rattle.net_machine.specs.Bits.{widths, numbers, body_stored, body_driven}
use Rattle.net_machine.proofs.Scenes.{Scene}
use Rattle.net_machine.proofs.Blocks.{held_of, all_stored, all_driven, body_in, stored_bits_are}
use Rattle.net_machine.proofs.Whole.{rising_count}
use Rattle.net_machine.proofs.Local.{pieces_same}
use Rattle.std.specs.Cmp.Lexicographic.{bytes_decides}

-- an instance of the list has its bits from this number on
pub data Place (s : Scene) : ℕ → List Instance → Instance → ℕ → Type 0 where
  first : {base : ℕ} {i : Instance} {is : List Instance} → Place s base (i ∷ is) i base
  next : {base at : ℕ} {k i : Instance} {is : List Instance} → Place s (base + width (body_in s k)) is i at → Place s base (k ∷ is) i at

pub place_of : (s : Scene) (base : ℕ) (is : List Instance) (i : Instance) → In i is → (at : ℕ) × Place s base is i at
place_of s base (k ∷ is) i here = (base, first)
place_of s base (k ∷ is) i (there j) = let r = place_of s (base + width (body_in s k)) is i j in (r.0, next r.1)
place_of s base [] i j = elim j [ ]

pub placed_in : (s : Scene) (base : ℕ) (is : List Instance) (i : Instance) (at : ℕ) → Place s base is i at → In i is
placed_in s _ _ i _ first = here
placed_in s _ _ i at (next {base = base} {k = k} {is = is} p) = there (placed_in s (base + width (body_in s k)) is i at p)

pub place_low : (s : Scene) (base : ℕ) (is : List Instance) (i : Instance) (at : ℕ) → Place s base is i at → (base ≤ at) × (at + width (body_in s i) ≤ base + widths s.l is)
place_low s base _ i _ first = (omega arith, omega arith)
place_low s base _ i at (next {k = k} {is = is} p) = let r = place_low s (base + width (body_in s k)) is i at p in let a = r.0 in let b = r.1 in (omega (arith, a), omega (arith, b))

pub driven_in : (s : Scene) (base : ℕ) (is : List Instance) (i : Instance) (at : ℕ) → Place s base is i at → (d : Numbered) → In d (body_driven s.class i.name (body_in s i) at) → In d (all_driven s base is)
driven_in s base _ i _ (first {is = is}) d j = In-left d (body_driven s.class i.name (body_in s i) base) (all_driven s (base + width (body_in s i)) is) j
driven_in s base _ i at (next {k = k} {is = is} p) d j = In-right d (body_driven s.class k.name (body_in s k) base) (all_driven s (base + width (body_in s k)) is) (driven_in s (base + width (body_in s k)) is i at p d j)

pub record DrivenBy (s : Scene) (base : ℕ) (is : List Instance) (d : Numbered) : Type 0 where
  pub i : Instance
  pub at : ℕ
  pub place : Place s base is i at
  pub among : In d (body_driven s.class i.name (body_in s i) at)

pub driven_by : (s : Scene) (base : ℕ) (is : List Instance) (d : Numbered) → In d (all_driven s base is) → DrivenBy s base is d
driven_by s base [] d j = elim j [ ]
driven_by s base (k ∷ is) d j = elim (In-split d (body_driven s.class k.name (body_in s k) base) (all_driven s (base + width (body_in s k)) is) j) [
  | inl a ↦ record { i = k; at = base; place = first; among = a }
  | inr a ↦ let r = driven_by s (base + width (body_in s k)) is d a in record { i = r.i; at = r.at; place = next r.place; among = r.among }
]

-- ---- what is held

-- what the instances hold, one after another
abbrev pub held_all : Scene → List Instance → Contents → List Bool
held_all s is t = flat_map (λ i. held_at (cell_of s.l i.model) (t i.name)) is

held_in_count : (c : Cell) (f : Function) (xs : List Bool) → length (held_in f xs) ≡ length (body_of c f).loads
held_in_count c (gate e) xs = refl
held_in_count c (flip_flop d k) xs = refl
held_in_count c (other m) xs =
    length-map (rising 0 (length m.registers)) (bit xs) ∙ rising_count 0 (length m.registers) ∙ sym (length-map m.registers (λ (r : Register). record { next = r.next; enable = r.enable }))
held_in_count c opaque xs = refl

pub held_count : (o : Option Cell) (xs : List Bool) → length (held_at o xs) ≡ length (body_at o).loads
held_count None xs = refl
held_count (Some c) xs = held_in_count c c.function xs

held_cons : (s : Scene) (y : List Bool) (base : ℕ) (k : Instance) (is : List Instance)
    → map (bit y) (held_of (all_stored s base (k ∷ is))) ≡ map (bit y) (rising base (length (body_in s k).loads)) ++ map (bit y) (held_of (all_stored s (base + width (body_in s k)) is))
held_cons s y base k is =
    ap (map (bit y)) (map-append (λ (r : NumberedStorage). r.bit) (body_stored s.class k.name (body_in s k) base) (all_stored s (base + width (body_in s k)) is))
    ∙ map-append (bit y) (held_of (body_stored s.class k.name (body_in s k) base)) (held_of (all_stored s (base + width (body_in s k)) is))
    ∙ ap (λ (xs : List ℕ). map (bit y) xs ++ map (bit y) (held_of (all_stored s (base + width (body_in s k)) is))) (stored_bits_are (numbers s.class k.name (body_in s k) base) base (body_in s k).loads)

held_pieces : (s : Scene) (t : Contents) (y : List Bool) (base : ℕ) (k : Instance) (is : List Instance) → map (bit y) (held_of (all_stored s base (k ∷ is))) ≡ held_all s (k ∷ is) t
    → (map (bit y) (rising base (length (body_in s k).loads)) ≡ held_at (cell_of s.l k.model) (t k.name)) × (map (bit y) (held_of (all_stored s (base + width (body_in s k)) is)) ≡ held_all s is t)
held_pieces s t y base k is e =
    let n = length-map (rising base (length (body_in s k).loads)) (bit y) in
    let r = rising_count base (length (body_in s k).loads) in
    let c = held_count (cell_of s.l k.model) (t k.name) in
    pieces_same (map (bit y) (rising base (length (body_in s k).loads))) (map (bit y) (held_of (all_stored s (base + width (body_in s k)) is))) (held_at (cell_of s.l k.model) (t k.name)) (held_all s is t)
    (n ∙ r ∙ sym c) (sym (held_cons s y base k is) ∙ e)

pub held_split : (s : Scene) (t : Contents) (y : List Bool) (base : ℕ) (is : List Instance) → map (bit y) (held_of (all_stored s base is)) ≡ held_all s is t → (i : Instance) (at : ℕ) → Place s base is i at
    → map (bit y) (rising at (length (body_in s i).loads)) ≡ held_at (cell_of s.l i.model) (t i.name)
held_split s t y base _ e i _ (first {is = is}) = (held_pieces s t y base i is e).0
held_split s t y base _ e i at (next {k = k} {is = is} p) = held_split s t y (base + width (body_in s k)) is (held_pieces s t y base k is e).1 i at p

pub held_join : (s : Scene) (t : Contents) (y : List Bool) (base : ℕ) (is : List Instance)
    → ((i : Instance) (at : ℕ) → Place s base is i at → map (bit y) (rising at (length (body_in s i).loads)) ≡ held_at (cell_of s.l i.model) (t i.name))
    → map (bit y) (held_of (all_stored s base is)) ≡ held_all s is t
held_join s t y base [] h = refl
held_join s t y base (k ∷ is) h =
    held_cons s y base k is ∙ ap (λ (xs : List Bool). xs ++ map (bit y) (held_of (all_stored s (base + width (body_in s k)) is))) (h k base first)
    ∙ ap (λ (xs : List Bool). held_at (cell_of s.l k.model) (t k.name) ++ xs) (held_join s t y (base + width (body_in s k)) is (λ i at p. h i at (next p)))

-- ---- within the instances

abbrev pub local : Scene → List Bool → Instance → ℕ → List Bool
local s y i at = map (bit y) (numbers s.class i.name (body_in s i) at)

-- by the instances' names
abbrev pub inner_of : Scene → List Bool → ℕ → List Instance → List ℕ → List Bool
inner_of s y base [] owner = []
inner_of s y base (i ∷ is) owner = cond (is_same_text i.name owner) (local s y i base) (inner_of s y (base + width (body_in s i)) is owner)

pub inner_at : (s : Scene) (y : List Bool) (base : ℕ) (is : List Instance) → AllDifferent (map (λ (i : Instance). i.name) is) → (i : Instance) (at : ℕ) → Place s base is i at → inner_of s y base is i.name ≡ local s y i at
inner_at s y base _ d i _ (first {is = is}) =
    ap (λ b. cond b (local s y i base) (inner_of s y (base + width (body_in s i)) is i.name)) ((bytes_decides i.name i.name).1 refl)
inner_at s y base _ d i at (next {k = k} {is = is} p) =
    let apart : is_same_text k.name i.name ≡ false = by (is_same_text k.name i.name) refl in
    ap (λ b. cond b (local s y k base) (inner_of s y (base + width (body_in s k)) is i.name)) apart ∙ inner_at s y (base + width (body_in s k)) is d.1 i at p where
      by : (b : Bool) → is_same_text k.name i.name ≡ b → b ≡ false
      by false e = refl
      by true e =
          let same : k.name ≡ i.name = (bytes_decides k.name i.name).0 e in
          absurd (d.0 (subst (λ (n : List ℕ). In n (map (λ (i : Instance). i.name) is)) (sym same) (In-map (λ (i : Instance). i.name) i is (placed_in s (base + width (body_in s k)) is i at p))))

-- ---- bits one block after another

pub bit_right : (xs ys : List Bool) (k : ℕ) → bit (xs ++ ys) (length xs + k) ≡ bit ys k
bit_right [] ys k = let e : 0 + k ≡ k = omega arith in ap (bit ys) e
bit_right (x ∷ xs) ys k = let e : length (x ∷ xs) + k ≡ suc (length xs + k) = omega arith in ap (bit (x ∷ (xs ++ ys))) e ∙ bit_right xs ys k

pub bit_left : (xs ys : List Bool) (k : ℕ) → k < length xs → bit (xs ++ ys) k ≡ bit xs k
bit_left [] ys k l = absurd (omega (arith, l))
bit_left (x ∷ xs) ys zero l = refl
bit_left (x ∷ xs) ys (suc k) l = bit_left xs ys k (omega (arith, l))

pub bits_between : (front xs back : List Bool) (at n : ℕ) → at ≡ length front → n ≡ length xs → map (bit (front ++ (xs ++ back))) (rising at n) ≡ xs
bits_between front [] back at zero e m = refl
bits_between front [] back at (suc n) e m = absurd (omega (arith, m))
bits_between front (x ∷ xs) back at zero e m = absurd (omega (arith, m))
bits_between front (x ∷ xs) back at (suc n) e m =
    let z : at ≡ length front + 0 = omega (arith, e) in
    let first_is : bit (front ++ (x ∷ (xs ++ back))) at ≡ x = ap (bit (front ++ (x ∷ (xs ++ back)))) z ∙ bit_right front (x ∷ (xs ++ back)) 0 in
    let l = length-append front (x ∷ []) in
    let rest = bits_between (front ++ x ∷ []) xs back (at + 1) n (omega (arith, e, l)) (omega (arith, m)) in
    let joined : (front ++ x ∷ []) ++ (xs ++ back) ≡ front ++ (x ∷ (xs ++ back)) = append_assoc front (x ∷ []) (xs ++ back) in
    ap (λ b. b ∷ map (bit (front ++ (x ∷ (xs ++ back)))) (rising (at + 1) n)) first_is
    ∙ ap (λ bs. x ∷ bs) (sym (ap (λ (zs : List Bool). map (bit zs) (rising (at + 1) n)) joined) ∙ rest)

-- the block of an instance in its place
pub block_at : (s : Scene) (block : Instance → List Bool) (front : List Bool) (base : ℕ) (is : List Instance) → ((i : Instance) → In i is → length (block i) ≡ width (body_in s i)) → base ≡ length front
    → (i : Instance) (at : ℕ) → Place s base is i at → map (bit (front ++ flat_map block is)) (rising at (width (body_in s i))) ≡ block i
block_at s block front base _ h e i _ (first {is = is}) = bits_between front (block i) (flat_map block is) base (width (body_in s i)) e (sym (h i here))
block_at s block front base _ h e i at (next {k = k} {is = is} p) =
    let l = length-append front (block k) in
    let w = h k here in
    let joined : (front ++ block k) ++ flat_map block is ≡ front ++ (block k ++ flat_map block is) = append_assoc front (block k) (flat_map block is) in
    sym (ap (λ (zs : List Bool). map (bit zs) (rising at (width (body_in s i)))) joined)
    ∙ block_at s block (front ++ block k) (base + width (body_in s k)) is (λ j m. h j (there m)) (omega (arith, e, l, w)) i at p

pub blocks_count : (s : Scene) (block : Instance → List Bool) (is : List Instance) → ((i : Instance) → In i is → length (block i) ≡ width (body_in s i)) → length (flat_map block is) ≡ widths s.l is
blocks_count s block [] h = refl
blocks_count s block (k ∷ is) h =
    let l = length-append (block k) (flat_map block is) in
    let w = h k here in
    let r = blocks_count s block is (λ j m. h j (there m)) in
    omega (arith, l, w, r)
