-- One instance: its cell drives its pins just where its body holds.
use Rattle.std.proofs.Common.{◌≡◌, ◌⊎◌, inl, inr, ℕ, zero, suc, ◌+◌, ◌<◌, Bool, false, cond, List, [], ◌∷◌, ◌++◌, map, length, get_or, drop, Some, refl, sym, ap, ◌∙◌, subst, arith, length-append, append-nil}
use Rattle.std.specs.Prelude.{slice_index}
use Rattle.std.proofs.lemmas.List.{length-map, map-append, get_or-map}
use Rattle.std.proofs.lemmas.Option.{slice_get_within, get_or_from_slice_get}
use Rattle.vlsi_base.specs.declared.name.Name.{Name}
use Rattle.vlsi_base.specs.declared.name.Terminal.{Terminal}
use Rattle.vlsi_base.specs.Range.{rising}
use Rattle.vlsi_base.specs.Member.{In, here, there}
use Rattle.bool_expr.specs.Expression.{Expression, variable, IsOver, bit, val}
use Rattle.bool_expr.specs.Renumbering.{renumbered}
use Rattle.machine_core.specs.Named.{value_at, values_at}
use Rattle.machine_core.specs.Machine.{Machine, Register, inputs, register_names}
use Rattle.machine_core.specs.Cycles.{Settles, outs, next}
use Rattle.machine_core.proofs.Values.{In-left, In-right, In-map, In-split}
use Rattle.source_bits.specs.Driven.{Numbered, NumberedStorage}
use Rattle.vlsi_model.proofs.Building.{map-then, map_same}
use Rattle.cell_model.specs.Cell.{Function, gate, flip_flop, other, opaque, Cell, cell_inputs, cell_outputs}
use Rattle.cell_model.specs.Library.{cell_of}
use Rattle.cell_model.specs.Usable.{FitsPins}
use Rattle.net_core.specs.Places.{Stands}
use Rattle.net_core.specs.Netlist.{Instance, pin_of}
use Rattle.net_meaning.specs.Netlist.{AbstractNetlist}
use Rattle.net_meaning.specs.Behaviour.{Contents, Valuation, pin_bits, Drives, loaded}
use Rattle.net_right.specs.View.{netlist_by}
use Rattle.bit_machine.proofs.Showing.{val_renumbered}
use Rattle.net_machine.specs.Body.{Load, Shown, Body, body_of, body_at, width}
use Rattle.net_machine.specs.Bits.{numbers, stored_from, inner_from, shown_from, body_driven}
use Rattle.net_machine.specs.Gathered.{bits_count, IsBodyOver}
use Rattle.net_machine.proofs.Bodies.{All_is, machine_outputs, machine_bits}
use Rattle.net_machine.proofs.Scenes.{Scene, shown_pins}
use Rattle.net_machine.proofs.Blocks.{body_in, shown_low}
use Rattle.net_machine.proofs.Whole.{rising_count}
use Rattle.net_machine.proofs.Local.{BodyHolds, machine_registers, machine_settles, machine_holds}
use Rattle.net_machine.specs.Step.{held_in}
use Rattle.net_machine.proofs.Places.{local}
use Rattle.vlsi_model.proofs.Members.{In-cases, In-map_back}

-- the netlist with this scene's classes
abbrev pub seen_net : Scene → AbstractNetlist
seen_net s = netlist_by s.class s.n

-- ---- the bits of a body by their numbers

pub numbers_count : (class : Terminal → ℕ) (name : List ℕ) (b : Body) (at : ℕ) → length (numbers class name b at) ≡ bits_count b
numbers_count class name b at =
    let a = length-append (map (λ (pin : Name). class (pin_of name pin)) b.reads) (rising at (width b)) in
    let m = length-map b.reads (λ (pin : Name). class (pin_of name pin)) in
    let r = rising_count at (width b) in
    omega (arith, a, m, r)

pub value_here : (class : Terminal → ℕ) (name : List ℕ) (b : Body) (at : ℕ) (y : List Bool) (e : Expression) → IsOver e (bits_count b)
    → val (renumbered (numbers class name b at) e) y ≡ val e (map (bit y) (numbers class name b at))
value_here class name b at y e over =
    val_renumbered e (bits_count b) (numbers class name b at) y (map (bit y) (numbers class name b at)) over
    (λ k low. let n = numbers_count class name b at in sym (get_or-map (bit y) (numbers class name b at) k 0 false (omega (arith, low, n))))

at_rising : (k n j : ℕ) → j < n → slice_index (rising k n) j ≡ k + j
at_rising k zero j l = absurd (omega (arith, l))
at_rising k (suc n) zero l = omega arith
at_rising k (suc n) (suc j) l = let r = at_rising (k + 1) n j (omega (arith, l)) in omega (arith, r)

at_right : (xs ys : List ℕ) (k : ℕ) → slice_index (xs ++ ys) (length xs + k) ≡ slice_index ys k
at_right [] ys k = let e : 0 + k ≡ k = omega arith in ap (slice_index ys) e
at_right (x ∷ xs) ys k = let e : length (x ∷ xs) + k ≡ suc (length xs + k) = omega arith in ap (slice_index (x ∷ (xs ++ ys))) e ∙ at_right xs ys k

-- an own bit of the body
pub own_bit : (class : Terminal → ℕ) (name : List ℕ) (b : Body) (at : ℕ) (y : List Bool) (k : ℕ) → k < width b → bit (map (bit y) (numbers class name b at)) (length b.reads + k) ≡ bit y (at + k)
own_bit class name b at y k l =
    let n = numbers_count class name b at in
    let pins = map (λ (pin : Name). class (pin_of name pin)) b.reads in
    let m : length pins ≡ length b.reads = length-map b.reads (λ (pin : Name). class (pin_of name pin)) in
    let i : length b.reads + k ≡ length pins + k = omega (arith, m) in
    get_or-map (bit y) (numbers class name b at) (length b.reads + k) 0 false (omega (arith, l, n))
    ∙ ap (bit y) (ap (slice_index (numbers class name b at)) i ∙ at_right pins (rising at (width b)) k ∙ at_rising at (width b) k l)

-- ---- what is driven, and what holds

abbrev pub Driven : List Bool → Numbered → Type 0
Driven y d = bit y d.bit ≡ val d.expr y

inner_at_place : (table : List ℕ) (k : ℕ) (es : List Expression) (q : ℕ) (e : Expression) → Stands es q e → In (record { bit = k + q; expr = renumbered table e }) (inner_from table k es)
inner_at_place table k [] q e s = absurd cc
inner_at_place table k (x ∷ es) zero e s =
    let same : x ≡ e = cc in
    let z : k ≡ k + 0 = omega arith in
    let made : ℕ → Expression → Numbered = λ n x. record { bit = n; expr = renumbered table x } in
    subst (λ (d : Numbered). In d (inner_from table k (x ∷ es))) (ap (λ n. made n x) z ∙ ap (made (k + 0)) same) here
inner_at_place table k (x ∷ es) (suc q) e s =
    let z : k + 1 + q ≡ k + suc q = omega arith in
    let made : ℕ → Expression → Numbered = λ n x. record { bit = n; expr = renumbered table x } in
    there (subst (λ (d : Numbered). In d (inner_from table (k + 1) es)) (ap (λ n. made n e) z) (inner_at_place table (k + 1) es q e s))

pub inner_place : (table : List ℕ) (k : ℕ) (es : List Expression) (d : Numbered) → In d (inner_from table k es) → (q : ℕ) × (e : Expression) × Stands es q e × (d ≡ record { bit = k + q; expr = renumbered table e })
inner_place table k [] d i = elim i [ ]
inner_place table k (x ∷ es) d i = by (In-cases d (record { bit = k; expr = renumbered table x }) (inner_from table (k + 1) es) i) (inner_place table (k + 1) es d) where
  made : ℕ → Expression → Numbered
  made n x = record { bit = n; expr = renumbered table x }

  by : (record { bit = k; expr = renumbered table x } ≡ d) ⊎ In d (inner_from table (k + 1) es)
      → (In d (inner_from table (k + 1) es) → (q : ℕ) × (e : Expression) × Stands es q e × (d ≡ record { bit = k + 1 + q; expr = renumbered table e }))
      → (q : ℕ) × (e : Expression) × Stands (x ∷ es) q e × (d ≡ record { bit = k + q; expr = renumbered table e })
  by (inl same) rest = let z : k ≡ k + 0 = omega arith in (0, x, refl, sym same ∙ ap (λ n. made n x) z)
  by (inr j) rest = let r = rest j in let z : k + 1 + r.0 ≡ k + suc r.0 = omega arith in (suc r.0, r.1, r.2, r.3 ∙ ap (λ n. made n r.1) z)

-- the bits that the output pins have
abbrev pub pins_shown : Scene → List Bool → Instance → List Bool
pins_shown s y i = map (λ (x : Shown). bit y (s.class (pin_of i.name x.pin))) (body_in s i).shows

pub holds_if : (s : Scene) (i : Instance) (at : ℕ) (y : List Bool) → IsBodyOver (body_in s i) → ((d : Numbered) → In d (body_driven s.class i.name (body_in s i) at) → Driven y d)
    → BodyHolds (body_in s i) (local s y i at) (pins_shown s y i)
holds_if s i at y over h = record {
  each = length-map (numbers s.class i.name b at) (bit y) ∙ numbers_count s.class i.name b at;
  inner = λ q e t.
      let low = slice_get_within b.inner q e t in
      let d : Numbered = record { bit = at + length b.loads + q; expr = renumbered (numbers s.class i.name b at) e } in
      let v : bit y d.bit ≡ val d.expr y = h d (In-left d (inner_from (numbers s.class i.name b at) (at + length b.loads) b.inner) (shown_from s.class i.name (numbers s.class i.name b at) b.shows) (inner_at_place (numbers s.class i.name b at) (at + length b.loads) b.inner q e t)) in
      let o : IsOver e (bits_count b) = subst (λ (x : Expression). IsOver x (bits_count b)) (get_or_from_slice_get b.inner q e e t) (over.inner q e low) in
      let k : length b.reads + length b.loads + q ≡ length b.reads + (length b.loads + q) = omega arith in
      let k2 : at + (length b.loads + q) ≡ at + length b.loads + q = omega arith in
      ap (bit (local s y i at)) k ∙ own_bit s.class i.name b at y (length b.loads + q) (omega (arith, low)) ∙ ap (bit y) k2 ∙ v ∙ value_here s.class i.name b at y e o;
  shows = map_same (λ (x : Shown). val x.expr (local s y i at)) (λ (x : Shown). bit y (s.class (pin_of i.name x.pin))) b.shows
      (λ x j.
      let d : Numbered = record { bit = s.class (pin_of i.name x.pin); expr = renumbered (numbers s.class i.name b at) x.expr } in
      let v : bit y d.bit ≡ val d.expr y = h d (In-right d (inner_from (numbers s.class i.name b at) (at + length b.loads) b.inner) (shown_from s.class i.name (numbers s.class i.name b at) b.shows)
      (In-map (λ (z : Shown). record { bit = s.class (pin_of i.name z.pin); expr = renumbered (numbers s.class i.name b at) z.expr }) x b.shows j)) in
      sym (value_here s.class i.name b at y x.expr (All_is (λ (z : Shown). IsOver z.expr (bits_count b)) b.shows over.shows x j)) ∙ sym v);
} where
  b : Body
  b = body_in s i

shown_each : {A : Type 0} (f g : A → Bool) (xs : List A) → map f xs ≡ map g xs → (x : A) → In x xs → f x ≡ g x
shown_each f g (z ∷ xs) e x here = let h : get_or (f z ∷ map f xs) 0 false ≡ get_or (g z ∷ map g xs) 0 false = ap (λ (bs : List Bool). get_or bs 0 false) e in h
shown_each f g (z ∷ xs) e x (there j) = shown_each f g xs (ap (drop 1) e) x j
shown_each f g [] e x j = elim j [ ]

pub driven_if : (s : Scene) (i : Instance) (at : ℕ) (y : List Bool) → IsBodyOver (body_in s i) → BodyHolds (body_in s i) (local s y i at) (pins_shown s y i)
    → (d : Numbered) → In d (body_driven s.class i.name (body_in s i) at) → Driven y d
driven_if s i at y over h d j = elim (In-split d (inner_from table (at + length b.loads) b.inner) (shown_from s.class i.name table b.shows) j) [
  | inl a ↦
      let w = inner_place table (at + length b.loads) b.inner d a in
      let low = slice_get_within b.inner w.0 w.1 w.2 in
      let o : IsOver w.1 (bits_count b) = subst (λ (x : Expression). IsOver x (bits_count b)) (get_or_from_slice_get b.inner w.0 w.1 w.1 w.2) (over.inner w.0 w.1 low) in
      let k : length b.reads + length b.loads + w.0 ≡ length b.reads + (length b.loads + w.0) = omega arith in
      let k2 : at + (length b.loads + w.0) ≡ at + length b.loads + w.0 = omega arith in
      let v : bit y (at + length b.loads + w.0) ≡ val (renumbered table w.1) y =
      sym (ap (bit (local s y i at)) k ∙ own_bit s.class i.name b at y (length b.loads + w.0) (omega (arith, low)) ∙ ap (bit y) k2) ∙ h.inner w.0 w.1 w.2 ∙ sym (value_here s.class i.name b at y w.1 o) in
      subst (Driven y) (sym w.3) v
  | inr a ↦
      let w = In-map_back (λ (z : Shown). record { bit = s.class (pin_of i.name z.pin); expr = renumbered table z.expr }) d b.shows a in
      let e = shown_each (λ (x : Shown). val x.expr (local s y i at)) (λ (x : Shown). bit y (s.class (pin_of i.name x.pin))) b.shows h.shows w.0 w.1 in
      let v : bit y (s.class (pin_of i.name w.0.pin)) ≡ val (renumbered table w.0.expr) y =
      sym e ∙ sym (value_here s.class i.name b at y w.0.expr (All_is (λ (z : Shown). IsOver z.expr (bits_count b)) b.shows over.shows w.0 w.1)) in
      subst (Driven y) w.2 v
] where
  b : Body
  b = body_in s i

  table : List ℕ
  table = numbers s.class i.name b at

-- ---- pieces of a local valuation

pub local_pieces : (s : Scene) (y : List Bool) (i : Instance) (at : ℕ)
    → local s y i at ≡ map (bit y) (map (λ (pin : Name). s.class (pin_of i.name pin)) (body_in s i).reads) ++ map (bit y) (rising at (width (body_in s i)))
local_pieces s y i at = map-append (bit y) (map (λ (pin : Name). s.class (pin_of i.name pin)) (body_in s i).reads) (rising at (width (body_in s i)))

pub rising_split : (k m n : ℕ) → rising k (m + n) ≡ rising k m ++ rising (k + m) n
rising_split k zero n = let e : 0 + n ≡ n = omega arith in let f : k ≡ k + 0 = omega arith in ap (rising k) e ∙ ap (λ j. rising j n) f
rising_split k (suc m) n =
    let e : suc m + n ≡ suc (m + n) = omega arith in
    let f : k + 1 + m ≡ k + suc m = omega arith in
    ap (rising k) e ∙ ap (λ (xs : List ℕ). k ∷ xs) (rising_split (k + 1) m n ∙ ap (λ j. rising (k + 1) m ++ rising j n) f)

pub local_three : (s : Scene) (y : List Bool) (i : Instance) (at : ℕ)
    → local s y i at ≡ map (bit y) (map (λ (pin : Name). s.class (pin_of i.name pin)) (body_in s i).reads)
    ++ (map (bit y) (rising at (length (body_in s i).loads)) ++ map (bit y) (rising (at + length (body_in s i).loads) (length (body_in s i).inner)))
local_three s y i at =
    local_pieces s y i at
    ∙ ap (λ (xs : List Bool). map (bit y) (map (λ (pin : Name). s.class (pin_of i.name pin)) (body_in s i).reads) ++ xs)
    (ap (map (bit y)) (rising_split at (length (body_in s i).loads) (length (body_in s i).inner)) ∙ map-append (bit y) (rising at (length (body_in s i).loads)) (rising (at + length (body_in s i).loads) (length (body_in s i).inner)))

-- ---- the cell and the body

-- the classes of the netlist's valuation are the first of the bits
abbrev pub AgreeBelow : ℕ → List Bool → List Bool → Type 0
AgreeBelow count classes y = (x : ℕ) → x < count → bit classes x ≡ bit y x

one_of : (xs : List Name) (b : Bool) → length xs ≡ 1 → map (λ (x : Name). b) xs ≡ b ∷ []
one_of [] b e = absurd (omega (arith, e))
one_of (x ∷ []) b e = refl
one_of (x ∷ z ∷ xs) b e = absurd (omega (arith, e))

-- an instance with its cell, under a valuation
pub record Stage (s : Scene) (i : Instance) (at : ℕ) (y : List Bool) (w : Valuation) (c : Cell) : Type 0 where
  pub listed : In i s.n.instances
  pub found : cell_of s.l i.model ≡ Some c
  pub fits : FitsPins c c.function
  pub known : c.function ≡ opaque → ⊥
  pub agree : AgreeBelow s.n.count w.classes y
  pub low : (pin : Name) → In pin (body_in s i).reads → s.class (pin_of i.name pin) < s.n.count

body_here : (s : Scene) (i : Instance) (at : ℕ) (y : List Bool) (w : Valuation) (c : Cell) → Stage s i at y w c → body_in s i ≡ body_of c c.function
body_here s i at y w c g = ap body_at g.found

pub outs_agree : (s : Scene) (i : Instance) (at : ℕ) (y : List Bool) (w : Valuation) (c : Cell) → Stage s i at y w c → pin_bits (seen_net s) w.classes i.name (cell_outputs c) ≡ pins_shown s y i
outs_agree s i at y w c g =
    let pins : map (λ (x : Shown). x.pin) (body_in s i).shows ≡ cell_outputs c = ap (λ (b : Body). map (λ (x : Shown). x.pin) b.shows) (body_here s i at y w c g) ∙ shown_pins c c.function g.fits g.known in
    ap (map (λ (p : Name). bit w.classes (s.class (pin_of i.name p)))) (sym pins)
    ∙ map-then (λ (p : Name). bit w.classes (s.class (pin_of i.name p))) (λ (x : Shown). x.pin) (body_in s i).shows
    ∙ map_same (λ (x : Shown). bit w.classes (s.class (pin_of i.name x.pin))) (λ (x : Shown). bit y (s.class (pin_of i.name x.pin))) (body_in s i).shows
    (λ x j. g.agree (s.class (pin_of i.name x.pin)) (shown_low s i g.listed x j))

pub reads_agree : (s : Scene) (i : Instance) (at : ℕ) (y : List Bool) (w : Valuation) (c : Cell) → Stage s i at y w c
    → map (bit y) (map (λ (pin : Name). s.class (pin_of i.name pin)) (body_in s i).reads) ≡ pin_bits (seen_net s) w.classes i.name (body_in s i).reads
reads_agree s i at y w c g =
    map-then (bit y) (λ (pin : Name). s.class (pin_of i.name pin)) (body_in s i).reads
    ∙ map_same (λ (pin : Name). bit y (s.class (pin_of i.name pin))) (λ (pin : Name). bit w.classes (s.class (pin_of i.name pin))) (body_in s i).reads
    (λ pin j. sym (g.agree (s.class (pin_of i.name pin)) (g.low pin j)))

-- what an instance of another machine has within is its local valuation
abbrev pub IsLocal : Function → List Bool → List Bool → Type 0
IsLocal (gate e) v inner = Unit {0}
IsLocal (flip_flop data_pin clock_pin) v inner = Unit {0}
IsLocal (other m) v inner = inner ≡ v
IsLocal opaque v inner = Unit {0}

-- what an instance holds is long enough
abbrev pub FitsHeld : Function → List Bool → Type 0
FitsHeld (gate e) xs = Unit {0}
FitsHeld (flip_flop data_pin clock_pin) xs = Unit {0}
FitsHeld (other m) xs = length xs ≡ length m.registers
FitsHeld opaque xs = Unit {0}

bits_itself : (xs : List Bool) (k : ℕ) (ys : List Bool) → ((j : ℕ) → bit ys (k + j) ≡ bit xs j) → map (bit ys) (rising k (length xs)) ≡ xs
bits_itself [] k ys h = refl
bits_itself (x ∷ xs) k ys h =
    let z : k ≡ k + 0 = omega arith in
    ap (λ b. b ∷ map (bit ys) (rising (k + 1) (length xs))) (ap (bit ys) z ∙ h 0) ∙ ap (λ bs. x ∷ bs) (bits_itself xs (k + 1) ys (λ j. let e : k + 1 + j ≡ k + suc j = omega arith in ap (bit ys) e ∙ h (suc j)))

pub held_itself : (m : Machine) (xs : List Bool) → length xs ≡ length m.registers → held_in (other m) xs ≡ xs
held_itself m xs e = ap (λ n. map (bit xs) (rising 0 n)) (sym e) ∙ bits_itself xs 0 xs (λ j. let z : 0 + j ≡ j = omega arith in ap (bit xs) z)

pub drives : (s : Scene) (i : Instance) (at : ℕ) (y : List Bool) (w : Valuation) (t : Contents) (c : Cell) (f : Function) → Stage s i at y w c → c.function ≡ f
    → BodyHolds (body_of c f) (local s y i at) (pins_shown s y i) → map (bit y) (rising at (length (body_of c f).loads)) ≡ held_in f (t i.name) → FitsHeld f (t i.name) → IsLocal f (local s y i at) (w.inner i.name)
    → Drives (seen_net s) w t i.name c f
drives s i at y w t c (gate e) g is h held fit inner =
    let b = body_here s i at y w c g ∙ ap (body_of c) is in
    let fits : FitsPins c (gate e) = subst (FitsPins c) is g.fits in
    let ins : local s y i at ≡ pin_bits (seen_net s) w.classes i.name (cell_inputs c) =
    local_pieces s y i at ∙ ap (λ (xs : List Bool). xs ++ map (bit y) (rising at (width (body_in s i)))) (reads_agree s i at y w c g)
    ∙ ap (λ (x : Body). pin_bits (seen_net s) w.classes i.name x.reads ++ map (bit y) (rising at (width x))) b ∙ append-nil (pin_bits (seen_net s) w.classes i.name (cell_inputs c)) in
    outs_agree s i at y w c g ∙ sym h.shows ∙ map-then (λ (x : Shown). val x.expr (local s y i at)) (λ (o : Name). record { pin = o; expr = e }) (cell_outputs c)
    ∙ one_of (cell_outputs c) (val e (local s y i at)) fits.0 ∙ ap (λ v. val e v ∷ []) ins
drives s i at y w t c (flip_flop d k) g is h held fit inner =
    let b = body_here s i at y w c g ∙ ap (body_of c) is in
    let fits : FitsPins c (flip_flop d k) = subst (FitsPins c) is g.fits in
    let one : bit (local s y i at) 1 ≡ bit y at =
    ap (λ (x : Body). bit (map (bit y) (numbers s.class i.name x at)) 1) b in
    let first : bit y at ≡ bit (t i.name) 0 = ap (λ (bs : List Bool). bit bs 0) held in
    outs_agree s i at y w c g ∙ sym h.shows ∙ map-then (λ (x : Shown). val x.expr (local s y i at)) (λ (o : Name). record { pin = o; expr = variable 1 }) (cell_outputs c)
    ∙ one_of (cell_outputs c) (bit (local s y i at) 1) fits.0 ∙ ap (λ v. v ∷ []) (one ∙ first)
drives s i at y w t c (other m) g is h held fit inner =
    let b = body_here s i at y w c g ∙ ap (body_of c) is in
    let fits : FitsPins c (other m) = subst (FitsPins c) is g.fits in
    let ins = map (bit y) (map (λ (pin : Name). s.class (pin_of i.name pin)) (inputs m)) in
    let rest = map (bit y) (rising (at + length (body_of c (other m)).loads) (length (body_of c (other m)).inner)) in
    let three : local s y i at ≡ ins ++ (map (bit y) (rising at (length (body_of c (other m)).loads)) ++ rest) =
    local_three s y i at ∙ ap (λ (x : Body). map (bit y) (map (λ (pin : Name). s.class (pin_of i.name pin)) x.reads) ++ (map (bit y) (rising at (length x.loads)) ++ map (bit y) (rising (at + length x.loads) (length x.inner)))) b in
    let hs : map (bit y) (rising at (length (body_of c (other m)).loads)) ≡ t i.name = held ∙ held_itself m (t i.name) fit in
    let r = machine_settles c m ins (t i.name) rest (local s y i at) (pins_shown s y i) fits.1 (three ∙ ap (λ (xs : List Bool). ins ++ (xs ++ rest)) hs)
    (length-map (map (λ (pin : Name). s.class (pin_of i.name pin)) (inputs m)) (bit y) ∙ length-map (inputs m) (λ (pin : Name). s.class (pin_of i.name pin))) fit h in
    let same : ins ≡ pin_bits (seen_net s) w.classes i.name (inputs m) =
    ap (λ (x : Body). map (bit y) (map (λ (pin : Name). s.class (pin_of i.name pin)) x.reads)) (sym b) ∙ reads_agree s i at y w c g ∙ ap (λ (x : Body). pin_bits (seen_net s) w.classes i.name x.reads) b in (
      subst (λ (v : List Bool). Settles m (t i.name) (pin_bits (seen_net s) w.classes i.name (inputs m)) v) (sym inner) (subst (λ (v : List Bool). Settles m (t i.name) v (local s y i at)) same r.0),
      ap (pin_bits (seen_net s) w.classes i.name) (machine_outputs c m fits.0) ∙ outs_agree s i at y w c g ∙ r.1 ∙ ap (outs m) (sym inner),
    )
drives s i at y w t c opaque g is h held fit inner = tt

pub holds : (s : Scene) (i : Instance) (at : ℕ) (y : List Bool) (w : Valuation) (t : Contents) (c : Cell) (f : Function) → Stage s i at y w c → c.function ≡ f
    → Drives (seen_net s) w t i.name c f → map (bit y) (rising at (length (body_of c f).loads)) ≡ held_in f (t i.name) → IsLocal f (local s y i at) (w.inner i.name)
    → BodyHolds (body_of c f) (local s y i at) (pins_shown s y i)
holds s i at y w t c (gate e) g is h held inner =
    let b = body_here s i at y w c g ∙ ap (body_of c) is in
    let fits : FitsPins c (gate e) = subst (FitsPins c) is g.fits in
    let ins : local s y i at ≡ pin_bits (seen_net s) w.classes i.name (cell_inputs c) =
    local_pieces s y i at ∙ ap (λ (xs : List Bool). xs ++ map (bit y) (rising at (width (body_in s i)))) (reads_agree s i at y w c g)
    ∙ ap (λ (x : Body). pin_bits (seen_net s) w.classes i.name x.reads ++ map (bit y) (rising at (width x))) b ∙ append-nil (pin_bits (seen_net s) w.classes i.name (cell_inputs c)) in
    record {
      each = length-map (numbers s.class i.name (body_in s i) at) (bit y) ∙ numbers_count s.class i.name (body_in s i) at ∙ ap bits_count b;
      inner = λ q x z. absurd cc;
      shows = map-then (λ (x : Shown). val x.expr (local s y i at)) (λ (o : Name). record { pin = o; expr = e }) (cell_outputs c)
          ∙ one_of (cell_outputs c) (val e (local s y i at)) fits.0 ∙ ap (λ v. val e v ∷ []) ins ∙ sym h ∙ outs_agree s i at y w c g;
    }
holds s i at y w t c (flip_flop d k) g is h held inner =
    let b = body_here s i at y w c g ∙ ap (body_of c) is in
    let fits : FitsPins c (flip_flop d k) = subst (FitsPins c) is g.fits in
    let one : bit (local s y i at) 1 ≡ bit y at = ap (λ (x : Body). bit (map (bit y) (numbers s.class i.name x at)) 1) b in
    let first : bit y at ≡ bit (t i.name) 0 = ap (λ (bs : List Bool). bit bs 0) held in
    record {
      each = length-map (numbers s.class i.name (body_in s i) at) (bit y) ∙ numbers_count s.class i.name (body_in s i) at ∙ ap bits_count b;
      inner = λ q x z. absurd cc;
      shows = map-then (λ (x : Shown). val x.expr (local s y i at)) (λ (o : Name). record { pin = o; expr = variable 1 }) (cell_outputs c)
          ∙ one_of (cell_outputs c) (bit (local s y i at) 1) fits.0 ∙ ap (λ v. v ∷ []) (one ∙ first) ∙ sym h ∙ outs_agree s i at y w c g;
    }
holds s i at y w t c (other m) g is h held inner =
    let fits : FitsPins c (other m) = subst (FitsPins c) is g.fits in
    let settled : Settles m (t i.name) (pin_bits (seen_net s) w.classes i.name (inputs m)) (local s y i at) = subst (λ (v : List Bool). Settles m (t i.name) (pin_bits (seen_net s) w.classes i.name (inputs m)) v) inner h.0 in
    machine_holds c m (pin_bits (seen_net s) w.classes i.name (inputs m)) (t i.name) (local s y i at) (pins_shown s y i) fits.1 settled
    (sym (outs_agree s i at y w c g) ∙ sym (ap (pin_bits (seen_net s) w.classes i.name) (machine_outputs c m fits.0)) ∙ h.1 ∙ ap (outs m) inner)
holds s i at y w t c opaque g is h held inner = absurd (g.known is)

-- ---- what is loaded

-- what the bits of an instance are after the clock's rise
abbrev pub loads_next : List Bool → List Bool → ℕ → List Load → List Bool
loads_next v y k [] = []
loads_next v y k (l ∷ ls) = cond (val l.enable v) (val l.next v) (bit y k) ∷ loads_next v y (k + 1) ls

pub stored_next : (class : Terminal → ℕ) (name : List ℕ) (b : Body) (at : ℕ) (y : List Bool) (k : ℕ) (ls : List Load) → ((l : Load) → In l ls → IsOver l.next (bits_count b) × IsOver l.enable (bits_count b))
    → map (λ (r : NumberedStorage). cond (val r.enable y) (val r.next y) (bit y r.bit)) (stored_from (numbers class name b at) k ls) ≡ loads_next (map (bit y) (numbers class name b at)) y k ls
stored_next class name b at y k [] over = refl
stored_next class name b at y k (l ∷ ls) over =
    let o = over l here in
    ap (λ p. cond p (val (renumbered (numbers class name b at) l.next) y) (bit y k) ∷ map (λ (r : NumberedStorage). cond (val r.enable y) (val r.next y) (bit y r.bit)) (stored_from (numbers class name b at) (k + 1) ls)) (value_here class name b at y l.enable o.1)
    ∙ ap (λ p. cond (val l.enable (map (bit y) (numbers class name b at))) p (bit y k) ∷ map (λ (r : NumberedStorage). cond (val r.enable y) (val r.next y) (bit y r.bit)) (stored_from (numbers class name b at) (k + 1) ls)) (value_here class name b at y l.next o.0)
    ∙ ap (λ ps. cond (val l.enable (map (bit y) (numbers class name b at))) (val l.next (map (bit y) (numbers class name b at))) (bit y k) ∷ ps) (stored_next class name b at y (k + 1) ls (λ x j. over x (there j)))

registers_next : (m : Machine) (v y : List Bool) (k : ℕ) (rs : List Register) → map (λ (r : Register). value_at m.vars v r.name) rs ≡ map (bit y) (rising k (length rs))
    → loads_next v y k (map (λ (r : Register). record { next = r.next; enable = r.enable }) rs) ≡ map (λ (r : Register). cond (val r.enable v) (val r.next v) (value_at m.vars v r.name)) rs
registers_next m v y k [] e = refl
registers_next m v y k (r ∷ rs) e =
    let first : value_at m.vars v r.name ≡ bit y k = ap (λ (bs : List Bool). bit bs 0) e in
    let rest = ap (drop 1) e in
    ap (λ b. cond (val r.enable v) (val r.next v) b ∷ loads_next v y (k + 1) (map (λ (r : Register). record { next = r.next; enable = r.enable }) rs)) (sym first)
    ∙ ap (λ bs. cond (val r.enable v) (val r.next v) (value_at m.vars v r.name) ∷ bs) (registers_next m v y (k + 1) rs rest)

pub loads : (s : Scene) (i : Instance) (at : ℕ) (y : List Bool) (w : Valuation) (c : Cell) (f : Function) → Stage s i at y w c → c.function ≡ f
    → BodyHolds (body_of c f) (local s y i at) (pins_shown s y i) → IsLocal f (local s y i at) (w.inner i.name)
    → loads_next (local s y i at) y at (body_of c f).loads ≡ held_in f (loaded (seen_net s) w i.name f)
loads s i at y w c (gate e) g is h inner = refl
loads s i at y w c (flip_flop d k) g is h inner =
    let b = body_here s i at y w c g ∙ ap (body_of c) is in
    let zero_bit : bit (local s y i at) 0 ≡ bit y (s.class (pin_of i.name d)) = ap (λ (x : Body). bit (map (bit y) (numbers s.class i.name x at)) 0) b in
    let there_is : In d (body_in s i).reads = subst (λ (x : Body). In d x.reads) (sym b) here in
    ap (λ x. x ∷ []) (zero_bit ∙ sym (g.agree (s.class (pin_of i.name d)) (g.low d there_is)))
loads s i at y w c (other m) g is h inner =
    let b = body_here s i at y w c g ∙ ap (body_of c) is in
    let fits : FitsPins c (other m) = subst (FitsPins c) is g.fits in
    let ins = map (bit y) (map (λ (pin : Name). s.class (pin_of i.name pin)) (inputs m)) in
    let rest = map (bit y) (rising (at + length (body_of c (other m)).loads) (length (body_of c (other m)).inner)) in
    let held = map (bit y) (rising at (length (body_of c (other m)).loads)) in
    let three : local s y i at ≡ ins ++ (held ++ rest) =
    local_three s y i at ∙ ap (λ (x : Body). map (bit y) (map (λ (pin : Name). s.class (pin_of i.name pin)) x.reads) ++ (map (bit y) (rising at (length x.loads)) ++ map (bit y) (rising (at + length x.loads) (length x.inner)))) b in
    let n : length (body_of c (other m)).loads ≡ length m.registers = length-map m.registers (λ (r : Register). record { next = r.next; enable = r.enable }) in
    let each : length (local s y i at) ≡ length m.vars = h.each ∙ machine_bits c m fits.1 in
    let regs : values_at m.vars (local s y i at) (register_names m) ≡ held =
    (machine_registers m ins held rest (local s y i at) fits.1 each three
    (length-map (map (λ (pin : Name). s.class (pin_of i.name pin)) (inputs m)) (bit y) ∙ length-map (inputs m) (λ (pin : Name). s.class (pin_of i.name pin)))
    (length-map (rising at (length (body_of c (other m)).loads)) (bit y) ∙ rising_count at (length (body_of c (other m)).loads) ∙ n ∙ sym (length-map m.registers (λ (r : Register). r.name)))).1 in
    let by_name : map (λ (r : Register). value_at m.vars (local s y i at) r.name) m.registers ≡ map (bit y) (rising at (length m.registers)) =
    sym (map-then (value_at m.vars (local s y i at)) (λ (r : Register). r.name) m.registers) ∙ regs ∙ ap (λ k. map (bit y) (rising at k)) n in
    registers_next m (local s y i at) y at m.registers by_name
    ∙ ap (next m) (sym inner)
    ∙ sym (held_itself m (next m (w.inner i.name)) (length-map m.registers (λ (r : Register). cond (val r.enable (w.inner i.name)) (val r.next (w.inner i.name)) (value_at m.vars (w.inner i.name) r.name))))
loads s i at y w c opaque g is h inner = refl
