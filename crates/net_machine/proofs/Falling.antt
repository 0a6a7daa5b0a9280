-- The bits of a netlist whose classes have ranks fall: none depends on itself.
use Rattle.std.proofs.Common.{◌≡◌, ◌⊎◌, inl, inr, ℕ, zero, suc, ◌+◌, ◌-◌, ◌<◌, ◌≤◌, Bool, true, false, cond, ◌&&◌, List, [], ◌∷◌, ◌++◌, map, length, get_or, nat_eq, None, Some, refl, sym, ap, ◌∙◌, subst, arith}
use Rattle.std.specs.Prelude.{slice_index, slice_get, nat_lt}
use Rattle.std.proofs.lemmas.List.{length-map, get_or-map}
use Rattle.std.proofs.lemmas.Option.{slice_get_within}
use Rattle.std.proofs.lemmas.Bool.{cases_lt, eqb-true, eq-eqb}
use Rattle.vlsi_base.specs.declared.name.Name.{Name}
use Rattle.vlsi_base.specs.declared.name.Port.{Port}
use Rattle.vlsi_base.specs.declared.name.Dir.{Dir}
use Rattle.vlsi_base.specs.declared.name.Dir.TheVariants as dir
use Rattle.vlsi_base.specs.declared.name.Terminal.{Terminal}
use Rattle.vlsi_base.specs.Range.{rising}
use Rattle.vlsi_base.specs.Member.{In, here, there, Picks, done, takes, skips}
use Rattle.bool_expr.specs.Expression.{Expression, constant, variable, variables, IsOver}
use Rattle.bool_expr.specs.Renumbering.{renumbered}
use Rattle.machine_core.specs.Machine.{is_input}
use Rattle.machine_core.proofs.Values.{In-split, In-left, In-right}
use Rattle.machine_core.proofs.Known.{IsOver-In}
use Rattle.source_bits.specs.Driven.{Numbered}
use Rattle.vlsi_model.proofs.Members.{In-cases, In-map_back}
use Rattle.vlsi_model.proofs.Sorting.{In-at}
use Rattle.cell_model.specs.Cell.{Cell}
use Rattle.cell_pins.specs.Follows.{DependsAtOnce}
use Rattle.cell_pins.specs.Pins.{all_ports}
use Rattle.cell_pins.specs.Table.{first_places, DependsAt, IsPinOf as IsTablePin}
use Rattle.cell_pins.proofs.Sound.{pin_at as pin_at_place}
use Rattle.net_core.specs.declared.tally.Role.{Role}
use Rattle.net_core.specs.declared.pins.ModelPin.{ModelPin}
use Rattle.net_core.specs.Places.{Stands}
use Rattle.net_core.specs.Netlist.{Instance, port, pin_of, HasClass}
use Rattle.net_core.specs.Checks.{pins_named, port_role, pin_role, DependsOn}
use Rattle.bit_machine.specs.System.{Falls}
use Rattle.net_machine.specs.Body.{Shown, Body, body_of, body_at, width}
use Rattle.net_machine.specs.Bits.{is_signal, fixed_bit, own_of, port_driven, class_of_port, classes_driven, numbers, inner_from, shown_from, body_driven}
use Rattle.net_machine.specs.Gathered.{bits_count}
use Rattle.net_machine.proofs.Drivers.{In_there, IsAt, a_port, a_pin, is_driver, some_driver, there_In}
use Rattle.net_machine.proofs.Bodies.{All_is, IsPin, reads_pin, shows_pin}
use Rattle.net_machine.proofs.Cells.{pin_at, signal_in, fine_over, sound_of}
use Rattle.net_machine.proofs.Scenes.{Scene, has_class, class_low, once, input_driver, output_driver, Member, member, shown_output}
use Rattle.net_machine.proofs.Blocks.{all_driven, body_in, shown_low}
use Rattle.net_machine.proofs.Whole.{system, first}
use Rattle.net_machine.proofs.Places.{Place, first as at_first, next as at_next, placed_in, place_low, driven_by}
use Rattle.net_machine.proofs.Settling.{inner_place}
use Rattle.net_machine.proofs.Stepping.{port_driven_by, port_class_by, port_low, read_low}
use Rattle.net_machine.proofs.Levels.{lt_true, lt_false, body_levels, start_levels, start_count, levels_rise, read_level, inner_below, shown_level, variables_renumbered, num_left, num_right}

-- ---- numbers of steps

abbrev raised : ℕ → ℕ → ℕ
raised step zero = 0
raised step (suc n) = step + raised step n

raised_more : (step a b : ℕ) → a ≤ b → raised step a ≤ raised step b
raised_more step zero b l = omega arith
raised_more step (suc a) zero l = absurd (omega (arith, l))
raised_more step (suc a) (suc b) l = let r = raised_more step a b (omega (arith, l)) in omega (arith, r)

-- ---- ranks of classes

-- the class of an input port
abbrev pub is_fed : (Terminal → ℕ) → List Port → ℕ → Bool
is_fed class [] x = false
is_fed class (p ∷ ps) x = cond (is_input p.dir && nat_eq (class (port p.name)) x) true (is_fed class ps x)

pub fed : (class : Terminal → ℕ) (ps : List Port) (x : ℕ) → is_fed class ps x ≡ true → (p : Port) × In p ps × (p.dir ≡ dir.In) × (class (port p.name) ≡ x)
fed class [] x e = absurd cc
fed class (p ∷ ps) x e = by p.dir (nat_eq (class (port p.name)) x) refl refl e (fed class ps x) where
  by : (d : Dir) (b : Bool) → p.dir ≡ d → nat_eq (class (port p.name)) x ≡ b → cond (is_input d && b) true (is_fed class ps x) ≡ true
      → (is_fed class ps x ≡ true → (q : Port) × In q ps × (q.dir ≡ dir.In) × (class (port q.name) ≡ x)) → (q : Port) × In q (p ∷ ps) × (q.dir ≡ dir.In) × (class (port q.name) ≡ x)
  by dir.In true f g h rest = (p, here, f, eqb-true (class (port p.name)) x g)
  by dir.In false f g h rest = let r = rest h in (r.0, there r.1, r.2, r.3)
  by dir.Out b f g h rest = let r = rest h in (r.0, there r.1, r.2, r.3)

pub feeds : (class : Terminal → ℕ) (ps : List Port) (p : Port) → In p ps → p.dir ≡ dir.In → is_fed class ps (class (port p.name)) ≡ true
feeds class (q ∷ ps) p i d = by (In-cases p q ps i) (λ h. feeds class ps p h d) where
  right : (b : Bool) → cond b true true ≡ true
  right true = refl
  right false = refl

  by : (q ≡ p) ⊎ In p ps → (In p ps → is_fed class ps (class (port p.name)) ≡ true) → cond (is_input q.dir && nat_eq (class (port q.name)) (class (port p.name))) true (is_fed class ps (class (port p.name))) ≡ true
  by (inl e) rest =
      let a : is_input q.dir ≡ true = ap (λ (x : Port). is_input x.dir) e ∙ ap is_input d in
      let b : nat_eq (class (port q.name)) (class (port p.name)) ≡ true = eq-eqb (class (port q.name)) (class (port p.name)) (ap (λ (x : Port). class (port x.name)) e) in
      ap (λ t. cond (t && nat_eq (class (port q.name)) (class (port p.name))) true (is_fed class ps (class (port p.name)))) a
      ∙ ap (λ t. cond t true (is_fed class ps (class (port p.name)))) b
  by (inr h) rest =
      ap (λ t. cond (is_input q.dir && nat_eq (class (port q.name)) (class (port p.name))) true t) (rest h)
      ∙ right (is_input q.dir && nat_eq (class (port q.name)) (class (port p.name)))
feeds class [] p i d = elim i [ ]

-- more than the bits of any instance
abbrev limit : Scene → List Instance → ℕ
limit s [] = 2
limit s (i ∷ is) = bits_count (body_in s i) + limit s is

limit_over : (s : Scene) (is : List Instance) (i : Instance) → In i is → bits_count (body_in s i) + 2 ≤ limit s is
limit_over s (k ∷ is) i here = let r = limit_two s is in omega (arith, r) where
  limit_two : (s : Scene) (is : List Instance) → 2 ≤ limit s is
  limit_two s [] = omega arith
  limit_two s (k ∷ is) = let r = limit_two s is in omega (arith, r)
limit_over s (k ∷ is) i (there j) = let r = limit_over s is i j in omega (arith, r)
limit_over s [] i j = elim j [ ]

-- the ranks of the ports' bits: that of an output is the highest
abbrev port_rank : ℕ → ℕ → List Port → ℕ → ℕ
port_rank top k [] x = 0
port_rank top k (p ∷ ps) x = cond (nat_eq k x) (cond (is_input p.dir) 0 top) (port_rank top (k + 1) ps x)

port_rank_at : (top k : ℕ) (ps : List Port) (j : ℕ) (p : Port) → j < length ps → get_or ps j p ≡ p → port_rank top k ps (k + j) ≡ cond (is_input p.dir) 0 top
port_rank_at top k [] j p l e = absurd (omega (arith, l))
port_rank_at top k (q ∷ ps) zero p l e =
    let t : nat_eq k (k + 0) ≡ true = eq-eqb k (k + 0) (omega arith) in
    ap (λ b. cond b (cond (is_input q.dir) 0 top) (port_rank top (k + 1) ps (k + 0))) t ∙ ap (λ (x : Port). cond (is_input x.dir) 0 top) e
port_rank_at top k (q ∷ ps) (suc j) p l e =
    let z : k + suc j ≡ k + 1 + j = omega arith in
    ap (λ b. cond b (cond (is_input q.dir) 0 top) (port_rank top (k + 1) ps (k + suc j))) (apart (nat_eq k (k + suc j)) refl)
    ∙ ap (port_rank top (k + 1) ps) z ∙ port_rank_at top (k + 1) ps j p (omega (arith, l)) e where
      apart : (b : Bool) → nat_eq k (k + suc j) ≡ b → b ≡ false
      apart false f = refl
      apart true f = let same = eqb-true k (k + suc j) f in absurd (omega (arith, same))

picked_in : {A : Type 0} (P : A → Type 0) (xs ys : List A) (x : A) → Picks P xs ys → In x xs → P x → In x ys
picked_in {A} P _ _ x done i h = absurd (elim i [ ])
picked_in {A} P _ _ x (takes {x = z} {xs = xs} {ys = ys} p more) i h = elim (In-cases x z xs i) [
  | inl e ↦ subst (λ (v : A). In v (z ∷ ys)) e here
  | inr j ↦ there (picked_in P xs ys x more j h)
]
picked_in {A} P _ _ x (skips {x = z} {xs = xs} {ys = ys} p more) i h = elim (In-cases x z xs i) [
  | inl e ↦ absurd (p (subst P (sym e) h))
  | inr j ↦ picked_in P xs ys x more j h
]

first_places_in : (n k : ℕ) → k < n → In k (first_places n)
first_places_in zero k l = absurd (omega (arith, l))
first_places_in (suc n) k l = by (cases_lt k n) (first_places_in n k) where
  by : (k < n) ⊎ (n ≤ k) → (k < n → In k (first_places n)) → In k (first_places n ++ n ∷ [])
  by (inl m) rest = In-left k (first_places n) (n ∷ []) (rest m)
  by (inr m) rest = let e : n ≡ k = omega (arith, l, m) in In-right k (first_places n) (n ∷ []) (subst (λ j. In j (n ∷ [])) e here)

num_rising : (k n j : ℕ) → j < n → slice_index (rising k n) j ≡ k + j
num_rising k zero j l = absurd (omega (arith, l))
num_rising k (suc n) zero l = omega arith
num_rising k (suc n) (suc j) l = let r = num_rising (k + 1) n j (omega (arith, l)) in omega (arith, r)

-- A number for each class, above those of the output pins' classes on which its output pin depends at once.
pub record ClassRanks (s : Scene) : Type 0 where
  pub rank : ℕ → ℕ
  pub top : ℕ
  pub low : (c : ℕ) → c < s.n.count → rank c < top
  pub falls : (a b : Terminal) (c d : ℕ) → DependsOn s.table s.n a b → HasClass s.n a c → HasClass s.n b d → rank d < rank c

module _ (s : Scene) (ranks : ClassRanks s) where
  abbrev class_rank : ℕ → ℕ
  class_rank x = cond (is_fed s.class s.n.ports x) 1 (suc (raised (limit s s.n.instances) (suc (ranks.rank x))))

  abbrev top : ℕ
  top = suc (suc (raised (limit s s.n.instances) ranks.top))

  abbrev pin_rank : Instance → Name → ℕ
  pin_rank i pin = class_rank (s.class (pin_of i.name pin))

  abbrev levels : Instance → List ℕ
  levels i = body_levels (pin_rank i) (body_in s i)

  abbrev own_rank : ℕ → List Instance → ℕ → ℕ
  own_rank base [] x = 0
  own_rank base (i ∷ is) x = cond (nat_lt x (base + width (body_in s i))) (slice_index (levels i) (length (body_in s i).reads + (x - base))) (own_rank (base + width (body_in s i)) is x)

  abbrev rank : ℕ → ℕ
  rank x = cond (nat_lt x s.n.count) (class_rank x) (cond (nat_lt x (first s)) (port_rank top s.n.count s.n.ports x) (own_rank (first s) s.n.instances x))

  rank_of_class : (x : ℕ) → x < s.n.count → rank x ≡ class_rank x
  rank_of_class x l = ap (λ b. cond b (class_rank x) (cond (nat_lt x (first s)) (port_rank top s.n.count s.n.ports x) (own_rank (first s) s.n.instances x))) (lt_true x s.n.count l)

  rank_of_port : (j : ℕ) (p : Port) → j < length s.n.ports → get_or s.n.ports j p ≡ p → rank (s.n.count + j) ≡ cond (is_input p.dir) 0 top
  rank_of_port j p l e =
      let x = s.n.count + j in
      ap (λ b. cond b (class_rank x) (cond (nat_lt x (first s)) (port_rank top s.n.count s.n.ports x) (own_rank (first s) s.n.instances x))) (lt_false (s.n.count + j) s.n.count (omega arith))
      ∙ ap (λ b. cond b (port_rank top s.n.count s.n.ports x) (own_rank (first s) s.n.instances x)) (lt_true (s.n.count + j) (first s) (omega (arith, l)))
      ∙ port_rank_at top s.n.count s.n.ports j p l e

  own_rank_at : (base : ℕ) (is : List Instance) (i : Instance) (at : ℕ) → Place s base is i at → (j : ℕ) → j < width (body_in s i) → own_rank base is (at + j) ≡ slice_index (levels i) (length (body_in s i).reads + j)
  own_rank_at base _ i _ (at_first {is = is}) j l =
      let z : base + j - base ≡ j = omega arith in
      ap (λ b. cond b (slice_index (levels i) (length (body_in s i).reads + (base + j - base))) (own_rank (base + width (body_in s i)) is (base + j))) (lt_true (base + j) (base + width (body_in s i)) (omega (arith, l)))
      ∙ ap (λ k. slice_index (levels i) (length (body_in s i).reads + k)) z
  own_rank_at base _ i at (at_next {k = k} {is = is} p) j l =
      let low = (place_low s (base + width (body_in s k)) is i at p).0 in
      ap (λ b. cond b (slice_index (levels k) (length (body_in s k).reads + (at + j - base))) (own_rank (base + width (body_in s k)) is (at + j))) (lt_false (at + j) (base + width (body_in s k)) (omega (arith, low)))
      ∙ own_rank_at (base + width (body_in s k)) is i at p j l

  rank_of_own : (i : Instance) (at : ℕ) → Place s (first s) s.n.instances i at → (j : ℕ) → j < width (body_in s i) → rank (at + j) ≡ slice_index (levels i) (length (body_in s i).reads + j)
  rank_of_own i at p j l =
      let low = (place_low s (first s) s.n.instances i at p).0 in
      let x = at + j in
      ap (λ b. cond b (class_rank x) (cond (nat_lt x (first s)) (port_rank top s.n.count s.n.ports x) (own_rank (first s) s.n.instances x))) (lt_false (at + j) s.n.count (omega (arith, low)))
      ∙ ap (λ b. cond b (port_rank top s.n.count s.n.ports x) (own_rank (first s) s.n.instances x)) (lt_false (at + j) (first s) (omega (arith, low)))
      ∙ own_rank_at (first s) s.n.instances i at p j l

  -- the rank of each bit of a body is its level
  rank_of_number : (i : Instance) (at : ℕ) → Place s (first s) s.n.instances i at → (k : ℕ) → k < bits_count (body_in s i)
      → rank (slice_index (numbers s.class i.name (body_in s i) at) k) ≡ slice_index (levels i) k
  rank_of_number i at p k l = by (cases_lt k (length (body_in s i).reads)) where
    b : Body
    b = body_in s i

    no_name : Name
    no_name = record { text = []; bit = None }

    pins : List ℕ
    pins = map (λ (pin : Name). s.class (pin_of i.name pin)) (body_in s i).reads

    count : length (map (λ (pin : Name). s.class (pin_of i.name pin)) (body_in s i).reads) ≡ length (body_in s i).reads
    count = length-map (body_in s i).reads (λ (pin : Name). s.class (pin_of i.name pin))

    by : (k < length (body_in s i).reads) ⊎ (length (body_in s i).reads ≤ k) → rank (slice_index (numbers s.class i.name (body_in s i) at) k) ≡ slice_index (levels i) k
    by (inl low) =
        let pin = get_or (body_in s i).reads k no_name in
        let j : In pin (body_in s i).reads = In-at (body_in s i).reads k no_name low in
        let e : slice_index (numbers s.class i.name (body_in s i) at) k ≡ s.class (pin_of i.name pin) =
        num_left pins (rising at (width (body_in s i))) k (omega (arith, low, count)) ∙ get_or-map (λ (pin : Name). s.class (pin_of i.name pin)) (body_in s i).reads k no_name 0 low in
        ap rank e ∙ rank_of_class (s.class (pin_of i.name pin)) (read_low s i (placed_in s (first s) s.n.instances i at p) pin j) ∙ sym (read_level (pin_rank i) (body_in s i) k no_name low)
    by (inr high) =
        let j = k - length (body_in s i).reads in
        let z : k ≡ length pins + (k - length (body_in s i).reads) = omega (arith, high, count) in
        let less : k - length (body_in s i).reads < width (body_in s i) = omega (arith, l, high) in
        let e : slice_index (numbers s.class i.name (body_in s i) at) k ≡ at + (k - length (body_in s i).reads) =
        ap (slice_index (numbers s.class i.name (body_in s i) at)) z ∙ num_right pins (rising at (width (body_in s i))) (k - length (body_in s i).reads)
        ∙ num_rising at (width (body_in s i)) (k - length (body_in s i).reads) less in
        let back : length (body_in s i).reads + (k - length (body_in s i).reads) ≡ k = omega (arith, high) in
        ap rank e ∙ rank_of_own i at p (k - length (body_in s i).reads) less ∙ ap (slice_index (levels i)) back

  class_rank_low : (x : ℕ) → x < s.n.count → class_rank x < top
  class_rank_low x l = by (is_fed s.class s.n.ports x) where
    by : (b : Bool) → cond b 1 (suc (raised (limit s s.n.instances) (suc (ranks.rank x)))) < top
    by true = omega arith
    by false =
        let w = ranks.low x l in
        let r = raised_more (limit s s.n.instances) (suc (ranks.rank x)) ranks.top (omega (arith, w)) in
        omega (arith, r)

  -- an output pin's class has no input port
  not_fed : (i : Instance) (m : Member s i) (x : Shown) → In x (body_in s i).shows → is_fed s.class s.n.ports (s.class (pin_of i.name x.pin)) ≡ false
  not_fed i m x j = by (is_fed s.class s.n.ports (s.class (pin_of i.name x.pin))) refl where
    by : (b : Bool) → is_fed s.class s.n.ports (s.class (pin_of i.name x.pin)) ≡ b → b ≡ false
    by false e = refl
    by true e =
        let f = fed s.class s.n.ports (s.class (pin_of i.name x.pin)) e in
        let o = shown_output s i m x j in
        let same : port f.0.name ≡ pin_of i.name x.pin =
        once s (port f.0.name) (pin_of i.name x.pin) (port_role f.0) (pin_role o.q) (a_port f.0 f.1) o.at (input_driver f.0 f.2) (output_driver o.q o.gives) f.3 in
        let no : None ≡ Some i.name = ap (λ (t : Terminal). t.instance) same in absurd cc

  -- a pin on which an output pin depends at once
  pub followed_low : (i : Instance) (m : Member s i) (x : Shown) → In x (body_in s i).shows → IsPin m.seat.cell x.pin dir.Out → (pin : Name) → IsPin m.seat.cell pin dir.In
      → DependsAtOnce m.seat.cell.function x.pin pin → pin_rank i pin ≤ suc (raised (limit s s.n.instances) (ranks.rank (s.class (pin_of i.name x.pin))))
  followed_low i m x j po pin pi dep = by (is_fed s.class s.n.ports (s.class (pin_of i.name pin))) refl where
    c : Cell
    c = m.seat.cell

    out : (q : ModelPin) × IsAt s.table s.n (pin_of i.name po.port.name) (pin_role q) × IsTablePin c.function (all_ports c) po.port q × In q (pins_named s.table i.model)
    out = pin_at s.n s.l s.table i m.seat m.listed po.port (signal_in c m.seat.formed po.port po.listed)

    place_in : (k : ℕ) × Stands (all_ports c) k pi.port
    place_in = In_there (all_ports c) pi.port (signal_in c m.seat.formed pi.port pi.listed)

    input : (q : ModelPin) × (slice_get (pins_named s.table i.model) place_in.0 ≡ Some q) × IsTablePin c.function (all_ports c) pi.port q
    input = pin_at_place c.function (all_ports c) (all_ports c) (pins_named s.table i.model) place_in.0 pi.port m.seat.pins place_in.1

    depends : In place_in.0 out.0.depends_on
    depends =
        picked_in (DependsAt c.function (all_ports c) po.port) (first_places (length (all_ports c))) out.0.depends_on place_in.0 out.2.depends
        (first_places_in (length (all_ports c)) place_in.0 (slice_get_within (all_ports c) place_in.0 pi.port place_in.1))
        (pi.port, place_in.1, (po.dir_is, pi.dir_is, subst (λ (n : Name). DependsAtOnce c.function n pi.port.name) (sym po.name_is) (subst (λ (n : Name). DependsAtOnce c.function x.pin n) (sym pi.name_is) dep)))

    in_name : input.0.name ≡ pin
    in_name = input.2.name ∙ pi.name_is

    out_name : out.0.name ≡ x.pin
    out_name = out.2.name ∙ po.name_is

    in_at : IsAt s.table s.n (pin_of i.name pin) (pin_role input.0)
    in_at = subst (λ (n : Name). IsAt s.table s.n (pin_of i.name n) (pin_role input.0)) in_name (a_pin i input.0 m.listed (there_In (pins_named s.table i.model) place_in.0 input.0 input.1))

    out_at : IsAt s.table s.n (pin_of i.name x.pin) (pin_role out.0)
    out_at = subst (λ (n : Name). IsAt s.table s.n (pin_of i.name n) (pin_role out.0)) po.name_is out.1

    low : s.class (pin_of i.name pin) < s.n.count
    low = class_low s (pin_of i.name pin) (pin_role input.0) in_at

    -- the driver of the class is an output pin
    behind : (t : Terminal) (r : Role) → IsAt s.table s.n t r → HasClass s.n t (s.class (pin_of i.name pin)) → 1 ≤ is_driver r → is_fed s.class s.n.ports (s.class (pin_of i.name pin)) ≡ false
        → ranks.rank (s.class (pin_of i.name pin)) < ranks.rank (s.class (pin_of i.name x.pin))
    behind _ _ (a_port p l) has one unfed = of_dir p.dir refl where
      of_dir : (d : Dir) → p.dir ≡ d → ranks.rank (s.class (pin_of i.name pin)) < ranks.rank (s.class (pin_of i.name x.pin))
      of_dir dir.In e =
          let at : s.class (port p.name) ≡ s.class (pin_of i.name pin) = s.classes.each (port p.name) (s.class (pin_of i.name pin)) has in
          let fed_is : is_fed s.class s.n.ports (s.class (pin_of i.name pin)) ≡ true = subst (λ k. is_fed s.class s.n.ports k ≡ true) at (feeds s.class s.n.ports p l e) in
          let clash : true ≡ false = sym fed_is ∙ unfed in absurd cc
      of_dir dir.Out e = absurd (let z : is_driver (port_role p) ≡ 0 = rw e refl in omega (arith, one, z))
    behind _ _ (a_pin k q l g) has one unfed = of_dir q.dir q.is_clock refl refl where
      of_dir : (d : Dir) (b : Bool) → q.dir ≡ d → q.is_clock ≡ b → ranks.rank (s.class (pin_of i.name pin)) < ranks.rank (s.class (pin_of i.name x.pin))
      of_dir dir.In true e f = absurd (let z : is_driver (pin_role q) ≡ 0 = rw (e, f) refl in omega (arith, one, z))
      of_dir dir.In false e f = absurd (let z : is_driver (pin_role q) ≡ 0 = rw (e, f) refl in omega (arith, one, z))
      of_dir dir.Out b e f =
          ranks.falls (pin_of i.name x.pin) (pin_of k.name q.name) (s.class (pin_of i.name x.pin)) (s.class (pin_of i.name pin))
          (record {
            owner = i;
            output = out.0;
            is_pin = record { listed = In_there s.n.instances i m.listed; known = In_there (pins_named s.table i.model) out.0 out.3; is = ap (pin_of i.name) (sym out_name) };
            gives = out.2.dir ∙ po.dir_is;
            place = place_in.0;
            input = input.0;
            depends = In_there out.0.depends_on place_in.0 depends;
            there = input.1;
            takes = input.2.dir ∙ pi.dir_is;
            class = s.class (pin_of i.name pin);
            reads = subst (λ (n : Name). HasClass s.n (pin_of i.name n) (s.class (pin_of i.name pin))) (sym in_name) (has_class s (pin_of i.name pin) (pin_role input.0) in_at);
            other = k;
            driver = q;
            is_driver = record { listed = In_there s.n.instances k l; known = In_there (pins_named s.table k.model) q g; is = refl };
            drives = e;
            joined = has;
          })
          (has_class s (pin_of i.name x.pin) (pin_role out.0) out_at) has

    by : (b : Bool) → is_fed s.class s.n.ports (s.class (pin_of i.name pin)) ≡ b
        → cond b 1 (suc (raised (limit s s.n.instances) (suc (ranks.rank (s.class (pin_of i.name pin)))))) ≤ suc (raised (limit s s.n.instances) (ranks.rank (s.class (pin_of i.name x.pin))))
    by true e = omega arith
    by false e =
        let d = some_driver s.table s.n (sound_of s.n s.l s.table s.ground) (s.class (pin_of i.name pin)) low in
        let l = behind d.0 d.1 d.2 d.3 d.4 e in
        let r = raised_more (limit s s.n.instances) (suc (ranks.rank (s.class (pin_of i.name pin)))) (ranks.rank (s.class (pin_of i.name x.pin))) (omega (arith, l)) in
        omega (arith, r)

  -- what an inner bit reads
  inner_falls : (i : Instance) (at : ℕ) → Place s (first s) s.n.instances i at → (q : ℕ) (e : Expression) → Stands (body_in s i).inner q e → (v : ℕ) → In v (variables (renumbered (numbers s.class i.name (body_in s i) at) e))
      → rank v < rank (at + length (body_in s i).loads + q)
  inner_falls i at p q e t v j =
      let m = member s i (placed_in s (first s) s.n.instances i at p) in
      let b : body_in s i ≡ body_of m.seat.cell m.seat.cell.function = ap body_at m.seat.found in
      let w = variables_renumbered e (numbers s.class i.name (body_in s i) at) v j in
      let low = slice_get_within (body_in s i).inner q e t in
      let below : w.0 < length (body_in s i).reads + length (body_in s i).loads + q =
      subst (λ (x : Body). Stands x.inner q e → w.0 < length x.reads + length x.loads + q) (sym b) (λ t. inner_below m.seat.cell m.seat.cell.function m.seat.formed.function q e w.0 t w.1) t in
      let n = start_count (pin_rank i) (body_in s i) in
      let rise = levels_rise (start_levels (pin_rank i) (body_in s i)) (body_in s i).inner q e w.0 t w.1 (omega (arith, below, n)) in
      let a : rank v ≡ slice_index (levels i) w.0 = ap rank (sym w.2) ∙ rank_of_number i at p w.0 (omega (arith, below, low)) in
      let z : at + length (body_in s i).loads + q ≡ at + (length (body_in s i).loads + q) = omega arith in
      let y : length (body_in s i).reads + (length (body_in s i).loads + q) ≡ length (start_levels (pin_rank i) (body_in s i)) + q = omega (arith, n) in
      let c : rank (at + length (body_in s i).loads + q) ≡ slice_index (levels i) (length (start_levels (pin_rank i) (body_in s i)) + q) =
      ap rank z ∙ rank_of_own i at p (length (body_in s i).loads + q) (omega (arith, low)) ∙ ap (slice_index (levels i)) y in
      omega (arith, rise, a, c)

  -- what the class of an output pin reads
  shown_falls : (i : Instance) (at : ℕ) → Place s (first s) s.n.instances i at → (x : Shown) → In x (body_in s i).shows → (v : ℕ) → In v (variables (renumbered (numbers s.class i.name (body_in s i) at) x.expr))
      → rank v < rank (s.class (pin_of i.name x.pin))
  shown_falls i at p x j v g =
      let li = placed_in s (first s) s.n.instances i at p in
      let m = member s i li in
      let c = m.seat.cell in
      let b : body_in s i ≡ body_of m.seat.cell m.seat.cell.function = ap body_at m.seat.found in
      let w = variables_renumbered x.expr (numbers s.class i.name (body_in s i) at) v g in
      let over : IsOver x.expr (bits_count (body_in s i)) = All_is (λ (y : Shown). IsOver y.expr (bits_count (body_in s i))) (body_in s i).shows (fine_over s.n s.l s.table s.ground i li).shows x j in
      let inside = IsOver-In x.expr (bits_count (body_in s i)) over w.0 w.1 in
      let jc : In x (body_of m.seat.cell m.seat.cell.function).shows = subst (λ (y : Body). In x y.shows) b j in
      let po = shows_pin m.seat.cell m.seat.cell.function m.seat.formed.function x jc in
      let r = suc (raised (limit s s.n.instances) (ranks.rank (s.class (pin_of i.name x.pin)))) in
      let level = shown_level m.seat.cell (pin_rank i) m.seat.formed.signals m.seat.cell.function m.seat.formed.function x jc r
      (λ pin k dep. followed_low i m x j po pin (reads_pin m.seat.cell m.seat.cell.function m.seat.formed.function pin k) dep) w.0 w.1 in
      let here_level : slice_index (levels i) w.0 ≤ r + w.0 + 1 = subst (λ (y : Body). slice_index (body_levels (pin_rank i) y) w.0 ≤ r + w.0 + 1) (sym b) level in
      let a : rank v ≡ slice_index (levels i) w.0 = ap rank (sym w.2) ∙ rank_of_number i at p w.0 inside in
      let o : rank (s.class (pin_of i.name x.pin)) ≡ suc (raised (limit s s.n.instances) (suc (ranks.rank (s.class (pin_of i.name x.pin))))) =
      rank_of_class (s.class (pin_of i.name x.pin)) (shown_low s i li x j)
      ∙ ap (λ t. cond t 1 (suc (raised (limit s s.n.instances) (suc (ranks.rank (s.class (pin_of i.name x.pin))))))) (not_fed i m x j) in
      let many = limit_over s s.n.instances i li in
      omega (arith, here_level, a, o, many, inside)

  only : (v w : ℕ) → In v (w ∷ []) → w ≡ v
  only v w i = elim (In-cases v w [] i) [ inl e ↦ e | inr g ↦ absurd (elim g [ ]) ]

  reads_lower : (d : Numbered) → In d (system s).driven → (v : ℕ) → In v (variables d.expr) → rank v < rank d.bit
  reads_lower d a v j = elim (In-split d (port_driven s.class s.clock s.n.count s.n.ports) (classes_driven s.class s.n.count s.n.ports ++ all_driven s (first s) s.n.instances) a) [
    | inl b ↦ let r = port_driven_by s s.n.count s.n.ports d b in own r.0 r.1 r.2 r.3 r.1.dir refl r.4
    | inr b ↦ elim (In-split d (classes_driven s.class s.n.count s.n.ports) (all_driven s (first s) s.n.instances) b) [
      | inl c ↦ let r = port_class_by s s.n.count s.n.ports d c in class r.0 r.1 r.2 r.3 r.1.dir refl r.4
      | inr c ↦ let r = driven_by s (first s) s.n.instances d c in body r.i r.at r.place r.among
    ]
  ] where
    Lower : Numbered → Type 0
    Lower x = In v (variables x.expr) → rank v < rank x.bit

    one : (x : Numbered) → (In v (variables x.expr) → rank v < rank x.bit) → In d (x ∷ []) → rank v < rank d.bit
    one x f i = elim (In-cases d x [] i) [ inl same ↦ subst Lower same f j | inr g ↦ absurd (elim g [ ]) ]

    listed : (k : ℕ) (p : Port) → k < length s.n.ports → get_or s.n.ports k p ≡ p → In p s.n.ports
    listed k p l e = subst (λ (x : Port). In x s.n.ports) e (In-at s.n.ports k p l)

    own : (k : ℕ) (p : Port) → k < length s.n.ports → get_or s.n.ports k p ≡ p → (e : Dir) → p.dir ≡ e → In d (own_of s.class s.clock (s.n.count + k) p e) → rank v < rank d.bit
    own k p l e dir.Out f b =
        one (record { bit = s.n.count + k; expr = variable (s.class (port p.name)) })
        (λ i.
        let same = only v (s.class (port p.name)) i in
        let low = port_low s p (listed k p l e) in
        let x : rank v ≡ class_rank (s.class (port p.name)) = ap rank (sym same) ∙ rank_of_class (s.class (port p.name)) low in
        let y = class_rank_low (s.class (port p.name)) low in
        let z : rank (s.n.count + k) ≡ top = rank_of_port k p l e ∙ ap (λ (t : Dir). cond (is_input t) 0 top) f in
        omega (arith, x, y, z)) b
    own k p l e dir.In f b = fixed (is_signal s.clock p) b where
      fixed : (z : Bool) → In d (cond z [] (record { bit = s.n.count + k; expr = constant (fixed_bit p) } ∷ [])) → rank v < rank d.bit
      fixed true b = absurd (elim b [ ])
      fixed false b = one (record { bit = s.n.count + k; expr = constant (fixed_bit p) }) (λ i. absurd (elim i [ ])) b

    class : (k : ℕ) (p : Port) → k < length s.n.ports → get_or s.n.ports k p ≡ p → (e : Dir) → p.dir ≡ e → In d (class_of_port s.class (s.n.count + k) p e) → rank v < rank d.bit
    class k p l e dir.In f b =
        one (record { bit = s.class (port p.name); expr = variable (s.n.count + k) })
        (λ i.
        let same = only v (s.n.count + k) i in
        let here_in = listed k p l e in
        let x : rank v ≡ 0 = ap rank (sym same) ∙ rank_of_port k p l e ∙ ap (λ (t : Dir). cond (is_input t) 0 top) f in
        let y : rank (s.class (port p.name)) ≡ 1 = rank_of_class (s.class (port p.name)) (port_low s p here_in)
        ∙ ap (λ t. cond t 1 (suc (raised (limit s s.n.instances) (suc (ranks.rank (s.class (port p.name))))))) (feeds s.class s.n.ports p here_in f) in
        omega (arith, x, y)) b
    class k p l e dir.Out f b = absurd (elim b [ ])

    body : (i : Instance) (at : ℕ) → Place s (first s) s.n.instances i at → In d (body_driven s.class i.name (body_in s i) at) → rank v < rank d.bit
    body i at p b = elim (In-split d (inner_from (numbers s.class i.name (body_in s i) at) (at + length (body_in s i).loads) (body_in s i).inner) (shown_from s.class i.name (numbers s.class i.name (body_in s i) at) (body_in s i).shows) b) [
      | inl c ↦
          let w = inner_place (numbers s.class i.name (body_in s i) at) (at + length (body_in s i).loads) (body_in s i).inner d c in
          subst Lower (sym w.3) (λ g. inner_falls i at p w.0 w.1 w.2 v g) j
      | inr c ↦
          let w = In-map_back (λ (y : Shown). record { bit = s.class (pin_of i.name y.pin); expr = renumbered (numbers s.class i.name (body_in s i) at) y.expr }) d (body_in s i).shows c in
          subst Lower w.2 (λ g. shown_falls i at p w.0 w.1 v g) j
    ]

  pub falls : Falls (system s).driven
  falls = record { measure = rank; falls = λ d e i k g. reads_lower d i e.bit g }
