-- What is put together is the system of a machine with other names.
use Rattle.std.proofs.Common.{◌≡◌, ℕ, zero, suc, ◌+◌, ◌-◌, ◌<◌, ◌≤◌, ◌^◌, Bool, List, [], ◌∷◌, ◌++◌, map, length, take, get_or, Option, Some, refl, sym, ap, ◌∙◌, subst, arith, append_assoc, length-append, cond}
use Rattle.std.specs.Prelude.{is_some, slice_get}
use Rattle.std.specs.List.{All, list_any}
use Rattle.std.specs.List.Sorted.{IsPermutation}
use Rattle.std.specs.FinMap.{get}
use Rattle.std.proofs.lemmas.List.{length-map, map-append}
use Rattle.vlsi_base.specs.declared.name.Name.{Name}
use Rattle.vlsi_base.specs.declared.name.Port.{Port}
use Rattle.vlsi_base.specs.NamePlaces.{NamePlaces}
use Rattle.vlsi_base.specs.Member.{In, AllDifferent}
use Rattle.vlsi_base.specs.Range.{rising}
use Rattle.machine_core.specs.Named.{is_same_name}
use Rattle.machine_core.specs.Machine.{Machine, Equation, Register, inputs, names_of, register_names}
use Rattle.machine_core.specs.declared.equation.Equation.{Equation as EquationParts}
use Rattle.machine_core.specs.declared.equation.Register.{Register as RegisterParts}
use Rattle.machine_core.specs.View.{equation_view, register_view}
use Rattle.machine_core.specs.Order.{held_names, equation_names}
use Rattle.machine_core.specs.Checked.{IsChecked, AreInOrder}
use Rattle.source_bits.specs.Driven.{Numbered, NumberedStorage}
use Rattle.vlsi_model.specs.Numbered.{name_at}
use Rattle.vlsi_model.proofs.Building.{map-then}
use Rattle.vlsi_model.proofs.Assembly.{All-from_In, In-permutation}
use Rattle.vlsi_model.proofs.Naming.{rising_more}
use Rattle.vlsi_model.proofs.Bits.{In-rising}
use Rattle.vlsi_model.proofs.Members.{In-map_back}
use Rattle.vlsi_model.proofs.Sorting.{In-at}
use Rattle.std.proofs.lemmas.List.Sorted.{IsPermutation-sym}
use Rattle.net_machine.proofs.Local.{take_front}
use Rattle.bit_machine.specs.System.{System, IsSystem, Falls, FitsPorts, IsMachineOfBits}
use Rattle.net_flat.specs.declared.renaming.Seat.{Seat}
use Rattle.net_flat.specs.Renamed.{seat_at, stored_of, driven_from, inner_name, inner_names, is_port, new_names, renamed_system, IsLongerThan, AreAllNames, AreRenamed, AreFree, IsRenamed}
use Rattle.net_flat.proofs.Bits.{Setting, system, names_count, is_system, falls, fits_ports}
use Rattle.net_flat.proofs.Lists.{names_whole}
use Rattle.net_flat.proofs.Settled.{is_renamed}

-- ---- loops

pub seats_more : (names : List Name) (k : ℕ) (name : Name) (seats : List Seat) → seats ≡ map (seat_at names) (rising 0 k) → name_at names k ≡ name
    → seats ++ record { name = name; place = k } ∷ [] ≡ map (seat_at names) (rising 0 (k + 1))
seats_more names k name seats so_far is =
    let made : Name → ℕ → Seat = λ n i. record { name = n; place = i } in
    let last : made name k ≡ seat_at names (0 + k) = ap (λ (n : Name). made n k) (sym is) ∙ (let e : k ≡ 0 + k = omega arith in ap (seat_at names) e) in
    ap (λ (xs : List Seat). xs ++ made name k ∷ []) so_far ∙ ap (λ (b : Seat). map (seat_at names) (rising 0 k) ++ b ∷ []) last
    ∙ sym (ap (map (seat_at names)) (rising_more 0 k) ∙ map-append (seat_at names) (rising 0 k) ((0 + k) ∷ []))

inner_same : (f g : Name → Bool) (text : List ℕ) (k : ℕ) (ns : List Name) → ((n : Name) → f n ≡ g n) → inner_names f text k ns ≡ inner_names g text k ns
inner_same f g text k [] same = refl
inner_same f g text k (n ∷ ns) same =
    ap (λ (b : Bool). cond b n (record { text = text; bit = Some k }) ∷ inner_names f text (k + 1) ns) (same n)
    ∙ ap (λ (rest : List Name). inner_name g text k n ∷ rest) (inner_same f g text (k + 1) ns same)

pub seats_named : (names : List Name) → map (λ (s : Seat). s.name) (map (seat_at names) (rising 0 (length names))) ≡ names
seats_named names = map-then (λ (s : Seat). s.name) (seat_at names) (rising 0 (length names)) ∙ names_whole names

-- their places are below a number
abbrev pub Lows : List Seat → ℕ → Type 0
Lows seats n = (k : ℕ) (d : Seat) → k < length seats → (get_or seats k d).place < n

pub places_low : (names : List Name) (made seats : List Seat) (n : ℕ) → made ≡ map (seat_at names) (rising 0 (length names)) → IsPermutation made seats → length names ≡ n
    → (k : ℕ) (d : Seat) → k < length seats → (get_or seats k d).place < n
places_low names made seats n e moved count k d l =
    let i = In-permutation seats made (get_or seats k d) (IsPermutation-sym made seats moved) (In-at seats k d l) in
    let r = In-map_back (seat_at names) (get_or seats k d) (rising 0 (length names)) (subst (λ (ss : List Seat). In (get_or seats k d) ss) e i) in
    let low = (In-rising 0 (length names) r.0 r.1).1 in
    subst (λ (s : Seat). s.place < n) r.2 (omega (arith, low, count))

-- ---- names

pub all_made : (m : Machine) (first names shown all : List Name) (text : List ℕ) (index : NamePlaces) (es : List EquationParts) → shown ≡ names_of m.ports → map equation_view es ≡ m.equations
    → ((n : Name) → is_some (get index n) ≡ list_any (λ p. is_same_name p n) shown) → IsLongerThan shown text → IsLongerThan names text → 3 < length text
    → all ≡ (first ++ names) ++ inner_names (λ n. is_some (get index n)) text 0 (map (λ (e : EquationParts). e.name) es) → AreAllNames m first names all
all_made m first names shown all text index es ports stated looked long held supplies is = record {
  text = text;
  shown = subst (λ (ns : List Name). IsLongerThan ns text) ports long;
  held = held;
  supplies = supplies;
  is = is ∙ append_assoc first names (inner_names (λ n. is_some (get index n)) text 0 (map (λ (e : EquationParts). e.name) es))
      ∙ ap (λ (rest : List Name). first ++ (names ++ rest))
      (inner_same (λ n. is_some (get index n)) (is_port m) text 0 (map (λ (e : EquationParts). e.name) es)
      (λ n. looked n ∙ ap (λ (ns : List Name). list_any (λ p. is_same_name p n) ns) ports)
      ∙ ap (inner_names (is_port m) text 0) (sym (map-then (λ (e : Equation). e.name) equation_view es) ∙ ap (map (λ (e : Equation). e.name)) stated));
}

-- ---- counts

pub vars_are : (m : Machine) → IsChecked m → length m.vars ≡ length (inputs m) + length m.registers + length m.equations
vars_are m checked =
    let v = ap length checked.ordered.vars in
    let a = length-append (held_names m) (equation_names m) in
    let b = length-append (inputs m) (register_names m) in
    let c = length-map m.registers (λ (r : Register). r.name) in
    let d = length-map m.equations (λ (e : Equation). e.name) in
    omega (arith, v, a, b, c, d)

pub front_is : (m : Machine) → IsChecked m → (k : ℕ) → k ≡ length (inputs m) → take k m.vars ≡ inputs m
front_is m checked k e =
    ap (take k) (checked.ordered.vars ∙ append_assoc (inputs m) (register_names m) (equation_names m)) ∙ take_front (inputs m) (register_names m ++ equation_names m) k e

-- ---- the system

abbrev put : List Name → List ℕ → List NumberedStorage → List Numbered → System
put names ins stored driven = record { names = names; inputs = ins; stored = stored; driven = driven }

-- the seats of registers, in order
pub record AreSeats (names : List Name) (seats : List Seat) : Type 0 where
  pub moved : IsPermutation (map (seat_at names) (rising 0 (length names))) seats
  pub ordered : AreInOrder (map (λ s. s.name) seats)

pub renamed_made : (m : Machine) (names : List Name) (seats : List Seat) (all : List Name) (a h : ℕ) (stored : List NumberedStorage) (driven : List Numbered) → AreSeats names seats
    → AreAllNames m (inputs m) names all → a ≡ length (inputs m) → h ≡ length (inputs m) + length m.registers → stored ≡ map (stored_of a m.registers) seats → driven ≡ driven_from h m.equations
    → AreRenamed m names (record { names = all; inputs = rising 0 a; stored = stored; driven = driven })
renamed_made m names seats all a h stored driven sorted named ea eh es ed = record {
  text = named.text;
  shown = named.shown;
  held = named.held;
  supplies = named.supplies;
  seats = seats;
  moved = sorted.moved;
  ordered = sorted.ordered;
  is = ap (λ (ns : List Name). put ns (rising 0 a) stored driven) named.is
      ∙ ap (λ (k : ℕ). put (new_names m names named.text) (rising 0 k) stored driven) ea
      ∙ ap (λ (ss : List NumberedStorage). put (new_names m names named.text) (rising 0 (length (inputs m))) ss driven) (es ∙ ap (λ (k : ℕ). map (stored_of k m.registers) seats) ea)
      ∙ ap (put (new_names m names named.text) (rising 0 (length (inputs m))) (map (stored_of (length (inputs m)) m.registers) seats)) (ed ∙ ap (λ (k : ℕ). driven_from k m.equations) eh);
}

-- ---- the machine

module _ (m : Machine) (names : List Name) (s : System) (checked : IsChecked m) (free : AreFree m names) (are : AreRenamed m names s) where
  abbrev this : Setting
  this = record { m = m; names = names; text = are.text; seats = are.seats; checked = checked; free = free; shown = are.shown; held = are.held; supplies = are.supplies; moved = are.moved; ordered = are.ordered }

  pub system_is : IsSystem s
  system_is = subst IsSystem (sym are.is) (is_system this)

  names_are : length s.names ≡ length m.vars
  names_are =
      let same = ap (λ (x : System). length x.names) are.is in
      let count = names_count this in
      let vars = vars_are m checked in
      omega (arith, same, count, vars)

  pub system_few : length m.vars < 2 ^ 32 → length s.names < 2 ^ 32
  system_few few = subst (λ (k : ℕ). k < 2 ^ 32) (sym names_are) few

  pub vars_few : (o : Machine) → length o.vars ≤ length s.names → length o.vars ≤ length m.vars
  vars_few o few = subst (λ (k : ℕ). length o.vars ≤ k) names_are few

  pub system_falls : Falls s.driven
  system_falls = subst (λ (x : System). Falls x.driven) (sym are.is) (falls this)

  pub system_fits : (ports : List Port) (clock : Option Name) → ports ≡ m.ports → clock ≡ m.clock → FitsPorts ports clock s
  system_fits ports clock e f =
      subst (λ (ps : List Port). FitsPorts ps clock s) (sym e)
      (subst (λ (c : Option Name). FitsPorts m.ports c s) (sym f) (subst (FitsPorts m.ports m.clock) (sym are.is) (fits_ports this)))

  pub renamed_is : (name : List ℕ) (ports : List Port) (clock : Option Name) (o : Machine) → name ≡ m.name → ports ≡ m.ports → clock ≡ m.clock → IsMachineOfBits name ports clock s o → IsRenamed m names o
  renamed_is name ports clock o d e f is =
      is_renamed this o
      (subst (λ (x : System). IsMachineOfBits m.name m.ports m.clock x o) are.is
      (subst (λ (t : List ℕ). IsMachineOfBits t m.ports m.clock s o) d
      (subst (λ (ps : List Port). IsMachineOfBits name ps m.clock s o) e (subst (λ (c : Option Name). IsMachineOfBits name ports c s o) f is))))
