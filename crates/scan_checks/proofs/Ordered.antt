-- The registers of a path in its order.
use Rattle.std.specs.Prelude.{is_some}
use Rattle.std.proofs.Common.{◌≡◌, ℕ, suc, zero, ◌+◌, ◌^◌, ◌<◌, ◌≤◌, true, not, List, [], ◌∷◌, ◌++◌, filter, length, get_or, take, Some, None, Option, refl, sym, ap, ◌∙◌, subst, arith}
use Rattle.std.proofs.lemmas.List.{take_all, length-map}
use Rattle.std.proofs.lemmas.List.Filters.{length-filter_both}
use Rattle.vlsi_base.specs.Member.{In, here, there, AllDifferent}
use Rattle.net_core.specs.Places.{Stands, NoneTwice, position_of}
use Rattle.net_core.specs.Netlist.{Instance, Netlist}
use Rattle.net_core.proofs.Standing.{position_stands, position_absent, none_twice_push}
use Rattle.cell_model.specs.Library.{Library}
use Rattle.cell_model.proofs.Members.{In-at}
use Rattle.loon_fanout.proofs.Adding.{stands_get, take_next}
use Rattle.loon_fanout.proofs.Picking.{different_of}
use Rattle.scan_theory.specs.Path.{IsFirstTwice, IsPath, is_register, register_names}
use Rattle.scan_checks.specs.declared.registers.Register.{Register}
use Rattle.scan_checks.specs.Registers.{IsRegisterOf, AreRegisters, none, more}
use Rattle.scan_checks.specs.Refused.{names_of, NamesAll, AreInOrder, done, next}
use Rattle.scan_checks.specs.Room.{HasRoomForScan}

stands_take : {A : Type 0} (xs : List A) (i k : ℕ) (x : A) → Stands (take i xs) k x → (k < i) × Stands xs k x
stands_take xs zero k x h = absurd cc
stands_take [] (suc i) k x h = absurd cc
stands_take (y ∷ xs) (suc i) zero x h = (omega arith, h)
stands_take (y ∷ xs) (suc i) (suc k) x h = let r = stands_take xs i k x h in (let low = r.0 in omega (arith, low), r.1)

take_stands : {A : Type 0} (xs : List A) (i k : ℕ) (x : A) → k < i → Stands xs k x → Stands (take i xs) k x
take_stands xs zero k x low h = absurd (omega (arith, low))
take_stands [] (suc i) k x low h = absurd cc
take_stands (y ∷ xs) (suc i) zero x low h = h
take_stands (y ∷ xs) (suc i) (suc k) x low h = take_stands xs i k x (omega (arith, low)) h

-- a text that stands among those before it
pub first_twice : (texts roll : List (List ℕ)) (k : ℕ) (text : List ℕ) (at : ℕ) → k < length texts → text ≡ get_or texts k text → roll ≡ take k texts → NoneTwice roll
    → position_of roll text ≡ Some at → IsFirstTwice texts text
first_twice texts roll k text at low is same once found = record {
  place = k;
  stands = stands_get texts k text low is;
  before = at;
  earlier = (stands_take texts k at text in_front).0;
  stood = (stands_take texts k at text in_front).1;
  first = λ i j other before within a b.
      let e : i ≡ j = front_once i j other (take_stands texts k i other (omega (arith, before, within)) a) (take_stands texts k j other within b) in
      omega (arith, e, before);
} where
  in_front : Stands (take k texts) at text
  in_front = subst (λ (xs : List (List ℕ)). Stands xs at text) same (position_stands roll text at found)

  front_once : NoneTwice (take k texts)
  front_once = subst (λ (xs : List (List ℕ)). NoneTwice xs) same once

-- one more text
pub once_more : (texts roll next_roll : List (List ℕ)) (k : ℕ) (text : List ℕ) → k < length texts → text ≡ get_or texts k text → roll ≡ take k texts
    → next_roll ≡ roll ++ text ∷ [] → next_roll ≡ take (k + 1) texts
once_more texts roll next_roll k text low is same pushed =
    pushed ∙ ap (λ (xs : List (List ℕ)). xs ++ text ∷ []) same ∙ sym (take_next texts k text low is)

pub still_once : (roll next_roll : List (List ℕ)) (text : List ℕ) → NoneTwice roll → position_of roll text ≡ None → next_roll ≡ roll ++ text ∷ [] → NoneTwice next_roll
still_once roll next_roll text once lacks pushed =
    subst (λ (xs : List (List ℕ)). NoneTwice xs) (sym pushed) (none_twice_push roll text once (position_absent roll text lacks))

pub all_different : (texts roll : List (List ℕ)) (k : ℕ) → length texts ≤ k → roll ≡ take k texts → NoneTwice roll → (roll ≡ texts) × AllDifferent texts
all_different texts roll k over same once =
    let all = same ∙ take_all k texts over in
    (all, different_of texts (subst (λ (xs : List (List ℕ)). NoneTwice xs) all once))

-- ---- registers by their names

named_at : (rs : List Register) (k : ℕ) (text : List ℕ) → Stands (names_of rs) k text → (k < length rs) × ((d : Register) → (get_or rs k d).name ≡ text)
named_at [] k text h = absurd cc
named_at (r ∷ rs) zero text h = (omega arith, λ d. let e : r.name ≡ text = cc in e)
named_at (r ∷ rs) (suc k) text h = let x = named_at rs k text h in (let low = x.0 in omega (arith, low), x.1)

-- a name on the roll of these registers
pub register_low : (rs : List Register) (known : List (List ℕ)) (k : ℕ) (text : List ℕ) → known ≡ names_of rs → position_of known text ≡ Some k → k < length rs
register_low rs known k text is found = (named_at rs k text (subst (λ (xs : List (List ℕ)). Stands xs k text) is (position_stands known text k found))).0

order_more : (registers : List Register) (path : List (List ℕ)) (rs : List Register) (r : Register) → AreInOrder registers path rs → In r registers
    → AreInOrder registers (path ++ r.name ∷ []) (rs ++ r ∷ [])
order_more registers _ _ r done i = next i done
order_more registers _ _ r (next {r = x} {path = path} {rs = rs} j rest) i = next j (order_more registers path rs r rest i)

pub picked_next : (registers rs new : List Register) (known path : List (List ℕ)) (k at : ℕ) (text : List ℕ) (r : Register) → k < length path → text ≡ get_or path k text
    → known ≡ names_of registers → position_of known text ≡ Some at → r ≡ get_or registers at r → new ≡ rs ++ r ∷ [] → AreInOrder registers (take k path) rs
    → AreInOrder registers (take (k + 1) path) new
picked_next registers rs new known path k at text r low is known_is found r_is pushed so_far =
    subst (λ (xs : List (List ℕ)). AreInOrder registers xs new) (sym (take_next path k text low is))
    (subst (λ (xs : List Register). AreInOrder registers (take k path ++ text ∷ []) xs) (sym pushed)
    (subst (λ (t : List ℕ). AreInOrder registers (take k path ++ t ∷ []) (rs ++ r ∷ [])) named (order_more registers (take k path) rs r so_far listed))) where
      place : (at < length registers) × ((d : Register) → (get_or registers at d).name ≡ text)
      place = named_at registers at text (subst (λ (xs : List (List ℕ)). Stands xs at text) known_is (position_stands known text at found))

      named : r.name ≡ text
      named = ap (λ (x : Register). x.name) r_is ∙ place.1 r

      listed : In r registers
      listed = subst (λ (x : Register). In x registers) (sym r_is) (In-at registers at r place.0)

pub picked_all : (registers rs : List Register) (path : List (List ℕ)) (k : ℕ) → length path ≤ k → AreInOrder registers (take k path) rs → AreInOrder registers path rs
picked_all registers rs path k over h = subst (λ (xs : List (List ℕ)). AreInOrder registers xs rs) (take_all k path over) h

-- ---- the registers of a netlist

register_in : (n : Netlist) (l : Library) (names : List (List ℕ)) (rs : List Register) → AreRegisters n l names rs → (r : Register) → In r rs → IsRegisterOf n l r.name r
register_in n l _ _ none r h = elim h [ ]
register_in n l _ _ (more {name = name} {r = x} one rest) r here = subst (λ (t : List ℕ). IsRegisterOf n l t x) (sym one.named) one
register_in n l _ _ (more {names = names} {rs = rs} one rest) r (there h) = register_in n l names rs rest r h

pub along_path : (n : Netlist) (l : Library) (names : List (List ℕ)) (registers : List Register) (path : List (List ℕ)) (rs : List Register) → AreRegisters n l names registers
    → AreInOrder registers path rs → AreRegisters n l path rs
along_path n l names registers _ _ are done = none
along_path n l names registers _ _ are (next {r = r} {path = path} {rs = rs} i rest) =
    more (register_in n l names registers are r i) (along_path n l names registers path rs are rest)

pub path_is : (l : Library) (n : Netlist) (names path : List (List ℕ)) → names ≡ register_names l n → NamesAll names path → IsPath l n path
path_is l n names path are h = record {
  known = λ name i. subst (λ (xs : List (List ℕ)). In name xs) are (h.known name i);
  once = h.once;
  complete = λ name i. h.complete name (subst (λ (xs : List (List ℕ)). In name xs) (sym are) i);
}

-- ---- as many names as registers

-- different elements of a list are no more than it has
without : {A : Type 0} (x : A) (ys : List A) → In x ys → (zs : List A) × (length ys ≡ suc (length zs)) × ((y : A) → In y ys → (y ≡ x → ⊥) → In y zs)
without {A} x _ (here {xs = ys}) = (ys, refl, λ y h other. tail y h other) where
  tail : (y : A) → In y (x ∷ ys) → (y ≡ x → ⊥) → In y ys
  tail y here other = absurd (other refl)
  tail y (there h) other = h
without {A} x _ (there {y = z} {xs = ys} i) =
    let r = without x ys i in
    (z ∷ r.0, ap suc r.1, λ y h other. kept r.0 r.2 y h other) where
      kept : (zs : List A) → ((y : A) → In y ys → (y ≡ x → ⊥) → In y zs) → (y : A) → In y (z ∷ ys) → (y ≡ x → ⊥) → In y (z ∷ zs)
      kept zs inside y here other = here
      kept zs inside y (there h) other = there (inside y h other)

no_more : {A : Type 0} (xs ys : List A) → AllDifferent xs → ((x : A) → In x xs → In x ys) → length xs ≤ length ys
no_more [] ys d inside = omega arith
no_more {A} (x ∷ xs) ys d inside =
    let r = without x ys (inside x here) in
    let few = no_more xs r.0 d.1 (λ y h. r.2 y (inside y (there h)) (λ e. d.0 (subst (λ (z : A). In z xs) e h))) in
    let many = r.1 in
    omega (arith, few, many)

pub same_many : (names path : List (List ℕ)) → AllDifferent names → NamesAll names path → length path ≡ length names
same_many names path d h =
    let a = no_more path names h.once h.known in
    let b = no_more names path d h.complete in
    omega (arith, a, b)

pub order_many : (registers rs : List Register) (path : List (List ℕ)) → AreInOrder registers path rs → length rs ≡ length path
order_many registers _ _ done = refl
order_many registers _ _ (next {path = path} {rs = rs} i rest) = ap suc (order_many registers rs path rest)

-- the same where the test says only that it stood before, and a copy is told
pub twice_found : (texts roll : List (List ℕ)) (k : ℕ) (text copy : List ℕ) (o : Option ℕ) → k < length texts → text ≡ get_or texts k text → roll ≡ take k texts → NoneTwice roll
    → o ≡ position_of roll text → is_some o ≡ true → copy ≡ text → IsFirstTwice texts copy
twice_found texts roll k text copy None low is same once at some same_text = absurd (cc some)
twice_found texts roll k text copy (Some place) low is same once at some same_text =
    subst (λ (t : List ℕ). IsFirstTwice texts t) (sym same_text) (first_twice texts roll k text place low is same once (sym at))

-- how many registers a path has
pub registers_many : (n : Netlist) (l : Library) (names : List (List ℕ)) (rs : List Register) → AreRegisters n l names rs → length rs ≡ length names
registers_many n l _ _ none = refl
registers_many n l _ _ (more {names = names} {rs = rs} one rest) = ap suc (registers_many n l names rs rest)

-- registers are instances
few_names : (l : Library) (n : Netlist) → length (register_names l n) ≤ length n.instances
few_names l n =
    let named = length-map (filter (is_register l) n.instances) (λ (i : Instance). i.name) in
    let some = length-filter_both (is_register l) (λ i. not (is_register l i)) (λ i. refl) n.instances in
    omega (arith, named, some)

pub few_registers : (n : Netlist) (l : Library) (rs : List Register) → AreRegisters n l (register_names l n) rs → HasRoomForScan n → length rs < 2 ^ 27
few_registers n l rs are room =
    let many = registers_many n l (register_names l n) rs are in
    let names = few_names l n in
    let few = room.instances in
    omega (arith, many, names, few)
