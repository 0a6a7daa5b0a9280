-- Names of classes: ports that are the first of their class, and signals whose text no port has.
use Rattle.std.proofs.Common.{◌≡◌, ℕ, zero, suc, ◌+◌, ◌-◌, ◌<◌, ◌≤◌, ◌^◌, Bool, true, false, not, ◌&&◌, cond, List, [], ◌∷◌, ◌++◌, map, length, take, drop, get_or, Option, None, Some, is_none, is_some, nat_eq, bytes_eq, filter, refl, sym, ap, subst, ◌∙◌, append_assoc, append-nil, arith}
use Rattle.std.specs.Prelude.{MatchOption}
use Rattle.std.specs.List.{list_all, flat_map}
use Rattle.std.specs.Fmt.{decimal}
use Rattle.std.proofs.lemmas.List.{take_more, drop_more, drop_all, length_push, length-append, length-map, length-take-le}
use Rattle.std.proofs.lemmas.List.Folds.{list_all-append}
use Rattle.std.proofs.lemmas.Bool.{eq-eqb, ne_eqb}
use Rattle.vlsi_base.specs.declared.name.Name.{Name}
use Rattle.vlsi_base.specs.declared.name.Port.{Port}
use Rattle.vlsi_base.specs.Names.{scalar}
use Rattle.vlsi_base.specs.Number.{value_of}
use Rattle.vlsi_base.specs.Range.{rising}
use Rattle.spell_theory.proofs.Letters.{decimal_is}
use Rattle.net_core.specs.Places.{position_of, Learned}
use Rattle.net_core.specs.Netlist.{Netlist, IsNetlist, InTurn, ended, again, first, port, pins_of}
use Rattle.net_core.proofs.Lookups.{same_of}
use Rattle.net_core.proofs.Standing.{position_push}
use Rattle.net_core.proofs.Namings.{turn_grows}
use Rattle.vst_print.specs.Nets.{first_ports, signal_text, is_free, signal_numbers, port_nets, signal_nets, net_names}
use Rattle.vst_print.specs.Pieces.{AreTaken}

-- ---- texts that are taken

lacks : List ℕ → Port → Bool
lacks text p = not (bytes_eq p.name.text text)

and_true : (a : Bool) → a ≡ (a && true)
and_true true = refl
and_true false = refl

and_false : (a : Bool) → false ≡ (a && false)
and_false true = refl
and_false false = refl

pub taken_step : (ports : List Port) (k : ℕ) (p : Port) (old new : List (List ℕ)) → k < length ports → p ≡ get_or ports k p → AreTaken (take k ports) old → Learned old new p.name.text → AreTaken (take (k + 1) ports) new
taken_step ports k p old new less is taken learned text = by (position_of old p.name.text) refl learned ∙ sym more where
  t : List ℕ
  t = p.name.text

  before : Bool
  before = list_all (λ q. not (bytes_eq q.name.text text)) (take k ports)

  more : list_all (λ q. not (bytes_eq q.name.text text)) (take (k + 1) ports) ≡ (before && (not (bytes_eq t text) && true))
  more =
      ap (λ (ps : List Port). list_all (λ q. not (bytes_eq q.name.text text)) ps) (take_more ports k p less ∙ ap (λ (q : Port). take k ports ++ q ∷ []) (sym is))
      ∙ list_all-append (λ (q : Port). not (bytes_eq q.name.text text)) (take k ports) (p ∷ [])

  pushed : (b : Bool) → is_none (cond b (Some (length old)) (position_of old text)) ≡ (before && (not b && true))
  pushed true = and_false before
  pushed false = taken text ∙ and_true before

  there : (b : Bool) → bytes_eq t text ≡ b → (k : ℕ) → position_of old t ≡ Some k → is_none (position_of old text) ≡ (before && (not b && true))
  there false e k s = taken text ∙ and_true before
  there true e k s = ap is_none (ap (position_of old) (sym (same_of t text e)) ∙ s) ∙ and_false before

  by : (o : Option ℕ) → position_of old t ≡ o → MatchOption o (new ≡ old ++ t ∷ []) (λ _. new ≡ old) → is_none (position_of new text) ≡ (before && (not (bytes_eq t text) && true))
  by None e l = ap (λ (us : List (List ℕ)). is_none (position_of us text)) l ∙ ap is_none (position_push old t text e) ∙ pushed (bytes_eq t text)
  by (Some k) e l = ap (λ (us : List (List ℕ)). is_none (position_of us text)) l ∙ there (bytes_eq t text) refl k e

-- ---- signals one after the other

-- what was put so far, and what is still put from this number on, is the whole
abbrev pub Signals : List Name → List Port → ℕ → ℕ → ℕ → List Name → Type 0
Signals start ports many left number names =
    names ++ map scalar (map signal_text (take left (filter (is_free ports) (rising number (many + length ports - number))))) ≡ start ++ map scalar (map signal_text (signal_numbers ports many))

rising_next : (ports : List Port) (many number : ℕ) → number < many + length ports → rising number (many + length ports - number) ≡ number ∷ rising (number + 1) (many + length ports - (number + 1))
rising_next ports many number less = let e : many + length ports - number ≡ suc (many + length ports - (number + 1)) = omega (arith, less) in ap (rising number) e

pub signals_none : (start names : List Name) (ports : List Port) (many left number : ℕ) → left ≡ 0 → Signals start ports many left number names → Signals start ports many left (number + 1) names
signals_none start names ports many zero number e w = w
signals_none start names ports many (suc left) number e w = absurd (omega (arith, e))

pub signals_taken : (start names : List Name) (ports : List Port) (many left number : ℕ) → number < many + length ports → is_free ports number ≡ false
    → Signals start ports many left number names → Signals start ports many left (number + 1) names
signals_taken start names ports many left number less taken w =
    let rest = rising (number + 1) (many + length ports - (number + 1)) in
    let e : filter (is_free ports) (rising number (many + length ports - number)) ≡ filter (is_free ports) rest =
    ap (filter (is_free ports)) (rising_next ports many number less) ∙ ap (λ (b : Bool). cond b (number ∷ filter (is_free ports) rest) (filter (is_free ports) rest)) taken in
    ap (λ (ks : List ℕ). names ++ map scalar (map signal_text (take left ks))) (sym e) ∙ w

pub signals_push : (start names new : List Name) (ports : List Port) (many left number : ℕ) → number < many + length ports → 0 < left → is_free ports number ≡ true → new ≡ names ++ scalar (signal_text number) ∷ []
    → Signals start ports many left number names → Signals start ports many (left - 1) (number + 1) new
signals_push start names new ports many zero number less some free put w = absurd (omega arith)
signals_push start names new ports many (suc left) number less some free put w =
    let rest = rising (number + 1) (many + length ports - (number + 1)) in
    let n : suc left - 1 ≡ left = omega arith in
    let e : filter (is_free ports) (rising number (many + length ports - number)) ≡ number ∷ filter (is_free ports) rest =
    ap (filter (is_free ports)) (rising_next ports many number less) ∙ ap (λ (b : Bool). cond b (number ∷ filter (is_free ports) rest) (filter (is_free ports) rest)) free in
    let left_names = map scalar (map signal_text (take left (filter (is_free ports) rest))) in
    ap (λ l. new ++ map scalar (map signal_text (take l (filter (is_free ports) rest)))) n
    ∙ ap (λ (x : List Name). x ++ left_names) put
    ∙ append_assoc names (scalar (signal_text number) ∷ []) left_names
    ∙ ap (λ (ks : List ℕ). names ++ map scalar (map signal_text (take (suc left) ks))) (sym e)
    ∙ w

pub signals_start : (names : List Name) (ports : List Port) (many : ℕ) → Signals names ports many many 0 names
signals_start names ports many = let e : many + length ports - 0 ≡ many + length ports = omega arith in ap (λ n. names ++ map scalar (map signal_text (take many (filter (is_free ports) (rising 0 n))))) e

take_none : (left : ℕ) (ks : List ℕ) → ks ≡ [] → take left ks ≡ []
take_none zero ks e = refl
take_none (suc left) [] e = refl
take_none (suc left) (k ∷ ks) e = absurd cc

pub signals_end : (start names : List Name) (ports : List Port) (many left number : ℕ) → many + length ports ≤ number → Signals start ports many left number names
    → names ≡ start ++ map scalar (map signal_text (signal_numbers ports many))
signals_end start names ports many left number past w =
    let e : many + length ports - number ≡ 0 = omega (arith, past) in
    let none : filter (is_free ports) (rising number (many + length ports - number)) ≡ [] = ap (λ n. filter (is_free ports) (rising number n)) e in
    sym (append-nil names)
    ∙ ap (λ (ks : List ℕ). names ++ map scalar (map signal_text ks)) (sym (take_none left (filter (is_free ports) (rising number (many + length ports - number))) none))
    ∙ w

-- ---- ports that are the first of their class

abbrev pub Firsts : List Port → List ℕ → ℕ → List Name → Type 0
Firsts ports classes k names = names ++ first_ports (length names) (drop k ports) (drop k classes) ≡ first_ports 0 ports classes

firsts_at : (ports : List Port) (classes : List ℕ) (k met : ℕ) (p : Port) → k < length ports → k < length classes → p ≡ get_or ports k p
    → first_ports met (drop k ports) (drop k classes)
    ≡ cond (nat_eq (get_or classes k 0) met) (p.name ∷ first_ports (met + 1) (drop (k + 1) ports) (drop (k + 1) classes)) (first_ports met (drop (k + 1) ports) (drop (k + 1) classes))
firsts_at ports classes k met p less within is =
    ap (λ (ps : List Port). first_ports met ps (drop k classes)) (drop_more ports k p less ∙ ap (λ (q : Port). q ∷ drop (k + 1) ports) (sym is))
    ∙ ap (first_ports met (p ∷ drop (k + 1) ports)) (drop_more classes k 0 within)

pub firsts_skip : (ports : List Port) (classes : List ℕ) (k : ℕ) (p : Port) (names : List Name) → k < length ports → k < length classes → p ≡ get_or ports k p → nat_eq (get_or classes k 0) (length names) ≡ false
    → Firsts ports classes k names → Firsts ports classes (k + 1) names
firsts_skip ports classes k p names less within is other w =
    let ps = drop (k + 1) ports in
    let cs = drop (k + 1) classes in
    ap (λ (x : List Name). names ++ x) (sym (firsts_at ports classes k (length names) p less within is ∙ ap (λ (b : Bool). cond b (p.name ∷ first_ports (length names + 1) ps cs) (first_ports (length names) ps cs)) other)) ∙ w

pub firsts_push : (ports : List Port) (classes : List ℕ) (k : ℕ) (p : Port) (names new : List Name) → k < length ports → k < length classes → p ≡ get_or ports k p → nat_eq (get_or classes k 0) (length names) ≡ true
    → new ≡ names ++ p.name ∷ [] → Firsts ports classes k names → Firsts ports classes (k + 1) new
firsts_push ports classes k p names new less within is here put w =
    let ps = drop (k + 1) ports in
    let cs = drop (k + 1) classes in
    let n : length new ≡ length names + 1 = ap (λ (x : List Name). length x) put ∙ length_push names p.name in
    ap (λ m. new ++ first_ports m ps cs) n
    ∙ ap (λ (x : List Name). x ++ first_ports (length names + 1) ps cs) put
    ∙ append_assoc names (p.name ∷ []) (first_ports (length names + 1) ps cs)
    ∙ ap (λ (x : List Name). names ++ x) (sym (firsts_at ports classes k (length names) p less within is ∙ ap (λ (b : Bool). cond b (p.name ∷ first_ports (length names + 1) ps cs) (first_ports (length names) ps cs)) here)) ∙ w

pub firsts_end : (ports : List Port) (classes : List ℕ) (k : ℕ) (names : List Name) → length ports ≤ k → Firsts ports classes k names → names ≡ first_ports 0 ports classes
firsts_end ports classes k names past w =
    sym (append-nil names) ∙ sym (ap (λ (ps : List Port). names ++ first_ports (length names) ps (drop k classes)) (drop_all k ports past)) ∙ w

-- ---- as many names as classes

pub firsts_few : (met count : ℕ) (ports : List Port) (classes : List ℕ) → InTurn met classes count → length (first_ports met ports classes) + met ≤ count
firsts_few met count [] classes t = omega (arith, turn_grows met count classes t)
firsts_few met count (p ∷ ps) [] t = omega (arith, turn_grows met count [] t)
firsts_few met count (p ∷ ps) (k ∷ ks) (again less t) =
    let n : nat_eq k met ≡ false = ne_eqb k met (omega (arith, less)) in
    let e : length (first_ports met (p ∷ ps) (k ∷ ks)) ≡ length (first_ports met ps ks) = ap (λ (b : Bool). length (cond b (p.name ∷ first_ports (met + 1) ps ks) (first_ports met ps ks))) n in
    omega (arith, e, firsts_few met count ps ks t)
firsts_few met count (p ∷ ps) (k ∷ ks) (first t) =
    let n : nat_eq met met ≡ true = eq-eqb met met refl in
    let e : length (first_ports met (p ∷ ps) (met ∷ ks)) ≡ suc (length (first_ports (met + 1) ps ks)) = ap (λ (b : Bool). length (cond b (p.name ∷ first_ports (met + 1) ps ks) (first_ports met ps ks))) n in
    omega (arith, e, firsts_few (met + 1) count ps ks t)

-- numbers below 2 ^ 64 whose signals have one text are one
pub signal_once : (j k : ℕ) → j < 2 ^ 64 → k < 2 ^ 64 → signal_text j ≡ signal_text k → j ≡ k
signal_once j k small few e =
    let same : decimal j ≡ decimal k = ap (λ (t : List ℕ). drop 1 t) e in
    sym (decimal_is j small).value ∙ ap value_of same ∙ (decimal_is k few).value

-- at most one number of a run is left out where a test fails at most once
all_pass : (a b : ℕ → Bool) (m n : ℕ) → ((k : ℕ) → m ≤ k → k < m + n → a k ≡ true) → length (filter (λ k. a k && b k) (rising m n)) ≡ length (filter b (rising m n))
all_pass a b m zero pass = refl
all_pass a b m (suc n) pass = by (all_pass a b (m + 1) n (λ k l s. pass k (omega (arith, l)) (omega (arith, s)))) (a m) (pass m (omega arith) (omega arith)) (b m) where
  F : List ℕ
  F = filter (λ k. a k && b k) (rising (m + 1) n)

  G : List ℕ
  G = filter b (rising (m + 1) n)

  by : length F ≡ length G → (x : Bool) → x ≡ true → (y : Bool) → length (cond (x && y) (m ∷ F) F) ≡ length (cond y (m ∷ G) G)
  by rest true e true = ap suc rest
  by rest true e false = rest
  by rest false e y = absurd cc

one_less : (a b : ℕ → Bool) (m n : ℕ) → ((j k : ℕ) → j < m + n → k < m + n → a j ≡ false → a k ≡ false → j ≡ k)
    → length (filter b (rising m n)) ≤ suc (length (filter (λ k. a k && b k) (rising m n)))
one_less a b m zero once = omega arith
one_less a b m (suc n) once = by (one_less a b (m + 1) n (λ j k l s p q. once j k (omega (arith, l)) (omega (arith, s)) p q)) (a m) refl (b m) where
  F : List ℕ
  F = filter (λ k. a k && b k) (rising (m + 1) n)

  G : List ℕ
  G = filter b (rising (m + 1) n)

  passes : a m ≡ false → (k : ℕ) → m + 1 ≤ k → k < m + 1 + n → (x : Bool) → a k ≡ x → x ≡ true
  passes e k l s true q = refl
  passes e k l s false q = let same : m ≡ k = once m k (omega arith) (omega (arith, s)) e q in absurd (omega (arith, same, l))

  by : length G ≤ suc (length F) → (x : Bool) → a m ≡ x → (y : Bool) → length (cond y (m ∷ G) G) ≤ suc (length (cond (x && y) (m ∷ F) F))
  by rest true e true = omega (arith, rest)
  by rest true e false = rest
  by rest false e true = let same : length F ≡ length G = all_pass a b (m + 1) n (λ k l s. passes e k l s (a k) refl) in omega (arith, same)
  by rest false e false = rest

all_of : (m n : ℕ) → length (filter (is_free []) (rising m n)) ≡ n
all_of m zero = refl
all_of m (suc n) = ap suc (all_of (m + 1) n)

pub free_enough : (ports : List Port) (n : ℕ) → n ≤ 2 ^ 64 → n ≤ length (filter (is_free ports) (rising 0 n)) + length ports
free_enough [] n small = omega (arith, all_of 0 n)
free_enough (p ∷ ps) n small =
    let less = one_less (λ k. not (bytes_eq p.name.text (signal_text k))) (is_free ps) 0 n (λ j k l s q r. both j k (omega (arith, l, small)) (omega (arith, s, small)) q r) in
    omega (arith, less, free_enough ps n small) where
      taken : (k : ℕ) (b : Bool) → bytes_eq p.name.text (signal_text k) ≡ b → not b ≡ false → p.name.text ≡ signal_text k
      taken k true e q = same_of p.name.text (signal_text k) e
      taken k false e q = absurd cc

      both : (j k : ℕ) → j < 2 ^ 64 → k < 2 ^ 64 → not (bytes_eq p.name.text (signal_text j)) ≡ false → not (bytes_eq p.name.text (signal_text k)) ≡ false → j ≡ k
      both j k l s q r = signal_once j k l s (sym (taken j (bytes_eq p.name.text (signal_text j)) refl q) ∙ taken k (bytes_eq p.name.text (signal_text k)) refl r)

pub signals_many : (ports : List Port) (many : ℕ) → many + length ports ≤ 2 ^ 64 → length (signal_numbers ports many) ≡ many
signals_many ports many small =
    let enough = free_enough ports (many + length ports) small in
    length-take-le many (filter (is_free ports) (rising 0 (many + length ports))) (omega (arith, enough))

-- each class has a name
pub names_many : (n : Netlist) → InTurn 0 n.classes n.count → n.count + length n.ports ≤ 2 ^ 64 → length (net_names n) ≡ n.count
names_many n turns small =
    let few = firsts_few 0 n.count n.ports n.classes turns in
    let many = n.count - length (port_nets n) in
    let a = length-append (port_nets n) (map scalar (signal_nets n)) in
    let b : length (map scalar (signal_nets n)) ≡ length (signal_nets n) = length-map (signal_nets n) scalar in
    let c : length (signal_nets n) ≡ length (signal_numbers n.ports many) = length-map (signal_numbers n.ports many) signal_text in
    let d = signals_many n.ports many (omega (arith, small)) in
    omega (arith, few, a, b, c, d)

turn_many : (met count : ℕ) (ks : List ℕ) → InTurn met ks count → count ≤ met + length ks
turn_many met count [] ended = omega arith
turn_many met count (k ∷ ks) (again l t) = let r = turn_many met count ks t in omega (arith, r)
turn_many met count (k ∷ ks) (first t) = let r = turn_many (met + 1) count ks t in omega (arith, r)

-- so has each class of a netlist, by the names as they are made
pub each_named : (n : Netlist) (ports : List Port) (classes : List ℕ) (old new : List Name) (many : ℕ) → ports ≡ n.ports → classes ≡ n.classes → length classes < 2 ^ 32 → IsNetlist n
    → old ≡ first_ports 0 ports classes → many ≡ n.count - length old → new ≡ old ++ map scalar (map signal_text (signal_numbers ports many)) → length new ≡ n.count
each_named n ports classes old new many ps cs few sound old_is many_is new_is =
    let first_is : old ≡ port_nets n = old_is ∙ ap (λ (qs : List Port). first_ports 0 qs classes) ps ∙ ap (first_ports 0 n.ports) cs in
    let left_is : many ≡ n.count - length (port_nets n) = many_is ∙ ap (λ (os : List Name). n.count - length os) first_is in
    let all_is : new ≡ net_names n =
    new_is ∙ ap (λ (os : List Name). os ++ map scalar (map signal_text (signal_numbers ports many))) first_is
    ∙ ap (λ (qs : List Port). port_nets n ++ map scalar (map signal_text (signal_numbers qs many))) ps
    ∙ ap (λ (m : ℕ). port_nets n ++ map scalar (map signal_text (signal_numbers n.ports m))) left_is in
    let fits : length n.classes < 2 ^ 32 = subst (λ (ks : List ℕ). length ks < 2 ^ 32) cs few in
    let most = turn_many 0 n.count n.classes sound.turns in
    let each = sound.each in
    let a = length-append (map (λ (p : Port). port p.name) n.ports) (flat_map pins_of n.instances) in
    let b : length (map (λ (p : Port). port p.name) n.ports) ≡ length n.ports = length-map n.ports (λ (p : Port). port p.name) in
    ap (λ (ns : List Name). length ns) all_is ∙ names_many n sound.turns (omega (arith, fits, most, each, a, b))

-- the port at a place
pub a_port : (ports : List Port) (k : ℕ) → k < length ports → (p : Port) × (p ≡ get_or ports k p)
a_port [] k less = absurd (omega (arith, less))
a_port (p ∷ ps) zero less = (p, refl)
a_port (p ∷ ps) (suc k) less = a_port ps k (omega (arith, less))

pub none_as : (o : Option ℕ) (r : Bool) → is_some o ≡ not r → is_none o ≡ r
none_as None true e = refl
none_as None false e = absurd cc
none_as (Some k) true e = absurd cc
none_as (Some k) false e = refl
