-- One step of each loop.
use Rattle.std.proofs.Common.{◌≡◌, ℕ, suc, zero, ◌+◌, ◌*◌, ◌<◌, ◌≤◌, Bool, true, false, List, [], ◌∷◌, ◌++◌, drop, length, get_or, refl, sym, ap, ◌∙◌, arith, append_assoc, if◌then◌else◌}
use Rattle.std.specs.Prelude.{slice_set}
use Rattle.vlsi_base.specs.declared.name.Name.{Name}
use Rattle.machine_core.specs.Named.{is_same_name}
use Rattle.scan_theory.specs.Gates.{read_class}
use Rattle.scan_checks.specs.declared.registers.Register.{Register}
use Rattle.scapin.specs.declared.gates.Gate.{Gate}
use Rattle.scapin.specs.Gates.{shown_by, multiplexer_of, end_of, chain_of, first_of, gate_list}
use Rattle.scapin.specs.Classes.{moved}

pub drop_step : {A : Type 0} (xs : List A) (k : ℕ) (x : A) → k < length xs → x ≡ get_or xs k x → drop k xs ≡ x ∷ drop (suc k) xs
drop_step [] k x low is = absurd (omega (arith, low))
drop_step {A} (y ∷ xs) zero x low is = ap (λ (z : A). z ∷ xs) (sym is)
drop_step (y ∷ xs) (suc k) x low is = drop_step xs k x (omega (arith, low)) is

drop_end : {A : Type 0} (xs : List A) (k : ℕ) → length xs ≤ k → drop k xs ≡ []
drop_end [] zero over = refl
drop_end [] (suc k) over = refl
drop_end (x ∷ xs) zero over = absurd (omega (arith, over))
drop_end (x ∷ xs) (suc k) over = drop_end xs k (omega (arith, over))

-- two that stand at one place are one
pub one_at : {A : Type 0} (xs : List A) (k : ℕ) (x y : A) → k < length xs → x ≡ get_or xs k x → y ≡ get_or xs k y → x ≡ y
one_at [] k x y low a b = absurd (omega (arith, low))
one_at (z ∷ xs) zero x y low a b = a ∙ sym b
one_at (z ∷ xs) (suc k) x y low a b = one_at xs k x y (omega (arith, low)) a b

-- ---- gates

pub gates_start : (count many : ℕ) (rs : List Register) (now : List Gate) → many ≡ length rs → now ≡ first_of count many → now ++ chain_of count 0 count (drop 0 rs) ≡ gate_list count rs
gates_start count many rs now same is = ap (λ (gs : List Gate). gs ++ chain_of count 0 count rs) (is ∙ ap (first_of count) same)

pub gates_step : (count place before : ℕ) (rs : List Register) (r s : Register) (now new all : List Gate) → place < length rs → r ≡ get_or rs place r → s ≡ get_or rs place s
    → now ++ chain_of count place before (drop place rs) ≡ all → new ≡ now ++ multiplexer_of count place before r.loads
    → new ++ chain_of count (place + 1) s.gives (drop (place + 1) rs) ≡ all
gates_step count place before rs r s now new all low is also so pushed =
    let next : place + 1 ≡ suc place = omega arith in
    ap (λ (k : ℕ). new ++ chain_of count k s.gives (drop k rs)) next
    ∙ ap (λ (x : Register). new ++ chain_of count (suc place) x.gives (drop (suc place) rs)) (one_at rs place s r low also is)
    ∙ ap (λ (gs : List Gate). gs ++ chain_of count (suc place) r.gives (drop (suc place) rs)) pushed
    ∙ append_assoc now (multiplexer_of count place before r.loads) (chain_of count (suc place) r.gives (drop (suc place) rs))
    ∙ ap (λ (xs : List Register). now ++ chain_of count place before xs) (sym (drop_step rs place r low is))
    ∙ so

pub gates_end : (count place many before : ℕ) (rs : List Register) (now new all : List Gate) → length rs ≤ place → place ≤ length rs → many ≡ length rs
    → now ++ chain_of count place before (drop place rs) ≡ all → new ≡ now ++ end_of count many before → new ≡ all
gates_end count place many before rs now new all over within same so pushed =
    let at : many ≡ place = omega (arith, over, within, same) in
    pushed
    ∙ ap (λ (k : ℕ). now ++ end_of count k before) at
    ∙ ap (λ (xs : List Register). now ++ chain_of count place before xs) (sym (drop_end rs place over))
    ∙ so

-- ---- data pins

pub moved_step : (count place : ℕ) (rs : List Register) (r : Register) (classes all : List ℕ) (shown : ℕ) → place < length rs → r ≡ get_or rs place r
    → shown ≡ shown_by count (3 * place + 3) → moved count place (drop place rs) classes ≡ all
    → moved count (place + 1) (drop (place + 1) rs) (slice_set classes r.place shown) ≡ all
moved_step count place rs r classes all shown low is shows so =
    let next : place + 1 ≡ suc place = omega arith in
    ap (λ (k : ℕ). moved count k (drop k rs) (slice_set classes r.place shown)) next
    ∙ ap (λ (k : ℕ). moved count (suc place) (drop (suc place) rs) (slice_set classes r.place k)) shows
    ∙ ap (λ (xs : List Register). moved count place xs classes) (sym (drop_step rs place r low is))
    ∙ so

pub moved_end : (count place : ℕ) (rs : List Register) (classes all : List ℕ) → length rs ≤ place → moved count place (drop place rs) classes ≡ all → classes ≡ all
moved_end count place rs classes all over so = ap (λ (xs : List Register). moved count place xs classes) (sym (drop_end rs place over)) ∙ so

-- ---- inputs

none_read : (ps : List Name) (other : ℕ) (pin : Name) → read_class ps [] other pin ≡ other
none_read [] other pin = refl
none_read (p ∷ ps) other pin = refl

read_step : (ps : List Name) (reads : List ℕ) (other : ℕ) (pin p : Name) (place : ℕ) → place < length ps → p ≡ get_or ps place p
    → read_class (drop place ps) (drop place reads) other pin
    ≡ (if is_same_name p pin then get_or reads place other else read_class (drop (suc place) ps) (drop (suc place) reads) other pin)
read_step [] reads other pin p place low is = absurd (omega (arith, low))
read_step (q ∷ ps) [] other pin p zero low is = by (is_same_name p pin) where
  by : (b : Bool) → other ≡ (if b then other else read_class ps [] other pin)
  by true = refl
  by false = sym (none_read ps other pin)
read_step (q ∷ ps) (k ∷ reads) other pin p zero low is =
    ap (λ (x : Name). if is_same_name x pin then k else read_class ps reads other pin) (sym is)
read_step (q ∷ ps) [] other pin p (suc place) low is = none_read (drop place ps) other pin ∙ by (is_same_name p pin) where
  by : (b : Bool) → other ≡ (if b then other else read_class (drop (suc place) ps) [] other pin)
  by true = refl
  by false = sym (none_read (drop (suc place) ps) other pin)
read_step (q ∷ ps) (k ∷ reads) other pin p (suc place) low is = read_step ps reads other pin p place (omega (arith, low)) is

pub read_found : (ps : List Name) (reads : List ℕ) (other all : ℕ) (pin p : Name) (place : ℕ) → place < length ps → p ≡ get_or ps place p
    → is_same_name p pin ≡ true → read_class (drop place ps) (drop place reads) other pin ≡ all → get_or reads place other ≡ all
read_found ps reads other all pin p place low is same so =
    sym (read_step ps reads other pin p place low is
    ∙ ap (λ (b : Bool). if b then get_or reads place other else read_class (drop (suc place) ps) (drop (suc place) reads) other pin) same) ∙ so

pub read_next : (ps : List Name) (reads : List ℕ) (other all : ℕ) (pin p : Name) (place : ℕ) → place < length ps → p ≡ get_or ps place p
    → is_same_name p pin ≡ false → read_class (drop place ps) (drop place reads) other pin ≡ all
    → read_class (drop (place + 1) ps) (drop (place + 1) reads) other pin ≡ all
read_next ps reads other all pin p place low is apart so =
    let next : place + 1 ≡ suc place = omega arith in
    ap (λ (k : ℕ). read_class (drop k ps) (drop k reads) other pin) next
    ∙ sym (read_step ps reads other pin p place low is
    ∙ ap (λ (b : Bool). if b then get_or reads place other else read_class (drop (suc place) ps) (drop (suc place) reads) other pin) apart) ∙ so

pub read_none : (ps : List Name) (reads : List ℕ) (other all : ℕ) (pin : Name) (place : ℕ) → length ps ≤ place
    → read_class (drop place ps) (drop place reads) other pin ≡ all → other ≡ all
read_none ps reads other all pin place over so = sym (ap (λ (xs : List Name). read_class xs (drop place reads) other pin) (drop_end ps place over)) ∙ so
