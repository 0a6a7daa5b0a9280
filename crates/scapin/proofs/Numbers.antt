-- The numbers of the gates.
use Rattle.std.proofs.Common.{◌≡◌, ℕ, suc, zero, ◌+◌, ◌*◌, ◌^◌, ◌<◌, ◌≤◌, Bool, if◌then◌else◌, List, [], ◌∷◌, ◌++◌, map, length, refl, sym, ap, ◌∙◌, subst, arith}
use Rattle.std.specs.Prelude.{codes}
use Rattle.std.specs.List.{All}
use Rattle.vlsi_base.specs.Member.{In, here, there, AllDifferent}
use Rattle.vlsi_base.specs.Range.{rising}
use Rattle.cell_model.proofs.Members.{All-from, In-map, In-map_back}
use Rattle.text_names.proofs.Enough.{in_rising, numbers_differ}
use Rattle.scan_theory.specs.Scan.{gate_name}
use Rattle.scan_theory.specs.Path.{gate_numbers}
use Rattle.scan_checks.specs.declared.registers.Register.{Register}
use Rattle.scapin.specs.declared.gates.Gate.{Gate}
use Rattle.scapin.specs.declared.gates.Gate.TheVariants as gate
use Rattle.scapin.specs.Gates.{number_of, chain_of, gate_list}
use Rattle.scapin.proofs.Staged.{not_zero}

-- the numbers of a chain rise from that of the first nand on
chain_numbers : (count place before : ℕ) (rs : List Register) → map number_of (chain_of count place before rs) ≡ rising (3 * place + 1) (3 * length rs + 2)
chain_numbers count place before [] =
    let e : 3 * place + 2 ≡ 3 * place + 1 + 1 = omega arith in
    ap (λ (m : ℕ). (3 * place + 1) ∷ m ∷ []) e
chain_numbers count place before (r ∷ rs) =
    let second : 3 * place + 2 ≡ 3 * place + 1 + 1 = omega arith in
    let third : 3 * place + 3 ≡ 3 * place + 1 + 1 + 1 = omega arith in
    let fourth : 3 * suc place + 1 ≡ 3 * place + 1 + 1 + 1 + 1 = omega arith in
    let many : suc (suc (suc (3 * length rs + 2))) ≡ 3 * suc (length rs) + 2 = omega arith in
    ap (λ (m : ℕ). (3 * place + 1) ∷ m ∷ (3 * place + 3) ∷ map number_of (chain_of count (suc place) r.gives rs)) second
    ∙ ap (λ (m : ℕ). (3 * place + 1) ∷ (3 * place + 1 + 1) ∷ m ∷ map number_of (chain_of count (suc place) r.gives rs)) third
    ∙ ap (λ (ms : List ℕ). (3 * place + 1) ∷ (3 * place + 1 + 1) ∷ (3 * place + 1 + 1 + 1) ∷ ms)
    (chain_numbers count (suc place) r.gives rs ∙ ap (λ (m : ℕ). rising m (3 * length rs + 2)) fourth)
    ∙ ap (rising (3 * place + 1)) many

numbers_more : (many : ℕ) → gate_numbers (suc many) ≡ rising 0 (3 * suc many + 3)
numbers_more many = ap (λ (b : Bool). if b then 1 ∷ 2 ∷ [] else rising 0 (3 * suc many + 3)) (not_zero many)

pub numbers_are : (count : ℕ) (rs : List Register) → map number_of (gate_list count rs) ≡ gate_numbers (length rs)
numbers_are count [] = refl
numbers_are count (r ∷ rs) =
    let many : suc (3 * suc (length rs) + 2) ≡ 3 * suc (length rs) + 3 = omega arith in
    ap (λ (b : Bool). map number_of ((if b then [] else gate.Inverts 0 (count + 1) ∷ []) ++ chain_of count 0 count (r ∷ rs))) (not_zero (length rs))
    ∙ ap (λ (ms : List ℕ). 0 ∷ ms) (chain_numbers count 0 count (r ∷ rs))
    ∙ ap (rising 0) many
    ∙ sym (numbers_more (length rs))

-- ---- how many they are

rising_many : (k n : ℕ) → length (rising k n) ≡ n
rising_many k zero = refl
rising_many k (suc n) = ap suc (rising_many (k + 1) n)

pub numbers_many : (many : ℕ) → length (gate_numbers many) ≤ 3 * many + 3
numbers_many zero = omega arith
numbers_many (suc many) = let e = ap length (numbers_more many) in let r = rising_many 0 (3 * suc many + 3) in omega (arith, e, r)

-- ---- how great they are

pub number_low : (many m : ℕ) → In m (gate_numbers many) → m < 3 * many + 3
number_low zero m here = omega arith
number_low zero m (there here) = omega arith
number_low zero m (there (there h)) = elim h [ ]
number_low (suc many) m h =
    let r = in_rising m 0 (3 * suc many + 3) (subst (λ (ms : List ℕ). In m ms) (numbers_more many) h) in let low = r.1 in omega (arith, low)

pub gate_low : (count : ℕ) (rs : List Register) (g : Gate) → In g (gate_list count rs) → number_of g < 3 * length rs + 3
gate_low count rs g h =
    number_low (length rs) (number_of g) (subst (λ (ms : List ℕ). In (number_of g) ms) (numbers_are count rs) (In-map number_of g (gate_list count rs) h))

pub gates_low : (count : ℕ) (rs : List Register) → length rs < 2 ^ 32 → All (λ g. number_of g < 2 ^ 40) (gate_list count rs)
gates_low count rs few = All-from (λ g. number_of g < 2 ^ 40) (gate_list count rs) (λ g h. let low = gate_low count rs g h in omega (arith, low, few))

-- ---- their names

rising_differ : (k n : ℕ) → AllDifferent (rising k n)
rising_differ k zero = tt
rising_differ k (suc n) = (λ h. let r = in_rising k (k + 1) n h in let low = r.0 in absurd (omega (arith, low)), rising_differ (k + 1) n)

numbers_once : (many : ℕ) → AllDifferent (gate_numbers many)
numbers_once zero = ((λ h. first h), ((λ h. elim h [ ]), tt)) where
  first : In {A = ℕ} 1 (2 ∷ []) → ⊥
  first (there h) = elim h [ ]
numbers_once (suc many) = subst (λ (ms : List ℕ). AllDifferent ms) (sym (numbers_more many)) (rising_differ 0 (3 * suc many + 3))

names_apart : (ms : List ℕ) → ((m : ℕ) → In m ms → m < 2 ^ 64) → AllDifferent ms → AllDifferent (map gate_name ms)
names_apart [] low d = tt
names_apart (m ∷ ms) low d = (
  λ h. let r = In-map_back gate_name (gate_name m) ms h in
      d.0 (subst (λ (k : ℕ). In k ms) (numbers_differ (codes "s") r.0 m (low r.0 (there r.1)) (low m here) r.2) r.1),
  names_apart ms (λ k i. low k (there i)) d.1,
)

pub names_once : (many : ℕ) → many < 2 ^ 32 → AllDifferent (map gate_name (gate_numbers many))
names_once many few = names_apart (gate_numbers many) (λ m h. let low = number_low many m h in omega (arith, low, few)) (numbers_once many)
