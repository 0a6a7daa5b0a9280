-- The names that have a role, one after another.
use Rattle.std.proofs.Common.{Bor, ◌≡◌, ◌≤◌, inl, inr, take, ℕ, zero, suc, ◌+◌, ◌<◌, Bool, true, false, not, List, [], ◌∷◌, ◌++◌, length, map, filter, drop, Option, None, Some, option_to_list, refl, sym, arith, ap, ◌∙◌, append_assoc, add-one, drop-cons, if◌then◌else◌}
use Rattle.std.specs.List.{slice_index_or}
use Rattle.std.proofs.lemmas.Bool.{cases_lt}
use Rattle.std.proofs.lemmas.List.{length-map, take_more}
use Rattle.vlsi_base.specs.declared.name.Name.{Name}
use Rattle.vlsi_base.specs.declared.name.Port.{Port}
use Rattle.vlsi_base.specs.Member.{In, here, there}
use Rattle.machine_core.specs.declared.equation.Register.{Register as RegisterParts}
use Rattle.machine_core.specs.Machine.{Machine, Register, names_of, is_input}
use Rattle.machine_core.specs.View.{register_view}
use Rattle.machine_core.specs.Checked.{IsChecked, AreInOrder}
use Rattle.proof_joint.specs.declared.naming.Role.{Role}
use Rattle.proof_joint.specs.declared.naming.Role.TheVariants.{Input, Output, Clock, Register as Stored}
use Rattle.proof_joint.specs.Naming.{names_with}
use Rattle.proof_joint.proofs.Least.{Rising, rising, in_order}

now_push : (old : List (Bor Name)) (q : Bor Name) → map (λ (n : Bor Name). n.now) (old ++ q ∷ []) ≡ map (λ (n : Bor Name). n.now) old ++ q.now ∷ []
now_push [] q = refl
now_push (n ∷ old) q = ap (λ (l : List Name). n.now ∷ l) (now_push old q)

-- one more name behind those that are there
pub one_more : (old new : List (Bor Name)) (q : Bor Name) (n : Name) (rest more total : List Name) → new ≡ old ++ q ∷ [] → q.now ≡ n → more ≡ n ∷ rest
    → map (λ (n : Bor Name). n.now) old ++ more ≡ total → map (λ (n : Bor Name). n.now) new ++ rest ≡ total
one_more old new q n rest more total push named is so_far =
    ap (λ (l : List (Bor Name)). map (λ (n : Bor Name). n.now) l ++ rest) push
    ∙ ap (λ (l : List Name). l ++ rest) (now_push old q)
    ∙ append_assoc (map (λ (n : Bor Name). n.now) old) (q.now ∷ []) rest
    ∙ ap (λ (x : Name). map (λ (n : Bor Name). n.now) old ++ x ∷ rest) named
    ∙ ap (λ (l : List Name). map (λ (n : Bor Name). n.now) old ++ l) (sym is) ∙ so_far

-- ---- names by their places

now_map : (bs : List (Bor Name)) (k : ℕ) (d : Bor Name) → slice_index_or (map (λ (n : Bor Name). n.now) bs) k d.now ≡ (slice_index_or bs k d).now
now_map [] k d = refl
now_map (b ∷ bs) zero d = refl
now_map (b ∷ bs) (suc k) d = now_map bs k d

pub now_at : (bs : List (Bor Name)) (k : ℕ) (q : Bor Name) → q ≡ slice_index_or bs k q → q.now ≡ slice_index_or (map (λ (n : Bor Name). n.now) bs) k q.now
now_at bs k q is = ap (λ (n : Bor Name). n.now) is ∙ sym (now_map bs k q)

pub nows_long : (bs : List (Bor Name)) → length (map (λ (n : Bor Name). n.now) bs) ≡ length bs
nows_long bs = length-map bs (λ (n : Bor Name). n.now)

pub strictly : (k n : ℕ) → k ≤ n → (k ≡ n → ⊥) → k < n
strictly k n room apart = elim (cases_lt k n) [ inl less ↦ less | inr more ↦ absurd (apart (omega (arith, room, more))) ]

pub next_same : (xs ys : List Name) (k : ℕ) (x y : Name) → k < length xs → k < length ys → x ≡ slice_index_or xs k x → y ≡ slice_index_or ys k y → x ≡ y → take k xs ≡ take k ys
    → take (k + 1) xs ≡ take (k + 1) ys
next_same xs ys k x y hx hy isx isy same so_far =
    take_more xs k x hx ∙ ap (λ (z : Name). take k xs ++ z ∷ []) (sym isx ∙ same ∙ isy) ∙ ap (λ (l : List Name). l ++ slice_index_or ys k y ∷ []) so_far ∙ sym (take_more ys k y hy)

module _ (t : Port → Bool) (ports : List Port) (i : ℕ) (p : Port) (within : i < length ports) (is : p ≡ slice_index_or ports i p) where
  row : drop i ports ≡ p ∷ drop (i + 1) ports
  row = drop-cons ports i p within ∙ ap (λ (x : Port). x ∷ drop (suc i) ports) (sym is) ∙ ap (λ (j : ℕ). p ∷ drop j ports) (sym (add-one i))

  both : (b : Bool) → t p ≡ b → names_of (filter t (drop i ports)) ≡ names_of (if b then p ∷ filter t (drop (i + 1) ports) else filter t (drop (i + 1) ports))
  both b e = ap (λ (l : List Port). names_of (filter t l)) row ∙ ap (λ (c : Bool). names_of (if c then p ∷ filter t (drop (i + 1) ports) else filter t (drop (i + 1) ports))) e

  pub port_taken : t p ≡ true → names_of (filter t (drop i ports)) ≡ p.name ∷ names_of (filter t (drop (i + 1) ports))
  port_taken e = both true e

  pub port_passed : t p ≡ false → names_of (filter t (drop i ports)) ≡ names_of (filter t (drop (i + 1) ports))
  port_passed e = both false e

pub register_row : (registers : List RegisterParts) (i : ℕ) (r : RegisterParts) → i < length registers → r ≡ slice_index_or registers i r
    → map (λ (r : RegisterParts). r.name) (drop i registers) ≡ r.name ∷ map (λ (r : RegisterParts). r.name) (drop (i + 1) registers)
register_row registers i r within is =
    ap (map (λ (r : RegisterParts). r.name))
    (drop-cons registers i r within ∙ ap (λ (x : RegisterParts). x ∷ drop (suc i) registers) (sym is) ∙ ap (λ (j : ℕ). r ∷ drop j registers) (sym (add-one i)))

pub registers_again : (registers : List RegisterParts) → map (λ (r : Register). r.name) (map register_view registers) ≡ map (λ (r : RegisterParts). r.name) registers
registers_again [] = refl
registers_again (r ∷ registers) = ap (λ (l : List Name). r.name ∷ l) (registers_again registers)

-- ---- each role's names stand in order

pub kept_port : (t : Port → Bool) (n : Name) (ports : List Port) → In n (names_of (filter t ports)) → In n (names_of ports)
kept_port t n [] h = elim h [ ]
kept_port t n (p ∷ ports) h = by (t p) h (λ g. kept_port t n ports g) where
  first : (m : Name) → In m (p.name ∷ names_of (filter t ports)) → (In m (names_of (filter t ports)) → In m (names_of ports)) → In m (p.name ∷ names_of ports)
  first m here rest = here
  first m (there g) rest = there (rest g)

  by : (b : Bool) → In n (names_of (if b then p ∷ filter t ports else filter t ports)) → (In n (names_of (filter t ports)) → In n (names_of ports)) → In n (p.name ∷ names_of ports)
  by true g rest = first n g rest
  by false g rest = there (rest g)

kept_rising : (t : Port → Bool) (ports : List Port) → Rising (names_of ports) → Rising (names_of (filter t ports))
kept_rising t [] r = tt
kept_rising t (p ∷ ports) r = by (t p) (kept_rising t ports r.1) where
  by : (b : Bool) → Rising (names_of (filter t ports)) → Rising (names_of (if b then p ∷ filter t ports else filter t ports))
  by true rest = (λ y h. r.0 y (kept_port t y ports h), rest)
  by false rest = rest

pub role_ordered : (m : Machine) → IsChecked m → (role : Role) → AreInOrder (names_with m role)
role_ordered m checked Input = in_order (names_with m Input) (kept_rising (λ p. is_input p.dir) m.ports (rising (names_of m.ports) checked.ports))
role_ordered m checked Output = in_order (names_with m Output) (kept_rising (λ p. not (is_input p.dir)) m.ports (rising (names_of m.ports) checked.ports))
role_ordered m checked Clock = by m.clock where
  by : (c : Option Name) → AreInOrder (option_to_list c)
  by None i j d less inside = absurd (omega arith)
  by (Some c) i j d less inside = absurd (omega (arith, less, inside))
role_ordered m checked Stored = checked.registers
