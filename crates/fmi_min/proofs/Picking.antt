-- Vectors of the inputs stand for bits of the ports.
use Rattle.std.proofs.Common.{◌≡◌, ℕ, zero, suc, ◌<◌, Bool, true, false, List, [], ◌∷◌, ◌++◌, ◌+◌, filter, take, get_or, min, length, Some, unwrap_or, inl, inr, if◌then◌else◌, refl, sym, ap, subst, ◌∙◌, arith}
use Rattle.std.specs.List.{slice_get}
use Rattle.std.proofs.lemmas.List.{length-take, take_more}
use Rattle.vlsi_base.specs.declared.name.Name.{Name}
use Rattle.vlsi_base.specs.declared.name.Port.{Port}
use Rattle.vlsi_base.specs.Member.{In, AllDifferent}
use Rattle.bool_expr.specs.Expression.{bit}
use Rattle.machine_core.specs.Named.{is_same_name, value_at}
use Rattle.machine_core.specs.Machine.{names_of}
use Rattle.machine_core.proofs.Names.{same_name-itself, same_name-false}
use Rattle.fsm_machine.specs.Fsm.{Fsm, fsm_inputs, seen}
use Rattle.fsm_core.specs.Checked.{IsCheckedFsm}
use Rattle.fsm_walk.specs.Reads.{read_marks}
use Rattle.fsm_walk.specs.Words.{SameAt}
use Rattle.fsm_walk.proofs.Over.{reads_inputs}
use Rattle.fsm_walk.proofs.Reading.{marked_in}
use Rattle.syf_machine.specs.Named.{is_read}
use Rattle.syf_machine.proofs.Lists.{in_cons, in_map, map_in, in_filter, contains_in, got_in, map_got}
use Rattle.syf_machine.proofs.Naming.{in_order_differ}
use Rattle.syf_machine.proofs.Numbers.{reads_are}
use Rattle.fmi_min.specs.Vectors.{picked}

read_in : (clock name : Name) (ports : List Port) → In name (names_of (filter (is_read clock) ports)) → In name (names_of ports)
read_in clock name ports i =
    let found = in_map (λ (p : Port). p.name) name (filter (is_read clock) ports) i in
    let P : Name → Type 0 = λ n. In n (names_of ports) in
    subst P (sym found.2) (map_in (λ (p : Port). p.name) found.0 ports (in_filter (is_read clock) found.0 ports found.1).0)

-- an input has the bit of its port
value_picked : (clock : Name) (ports : List Port) (w : List Bool) → AllDifferent (names_of ports) → length w ≡ length ports → (k : ℕ) (name : Name)
    → slice_get (names_of ports) k ≡ Some name → In name (names_of (filter (is_read clock) ports))
    → value_at (names_of (filter (is_read clock) ports)) (picked clock ports w) name ≡ bit w k
value_picked clock [] w h l k name e i = elim i [ ]
value_picked clock (p ∷ ports) [] h l k name e i = absurd (omega arith)
value_picked clock (p ∷ ports) (b ∷ w) h l k name e i = by (λ k. value_picked clock ports w h.1 (omega arith) k name) (is_read clock p) k e i where
  by : ((k : ℕ) → slice_get (names_of ports) k ≡ Some name → In name (names_of (filter (is_read clock) ports))
      → value_at (names_of (filter (is_read clock) ports)) (picked clock ports w) name ≡ bit w k)
      → (t : Bool) (k : ℕ) → slice_get (p.name ∷ names_of ports) k ≡ Some name
      → In name (names_of (if t then p ∷ filter (is_read clock) ports else filter (is_read clock) ports))
      → value_at (names_of (if t then p ∷ filter (is_read clock) ports else filter (is_read clock) ports))
      (if t then b ∷ picked clock ports w else picked clock ports w) name ≡ bit (b ∷ w) k
  by later true zero e i =
      let same : is_same_name p.name name ≡ true = ap (is_same_name p.name) (sym (ap (λ o. unwrap_or o name) e)) ∙ same_name-itself p.name in
      rw same refl
  by later true (suc k) e i =
      let inside : In name (names_of ports) = got_in name k (names_of ports) e in
      let P : Name → Type 0 = λ n. In n (names_of ports) in
      let unlike : is_same_name p.name name ≡ false = same_name-false p.name name (λ s. h.0 (subst P (sym s) inside)) in
      let rest : In name (names_of (filter (is_read clock) ports)) =
      elim (in_cons name p.name (names_of (filter (is_read clock) ports)) i) [ inl s ↦ absurd (h.0 (subst P s inside)) | inr g ↦ g ] in
      rw unlike (later k e rest)
  by later false zero e i =
      let P : Name → Type 0 = λ n. In n (names_of ports) in
      absurd (h.0 (subst P (sym (ap (λ o. unwrap_or o name) e)) (read_in clock name ports i)))
  by later false (suc k) e i = later k e i

picked_count : (clock : Name) (ports : List Port) (w : List Bool) → length w ≡ length ports → length (picked clock ports w) ≡ length (names_of (filter (is_read clock) ports))
picked_count clock [] w l = refl
picked_count clock (p ∷ ports) [] l = absurd (omega arith)
picked_count clock (p ∷ ports) (b ∷ w) l = by (is_read clock p) (picked_count clock ports w (omega arith)) where
  by : (t : Bool) → length (picked clock ports w) ≡ length (names_of (filter (is_read clock) ports))
      → length (if t then b ∷ picked clock ports w else picked clock ports w)
      ≡ length (names_of (if t then p ∷ filter (is_read clock) ports else filter (is_read clock) ports))
  by true later = ap (λ (n : ℕ). suc n) later
  by false later = later

-- a vector has a bit for each input
pub picked_length : (f : Fsm) (w : List Bool) → length w ≡ length f.ports → length (picked f.clock f.ports w) ≡ length (fsm_inputs f)
picked_length f w l = picked_count f.clock f.ports w l ∙ ap (λ (names : List Name). length names) (sym (reads_are f.clock f.ports))

-- under the vector that is picked from bits of the ports, the ports that the body reads have these bits
pub seen_picked : (f : Fsm) (w : List Bool) → IsCheckedFsm f → length w ≡ length f.ports → SameAt (read_marks f) (seen f (picked f.clock f.ports w)) w
seen_picked f w checked l k m =
    let input = reads_inputs f checked k (marked_in f k m) in
    let i = picked f.clock f.ports w in
    let P : List Name → Type 0 = λ names. value_at names i input.name ≡ bit w k in
    let Q : List Name → Type 0 = λ names. In input.name names in
    let inside : In input.name (names_of (filter (is_read f.clock) f.ports)) = subst Q (reads_are f.clock f.ports) (contains_in (fsm_inputs f) input.name input.input) in
    map_got (value_at (fsm_inputs f) i) input.name k (names_of f.ports) false input.is
    ∙ subst P (sym (reads_are f.clock f.ports))
    (value_picked f.clock f.ports w (in_order_differ (names_of f.ports) checked.ports) l k input.name input.is inside)

-- ---- one port more

picked_push : (clock : Name) (ports : List Port) (w : List Bool) (p : Port) (b : Bool) → length w ≡ length ports
    → picked clock (ports ++ p ∷ []) (w ++ b ∷ []) ≡ (if is_read clock p then picked clock ports w ++ b ∷ [] else picked clock ports w)
picked_push clock [] [] p b l = refl
picked_push clock [] (c ∷ w) p b l = absurd (omega arith)
picked_push clock (q ∷ ports) [] p b l = absurd (omega arith)
picked_push clock (q ∷ ports) (c ∷ w) p b l = by (is_read clock q) (is_read clock p) (picked_push clock ports w p b (omega arith)) where
  by : (t u : Bool) → picked clock (ports ++ p ∷ []) (w ++ b ∷ []) ≡ (if u then picked clock ports w ++ b ∷ [] else picked clock ports w)
      → (if t then c ∷ picked clock (ports ++ p ∷ []) (w ++ b ∷ []) else picked clock (ports ++ p ∷ []) (w ++ b ∷ []))
      ≡ (if u then (if t then c ∷ picked clock ports w else picked clock ports w) ++ b ∷ [] else (if t then c ∷ picked clock ports w else picked clock ports w))
  by true true later = ap (λ (x : List Bool). c ∷ x) later
  by true false later = ap (λ (x : List Bool). c ∷ x) later
  by false true later = later
  by false false later = later

-- what is picked of one port more
pub picked_more : (clock : Name) (ports : List Port) (w : List Bool) (k : ℕ) (p : Port) → length w ≡ length ports → k < length ports
    → p ≡ get_or ports k p
    → picked clock (take (k + 1) ports) (take (k + 1) w)
    ≡ (if is_read clock p then picked clock (take k ports) (take k w) ++ get_or w k false ∷ [] else picked clock (take k ports) (take k w))
picked_more clock ports w k p l m e =
    let same : length (take k w) ≡ length (take k ports) = length-take k w ∙ ap (λ (n : ℕ). min k n) l ∙ sym (length-take k ports) in
    ap (λ (x : List Port). picked clock x (take (k + 1) w)) (take_more ports k p (omega arith) ∙ ap (λ (q : Port). take k ports ++ q ∷ []) (sym e))
    ∙ ap (λ (x : List Bool). picked clock (take k ports ++ p ∷ []) x) (take_more w k false (omega arith))
    ∙ picked_push clock (take k ports) (take k w) p (get_or w k false) same
