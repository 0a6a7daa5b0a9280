-- Machines whose roots are the same functions do the same.
use Rattle.std.proofs.Common.{◌≡◌, ◌⊎◌, inl, inr, ℕ, ◌+◌, Bool, true, false, not, List, [], ◌∷◌, ◌++◌, length, map, filter, refl, sym, ap, subst, ◌∙◌, length-append, if◌then◌else◌}
use Rattle.std.specs.Prelude.{zip}
use Rattle.std.specs.List.{All}
use Rattle.std.proofs.lemmas.List.{length-map}
use Rattle.std.proofs.lemmas.List.Elements.{All-head, All-tail}
use Rattle.vlsi_base.specs.declared.name.Name.{Name}
use Rattle.vlsi_base.specs.declared.name.Port.{Port}
use Rattle.vlsi_base.specs.declared.name.Dir.{Dir}
use Rattle.vlsi_base.specs.declared.name.Dir.TheVariants.{In as Inward, Out as Outward}
use Rattle.vlsi_base.specs.Member.{In, here, there}
use Rattle.bool_expr.specs.Expression.{Expression, val}
use Rattle.machine_core.specs.Named.{is_same_name, value_at, values_at}
use Rattle.machine_core.specs.Machine.{Machine, Equation, Register, is_input, names_of, inputs, outputs, register_names}
use Rattle.machine_core.specs.Cycles.{Settles, outs, next}
use Rattle.machine_core.specs.Order.{IsOrdered}
use Rattle.machine_core.specs.Built.{built}
use Rattle.machine_core.specs.Checked.{IsChecked}
use Rattle.machine_core.proofs.Names.{same_name-true, same_name-itself}
use Rattle.machine_core.proofs.Known.{known}
use Rattle.machine_core.proofs.Solve.{settles_once_known}
use Rattle.machine_core.proofs.Built.{built_settles}
use Rattle.machine_walk.specs.Expansion.{held_count, expansion}
use Rattle.machine_roots.specs.Roots.{Root, roots, register_roots, expression_of}
use Rattle.machine_roots.proofs.Expanding.{value_of_expansion}
use Rattle.proof_joint.specs.declared.naming.Role.TheVariants.{Input, Output, Register as Stored}
use Rattle.proof_joint.specs.Naming.{HaveSameNames}
use Rattle.proof_joint.specs.Together.{IsOneFunction}
use Rattle.proof_cmp.specs.Verdict.{AreEqual, EqualAreAlike}
use Rattle.proof_joint.proofs.Least.{Rising, rising, less_not_back}
use Rattle.proof_joint.proofs.Roles.{kept_port}
use Rattle.proof_joint.proofs.Joining.{same_clock}

-- ---- ports by their names and directions

abbrev port_of : Name → Dir → Port
port_of n d = record { name = n; dir = d }

same_port : (p q : Port) (d : Dir) → p.dir ≡ d → q.dir ≡ d → q.name ≡ p.name → q ≡ p
same_port p q d e f n = ap (λ (x : Name). port_of x q.dir) n ∙ ap (port_of p.name) (f ∙ sym e)

abbrev ins : List Port → List Name
ins ports = names_of (filter (λ p. is_input p.dir) ports)

abbrev outs_of : List Port → List Name
outs_of ports = names_of (filter (λ p. not (is_input p.dir)) ports)

head_same : (x y : Name) (xs ys : List Name) → x ∷ xs ≡ y ∷ ys → (x ≡ y) × (xs ≡ ys)
head_same x y xs ys e = (cc e, cc e)

no_head : (x : Name) (xs : List Name) → [] ≡ x ∷ xs → ⊥
no_head x xs e = absurd (cc e)

ports_same : (ps qs : List Port) → Rising (names_of ps) → Rising (names_of qs) → ins qs ≡ ins ps → outs_of qs ≡ outs_of ps → qs ≡ ps
ports_same [] [] r s i o = refl
ports_same [] (q ∷ qs) r s i o = by q.dir i o where
  by : (d : Dir) → names_of (if is_input d then q ∷ filter (λ p. is_input p.dir) qs else filter (λ p. is_input p.dir) qs) ≡ []
      → names_of (if not (is_input d) then q ∷ filter (λ p. not (is_input p.dir)) qs else filter (λ p. not (is_input p.dir)) qs) ≡ [] → q ∷ qs ≡ []
  by Inward i o = absurd (no_head q.name (ins qs) (sym i))
  by Outward i o = absurd (no_head q.name (outs_of qs) (sym o))
ports_same (p ∷ ps) [] r s i o = by p.dir i o where
  by : (d : Dir) → [] ≡ names_of (if is_input d then p ∷ filter (λ p. is_input p.dir) ps else filter (λ p. is_input p.dir) ps)
      → [] ≡ names_of (if not (is_input d) then p ∷ filter (λ p. not (is_input p.dir)) ps else filter (λ p. not (is_input p.dir)) ps) → [] ≡ p ∷ ps
  by Inward i o = absurd (no_head p.name (ins ps) i)
  by Outward i o = absurd (no_head p.name (outs_of ps) o)
ports_same (p ∷ ps) (q ∷ qs) r s i o = by p.dir q.dir refl refl i o (λ i o. ports_same ps qs r.1 s.1 i o) where
  both : (d : Dir) → p.dir ≡ d → q.dir ≡ d → q.name ≡ p.name → qs ≡ ps → q ∷ qs ≡ p ∷ ps
  both d e f n rest = λ j. same_port p q d e f n j ∷ rest j

  crossed : In p.name (names_of qs) → In q.name (names_of ps) → ⊥
  crossed h g = less_not_back q.name p.name (s.0 p.name h) (r.0 q.name g)

  by : (d e : Dir) → p.dir ≡ d → q.dir ≡ e
      → names_of (if is_input e then q ∷ filter (λ p. is_input p.dir) qs else filter (λ p. is_input p.dir) qs) ≡ names_of (if is_input d then p ∷ filter (λ p. is_input p.dir) ps else filter (λ p. is_input p.dir) ps)
      → names_of (if not (is_input e) then q ∷ filter (λ p. not (is_input p.dir)) qs else filter (λ p. not (is_input p.dir)) qs) ≡ names_of (if not (is_input d) then p ∷ filter (λ p. not (is_input p.dir)) ps else filter (λ p. not (is_input p.dir)) ps)
      → (ins qs ≡ ins ps → outs_of qs ≡ outs_of ps → qs ≡ ps) → q ∷ qs ≡ p ∷ ps
  by Inward Inward dp dq i o rest = let h = head_same q.name p.name (ins qs) (ins ps) i in both Inward dp dq h.0 (rest h.1 o)
  by Outward Outward dp dq i o rest = let h = head_same q.name p.name (outs_of qs) (outs_of ps) o in both Outward dp dq h.0 (rest i h.1)
  by Inward Outward dp dq i o rest = absurd (crossed
      (kept_port (λ p. is_input p.dir) p.name qs (subst (λ (l : List Name). In p.name l) (sym i) here))
      (kept_port (λ p. not (is_input p.dir)) q.name ps (subst (λ (l : List Name). In q.name l) o here)))
  by Outward Inward dp dq i o rest = absurd (crossed
      (kept_port (λ p. not (is_input p.dir)) p.name qs (subst (λ (l : List Name). In p.name l) (sym o) here))
      (kept_port (λ p. is_input p.dir) q.name ps (subst (λ (l : List Name). In q.name l) i here)))

-- ---- the roots by their kinds

-- what an output shows
abbrev shown_root : Machine → Name → Root
shown_root m name = record { name = name; expr = expression_of m.equations name }

module _ (a b : Machine) where
  shown_all : (names : List Name) (xs ys : List Root) → All (IsOneFunction a b) (zip (map (shown_root a) names ++ xs) (map (shown_root b) names ++ ys))
      → ((n : Name) → In n names → IsOneFunction a b (shown_root a n, shown_root b n)) × All (IsOneFunction a b) (zip xs ys)
  shown_all [] xs ys all = (λ n h. elim h [ ], all)
  shown_all (x ∷ names) xs ys all =
      let rest = shown_all names xs ys (All-tail (IsOneFunction a b) (shown_root a x, shown_root b x) (zip (map (shown_root a) names ++ xs) (map (shown_root b) names ++ ys)) all) in
      (λ n h. by n h rest.0, rest.1)
    where
      by : (n : Name) → In n (x ∷ names) → ((m : Name) → In m names → IsOneFunction a b (shown_root a m, shown_root b m)) → IsOneFunction a b (shown_root a n, shown_root b n)
      by n here rest = All-head (IsOneFunction a b) (shown_root a x, shown_root b x) (zip (map (shown_root a) names ++ xs) (map (shown_root b) names ++ ys)) all
      by n (there h) rest = rest n h

-- ---- what outputs show

shown_value : (vars : List Name) (w : List Bool) (es : List Equation) (n : Name) → In n (map (λ (e : Equation). e.name) es)
    → All (λ (e : Equation). value_at vars w e.name ≡ val e.expr w) es → value_at vars w n ≡ val (expression_of es n) w
shown_value vars w [] n h all = elim h [ ]
shown_value vars w (e ∷ es) n h all = by (is_same_name e.name n) refl h (λ p. shown_value vars w es n p (All-tail (λ (e : Equation). value_at vars w e.name ≡ val e.expr w) e es all)) where
  first : value_at vars w e.name ≡ val e.expr w
  first = All-head (λ (e : Equation). value_at vars w e.name ≡ val e.expr w) e es all

  either : (m : Name) → In m (e.name ∷ map (λ (e : Equation). e.name) es) → (m ≡ e.name) ⊎ In m (map (λ (e : Equation). e.name) es)
  either m here = inl refl
  either m (there p) = inr p

  later : is_same_name e.name n ≡ false → In n (e.name ∷ map (λ (e : Equation). e.name) es) → In n (map (λ (e : Equation). e.name) es)
  later t h = elim (either n h) [
    | inl same ↦ absurd (let s : is_same_name e.name n ≡ true = subst (λ (m : Name). is_same_name e.name m ≡ true) (sym same) (same_name-itself e.name) in cc (s, t))
    | inr p ↦ p
  ]

  by : (b : Bool) → is_same_name e.name n ≡ b → In n (e.name ∷ map (λ (e : Equation). e.name) es) → (In n (map (λ (e : Equation). e.name) es) → value_at vars w n ≡ val (expression_of es n) w)
      → value_at vars w n ≡ val (if b then e.expr else expression_of es n) w
  by true t h rest = ap (value_at vars w) (sym (same_name-true e.name n t)) ∙ first
  by false t h rest = rest (later t h)

values_same : (xs ys : List Name) (w v : List Bool) (asked : List Name) → ((n : Name) → In n asked → value_at ys v n ≡ value_at xs w n) → values_at ys v asked ≡ values_at xs w asked
values_same xs ys w v [] h = refl
values_same xs ys w v (n ∷ asked) h = λ j. h n here j ∷ values_same xs ys w v asked (λ m i. h m (there i)) j

value_same : (xs ys : List Name) (w v : List Bool) (asked : List Name) → values_at ys v asked ≡ values_at xs w asked → (n : Name) → In n asked → value_at ys v n ≡ value_at xs w n
value_same xs ys w v [] e n h = elim h [ ]
value_same xs ys w v (m ∷ asked) e n here = cc e
value_same xs ys w v (m ∷ asked) e n (there h) = value_same xs ys w v asked (cc e) n h

module _ (a b : Machine) (ca : IsChecked a) (cb : IsChecked b) (same : HaveSameNames a b) (s i w v : List Bool) (p : Settles a s i w) (q : Settles b s i v) where
  length_s : (m : Machine) (w : List Bool) → Settles m s i w → length s ≡ length m.registers
  length_s m w p = ap length (sym p.registers) ∙ length-map (register_names m) (value_at m.vars w) ∙ length-map m.registers (λ (r : Register). r.name)

  length_i : (m : Machine) (w : List Bool) → Settles m s i w → length i ≡ length (inputs m)
  length_i m w p = ap length (sym p.inputs) ∙ length-map (inputs m) (value_at m.vars w)

  is_built : (m : Machine) → IsOrdered m → (w : List Bool) → Settles m s i w → w ≡ built (i ++ s) m.equations
  is_built m om w p =
      let once = settles_once_known m s i (known m om) (length_s m w p) (length_i m w p) in
      once.2 w p ∙ sym (once.2 (built (i ++ s) m.equations) (built_settles m s i om (length_s m w p) (length_i m w p)))

  long : (m : Machine) (w : List Bool) → Settles m s i w → length (i ++ s) ≡ held_count m
  long m w p =
      length-append i s ∙ (λ j. length_i m w p j + length_s m w p j)
      ∙ ap (λ (n : ℕ). length (inputs m) + n) (sym (length-map m.registers (λ (r : Register). r.name))) ∙ sym (length-append (inputs m) (register_names m))

  -- an expression has the value of its expansion
  value_is : (m : Machine) → IsOrdered m → (w : List Bool) → Settles m s i w → (e : Expression) → val (expansion m e) (i ++ s) ≡ val e w
  value_is m om w p e = value_of_expansion m (i ++ s) e (long m w p) ∙ ap (val e) (sym (is_built m om w p))

  one_value : (r t : Root) → IsOneFunction a b (r, t) → val t.expr v ≡ val r.expr w
  one_value r t f = sym (value_is b cb.ordered v q t.expr) ∙ sym (f (i ++ s)) ∙ value_is a ca.ordered w p r.expr

  same_outputs : outputs b ≡ outputs a
  same_outputs = same Output

  shows : ((n : Name) → In n (outputs a) → IsOneFunction a b (shown_root a n, shown_root b n)) → outs b v ≡ outs a w
  shows all = ap (values_at b.vars v) same_outputs ∙ values_same a.vars b.vars w v (outputs a) (λ n h.
      shown_value b.vars v b.equations n (cb.driven n (subst (λ (l : List Name). In n l) (sym same_outputs) h)) q.equations
      ∙ one_value (shown_root a n) (shown_root b n) (all n h)
      ∙ sym (shown_value a.vars w a.equations n (ca.driven n h) p.equations))

  held : (n : Name) → In n (register_names a) → value_at b.vars v n ≡ value_at a.vars w n
  held = value_same a.vars b.vars w v (register_names a) (ap (values_at b.vars v) (sym (same Stored)) ∙ q.registers ∙ sym p.registers)

  loads : (rs ts : List Register) → map (λ (r : Register). r.name) ts ≡ map (λ (r : Register). r.name) rs → ((n : Name) → In n (map (λ (r : Register). r.name) rs) → value_at b.vars v n ≡ value_at a.vars w n)
      → All (IsOneFunction a b) (zip (register_roots rs) (register_roots ts))
      → map (λ (r : Register). if val r.enable v then val r.next v else value_at b.vars v r.name) ts ≡ map (λ (r : Register). if val r.enable w then val r.next w else value_at a.vars w r.name) rs
  loads [] [] e h all = refl
  loads [] (t ∷ ts) e h all = absurd (cc e)
  loads (r ∷ rs) [] e h all = absurd (cc e)
  loads (r ∷ rs) (t ∷ ts) e h all =
      let names = head_same t.name r.name (map (λ (r : Register). r.name) ts) (map (λ (r : Register). r.name) rs) e in
      let next_a : Root = record { name = r.name; expr = r.next } in
      let next_b : Root = record { name = t.name; expr = t.next } in
      let enable_a : Root = record { name = r.name; expr = r.enable } in
      let enable_b : Root = record { name = t.name; expr = t.enable } in
      let rest = All-tail (IsOneFunction a b) (next_a, next_b) ((enable_a, enable_b) ∷ zip (register_roots rs) (register_roots ts)) all in
      let n = one_value next_a next_b (All-head (IsOneFunction a b) (next_a, next_b) ((enable_a, enable_b) ∷ zip (register_roots rs) (register_roots ts)) all) in
      let g = one_value enable_a enable_b (All-head (IsOneFunction a b) (enable_a, enable_b) (zip (register_roots rs) (register_roots ts)) rest) in
      let k = ap (value_at b.vars v) names.0 ∙ h r.name here in
      let more = loads rs ts names.1 (λ m i. h m (there i)) (All-tail (IsOneFunction a b) (enable_a, enable_b) (zip (register_roots rs) (register_roots ts)) rest) in
      λ j. (if g j then n j else k j) ∷ more j

  both : AreEqual a b → (outs b v ≡ outs a w) × (next b v ≡ next a w)
  both equal =
      let all : All (IsOneFunction a b) (zip (map (shown_root a) (outputs a) ++ register_roots a.registers) (map (shown_root b) (outputs a) ++ register_roots b.registers)) =
      subst (λ (l : List Name). All (IsOneFunction a b) (zip (roots a) (map (shown_root b) l ++ register_roots b.registers))) same_outputs equal in
      let parts = shown_all a b (outputs a) (register_roots a.registers) (register_roots b.registers) all in
      (shows parts.0, loads a.registers b.registers (same Stored) held parts.1)

pub equal_alike : EqualAreAlike
equal_alike a b ca cb named same equal = record {
  name = named;
  ports = ports_same a.ports b.ports (rising (names_of a.ports) ca.ports) (rising (names_of b.ports) cb.ports) (same Input) (same Output);
  clock = same_clock a b same;
  registers = same Stored;
  shows = λ s i w v p q. (both a b ca cb same s i w v p q equal).0;
  loads = λ s i w v p q. (both a b ca cb same s i w v p q equal).1;
}
