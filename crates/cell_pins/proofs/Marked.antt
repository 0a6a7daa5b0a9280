-- The marks of a machine's names, when all equations are through, are those of the names that depend on the input.
use Rattle.std.proofs.Common.{◌≡◌, ◌↔◌, ℕ, zero, suc, ◌<◌, Bool, true, false, ◌||◌, List, [], ◌∷◌, ◌++◌, map, length, refl, sym, ◌∙◌, ap, subst, arith, append_assoc, length-append, Some, slice_get, cond}
use Rattle.std.specs.List.{list_any}
use Rattle.vlsi_base.specs.declared.name.Name.{Name}
use Rattle.bool_expr.specs.Expression.{variables, bit, IsOver}
use Rattle.machine_core.specs.Machine.{Machine, Equation, Register, inputs, register_names}
use Rattle.machine_core.specs.Named.{is_same_name, value_at}
use Rattle.machine_core.specs.Order.{In, here, there, AllDifferent, held_names, equation_names, EachReadsBelow, IsOrdered}
use Rattle.machine_core.proofs.Known.{IsOver-In}
use Rattle.machine_core.proofs.Names.{same_name-true, same_name-itself}
use Rattle.cell_model.proofs.Members.{In-left, In-right, In-map}
use Rattle.cell_pins.specs.Follows.{Reads, Follows, itself, reads}
use Rattle.cell_pins.specs.Marks.{reads_mark, starts, marked}

-- each mark tells whether its name depends on the input
abbrev pub Right : Machine → Name → List Name → List Bool → Type 0
Right m input [] [] = Unit {0}
Right m input [] (b ∷ bs) = ⊥
Right m input (n ∷ ns) [] = ⊥
Right m input (n ∷ ns) (b ∷ bs) = ((b ≡ true) ↔ Follows m input n) × Right m input ns bs

right_at : (m : Machine) (input : Name) (ns : List Name) (bs : List Bool) (k : ℕ) (n : Name) → Right m input ns bs → slice_get ns k ≡ Some n
    → (bit bs k ≡ true) ↔ Follows m input n
right_at m input [] bs k n r at = absurd cc
right_at m input (x ∷ ns) [] k n r at = absurd r
right_at m input (x ∷ ns) (b ∷ bs) zero n r at = let is : x ≡ n = cc in subst (λ y. (b ≡ true) ↔ Follows m input y) is r.0
right_at m input (x ∷ ns) (b ∷ bs) (suc k) n r at = right_at m input ns bs k n r.1 at

right_append : (m : Machine) (input : Name) (ns os : List Name) (bs cs : List Bool) → Right m input ns bs → Right m input os cs → Right m input (ns ++ os) (bs ++ cs)
right_append m input [] os [] cs r q = q
right_append m input [] os (b ∷ bs) cs r q = absurd r
right_append m input (n ∷ ns) os [] cs r q = absurd r
right_append m input (n ∷ ns) os (b ∷ bs) cs r q = (r.0, right_append m input ns os bs cs r.1 q)

-- ---- names that are different

front_apart : (xs ys : List Name) (x : Name) → AllDifferent (xs ++ ys) → In x xs → In x ys → ⊥
front_apart [] ys x d i j = elim i [ ]
front_apart (y ∷ xs) ys x d here j = d.0 (In-right y xs ys j)
front_apart (y ∷ xs) ys x d (there i) j = front_apart xs ys x d.1 i j

back_different : (xs ys : List Name) → AllDifferent (xs ++ ys) → AllDifferent ys
back_different [] ys d = d
back_different (x ∷ xs) ys d = back_different xs ys d.1

same_equation : (es : List Equation) (a b : Equation) → AllDifferent (map (λ e. e.name) es) → In a es → In b es → a.name ≡ b.name → a ≡ b
same_equation [] a b d i j same = elim i [ ]
same_equation (e ∷ es) a b d here here same = refl
same_equation (e ∷ es) a b d here (there q) same = absurd (d.0 (subst (λ n. In n (map (λ x. x.name) es)) (sym same) (In-map (λ x. x.name) b es q)))
same_equation (e ∷ es) a b d (there p) here same = absurd (d.0 (subst (λ n. In n (map (λ x. x.name) es)) same (In-map (λ x. x.name) a es p)))
same_equation (e ∷ es) a b d (there p) (there q) same = same_equation es a b d.1 p q same

-- what is known of an ordered machine's names
record Parts (m : Machine) : Type 0 where
  pub once : AllDifferent (equation_names m)
  pub registers : (n : Name) → In n (register_names m) → In n (inputs m) → ⊥
  pub held : (n : Name) → In n (held_names m) → In n (equation_names m) → ⊥

parts_of : (m : Machine) → IsOrdered m → Parts m
parts_of m o =
    let d : AllDifferent (held_names m ++ equation_names m) = subst (λ (ns : List Name). AllDifferent ns) o.vars o.different in
    let e : AllDifferent (inputs m ++ (register_names m ++ equation_names m)) = subst (λ (ns : List Name). AllDifferent ns) (append_assoc (inputs m) (register_names m) (equation_names m)) d in
    record {
      once = back_different (held_names m) (equation_names m) d;
      registers = λ n r i. front_apart (inputs m) (register_names m ++ equation_names m) n e i (In-left n (register_names m) (equation_names m) r);
      held = λ n h q. front_apart (held_names m) (equation_names m) n d h q;
    }

-- ---- the first marks

held_follows : (m : Machine) (input n : Name) → Parts m → In n (held_names m) → Follows m input n → (n ≡ input) × In input (inputs m)
held_follows m input n p h (itself i) = (refl, i)
held_follows m input n p h (reads e name i r f) = absurd (p.held e.name h (In-map (λ x. x.name) e m.equations i))

right_inputs : (m : Machine) (input : Name) (ns : List Name) → Parts m → ((n : Name) → In n ns → In n (inputs m)) → Right m input ns (map (λ name. is_same_name name input) ns)
right_inputs m input [] p within = tt
right_inputs m input (n ∷ ns) p within = (
  (
    λ t. let is : n ≡ input = same_name-true n input t in subst (λ x. Follows m input x) (sym is) (itself (subst (λ x. In x (inputs m)) is (within n here))),
    λ f. let is = (held_follows m input n p (In-left n (inputs m) (register_names m) (within n here)) f).0 in subst (λ x. is_same_name x input ≡ true) (sym is) (same_name-itself input),
  ),
  right_inputs m input ns p (λ x i. within x (there i)),
)

right_registers : (m : Machine) (input : Name) (rs : List Register) → Parts m → ((n : Name) → In n (map (λ r. r.name) rs) → In n (register_names m)) → Right m input (map (λ r. r.name) rs) (map (λ r. false) rs)
right_registers m input [] p within = tt
right_registers m input (r ∷ rs) p within = (
  (
    λ t. absurd cc,
    λ f. let i = within r.name here in
        let h = held_follows m input r.name p (In-right r.name (inputs m) (register_names m) i) f in
        absurd (p.registers r.name i (subst (λ x. In x (inputs m)) (sym h.0) h.1)),
  ),
  right_registers m input rs p (λ x i. within x (there i)),
)

right_starts : (m : Machine) (input : Name) → Parts m → Right m input (held_names m) (starts m input)
right_starts m input p =
    right_append m input (inputs m) (register_names m) (map (λ name. is_same_name name input) (inputs m)) (map (λ r. false) m.registers)
    (right_inputs m input (inputs m) p (λ n i. i)) (right_registers m input m.registers p (λ n i. i))

-- ---- one equation

pub any_member : (p : ℕ → Bool) (xs : List ℕ) → list_any p xs ≡ true → (k : ℕ) × In k xs × (p k ≡ true)
any_member p [] h = absurd cc
any_member p (x ∷ xs) h = by (p x) refl h (λ e. any_member p xs e) where
  by : (b : Bool) → p x ≡ b → (b || list_any p xs) ≡ true → (list_any p xs ≡ true → (k : ℕ) × In k xs × (p k ≡ true)) → (k : ℕ) × In k (x ∷ xs) × (p k ≡ true)
  by true is e later = (x, here, is)
  by false is e later = let r = later e in (r.0, there r.1, r.2)

member_any : (p : ℕ → Bool) (xs : List ℕ) (k : ℕ) → In k xs → p k ≡ true → list_any p xs ≡ true
member_any p [] k i h = elim i [ ]
member_any p (x ∷ xs) k here h = rw h refl
member_any p (x ∷ xs) k (there i) h = by (p x) (member_any p xs k i h) where
  by : (b : Bool) → list_any p xs ≡ true → (b || list_any p xs) ≡ true
  by true e = refl
  by false e = e

front_get : (xs ys : List Name) (k : ℕ) → k < length xs → slice_get (xs ++ ys) k ≡ slice_get xs k
front_get [] ys k h = absurd (omega arith)
front_get (x ∷ xs) ys zero h = refl
front_get (x ∷ xs) ys (suc k) h = front_get xs ys k (omega arith)

some_get : (xs : List Name) (k : ℕ) → k < length xs → (x : Name) × (slice_get xs k ≡ Some x)
some_get [] k h = absurd (omega arith)
some_get (x ∷ xs) zero h = (x, refl)
some_get (x ∷ xs) (suc k) h = some_get xs k (omega arith)

follows_reads : (m : Machine) (input n : Name) (e : Equation) → Parts m → In e m.equations → Follows m input n → n ≡ e.name
    → (name : Name) × Reads m e.expr name × Follows m input name
follows_reads m input n e p i (itself j) is =
    absurd (p.held e.name (In-left e.name (inputs m) (register_names m) (subst (λ x. In x (inputs m)) is j)) (In-map (λ x. x.name) e m.equations i))
follows_reads m input n e p i (reads other name j r f) is =
    let same = same_equation m.equations other e p.once j i is in (name, subst (λ (x : Equation). Reads m x.expr name) same r, f)

right_step : (m : Machine) (input : Name) (front back : List Name) (marks : List Bool) (e : Equation) → Parts m → In e m.equations
    → m.vars ≡ front ++ back → IsOver e.expr (length front) → Right m input front marks
    → (reads_mark marks e.expr ≡ true) ↔ Follows m input e.name
right_step m input front back marks e p i vars over right = (
  λ t.
      let r = any_member (bit marks) (variables e.expr) t in
      let low = IsOver-In e.expr (length front) over r.0 r.1 in
      let n = some_get front r.0 low in
      let at : slice_get m.vars r.0 ≡ Some n.0 = ap (λ (ns : List Name). slice_get ns r.0) vars ∙ front_get front back r.0 low ∙ n.1 in
      reads e n.0 i (r.0, r.1, at) ((right_at m input front marks r.0 n.0 right n.1).0 r.2),
  λ f.
      let r = follows_reads m input e.name e p i f refl in
      let k = r.1.0 in
      let low = IsOver-In e.expr (length front) over k r.1.1 in
      let at : slice_get front k ≡ Some r.0 = sym (front_get front back k low) ∙ ap (λ (ns : List Name). slice_get ns k) (sym vars) ∙ r.1.2 in
      member_any (bit marks) (variables e.expr) k r.1.1 ((right_at m input front marks k r.0 right at).1 r.2),
)

right_all : (m : Machine) (input : Name) (front : List Name) (marks : List Bool) (es : List Equation) → Parts m → ((e : Equation) → In e es → In e m.equations)
    → m.vars ≡ front ++ map (λ e. e.name) es → EachReadsBelow (length front) es → Right m input front marks → Right m input m.vars (marked marks es)
right_all m input front marks [] p within vars below right =
    subst (λ (ns : List Name). Right m input ns marks) (sym (vars ∙ append_nil front)) right where
      append_nil : (ns : List Name) → ns ++ [] ≡ ns
      append_nil [] = refl
      append_nil (n ∷ ns) = ap (λ (xs : List Name). n ∷ xs) (append_nil ns)
right_all m input front marks (e ∷ es) p within vars below right =
    right_all m input (front ++ e.name ∷ []) (marks ++ reads_mark marks e.expr ∷ []) es p (λ x i. within x (there i))
    (vars ∙ sym (append_assoc front (e.name ∷ []) (map (λ x. x.name) es)))
    (let P : ℕ → Type 0 = λ n. EachReadsBelow n es in subst P (sym (length-append front (e.name ∷ []))) below.1)
    (right_append m input front (e.name ∷ []) marks (reads_mark marks e.expr ∷ []) right
    (right_step m input front (e.name ∷ map (λ x. x.name) es) marks e p (within e here) vars below.0 right, tt))

-- ---- the mark beside a name

found_follows : (m : Machine) (input name : Name) (ns : List Name) (bs : List Bool) → Right m input ns bs → value_at ns bs name ≡ true → Follows m input name
found_follows m input name [] bs r h = absurd cc
found_follows m input name (n ∷ ns) [] r h = absurd r
found_follows m input name (n ∷ ns) (b ∷ bs) r h = by (is_same_name n name) refl h (λ e. found_follows m input name ns bs r.1 e) where
  by : (t : Bool) → is_same_name n name ≡ t → cond t b (value_at ns bs name) ≡ true → (value_at ns bs name ≡ true → Follows m input name) → Follows m input name
  by true is e later = subst (λ x. Follows m input x) (same_name-true n name is) (r.0.0 e)
  by false is e later = later e

later_in : (n name : Name) (ns : List Name) → is_same_name n name ≡ false → In name (n ∷ ns) → In name ns
later_in n name ns e here = absurd (let t : is_same_name n n ≡ true = same_name-itself n in cc)
later_in n name ns e (there h) = h

follows_found : (m : Machine) (input name : Name) (ns : List Name) (bs : List Bool) → Right m input ns bs → In name ns → Follows m input name → value_at ns bs name ≡ true
follows_found m input name [] bs r i f = elim i [ ]
follows_found m input name (n ∷ ns) [] r i f = absurd r
follows_found m input name (n ∷ ns) (b ∷ bs) r i f = by (is_same_name n name) refl (λ j. follows_found m input name ns bs r.1 j f) where
  by : (t : Bool) → is_same_name n name ≡ t → (In name ns → value_at ns bs name ≡ true) → cond t b (value_at ns bs name) ≡ true
  by true is rest = r.0.1 (subst (λ x. Follows m input x) (sym (same_name-true n name is)) f)
  by false is rest = rest (later_in n name ns is i)

follows_named : (m : Machine) (input name : Name) → IsOrdered m → Follows m input name → In name m.vars
follows_named m input name o (itself i) =
    subst (λ (ns : List Name). In name ns) (sym o.vars) (In-left name (held_names m) (equation_names m) (In-left name (inputs m) (register_names m) i))
follows_named m input name o (reads e n i r f) =
    subst (λ (ns : List Name). In e.name ns) (sym o.vars) (In-right e.name (held_names m) (equation_names m) (In-map (λ x. x.name) e m.equations i))

right_marks : (m : Machine) (input : Name) → IsOrdered m → Right m input m.vars (marked (starts m input) m.equations)
right_marks m input o =
    let p = parts_of m o in right_all m input (held_names m) (starts m input) m.equations p (λ e i. i) o.vars o.below (right_starts m input p)

right_length : (m : Machine) (input : Name) (ns : List Name) (bs : List Bool) → Right m input ns bs → length bs ≡ length ns
right_length m input [] [] r = refl
right_length m input [] (b ∷ bs) r = absurd r
right_length m input (n ∷ ns) [] r = absurd r
right_length m input (n ∷ ns) (b ∷ bs) r = ap suc (right_length m input ns bs r.1)

pub marks_are_right : (m : Machine) (input name : Name) → IsOrdered m → (value_at m.vars (marked (starts m input) m.equations) name ≡ true) ↔ Follows m input name
marks_are_right m input name o =
    let r = right_marks m input o in (
      λ t. found_follows m input name m.vars (marked (starts m input) m.equations) r t,
      λ f. follows_found m input name m.vars (marked (starts m input) m.equations) r (follows_named m input name o f) f,
    )

pub marks_fit : (m : Machine) (input : Name) → IsOrdered m → length (marked (starts m input) m.equations) ≡ length m.vars
marks_fit m input o = right_length m input m.vars (marked (starts m input) m.equations) (right_marks m input o)

pub starts_fit : (m : Machine) (input : Name) → IsOrdered m → length (starts m input) ≡ length (held_names m)
starts_fit m input o = right_length m input (held_names m) (starts m input) (right_starts m input (parts_of m o))
