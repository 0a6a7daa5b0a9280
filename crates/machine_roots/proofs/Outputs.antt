-- The equations of outputs, found by name, and the list of roots.
use Rattle.std.proofs.Common.{◌≡◌, ◌⊎◌, inl, inr, ℕ, zero, suc, ◌+◌, ◌-◌, ◌<◌, ◌≤◌, Bool, true, false, not, List, [], ◌∷◌, ◌++◌, length, map, filter, drop, replicate, slice_get, Option, None, Some, refl, sym, ◌∙◌, ap, subst, arith, append_assoc, append-nil, add-one, drop-cons, length-append, if◌then◌else◌}
use Rattle.std.specs.Prelude.{option_map, is_some, IfSome, IsSomeAnd}
use Rattle.std.proofs.lemmas.Option.{slice_get_within}
use Rattle.std.specs.List.{All, slice_index_or}
use Rattle.std.specs.Option.{option_or}
use Rattle.std.specs.Cmp.{eq_by_cmp_equiv}
use Rattle.std.specs.FinMap.{empty, get, get-empty}
use Rattle.std.specs.Ordering.{eq_by_cmp, is_eq}
use Rattle.std.specs.declared.cmp.Ordering.{Ordering}
use Rattle.std.specs.declared.cmp.Ordering.TheVariants.{Less, Equal, Greater}
use Rattle.std.proofs.lemmas.List.{length-map}
use Rattle.std.proofs.lemmas.List.Elements.{All-push}
use Rattle.vlsi_base.specs.declared.name.Name.{Name}
use Rattle.vlsi_base.specs.declared.name.Port.{Port}
use Rattle.vlsi_base.specs.Member.{In, here, there, AllDifferent}
use Rattle.vlsi_base.specs.Name.{name_cmp}
use Rattle.vlsi_base.specs.NamePlaces.{NamePlaces, last_place}
use Rattle.vlsi_base.proofs.NameOrder.{name_total, name_exact}
use Rattle.bool_expr.specs.View.{view}
use Rattle.machine_core.specs.Named.{is_same_name}
use Rattle.machine_core.specs.declared.equation.Equation.{Equation as EquationParts}
use Rattle.machine_core.specs.Machine.{Equation, is_input, names_of}
use Rattle.machine_core.specs.View.{equation_view}
use Rattle.machine_core.proofs.Names.{same_name-itself, same_name-false}
use Rattle.machine_core.proofs.Values.{In-right}
use Rattle.machine_roots.specs.declared.listing.RootExpr.{RootExpr}
use Rattle.machine_roots.specs.Roots.{Root, expression_of}
use Rattle.machine_roots.specs.Listing.{root_view, IsPlaced, AreOutputRoots}
use Rattle.machine_walk.proofs.Reaching.{also_in}

-- ---- a name has its place in an index

-- where a name stands last, it stands
abbrev IsPlace : List Name → Name → Option ℕ → Type 0
IsPlace names name None = In name names → ⊥
IsPlace names name (Some j) = slice_get names j ≡ Some name

tie : (n name : Name) → eq_by_cmp name_cmp n name ≡ true → name ≡ n
tie n name h = by (name_cmp n name) refl h where
  by : (o : Ordering) → name_cmp n name ≡ o → is_eq o ≡ true → name ≡ n
  by Less is e = absurd (cc e)
  by Greater is e = absurd (cc e)
  by Equal is e = sym (name_exact n name is)

no_tie : (n name : Name) → eq_by_cmp name_cmp n name ≡ false → name ≡ n → ⊥
no_tie n name h same =
    let yes : eq_by_cmp name_cmp n n ≡ true = (eq_by_cmp_equiv name_total).refl n in
    let no : eq_by_cmp name_cmp n n ≡ false = subst (λ (x : Name). eq_by_cmp name_cmp n x ≡ false) same h in
    absurd (cc (yes, no))

place_is : (names : List Name) (name : Name) → IsPlace names name (last_place names name)
place_is [] name = λ h. elim h [ ]
place_is (n ∷ names) name = by (last_place names name) (eq_by_cmp name_cmp n name) refl (place_is names name) where
  by : (o : Option ℕ) (b : Bool) → eq_by_cmp name_cmp n name ≡ b → IsPlace names name o
      → IsPlace (n ∷ names) name (option_or (option_map (λ k. k + 1) o) (if b then Some 0 else None))
  by None true e h = ap (λ (x : Name). Some x) (sym (tie n name e))
  by None false e h = λ g. elim (also_in name n names g) [ inl same ↦ no_tie n name e same | inr later ↦ h later ]
  by (Some j) b e h = let P : ℕ → Type 0 = λ k. slice_get (n ∷ names) k ≡ Some name in let plus : suc j ≡ j + 1 = sym (add-one j) in subst P plus h

-- an index of names has a place for each of them
pub record Found (places : NamePlaces) (names : List Name) (name : Name) : Type 0 where
  pub place : ℕ
  pub is : get places name ≡ Some place
  pub stands : slice_get names place ≡ Some name

pub found : (old places : NamePlaces) (names : List Name) (name : Name) → old ≡ empty → ((n : Name) → get places n ≡ option_or (last_place names n) (get old n)) → In name names
    → Found places names name
found old places names name none has listed =
    by (last_place names name) (place_is names name) (has name ∙ ap (λ m. option_or (last_place names name) (get m name)) none ∙ ap (option_or (last_place names name)) (get-empty name_cmp name)) where
      by : (o : Option ℕ) → IsPlace names name o → get places name ≡ option_or o None → Found places names name
      by None h e = absurd (h listed)
      by (Some j) h e = record { place = j; is = e; stands = h }

-- ---- among different names each has one place

in_place : (xs : List Name) (i : ℕ) (x : Name) → slice_get xs i ≡ Some x → In x xs
in_place [] i x at = absurd (cc at)
in_place (y ∷ xs) zero x at = let e : y ≡ x = cc at in subst (λ (z : Name). In z (y ∷ xs)) e here
in_place (y ∷ xs) (suc i) x at = there (in_place xs i x at)

one_place : (xs : List Name) (i j : ℕ) (x : Name) → AllDifferent xs → slice_get xs i ≡ Some x → slice_get xs j ≡ Some x → i ≡ j
one_place [] i j x d at to = absurd (cc at)
one_place (y ∷ xs) zero zero x d at to = refl
one_place (y ∷ xs) zero (suc j) x d at to = let e : x ≡ y = cc at in absurd (d.0 (subst (λ (z : Name). In z xs) e (in_place xs j x to)))
one_place (y ∷ xs) (suc i) zero x d at to = let e : x ≡ y = cc to in absurd (d.0 (subst (λ (z : Name). In z xs) e (in_place xs i x at)))
one_place (y ∷ xs) (suc i) (suc j) x d at to = ap suc (one_place xs i j x d.1 at to)

-- the number of a name's equation
pub record Driven (es : List EquationParts) (name : Name) : Type 0 where
  pub number : ℕ
  pub equation : EquationParts
  pub at : slice_get es number ≡ Some equation
  pub named : equation.name ≡ name

driven : (es : List EquationParts) (name : Name) → In name (map (λ e. e.name) es) → Driven es name
driven [] name h = elim h [ ]
driven (e ∷ es) name h = by (also_in name e.name (map (λ e. e.name) es) h) (λ p. driven es name p) where
  deeper : Driven es name → Driven (e ∷ es) name
  deeper d = record { number = suc d.number; equation = d.equation; at = d.at; named = d.named }

  by : (name ≡ e.name) ⊎ In name (map (λ e. e.name) es) → (In name (map (λ e. e.name) es) → Driven es name) → Driven (e ∷ es) name
  by (inl p) rest = record { number = 0; equation = e; at = refl; named = sym p }
  by (inr p) rest = deeper (rest p)

behind_at : (held : List Name) (es : List EquationParts) (k : ℕ) (e : EquationParts) → slice_get es k ≡ Some e → slice_get (held ++ map (λ x. x.name) es) (length held + k) ≡ Some e.name
behind_at [] [] k e at = absurd (cc at)
behind_at [] (x ∷ es) zero e at = let s : x ≡ e = cc at in let z : 0 + 0 ≡ 0 = omega arith in ap (λ (i : ℕ). slice_get (map (λ x. x.name) (x ∷ es)) i) z ∙ ap (λ (y : EquationParts). Some y.name) s
behind_at [] (x ∷ es) (suc k) e at =
    let z : 0 + suc k ≡ suc (0 + k) = omega arith in ap (λ (i : ℕ). slice_get (map (λ x. x.name) (x ∷ es)) i) z ∙ behind_at [] es k e at
behind_at (h ∷ held) es k e at =
    let z : length (h ∷ held) + k ≡ suc (length held + k) = omega arith in
    ap (λ (i : ℕ). slice_get (h ∷ (held ++ map (λ x. x.name) es)) i) z ∙ behind_at held es k e at

-- the place of an equation's name among all names
pub place_of_driven : (names held : List Name) (es : List EquationParts) (name : Name) (place : ℕ) (d : Driven es name) → names ≡ held ++ map (λ e. e.name) es → AllDifferent names
    → slice_get names place ≡ Some name → place ≡ length held + d.number
place_of_driven names held es name place d ends different at =
    one_place names place (length held + d.number) name different at
    (ap (λ (xs : List Name). slice_get xs (length held + d.number)) ends ∙ behind_at held es d.number d.equation d.at ∙ ap (λ (x : Name). Some x) d.named)

-- what its equation says
different_behind : (held : List Name) (xs : List Name) → AllDifferent (held ++ xs) → AllDifferent xs
different_behind [] xs d = d
different_behind (h ∷ held) xs d = different_behind held xs d.1

name_in : (es : List EquationParts) (k : ℕ) (e : EquationParts) → slice_get es k ≡ Some e → In e.name (map (λ x. x.name) es)
name_in [] k e at = absurd (cc at)
name_in (x ∷ es) zero e at = let s : x ≡ e = cc at in subst (λ (y : EquationParts). In y.name (map (λ z. z.name) (x ∷ es))) s here
name_in (x ∷ es) (suc k) e at = there (name_in es k e at)

expression_at : (es : List EquationParts) (k : ℕ) (e : EquationParts) → AllDifferent (map (λ x. x.name) es) → slice_get es k ≡ Some e
    → expression_of (map equation_view es) e.name ≡ view e.expr
expression_at [] k e d at = absurd (cc at)
expression_at (x ∷ es) zero e d at =
    let s : x ≡ e = cc at in
    let same : is_same_name x.name e.name ≡ true = ap (λ (y : EquationParts). is_same_name x.name y.name) (sym s) ∙ same_name-itself x.name in
    ap (λ (b : Bool). if b then view x.expr else expression_of (map equation_view es) e.name) same ∙ ap (λ (y : EquationParts). view y.expr) s
expression_at (x ∷ es) (suc k) e d at =
    let other : is_same_name x.name e.name ≡ false = same_name-false x.name e.name (λ p. d.0 (subst (λ (z : Name). In z (map (λ y. y.name) es)) (sym p) (name_in es k e at))) in
    ap (λ (b : Bool). if b then view x.expr else expression_of (map equation_view es) e.name) other ∙ expression_at es k e d.1 at

view_at : (es : List EquationParts) (k : ℕ) (e : EquationParts) → slice_get es k ≡ Some e → slice_get (map equation_view es) k ≡ Some (equation_view e)
view_at [] k e at = absurd (cc at)
view_at (x ∷ es) zero e at = let s : x ≡ e = cc at in ap (λ (y : EquationParts). Some (equation_view y)) s
view_at (x ∷ es) (suc k) e at = view_at es k e at

-- ---- the root of an output

abbrev pub root_of : List Equation → Name → Root
root_of equations name = record { name = name; expr = expression_of equations name }

pub record IsOutputRoot (equations : List Equation) (name : Name) (r : RootExpr) : Type 0 where
  pub view_is : root_view r ≡ root_of equations name
  pub placed : IsPlaced equations r
  pub shown : is_some r.equation ≡ true

root_is : (a b : Root) → a.name ≡ b.name → a.expr ≡ b.expr → a ≡ b
root_is a b n e = λ j. record { name = n j; expr = e j }

pub output_root_is : (names held : List Name) (es : List EquationParts) (name : Name) (d : Driven es name) (r : RootExpr) → names ≡ held ++ map (λ e. e.name) es → AllDifferent names
    → r.name.now ≡ name → r.equation ≡ Some d.number → view r.expr.now ≡ view d.equation.expr → IsOutputRoot (map equation_view es) name r
output_root_is names held es name d r ends different named number says = record {
  view_is = root_is (root_view r) (root_of (map equation_view es) name) named (says ∙ sym expr_is);
  placed = subst (λ (o : Option ℕ). IfSome o (λ k. slice_get (map equation_view es) k ≡ Some (record { name = r.name.now; expr = view r.expr.now }))) (sym number)
      (view_at es d.number d.equation d.at ∙ (λ j. Some (equation_is j)));
  shown = ap (λ (o : Option ℕ). is_some o) number;
}
  where
    apart : AllDifferent (map (λ e. e.name) es)
    apart = different_behind held (map (λ e. e.name) es) (subst AllDifferent ends different)

    expr_is : expression_of (map equation_view es) name ≡ view d.equation.expr
    expr_is = ap (expression_of (map equation_view es)) (sym d.named) ∙ expression_at es d.number d.equation apart d.at

    name_is : d.equation.name ≡ r.name.now
    name_is = d.named ∙ sym named

    equation_is : equation_view d.equation ≡ record { name = r.name.now; expr = view r.expr.now }
    equation_is = λ j. record { name = name_is j; expr = sym says j }

-- ---- port by port

abbrev pub outs : List Port → List Name
outs ports = names_of (filter (λ p. not (is_input p.dir)) ports)

abbrev pub roots_of : List Equation → List Name → List Root
roots_of equations names = map (root_of equations) names

-- with the outputs among the ports from number i on, all have their roots
pub record IsShowing (equations : List Equation) (ports : List Port) (i : ℕ) (listed : List RootExpr) : Type 0 where
  pub all : map root_view listed ++ roots_of equations (outs (drop i ports)) ≡ roots_of equations (outs ports)
  pub placed : All (IsPlaced equations) listed
  pub shown : map (λ r. is_some r.equation) listed ++ replicate (length (outs (drop i ports))) true ≡ replicate (length (outs ports)) true

pub none_shown : (equations : List Equation) (ports : List Port) (listed : List RootExpr) → listed ≡ [] → IsShowing equations ports 0 listed
none_shown equations ports listed e = subst (λ (xs : List RootExpr). IsShowing equations ports 0 xs) (sym e) (record {
  all = refl;
  placed = λ k d w. absurd (omega arith);
  shown = refl;
})

ports-cons : (ports : List Port) (i : ℕ) (p : Port) → i < length ports → p ≡ slice_index_or ports i p → drop i ports ≡ p ∷ drop (i + 1) ports
ports-cons ports i p h is = drop-cons ports i p h ∙ ap (λ x. x ∷ drop (suc i) ports) (sym is) ∙ ap (λ j. p ∷ drop j ports) (sym (add-one i))

outs-cons : (ports : List Port) (i : ℕ) (p : Port) (b : Bool) → i < length ports → p ≡ slice_index_or ports i p → is_input p.dir ≡ b
    → outs (drop i ports) ≡ (if not b then p.name ∷ outs (drop (i + 1) ports) else outs (drop (i + 1) ports))
outs-cons ports i p b h is test = ap outs (ports-cons ports i p h is) ∙ by (is_input p.dir) test where
  by : (c : Bool) → c ≡ b → names_of (if not c then p ∷ filter (λ q. not (is_input q.dir)) (drop (i + 1) ports) else filter (λ q. not (is_input q.dir)) (drop (i + 1) ports))
      ≡ (if not b then p.name ∷ outs (drop (i + 1) ports) else outs (drop (i + 1) ports))
  by true e = rw (sym e) refl
  by false e = rw (sym e) refl

-- an output among the ports
pub is_out : (ports : List Port) (i : ℕ) (p : Port) → i < length ports → p ≡ slice_index_or ports i p → is_input p.dir ≡ false → In p.name (outs ports)
is_out [] i p h is test = absurd (omega arith)
is_out (q ∷ ports) zero p h is test = first q p is test where
  first : (q p : Port) → p ≡ q → is_input p.dir ≡ false → In p.name (outs (q ∷ ports))
  first q p e f = subst (λ (x : Port). In p.name (outs (x ∷ ports))) e (rw f here)
is_out (q ∷ ports) (suc i) p h is test = later (is_input q.dir) (is_out ports i p (omega arith) is test) where
  later : (c : Bool) → In p.name (outs ports)
      → In p.name (names_of (if not c then q ∷ filter (λ x. not (is_input x.dir)) ports else filter (λ x. not (is_input x.dir)) ports))
  later true g = g
  later false g = there g

map-push : {B : Type 0} (f : RootExpr → B) (xs : List RootExpr) (x : RootExpr) → map f (xs ++ x ∷ []) ≡ map f xs ++ f x ∷ []
map-push f [] x = refl
map-push f (y ∷ xs) x = ap (λ ys. f y ∷ ys) (map-push f xs x)

pub shows_out : (equations : List Equation) (ports : List Port) (i : ℕ) (listed : List RootExpr) (p : Port) (r : RootExpr) → i < length ports → p ≡ slice_index_or ports i p
    → is_input p.dir ≡ false → IsOutputRoot equations p.name r → IsShowing equations ports i listed → IsShowing equations ports (i + 1) (listed ++ r ∷ [])
shows_out equations ports i listed p r h is test root w = record {
  all =
      ap (λ (xs : List Root). xs ++ roots_of equations (outs (drop (i + 1) ports))) (map-push root_view listed r)
      ∙ append_assoc (map root_view listed) (root_view r ∷ []) (roots_of equations (outs (drop (i + 1) ports)))
      ∙ ap (λ (x : Root). map root_view listed ++ (x ∷ roots_of equations (outs (drop (i + 1) ports)))) root.view_is
      ∙ ap (λ (ns : List Name). map root_view listed ++ roots_of equations ns) (sym parts) ∙ w.all;
  placed = All-push (IsPlaced equations) listed r w.placed root.placed;
  shown =
      ap (λ (xs : List Bool). xs ++ replicate (length (outs (drop (i + 1) ports))) true) (map-push (λ r. is_some r.equation) listed r)
      ∙ append_assoc (map (λ r. is_some r.equation) listed) (is_some r.equation ∷ []) (replicate (length (outs (drop (i + 1) ports))) true)
      ∙ ap (λ (b : Bool). map (λ r. is_some r.equation) listed ++ (b ∷ replicate (length (outs (drop (i + 1) ports))) true)) root.shown
      ∙ ap (λ (ns : List Name). map (λ r. is_some r.equation) listed ++ replicate (length ns) true) (sym parts) ∙ w.shown;
}
  where
    parts : outs (drop i ports) ≡ p.name ∷ outs (drop (i + 1) ports)
    parts = outs-cons ports i p false h is test

pub shows_in : (equations : List Equation) (ports : List Port) (i : ℕ) (listed : List RootExpr) (p : Port) → i < length ports → p ≡ slice_index_or ports i p
    → is_input p.dir ≡ true → IsShowing equations ports i listed → IsShowing equations ports (i + 1) listed
shows_in equations ports i listed p h is test w = record {
  all = ap (λ (ns : List Name). map root_view listed ++ roots_of equations ns) (sym parts) ∙ w.all;
  placed = w.placed;
  shown = ap (λ (ns : List Name). map (λ r. is_some r.equation) listed ++ replicate (length ns) true) (sym parts) ∙ w.shown;
}
  where
    parts : outs (drop i ports) ≡ outs (drop (i + 1) ports)
    parts = outs-cons ports i p true h is test

pub shows_end : (equations : List Equation) (ports : List Port) (i : ℕ) (listed : List RootExpr) → drop i ports ≡ [] → IsShowing equations ports i listed
    → AreOutputRoots equations (outs ports) listed
shows_end equations ports i listed end w = record {
  all = sym (ap (λ (ps : List Port). map root_view listed ++ roots_of equations (outs ps)) end ∙ append-nil (map root_view listed)) ∙ w.all;
  placed = w.placed;
  shown =
      sym (ap (λ (ps : List Port). map (λ r. is_some r.equation) listed ++ replicate (length (outs ps)) true) end ∙ append-nil (map (λ r. is_some r.equation) listed)) ∙ w.shown;
}

-- ---- what is looked up

held_is : (names held : List Name) (es : List EquationParts) → names ≡ held ++ map (λ e. e.name) es → length names - length es ≡ length held
held_is names held es ends =
    let long : length names ≡ length held + length es =
    ap length ends ∙ length-append held (map (λ e. e.name) es) ∙ ap (λ (n : ℕ). length held + n) (length-map es (λ (e : EquationParts). e.name)) in
    omega (arith, long)

pub in_names : (names held : List Name) (es : List EquationParts) (name : Name) → names ≡ held ++ map (λ e. e.name) es → In name (map (λ e. e.name) es) → In name names
in_names names held es name ends h = subst (λ (xs : List Name). In name xs) (sym ends) (In-right name held (map (λ e. e.name) es) h)

pub output_within : (places : NamePlaces) (names held : List Name) (es : List EquationParts) (name : Name) → Found places names name → In name (map (λ e. e.name) es)
    → names ≡ held ++ map (λ e. e.name) es → AllDifferent names
    → IsSomeAnd (get places name) (λ j. (length names - length es ≤ j) × (j < length names - length es + length es))
output_within places names held es name has listed ends different =
    let d = driven es name listed in
    let place : has.place ≡ length held + d.number = place_of_driven names held es name has.place d ends different has.stands in
    let small : d.number < length es = slice_get_within es d.number d.equation d.at in
    let h = held_is names held es ends in
    subst (λ (o : Option ℕ). IsSomeAnd o (λ j. (length names - length es ≤ j) × (j < length names - length es + length es))) (sym has.is)
    (omega (arith, place, h), omega (arith, place, h, small))

pub output_found : (places : NamePlaces) (names held : List Name) (es : List EquationParts) (name : Name) (r : RootExpr) → Found places names name → In name (map (λ e. e.name) es)
    → names ≡ held ++ map (λ e. e.name) es → AllDifferent names → r.name.now ≡ name → IsSomeAnd (get places name) (λ j. r.equation ≡ Some (j - (length names - length es)))
    → IsSomeAnd (get places name) (λ j. (e : EquationParts) × (slice_get es (j - (length names - length es)) ≡ Some e) × (view r.expr.now ≡ view e.expr))
    → IsOutputRoot (map equation_view es) name r
output_found places names held es name r has listed ends different named number says =
    output_root_is names held es name d r ends different named (number2 ∙ ap (λ (n : ℕ). Some n) at_number) (says2.2 ∙ ap (λ (e : EquationParts). view e.expr) same)
  where
    d : Driven es name
    d = driven es name listed

    at_number : has.place - (length names - length es) ≡ d.number
    at_number =
        let place : has.place ≡ length held + d.number = place_of_driven names held es name has.place d ends different has.stands in
        let h = held_is names held es ends in
        omega (arith, place, h)

    number2 : r.equation ≡ Some (has.place - (length names - length es))
    number2 = subst (λ (o : Option ℕ). IsSomeAnd o (λ j. r.equation ≡ Some (j - (length names - length es)))) has.is number

    says2 : (e : EquationParts) × (slice_get es (has.place - (length names - length es)) ≡ Some e) × (view r.expr.now ≡ view e.expr)
    says2 =
        subst (λ (o : Option ℕ). IsSomeAnd o (λ j. (e : EquationParts) × (slice_get es (j - (length names - length es)) ≡ Some e) × (view r.expr.now ≡ view e.expr))) has.is says

    same : says2.0 ≡ d.equation
    same = let at : slice_get es d.number ≡ Some says2.0 = subst (λ (n : ℕ). slice_get es n ≡ Some says2.0) at_number says2.1 in let to = d.at in cc (at, to)

pub names_again : (es : List EquationParts) → map (λ (e : Equation). e.name) (map equation_view es) ≡ map (λ e. e.name) es
names_again [] = refl
names_again (e ∷ es) = ap (λ (ns : List Name). e.name ∷ ns) (names_again es)
