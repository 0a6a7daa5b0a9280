-- The numbers of outputs, found by name.
use Rattle.std.proofs.Common.{◌≡◌, inl, inr, ℕ, zero, suc, ◌+◌, ◌<◌, Bool, true, false, not, List, [], ◌∷◌, ◌++◌, length, filter, drop, Option, None, Some, refl, sym, ◌∙◌, ap, subst, arith, append_assoc, append-nil, add-one, drop-cons, if◌then◌else◌}
use Rattle.std.specs.Prelude.{option_map}
use Rattle.std.specs.List.{AllZip, slice_index_or}
use Rattle.std.specs.Option.{option_or}
use Rattle.std.specs.Cmp.{eq_by_cmp_equiv}
use Rattle.std.specs.FinMap.{empty, get, get-empty}
use Rattle.std.specs.Ordering.{eq_by_cmp, is_eq}
use Rattle.std.specs.declared.cmp.Ordering.{Ordering}
use Rattle.std.specs.declared.cmp.Ordering.TheVariants.{Less, Equal, Greater}
use Rattle.vlsi_base.specs.declared.name.Name.{Name}
use Rattle.vlsi_base.specs.declared.name.Port.{Port}
use Rattle.vlsi_base.specs.Member.{In, here, there}
use Rattle.vlsi_base.specs.Name.{name_cmp}
use Rattle.vlsi_base.specs.NamePlaces.{NamePlaces, last_place}
use Rattle.vlsi_base.proofs.NameOrder.{name_total, name_exact}
use Rattle.machine_core.specs.Machine.{is_input, names_of}
use Rattle.net_theory.specs.Sources.{IsNumber}
use Rattle.subject_graph.specs.Stages.{IsNumberOf}
use Rattle.subject_graph.proofs.Apart.{In-first}

pub number_from_index : (xs : List ℕ) (k x : ℕ) → k < length xs → x ≡ slice_index_or xs k x → IsNumber xs k x
number_from_index [] k x h is = absurd (omega arith)
number_from_index (y ∷ xs) zero x h is = is
number_from_index (y ∷ xs) (suc k) x h is = number_from_index xs k x (omega arith) is

-- where a name stands last, it stands
abbrev IsPlace : List Name → Name → Option ℕ → Type 0
IsPlace names name None = In name names → ⊥
IsPlace names name (Some j) = IsNumber names j name

tie : (n name : Name) → eq_by_cmp name_cmp n name ≡ true → name ≡ n
tie n name h = by (name_cmp n name) refl h where
  by : (o : Ordering) → name_cmp n name ≡ o → is_eq o ≡ true → name ≡ n
  by Less is e = absurd (cc e)
  by Greater is e = absurd (cc e)
  by Equal is e = sym (name_exact n name is)

no_tie : (n name : Name) → eq_by_cmp name_cmp n name ≡ false → name ≡ n → ⊥
no_tie n name h same =
    let yes : eq_by_cmp name_cmp n n ≡ true = (eq_by_cmp_equiv name_total).refl n in
    let no : eq_by_cmp name_cmp n n ≡ false = subst (λ (x : Name). eq_by_cmp name_cmp n x ≡ false) same h in
    absurd (cc (yes, no))

place_is : (names : List Name) (name : Name) → IsPlace names name (last_place names name)
place_is [] name = λ h. elim h [ ]
place_is (n ∷ names) name = by (last_place names name) (eq_by_cmp name_cmp n name) refl (place_is names name) where
  by : (o : Option ℕ) (b : Bool) → eq_by_cmp name_cmp n name ≡ b → IsPlace names name o
      → IsPlace (n ∷ names) name (option_or (option_map (λ k. k + 1) o) (if b then Some 0 else None))
  by None true e h = tie n name e
  by None false e h = λ g. elim (In-first name n names g) [ inl same ↦ no_tie n name e same | inr later ↦ h later ]
  by (Some j) b e h = let P : ℕ → Type 0 = λ k. IsNumber (n ∷ names) k name in let plus : suc j ≡ j + 1 = sym (add-one j) in subst P plus h

-- an index of names has a place for each of them
pub record Found (places : NamePlaces) (names : List Name) (name : Name) : Type 0 where
  pub place : ℕ
  pub is : get places name ≡ Some place
  pub stands : IsNumber names place name

pub found : (old places : NamePlaces) (names : List Name) (name : Name) → old ≡ empty → ((n : Name) → get places n ≡ option_or (last_place names n) (get old n)) → In name names
    → Found places names name
found old places names name none has listed =
    by (last_place names name) (place_is names name) (has name ∙ ap (λ m. option_or (last_place names name) (get m name)) none ∙ ap (option_or (last_place names name)) (get-empty name_cmp name)) where
      by : (o : Option ℕ) → IsPlace names name o → get places name ≡ option_or o None → Found places names name
      by None h e = absurd (h listed)
      by (Some j) h e = record { place = j; is = e; stands = h }

abbrev pub outs : List Port → List Name
outs ports = names_of (filter (λ p. not (is_input p.dir)) ports)

-- with what is left of the ports from number i on, all have their numbers
abbrev pub Looks : List Name → List ℕ → List Port → ℕ → List ℕ → Type 0
Looks names numbers ports i found =
    (rest : List ℕ) → AllZip (IsNumberOf names numbers) (outs (drop i ports)) rest → AllZip (IsNumberOf names numbers) (outs ports) (found ++ rest)

ports-cons : (ports : List Port) (i : ℕ) (p : Port) → i < length ports → p ≡ slice_index_or ports i p → drop i ports ≡ p ∷ drop (i + 1) ports
ports-cons ports i p h is = drop-cons ports i p h ∙ ap (λ x. x ∷ drop (suc i) ports) (sym is) ∙ ap (λ j. p ∷ drop j ports) (sym (add-one i))

outs-cons : (ports : List Port) (i : ℕ) (p : Port) (b : Bool) → i < length ports → p ≡ slice_index_or ports i p → is_input p.dir ≡ b
    → outs (drop i ports) ≡ (if not b then p.name ∷ outs (drop (i + 1) ports) else outs (drop (i + 1) ports))
outs-cons ports i p b h is test = ap outs (ports-cons ports i p h is) ∙ by (is_input p.dir) test where
  by : (c : Bool) → c ≡ b → names_of (if not c then p ∷ filter (λ q. not (is_input q.dir)) (drop (i + 1) ports) else filter (λ q. not (is_input q.dir)) (drop (i + 1) ports))
      ≡ (if not b then p.name ∷ outs (drop (i + 1) ports) else outs (drop (i + 1) ports))
  by true e = rw (sym e) refl
  by false e = rw (sym e) refl

-- an output among the ports
pub is_out : (ports : List Port) (i : ℕ) (p : Port) → i < length ports → p ≡ slice_index_or ports i p → is_input p.dir ≡ false → In p.name (outs ports)
is_out [] i p h is test = absurd (omega arith)
is_out (q ∷ ports) zero p h is test = first q p is test where
  first : (q p : Port) → p ≡ q → is_input p.dir ≡ false → In p.name (outs (q ∷ ports))
  first q p e f = subst (λ (x : Port). In p.name (outs (x ∷ ports))) e (rw f here)
is_out (q ∷ ports) (suc i) p h is test = later (is_input q.dir) (is_out ports i p (omega arith) is test) where
  later : (c : Bool) → In p.name (outs ports)
      → In p.name (names_of (if not c then q ∷ filter (λ x. not (is_input x.dir)) ports else filter (λ x. not (is_input x.dir)) ports))
  later true g = g
  later false g = there g

pub looks_out : (names : List Name) (numbers : List ℕ) (ports : List Port) (i : ℕ) (found : List ℕ) (p : Port) (a : ℕ) → i < length ports → p ≡ slice_index_or ports i p
    → is_input p.dir ≡ false → IsNumberOf names numbers p.name a → Looks names numbers ports i found → Looks names numbers ports (i + 1) (found ++ a ∷ [])
looks_out names numbers ports i found p a h is test number f rest go =
    let R : Name → ℕ → Type 0 = IsNumberOf names numbers in
    let parts : outs (drop i ports) ≡ p.name ∷ outs (drop (i + 1) ports) = outs-cons ports i p false h is test in
    subst (λ (xs : List ℕ). AllZip R (outs ports) xs) (sym (append_assoc found (a ∷ []) rest)) (f (a ∷ rest) (subst (λ (ns : List Name). AllZip R ns (a ∷ rest)) (sym parts) (number, go)))

pub looks_in : (names : List Name) (numbers : List ℕ) (ports : List Port) (i : ℕ) (found : List ℕ) (p : Port) → i < length ports → p ≡ slice_index_or ports i p
    → is_input p.dir ≡ true → Looks names numbers ports i found → Looks names numbers ports (i + 1) found
looks_in names numbers ports i found p h is test f rest go =
    let R : Name → ℕ → Type 0 = IsNumberOf names numbers in
    let parts : outs (drop i ports) ≡ outs (drop (i + 1) ports) = outs-cons ports i p true h is test in
    f rest (subst (λ (ns : List Name). AllZip R ns rest) (sym parts) go)

pub looks_end : (names : List Name) (numbers : List ℕ) (ports : List Port) (i : ℕ) (found : List ℕ) → drop i ports ≡ [] → Looks names numbers ports i found
    → AllZip (IsNumberOf names numbers) (outs ports) found
looks_end names numbers ports i found end f =
    let R : Name → ℕ → Type 0 = IsNumberOf names numbers in
    subst (λ (xs : List ℕ). AllZip R (outs ports) xs) (append-nil found) (f [] (subst (λ (ps : List Port). AllZip R (outs ps) []) (sym end) tt))
