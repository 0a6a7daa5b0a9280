-- The names that a text has.
use Rattle.std.proofs.Common.{◌≡◌, ℕ, suc, ◌+◌, ◌-◌, ◌<◌, ◌≤◌, ◌^◌, Bool, true, false, not, ◌||◌, cond, List, [], ◌∷◌, ◌++◌, length, take, drop, get_or, map, filter, Option, None, Some, refl, sym, ap, subst, ◌∙◌, append_assoc, append-nil, arith, length-append, length-drop, if◌then◌else◌}
use Rattle.std.specs.Prelude.{is_some, is_none, option_map}
use Rattle.std.specs.List.{list_any, All}
use Rattle.std.specs.Option.{option_or}
use Rattle.std.specs.Cmp.{eq_by_cmp_equiv}
use Rattle.std.specs.FinMap.{empty, get, get-empty}
use Rattle.std.specs.Ordering.{eq_by_cmp, is_eq}
use Rattle.std.specs.declared.cmp.Ordering.{Ordering}
use Rattle.std.specs.declared.cmp.Ordering.TheVariants.{Less, Equal, Greater}
use Rattle.std.proofs.Math.Seq.{take-append_seam, drop-append_seam}
use Rattle.std.proofs.lemmas.List.{drop_all, take_all, length-map}
use Rattle.std.proofs.lemmas.List.Elements.{All-head, All-tail, All-cons, All-nil}
use Rattle.vlsi_base.specs.Name.{name_cmp}
use Rattle.vlsi_base.specs.Names.{scalar}
use Rattle.vlsi_base.specs.NamePlaces.{NamePlaces, last_place}
use Rattle.vlsi_base.specs.declared.name.Name.{Name}
use Rattle.vlsi_base.proofs.NameOrder.{name_total, name_exact}
use Rattle.bool_expr.specs.Expression.{Expression, constant, variable, inverse, pair, choice, IsOver}
use Rattle.bool_expr.specs.View.{view}
use Rattle.machine_core.specs.Named.{is_same_name}
use Rattle.machine_core.specs.Machine.{Register as Stored}
use Rattle.machine_core.specs.Machine.{Machine, is_input, inputs, outputs, register_names}
use Rattle.machine_core.specs.declared.equation.Equation.{Equation}
use Rattle.machine_core.specs.declared.equation.Register.{Register}
use Rattle.machine_core.specs.View.{equation_view, register_view}
use Rattle.machine_core.specs.Order.{held_names, equation_names, EachReadsBelow}
use Rattle.machine_core.specs.Checked.{IsChecked}
use Rattle.machine_core.proofs.Names.{same_name-true, same_name-itself}
use Rattle.vlsi_base.specs.declared.name.Port.{Port}
use Rattle.text_names.specs.Free.{free_texts}
use Rattle.vbe_print.specs.Pieces.{inner_of}
use Rattle.vbe_print.specs.Written.{is_output, inner_count, renamed, written_names, written_vars, taken_texts, signal_texts}
use Rattle.vbe_print.proofs.Texts.{drop_next}

-- ---- the index of outputs

ties : (a b : Name) → eq_by_cmp name_cmp a b ≡ is_same_name a b
ties a b = by (is_same_name a b) refl where
  tied : (o : Ordering) → name_cmp a b ≡ o → is_same_name a b ≡ false → is_eq o ≡ false
  tied Less is e = refl
  tied Greater is e = refl
  tied Equal is e =
      let P : Name → Type 0 = λ x. is_same_name a x ≡ true in
      let same : is_same_name a b ≡ true = subst P (name_exact a b is) (same_name-itself a) in
      absurd cc

  by : (r : Bool) → is_same_name a b ≡ r → eq_by_cmp name_cmp a b ≡ r
  by true e =
      let P : Name → Type 0 = λ x. eq_by_cmp name_cmp a x ≡ true in
      subst P (same_name-true a b e) ((eq_by_cmp_equiv name_total).refl a)
  by false e = tied (name_cmp a b) refl e

either : (o : Option ℕ) (b l : Bool) → is_some o ≡ l → is_some (option_or (option_map (λ k. k + 1) o) (if b then Some 0 else None)) ≡ (b || l)
either None true l e = refl
either None false l e = e
either (Some k) true l e = refl
either (Some k) false l e = e

has_last : (names : List Name) (n : Name) → is_some (last_place names n) ≡ list_any (λ m. is_same_name m n) names
has_last [] n = refl
has_last (x ∷ names) n =
    ap (λ (b : Bool). is_some (option_or (option_map (λ k. k + 1) (last_place names n)) (if b then Some 0 else None))) (ties x n)
    ∙ either (last_place names n) (is_same_name x n) (list_any (λ m. is_same_name m n) names) (has_last names n)

or_none : (o : Option ℕ) → option_or o None ≡ o
or_none None = refl
or_none (Some k) = refl

-- an index knows these names
abbrev pub Knows : NamePlaces → List Name → Type 0
Knows index names = (n : Name) → is_some (get index n) ≡ list_any (λ m. is_same_name m n) names

pub looked_up : (names : List Name) (old index : NamePlaces) → old ≡ empty → ((n : Name) → get index n ≡ option_or (last_place names n) (get old n)) → Knows index names
looked_up names old index none has n =
    ap is_some (has n ∙ ap (λ (m : NamePlaces). option_or (last_place names n) (get m n)) none ∙ ap (λ (o : Option ℕ). option_or (last_place names n) o) (get-empty name_cmp n) ∙ or_none (last_place names n))
    ∙ has_last names n

-- ---- equations of inner signals

none_not : (o : Option ℕ) → is_none o ≡ not (is_some o)
none_not None = refl
none_not (Some k) = refl

-- the names that the index lacks
abbrev pub is_inner : NamePlaces → Equation → Bool
is_inner index e = is_none (get index e.name)

chosen : {X Y : Type 0} (b c : Bool) (x : X) (y : Y) (xs : List X) (ys : List Y) → b ≡ c → length xs ≡ length ys → length (cond b (x ∷ xs) xs) ≡ length (cond c (y ∷ ys) ys)
chosen true true x y xs ys e same = ap suc same
chosen true false x y xs ys e same = absurd cc
chosen false true x y xs ys e same = absurd cc
chosen false false x y xs ys e same = same

pub inner_counted : (index : NamePlaces) (outs : List Name) → Knows index outs → (es : List Equation)
    → length (filter (λ e. is_none (get index e.name)) es) ≡ length (filter (λ n. not (list_any (λ m. is_same_name m n) outs)) (map (λ e. e.name) (map equation_view es)))
inner_counted index outs knows [] = refl
inner_counted index outs knows (e ∷ es) =
    chosen (is_none (get index e.name)) (not (list_any (λ m. is_same_name m e.name) outs)) e e.name
    (filter (λ e. is_none (get index e.name)) es)
    (filter (λ n. not (list_any (λ m. is_same_name m n) outs)) (map (λ e. e.name) (map equation_view es)))
    (none_not (get index e.name) ∙ ap not (knows e.name)) (inner_counted index outs knows es)

-- ---- they get other names

abbrev pub keeps : NamePlaces → Name → Bool
keeps index n = is_some (get index n)

kept : (index : NamePlaces) (n : Name) (ns os : List Name) → keeps index n ≡ true → renamed (keeps index) (n ∷ ns) os ≡ n ∷ renamed (keeps index) ns os
kept index n ns [] e = refl
kept index n ns (o ∷ os) e = ap (λ (b : Bool). cond b (n ∷ renamed (keeps index) ns (o ∷ os)) (o ∷ renamed (keeps index) ns os)) e

other : (index : NamePlaces) (n o : Name) (ns os : List Name) → keeps index n ≡ false → renamed (keeps index) (n ∷ ns) (o ∷ os) ≡ o ∷ renamed (keeps index) ns os
other index n o ns os e = ap (λ (b : Bool). cond b (n ∷ renamed (keeps index) ns (o ∷ os)) (o ∷ renamed (keeps index) ns os)) e

some_where : (o : Option ℕ) → is_none o ≡ false → is_some o ≡ true
some_where None e = absurd cc
some_where (Some k) e = refl

none_where : (o : Option ℕ) → is_none o ≡ true → is_some o ≡ false
none_where None e = refl
none_where (Some k) e = absurd cc

abbrev pub names_from : List Equation → ℕ → List Name
names_from es k = map (λ e. e.name) (drop k es)

-- what was named so far, and what is named of the equations from number k on, is the whole; enough signals are left
pub record AreNamed (index : NamePlaces) (es : List Equation) (signals : List (List ℕ)) (k next : ℕ) (vars whole : List Name) : Type 0 where
  pub rest : vars ++ renamed (keeps index) (names_from es k) (map scalar (drop next signals)) ≡ whole
  pub each : length (drop next signals) ≡ length (filter (is_inner index) (drop k es))

inner_here : (index : NamePlaces) (es : List Equation) (k : ℕ) (e : Equation) (b : Bool) → k < length es → e ≡ get_or es k e → is_inner index e ≡ b
    → filter (is_inner index) (drop k es) ≡ cond b (e ∷ filter (is_inner index) (drop (k + 1) es)) (filter (is_inner index) (drop (k + 1) es))
inner_here index es k e b within at is =
    ap (filter (is_inner index)) (drop_next es k e within at)
    ∙ ap (λ (c : Bool). cond c (e ∷ filter (is_inner index) (drop (k + 1) es)) (filter (is_inner index) (drop (k + 1) es))) is

names_here : (es : List Equation) (k : ℕ) (e : Equation) → k < length es → e ≡ get_or es k e → names_from es k ≡ e.name ∷ names_from es (k + 1)
names_here es k e within at = ap (map (λ e. e.name)) (drop_next es k e within at)

pub named_kept : (index : NamePlaces) (es : List Equation) (signals : List (List ℕ)) (k next : ℕ) (e : Equation) (vars new whole : List Name)
    → k < length es → e ≡ get_or es k e → is_inner index e ≡ false → new ≡ vars ++ e.name ∷ [] → AreNamed index es signals k next vars whole → AreNamed index es signals (k + 1) next new whole
named_kept index es signals k next e vars new whole within at is pushed are = record {
  rest =
      let left = map scalar (drop next signals) in
      ap (λ (ns : List Name). ns ++ renamed (keeps index) (names_from es (k + 1)) left) pushed
      ∙ append_assoc vars (e.name ∷ []) (renamed (keeps index) (names_from es (k + 1)) left)
      ∙ ap (λ (ns : List Name). vars ++ ns) (sym (ap (λ (ns : List Name). renamed (keeps index) ns left) (names_here es k e within at)
      ∙ kept index e.name (names_from es (k + 1)) left (some_where (get index e.name) is)))
      ∙ are.rest;
  each = are.each ∙ ap (λ (xs : List Equation). length xs) (inner_here index es k e false within at is);
}

pub more_left : (index : NamePlaces) (es : List Equation) (signals : List (List ℕ)) (k next : ℕ) (e : Equation) (vars whole : List Name)
    → k < length es → e ≡ get_or es k e → is_inner index e ≡ true → AreNamed index es signals k next vars whole → next < length signals
more_left index es signals k next e vars whole within at is are =
    omega (arith, length-drop next signals, are.each ∙ ap (λ (xs : List Equation). length xs) (inner_here index es k e true within at is))

pub named_inner : (index : NamePlaces) (es : List Equation) (signals : List (List ℕ)) (k next : ℕ) (e : Equation) (s : List ℕ) (vars new whole : List Name)
    → k < length es → e ≡ get_or es k e → is_inner index e ≡ true → next < length signals → s ≡ get_or signals next s → new ≡ vars ++ scalar s ∷ []
    → AreNamed index es signals k next vars whole → AreNamed index es signals (k + 1) (next + 1) new whole
named_inner index es signals k next e s vars new whole within at is some there pushed are = record {
  rest =
      let left = map scalar (drop (next + 1) signals) in
      let front : map scalar (drop next signals) ≡ scalar s ∷ left = ap (map scalar) (drop_next signals next s some there) in
      ap (λ (ns : List Name). ns ++ renamed (keeps index) (names_from es (k + 1)) left) pushed
      ∙ append_assoc vars (scalar s ∷ []) (renamed (keeps index) (names_from es (k + 1)) left)
      ∙ ap (λ (ns : List Name). vars ++ ns) (sym (ap (λ (ns : List Name). renamed (keeps index) ns (map scalar (drop next signals))) (names_here es k e within at)
      ∙ ap (λ (os : List Name). renamed (keeps index) (e.name ∷ names_from es (k + 1)) os) front
      ∙ other index e.name (scalar s) (names_from es (k + 1)) left (none_where (get index e.name) is)))
      ∙ are.rest;
  each =
      let a : suc (length (drop (next + 1) signals)) ≡ suc (length (filter (is_inner index) (drop (k + 1) es))) =
      ap (λ (xs : List (List ℕ)). length xs) (sym (drop_next signals next s some there)) ∙ are.each ∙ ap (λ (xs : List Equation). length xs) (inner_here index es k e true within at is) in
      omega (arith, a);
}

pub named_all : (index : NamePlaces) (es : List Equation) (signals : List (List ℕ)) (k next : ℕ) (vars whole : List Name) → length es ≤ k → AreNamed index es signals k next vars whole → vars ≡ whole
named_all index es signals k next vars whole past are =
    sym (append-nil vars)
    ∙ ap (λ (xs : List Equation). vars ++ renamed (keeps index) (map (λ e. e.name) xs) (map scalar (drop next signals))) (sym (drop_all k es past)) ∙ are.rest

-- which names are kept says all of how they are renamed
renamed_alike : (p q : Name → Bool) → ((n : Name) → p n ≡ q n) → (ns os : List Name) → renamed p ns os ≡ renamed q ns os
renamed_alike p q same [] os = refl
renamed_alike p q same (n ∷ ns) [] = ap (λ (xs : List Name). n ∷ xs) (renamed_alike p q same ns [])
renamed_alike p q same (n ∷ ns) (o ∷ os) =
    ap (λ (b : Bool). cond b (n ∷ renamed p ns (o ∷ os)) (o ∷ renamed p ns os)) (same n)
    ∙ ap (λ (xs : List Name). cond (q n) (n ∷ xs) (o ∷ renamed p ns os)) (renamed_alike p q same ns (o ∷ os))
    ∙ ap (λ (xs : List Name). cond (q n) (n ∷ renamed q ns (o ∷ os)) (o ∷ xs)) (renamed_alike p q same ns os)

pub renamed_by : (m : Machine) (index : NamePlaces) → Knows index (outputs m) → (ns os : List Name) → renamed (keeps index) ns os ≡ renamed (is_output m) ns os
renamed_by m index knows ns os = renamed_alike (keeps index) (is_output m) knows ns os

one_more : (b : Bool) (n o : Name) (xs ys ns : List Name) → length xs ≡ length ns → length ys ≡ length ns → length (cond b (n ∷ xs) (o ∷ ys)) ≡ length (n ∷ ns)
one_more true n o xs ys ns f g = ap suc f
one_more false n o xs ys ns f g = ap suc g

pub as_many_renamed : (p : Name → Bool) (ns os : List Name) → length (renamed p ns os) ≡ length ns
as_many_renamed p [] os = refl
as_many_renamed p (n ∷ ns) [] = ap suc (as_many_renamed p ns [])
as_many_renamed p (n ∷ ns) (o ∷ os) = one_more (p n) n o (renamed p ns (o ∷ os)) (renamed p ns os) ns (as_many_renamed p ns (o ∷ os)) (as_many_renamed p ns os)

-- ---- all names

pub as_many_written : (stem : List ℕ) (m : Machine) → length (written_names stem m) ≡ length m.equations
as_many_written stem m = as_many_renamed (is_output m) (equation_names m) (map scalar (signal_texts stem m)) ∙ length-map m.equations (λ e. e.name)

pub vars_are : (stem : List ℕ) (m : Machine) → written_vars stem m ≡ held_names m ++ written_names stem m
vars_are stem m = refl

pub many_held : (m : Machine) → IsChecked m → length m.vars - length m.equations ≡ length (held_names m)
many_held m checked =
    omega (arith, ap (λ (ns : List Name). length ns) checked.ordered.vars, length-append (held_names m) (equation_names m), length-map m.equations (λ e. e.name))

pub held_first : (m : Machine) → IsChecked m → take (length (held_names m)) m.vars ≡ held_names m
held_first m checked = ap (take (length (held_names m))) checked.ordered.vars ∙ take-append_seam (held_names m) (equation_names m)

pub written_behind : (stem : List ℕ) (m : Machine) → drop (length (held_names m)) (written_vars stem m) ≡ written_names stem m
written_behind stem m = ap (drop (length (held_names m))) (vars_are stem m) ∙ drop-append_seam (held_names m) (written_names stem m)

pub as_many_vars : (stem : List ℕ) (m : Machine) → IsChecked m → length (written_vars stem m) ≡ length m.vars
as_many_vars stem m checked =
    omega (arith, ap (λ (ns : List Name). length ns) (vars_are stem m), length-append (held_names m) (written_names stem m), as_many_written stem m, ap (λ (ns : List Name). length ns) checked.ordered.vars, length-append (held_names m) (equation_names m), length-map m.equations (λ e. e.name))

-- ---- expressions are over them

over_more : (e : Expression) (n m : ℕ) → n ≤ m → IsOver e n → IsOver e m
over_more (constant b) n m less over = tt
over_more (variable k) n m less over = omega (arith, less, over)
over_more (inverse e) n m less over = over_more e n m less over
over_more (pair g a b) n m less over = (over_more a n m less over.0, over_more b n m less over.1)
over_more (choice c a b) n m less over = (over_more c n m less over.0, (over_more a n m less over.1.0, over_more b n m less over.1.1))

abbrev pub IsEquationOver : ℕ → Equation → Type 0
IsEquationOver n e = IsOver (view e.expr) n

pub equations_over : (n total : ℕ) (es : List Equation) → n + length es ≤ total → EachReadsBelow n (map equation_view es) → All (λ e. IsOver (view e.expr) total) es
equations_over n total [] few below = All-nil (IsEquationOver total)
equations_over n total (e ∷ es) few below =
    All-cons (IsEquationOver total) e es (over_more (view e.expr) n total (omega (arith, few)) below.0) (equations_over (n + 1) total es (omega (arith, few)) below.1)

abbrev pub IsRegisterOver : ℕ → Register → Type 0
IsRegisterOver n r = IsOver (view r.next) n × IsOver (view r.enable) n

pub registers_over : (n : ℕ) (rs : List Register) → All (λ r. IsOver r.next n × IsOver r.enable n) (map register_view rs) → All (λ r. IsOver (view r.next) n × IsOver (view r.enable) n) rs
registers_over n [] all = All-nil (IsRegisterOver n)
registers_over n (r ∷ rs) all =
    All-cons (IsRegisterOver n) r rs (All-head (λ r. IsOver r.next n × IsOver r.enable n) (register_view r) (map register_view rs) all)
    (registers_over n rs (All-tail (λ r. IsOver r.next n × IsOver r.enable n) (register_view r) (map register_view rs) all))

-- ---- what is asked of them

names_seen : (es : List Equation) → map (λ e. e.name) (map equation_view es) ≡ map (λ e. e.name) es
names_seen [] = refl
names_seen (e ∷ es) = ap (λ (ns : List Name). e.name ∷ ns) (names_seen es)

pub registers_seen : (rs : List Register) → map (λ r. r.name) (map register_view rs) ≡ map (λ r. r.name) rs
registers_seen [] = refl
registers_seen (r ∷ rs) = ap (λ (ns : List Name). r.name ∷ ns) (registers_seen rs)

texts_seen : (rs : List Register) → map (λ r. r.name.text) (map register_view rs) ≡ map (λ r. r.name.text) rs
texts_seen [] = refl
texts_seen (r ∷ rs) = ap (λ (ts : List (List ℕ)). r.name.text ∷ ts) (texts_seen rs)

pub texts_are : (m : Machine) (ps : List Port) (rs : List Register) (texts : List (List ℕ)) → ps ≡ m.ports → map register_view rs ≡ m.registers
    → texts ≡ map (λ p. p.name.text) ps ++ map (λ r. r.name.text) rs → texts ≡ taken_texts m
texts_are m ps rs texts same stored are =
    are ∙ ap (λ (xs : List Port). map (λ p. p.name.text) xs ++ map (λ r. r.name.text) rs) same
    ∙ ap (λ (ts : List (List ℕ)). map (λ p. p.name.text) m.ports ++ ts) (sym (texts_seen rs) ∙ ap (map (λ r. r.name.text)) stored)

pub few_taken : (m : Machine) (es : List Equation) (texts : List (List ℕ)) → IsChecked m → map equation_view es ≡ m.equations → texts ≡ taken_texts m
    → length m.vars + length m.ports < 2 ^ 32 → length es + length texts < 2 ^ 63
few_taken m es texts checked same are few =
    let a : length (taken_texts m) ≡ length (map (λ p. p.name.text) m.ports) + length (map (λ r. r.name.text) m.registers) = length-append (map (λ p. p.name.text) m.ports) (map (λ r. r.name.text) m.registers) in
    let b : length (held_names m) ≡ length (inputs m) + length (register_names m) = length-append (inputs m) (register_names m) in
    let n : length m.vars ≡ length (held_names m) + length (equation_names m) = ap (λ (ns : List Name). length ns) checked.ordered.vars ∙ length-append (held_names m) (equation_names m) in
    let t : length texts ≡ length (taken_texts m) = ap (λ (ts : List (List ℕ)). length ts) are in
    let p : length (map (λ p. p.name.text) m.ports) ≡ length m.ports = length-map m.ports (λ p. p.name.text) in
    let r : length (map (λ r. r.name.text) m.registers) ≡ length m.registers = length-map m.registers (λ r. r.name.text) in
    let s : length (register_names m) ≡ length m.registers = length-map m.registers (λ r. r.name) in
    let q : length (equation_names m) ≡ length m.equations = length-map m.equations (λ e. e.name) in
    let e : length es ≡ length m.equations = sym (length-map es equation_view) ∙ ap (λ xs. length xs) same in
    omega (arith, a, b, n, t, p, r, s, q, e, few)

-- the index of the outputs counts the inner signals
pub count_is : (m : Machine) (index : NamePlaces) (es : List Equation) → map equation_view es ≡ m.equations → Knows index (outputs m) → inner_of index es ≡ inner_count m
count_is m index es same knows = inner_counted index (outputs m) knows es ∙ ap (λ xs. length (filter (λ n. not (is_output m n)) (map (λ e. e.name) xs))) same

pub knows_outputs : (m : Machine) (index : NamePlaces) (ps : List Port) (names : List Name) → ps ≡ m.ports → names ≡ map (λ p. p.name) (filter (λ p. not (is_input p.dir)) ps) → Knows index names → Knows index (outputs m)
knows_outputs m index ps names same are knows = subst (Knows index) (are ∙ ap (λ (xs : List Port). map (λ p. p.name) (filter (λ p. not (is_input p.dir)) xs)) same) knows

pub signals_are : (stem : List ℕ) (m : Machine) (index : NamePlaces) (es : List Equation) (texts signals : List (List ℕ)) → map equation_view es ≡ m.equations → Knows index (outputs m) → texts ≡ taken_texts m
    → signals ≡ free_texts stem texts (inner_of index es) → signals ≡ signal_texts stem m
signals_are stem m index es texts signals same knows are made =
    made ∙ ap (λ (ts : List (List ℕ)). free_texts stem ts (inner_of index es)) are ∙ ap (free_texts stem (taken_texts m)) (count_is m index es same knows)

pub vars_made : (stem : List ℕ) (m : Machine) (index : NamePlaces) (es : List Equation) (texts : List (List ℕ)) (old new : List Name) → map equation_view es ≡ m.equations → Knows index (outputs m) → texts ≡ taken_texts m
    → old ≡ held_names m → new ≡ old ++ renamed (keeps index) (map (λ e. e.name) es) (map scalar (free_texts stem texts (inner_of index es))) → new ≡ written_vars stem m
vars_made stem m index es texts old new same knows are held made =
    made
    ∙ ap (λ (ts : List (List ℕ)). old ++ renamed (keeps index) (map (λ e. e.name) es) (map scalar ts)) (signals_are stem m index es texts (free_texts stem texts (inner_of index es)) same knows are refl)
    ∙ ap (λ (ns : List Name). old ++ renamed (keeps index) ns (map scalar (signal_texts stem m))) (sym (names_seen es) ∙ ap (map (λ e. e.name)) same)
    ∙ ap (λ (ns : List Name). old ++ ns) (renamed_by m index knows (equation_names m) (map scalar (signal_texts stem m)))
    ∙ ap (λ (ns : List Name). ns ++ written_names stem m) held

pub stored_over : (m : Machine) (rs : List Register) (n : ℕ) → IsChecked m → map register_view rs ≡ m.registers → n ≡ length m.vars → All (λ r. IsOver (view r.next) n × IsOver (view r.enable) n) rs
stored_over m rs n checked same many =
    registers_over n rs
    (subst (λ (xs : List Stored). All (λ r. IsOver r.next n × IsOver r.enable n) xs) (sym same)
    (subst (λ (k : ℕ). All (λ r. IsOver r.next k × IsOver r.enable k) m.registers) (sym many) checked.loads))

pub stated_over : (m : Machine) (es : List Equation) (n : ℕ) → IsChecked m → map equation_view es ≡ m.equations → n ≡ length m.vars → All (λ e. IsOver (view e.expr) n) es
stated_over m es n checked same many =
    let a : length m.vars ≡ length (held_names m) + length (equation_names m) = ap (λ (ns : List Name). length ns) checked.ordered.vars ∙ length-append (held_names m) (equation_names m) in
    let q : length (equation_names m) ≡ length m.equations = length-map m.equations (λ e. e.name) in
    let e : length es ≡ length m.equations = sym (length-map es equation_view) ∙ ap (λ xs. length xs) same in
    equations_over (length (held_names m)) n es (omega (arith, a, q, e, many)) (subst (EachReadsBelow (length (held_names m))) (sym same) checked.ordered.below)

-- the names that are copied, where the other ones are of equations
pub held_are : (m : Machine) (names all made : List Name) (es : List Equation) → IsChecked m → names ≡ m.vars → all ≡ m.vars → map equation_view es ≡ m.equations → made ≡ take (length all - length es) names → made ≡ held_names m
held_are m names all made es checked same also stated copied =
    let e : length es ≡ length m.equations = sym (length-map es equation_view) ∙ ap (λ xs. length xs) stated in
    copied ∙ ap (λ (n : ℕ). take n names) (ap (λ (ns : List Name). length ns - length es) also ∙ ap (λ (n : ℕ). length m.vars - n) e ∙ many_held m checked)
    ∙ ap (take (length (held_names m))) same ∙ held_first m checked

pub behind_are : (stem : List ℕ) (m : Machine) (all made : List Name) (es : List Equation) → IsChecked m → all ≡ m.vars → map equation_view es ≡ m.equations → made ≡ written_vars stem m → drop (length all - length es) made ≡ written_names stem m
behind_are stem m all made es checked also stated is =
    let e : length es ≡ length m.equations = sym (length-map es equation_view) ∙ ap (λ xs. length xs) stated in
    ap (λ (n : ℕ). drop n made) (ap (λ (ns : List Name). length ns - length es) also ∙ ap (λ (n : ℕ). length m.vars - n) e ∙ many_held m checked)
    ∙ ap (drop (length (held_names m))) is ∙ written_behind stem m

pub within_all : (stem : List ℕ) (m : Machine) (all made : List Name) (k : ℕ) → IsChecked m → all ≡ m.vars → made ≡ written_vars stem m → length all - k ≤ length made
within_all stem m all made k checked also is = omega (arith, ap (λ (ns : List Name). length ns) also, ap (λ (ns : List Name). length ns) is, as_many_vars stem m checked)

-- all that is behind a place
pub behind_all : (xs : List Name) (k : ℕ) → take (length xs - k) (drop k xs) ≡ drop k xs
behind_all xs k = ap (λ (n : ℕ). take n (drop k xs)) (sym (length-drop k xs)) ∙ take_all (length (drop k xs)) (drop k xs) (omega arith)
