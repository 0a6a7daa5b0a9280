-- Bits over the bits of the ports.
use Rattle.std.proofs.Common.{◌≡◌, ℕ, ◌<◌, ◌≤◌, List, [], ◌∷◌, ◌++◌, map, take, length, get_or, None, refl, sym, ap, subst, ◌∙◌, arith}
use Rattle.vlsi_base.specs.declared.name.Name.{Name}
use Rattle.vlsi_base.specs.Member.{In, here, there}
use Rattle.bool_expr.specs.Expression.{Expression, IsOver}
use Rattle.bool_expr.specs.Renumbering.{renumbered}
use Rattle.bool_expr.specs.View.{view}
use Rattle.bool_expr.specs.declared.expr.Expr.{Expr}
use Rattle.std.proofs.lemmas.List.{length-map}
use Rattle.machine_core.proofs.Values.{In-map}
use Rattle.vlsi_model.proofs.Members.{In-map_back}
use Rattle.vlsi_model.proofs.Sorting.{In-at}
use Rattle.vlsi_model.proofs.Naming.{take_whole}
use Rattle.source_bits.specs.Formulas.{first_of}
use Rattle.source_checks.specs.Formula.{Formula, formula_names, first_bit, numbered, place}
use Rattle.vlsi_model.specs.Numbered.{HasVars, name_at}
use Rattle.vlsi_model.proofs.Numbering.{place_within, place_at, In_holds, over_below, renumber}
use Rattle.fsm_machine.specs.Statements as s
use Rattle.fsm_io.specs.Elaboration.{assign_bits}
use Rattle.fsm_io.specs.Pieces.{assign_places}

pub first_numbered : (vars : List Name) (xs : List Formula) → first_of (map (numbered vars) xs) ≡ numbered vars (first_bit xs)
first_numbered vars [] = refl
first_numbered vars (x ∷ xs) = refl

-- formulas whose names have their places
pub over_all : (all vars : List Name) (xs : List Formula) → ((k : Name) → In k vars → In k all) → ((x : Formula) → In x xs → (k : Name) → In k (formula_names x) → In k vars) → (x : Formula) → In x xs → IsOver (numbered all x) (length all)
over_all all vars xs sub reads x i = over_below all (length all) x (In_holds (λ (k : Name). place all k < length all) x (λ k j. place_within all k (sub k (reads x i k j))))

pub renumber_all : (all vars : List Name) (table : List ℕ) (xs : List Formula) → HasVars all vars table → ((x : Formula) → In x xs → (k : Name) → In k (formula_names x) → In k vars)
    → map (renumbered table) (map (numbered all) xs) ≡ map (numbered vars) xs
renumber_all all vars table [] has reads = refl
renumber_all all vars table (x ∷ xs) has reads =
    ap (λ (e : Expression). e ∷ map (renumbered table) (map (numbered all) xs)) (renumber all vars table x (In_holds (λ (k : Name). get_or table (place all k) 0 ≡ place vars k) x (λ k j. has.there k (reads x here k j))))
    ∙ ap (λ (es : List Expression). numbered vars x ∷ es) (renumber_all all vars table xs has (λ y i. reads y (there i)))

pub item_over : (all vars : List Name) (table : List ℕ) (xs : List Formula) (es : List Expr) (i : ℕ) (e : Expr) → map view es ≡ map (numbered all) xs → HasVars all vars table → ((k : Name) → In k vars → In k all)
    → ((x : Formula) → In x xs → (k : Name) → In k (formula_names x) → In k vars) → i < length es → e ≡ get_or es i e → IsOver (view e) (length table)
item_over all vars table xs es i e made has sub reads within is =
    let there : In e es = subst (λ (y : Expr). In y es) (sym is) (In-at es i e within) in
    let b = In-map_back (numbered all) (view e) xs (subst (λ (l : List Expression). In (view e) l) made (In-map view e es there)) in
    subst (λ (k : ℕ). IsOver (view e) k) (sym has.each) (subst (λ (y : Expression). IsOver y (length all)) b.2 (over_all all vars xs sub reads b.0 b.1))

map-map : (table : List ℕ) (es : List Expr) → map (λ (e : Expr). renumbered table (view e)) es ≡ map (renumbered table) (map view es)
map-map table [] = refl
map-map table (e ∷ es) = ap (λ (l : List Expression). renumbered table (view e) ∷ l) (map-map table es)

pub all_made : (all vars : List Name) (table : List ℕ) (xs : List Formula) (es : List Expr) (made : List Expression) (i : ℕ) → made ≡ map (λ (e : Expr). renumbered table (view e)) (take i es) → length es ≤ i
    → map view es ≡ map (numbered all) xs → HasVars all vars table → ((x : Formula) → In x xs → (k : Name) → In k (formula_names x) → In k vars) → made ≡ map (numbered vars) xs
all_made all vars table xs es made i so_far past is has reads =
    so_far ∙ ap (map (λ (e : Expr). renumbered table (view e))) (take_whole es i past) ∙ map-map table es ∙ ap (map (renumbered table)) is ∙ renumber_all all vars table xs has reads

-- ---- assignments from the last on

pub places_equal : (all vars ks : List Name) (xs : List Formula) (ps : List ℕ) (es : List Expr) → ps ≡ map (place all) ks → map view es ≡ map (numbered vars) xs → length ks ≡ length xs → length ps ≡ length es
places_equal all vars ks xs ps es a b e =
    ap length a ∙ length-map ks (place all) ∙ e ∙ sym (length-map xs (numbered vars)) ∙ sym (ap length b) ∙ length-map es view

pub places_below : (all ks : List Name) (ps : List ℕ) → ps ≡ map (place all) ks → ((k : Name) → In k ks → In k all) → (p : ℕ) → In p ps → p < length all
places_below all ks ps a sub p i =
    let b = In-map_back (place all) p ks (subst (λ (l : List ℕ). In p l) a i) in
    subst (λ (q : ℕ). q < length all) b.2 (place_within all b.0 (sub b.0 b.1))

pub nothing_left : (all : List Name) (ps : List ℕ) (es : List Expr) (b : s.Statements) → length ps ≡ length es → es ≡ [] → b ≡ assign_places all ps (map view es) b
nothing_left all [] es b e h = refl
nothing_left all (p ∷ ps) es b e h = let n : length es ≡ 0 = ap length h in absurd (omega (arith, e, n))

pub assign_push : (all : List Name) (ps : List ℕ) (vs : List Expression) (p : ℕ) (v : Expression) (rest : s.Statements) → length ps ≡ length vs
    → assign_places all (ps ++ p ∷ []) (vs ++ v ∷ []) rest ≡ assign_places all ps vs (s.assign (s.output (name_at all p) v) rest)
assign_push all [] [] p v rest e = refl
assign_push all [] (w ∷ vs) p v rest e = absurd (omega (arith, e))
assign_push all (q ∷ ps) [] p v rest e = absurd (omega (arith, e))
assign_push all (q ∷ ps) (w ∷ vs) p v rest e = ap (s.assign (s.output (name_at all q) w)) (assign_push all ps vs p v rest (omega (arith, e)))

pub assign_named : (all vars ks : List Name) (xs : List Formula) (rest : s.Statements) → ((k : Name) → In k ks → In k all)
    → assign_places all (map (place all) ks) (map (numbered vars) xs) rest ≡ assign_bits vars ks xs rest
assign_named all vars [] xs rest sub = refl
assign_named all vars (k ∷ ks) [] rest sub = refl
assign_named all vars (k ∷ ks) (x ∷ xs) rest sub =
    let name : name_at all (place all k) ≡ k = place_at all k (record { text = []; bit = None }) (place_within all k (sub k here)) in
    ap (λ (n : Name). s.assign (s.output n (numbered vars x)) (assign_places all (map (place all) ks) (map (numbered vars) xs) rest)) name
    ∙ ap (s.assign (s.output k (numbered vars x))) (assign_named all vars ks xs rest (λ j i. sub j (there i)))
