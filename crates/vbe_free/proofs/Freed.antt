-- What a choice with free bits comes to, with each of them 0 and with each 1.
use Rattle.std.proofs.Common.{◌≡◌, ◌⊎◌, inl, inr, ℕ, Bool, true, false, cond, List, [], ◌∷◌, ◌++◌, map, refl, sym, ap, ◌∙◌, subst, bytes_eq}
use Rattle.vlsi_base.specs.declared.name.Name.{Name}
use Rattle.vlsi_base.specs.Tree.{Tree, bit, literal, name, index, slice, stable, inverse, binary, view}
use Rattle.bool_expr.specs.Expression.{Expression, constant, variable, inverse as not_of, pair, choice, IsOver}
use Rattle.source_checks.specs.declared.symbol_table.Symbol.{Symbol}
use Rattle.source_checks.specs.declared.statement.Guarded.{Guarded}
use Rattle.source_checks.specs.declared.statement.Choice.{Choice}
use Rattle.source_checks.specs.Formula.{Formula, fixed, named, opposite, joined, chosen, formulas, first_bit, each_pair, choose_bits, alternative_bits, choice_bits, numbered}
use Rattle.vbe_text.specs.Source.{GuardedTree, ChoiceTree, guarded_view, choice_view}
use Rattle.machine_free.specs.Free.{AreFreed}
use Rattle.vbe_free.specs.Tokens.{free_name}
use Rattle.vbe_free.specs.Filled.{filled_value, filled_guarded, filled_choice, free_lines, alternatives_free, choice_free}

-- ---- choices as trees

abbrev pub tree_alternatives : List Symbol → List GuardedTree → List Formula → List Formula
tree_alternatives known [] otherwise = otherwise
tree_alternatives known (g ∷ rest) otherwise =
    choose_bits (first_bit (formulas known g.condition)) (formulas known g.value) (tree_alternatives known rest otherwise)

abbrev pub tree_bits : List Symbol → ChoiceTree → List Formula
tree_bits known c = tree_alternatives known c.alternatives (formulas known c.otherwise)

alternatives_as : (known : List Symbol) (gs : List Guarded) (otherwise : List Formula)
    → alternative_bits known gs otherwise ≡ tree_alternatives known (map guarded_view gs) otherwise
alternatives_as known [] otherwise = refl
alternatives_as known (g ∷ rest) otherwise =
    ap (choose_bits (first_bit (formulas known (view g.condition))) (formulas known (view g.value))) (alternatives_as known rest otherwise)

pub bits_as : (known : List Symbol) (c : Choice) → choice_bits known c ≡ tree_bits known (choice_view c)
bits_as known c = alternatives_as known c.alternatives (formulas known (view c.otherwise))

-- ---- formulas with free bits

-- the first formula has each free bit as 0, the second as 1
abbrev pub AreFreedFormulas : Formula → Formula → Type 0
AreFreedFormulas (fixed b) high = (high ≡ fixed b) ⊎ ((b ≡ false) × (high ≡ fixed true))
AreFreedFormulas (named n) high = high ≡ named n
AreFreedFormulas (opposite e) high = high ≡ opposite e
AreFreedFormulas (joined g a b) high = high ≡ joined g a b
AreFreedFormulas (chosen c a b) high = (x y : Formula) × (high ≡ chosen c x y) × (AreFreedFormulas a x × AreFreedFormulas b y)

pub freed_itself : (f : Formula) → AreFreedFormulas f f
freed_itself (fixed b) = inl refl
freed_itself (named n) = refl
freed_itself (opposite e) = refl
freed_itself (joined g a b) = refl
freed_itself (chosen c a b) = (a, b, refl, (freed_itself a, freed_itself b))

-- over the numbers of names
pub freed_numbered : (vars : List Name) (f g : Formula) → AreFreedFormulas f g → AreFreed (numbered vars f) (numbered vars g)
freed_numbered vars (fixed b) g (inl h) = inl (ap (numbered vars) h)
freed_numbered vars (fixed b) g (inr h) = inr (h.0, ap (numbered vars) h.1)
freed_numbered vars (named n) g h = ap (numbered vars) h
freed_numbered vars (opposite e) g h = ap (numbered vars) h
freed_numbered vars (joined o a b) g h = ap (numbered vars) h
freed_numbered vars (chosen c a b) g h =
    (numbered vars h.0, numbered vars h.1, ap (numbered vars) h.2, (freed_numbered vars a h.0 h.3.0, freed_numbered vars b h.1 h.3.1))

-- each formula of the first list that stands at the head is freed in the second; both have a head or none has
abbrev pub HeadsAreFreed : List Formula → List Formula → Type 0
HeadsAreFreed [] [] = Unit {0}
HeadsAreFreed [] (y ∷ ys) = ⊥
HeadsAreFreed (x ∷ xs) [] = ⊥
HeadsAreFreed (x ∷ xs) (y ∷ ys) = AreFreedFormulas x y

heads_itself : (xs : List Formula) → HeadsAreFreed xs xs
heads_itself [] = tt
heads_itself (x ∷ xs) = freed_itself x

value_heads : (known : List Symbol) (e : Tree) → HeadsAreFreed (formulas known (filled_value false e)) (formulas known (filled_value true e))
value_heads known (bit b line) = heads_itself (formulas known (bit b line))
value_heads known (literal r digits line) = heads_itself (formulas known (literal r digits line))
value_heads known (name text line) = by (bytes_eq text free_name) where
  by : (b : Bool) → HeadsAreFreed (formulas known (cond b (bit false line) (name text line))) (formulas known (cond b (bit true line) (name text line)))
  by true = inr (refl, refl)
  by false = heads_itself (formulas known (name text line))
value_heads known (index text line k) = heads_itself (formulas known (index text line k))
value_heads known (slice text line range) = heads_itself (formulas known (slice text line range))
value_heads known (stable text line) = heads_itself (formulas known (stable text line))
value_heads known (inverse line e) = heads_itself (formulas known (inverse line e))
value_heads known (binary op line left right) = heads_itself (formulas known (binary op line left right))

choose_heads : (c : Formula) (xs ys us vs : List Formula) → HeadsAreFreed xs ys → HeadsAreFreed us vs → HeadsAreFreed (choose_bits c xs us) (choose_bits c ys vs)
choose_heads c [] [] us vs h g = tt
choose_heads c [] (y ∷ ys) us vs h g = absurd h
choose_heads c (x ∷ xs) [] us vs h g = absurd h
choose_heads c (x ∷ xs) (y ∷ ys) [] [] h g = tt
choose_heads c (x ∷ xs) (y ∷ ys) [] (v ∷ vs) h g = absurd g
choose_heads c (x ∷ xs) (y ∷ ys) (u ∷ us) [] h g = absurd g
choose_heads c (x ∷ xs) (y ∷ ys) (u ∷ us) (v ∷ vs) h g = (y, v, refl, (h, g))

alternatives_heads : (known : List Symbol) (gs : List GuardedTree) (us vs : List Formula) → HeadsAreFreed us vs
    → HeadsAreFreed (tree_alternatives known (map (filled_guarded false) gs) us) (tree_alternatives known (map (filled_guarded true) gs) vs)
alternatives_heads known [] us vs h = h
alternatives_heads known (g ∷ gs) us vs h =
    choose_heads (first_bit (formulas known g.condition)) (formulas known (filled_value false g.value)) (formulas known (filled_value true g.value))
    (tree_alternatives known (map (filled_guarded false) gs) us) (tree_alternatives known (map (filled_guarded true) gs) vs)
    (value_heads known g.value) (alternatives_heads known gs us vs h)

-- the first bits of a choice
pub choice_heads : (known : List Symbol) (c : ChoiceTree) → HeadsAreFreed (tree_bits known (filled_choice false c)) (tree_bits known (filled_choice true c))
choice_heads known c =
    alternatives_heads known c.alternatives (formulas known (filled_value false c.otherwise)) (formulas known (filled_value true c.otherwise)) (value_heads known c.otherwise)

-- ---- where nothing is free

no_left : {A : Type 0} (xs ys : List A) → xs ++ ys ≡ [] → xs ≡ []
no_left [] ys e = refl
no_left (x ∷ xs) ys e = absurd cc

no_right : {A : Type 0} (xs ys : List A) → xs ++ ys ≡ [] → ys ≡ []
no_right [] ys e = e
no_right (x ∷ xs) ys e = absurd cc

value_alike : (e : Tree) → free_lines e ≡ [] → filled_value false e ≡ filled_value true e
value_alike (bit b line) h = refl
value_alike (literal r digits line) h = refl
value_alike (name text line) h = by (bytes_eq text free_name) h where
  by : (b : Bool) → cond b (line ∷ []) [] ≡ [] → cond b (bit false line) (name text line) ≡ cond b (bit true line) (name text line)
  by true h = absurd cc
  by false h = refl
value_alike (index text line k) h = refl
value_alike (slice text line range) h = refl
value_alike (stable text line) h = refl
value_alike (inverse line e) h = refl
value_alike (binary op line left right) h = refl

alternatives_alike : (gs : List GuardedTree) → alternatives_free gs ≡ [] → map (filled_guarded false) gs ≡ map (filled_guarded true) gs
alternatives_alike [] h = refl
alternatives_alike (g ∷ gs) h =
    let one = value_alike g.value (no_left (free_lines g.value) (alternatives_free gs) h) in
    let rest = alternatives_alike gs (no_right (free_lines g.value) (alternatives_free gs) h) in
    λ j. record g { value = one j } ∷ rest j

pub choice_alike : (c : ChoiceTree) → choice_free c ≡ [] → filled_choice false c ≡ filled_choice true c
choice_alike c h =
    let gs = alternatives_alike c.alternatives (no_left (alternatives_free c.alternatives) (free_lines c.otherwise) h) in
    let last = value_alike c.otherwise (no_right (alternatives_free c.alternatives) (free_lines c.otherwise) h) in
    λ j. record { alternatives = gs j; otherwise = last j }
