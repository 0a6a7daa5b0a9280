-- A free bit as the value of an expression.
use Rattle.std.proofs.Common.{◌≡◌, ℕ, Bool, true, false, cond, List, [], ◌∷◌, map, length, Option, None, Some, refl, sym, ap, ◌∙◌, bytes_eq, arith}
use Rattle.std.specs.Prelude.{◌==◌}
use Rattle.std.proofs.lemmas.Bool.{eqb-true, eq-eqb}
use Rattle.vlsi_base.specs.declared.expression.Operator.{Operator}
use Rattle.vlsi_base.specs.Tree.{Tree, bit, literal, name, index, slice, stable, inverse, binary, folded}
use Rattle.source_checks.specs.Lines.{first_line}
use Rattle.vbe_free.specs.Tokens.{free_name}
use Rattle.vbe_free.specs.Filled.{filled_value, free_lines}

pub free_folded : (op : Operator) (left : Tree) (e : ℕ × Tree) (es : List (ℕ × Tree)) → free_lines (folded op left (e ∷ es)) ≡ []
free_folded op left e [] = refl
free_folded op left e (x ∷ es) = free_folded op (binary op e.0 left e.1) x es

pub filled_some : (b : Bool) (e : Tree) (line : ℕ) → Some line ≡ first_line (free_lines e) → bit b line ≡ filled_value b e
filled_some b (bit c l) line h = absurd cc
filled_some b (literal r digits l) line h = absurd cc
filled_some b (name text l) line h = by (bytes_eq text free_name) h where
  by : (c : Bool) → Some line ≡ first_line (cond c (l ∷ []) []) → bit b line ≡ cond c (bit b l) (name text l)
  by true h = let same : line ≡ l = cc in ap (bit b) same
  by false h = absurd cc
filled_some b (index text l k) line h = absurd cc
filled_some b (slice text l range) line h = absurd cc
filled_some b (stable text l) line h = absurd cc
filled_some b (inverse l e) line h = absurd cc
filled_some b (binary op l left right) line h = absurd cc

pub filled_none : (b : Bool) (e : Tree) → None ≡ first_line (free_lines e) → e ≡ filled_value b e
filled_none b (bit c l) h = refl
filled_none b (literal r digits l) h = refl
filled_none b (name text l) h = by (bytes_eq text free_name) h where
  by : (c : Bool) → None ≡ first_line (cond c (l ∷ []) []) → name text l ≡ cond c (bit b l) (name text l)
  by true h = absurd cc
  by false h = refl
filled_none b (index text l k) h = refl
filled_none b (slice text l range) h = refl
filled_none b (stable text l) h = refl
filled_none b (inverse l e) h = refl
filled_none b (binary op l left right) h = refl

pub chain_alone : {X : Type 0} (f : X → ℕ × Tree) (op : Operator) (whole left : Tree) (xs : List X) (o : Option ℕ) → whole ≡ folded op left (map f xs) → length xs ≡ 0
    → o ≡ first_line (free_lines left) → o ≡ first_line (free_lines whole)
chain_alone f op whole left [] o is none h = h ∙ ap (λ (t : Tree). first_line (free_lines t)) (sym is)
chain_alone f op whole left (x ∷ xs) o is none h = absurd (omega arith)

pub chain_more : {X : Type 0} (f : X → ℕ × Tree) (op : Operator) (whole left : Tree) (xs : List X) → whole ≡ folded op left (map f xs) → (length xs ≡ 0 → ⊥)
    → None ≡ first_line (free_lines whole)
chain_more f op whole left [] is some = absurd (some refl)
chain_more f op whole left (x ∷ xs) is some =
    sym (ap (λ (t : Tree). first_line (free_lines t)) is ∙ ap first_line (free_folded op left (f x) (map f xs)))

pub map_map : {A B C : Type 0} (f : B → C) (g : A → B) (xs : List A) → map f (map g xs) ≡ map (λ x. f (g x)) xs
map_map f g [] = refl
map_map f g (x ∷ xs) = ap (λ ys. f (g x) ∷ ys) (map_map f g xs)

pub zero_of : (n : ℕ) (b : Bool) → b ≡ (n == 0) → b ≡ true → n ≡ 0
zero_of n b is truly = eqb-true n 0 (sym is ∙ truly)

pub some_of : (n : ℕ) (b : Bool) → b ≡ (n == 0) → b ≡ false → n ≡ 0 → ⊥
some_of n b is never zero = let both : true ≡ false = sym (eq-eqb n 0 zero) ∙ sym is ∙ never in absurd cc
