-- Texts put one behind another, and lists from one of their items on.
use Rattle.std.proofs.Common.{◌≡◌, ℕ, zero, suc, ◌+◌, ◌-◌, ◌*◌, ◌/◌, ◌<◌, ◌≤◌, ◌^◌, Bool, true, false, List, [], ◌∷◌, ◌++◌, length, take, drop, refl, sym, ◌∙◌, ap, add-one, drop-cons, append_assoc, append-nil, arith, codes, if◌then◌else◌}
use Rattle.std.specs.List.{slice_index_or}
use Rattle.pat_meaning.specs.declared.patterns.Column.{Column}
use Rattle.pat_meaning.specs.declared.patterns.Pattern.{Pattern}
use Rattle.pat_meaning.specs.declared.patterns.Value.{Value}
use Rattle.std.proofs.lemmas.List.{drop_all}
use Rattle.pat_io.specs.Spelling.{column_text, columns_text, value_text, values_text, pattern_text, patterns_text, number_from, digits_text, digit_of}

pub item-cons : {A : Type 0} (items : List A) (k : ℕ) (x : A) → k < length items → x ≡ slice_index_or items k x → drop k items ≡ x ∷ drop (k + 1) items
item-cons items k x h is =
    drop-cons items k x h ∙ ap (λ y. y ∷ drop (suc k) items) (sym is) ∙ ap (λ j. x ∷ drop j items) (sym (add-one k))

-- what was written so far, and what is written from number k on, is the whole
abbrev pub Columns : List ℕ → List Column → ℕ → List ℕ → Type 0
Columns start columns k out = out ++ columns_text (drop k columns) ≡ start ++ columns_text columns

pub columns-next : (start : List ℕ) (columns : List Column) (k : ℕ) (out : List ℕ) (c : Column) → k < length columns → c ≡ slice_index_or columns k c
    → Columns start columns k out → Columns start columns (k + 1) (out ++ column_text c)
columns-next start columns k out c h is w =
    append_assoc out (column_text c) (columns_text (drop (k + 1) columns)) ∙ sym (ap (λ x. out ++ columns_text x) (item-cons columns k c h is)) ∙ w

pub columns-end : (start : List ℕ) (columns : List Column) (k : ℕ) (out : List ℕ) → drop k columns ≡ [] → Columns start columns k out → out ≡ start ++ columns_text columns
columns-end start columns k out e w = sym (append-nil out) ∙ sym (ap (λ x. out ++ columns_text x) e) ∙ w

abbrev pub Patterns : List ℕ → List Column → List Pattern → ℕ → List ℕ → Type 0
Patterns start columns patterns k out = out ++ patterns_text columns (drop k patterns) ≡ start ++ patterns_text columns patterns

pub patterns-next : (start : List ℕ) (columns : List Column) (patterns : List Pattern) (k : ℕ) (out : List ℕ) (p : Pattern) → k < length patterns → p ≡ slice_index_or patterns k p
    → Patterns start columns patterns k out → Patterns start columns patterns (k + 1) (out ++ pattern_text columns p)
patterns-next start columns patterns k out p h is w =
    append_assoc out (pattern_text columns p) (patterns_text columns (drop (k + 1) patterns)) ∙ sym (ap (λ x. out ++ patterns_text columns x) (item-cons patterns k p h is)) ∙ w

pub patterns-end : (start : List ℕ) (columns : List Column) (patterns : List Pattern) (k : ℕ) (out : List ℕ) → drop k patterns ≡ [] → Patterns start columns patterns k out
    → out ≡ start ++ patterns_text columns patterns
patterns-end start columns patterns k out e w = sym (append-nil out) ∙ sym (ap (λ x. out ++ patterns_text columns x) e) ∙ w

abbrev pub Values : List ℕ → List Column → List Value → ℕ → List ℕ → Type 0
Values start columns values k out = out ++ values_text (drop k columns) (drop k values) ≡ start ++ values_text columns values

pub values-next : (start : List ℕ) (columns : List Column) (values : List Value) (k : ℕ) (out : List ℕ) (c : Column) (v : Value)
    → k < length columns → c ≡ slice_index_or columns k c → k < length values → v ≡ slice_index_or values k v
    → Values start columns values k out → Values start columns values (k + 1) (out ++ (codes " " ++ value_text c v))
values-next start columns values k out c v h is g at w =
    append_assoc out (codes " " ++ value_text c v) (values_text (drop (k + 1) columns) (drop (k + 1) values))
    ∙ sym (ap (λ x. out ++ values_text x (drop k values)) (item-cons columns k c h is)
    ∙ ap (λ x. out ++ values_text (c ∷ drop (k + 1) columns) x) (item-cons values k v g at))
    ∙ w

values-nothing : (columns : List Column) → values_text columns [] ≡ []
values-nothing [] = refl
values-nothing (c ∷ columns) = refl

-- behind the last value nothing more is written
pub values-past : (start : List ℕ) (columns : List Column) (values : List Value) (k : ℕ) (out : List ℕ) → length values ≤ k
    → Values start columns values k out → Values start columns values (k + 1) out
values-past start columns values k out h w =
    ap (λ x. out ++ values_text (drop (k + 1) columns) x) (drop_all (k + 1) values (omega arith)) ∙ ap (λ x. out ++ x) (values-nothing (drop (k + 1) columns))
    ∙ sym (ap (λ x. out ++ values_text (drop k columns) x) (drop_all k values h) ∙ ap (λ x. out ++ x) (values-nothing (drop k columns)))
    ∙ w

pub values-end : (start : List ℕ) (columns : List Column) (values : List Value) (k : ℕ) (out : List ℕ) → drop k columns ≡ [] → Values start columns values k out
    → out ≡ start ++ values_text columns values
values-end start columns values k out e w = sym (append-nil out) ∙ sym (ap (λ x. out ++ values_text x (drop k values)) e) ∙ w

-- ---- digits

pub record Spells (bits : List Bool) (i v : ℕ) : Type 0 where
  pub rest : number_from v (drop i bits) ≡ number_from 0 bits
  pub small : v < 2 ^ i

pub pow-small : (i : ℕ) → i < 4 → 2 ^ i ≤ 8
pow-small zero h = omega arith
pow-small (suc zero) h = omega arith
pow-small (suc (suc zero)) h = omega arith
pow-small (suc (suc (suc zero))) h = omega arith
pow-small (suc (suc (suc (suc i)))) h = absurd (omega arith)

pub pow-most : (i : ℕ) → i ≤ 4 → 2 ^ i ≤ 16
pow-most zero h = omega arith
pow-most (suc zero) h = omega arith
pow-most (suc (suc zero)) h = omega arith
pow-most (suc (suc (suc zero))) h = omega arith
pow-most (suc (suc (suc (suc zero)))) h = omega arith
pow-most (suc (suc (suc (suc (suc i))))) h = absurd (omega arith)

pow-twice : (i v : ℕ) (b : Bool) → v < 2 ^ i → i < 4 → 2 * v + (if b then 1 else 0) < 2 ^ (i + 1)
pow-twice zero v true h g = omega arith
pow-twice zero v false h g = omega arith
pow-twice (suc zero) v true h g = omega arith
pow-twice (suc zero) v false h g = omega arith
pow-twice (suc (suc zero)) v true h g = omega arith
pow-twice (suc (suc zero)) v false h g = omega arith
pow-twice (suc (suc (suc zero))) v true h g = omega arith
pow-twice (suc (suc (suc zero))) v false h g = omega arith
pow-twice (suc (suc (suc (suc i)))) v b h g = absurd (omega arith)

pub spells-next : (bits : List Bool) (i v : ℕ) → i < length bits → length bits ≤ 4 → Spells bits i v
    → Spells bits (i + 1) (2 * v + (if slice_index_or bits i false then 1 else 0))
spells-next bits i v h g s =
    let b = slice_index_or bits i false in
    let cons : drop i bits ≡ b ∷ drop (i + 1) bits = drop-cons bits i false h ∙ ap (λ j. b ∷ drop j bits) (sym (add-one i)) in
    record {
      rest = sym (ap (number_from v) cons) ∙ s.rest;
      small = let t = s.small in pow-twice i v b t (omega arith);
    }

-- what was spelled so far, and what the bits that are left spell, are the digits; the first of them has 1 to k bits
pub record Spelled (start : List ℕ) (k count : ℕ) (bits : List Bool) (step : ℕ) (out : List ℕ) (rest : List Bool) : Type 0 where
  pub same : out ++ digits_text k (count - step) rest ≡ start ++ digits_text k count bits
  pub most : length rest ≤ k * (count - step)
  pub least : k * (count - step) < length rest + k

pub spelled-begin : (start : List ℕ) (k count : ℕ) (bits : List Bool) → 0 < k → count ≡ (length bits + (k - 1)) / k → Spelled start k count bits 0 start bits
spelled-begin start k count bits h e =
    let z : count - 0 ≡ count = omega arith in
    let m = ap (λ n. k * n) z in
    let f = ap (λ n. k * n) e in
    record {
      same = ap (λ n. start ++ digits_text k n bits) z;
      most = omega (arith, m, f);
      least = omega (arith, m, f);
    }

-- the next digit has its share of the bits
pub record Share (k count step : ℕ) (rest : List Bool) : Type 0 where
  pub within : k * (count - 1 - step) < length rest
  pub fits : length rest - k * (count - 1 - step) ≤ k

pub share : (start : List ℕ) (k count : ℕ) (bits : List Bool) (step : ℕ) (out : List ℕ) (rest : List Bool) → step < count → Spelled start k count bits step out rest
    → Share k count step rest
share start k count bits step out rest h s =
    let e : count - step ≡ suc (count - 1 - step) = omega arith in
    let m = ap (λ n. k * n) e in
    let a = s.most in let b = s.least in
    record { within = omega (arith, m); fits = omega (arith, m) }

pub spelled-next : (start : List ℕ) (k count : ℕ) (bits : List Bool) (step : ℕ) (out : List ℕ) (rest front others : List Bool) → 0 < k → step < count
    → front ≡ take (length rest - k * (count - 1 - step)) rest → others ≡ drop (length rest - k * (count - 1 - step)) rest
    → length others + (length rest - k * (count - 1 - step)) ≡ length rest
    → Spelled start k count bits step out rest → Spelled start k count bits (step + 1) (out ++ digit_of (number_from 0 front) ∷ []) others
spelled-next start k count bits step out rest front others p h is_front is_others as_many s =
    let sh = share start k count bits step out rest h s in
    let e : count - step ≡ suc (count - 1 - step) = omega arith in
    let d : count - (step + 1) ≡ count - 1 - step = omega arith in
    let m = ap (λ n. k * n) d in
    let w = sh.within in
    record {
      same =
          append_assoc out (digit_of (number_from 0 front) ∷ []) (digits_text k (count - (step + 1)) others)
          ∙ ap (λ n. out ++ digit_of (number_from 0 front) ∷ digits_text k n others) d
          ∙ ap (λ x. out ++ digit_of (number_from 0 x) ∷ digits_text k (count - 1 - step) others) is_front
          ∙ ap (λ x. out ++ digit_of (number_from 0 (take (length rest - k * (count - 1 - step)) rest)) ∷ digits_text k (count - 1 - step) x) is_others
          ∙ sym (ap (λ n. out ++ digits_text k n rest) e)
          ∙ s.same;
      most = omega (arith, m);
      least = omega (arith, m);
    }

pub spelled-end : (start : List ℕ) (k count : ℕ) (bits : List Bool) (step : ℕ) (out : List ℕ) (rest : List Bool) → count ≤ step → Spelled start k count bits step out rest
    → out ≡ start ++ digits_text k count bits
spelled-end start k count bits step out rest h s =
    let e : count - step ≡ 0 = omega arith in
    sym (append-nil out) ∙ sym (ap (λ n. out ++ digits_text k n rest) e) ∙ s.same
