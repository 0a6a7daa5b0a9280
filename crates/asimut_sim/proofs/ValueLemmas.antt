-- Values beside their columns, and bits that are wanted beside bits that are seen.
use Rattle.std.proofs.Common.{◌≡◌, ℕ, zero, suc, ◌+◌, ◌<◌, ◌≤◌, Bool, true, false, List, [], ◌∷◌, ◌++◌, length, take, drop, replicate, Option, None, Some, refl, sym, ◌∙◌, ap, add-one, drop-cons, length-append, append_assoc, append-nil, arith, if◌then◌else◌}
use Rattle.std.specs.List.{slice_index_or}
use Rattle.pat_meaning.specs.declared.patterns.Column.{Column}
use Rattle.pat_meaning.specs.declared.patterns.Value.{Value}
use Rattle.pat_meaning.specs.Columns.{column_names, listed, value_bits, given_bits, FitsColumns}
use Rattle.asimut_sim.specs.Places.{one_on}
use Rattle.asimut_sim.specs.Listed.{wanted_value, wanted_bits, is_other, other_place, shown_value, shown}
use Rattle.asimut_sim.proofs.PlaceLemmas.{shifted, shifted-one_on}
use Rattle.asimut_sim.proofs.ColumnLemmas.{columns-cons}

pub length-fits : (columns : List Column) (values : List Value) → FitsColumns columns values → length values ≡ length columns
length-fits [] [] f = refl
length-fits [] (v ∷ values) f = absurd f
length-fits (c ∷ cs) [] f = absurd f
length-fits (c ∷ cs) (v ∷ values) f = ap suc (length-fits cs values f.1)

-- one more of the same
pub replicate-more : {A : Type 0} (start xs : List A) (x : A) (k : ℕ) → xs ≡ start ++ replicate k x → xs ++ x ∷ [] ≡ start ++ replicate (k + 1) x
replicate-more start xs x k e = ap (λ y. y ++ x ∷ []) e ∙ append_assoc start (replicate k x) (x ∷ []) ∙ ap (λ y. start ++ y) (last k) where
  last : (n : ℕ) → replicate n x ++ x ∷ [] ≡ replicate (n + 1) x
  last zero = refl
  last (suc n) = let f : suc n + 1 ≡ suc (n + 1) = omega arith in ap (λ y. x ∷ y) (last n) ∙ sym (ap (λ j. replicate j x) f)

pub values-cons : (values : List Value) (k : ℕ) (v : Value) → k < length values → v ≡ slice_index_or values k v
    → drop k values ≡ v ∷ drop (k + 1) values
values-cons values k v h is =
    drop-cons values k v h ∙ ap (λ x. x ∷ drop (suc k) values) (sym is) ∙ ap (λ j. v ∷ drop j values) (sym (add-one k))

-- what was given so far, and what is given from number k on, is the whole
abbrev pub Gives : List Column → List Value → ℕ → List Bool → Type 0
Gives columns values k bits = bits ++ given_bits (drop k columns) (drop k values) ≡ given_bits columns values

pub gives-next : (columns : List Column) (values : List Value) (k : ℕ) (bits : List Bool) (c : Column) (v : Value)
    → k < length columns → c ≡ slice_index_or columns k c → k < length values → v ≡ slice_index_or values k v
    → Gives columns values k bits → Gives columns values (k + 1) (bits ++ value_bits c v)
gives-next columns values k bits c v h is g at goes =
    append_assoc bits (value_bits c v) (given_bits (drop (k + 1) columns) (drop (k + 1) values))
    ∙ sym (ap (λ x. bits ++ given_bits x (drop k values)) (columns-cons columns k c h is)
    ∙ ap (λ x. bits ++ given_bits (c ∷ drop (k + 1) columns) x) (values-cons values k v g at))
    ∙ goes

abbrev pub Wants : List Column → List Value → ℕ → List (Option Bool) → Type 0
Wants columns values k bits = bits ++ wanted_bits (drop k columns) (drop k values) ≡ wanted_bits columns values

pub wants-next : (columns : List Column) (values : List Value) (k : ℕ) (bits : List (Option Bool)) (c : Column) (v : Value)
    → k < length columns → c ≡ slice_index_or columns k c → k < length values → v ≡ slice_index_or values k v
    → Wants columns values k bits → Wants columns values (k + 1) (bits ++ wanted_value c.dir (length (column_names c)) v)
wants-next columns values k bits c v h is g at goes =
    append_assoc bits (wanted_value c.dir (length (column_names c)) v) (wanted_bits (drop (k + 1) columns) (drop (k + 1) values))
    ∙ sym (ap (λ x. bits ++ wanted_bits x (drop k values)) (columns-cons columns k c h is)
    ∙ ap (λ x. bits ++ wanted_bits (c ∷ drop (k + 1) columns) x) (values-cons values k v g at))
    ∙ goes

-- at the end nothing is given
pub given-end : (columns : List Column) (values : List Value) (k : ℕ) (bits : List Bool) → drop k columns ≡ [] → Gives columns values k bits
    → bits ≡ given_bits columns values
given-end columns values k bits e goes =
    sym (append-nil bits) ∙ sym (ap (λ x. bits ++ given_bits x (drop k values)) e) ∙ goes

pub wanted-end : (columns : List Column) (values : List Value) (k : ℕ) (bits : List (Option Bool)) → drop k columns ≡ [] → Wants columns values k bits
    → bits ≡ wanted_bits columns values
wanted-end columns values k bits e goes =
    sym (append-nil bits) ∙ sym (ap (λ x. bits ++ wanted_bits x (drop k values)) e) ∙ goes

-- what was shown so far, and what the rest of the bits shows from number k on, is the whole
pub record Shows (columns : List Column) (values : List Value) (seen : List Bool) (k : ℕ) (left : List Bool) (made : List Value) : Type 0 where
  pub each : length left ≡ length (listed (drop k columns))
  pub same : made ++ shown (drop k columns) (drop k values) left ≡ shown columns values seen

pub shows-enough : (columns : List Column) (values : List Value) (seen : List Bool) (k : ℕ) (left : List Bool) (made : List Value) (c : Column)
    → k < length columns → c ≡ slice_index_or columns k c → Shows columns values seen k left made → length (column_names c) ≤ length left
shows-enough columns values seen k left made c h is s =
    let e = s.each ∙ ap (λ x. length (listed x)) (columns-cons columns k c h is) in
    omega (arith, e, length-append (column_names c) (listed (drop (k + 1) columns)))

pub shows-next : (columns : List Column) (values : List Value) (seen : List Bool) (k : ℕ) (left back : List Bool) (made : List Value) (c : Column) (v one : Value)
    → k < length columns → c ≡ slice_index_or columns k c → k < length values → v ≡ slice_index_or values k v
    → back ≡ drop (length (column_names c)) left → length back + length (column_names c) ≡ length left
    → one ≡ shown_value c.dir v (take (length (column_names c)) left)
    → Shows columns values seen k left made → Shows columns values seen (k + 1) back (made ++ one ∷ [])
shows-next columns values seen k left back made c v one h is g at is_back fewer shown_one s =
    let cons = columns-cons columns k c h is in
    let e = s.each ∙ ap (λ x. length (listed x)) cons in
    let n = length-append (column_names c) (listed (drop (k + 1) columns)) in
    record {
      each = omega (arith, e, n, fewer);
      same =
          append_assoc made (one ∷ []) (shown (drop (k + 1) columns) (drop (k + 1) values) back)
          ∙ ap (λ x. made ++ x ∷ shown (drop (k + 1) columns) (drop (k + 1) values) back) shown_one
          ∙ ap (λ x. made ++ shown_value c.dir v (take (length (column_names c)) left) ∷ shown (drop (k + 1) columns) (drop (k + 1) values) x) is_back
          ∙ sym (ap (λ x. made ++ shown x (drop k values) left) cons
          ∙ ap (λ x. made ++ shown (c ∷ drop (k + 1) columns) x left) (values-cons values k v g at))
          ∙ s.same;
    }

pub shows-end : (columns : List Column) (values : List Value) (seen : List Bool) (k : ℕ) (left : List Bool) (made : List Value) → drop k columns ≡ []
    → Shows columns values seen k left made → made ≡ shown columns values seen
shows-end columns values seen k left made e s =
    sym (append-nil made) ∙ sym (ap (λ x. made ++ shown x (drop k values) left) e) ∙ s.same

-- no other bit is seen in front of number k
abbrev pub Agrees : List (Option Bool) → List Bool → ℕ → Type 0
Agrees wanted seen k = other_place wanted seen ≡ shifted k (other_place (drop k wanted) (drop k seen))

pub others-cons : (wanted : List (Option Bool)) (seen : List Bool) (k : ℕ) → k < length wanted → length wanted ≡ length seen
    → other_place (drop k wanted) (drop k seen)
    ≡ (if is_other (slice_index_or wanted k None) (slice_index_or seen k false) then Some 0 else one_on (other_place (drop (k + 1) wanted) (drop (k + 1) seen)))
others-cons wanted seen k h e =
    let g : k < length seen = omega arith in
    let x = drop-cons wanted k None h ∙ ap (λ j. slice_index_or wanted k None ∷ drop j wanted) (sym (add-one k)) in
    let y = drop-cons seen k false g ∙ ap (λ j. slice_index_or seen k false ∷ drop j seen) (sym (add-one k)) in
    ap (λ z. other_place z (drop k seen)) x ∙ ap (other_place (slice_index_or wanted k None ∷ drop (k + 1) wanted)) y

pub agrees-next : (wanted : List (Option Bool)) (seen : List Bool) (k : ℕ) → k < length wanted → length wanted ≡ length seen
    → is_other (slice_index_or wanted k None) (slice_index_or seen k false) ≡ false → Agrees wanted seen k → Agrees wanted seen (k + 1)
agrees-next wanted seen k h e same a =
    let more = one_on (other_place (drop (k + 1) wanted) (drop (k + 1) seen)) in
    a ∙ ap (shifted k) (others-cons wanted seen k h e) ∙ ap (λ b. shifted k (if b then Some 0 else more)) same
    ∙ shifted-one_on k (other_place (drop (k + 1) wanted) (drop (k + 1) seen))

pub agrees-found : (wanted : List (Option Bool)) (seen : List Bool) (k : ℕ) → k < length wanted → length wanted ≡ length seen
    → is_other (slice_index_or wanted k None) (slice_index_or seen k false) ≡ true → Agrees wanted seen k → Some k ≡ other_place wanted seen
agrees-found wanted seen k h e other a =
    let more = one_on (other_place (drop (k + 1) wanted) (drop (k + 1) seen)) in
    let z : k + 0 ≡ k = omega arith in
    sym (a ∙ ap (shifted k) (others-cons wanted seen k h e) ∙ ap (λ b. shifted k (if b then Some 0 else more)) other ∙ ap (λ j. Some j) z)

pub agrees-end : (wanted : List (Option Bool)) (seen : List Bool) (k : ℕ) → drop k wanted ≡ [] → Agrees wanted seen k → None ≡ other_place wanted seen
agrees-end wanted seen k e a = sym (a ∙ ap (λ x. shifted k (other_place x (drop k seen))) e)
