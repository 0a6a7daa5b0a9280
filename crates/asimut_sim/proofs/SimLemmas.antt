-- What one pattern comes to, by the listed bits.
use Rattle.std.proofs.Common.{◌≡◌, ℕ, suc, ◌+◌, ◌<◌, Bool, true, false, List, [], ◌∷◌, ◌++◌, map, length, take, drop, replicate, Option, None, Some, refl, sym, ◌∙◌, ap, subst, add-one, length-append, arith, if◌then◌else◌}
use Rattle.std.specs.List.{slice_index_or}
use Rattle.std.proofs.lemmas.List.{length-replicate, length-map}
use Rattle.std.proofs.Math.Seq.{take-append_seam}
use Rattle.vlsi_base.specs.declared.name.Name.{Name}
use Rattle.vlsi_base.specs.declared.name.Dir.{Dir}
use Rattle.vlsi_base.specs.declared.name.Dir.TheVariants.{In, Out}
use Rattle.machine_core.specs.Named.{value_at, values_at}
use Rattle.machine_core.specs.Machine.{Machine, inputs}
use Rattle.pat_meaning.specs.declared.patterns.Column.{Column}
use Rattle.pat_meaning.specs.declared.patterns.Value.{Value}
use Rattle.pat_meaning.specs.declared.patterns.Value.TheVariants.{Digits, Any}
use Rattle.pat_meaning.specs.declared.patterns.Pattern.{Pattern}
use Rattle.pat_meaning.specs.Columns.{column_names, listed, given_bits, Fits, FitsColumns}
use Rattle.pat_meaning.specs.Circuit.{of_machine}
use Rattle.pat_meaning.specs.Simulation.{vector, clock_bit, Compared, compared_bits, compared_value, compared_values, is_different, first_difference, filled_value, filled_values}
use Rattle.asimut_sim.specs.Places.{one_on, place_of, bit_at}
use Rattle.asimut_sim.specs.Listed.{wanted_value, wanted_bits, is_other, other_place, shown_value, shown}
use Rattle.pat_meaning.specs.Simulation.{rises, Takes}
use Rattle.asimut_sim.specs.Plan.{clock_place, IsPlan}
use Rattle.asimut_sim.specs.Answers.{Sees, Agrees, DisagreesIn, StopsAt, IsOtherIn}
use Rattle.asimut_sim.specs.declared.refusal.SimError.{SimError}
use Rattle.asimut_sim.specs.declared.refusal.SimError.TheVariants.{Memory, Differs}
use Rattle.asimut_sim.proofs.PlaceLemmas.{bit_at-place_of, bits-values}

pub clock-place : (m : Machine) (columns : List Column) (values : List Value) (clock : Option Name)
    → bit_at (given_bits columns values) (clock_place (listed columns) clock) ≡ clock_bit clock columns values
clock-place m columns values None = refl
clock-place m columns values (Some name) = bit_at-place_of (listed columns) (given_bits columns values) name

-- the first of two, or else the second
abbrev pub or_else : Option Compared → Option Compared → Option Compared
or_else None y = y
or_else (Some x) y = Some x

pub first-append : (xs ys : List Compared) → first_difference (xs ++ ys) ≡ or_else (first_difference xs) (first_difference ys)
first-append [] ys = refl
first-append (x ∷ xs) ys = by (is_different x) (first-append xs ys) where
  by : (b : Bool) → first_difference (xs ++ ys) ≡ or_else (first_difference xs) (first_difference ys)
      → (if b then Some x else first_difference (xs ++ ys)) ≡ or_else (if b then Some x else first_difference xs) (first_difference ys)
  by true e = refl
  by false e = e

abbrev pub expected : Option Bool → Bool
expected None = false
expected (Some b) = b

-- the first bit that is seen as another than is wanted
abbrev pub flat : Machine → List Bool → ℕ → List Name → List (Option Bool) → Option Compared
flat m w n [] wanted = None
flat m w n (name ∷ names) [] = None
flat m w n (name ∷ names) (b ∷ wanted) =
    if is_other b (value_at m.vars w name)
    then Some (record { pattern = n; name = name; expected = expected b; observed = value_at m.vars w name })
    else flat m w n names wanted

pub flat-append : (m : Machine) (w : List Bool) (n : ℕ) (names others : List Name) (wanted more : List (Option Bool)) → length wanted ≡ length names
    → flat m w n (names ++ others) (wanted ++ more) ≡ or_else (flat m w n names wanted) (flat m w n others more)
flat-append m w n [] others [] more h = refl
flat-append m w n [] others (b ∷ wanted) more h = absurd (omega arith)
flat-append m w n (name ∷ names) others [] more h = absurd (omega arith)
flat-append m w n (name ∷ names) others (b ∷ wanted) more h =
    by (is_other b (value_at m.vars w name)) (flat-append m w n names others wanted more (omega arith)) where
      by : (t : Bool) → flat m w n (names ++ others) (wanted ++ more) ≡ or_else (flat m w n names wanted) (flat m w n others more)
          → (if t then Some (record { pattern = n; name = name; expected = expected b; observed = value_at m.vars w name }) else flat m w n (names ++ others) (wanted ++ more))
          ≡ or_else (if t then Some (record { pattern = n; name = name; expected = expected b; observed = value_at m.vars w name }) else flat m w n names wanted) (flat m w n others more)
      by true e = refl
      by false e = e

pub flat-nothing : (m : Machine) (w : List Bool) (n : ℕ) (names : List Name) → flat m w n names (replicate (length names) None) ≡ None
flat-nothing m w n [] = refl
flat-nothing m w n (name ∷ names) = flat-nothing m w n names

pub flat-bits : (m : Machine) (w : List Bool) (n : ℕ) (names : List Name) (bits : List Bool)
    → first_difference (compared_bits (value_at m.vars w) n names bits) ≡ flat m w n names (map (λ b. Some b) bits)
flat-bits m w n [] bits = refl
flat-bits m w n (name ∷ names) [] = refl
flat-bits m w n (name ∷ names) (b ∷ bits) = ap (λ x. if is_other (Some b) (value_at m.vars w name) then Some (record { pattern = n; name = name; expected = b; observed = value_at m.vars w name }) else x) (flat-bits m w n names bits)

pub flat-value : (m : Machine) (w : List Bool) (n : ℕ) (d : Dir) (names : List Name) (v : Value)
    → first_difference (compared_value (value_at m.vars w) n d names v) ≡ flat m w n names (wanted_value d (length names) v)
flat-value m w n In names v = sym (flat-nothing m w n names)
flat-value m w n Out names Any = sym (flat-nothing m w n names)
flat-value m w n Out names (Digits bits) = flat-bits m w n names bits

pub length-wanted : (c : Column) (d : Dir) (v : Value) → Fits c v → length (wanted_value d (length (column_names c)) v) ≡ length (column_names c)
length-wanted c In v f = length-replicate (length (column_names c)) None
length-wanted c Out Any f = length-replicate (length (column_names c)) None
length-wanted c Out (Digits bits) f = length-map bits (λ b. Some b) ∙ f

pub length-wanted_bits : (columns : List Column) (values : List Value) → FitsColumns columns values → length (wanted_bits columns values) ≡ length (listed columns)
length-wanted_bits [] values f = refl
length-wanted_bits (c ∷ cs) [] f = absurd f
length-wanted_bits (c ∷ cs) (v ∷ values) f =
    let a = length-append (wanted_value c.dir (length (column_names c)) v) (wanted_bits cs values) in
    let b = length-append (column_names c) (listed cs) in
    let d = length-wanted c c.dir v f.0 in
    let e = length-wanted_bits cs values f.1 in
    omega (arith, a, b, d, e)

pub flat-values : (m : Machine) (w : List Bool) (n : ℕ) (columns : List Column) (values : List Value) → FitsColumns columns values
    → first_difference (compared_values (value_at m.vars w) n columns values) ≡ flat m w n (listed columns) (wanted_bits columns values)
flat-values m w n [] values f = refl
flat-values m w n (c ∷ cs) [] f = absurd f
flat-values m w n (c ∷ cs) (v ∷ values) f =
    first-append (compared_value (value_at m.vars w) n c.dir (column_names c) v) (compared_values (value_at m.vars w) n cs values)
    ∙ ap (λ x. or_else x (first_difference (compared_values (value_at m.vars w) n cs values))) (flat-value m w n c.dir (column_names c) v)
    ∙ ap (λ x. or_else (flat m w n (column_names c) (wanted_value c.dir (length (column_names c)) v)) x) (flat-values m w n cs values f.1)
    ∙ sym (flat-append m w n (column_names c) (listed cs) (wanted_value c.dir (length (column_names c)) v) (wanted_bits cs values) (length-wanted c c.dir v f.0))

pub one_on-none : (o : Option ℕ) → one_on o ≡ None → o ≡ None
one_on-none None e = refl
one_on-none (Some k) e = absurd (cc)

pub flat-same : (m : Machine) (w : List Bool) (n : ℕ) (names : List Name) (wanted : List (Option Bool)) → length wanted ≡ length names
    → other_place wanted (values_at m.vars w names) ≡ None → flat m w n names wanted ≡ None
flat-same m w n [] wanted h e = refl
flat-same m w n (name ∷ names) [] h e = refl
flat-same m w n (name ∷ names) (b ∷ wanted) h e =
    by (is_other b (value_at m.vars w name)) refl (λ f. flat-same m w n names wanted (omega arith) f) where
      by : (t : Bool) → is_other b (value_at m.vars w name) ≡ t
          → (other_place wanted (values_at m.vars w names) ≡ None → flat m w n names wanted ≡ None) → flat m w n (name ∷ names) (b ∷ wanted) ≡ None
      by true q more = let z = rw q at e in absurd (cc)
      by false q more = rw q (more (one_on-none (other_place wanted (values_at m.vars w names)) (rw q at e)))

-- the first bit that is seen as another, by its place
pub record FirstAt (m : Machine) (w : List Bool) (n : ℕ) (names : List Name) (wanted : List (Option Bool)) (k : ℕ) (d : Name) : Type 0 where
  pub within : k < length names
  pub at : Compared
  pub first : flat m w n names wanted ≡ Some at
  pub pattern : at.pattern ≡ n
  pub name : at.name ≡ slice_index_or names k d

pub record OneOn (o : Option ℕ) (k : ℕ) : Type 0 where
  pub before : ℕ
  pub is : o ≡ Some before
  pub next : before + 1 ≡ k

pub one_on-some : (o : Option ℕ) (k : ℕ) → one_on o ≡ Some k → OneOn o k
one_on-some None k e = absurd (cc)
one_on-some (Some j) k e = record { before = j; is = refl; next = cc }

pub flat-other : (m : Machine) (w : List Bool) (n : ℕ) (names : List Name) (wanted : List (Option Bool)) (k : ℕ) (d : Name)
    → other_place wanted (values_at m.vars w names) ≡ Some k → FirstAt m w n names wanted k d
flat-other m w n [] [] k d e = absurd (cc)
flat-other m w n [] (b ∷ wanted) k d e = absurd (cc)
flat-other m w n (name ∷ names) [] k d e = absurd (cc)
flat-other m w n (name ∷ names) (b ∷ wanted) k d e =
    by (is_other b (value_at m.vars w name)) refl (λ j f. flat-other m w n names wanted j d f) where
      by : (t : Bool) → is_other b (value_at m.vars w name) ≡ t
          → ((j : ℕ) → other_place wanted (values_at m.vars w names) ≡ Some j → FirstAt m w n names wanted j d) → FirstAt m w n (name ∷ names) (b ∷ wanted) k d
      by true q more =
          let z : Some 0 ≡ Some k = rw q at e in
          let y : 0 ≡ k = cc in
          record {
            within = omega arith;
            at = record { pattern = n; name = name; expected = expected b; observed = value_at m.vars w name };
            first = rw q refl;
            pattern = refl;
            name = ap (λ j. slice_index_or (name ∷ names) j d) y;
          }
      by false q more =
          let z : one_on (other_place wanted (values_at m.vars w names)) ≡ Some k = rw q at e in
          let o = one_on-some (other_place wanted (values_at m.vars w names)) k z in
          let r = more o.before o.is in
          let y : suc o.before ≡ k = sym (add-one o.before) ∙ o.next in
          record {
            within = let h = r.within in omega arith;
            at = r.at;
            first = rw q r.first;
            pattern = r.pattern;
            name = r.name ∙ ap (λ j. slice_index_or (name ∷ names) j d) y;
          }

pub values-append : (names : List Name) (w : List Bool) (xs ys : List Name) → values_at names w (xs ++ ys) ≡ values_at names w xs ++ values_at names w ys
values-append names w [] ys = refl
values-append names w (x ∷ xs) ys = ap (λ z. value_at names w x ∷ z) (values-append names w xs ys)

pub take-values : (names : List Name) (w : List Bool) (xs ys : List Name) → take (length xs) (values_at names w (xs ++ ys)) ≡ values_at names w xs
take-values names w [] ys = refl
take-values names w (x ∷ xs) ys = ap (λ z. value_at names w x ∷ z) (take-values names w xs ys)

pub drop-values : (names : List Name) (w : List Bool) (xs ys : List Name) → drop (length xs) (values_at names w (xs ++ ys)) ≡ values_at names w ys
drop-values names w [] ys = refl
drop-values names w (x ∷ xs) ys = drop-values names w xs ys

pub filled-shown : (m : Machine) (w : List Bool) (c : Column) (v : Value) → shown_value c.dir v (values_at m.vars w (column_names c)) ≡ filled_value (value_at m.vars w) c v
filled-shown m w c v = by c.dir refl where
  by : (d : Dir) → c.dir ≡ d → shown_value c.dir v (values_at m.vars w (column_names c)) ≡ filled_value (value_at m.vars w) c v
  by In e = rw e refl
  by Out e = rw e refl

pub shown-filled : (m : Machine) (w : List Bool) (columns : List Column) (values : List Value)
    → shown columns values (values_at m.vars w (listed columns)) ≡ filled_values (value_at m.vars w) columns values
shown-filled m w [] values = refl
shown-filled m w (c ∷ cs) [] = refl
shown-filled m w (c ∷ cs) (v ∷ values) =
    let n = length (column_names c) in
    let seen = values_at m.vars w (column_names c ++ listed cs) in
    ap (λ x. shown_value c.dir v x ∷ shown cs values (drop n seen)) (take-values m.vars w (column_names c) (listed cs))
    ∙ ap (λ x. shown_value c.dir v (values_at m.vars w (column_names c)) ∷ shown cs values x) (drop-values m.vars w (column_names c) (listed cs))
    ∙ ap (λ x. x ∷ shown cs values (values_at m.vars w (listed cs))) (filled-shown m w c v)
    ∙ ap (λ x. filled_value (value_at m.vars w) c v ∷ x) (shown-filled m w cs values)

-- what is seen of the listed bits
pub seen-is : (m : Machine) (columns : List Column) (names : List Name) (from_bits : List (Option ℕ)) (from_clock : Option ℕ) (into into1 : List (Option ℕ))
    (w w1 seen : List Bool) → IsPlan m columns names from_bits from_clock into → into1 ≡ into → w1 ≡ w → seen ≡ map (bit_at w1) into1
    → seen ≡ values_at m.vars w (listed columns)
seen-is m columns names from_bits from_clock into into1 w w1 seen plan e f h =
    h ∙ ap (λ x. map (bit_at x) into1) f ∙ ap (λ x. map (bit_at w) x) (e ∙ plan.seen) ∙ bits-values m.vars w (listed columns)

-- each input has a bit
pub inputs_many : (m : Machine) (columns : List Column) (names : List Name) (from_bits from1 : List (Option ℕ)) (from_clock : Option ℕ) (into : List (Option ℕ)) (bits1 inputs1 inputs2 : List Bool)
    → IsPlan m columns names from_bits from_clock into → from1 ≡ from_bits → inputs1 ≡ map (bit_at bits1) from1 → inputs2 ≡ inputs1 → length inputs2 ≡ length (inputs m)
inputs_many m columns names from_bits from1 from_clock into bits1 inputs1 inputs2 plan f i1 i2 =
    ap length (i2 ∙ i1) ∙ length-map from1 (bit_at bits1) ∙ ap length (f ∙ plan.inputs) ∙ length-map (inputs m) (place_of (listed columns))

-- a list that was written whole
pub written : (new old : List Bool) (n : ℕ) → length new ≡ n → take n (new ++ drop (length new) old) ≡ new
written new old n e = ap (λ (k : ℕ). take k (new ++ drop (length new) old)) (sym e) ∙ take-append_seam new (drop (length new) old)

pub sees-from : (m : Machine) (columns : List Column) (p : Pattern) (names : List Name) (from_bits from1 : List (Option ℕ)) (from_clock : Option ℕ) (into : List (Option ℕ))
    (values : List Value) (bits bits1 bits2 inputs1 inputs2 s t w : List Bool) (before now : Bool)
    → IsPlan m columns names from_bits from_clock into → values ≡ p.values → bits ≡ given_bits columns values → bits1 ≡ bits → bits2 ≡ bits → from1 ≡ from_bits
    → inputs1 ≡ map (bit_at bits1) from1 → inputs2 ≡ inputs1 → now ≡ bit_at bits2 from_clock → Takes (rises before now) (of_machine m) inputs2 s w t
    → Sees m columns p s before t now w
sees-from m columns p names from_bits from1 from_clock into values bits bits1 bits2 inputs1 inputs2 s t w before now plan v b b1 b2 f i1 i2 c takes =
    let given : bits ≡ given_bits columns p.values = b ∙ ap (given_bits columns) v in
    let clock : now ≡ clock_bit m.clock columns p.values =
    c ∙ ap (λ x. bit_at x from_clock) (b2 ∙ given) ∙ ap (bit_at (given_bits columns p.values)) plan.clock ∙ clock-place m columns p.values m.clock in
    let given_inputs : inputs2 ≡ vector (inputs m) columns p.values =
    i2 ∙ i1 ∙ ap (λ x. map (bit_at x) from1) (b1 ∙ given) ∙ ap (map (bit_at (given_bits columns p.values))) (f ∙ plan.inputs)
    ∙ bits-values (listed columns) (given_bits columns p.values) (inputs m) in
    let P : List Bool → Type 0 = λ x. Takes (rises before now) (of_machine m) x s w t in
    let Q : Bool → Type 0 = λ x. Takes (rises before x) (of_machine m) (vector (inputs m) columns p.values) s w t in
    record { clock = clock; takes = subst Q clock (subst P given_inputs takes) }

pub as-long : (m : Machine) (columns : List Column) (p : Pattern) (values : List Value) (wanted wanted1 : List (Option Bool)) (w seen seen1 : List Bool)
    → FitsColumns columns p.values → values ≡ p.values → wanted ≡ wanted_bits columns values → wanted1 ≡ wanted → seen1 ≡ seen
    → seen ≡ values_at m.vars w (listed columns) → length wanted1 ≡ length seen1
as-long m columns p values wanted wanted1 w seen seen1 fits v b b1 s1 s =
    ap length (b1 ∙ b ∙ ap (wanted_bits columns) v) ∙ length-wanted_bits columns p.values fits
    ∙ sym (length-map (listed columns) (value_at m.vars w)) ∙ sym (ap length (s1 ∙ s))

pub named-as-long : (m : Machine) (columns : List Column) (names names1 : List Name) (w seen seen1 : List Bool)
    → names ≡ listed columns → names1 ≡ names → seen1 ≡ seen → seen ≡ values_at m.vars w (listed columns) → length names1 ≡ length seen1
named-as-long m columns names names1 w seen seen1 n n1 s1 s =
    ap length (n1 ∙ n) ∙ sym (length-map (listed columns) (value_at m.vars w)) ∙ sym (ap length (s1 ∙ s))

pub agrees-from : (m : Machine) (columns : List Column) (p made : Pattern) (n : ℕ) (values : List Value) (wanted wanted1 : List (Option Bool)) (w seen seen1 seen2 : List Bool)
    → FitsColumns columns p.values → values ≡ p.values → wanted ≡ wanted_bits columns values → wanted1 ≡ wanted → seen1 ≡ seen → seen2 ≡ seen
    → seen ≡ values_at m.vars w (listed columns) → other_place wanted1 seen1 ≡ None → made ≡ record p { values = shown columns p.values seen2 }
    → Agrees m columns p n w made
agrees-from m columns p made n values wanted wanted1 w seen seen1 seen2 fits v b b1 s1 s2 s none is =
    let f : List Value → Pattern = λ x. record p { values = x } in
    let wants : wanted1 ≡ wanted_bits columns p.values = b1 ∙ b ∙ ap (wanted_bits columns) v in
    let place = sym (ap (λ x. other_place x seen1) wants ∙ ap (other_place (wanted_bits columns p.values)) (s1 ∙ s)) ∙ none in
    record {
      none_differs = flat-values m w n columns p.values fits ∙ flat-same m w n (listed columns) (wanted_bits columns p.values) (length-wanted_bits columns p.values fits) place;
      answer = is ∙ ap (λ x. f (shown columns p.values x)) (s2 ∙ s) ∙ ap f (shown-filled m w columns p.values);
    }

pub disagrees-from : (m : Machine) (columns : List Column) (p : Pattern) (n : ℕ) (names names1 : List Name) (values : List Value) (wanted wanted1 : List (Option Bool)) (w seen seen1 : List Bool)
    (e : SimError) → FitsColumns columns p.values → names ≡ listed columns → names1 ≡ names → values ≡ p.values → wanted ≡ wanted_bits columns values → wanted1 ≡ wanted → seen1 ≡ seen
    → seen ≡ values_at m.vars w (listed columns) → IsOtherIn names1 wanted1 seen1 n e → DisagreesIn m columns p n w e
disagrees-from m columns p n names names1 values wanted wanted1 w seen seen1 Memory fits l l1 v b b1 s1 s other = tt
disagrees-from m columns p n names names1 values wanted wanted1 w seen seen1 (Differs told bit) fits l l1 v b b1 s1 s other =
    let wants : wanted1 ≡ wanted_bits columns p.values = b1 ∙ b ∙ ap (wanted_bits columns) v in
    let place = sym (ap (λ x. other_place x seen1) wants ∙ ap (other_place (wanted_bits columns p.values)) (s1 ∙ s)) ∙ other.other in
    let first = flat-other m w n (listed columns) (wanted_bits columns p.values) other.place bit place in
    record {
      at = first.at;
      first = flat-values m w n columns p.values fits ∙ first.first;
      told = first.pattern ∙ sym other.pattern;
      name = first.name ∙ sym (ap (λ x. slice_index_or x other.place bit) (l1 ∙ l)) ∙ sym other.name;
    }

pub stops-from : (m : Machine) (columns : List Column) (p : Pattern) (n : ℕ) (s : List Bool) (before : Bool) (t : List Bool) (now : Bool) (w : List Bool) (e : SimError)
    → length t ≡ length m.registers → Sees m columns p s before t now w → DisagreesIn m columns p n w e → StopsAt m columns p n s before e
stops-from m columns p n s before t now w Memory each sees d = tt
stops-from m columns p n s before t now w (Differs told bit) each sees d = record { w = w; t = t; now = now; each = each; sees = sees; disagrees = d }
