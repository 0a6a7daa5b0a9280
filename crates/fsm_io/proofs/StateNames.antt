-- Names of states and their numbers.
use Rattle.std.proofs.Common.{◌≡◌, ℕ, suc, ◌+◌, ◌<◌, ◌≤◌, ◌⊎◌, Bool, true, false, cond, List, [], ◌∷◌, ◌++◌, map, length, get_or, drop, Option, Some, None, refl, sym, ap, subst, ◌∙◌, bytes_eq, arith, inl, inr}
use Rattle.std.specs.Prelude.{◌||◌, ◌&&◌, not, ◌==◌, option_map}
use Rattle.std.proofs.lemmas.Bool.{eqb-true}
use Rattle.vlsi_base.specs.declared.entity.NewName.{NewName}
use Rattle.bool_expr.specs.Support.{among}
use Rattle.source_checks.proofs.Lookups.{same_of, itself}
use Rattle.source_checks.specs.Places.{Use}
use Rattle.fsm_io.specs.Known.{texts, inner_symbols}
use Rattle.fsm_io.specs.Looks.{use_of}
use Rattle.fsm_io.specs.Elaboration.{state_number}
use Rattle.fsm_io.specs.States.{is_one_of, bad_names, bad_at, bad_states, listed_after}
use Rattle.fsm_io.specs.Pieces.{symbol_texts, first_use, mention_of}
use Rattle.fsm_io.specs.Verdict.{most_numbered}
use Rattle.fsm_io.specs.declared.mentions.Mention.{Mention as Held}
use Rattle.source_checks.specs.declared.symbol_table.Symbol.{Symbol}
use Rattle.source_checks.specs.Known.{position_of}
use Rattle.source_checks.proofs.Knowing.{not_behind}
use Rattle.source_checks.proofs.Turns.{or_first}
use Rattle.std.proofs.lemmas.List.{at_drop_more, length-map}
use Rattle.std.specs.Option.{is_some}

either_true : (a b : Bool) → (a || b) ≡ true → (a ≡ true) ⊎ (b ≡ true)
either_true true b e = inl refl
either_true false b e = inr e

pub or_second : (a b : Bool) → b ≡ true → (a || b) ≡ true
or_second true b e = refl
or_second false b e = e

-- a name of a state stands at its number
pub number_is : (all : List (List ℕ)) (t : List ℕ) → is_one_of all t ≡ true → (state_number all t < length all) × (get_or all (state_number all t) [] ≡ t)
number_is [] t e = absurd cc
number_is (x ∷ all) t e = by (bytes_eq x t) refl e (number_is all t) where
  by : (b : Bool) → bytes_eq x t ≡ b → (b || is_one_of all t) ≡ true → (is_one_of all t ≡ true → (state_number all t < length all) × (get_or all (state_number all t) [] ≡ t))
      → (cond b 0 (state_number all t + 1) < suc (length all)) × (get_or (x ∷ all) (cond b 0 (state_number all t + 1)) [] ≡ t)
  by true is e rest = (omega arith, same_of x t is)
  by false is e rest = let r = rest e in (let a = r.0 in omega (arith, a), let step : state_number all t + 1 ≡ suc (state_number all t) = omega arith in ap (λ k. get_or (x ∷ all) k []) step ∙ r.1)

pub both : (a b : Bool) → (a && b) ≡ true → (a ≡ true) × (b ≡ true)
both true b e = (refl, e)
both false b e = absurd cc

pub no_bad : (a : Bool) (u : Use) (rest : List Use) → cond a [] (u ∷ []) ++ rest ≡ [] → (a ≡ true) × (rest ≡ [])
no_bad true u rest e = (refl, e)
no_bad false u rest e = absurd cc

is_not : (b : Bool) → not b ≡ true → b ≡ false
is_not true e = absurd cc
is_not false e = refl

pub one_of-append : (xs ys : List (List ℕ)) (t : List ℕ) → is_one_of (xs ++ ys) t ≡ (is_one_of xs t || is_one_of ys t)
one_of-append [] ys t = refl
one_of-append (x ∷ xs) ys t = by (bytes_eq x t) (one_of-append xs ys t) where
  by : (b : Bool) → is_one_of (xs ++ ys) t ≡ (is_one_of xs t || is_one_of ys t) → (b || is_one_of (xs ++ ys) t) ≡ ((b || is_one_of xs t) || is_one_of ys t)
  by true e = refl
  by false e = e

neither : (a b : Bool) → (a || b) ≡ false → (a ≡ false) × (b ≡ false)
neither true b e = absurd cc
neither false b e = (refl, e)

-- each listed number is that of a state which wasn't listed before
pub listed_states : (all before : List (List ℕ)) (names : List NewName) → bad_names all before names ≡ []
    → (q : ℕ) → among q (map (λ (n : NewName). state_number all n.text) names) ≡ true → (q < length all) × (is_one_of before (get_or all q []) ≡ false) × (is_one_of (texts names) (get_or all q []) ≡ true)
listed_states all before [] e q h = absurd cc
listed_states all before (n ∷ names) e q h =
    let a = no_bad (is_one_of all n.text && not (is_one_of before n.text)) (use_of n) (bad_names all (before ++ n.text ∷ []) names) e in
    let b = both (is_one_of all n.text) (not (is_one_of before n.text)) a.0 in
    elim (either_true (state_number all n.text == q) (among q (map (λ (m : NewName). state_number all m.text) names)) h) [
      | inl here ↦
          let same : state_number all n.text ≡ q = eqb-true (state_number all n.text) q here in
          let r = number_is all n.text b.0 in
          let text : get_or all q [] ≡ n.text = ap (λ k. get_or all k []) (sym same) ∙ r.1 in
          (subst (λ k. k < length all) same r.0, ap (is_one_of before) text ∙ is_not (is_one_of before n.text) b.1, ap (λ (t : List ℕ). is_one_of (texts (n ∷ names)) t) text ∙ ap (λ c. c || is_one_of (texts names) n.text) (itself n.text))
      | inr there ↦
          let r = listed_states all (before ++ n.text ∷ []) names a.1 q there in
          (r.0, (neither (is_one_of before (get_or all q [])) _ (sym (one_of-append before (n.text ∷ []) (get_or all q [])) ∙ r.1)).0, or_second (bytes_eq n.text (get_or all q [])) (is_one_of (texts names) (get_or all q [])) r.2)
    ]

pub one_of_more : (before more : List (List ℕ)) (t : List ℕ) → is_one_of (before ++ more) t ≡ false → (is_one_of before t ≡ false) × (is_one_of more t ≡ false)
one_of_more before more t e = neither (is_one_of before t) (is_one_of more t) (sym (one_of-append before more t) ∙ e)

-- ---- tables of states

pub texts_inner : (line : ℕ) (names : List NewName) → symbol_texts (inner_symbols line names) ≡ texts names
texts_inner line [] = refl
texts_inner line (x ∷ names) = ap (λ (ts : List (List ℕ)). x.text ∷ ts) (texts_inner line names)

pub texts_append : (xs ys : List Symbol) → symbol_texts (xs ++ ys) ≡ symbol_texts xs ++ symbol_texts ys
texts_append [] ys = refl
texts_append (x ∷ xs) ys = ap (λ (zs : List (List ℕ)). x.text ∷ zs) (texts_append xs ys)

-- what is listed behind a table
pub texts_more : (known : List Symbol) (line : ℕ) (names : List NewName) → symbol_texts (known ++ inner_symbols line names) ≡ symbol_texts known ++ texts names
texts_more known line names = texts_append known (inner_symbols line names) ∙ ap (λ (ts : List (List ℕ)). symbol_texts known ++ ts) (texts_inner line names)

-- a name that has no place has as its number how many there are
pub number_none : (known : List Symbol) (t : List ℕ) → position_of known t ≡ None → state_number (symbol_texts known) t ≡ length known
number_none [] t e = refl
number_none (x ∷ known) t e = by (bytes_eq x.text t) (number_none known t) e where
  by : (b : Bool) → (position_of known t ≡ None → state_number (symbol_texts known) t ≡ length known) → cond b (Some 0) (option_map suc (position_of known t)) ≡ None
      → cond b 0 (state_number (symbol_texts known) t + 1) ≡ suc (length known)
  by true rest e = absurd cc
  by false rest e = let n = rest (not_behind (position_of known t) e) in omega (arith, n)

pub number_some : (known : List Symbol) (t : List ℕ) (k : ℕ) → position_of known t ≡ Some k → state_number (symbol_texts known) t ≡ k
number_some [] t k e = absurd cc
number_some (x ∷ known) t k e = by (bytes_eq x.text t) (position_of known t) refl (number_some known t) e where
  by : (b : Bool) (o : Option ℕ) → position_of known t ≡ o → ((j : ℕ) → position_of known t ≡ Some j → state_number (symbol_texts known) t ≡ j) → cond b (Some 0) (option_map suc o) ≡ Some k
      → cond b 0 (state_number (symbol_texts known) t + 1) ≡ k
  by true o at rest e = cc
  by false None at rest e = absurd cc
  by false (Some j) at rest e = let n = rest j at in let same : suc j ≡ k = cc in omega (arith, n, same)

pub place_listed : (known : List Symbol) (t : List ℕ) → is_some (position_of known t) ≡ is_one_of (symbol_texts known) t
place_listed [] t = refl
place_listed (x ∷ known) t = by (bytes_eq x.text t) (position_of known t) (place_listed known t) where
  by : (b : Bool) (o : Option ℕ) → is_some o ≡ is_one_of (symbol_texts known) t → is_some (cond b (Some 0) (option_map suc o)) ≡ (b || is_one_of (symbol_texts known) t)
  by true o e = refl
  by false None e = e
  by false (Some j) e = e

-- ---- numbers of states

number_within : (all : List (List ℕ)) (t : List ℕ) → state_number all t ≤ length all
number_within [] t = omega arith
number_within (x ∷ all) t = by (bytes_eq x t) (number_within all t) where
  by : (b : Bool) → state_number all t ≤ length all → cond b 0 (state_number all t + 1) ≤ suc (length all)
  by true h = omega arith
  by false h = omega (arith, h)

-- a number of at most 32 bits, where there are few states
pub few_numbers : (known : List Symbol) (t : List ℕ) (k : ℕ) → k ≡ state_number (symbol_texts known) t → length known ≤ most_numbered → k ≤ most_numbered
few_numbers known t k is few =
    let within = number_within (symbol_texts known) t in
    let same = length-map known (λ (s : Symbol). s.text) in
    omega (arith, is, within, same, few)

-- as many names as states
pub few_table : (known : List Symbol) (names states : List NewName) → symbol_texts known ≡ texts names → names ≡ states → length states ≤ most_numbered → length known ≤ most_numbered
few_table known names states named same few =
    let a = length-map known (λ (s : Symbol). s.text) in
    let b = length-map states (λ (n : NewName). n.text) in
    let c : length (symbol_texts known) ≡ length (texts states) = ap length (named ∙ ap texts same) in
    omega (arith, a, b, c, few)

-- ---- loops over names

first_more : (u : Use) (rest : List Use) (a : Bool) → a ≡ true → first_use (cond a [] (u ∷ []) ++ rest) ≡ first_use rest
first_more u rest true e = refl
first_more u rest false e = absurd cc

first_here : (u : Use) (rest : List Use) (a : Bool) → a ≡ false → first_use (cond a [] (u ∷ []) ++ rest) ≡ Some u
first_here u rest true e = absurd cc
first_here u rest false e = refl

-- a name that is a state and wasn't listed before
pub names_on : (all before : List (List ℕ)) (names : List NewName) (i : ℕ) (n : NewName) (total : Option Use) → i < length names → n ≡ get_or names i n → (is_one_of all n.text && not (is_one_of before n.text)) ≡ true
    → first_use (bad_names all before (drop i names)) ≡ total → first_use (bad_names all (before ++ n.text ∷ []) (drop (i + 1) names)) ≡ total
names_on all before names i n total within is good so_far =
    sym (first_more (use_of n) (bad_names all (before ++ n.text ∷ []) (drop (i + 1) names)) (is_one_of all n.text && not (is_one_of before n.text)) good)
    ∙ ap (λ (m : NewName). first_use (bad_names all before (m ∷ drop (i + 1) names))) is ∙ sym (at_drop_more (λ (ns : List NewName). first_use (bad_names all before ns)) names i n within) ∙ so_far

-- one that isn't
pub names_stop : (all before : List (List ℕ)) (names : List NewName) (i : ℕ) (n : NewName) (total : Option Use) → i < length names → n ≡ get_or names i n → (is_one_of all n.text && not (is_one_of before n.text)) ≡ false
    → first_use (bad_names all before (drop i names)) ≡ total → Some (use_of n) ≡ total
names_stop all before names i n total within is bad so_far =
    sym (first_here (use_of n) (bad_names all (before ++ n.text ∷ []) (drop (i + 1) names)) (is_one_of all n.text && not (is_one_of before n.text)) bad)
    ∙ ap (λ (m : NewName). first_use (bad_names all before (m ∷ drop (i + 1) names))) is ∙ sym (at_drop_more (λ (ns : List NewName). first_use (bad_names all before ns)) names i n within) ∙ so_far

-- ---- loops over what stands in statements

pub first_two : (us vs : List Use) → first_use (us ++ vs) ≡ or_first (first_use us) (first_use vs)
first_two [] vs = refl
first_two (u ∷ us) vs = refl

pub place_on : (all : List (List ℕ)) (to : List ℕ) (before : List (List ℕ)) (ms : List Held) (i : ℕ) (x : Held) (total first : Option Use) → i < length ms → x ≡ get_or ms i x → first ≡ first_use (bad_at all to before (mention_of x))
    → first_use (bad_states all to before (map mention_of (drop i ms))) ≡ total → or_first first (first_use (bad_states all to (listed_after before (mention_of x)) (map mention_of (drop (i + 1) ms)))) ≡ total
place_on all to before ms i x total first within is found so_far =
    let rest = bad_states all to (listed_after before (mention_of x)) (map mention_of (drop (i + 1) ms)) in
    ap (λ (o : Option Use). or_first o (first_use rest)) found ∙ sym (first_two (bad_at all to before (mention_of x)) rest)
    ∙ ap (λ (y : Held). first_use (bad_states all to before (map mention_of (y ∷ drop (i + 1) ms)))) is ∙ sym (at_drop_more (λ (ys : List Held). first_use (bad_states all to before (map mention_of ys))) ms i x within) ∙ so_far
