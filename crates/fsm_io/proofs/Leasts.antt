-- The least bit of a name that fails a test, by the codes of its bits.
use Rattle.std.proofs.Common.{◌≡◌, ℕ, suc, ◌<◌, ◌+◌, Bool, true, false, cond, List, [], ◌∷◌, map, length, get_or, drop, Option, Some, None, refl, sym, ap, subst, ◌∙◌, arith}
use Rattle.std.specs.Prelude.{filter, not, min, option_map}
use Rattle.std.proofs.lemmas.List.{length-map, get_or-map, drop-map}
use Rattle.vlsi_base.specs.declared.name.Name.{Name}
use Rattle.vlsi_base.specs.Member.{In, here, there}
use Rattle.source_checks.specs.declared.symbol_table.Symbol.{Symbol}
use Rattle.source_checks.specs.Symbols.{symbol_names}
use Rattle.source_checks.specs.Codes.{name_at, codes_in, least_code, least_with}
use Rattle.source_checks.specs.Drivers.{least, fault_at}
use Rattle.source_checks.proofs.Names.{least_name}
use Rattle.source_checks.proofs.Driving.{coded_range}
use Rattle.source_checks.proofs.Least.{together, least_turn}
use Rattle.fsm_io.specs.Drivers.{is_output, unassigned_at, first_of, or_else}
use Rattle.fsm_io.specs.Pieces.{bit_code, bit_named}

by_codes : (q : Name → Bool) (t : List ℕ) (codes : List ℕ) → filter q (map (name_at t) codes) ≡ map (name_at t) (filter (λ c. q (name_at t c)) codes)
by_codes q t [] = refl
by_codes q t (c ∷ codes) = by (q (name_at t c)) (by_codes q t codes) where
  by : (b : Bool) → filter q (map (name_at t) codes) ≡ map (name_at t) (filter (λ c. q (name_at t c)) codes)
      → cond b (name_at t c ∷ filter q (map (name_at t) codes)) (filter q (map (name_at t) codes)) ≡ map (name_at t) (cond b (c ∷ filter (λ c. q (name_at t c)) codes) (filter (λ c. q (name_at t c)) codes))
  by true rest = ap (λ (ns : List Name). name_at t c ∷ ns) rest
  by false rest = rest

pub least_coded : (q : Name → Bool) (s : Symbol) → least (filter q (symbol_names s)) ≡ option_map (name_at s.text) (least_code (filter (λ c. q (name_at s.text c)) (codes_in s.range)))
least_coded q s =
    ap (λ (ns : List Name). least (filter q ns)) (coded_range s.text s.range) ∙ ap least (by_codes q s.text (codes_in s.range)) ∙ least_name s.text (filter (λ c. q (name_at s.text c)) (codes_in s.range))

-- what is found for an output
pub unassigned_is : (assigned : Name → Bool) (s : Symbol) (codes : List ℕ) (code : Option ℕ) (name : Option Name) → is_output s.role ≡ true → codes ≡ codes_in s.range
    → code ≡ least_code (filter (λ c. not (assigned (name_at s.text c))) codes) → name ≡ option_map (name_at s.text) code → fault_at s.line name None ≡ unassigned_at assigned s
unassigned_is assigned s codes code name output coded first named =
    ap (λ (o : Option Name). fault_at s.line o None) (named ∙ ap (option_map (name_at s.text)) (first ∙ ap (λ (cs : List ℕ). least_code (filter (λ c. not (assigned (name_at s.text c))) cs)) coded) ∙ sym (least_coded (λ n. not (assigned n)) s))
    ∙ ap (λ b. cond b (fault_at s.line (least (filter (λ n. not (assigned n)) (symbol_names s))) None) None) (sym output)

pub no_output : (assigned : Name → Bool) (s : Symbol) → is_output s.role ≡ false → None ≡ unassigned_at assigned s
no_output assigned s e = ap (λ b. cond b (fault_at s.line (least (filter (λ n. not (assigned n)) (symbol_names s))) None) None) (sym e)

turned : {A : Type 0} (b : Bool) (x y : A) → cond b y x ≡ cond (not b) x y
turned true x y = refl
turned false x y = refl

-- a turn of a loop that keeps the least code that fails
pub least_step : (passes : ℕ → Bool) (codes : List ℕ) (i item : ℕ) (least least' total : Option ℕ) → i < length codes → item ≡ get_or codes i 0 → least' ≡ cond (passes item) least (Some (least_with item least))
    → together least (least_code (filter (λ c. not (passes c)) (drop i codes))) ≡ total → together least' (least_code (filter (λ c. not (passes c)) (drop (i + 1) codes))) ≡ total
least_step passes codes i item least least' total within is taken so_far =
    least_turn (λ c. not (passes c)) codes i item least least' total within is (taken ∙ turned (passes item) (Some (least_with item least)) least) so_far

-- ---- bits by their codes

pub lesser_some : (j k : ℕ) → min j k + 1 ≡ min (j + 1) (k + 1)
lesser_some j k = omega arith

pub lesser_left : (k : ℕ) → 0 ≡ min 0 k
lesser_left k = omega arith

pub lesser_right : (j : ℕ) → 0 ≡ min j 0
lesser_right j = omega arith

pub coded_bits : (ks : List ℕ) → map bit_code (map Some ks) ≡ map (λ (k : ℕ). k + 1) ks
coded_bits [] = refl
coded_bits (k ∷ ks) = ap (λ (cs : List ℕ). (k + 1) ∷ cs) (coded_bits ks)

coded_name : (t : List ℕ) (b : Option ℕ) → bit_named t b ≡ name_at t (bit_code b)
coded_name t None = refl
coded_name t (Some k) = let step : k + 1 ≡ suc k = omega arith in ap (name_at t) (sym step)

pub coded_least : (t : List ℕ) (o : Option (Option ℕ)) → option_map (bit_named t) o ≡ option_map (name_at t) (option_map bit_code o)
coded_least t None = refl
coded_least t (Some b) = ap (λ (n : Name). Some n) (coded_name t b)

-- a turn of a loop over bits that keeps the least bit that fails
pub bit_step : (test : Name → Bool) (t : List ℕ) (bits : List (Option ℕ)) (i : ℕ) (b : Option ℕ) (passes : Bool) (least least' : Option (Option ℕ)) (total : Option ℕ) → i < length bits → b ≡ get_or bits i None
    → passes ≡ test (bit_named t b) → option_map bit_code least' ≡ cond passes (option_map bit_code least) (Some (least_with (bit_code b) (option_map bit_code least)))
    → together (option_map bit_code least) (least_code (filter (λ c. not (test (name_at t c))) (map bit_code (drop i bits)))) ≡ total
    → together (option_map bit_code least') (least_code (filter (λ c. not (test (name_at t c))) (map bit_code (drop (i + 1) bits)))) ≡ total
bit_step test t bits i b passes least least' total within is passed taken so_far =
    let q : ℕ → Bool = λ c. test (name_at t c) in
    let Kept : Option (Option ℕ) → List ℕ → Type 0 = λ o cs. together (option_map bit_code o) (least_code (filter (λ c. not (q c)) cs)) ≡ total in
    let codes = map bit_code bits in
    let many : length codes ≡ length bits = length-map bits bit_code in
    let item : bit_code b ≡ get_or codes i 0 = ap bit_code is ∙ sym (get_or-map bit_code bits i None 0 within) in
    let test_is : passes ≡ q (bit_code b) = passed ∙ ap test (coded_name t b) in
    let taken' : option_map bit_code least' ≡ cond (q (bit_code b)) (option_map bit_code least) (Some (least_with (bit_code b) (option_map bit_code least))) =
    taken ∙ ap (λ (p : Bool). cond p (option_map bit_code least) (Some (least_with (bit_code b) (option_map bit_code least)))) test_is in
    subst (Kept least') (drop-map bit_code (i + 1) bits)
    (least_step q codes i (bit_code b) (option_map bit_code least) (option_map bit_code least') total (omega (arith, many, within)) item taken' (subst (Kept least) (sym (drop-map bit_code i bits)) so_far))

-- ---- looks that agree

filters_agree : (p q : Name → Bool) (ns : List Name) → ((n : Name) → In n ns → p n ≡ q n) → filter (λ n. not (p n)) ns ≡ filter (λ n. not (q n)) ns
filters_agree p q [] h = refl
filters_agree p q (n ∷ ns) h =
    ap (λ b. cond (not b) (n ∷ filter (λ m. not (p m)) ns) (filter (λ m. not (p m)) ns)) (h n here)
    ∙ ap (λ (ms : List Name). cond (not (q n)) (n ∷ ms) ms) (filters_agree p q ns (λ m i. h m (there i)))

pub unassigned_agree : (p q : Name → Bool) (s : Symbol) → ((n : Name) → In n (symbol_names s) → p n ≡ q n) → unassigned_at p s ≡ unassigned_at q s
unassigned_agree p q s h = ap (λ (ns : List Name). cond (is_output s.role) (fault_at s.line (least ns) None) None) (filters_agree p q (symbol_names s) h)

pub first_agree : {B : Type 0} (f g : Symbol → Option B) (ss : List Symbol) → ((s : Symbol) → In s ss → f s ≡ g s) → first_of f ss ≡ first_of g ss
first_agree f g [] h = refl
first_agree {B} f g (s ∷ ss) h = ap (λ (o : Option B). or_else o (first_of f ss)) (h s here) ∙ ap (or_else (g s)) (first_agree f g ss (λ t i. h t (there i)))
