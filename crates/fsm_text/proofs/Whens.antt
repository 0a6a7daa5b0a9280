-- The reader of branches reads its grammar, though before `others` it looks at two tokens: branches are told at each `when` by the
-- token behind it.
use Rattle.std.proofs.Common.{◌≡◌, ℕ, zero, suc, ◌+◌, ◌≤◌, ◌<◌, true, false, List, [], ◌∷◌, ◌++◌, length, Option, None, Some, inl, inr, refl, sym, ap, subst, ◌∙◌, ◌-◌, Bool, append_assoc, if◌then◌else◌, Ok, Err, arith}
use Rattle.std.proofs.lemmas.List.{append-nil}
use Rattle.vhdl_token.specs.declared.keyword.Keyword.TheVariants as word
use Rattle.vhdl_token.specs.declared.token.Sign.TheVariants as sign
use Rattle.vhdl_token.specs.declared.token.PlacedToken.{PlacedToken}
use Rattle.grammar_theory.specs.declared.form.Form.{Form}
use Rattle.grammar_theory.specs.declared.form.Form.TheVariants as form
use Rattle.grammar_theory.specs.Tokens.{is_at}
use Rattle.grammar_theory.specs.Marks.{Item}
use Rattle.grammar_theory.specs.Grammar.{Grammar, nothing, one, ◌or◌, Then, list, at_some}
use Rattle.grammar_theory.specs.Outcome.{At, Outcome, Reader, ◌>>=◌, take_at}
use Rattle.grammar_theory.specs.Answers.{Answers}
use Rattle.grammar_theory.proofs.Sets.{Set}
use Rattle.grammar_theory.proofs.Exact.{Shape}
use Rattle.grammar_theory.proofs.Bundle.{Starts, Exact, exact_nothing, exact_one, exact_then, exact_behind, within}
use Rattle.grammar_theory.proofs.Many.{same_answers}
use Rattle.grammar_theory.proofs.Levels.{Rising, all_answers}
use Rattle.grammar_theory.proofs.AllLevels.{all_shape}
use Rattle.grammar_theory.proofs.Listing.{consumes}
use Rattle.vhdl_front.proofs.Language.{numbers}
use Rattle.fsm_text.specs.Written.{BodyTree, BranchesTree, closed, others, listed, BranchTree, branches_of}
use Rattle.fsm_text.specs.Fsm.{listed_branch, led_branch, others_branch, last_branch, branches}
use Rattle.fsm_text.specs.FsmReading.{listed_branch_at, others_branch_at, branch_before_at, behind_when_at, fewer_branches_at, branches_at}
use Rattle.fsm_text.proofs.FsmLanguage.{Bodies, body_firsts, exact_listed_branch}

abbrev when : Form
when = form.Keyword word.When

-- ---- fewer branches than some number

abbrev first_others : Grammar BodyTree → Grammar BranchesTree
first_others I = Then (one (form.Keyword word.Others)) (λ t. Then (one (form.Sign sign.Arrow)) (λ u. Then I (λ body. nothing (others body))))

abbrev first_listed : Grammar BodyTree → Grammar BranchesTree → Grammar BranchesTree
first_listed I more = Then (listed_branch I) (λ b. Then more (λ rest. nothing (listed b.states b.body rest)))

abbrev few : Grammar BodyTree → ℕ → Grammar BranchesTree
few I zero = nothing closed
few I (suc n) = Then (one when) (λ t. first_others I or first_listed I (few I n)) or nothing closed

abbrev whens : Set
whens = numbers (when ∷ [])

abbrev pub branch_lasts : Set
branch_lasts = body_firsts ++ whens

-- the last branch that is looked at, and one before others
exact_step : {P : Type 0} (SI BI : Grammar BodyTree) {r : Reader BodyTree} (SM BM : Grammar BranchesTree) (m : Reader BranchesTree) → Bodies P SI BI r
    → Exact P (first_listed SI SM) (first_listed BI BM) false (numbers (form.Identifier ∷ [])) branch_lasts (branch_before_at r m)
    → Exact P (Then (one when) (λ t. first_others SI or first_listed SI SM) or nothing closed) (Then (one when) (λ t. first_others BI or first_listed BI BM) or nothing closed)
    true whens branch_lasts (λ here. if is_at when here.rest then behind_when_at r m here else Ok (closed, here))
unfolding behind_when_at others_branch_at
exact_step SI BI SM BM m e b = within whens branch_lasts
    (exact_behind when (exact_then (exact_one when) (λ t. exact_behind (form.Keyword word.Others)
    (exact_then (exact_one (form.Keyword word.Others)) (λ u. exact_then (exact_one (form.Sign sign.Arrow)) (λ v. exact_then e (λ body. exact_nothing (others body)) refl) refl) refl)
    b refl) refl) (exact_nothing closed) refl) refl refl refl

pub exact_few : {P : Type 0} (SI BI : Grammar BodyTree) {r : Reader BodyTree} → Bodies P SI BI r → (n : ℕ)
    → Exact P (few SI (suc n)) (few BI (suc n)) true whens branch_lasts (fewer_branches_at r (suc n))
unfolding fewer_branches_at branch_before_at
exact_few SI BI {r} e zero = exact_step SI BI (few SI zero) (few BI zero) (fewer_branches_at r zero) e
    (within (numbers (form.Identifier ∷ [])) branch_lasts (exact_then (exact_listed_branch SI BI e) (λ b. exact_then (exact_nothing closed) (λ rest. exact_nothing (listed b.states b.body rest)) refl) refl) refl refl refl)
exact_few SI BI {r} e (suc n) = exact_step SI BI (few SI (suc n)) (few BI (suc n)) (fewer_branches_at r (suc n)) e
    (within (numbers (form.Identifier ∷ [])) branch_lasts (exact_then (exact_listed_branch SI BI e) (λ b. exact_then (exact_few SI BI e n) (λ rest. exact_nothing (listed b.states b.body rest)) refl) refl) refl refl refl)

-- ---- each is part of the next

grows : (I : Grammar BodyTree) (n : ℕ) (p : List Item) (v : BranchesTree) → few I n p v → few I (suc n) p v
grows I zero p v h = inr h
grows I (suc n) p v (inr h) = inr h
grows I (suc n) p v (inl h) = inl (record { front = h.front; back = h.back; value = h.value; parts = h.parts; before = h.before; behind = up (λ z w g. grows I n z w g) h.back h.behind }) where
  up : ((z : List Item) (w : BranchesTree) → few I n z w → few I (suc n) z w) → (q : List Item) → (first_others I or first_listed I (few I n)) q v → (first_others I or first_listed I (few I (suc n))) q v
  up more q (inl g) = inl g
  up more q (inr g) = inr (record {
    front = g.front;
    back = g.back;
    value = g.value;
    parts = g.parts;
    before = g.before;
    behind = record { front = g.behind.front; back = g.behind.back; value = g.behind.value; parts = g.behind.parts; before = more g.behind.front g.behind.value g.behind.before; behind = g.behind.behind };
  })

grows_to : (I : Grammar BodyTree) (n m k : ℕ) (p : List Item) (v : BranchesTree) → m ≡ k + n → few I n p v → few I m p v
grows_to I n m zero p v e h = let same : n ≡ m = omega arith in subst (λ (j : ℕ). few I j p v) same h
grows_to I n m (suc k) p v e h = grows_to I (suc n) m k p v (omega arith) (grows I n p v h)

rising : {P : Type 0} (SI BI : Grammar BodyTree) {r : Reader BodyTree} → Bodies P SI BI r → (floor : ℕ) → Rising (λ n. few BI (suc n)) floor
rising SI BI e floor = record {
  null = true;
  firsts = whens;
  lasts = branch_lasts;
  shape = λ n. (exact_few SI BI e n).shape;
  rises = λ d u less above p v h. grows_to BI (suc d) (suc u) (u - d) p v (omega (arith, less)) h;
}

-- ---- they are the sentences of the grammar

-- what stands behind the last `when`
last_to : (I : Grammar BodyTree) (q : List Item) (body : BodyTree) → Then (others_branch I) (λ b. nothing (Some b)) q (Some body) → first_others I q (others body)
unfolding others_branch
last_to I q body h =
    let o = h.before in
    let is = h.behind.1 in
    let same : body ≡ h.value = cc in
    let parts : q ≡ o.front ++ o.back = h.parts ∙ ap (λ (z : List Item). h.front ++ z) h.behind.0 ∙ append-nil h.front ∙ o.parts in
    record {
      front = o.front;
      back = o.back;
      value = o.value;
      parts = parts;
      before = o.before;
      behind = record {
        front = o.behind.front;
        back = o.behind.back;
        value = o.behind.value;
        parts = o.behind.parts;
        before = o.behind.before;
        behind = record { front = o.behind.back; back = []; value = h.value; parts = sym (append-nil o.behind.back); before = o.behind.behind; behind = (refl, ap others same) };
      };
    }

last_from : (I : Grammar BodyTree) (q : List Item) (v : BranchesTree) → (g : first_others I q v) → Then (others_branch I) (λ b. nothing (Some b)) q (Some g.behind.behind.value)
unfolding others_branch
last_from I q v g =
    let x = g.behind.behind in
    let e : g.behind.back ≡ x.front = x.parts ∙ ap (λ (z : List Item). x.front ++ z) x.behind.0 ∙ append-nil x.front in
    record {
      front = q;
      back = [];
      value = x.value;
      parts = sym (append-nil q);
      before = record {
        front = g.front;
        back = g.back;
        value = g.value;
        parts = g.parts;
        before = g.before;
        behind = record { front = g.behind.front; back = g.behind.back; value = g.behind.value; parts = g.behind.parts; before = g.behind.before; behind = subst (λ (z : List Item). I z x.value) (sym e) x.before };
      };
      behind = (refl, refl);
    }

to_few : (I : Grammar BodyTree) (all : List BranchTree) (last : Option BodyTree) (p q : List Item) → list (led_branch I) p all → last_branch I q last
    → few I (suc (length all)) (p ++ q) (branches_of all last)
unfolding led_branch last_branch
to_few I [] None p q h (inl g) = let e = g.behind.behind.1 in absurd cc
to_few I [] None p q h (inr g) = inr (rw (h, g.0) refl, refl)
to_few I [] (Some body) p q h (inr g) = let e = g.1 in absurd cc
to_few I [] (Some body) p q h (inl g) = inl (record {
  front = g.front;
  back = g.back;
  value = g.value;
  parts = ap (λ (z : List Item). z ++ q) h ∙ g.parts;
  before = g.before;
  behind = inl (last_to I g.back body g.behind);
})
to_few I (b ∷ all) last p q h g =
    let led = h.3 in
    let rest = h.1 ++ q in
    let parts : p ++ q ≡ led.front ++ (led.back ++ rest) =
    ap (λ (z : List Item). z ++ q) h.2 ∙ append_assoc h.0 h.1 q ∙ ap (λ (z : List Item). z ++ rest) led.parts ∙ append_assoc led.front led.back rest in
    inl (record {
      front = led.front;
      back = led.back ++ rest;
      value = led.value;
      parts = parts;
      before = led.before;
      behind = inr (record {
        front = led.back;
        back = rest;
        value = b;
        parts = refl;
        before = led.behind;
        behind = record { front = rest; back = []; value = branches_of all last; parts = sym (append-nil rest); before = to_few I all last h.1 q h.4 g; behind = (refl, refl) };
      });
    })

-- a first branch before what `branches` has
front_of : (I : Grammar BodyTree) (M : Grammar BranchesTree) (p q : List Item) (v : BranchesTree) (t : PlacedToken) → one when p t → ((q : List Item) (w : BranchesTree) → M q w → branches I q w)
    → (first_others I or first_listed I M) q v → branches I (p ++ q) v
unfolding branches led_branch last_branch
front_of I M p q v t h go (inl g) = record {
  front = [];
  back = p ++ q;
  value = [];
  parts = refl;
  before = refl;
  behind = record {
    front = p ++ q;
    back = [];
    value = Some g.behind.behind.value;
    parts = sym (append-nil (p ++ q));
    before = inl (record { front = p; back = q; value = t; parts = refl; before = h; behind = last_from I q v g });
    behind = (refl, g.behind.behind.behind.1);
  };
}
front_of I M p q v t h go (inr g) =
    let rest = go g.behind.front g.behind.value g.behind.before in
    let tail : g.back ≡ rest.front ++ rest.back = g.behind.parts ∙ ap (λ (z : List Item). g.behind.front ++ z) g.behind.behind.0 ∙ append-nil g.behind.front ∙ rest.parts in
    let whole : p ++ q ≡ ((p ++ g.front) ++ rest.front) ++ rest.back =
    ap (λ (z : List Item). p ++ z) (g.parts ∙ ap (λ (z : List Item). g.front ++ z) tail)
    ∙ sym (append_assoc p g.front (rest.front ++ rest.back)) ∙ sym (append_assoc (p ++ g.front) rest.front rest.back) in
    record {
      front = (p ++ g.front) ++ rest.front;
      back = rest.back;
      value = g.value ∷ rest.value;
      parts = whole;
      before = (p ++ g.front, rest.front, refl, record { front = p; back = g.front; value = t; parts = refl; before = h; behind = g.before }, rest.before);
      behind = record {
        front = rest.behind.front;
        back = rest.behind.back;
        value = rest.behind.value;
        parts = rest.behind.parts;
        before = rest.behind.before;
        behind = (rest.behind.behind.0, g.behind.behind.1 ∙ ap (listed g.value.states g.value.body) rest.behind.behind.1);
      };
    }

from_none : (I : Grammar BodyTree) (p : List Item) (v : BranchesTree) → nothing closed p v → branches I p v
unfolding branches last_branch
from_none I p v h = record { front = []; back = p; value = []; parts = refl; before = refl; behind = record { front = p; back = []; value = None; parts = sym (append-nil p); before = inr (h.0, refl); behind = (refl, h.1) } }

from_few : (I : Grammar BodyTree) (n : ℕ) (p : List Item) (v : BranchesTree) → few I n p v → branches I p v
from_few I zero p v h = from_none I p v h
from_few I (suc n) p v (inr h) = from_none I p v h
from_few I (suc n) p v (inl h) = subst (λ (z : List Item). branches I z v) (sym h.parts) (front_of I (few I n) h.front h.back v h.value h.before (λ q w g. from_few I n q w g) h.behind)

abbrev levels : Grammar BodyTree → Grammar BranchesTree
levels I = at_some (λ n. few I (suc n))

into_levels : (I : Grammar BodyTree) (p : List Item) (v : BranchesTree) → branches I p v → levels I p v
unfolding branches
into_levels I p v h =
    let last = h.behind in
    let Few : List Item → BranchesTree → Type 0 = λ z w. few I (suc (length h.value)) z w in
    let same : p ≡ h.front ++ last.front = h.parts ∙ ap (λ (z : List Item). h.front ++ z) (last.parts ∙ ap (λ (z : List Item). last.front ++ z) last.behind.0 ∙ append-nil last.front) in
    let read : Few (h.front ++ last.front) (branches_of h.value last.value) = to_few I h.value last.value h.front last.front h.before last.before in
    record { level = length h.value; sentence = subst (λ (z : List Item). Few z v) (sym same) (subst (λ (w : BranchesTree). Few (h.front ++ last.front) w) (sym last.behind.1) read) }

out_of_levels : (I : Grammar BodyTree) (p : List Item) (v : BranchesTree) → levels I p v → branches I p v
out_of_levels I p v h = from_few I (suc h.level) p v h.sentence

-- ---- reading

bind_same : {A C : Type 0} (o : Outcome A) (f g : A × At → Outcome C) → ((x : A × At) → o ≡ Ok x → f x ≡ g x) → (o >>= f) ≡ (o >>= g)
bind_same (Ok x) f g h = h x refl
bind_same (Err e) f g h = refl

if_same : {A : Type 0} (b : Bool) (x y z : A) → y ≡ z → (if b then x else y) ≡ (if b then x else z)
if_same true x y z e = refl
if_same false x y z e = e

if_first : {A : Type 0} (b : Bool) (x y z : A) → x ≡ y → (if b then x else z) ≡ (if b then y else z)
if_first true x y z e = e
if_first false x y z e = refl

no_tokens : (ts : List PlacedToken) → length ts ≤ 0 → ts ≡ []
no_tokens [] le = refl
no_tokens (t ∷ ts) le = absurd (omega (arith, le))

-- with no token left there is no branch
none_left : (r : Reader BodyTree) (n : ℕ) (here : At) → length here.rest ≤ 0 → fewer_branches_at r n here ≡ Ok (closed, here)
unfolding fewer_branches_at
none_left r zero here le = refl
none_left r (suc n) here le = rw (no_tokens here.rest le) refl

take_consumes : (here there : At) (t : PlacedToken) → take_at when here ≡ Ok (t, there) → length there.rest < length here.rest
take_consumes here there t h =
    let e : Exact (Unit {0}) (one when) (one when) false whens [] (take_at when) = exact_one when in
    consumes (one when) whens [] (take_at when) e.shape (e.reads tt) here there t h

-- more than enough is as good as enough
enough : {P : Type 0} (SI BI : Grammar BodyTree) {r : Reader BodyTree} → Bodies P SI BI r → P → (n m : ℕ) (here : At) → length here.rest ≤ n → length here.rest ≤ m
    → fewer_branches_at r n here ≡ fewer_branches_at r m here
unfolding fewer_branches_at behind_when_at branch_before_at
enough SI BI {r} e p zero m here le lm = sym (none_left r m here le)
enough SI BI {r} e p (suc n) zero here le lm = none_left r (suc n) here lm
enough SI BI {r} e p (suc n) (suc m) here le lm =
    let b = exact_listed_branch SI BI e in
    if_first (is_at when here.rest) (behind_when_at r (fewer_branches_at r n) here) (behind_when_at r (fewer_branches_at r m) here) (Ok (closed, here))
    (bind_same (take_at when here) (λ t. if is_at (form.Keyword word.Others) t.1.rest then others_branch_at r t.1 else branch_before_at r (fewer_branches_at r n) t.1)
    (λ t. if is_at (form.Keyword word.Others) t.1.rest then others_branch_at r t.1 else branch_before_at r (fewer_branches_at r m) t.1)
    (λ t took. if_same (is_at (form.Keyword word.Others) t.1.rest) (others_branch_at r t.1) (branch_before_at r (fewer_branches_at r n) t.1) (branch_before_at r (fewer_branches_at r m) t.1)
    (bind_same (listed_branch_at r t.1) (λ b. fewer_branches_at r n b.1 >>= λ rest. Ok (listed b.0.states b.0.body rest.0, rest.1)) (λ b. fewer_branches_at r m b.1 >>= λ rest. Ok (listed b.0.states b.0.body rest.0, rest.1))
    (λ x read.
    let less : length t.1.rest < length here.rest = take_consumes here t.1 t.0 took in
    let more : length x.1.rest < length t.1.rest = consumes (listed_branch BI) (numbers (form.Identifier ∷ [])) body_firsts (listed_branch_at r) b.shape (b.reads p) t.1 x.1 x.0 read in
    rw (enough SI BI e p n m x.1 (omega (arith, less, more, le)) (omega (arith, less, more, lm))) refl))))

shape_as : {A : Type 0} (B C : Grammar A) (null : _) (f l : Set) → ((p : List Item) (v : A) → C p v → B p v) → Shape B null f l → Shape C null f l
shape_as B C null f l into sh = record {
  same = λ p v w h g. sh.same p v w (into p v h) (into p w g);
  empty = λ v h. sh.empty v (into [] v h);
  begins = λ t q v h. sh.begins t q v (into (t ∷ q) v h);
  goes_on = λ p t q v w h g. sh.goes_on p t q v w (into p v h) (into (p ++ t ∷ q) w g);
  marks = λ p i j w z v u h g s. sh.marks p i j w z v u (into (p ++ i ∷ w) v h) (into (p ++ j ∷ z) u g) s;
}

pub exact_branches : {P : Type 0} (SI BI : Grammar BodyTree) {r : Reader BodyTree} → Bodies P SI BI r → Exact P (branches SI) (branches BI) true whens branch_lasts (branches_at r)
unfolding branches_at rising
exact_branches {P} SI BI {r} e =
    let few_starts : P → Starts (few BI 1) true whens = λ p. (exact_few SI BI e 0).starts p in
    record {
      shape = shape_as (levels BI) (branches BI) true whens branch_lasts (into_levels BI) (all_shape (λ n. few BI (suc n)) 0 (rising SI BI e 0));
      inside = λ p q v h.
          let s = into_levels SI q v h in
          from_few BI (suc s.level) q v ((exact_few SI BI e s.level).inside p q v s.sentence);
      reads = λ p.
          let rl = (exact_few SI BI e 0).reads p in
          record {
            some_items = rl.some_items;
            some_value = rl.some_value;
            some = from_few BI 1 rl.some_items rl.some_value rl.some;
            answers = λ here. answers p here;
          };
      starts = λ p. record {
        nullable = λ g. let x = (few_starts p).nullable g in (x.0, from_few BI 1 [] x.0 x.1);
        starts = λ t g.
            let o = (few_starts p).starts t g in
            let b = o.begins in
            record { mark = o.mark; is = o.is; begins = (b.0, b.1, from_few BI 1 ((o.mark ∷ []) ++ b.0) b.1 b.2) };
      };
    } where
      at_level : (p : P) (here : At) (n : ℕ) → length here.rest < n → Answers (few BI (suc n)) here (fewer_branches_at r (length here.rest) here)
      at_level p here n above =
          let Right : Outcome BranchesTree → Type 0 = λ o. Answers (few BI (suc n)) here o in
          subst Right (enough SI BI e p (suc n) (length here.rest) here (omega (arith, above)) (omega arith)) (((exact_few SI BI e n).reads p).answers here)

      answers : (p : P) (here : At) → Answers (branches BI) here (fewer_branches_at r (length here.rest) here)
      answers p here = same_answers (levels BI) (branches BI) (out_of_levels BI) (into_levels BI) here (fewer_branches_at r (length here.rest) here)
          (all_answers (λ n. few BI (suc n)) (length here.rest) (rising SI BI e (length here.rest)) here (fewer_branches_at r (length here.rest) here) (at_level p here))
