-- Reading branches in a loop: as long as a `when` stands next and no `others` behind it, then those.
use Rattle.std.proofs.Common.{◌≡◌, ℕ, zero, suc, ◌≤◌, ◌<◌, Bool, true, false, List, [], ◌∷◌, ◌++◌, length, Option, None, Some, Result, Ok, Err, if◌then◌else◌, refl, sym, ap, ◌∙◌, append_assoc, arith}
use Rattle.std.proofs.lemmas.List.{append-nil}
use Rattle.vhdl_token.specs.declared.token.PlacedToken.{PlacedToken}
use Rattle.vhdl_token.specs.declared.keyword.Keyword.TheVariants as word
use Rattle.vhdl_token.specs.declared.token.Sign.TheVariants as sign
use Rattle.grammar_theory.specs.declared.form.Form.TheVariants as form
use Rattle.grammar_theory.specs.declared.refusal.Breach.{Breach}
use Rattle.grammar_theory.specs.declared.refusal.Stop.{Stop}
use Rattle.grammar_theory.specs.declared.refusal.Stop.TheVariants as stop
use Rattle.grammar_theory.specs.declared.form.Form.{Form}
use Rattle.grammar_theory.specs.Tokens.{is_of, is_at}
use Rattle.grammar_theory.specs.Marks.{State, plain, step}
use Rattle.grammar_theory.specs.Outcome.{At, Outcome, Reader, Fails, ◌>>=◌, passed, take_at, with_front}
use Rattle.fsm_text.specs.Written.{BodyTree, BranchTree, BranchesTree, closed, others, listed, branches_of}
use Rattle.fsm_text.specs.FsmReading.{listed_branch_at, others_branch_at, branch_before_at, behind_when_at, fewer_branches_at, branches_at}
use Rattle.fsm_text.specs.Pieces.{goes_on, led_branch_at, listed_within_at, listed_list_at, led_others_at, others_at}

-- what the loop keeps, with the branches so far in done
pub record Listed (inner : Reader BodyTree) (done : List BranchTree) (here : At) (total : Outcome (List BranchTree)) : Type 0 where
  pub fuel : ℕ
  pub enough : length here.rest ≤ fuel
  pub so_far : with_front done (listed_within_at inner fuel here) ≡ total

no_front : (read : Outcome (List BranchTree)) → with_front [] read ≡ read
no_front (Ok x) = refl
no_front (Err e) = refl

regroup : (front : List BranchTree) (v : BranchTree) (read : Outcome (List BranchTree)) → with_front front (read >>= λ x. Ok (v ∷ x.0, x.1)) ≡ with_front (front ++ v ∷ []) read
regroup front v (Ok x) = ap (λ (vs : List BranchTree). Ok (vs, x.1)) (sym (append_assoc front (v ∷ []) x.0))
regroup front v (Err e) = refl

some_token : (ts : List PlacedToken) → goes_on ts ≡ true → 0 < length ts
some_token [] e = absurd cc
some_token (t ∷ ts) e = omega arith

pub begins : (inner : Reader BodyTree) (start : At) → Listed inner [] start (listed_list_at inner start)
unfolding listed_list_at
begins inner start = record { fuel = length start.rest; enough = omega arith; so_far = no_front (listed_within_at inner (length start.rest) start) }

pub goes_further : (inner : Reader BodyTree) (done : List BranchTree) (here : At) (total : Outcome (List BranchTree)) → Listed inner done here total
    → goes_on here.rest ≡ true → (v : BranchTree) (there : At) → led_branch_at inner here ≡ Ok (v, there) → length there.rest < length here.rest → Listed inner (done ++ v ∷ []) there total
unfolding listed_within_at
goes_further inner done here total kept at v there h less = go kept.fuel kept.enough kept.so_far where
  go : (n : ℕ) → length here.rest ≤ n → with_front done (listed_within_at inner n here) ≡ total → Listed inner (done ++ v ∷ []) there total
  go zero le e = absurd (omega (arith, some_token here.rest at))
  go (suc n) le e =
      let one : with_front done (listed_within_at inner (suc n) here) ≡ with_front (done ++ v ∷ []) (listed_within_at inner n there) = rw (at, h) (regroup done v (listed_within_at inner n there)) in
      record { fuel = n; enough = omega arith; so_far = sym one ∙ e }

pub fails : (inner : Reader BodyTree) (done : List BranchTree) (here : At) (total : Outcome (List BranchTree)) → Listed inner done here total
    → goes_on here.rest ≡ true → (e : Stop) → Fails e (led_branch_at inner here) → Fails e total
unfolding listed_within_at
fails inner done here total kept at stop.Memory h = tt
fails inner done here total kept at (stop.Refused r) h = go kept.fuel kept.enough kept.so_far where
  go : (n : ℕ) → length here.rest ≤ n → with_front done (listed_within_at inner n here) ≡ total → total ≡ Err r
  go zero le e = absurd (omega (arith, some_token here.rest at))
  go (suc n) le e =
      let one : with_front done (listed_within_at inner (suc n) here) ≡ Err r = rw (at, h) refl in
      sym e ∙ one

pub ends : (inner : Reader BodyTree) (done : List BranchTree) (here : At) (total : Outcome (List BranchTree)) → Listed inner done here total
    → goes_on here.rest ≡ false → total ≡ Ok (done, here)
unfolding listed_within_at
ends inner done here total kept at = go kept.fuel kept.so_far where
  at_last : List BranchTree → Outcome (List BranchTree)
  at_last vs = Ok (vs, here)

  last : at_last (done ++ []) ≡ at_last done
  last = ap at_last (append-nil done)

  go : (n : ℕ) → with_front done (listed_within_at inner n here) ≡ total → total ≡ Ok (done, here)
  go zero e = sym e ∙ last
  go (suc n) e =
      let one : with_front done (listed_within_at inner (suc n) here) ≡ Ok (done ++ [], here) = rw at refl in
      sym e ∙ one ∙ last

-- ---- listed branches and what stands behind them are branches

bind_assoc : {A B C : Type 0} (o : Outcome A) (f : A × At → Outcome B) (g : B × At → Outcome C) → ((o >>= f) >>= g) ≡ (o >>= λ x. f x >>= g)
bind_assoc (Ok x) f g = refl
bind_assoc (Err e) f g = refl

-- behind the listed branches
abbrev pub joined : Reader BodyTree → List BranchTree × At → Outcome BranchesTree
joined inner all = others_at inner all.1 >>= λ last. Ok (branches_of all.0 last.0, last.1)

bind_same : {A C : Type 0} (o : Outcome A) (f g : A × At → Outcome C) → ((x : A × At) → o ≡ Ok x → f x ≡ g x) → (o >>= f) ≡ (o >>= g)
bind_same (Ok x) f g h = h x refl
bind_same (Err e) f g h = refl

-- what is done in the other states, read as branches or to be put behind some
one_body : (o : Outcome BodyTree) → (o >>= λ body. Ok (others body.0, body.1)) ≡ ((o >>= λ body. Ok (Some body.0, body.1)) >>= λ last. Ok (branches_of [] last.0, last.1))
one_body (Ok x) = refl
one_body (Err e) = refl

arrow_body : (o : Outcome PlacedToken) (c : PlacedToken × At → Outcome BodyTree)
    → (o >>= λ u. c u >>= λ body. Ok (others body.0, body.1)) ≡ ((o >>= λ u. c u >>= λ body. Ok (Some body.0, body.1)) >>= λ last. Ok (branches_of [] last.0, last.1))
arrow_body (Ok x) c = one_body (c x)
arrow_body (Err e) c = refl

others_body : (o : Outcome PlacedToken) (b : PlacedToken × At → Outcome PlacedToken) (c : PlacedToken × At → Outcome BodyTree)
    → (o >>= λ t. b t >>= λ u. c u >>= λ body. Ok (others body.0, body.1)) ≡ ((o >>= λ t. b t >>= λ u. c u >>= λ body. Ok (Some body.0, body.1)) >>= λ last. Ok (branches_of [] last.0, last.1))
others_body (Ok x) b c = arrow_body (b x) c
others_body (Err e) b c = refl

-- a branch before others
abbrev put : BranchTree → BranchesTree × At → Outcome BranchesTree
put b rest = Ok (listed b.states b.body rest.0, rest.1)

cons_last : (b : BranchTree) (all : List BranchTree) (o : Outcome (Option BodyTree))
    → ((o >>= λ last. Ok (branches_of all last.0, last.1)) >>= put b) ≡ (o >>= λ last. Ok (branches_of (b ∷ all) last.0, last.1))
cons_last b all (Ok x) = refl
cons_last b all (Err e) = refl

cons_all : (inner : Reader BodyTree) (b : BranchTree) (o : Outcome (List BranchTree))
    → ((o >>= joined inner) >>= put b) ≡ ((o >>= λ more. Ok (b ∷ more.0, more.1)) >>= joined inner)
cons_all inner b (Ok x) = cons_last b x.0 (others_at inner x.1)
cons_all inner b (Err e) = refl

abbrev at : State → List PlacedToken → At
at s ts = record { state = s; rest = ts }

abbrev when : Form
when = form.Keyword word.When

-- each reading of an item takes tokens
abbrev Consumes : Reader BodyTree → Type 0
Consumes inner = (here there : At) (v : BranchTree) → led_branch_at inner here ≡ Ok (v, there) → length there.rest < length here.rest

-- what is to be shown of tokens
abbrev Same : Reader BodyTree → ℕ → At → Type 0
Same inner n here = fewer_branches_at inner n here ≡ (listed_within_at inner n here >>= joined inner)

-- behind a `when`, taken or refused, and in front of `others`: nothing is listed
behind_others : (inner : Reader BodyTree) (more : Reader BranchesTree) (t : PlacedToken) (ts : List PlacedToken) (r : Result State Breach) → is_at (form.Keyword word.Others) ts ≡ true
    → (passed t ts r >>= λ x. if is_at (form.Keyword word.Others) x.1.rest then others_branch_at inner x.1 else branch_before_at inner more x.1)
    ≡ ((passed t ts r >>= λ x. take_at (form.Keyword word.Others) x.1 >>= λ u. take_at (form.Sign sign.Arrow) u.1 >>= λ v. inner v.1 >>= λ body. Ok (Some body.0, body.1)) >>= λ last. Ok (branches_of [] last.0, last.1))
unfolding others_branch_at
behind_others inner more t ts (Ok u) e = rw e (others_body (take_at (form.Keyword word.Others) (at u ts)) (λ x. take_at (form.Sign sign.Arrow) x.1) (λ x. inner x.1))
behind_others inner more t ts (Err b) e = refl

-- behind a `when`, taken or refused, and in front of states: one branch is listed, and then as many as are left
behind_listed : (inner : Reader BodyTree) (n : ℕ) (t : PlacedToken) (ts : List PlacedToken) (r : Result State Breach) → is_at (form.Keyword word.Others) ts ≡ false
    → ((u : State) (x : BranchTree × At) → r ≡ Ok u → listed_branch_at inner (at u ts) ≡ Ok x → Same inner n x.1)
    → (passed t ts r >>= λ x. if is_at (form.Keyword word.Others) x.1.rest then others_branch_at inner x.1 else branch_before_at inner (fewer_branches_at inner n) x.1)
    ≡ (((passed t ts r >>= λ x. listed_branch_at inner x.1) >>= λ b. listed_within_at inner n b.1 >>= λ more. Ok (b.0 ∷ more.0, more.1)) >>= joined inner)
unfolding branch_before_at
behind_listed inner n t ts (Err b) e h = refl
behind_listed inner n t ts (Ok u) e h =
    let first = listed_branch_at inner (at u ts) in
    let cons : BranchTree × At → Outcome (List BranchTree) = λ b. listed_within_at inner n b.1 >>= λ more. Ok (b.0 ∷ more.0, more.1) in
    rw e (bind_same first (λ b. fewer_branches_at inner n b.1 >>= put b.0) (λ b. cons b >>= joined inner) (λ x read. rw (h u x refl read) (cons_all inner x.0 (listed_within_at inner n x.1)))
    ∙ sym (bind_assoc first cons (joined inner)))

-- with one token more, by whether it is a `when` and `others` stands behind it
one_step : (inner : Reader BodyTree) → Consumes inner → (n : ℕ) → ((s : State) (ts : List PlacedToken) → length ts ≤ n → Same inner n (at s ts))
    → (s : State) (t : PlacedToken) (ts : List PlacedToken) → length (t ∷ ts) ≤ suc n → (w o : Bool) → is_of when t ≡ w → is_at (form.Keyword word.Others) ts ≡ o → Same inner (suc n) (at s (t ∷ ts))
unfolding fewer_branches_at behind_when_at listed_within_at led_branch_at others_at led_others_at
one_step inner consumes n ih s t ts le false o e f = rw (e, e) refl
one_step inner consumes n ih s t ts le true true e f = rw (e, f, e) (behind_others inner (fewer_branches_at inner n) t ts (step plain s) f)
one_step inner consumes n ih s t ts le true false e f = rw (e, f) (behind_listed inner n t ts (step plain s) f (λ u x taken read.
    let led : led_branch_at inner (at s (t ∷ ts)) ≡ Ok x = rw (e, taken) read in
    let less = consumes (at s (t ∷ ts)) x.1 x.0 led in
    ih x.1.state x.1.rest (omega (arith, less, le))))

-- with so many tokens at most, by induction on them
steps : (inner : Reader BodyTree) → Consumes inner → (n : ℕ) (s : State) (ts : List PlacedToken) → length ts ≤ n → Same inner n (at s ts)
unfolding fewer_branches_at listed_within_at others_at
steps inner consumes zero s [] le = refl
steps inner consumes zero s (t ∷ ts) le = absurd (omega (arith, le))
steps inner consumes (suc n) s [] le = refl
steps inner consumes (suc n) s (t ∷ ts) le = one_step inner consumes n (λ z us less. steps inner consumes n z us less) s t ts le (is_of when t) (is_at (form.Keyword word.Others) ts) refl refl

two_steps_within : (inner : Reader BodyTree) → ((here there : At) (v : BranchTree) → led_branch_at inner here ≡ Ok (v, there) → length there.rest < length here.rest)
    → (n : ℕ) (here : At) → length here.rest ≤ n → fewer_branches_at inner n here ≡ (listed_within_at inner n here >>= joined inner)
two_steps_within inner consumes n here le = steps inner consumes n here.state here.rest le

pub two_steps : (inner : Reader BodyTree) → ((here there : At) (v : BranchTree) → led_branch_at inner here ≡ Ok (v, there) → length there.rest < length here.rest)
    → (here : At) → branches_at inner here ≡ (listed_list_at inner here >>= joined inner)
unfolding branches_at listed_list_at
two_steps inner consumes here = two_steps_within inner consumes (length here.rest) here (omega arith)

-- ---- what branches come to, by the listed ones and what stands behind them

abbrev pub Consuming : Reader BodyTree → Type 0
Consuming inner = (here there : At) (v : BranchTree) → led_branch_at inner here ≡ Ok (v, there) → length there.rest < length here.rest

pub listed_fail : (inner : Reader BodyTree) → Consuming inner → (here : At) (e : Stop) → Fails e (listed_list_at inner here) → Fails e (branches_at inner here)
listed_fail inner consumes here stop.Memory h = tt
listed_fail inner consumes here (stop.Refused r) h = two_steps inner consumes here ∙ ap (λ (o : Outcome (List BranchTree)). o >>= joined inner) h

pub last_fails : (inner : Reader BodyTree) → Consuming inner → (here there : At) (all : List BranchTree) → listed_list_at inner here ≡ Ok (all, there)
    → (e : Stop) → Fails e (others_at inner there) → Fails e (branches_at inner here)
last_fails inner consumes here there all read stop.Memory h = tt
last_fails inner consumes here there all read (stop.Refused r) h =
    two_steps inner consumes here ∙ ap (λ (o : Outcome (List BranchTree)). o >>= joined inner) read
    ∙ ap (λ (o : Outcome (Option BodyTree)). o >>= λ last. Ok (branches_of all last.0, last.1)) h

pub both_read : (inner : Reader BodyTree) → Consuming inner → (here there end : At) (all : List BranchTree) (last : Option BodyTree) → listed_list_at inner here ≡ Ok (all, there)
    → others_at inner there ≡ Ok (last, end) → branches_at inner here ≡ Ok (branches_of all last, end)
both_read inner consumes here there end all last read behind =
    two_steps inner consumes here ∙ ap (λ (o : Outcome (List BranchTree)). o >>= joined inner) read
    ∙ ap (λ (o : Outcome (Option BodyTree)). o >>= λ last. Ok (branches_of all last.0, last.1)) behind
