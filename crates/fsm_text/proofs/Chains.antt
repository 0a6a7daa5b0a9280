-- Whether an assignment is one too many can be told.
use Rattle.std.proofs.Common.{◌≡◌, ℕ, ◌≤◌, ◌<◌, ◌+◌, ◌-◌, zero, suc, cond, nat_lt, Bool, true, false, List, [], ◌∷◌, ◌++◌, length, get_or, take, drop, append_assoc, MatchOption, ◌⊎◌, inl, inr, refl, sym, ap, subst, ◌∙◌, Option, None, Some, Result, Ok, Err, arith}
use Rattle.std.specs.Prelude.{filter, codes, is_none, IfOk}
use Rattle.std.specs.Bool.{OnTrue, OnFalse}
use Rattle.std.proofs.lemmas.List.{append-nil}
use Rattle.std.proofs.lemmas.Bool.{ltb-true}
use Rattle.std.proofs.lemmas.Bool.Decides.{nat_tests}
use Rattle.vlsi_base.specs.declared.name.Name.{Name}
use Rattle.vlsi_base.specs.declared.entity.Entity.{Entity}
use Rattle.vlsi_base.specs.declared.entity.PortGroup.{PortGroup}
use Rattle.vlsi_base.specs.declared.pragma.Pragma.{Pragma}
use Rattle.source_checks.specs.Symbols.{port_symbols, symbols_named, role_of_mode}
use Rattle.vhdl_token.specs.declared.token.PlacedToken.{PlacedToken}
use Rattle.vhdl_token.specs.declared.token.Tokens.{Tokens}
use Rattle.grammar_theory.specs.declared.limits.TheConstants.{DEPTH}
use Rattle.grammar_theory.specs.declared.refusal.Refusal.{Refusal}
use Rattle.grammar_theory.specs.Outcome.{At, Outcome, start}
use Rattle.grammar_theory.specs.Answers.{Answers, Accepts}
use Rattle.grammar_theory.specs.Unique.{OneAnswer}
use Rattle.grammar_theory.proofs.Unique as unique
use Rattle.grammar_theory.specs.declared.form.Form.TheVariants as form
use Rattle.vhdl_token.specs.declared.keyword.Keyword.TheVariants as word
use Rattle.source_checks.specs.declared.statement.Target.{Target}
use Rattle.vhdl_front.specs.Entity.{entity}
use Rattle.vhdl_front.specs.EntityReading.{entity_at}
use Rattle.vhdl_front.proofs.Language.{numbers}
use Rattle.vhdl_front.proofs.EntityLanguage.{exact_entity, entity_answers}
use Rattle.source_checks.specs.declared.symbol_table.Symbol.{Symbol}
use Rattle.source_checks.specs.Checks.{first_repeated}
use Rattle.fsm_text.specs.Chains.{named_by, is_out, next_symbols, assigned_here, counted_bits, taken, behind_bits, behind_target, overfull, passes_before}
use Rattle.fsm_text.specs.Texts.{counted_in, PassesChain, PassesBefore}

some_is : (a b : ℕ) → Some a ≡ Some b → a ≡ b
some_is a b e = cc

-- the place is among the tokens
pub place_below : (known : List Symbol) (before : List Name) (ts : List PlacedToken) (place : ℕ) → overfull known before ts ≡ Some place → place ≤ length ts
place_below known before [] place e = absurd cc
place_below known before (t ∷ ts) place e =
    at_target (length (t ∷ ts)) known before (λ after. overfull known after ts) (assigned_here (t ∷ ts)) place (λ after k h. omega (arith, place_below known after ts k h)) e where
      at_bits : (left : ℕ) (go : List Name → Option ℕ) (o : Option (List Name)) (place : ℕ) → ((after : List Name) (k : ℕ) → go after ≡ Some k → k ≤ left) → behind_bits left go o ≡ Some place → place ≤ left
      at_bits left go None place h e = omega (arith, some_is left place e)
      at_bits left go (Some after) place h e = h after place e

      at_target : (left : ℕ) (known : List Symbol) (before : List Name) (go : List Name → Option ℕ) (o : Option Target) (place : ℕ)
          → ((after : List Name) (k : ℕ) → go after ≡ Some k → k ≤ left) → behind_target left known before go o ≡ Some place → place ≤ left
      at_target left known before go None place h e = h before place e
      at_target left known before go (Some x) place h e = at_bits left go (taken before (counted_bits known x)) place h e

-- it has a token
pub place_above : (known : List Symbol) (before : List Name) (ts : List PlacedToken) (place : ℕ) → overfull known before ts ≡ Some place → 0 < place
place_above known before [] place e = absurd cc
place_above known before (t ∷ ts) place e =
    at_target (length (t ∷ ts)) known before (λ after. overfull known after ts) (assigned_here (t ∷ ts)) place (omega arith) (λ after k h. place_above known after ts k h) e where
      at_bits : (left : ℕ) (go : List Name → Option ℕ) (o : Option (List Name)) (place : ℕ) → 0 < left → ((after : List Name) (k : ℕ) → go after ≡ Some k → 0 < k) → behind_bits left go o ≡ Some place → 0 < place
      at_bits left go None place some h e = let same = some_is left place e in omega (arith, same, some)
      at_bits left go (Some after) place some h e = h after place e

      at_target : (left : ℕ) (known : List Symbol) (before : List Name) (go : List Name → Option ℕ) (o : Option Target) (place : ℕ)
          → 0 < left → ((after : List Name) (k : ℕ) → go after ≡ Some k → 0 < k) → behind_target left known before go o ≡ Some place → 0 < place
      at_target left known before go None place some h e = h before place e
      at_target left known before go (Some x) place some h e = at_bits left go (taken before (counted_bits known x)) place some h e

-- where the first assignment that is one too many stands behind this entity
abbrev pub counted : Tokens → Entity → At → Option ℕ
counted tokens e behind = overfull (counted_in tokens e) [] behind.rest

-- an entity that is accepted is the one that is read
pub same_entity : (tokens : Tokens) (e : Entity) (behind : At) → Accepts (entity DEPTH) (start tokens.items) e behind → entity_at DEPTH (start tokens.items) ≡ Ok (e, behind)
same_entity tokens e behind h =
    let one : OneAnswer (entity DEPTH) = unique.one_answer (entity DEPTH) false (numbers (form.Keyword word.Entity ∷ [])) [] (exact_entity DEPTH).shape (entity_at DEPTH) (entity_answers DEPTH) in
    let all = one (start tokens.items) in
    all.2 (entity_at DEPTH (start tokens.items)) (entity_answers DEPTH (start tokens.items)) ∙ sym (all.2 (Ok (e, behind)) h)

-- whether a place stands before so many tokens
pub told : (left : ℕ) (o : Option ℕ) → ((place : ℕ) × (o ≡ Some place) × (left < place)) ⊎ ((place : ℕ) → o ≡ Some place → left < place → ⊥)
told left None = inr (λ place e. absurd cc)
told left (Some k) = by (nat_lt left k) refl where
  reached : left < k → nat_lt left k ≡ true
  reached lt = grind (arith, nat_tests)

  by : (b : Bool) → nat_lt left k ≡ b → ((place : ℕ) × (Some k ≡ Some place) × (left < place)) ⊎ ((place : ℕ) → Some k ≡ Some place → left < place → ⊥)
  by true e = inl (k, refl, ltb-true left k e)
  by false e = inr (λ place is lt. let same = some_is k place is in let less : left < k = omega (arith, lt, same) in let other = reached less in absurd cc)

abbrev entity_then : Entity → At → Outcome Entity
entity_then e behind = Ok (e, behind)

abbrev pair : Entity → At → Entity × At
pair e behind = (e, behind)

same_parts : (a b : Entity) (x y : At) → entity_then a x ≡ entity_then b y → (a ≡ b) × (x ≡ y)
same_parts a b x y both =
    let pairs : pair a x ≡ pair b y = cc in
    (ap (λ (p : Entity × At). p.0) pairs, ap (λ (p : Entity × At). p.1) pairs)

-- an entity of a text with an assignment too many is the one that is read
its_entity : (tokens : Tokens) (e : Entity) (behind : At) (left : ℕ) → entity_at DEPTH (start tokens.items) ≡ Ok (e, behind) → (p : PassesChain tokens left) → (p.front ≡ e) × (p.behind ≡ behind)
its_entity tokens e behind left read p = same_parts p.front e p.behind behind (sym (same_entity tokens p.front p.behind p.read) ∙ read)

-- the same for an entity that is read
decided_behind : (tokens : Tokens) (left : ℕ) (e : Entity) (behind : At) → Accepts (entity DEPTH) (start tokens.items) e behind → entity_at DEPTH (start tokens.items) ≡ Ok (e, behind)
    → (o : Option Symbol) → first_repeated [] (counted_in tokens e) ≡ o → PassesBefore tokens left ⊎ (PassesBefore tokens left → ⊥)
decided_behind tokens left e behind right read (Some s) again =
    inr (λ p. let its = its_entity tokens e behind p.0 read p.1 in let none : first_repeated [] (counted_in tokens e) ≡ None = subst (λ (x : Entity). first_repeated [] (counted_in tokens x) ≡ None) its.0 p.1.once in absurd cc)
decided_behind tokens left e behind right read None once = elim (told left (counted tokens e behind)) [
  | inl p ↦ inl (p.0, record { front = e; behind = behind; read = right; once = once; place = p.1 }, p.2)
  | inr few ↦ inr (λ p.
      let its = its_entity tokens e behind p.0 read p.1 in
      let there : counted tokens e behind ≡ Some p.0 = subst (λ (x : Entity). counted tokens x behind ≡ Some p.0) its.0 (subst (λ (x : At). counted tokens p.1.front x ≡ Some p.0) its.1 p.1.place) in
      few p.0 there p.2)
]

pub decided : (tokens : Tokens) (left : ℕ) → PassesBefore tokens left ⊎ (PassesBefore tokens left → ⊥)
decided tokens left = by (entity_at DEPTH (start tokens.items)) (entity_answers DEPTH (start tokens.items)) refl where
  by : (o : Outcome Entity) → Answers (entity DEPTH) (start tokens.items) o → entity_at DEPTH (start tokens.items) ≡ o → PassesBefore tokens left ⊎ (PassesBefore tokens left → ⊥)
  by (Ok (e, behind)) right read = decided_behind tokens left e behind right read (first_repeated [] (counted_in tokens e)) refl
  by (Err r) right read = inr (λ p. let same = same_entity tokens p.1.front p.1.behind p.1.read in absurd cc)

-- what the loop over the tokens keeps: as much is still to come
pub record Counting (known : List Symbol) (left : ℕ) (before : List Name) (rest all : List PlacedToken) : Type 0 where
  pub same : passes_before left (overfull known before rest) ≡ passes_before left (overfull known [] all)

-- ---- what the count of a whole text tells

pub entity_read : (tokens : Tokens) (e : Entity) (behind : At) → entity_at DEPTH (start tokens.items) ≡ Ok (e, behind) → Accepts (entity DEPTH) (start tokens.items) e behind
entity_read tokens e behind read = let Right : Outcome Entity → Type 0 = λ o. Answers (entity DEPTH) (start tokens.items) o in subst Right read (entity_answers DEPTH (start tokens.items))

-- where no entity is read, nothing is one too many
pub none_unread : (tokens : Tokens) (left : ℕ) (r : Refusal) → entity_at DEPTH (start tokens.items) ≡ Err r → PassesBefore tokens left → ⊥
none_unread tokens left r read p = let same = same_entity tokens p.1.front p.1.behind p.1.read in absurd cc

-- nor where a name is declared twice
pub none_repeated : (tokens : Tokens) (left : ℕ) (e : Entity) (behind : At) (s : Symbol) → entity_at DEPTH (start tokens.items) ≡ Ok (e, behind)
    → first_repeated [] (counted_in tokens e) ≡ Some s → PassesBefore tokens left → ⊥
none_repeated tokens left e behind s read again p =
    let its = its_entity tokens e behind p.0 read p.1 in
    let none : first_repeated [] (counted_in tokens e) ≡ None = subst (λ (x : Entity). first_repeated [] (counted_in tokens x) ≡ None) its.0 p.1.once in
    absurd cc

passes_where : (left : ℕ) (o : Option ℕ) → passes_before left o ≡ true → (place : ℕ) × (o ≡ Some place) × (left < place)
passes_where left None e = absurd cc
passes_where left (Some k) e = (k, refl, ltb-true left k e)

pub one_passes : (tokens : Tokens) (left : ℕ) (e : Entity) (behind : At) → entity_at DEPTH (start tokens.items) ≡ Ok (e, behind) → first_repeated [] (counted_in tokens e) ≡ None
    → passes_before left (counted tokens e behind) ≡ true → PassesBefore tokens left
one_passes tokens left e behind read once passes =
    let p = passes_where left (counted tokens e behind) passes in
    (p.0, record { front = e; behind = behind; read = entity_read tokens e behind read; once = once; place = p.1 }, p.2)

pub none_passes : (tokens : Tokens) (left : ℕ) (e : Entity) (behind : At) → entity_at DEPTH (start tokens.items) ≡ Ok (e, behind)
    → passes_before left (counted tokens e behind) ≡ false → PassesBefore tokens left → ⊥
none_passes tokens left e behind read passes p =
    let its = its_entity tokens e behind p.0 read p.1 in
    let there : counted tokens e behind ≡ Some p.0 = subst (λ (x : Entity). counted tokens x behind ≡ Some p.0) its.0 (subst (λ (x : At). counted tokens p.1.front x ≡ Some p.0) its.1 p.1.place) in
    let less : left < p.0 = p.2 in
    let reached : nat_lt left p.0 ≡ true = grind (arith, nat_tests) in
    let both : true ≡ false = sym reached ∙ ap (passes_before left) (sym there) ∙ passes in
    absurd cc

-- ---- the loop over the tokens

pub counting_begins : (known : List Symbol) (left : ℕ) (all : List PlacedToken) → Counting known left [] all all
counting_begins known left all = record { same = refl }

-- nothing is assigned here
pub counting_passes : (known : List Symbol) (left : ℕ) (before : List Name) (rest all : List PlacedToken) → Counting known left before rest all → assigned_here rest ≡ None
    → left < length rest → Counting known left before (drop 1 rest) all
counting_passes known left before [] all kept none more = absurd (omega arith)
counting_passes known left before (t ∷ ts) all kept none more = record {
  same =
      sym (ap (λ (o : Option Target). passes_before left (behind_target (length (t ∷ ts)) known before (λ after. overfull known after ts) o)) none) ∙ kept.same;
}

-- a target is assigned, whose bits are taken
pub counting_takes : (known : List Symbol) (left : ℕ) (before after : List Name) (rest all : List PlacedToken) (x : Target) → Counting known left before rest all → assigned_here rest ≡ Some x
    → taken before (counted_bits known x) ≡ Some after → left < length rest → Counting known left after (drop 1 rest) all
counting_takes known left before after [] all x kept some took more = absurd (omega arith)
counting_takes known left before after (t ∷ ts) all x kept some took more = record {
  same =
      sym (ap (λ (o : Option Target). passes_before left (behind_target (length (t ∷ ts)) known before (λ after. overfull known after ts) o)) some
      ∙ ap (λ (o : Option (List Name)). passes_before left (behind_bits (length (t ∷ ts)) (λ after. overfull known after ts) o)) took) ∙ kept.same;
}

-- one of them is one too many
pub counting_stops : (known : List Symbol) (left : ℕ) (before : List Name) (rest all : List PlacedToken) (x : Target) → Counting known left before rest all → assigned_here rest ≡ Some x
    → taken before (counted_bits known x) ≡ None → left < length rest → true ≡ passes_before left (overfull known [] all)
counting_stops known left before [] all x kept some took more = absurd (omega arith)
counting_stops known left before (t ∷ ts) all x kept some took more =
    let reached : nat_lt left (length (t ∷ ts)) ≡ true = grind (arith, nat_tests) in
    sym reached
    ∙ sym (ap (λ (o : Option Target). passes_before left (behind_target (length (t ∷ ts)) known before (λ after. overfull known after ts) o)) some
    ∙ ap (λ (o : Option (List Name)). passes_before left (behind_bits (length (t ∷ ts)) (λ after. overfull known after ts) o)) took) ∙ kept.same

none_before : (left : ℕ) (o : Option ℕ) → ((place : ℕ) → o ≡ Some place → place ≤ left) → passes_before left o ≡ false
none_before left None h = refl
none_before left (Some k) h = let few : k ≤ left = h k refl in grind (arith, nat_tests)

-- so few are left that nothing is before
pub counting_ends : (known : List Symbol) (left : ℕ) (before : List Name) (rest all : List PlacedToken) → Counting known left before rest all → length rest ≤ left
    → false ≡ passes_before left (overfull known [] all)
counting_ends known left before rest all kept few =
    sym (none_before left (overfull known before rest) (λ place e. omega (arith, place_below known before rest place e, few))) ∙ kept.same

-- ---- what stands behind the first token

all_of : {A : Type 0} (xs : List A) (n : ℕ) → length xs ≤ n → take n xs ≡ xs
all_of [] zero h = refl
all_of [] (suc n) h = refl
all_of (x ∷ xs) zero h = absurd (omega arith)
all_of (x ∷ xs) (suc n) h = ap (λ ys. x ∷ ys) (all_of xs n (omega arith))

pub behind_first : (ts : List PlacedToken) → take (length ts - 1) (drop 1 ts) ≡ drop 1 ts
behind_first [] = all_of {A = PlacedToken} [] (length {A = PlacedToken} [] - 1) (omega arith)
behind_first (t ∷ ts) = all_of ts (suc (length ts) - 1) (omega arith)

-- ---- what a tally answers

pub not_taken : (o : Option (List Name)) (fits : Bool) (P : List Name → Type 0) → fits ≡ false → MatchOption o (fits ≡ false) (λ after. (fits ≡ true) × P after) → o ≡ None
not_taken None fits P e h = refl
not_taken (Some after) fits P e h = let both : true ≡ false = sym h.0 ∙ e in absurd cc

pub is_taken : (o : Option (List Name)) (fits : Bool) (P : List Name → Type 0) → fits ≡ true → MatchOption o (fits ≡ false) (λ after. (fits ≡ true) × P after)
    → (after : List Name) × (o ≡ Some after) × P after
is_taken None fits P e h = let both : true ≡ false = sym e ∙ h in absurd cc
is_taken (Some after) fits P e h = (after, refl, h.1)

-- ---- what is counted

pub counted_made : (tokens : Tokens) (e : Entity) (first table : List Symbol) (groups : List PortGroup) (pragmas : List Pragma) (next : Option (List ℕ))
    → groups ≡ e.ports → first ≡ port_symbols (filter is_out groups) → pragmas ≡ tokens.pragmas → next ≡ named_by (codes "next_state") pragmas
    → table ≡ first ++ next_symbols first next → table ≡ counted_in tokens e
counted_made tokens e first table groups pragmas next ports outs all named made =
    made ∙ ap (λ (xs : List Symbol). xs ++ next_symbols xs next) (outs ∙ ap (λ (gs : List PortGroup). port_symbols (filter is_out gs)) ports)
    ∙ ap (λ (n : Option (List ℕ)). port_symbols (filter is_out e.ports) ++ next_symbols (port_symbols (filter is_out e.ports)) n) (named ∙ ap (named_by (codes "next_state")) all)

-- ---- outputs among ports

item_at : (gs : List PortGroup) (k : ℕ) → k < length gs → (g : PortGroup) × (drop k gs ≡ g ∷ drop (suc k) gs) × ((d : PortGroup) → get_or gs k d ≡ g)
item_at [] k h = absurd (omega arith)
item_at (x ∷ gs) zero h = (x, refl, λ d. refl)
item_at (x ∷ gs) (suc k) h = item_at gs k (omega arith)

-- the port at this place, and those behind it
pub port_at : (gs : List PortGroup) (k : ℕ) (g : PortGroup) → k < length gs → g ≡ get_or gs k g → drop k gs ≡ g ∷ drop (k + 1) gs
port_at gs k g h is =
    let at = item_at gs k h in
    let same : at.0 ≡ g = sym (at.2 g) ∙ sym is in
    let next : suc k ≡ k + 1 = omega arith in
    at.1 ∙ ap (λ (x : PortGroup). x ∷ drop (suc k) gs) same ∙ ap (λ j. g ∷ drop j gs) next

pub output_left : (gs : List PortGroup) (k : ℕ) (g : PortGroup) (table : List Symbol) → drop k gs ≡ g ∷ drop (k + 1) gs → is_out g ≡ false
    → table ++ port_symbols (filter is_out (drop k gs)) ≡ table ++ port_symbols (filter is_out (drop (k + 1) gs))
output_left gs k g table at e =
    ap (λ (xs : List PortGroup). table ++ port_symbols (filter is_out xs)) at
    ∙ ap (λ b. table ++ port_symbols (cond b (g ∷ filter is_out (drop (k + 1) gs)) (filter is_out (drop (k + 1) gs)))) e

pub output_put : (gs : List PortGroup) (k : ℕ) (g : PortGroup) (table one : List Symbol) → drop k gs ≡ g ∷ drop (k + 1) gs → is_out g ≡ true → one ≡ table ++ port_symbols (take 1 (drop k gs))
    → table ++ port_symbols (filter is_out (drop k gs)) ≡ one ++ port_symbols (filter is_out (drop (k + 1) gs))
output_put gs k g table one at e made =
    let rest = port_symbols (filter is_out (drop (k + 1) gs)) in
    let mine = symbols_named (role_of_mode g.mode) g.kind.range g.line g.names in
    let alone : one ≡ table ++ mine = made ∙ ap (λ (xs : List PortGroup). table ++ port_symbols (take 1 xs)) at ∙ ap (λ (xs : List Symbol). table ++ xs) (append-nil mine) in
    ap (λ (xs : List PortGroup). table ++ port_symbols (filter is_out xs)) at
    ∙ ap (λ b. table ++ port_symbols (cond b (g ∷ filter is_out (drop (k + 1) gs)) (filter is_out (drop (k + 1) gs)))) e
    ∙ sym (append_assoc table mine rest) ∙ ap (λ (xs : List Symbol). xs ++ rest) (sym alone)

-- ---- what is answered

pub on_true : {E : Type 0} (r : Result Bool E) (w : Bool) (P : Type 0) → IfOk r (λ passes. passes ≡ w) → (w ≡ true → P) → IfOk r (λ passes. OnTrue passes P)
on_true (Ok true) w P h go = go (sym h)
on_true (Ok false) w P h go = tt
on_true (Err e) w P h go = tt

pub on_false : {E : Type 0} (r : Result Bool E) (w : Bool) (P : Type 0) → IfOk r (λ passes. passes ≡ w) → (w ≡ false → P) → IfOk r (λ passes. OnFalse passes P)
on_false (Ok true) w P h go = tt
on_false (Ok false) w P h go = go (sym h)
on_false (Err e) w P h go = tt

pub some_symbol : (o : Option Symbol) → is_none o ≡ false → (s : Symbol) × (o ≡ Some s)
some_symbol None e = absurd cc
some_symbol (Some s) e = (s, refl)
