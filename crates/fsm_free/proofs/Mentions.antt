-- What stands in statements with a bit in place of each free one: the same but for the values that are free.
use Rattle.std.proofs.Common.{◌≡◌, ℕ, Bool, true, false, List, [], ◌∷◌, ◌++◌, map, Option, None, Some, refl, sym, ap, ◌∙◌}
use Rattle.std.specs.Prelude.{◌||◌}
use Rattle.std.specs.List.{flat_map}
use Rattle.std.proofs.lemmas.List.{map-append}
use Rattle.vlsi_base.specs.Tree.{Tree, bit}
use Rattle.fsm_text.specs.Written.{StatementTree, asserted, assigned, chosen, selected, BodyTree, finish, next, PartsTree, only, either, further, BranchesTree, closed, others, listed, MachineTree}
use Rattle.fsm_io.specs.Looks.{Mention, asserting, assigning, testing, selecting, listing, body_has_case, holds_case, parts_have_case, in_body, in_statement, in_parts, in_branches, all_mentions, found}
use Rattle.free_tokens.specs.Filled.{free_line, filled_with, filled_value}
use Rattle.fsm_free.specs.Filled.{filled_statement, filled_body, filled_parts, filled_branches, filled}

-- ---- cases

mutual
  pub body_case : (b : Bool) (t : BodyTree) → body_has_case (filled_body b t) ≡ body_has_case t
  body_case b finish = refl
  body_case b (next s rest) =
      ap (λ (x : Bool). x || body_has_case (filled_body b rest)) (statement_case b s) ∙ ap (λ (x : Bool). holds_case s || x) (body_case b rest)

  statement_case : (b : Bool) (s : StatementTree) → holds_case (filled_statement b s) ≡ holds_case s
  statement_case b (asserted e) = refl
  statement_case b (assigned t first e) = refl
  statement_case b (chosen parts) = parts_case b parts
  statement_case b (selected line called branches) = refl

  parts_case : (b : Bool) (p : PartsTree) → parts_have_case (filled_parts b p) ≡ parts_have_case p
  parts_case b (only line c a) = body_case b a
  parts_case b (either line c a d) =
      ap (λ (x : Bool). x || body_has_case (filled_body b d)) (body_case b a) ∙ ap (λ (x : Bool). body_has_case a || x) (body_case b d)
  parts_case b (further line c a more) =
      ap (λ (x : Bool). x || parts_have_case (filled_parts b more)) (body_case b a) ∙ ap (λ (x : Bool). body_has_case a || x) (parts_case b more)

-- ---- mentions

abbrev pub filled_mention : Bool → Mention → Mention
filled_mention b (asserting e) = asserting e
filled_mention b (assigning t first e) = assigning t first (filled_value b e)
filled_mention b (testing line e) = testing line e
filled_mention b (selecting seen line called) = selecting seen line called
filled_mention b (listing states) = listing states

both_parts : (b : Bool) (xs ys : List Mention) (us vs : List Mention) → us ≡ map (filled_mention b) xs → vs ≡ map (filled_mention b) ys → us ++ vs ≡ map (filled_mention b) (xs ++ ys)
both_parts b xs ys us vs u v = (λ i. u i ++ v i) ∙ sym (map-append (filled_mention b) xs ys)

mutual
  body_mentions : (b seen : Bool) (t : BodyTree) → in_body seen (filled_body b t) ≡ map (filled_mention b) (in_body seen t)
  body_mentions b seen finish = refl
  body_mentions b seen (next s rest) =
      both_parts b (in_statement seen s) (in_body (seen || holds_case s) rest) (in_statement seen (filled_statement b s)) (in_body (seen || holds_case (filled_statement b s)) (filled_body b rest))
      (statement_mentions b seen s)
      (ap (λ (x : Bool). in_body (seen || x) (filled_body b rest)) (statement_case b s) ∙ body_mentions b (seen || holds_case s) rest)

  statement_mentions : (b seen : Bool) (s : StatementTree) → in_statement seen (filled_statement b s) ≡ map (filled_mention b) (in_statement seen s)
  statement_mentions b seen (asserted e) = refl
  statement_mentions b seen (assigned t first e) = refl
  statement_mentions b seen (chosen parts) = parts_mentions b seen parts
  statement_mentions b seen (selected line called branches) = ap (λ (ms : List Mention). selecting seen line called ∷ ms) (branches_mentions b branches)

  parts_mentions : (b seen : Bool) (p : PartsTree) → in_parts seen (filled_parts b p) ≡ map (filled_mention b) (in_parts seen p)
  parts_mentions b seen (only line c a) = ap (λ (ms : List Mention). testing line c ∷ ms) (body_mentions b seen a)
  parts_mentions b seen (either line c a d) =
      ap (λ (ms : List Mention). testing line c ∷ ms)
      (both_parts b (in_body seen a) (in_body (seen || body_has_case a) d) (in_body seen (filled_body b a)) (in_body (seen || body_has_case (filled_body b a)) (filled_body b d))
      (body_mentions b seen a)
      (ap (λ (x : Bool). in_body (seen || x) (filled_body b d)) (body_case b a) ∙ body_mentions b (seen || body_has_case a) d))
  parts_mentions b seen (further line c a more) =
      ap (λ (ms : List Mention). testing line c ∷ ms)
      (both_parts b (in_body seen a) (in_parts (seen || body_has_case a) more) (in_body seen (filled_body b a)) (in_parts (seen || body_has_case (filled_body b a)) (filled_parts b more))
      (body_mentions b seen a)
      (ap (λ (x : Bool). in_parts (seen || x) (filled_parts b more)) (body_case b a) ∙ parts_mentions b (seen || body_has_case a) more))

  branches_mentions : (b : Bool) (t : BranchesTree) → in_branches (filled_branches b t) ≡ map (filled_mention b) (in_branches t)
  branches_mentions b closed = refl
  branches_mentions b (others a) = body_mentions b true a
  branches_mentions b (listed states a more) =
      ap (λ (ms : List Mention). listing states ∷ ms)
      (both_parts b (in_body true a) (in_branches more) (in_body true (filled_body b a)) (in_branches (filled_branches b more)) (body_mentions b true a) (branches_mentions b more))

pub mentions : (b : Bool) (m : MachineTree) → all_mentions (filled b m) ≡ map (filled_mention b) (all_mentions m)
mentions b m = body_mentions b false m.step.body

-- ---- looks that tell no bit from the other

pub value_same : {A : Type 0} (look : Tree → A) → ((line : ℕ) → look (bit true line) ≡ look (bit false line)) → (e : Tree) → look (filled_value true e) ≡ look (filled_value false e)
value_same {A} look h e = by (free_line e) where
  by : (o : Option ℕ) → look (filled_with true e o) ≡ look (filled_with false e o)
  by None = refl
  by (Some line) = h line

looks_same : {A : Type 0} (look : Mention → List A) → ((x : Mention) → look (filled_mention true x) ≡ look (filled_mention false x))
    → (ms : List Mention) → flat_map look (map (filled_mention true) ms) ≡ flat_map look (map (filled_mention false) ms)
looks_same look h [] = refl
looks_same look h (x ∷ ms) = λ i. h x i ++ looks_same look h ms i

pub found_same : {A : Type 0} (look : Mention → List A) → ((x : Mention) → look (filled_mention true x) ≡ look (filled_mention false x))
    → (m : MachineTree) → found look (filled true m) ≡ found look (filled false m)
found_same look h m = ap (flat_map look) (mentions true m) ∙ looks_same look h (all_mentions m) ∙ sym (ap (flat_map look) (mentions false m))
