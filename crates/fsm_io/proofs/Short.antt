-- In a text with short expressions each place in the statements is short.
use Rattle.std.proofs.Common.{◌≡◌, Bool, List, [], ◌∷◌, ◌++◌, map, sym, subst}
use Rattle.std.specs.Prelude.{true, ◌||◌}
use Rattle.std.specs.List.{All}
use Rattle.std.proofs.lemmas.List.Elements.{All-nil, All-cons}
use Rattle.fsm_text.specs.Written.{StatementTree, asserted, assigned, chosen, selected, BodyTree, finish, next, PartsTree, only, either, further, BranchesTree, closed, others, listed, MachineTree}
use Rattle.fsm_text.specs.Short.{ShortStatement, ShortBody, ShortParts, ShortBranches, HasShortExpressions}
use Rattle.vbe_text.proofs.Short.{Every}
use Rattle.fsm_io.specs.declared.mentions.Mention.{Mention as Held}
use Rattle.fsm_io.specs.Looks.{Mention, body_has_case, holds_case, in_body, in_statement, in_parts, in_branches, all_mentions}
use Rattle.fsm_io.specs.Pieces.{mention_of}
use Rattle.fsm_io.specs.Short.{ShortMention}

both : (xs ys : List Mention) → Every ShortMention xs → Every ShortMention ys → Every ShortMention (xs ++ ys)
both [] ys front back = back
both (x ∷ xs) ys front back = (front.0, both xs ys front.1 back)

mutual
  short_body : (seen : Bool) (a : BodyTree) → ShortBody a → Every ShortMention (in_body seen a)
  short_body seen finish h = tt
  short_body seen (next s rest) h =
      both (in_statement seen s) (in_body (seen || holds_case s) rest) (short_statement seen s h.0) (short_body (seen || holds_case s) rest h.1)

  short_statement : (seen : Bool) (s : StatementTree) → ShortStatement s → Every ShortMention (in_statement seen s)
  short_statement seen (asserted e) h = (h, tt)
  short_statement seen (assigned t first e) h = (h, tt)
  short_statement seen (chosen parts) h = short_parts seen parts h
  short_statement seen (selected line called branches) h = (tt, short_branches branches h)

  short_parts : (seen : Bool) (parts : PartsTree) → ShortParts parts → Every ShortMention (in_parts seen parts)
  short_parts seen (only line c a) h = (h.0, short_body seen a h.1)
  short_parts seen (either line c a b) h =
      (h.0, both (in_body seen a) (in_body (seen || body_has_case a) b) (short_body seen a h.1.0) (short_body (seen || body_has_case a) b h.1.1))
  short_parts seen (further line c a more) h =
      (h.0, both (in_body seen a) (in_parts (seen || body_has_case a) more) (short_body seen a h.1.0) (short_parts (seen || body_has_case a) more h.1.1))

  short_branches : (branches : BranchesTree) → ShortBranches branches → Every ShortMention (in_branches branches)
  short_branches closed h = tt
  short_branches (others a) h = short_body true a h
  short_branches (listed states a more) h = (tt, both (in_body true a) (in_branches more) (short_body true a h.0) (short_branches more h.1))

held : (ms : List Held) → Every ShortMention (map mention_of ms) → All (λ x. ShortMention (mention_of x)) ms
held [] h = All-nil (λ (x : Held). ShortMention (mention_of x))
held (x ∷ ms) h = All-cons (λ (y : Held). ShortMention (mention_of y)) x ms h.0 (held ms h.1)

-- wherever what stands there lies in memory
pub short_mentions : (m : MachineTree) (ms : List Held) → HasShortExpressions m → map mention_of ms ≡ all_mentions m
    → All (λ x. ShortMention (mention_of x)) ms
short_mentions m ms h is = held ms (subst (λ (xs : List Mention). Every ShortMention xs) (sym is) (short_body _ m.step.body h.0))
