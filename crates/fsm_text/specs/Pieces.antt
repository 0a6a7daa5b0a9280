-- Pieces that are read one behind the other, before they are linked.
use Rattle.std.specs.Prelude.{ℕ, zero, suc, Bool, false, not, ◌&&◌, List, [], ◌∷◌, length, Option, None, Some, Ok, if◌then◌else◌}
use Rattle.vlsi_base.specs.Tree.{view}
use Rattle.vhdl_token.specs.declared.keyword.Keyword.TheVariants as word
use Rattle.vhdl_token.specs.declared.token.Sign.TheVariants as sign
use Rattle.vhdl_token.specs.declared.token.PlacedToken.{PlacedToken}
use Rattle.grammar_theory.specs.declared.form.Form.TheVariants as form
use Rattle.grammar_theory.specs.Tokens.{is_of, is_at}
use Rattle.grammar_theory.specs.Outcome.{Reader, ◌>>=◌, take_at}
use Rattle.fsm_text.specs.declared.pieces.Part.{Part}
use Rattle.fsm_text.specs.declared.pieces.Branch.{Branch}
use Rattle.fsm_text.specs.Written.{StatementTree, BodyTree, next, PartsTree, only, either, further, BranchesTree, listed, PartTree, BranchTree, body_view}
use Rattle.fsm_text.specs.FsmReading.{listed_branch_at}

abbrev pub part_view : Part → PartTree
part_view p = record { line = p.line; condition = view p.condition; body = body_view p.body }

abbrev pub branch_view : Branch → BranchTree
branch_view b = record { states = b.states; body = body_view b.body }

-- ---- the parts of an if from the last on

abbrev pub linked_last : PartTree → Option BodyTree → PartsTree
linked_last p None = only p.line p.condition p.body
linked_last p (Some last) = either p.line p.condition p.body last

abbrev pub further_of : PartTree → PartsTree → PartsTree
further_of p more = further p.line p.condition p.body more

abbrev pub parts_before : List PartTree → PartsTree → PartsTree
parts_before [] last = last
parts_before (p ∷ parts) last = further_of p (parts_before parts last)

-- ---- a statement before others

abbrev pub next_of : StatementTree → BodyTree → BodyTree
next_of s rest = next s rest

-- ---- the branches of a case: first those with listed states

abbrev pub listed_of : BranchTree → BranchesTree → BranchesTree
listed_of b more = listed b.states b.body more

-- a `when`, and no `others` behind it
abbrev pub goes_on : List PlacedToken → Bool
goes_on [] = false
goes_on (t ∷ ts) = is_of (form.Keyword word.When) t && not (is_at (form.Keyword word.Others) ts)

unfoldable pub led_branch_at : Reader BodyTree → Reader BranchTree
led_branch_at inner here = do
  t ← take_at (form.Keyword word.When) here
  listed_branch_at inner t.1

unfoldable pub listed_within_at : Reader BodyTree → ℕ → Reader (List BranchTree)
listed_within_at inner zero here = Ok ([], here)
listed_within_at inner (suc n) here = if goes_on here.rest then (do
  b ← led_branch_at inner here
  more ← listed_within_at inner n b.1
  Ok (b.0 ∷ more.0, more.1)) else Ok ([], here)

unfoldable pub listed_list_at : Reader BodyTree → Reader (List BranchTree)
listed_list_at inner here = listed_within_at inner (length here.rest) here

unfoldable pub led_others_at : Reader BodyTree → Reader (Option BodyTree)
led_others_at inner here = do
  t ← take_at (form.Keyword word.When) here
  u ← take_at (form.Keyword word.Others) t.1
  v ← take_at (form.Sign sign.Arrow) u.1
  body ← inner v.1
  Ok (Some body.0, body.1)

unfoldable pub others_at : Reader BodyTree → Reader (Option BodyTree)
others_at inner here = if is_at (form.Keyword word.When) here.rest then led_others_at inner here else Ok (None, here)
