use Rattle.std.proofs.Common.{rules, arith, ◌≡◌, ◌<◌, ◌++◌, ◌∙◌, ℕ, List, [], ◌∷◌, map, ap, sym, subst, Bor}
use Rattle.std.proofs.lemmas.List.{map_push}
use Rattle.vlsi_base.specs.declared.entity.NewName.{NewName}
use Rattle.vlsi_base.specs.Member.{In, here}
use Rattle.vlsi_base.specs.Tree.{view as tree}
use Rattle.machine_core.proofs.Values.{In-left, In-right}
use Rattle.bool_expr.specs.Expression.{Expression}
use Rattle.fsm_machine.specs.Statements as s
use Rattle.fsm_code.specs.View as code
use Rattle.fsm_text.specs.declared.file.Statement.{Statement, size-Statement}
use Rattle.fsm_text.specs.declared.file.Body.{size-Body}
use Rattle.fsm_text.specs.declared.file.Parts.{the_lemmas as the_parts}
use Rattle.fsm_text.specs.declared.file.Branches.{the_lemmas as the_branches}
use Rattle.fsm_text.specs.Written.{StatementTree, BodyTree, PartsTree, BranchesTree, statement_view, body_view, parts_view, branches_view, further, listed}
use Rattle.fsm_io.specs.Elaboration.{condition_of, body_bits, parts_bits, branches_bits, state_number}
use Rattle.fsm_io.specs.Pieces.{frame_view, BodyFits, StatementFits, PartsFit, BranchesFit}
use Rattle.fsm_io.specs.Linked.{statements_before, parts_before, branches_before}
use Rattle.fsm_io.specs.declared.linked.Part.{Part}
use Rattle.fsm_io.specs.declared.linked.Branch.{Branch}
use Rattle.fsm_io.proofs.Linking.{statements-push, parts-push, branches-push, body_before, each_fits}
use Rattle.fsm_io.proofs.bits.Frame.+bits.Goals as goal

pub body-loop-statement-init : goal.body-loop-statement-init
body-loop-statement-init t c =
    let of : Bor Statement → StatementTree = λ s. statement_view s.now in
    let f = c.args.self.now in
    let xs = map of c.in_ok-left.left.items in
    let whole = c.in_ok-left.ensures.whole in
    record {
      smaller = c.in_ok-left.ensures.smaller;
      fits = λ x i. each_fits f xs (subst (λ (b : BodyTree). BodyFits f b) (sym whole) c.requires.fits) x i;
      whole = body_before (frame_view f) xs ∙ ap (body_bits (frame_view f)) whole;
    }

pub body-before-requires : goal.body-before-requires
body-before-requires t c =
    let now : Bor Statement → Statement = λ s. s.now in
    let of : Bor Statement → StatementTree = λ s. statement_view s.now in
    let xs = c.pop.new.self.items in
    let x = c.in-Some.statement in
    let popped : c.loop-statement.left.items ≡ xs ++ x ∷ [] = c.in-Some.ensures.items in
    let inv = c.loop-statement.invariant in
    let small : size-Statement x.now < size-Body c.args.body.now =
    inv.smaller x.now (subst (λ (l : List Statement). In x.now l) (sym (ap (map now) popped ∙ map_push now xs x)) (In-right x.now (map now xs) (x.now ∷ []) here)) in
    let fits : StatementFits c.args.self.now (statement_view x.now) =
    inv.fits (of x) (subst (λ (l : List StatementTree). In (of x) l) (sym (ap (map of) popped ∙ map_push of xs x)) (In-right (of x) (map of xs) (of x ∷ []) here)) in
    (omega (arith, small, c.decreases), (c.requires.frame, fits))

-- the last statement moves to the front of those that are made
pub body-loop-statement-preserved : goal.body-loop-statement-preserved
body-loop-statement-preserved t c =
    let now : Bor Statement → Statement = λ s. s.now in
    let of : Bor Statement → StatementTree = λ s. statement_view s.now in
    let f = frame_view c.args.self.now in
    let xs = c.pop.new.self.items in
    let x = c.in-Some.statement in
    let made = code.body_view c.loop-statement.made in
    let popped : c.loop-statement.left.items ≡ xs ++ x ∷ [] = c.in-Some.ensures.items in
    let inv = c.loop-statement.invariant in
    let trees : map of c.loop-statement.left.items ≡ map of xs ++ of x ∷ [] = ap (map of) popped ∙ map_push of xs x in
    record {
      smaller = λ s i. inv.smaller s (subst (λ (l : List Statement). In s l) (sym (ap (map now) popped ∙ map_push now xs x)) (In-left s (map now xs) (now x ∷ []) i));
      fits = λ s i. inv.fits s (subst (λ (l : List StatementTree). In s l) (sym trees) (In-left s (map of xs) (of x ∷ []) i));
      whole =
          ap (statements_before f (map of xs)) c.in_ok-made.ensures
          ∙ sym (statements-push f (map of xs) (of x) made)
          ∙ ap (λ (l : List StatementTree). statements_before f l made) (sym trees)
          ∙ inv.whole;
    }

-- one branch more is put behind those that are made
pub branches-loop-rest-preserved : goal.branches-loop-rest-preserved
branches-loop-rest-preserved t c =
    let f = frame_view c.args.self.now in
    let names : List NewName = c.in-Listed.names in
    let body = c.deref-in-Listed.result.now in
    let more = c.deref-rest.result.now in
    let last = branches_bits f (branches_view more) in
    let made = code.body_view c.in_ok-body-in-Listed.body in
    let number : NewName → ℕ = λ n. state_number f.states n.text in
    let is : branches_view c.loop-rest.rest.now ≡ listed names (body_view body) (branches_view more) = rw (c.deref-in-Listed.ensures, c.deref-rest.ensures) (ap branches_view c.in-Listed.is) in
    let numbers : c.in_ok-states-in-Listed.states.items ≡ map number names = c.in_ok-states-in-Listed.ensures ∙ ap (map number) c.as_slice.ensures in
    let step : s.listed c.in_ok-states-in-Listed.states.items made last ≡ branches_bits f (branches_view c.loop-rest.rest.now) =
    ap (λ (ks : List ℕ). s.listed ks made last) numbers ∙ ap (λ (b : s.Statements). s.listed (map number names) b last) c.in_ok-body-in-Listed.ensures ∙ ap (branches_bits f) (sym is) in
    record {
      smaller = first_of (search (rules, the_branches), grind (arith, the_branches));
      fits = (subst (λ (b : BranchesTree). BranchesFit c.args.self.now b) is c.loop-rest.invariant.fits).1;
      whole =
          ap (λ (l : List Branch). branches_before l last) c.in_ok-push-in-Listed.ensures.items
          ∙ branches-push c.loop-rest.made.items _ last
          ∙ ap (branches_before c.loop-rest.made.items) step
          ∙ c.loop-rest.invariant.whole;
    }

-- one part more is put behind those that are made
pub parts-loop-rest-preserved : goal.parts-loop-rest-preserved
parts-loop-rest-preserved t c =
    let f = frame_view c.args.self.now in
    let condition = tree c.in-Further.condition in
    let body = c.deref-in-Further.result.now in
    let more = c.deref-rest.result.now in
    let last = parts_bits f (parts_view more) in
    let made = code.body_view c.in_ok-body-in-Further.body in
    let is : parts_view c.loop-rest.rest.now ≡ further c.in-Further.field-0 condition (body_view body) (parts_view more) = rw (c.deref-in-Further.ensures, c.deref-rest.ensures) (ap parts_view c.in-Further.is) in
    let step : _ ≡ parts_bits f (parts_view c.loop-rest.rest.now) =
    ap (λ (e : Expression). s.further e made last) c.in_ok-condition-in-Further.ensures ∙ ap (λ (b : s.Statements). s.further (condition_of f condition) b last) c.in_ok-body-in-Further.ensures ∙ ap (parts_bits f) (sym is) in
    record {
      smaller = first_of (search (rules, the_parts), grind (arith, the_parts));
      fits = (subst (λ (p : PartsTree). PartsFit c.args.self.now p) is c.loop-rest.invariant.fits).1.1;
      whole =
          ap (λ (l : List Part). parts_before l last) c.in_ok-push-in-Further.ensures.items
          ∙ parts-push c.loop-rest.made.items _ last
          ∙ ap (parts_before c.loop-rest.made.items) step
          ∙ c.loop-rest.invariant.whole;
    }
