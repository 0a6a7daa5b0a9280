use Rattle.std.proofs.Common.{◌≡◌, ◌++◌, ◌∙◌, [], ◌∷◌, length, sym, ap, subst}
use Rattle.grammar_theory.specs.Outcome.{At}
use Rattle.vhdl_reader.specs.Front.{Front}
use Rattle.vhdl_reader.specs.Place.{behind_read, IsAccepted, stands}
use Rattle.vhdl_reader.proofs.Places.{went_on, went_on_accepted, stands_behind, standing}
use Rattle.vhdl_reader.specs.declared.done.Step.{Step}
use Rattle.vhdl_reader.proofs.reader.TokenReader.go_on.Goals as goal

pub invariant_of-self-2 : goal.invariant_of-self-2
invariant_of-self-2 c =
    let Read : Front → Type 0 = λ f. c.args.cursor ≡ behind_read c.args.kind f.room f.here in
    let is : c.args.cursor ≡ behind_read c.args.kind c.self.inside.room (stands c.self.inside.tokens.now c.self.inside.done.items c.self.inside.rest.now) = subst Read (sym c.self.view_is) c.requires.read in
    let s : Step = record { kind = c.args.kind; room = c.self.inside.room; left = length c.self.inside.rest.now } in
    let there = went_on c.self.inside.tokens.now c.self.inside.done.items c.self.inside.rest.now c.args.kind c.self.inside.room c.args.cursor c.self.invariant.0.left is in
    let Accepted : Front → Type 0 = λ f. IsAccepted c.args.kind f.room f.here in
    let all = went_on_accepted c.self.inside.tokens.now c.self.inside.done.items c.self.inside.rest.now c.args.kind c.self.inside.room c.self.invariant.0.left c.self.invariant.0.accepted (subst Accepted (sym c.self.view_is) c.requires.accepted) in
    (rw (c.in_ok-push.ensures.items, c.rest-self-inside.ensures) (standing c.self.inside.tokens.now (c.self.inside.done.items ++ s ∷ []) c.args.cursor all there), c.self.invariant.1)

pub returns-clause-ok : goal.returns-clause-ok
returns-clause-ok c =
    let Read : Front → Type 0 = λ f. c.args.cursor ≡ behind_read c.args.kind f.room f.here in
    let is : c.args.cursor ≡ behind_read c.args.kind c.self.inside.room (stands c.self.inside.tokens.now c.self.inside.done.items c.self.inside.rest.now) = subst Read (sym c.self.view_is) c.requires.read in
    let s : Step = record { kind = c.args.kind; room = c.self.inside.room; left = length c.self.inside.rest.now } in
    let there = went_on c.self.inside.tokens.now c.self.inside.done.items c.self.inside.rest.now c.args.kind c.self.inside.room c.args.cursor c.self.invariant.0.left is in
    let at : stands c.self.inside.tokens.now c.push.new.self.items c.rest-self-inside.result.now ≡ c.args.cursor =
    rw (c.in_ok-push.ensures.items, c.rest-self-inside.ensures) (stands_behind c.self.inside.tokens.now (c.self.inside.done.items ++ s ∷ []) c.args.cursor there) in
    let seen : At → Front = λ h. record { here = h; room = c.self.inside.room; last_line = c.self.inside.last_line; pragmas = c.self.inside.pragmas.now; refused = c.self.inside.refused } in
    let moved : Front → Front = λ f. record f { here = c.args.cursor } in
    ap seen at ∙ ap moved c.self.view_is
