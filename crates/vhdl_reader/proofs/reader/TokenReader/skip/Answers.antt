use Rattle.std.proofs.Common.{◌<◌, length, sym, subst}
use Rattle.std.proofs.lemmas.Option.{IfSome_then}
use Rattle.grammar_theory.specs.Outcome.{At}
use Rattle.vhdl_reader.specs.Front.{Front}
use Rattle.vhdl_reader.proofs.Places.{first_passed, next_standing}
use Rattle.vhdl_reader.proofs.reader.TokenReader.skip.Goals as goal

pub skip_kept-requires : goal.skip_kept-requires
skip_kept-requires c =
    let Some_left : Front → Type 0 = λ f. 0 < length f.here.rest in
    let some : 0 < length c.self.inside.rest.now = subst Some_left (sym c.self.view_is) c.requires in
    let Left : At → Type 0 = λ h. 0 < length h.rest in
    IfSome_then c.self.inside.cursor c.self.invariant.0.live (λ x e. subst Left (sym e) some)

pub invariant_of-self : goal.invariant_of-self
invariant_of-self c =
    let Some_left : Front → Type 0 = λ f. 0 < length f.here.rest in
    let some : 0 < length c.self.inside.rest.now = subst Some_left (sym c.self.view_is) c.requires in
    (next_standing c.self.inside.tokens.now c.self.inside.done.items c.self.inside.rest.now _ c.self.inside.cursor _ some (first_passed c.self.inside.rest.now) c.skip_kept.ensures c.self.invariant.0, c.self.invariant.1)
