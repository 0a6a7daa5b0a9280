use Rattle.std.proofs.Common.{◌≡◌, IfSome, IfNone, Option, Some, None, Contains, refl, sym, ◌∙◌}
use Rattle.boom_literal.specs.declared.literal.Literal.{Literal}
use Rattle.boom_muxes.proofs.Same.{looked_up, not_looked_up}
use Rattle.boom_muxes.proofs.rebuild.recall.Goals as goal

pub returns-clause-found : goal.returns-clause-found
returns-clause-found c = by c.copied.result refl
  where
    by : (r : Option Literal) → c.copied.result ≡ r → IfSome r (λ l. Contains c.args.known.now.entries (c.args.at, l))
    by None e = tt
    by (Some v) e = looked_up c.args.known.now.entries c.args.at v (sym c.get.ensures.value ∙ sym c.copied.ensures ∙ e)

pub returns-clause-absent : goal.returns-clause-absent
returns-clause-absent c = by c.copied.result refl
  where
    by : (r : Option Literal) → c.copied.result ≡ r → IfNone r ((l : Literal) → Contains c.args.known.now.entries (c.args.at, l) → ⊥)
    by None e = λ l q. not_looked_up c.args.known.now.entries c.args.at l (sym c.get.ensures.value ∙ sym c.copied.ensures ∙ e) q
    by (Some v) e = tt
